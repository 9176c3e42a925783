-- What an end hears, and to which bearer it leads.
use Rattle.std.proofs.Common.{◌≡◌, ℕ, zero, suc, Bool, true, false, cond, List, [], ◌∷◌, map, Option, Some, None, IsSome, is_some, Ok, Err, inl, inr, refl, sym, ◌∙◌, ap, subst, eq-eqb, arith}
use Rattle.std.specs.Prelude.{find, Contains, ◌||◌, ◌&&◌, ◌==◌}
use Rattle.std.specs.List.{list_any, AllByRecursion}
use Rattle.std.proofs.lemmas.Bool.{or_left, or_right, and_from}
use Rattle.link_base.specs.declared.discard.Discard.{Discard}
use Rattle.link_base.specs.declared.names.Key.{Key}
use Rattle.link_base.specs.declared.names.PortName.{PortName}
use Rattle.link_base.specs.declared.names.PortName.TheVariants.{Direct, Pc5, Uu}
use Rattle.link_base.specs.declared.names.Remote.{Remote}
use Rattle.link_base.specs.declared.names.Side.{Side}
use Rattle.link_base.specs.declared.names.Way.{Way}
use Rattle.link_base.specs.declared.names.Way.TheVariants.{Ul, Dl}
use Rattle.link_base.specs.declared.rlc_words.Tag.{Tag}
use Rattle.srap_header.specs.declared.pdu.SrapFault.{SrapFault}
use Rattle.srap_header.specs.Srap.{Srap, IsSrap, IsSrapFault}
use Rattle.bearer_map.specs.declared.ids.Attachment.{Attachment}
use Rattle.bearer_map.specs.declared.routes.RouteFault.{RouteFault}
use Rattle.bearer_map.specs.declared.rows.MapRow.{MapRow}
use Rattle.bearer_map.specs.Contents.{Contents}
use Rattle.bearer_map.specs.Routes.{key_in}
use Rattle.rlc_model.specs.declared.hop.Pdu.{Pdu}
use Rattle.rlc_model.specs.declared.hop.HopHeard.{HopHeard}
use Rattle.rlc_model.specs.declared.hop.HopHeard.TheVariants.{Amd, Status, BadAmd, BadStatus}
use Rattle.rlc_model.specs.declared.receiver.Heard.TheVariants as heard
use Rattle.rlc_model.specs.declared.transmitter.StatusHeard.{StatusHeard}
use Rattle.rlc_model.specs.declared.transmitter.StatusHeard.TheVariants as told
use Rattle.node_model.specs.declared.answers.NodeHeard.{NodeHeard}
use Rattle.node_model.specs.declared.answers.NodeHeard.TheVariants.{Hop, Discard as Discarded}
use Rattle.node_model.specs.Names.{NodeName, AtRemote, AtGnb, is_key, is_port, is_remote}
use Rattle.node_model.specs.State.{PortSide, Node, Incoming, side_at}
use Rattle.node_model.specs.Ends.{HearsPdcp, confirm_count, confirm_tags}
use Rattle.node_model.specs.Ends.HearsPdcp.{data_pdu, report, neither}
use Rattle.node_model.specs.Hearing.{HearsPdu, HearsUnless, Follows, hear_refusal}
use Rattle.node_model.specs.Routing.{ToPdcp, Leads, srap_discard, route_discard}
use Rattle.node_model.specs.Feeding.{in_key, out_key}
use Rattle.node_model.proofs.Names.{port_refl, remote_refl}
use Rattle.node_ports.specs.Calls.{HearsPort}
use Rattle.node_bearers.specs.Calls.{confirm_each}
use Rattle.node_end.specs.Feeding.{KeepsKeys}
use Rattle.node_end.specs.Hearing.{acked_tags, StopsFollowing, StopsHearing}
use Rattle.node_end.specs.Hearing.StopsHearing.{between}
use Rattle.node_end.specs.Node.{side_of, with_ends}
use Rattle.node_end.specs.Ports.{HasPort, IsReceived, is_among, is_over, maps_to, side_name}
use Rattle.node_end.specs.Routing.{IsChannel, RoutesHere}
use Rattle.node_end.proofs.Names.{in_keys_kept, out_keys_kept}
use Rattle.node_end.proofs.Fed.{its_name}

-- what the ends of bearers hear, the node hears that has them
module _ (n : Node) where
  pub lifts_hearing : (old : Node) (key : Key) (pdu : List ℕ) (answer : NodeHeard) (new : Node) → HearsPdcp old key pdu answer new → HearsPdcp (with_ends n old) key pdu answer (with_ends n new)
  lifts_hearing old key pdu answer new (data_pdu sn sdu is h) =
      data_pdu sn sdu is (record { heard = h.heard; receiver = h.receiver; hears = h.hears; says = h.says; is = ap (with_ends n) h.is })
  lifts_hearing old key pdu answer new (report fmc map is (inl taken)) = report fmc map is (inl (taken.0, taken.1, ap (with_ends n) taken.2))
  lifts_hearing old key pdu answer new (report fmc map is (inr beyond)) = report fmc map is (inr (beyond.0, beyond.1, ap (with_ends n) beyond.2))
  lifts_hearing old key pdu answer new (neither fault is says same) = neither fault is says (ap (with_ends n) same)

  lifts_count : (old : Node) (key : Key) (count : Option ℕ) → with_ends n (confirm_count old key count) ≡ confirm_count (with_ends n old) key count
  lifts_count old key None = refl
  lifts_count old key (Some count) = refl

  pub lifts_confirming : (old : Node) (tags : List Tag) → with_ends n (confirm_each old tags) ≡ confirm_each (with_ends n old) tags
  lifts_confirming old [] = refl
  lifts_confirming old (tag ∷ tags) = lifts_confirming (confirm_count old tag.key tag.count) tags ∙ ap (λ (m : Node). confirm_each m tags) (lifts_count old tag.key tag.count)

-- the keys stay
pub hears_keeps : (old : Node) (key : Key) (pdu : List ℕ) (answer : NodeHeard) (new : Node) → HearsPdcp old key pdu answer new → KeepsKeys old new
hears_keeps old key pdu answer new (data_pdu sn sdu is h) = record {
  name = ap (λ (m : Node). m.name) h.is;
  attached = ap (λ (m : Node). m.attached) h.is;
  sent = ap (λ (m : Node). map out_key m.outgoing) h.is;
  received = ap (λ (m : Node). map in_key m.incoming) h.is ∙ in_keys_kept old _;
}
hears_keeps old key pdu answer new (report fmc bits is (inl taken)) = record {
  name = ap (λ (m : Node). m.name) taken.2;
  attached = ap (λ (m : Node). m.attached) taken.2;
  sent = ap (λ (m : Node). map out_key m.outgoing) taken.2 ∙ out_keys_kept old _;
  received = ap (λ (m : Node). map in_key m.incoming) taken.2;
}
hears_keeps old key pdu answer new (report fmc bits is (inr beyond)) = record {
  name = ap (λ (m : Node). m.name) beyond.2;
  attached = ap (λ (m : Node). m.attached) beyond.2;
  sent = ap (λ (m : Node). map out_key m.outgoing) beyond.2;
  received = ap (λ (m : Node). map in_key m.incoming) beyond.2;
}
hears_keeps old key pdu answer new (neither fault is says same) = record {
  name = ap (λ (m : Node). m.name) same;
  attached = ap (λ (m : Node). m.attached) same;
  sent = ap (λ (m : Node). map out_key m.outgoing) same;
  received = ap (λ (m : Node). map in_key m.incoming) same;
}

count_keeps : (old : Node) (key : Key) (count : Option ℕ) → KeepsKeys old (confirm_count old key count)
count_keeps old key None = record { name = refl; attached = refl; sent = refl; received = refl }
count_keeps old key (Some count) = record { name = refl; attached = refl; sent = out_keys_kept old _; received = refl }

confirming_keeps : (old : Node) (tags : List Tag) → KeepsKeys old (confirm_each old tags)
confirming_keeps old [] = record { name = refl; attached = refl; sent = refl; received = refl }
confirming_keeps old (tag ∷ tags) =
    let first = count_keeps old tag.key tag.count in
    let rest = confirming_keeps (confirm_count old tag.key tag.count) tags in
    record { name = rest.name ∙ first.name; attached = rest.attached ∙ first.attached; sent = rest.sent ∙ first.sent; received = rest.received ∙ first.received }

-- what RLC confirms on a port is confirmed for PDCP where it is a direct one, and else nothing is
pub confirms_by : (n : Node) (port : PortName) (tags : List Tag) (P : Node → Type 0) → P n → P (confirm_each n tags) → P (confirm_tags n port tags)
confirms_by n (Direct remote drb) tags P same confirmed = confirmed
confirms_by n (Pc5 remote chan) tags P same confirmed = same
confirms_by n (Uu chan) tags P same confirmed = same

pub tags_keep : (n : Node) (port : PortName) (tags : List Tag) → KeepsKeys n (confirm_tags n port tags)
tags_keep n port tags = confirms_by n port tags (KeepsKeys n) (record { name = refl; attached = refl; sent = refl; received = refl }) (confirming_keeps n tags)

ports_each : (n : Node) (tags : List Tag) → (confirm_each n tags).ports ≡ n.ports
ports_each n [] = refl
ports_each n (tag ∷ tags) = ports_each (confirm_count n tag.key tag.count) tags ∙ by tag.count
  where
    by : (count : Option ℕ) → (confirm_count n tag.key count).ports ≡ n.ports
    by None = refl
    by (Some count) = refl

pub tags_ports : (n : Node) (port : PortName) (tags : List Tag) → (confirm_tags n port tags).ports ≡ n.ports
tags_ports n port tags = confirms_by n port tags (λ m. m.ports ≡ n.ports) refl (ports_each n tags)

pub hears_ports : (old : Node) (key : Key) (pdu : List ℕ) (answer : NodeHeard) (new : Node) → HearsPdcp old key pdu answer new → new.ports ≡ old.ports
hears_ports old key pdu answer new (data_pdu sn sdu is h) = ap (λ (m : Node). m.ports) h.is
hears_ports old key pdu answer new (report fmc bits is (inl taken)) = ap (λ (m : Node). m.ports) taken.2
hears_ports old key pdu answer new (report fmc bits is (inr beyond)) = ap (λ (m : Node). m.ports) beyond.2
hears_ports old key pdu answer new (neither fault is says same) = ap (λ (m : Node). m.ports) same

-- a key that is one of those received has its receiving end
any_if : (b : Bool) (x : Incoming) (rest : Bool) (found : Option Incoming) → (rest ≡ true → is_some found ≡ true) → (b || rest) ≡ true → is_some (cond b (Some x) found) ≡ true
any_if true x rest found later any = refl
any_if false x rest found later any = later any

any_found : (key : Key) (ins : List Incoming) → is_among (map in_key ins) key ≡ true → is_some (find (λ i. is_key key i.key) ins) ≡ true
any_found key [] any = absurd cc
any_found key (i ∷ ins) any = any_if (is_key key i.key) i (list_any (λ k. is_key key k) (map in_key ins)) (find (λ j. is_key key j.key) ins) (any_found key ins) any

pub is_received : (key : Key) (ins : List Incoming) → is_among (map in_key ins) key ≡ true → IsSome (find (λ i. is_key key i.key) ins)
is_received key ins its = any_found key ins its

-- what each of a list has, one of them has
each_has : {T : Type 0} (P : T → Type 0) (xs : List T) (x : T) → AllByRecursion P xs → Contains xs x → P x
each_has P [] x all (k, lt, is) = absurd (omega (arith, lt))
each_has P (y ∷ ys) x all (zero, lt, is) = subst P is all.0
each_has P (y ∷ ys) x all (suc k, lt, is) = each_has P ys x all.1 (k, omega (arith, lt), is)

any_has : {T : Type 0} (test : T → Bool) (xs : List T) (x : T) → Contains xs x → test x ≡ true → list_any test xs ≡ true
any_has test [] x (k, lt, is) passes = absurd (omega (arith, lt))
any_has test (y ∷ ys) x (zero, lt, is) passes = or_left (test y) (list_any test ys) (ap test is ∙ passes)
any_has test (y ∷ ys) x (suc k, lt, is) passes = or_right (test y) (list_any test ys) (any_has test ys x (k, omega (arith, lt), is) passes)

-- a row's bearer goes over the row's channels
over_pc5 : (t : Contents) (way : Way) (row : MapRow) → Contains t.maps row → is_over t (Pc5 row.remote row.pc5) (key_in way row) ≡ true
over_pc5 t way row among = any_has (maps_to (Pc5 row.remote row.pc5) (key_in way row)) t.maps row among
    (and_from (is_remote row.remote row.remote && (row.drb.0 == row.drb.0)) _ (and_from (is_remote row.remote row.remote) (row.drb.0 == row.drb.0) (remote_refl row.remote) (eq-eqb row.drb.0 row.drb.0 refl))
    (or_left (is_port (Pc5 row.remote row.pc5) (Pc5 row.remote row.pc5)) (is_port (Pc5 row.remote row.pc5) (Uu row.uu)) (port_refl (Pc5 row.remote row.pc5))))

over_uu : (t : Contents) (way : Way) (row : MapRow) → Contains t.maps row → is_over t (Uu row.uu) (key_in way row) ≡ true
over_uu t way row among =
    any_has (maps_to (Uu row.uu) (key_in way row)) t.maps row among
    (and_from (is_remote row.remote row.remote && (row.drb.0 == row.drb.0)) _ (and_from (is_remote row.remote row.remote) (row.drb.0 == row.drb.0) (remote_refl row.remote) (eq-eqb row.drb.0 row.drb.0 refl))
    (or_right (is_port (Uu row.uu) (Pc5 row.remote row.pc5)) (is_port (Uu row.uu) (Uu row.uu)) (port_refl (Uu row.uu))))

-- what a header leads to at an end is received there, and goes over the port over which it came
pub record IsHere (t : Contents) (keys : List Key) (port : PortName) (key : Key) : Type 0 where
  pub received : is_among keys key ≡ true
  pub over : is_over t port key ≡ true

module _ (t : Contents) (name : NodeName) (attached : List Attachment) (keys : List Key) (rows : AllByRecursion (IsReceived name keys) t.maps) where
  pub here : (port : PortName) → HasPort name attached keys true port → (ue bearer : ℕ) (key : Key) → RoutesHere t.maps attached port ue bearer (Ok key) → IsHere t keys port key
  here (Direct remote drb) its ue bearer key routes = absurd routes
  here (Pc5 remote chan) its ue bearer key (own, is, (same, row, of_bearer, over, its_key)) =
      let row_here : row.remote ≡ remote → is_among keys (key_in Dl row) ≡ true = each_has (IsReceived (AtRemote remote) keys) t.maps row (subst (λ (x : NodeName). AllByRecursion (IsReceived x keys) t.maps) its.0 rows) of_bearer.among in
      record {
        received = subst (λ (k : Key). is_among keys k ≡ true) (sym its_key) (row_here of_bearer.of_remote);
        over =
            subst (λ (k : Key). is_over t (Pc5 remote chan) k ≡ true) (sym its_key)
            (subst (λ (p : PortName). is_over t p (key_in Dl row) ≡ true) (ap (λ (r : Remote). Pc5 r row.pc5) of_bearer.of_remote ∙ ap (Pc5 remote) over) (over_pc5 t Dl row of_bearer.among));
      }
  here (Uu chan) its ue bearer key (remote, attached_, row, of_bearer, over, its_key) =
      let row_here : is_among keys (key_in Ul row) ≡ true = each_has (IsReceived AtGnb keys) t.maps row (subst (λ (x : NodeName). AllByRecursion (IsReceived x keys) t.maps) its rows) of_bearer.among in
      record {
        received = subst (λ (k : Key). is_among keys k ≡ true) (sym its_key) row_here;
        over =
            subst (λ (k : Key). is_over t (Uu chan) k ≡ true) (sym its_key)
            (subst (λ (p : PortName). is_over t p (key_in Ul row) ≡ true) (ap Uu over) (over_uu t Ul row of_bearer.among));
      }

-- where an SDU leads by its header
module _ (t : Contents) (n : Node) (keys : List Key) where
  pub leads_ok : (port : PortName) → HasPort n.name n.attached keys true port → (sdu : List ℕ) (v : Srap) (key : Key) → IsSrap v sdu → RoutesHere t.maps n.attached port v.ue v.bearer (Ok key)
      → Leads t n (side_of n.name) port sdu (Ok (ToPdcp key v.body))
  leads_ok (Direct remote drb) its sdu v key is routes = absurd routes
  leads_ok (Pc5 remote chan) its sdu v key is (own, own_is, routes) = subst (λ (x : NodeName). Leads t n (side_of x) (Pc5 remote chan) sdu (Ok (ToPdcp key v.body))) (sym its.0) (inl (v, is, (own, own_is, (routes, refl))))
  leads_ok (Uu chan) its sdu v key is routes = subst (λ (x : NodeName). Leads t n (side_of x) (Uu chan) sdu (Ok (ToPdcp key v.body))) (sym its) (inl (v, is, (routes, refl)))

  pub leads_err : (port : PortName) → HasPort n.name n.attached keys true port → (sdu : List ℕ) (v : Srap) (fault : RouteFault) → IsSrap v sdu → RoutesHere t.maps n.attached port v.ue v.bearer (Err fault)
      → Leads t n (side_of n.name) port sdu (Err (route_discard fault))
  leads_err (Direct remote drb) its sdu v fault is routes = absurd routes
  leads_err (Pc5 remote chan) its sdu v fault is (own, own_is, routes) = subst (λ (x : NodeName). Leads t n (side_of x) (Pc5 remote chan) sdu (Err (route_discard fault))) (sym its.0) (inl (v, is, (own, own_is, (fault, routes, refl))))
  leads_err (Uu chan) its sdu v fault is routes = subst (λ (x : NodeName). Leads t n (side_of x) (Uu chan) sdu (Err (route_discard fault))) (sym its) (inl (v, is, (fault, routes, refl)))

-- octets that are no SRAP PDU lead nowhere
pub leads_nowhere : (t : Contents) (n : Node) (at : Side) (port : PortName) (sdu : List ℕ) (fault : SrapFault) → IsChannel port → IsSrapFault sdu fault → Leads t n at port sdu (Err (srap_discard fault))
leads_nowhere t n at (Direct remote drb) sdu fault its is = absurd its
leads_nowhere t n at (Pc5 remote chan) sdu fault its is = inr (fault, is, refl)
leads_nowhere t n at (Uu chan) sdu fault its is = inr (fault, is, refl)

-- what an end does with an SDU that leads to a bearer, or nowhere
pub passes : (t : Contents) (n : Node) (at : Side) (port : PortName) (side : PortSide) (key : Key) (pdu : List ℕ) (number : ℕ) (sdu : List ℕ) (answer : NodeHeard) (new : Node) → side_name side ≡ port
    → Leads t n at port sdu (Ok (ToPdcp key pdu)) → HearsPdcp n key pdu answer new → Follows t n at side (Amd (heard.Complete number sdu)) answer new
passes t n at port side key pdu number sdu answer new name leads hears = (Ok (ToPdcp key pdu), subst (λ (p : PortName). Leads t n at p sdu (Ok (ToPdcp key pdu))) (sym name) leads, hears)

pub drops : (t : Contents) (n : Node) (at : Side) (port : PortName) (side : PortSide) (discard : Discard) (number : ℕ) (sdu : List ℕ) → side_name side ≡ port
    → Leads t n at port sdu (Err discard) → Follows t n at side (Amd (heard.Complete number sdu)) (Discarded discard) n
drops t n at port side discard number sdu name leads = (Err discard, subst (λ (p : PortName). Leads t n at p sdu (Err discard)) (sym name) leads, (refl, refl))

pub follows_status : (t : Contents) (n : Node) (at : Side) (port : PortName) (side : PortSide) (status : StatusHeard) (new : Node) → side_name side ≡ port → new ≡ confirm_tags n port (acked_tags status)
    → Follows t n at side (Status status) (Hop (Status status)) new
follows_status t n at port side (told.Acked tags marks) new name same = (refl, subst (λ (p : PortName). new ≡ confirm_tags n p tags) (sym name) same)
follows_status t n at port side (told.Old ack next) new name same = (refl, same ∙ confirms_by n port [] (λ m. m ≡ n) refl refl)
follows_status t n at port side (told.Beyond ack sent) new name same = (refl, same ∙ confirms_by n port [] (λ m. m ≡ n) refl refl)

-- a PDU that isn't refused is heard
pub hears_pdu : (t : Contents) (n : Node) (at : Side) (pdu : Pdu) (hop : HopHeard) (mid : Node) (answer : NodeHeard) (new : Node) → hear_refusal pdu (side_at n pdu.port) ≡ None → HearsPort n pdu.port pdu.bytes hop mid
    → ((side : PortSide) → side_name side ≡ pdu.port → Follows t mid at side hop answer new) → HearsPdu t n at pdu answer new
hears_pdu t n at pdu hop mid answer new none h follows =
    let behind = record h.entity { tx = h.tx; rx = h.rx } in
    let side = record h.side { entity = Some behind } in
    let name : side_name side ≡ pdu.port = sym (its_name n pdu.port h.side h.its.here) in
    subst (λ (r : Option NodeHeard). HearsUnless r t n at pdu answer new) (sym none) (record {
      side = h.side;
      entity = h.entity;
      its = h.its;
      hop = hop;
      tx = h.tx;
      rx = h.rx;
      hears = h.hears;
      behind = behind;
      its_entity = refl;
      follows = subst (λ (m : Node). Follows t m at side hop answer new) h.is (follows side name);
    })

pub stops_between : (t : Contents) (n : Node) (at : Side) (pdu : Pdu) (hop : HopHeard) (new : Node) → HearsPort n pdu.port pdu.bytes hop new → StopsFollowing t new at pdu.port hop → StopsHearing t n at pdu new
stops_between t n at pdu (Amd (heard.Complete number sdu)) new h stops = between number sdu h stops
stops_between t n at pdu (Amd answer) new h stops = absurd stops
stops_between t n at pdu (Status answer) new h stops = absurd stops
stops_between t n at pdu (BadAmd fault) new h stops = absurd stops
stops_between t n at pdu (BadStatus fault) new h stops = absurd stops
