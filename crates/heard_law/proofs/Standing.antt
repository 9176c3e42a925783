-- What a history tells of a node: what it attaches, and in which epoch a side of a port is open. Whatever a node does but apply a plan leaves it.
use Rattle.std.proofs.Common.{◌≡◌, ◌⊎◌, inl, inr, ℕ, List, [], ◌∷◌, map, fold, find, Option, Some, None, option_map, option_and_then, Result, Ok, Err, refl, sym, ◌∙◌, ap, subst}
use Rattle.std.specs.List.{AllZip}
use Rattle.std.proofs.lemmas.Bool.{cases_Bool, cond-true, cond-false}
use Rattle.link_base.specs.declared.names.Key.{Key}
use Rattle.link_base.specs.declared.names.PortName.{PortName}
use Rattle.link_base.specs.declared.names.PortName.TheVariants.{Direct, Pc5, Uu}
use Rattle.link_base.specs.declared.names.Side.{Side}
use Rattle.link_base.specs.declared.rlc_words.Tag.{Tag}
use Rattle.link_base.specs.declared.discard.Discard.{Discard}
use Rattle.bearer_map.specs.declared.ids.Attachment.{Attachment}
use Rattle.bearer_map.specs.Contents.{Contents}
use Rattle.rlc_model.specs.declared.hop.Pdu.{Pdu}
use Rattle.rlc_model.specs.declared.hop.HopHeard.{HopHeard}
use Rattle.rlc_model.specs.declared.hop.HopHeard.TheVariants.{Amd, Status}
use Rattle.rlc_model.specs.declared.receiver.Heard.TheVariants.{Complete}
use Rattle.rlc_model.specs.declared.transmitter.StatusHeard.TheVariants.{Acked}
use Rattle.rlc_model.specs.Rx.{Rx}
use Rattle.rlc_model.specs.Tx.{Tx}
use Rattle.rlc_model.specs.Sides.{Entity}
use Rattle.node_model.specs.declared.answers.NodeHeard.{NodeHeard}
use Rattle.node_model.specs.declared.answers.PushReply.{PushReply}
use Rattle.node_model.specs.declared.answers.PushReply.TheVariants as pushed
use Rattle.node_model.specs.declared.answers.PullReply.{PullReply}
use Rattle.node_model.specs.declared.answers.PullReply.TheVariants as pulled
use Rattle.node_model.specs.Ends.{HearsPdcp, data_pdu, report, neither, confirm_count, confirm_tags}
use Rattle.node_model.specs.Feeding.{in_key, out_key, GivesPdu, FeedsReport, unwanted, dropped, no_room, gives as gives_report, FeedsReports, GivesData, FeedsData, rests, gives as gives_data, FeedsEach, Feeds}
use Rattle.node_model.specs.Hearing.{hear_refusal, Passes, Follows, HearsUnless, HearsPdu}
use Rattle.node_model.specs.Names.{is_port}
use Rattle.node_model.specs.Relaying.{Pushes, PushesPort, Pulls, PullsPort}
use Rattle.node_model.specs.Routing.{Target, ToPdcp, Onward}
use Rattle.node_model.specs.Sides.{IsOpen, GrantsSide, ExpiresSide}
use Rattle.node_model.specs.State.{PortSide, Node, side_at, entity_of, entity_at, set_side, set_entity, outgoing, incoming}
use Rattle.node_model.proofs.ByName.{sides_set}
use Rattle.node_model.proofs.Names.{cases_port}

-- the epoch of an entity
abbrev pub epoch_of : Entity → ℕ
epoch_of e = e.epoch

-- what a node attaches, and the epoch in which its side of a port is open
pub record Standing : Type 0 where
  pub attached : List Attachment
  pub epoch : Option ℕ

-- the epoch in which a node's side of a port is open
abbrev pub epoch_in : Node → PortName → Option ℕ
epoch_in n q = option_map epoch_of (entity_at n q)

abbrev pub standing : PortName → Node → Standing
standing q n = record { attached = n.attached; epoch = epoch_in n q }

-- a node of this name stands as before
pub record Stays (n m : Node) : Type 0 where
  pub name : m.name ≡ n.name
  pub stands : (q : PortName) → standing q m ≡ standing q n

pub stays_same : (n m : Node) → m ≡ n → Stays n m
stays_same n m is = record { name = ap (λ (x : Node). x.name) is; stands = λ q. ap (standing q) is }

pub stays_on : {a b c : Node} → Stays a b → Stays b c → Stays a c
stays_on first second = record { name = second.name ∙ first.name; stands = λ q. second.stands q ∙ first.stands q }

-- a side is set that is open in the same epoch
module _ (n : Node) (port : PortName) (was now : PortSide) (here : side_at n port ≡ Some was) (name : now.name ≡ was.name) where
  its : now.name ≡ port
  its = name ∙ sides_set.named n.ports port was here

  pub side_found : side_at (set_side n now) port ≡ Some now
  side_found = subst (λ p. side_at (set_side n now) p ≡ Some now) its (sides_set.own n.ports now was (subst (λ p. side_at n p ≡ Some was) (sym its) here))

  pub side_stays : option_map epoch_of now.entity ≡ option_map epoch_of was.entity → Stays n (set_side n now)
  side_stays same = record {
    name = refl;
    stands = λ q. ap (λ (e : Option ℕ). record { attached = n.attached; epoch = e }) (by q (cases_port q port));
  }
    where
      by : (q : PortName) → (q ≡ port) ⊎ (q ≡ port → ⊥) → epoch_in (set_side n now) q ≡ epoch_in n q
      by q (inl is) =
          let at : epoch_in (set_side n now) port ≡ epoch_in n port = ap (λ (o : Option PortSide). option_map epoch_of (option_and_then entity_of o)) side_found ∙ same ∙ sym (ap (λ (o : Option PortSide). option_map epoch_of (option_and_then entity_of o)) here) in
          subst (λ p. epoch_in (set_side n now) p ≡ epoch_in n p) (sym is) at
      by q (inr ne) = ap (λ (o : Option PortSide). option_map epoch_of (option_and_then entity_of o)) (sides_set.others n.ports now q (λ e. ne (sym e ∙ its)))

-- the entity of an open side is called
pub called_stays : (n : Node) (port : PortName) (side : PortSide) (entity : Entity) (tx : Tx) (rx : Rx) → IsOpen n port side entity
    → Stays n (set_entity n side (record entity { tx = tx; rx = rx }))
called_stays n port side entity tx rx its = side_stays n port side (record side { entity = Some (record entity { tx = tx; rx = rx }) }) its.here refl (sym (ap (option_map epoch_of) its.is_open))

-- what a change of a receiving or a sending end leaves
pub ends_stay : (n m : Node) → m.name ≡ n.name → m.ports ≡ n.ports → m.attached ≡ n.attached → Stays n m
ends_stay n m name ports attached = record {
  name = name;
  stands = λ q. ap (λ (a : List Attachment). record { attached = a; epoch = epoch_in m q }) attached
      ∙ ap (λ (ps : List PortSide). record { attached = n.attached; epoch = option_map epoch_of (option_and_then entity_of (find (λ (s : PortSide). is_port q s.name) ps)) }) ports;
}

-- PDCP hears a PDU
pdcp_stays : (old : Node) (key : Key) (pdu : List ℕ) (answer : NodeHeard) (new : Node) → HearsPdcp old key pdu answer new → Stays old new
pdcp_stays old key pdu answer new (data_pdu sn sdu is h) = subst (Stays old) (sym h.is) (ends_stay old _ refl refl refl)
pdcp_stays old key pdu answer new (report fmc map is (inl taken)) = subst (Stays old) (sym taken.2) (ends_stay old _ refl refl refl)
pdcp_stays old key pdu answer new (report fmc map is (inr beyond)) = stays_same old new beyond.2
pdcp_stays old key pdu answer new (neither fault is says same) = stays_same old new same

-- what is confirmed is confirmed for PDCP
count_stays : (n : Node) (key : Key) (count : Option ℕ) → Stays n (confirm_count n key count)
count_stays n key None = stays_same n n refl
count_stays n key (Some count) = ends_stay n _ refl refl refl

tags_stay : (n : Node) (tags : List Tag) → Stays n (fold (λ node (tag : Tag). confirm_count node tag.key tag.count) n tags)
tags_stay n [] = stays_same n n refl
tags_stay n (tag ∷ tags) = stays_on (count_stays n tag.key tag.count) (tags_stay (confirm_count n tag.key tag.count) tags)

confirm_stays : (n : Node) (port : PortName) (tags : List Tag) → Stays n (confirm_tags n port tags)
confirm_stays n (Direct remote drb) tags = tags_stay n tags
confirm_stays n (Pc5 remote chan) tags = stays_same n n refl
confirm_stays n (Uu chan) tags = stays_same n n refl

-- what follows the answer of the entity
module _ (t : Contents) (old : Node) (at : Side) (side : PortSide) (port : PortName) (here : side_at old port ≡ Some side) where
  passes_stay : (sdu : List ℕ) (target : Result Target Discard) (answer : NodeHeard) (new : Node) → Passes old side sdu target answer new → Stays old new
  passes_stay sdu (Ok (ToPdcp key pdu)) answer new p = pdcp_stays old key pdu answer new p
  passes_stay sdu (Ok (Onward route)) answer new p = subst (Stays old) (sym p.1) (side_stays old port side _ here refl refl)
  passes_stay sdu (Err discard) answer new p = stays_same old new p.1

  follows_stay : (hop : HopHeard) (answer : NodeHeard) (new : Node) → Follows t old at side hop answer new → Stays old new
  follows_stay (Amd (Complete own sdu)) answer new f = passes_stay sdu f.0 answer new f.2
  follows_stay (Status (Acked tags marks)) answer new f = subst (Stays old) (sym f.1) (confirm_stays old side.name tags)
  follows_stay hop answer new f = stays_same old new f.1

-- a node hears a PDU
pub hears_stays : (t : Contents) (old : Node) (at : Side) (pdu : Pdu) (answer : NodeHeard) (new : Node) → HearsPdu t old at pdu answer new → Stays old new
hears_stays t old at pdu answer new = by (hear_refusal pdu (side_at old pdu.port))
  where
    by : (refusal : Option NodeHeard) → HearsUnless refusal t old at pdu answer new → Stays old new
    by (Some refusal) x = stays_same old new x.1
    by None h =
        let now : PortSide = record h.side { entity = Some h.behind } in
        let same : option_map epoch_of now.entity ≡ option_map epoch_of h.side.entity = ap (λ (e : Entity). Some e.epoch) h.its_entity ∙ sym (ap (option_map epoch_of) h.its.is_open) in
        stays_on (side_stays old pdu.port h.side now h.its.here refl same)
        (follows_stay t (set_entity old h.side h.behind) at now pdu.port (side_found old pdu.port h.side now h.its.here refl) h.hop answer new h.follows)

-- a side is granted a PDU, or a timer of it runs out
pub grants_stays : (old : Node) (port : PortName) (octets epoch : ℕ) (answer : _) (new : Node) → GrantsSide old port octets epoch answer new → Stays old new
grants_stays old port octets epoch answer new g = subst (Stays old) (sym g.is) (called_stays old port g.side g.entity g.tx g.rx g.its)

pub expires_stays : (old : Node) (port : PortName) (timer : _) (expired : _) (new : Node) → ExpiresSide old port timer expired new → Stays old new
expires_stays old port timer expired new x = subst (Stays old) (sym x.is) (called_stays old port x.side x.entity x.tx x.rx x.its)

-- the relay pushes and pulls
pushes_stay : (old : Node) (port egress : PortName) (new : Node) → Pushes old port egress new → Stays old new
pushes_stay old port egress new p = stays_on (subst (Stays old) (sym p.empties) (side_stays old port p.from _ p.here refl refl))
    (subst (Stays p.mid) (sym p.is) (side_stays p.mid egress p.to _ p.there refl refl))

pub push_stays : (capacity : ℕ) (old : Node) (port : PortName) (answer : PushReply) (new : Node) → PushesPort capacity old port answer new → Stays old new
push_stays capacity old port (pushed.Done egress) new p = pushes_stay old port egress new p.1
push_stays capacity old port pushed.NoPort new p = stays_same old new p.1
push_stays capacity old port pushed.Nothing new p = stays_same old new p.1
push_stays capacity old port pushed.QueueFull new p = stays_same old new p.1

pulls_stay : (old : Node) (port : PortName) (number : ℕ) (new : Node) → Pulls old port number new → Stays old new
pulls_stay old port number new p = subst (Stays old) (sym p.is) (side_stays old port p.side _ p.its.here refl (sym (ap (option_map epoch_of) p.its.is_open)))

pub pull_stays : (old : Node) (port : PortName) (answer : PullReply) (new : Node) → PullsPort old port answer new → Stays old new
pull_stays old port (pulled.Done number) new p = pulls_stay old port number new p.1
pull_stays old port pulled.NoPort new p = stays_same old new p.1
pull_stays old port pulled.Empty new p = stays_same old new p.1
pull_stays old port pulled.Stalled new p = stays_same old new p.1

-- a node feeds
module _ (t : Contents) where
  gives_stays : (old : Node) (key : Key) (tag : Tag) (pdu : List ℕ) (new : Node) → GivesPdu t old key tag pdu new → Stays old new
  gives_stays old key tag pdu new g = subst (Stays old) (sym g.is) (called_stays old g.port g.side g.entity g.tx g.entity.rx g.its)

  report_stays : (old : Node) (key : Key) (given : List Key) (new : Node) → FeedsReport t old (incoming old key) given new → Stays old new
  report_stays old key given new (unwanted not_wanted none same) = stays_same old new same
  report_stays old key given new (dropped wanted can none is) = subst (Stays old) (sym is) (ends_stay old _ refl refl refl)
  report_stays old key given new (no_room wanted can room none same) = stays_same old new same
  report_stays old key given new (gives_report wanted can room g one) = stays_on (gives_stays old _ _ _ g.mid g.gives) (subst (Stays g.mid) (sym g.is) (ends_stay g.mid _ refl refl refl))

  reports_stay : (keys : List Key) (old : Node) (given : List Key) (new : Node) → FeedsReports t old keys given new → Stays old new
  reports_stay [] old given new f = stays_same old new f.1
  reports_stay (key ∷ keys) old given new f = stays_on (report_stays old key f.0 f.2 f.3) (reports_stay keys f.2 f.1 new f.4)

  data_stays : (old : Node) (key : Key) (new : Node) → GivesData t old (outgoing old key) new → Stays old new
  data_stays old key new g = stays_on (gives_stays old _ _ _ g.mid g.gives) (subst (Stays g.mid) (sym g.is) (ends_stay g.mid _ refl refl refl))

  datas_stay : (key : Key) {old new : Node} → FeedsData t key old new → Stays old new
  datas_stay key {old} (rests none) = stays_same old old refl
  datas_stay key {old} (gives_data {mid = mid} some g more) = stays_on (data_stays old key mid g) (datas_stay key more)

  each_stays : (keys : List Key) (old new : Node) → FeedsEach t old keys new → Stays old new
  each_stays [] old new f = stays_same old new f
  each_stays (key ∷ keys) old new f = stays_on (datas_stay key f.1) (each_stays keys f.0 new f.2)

  pub feeds_stays : (old : Node) (given : List Key) (new : Node) → Feeds t old given new → Stays old new
  feeds_stays old given new f = stays_on (reports_stay (map in_key old.incoming) old given f.mid f.reports) (each_stays (map out_key f.mid.outgoing) f.mid new f.data_pdus)

-- two sides of one name that are open in one epoch
pub record SameSide (was now : PortSide) : Type 0 where
  pub name : now.name ≡ was.name
  pub epoch : option_map epoch_of now.entity ≡ option_map epoch_of was.entity

-- a node whose sides are such
pub sides_stay : (n : Node) (ports : List PortSide) → AllZip SameSide n.ports ports → Stays n (record n { ports = ports })
sides_stay n ports all = record { name = refl; stands = λ q. ap (λ (e : Option ℕ). record { attached = n.attached; epoch = e }) (found q n.ports ports all) }
  where
    found : (q : PortName) (was now : List PortSide) → AllZip SameSide was now
        → option_map epoch_of (option_and_then entity_of (find (λ (s : PortSide). is_port q s.name) now)) ≡ option_map epoch_of (option_and_then entity_of (find (λ (s : PortSide). is_port q s.name) was))
    found q [] [] all = refl
    found q [] (x ∷ xs) all = absurd all
    found q (x ∷ xs) [] all = absurd all
    found q (x ∷ xs) (y ∷ ys) all = elim (cases_Bool (is_port q x.name)) [
      | inl p ↦ ap (λ (o : Option PortSide). option_map epoch_of (option_and_then entity_of o)) (cond-true (is_port q y.name) (Some y) _ (ap (is_port q) all.0.name ∙ p))
          ∙ all.0.epoch ∙ sym (ap (λ (o : Option PortSide). option_map epoch_of (option_and_then entity_of o)) (cond-true (is_port q x.name) (Some x) _ p))
      | inr f ↦ ap (λ (o : Option PortSide). option_map epoch_of (option_and_then entity_of o)) (cond-false (is_port q y.name) (Some y) _ (ap (is_port q) all.0.name ∙ f))
          ∙ found q xs ys all.1 ∙ sym (ap (λ (o : Option PortSide). option_map epoch_of (option_and_then entity_of o)) (cond-false (is_port q x.name) (Some x) _ f))
    ]
