-- A PDU that comes to a node has one answer, and leaves nodes that nothing tells apart.
use Rattle.std.proofs.Common.{◌≡◌, inl, inr, ℕ, cond, List, Option, Some, None, refl, sym, ◌∙◌, ap, subst}
use Rattle.std.specs.declared.result.Result.{Result}
use Rattle.std.specs.declared.result.Result.TheVariants.{Ok, Err}
use Rattle.std.proofs.lemmas.Option.{same_Some}
use Rattle.link_base.specs.declared.discard.Discard.{Discard}
use Rattle.link_base.specs.declared.names.Key.{Key}
use Rattle.link_base.specs.declared.names.PortName.{PortName}
use Rattle.link_base.specs.declared.names.PortName.TheVariants.{Direct, Pc5, Uu}
use Rattle.link_base.specs.declared.names.Side.{Side}
use Rattle.link_base.specs.declared.names.SnSize.{SnSize}
use Rattle.link_base.specs.declared.names.Side.TheVariants.{Low, High}
use Rattle.srap_header.specs.Srap.{Srap}
use Rattle.bearer_map.specs.declared.ids.Attachment.{Attachment}
use Rattle.bearer_map.specs.Contents.{Contents, map_rank}
use Rattle.bearer_map.specs.Ids.{AreIds}
use Rattle.bearer_map.specs.Order.{IsAscending}
use Rattle.bearer_map.specs.Routes.{UpRoute, DownRoute, GnbRoute}
use Rattle.rlc_pdu.specs.Amd.{Amd, IsAmd, IsAmdFault}
use Rattle.rlc_pdu.specs.declared.amd.AmdFault.{AmdFault}
use Rattle.rlc_pdu.proofs.Reading.{one_reading as one_amd, not_both}
use Rattle.rlc_status.specs.declared.status.Status.{Status}
use Rattle.rlc_status.specs.declared.fault.StatusFault.{StatusFault}
use Rattle.rlc_status.proofs.Unique.{one_reading as one_status}
use Rattle.rlc_status.proofs.Faults.{no_fault, one_fault}
use Rattle.rlc_model.specs.declared.hop.AirFault.{AirFault}
use Rattle.rlc_model.specs.declared.hop.HopHeard.{HopHeard}
use Rattle.rlc_model.specs.declared.hop.HopHeard.TheVariants as hop
use Rattle.rlc_model.specs.declared.hop.Pdu.{Pdu}
use Rattle.rlc_model.specs.declared.receiver.Heard.{Heard}
use Rattle.rlc_model.specs.declared.receiver.Heard.TheVariants as heard
use Rattle.rlc_model.specs.declared.transmitter.StatusHeard.{StatusHeard}
use Rattle.rlc_model.specs.declared.transmitter.StatusHeard.TheVariants as told
use Rattle.rlc_model.specs.Tx.{Tx, tx_next_ack}
use Rattle.rlc_model.specs.Rx.{Rx, rx_next, Hears}
use Rattle.rlc_model.specs.Retransmission.{HearsStatus}
use Rattle.rlc_model.specs.Sides.{Entity}
use Rattle.rlc_model.specs.Hop.{air_fault, side_fault, HearsHop}
use Rattle.rlc_law.specs.OneOutcome.{SameReceiver}
use Rattle.rlc_law.proofs.OneReceiver.{one_hearing}
use Rattle.rlc_law.proofs.OneStatus.{one_status_hearing}
use Rattle.pdcp_pdu.specs.Pdcp.{Sdu, Report, IsPdcp, IsPdcpFault}
use Rattle.pdcp_model.specs.Sender.{confirmed, hears_report, IsBeyond}
use Rattle.pdcp_model.specs.Receiver.{Receiver, Hears as HearsCount}
use Rattle.node_model.specs.declared.answers.NodeHeard.{NodeHeard}
use Rattle.node_model.specs.declared.answers.NodeHeard.TheVariants as answers
use Rattle.node_model.specs.Names.{back}
use Rattle.node_model.specs.State.{PortSide, Outgoing, Incoming, Node, id_in, set_side, set_entity, side_at, outgoing, incoming, set_outgoing, set_incoming}
use Rattle.node_model.specs.Routing.{Target, ToPdcp, Onward, EndsHere, GoesOn, LeadsByHeader, LeadsUnderSrap, Leads}
use Rattle.node_model.specs.Ends.{HearsSdu, HearsReport, HearsPdcp, data_pdu, report, neither, confirm_tags}
use Rattle.node_model.specs.Hearing.{Passes, Follows, HearsSide, HearsUnless, entity_fault, slot_fault, side_refusal, hear_refusal}
use Rattle.node_law.specs.Alike.{SameEntity, SameOpen, SameSide, SameNode}
use Rattle.node_law.specs.OneOutcome.{OneTarget, OnePdcpHearing, OneNodeHearing, NodesHearAlike}
use Rattle.node_law.proofs.Alike.{same_receiver, alike, SameFound, found_too, both_open, side_set, out_too, in_too, out_set, in_set, tags_too}
use Rattle.node_law.proofs.Receivers.{same_on, next_too, hears_too}

-- the octets have one answer of an entity
one_hop : (tx : Tx) (rx : Rx) (bytes : List ℕ) (a b : HopHeard) (t u : Tx) (r s : Rx) → HearsHop tx rx bytes a t r → HearsHop tx rx bytes b u s
    → (a ≡ b) × (t ≡ u) × SameReceiver r s
one_hop tx rx bytes (hop.Amd a) (hop.Amd b) t u r s p q =
    let same = one_hearing rx q.1 a b r s (subst (λ (v : Amd). Hears rx v a r) (one_amd rx.size p.1 q.1 bytes p.2 q.2) p.3) q.3 in
    (ap (λ (x : Heard). hop.Amd x) same.0, p.4 ∙ sym q.4, same.1)
one_hop tx rx bytes (hop.Amd a) (hop.Status b) t u r s p q = absurd (p.0 q.0)
one_hop tx rx bytes (hop.Amd a) (hop.BadAmd f) t u r s p q = absurd (not_both rx.size p.1 bytes f p.2 q.1)
one_hop tx rx bytes (hop.Amd a) (hop.BadStatus f) t u r s p q = absurd (p.0 q.0)
one_hop tx rx bytes (hop.Status a) (hop.Amd b) t u r s p q = absurd (q.0 p.0)
one_hop tx rx bytes (hop.Status a) (hop.Status b) t u r s p q =
    let same = one_status_hearing tx q.1 a b t u (subst (λ (v : Status). HearsStatus tx v a t) (one_status tx.size p.1 q.1 bytes p.2 q.2) p.3) q.3 in
    (ap (λ (x : StatusHeard). hop.Status x) same.0, same.1, subst (SameReceiver r) (p.4 ∙ sym q.4) (same_receiver r))
one_hop tx rx bytes (hop.Status a) (hop.BadAmd f) t u r s p q = absurd (q.0 p.0)
one_hop tx rx bytes (hop.Status a) (hop.BadStatus f) t u r s p q = absurd (no_fault tx.size p.1 bytes f p.2 q.2)
one_hop tx rx bytes (hop.BadAmd f) (hop.Amd b) t u r s p q = absurd (not_both rx.size q.1 bytes f q.2 p.1)
one_hop tx rx bytes (hop.BadAmd f) (hop.Status b) t u r s p q = absurd (p.0 q.0)
one_hop tx rx bytes (hop.BadAmd f) (hop.BadAmd g) t u r s p q =
    (ap (λ (x : AmdFault). hop.BadAmd x) (same_Some f g (sym p.1 ∙ q.1)), p.2 ∙ sym q.2, subst (SameReceiver r) (p.3 ∙ sym q.3) (same_receiver r))
one_hop tx rx bytes (hop.BadAmd f) (hop.BadStatus g) t u r s p q = absurd (p.0 q.0)
one_hop tx rx bytes (hop.BadStatus f) (hop.Amd b) t u r s p q = absurd (q.0 p.0)
one_hop tx rx bytes (hop.BadStatus f) (hop.Status b) t u r s p q = absurd (no_fault tx.size q.1 bytes f q.2 p.2)
one_hop tx rx bytes (hop.BadStatus f) (hop.BadAmd g) t u r s p q = absurd (q.0 p.0)
one_hop tx rx bytes (hop.BadStatus f) (hop.BadStatus g) t u r s p q =
    (ap (λ (x : StatusFault). hop.BadStatus x) (one_fault tx.size bytes f g p.2 q.2), p.3 ∙ sym q.3, subst (SameReceiver r) (p.4 ∙ sym q.4) (same_receiver r))

-- what a side hears, one hears that nothing tells apart from it
hop_too : (tx : Tx) (rx other : Rx) → SameReceiver rx other → (bytes : List ℕ) (a : HopHeard) (t : Tx) (r : Rx) → HearsHop tx rx bytes a t r
    → (s : Rx) × HearsHop tx other bytes a t s × SameReceiver r s
hop_too tx rx other e bytes (hop.Amd a) t r p =
    let too = hears_too rx other e p.1 a r p.3 in
    (too.0, (p.0, p.1, subst (λ (z : SnSize). IsAmd z p.1 bytes) e.size p.2, too.1, p.4), too.2)
hop_too tx rx other e bytes (hop.Status a) t r p = (other, (p.0, p.1, p.2, p.3, refl), subst (λ (z : Rx). SameReceiver z other) (sym p.4) e)
hop_too tx rx other e bytes (hop.BadAmd f) t r p =
    (other, (p.0, subst (λ (z : SnSize). IsAmdFault z bytes f) e.size p.1, p.2, refl), subst (λ (z : Rx). SameReceiver z other) (sym p.3) e)
hop_too tx rx other e bytes (hop.BadStatus f) t r p = (other, (p.0, p.1, p.2, p.3, refl), subst (λ (z : Rx). SameReceiver z other) (sym p.4) e)

-- an SDU leads to the same place at nodes with the same attachments
header_too : (t : Contents) (m n : Node) → m.attached ≡ n.attached → (at : Side) (port : PortName) (v : Srap) (target : Result Target Discard)
    → LeadsByHeader t m at port v target → LeadsByHeader t n at port v target
header_too t m n e Low (Pc5 remote chan) v target p = (p.0, ap (λ (xs : List Attachment). id_in xs remote) (sym e) ∙ p.1, p.2)
header_too t m n e High (Pc5 remote chan) v target p = subst (λ (xs : List Attachment). GoesOn (UpRoute t.maps xs remote chan v.ue v.bearer) target) e p
header_too t m n e Low (Uu chan) v target p = subst (λ (xs : List Attachment). GoesOn (DownRoute t.maps xs chan v.ue v.bearer) target) e p
header_too t m n e High (Uu chan) v target p = subst (λ (xs : List Attachment). EndsHere (GnbRoute t.maps xs chan v.ue v.bearer) v.body target) e p
header_too t m n e at (Direct remote drb) v target p = absurd p

octets_too : (t : Contents) (m n : Node) → m.attached ≡ n.attached → (at : Side) (port : PortName) (sdu : List ℕ) (target : Result Target Discard)
    → LeadsUnderSrap t m at port sdu target → LeadsUnderSrap t n at port sdu target
octets_too t m n e at port sdu target (inl p) = inl (p.0, p.1, header_too t m n e at port p.0 target p.2)
octets_too t m n e at port sdu target (inr p) = inr p

leads_too : (t : Contents) (m n : Node) → m.attached ≡ n.attached → (at : Side) (port : PortName) (sdu : List ℕ) (target : Result Target Discard)
    → Leads t m at port sdu target → Leads t n at port sdu target
leads_too t m n e at (Direct remote drb) sdu target p = p
leads_too t m n e at (Pc5 remote chan) sdu target p = octets_too t m n e at (Pc5 remote chan) sdu target p
leads_too t m n e at (Uu chan) sdu target p = octets_too t m n e at (Uu chan) sdu target p

-- an end with this receiver, and one that has taken a report
abbrev with_receiver : Receiver → Incoming → Incoming
with_receiver r i = record i { receiver = r }

abbrev taken : ℕ → List ℕ → Outgoing → Outgoing
taken fmc map o = record o { sender = hears_report o.sender fmc map }

-- a PDCP PDU is heard at a node that is alike, and leaves one that is alike
sdu_too : (m n : Node) → SameNode m n → (key : Key) (sn : ℕ) (sdu : List ℕ) (a : NodeHeard) (m' : Node) → HearsSdu m key sn sdu a m'
    → (n' : Node) × HearsSdu n key sn sdu a n' × SameNode m' n'
sdu_too m n e key sn sdu a m' p =
    let same = in_too m n e key in
    let n' = set_incoming n (record (incoming n key) { receiver = p.receiver }) in (
      n',
      record {
        heard = p.heard;
        receiver = p.receiver;
        hears = subst (λ (i : Incoming). HearsCount i.receiver sn sdu p.heard p.receiver) same p.hears;
        says = p.says;
        is = refl;
      },
      subst (λ (z : Node). SameNode z n') (sym p.is)
          (in_set m n e (record (incoming m key) { receiver = p.receiver }) (record (incoming n key) { receiver = p.receiver }) (ap (with_receiver p.receiver) same)),
    )

report_too : (m n : Node) → SameNode m n → (key : Key) (fmc : ℕ) (map : List ℕ) (a : NodeHeard) (m' : Node) → HearsReport m key fmc map a m'
    → (n' : Node) × HearsReport n key fmc map a n' × SameNode m' n'
report_too m n e key fmc map a m' (inl p) =
    let same = out_too m n e key in
    let n' = set_outgoing n (taken fmc map (outgoing n key)) in (
      n',
      inl (subst (λ (o : Outgoing). IsBeyond o.sender fmc map → ⊥) same p.0, p.1 ∙ ap (λ (o : Outgoing). answers.Report key (confirmed o.sender)) same, refl),
      subst (λ (z : Node). SameNode z n') (sym p.2) (out_set m n e (taken fmc map (outgoing m key)) (taken fmc map (outgoing n key)) (ap (taken fmc map) same)),
    )
report_too m n e key fmc map a m' (inr p) =
    (n, inr (subst (λ (o : Outgoing). IsBeyond o.sender fmc map) (out_too m n e key) p.0, p.1, refl), subst (λ (z : Node). SameNode z n) (sym p.2) e)

pdcp_too : (m n : Node) → SameNode m n → (key : Key) (pdu : List ℕ) (a : NodeHeard) (m' : Node) → HearsPdcp m key pdu a m'
    → (n' : Node) × HearsPdcp n key pdu a n' × SameNode m' n'
pdcp_too m n e key pdu a m' (data_pdu sn sdu is h) =
    let too = sdu_too m n e key sn sdu a m' h in
    (too.0, data_pdu sn sdu (subst (λ (i : Incoming). IsPdcp i.receiver.size (Sdu sn sdu) pdu) (in_too m n e key) is) too.1, too.2)
pdcp_too m n e key pdu a m' (report fmc map is h) =
    let too = report_too m n e (back key) fmc map a m' h in
    (too.0, report fmc map (subst (λ (i : Incoming). IsPdcp i.receiver.size (Report fmc map) pdu) (in_too m n e key) is) too.1, too.2)
pdcp_too m n e key pdu a m' (neither fault is says new) =
    (n, neither fault (subst (λ (i : Incoming). IsPdcpFault i.receiver.size pdu fault) (in_too m n e key) is) says refl, subst (λ (z : Node). SameNode z n) (sym new) e)

-- two sides of nodes that are alike, each of which has completed the same SDU
module _ (one_target : OneTarget) (one_pdcp : OnePdcpHearing) (t : Contents) (m n : Node) (e : SameNode m n) (s r : PortSide) (same : SameSide s r) where
  -- it is passed on alike
  passes : (sdu : List ℕ) (target : Result Target Discard) (a b : NodeHeard) (m' n' : Node) → Passes m s sdu target a m' → Passes n r sdu target b n' → (a ≡ b) × SameNode m' n'
  passes sdu (Ok (ToPdcp key pdu)) a b m' n' p q =
      let too = pdcp_too m n e key pdu a m' p in
      let one = one_pdcp n key pdu a b too.0 n' too.1 q in
      (one.0, subst (SameNode m') one.1 too.2)
  passes sdu (Ok (Onward route)) a b m' n' p q =
      let put = side_set m n e (record s { slot = Some (record { from = s.name; route = route; sdu = sdu }) })
      (record r { slot = Some (record { from = r.name; route = route; sdu = sdu }) })
      (record {
        name = same.name;
        size = same.size;
        slot = ap (λ (z : PortName). Some (record { from = z; route = route; sdu = sdu })) same.name;
        queue = same.queue;
        entity = same.entity;
      }) in (
        p.0 ∙ sym q.0,
        subst (SameNode m') (sym q.1)
            (subst (λ (z : Node). SameNode z (set_side n (record r { slot = Some (record { from = r.name; route = route; sdu = sdu }) }))) (sym p.1) put),
      )
  passes sdu (Err d) a b m' n' p q = (p.0 ∙ sym q.0, subst (SameNode m') (sym q.1) (subst (λ (z : Node). SameNode z n) (sym p.1) e))

  -- what else an entity answers leaves the nodes as they are
  stays : (x : HopHeard) (a b : NodeHeard) (m' n' : Node) → (a ≡ answers.Hop x) × (m' ≡ m) → (b ≡ answers.Hop x) × (n' ≡ n) → (a ≡ b) × SameNode m' n'
  stays x a b m' n' p q = (p.0 ∙ sym q.0, subst (SameNode m') (sym q.1) (subst (λ (z : Node). SameNode z n) (sym p.1) e))

  -- the node follows its entity
  follows : IsAscending map_rank t.maps → AreIds n.attached → (at : Side) (x : HopHeard) (a b : NodeHeard) (m' n' : Node) → Follows t m at s x a m'
      → Follows t n at r x b n' → (a ≡ b) × SameNode m' n'
  follows rows ids at (hop.Amd (heard.Complete number sdu)) a b m' n' p q =
      let led = leads_too t m n e.attached at r.name sdu p.0 (subst (λ (z : PortName). Leads t m at z sdu p.0) same.name p.1) in
      let target : p.0 ≡ q.0 = one_target t n at r.name sdu p.0 q.0 rows ids led q.1 in
      passes sdu q.0 a b m' n' (subst (λ (z : Result Target Discard). Passes m s sdu z a m') target p.2) q.2
  follows rows ids at (hop.Status (told.Acked tags marks)) a b m' n' p q =
      let confirmed = subst (λ (z : PortName). SameNode (confirm_tags m s.name tags) (confirm_tags n z tags)) same.name (tags_too m n e s.name tags) in
      (p.0 ∙ sym q.0, subst (SameNode m') (sym q.1) (subst (λ (z : Node). SameNode z (confirm_tags n r.name tags)) (sym p.1) confirmed))
  follows rows ids at (hop.Amd heard.Stored) a b m' n' p q = stays (hop.Amd heard.Stored) a b m' n' p q
  follows rows ids at (hop.Amd heard.Repeat) a b m' n' p q = stays (hop.Amd heard.Repeat) a b m' n' p q
  follows rows ids at (hop.Amd heard.Outside) a b m' n' p q = stays (hop.Amd heard.Outside) a b m' n' p q
  follows rows ids at (hop.Amd heard.Conflict) a b m' n' p q = stays (hop.Amd heard.Conflict) a b m' n' p q
  follows rows ids at (hop.Status (told.Old ack next)) a b m' n' p q = stays (hop.Status (told.Old ack next)) a b m' n' p q
  follows rows ids at (hop.Status (told.Beyond ack sent)) a b m' n' p q = stays (hop.Status (told.Beyond ack sent)) a b m' n' p q
  follows rows ids at (hop.BadAmd f) a b m' n' p q = stays (hop.BadAmd f) a b m' n' p q
  follows rows ids at (hop.BadStatus f) a b m' n' p q = stays (hop.BadStatus f) a b m' n' p q

-- open sides hear octets alike
sides_hear : OneTarget → OnePdcpHearing → (t : Contents) (old other : Node) → SameNode old other → IsAscending map_rank t.maps → AreIds other.attached
    → (at : Side) (port : PortName) (bytes : List ℕ) (a b : NodeHeard) (m n : Node)
    → HearsSide t old at port bytes a m → HearsSide t other at port bytes b n → (a ≡ b) × SameNode m n
sides_hear one_target one_pdcp t old other e rows ids at port bytes a b m n p q =
    let both = both_open old other e port p.side q.side p.entity q.entity p.its q.its in
    let too = hop_too p.entity.tx p.entity.rx q.entity.rx both.1.rx bytes p.hop p.tx p.rx p.hears in
    let heard_as = one_hop q.entity.tx q.entity.rx bytes p.hop q.hop p.tx q.tx too.0 q.rx
    (subst (λ (z : Tx). HearsHop z q.entity.rx bytes p.hop p.tx too.0) both.1.tx too.1) q.hears in
    let behind : SameEntity p.behind q.behind = subst (λ (z : Entity). SameEntity z q.behind) (sym p.its_entity)
    (subst (SameEntity (record p.entity { tx = p.tx; rx = p.rx })) (sym q.its_entity)
    (record { epoch = both.1.epoch; tx = heard_as.1; rx = same_on p.rx too.0 q.rx too.2 heard_as.2 })) in
    let p_side = record p.side { entity = Some p.behind } in
    let q_side = record q.side { entity = Some q.behind } in
    let same : SameSide p_side q_side = record { name = both.0.name; size = both.0.size; slot = both.0.slot; queue = both.0.queue; entity = behind } in
    let nodes : SameNode (set_entity old p.side p.behind) (set_entity other q.side q.behind) = side_set old other e p_side q_side same in
    follows one_target one_pdcp t (set_entity old p.side p.behind) (set_entity other q.side q.behind) nodes p_side q_side same rows ids at q.hop a b m n
    (subst (λ (x : HopHeard). Follows t (set_entity old p.side p.behind) at p_side x a m) heard_as.0 p.follows) q.follows

-- why a side doesn't hear a PDU
fault_too : (pdu : Pdu) (o p : Option Entity) → SameOpen o p → entity_fault pdu o ≡ entity_fault pdu p
fault_too pdu None None same = refl
fault_too pdu None (Some y) same = absurd same
fault_too pdu (Some x) None same = absurd same
fault_too pdu (Some x) (Some y) same =
    ap (λ (n : ℕ). side_fault pdu (Some n) x.tx x.rx) same.epoch ∙ ap (λ (t : Tx). side_fault pdu (Some y.epoch) t x.rx) same.tx
    ∙ ap (λ (z : SnSize). cond pdu.status (air_fault y.tx.size pdu (Some y.epoch) (tx_next_ack y.tx)) (air_fault z pdu (Some y.epoch) (rx_next x.rx))) same.rx.size
    ∙ ap (λ (n : ℕ). cond pdu.status (air_fault y.tx.size pdu (Some y.epoch) (tx_next_ack y.tx)) (air_fault y.rx.size pdu (Some y.epoch) n)) (next_too x.rx y.rx same.rx)

refusal_too : (pdu : Pdu) (o p : Option PortSide) → SameFound o p → hear_refusal pdu o ≡ hear_refusal pdu p
refusal_too pdu None None same = refl
refusal_too pdu None (Some r) same = absurd same
refusal_too pdu (Some s) None same = absurd same
refusal_too pdu (Some s) (Some r) same = by (entity_fault pdu s.entity) ∙ ap (side_refusal pdu r) (fault_too pdu s.entity r.entity same.entity)
  where
    by : (fault : Option AirFault) → side_refusal pdu s fault ≡ side_refusal pdu r fault
    by (Some fault) = refl
    by None = ap (slot_fault pdu) same.slot

-- a PDU is refused, or heard
pub nodes_hear : OneTarget → OnePdcpHearing → NodesHearAlike
nodes_hear one_target one_pdcp t old other e at pdu a b m n rows ids p q =
    go (hear_refusal pdu (side_at other pdu.port)) (subst (λ (z : Option NodeHeard). HearsUnless z t old at pdu a m) (refusal_too pdu (side_at old pdu.port) (side_at other pdu.port) (found_too old other e pdu.port)) p) q
  where
    go : (refusal : Option NodeHeard) → HearsUnless refusal t old at pdu a m → HearsUnless refusal t other at pdu b n → (a ≡ b) × SameNode m n
    go (Some refusal) p q = (p.0 ∙ sym q.0, subst (λ (z : Node). SameNode z n) (sym p.1) (subst (SameNode old) (sym q.1) e))
    go None p q = sides_hear one_target one_pdcp t old other e rows ids at pdu.port pdu.bytes a b m n p q

pub one_node_hearing : OneTarget → OnePdcpHearing → OneNodeHearing
one_node_hearing one_target one_pdcp t old at pdu a b m n rows ids p q = nodes_hear one_target one_pdcp t old old (alike old old refl) at pdu a b m n rows ids p q
