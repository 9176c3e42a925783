-- Nodes that nothing tells apart feed alike.
use Rattle.std.proofs.Common.{◌≡◌, ℕ, ◌+◌, Bool, false, ◌&&◌, nat_lt, List, [], ◌∷◌, map, Option, Some, None, refl, sym, ◌∙◌, ap, subst}
use Rattle.link_base.specs.declared.names.Key.{Key}
use Rattle.link_base.specs.declared.names.LocalId.{LocalId}
use Rattle.link_base.specs.declared.names.PortName.{PortName}
use Rattle.link_base.specs.declared.names.Remote.{Remote}
use Rattle.link_base.specs.declared.rlc_words.Tag.{Tag}
use Rattle.bearer_map.specs.declared.ids.Attachment.{Attachment}
use Rattle.bearer_map.specs.Contents.{Contents}
use Rattle.pdcp_pdu.specs.Pdcp.{Report, pdcp_bytes}
use Rattle.rlc_model.specs.Tx.{Tx, room, Gives}
use Rattle.rlc_model.specs.Sides.{Entity}
use Rattle.pdcp_model.specs.Sender.{next, has_next, data_pdu, gave_next}
use Rattle.node_model.specs.Names.{back}
use Rattle.node_model.specs.State.{Outgoing, Incoming, Node, entity_at, id_in, id_at, outgoing, incoming, set_entity, set_outgoing, set_incoming}
use Rattle.node_model.specs.Feeding.{port_on, first_hop, under, room_of, room_at, has_room, tag_of, wants_report, GivesPdu, GivesReport, FeedsReport, unwanted, dropped, no_room, FeedsReports, GivesData, FeedsData, rests, FeedsEach, in_key, out_key}
use Rattle.node_model.specs.Feeding.FeedsReport.{gives as gives_report}
use Rattle.node_model.specs.Feeding.FeedsData.{gives}
use Rattle.node_law.specs.Alike.{SameOpen, SameNode}
use Rattle.node_law.specs.OneOutcome.{FeedsAlike}
use Rattle.node_law.proofs.Alike.{side_set, is_open_too, entity_too, out_too, in_too, out_set, in_set}
use Rattle.node_law.proofs.Feeding.{one_feeding}

-- a tag with this identity
abbrev with_id : Key → Option ℕ → Option LocalId → Tag
with_id key count id = record { key = key; count = count; ue = id }

module _ (m n : Node) (e : SameNode m n) where
  -- both have the same room
  room_in : (o p : Option Entity) → SameOpen o p → room_of o ≡ room_of p
  room_in None None same = refl
  room_in None (Some y) same = absurd same
  room_in (Some x) None same = absurd same
  room_in (Some x) (Some y) same = ap room same.tx

  room_too : (port : Option PortName) → room_at m port ≡ room_at n port
  room_too None = refl
  room_too (Some port) = room_in (entity_at m port) (entity_at n port) (entity_too m n e port)

  -- both attach the same identity to a remote, and so have the same first hop
  id_too : (remote : Remote) → id_at m remote ≡ id_at n remote
  id_too remote = ap (λ (xs : List Attachment). id_in xs remote) e.attached

  hop_too : (t : Contents) (key : Key) → first_hop t m key ≡ first_hop t n key
  hop_too t key = ap (λ (id : Option LocalId). port_on t id key) (id_too key.remote)

  has_room_too : (t : Contents) (key : Key) → has_room t m key ≡ has_room t n key
  has_room_too t key = ap (λ (port : Option PortName). nat_lt 0 (room_at m port)) (hop_too t key) ∙ ap (nat_lt 0) (room_too (first_hop t n key))

  more_too : (t : Contents) (key : Key) → (has_next (outgoing m key).sender && has_room t m key) ≡ (has_next (outgoing n key).sender && has_room t n key)
  more_too t key = ap (λ (o : Outgoing). has_next o.sender && has_room t m key) (out_too m n e key) ∙ ap (λ (b : Bool). has_next (outgoing n key).sender && b) (has_room_too t key)

  tag_too : (key : Key) (count : Option ℕ) → tag_of m key count ≡ tag_of n key count
  tag_too key count = ap (with_id key count) (id_too key.remote)

  -- a PDU is given alike
  gives_too : (t : Contents) (key : Key) (tag : Tag) (pdu : List ℕ) (m' : Node) → GivesPdu t m key tag pdu m' → (n' : Node) × GivesPdu t n key tag pdu n' × SameNode m' n'
  gives_too t key tag pdu m' p =
      let its = is_open_too m n e p.port p.side p.entity p.its in
      let n' = set_entity n its.0 (record its.1 { tx = p.tx }) in (
        n',
        record {
          port = p.port;
          its_port = sym (hop_too t key) ∙ p.its_port;
          side = its.0;
          entity = its.1;
          its = its.2;
          tx = p.tx;
          number = p.number;
          gives = subst (λ (id : Option LocalId). Gives its.1.tx tag (under id key.drb pdu) p.number p.tx) (id_too key.remote)
              (subst (λ (z : Tx). Gives z tag (under (id_at m key.remote) key.drb pdu) p.number p.tx) its.4.tx p.gives);
          is = refl;
        },
        subst (λ (z : Node). SameNode z n') (sym p.is) (side_set m n e (record p.side { entity = Some (record p.entity { tx = p.tx }) })
            (record its.0 { entity = Some (record its.1 { tx = p.tx }) })
            (record { name = its.3.name; size = its.3.size; slot = its.3.slot; queue = its.3.queue; entity = record { epoch = its.4.epoch; tx = refl; rx = its.4.rx } })),
      )

  -- a report is given alike
  report_given : (t : Contents) (i : Incoming) (m' : Node) → GivesReport t m i m' → (n' : Node) × GivesReport t n i n' × SameNode m' n'
  report_given t i m' p =
      let too = gives_too t (back i.key) (tag_of m i.key None) (pdcp_bytes i.receiver.size (Report p.fmc p.map)) p.mid p.gives in
      let done = record i { wanted = false; reported = i.receiver.handed } in (
        set_incoming too.0 done,
        record {
          fmc = p.fmc;
          map = p.map;
          its = p.its;
          mid = too.0;
          gives = subst (λ (tag : Tag). GivesPdu t n (back i.key) tag (pdcp_bytes i.receiver.size (Report p.fmc p.map)) too.0) (tag_too i.key None) too.1;
          is = refl;
        },
        subst (λ (z : Node). SameNode z (set_incoming too.0 done)) (sym p.is) (in_set p.mid too.0 too.2 done done refl),
      )

  -- it is wanted alike
  wants_too : (t : Contents) (i : Incoming) → wants_report t m i ≡ wants_report t n i
  wants_too t i = ap (λ (xs : List Attachment). wants_report t (record n { attached = xs }) i) e.attached

  about_too : (t : Contents) (i : Incoming) (g : List Key) (m' : Node) → FeedsReport t m i g m' → (n' : Node) × FeedsReport t n i g n' × SameNode m' n'
  about_too t i g m' (unwanted w a b) = (n, unwanted (sym (wants_too t i) ∙ w) a refl, subst (λ (z : Node). SameNode z n) (sym b) e)
  about_too t i g m' (dropped w c a b) =
      let done = record i { wanted = false } in
      (set_incoming n done, dropped (sym (wants_too t i) ∙ w) c a refl, subst (λ (z : Node). SameNode z (set_incoming n done)) (sym b) (in_set m n e done done refl))
  about_too t i g m' (no_room w c r a b) = (n, no_room (sym (wants_too t i) ∙ w) c (sym (has_room_too t (back i.key)) ∙ r) a refl, subst (λ (z : Node). SameNode z n) (sym b) e)
  about_too t i g m' (gives_report w c r x a) =
      let too = report_given t i m' x in
      (too.0, gives_report (sym (wants_too t i) ∙ w) c (sym (has_room_too t (back i.key)) ∙ r) too.1 a, too.2)

  -- a data PDU is given alike
  data_given : (t : Contents) (o : Outgoing) (m' : Node) → GivesData t m o m' → (n' : Node) × GivesData t n o n' × SameNode m' n'
  data_given t o m' p =
      let tag = tag_of m o.key (Some (o.sender.first + next o.sender)) in
      let pdu = pdcp_bytes o.sender.size (data_pdu o.sender (next o.sender) p.sdu) in
      let too = gives_too t o.key tag pdu p.mid p.gives in
      let done = record o { sender = gave_next o.sender } in (
        set_outgoing too.0 done,
        record {
          sdu = p.sdu;
          its = p.its;
          mid = too.0;
          gives = subst (λ (z : Tag). GivesPdu t n o.key z pdu too.0) (tag_too o.key (Some (o.sender.first + next o.sender))) too.1;
          is = refl;
        },
        subst (λ (z : Node). SameNode z (set_outgoing too.0 done)) (sym p.is) (out_set p.mid too.0 too.2 done done refl),
      )

-- reports about a list of keys are given alike
abouts_too : (t : Contents) (keys : List Key) (m n : Node) → SameNode m n → (g : List Key) (m' : Node) → FeedsReports t m keys g m'
    → (n' : Node) × FeedsReports t n keys g n' × SameNode m' n'
abouts_too t [] m n e g m' p = (n, (p.0, refl), subst (λ (z : Node). SameNode z n) (sym p.1) e)
abouts_too t (key ∷ keys) m n e g m' p =
    let first = about_too m n e t (incoming m key) p.0 p.2 p.3 in
    let more = abouts_too t keys p.2 first.0 first.2 p.1 m' p.4 in
    (more.0, (p.0, p.1, first.0, subst (λ (i : Incoming). FeedsReport t n i p.0 first.0) (in_too m n e key) first.1, more.1, p.5), more.2)

-- data PDUs are given alike
data_too : (t : Contents) (key : Key) (m n : Node) → SameNode m n → (m' : Node) → FeedsData t key m m' → (n' : Node) × FeedsData t key n n' × SameNode m' n'
data_too t key m n e m' (rests none) = (n, rests (sym (more_too m n e t key) ∙ none), e)
data_too t key m n e m' (gives {mid = mid} some x p) =
    let first = data_given m n e t (outgoing m key) mid x in
    let more = data_too t key mid first.0 first.2 m' p in
    (more.0, gives (sym (more_too m n e t key) ∙ some) (subst (λ (o : Outgoing). GivesData t n o first.0) (out_too m n e key) first.1) more.1, more.2)

each_too : (t : Contents) (keys : List Key) (m n : Node) → SameNode m n → (m' : Node) → FeedsEach t m keys m' → (n' : Node) × FeedsEach t n keys n' × SameNode m' n'
each_too t [] m n e m' p = (n, refl, subst (λ (z : Node). SameNode z n) (sym p) e)
each_too t (key ∷ keys) m n e m' p =
    let first = data_too t key m n e p.0 p.1 in
    let more = each_too t keys p.0 first.0 first.2 m' p.2 in
    (more.0, (first.0, first.1, more.1), more.2)

-- so nodes that are alike feed alike, and have one outcome
pub feeds_alike : FeedsAlike
feeds_alike t old other e given given' m n p q =
    let reports = abouts_too t (map in_key old.incoming) old other e given p.mid p.reports in
    let data_pdus = each_too t (map out_key p.mid.outgoing) p.mid reports.0 reports.2 m p.data_pdus in
    let keys : map in_key old.incoming ≡ map in_key other.incoming = ap (map in_key) e.incoming in
    let out_keys : map out_key p.mid.outgoing ≡ map out_key reports.0.outgoing = ap (map out_key) reports.2.outgoing in
    let one = one_feeding t other given given' data_pdus.0 n (record {
      mid = reports.0;
      reports = subst (λ (xs : List Key). FeedsReports t other xs given reports.0) keys reports.1;
      data_pdus = subst (λ (xs : List Key). FeedsEach t reports.0 xs data_pdus.0) out_keys data_pdus.1;
    }) q in
    (one.0, subst (SameNode m) one.1 data_pdus.2)
