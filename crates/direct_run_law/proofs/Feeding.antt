-- A node of a direct port feeds.
use Rattle.std.proofs.Common.{◌≡◌, inl, inr, ℕ, ◌+◌, ◌≤◌, true, false, List, [], ◌∷◌, map, Some, None, option_and_then, refl, sym, ◌∙◌, ap, subst, arith}
use Rattle.std.specs.List.{AllByRecursion}
use Rattle.std.proofs.lemmas.Option.{none-some, same_Some}
use Rattle.link_base.specs.declared.names.Drb.{Drb}
use Rattle.link_base.specs.declared.names.Key.{Key}
use Rattle.link_base.specs.declared.names.PortName.{PortName}
use Rattle.link_base.specs.declared.names.PortName.TheVariants.{Direct}
use Rattle.link_base.specs.declared.names.Remote.{Remote}
use Rattle.link_base.specs.declared.names.Side.{Side}
use Rattle.link_base.specs.declared.names.Side.TheVariants.{Low, High}
use Rattle.link_base.specs.declared.names.SnSize.TheVariants.{S12}
use Rattle.link_base.specs.declared.names.Way.{Way}
use Rattle.link_base.specs.declared.names.Way.TheVariants.{Ul, Dl}
use Rattle.link_base.specs.declared.rlc_words.Tag.{Tag}
use Rattle.bearer_map.specs.Contents.{Contents}
use Rattle.bearer_map.specs.declared.ids.Attachment.{Attachment}
use Rattle.rlc_model.specs.Sides.{Entity, way_from, flip, sender_of, hearer_of}
use Rattle.rlc_model.specs.Rx.{empty_rx}
use Rattle.rlc_model.specs.Tx.{Tx, Kept, empty_tx}
use Rattle.pdcp_pdu.specs.Pdcp.{Report, pdcp_bytes}
use Rattle.pdcp_model.specs.Sender.{Sender, next, data_pdu, gave_next, is_reported}
use Rattle.pdcp_model.specs.Receiver.{Receiver, IsReport}
use Rattle.node_model.specs.Names.{key_of, owner, source, sink, back}
use Rattle.node_model.specs.State.{Outgoing, Incoming, Node, id_in, id_at, entity_at, entity_of, outgoing_at, outgoing, incoming, set_entity, set_outgoing, set_incoming}
use Rattle.node_model.specs.Feeding.{port_on, first_hop, under, tag_of, GivesPdu, GivesReport, FeedsReport, unwanted, dropped, no_room, gives as gives_report, FeedsReports, GivesData, FeedsData, rests as rests_data, gives as gives_more, FeedsEach, Feeds, in_key, out_key}
use Rattle.node_model.proofs.Names.{owner_side}
use Rattle.chain_model.proofs.Lookups.{cases_found, outgoing_key, incoming_key}
use Rattle.chain_law.proofs.Leaving.{NodeSame, in_same, out_kept, out_set, out_there, same_entity, same_in, same_itself, same_out, same_then}
use Rattle.book_law.specs.Honest.{HasCount}
use Rattle.direct_run_law.proofs.Carried.{data_pdu_of, report, Fits, SenderKeeps, keeps_itself}
use Rattle.direct_run_law.proofs.Given.{fits_gives}
use Rattle.direct_run_law.proofs.Ends.{Half, sent, heard, half, Both, IsEnd, end_stays, Goes, goes_then, goes_rows, goes_nowhere, goes_entity}

-- the reports of a receiving side tell of no COUNT that it doesn't have
abbrev pub Reports : Receiver → Type 0
Reports r = (fmc : ℕ) (bits : List ℕ) → IsReport r fmc bits → (count : ℕ) → r.first ≤ count → is_reported fmc bits count ≡ true → HasCount r count

-- a port has a side at one end of one way
way_sent : (w : Way) (side : Side) → sender_of w ≡ side → w ≡ way_from side
way_sent Ul Low e = refl
way_sent Dl High e = refl
way_sent Ul High e = ap way_from e
way_sent Dl Low e = ap way_from e

way_heard : (w : Way) (side : Side) → hearer_of w ≡ side → w ≡ flip (way_from side)
way_heard Ul side e = ap (λ (s : Side). flip (way_from s)) e
way_heard Dl side e = ap (λ (s : Side). flip (way_from s)) e

abbrev remote_of : PortName → Remote → Remote
remote_of (Direct r d) other = r
remote_of port other = other

abbrev drb_of : PortName → Drb → Drb
drb_of (Direct r d) other = d
drb_of port other = other

-- a key that is sent at a side of its direct port, and one that is heard there
pub key_sent : (key : Key) (remote : Remote) (drb : Drb) (side : Side) → source key ≡ owner side (Direct remote drb) → Direct remote drb ≡ Direct key.remote key.drb
    → key ≡ sent remote drb side
key_sent key remote drb side at port =
    let way : key.way ≡ way_from side = way_sent key.way side (owner_side (sender_of key.way) side (Direct key.remote key.drb) (at ∙ ap (owner side) port)) in
    ap (λ (w : Way). key_of key.remote key.drb w) way ∙ ap (λ (p : PortName). key_of (remote_of p key.remote) (drb_of p key.drb) (way_from side)) (sym port)

pub key_heard : (key : Key) (remote : Remote) (drb : Drb) (side : Side) → sink key ≡ owner side (Direct remote drb) → Direct remote drb ≡ Direct key.remote key.drb
    → key ≡ heard remote drb side
key_heard key remote drb side at port =
    let way : key.way ≡ flip (way_from side) = way_heard key.way side (owner_side (hearer_of key.way) side (Direct key.remote key.drb) (at ∙ ap (owner side) port)) in
    ap (λ (w : Way). key_of key.remote key.drb w) way ∙ ap (λ (p : PortName). key_of (remote_of p key.remote) (drb_of p key.drb) (flip (way_from side))) (sym port)

module _ (t : Contents) (old : Node) (end : IsEnd old) where
  -- without an attachment a PDU goes over the direct port, and without a header
  direct_port : (key : Key) (port : PortName) → first_hop t old key ≡ Some port → port ≡ Direct key.remote key.drb
  direct_port key port is = sym (same_Some (Direct key.remote key.drb) port (sym (ap (λ (l : List Attachment). port_on t (id_in l key.remote) key) end.attached) ∙ is))

  bare : (key : Key) (pdu : List ℕ) → under (id_at old key.remote) key.drb pdu ≡ pdu
  bare key pdu = ap (λ (l : List Attachment). under (id_in l key.remote) key.drb pdu) end.attached

-- what a node that feeds leaves on every path: names, attachments and keys, and each receiving side
pub record Rests (old new : Node) : Type 0 where
  pub same : NodeSame old new
  pub receivers : (k : Key) → (incoming new k).receiver ≡ (incoming old k).receiver

rest_itself : (old new : Node) → new ≡ old → Rests old new
rest_itself old new is = subst (Rests old) (sym is) (record { same = same_itself old; receivers = λ k. refl })

rest_then : (x y z : Node) → Rests x y → Rests y z → Rests x z
rest_then x y z p q = record { same = same_then x y z p.same q.same; receivers = λ k. q.receivers k ∙ p.receivers k }

rest_in : (n : Node) (of : Key) (j : Incoming) → j.key ≡ of → j.receiver ≡ (incoming n of).receiver → Rests n (set_incoming n j)
rest_in n of j its same = record { same = same_in n j; receivers = in_same n of j its same }

module _ (t : Contents) where
  given_rests : (old : Node) (key : Key) (tag : Tag) (pdu : List ℕ) (new : Node) → GivesPdu t old key tag pdu new → Rests old new
  given_rests old key tag pdu new g = subst (Rests old) (sym g.is) (record { same = same_entity old g.side (record g.entity { tx = g.tx }); receivers = λ k. refl })

  report_rests : (old : Node) (key : Key) (given : List Key) (new : Node) → FeedsReport t old (incoming old key) given new → Rests old new
  report_rests old key given new (unwanted no_want none is) = rest_itself old new is
  report_rests old key given new (dropped want cannot none is) = subst (Rests old) (sym is)
      (rest_in old key (record (incoming old key) { wanted = false }) (incoming_key old key) refl)
  report_rests old key given new (no_room want can full none is) = rest_itself old new is
  report_rests old key given new (gives_report want can room g is) =
      let i = incoming old key in
      rest_then old g.mid new (given_rests old _ _ _ g.mid g.gives)
      (subst (Rests g.mid) (sym g.is) (rest_in g.mid key (record i { wanted = false; reported = i.receiver.handed }) (incoming_key old key)
      (ap (λ (n : Node). (incoming n key).receiver) (sym g.gives.is))))

  reports_rest : (keys : List Key) (old : Node) (given : List Key) (new : Node) → FeedsReports t old keys given new → Rests old new
  reports_rest [] old given new (none, is) = rest_itself old new is
  reports_rest (key ∷ keys) old given new (first, more, mid, one, rest, are) = rest_then old mid new (report_rests old key first mid one) (reports_rest keys mid more new rest)

  given_data : (old : Node) (key : Key) (new : Node) → GivesData t old (outgoing old key) new → Rests old new
  given_data old key new g =
      let row : Outgoing = record (outgoing old key) { sender = gave_next (outgoing old key).sender } in
      rest_then old g.mid new (given_rests old _ _ _ g.mid g.gives) (subst (Rests g.mid) (sym g.is) (record { same = same_out g.mid row; receivers = λ k. refl }))

  data_rests : (key : Key) {old new : Node} → FeedsData t key old new → Rests old new
  data_rests key {old} (rests_data none) = rest_itself old old refl
  data_rests key {old} {new} (gives_more {mid = mid} some g more) =
      rest_then old mid new (given_data old key mid g) (data_rests key more)

  each_rests : (keys : List Key) (old new : Node) → FeedsEach t old keys new → Rests old new
  each_rests [] old new is = rest_itself old new is
  each_rests (key ∷ keys) old new (mid, one, rest) = rest_then old mid new (data_rests key one) (each_rests keys mid new rest)

  pub feeds_rests : (old : Node) (given : List Key) (new : Node) → Feeds t old given new → Rests old new
  feeds_rests old given new f = rest_then old f.mid new (reports_rest (map in_key old.incoming) old given f.mid f.reports)
      (each_rests (map out_key f.mid.outgoing) f.mid new f.data_pdus)

module _ (t : Contents) (remote : Remote) (drb : Drb) (side : Side) (other : Half) where
  abbrev S : Key
  S = sent remote drb side

  abbrev H : Key
  H = heard remote drb side

  -- where the port is open, the receiving side's reports are true
  abbrev pub MayReport : Node → Type 0
  MayReport n = (e : Entity) → entity_at n (Direct remote drb) ≡ Some e → Reports (incoming n H).receiver

  -- what the port carries is kept
  abbrev pub Fed : Node → Node → Type 0
  Fed old new = Goes remote drb side other old new

  -- a receiving side that stays
  with_receiver : (n : Node) (e : Entity) (r q : Receiver) → q ≡ r
      → Fits S e.tx other.rx (outgoing n S).sender other.receiver r × Fits H other.tx e.rx other.sender r other.receiver
      → Fits S e.tx other.rx (outgoing n S).sender other.receiver q × Fits H other.tx e.rx other.sender q other.receiver
  with_receiver n e r q same fits = subst (λ (x : Receiver). Fits S e.tx other.rx (outgoing n S).sender other.receiver x × Fits H other.tx e.rx other.sender x other.receiver)
      (sym same) fits

  may_still : (x y : Node) → Fed x y → Rests x y → MayReport x → MayReport y
  may_still x y p rests may e is = elim (cases_found (entity_at x (Direct remote drb))) [
    | inl there ↦ subst Reports (sym (rests.receivers H)) (may there.0 there.1)
    | inr none ↦ absurd (none-some e (sym (p.closed none) ∙ is))
  ]

  module _ (old : Node) (end : IsEnd old) (at : owner side (Direct remote drb) ≡ old.name) where
    -- a status report is given
    gives_a_report : (key : Key) → sink key ≡ old.name → MayReport old → (new : Node) → GivesReport t old (incoming old key) new → Fed old new
    gives_a_report key here reports new g = subst (Fed old) (sym is)
        (goes_entity remote drb side other old g.gives.port g.gives.side g.gives.entity now (set_incoming n1 row) g.gives.its.here g.gives.its.is_open refl (λ q. refl) own
        (λ ne e. with_receiver old e (incoming old H).receiver (incoming (set_incoming n1 row) H).receiver receiver))
      where
        i : Incoming
        i = incoming old key

        its : i.key ≡ key
        its = incoming_key old key

        row : Incoming
        row = record i { wanted = false; reported = i.receiver.handed }

        now : Entity
        now = record g.gives.entity { tx = g.gives.tx }

        n1 : Node
        n1 = set_entity old g.gives.side now

        is : new ≡ set_incoming n1 row
        is = g.is ∙ ap (λ (n : Node). set_incoming n row) g.gives.is

        receiver : (incoming (set_incoming n1 row) H).receiver ≡ (incoming old H).receiver
        receiver = in_same n1 key row its refl H

        port : g.gives.port ≡ Direct key.remote key.drb
        port = direct_port t old end (back i.key) g.gives.port g.gives.its_port ∙ ap (λ (k : Key). Direct k.remote k.drb) its

        given : Kept
        given = record {
          tag = tag_of old i.key None;
          sdu = under (id_at old (back i.key).remote) (back i.key).drb
              (pdcp_bytes i.receiver.size (Report g.fmc g.map));
          flags = [];
          retx_count = None;
        }

        own : Direct remote drb ≡ g.gives.port → Both remote drb side (half remote drb side old g.gives.entity) other
            → Both remote drb side (half remote drb side (set_incoming n1 row) now) other
        own this fits =
            let key_is : key ≡ H = key_heard key remote drb side (here ∙ sym at) (this ∙ port) in
            let far : i.receiver ≡ (incoming old H).receiver = ap (λ (k : Key). (incoming old k).receiver) key_is in (
              subst (λ (r : Receiver). Fits S g.gives.tx other.rx (outgoing old S).sender other.receiver r) (sym receiver)
                  (fits_gives S g.gives.entity.tx other.rx (outgoing old S).sender other.receiver (incoming old H).receiver fits.0 (outgoing old S).sender
                  (keeps_itself other.receiver (outgoing old S).sender) given g.gives.tx
                  (ap (λ (x : Tx). x.kept) g.gives.gives.is)
                  (λ done none. report (record {
                    no_count = refl;
                    fmc = g.fmc;
                    bits = g.map;
                    spelt = bare t old end (back i.key) (pdcp_bytes i.receiver.size (Report g.fmc g.map)) ∙ ap (λ (r : Receiver). pdcp_bytes r.size (Report g.fmc g.map)) far;
                    had = reports g.gives.entity (ap (entity_at old) this ∙ ap (option_and_then entity_of) g.gives.its.here ∙ g.gives.its.is_open) g.fmc g.map
                        (subst (λ (r : Receiver). IsReport r g.fmc g.map) far g.its);
                  }))
                  (λ count m no_count. absurd (none-some count no_count))),
              subst (λ (r : Receiver). Fits H other.tx g.gives.entity.rx other.sender r other.receiver) (sym receiver) fits.1,
            )

    feeds_report : (key : Key) → sink key ≡ old.name → MayReport old → (given : List Key) (new : Node) → FeedsReport t old (incoming old key) given new → Fed old new
    feeds_report key here reports given new (unwanted no_want none is) = goes_nowhere remote drb side other old new is
    feeds_report key here reports given new (dropped want cannot none is) =
        subst (Fed old) (sym is) (goes_rows remote drb side other old (set_incoming old (record (incoming old key) { wanted = false })) refl
        (λ e. with_receiver old e (incoming old H).receiver _ (in_same old key (record (incoming old key) { wanted = false }) (incoming_key old key) refl H)))
    feeds_report key here reports given new (no_room want can full none is) = goes_nowhere remote drb side other old new is
    feeds_report key here reports given new (gives_report want can room g is) = gives_a_report key here reports new g

    -- a data PDU is given
    gives_data : (key : Key) → source key ≡ old.name → (new : Node) → GivesData t old (outgoing old key) new → Fed old new
    gives_data key here new g = subst (Fed old) (sym is)
        (goes_entity remote drb side other old g.gives.port g.gives.side g.gives.entity now (set_outgoing n1 row) g.gives.its.here g.gives.its.is_open refl (λ q. refl) own
        (λ ne e fits. (
          subst (λ (s : Sender). Fits S e.tx other.rx s other.receiver (incoming old H).receiver)
              (sym (ap (λ (o : Outgoing). o.sender) (out_kept n1 row S (λ e. ne (sym (ap (λ (k : Key). Direct k.remote k.drb) (sym its ∙ e)) ∙ sym port))))) fits.0,
          fits.1,
        )))
      where
        o : Outgoing
        o = outgoing old key

        its : o.key ≡ key
        its = outgoing_key old key

        row : Outgoing
        row = record o { sender = gave_next o.sender }

        now : Entity
        now = record g.gives.entity { tx = g.gives.tx }

        n1 : Node
        n1 = set_entity old g.gives.side now

        is : new ≡ set_outgoing n1 row
        is = g.is ∙ ap (λ (n : Node). set_outgoing n row) g.gives.is

        port : g.gives.port ≡ Direct key.remote key.drb
        port = direct_port t old end o.key g.gives.port g.gives.its_port ∙ ap (λ (k : Key). Direct k.remote k.drb) its

        given : Kept
        given = record {
          tag = tag_of old o.key (Some (o.sender.first + next o.sender));
          sdu = under (id_at old o.key.remote) o.key.drb (pdcp_bytes o.sender.size (data_pdu o.sender (next o.sender) g.sdu));
          flags = [];
          retx_count = None;
        }

        keeps : (r : Receiver) → SenderKeeps r o.sender (gave_next o.sender)
        keeps r = record { size = refl; first = refl; place = omega arith; waits = refl; kept = λ m sdu is yet. is }

        own : Direct remote drb ≡ g.gives.port → Both remote drb side (half remote drb side old g.gives.entity) other
            → Both remote drb side (half remote drb side (set_outgoing n1 row) now) other
        own this fits =
            let key_is : key ≡ S = key_sent key remote drb side (here ∙ sym at) (this ∙ port) in
            let there = out_there old key (next o.sender) g.sdu g.its in
            let set : outgoing (set_outgoing n1 row) S ≡ row = out_set n1 row there.0 S (its ∙ key_is) (ap (outgoing_at old) (sym key_is) ∙ there.1) in
            let was : Fits S g.gives.entity.tx other.rx o.sender other.receiver (incoming old H).receiver = subst
            (λ (k : Key). Fits S g.gives.entity.tx other.rx (outgoing old k).sender other.receiver (incoming old H).receiver) (sym key_is) fits.0 in (
              subst (λ (x : Outgoing). Fits S g.gives.tx other.rx x.sender other.receiver (incoming old H).receiver) (sym set)
                  (fits_gives S g.gives.entity.tx other.rx o.sender other.receiver (incoming old H).receiver was (gave_next o.sender) (keeps other.receiver) given g.gives.tx
                  (ap (λ (x : Tx). x.kept) g.gives.gives.is)
                  (λ done none. data_pdu_of (next o.sender) (record {
                    below = omega arith;
                    its_key = its ∙ key_is;
                    its_count = refl;
                    heard = λ x. absurd (none x);
                    waits = λ yet. record {
                      sdu = g.sdu;
                      kept = g.its;
                      spelt = bare t old end o.key (pdcp_bytes o.sender.size (data_pdu o.sender (next o.sender) g.sdu));
                      unheard = λ has. omega (arith, was.heard (next o.sender) has);
                    };
                  }))
                  (λ count m some low same. omega (arith, same_Some (o.sender.first + next o.sender) count some, low, same))),
              fits.1,
            )

  feeds_reports : (keys : List Key) (old : Node) → IsEnd old → owner side (Direct remote drb) ≡ old.name → AllByRecursion (λ k. sink k ≡ old.name) keys → MayReport old
      → (given : List Key) (new : Node) → FeedsReports t old keys given new → Fed old new
  feeds_reports [] old end at all reports given new (none, is) = goes_nowhere remote drb side other old new is
  feeds_reports (key ∷ keys) old end at all reports given new (first, more, mid, one, rest, are) =
      let p = feeds_report old end at key all.0 reports first mid one in
      let q = report_rests t old key first mid one in
      goes_then remote drb side other old mid new p
      (feeds_reports keys mid (end_stays old mid q.same end) (at ∙ sym q.same.name) (subst (λ name. AllByRecursion (λ k. sink k ≡ name) keys) (sym q.same.name) all.1)
      (may_still old mid p q reports) more new rest)

  feeds_data : (key : Key) {old new : Node} → IsEnd old → owner side (Direct remote drb) ≡ old.name → source key ≡ old.name → FeedsData t key old new → Fed old new
  feeds_data key {old} end at here (rests_data none) = goes_nowhere remote drb side other old old refl
  feeds_data key {old} {new} end at here (gives_more {mid = mid} some g more) =
      let p = gives_data old end at key here mid g in
      let q = given_data t old key mid g in
      goes_then remote drb side other old mid new p (feeds_data key (end_stays old mid q.same end) (at ∙ sym q.same.name) (here ∙ sym q.same.name) more)

  feeds_each : (keys : List Key) (old : Node) → IsEnd old → owner side (Direct remote drb) ≡ old.name → AllByRecursion (λ k. source k ≡ old.name) keys → (new : Node)
      → FeedsEach t old keys new → Fed old new
  feeds_each [] old end at all new is = goes_nowhere remote drb side other old new is
  feeds_each (key ∷ keys) old end at all new (mid, one, rest) =
      let p = feeds_data key end at all.0 one in
      let q = data_rests t key one in
      goes_then remote drb side other old mid new p
      (feeds_each keys mid (end_stays old mid q.same end) (at ∙ sym q.same.name)
      (subst (λ name. AllByRecursion (λ k. source k ≡ name) keys) (sym q.same.name) all.1) new rest)

  -- the node feeds
  pub feeds_fed : (old : Node) → IsEnd old → owner side (Direct remote drb) ≡ old.name → MayReport old → (given : List Key) (new : Node) → Feeds t old given new → Fed old new
  feeds_fed old end at reports given new f =
      let p = feeds_reports (map in_key old.incoming) old end at end.ins reports given f.mid f.reports in
      let q = reports_rest t (map in_key old.incoming) old given f.mid f.reports in
      let mid = end_stays old f.mid q.same end in
      goes_then remote drb side other old f.mid new p (feeds_each (map out_key f.mid.outgoing) f.mid mid (at ∙ sym q.same.name) mid.outs new f.data_pdus)

-- an entity that stands for one that isn't there
pub no_entity : Entity
no_entity = record { tx = empty_tx S12 0 0 0; rx = empty_rx S12; epoch = 0 }
