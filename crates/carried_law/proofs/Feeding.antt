-- What a node that feeds gives to its transmitters, and what it leaves.
use Rattle.std.proofs.Common.{◌≡◌, inl, inr, ℕ, ◌+◌, ◌%◌, false, List, [], ◌∷◌, get_or, map, Option, Some, None, refl, sym, ◌∙◌, ap, subst}
use Rattle.std.specs.List.{Contains}
use Rattle.link_base.specs.declared.names.Key.{Key}
use Rattle.link_base.specs.declared.names.LocalId.{LocalId}
use Rattle.link_base.specs.declared.names.PortName.{PortName}
use Rattle.link_base.specs.declared.names.SnSize.{SnSize}
use Rattle.link_base.specs.declared.rlc_words.Tag.{Tag}
use Rattle.link_base.specs.SequenceNumbers.{modulus}
use Rattle.bearer_map.specs.Contents.{Contents}
use Rattle.bearer_map.specs.declared.ids.Attachment.{Attachment}
use Rattle.rlc_law.proofs.Lists.{contains_here, contains_later}
use Rattle.pdcp_pdu.specs.Pdcp.{Sdu, Report, pdcp_bytes}
use Rattle.pdcp_model.specs.Receiver.{Receiver, IsReport}
use Rattle.pdcp_model.specs.Sender.{kept_at, next, gave_next, data_pdu as data_pdu_of}
use Rattle.node_model.specs.Feeding.{in_key, out_key, port_on, first_hop, under, GivesPdu, FeedsReport, unwanted, dropped, no_room, gives as gives_report, FeedsReports, GivesData, FeedsData, rests as rests_data, gives as gives_data, FeedsEach, Feeds}
use Rattle.node_model.specs.Names.{back}
use Rattle.node_model.specs.State.{Incoming, Outgoing, Node, id_in, id_at, outgoing_at, outgoing, incoming, set_outgoing, set_incoming}
use Rattle.node_model.proofs.Names.{cases_key}
use Rattle.chain_model.proofs.Lookups.{outgoing_key, incoming_key}
use Rattle.chain_law.proofs.Leaving.{NodeSame, in_same, out_kept, out_set, out_there, same_entity, same_in, same_itself, same_out, same_then}
use Rattle.book_law.proofs.Ends.{out_is}
use Rattle.book_law.proofs.Senders.{KeepsAll, keeps_itself, keeps_on}
use Rattle.carried_law.proofs.Keeping.{NodeKeeps, node_beside, node_itself, node_then, node_set, given_sdus}

-- a node has this SDU to give over a port: the data PDU of an SDU that a sender keeps, or the report of a receiving side
pub data IsFed (t : Contents) (n : Node) (port : PortName) (sdu : List ℕ) : Type 0 where
  data_pdu : (key : Key) (m : ℕ) (body : List ℕ) → Contains (map out_key n.outgoing) key → kept_at (outgoing n key).sender m ≡ Some body → first_hop t n key ≡ Some port
      → sdu ≡ under (id_at n key.remote) key.drb (pdcp_bytes (outgoing n key).sender.size (data_pdu_of (outgoing n key).sender m body)) → IsFed t n port sdu
  report : (key : Key) (fmc : ℕ) (bits : List ℕ) → Contains (map in_key n.incoming) key → IsReport (incoming n key).receiver fmc bits → first_hop t n (back key) ≡ Some port
      → sdu ≡ under (id_at n key.remote) key.drb (pdcp_bytes (incoming n key).receiver.size (Report fmc bits)) → IsFed t n port sdu

-- what a node that feeds leaves: names, attachments and keys, receiving sides, and all that senders have accepted
pub record Rests (old new : Node) : Type 0 where
  pub same : NodeSame old new
  pub receivers : (k : Key) → (incoming new k).receiver ≡ (incoming old k).receiver
  pub senders : (k : Key) → KeepsAll (outgoing old k).sender (outgoing new k).sender

pub rests_itself : (n : Node) → Rests n n
rests_itself n = record { same = same_itself n; receivers = λ k. refl; senders = λ k. keeps_itself (outgoing n k).sender }

rests_then : (x y z : Node) → Rests x y → Rests y z → Rests x z
rests_then x y z p q = record {
  same = same_then x y z p.same q.same;
  receivers = λ k. q.receivers k ∙ p.receivers k;
  senders = λ k. keeps_on (outgoing x k).sender (outgoing y k).sender (outgoing z k).sender (p.senders k) (q.senders k);
}

-- a sender is set that has accepted the same
senders_rest : (n : Node) (of : Key) (o old : Outgoing) → o.key ≡ of → outgoing_at n of ≡ Some old → KeepsAll old.sender o.sender
    → (k : Key) → KeepsAll (outgoing n k).sender (outgoing (set_outgoing n o) k).sender
senders_rest n of o old its found keeps k = elim (cases_key of k) [
  | inr ne ↦ subst (λ (x : Outgoing). KeepsAll (outgoing n k).sender x.sender) (sym (out_kept n o k (λ e. ne (sym its ∙ e)))) (keeps_itself (outgoing n k).sender)
  | inl is ↦
      let there : outgoing_at n k ≡ Some old = ap (outgoing_at n) (sym is) ∙ found in
      subst (λ (x : Outgoing). KeepsAll (outgoing n k).sender x.sender) (sym (out_set n o old k (its ∙ is) there))
      (subst (λ (x : Outgoing). KeepsAll x.sender o.sender) (sym (out_is n k old there)) keeps)
]

-- a node is fed with what may be given, once all that it has to give may be
module _ (t : Contents) (first : Node) (May : PortName → List ℕ → Type 0) (Begins : PortName → ℕ → Type 0)
    (fed : (q : PortName) (sdu : List ℕ) → IsFed t first q sdu → May q sdu) where
  pub record Goes (old new : Node) : Type 0 where
    pub keeps : NodeKeeps May Begins old new
    pub rests : Rests old new

  goes_itself : (old new : Node) → new ≡ old → Goes old new
  goes_itself old new is = subst (Goes old) (sym is) (record { keeps = node_itself old old refl; rests = rests_itself old })

  goes_then : (x y z : Node) → Goes x y → Goes y z → Goes x z
  goes_then x y z p q = record { keeps = node_then x y z p.keeps q.keeps; rests = rests_then x y z p.rests q.rests }

  goes_in : (n : Node) (of : Key) (j : Incoming) → j.key ≡ of → j.receiver ≡ (incoming n of).receiver → Goes n (set_incoming n j)
  goes_in n of j its same = record {
    keeps = node_beside n (set_incoming n j) refl refl (same_in n j).ins (λ q. refl);
    rests = record { same = same_in n j; receivers = in_same n of j its same; senders = λ k. keeps_itself (outgoing n k).sender };
  }

  goes_given : (old : Node) (key : Key) (tag : Tag) (pdu : List ℕ) (new : Node) (g : GivesPdu t old key tag pdu new) → May g.port (under (id_at old key.remote) key.drb pdu)
      → Goes old new
  goes_given old key tag pdu new g may = record {
    keeps = node_set old g.port g.side g.entity (record g.entity { tx = g.tx }) g.its refl (given_sdus g.entity.tx g.tx tag _ g.number g.gives may) new g.is;
    rests = subst (Rests old) (sym g.is) (record {
      same = same_entity old g.side (record g.entity { tx = g.tx });
      receivers = λ k. refl;
      senders = λ k. keeps_itself (outgoing old k).sender;
    });
  }

  module _ (old : Node) (rested : Rests first old) (key : Key) where
    ids : id_at old key.remote ≡ id_at first key.remote
    ids = ap (λ (l : List Attachment). id_in l key.remote) rested.same.attached

    may_data : Contains (map out_key first.outgoing) key → (m : ℕ) (body : List ℕ) → kept_at (outgoing old key).sender m ≡ Some body
        → (port : PortName) → first_hop t old key ≡ Some port
        → May port (under (id_at old key.remote) key.drb (pdcp_bytes (outgoing old key).sender.size (data_pdu_of (outgoing old key).sender m body)))
    may_data among m body kept port hop =
        let s = (outgoing old key).sender in
        let s0 = (outgoing first key).sender in
        let same = rested.senders key in
        fed port _ (data_pdu key m body among (ap (λ (l : List (Option (List ℕ))). get_or l m None) (sym same.kept) ∙ kept)
        (ap (λ (o : Option LocalId). port_on t o key) (sym ids) ∙ hop)
        (ap (λ (o : Option LocalId). under o key.drb (pdcp_bytes s.size (data_pdu_of s m body))) ids
        ∙ ap (λ (z : SnSize). under (id_at first key.remote) key.drb (pdcp_bytes z (Sdu ((s.first + m) % modulus z) body))) same.size
        ∙ ap (λ (n : ℕ). under (id_at first key.remote) key.drb (pdcp_bytes s0.size (Sdu ((n + m) % modulus s0.size) body))) same.first))

    may_report : Contains (map in_key first.incoming) key → (fmc : ℕ) (bits : List ℕ) → IsReport (incoming old key).receiver fmc bits
        → (port : PortName) → first_hop t old (back key) ≡ Some port
        → May port (under (id_at old key.remote) key.drb (pdcp_bytes (incoming old key).receiver.size (Report fmc bits)))
    may_report among fmc bits is port hop =
        let same = rested.receivers key in
        fed port _ (report key fmc bits among (subst (λ (r : Receiver). IsReport r fmc bits) same is)
        (ap (λ (o : Option LocalId). port_on t o (back key)) (sym ids) ∙ hop)
        (ap (λ (o : Option LocalId). under o key.drb (pdcp_bytes (incoming old key).receiver.size (Report fmc bits))) ids
        ∙ ap (λ (r : Receiver). under (id_at first key.remote) key.drb (pdcp_bytes r.size (Report fmc bits))) same))

    report_goes : Contains (map in_key first.incoming) key → (given : List Key) (new : Node) → FeedsReport t old (incoming old key) given new → Goes old new
    report_goes among given new (unwanted not_wanted none is) = goes_itself old new is
    report_goes among given new (dropped wanted cannot none is) = subst (Goes old) (sym is)
        (goes_in old key (record (incoming old key) { wanted = false }) (incoming_key old key) refl)
    report_goes among given new (no_room wanted can full none is) = goes_itself old new is
    report_goes among given new (gives_report wanted can room g one) =
        let i = incoming old key in
        let its = incoming_key old key in
        goes_then old g.mid new
        (goes_given old _ _ _ g.mid g.gives (subst (λ (k : Key). May g.gives.port (under (id_at old k.remote) k.drb (pdcp_bytes i.receiver.size (Report g.fmc g.map)))) (sym its)
        (may_report among g.fmc g.map g.its g.gives.port (ap (λ (k : Key). first_hop t old (back k)) (sym its) ∙ g.gives.its_port))))
        (subst (Goes g.mid) (sym g.is) (goes_in g.mid key (record i { wanted = false; reported = i.receiver.handed }) its
        (ap (λ (n : Node). (incoming n key).receiver) (sym g.gives.is))))

    data_goes : Contains (map out_key first.outgoing) key → (new : Node) → GivesData t old (outgoing old key) new → Goes old new
    data_goes among new g =
        let o = outgoing old key in
        let its = outgoing_key old key in
        let row : Outgoing = record o { sender = gave_next o.sender } in
        let there = out_there old key (next o.sender) g.sdu g.its in
        goes_then old g.mid new
        (goes_given old _ _ _ g.mid g.gives
        (subst (λ (k : Key). May g.gives.port (under (id_at old k.remote) k.drb (pdcp_bytes o.sender.size (data_pdu_of o.sender (next o.sender) g.sdu)))) (sym its)
        (may_data among (next o.sender) g.sdu g.its g.gives.port (ap (first_hop t old) (sym its) ∙ g.gives.its_port))))
        (subst (Goes g.mid) (sym g.is) (record {
          keeps = node_beside g.mid (set_outgoing g.mid row) refl (same_out g.mid row).outs refl (λ q. refl);
          rests = record {
            same = same_out g.mid row;
            receivers = λ k. refl;
            senders = senders_rest g.mid key row there.0 its (ap (λ (n : Node). outgoing_at n key) g.gives.is ∙ there.1)
                (subst (λ (x : Outgoing). KeepsAll x.sender row.sender) (out_is old key there.0 there.1) (record { size = refl; first = refl; kept = refl }));
          };
        }))

  reports_go : (keys : List Key) → ((k : Key) → Contains keys k → Contains (map in_key first.incoming) k) → (old : Node) → Rests first old
      → (given : List Key) (new : Node) → FeedsReports t old keys given new → Goes old new
  reports_go [] among old rested given new f = goes_itself old new f.1
  reports_go (key ∷ keys) among old rested given new f =
      let one = report_goes old rested key (among key (contains_here key keys)) f.0 f.2 f.3 in
      goes_then old f.2 new one (reports_go keys (λ k has. among k (contains_later key keys k has)) f.2 (rests_then first old f.2 rested one.rests) f.1 new f.4)

  key_goes : (key : Key) → Contains (map out_key first.outgoing) key → {old new : Node} → Rests first old → FeedsData t key old new → Goes old new
  key_goes key among {old} rested (rests_data none) = goes_itself old old refl
  key_goes key among {old} {new} rested (gives_data {mid = mid} some g more) =
      let one = data_goes old rested key among mid g in
      goes_then old mid new one (key_goes key among (rests_then first old mid rested one.rests) more)

  each_goes : (keys : List Key) → ((k : Key) → Contains keys k → Contains (map out_key first.outgoing) k) → (old : Node) → Rests first old
      → (new : Node) → FeedsEach t old keys new → Goes old new
  each_goes [] among old rested new f = goes_itself old new f
  each_goes (key ∷ keys) among old rested new f =
      let one = key_goes key (among key (contains_here key keys)) rested f.1 in
      goes_then old f.0 new one (each_goes keys (λ k has. among k (contains_later key keys k has)) f.0 (rests_then first old f.0 rested one.rests) new f.2)

  pub feeds_go : (given : List Key) (new : Node) → Feeds t first given new → Goes first new
  feeds_go given new f =
      let reports = reports_go (map in_key first.incoming) (λ k has. has) first (rests_itself first) given f.mid f.reports in
      goes_then first f.mid new reports (each_goes (map out_key f.mid.outgoing)
      (λ k has. subst (λ (l : List Key). Contains l k) reports.rests.same.outs has) f.mid reports.rests new f.data_pdus)
