-- An end that feeds keeps at its direct ports what its senders give there.
use Rattle.std.proofs.Common.{◌≡◌, ◌⊎◌, inl, inr, ℕ, ◌+◌, ◌<◌, ◌≤◌, false, List, [], ◌∷◌, length, map, get_or, Option, Some, None, refl, sym, ◌∙◌, ap, subst, arith}
use Rattle.std.proofs.lemmas.Bool.{cases_Bool, cases_eq, cases_lt, cond-false, cond-true}
use Rattle.std.proofs.lemmas.List.{get_or_append_left, get_or_push}
use Rattle.std.proofs.lemmas.Option.{none-some, same_Some}
use Rattle.link_base.specs.declared.names.Key.{Key}
use Rattle.link_base.specs.declared.names.LocalId.{LocalId}
use Rattle.link_base.specs.declared.names.PortName.TheVariants.{Direct}
use Rattle.link_base.specs.declared.names.Remote.{Remote}
use Rattle.link_base.specs.declared.rlc_words.Tag.{Tag}
use Rattle.bearer_map.specs.declared.ids.Attachment.{Attachment}
use Rattle.bearer_map.specs.Contents.{Contents}
use Rattle.pdcp_model.specs.Sender.{Sender, gave_next, kept_at, next}
use Rattle.rlc_model.specs.Sides.{Entity}
use Rattle.rlc_model.specs.Tx.{Tx, Kept, Gives}
use Rattle.rlc_law.proofs.Base.{kept_below as given_below}
use Rattle.node_model.specs.Feeding.{Feeds, FeedsReports, FeedsReport, FeedsEach, FeedsData, GivesPdu, GivesData, port_on, out_key, in_key}
use Rattle.node_model.specs.Feeding.FeedsReport.{unwanted, dropped, no_room, gives as gives_report}
use Rattle.node_model.specs.Feeding.FeedsData.{rests, gives as gives_more}
use Rattle.node_model.specs.Names.{is_remote}
use Rattle.node_model.specs.State.{Node, entity_at, id_at, id_in, incoming, outgoing, set_entity, set_outgoing}
use Rattle.chain_model.proofs.Lookups.{outgoing_key}
use Rattle.heard_law.specs.Telling.{is_attached_to, of_remote}
use Rattle.tag_law.specs.Laws.{KeepsCount}
use Rattle.tag_law.proofs.Calls.{IsKept, StillKeeps}
use Rattle.tag_law.proofs.Kept.{NodeKept, called_kept, received_kept, sets_sender, side_from}
use Rattle.tag_law.proofs.Senders.{kept_below, run_free}

-- a transmitter that is given an SDU keeps what it kept, and this one
pub given_still : (old : Tx) (tag : Tag) (sdu : List ℕ) (number : ℕ) (new : Tx) → Gives old tag sdu number new → StillKeeps old new
given_still old tag sdu number new g n k here = (
  k,
  ap (λ (t : Tx). get_or t.kept n None) g.is ∙ get_or_append_left old.kept (Some last ∷ []) None n (given_below old n k here) ∙ here,
  refl,
)
  where
    last : Kept
    last = record { tag = tag; sdu = sdu; flags = []; retx_count = None }

given_last : (old : Tx) (tag : Tag) (sdu : List ℕ) (number : ℕ) (new : Tx) → Gives old tag sdu number new → IsKept new (length old.kept) tag
given_last old tag sdu number new g = (last, ap (λ (t : Tx). get_or t.kept (length old.kept) None) g.is ∙ get_or_push old.kept (Some last) None (length old.kept) refl, refl)
  where
    last : Kept
    last = record { tag = tag; sdu = sdu; flags = []; retx_count = None }

-- a remote of which nothing is attached has no identity
id_none : (l : List Attachment) (r : Remote) → of_remote r l ≡ [] → id_in l r ≡ None
id_none [] r none = refl
id_none (a ∷ l) r none = elim (cases_Bool (is_remote r a.remote)) [
  | inl own ↦ absurd (omega (arith, ap (λ (xs : List Attachment). length xs) (sym (cond-true (is_attached_to r a) (a ∷ of_remote r l) (of_remote r l) own) ∙ none)))
  | inr other ↦ cond-false (is_remote r a.remote) (Some a.id) (id_in l r) other
      ∙ id_none l r (sym (cond-false (is_attached_to r a) (a ∷ of_remote r l) (of_remote r l) other) ∙ none)
]

-- what a sender that gave its next SDU keeps below its place is that SDU, or was below the place before
below : (s : Sender) (n : ℕ) (sdu : List ℕ) → n < (gave_next s).place → kept_at s n ≡ Some sdu → (n ≡ next s) ⊎ (n < s.place)
below s n sdu low here = elim (cases_lt n s.place) [
  | inl before ↦ inr before
  | inr from ↦ elim (cases_eq n (next s)) [
    | inl this ↦ inl this
    | inr other ↦ absurd (none-some sdu (sym (run_free s.kept s.place n from (omega (arith, low, other))) ∙ here))
  ]
]

module _ (t : Contents) where
  pdu_kept : (old : Node) (key : Key) (tag : Tag) (pdu : List ℕ) (new : Node) → GivesPdu t old key tag pdu new → NodeKept old → NodeKept new
  pdu_kept old key tag pdu new g has = subst NodeKept (sym g.is)
      (called_kept old g.port g.side g.entity (record g.entity { tx = g.tx }) g.its (given_still g.entity.tx tag _ g.number g.tx g.gives) has)

  report_kept : (old : Node) (key : Key) (given : List Key) (new : Node) → FeedsReport t old (incoming old key) given new → NodeKept old → NodeKept new
  report_kept old key given new (unwanted not_wanted none is) has = subst NodeKept (sym is) has
  report_kept old key given new (dropped wanted cannot none is) has = subst NodeKept (sym is) (received_kept old (record (incoming old key) { wanted = false }) has)
  report_kept old key given new (no_room wanted can full none is) has = subst NodeKept (sym is) has
  report_kept old key given new (gives_report wanted can room g one) has = subst NodeKept (sym g.is) (received_kept g.mid _ (pdu_kept old _ _ _ g.mid g.gives has))

  reports_kept : (keys : List Key) (old : Node) (given : List Key) (new : Node) → FeedsReports t old keys given new → NodeKept old → NodeKept new
  reports_kept [] old given new f has = subst NodeKept (sym f.1) has
  reports_kept (key ∷ keys) old given new (first, more, mid, one, rest, are) has = reports_kept keys mid more new rest (report_kept old key first mid one has)

  -- a data PDU is given
  data_kept : (old : Node) (key : Key) (new : Node) → GivesData t old (outgoing old key) new → NodeKept old → NodeKept new
  data_kept old key new d has = subst NodeKept (sym (d.is ∙ ap (λ (m : Node). set_outgoing m (record (outgoing old key) { sender = gave_next s })) d.gives.is)) (record {
    direct = mid_kept.direct;
    places = λ k. elim (sets_sender mid key gave_next k) [
      | inr other ↦ subst (λ (s : Sender). s.place ≤ length s.kept) (sym other.0) (has.places k)
      | inl own ↦ subst (λ (s : Sender). s.place ≤ length s.kept) (sym own.1) (place_within k own.0)
    ];
    kept = λ k e is idle i sdu low here. elim (sets_sender mid key gave_next k) [
      | inr other ↦ subst (λ (s : Sender). KeepsCount e.tx k (s.first + i)) (sym other.0) (mid_kept.kept k e is (ap (λ (s : Sender). s.waits) (sym other.0) ∙ idle) i sdu
          (subst (λ (s : Sender). i < s.place) other.0 low) (ap (λ (s : Sender). kept_at s i) (sym other.0) ∙ here))
      | inl own ↦ subst (λ (s : Sender). KeepsCount e.tx k (s.first + i)) (sym own.1) (own_kept k own.0 e is (ap (λ (s : Sender). s.waits) (sym own.1) ∙ idle) i sdu
          (subst (λ (s : Sender). i < s.place) own.1 low) (ap (λ (s : Sender). kept_at s i) (sym own.1) ∙ here))
    ];
  })
    where
      s : Sender
      s = (outgoing old key).sender

      now : Entity
      now = record d.gives.entity { tx = d.gives.tx }

      mid : Node
      mid = set_entity old d.gives.side now

      mid_kept : NodeKept mid
      mid_kept = called_kept old d.gives.port d.gives.side d.gives.entity now d.gives.its (given_still d.gives.entity.tx _ _ d.gives.number d.gives.tx d.gives.gives) has

      place_within : (k : Key) → key ≡ k → (gave_next (outgoing old k).sender).place ≤ length (outgoing old k).sender.kept
      place_within k same = subst (λ (k : Key). (gave_next (outgoing old k).sender).place ≤ length (outgoing old k).sender.kept) same (omega (
        arith,
        kept_below s
            (next s) d.sdu d.its,
      ))

      -- the direct port of a key that isn't attached is the one to which its PDUs go
      hop : (k : Key) → key ≡ k → id_at old k.remote ≡ None → d.gives.port ≡ Direct k.remote k.drb
      hop k same none =
          let its : (outgoing old key).key ≡ k = outgoing_key old key ∙ same in
          let at : id_at old (outgoing old key).key.remote ≡ None = ap (λ (k : Key). id_at old k.remote) its ∙ none in
          same_Some d.gives.port (Direct k.remote k.drb) (sym d.gives.its_port ∙ ap (λ (id : Option LocalId). port_on t id (outgoing old key).key) at
          ∙ ap (λ (k : Key). Some (Direct k.remote k.drb)) its)

      own_kept : (k : Key) → key ≡ k → (e : Entity) → entity_at mid (Direct k.remote k.drb) ≡ Some e → (outgoing old k).sender.waits ≡ false → (i : ℕ) (sdu : List ℕ)
          → i < (gave_next (outgoing old k).sender).place → kept_at (outgoing old k).sender i ≡ Some sdu → KeepsCount e.tx k ((outgoing old k).sender.first + i)
      own_kept k same e is idle i sdu low here = elim (below (outgoing old k).sender i sdu low here) [
        | inr before ↦ mid_kept.kept k e is idle i sdu before here
        | inl this ↦ elim (side_from old d.gives.port d.gives.side d.gives.entity now d.gives.its (Direct k.remote k.drb) e is) [
          | inr other ↦ absurd (other.0 (sym (hop k same (id_none old.attached k.remote (has.direct k.remote k.drb e other.1)))))
          | inl own ↦ subst (λ (x : Entity). KeepsCount x.tx k ((outgoing old k).sender.first + i)) own.1 (last this)
        ]
      ]
        where
          last : i ≡ next (outgoing old k).sender → KeepsCount d.gives.tx k ((outgoing old k).sender.first + i)
          last this =
              let at = given_last d.gives.entity.tx _ _ d.gives.number d.gives.tx d.gives.gives in
              record {
                number = length d.gives.entity.tx.kept;
                sdu = at.0;
                here = at.1;
                key = ap (λ (t : Tag). t.key) at.2 ∙ outgoing_key old key ∙ same;
                count = ap (λ (t : Tag). t.count) at.2 ∙ ap (λ (k : Key). Some ((outgoing old k).sender.first + next (outgoing old k).sender)) same
                    ∙ ap (λ (n : ℕ). Some ((outgoing old k).sender.first + n)) (sym this);
              }

  feeds_data_kept : (key : Key) {old new : Node} → FeedsData t key old new → NodeKept old → NodeKept new
  feeds_data_kept key {old} (rests none) has = has
  feeds_data_kept key {old} {new} (gives_more {mid = mid} some g more) has = feeds_data_kept key more (data_kept old key mid g has)

  each_kept : (keys : List Key) (old new : Node) → FeedsEach t old keys new → NodeKept old → NodeKept new
  each_kept [] old new f has = subst NodeKept (sym f) has
  each_kept (key ∷ keys) old new (mid, one, rest) has = each_kept keys mid new rest (feeds_data_kept key one has)

  -- a node feeds
  pub feeds_kept : (old : Node) (given : List Key) (new : Node) → Feeds t old given new → NodeKept old → NodeKept new
  feeds_kept old given new f has = each_kept (map out_key f.mid.outgoing) f.mid new f.data_pdus (reports_kept (map in_key old.incoming) old given f.mid f.reports has)
