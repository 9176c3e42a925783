-- Giving and granting have at most one outcome.
use Rattle.std.proofs.Common.{◌≡◌, inl, inr, ℕ, ◌+◌, ◌-◌, ◌<◌, min, Bool, true, false, List, length, get_or, Option, Some, None, refl, sym, ◌∙◌, ap, subst, arith}
use Rattle.std.proofs.lemmas.Bool.{cases_lt, cases_eq, cases_order, cases_Bool}
use Rattle.std.proofs.lemmas.List.{ext_get_or}
use Rattle.std.proofs.lemmas.Option.{same_Some}
use Rattle.link_base.specs.declared.names.SnSize.{SnSize}
use Rattle.link_base.specs.SequenceNumbers.{window}
use Rattle.rlc_pdu.specs.Amd.{Amd, amd_bytes}
use Rattle.rlc_model.specs.declared.transmitter.TxGrant.TheVariants.{Sent, Idle, Small}
use Rattle.rlc_model.specs.Numbers.{IsFirstRun}
use Rattle.rlc_model.specs.Pdu.{piece}
use Rattle.rlc_model.specs.Tx.{Tx, Kept, kept_at, tx_next_ack, room, is_pending, is_unsent, is_sent, PendingWaits, UnsentWaits, IsSentCount, IsNext, pending, unsent, header, Clears, IsPolled, by_pdus, by_bytes, nothing_waits, full, owed, Sends}
use Rattle.rlc_law.specs.OneOutcome.{OneGiving, OneGrant}
use Rattle.rlc_law.proofs.Unique.{first_one, bool_iff, run_one}

-- transmitters with the same variables are the same
pub same_tx : (r s : Tx) → r.size ≡ s.size → r.poll_pdu ≡ s.poll_pdu → r.poll_byte ≡ s.poll_byte → r.max_retx_threshold ≡ s.max_retx_threshold → r.kept ≡ s.kept → r.pdu_without_poll ≡ s.pdu_without_poll → r.byte_without_poll ≡ s.byte_without_poll → r.poll_sn ≡ s.poll_sn → r.poll_owed ≡ s.poll_owed → r.poll_retransmit_runs ≡ s.poll_retransmit_runs → r ≡ s
same_tx r s size poll_pdu poll_byte threshold kept pdus bytes poll_sn owes runs =
    ap (λ (z : SnSize). record r { size = z }) size
    ∙ ap (λ (n : ℕ). record r { size = s.size; poll_pdu = n }) poll_pdu
    ∙ ap (λ (n : ℕ). record r { size = s.size; poll_pdu = s.poll_pdu; poll_byte = n }) poll_byte
    ∙ ap (λ (n : ℕ). record r { size = s.size; poll_pdu = s.poll_pdu; poll_byte = s.poll_byte; max_retx_threshold = n }) threshold
    ∙ ap (λ (l : List (Option Kept)). record s { kept = l; pdu_without_poll = r.pdu_without_poll; byte_without_poll = r.byte_without_poll; poll_sn = r.poll_sn; poll_owed = r.poll_owed; poll_retransmit_runs = r.poll_retransmit_runs }) kept
    ∙ ap (λ (n : ℕ). record s { pdu_without_poll = n; byte_without_poll = r.byte_without_poll; poll_sn = r.poll_sn; poll_owed = r.poll_owed; poll_retransmit_runs = r.poll_retransmit_runs }) pdus
    ∙ ap (λ (n : ℕ). record s { byte_without_poll = n; poll_sn = r.poll_sn; poll_owed = r.poll_owed; poll_retransmit_runs = r.poll_retransmit_runs }) bytes
    ∙ ap (λ (o : Option ℕ). record s { poll_sn = o; poll_owed = r.poll_owed; poll_retransmit_runs = r.poll_retransmit_runs }) poll_sn
    ∙ ap (λ (b : Bool). record s { poll_owed = b; poll_retransmit_runs = r.poll_retransmit_runs }) owes
    ∙ ap (λ (b : Bool). record s { poll_retransmit_runs = b }) runs

-- one more than the greatest number that was sent
pub count_one : (t : Tx) (c d : ℕ) → IsSentCount t c → IsSentCount t d → c ≡ d
count_one t c d f g = elim (cases_order c d) [
  | inl e ↦ e
  | inr (inl lt) ↦ elim g.last [
    | inl none ↦ absurd (omega (arith, none))
    | inr sent ↦ absurd (omega (arith, lt, f.above (d - 1) sent))
  ]
  | inr (inr gt) ↦ elim f.last [
    | inl none ↦ absurd (omega (arith, none))
    | inr sent ↦ absurd (omega (arith, gt, g.above (c - 1) sent))
  ]
]

pub one_giving : OneGiving
one_giving old tag sdu m n r s a b = (a.its_number ∙ sym b.its_number, a.is ∙ sym b.is)

-- one run of bytes of one SDU is next
next_one : (t : Tx) (m m' : ℕ) (k k' : Kept) (a a' b b' : ℕ) → IsNext t m k a b → IsNext t m' k' a' b' → (m ≡ m') × (k ≡ k') × (a ≡ a') × (b ≡ b')
next_one t m m' k k' a a' b b' (pending first is run) (pending first' is' run') =
    let same : m ≡ m' = first_one (λ n. (p : ℕ) × (is_pending (kept_at t n) p ≡ true)) 0 m m' first first' in
    let kept : k ≡ k' = same_Some k k' (sym is ∙ ap (kept_at t) same ∙ is') in
    let runs = run_one k.flags a b a' b' run (subst (λ (k : Kept). IsFirstRun k.flags a' b') (sym kept) run') in
    (same, kept, runs.0, runs.1)
next_one t m m' k k' a a' b b' (pending first is run) (unsent none first' is' from to) = absurd (none (m, first.has.0, first.has.1))
next_one t m m' k k' a a' b b' (unsent none first is from to) (pending first' is' run') = absurd (none (m', first'.has.0, first'.has.1))
next_one t m m' k k' a a' b b' (unsent none first is from to) (unsent none' first' is' from' to') =
    let same : m ≡ m' = first_one (λ n. is_unsent (kept_at t n) ≡ true) 0 m m' first first' in
    let kept : k ≡ k' = same_Some k k' (sym is ∙ ap (kept_at t) same ∙ is') in
    (same, kept, from ∙ ap (λ (k : Kept). length k.flags) kept ∙ sym from', to ∙ ap (λ (k : Kept). length k.sdu) kept ∙ sym to')

-- the flags behind it are determined
clears_one : (flags f g : List Bool) (a e : ℕ) → Clears flags a e f → Clears flags a e g → f ≡ g
clears_one flags f g a e c d = ext_get_or false f g (c.long ∙ sym d.long) at
  where
    at : (p : ℕ) → p < length f → get_or f p false ≡ get_or g p false
    at p lt = elim (cases_lt p a) [
      | inl before ↦ c.rest p (inl before) ∙ sym (d.rest p (inl before))
      | inr from ↦ elim (cases_lt p e) [
        | inl within ↦ c.sent p from within ∙ sym (d.sent p from within)
        | inr past ↦ c.rest p (inr past) ∙ sym (d.rest p (inr past))
      ]
    ]

-- what depends on the SDUs alone
module _ (old r s : Tx) (kept : r.kept ≡ s.kept) (size : r.size ≡ s.size) where
  -- the same SDU at each number
  at_same : (n : ℕ) → kept_at r n ≡ kept_at s n
  at_same n = ap (λ (l : List (Option Kept)). get_or l n None) kept

  -- the same bytes wait
  unsent_back : UnsentWaits s → UnsentWaits r
  unsent_back w = (w.0, ap is_unsent (at_same w.0) ∙ w.1)

  pending_back : PendingWaits s → PendingWaits r
  pending_back w = (w.0, w.1, ap (λ (o : Option Kept). is_pending o w.1) (at_same w.0) ∙ w.2)

  -- the room is the same
  room_same : room r ≡ room s
  room_same = omega (arith, ap (λ (l : List (Option Kept)). length l) kept, ap (λ (l : List (Option Kept)). tx_next_ack (record s { kept = l })) kept, ap window size)

  -- so the poll is set by the same rule
  polled_too : (fresh : ℕ) → IsPolled old r fresh → IsPolled old s fresh
  polled_too fresh (by_pdus some on at) = by_pdus some on at
  polled_too fresh (by_bytes some on at) = by_bytes some on at
  polled_too fresh (nothing_waits none_u none_p) = nothing_waits (λ w. none_u (unsent_back w)) (λ w. none_p (pending_back w))
  polled_too fresh (full none_u no_room) = full (λ w. none_u (unsent_back w)) (sym room_same ∙ no_room)
  polled_too fresh (owed is) = owed is

  -- and the same numbers were sent
  count_too : (c : ℕ) → IsSentCount s c → IsSentCount r c
  count_too c f = record {
    above = λ n sent. f.above n (omega (arith, sent.0, ap (λ (l : List (Option Kept)). length l) kept), sym (ap is_sent (at_same n)) ∙ sent.1);
    last = elim f.last [
      | inl none ↦ inl none
      | inr sent ↦ inr (omega (arith, sent.0, ap (λ (l : List (Option Kept)). length l) kept), ap is_sent (at_same (c - 1)) ∙ sent.1)
    ];
  }

module _ (old : Tx) (n m m' : ℕ) (v v' : Amd) (r s : Tx) (a : Sends old n m v r) (b : Sends old n m' v' s) where
  -- both sent from the same run
  next_same : (m ≡ m') × (a.kept ≡ b.kept) × (a.a ≡ b.a) × (a.b ≡ b.b)
  next_same = next_one old m m' a.kept b.kept a.a b.a a.b b.b a.next b.next

  -- up to the same place
  end_same : a.e ≡ b.e
  end_same = a.end ∙ ap (λ (k : ℕ). min a.b (k + n - header old.size k)) next_same.2 ∙ ap (λ (k : ℕ). min k (b.a + n - header old.size b.a)) next_same.3 ∙ sym b.end

  -- and left the same flags
  flags_same : a.flags ≡ b.flags
  flags_same = clears_one a.kept.flags a.flags b.flags a.a a.e a.clears
      (subst (λ (k : Kept). Clears k.flags a.a a.e b.flags) (sym next_same.1) (subst (λ (k : ℕ). Clears b.kept.flags k a.e b.flags) (sym next_same.2) (subst (λ (k : ℕ). Clears b.kept.flags b.a k b.flags) (sym end_same) b.clears)))

  -- so the SDUs are the same
  kept_same : r.kept ≡ s.kept
  kept_same = ext_get_or None r.kept s.kept (a.long ∙ sym b.long) (λ j lt. elim (cases_eq j m) [
    | inl e ↦ ap (kept_at r) e ∙ a.this ∙ ap (λ (k : Kept). Some (record k { flags = a.flags })) next_same.1 ∙ ap (λ (f : List Bool). Some (record b.kept { flags = f })) flags_same ∙ sym b.this ∙ ap (kept_at s) (sym next_same.0 ∙ sym e)
    | inr ne ↦ a.others j ne ∙ sym (b.others j (λ e. ne (e ∙ sym next_same.0)))
  ])

  -- and the size
  size_same : r.size ≡ s.size
  size_same = a.same.size ∙ sym b.same.size

  -- as many bytes were unsent
  fresh_same : a.e - length (a.kept).flags ≡ b.e - length (b.kept).flags
  fresh_same = omega (arith, end_same, ap (λ (k : Kept). length k.flags) next_same.1)

  -- so the poll is the same
  poll_same : v.poll ≡ v'.poll
  poll_same = bool_iff v.poll v'.poll
      (λ is. b.counters.polled.1 (subst (IsPolled old s) fresh_same (polled_too old r s kept_same size_same (a.e - length (a.kept).flags) (a.counters.polled.0 is))))
      (λ is. a.counters.polled.1 (subst (IsPolled old r) (sym fresh_same) (polled_too old s r (sym kept_same) (sym size_same) (b.e - length (b.kept).flags) (b.counters.polled.0 is))))

  -- the PDUs are the same
  view_same : v ≡ v'
  view_same = a.view
      ∙ ap (λ (k : ℕ). piece old.size k a.kept.sdu a.a a.e v.poll) next_same.0
      ∙ ap (λ (k : Kept). piece old.size m' k.sdu a.a a.e v.poll) next_same.1
      ∙ ap (λ (k : ℕ). piece old.size m' b.kept.sdu k a.e v.poll) next_same.2
      ∙ ap (λ (k : ℕ). piece old.size m' b.kept.sdu b.a k v.poll) end_same
      ∙ ap (λ (p : Bool). piece old.size m' b.kept.sdu b.a b.e p) poll_same
      ∙ sym b.view

  -- and the transmitters
  sends_one : r ≡ s
  sends_one = elim (cases_Bool v.poll) [
    | inl polls ↦
        let f = a.counters.begins polls in
        let g = b.counters.begins (sym poll_same ∙ polls) in
        let count : f.highest ≡ g.highest = omega (arith, count_one r (f.highest + 1) (g.highest + 1) f.is_highest (count_too old r s kept_same size_same (g.highest + 1) g.is_highest)) in
        whole (f.pdu_without_poll ∙ sym g.pdu_without_poll) (f.byte_without_poll ∙ sym g.byte_without_poll) (f.poll_sn ∙ ap (λ (n : ℕ). Some n) count ∙ sym g.poll_sn) (f.poll_owed ∙ sym g.poll_owed) (f.runs ∙ sym g.runs)
    | inr quiet ↦
        let f = a.counters.counts quiet in
        let g = b.counters.counts (sym poll_same ∙ quiet) in
        whole (f.pdu_without_poll ∙ ap (λ (k : ℕ). old.pdu_without_poll + min k 1) fresh_same ∙ sym g.pdu_without_poll) (f.byte_without_poll ∙ ap (λ (k : ℕ). old.byte_without_poll + k) fresh_same ∙ sym g.byte_without_poll) (f.poll_sn ∙ sym g.poll_sn) (f.poll_owed ∙ sym g.poll_owed) (f.runs ∙ sym g.runs)
  ]
    where
      whole : r.pdu_without_poll ≡ s.pdu_without_poll → r.byte_without_poll ≡ s.byte_without_poll → r.poll_sn ≡ s.poll_sn → r.poll_owed ≡ s.poll_owed → r.poll_retransmit_runs ≡ s.poll_retransmit_runs → r ≡ s
      whole = same_tx r s size_same (a.same.poll_pdu ∙ sym b.same.poll_pdu) (a.same.poll_byte ∙ sym b.same.poll_byte) (a.same.max_retx_threshold ∙ sym b.same.max_retx_threshold) kept_same

-- where something is next the transmitter isn't idle
not_idle : (t : Tx) (m : ℕ) (k : Kept) (a b : ℕ) → IsNext t m k a b → (PendingWaits t → ⊥) → (UnsentWaits t → ⊥) → ⊥
not_idle t m k a b (pending first is run) none_p none_u = none_p (m, first.has.0, first.has.1)
not_idle t m k a b (unsent none first is from to) none_p none_u = none_u (m, first.has)

pub one_grant : OneGrant
one_grant old n Idle Idle r s f g = (refl, f.2 ∙ sym g.2)
one_grant old n Idle (Small need) r s f g = absurd (not_idle old g.0 g.1 g.2 g.3 g.4 f.0 f.1)
one_grant old n Idle (Sent m bytes) r s f g = absurd (not_idle old m g.2.kept g.2.a g.2.b g.2.next f.0 f.1)
one_grant old n (Small need) Idle r s f g = absurd (not_idle old f.0 f.1 f.2 f.3 f.4 g.0 g.1)
one_grant old n (Small need) (Small need') r s f g =
    let same = next_one old f.0 g.0 f.1 g.1 f.2 g.2 f.3 g.3 f.4 g.4 in
    (ap (λ (k : ℕ). Small k) (f.5 ∙ ap (λ (k : ℕ). header old.size k + 1) same.2 ∙ sym g.5), f.7 ∙ sym g.7)
one_grant old n (Small need) (Sent m bytes) r s f g =
    let same = next_one old f.0 m f.1 g.2.kept f.2 g.2.a f.3 g.2.b f.4 g.2.next in
    absurd (omega (arith, f.5, f.6, g.2.fits, ap (λ (k : ℕ). header old.size k) same.2))
one_grant old n (Sent m bytes) Idle r s f g = absurd (not_idle old m f.2.kept f.2.a f.2.b f.2.next g.0 g.1)
one_grant old n (Sent m bytes) (Small need) r s f g =
    let same = next_one old g.0 m g.1 f.2.kept g.2 f.2.a g.3 f.2.b g.4 f.2.next in
    absurd (omega (arith, g.5, g.6, f.2.fits, ap (λ (k : ℕ). header old.size k) same.2))
one_grant old n (Sent m bytes) (Sent m' bytes') r s f g =
    let views = view_same old n m m' f.0 g.0 r s f.2 g.2 in
    let numbers = (next_same old n m m' f.0 g.0 r s f.2 g.2).0 in
    (ap (λ (k : ℕ). Sent k bytes) numbers ∙ ap (λ (l : List ℕ). Sent m' l) (f.1 ∙ ap (amd_bytes old.size) views ∙ sym g.1), sends_one old n m m' f.0 g.0 r s f.2 g.2)
