-- What each call of a transmitter keeps, whatever STATUS it hears.
use Rattle.std.proofs.Common.{◌≡◌, ◌↔◌, inl, inr, ℕ, ◌+◌, ◌-◌, ◌<◌, ◌≤◌, Bool, true, false, cond, nat_lt, eqb, List, [], ◌∷◌, ◌++◌, length, take, drop, Option, Some, None, refl, sym, ◌∙◌, ap, subst, arith, length-append, length-take, eqb-true, lt-ltb, le-ltb}
use Rattle.std.proofs.lemmas.Bool.{cases_Bool, cases_eq, cond-true, cond-false, eqb-false}
use Rattle.std.proofs.lemmas.List.{get_or_append_left, length_push}
use Rattle.std.proofs.lemmas.Option.{none-some}
use Rattle.link_base.specs.declared.names.SnSize.{SnSize}
use Rattle.link_base.specs.declared.names.SnSize.TheVariants.{S12, S18}
use Rattle.link_base.specs.declared.rlc_words.Tag.{Tag}
use Rattle.rlc_status.specs.declared.status.Status.{Status}
use Rattle.rlc_status.specs.Says.{SaysReceived}
use Rattle.rlc_pdu.specs.Amd.{Amd, sn_end, first_octets, so_octets, amd_bytes}
use Rattle.rlc_model.specs.declared.transmitter.TxGrant.TheVariants.{Sent, Idle, Small}
use Rattle.rlc_model.specs.declared.transmitter.StatusHeard.TheVariants.{Acked, Old, Beyond}
use Rattle.rlc_model.specs.Pdu.{piece, si_of}
use Rattle.rlc_model.specs.Tx.{Tx, Kept, kept_at, tx_next, tx_next_ack, header, Gives, Sends}
use Rattle.rlc_model.specs.Retransmission.{RetransmitsLowest, stays, retransmits, UpdatesSdu, confirmed, missing, rest, Acknowledges}
use Rattle.rlc_law.specs.Transmitter.{gives, grants, hears_status, expires_poll, SendsWithin, ConfirmsReceived, StaysConfirmed}
use Rattle.rlc_law.proofs.Base.{near_one}
use Rattle.rlc_law.proofs.Grant.{next_was}
use Rattle.rlc_law.proofs.Acknowledge.{Keeps, acks_keeps, expires_keeps, lowest_keeps}

-- the octets before an SO
first_len : (size : SnSize) (v : Amd) → length (first_octets size v) ≡ sn_end size
first_len S12 v = refl
first_len S18 v = refl

-- SO has two octets where the piece doesn't begin its SDU
offset_len : (a : ℕ) (ends : Bool) → length (so_octets (si_of (eqb a 0) ends) a) ≡ cond (nat_lt 0 a) 2 0
offset_len a ends = elim (cases_Bool (eqb a 0)) [
  | inl is ↦ ap (λ (b : Bool). length (so_octets (si_of b ends) a)) is ∙ first ends ∙ sym (cond-false (nat_lt 0 a) 2 0 (le-ltb 0 a (omega (arith, eqb-true a 0 is))))
  | inr not ↦ ap (λ (b : Bool). length (so_octets (si_of b ends) a)) not ∙ later ends ∙ sym (cond-true (nat_lt 0 a) 2 0 (lt-ltb 0 a (omega (arith, eqb-false a 0 not))))
]
  where
    first : (ends : Bool) → length (so_octets (si_of true ends) a) ≡ 0
    first true = refl
    first false = refl

    later : (ends : Bool) → length (so_octets (si_of false ends) a) ≡ 2
    later true = refl
    later false = refl

-- the header is both
header_is : (size : SnSize) (a : ℕ) → header size a ≡ sn_end size + cond (nat_lt 0 a) 2 0
header_is size a = elim (cases_Bool (nat_lt 0 a)) [
  | inl is ↦ cond-true (nat_lt 0 a) (sn_end size + 2) (sn_end size) is ∙ ap (λ (n : ℕ). sn_end size + n) (sym (cond-true (nat_lt 0 a) 2 0 is))
  | inr not ↦ omega (arith, cond-false (nat_lt 0 a) (sn_end size + 2) (sn_end size) not, cond-false {A = ℕ} (nat_lt 0 a) 2 0 not)
]

-- a piece has at most the octets of its header and its bytes
piece_len : (size : SnSize) (number : ℕ) (sdu : List ℕ) (a e : ℕ) (poll : Bool) → length (amd_bytes size (piece size number sdu a e poll)) ≤ header size a + (e - a)
piece_len size number sdu a e poll =
    let offset : List ℕ = so_octets (si_of (eqb a 0) (eqb e (length sdu))) a in
    let body : List ℕ = take (e - a) (drop a sdu) in
    let first : List ℕ = first_octets size (piece size number sdu a e poll) in
    let whole : length (amd_bytes size (piece size number sdu a e poll)) ≡ length (first ++ offset) + length body = length-append (first ++ offset) body in
    omega (arith, header_is size a, first_len size (piece size number sdu a e poll), whole, length-append first offset, offset_len a (eqb e (length sdu)), length-take (e - a) (drop a sdu))

pub sends_within : SendsWithin
sends_within old n m bytes new g =
    let s = g.2 in
    omega (arith, ap (λ (l : List ℕ). length l) g.1, ap (λ (v : Amd). length (amd_bytes old.size v)) s.view, piece_len old.size m s.kept.sdu s.a s.e (g.0).poll, s.end, s.fits)

-- the last rule confirms nothing, and takes nothing back
last_keeps : (old new : Tx) (s : Status) (tags : List Tag) (marks : List ℕ) (x : Acknowledges old s tags marks new) → Keeps x.mid new
last_keeps old new s tags marks x = elim (cases_Bool (x.mid).poll_owed) [
  | inl owes ↦ lowest_keeps x.mid x.lowest_marks new (x.lowest.0 owes)
  | inr free ↦ subst (Keeps x.mid) (sym (x.lowest.1 free).1) (record { size = refl; long = refl; from = λ n k is. (k, is, refl, refl) })
]

-- what is confirmed stays so where SDUs are kept
none_kept : (old new : Tx) → Keeps old new → (n : ℕ) → kept_at old n ≡ None → kept_at new n ≡ None
none_kept old new keeps n none = go (kept_at new n) refl
  where
    go : (o : Option Kept) → kept_at new n ≡ o → o ≡ None
    go None e = refl
    go (Some k) e = absurd (none-some (keeps.from n k e).0 (sym none ∙ (keeps.from n k e).1))

-- the rule on the lowest unconfirmed number confirms none
pub lowest_confirms_none : (old : Tx) (marks : List ℕ) (new : Tx) → RetransmitsLowest old marks new → (n : ℕ) (k : Kept) → kept_at old n ≡ Some k → kept_at new n ≡ None → ⊥
lowest_confirms_none old marks new (stays why no_marks same) n k was is = none-some k (sym is ∙ ap (λ (t : Tx). kept_at t n) same ∙ was)
lowest_confirms_none old marks new (retransmits low) n k was is = elim (cases_eq n (tx_next_ack old)) [
  | inl here ↦ none-some low.behind (sym is ∙ ap (kept_at new) here ∙ low.is)
  | inr ne ↦ none-some k (sym is ∙ low.others n ne ∙ was)
]

-- nor does the last rule of hearing a STATUS
last_some : (old new : Tx) (s : Status) (tags : List Tag) (marks : List ℕ) (x : Acknowledges old s tags marks new) (n : ℕ) (k : Kept) → kept_at x.mid n ≡ Some k → kept_at new n ≡ None → ⊥
last_some old new s tags marks x n k was is = elim (cases_Bool (x.mid).poll_owed) [
  | inl owes ↦ lowest_confirms_none x.mid x.lowest_marks new (x.lowest.0 owes) n k was is
  | inr free ↦ none-some k (sym is ∙ ap (λ (t : Tx). kept_at t n) (x.lowest.1 free).1 ∙ was)
]

pub confirms_received : ConfirmsReceived
confirms_received old s tags marks new x a near n k is = subst (λ (b : ℕ). (kept_at new n ≡ None) ↔ SaysReceived old.size b s n) (near_one old.size s.ack (tx_next_ack old + 1) x.a a x.ack near) (to (x.updates.each n), from (x.updates.each n))
  where
    to : UpdatesSdu old x.a s n x.missing_marks (kept_at x.mid n) → kept_at new n ≡ None → SaysReceived old.size x.a s n
    to (confirmed j was says e) none = says
    to (missing j j' was below names e becomes) none = absurd (last_some old new s tags marks x n j' e none)
    to (rest why e) none = absurd (last_some old new s tags marks x n k (e ∙ is) none)

    from : UpdatesSdu old x.a s n x.missing_marks (kept_at x.mid n) → SaysReceived old.size x.a s n → kept_at new n ≡ None
    from (confirmed j was says e) received = none_kept x.mid new (last_keeps old new s tags marks x) n e
    from (missing j j' was below names e becomes) received = absurd (received.1 names)
    from (rest (inl past) e) received = absurd (omega (arith, received.0, past))
    from (rest (inr gone) e) received = absurd (none-some k (sym gone ∙ is))

-- what is confirmed stays so
abbrev Stays : Tx → Tx → Type 0
Stays old new = (tx_next old ≤ tx_next new) × ((n : ℕ) → n < tx_next old → kept_at old n ≡ None → kept_at new n ≡ None)

-- it does where nothing changes
same_stays : (old new : Tx) → new ≡ old → Stays old new
same_stays old new is = (omega (arith, ap (λ (t : Tx). tx_next t) is), λ n lt none. ap (λ (t : Tx). kept_at t n) is ∙ none)

-- and where SDUs are kept
keeps_stays : (old new : Tx) → Keeps old new → Stays old new
keeps_stays old new keeps = (omega (arith, keeps.long), λ n lt none. none_kept old new keeps n none)

-- giving leaves it so
gives_stays : (old new : Tx) (tag : Tag) (sdu : List ℕ) (number : ℕ) → Gives old tag sdu number new → Stays old new
gives_stays old new tag sdu number g = (
  omega (arith, ap (λ (t : Tx). tx_next t) g.is, length_push old.kept (Some (record { tag = tag; sdu = sdu; flags = []; retx_count = None }))),
  λ n lt none. ap (λ (t : Tx). kept_at t n) g.is ∙ get_or_append_left old.kept (Some (record { tag = tag; sdu = sdu; flags = []; retx_count = None }) ∷ []) None n lt ∙ none,
)

-- and sending
sends_stays : (old new : Tx) (n m : ℕ) (v : Amd) → Sends old n m v new → Stays old new
sends_stays old new n m v s = (
  omega (arith, s.long),
  λ j lt none. elim (cases_eq j m) [
    | inl e ↦ absurd (none-some s.kept (sym none ∙ ap (kept_at old) e ∙ next_was old m s.kept s.a s.b s.next))
    | inr ne ↦ s.others j ne ∙ none
  ],
)

pub stays_confirmed : StaysConfirmed
stays_confirmed old new (gives tag sdu number some g) = gives_stays old new tag sdu number g
stays_confirmed old new (grants n (Sent m bytes) g) = sends_stays old new n m g.0 g.2
stays_confirmed old new (grants n Idle g) = same_stays old new g.2
stays_confirmed old new (grants n (Small need) g) = same_stays old new g.7
stays_confirmed old new (hears_status s (Acked tags marks) fits x) = keeps_stays old new (acks_keeps old new s tags marks x)
stays_confirmed old new (hears_status s (Old a next) fits x) = same_stays old new x.4
stays_confirmed old new (hears_status s (Beyond ack sent) fits x) = same_stays old new x.3
stays_confirmed old new (expires_poll marks x) = keeps_stays old new (expires_keeps old marks new x)
