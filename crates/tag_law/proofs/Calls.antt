-- What the calls of an entity leave of the SDUs that it keeps: all of them, but those that a STATUS confirms, whose tags are told.
use Rattle.std.proofs.Common.{◌≡◌, ◌⊎◌, inl, inr, ℕ, zero, suc, Bool, true, false, List, [], ◌∷◌, length, Option, Some, None, refl, sym, ◌∙◌, ap, subst, arith}
use Rattle.std.proofs.lemmas.Bool.{cases_eq}
use Rattle.std.proofs.lemmas.Option.{none-some, same_Some}
use Rattle.link_base.specs.declared.names.Timer.{Timer}
use Rattle.link_base.specs.declared.names.Timer.TheVariants.{Poll, Reasm, Prohibit}
use Rattle.link_base.specs.declared.rlc_words.Expired.{Expired}
use Rattle.link_base.specs.declared.rlc_words.Expired.TheVariants as expiry
use Rattle.link_base.specs.declared.rlc_words.Tag.{Tag}
use Rattle.rlc_pdu.specs.Amd.{Amd as Pdu}
use Rattle.rlc_status.specs.declared.status.Status.{Status as StatusPdu}
use Rattle.rlc_model.specs.declared.hop.HopGrant.{HopGrant}
use Rattle.rlc_model.specs.declared.hop.HopGrant.TheVariants as grant
use Rattle.rlc_model.specs.declared.hop.HopHeard.{HopHeard}
use Rattle.rlc_model.specs.declared.hop.HopHeard.TheVariants.{Amd, Status, BadAmd, BadStatus}
use Rattle.rlc_model.specs.declared.transmitter.StatusHeard.TheVariants.{Acked, Old, Beyond}
use Rattle.rlc_model.specs.Hop.{GrantsHop, HearsHop, ExpiresHop}
use Rattle.rlc_model.specs.Retransmission.{RetransmitsLowest, stays, retransmits, confirmed_tags, Acknowledges, ExpiresPoll}
use Rattle.rlc_model.specs.Rx.{Rx}
use Rattle.rlc_model.specs.Tx.{Tx, Kept, at, kept_at, tx_next_ack, IsNextOf, pending, unsent, Sends}
use Rattle.chain_law.specs.Calls.{KeepsTags, HearingKeeps}
use Rattle.chain_law.proofs.Members.{IsIn}

-- an SDU of this number and tag is kept
abbrev pub IsKept : Tx → ℕ → Tag → Type 0
IsKept tx n tag = (k : Kept) × (kept_at tx n ≡ Some k) × (k.tag ≡ tag)

-- each SDU that was kept is kept under its number and with its tag
abbrev pub StillKeeps : Tx → Tx → Type 0
StillKeeps old new = (n : ℕ) (k : Kept) → kept_at old n ≡ Some k → IsKept new n k.tag

still_same : (old new : Tx) → new ≡ old → StillKeeps old new
still_same old new same n k e = (k, ap (λ (t : Tx). kept_at t n) same ∙ e, refl)

still_then : (old mid new : Tx) → StillKeeps old mid → StillKeeps mid new → StillKeeps old new
still_then old mid new a b n k e = let m = a n k e in let o = b n m.0 m.1 in (o.0, o.1, o.2 ∙ m.2)

-- the lowest number that isn't confirmed becomes pending, or not
lowest_still : (old new : Tx) (marks : List ℕ) → RetransmitsLowest old marks new → StillKeeps old new
lowest_still old new marks (stays waits none same) = λ n k e. still_same old new same n k e
lowest_still old new marks (retransmits p) = λ n k e. elim (cases_eq n (tx_next_ack old)) [
  | inl here ↦
      let its : p.before ≡ k = same_Some p.before k (sym p.was ∙ ap (kept_at old) (sym here) ∙ e) in
      (p.behind, ap (kept_at new) here ∙ p.is, p.becomes.tag ∙ ap (λ (k : Kept). k.tag) its)
  | inr other ↦ (k, p.others n other ∙ e, refl)
]

-- a PDU is sent
next_kept : (l : List (Option Kept)) (m : ℕ) (k : Kept) (a b : ℕ) → IsNextOf l m k a b → at l m ≡ Some k
next_kept l m k a b (pending is_first here run) = here
next_kept l m k a b (unsent none is_first here from to) = here

sent_still : (old new : Tx) (n m : ℕ) (v : Pdu) → Sends old n m v new → StillKeeps old new
sent_still old new n m v s i k e = elim (cases_eq i m) [
  | inl here ↦
      let its : s.kept ≡ k = same_Some s.kept k (sym (next_kept old.kept m s.kept s.a s.b s.next) ∙ ap (kept_at old) (sym here) ∙ e) in
      (record s.kept { flags = s.flags }, ap (kept_at new) here ∙ s.this, ap (λ (k : Kept). k.tag) its)
  | inr other ↦ (k, s.others i other ∙ e, refl)
]

pub granting_still : (tx : Tx) (rx : Rx) (n : ℕ) (answer : HopGrant) (tx' : Tx) (rx' : Rx) → GrantsHop tx rx n answer tx' rx' → StillKeeps tx tx'
granting_still tx rx n (grant.Sent true number bytes) tx' rx' g = still_same tx tx' g.3
granting_still tx rx n (grant.Sent false number bytes) tx' rx' g = sent_still tx tx' n number g.1.0 g.1.2
granting_still tx rx n grant.Idle tx' rx' g = still_same tx tx' g.1.2
granting_still tx rx n (grant.Small need) tx' rx' (inl g) = still_same tx tx' g.2
granting_still tx rx n (grant.Small need) tx' rx' (inr g) = still_same tx tx' g.1.7

-- a timer runs out
poll_still : (old new : Tx) (marks : List ℕ) → ExpiresPoll old marks new → StillKeeps old new
poll_still old new marks x = still_then old x.mid new (λ n k e. (k, ap (λ (t : Tx). kept_at t n) x.stopped ∙ e, refl)) (lowest_still x.mid new marks x.lowest)

pub expiry_still : (tx : Tx) (rx : Rx) (timer : Timer) (expired : Expired) (tx' : Tx) (rx' : Rx) → ExpiresHop tx rx timer expired tx' rx' → StillKeeps tx tx'
expiry_still tx rx Poll expiry.Done tx' rx' x = poll_still tx tx' [] x.0
expiry_still tx rx Poll (expiry.Marked n) tx' rx' x = poll_still tx tx' (n ∷ []) x.0
expiry_still tx rx Poll expiry.Stopped tx' rx' x = still_same tx tx' x.0.1
expiry_still tx rx Reasm expired tx' rx' x = still_same tx tx' x.1
expiry_still tx rx Prohibit expired tx' rx' x = still_same tx tx' x.1

-- a STATUS is carried out
tells : (olds news : List (Option Kept)) → length news ≡ length olds → (n : ℕ) (k : Kept) → at olds n ≡ Some k → at news n ≡ None → IsIn (confirmed_tags olds news) k.tag
tells [] news long n k was none = absurd (none-some k was)
tells (o ∷ olds) [] long n k was none = absurd (omega (arith, long))
tells (None ∷ olds) (x ∷ news) long zero k was none = absurd (none-some k was)
tells (None ∷ olds) (x ∷ news) long (suc n) k was none = tells olds news (omega (arith, long)) n k was none
tells (Some o ∷ olds) (Some x ∷ news) long zero k was none = absurd (none-some x (sym none))
tells (Some o ∷ olds) (Some x ∷ news) long (suc n) k was none = tells olds news (omega (arith, long)) n k was none
tells (Some o ∷ olds) (None ∷ news) long zero k was none = inl (ap (λ (k : Kept). k.tag) (same_Some o k was))
tells (Some o ∷ olds) (None ∷ news) long (suc n) k was none = inr (tells olds news (omega (arith, long)) n k was none)

lowest_long : (old new : Tx) (marks : List ℕ) → RetransmitsLowest old marks new → length new.kept ≡ length old.kept
lowest_long old new marks (stays waits none same) = ap (λ (t : Tx). length t.kept) same
lowest_long old new marks (retransmits p) = p.long

acked_long : (old new : Tx) (s : StatusPdu) (tags : List Tag) (marks : List ℕ) → Acknowledges old s tags marks new → length new.kept ≡ length old.kept
acked_long old new s tags marks a = by a.mid.poll_owed refl ∙ a.updates.long
  where
    by : (owed : Bool) → a.mid.poll_owed ≡ owed → length new.kept ≡ length a.mid.kept
    by true is = lowest_long a.mid new a.lowest_marks (a.lowest.0 is)
    by false is = ap (λ (t : Tx). length t.kept) (a.lowest.1 is).1

-- the tags that a side's answer tells as confirmed
abbrev pub told_by : HopHeard → List Tag
told_by (Status (Acked tags marks)) = tags
told_by answer = []

-- an SDU that was kept is kept still, or its tag is told
abbrev pub TellsGone : Tx → Tx → List Tag → Type 0
TellsGone old new tags = (n : ℕ) (k : Kept) → kept_at old n ≡ Some k → IsKept new n k.tag ⊎ IsIn tags k.tag

acked_tells : (old new : Tx) (s : StatusPdu) (tags : List Tag) (marks : List ℕ) → Acknowledges old s tags marks new → KeepsTags old new → TellsGone old new tags
acked_tells old new s tags marks a keeps n k e = by (kept_at new n) refl
  where
    by : (o : Option Kept) → kept_at new n ≡ o → IsKept new n k.tag ⊎ IsIn tags k.tag
    by (Some now) is = let was = keeps n now is in inl (now, is, was.2 ∙ ap (λ (k : Kept). k.tag) (same_Some was.0 k (sym was.1 ∙ e)))
    by None is = inr (subst (λ (l : List Tag). IsIn l k.tag) (sym a.its_tags) (tells old.kept new.kept (acked_long old new s tags marks a) n k e is))

pub hearing_tells : HearingKeeps → (tx : Tx) (rx : Rx) (bytes : List ℕ) (answer : HopHeard) (tx' : Tx) (rx' : Rx) → HearsHop tx rx bytes answer tx' rx'
    → TellsGone tx tx' (told_by answer)
hearing_tells keeps tx rx bytes (Amd heard) tx' rx' h = λ n k e. inl (still_same tx tx' h.4 n k e)
hearing_tells keeps tx rx bytes (Status (Acked tags marks)) tx' rx' h = acked_tells tx tx' h.1 tags marks h.3 (keeps tx rx bytes (Status (Acked tags marks)) tx' rx' h).0
hearing_tells keeps tx rx bytes (Status (Old ack next)) tx' rx' h = λ n k e. inl (still_same tx tx' h.3.4 n k e)
hearing_tells keeps tx rx bytes (Status (Beyond ack sent)) tx' rx' h = λ n k e. inl (still_same tx tx' h.3.3 n k e)
hearing_tells keeps tx rx bytes (BadAmd fault) tx' rx' h = λ n k e. inl (still_same tx tx' h.2 n k e)
hearing_tells keeps tx rx bytes (BadStatus fault) tx' rx' h = λ n k e. inl (still_same tx tx' h.3 n k e)
