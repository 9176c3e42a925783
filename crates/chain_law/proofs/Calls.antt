-- What the calls of an entity leave of what it keeps and of what it has completed.
use Rattle.std.proofs.Common.{◌≡◌, inl, inr, ℕ, zero, suc, Bool, true, false, List, [], ◌∷◌, Option, Some, None, refl, sym, ◌∙◌, ap, subst, arith, Contains}
use Rattle.std.proofs.lemmas.Bool.{cases_eq, false≢true}
use Rattle.std.proofs.lemmas.Option.{none-some, same_Some}
use Rattle.link_base.specs.declared.names.SnSize.{SnSize}
use Rattle.link_base.specs.declared.names.Timer.TheVariants.{Poll, Reasm, Prohibit}
use Rattle.link_base.specs.declared.rlc_words.Expired.TheVariants as expiry
use Rattle.link_base.specs.declared.rlc_words.Tag.{Tag}
use Rattle.rlc_pdu.specs.Amd.{Amd as Pdu}
use Rattle.rlc_status.specs.declared.status.Status.{Status as StatusPdu}
use Rattle.rlc_model.specs.declared.hop.HopGrant.TheVariants as grant
use Rattle.rlc_model.specs.declared.hop.HopHeard.TheVariants.{Amd, Status, BadAmd, BadStatus}
use Rattle.rlc_model.specs.declared.receiver.Heard.TheVariants.{Stored, Complete, Repeat, Outside, Conflict}
use Rattle.rlc_model.specs.declared.transmitter.StatusHeard.TheVariants.{Acked, Old, Beyond}
use Rattle.rlc_model.specs.Retransmission.{RetransmitsLowest, stays, retransmits, UpdatesKept, confirmed, missing, rest, confirmed_tags, Acknowledges, ExpiresPoll}
use Rattle.rlc_model.specs.Rx.{Rx, Done, Part, got, is_done, IsRepeat, PollsAtOnce, Stores}
use Rattle.rlc_model.specs.Tx.{Tx, Kept, at, kept_at, tx_next_ack, IsNextOf, pending, unsent, Sends}
use Rattle.chain_law.specs.Calls.{KeepsTags, CompletesNone, TellsTags, HearingKeeps, GrantingKeeps, ExpiryKeeps}

-- nothing changes, and one step behind another
keeps_same : (old new : Tx) → ((n : ℕ) → kept_at new n ≡ kept_at old n) → KeepsTags old new
keeps_same old new same n k e = (k, sym (same n) ∙ e, refl, refl)

keeps_then : (old mid new : Tx) → KeepsTags old mid → KeepsTags mid new → KeepsTags old new
keeps_then old mid new a b n k e = let m = b n k e in let o = a n m.0 m.1 in (o.0, o.1, m.2 ∙ o.2, m.3 ∙ o.3)

none_more : (old new : Rx) → ((n : ℕ) → got new n ≡ got old n) → CompletesNone old new
none_more old new same n = (λ e. sym (same n) ∙ e, λ e. same n ∙ e)

-- the lowest number that isn't confirmed becomes pending, or not
lowest_keeps : (old new : Tx) (marks : List ℕ) → RetransmitsLowest old marks new → KeepsTags old new
lowest_keeps old new marks (stays waits none same) = keeps_same old new (λ n. ap (λ (t : Tx). kept_at t n) same)
lowest_keeps old new marks (retransmits p) = λ n k e. elim (cases_eq n (tx_next_ack old)) [
  | inl here ↦
      let its : p.behind ≡ k = same_Some p.behind k (sym p.is ∙ ap (kept_at new) (sym here) ∙ e) in
      (p.before, ap (kept_at old) here ∙ p.was, ap (λ (k : Kept). k.tag) (sym its) ∙ p.becomes.tag, ap (λ (k : Kept). k.sdu) (sym its) ∙ p.becomes.sdu)
  | inr other ↦ (k, sym (p.others n other) ∙ e, refl, refl)
]

-- a STATUS is carried out
updated : (size : SnSize) (threshold a : ℕ) (s : StatusPdu) (n : ℕ) (marks : List ℕ) (old new : Option Kept) → UpdatesKept size threshold a s n marks old new → (k : Kept)
    → new ≡ Some k → (was : Kept) × (old ≡ Some was) × (k.tag ≡ was.tag) × (k.sdu ≡ was.sdu)
updated size threshold a s n marks old new (confirmed was is says none) k e = absurd (none-some k (sym none ∙ e))
updated size threshold a s n marks old new (missing was now is low names becomes pends) k e =
    let its : now ≡ k = same_Some now k (sym becomes ∙ e) in
    (was, is, ap (λ (k : Kept). k.tag) (sym its) ∙ pends.tag, ap (λ (k : Kept). k.sdu) (sym its) ∙ pends.sdu)
updated size threshold a s n marks old new (rest why same) k e = (k, sym same ∙ e, refl, refl)

acked_keeps : (old new : Tx) (s : StatusPdu) (tags : List Tag) (marks : List ℕ) → Acknowledges old s tags marks new → KeepsTags old new
acked_keeps old new s tags marks a = keeps_then old a.mid new (λ n k e. updated _ _ _ _ n _ _ _ (a.updates.each n) k e) (by a.mid.poll_owed refl)
  where
    by : (owed : Bool) → a.mid.poll_owed ≡ owed → KeepsTags a.mid new
    by true is = lowest_keeps a.mid new a.lowest_marks (a.lowest.0 is)
    by false is = keeps_same a.mid new (λ n. ap (λ (t : Tx). kept_at t n) (a.lowest.1 is).1)

-- the tags told are those of SDUs that are kept no more
told : (olds news : List (Option Kept)) (tag : Tag) → Contains (confirmed_tags olds news) tag → (n : ℕ) × (k : Kept) × (at olds n ≡ Some k) × (at news n ≡ None) × (tag ≡ k.tag)
told [] news tag c = absurd (omega (arith, c.1))
told (o ∷ olds) [] tag c = absurd (omega (arith, c.1))
told (None ∷ olds) (x ∷ news) tag c = let t = told olds news tag c in (suc t.0, t.1, t.2, t.3, t.4)
told (Some k ∷ olds) (Some x ∷ news) tag c = let t = told olds news tag c in (suc t.0, t.1, t.2, t.3, t.4)
told (Some k ∷ olds) (None ∷ news) tag (zero, low, is) = (0, k, refl, refl, sym is)
told (Some k ∷ olds) (None ∷ news) tag (suc i, low, is) = let t = told olds news tag (i, omega (arith, low), is) in (suc t.0, t.1, t.2, t.3, t.4)

acked_tells : (old new : Tx) (s : StatusPdu) (tags : List Tag) (marks : List ℕ) → Acknowledges old s tags marks new → TellsTags old tags new
acked_tells old new s tags marks a tag among = told old.kept new.kept tag (subst (λ (l : List Tag). Contains l tag) a.its_tags among)

-- a data PDU is heard
stored_none : (old new : Rx) (x : ℕ) (v : Pdu) → (IsRepeat old x v → ⊥) → Stores old x v new → CompletesNone old new
stored_none old new x v news s n = elim (cases_eq n x) [
  | inl here ↦ (
    λ e. absurd (part_is_not (sym s.enters.this ∙ ap (got new) (sym here) ∙ e)),
    λ e. absurd (news (inr (inl (ap (got old) (sym here) ∙ e)))),
  )
  | inr other ↦ (λ e. sym (s.enters.others n other) ∙ e, λ e. s.enters.others n other ∙ e)
]
  where
    part_is_not : Part s.held s.len ≡ Done → ⊥
    part_is_not e = false≢true (ap is_done e)

at_once : (old new : Rx) (v : Pdu) → PollsAtOnce old v new → CompletesNone old new
at_once old new v same = none_more old new (λ n. ap (λ (r : Rx). got r n) same)

pub hearing_keeps : HearingKeeps
hearing_keeps tx rx bytes (Amd Stored) tx' rx' h = (h.4, stored_none rx rx' h.3.0 h.1 h.3.2 h.3.4)
hearing_keeps tx rx bytes (Amd Repeat) tx' rx' h = (h.4, at_once rx rx' h.1 h.3.3)
hearing_keeps tx rx bytes (Amd Outside) tx' rx' h = (h.4, at_once rx rx' h.1 h.3.1)
hearing_keeps tx rx bytes (Amd Conflict) tx' rx' h = (h.4, at_once rx rx' h.1 h.3.4)
hearing_keeps tx rx bytes (Amd (Complete number sdu)) tx' rx' h = (h.4, record { before = λ e. h.3.1 (inr (inl e)); now = h.3.3.enters.this; others = h.3.3.enters.others })
hearing_keeps tx rx bytes (Status (Acked tags marks)) tx' rx' h = (acked_keeps tx tx' h.1 tags marks h.3, acked_tells tx tx' h.1 tags marks h.3, h.4)
hearing_keeps tx rx bytes (Status (Old ack next)) tx' rx' h = (h.3.4, none_more rx rx' (λ n. ap (λ (r : Rx). got r n) h.4))
hearing_keeps tx rx bytes (Status (Beyond ack sent)) tx' rx' h = (h.3.3, none_more rx rx' (λ n. ap (λ (r : Rx). got r n) h.4))
hearing_keeps tx rx bytes (BadAmd fault) tx' rx' h = (h.2, none_more rx rx' (λ n. ap (λ (r : Rx). got r n) h.3))
hearing_keeps tx rx bytes (BadStatus fault) tx' rx' h = (h.3, none_more rx rx' (λ n. ap (λ (r : Rx). got r n) h.4))

-- a PDU is sent: its number's SDU is kept with other flags
next_kept : (l : List (Option Kept)) (m : ℕ) (k : Kept) (a b : ℕ) → IsNextOf l m k a b → at l m ≡ Some k
next_kept l m k a b (pending is_first here run) = here
next_kept l m k a b (unsent none is_first here from to) = here

sent_keeps : (old new : Tx) (n m : ℕ) (v : Pdu) → Sends old n m v new → KeepsTags old new
sent_keeps old new n m v s k kp e = elim (cases_eq k m) [
  | inl here ↦
      let its : record s.kept { flags = s.flags } ≡ kp = same_Some _ kp (sym s.this ∙ ap (kept_at new) (sym here) ∙ e) in
      (s.kept, ap (kept_at old) here ∙ next_kept old.kept m s.kept s.a s.b s.next, ap (λ (k : Kept). k.tag) (sym its), ap (λ (k : Kept). k.sdu) (sym its))
  | inr other ↦ (kp, sym (s.others k other) ∙ e, refl, refl)
]

same_tx : (old new : Tx) → new ≡ old → KeepsTags old new
same_tx old new same = keeps_same old new (λ n. ap (λ (t : Tx). kept_at t n) same)

same_rx : (old new : Rx) → new ≡ old → CompletesNone old new
same_rx old new same = none_more old new (λ n. ap (λ (r : Rx). got r n) same)

pub granting_keeps : GrantingKeeps
granting_keeps tx rx n (grant.Sent true number bytes) tx' rx' g = (same_tx tx tx' g.3, none_more rx rx' (λ n. ap (λ (r : Rx). got r n) g.1.after))
granting_keeps tx rx n (grant.Sent false number bytes) tx' rx' g = (sent_keeps tx tx' n number g.1.0 g.1.2, same_rx rx rx' g.2)
granting_keeps tx rx n grant.Idle tx' rx' g = (same_tx tx tx' g.1.2, same_rx rx rx' g.2)
granting_keeps tx rx n (grant.Small need) tx' rx' (inl g) = (same_tx tx tx' g.2, same_rx rx rx' g.1.2)
granting_keeps tx rx n (grant.Small need) tx' rx' (inr g) = (same_tx tx tx' g.1.7, same_rx rx rx' g.2)

-- a timer runs out
poll_keeps : (old new : Tx) (marks : List ℕ) → ExpiresPoll old marks new → KeepsTags old new
poll_keeps old new marks x = keeps_then old x.mid new (keeps_same old x.mid (λ n. ap (λ (t : Tx). kept_at t n) x.stopped)) (lowest_keeps x.mid new marks x.lowest)

pub expiry_keeps : ExpiryKeeps
expiry_keeps tx rx Poll expiry.Done tx' rx' x = (poll_keeps tx tx' [] x.0, same_rx rx rx' x.1)
expiry_keeps tx rx Poll (expiry.Marked n) tx' rx' x = (poll_keeps tx tx' (n ∷ []) x.0, same_rx rx rx' x.1)
expiry_keeps tx rx Poll expiry.Stopped tx' rx' x = (same_tx tx tx' x.0.1, same_rx rx rx' x.1)
expiry_keeps tx rx Reasm expiry.Done tx' rx' x = (same_tx tx tx' x.1, none_more rx rx' (λ n. ap (λ (r : Rx). got r n) x.0.is))
expiry_keeps tx rx Reasm (expiry.Marked n) tx' rx' x = absurd x.0
expiry_keeps tx rx Reasm expiry.Stopped tx' rx' x = (same_tx tx tx' x.1, same_rx rx rx' x.0.1)
expiry_keeps tx rx Prohibit expiry.Done tx' rx' x = (same_tx tx tx' x.1, none_more rx rx' (λ n. ap (λ (r : Rx). got r n) x.0.is))
expiry_keeps tx rx Prohibit (expiry.Marked n) tx' rx' x = absurd x.0
expiry_keeps tx rx Prohibit expiry.Stopped tx' rx' x = (same_tx tx tx' x.1, same_rx rx rx' x.0.1)
