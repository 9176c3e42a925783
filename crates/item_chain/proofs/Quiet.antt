-- What events of a hop do to its box: one that gives no SDU and completes none leaves it, and an SDU given comes to its end.
use Rattle.std.proofs.Common.{◌≡◌, ◌↔◌, inl, inr, ℕ, List, [], ◌∷◌, ◌++◌, length, get_or, Option, Some, refl, sym, ◌∙◌, ap, arith}
use Rattle.std.specs.List.{slice_get}
use Rattle.std.proofs.lemmas.Bool.{cases_eq}
use Rattle.std.proofs.lemmas.List.{length_push, get_or_append_left}
use Rattle.std.proofs.lemmas.Option.{slice_get_within}
use Rattle.link_base.specs.declared.rlc_words.Tag.{Tag}
use Rattle.rlc_pdu.specs.Amd.{Amd}
use Rattle.rlc_model.specs.declared.receiver.Heard.{Heard}
use Rattle.rlc_model.specs.declared.receiver.Heard.TheVariants.{Stored, Complete, Repeat, Outside, Conflict}
use Rattle.rlc_model.specs.Rx.{Rx, Done, Part, got, Hears}
use Rattle.rlc_law.specs.Hop.{Hop, StatusMade, Give, Grant, GrantStatus, DeliverStatus, ExpirePoll, ExpireReassembly, ExpireProhibit, Happens, gives, sends, makes_status, acknowledges, expires_poll, expires_reassembly, expires_prohibit}
use Rattle.item_place.proofs.Pushed.{push_was}
use Rattle.item_place.specs.Places.{Box, enter}
use Rattle.item_place.specs.HopFits.{HopFits}

-- the hop was given the same SDUs, and the same are complete
pub record SameSdus (old new : Hop) : Type 0 where
  pub given : new.given ≡ old.given
  pub done : (k : ℕ) → (got new.rx k ≡ Done) ↔ (got old.rx k ≡ Done)

pub same_fits : (spell : ℕ → List ℕ) (old new : Hop) (b : Box) → SameSdus old new → HopFits spell old b → HopFits spell new b
same_fits spell old new b same f = record {
  long = f.long ∙ ap (λ (g : List (List ℕ)). length g) (sym same.given);
  sdus = λ k n e. ap (λ (g : List (List ℕ)). get_or g k []) same.given ∙ f.sdus k n e;
  left = λ k. ((λ l. (same.done k).1 ((f.left k).0 l)), (λ d. (f.left k).1 ((same.done k).0 d)));
}

part_done : (held : List (Option ℕ)) (len : Option ℕ) → Part held len ≡ Done → ⊥
part_done held len e = cc

same_rx : (a b : Rx) → b ≡ a → (k : ℕ) → (got b k ≡ Done) ↔ (got a k ≡ Done)
same_rx a b e k = ((λ d. sym (ap (λ (r : Rx). got r k) e) ∙ d), (λ d. ap (λ (r : Rx). got r k) e ∙ d))

-- what completes nothing leaves the same numbers complete
pub same_done : (old new : Rx) (v : Amd) (a : Heard) → ((x : ℕ) (sdu : List ℕ) → a ≡ Complete x sdu → ⊥) → Hears old v a new → (k : ℕ) → (got new k ≡ Done) ↔ (got old k ≡ Done)
same_done old new v (Complete x sdu) other h k = absurd (other x sdu refl)
same_done old new v Repeat other h k = let e = ap (λ (r : Rx). got r k) h.3 in ((λ d. sym e ∙ d), (λ d. e ∙ d))
same_done old new v Outside other h k = let e = ap (λ (r : Rx). got r k) h.1 in ((λ d. sym e ∙ d), (λ d. e ∙ d))
same_done old new v Conflict other h k = let e = ap (λ (r : Rx). got r k) h.4 in ((λ d. sym e ∙ d), (λ d. e ∙ d))
same_done old new v Stored other h k = elim (cases_eq k h.0) [
  | inl e ↦ ((λ d. absurd (part_done (h.4).held (h.4).len (sym ((h.4).enters).this ∙ ap (got new) (sym e) ∙ d))), (λ d. absurd (h.2 (inr (inl (ap (got old) (sym e) ∙ d))))))
  | inr ne ↦ let e = ((h.4).enters).others k ne in ((λ d. sym e ∙ d), (λ d. e ∙ d))
]

-- a grant, a STATUS that is heard and a timer that runs out
pub grant_quiet : (old new : Hop) (n : ℕ) → Happens old (Grant n) new → SameSdus old new
grant_quiet old new n (sends m v t s) = record { given = refl; done = same_rx old.rx old.rx refl }

pub status_quiet : (old new : Hop) (n : ℕ) → Happens old (GrantStatus n) new → SameSdus old new
status_quiet old new n (makes_status a s r w) = record { given = refl; done = λ k. let e = ap (λ (r : Rx). got r k) w.after in ((λ d. sym e ∙ d), (λ d. e ∙ d)) }

pub acknowledge_quiet : (old new : Hop) (t : StatusMade) → Happens old (DeliverStatus t) new → SameSdus old new
acknowledge_quiet old new t (acknowledges answer x among fresh h) = record { given = refl; done = same_rx old.rx old.rx refl }

pub poll_quiet : (old new : Hop) → Happens old ExpirePoll new → SameSdus old new
poll_quiet old new (expires_poll marks t x) = record { given = refl; done = same_rx old.rx old.rx refl }

pub reassembly_quiet : (old new : Hop) → Happens old ExpireReassembly new → SameSdus old new
reassembly_quiet old new (expires_reassembly r x) = record { given = refl; done = λ k. let e = ap (λ (r : Rx). got r k) x.is in ((λ d. sym e ∙ d), (λ d. e ∙ d)) }

pub prohibit_quiet : (old new : Hop) → Happens old ExpireProhibit new → SameSdus old new
prohibit_quiet old new (expires_prohibit r x) = record { given = refl; done = λ k. let e = ap (λ (r : Rx). got r k) x.is in ((λ d. sym e ∙ d), (λ d. e ∙ d)) }

-- at the end of a list is what came there
pub at_end : {X : Type 0} (xs : List X) (x d : X) → get_or (xs ++ x ∷ []) (length xs) d ≡ x
at_end [] x d = refl
at_end (y ∷ xs) x d = at_end xs x d

-- a transmitter is given the octets of the box's new item
pub given_fits : (spell : ℕ → List ℕ) (old new : Hop) (b : Box) (n : ℕ) (tag : Tag) (sdu : List ℕ) → Happens old (Give tag sdu) new → sdu ≡ spell n → HopFits spell old b
    → HopFits spell new (enter b n)
given_fits spell old new b n tag sdu (gives number tx some most x) same fit = record {
  long = omega (arith, fit.long, length_push b.log n, length_push old.given sdu);
  sdus = sdus;
  left = fit.left;
}
  where
    sdus : (k m : ℕ) → slice_get (b.log ++ n ∷ []) k ≡ Some m → get_or (old.given ++ sdu ∷ []) k [] ≡ spell m
    sdus k m e = elim (push_was b.log n k m e) [
      | inl before ↦ get_or_append_left old.given (sdu ∷ []) [] k (omega (arith, slice_get_within b.log k m before, fit.long)) ∙ fit.sdus k m before
      | inr new ↦ ap (λ (k : ℕ). get_or (old.given ++ sdu ∷ []) k []) (new.0 ∙ fit.long) ∙ at_end old.given sdu [] ∙ same ∙ ap spell (sym new.1)
    ]
