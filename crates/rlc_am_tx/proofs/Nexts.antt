-- The piece that is next.
use Rattle.std.proofs.Common.{◌≡◌, ℕ, ◌<◌, false, List, length, Option, Some, None, IfSome, IfNone, sym, ◌∙◌, ap, arith}
use Rattle.std.proofs.lemmas.Bool.{false≢true}
use Rattle.rlc_model.specs.Tx.{Kept, at, is_pending, HasPending, SomePending, SomeUnsent, pending, unsent}
use Rattle.rlc_am_tx.specs.declared.pieces.Piece.{Piece}
use Rattle.rlc_am_tx.specs.Buffer.{NonePending, NoneUnsent, IsInOrder, sdu_of, sent_of}
use Rattle.rlc_am_tx.specs.Pieces.{IsPendingAt, IsPendingPiece, IsUnsentPiece, IsNextPiece, IsInside}
use Rattle.rlc_am_tx.proofs.Waiting.{pending_first}

-- nothing waits
pub no_pending : (l : List (Option Kept)) → NonePending l → SomePending l → ⊥
no_pending l none w = false≢true (sym (none w.0 w.1) ∙ w.2)

pub no_unsent : (l : List (Option Kept)) → NoneUnsent l → SomeUnsent l → ⊥
no_unsent l none w = false≢true (sym (none w.0) ∙ w.1)

pub some_first : (l : List (Option Kept)) (n : ℕ) (r : Option Piece) → IfSome r (IsPendingAt l n) → ((m : ℕ) → m < n → HasPending l m → ⊥) → IfSome r (IsPendingPiece l)
some_first l n None h none = tt
some_first l n (Some piece) h none = pending_first l n piece h none

pub none_first : (l : List (Option Kept)) (n : ℕ) (r : Option Piece) → IfNone r ((p : ℕ) → is_pending (at l n) p ≡ false) → HasPending l n → IfNone r (NonePending l)
none_first l n None idle h = absurd (false≢true (sym (idle h.0) ∙ h.1))
none_first l n (Some piece) idle h = tt

pub pending_next : (l : List (Option Kept)) (piece : Piece) → IsPendingPiece l piece → IsNextPiece l piece
pending_next l piece h = (h.here.kept, pending h.first h.here.is h.here.run)

pub pending_inside : (l : List (Option Kept)) (u : ℕ) (piece : Piece) → IsInOrder l u → IsPendingPiece l piece → IsInside l piece
pending_inside l u piece i h =
    let sdu = i.sdus piece.number h.here.kept h.here.is in
    let its_sdu : length (sdu_of (at l piece.number)) ≡ length h.here.kept.sdu = ap (λ (o : Option Kept). length (sdu_of o)) h.here.is in
    let its_sent : sent_of (at l piece.number) ≡ length h.here.kept.flags = ap sent_of h.here.is in
    record {
      some = h.here.run.some;
      within = omega (arith, h.here.within, its_sdu, sdu.sent);
      long = omega (arith, its_sdu, sdu.long);
      after = omega (arith, its_sent, h.here.run.some, h.here.within);
    }

pub unsent_next : (l : List (Option Kept)) (r : Option Piece) → NonePending l → IfSome r (IsUnsentPiece l) → IfSome r (IsNextPiece l)
unsent_next l None none h = tt
unsent_next l (Some piece) none h = (h.kept, unsent (no_pending l none) h.first h.is h.from h.to)
