-- Slots and queues as rows of boxes, as an item goes from one to another.
use Rattle.std.proofs.Common.{◌≡◌, ◌⊎◌, inl, inr, ℕ, suc, ◌+◌, ◌<◌, true, false, List, [], ◌∷◌, ◌++◌, Option, Some, None, refl, sym, ◌∙◌, ap, subst, arith}
use Rattle.std.specs.List.{slice_get}
use Rattle.std.proofs.lemmas.Bool.{cases_eq, cond-false}
use Rattle.std.proofs.lemmas.Option.{none-some}
use Rattle.std.proofs.lemmas.List.{length_push}
use Rattle.bearer_map.specs.Contents.{Contents}
use Rattle.node_model.specs.declared.parcel.Parcel.{Parcel}
use Rattle.item_law.specs.State.{Item, Spot, is_number, put}
use Rattle.item_law.proofs.base.Puts.{of_number, put_same, put_other}
use Rattle.item_place.specs.Places.{Station, is_station, Box, at, leave, enter, moved}
use Rattle.item_place.proofs.Boxes.{of_station, left_at, left_other}
use Rattle.item_place.proofs.Pushed.{push_end, push_was, push_keeps}
use Rattle.item_chain.specs.Stands.{IsParcel, RowFits, routed_for}

stands_at : (b : Box) (k n : ℕ) → b.left k ≡ false → slice_get b.log k ≡ Some n → at b k ≡ Some n
stands_at b k n stays e = cond-false (b.left k) None (slice_get b.log k) stays ∙ e

-- what the SDUs of a row are, may be told otherwise
pub row_map : (P Q : Parcel → ℕ → Type 0) (b : Box) (xs : List Parcel) (row : RowFits P b xs) → ((k n : ℕ) (x : Parcel) → at b k ≡ Some n → P x n → Q x n) → RowFits Q b xs
row_map P Q b xs row f = record {
  from = row.from;
  long = row.long;
  gone = row.gone;
  stays = row.stays;
  each = λ j x e.
      let was = row.each j x e in
      (was.0, was.1, f (row.from + j) was.0 x (stands_at b (row.from + j) was.0 (row.stays (row.from + j) (omega arith)) was.1) was.2);
}

-- the front goes
module _ (P : Parcel → ℕ → Type 0) (b : Box) (x : Parcel) (xs : List Parcel) (row : RowFits P b (x ∷ xs)) where
  first : (n : ℕ) × (slice_get b.log (row.from + 0) ≡ Some n) × P x n
  first = row.each 0 x refl

  pub front : (n : ℕ) × (at b row.from ≡ Some n) × P x n
  front = (first.0, stands_at b row.from first.0 (row.stays row.from (omega arith)) (ap (slice_get b.log) (omega arith) ∙ first.1), first.2)

  pub row_pop : RowFits P (leave b row.from) xs
  row_pop = record {
    from = row.from + 1;
    long = omega (arith, row.long);
    gone = λ k lt. gone k lt (cases_eq k row.from);
    stays = λ k le. put_other of_number b.left row.from true k (λ e. absurd (omega (arith, e, le))) ∙ row.stays k (omega arith);
    each = λ j y e. let was = row.each (suc j) y e in (was.0, ap (slice_get b.log) (omega arith) ∙ was.1, was.2);
  }
    where
      gone : (k : ℕ) → k < row.from + 1 → (k ≡ row.from) ⊎ (k ≡ row.from → ⊥) → put is_number b.left row.from true k ≡ true
      gone k lt (inl e) = ap (put is_number b.left row.from true) e ∙ put_same of_number b.left row.from true
      gone k lt (inr ne) = put_other of_number b.left row.from true k ne ∙ row.gone k (omega (arith, ne))

-- one comes to the back
pub row_push : (P : Parcel → ℕ → Type 0) (b : Box) (xs : List Parcel) (row : RowFits P b xs) (x : Parcel) (n : ℕ) → P x n → RowFits P (enter b n) (xs ++ x ∷ [])
row_push P b xs row x n has = record {
  from = row.from;
  long = omega (arith, row.long, length_push b.log n, length_push xs x);
  gone = row.gone;
  stays = row.stays;
  each = each;
}
  where
    each : (j : ℕ) (y : Parcel) → slice_get (xs ++ x ∷ []) j ≡ Some y → (m : ℕ) × (slice_get (b.log ++ n ∷ []) (row.from + j) ≡ Some m) × P y m
    each j y e = elim (push_was xs x j y e) [
      | inl h ↦ let was = row.each j y h in (was.0, push_keeps b.log n (row.from + j) was.0 was.1, was.2)
      | inr h ↦ (n, ap (slice_get (b.log ++ n ∷ [])) (omega (arith, h.0, row.long)) ∙ push_end b.log n, subst (λ (y : Parcel). P y n) (sym h.1) has)
    ]

-- an item goes from the station A to another station B
module _ (box : Station → Box) (A : Station) (k : ℕ) (B : Station) (n : ℕ) (ne : A ≡ B → ⊥) where
  abbrev left : Station → Box
  left = put is_station box A (leave (box A) k)

  pub box_from : moved box A k B n A ≡ leave (box A) k
  box_from = put_other of_station left B (enter (left B) n) A ne ∙ put_same of_station box A (leave (box A) k)

  pub box_to : moved box A k B n B ≡ enter (box B) n
  box_to = put_same of_station left B (enter (left B) n) ∙ ap (λ (b : Box). enter b n) (put_other of_station box A (leave (box A) k) B (λ e. ne (sym e)))

  pub box_other : (c : Station) → (c ≡ A → ⊥) → (c ≡ B → ⊥) → moved box A k B n c ≡ box c
  box_other c na nb = put_other of_station left B (enter (left B) n) c nb ∙ put_other of_station box A (leave (box A) k) c na

  -- P is what SDUs were, and Q what they are
  module _ (has : at (box A) k ≡ Some n) (once : (a b : Station) (k j n : ℕ) → at (box a) k ≡ Some n → at (box b) j ≡ Some n → (a ≡ b) × (k ≡ j)) (P Q : Parcel → ℕ → Type 0)
      (keeps : (x : Parcel) (l : ℕ) → (l ≡ n → ⊥) → P x l → Q x l) where
    differs : (c : Station) (j l : ℕ) → ((c ≡ A) × (j ≡ k) → ⊥) → at (box c) j ≡ Some l → l ≡ n → ⊥
    differs c j l apart e same = apart (once c A j k n (e ∙ ap (λ (n : ℕ). Some n) same) has)

    pub row_other : (c : Station) (xs : List Parcel) → (c ≡ A → ⊥) → (c ≡ B → ⊥) → RowFits P (box c) xs → RowFits Q (moved box A k B n c) xs
    row_other c xs na nb row = subst (λ (b : Box). RowFits Q b xs) (sym (box_other c na nb))
        (row_map P Q (box c) xs row (λ j l x e was. keeps x l (differs c j l (λ s. na s.0) e) was))

    pub row_to : (xs : List Parcel) (x : Parcel) → Q x n → RowFits P (box B) xs → RowFits Q (moved box A k B n B) (xs ++ x ∷ [])
    row_to xs x now row = subst (λ (b : Box). RowFits Q b (xs ++ x ∷ [])) (sym box_to)
        (row_push Q (box B) xs (row_map P Q (box B) xs row (λ j l y e was. keeps y l (differs B j l (λ s. ne (sym s.0)) e) was)) x n now)

    pub row_from : (xs : List Parcel) → RowFits P (leave (box A) k) xs → RowFits Q (moved box A k B n A) xs
    row_from xs row = subst (λ (b : Box). RowFits Q b xs) (sym box_from) (row_map P Q (leave (box A) k) xs row (λ j l y e was. keeps y l (stays j l y e (cases_eq j k)) was))
      where
        stays : (j l : ℕ) (y : Parcel) → at (leave (box A) k) j ≡ Some l → (j ≡ k) ⊎ (j ≡ k → ⊥) → l ≡ n → ⊥
        stays j l y e (inl same) = absurd (none-some l (sym (ap (at (leave (box A) k)) same ∙ left_at (box A) k) ∙ e))
        stays j l y e (inr other) = differs A j l (λ s. other s.1) (sym (left_other (box A) k j other) ∙ e)

-- an item leaves the station A for good: rows elsewhere stay
module _ (box : Station → Box) (A : Station) (k n : ℕ) (has : at (box A) k ≡ Some n)
    (once : (a b : Station) (k j n : ℕ) → at (box a) k ≡ Some n → at (box b) j ≡ Some n → (a ≡ b) × (k ≡ j))
    (P Q : Parcel → ℕ → Type 0) (keeps : (x : Parcel) (l : ℕ) → (l ≡ n → ⊥) → P x l → Q x l) where
  pub row_stays : (c : Station) (xs : List Parcel) → (c ≡ A → ⊥) → RowFits P (box c) xs → RowFits Q (put is_station box A (leave (box A) k) c) xs
  row_stays c xs ne row = subst (λ (b : Box). RowFits Q b xs) (sym (put_other of_station box A (leave (box A) k) c ne))
      (row_map P Q (box c) xs row (λ j l x e was. keeps x l (λ same. ne (once c A j k n (e ∙ ap (λ (n : ℕ). Some n) same) has).0) was))

-- an SDU whose item is another, or has a new spot that is routed as the SDU
module _ (t : Contents) (items : ℕ → Option Item) (spot : ℕ → Spot) (spell : ℕ → List ℕ) (n : ℕ) (X : Spot) (x : Parcel) where
  pub parcel_keeps : (l : ℕ) → (l ≡ n → ⊥) → IsParcel t items spot spell x l → IsParcel t items (put is_number spot n X) spell x l
  parcel_keeps l ne p = record {
    item = p.item;
    is = p.is;
    sdu = p.sdu;
    ue = p.ue;
    way = p.way;
    drb = p.drb;
    routed = ap routed_for (put_other of_number spot n X l ne) ∙ p.routed;
    egress = p.egress;
  }

  pub parcel_moves : routed_for X ≡ Some x.route.key.remote → IsParcel t items spot spell x n → IsParcel t items (put is_number spot n X) spell x n
  parcel_moves to p = record {
    item = p.item;
    is = p.is;
    sdu = p.sdu;
    ue = p.ue;
    way = p.way;
    drb = p.drb;
    routed = ap routed_for (put_same of_number spot n X) ∙ to;
    egress =
        p.egress;
  }
