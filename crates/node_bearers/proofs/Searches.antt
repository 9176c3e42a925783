-- What a search finds among bearers in order.
use Rattle.std.proofs.Common.{◌≡◌, ◌≢◌, ℕ, zero, suc, ◌*◌, ◌+◌, ◌<◌, ◌≤◌, Bool, true, false, List, [], ◌∷◌, length, get_or, Result, Ok, Err, inl, inr, refl, sym, ◌∙◌, ap, subst, arith}
use Rattle.std.specs.Prelude.{Option, Some, None, IfSome, IfNone, ◌==◌, ◌&&◌}
use Rattle.std.specs.Result.{result_ok}
use Rattle.std.specs.List.{AllByRecursion}
use Rattle.std.specs.List.Sorted.{IsSearchInRange, IsBinarySearchResult, IsNonDecreasingBy}
use Rattle.std.specs.Ordering.{nat_cmp, ordering_index}
use Rattle.std.proofs.lemmas.Cmp.{ranked}
use Rattle.std.proofs.lemmas.Bool.{cases_lt, eqb-true, false≢true, false_from_ne_true}
use Rattle.std.proofs.lemmas.Bool.Decides.{nat_tests}
use Rattle.link_base.specs.declared.names.Drb.{Drb}
use Rattle.link_base.specs.declared.names.Key.{Key}
use Rattle.link_base.specs.declared.names.Remote.{Remote}
use Rattle.link_base.specs.declared.names.Way.{Way}
use Rattle.link_base.specs.declared.names.Way.TheVariants.{Ul, Dl}
use Rattle.bearer_map.specs.Contents.{pair}
use Rattle.bearer_map.specs.Order.{IsAscending}
use Rattle.node_model.specs.Names.{key_of, is_key, is_way}
use Rattle.node_bearers.specs.declared.bearer.Bearer.{Bearer}
use Rattle.node_bearers.specs.Bearer.{rank, bearer_key}
use Rattle.node_bearers.specs.Calls.{is_of_bearer}
use Rattle.node_bearers.specs.Order.{IsSmall, IsInOrder, IsAt, IsOf, HasRank, HasNone, HasNoRank}
use Rattle.node_bearers.proofs.Found.{all_map, both_true}

-- what holds at each place holds of each
from_places : {A : Type 0} (P : A → Type 0) (xs : List A) → ((i : ℕ) (d : A) → i < length xs → P (get_or xs i d)) → AllByRecursion P xs
from_places P [] each = tt
from_places P (x ∷ xs) each = (each 0 x (omega arith), from_places P xs (λ i d lt. each (suc i) d (omega arith)))

at_place : {A : Type 0} (P : A → Type 0) (xs : List A) (i : ℕ) (d : A) → AllByRecursion P xs → i < length xs → P (get_or xs i d)
at_place P [] i d all lt = absurd (omega arith)
at_place P (x ∷ xs) zero d all lt = all.0
at_place P (x ∷ xs) (suc i) d all lt = at_place P xs i d all.1 (omega arith)

ranks_rise : (rows : List Bearer) (i j : ℕ) (d : Bearer) → IsAscending rank rows → i ≤ j → j < length rows → rank (get_or rows i d) ≤ rank (get_or rows j d)
ranks_rise [] i j d up le lt = absurd (omega arith)
ranks_rise (r ∷ rows) zero zero d up le lt = omega arith
ranks_rise (r ∷ rows) zero (suc j) d up le lt = let above : rank r < rank (get_or rows j d) = at_place (λ x. rank r < rank x) rows j d up.0 (omega arith) in omega (arith, above)
ranks_rise (r ∷ rows) (suc i) zero d up le lt = absurd (omega arith)
ranks_rise (r ∷ rows) (suc i) (suc j) d up le lt = ranks_rise rows i j d up.1 (omega arith) (omega arith)

module _ (rows : List Bearer) (up : IsAscending rank rows) (k : ℕ) where
  comparisons_rise : IsNonDecreasingBy (λ b. ordering_index (nat_cmp (rank b) k)) rows
  comparisons_rise i j d le lt =
      let rises : rank (get_or rows i d) ≤ rank (get_or rows j d) = ranks_rise rows i j d up le lt in
      grind (arith, nat_tests)

  pub searched : (r : Result ℕ ℕ) → IsSearchInRange r (length rows) → IsBinarySearchResult (λ b. nat_cmp (rank b) k) rows r → record { found : IfSome (result_ok r) (IsAt (HasRank k) rows); absent : IfNone (result_ok r) (HasNoRank k rows) }
  searched (Ok at) in_range equal = record { found = (in_range, λ d. ranked _ k _ (sym (equal d))); absent = tt }
  searched (Err at) in_range parted = record {
    found = tt;
    absent = from_places (λ b. rank b ≢ k) rows (λ i d lt. elim (cases_lt i at) [
      | inl below ↦ let less : rank (get_or rows i d) < k = ranked _ k _ (sym ((parted comparisons_rise).0 i d (omega arith) below)) in λ same. omega (arith, less, same)
      | inr above ↦ let more : k < rank (get_or rows i d) = ranked _ k _ (sym ((parted comparisons_rise).1 i d above lt)) in λ same. omega (arith, more, same)
    ]);
  }

way_is : (a b : Way) → is_way a b ≡ true → a ≡ b
way_is Ul Ul is = refl
way_is Dl Dl is = refl
way_is Ul Dl is = absurd cc
way_is Dl Ul is = absurd cc

-- the key of a bearer, by its parts
key_is : (way : Way) (key : Key) (b : Bearer) → key.remote.0 ≡ b.remote.0 → key.drb.0 ≡ b.drb.0 → key.way ≡ way → key ≡ bearer_key way b
key_is way key b remote drb same =
    ap (λ (n : ℕ). record key { remote = record { 0 = n } }) remote
    ∙ ap (λ (n : ℕ). key_of b.remote (record { 0 = n }) key.way) drb ∙ ap (λ (w : Way). key_of b.remote b.drb w) same

-- the bearer with the rank of a key's name is that of the key
module _ (way : Way) (key : Key) (rows : List Bearer) (order : IsInOrder rows) (small : key.drb.0 < 256) where
  pub named : (r : Option ℕ) → is_way key.way way ≡ true → IfSome r (IsAt (HasRank (pair key.remote.0 key.drb.0)) rows) → IfSome r (IsAt (IsOf way key) rows)
  named None same at = tt
  named (Some place) same at = (
    at.0,
    λ d.
        let b = get_or rows place d in
        let ranks : rank b ≡ pair key.remote.0 key.drb.0 = at.1 d in
        let b_small : b.drb.0 < 256 = at_place IsSmall rows place d order.small at.0 in
        key_is way key b (omega (arith, ranks, small, b_small)) (omega (arith, ranks, small, b_small)) (way_is key.way way same),
  )

  other_rank : (b : Bearer) → rank b ≢ pair key.remote.0 key.drb.0 → is_key key (bearer_key way b) ≡ false
  other_rank b ne = false_from_ne_true (is_key key (bearer_key way b)) (λ is.
      let names = both_true (key.remote.0 == b.remote.0) ((key.drb.0 == b.drb.0) && is_way key.way way) is in
      let drbs = both_true (key.drb.0 == b.drb.0) (is_way key.way way) names.1 in
      let remote = eqb-true key.remote.0 b.remote.0 names.0 in
      let drb = eqb-true key.drb.0 b.drb.0 drbs.0 in
      ne (omega (arith, remote, drb)))

  pub not_named : (r : Option ℕ) → IfNone r (HasNoRank (pair key.remote.0 key.drb.0) rows) → IfNone r (HasNone way key rows)
  not_named None none = all_map other_rank rows none
  not_named (Some place) none = tt

-- no bearer has a key of the other way
pub other_way : (way : Way) (key : Key) (rows : List Bearer) → is_way key.way way ≡ false → HasNone way key rows
other_way way key rows other = from_places (λ (b : Bearer). is_key key (bearer_key way b) ≡ false) rows (λ i d lt.
    let b = get_or rows i d in
    false_from_ne_true (is_key key (bearer_key way b)) (λ is.
    let names = both_true (key.remote.0 == b.remote.0) ((key.drb.0 == b.drb.0) && is_way key.way way) is in
    false≢true (sym other ∙ (both_true (key.drb.0 == b.drb.0) (is_way key.way way) names.1).1)))

-- bearers of one rank stand at one place
one_place : (rows : List Bearer) (i j : ℕ) (d : Bearer) → IsAscending rank rows → i < length rows → j < length rows → rank (get_or rows i d) ≡ rank (get_or rows j d) → i ≡ j
one_place [] i j d up lt also same = absurd (omega arith)
one_place (r ∷ rows) zero zero d up lt also same = refl
one_place (r ∷ rows) zero (suc j) d up lt also same =
    let above : rank r < rank (get_or rows j d) = at_place (λ x. rank r < rank x) rows j d up.0 (omega arith) in absurd (omega (arith, above, same))
one_place (r ∷ rows) (suc i) zero d up lt also same =
    let above : rank r < rank (get_or rows i d) = at_place (λ x. rank r < rank x) rows i d up.0 (omega arith) in absurd (omega (arith, above, same))
one_place (r ∷ rows) (suc i) (suc j) d up lt also same = ap suc (one_place rows i j d up.1 (omega arith) (omega arith) same)

-- where a key of a bearer stands, the bearer is found by its rank
module _ (rows : List Bearer) (order : IsInOrder rows) (remote : Remote) (drb : Drb) where
  pub its_place : (found : Option ℕ) → IfSome found (IsAt (HasRank (pair remote.0 drb.0)) rows) → IfNone found (HasNoRank (pair remote.0 drb.0) rows) → (way : Way) (key : Key) (at : ℕ) → at < length rows
      → ((d : Bearer) → key ≡ bearer_key way (get_or rows at d)) → is_of_bearer remote drb key ≡ true → found ≡ Some at
  its_place found some none way key at lt is its =
      let b = first rows at lt in
      let names = both_true (remote.0 == key.remote.0) (drb.0 == key.drb.0) its in
      let one = eqb-true remote.0 key.remote.0 names.0 in
      let other = eqb-true drb.0 key.drb.0 names.1 in
      let remote_is = ap (λ (k : Key). k.remote.0) (is b) in
      let drb_is = ap (λ (k : Key). k.drb.0) (is b) in
      go found some none b (omega (arith, one, other, remote_is, drb_is))
    where
      first : (rs : List Bearer) (i : ℕ) → i < length rs → Bearer
      first [] i l = absurd (omega arith)
      first (r ∷ rs) i l = r

      go : (f : Option ℕ) → IfSome f (IsAt (HasRank (pair remote.0 drb.0)) rows) → IfNone f (HasNoRank (pair remote.0 drb.0) rows) → (b : Bearer) → rank (get_or rows at b) ≡ pair remote.0 drb.0 → f ≡ Some at
      go None here absent b ranks = absurd (at_place (λ (x : Bearer). rank x ≢ pair remote.0 drb.0) rows at b absent lt ranks)
      go (Some place) here absent b ranks = ap (λ (i : ℕ). Some i) (one_place rows place at b order.ascend here.0 lt (here.1 b ∙ sym ranks))
