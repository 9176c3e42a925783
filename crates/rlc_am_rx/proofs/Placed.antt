-- What is held of an SDU once a PDU is placed.
use Rattle.std.proofs.Common.{◌≡◌, inl, inr, ℕ, ◌-◌, ◌<◌, ◌≤◌, Bool, false, nat_lt, cond, zero, suc, List, [], ◌∷◌, length, map, get_or, slice_get, Option, Some, None, Result, Ok, Err, OnErr, refl, sym, ◌∙◌, ap, subst, arith}
use Rattle.std.proofs.lemmas.Bool.{cases_Bool, cases_lt, cond-true, cond-false, lt-ltb, le-ltb}
use Rattle.std.proofs.lemmas.Option.{none-some, same_Some, slice_get-get_or, slice_get_past}
use Rattle.byte_spans.specs.Spans.{has, Has, Adds}
use Rattle.rlc_pdu.specs.declared.amd.Si.{Si}
use Rattle.rlc_pdu.specs.declared.amd.Si.TheVariants.{Whole, First, Last, Middle}
use Rattle.rlc_pdu.specs.Amd.{Amd, IsOffset}
use Rattle.rlc_model.specs.Pdu.{end_of, is_end, byte_at}
use Rattle.rlc_model.specs.Rx.{Got, held_at, first_of, IsFull, Places}
use Rattle.rlc_model.specs.Rx.Got.{Done, Part}
use Rattle.rlc_model.specs.Made.{HoldsNone}
use Rattle.rlc_am_rx.specs.Assembly.{Pieces, got_of_pieces, bytes_held, WritesBytes}
use Rattle.rlc_am_rx.specs.Reassembly.{PlacesPart, PlacesWhole}
use Rattle.rlc_am_rx.proofs.Held.{byte_held, bytes_held_at, has_some, lacks_none}

pub on_err : {X E : Type 0} (r : Result X E) (P : Type 0) → P → OnErr r P
on_err (Ok x) P p = tt
on_err (Err e) P p = p

byte_in : (v : Amd) (p : ℕ) → v.so ≤ p → p < end_of v → byte_at v p ≡ Some (get_or v.body (p - v.so) 0)
byte_in v p ge lt = cond-false (nat_lt p v.so) None (slice_get v.body (p - v.so)) (le-ltb p v.so ge)
    ∙ slice_get-get_or v.body (p - v.so) 0 (omega (arith, ge, lt))

byte_low : (v : Amd) (p : ℕ) → p < v.so → byte_at v p ≡ None
byte_low v p lt = cond-true (nat_lt p v.so) None (slice_get v.body (p - v.so)) (lt-ltb p v.so lt)

byte_high : (v : Amd) (p : ℕ) → end_of v ≤ p → byte_at v p ≡ None
byte_high v p ge = cond-false (nat_lt p v.so) None (slice_get v.body (p - v.so)) (le-ltb p v.so (omega (arith, ge)))
    ∙ slice_get_past v.body (p - v.so) (omega (arith, ge))

first_none : (o : Option ℕ) → first_of o None ≡ o
first_none None = refl
first_none (Some b) = refl

module _ (g : Got) (v : Amd) (bytes new_bytes : List ℕ) (flags new_flags : List Bool) (same : (p : ℕ) → held_at g p ≡ byte_held bytes flags p)
    (kept : (p : ℕ) → Has flags p → get_or new_bytes p 0 ≡ get_or bytes p 0)
    (writes : WritesBytes flags v.so v.body bytes new_bytes) (adds : Adds flags new_flags v.so (end_of v)) where
  -- a place that is held keeps its byte
  stays : (p : ℕ) → Has flags p → Has new_flags p → byte_held new_bytes new_flags p ≡ first_of (held_at g p) (byte_at v p)
  stays p was is = has_some new_bytes new_flags p is ∙ ap (λ (b : ℕ). Some b) (kept p was)
      ∙ ap (λ (o : Option ℕ). first_of o (byte_at v p)) (sym (same p ∙ has_some bytes flags p was))

  -- outside of the PDU nothing changes
  outside : (p : ℕ) → has new_flags p ≡ has flags p → byte_at v p ≡ None → byte_held new_bytes new_flags p ≡ first_of (held_at g p) (byte_at v p)
  outside p as_before none = elim (cases_Bool (has flags p)) [
    | inl was ↦ stays p was (as_before ∙ was)
    | inr lacks ↦ lacks_none new_bytes new_flags p (as_before ∙ lacks)
        ∙ sym (ap (first_of (held_at g p)) none ∙ first_none (held_at g p) ∙ same p ∙ lacks_none bytes flags p lacks)
  ]

  pub placed_at : (p : ℕ) → get_or (bytes_held new_bytes new_flags) p None ≡ first_of (held_at g p) (byte_at v p)
  placed_at p = bytes_held_at new_bytes new_flags p ∙ elim (cases_lt p v.so) [
    | inl low ↦ outside p (adds.below p low) (byte_low v p low)
    | inr from ↦ elim (cases_lt p (end_of v)) [
      | inr past ↦ outside p (adds.above p past) (byte_high v p past)
      | inl within ↦ elim (cases_Bool (has flags p)) [
        | inl was ↦ stays p was (adds.within p from within)
        | inr lacks ↦ has_some new_bytes new_flags p (adds.within p from within)
            ∙ ap (λ (b : ℕ). Some b) (writes.bytes p from within lacks)
            ∙ sym (ap (λ (o : Option ℕ). first_of o (byte_at v p)) (same p ∙ lacks_none bytes flags p lacks) ∙ byte_in v p from within)
      ]
    ]
  ]

-- the byte of each place
some_each : (l : List ℕ) (p : ℕ) → get_or (map (λ (b : ℕ). Some b) l) p None ≡ slice_get l p
some_each [] p = refl
some_each (b ∷ l) zero = refl
some_each (b ∷ l) (suc p) = some_each l p

-- a PDU that is a whole SDU makes it complete
pub whole_placed : (v : Amd) (sdu : List ℕ) → v.si ≡ Whole → IsOffset v.si v.so → sdu ≡ v.body → PlacesWhole (Part [] None) v sdu Done
whole_placed v sdu whole offset same = record {
  held = map (λ (b : ℕ). Some b) v.body;
  len = Some (end_of v);
  places = record {
    bytes = λ p. some_each v.body p ∙ sym (ap (λ (so : ℕ). cond (nat_lt p so) None (slice_get v.body (p - so))) from_start
        ∙ cond-false (nat_lt p 0) None (slice_get v.body (p - 0)) (le-ltb p 0 (omega arith)) ∙ ap (slice_get v.body) (omega arith));
    its_length = sym (ap (λ (s : Si). cond (is_end s) (Some (end_of v)) None) whole);
  };
  covers = record {
    known = ap (λ (k : ℕ). Some k) (omega (arith, from_start, ap (λ (l : List ℕ). length l) same));
    bytes = λ p lt. some_each v.body p ∙ ap (λ (l : List ℕ). slice_get l p) (sym same) ∙ slice_get-get_or sdu p 0 lt;
  };
  is = refl;
}
  where
    from_start : v.so ≡ 0
    from_start = subst (λ (s : Si). IsOffset s v.so) whole offset

-- a PDU that isn't a whole SDU doesn't make one complete of which nothing was held
pub first_placed : (v : Amd) (old new : Pieces) → HoldsNone (got_of_pieces old) → old.len ≡ None → (v.si ≡ Whole → ⊥) → IsOffset v.si v.so
    → Places (got_of_pieces old) v new.held new.len → PlacesPart (Part [] None) v (got_of_pieces new)
first_placed v old new none unknown part offset places = record {
  held = new.held;
  len = new.len;
  places = record {
    bytes = λ p. at p;
    its_length = places.its_length ∙ ap (λ (l : Option ℕ). cond (is_end v.si) (Some (end_of v)) l) unknown;
  };
  partial = by_si v.si refl;
  is = refl;
}
  where
    at : (p : ℕ) → get_or new.held p None ≡ byte_at v p
    at p = places.bytes p ∙ ap (λ (o : Option ℕ). first_of o (byte_at v p)) (none p)

    goes_on : is_end v.si ≡ false → IsFull new.held new.len → ⊥
    goes_on inner full = none-some full.0 (sym (places.its_length ∙ cond-false (is_end v.si) (Some (end_of v)) old.len inner ∙ unknown) ∙ full.1)

    by_si : (s : Si) → v.si ≡ s → IsFull new.held new.len → ⊥
    by_si Whole is full = part is
    by_si First is full = goes_on (ap is_end is) full
    by_si Middle is full = goes_on (ap is_end is) full
    by_si Last is full =
        let behind : 1 ≤ v.so = subst (λ (s : Si). IsOffset s v.so) is offset in
        let long : end_of v ≡ full.0 = same_Some (end_of v) full.0
        (sym (places.its_length ∙ cond-true (is_end v.si) (Some (end_of v)) old.len (ap is_end is)) ∙ full.1) in
        full.2 0 (omega (arith, behind, long)) (at 0 ∙ byte_low v 0 (omega (arith, behind)))
