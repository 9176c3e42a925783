-- An element and what stands behind it, joined from their fields.
use Rattle.std.proofs.Common.{◌≡◌, ℕ, Bool, List, ◌++◌, take, drop, refl, sym, ap, ◌∙◌, append_assoc}
use Rattle.std.specs.Prelude.{is_some}
use Rattle.std.proofs.lemmas.List.{take-append-drop}
use Rattle.link_base.specs.declared.names.SnSize.{SnSize}
use Rattle.rlc_status.specs.declared.status.Nack.{Nack}
use Rattle.rlc_status.specs.Format.{bit, Then, IsFree, IsNackHead, IsPart, IsRange, SpellsNack}

-- a list cut at a place, joined again
pub split : (i : ℕ) (octets rest : List ℕ) → rest ≡ drop i octets → take i octets ++ rest ≡ octets
split i octets rest e = ap (λ (r : List ℕ). take i octets ++ r) e ∙ take-append-drop i octets

-- the octets cut at three places are an element, where each piece is what it should be
pub spells : (size : SnSize) (nack : Nack) (e1 i j k : ℕ) (e2 e3 : Bool) (octets a b rest : List ℕ)
    → IsNackHead IsFree size nack.sn e1 (bit e2) (bit e3) (take i octets) → a ≡ drop i octets
    → is_some nack.part ≡ e2 → IsPart nack.part (take j a) → b ≡ drop j a
    → is_some nack.range ≡ e3 → IsRange nack.range (take k b) → rest ≡ drop k b
    → Then (SpellsNack IsFree size nack e1) (λ r. r ≡ rest) octets
spells size nack e1 i j k e2 e3 octets a b rest head a-is part-is part b-is range-is range rest-is =
    let whole : octets ≡ (take i octets ++ (take j a ++ take k b)) ++ rest =
    sym (split i octets a a-is) ∙ ap (λ (r : List ℕ). take i octets ++ r) (sym (split j a b b-is) ∙ ap (λ (r : List ℕ). take j a ++ r) (sym (split k b rest rest-is)) ∙ sym (append_assoc (take j a) (take k b) rest))
    ∙ sym (append_assoc (take i octets) (take j a ++ take k b) rest) in
    record {
      front = take i octets ++ (take j a ++ take k b);
      rest = rest;
      both = whole;
      first = record {
        front = take i octets;
        rest = take j a ++ take k b;
        both = refl;
        first = rw (part-is, range-is) head;
        second = record { front = take j a; rest = take k b; both = refl; first = part; second = range };
      };
      second = refl;
    }
