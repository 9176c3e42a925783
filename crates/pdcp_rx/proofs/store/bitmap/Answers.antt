use Rattle.std.proofs.Common.{◌≡◌, ◌+◌, ◌<◌, ℕ, List, [], ◌∷◌, ◌++◌, length, get_or, ◌∙◌, ap, arith, below_more}
use Rattle.std.proofs.lemmas.List.{get_or_append_left, get_or_at}
use Rattle.pdcp_rx.proofs.store.bitmap.Goals as goal

-- one more item
one_more : (xs ys : List ℕ) (y : ℕ) (f : ℕ → ℕ) (n : ℕ) → ys ≡ xs ++ y ∷ [] → length xs ≡ n → ((i : ℕ) → i < n → get_or xs i 0 ≡ f i) → y ≡ f n → (i : ℕ) → i < n + 1 → get_or ys i 0 ≡ f i
one_more xs ys y f n e long each last =
    below_more _ _ (λ i lt. ap (λ (zs : List ℕ). get_or zs i 0) e ∙ get_or_append_left xs (y ∷ []) 0 i (omega (arith, lt, long)) ∙ each i lt)
    (ap (λ (zs : List ℕ). get_or zs n 0) e ∙ get_or_at xs y [] 0 n long ∙ last)

pub loop-octet-preserved : goal.loop-octet-preserved
loop-octet-preserved c = record {
  long = omega arith;
  room = omega arith;
  octets = one_more _ _ _ _ c.loop-octet.octet c.push_reserved.ensures.items (omega arith) c.loop-octet.invariant.octets c.octet_from.ensures;
}
