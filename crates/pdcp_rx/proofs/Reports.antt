-- A bitmap is that of a status report.
use Rattle.std.proofs.Common.{◌≡◌, ◌≢◌, ◌⊎◌, ◌↔◌, inl, inr, ℕ, zero, suc, ◌+◌, ◌-◌, ◌*◌, ◌/◌, ◌%◌, ◌^◌, ◌<◌, ◌≤◌, true, false, if◌then◌else◌, List, [], ◌∷◌, length, get_or, drop, Option, Some, None, refl, sym, ◌∙◌, ap, subst, arith, true≢false}
use Rattle.std.proofs.Math.Nat.{zero-div}
use Rattle.std.specs.List.{list_all}
use Rattle.std.specs.Option.{is_none, is_some}
use Rattle.std.proofs.lemmas.Bool.{cases_lt}
use Rattle.std.proofs.lemmas.List.{get_or_past}
use Rattle.std.proofs.lemmas.List.Elements.{All-from_get_or}
use Rattle.std.proofs.lemmas.Option.{none-some}
use Rattle.pdcp_pdu.specs.Pdcp.{Report, PdcpFits, pdcp_bytes}
use Rattle.pdcp_pdu.specs.Reports.{bit_of}
use Rattle.pdcp_model.specs.Receiver.{Receiver, IsReport, rx_deliv, stored_at, can_report}
use Rattle.pdcp_rx.specs.Receiver.{IsSound}
use Rattle.pdcp_rx.specs.Reporting.{SpellsReport}
use Rattle.pdcp_rx.specs.Store.{waits, IsBitmap}
use Rattle.pdcp_rx.proofs.Bits.{bit_read, bits_below}

-- a bit is 1 where an SDU is there
one_where_some : (o : Option (List ℕ)) → (◌≡◌ {A = ℕ} (if is_some o then 1 else 0) 1) ↔ (o ≢ None)
one_where_some None = (λ e. absurd (omega arith), λ some. absurd (some refl))
one_where_some (Some sdu) = (λ e none. none-some sdu (sym none), λ some. refl)

-- the same of a bitmap's bit
pub bit_where_stored : (stored : List (Option (List ℕ))) (map : List ℕ) → IsBitmap stored map → (n : ℕ) → 1 ≤ n → (bit_of map n ≡ 1) ↔ (get_or stored n None ≢ None)
bit_where_stored stored map is n from = elim (cases_lt ((n - 1) / 8) (length map)) [
  | inl lt ↦
      let k : (n - 1) % 8 < 8 = omega arith in
      let at : 8 * ((n - 1) / 8) + 1 + (n - 1) % 8 ≡ n = omega (arith, from) in
      let octet = is.octets ((n - 1) / 8) lt in
      let bit : bit_of map n ≡ (if waits stored n then 1 else 0) =
      ap (λ (o : ℕ). o / 2 ^ (7 - (n - 1) % 8) % 2) octet ∙ bit_read stored (8 * ((n - 1) / 8) + 1) 8 ((n - 1) % 8) (7 - (n - 1) % 8) (omega (arith, k)) ∙ ap (λ (m : ℕ). if waits stored m then 1 else 0) at in
      let one = one_where_some (get_or stored n None) in
      (λ e. one.0 (sym bit ∙ e), λ some. bit ∙ one.1 some)
  | inr le ↦
      let octet : get_or map ((n - 1) / 8) 0 ≡ 0 = get_or_past map ((n - 1) / 8) 0 le in
      let bit : bit_of map n ≡ 0 / 2 ^ (7 - (n - 1) % 8) % 2 = ap (λ (o : ℕ). o / 2 ^ (7 - (n - 1) % 8) % 2) octet in
      let past : length stored ≤ n = omega (arith, from, is.enough, le) in
      (λ e. absurd (zero_bit (2 ^ (7 - (n - 1) % 8)) (sym bit ∙ e)), λ some. absurd (some (get_or_past stored n None past)))
]
  where
    zero_bit : (m : ℕ) → 0 / m % 2 ≡ 1 → ⊥
    zero_bit m e = omega (arith, e, zero-div m)

-- where a bitmap has octets, it ends with that of the last SDU stored
ends_with_last : (r : Receiver) (map : List ℕ) → IsSound r → IsBitmap r.stored map → (map ≡ []) ⊎ ((n : ℕ) × (stored_at r n ≢ None) × (length map * 8 < n + 8))
ends_with_last r [] sound is = inl refl
ends_with_last r (o ∷ os) sound is =
    let last : length r.stored ≡ length r.stored - 1 + 1 = omega (arith, is.few) in
    inr (length r.stored - 1, sound.last (length r.stored - 1) last, omega (arith, is.few))

-- so it is the bitmap of the receiving side's status report
pub reports : (r : Receiver) (map : List ℕ) → IsSound r → IsBitmap r.stored map → IsReport r (rx_deliv r) map
reports r map sound is = record {
  its_fmc = refl;
  octets = All-from_get_or (λ octet. octet < 256) map 0 (λ i lt. subst (λ (o : ℕ). o < 256) (sym (is.octets i lt)) (bits_below r.stored (8 * i + 1) 8));
  bits = bit_where_stored r.stored map is;
  ends = ends_with_last r map sound is;
}

-- behind as many places as there are nothing is left
pub none_behind : (n : ℕ) (xs : List (Option (List ℕ))) → length xs ≤ n → list_all is_none (drop n xs) ≡ true
none_behind zero [] le = refl
none_behind (suc n) [] le = refl
none_behind zero (x ∷ xs) le = absurd (omega arith)
none_behind (suc n) (x ∷ xs) le = none_behind n xs (omega arith)

-- behind fewer the last one is
pub some_behind : (n : ℕ) (xs : List (Option (List ℕ))) → ((m : ℕ) → length xs ≡ m + 1 → get_or xs m None ≢ None) → n < length xs → list_all is_none (drop n xs) ≡ false
some_behind n [] last lt = absurd (omega arith)
some_behind zero (Some sdu ∷ xs) last lt = refl
some_behind zero (None ∷ []) last lt = absurd (last 0 refl refl)
some_behind zero (None ∷ x ∷ xs) last lt = some_behind zero (x ∷ xs) (λ m e. last (suc m) (omega (arith, e))) (omega arith)
some_behind (suc n) (x ∷ xs) last lt = some_behind n xs (λ m e. last (suc m) (omega (arith, e))) (omega arith)

-- a report can tell of at most so many places
pub few_places : (r : Receiver) → IsSound r → can_report r ≡ true → length r.stored ≤ 65536
few_places r sound can = elim (cases_lt 65536 (length r.stored)) [
  | inl lt ↦ absurd (true≢false (sym can ∙ some_behind 65536 r.stored sound.last lt))
  | inr le ↦ le
]

module _ (r : Receiver) (map : List ℕ) (sound : IsSound r) (can : can_report r ≡ true) (is : IsBitmap r.stored map) where
  -- the report has a spelling
  pub report_fits : PdcpFits r.size (Report (rx_deliv r) map)
  report_fits = (omega (arith, sound.within), omega (arith, is.few, few_places r sound can))

  -- and these are its octets
  pub spells_report : (octets : List ℕ) → octets ≡ pdcp_bytes r.size (Report (rx_deliv r) map) → SpellsReport r octets
  spells_report octets e = record {
    fmc = rx_deliv r;
    map = map;
    report = reports r map sound is;
    fits = report_fits;
    spelt = e;
    long = omega (arith, ap length e, is.few, few_places r sound can);
  }
