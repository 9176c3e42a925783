-- What a status report says.
use Rattle.std.proofs.Common.{◌≡◌, ◌≢◌, inl, inr, ℕ, ◌+◌, ◌-◌, ◌<◌, ◌≤◌, List, [], length, get_or, Option, Some, None, refl, sym, ◌∙◌, ap, subst, arith}
use Rattle.std.proofs.lemmas.Bool.{cases_lt}
use Rattle.std.proofs.lemmas.Bool.Decides.{nat_tests}
use Rattle.std.proofs.lemmas.Option.{none-some}
use Rattle.link_base.specs.declared.names.SnSize.{SnSize}
use Rattle.pdcp_pdu.specs.Reports.{Reports}
use Rattle.pdcp_model.specs.Receiver.{Receiver, stored_at, IsReport}
use Rattle.pdcp_model.specs.HandUp.{Hearing, IsHeardAs, IsHeard}
use Rattle.pdcp_law.specs.Hearings.{ReportsWhatWasHeard, TestsReports}
use Rattle.pdcp_law.proofs.Holding.{HoldsAll, holds_all, deliv}

-- the test of a report tells what it says
pub tests_reports : TestsReports
tests_reports fmc map count = (grind (arith, nat_tests), grind (arith, nat_tests))

module _ (size : SnSize) (first : ℕ) (hs : List Hearing) (sdus : List (List ℕ)) (r : Receiver) (fmc : ℕ) (map : List ℕ) (all : HoldsAll size first hs sdus r) (report : IsReport r fmc map) (count : ℕ) (from : first ≤ count) where
  -- FMC is the COUNT behind those handed up
  fmc_is : fmc ≡ first + length sdus
  fmc_is = report.its_fmc ∙ deliv size first hs sdus r all

  -- a COUNT above FMC was heard where it is stored
  heard_above : (n : ℕ) → fmc + n ≡ count → (o : Option (List ℕ)) → stored_at r n ≡ o → o ≢ None → IsHeard size first hs count
  heard_above n at None is ne = absurd (ne refl)
  heard_above n at (Some x) is ne =
      let here : first + length sdus + n ≡ count = omega (arith, at, fmc_is) in
      (x, subst (λ (c : ℕ). IsHeardAs size first hs c x) here (all.holds.stored n x is))

  -- what is reported was heard
  reported_heard : Reports fmc map count → IsHeard size first hs count
  reported_heard (inl low) =
      let at : first + (count - first) ≡ count = omega (arith, from) in
      (_, subst (λ (c : ℕ). IsHeardAs size first hs c (get_or sdus (count - first) [])) at (all.holds.up (count - first) (omega (arith, from, low, fmc_is))))
  reported_heard (inr bit) =
      let at : fmc + (count - fmc) ≡ count = omega (arith, bit.0) in
      heard_above (count - fmc) at (stored_at r (count - fmc)) refl ((report.bits (count - fmc) (omega (arith, bit.0))).0 bit.1)

  -- what was heard is reported
  heard_reported : IsHeard size first hs count → Reports fmc map count
  heard_reported heard = elim (cases_lt count fmc) [
    | inl low ↦ inl low
    | inr high ↦
        let at : count ≡ first + length sdus + (count - fmc) = omega (arith, high, fmc_is) in
        let is = all.holds.waits (count - fmc) heard.0 (subst (λ (c : ℕ). IsHeardAs size first hs c heard.0) at heard.1) in
        let above : fmc < count = elim (cases_lt fmc count) [
          | inl lt ↦ lt
          | inr le ↦
              let none : count - fmc ≡ 0 = omega (arith, le) in
              absurd (none-some heard.0 (sym all.next ∙ ap (stored_at r) (sym none) ∙ is))
        ] in
        inr (above, (report.bits (count - fmc) (omega (arith, above))).1 (λ none. none-some heard.0 (sym none ∙ is)))
  ]

-- the status report of a receiving side names what was heard
pub reports_what_was_heard : ReportsWhatWasHeard
reports_what_was_heard size first hs sdus r fmc map heard report count from =
    let all = holds_all size first hs sdus r heard in
    (reported_heard size first hs sdus r fmc map all report count from, heard_reported size first hs sdus r fmc map all report count from)
