-- What the air hands over is fresh.
use Rattle.std.proofs.Common.{◌≡◌, ℕ, ◌+◌, ◌<◌, ◌≤◌, Bool, true, false, cond, eqb, not, Option, Some, None, refl, sym, ◌∙◌, ap, ltb-false, leb-false, le-ltb, eq-eqb, eqb-true}
use Rattle.std.proofs.lemmas.Bool.{cond-false, lt-leb}
use Rattle.std.proofs.lemmas.Option.{none-some}
use Rattle.link_base.specs.declared.names.SnSize.{SnSize}
use Rattle.link_base.specs.SequenceNumbers.{window}
use Rattle.rlc_model.specs.declared.hop.AirFault.{AirFault}
use Rattle.rlc_model.specs.declared.hop.AirFault.TheVariants.{Gone, Stale}
use Rattle.rlc_model.specs.Air.{is_stale, IsFresh}
use Rattle.rlc_model.specs.Hop.{air_fault}
use Rattle.rlc_law.specs.Laws.{PassesFresh}

-- a data PDU is fresh exactly where its number lies at most a window below RX_Next
pub fresh_data : (size : SnSize) (n next : ℕ) → IsFresh size false n next → next ≤ n + window size
fresh_data size n next fresh = ltb-false (n + window size) next fresh

pub data_fresh : (size : SnSize) (n next : ℕ) → next ≤ n + window size → IsFresh size false n next
data_fresh size n next le = le-ltb (n + window size) next le

-- a STATUS is fresh exactly where its number lies less than a window below TX_Next_Ack
pub fresh_status : (size : SnSize) (n next : ℕ) → IsFresh size true n next → next < n + window size
fresh_status size n next fresh = leb-false (n + window size) next fresh

pub status_fresh : (size : SnSize) (n next : ℕ) → next < n + window size → IsFresh size true n next
status_fresh size n next lt = lt-leb (n + window size) next lt

-- a fault of the air is one of two
of_two : (gone stale : Bool) (a b : AirFault) → cond gone (Some a) (cond stale (Some b) None) ≡ None → (gone ≡ false) × (stale ≡ false)
of_two true stale a b is = absurd (none-some a (sym is))
of_two false true a b is = absurd (none-some b (sym is))
of_two false false a b is = (refl, refl)

turned : (b : Bool) → not b ≡ false → b ≡ true
turned true e = refl
turned false e = sym e

-- what has none of them is fresh, in the epoch where it stands
pub passes_fresh : PassesFresh
passes_fresh size pdu epoch next = (to epoch, λ is. from epoch is.0 is.1)
  where
    to : (epoch : Option ℕ) → air_fault size pdu epoch next ≡ None → (epoch ≡ Some pdu.epoch) × IsFresh size pdu.status pdu.number next
    to None is = absurd (none-some Gone (sym is))
    to (Some epoch) is =
        let fine = of_two (not (eqb epoch pdu.epoch)) (is_stale size pdu.status pdu.number next) Gone (Stale pdu.number next) is in
        (ap (λ (e : ℕ). Some e) (eqb-true epoch pdu.epoch (turned (eqb epoch pdu.epoch) fine.0)), fine.1)

    from : (epoch : Option ℕ) → epoch ≡ Some pdu.epoch → IsFresh size pdu.status pdu.number next → air_fault size pdu epoch next ≡ None
    from epoch is fresh =
        ap (λ (e : Option ℕ). air_fault size pdu e next) is
        ∙ cond-false (not (eqb pdu.epoch pdu.epoch)) (Some Gone) (cond (is_stale size pdu.status pdu.number next) (Some (Stale pdu.number next)) None) (ap not (eq-eqb pdu.epoch pdu.epoch refl))
        ∙ cond-false (is_stale size pdu.status pdu.number next) (Some (Stale pdu.number next)) None fresh
