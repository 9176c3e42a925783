-- An answer that is right where it speaks is the only right one.
use Rattle.std.proofs.Common.{◌≡◌, ◌≢◌, ℕ, ◌<◌, List, get_or, Result, Ok, Err, refl, ap, inl, inr}
use Rattle.std.specs.Prelude.{◌⊎◌, IfOk, IfErr}
use Rattle.std.proofs.lemmas.List.Elements.{All-from_get_or}
use Rattle.link_base.specs.declared.names.SnSize.{SnSize}
use Rattle.rlc_status.specs.declared.status.Status.{Status}
use Rattle.rlc_status.specs.declared.fault.StatusFault.{StatusFault}
use Rattle.rlc_status.specs.declared.fault.StatusFault.TheVariants.{Memory}
use Rattle.rlc_status.specs.Format.{StatusFits, IsStatus, IsStatusFault}
use Rattle.rlc_status.proofs.Octets.{spelt_fits}
use Rattle.rlc_status.proofs.Unique.{one_reading}
use Rattle.rlc_status.proofs.Faults.{no_fault, one_fault}

-- an error is want of memory or names a fault
by_memory : (fault : StatusFault) → (fault ≡ Memory) ⊎ (fault ≢ Memory)
by_memory Memory = inl refl
by_memory fault = inr (λ e. cc)

-- what is spelt is read
pub read : (size : SnSize) (octets : List ℕ) (r : Result Status StatusFault) → IfOk r (λ status. IsStatus size status octets) → IfErr r (λ fault. fault ≢ Memory → IsStatusFault size octets fault)
    → (status : Status) → IsStatus size status octets → (r ≡ Ok status) ⊎ (r ≡ Err Memory)
read size octets (Ok found) ok err status t = inl (ap (λ (s : Status). Ok s) (one_reading size found status octets ok t))
read size octets (Err fault) ok err status t =
    elim (by_memory fault) [
      | inl memory ↦ inr (ap (λ (f : StatusFault). Err f) memory)
      | inr named ↦ absurd (no_fault size status octets fault t (err named))
    ]

-- what is read fits
pub fits : (size : SnSize) (octets : List ℕ) (r : Result Status StatusFault) → ((i : ℕ) → get_or octets i 0 < 256) → IfOk r (λ status. IsStatus size status octets) → IfOk r (StatusFits size)
fits size octets (Ok found) all ok = spelt_fits size found octets (All-from_get_or (λ octet. octet < 256) octets 0 (λ i lt. all i)) ok
fits size octets (Err fault) all ok = tt

-- the first fault is found
pub refused : (size : SnSize) (octets : List ℕ) (r : Result Status StatusFault) → IfOk r (λ status. IsStatus size status octets) → IfErr r (λ fault. fault ≢ Memory → IsStatusFault size octets fault)
    → (fault : StatusFault) → IsStatusFault size octets fault → (r ≡ Err fault) ⊎ (r ≡ Err Memory)
refused size octets (Ok found) ok err fault w = absurd (no_fault size found octets fault ok w)
refused size octets (Err other) ok err fault w =
    elim (by_memory other) [
      | inl memory ↦ inr (ap (λ (f : StatusFault). Err f) memory)
      | inr named ↦ inl (ap (λ (f : StatusFault). Err f) (one_fault size octets other fault (err named) w))
    ]
