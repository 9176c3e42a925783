-- The STATUS that a receiver makes (TS 38.322 clause 5.3.4).
use Rattle.std.specs.Prelude.{◌≡◌, ◌≢◌, ◌⊎◌, ◌↔◌, ℕ, ◌+◌, ◌-◌, ◌%◌, ◌<◌, ◌≤◌, min, true, false, if◌then◌else◌, ◌==◌, List, [], ◌∷◌, ◌++◌, Option, Some, None}
use Rattle.link_base.specs.SequenceNumbers.{modulus}
use Rattle.rlc_status.specs.declared.status.Nack.{Nack}
use Rattle.rlc_status.specs.declared.status.Status.{Status}
use Rattle.rlc_status.specs.Format.{nacks_len}
use Rattle.rlc_status.specs.Says.{Names, SaysMissing}
use Rattle.rlc_model.specs.declared.receiver.Made.{Made}
use Rattle.rlc_model.specs.declared.receiver.Made.TheVariants.{Full, Small}
use Rattle.rlc_model.specs.Numbers.{IsFirst}
use Rattle.rlc_model.specs.Rx.{Rx, Got, Done, got, held_at, len_of, rx_next, status_due}

-- the place is one of the SDU, as far as its length is known
abbrev pub IsWithin : Got → ℕ → Type 0
IsWithin g p = (l : ℕ) → len_of g ≡ Some l → p < l

-- nothing is held of the SDU
abbrev pub HoldsNone : Got → Type 0
HoldsNone g = (p : ℕ) → held_at g p ≡ None

-- a byte is held of the SDU
abbrev pub HoldsSome : Got → Type 0
HoldsSome g = (p : ℕ) × (held_at g p ≢ None)

-- the SDU is complete, or a byte of it is held
abbrev pub IsTouched : Got → Type 0
IsTouched g = (g ≡ Done) ⊎ HoldsSome g

-- SOend of a gap up to the SDU's end (6.2.3.15)
abbrev pub last_place : Option ℕ → ℕ
last_place None = 65535
last_place (Some l) = l - 1

-- of one number, an element with a part for each gap from the place p on (5.3.4)
pub data Gaps (sn : ℕ) (g : Got) : ℕ → List Nack → Type 0 where
  full : {p : ℕ} → ((q : ℕ) → p ≤ q → IsWithin g q → held_at g q ≢ None) → Gaps sn g p []
  inner : {p : ℕ} {es : List Nack} (x z : ℕ) → IsFirst (λ q. held_at g q ≡ None) p x → IsFirst (λ q. held_at g q ≢ None) x z → Gaps sn g z es
      → Gaps sn g p (record { sn = sn; part = Some (x, z - 1); range = None } ∷ es)
  last : {p : ℕ} (x : ℕ) → IsFirst (λ q. held_at g q ≡ None) p x → IsWithin g x → ((q : ℕ) → x ≤ q → held_at g q ≡ None)
      → Gaps sn g p (record { sn = sn; part = Some (x, last_place (len_of g)); range = None } ∷ [])

-- the number is below RX_Highest_Status and isn't complete (5.3.4)
abbrev pub IsMissing : Rx → ℕ → Type 0
IsMissing r n = (n < r.rx_highest_status) × (got r n ≢ Done)

-- a run of missing numbers of which nothing is held ends at this one
abbrev pub EndsRun : Rx → ℕ → Type 0
EndsRun r n = (n ≡ r.rx_highest_status) ⊎ IsTouched (got r n)

-- the elements that speak of the missing numbers from m up to but without y: those for the gaps of m alone where bytes of it are held,
-- else one for the run from m on of up to 255 missing numbers of which nothing is held (5.3.4)
pub data Group (r : Rx) (m : ℕ) (y : ℕ) (es : List Nack) : Type 0 where
  gaps : HoldsSome (got r m) → Gaps (m % modulus r.size) (got r m) 0 es → y ≡ m + 1 → Group r m y es
  run : (end : ℕ) → HoldsNone (got r m) → IsFirst (EndsRun r) m end → y ≡ m + min 255 (end - m)
      → es ≡ record { sn = m % modulus r.size; part = None; range = if (y - m) == 1 then None else Some (y - m) } ∷ [] → Group r m y es

-- from the number x on, the elements of the missing numbers in order, up to the first group that doesn't fit into the octets left; a is
-- the first missing number that isn't written, or RX_Highest_Status (5.3.4)
pub data WritesNacks (r : Rx) : ℕ → ℕ → List Nack → ℕ → Type 0 where
  all : {x octets : ℕ} → ((n : ℕ) → x ≤ n → IsMissing r n → ⊥) → WritesNacks r octets x [] r.rx_highest_status
  stops : {x octets : ℕ} (m y : ℕ) (group : List Nack) → IsFirst (IsMissing r) x m → Group r m y group → octets < nacks_len r.size group → WritesNacks r octets x [] m
  group : {x octets : ℕ} {a : ℕ} {rest : List Nack} (m y : ℕ) (es : List Nack) → IsFirst (IsMissing r) x m → Group r m y es → nacks_len r.size es ≤ octets
      → WritesNacks r (octets - nacks_len r.size es) y rest a → WritesNacks r octets x (es ++ rest) a

-- no STATUS is triggered any more, and t-StatusProhibit runs, as once a STATUS was made (5.3.4)
abbrev pub prohibited : Rx → Rx
prohibited r = record r { status_triggered = false; status_prohibit_runs = true }

-- a receiver makes a STATUS of at most n octets, whose ACK_SN stands for the number a, and t-StatusProhibit starts (5.3.4)
pub record WritesStatus (old : Rx) (n a : ℕ) (s : Status) (new : Rx) : Type 0 where
  pub due : status_due old ≡ true
  pub room : 3 ≤ n
  pub ack : s.ack ≡ a % modulus old.size
  pub writes : WritesNacks old (n - 3) (rx_next old) s.nacks a
  pub after : new ≡ prohibited old

-- a receiver is to make a STATUS of at most n octets: it makes one; or not even one without elements has so few (5.3.4)
abbrev pub Makes : Rx → ℕ → Made → Rx → Type 0
Makes old n (Full s a) new = WritesStatus old n a s new
Makes old n (Small need) new = (need ≡ 3) × (n < need) × (new ≡ old)

-- a STATUS is true of a receiver: what it says received is complete, what it names is not, and of that the places said missing are
-- those not held, as far as the length is known
pub record IsTrueOf (r : Rx) (a : ℕ) (s : Status) : Type 0 where
  pub complete : (n : ℕ) → n < a → (Names r.size a s n → ⊥) → got r n ≡ Done
  pub incomplete : (n : ℕ) → n < a → Names r.size a s n → got r n ≢ Done
  pub missing : (n p : ℕ) → n < a → Names r.size a s n → IsWithin (got r n) p → SaysMissing r.size a s n p ↔ held_at (got r n) p ≡ None
