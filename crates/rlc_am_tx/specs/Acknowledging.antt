-- What a STATUS does to the SDUs from TX_Next_Ack on (TS 38.322 clauses 5.2.3.1.1 and 5.3.2).
use Rattle.std.specs.Prelude.{◌≡◌, ◌≢◌, ◌⊎◌, ◌↔◌, ℕ, ◌+◌, ◌-◌, ◌<◌, Bool, true, false, List, [], ◌∷◌, ◌++◌, length, take, Contains, Option, Some, None, is_some}
use Rattle.std.specs.List.Sorted.{IsStrictlyIncreasing}
use Rattle.std.specs.Option.{option_to_list}
use Rattle.link_base.specs.declared.names.SnSize.{SnSize}
use Rattle.link_base.specs.declared.rlc_words.Tag.{Tag}
use Rattle.rlc_status.specs.declared.status.Status.{Status}
use Rattle.rlc_status.specs.Says.{Names, Some_has, NamesNumber, NamesPlace}
use Rattle.rlc_model.specs.Tx.{Kept, at, is_pending}
use Rattle.rlc_model.specs.Calls.{Grows}
use Rattle.rlc_model.specs.Retransmission.{UpdatesKept, confirmed_tags}
use Rattle.rlc_am_tx.specs.declared.naming.Naming.{Naming}
use Rattle.rlc_am_tx.specs.Buffer.{kept_from, IsPending, IsIdle}
use Rattle.rlc_am_tx.specs.Flags.{flags_with, counted, comes_to}
use Rattle.rlc_am_tx.specs.Naming.{named_at, pends_with, AreNamingsOf}

-- the tag of an SDU that isn't named
abbrev pub confirmed_tag : Bool → Option Kept → Option Tag
confirmed_tag true o = None
confirmed_tag false None = None
confirmed_tag false (Some k) = Some k.tag

-- whether the count of an SDU that is named comes to the threshold
abbrev pub is_mark : ℕ → Option Kept → Bool → Bool → Bool
is_mark threshold None named fresh = false
is_mark threshold (Some k) true fresh = comes_to threshold k.retx_count fresh
is_mark threshold (Some k) false fresh = false

-- the same of what is named of a SDU
abbrev pub marks_at : ℕ → List (Option Kept) → List Naming → ℕ → Bool
marks_at threshold kept_sdus names i = is_mark threshold (at kept_sdus i) (named_at names i).named (is_some (named_at names i).pending)

-- an SDU that is named is considered for retransmission
abbrev pub renewed : ℕ → Kept → Option (List Bool) → Kept
renewed threshold k pending = record k { flags = flags_with k pending; retx_count = counted threshold k.retx_count (is_some pending) }

-- an SDU is confirmed where it isn't named
abbrev pub settled_by : Bool → Kept → Option Kept
settled_by true k = Some k
settled_by false k = None

-- an SDU behind a STATUS that names this of it
abbrev pub settled : ℕ → Naming → Option Kept → Option Kept
settled threshold x None = None
settled threshold x (Some k) = settled_by x.named (renewed threshold k x.pending)

-- the tags of the SDUs that aren't named
abbrev pub told_tags : List (Option Kept) → List Naming → List Tag
told_tags [] names = []
told_tags (o ∷ kept_sdus) [] = []
told_tags (o ∷ kept_sdus) (x ∷ names) = option_to_list (confirmed_tag x.named o) ++ told_tags kept_sdus names

-- the numbers from `base` on, up to but without `base + len`, whose counts come to the threshold, rising
pub record AreMarks (threshold base : ℕ) (kept_sdus : List (Option Kept)) (names : List Naming) (len : ℕ) (marks : List ℕ) : Type 0 where
  pub rise : IsStrictlyIncreasing marks
  pub each : (n : ℕ) → Contains marks n ↔ ((i : ℕ) × (i < len) × (n ≡ base + i) × (marks_at threshold kept_sdus names i ≡ true))

-- an SDU is named of which a byte is to become pending, and none is
abbrev pub EntersWaiting : Option Kept → Naming → Type 0
EntersWaiting o x = (x.named ≡ true) × (is_some x.pending ≡ true) × IsIdle o

-- of an SDU something grows: it has a tag to tell or a mark, or its number is to wait
abbrev pub GrowsOne : ℕ → Option Kept → Naming → Type 0
GrowsOne threshold o x = (confirmed_tag x.named o ≢ None) ⊎ (is_mark threshold o x.named (is_some x.pending) ≡ true) ⊎ EntersWaiting o x

-- of one of the first SDUs something grows
abbrev pub GrowsOneOf : ℕ → List (Option Kept) → List Naming → ℕ → Type 0
GrowsOneOf threshold kept_sdus names len = (i : ℕ) × (i < len) × GrowsOne threshold (at kept_sdus i) (named_at names i)

-- the number of an SDU may wait: a byte of it is pending, or is to become so
abbrev pub MayWait : Option Kept → Naming → Type 0
MayWait o x = IsPending o ⊎ EntersWaiting o x

-- the number is one of the first, and its SDU is such
abbrev pub EntersOf : List (Option Kept) → List Naming → ℕ → ℕ → ℕ → Type 0
EntersOf kept_sdus names len base n = (i : ℕ) × (i < len) × (n ≡ base + i) × EntersWaiting (at kept_sdus i) (named_at names i)

-- of the first numbers only those with pending bytes wait on
abbrev pub WaitsOn : List (Option Kept) → ℕ → ℕ → ℕ → Type 0
WaitsOn kept_sdus len base n = (i : ℕ) → i < len → n ≡ base + i → IsPending (at kept_sdus i)

-- the SDUs behind a STATUS that is carried out, the tags of those confirmed and the marks
pub record UpdatesAll (size : SnSize) (threshold ack : ℕ) (s : Status) (old : List (Option Kept)) (tags : List Tag) (marks : List ℕ) (new : List (Option Kept)) : Type 0 where
  pub each : (n : ℕ) → UpdatesKept size threshold ack s n marks (at old n) (at new n)
  pub marks_only : (n : ℕ) → Contains marks n → (k : Kept) × (at old n ≡ Some k) × (n < ack) × Names size ack s n
  pub marks_rise : IsStrictlyIncreasing marks
  pub long : length new ≡ length old
  pub its_tags : tags ≡ confirmed_tags old new

-- what is planned of a STATUS: what it names, the tags and the marks
pub record Plans (kept_sdus : List (Option Kept)) (base : ℕ) (size : SnSize) (ack threshold : ℕ) (s : Status) (names : List Naming) (tags : List Tag) (marks : List ℕ) :
    Type 0 where
  pub numbers : (i : ℕ) → (named_at names i).named ≡ true ↔ Some_has (λ e. NamesNumber size ack e (base + i)) s.nacks
  pub places : (i p : ℕ) (k : Kept) → at kept_sdus i ≡ Some k → p < length k.flags
      → (pends_with (Some k) (named_at names i).pending p ≡ true) ↔ (is_pending (Some k) p ≡ true) ⊎ Some_has (λ e. NamesPlace size ack e (base + i) p) s.nacks
  pub fits : AreNamingsOf kept_sdus names
  pub its_tags : tags ≡ told_tags (take (ack - base) kept_sdus) (take (ack - base) names)
  pub its_marks : AreMarks threshold base kept_sdus names (ack - base) marks

-- carrying out a STATUS makes something grow, where the first SDU has the number `base` and no poll is owed
abbrev pub GrowsFrom : ℕ → List (Option Kept) → SnSize → ℕ → Status → ℕ → Type 0
GrowsFrom base kept_sdus size threshold s ack = Grows size threshold false (kept_from base kept_sdus) s ack
