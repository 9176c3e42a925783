-- What the calls of an entity leave of what it keeps and of what it has completed.
use Rattle.std.specs.Prelude.{◌≡◌, ◌≢◌, ◌↔◌, ℕ, List, Some, None, Contains}
use Rattle.link_base.specs.declared.names.Timer.{Timer}
use Rattle.link_base.specs.declared.rlc_words.Expired.{Expired}
use Rattle.link_base.specs.declared.rlc_words.Tag.{Tag}
use Rattle.rlc_model.specs.declared.hop.HopGrant.{HopGrant}
use Rattle.rlc_model.specs.declared.hop.HopHeard.{HopHeard}
use Rattle.rlc_model.specs.declared.hop.HopHeard.TheVariants.{Amd, Status}
use Rattle.rlc_model.specs.declared.receiver.Heard.TheVariants.{Complete}
use Rattle.rlc_model.specs.declared.transmitter.StatusHeard.TheVariants.{Acked}
use Rattle.rlc_model.specs.Hop.{GrantsHop, HearsHop, ExpiresHop}
use Rattle.rlc_model.specs.Rx.{Rx, Done, got}
use Rattle.rlc_model.specs.Tx.{Tx, Kept, kept_at}

-- each SDU that a transmitter keeps it kept before, under its number and with its tag
abbrev pub KeepsTags : Tx → Tx → Type 0
KeepsTags old new = (n : ℕ) (k : Kept) → kept_at new n ≡ Some k → (was : Kept) × (kept_at old n ≡ Some was) × (k.tag ≡ was.tag) × (k.sdu ≡ was.sdu)

-- the numbers that a receiver has completed are those that it had
abbrev pub CompletesNone : Rx → Rx → Type 0
CompletesNone old new = (n : ℕ) → (got new n ≡ Done) ↔ (got old n ≡ Done)

-- they are those, and this one that it had not
pub record CompletesOne (old : Rx) (number : ℕ) (new : Rx) : Type 0 where
  pub before : got old number ≢ Done
  pub now : got new number ≡ Done
  pub others : (n : ℕ) → n ≢ number → got new n ≡ got old n

-- each tag told is that of an SDU that was kept, and is kept no more
abbrev pub TellsTags : Tx → List Tag → Tx → Type 0
TellsTags old tags new = (tag : Tag) → Contains tags tag → (n : ℕ) × (k : Kept) × (kept_at old n ≡ Some k) × (kept_at new n ≡ None) × (tag ≡ k.tag)

-- what hearing leaves: an SDU is completed; or some are confirmed, whose tags are told; or neither
abbrev pub HearLeavesKept : Tx → Rx → HopHeard → Tx → Rx → Type 0
HearLeavesKept tx rx (Amd (Complete number sdu)) tx' rx' = (tx' ≡ tx) × CompletesOne rx number rx'
HearLeavesKept tx rx (Status (Acked tags marks)) tx' rx' = KeepsTags tx tx' × TellsTags tx tags tx' × (rx' ≡ rx)
HearLeavesKept tx rx answer tx' rx' = (tx' ≡ tx) × CompletesNone rx rx'

-- hearing keeps and completes so
abbrev pub HearingKeeps : Type 0
HearingKeeps = (tx : Tx) (rx : Rx) (bytes : List ℕ) (answer : HopHeard) (tx' : Tx) (rx' : Rx) → HearsHop tx rx bytes answer tx' rx' → HearLeavesKept tx rx answer tx' rx'

-- a grant keeps tags, and completes nothing
abbrev pub GrantingKeeps : Type 0
GrantingKeeps = (tx : Tx) (rx : Rx) (n : ℕ) (answer : HopGrant) (tx' : Tx) (rx' : Rx) → GrantsHop tx rx n answer tx' rx' → KeepsTags tx tx' × CompletesNone rx rx'

-- so does the expiry of a timer
abbrev pub ExpiryKeeps : Type 0
ExpiryKeeps = (tx : Tx) (rx : Rx) (timer : Timer) (expired : Expired) (tx' : Tx) (rx' : Rx) → ExpiresHop tx rx timer expired tx' rx' → KeepsTags tx tx' × CompletesNone rx rx'
