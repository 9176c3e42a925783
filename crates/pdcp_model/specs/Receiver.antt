-- The receiving side of the PDCP entity of an AM DRB: what it holds, and its steps (TS 38.323 clauses 5.2.2, 5.4.1 and 7.1).
use Rattle.std.specs.Prelude.{◌≡◌, ◌≢◌, ◌⊎◌, ◌↔◌, ℕ, zero, suc, ◌+◌, ◌*◌, ◌<◌, ◌≤◌, Bool, List, [], ◌∷◌, length, drop, slice_index_or, Option, Some, None, All}
use Rattle.std.specs.List.{list_all}
use Rattle.std.specs.Option.{is_none}
use Rattle.link_base.specs.declared.names.SnSize.{SnSize}
use Rattle.link_base.specs.declared.limits.TheConstants.{COUNT_END}
use Rattle.link_base.specs.SequenceNumbers.{Near}
use Rattle.pdcp_pdu.specs.Reports.{bit_of}
use Rattle.pdcp_model.specs.declared.answers.PdcpHeard.{PdcpHeard}
use Rattle.pdcp_model.specs.declared.answers.PdcpHeard.TheVariants.{Up, Stored, Old, Repeat, BeforeStart, PastEnd}

-- what a receiving side holds: the size of its SNs; its first COUNT; how many SDUs were handed up; and in order of COUNT from RX_DELIV
-- on, the SDUs that wait for one with a lower COUNT (5.2.2)
pub record Receiver : Type 0 where
  pub size : SnSize
  pub first : ℕ
  pub handed : ℕ
  pub stored : List (Option (List ℕ))

-- a receiving side that has heard nothing
abbrev pub new_receiver : SnSize → ℕ → Receiver
new_receiver size first = record { size = size; first = first; handed = 0; stored = [] }

-- RX_DELIV: the COUNT that is handed up next (7.1)
abbrev pub rx_deliv : Receiver → ℕ
rx_deliv r = r.first + r.handed

-- the SDU that waits so many COUNTs above RX_DELIV
abbrev pub stored_at : Receiver → ℕ → Option (List ℕ)
stored_at r n = slice_index_or r.stored n None

-- the SDUs stored, and this one at its place
abbrev pub with_sdu : ℕ → List ℕ → List (Option (List ℕ)) → List (Option (List ℕ))
with_sdu zero sdu [] = Some sdu ∷ []
with_sdu zero sdu (s ∷ ss) = Some sdu ∷ ss
with_sdu (suc n) sdu [] = None ∷ with_sdu n sdu []
with_sdu (suc n) sdu (s ∷ ss) = s ∷ with_sdu n sdu ss

-- the SDUs stored up to the first gap
abbrev pub run : List (Option (List ℕ)) → List (List ℕ)
run [] = []
run (None ∷ ss) = []
run (Some sdu ∷ ss) = sdu ∷ run ss

-- an SDU so many COUNTs above RX_DELIV is stored
abbrev pub stores : Receiver → ℕ → List ℕ → Receiver
stores r n sdu = record r { stored = with_sdu n sdu r.stored }

-- all that is stored from RX_DELIV on without a gap is handed up (5.2.2.1)
abbrev pub hands_up : Receiver → Receiver
hands_up r = record r { handed = r.handed + length (run r.stored); stored = drop (length (run r.stored)) r.stored }

-- an SDU comes with an SN. Its COUNT is the number near RX_DELIV with that SN: there is none, or it is above the last COUNT; or it was handed
-- up; or it is stored; or it begins to wait; or it is handed up, and those behind it (5.2.2.1)
abbrev pub Hears : Receiver → ℕ → List ℕ → PdcpHeard → Receiver → Type 0
Hears old sn sdu BeforeStart new = ((count : ℕ) → Near old.size sn (rx_deliv old) count → ⊥) × (new ≡ old)
Hears old sn sdu PastEnd new = (count : ℕ) × Near old.size sn (rx_deliv old) count × (COUNT_END ≤ count) × (new ≡ old)
Hears old sn sdu Old new = (count : ℕ) × Near old.size sn (rx_deliv old) count × (count < COUNT_END) × (count < rx_deliv old) × (new ≡ old)
Hears old sn sdu Repeat new = (n : ℕ) × Near old.size sn (rx_deliv old) (rx_deliv old + n) × (rx_deliv old + n < COUNT_END) × (stored_at old n ≢ None) × (new ≡ old)
Hears old sn sdu Stored new = (n : ℕ) × Near old.size sn (rx_deliv old) (rx_deliv old + n) × (rx_deliv old + n < COUNT_END) × (1 ≤ n) × (stored_at old n ≡ None) × (new ≡ stores old n sdu)
Hears old sn sdu (Up sdus) new = Near old.size sn (rx_deliv old) (rx_deliv old) × (rx_deliv old < COUNT_END) × (stored_at old 0 ≡ None) × (sdus ≡ run (with_sdu 0 sdu old.stored)) × (new ≡ hands_up (stores old 0 sdu))

-- a status report can tell of all that is stored: each COUNT lies below RX_DELIV + 65,536
abbrev pub can_report : Receiver → Bool
can_report r = list_all is_none (drop 65536 r.stored)

-- the fields of the status report of a receiving side: FMC is RX_DELIV, a bit is 1 exactly where the SDU is stored, and the bitmap ends with
-- the octet of the last one stored (5.4.1)
pub record IsReport (r : Receiver) (fmc : ℕ) (map : List ℕ) : Type 0 where
  pub its_fmc : fmc ≡ rx_deliv r
  pub octets : All (λ octet. octet < 256) map
  pub bits : (n : ℕ) → 1 ≤ n → (bit_of map n ≡ 1) ↔ (stored_at r n ≢ None)
  pub ends : (map ≡ []) ⊎ ((n : ℕ) × (stored_at r n ≢ None) × (length map * 8 < n + 8))
