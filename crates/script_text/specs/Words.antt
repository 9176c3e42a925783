-- How the words of a line are spelt.
use Rattle.std.specs.Prelude.{◌≡◌, ◌≢◌, ◌⊎◌, ℕ, ◌%◌, ◌<◌, ◌≤◌, nat_lt, Bool, false, not, ◌&&◌, ◌||◌, List, [], ◌∷◌, ◌++◌, Ok, codes, ◌==◌, length, slice_index, get_or, drop, if◌then◌else◌}
use Rattle.std.specs.Fmt.{decimal}
use Rattle.std.specs.List.{slice_split, list_all, before_first, after_first}
use Rattle.std.specs.Str.{bytes_eq}
use Rattle.std.specs.Char.{is_ascii_digit}
use Rattle.hex.specs.Hex.{decode_of, encode_lower, is_hex_digit}
use Rattle.link_base.specs.declared.names.PortName.{PortName}
use Rattle.link_base.specs.declared.names.PortName.TheVariants.{Direct, Pc5, Uu}
use Rattle.link_base.specs.declared.names.SnSize.{SnSize}
use Rattle.link_base.specs.declared.names.SnSize.TheVariants.{S12, S18}
use Rattle.link_base.specs.declared.names.Way.{Way}
use Rattle.link_base.specs.declared.names.Way.TheVariants.{Ul, Dl}
use Rattle.link_base.specs.declared.names.Side.{Side}
use Rattle.link_base.specs.declared.names.Side.TheVariants.{Low, High}
use Rattle.link_base.specs.declared.names.Timer.{Timer}
use Rattle.link_base.specs.declared.names.Timer.TheVariants.{Poll, Reasm, Prohibit}
use Rattle.link_base.specs.declared.names.Node.{Node}
use Rattle.link_base.specs.declared.names.Node.TheVariants.{Remote, Relay, Gnb}
use Rattle.bearer_map.specs.declared.settings.SetName.{SetName}
use Rattle.bearer_map.specs.declared.settings.SetName.TheVariants.{Queue, Report, PollPdu, PollByte, MaxRetx}

-- the words of a line: what stands between its spaces
abbrev pub words_of : List ℕ → List (List ℕ)
words_of text = slice_split (λ b. b == 32) text

-- the word at a place, counted from 0, or the empty word where none stands there
abbrev pub word_at : ℕ → List (List ℕ) → List ℕ
word_at k words = get_or words k []

-- there are bytes, and all are digits
abbrev pub are_digits : List ℕ → Bool
are_digits word = nat_lt 0 (length word) && list_all is_ascii_digit word

-- a number of any size, in decimal without a sign and without leading zeros
abbrev pub is_numeral : List ℕ → Bool
is_numeral word = are_digits word && ((length word == 1) || not (slice_index word 0 == 48))

-- a number from low to high, in decimal without a sign and without leading zeros
abbrev pub IsNumber : ℕ → ℕ → List ℕ → ℕ → Type 0
IsNumber low high word n = (word ≡ decimal n) × (low ≤ n) × (n ≤ high)

-- a remote's name, from 1 to 65,535
abbrev pub IsRemote : List ℕ → ℕ → Type 0
IsRemote = IsNumber 1 65535

-- a bearer's identity, from 1 to 32
abbrev pub IsDrb : List ℕ → ℕ → Type 0
IsDrb = IsNumber 1 32

-- a channel, from 1 to 8
abbrev pub IsChan : List ℕ → ℕ → Type 0
IsChan = IsNumber 1 8

-- a ticket, from 1 to 2^64 - 1
abbrev pub IsTicket : List ℕ → ℕ → Type 0
IsTicket = IsNumber 1 18446744073709551615

-- a size of sequence numbers, in bits
abbrev pub size_text : SnSize → List ℕ
size_text S12 = codes "12"
size_text S18 = codes "18"

-- the word is this size of sequence numbers
abbrev pub IsSize : List ℕ → SnSize → Type 0
IsSize word size = word ≡ size_text size

-- a dash, or an even positive number of hexadecimal digits of either case
abbrev pub is_hex : List ℕ → Bool
is_hex word = bytes_eq word (codes "-") || (nat_lt 0 (length word) && ((length word % 2 == 0) && list_all is_hex_digit word))

-- bytes in hexadecimal digits of either case, or a dash where there are none
abbrev pub IsHex : List ℕ → List ℕ → Type 0
IsHex word bytes = ((word ≡ codes "-") × (bytes ≡ [])) ⊎ ((0 < length word) × (decode_of word ≡ Ok bytes))

-- bytes are written in lower case
abbrev pub hex_text : List ℕ → List ℕ
hex_text [] = codes "-"
hex_text (b ∷ bytes) = encode_lower (b ∷ bytes)

-- the letter of a port's name: d, p or u
abbrev pub port_letter : List ℕ → ℕ
port_letter word = slice_index word 0

-- behind the letter stands a number up to the first point, and another one behind that
abbrev pub before_point : List ℕ → List ℕ
before_point word = before_first (λ b. b == 46) (drop 1 word)

-- what stands behind the point of a port's name
abbrev pub behind_point : List ℕ → List ℕ
behind_point word = after_first (λ b. b == 46) (drop 1 word)

-- a direct port, d and its remote and its bearer; a PC5 port, p and its remote and its channel; a Uu port, u and its channel
abbrev pub IsPort : List ℕ → PortName → Type 0
IsPort word (Direct remote drb) = (port_letter word ≡ 100) × IsRemote (before_point word) remote.0 × IsDrb (behind_point word) drb.0
IsPort word (Pc5 remote chan) = (port_letter word ≡ 112) × IsRemote (before_point word) remote.0 × IsChan (behind_point word) chan.0
IsPort word (Uu chan) = (port_letter word ≡ 117) × IsChan (drop 1 word) chan.0

-- a port, where a number may have any size
abbrev pub is_port_form : List ℕ → Bool
is_port_form word =
    if port_letter word == 117 then is_numeral (drop 1 word)
    else if (port_letter word == 100) || (port_letter word == 112) then is_numeral (before_point word) && is_numeral (behind_point word)
    else false

-- how a port is written
abbrev pub port_text : PortName → List ℕ
port_text (Direct remote drb) = codes "d" ++ (decimal remote.0 ++ (codes "." ++ decimal drb.0))
port_text (Pc5 remote chan) = codes "p" ++ (decimal remote.0 ++ (codes "." ++ decimal chan.0))
port_text (Uu chan) = codes "u" ++ decimal chan.0

-- how a way is written
abbrev pub way_text : Way → List ℕ
way_text Ul = codes "ul"
way_text Dl = codes "dl"

-- how a side is written
abbrev pub side_text : Side → List ℕ
side_text Low = codes "low"
side_text High = codes "high"

-- how a timer is written
abbrev pub timer_text : Timer → List ℕ
timer_text Poll = codes "poll"
timer_text Reasm = codes "reasm"
timer_text Prohibit = codes "prohibit"

-- how a node is written
abbrev pub node_text : Node → List ℕ
node_text Remote = codes "remote"
node_text Relay = codes "relay"
node_text Gnb = codes "gnb"

-- how the name of a setting is written
abbrev pub setting_text : SetName → List ℕ
setting_text Queue = codes "queue"
setting_text Report = codes "report"
setting_text PollPdu = codes "pollpdu"
setting_text PollByte = codes "pollbyte"
setting_text MaxRetx = codes "maxretx"

-- there is a digit, no sign, and no zero in front of another digit
pub record IsPlainHead (word : List ℕ) : Type 0 where
  pub some : 0 < length word
  pub no_sign : slice_index word 0 ≢ 43
  pub no_zero : slice_index word 0 ≡ 48 → length word ≡ 1
