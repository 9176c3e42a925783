-- The words of a reply, read back.
use Rattle.std.proofs.Common.{◌≡◌, ℕ, ◌<◌, ◌^◌, Bool, true, false, cond, List, [], ◌∷◌, ◌++◌, Ok as Fine, Err, Result, length, get_or, drop, codes, refl, ◌∙◌, ap, arith, bytes_eq}
use Rattle.std.specs.Prelude.{◌==◌}
use Rattle.std.specs.Char.{is_ascii_digit}
use Rattle.std.specs.Fmt.{decimal}
use Rattle.std.specs.List.{list_all, slice_split, onto_first}
use Rattle.std.specs.Str.Parse.{digits_value}
use Rattle.std.proofs.lemmas.Bool.{leb-true, eqb-true}
use Rattle.std.proofs.lemmas.Fmt.{digits_value-decimal}
use Rattle.std.proofs.lemmas.List.Splits.{slice_split-cons_no}
use Rattle.hex.specs.Hex.{IsBytes, decode_of}
use Rattle.hex.specs.declared.error.FromHexError.{FromHexError}
use Rattle.hex.proofs.HexLemmas.{decode_of-encode_lower}
use Rattle.link_base.specs.declared.names.PortName.{PortName}
use Rattle.link_base.specs.declared.names.PortName.TheVariants.{Direct, Pc5, Uu}
use Rattle.link_base.specs.declared.names.Place.{Place}
use Rattle.link_base.specs.declared.names.Place.TheVariants.{Attached, Planned, Slot, Queue, Uu as UuChan}
use Rattle.link_base.specs.declared.discard.Discard.{Discard as ADiscard}
use Rattle.link_base.specs.declared.discard.Discard.TheVariants as discards
use Rattle.rlc_pdu.specs.declared.amd.AmdFault.TheVariants as amd
use Rattle.rlc_status.specs.declared.fault.StatusFault.TheVariants as status
use Rattle.script_text.specs.declared.reply.Reply.{Reply}
use Rattle.script_text.specs.declared.reply.Reply.TheVariants.{Ok, OkNumber, OkPort, OkTwo, OkSlot, OkUp, OkAcks, OkStored, OkRepeat, OkOutside, OkConflict, OkWaiting, OkOld, OkTwice, OkNoCount, OkReport, OkPast, OkBeyond, NoBearer, NoRemote, NoPort, NoAir, NotRelay, NoTable, NoPlan, Already, Gone, Held, IsStatus, Empty, Long, Spent, Full, AirFull, Worn, Idle, Small, Air, Stale, Stopped, Nothing, QueueFull, Stalled, PlanOpen, IdBusy, BadAmd, BadStatus, Discard}
use Rattle.script_text.specs.Words.{hex_text, port_text, are_digits}
use Rattle.script_text.specs.Texts.{reply_words}
use Rattle.script_text.specs.Told.{FitsPort, FitsPlace, FitsReply, told}
use Rattle.script_text.proofs.Joined.{first_of, second_of}
use Rattle.script_text.proofs.Numerals.{own, numeral}

-- a number
abbrev pub value : List ℕ → ℕ
value w = digits_value 10 w

pub value_back : (n : ℕ) → n < 2 ^ 64 → value (decimal n) ≡ n
value_back n small = digits_value-decimal own n small

digits : (n : ℕ) → n < 2 ^ 64 → are_digits (decimal n) ≡ true
digits n small = first_of _ _ (numeral n small)

head_is : (w : List ℕ) → are_digits w ≡ true → is_ascii_digit (get_or w 0 0) ≡ true
head_is [] e = absurd cc
head_is (b ∷ w) e = first_of _ _ (second_of _ _ e)

head_is_on : (w rest : List ℕ) → are_digits w ≡ true → is_ascii_digit (get_or (w ++ rest) 0 0) ≡ true
head_is_on [] rest e = absurd cc
head_is_on (b ∷ w) rest e = first_of _ _ (second_of _ _ e)

number_head : (n : ℕ) → n < 2 ^ 64 → is_ascii_digit (get_or (decimal n) 0 0) ≡ true
number_head n small = head_is (decimal n) (digits n small)

-- a port: a letter, and numbers with a point between them
no_point : (b : ℕ) → is_ascii_digit b ≡ true → (b == 46) ≡ false
no_point b e =
    let low = leb-true 48 b (first_of _ _ e) in
    elim (b == 46) as (λ v. ((b == 46) ≡ v) → v ≡ false) [ true ↦ λ same. absurd (omega (arith, low, eqb-true b 46 same)) | false ↦ λ same. refl ] refl

split_digits : (w rest : List ℕ) → list_all is_ascii_digit w ≡ true → slice_split (λ b. b == 46) (w ++ 46 ∷ rest) ≡ w ∷ slice_split (λ b. b == 46) rest
split_digits [] rest e = refl
split_digits (b ∷ w) rest e =
    slice_split-cons_no (λ c. c == 46) b (w ++ 46 ∷ rest) (no_point b (first_of (is_ascii_digit b) (list_all is_ascii_digit w) e))
    ∙ ap (onto_first b) (split_digits w rest (second_of (is_ascii_digit b) (list_all is_ascii_digit w) e))

last_digits : (w : List ℕ) → list_all is_ascii_digit w ≡ true → slice_split (λ b. b == 46) w ≡ w ∷ []
last_digits [] e = refl
last_digits (b ∷ w) e =
    slice_split-cons_no (λ c. c == 46) b w (no_point b (first_of (is_ascii_digit b) (list_all is_ascii_digit w) e))
    ∙ ap (onto_first b) (last_digits w (second_of (is_ascii_digit b) (list_all is_ascii_digit w) e))

parts_are : (m n : ℕ) → m < 2 ^ 64 → n < 2 ^ 64 → slice_split (λ b. b == 46) (decimal m ++ 46 ∷ decimal n) ≡ decimal m ∷ decimal n ∷ []
parts_are m n x y =
    split_digits (decimal m) (decimal n) (second_of _ _ (digits m x)) ∙ ap (λ (ws : List (List ℕ)). decimal m ∷ ws) (last_digits (decimal n) (second_of _ _ (digits n y)))

abbrev one_of : ℕ → List ℕ → List (List ℕ) → PortName
one_of letter numbers parts =
    cond (letter == 117) (Uu (record { 0 = value numbers })) (cond (letter == 112)
    (Pc5 (record { 0 = value (get_or parts 0 []) }) (record { 0 = value (get_or parts 1 []) })) (Direct (record { 0 = value (get_or parts 0 []) }) (record { 0 = value (get_or parts 1 []) })))

abbrev pub port_of : List ℕ → PortName
port_of w = one_of (get_or w 0 0) (drop 1 w) (slice_split (λ b. b == 46) (drop 1 w))

pub port_back : (p : PortName) → FitsPort p → port_of (port_text p) ≡ p
port_back (Direct r d) x =
    ap (one_of 100 (decimal r.0 ++ 46 ∷ decimal d.0)) (parts_are r.0 d.0 x.0 x.1)
    ∙ (ap (λ (n : ℕ). Direct (record { 0 = n }) (record { 0 = value (decimal d.0) })) (value_back r.0 x.0) ∙ ap (λ (n : ℕ). Direct r (record { 0 = n })) (value_back d.0 x.1))
port_back (Pc5 r c) x =
    ap (one_of 112 (decimal r.0 ++ 46 ∷ decimal c.0)) (parts_are r.0 c.0 x.0 x.1)
    ∙ (ap (λ (n : ℕ). Pc5 (record { 0 = n }) (record { 0 = value (decimal c.0) })) (value_back r.0 x.0) ∙ ap (λ (n : ℕ). Pc5 r (record { 0 = n })) (value_back c.0 x.1))
port_back (Uu c) x = ap (λ (n : ℕ). Uu (record { 0 = n })) (value_back c.0 x)

-- the byte behind a port's letter is a digit, and the letter isn't
second_head : (p : PortName) → FitsPort p → is_ascii_digit (get_or (drop 1 (port_text p)) 0 0) ≡ true
second_head (Direct r d) x = head_is_on (decimal r.0) (46 ∷ decimal d.0) (digits r.0 x.0)
second_head (Pc5 r c) x = head_is_on (decimal r.0) (46 ∷ decimal c.0) (digits r.0 x.0)
second_head (Uu c) x = number_head c.0 x

first_head : (p : PortName) → is_ascii_digit (get_or (port_text p) 0 0) ≡ false
first_head (Direct r d) = refl
first_head (Pc5 r c) = refl
first_head (Uu c) = refl

-- bytes
abbrev bytes_in : Result (List ℕ) FromHexError → List ℕ
bytes_in (Fine bytes) = bytes
bytes_in (Err fault) = []

abbrev pub bytes_of : List ℕ → List ℕ
bytes_of w = bytes_in (decode_of w)

pub bytes_back : (bytes : List ℕ) → IsBytes bytes → bytes_of (hex_text bytes) ≡ bytes
bytes_back [] x = refl
bytes_back (b ∷ bytes) x = ap bytes_in (decode_of-encode_lower (b ∷ bytes) x)

-- a place
abbrev place_of : List ℕ → List ℕ → Place
place_of w v =
    cond (bytes_eq w (codes "attach")) (Attached (record { 0 = value v })) (cond (bytes_eq w (codes "plan")) (Planned (record { 0 = value v }))
    (cond (bytes_eq w (codes "slot")) (Slot (port_of v)) (cond (bytes_eq w (codes "queue")) (Queue (port_of v)) (UuChan (record { 0 = value v })))))

-- a fault, and a discard
abbrev bad_of : List ℕ → Reply
bad_of w =
    cond (bytes_eq w (codes "short")) (BadAmd amd.Short) (cond (bytes_eq w (codes "control")) (BadAmd amd.Control) (cond (bytes_eq w (codes "zero-offset")) (BadAmd amd.ZeroOffset)
    (cond (bytes_eq w (codes "no-body")) (BadAmd amd.NoBody) (cond (bytes_eq w (codes "long")) (BadAmd amd.Long) (cond (bytes_eq w (codes "is-data")) (BadStatus status.IsData)
    (cond (bytes_eq w (codes "reserved-type")) (BadStatus status.ReservedType) (cond (bytes_eq w (codes "zero-range")) (BadStatus status.ZeroRange)
    (cond (bytes_eq w (codes "back-part")) (BadStatus status.BackPart) (cond (bytes_eq w (codes "trailing")) (BadStatus status.Trailing) (BadStatus status.Memory))))))))))

abbrev discard_of : List ℕ → ADiscard
discard_of w =
    cond (bytes_eq w (codes "short")) discards.Short (cond (bytes_eq w (codes "control")) discards.Control (cond (bytes_eq w (codes "no-body")) discards.NoBody
    (cond (bytes_eq w (codes "unknown-ue")) discards.UnknownUe (cond (bytes_eq w (codes "unknown-bearer")) discards.UnknownBearer (cond (bytes_eq w (codes "foreign-ue")) discards.ForeignUe
    (cond (bytes_eq w (codes "pdcp-short")) discards.PdcpShort (cond (bytes_eq w (codes "pdcp-type")) discards.PdcpType (cond (bytes_eq w (codes "pdcp-empty")) discards.PdcpEmpty
    (cond (bytes_eq w (codes "pdcp-long")) discards.PdcpLong discards.ReportBeyond)))))))))

-- a reply that begins with ok
abbrev ok_word : List ℕ → List ℕ → Reply
ok_word w v =
    cond (bytes_eq w (codes "slot")) (OkSlot (port_of v)) (cond (bytes_eq w (codes "up")) (OkUp (value v)) (cond (bytes_eq w (codes "acks")) (OkAcks (value v))
    (cond (bytes_eq w (codes "stored")) OkStored (cond (bytes_eq w (codes "repeat")) OkRepeat (cond (bytes_eq w (codes "outside")) OkOutside
    (cond (bytes_eq w (codes "conflict")) OkConflict (cond (bytes_eq w (codes "waiting")) OkWaiting (cond (bytes_eq w (codes "old")) OkOld
    (cond (bytes_eq w (codes "twice")) OkTwice (cond (bytes_eq w (codes "nocount")) OkNoCount (cond (bytes_eq w (codes "report")) OkReport
    (cond (bytes_eq w (codes "past")) OkPast OkBeyond))))))))))))

abbrev ok_port : Bool → List ℕ → List ℕ → Reply
ok_port true w v = OkPort (port_of w)
ok_port false w v = ok_word w v

abbrev ok_number : Bool → ℕ → List ℕ → List ℕ → Reply
ok_number true count w v = cond (count == 2) (OkNumber (value w)) (OkTwo (value w) (value v))
ok_number false count w v = ok_port (is_ascii_digit (get_or (drop 1 w) 0 0)) w v

abbrev ok_of : ℕ → List ℕ → List ℕ → Reply
ok_of count w v = cond (count == 1) Ok (ok_number (is_ascii_digit (get_or w 0 0)) count w v)

abbrev by_first : List ℕ → ℕ → List ℕ → List ℕ → List ℕ → List ℕ → Reply
by_first w count a b c d =
    cond (bytes_eq w (codes "ok")) (ok_of count a b) (cond (bytes_eq w (codes "nobearer")) NoBearer (cond (bytes_eq w (codes "noremote")) NoRemote
    (cond (bytes_eq w (codes "noport")) NoPort (cond (bytes_eq w (codes "noair")) NoAir (cond (bytes_eq w (codes "notrelay")) NotRelay
    (cond (bytes_eq w (codes "notable")) NoTable (cond (bytes_eq w (codes "noplan")) NoPlan (cond (bytes_eq w (codes "already")) Already
    (cond (bytes_eq w (codes "gone")) Gone (cond (bytes_eq w (codes "held")) Held (cond (bytes_eq w (codes "status")) IsStatus (cond (bytes_eq w (codes "empty")) Empty
    (cond (bytes_eq w (codes "long")) Long (cond (bytes_eq w (codes "spent")) Spent (cond (bytes_eq w (codes "airfull")) AirFull (cond (bytes_eq w (codes "worn")) Worn
    (cond (bytes_eq w (codes "idle")) Idle (cond (bytes_eq w (codes "stopped")) Stopped (cond (bytes_eq w (codes "nothing")) Nothing
    (cond (bytes_eq w (codes "queuefull")) QueueFull (cond (bytes_eq w (codes "stalled")) Stalled (cond (bytes_eq w (codes "full")) (Full (value a))
    (cond (bytes_eq w (codes "small")) (Small (value a)) (cond (bytes_eq w (codes "air")) (Air (value a) (bytes_eq b (codes "status")) (value c) (bytes_of d))
    (cond (bytes_eq w (codes "stale")) (Stale (value a) (value b)) (cond (bytes_eq w (codes "open")) (PlanOpen (record { 0 = value a }))
    (cond (bytes_eq w (codes "idbusy")) (IdBusy (place_of a b)) (cond (bytes_eq w (codes "bad")) (bad_of a) (Discard (discard_of a))))))))))))))))))))))))))))))

-- the reply that has these words
abbrev pub reply_of : List (List ℕ) → Reply
reply_of ws = by_first (get_or ws 0 []) (length ws) (get_or ws 1 []) (get_or ws 2 []) (get_or ws 3 []) (get_or ws 4 [])

place_back : (place : Place) → FitsPlace place → reply_of (reply_words (IdBusy place)) ≡ IdBusy place
place_back (Attached r) x = ap (λ (n : ℕ). IdBusy (Attached (record { 0 = n }))) (value_back r.0 x)
place_back (Planned r) x = ap (λ (n : ℕ). IdBusy (Planned (record { 0 = n }))) (value_back r.0 x)
place_back (Slot p) x = ap (λ (q : PortName). IdBusy (Slot q)) (port_back p x)
place_back (Queue p) x = ap (λ (q : PortName). IdBusy (Queue q)) (port_back p x)
place_back (UuChan c) x = ap (λ (n : ℕ). IdBusy (UuChan (record { 0 = n }))) (value_back c.0 x)

air_back : (ticket number : ℕ) (status : Bool) (bytes : List ℕ) → ticket < 2 ^ 64 → number < 2 ^ 64 → IsBytes bytes → Air (value (decimal ticket)) status (value (decimal number)) (bytes_of (hex_text bytes)) ≡ Air ticket status number bytes
air_back ticket number status bytes x y z =
    ap (λ (n : ℕ). Air n status (value (decimal number)) (bytes_of (hex_text bytes))) (value_back ticket x)
    ∙ (ap (λ (n : ℕ). Air ticket status n (bytes_of (hex_text bytes))) (value_back number y) ∙ ap (λ (b : List ℕ). Air ticket status number b) (bytes_back bytes z))

pub reply_back : (r : Reply) → FitsReply r → reply_of (reply_words r) ≡ told r
reply_back (OkNumber n) x = ap (λ (b : Bool). ok_number b 2 (decimal n) []) (number_head n x) ∙ ap (λ (m : ℕ). OkNumber m) (value_back n x)
reply_back (OkPort p) x =
    ap (λ (b : Bool). ok_number b 2 (port_text p) []) (first_head p) ∙ (ap (λ (b : Bool). ok_port b (port_text p) []) (second_head p x) ∙ ap (λ (q : PortName). OkPort q) (port_back p x))
reply_back (OkTwo m n) x =
    ap (λ (b : Bool). ok_number b 3 (decimal m) (decimal n)) (number_head m x.0) ∙ (ap (λ (k : ℕ). OkTwo k (value (decimal n))) (value_back m x.0) ∙ ap (λ (k : ℕ). OkTwo m k) (value_back n x.1))
reply_back (OkSlot p) x = ap (λ (q : PortName). OkSlot q) (port_back p x)
reply_back (OkUp n) x = ap (λ (m : ℕ). OkUp m) (value_back n x)
reply_back (OkAcks n) x = ap (λ (m : ℕ). OkAcks m) (value_back n x)
reply_back (Full n) x = ap (λ (m : ℕ). Full m) (value_back n x)
reply_back (Small n) x = ap (λ (m : ℕ). Small m) (value_back n x)
reply_back (Air ticket true number bytes) x = air_back ticket number true bytes x.0 x.1 x.2
reply_back (Air ticket false number bytes) x = air_back ticket number false bytes x.0 x.1 x.2
reply_back (Stale m n) x = ap (λ (k : ℕ). Stale k (value (decimal n))) (value_back m x.0) ∙ ap (λ (k : ℕ). Stale m k) (value_back n x.1)
reply_back (PlanOpen r) x = ap (λ (n : ℕ). PlanOpen (record { 0 = n })) (value_back r.0 x)
reply_back (IdBusy place) x = place_back place x
reply_back (BadAmd amd.Short) x = refl
reply_back (BadAmd amd.Control) x = refl
reply_back (BadAmd amd.ZeroOffset) x = refl
reply_back (BadAmd amd.NoBody) x = refl
reply_back (BadAmd amd.Long) x = refl
reply_back (BadStatus status.Short) x = refl
reply_back (BadStatus status.IsData) x = refl
reply_back (BadStatus status.ReservedType) x = refl
reply_back (BadStatus status.ZeroRange) x = refl
reply_back (BadStatus status.BackPart) x = refl
reply_back (BadStatus status.Trailing) x = refl
reply_back (BadStatus status.Memory) x = refl
reply_back (Discard discards.Short) x = refl
reply_back (Discard discards.Control) x = refl
reply_back (Discard discards.NoBody) x = refl
reply_back (Discard discards.UnknownUe) x = refl
reply_back (Discard discards.UnknownBearer) x = refl
reply_back (Discard discards.ForeignUe) x = refl
reply_back (Discard discards.PdcpShort) x = refl
reply_back (Discard discards.PdcpType) x = refl
reply_back (Discard discards.PdcpEmpty) x = refl
reply_back (Discard discards.PdcpLong) x = refl
reply_back (Discard discards.ReportBeyond) x = refl
reply_back reply x = refl
