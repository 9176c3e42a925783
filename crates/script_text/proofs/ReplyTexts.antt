-- The text of a reply tells it.
use Rattle.std.proofs.Common.{◌≡◌, ℕ, Bool, true, false, List, [], ◌∷◌, refl, sym, ◌∙◌, ap, subst, get_or, drop}
use Rattle.std.specs.Fmt.{decimal}
use Rattle.std.specs.List.{AllByRecursion, list_all}
use Rattle.hex.specs.Hex.{IsBytes, encode_lower}
use Rattle.hex.proofs.HexLemmas.{decode_of-encode_lower}
use Rattle.link_base.specs.declared.names.PortName.{PortName}
use Rattle.link_base.specs.declared.names.PortName.TheVariants.{Direct, Pc5, Uu}
use Rattle.link_base.specs.declared.names.Place.{Place}
use Rattle.link_base.specs.declared.names.Place.TheVariants.{Attached, Planned, Slot, Queue, Uu as UuChan}
use Rattle.link_base.specs.declared.discard.Discard.TheVariants as discards
use Rattle.rlc_pdu.specs.declared.amd.AmdFault.TheVariants as amd
use Rattle.rlc_status.specs.declared.fault.StatusFault.TheVariants as status
use Rattle.script_text.specs.declared.reply.Reply.{Reply}
use Rattle.script_text.specs.declared.reply.Reply.TheVariants.{OkNumber, OkPort, OkTwo, OkSlot, OkUp, OkAcks, Full, Small, Air, Stale, PlanOpen, IdBusy, BadAmd, BadStatus, Discard}
use Rattle.script_text.specs.Words.{hex_text, port_text, words_of}
use Rattle.script_text.specs.Fields.{joined}
use Rattle.script_text.specs.Texts.{reply_words, reply_text, place_words, kind_text}
use Rattle.script_text.specs.Told.{FitsPort, FitsPlace, FitsReply, told}
use Rattle.script_text.proofs.Joined.{is_plain, first_of, second_of, words_of_joined}
use Rattle.script_text.proofs.PlainWords.{plain_decimal, plain_hex, plain_append}
use Rattle.script_text.proofs.ReplyBack.{reply_of, reply_back}

-- all words are words of a line
pub ArePlain : List (List ℕ) → Type 0
ArePlain words = AllByRecursion (λ w. is_plain w ≡ true) words

pub each_plain : (words : List (List ℕ)) → ArePlain words → AllByRecursion (λ w. is_plain w ≡ true) words
unfolding ArePlain
each_plain words x = x

pub none : ArePlain []
unfolding ArePlain
none = tt

pub more : (w : List ℕ) (ws : List (List ℕ)) → is_plain w ≡ true → ArePlain ws → ArePlain (w ∷ ws)
unfolding ArePlain
more w ws e x = (e, x)

tested : (words : List (List ℕ)) → list_all is_plain words ≡ true → AllByRecursion (λ w. is_plain w ≡ true) words
tested [] e = tt
tested (w ∷ ws) e = (first_of (is_plain w) (list_all is_plain ws) e, tested ws (second_of (is_plain w) (list_all is_plain ws) e))

pub fixed : (words : List (List ℕ)) → list_all is_plain words ≡ true → ArePlain words
unfolding ArePlain
fixed words e = tested words e

pub plain_port_text : (p : PortName) → FitsPort p → is_plain (port_text p) ≡ true
plain_port_text (Direct r d) x = plain_append (decimal r.0) _ (plain_decimal r.0 x.0) (plain_decimal d.0 x.1)
plain_port_text (Pc5 r c) x = plain_append (decimal r.0) _ (plain_decimal r.0 x.0) (plain_decimal c.0 x.1)
plain_port_text (Uu c) x = plain_decimal c.0 x

pub plain_bytes : (bytes : List ℕ) → IsBytes bytes → is_plain (hex_text bytes) ≡ true
plain_bytes [] x = refl
plain_bytes (b ∷ bytes) x = plain_hex (encode_lower (b ∷ bytes)) (b ∷ bytes) (decode_of-encode_lower (b ∷ bytes) x)

plain_place : (place : Place) → FitsPlace place → ArePlain (place_words place)
plain_place (Attached r) x = more _ _ refl (more _ _ (plain_decimal r.0 x) none)
plain_place (Planned r) x = more _ _ refl (more _ _ (plain_decimal r.0 x) none)
plain_place (Slot p) x = more _ _ refl (more _ _ (plain_port_text p x) none)
plain_place (Queue p) x = more _ _ refl (more _ _ (plain_port_text p x) none)
plain_place (UuChan c) x = more _ _ refl (more _ _ (plain_decimal c.0 x) none)

plain_kind : (status : Bool) → is_plain (kind_text status) ≡ true
plain_kind true = refl
plain_kind false = refl

pub plain_reply : (r : Reply) → FitsReply r → ArePlain (reply_words r)
plain_reply (OkNumber n) x = more _ _ refl (more _ _ (plain_decimal n x) none)
plain_reply (OkPort p) x = more _ _ refl (more _ _ (plain_port_text p x) none)
plain_reply (OkTwo m n) x = more _ _ refl (more _ _ (plain_decimal m x.0) (more _ _ (plain_decimal n x.1) none))
plain_reply (OkSlot p) x = more _ _ refl (more _ _ refl (more _ _ (plain_port_text p x) none))
plain_reply (OkUp n) x = more _ _ refl (more _ _ refl (more _ _ (plain_decimal n x) none))
plain_reply (OkAcks n) x = more _ _ refl (more _ _ refl (more _ _ (plain_decimal n x) none))
plain_reply (Full n) x = more _ _ refl (more _ _ (plain_decimal n x) none)
plain_reply (Small n) x = more _ _ refl (more _ _ (plain_decimal n x) none)
plain_reply (Air ticket status number bytes) x = more _ _ refl (more _ _ (plain_decimal ticket x.0) (more _ _ (plain_kind status) (more _ _ (plain_decimal number x.1) (more _ _ (plain_bytes bytes x.2) none))))
plain_reply (Stale m n) x = more _ _ refl (more _ _ (plain_decimal m x.0) (more _ _ (plain_decimal n x.1) none))
plain_reply (PlanOpen r) x = more _ _ refl (more _ _ (plain_decimal r.0 x) none)
plain_reply (IdBusy place) x = more _ _ refl (plain_place place x)
plain_reply (BadAmd amd.Short) x = fixed _ refl
plain_reply (BadAmd amd.Control) x = fixed _ refl
plain_reply (BadAmd amd.ZeroOffset) x = fixed _ refl
plain_reply (BadAmd amd.NoBody) x = fixed _ refl
plain_reply (BadAmd amd.Long) x = fixed _ refl
plain_reply (BadStatus status.Short) x = fixed _ refl
plain_reply (BadStatus status.IsData) x = fixed _ refl
plain_reply (BadStatus status.ReservedType) x = fixed _ refl
plain_reply (BadStatus status.ZeroRange) x = fixed _ refl
plain_reply (BadStatus status.BackPart) x = fixed _ refl
plain_reply (BadStatus status.Trailing) x = fixed _ refl
plain_reply (BadStatus status.Memory) x = fixed _ refl
plain_reply (Discard discards.Short) x = fixed _ refl
plain_reply (Discard discards.Control) x = fixed _ refl
plain_reply (Discard discards.NoBody) x = fixed _ refl
plain_reply (Discard discards.UnknownUe) x = fixed _ refl
plain_reply (Discard discards.UnknownBearer) x = fixed _ refl
plain_reply (Discard discards.ForeignUe) x = fixed _ refl
plain_reply (Discard discards.PdcpShort) x = fixed _ refl
plain_reply (Discard discards.PdcpType) x = fixed _ refl
plain_reply (Discard discards.PdcpEmpty) x = fixed _ refl
plain_reply (Discard discards.PdcpLong) x = fixed _ refl
plain_reply (Discard discards.ReportBeyond) x = fixed _ refl
plain_reply reply x = fixed _ refl

-- a reply has a word
pub some_word : (r : Reply) → reply_words r ≡ get_or (reply_words r) 0 [] ∷ drop 1 (reply_words r)
some_word (OkNumber n) = refl
some_word reply = refl

pub words_of_listed : (words : List (List ℕ)) (w : List ℕ) (ws : List (List ℕ)) → words ≡ w ∷ ws → ArePlain words → words_of (joined words) ≡ words
words_of_listed words w ws e plain =
    let all = each_plain (w ∷ ws) (subst ArePlain e plain) in
    ap (λ (us : List (List ℕ)). words_of (joined us)) e ∙ (words_of_joined w ws all.0 all.1 ∙ sym e)

pub words_of_reply : (r : Reply) → FitsReply r → words_of (reply_text r) ≡ reply_words r
words_of_reply r x = words_of_listed (reply_words r) _ _ (some_word r) (plain_reply r x)

pub one_reply : (a b : Reply) → FitsReply a → FitsReply b → reply_text a ≡ reply_text b → told a ≡ told b
one_reply a b x y e =
    sym (reply_back a x) ∙ (ap reply_of (sym (words_of_reply a x) ∙ (ap words_of e ∙ words_of_reply b y)) ∙ reply_back b y)
