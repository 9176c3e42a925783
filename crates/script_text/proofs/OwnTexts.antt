-- What a word holds is also held by the text that is written of it, which is as long and has no spaces.
use Rattle.std.proofs.Common.{◌≡◌, ℕ, suc, ◌+◌, ◌<◌, true, List, [], ◌∷◌, length, map, get_or, drop, refl, sym, ◌∙◌, ap, subst, arith, inl, inr, drop-cons, length-drop}
use Rattle.std.proofs.Math.ListN.{drop_of_length-le}
use Rattle.std.specs.List.{AllByRecursion}
use Rattle.hex.specs.Hex.{encode_lower}
use Rattle.hex.proofs.HexLemmas.{decode_of-ok, decode_of-encode_lower}
use Rattle.link_base.specs.declared.names.Way.TheVariants.{Ul, Dl}
use Rattle.link_base.specs.declared.names.Side.TheVariants.{Low, High}
use Rattle.link_base.specs.declared.names.Timer.TheVariants.{Poll, Reasm, Prohibit}
use Rattle.link_base.specs.declared.names.Node.TheVariants.{Remote as AtRemote, Relay as AtRelay, Gnb as AtGnb}
use Rattle.link_base.specs.declared.names.SnSize.TheVariants.{S12, S18}
use Rattle.bearer_map.specs.declared.settings.SetName.TheVariants.{Queue, Report as Reports, PollPdu, PollByte, MaxRetx}
use Rattle.script_text.specs.Words.{word_at, IsHex}
use Rattle.script_text.specs.Fields.{Field, Number, Size, Hex, Port, Way, Side, Timer, Node, Setting, ToDirect, ToRelay, IsSpelt, AreSpelt, field_text}
use Rattle.script_text.proofs.Bounds.{IsBounded, AreBounded}
use Rattle.script_text.proofs.Joined.{is_plain, total, total-cons}
use Rattle.script_text.proofs.PlainWords.{plain_decimal, plain_hex, plain_port}
use Rattle.script_text.proofs.PortTexts.{port_is}

-- what holds of the text of a field
pub record IsOwn (word : List ℕ) (f : Field) : Type 0 where
  pub spelt : IsSpelt (field_text f) f
  pub as_long : length (field_text f) ≡ length word
  pub plain : is_plain (field_text f) ≡ true

-- a word that is spelt just as it is written
as_written : (w : List ℕ) (f : Field) → w ≡ field_text f → is_plain (field_text f) ≡ true → IsSpelt w f → IsOwn w f
as_written w f e plain x = record { spelt = subst (λ (v : List ℕ). IsSpelt v f) e x; as_long = ap length (sym e); plain = plain }

own_hex : (w bytes : List ℕ) → IsHex w bytes → IsOwn w (Hex bytes)
own_hex w [] (inl x) = record { spelt = inl (refl, refl); as_long = ap length (sym x.0); plain = refl }
own_hex w (b ∷ bytes) (inl x) = absurd (let e = x.1 in cc)
own_hex w [] (inr x) = absurd (omega (arith, x.0, (decode_of-ok w [] x.1).2))
own_hex w (b ∷ bytes) (inr x) =
    let given = decode_of-ok w (b ∷ bytes) x.1 in
    let back = decode_of-encode_lower (b ∷ bytes) given.3 in
    let made = decode_of-ok (encode_lower (b ∷ bytes)) (b ∷ bytes) back in
    record { spelt = inr (omega (arith, x.0, given.2, made.2), back); as_long = made.2 ∙ sym given.2; plain = plain_hex (encode_lower (b ∷ bytes)) (b ∷ bytes) back }

pub own : (w : List ℕ) (f : Field) → IsBounded f → IsSpelt w f → IsOwn w f
own w (Number low high n) small x = as_written w (Number low high n) x.0 (plain_decimal n (omega (arith, small, x.2))) x
own w (Size S12) small x = as_written w (Size S12) x refl x
own w (Size S18) small x = as_written w (Size S18) x refl x
own w (Hex bytes) small x = own_hex w bytes x
own w (Port p) small x = as_written w (Port p) (port_is w p x) (plain_port w p x) x
own w (Way Ul) small x = as_written w (Way Ul) x refl x
own w (Way Dl) small x = as_written w (Way Dl) x refl x
own w (Side Low) small x = as_written w (Side Low) x refl x
own w (Side High) small x = as_written w (Side High) x refl x
own w (Timer Poll) small x = as_written w (Timer Poll) x refl x
own w (Timer Reasm) small x = as_written w (Timer Reasm) x refl x
own w (Timer Prohibit) small x = as_written w (Timer Prohibit) x refl x
own w (Node AtRemote) small x = as_written w (Node AtRemote) x refl x
own w (Node AtRelay) small x = as_written w (Node AtRelay) x refl x
own w (Node AtGnb) small x = as_written w (Node AtGnb) x refl x
own w (Setting Queue) small x = as_written w (Setting Queue) x refl x
own w (Setting Reports) small x = as_written w (Setting Reports) x refl x
own w (Setting PollPdu) small x = as_written w (Setting PollPdu) x refl x
own w (Setting PollByte) small x = as_written w (Setting PollByte) x refl x
own w (Setting MaxRetx) small x = as_written w (Setting MaxRetx) x refl x
own w ToDirect small x = as_written w ToDirect x refl x
own w ToRelay small x = as_written w ToRelay x refl x

-- the fields' texts, one behind the other from the k-th word on
pub relisted : (k : ℕ) (us ws : List (List ℕ)) (fs : List Field) → AreBounded fs → AreSpelt k ws fs → drop k us ≡ map field_text fs → AreSpelt k us fs
relisted k us ws [] small x e = tt
relisted k us ws (f ∷ fs) small x e =
    let lt : k < length us = omega (arith, length-drop k us, ap length e) in
    let here : get_or us k [] ∷ drop (suc k) us ≡ field_text f ∷ map field_text fs = sym (drop-cons us k [] lt) ∙ e in
    let word : field_text f ≡ get_or us k [] = cc in
    let rest : drop (suc k) us ≡ map field_text fs = cc in
    (subst (λ (v : List ℕ). IsSpelt v f) word (own (word_at k ws) f small.0 x.0).spelt, relisted (suc k) us ws fs small.1 x.1 rest)

pub plain_texts : (k : ℕ) (ws : List (List ℕ)) (fs : List Field) → AreBounded fs → AreSpelt k ws fs → AllByRecursion (λ v. is_plain v ≡ true) (map field_text fs)
plain_texts k ws [] small x = tt
plain_texts k ws (f ∷ fs) small x = ((own (word_at k ws) f small.0 x.0).plain, plain_texts (suc k) ws fs small.1 x.1)

pub as_long : (k : ℕ) (ws : List (List ℕ)) (fs : List Field) → AreBounded fs → length ws ≡ k + length fs → AreSpelt k ws fs → total (map field_text fs) ≡ total (drop k ws)
as_long k ws [] small count x = ap total (sym (drop_of_length-le ws (omega (arith, count))))
as_long k ws (f ∷ fs) small count x =
    let lt : k < length ws = omega (arith, count) in
    let rest = as_long (suc k) ws fs small.1 (omega (arith, count)) x.1 in
    omega (arith, total-cons (field_text f) (map field_text fs), (own (word_at k ws) f small.0 x.0).as_long, rest, ap total (drop-cons ws k [] lt), total-cons (get_or ws k []) (drop (suc k) ws))
