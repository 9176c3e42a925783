-- A line that is spelt has a form of its part.
use Rattle.std.proofs.Common.{◌≡◌, ℕ, suc, ◌<◌, ◌^◌, Bool, true, false, cond, List, [], ◌∷◌, refl, ◌∙◌, ap, arith, lit<, inl, inr, drop}
use Rattle.std.specs.Prelude.{◌&&◌, ◌||◌, ◌==◌}
use Rattle.std.proofs.lemmas.Bool.{lt-ltb, eq-eqb}
use Rattle.std.proofs.lemmas.List.Sums.{list_all-from_AllPass}
use Rattle.hex.specs.Hex.{is_hex_digit}
use Rattle.hex.proofs.HexLemmas.{decode_of-ok}
use Rattle.link_base.specs.declared.names.PortName.{PortName}
use Rattle.link_base.specs.declared.names.PortName.TheVariants.{Direct, Pc5 as Pc5Port, Uu as UuPort}
use Rattle.link_base.specs.declared.names.Way.TheVariants.{Ul, Dl}
use Rattle.link_base.specs.declared.names.Side.TheVariants.{Low, High}
use Rattle.link_base.specs.declared.names.Timer.TheVariants.{Poll, Reasm, Prohibit}
use Rattle.link_base.specs.declared.names.Node.TheVariants.{Remote as AtRemote, Relay as AtRelay, Gnb as AtGnb}
use Rattle.link_base.specs.declared.names.SnSize.TheVariants.{S12, S18}
use Rattle.bearer_map.specs.declared.settings.SetName.TheVariants.{Queue, Report as Reports, PollPdu, PollByte, MaxRetx}
use Rattle.script_text.specs.Words.{word_at, IsNumber, IsPort, IsHex, before_point, behind_point, is_numeral, is_port_form, is_hex}
use Rattle.script_text.specs.Fields.{Field, Number, Size, Hex, Port, Way, Side, Timer, Node, Setting, ToDirect, ToRelay, IsSpelt, AreSpelt}
use Rattle.script_text.specs.Forms.{is_shaped, are_shaped, IsFormed}
use Rattle.script_text.specs.Lines.{IsLineOf, fields}
use Rattle.script_text.specs.declared.line.Line.{Line}
use Rattle.script_text.specs.declared.stage.Part.{Part}
use Rattle.script_text.proofs.Bounds.{IsBounded, AreBounded, bounded}
use Rattle.script_text.proofs.Numerals.{numeral}

both : (a b : Bool) → a ≡ true → b ≡ true → (a && b) ≡ true
both true b x y = y
both false b x y = x

second : (a b : Bool) → b ≡ true → (a || b) ≡ true
second true b y = refl
second false b y = y

pub number_form : (low high n : ℕ) (w : List ℕ) → high < 2 ^ 64 → IsNumber low high w n → is_numeral w ≡ true
number_form low high n w small x = ap is_numeral x.0 ∙ numeral n (omega (arith, x.2))

pub hex_form : (w bytes : List ℕ) → IsHex w bytes → is_hex w ≡ true
hex_form w bytes (inl x) = ap is_hex x.0
hex_form w bytes (inr x) =
    let h = decode_of-ok w bytes x.1 in
    second _ _ (both _ _ (lt-ltb 0 _ x.0) (both _ _ (eq-eqb _ _ h.0) (list_all-from_AllPass is_hex_digit w h.1)))

pub port_form : (w : List ℕ) (p : PortName) → IsPort w p → is_port_form w ≡ true
port_form w (Direct r d) x =
    ap (λ (l : ℕ). cond (l == 117) (is_numeral (drop 1 w)) (cond ((l == 100) || (l == 112)) (is_numeral (before_point w) && is_numeral (behind_point w)) false)) x.0
    ∙ both _ _ (number_form 1 65535 r.0 _ (lit< tt) x.1) (number_form 1 32 d.0 _ (lit< tt) x.2)
port_form w (Pc5Port r c) x =
    ap (λ (l : ℕ). cond (l == 117) (is_numeral (drop 1 w)) (cond ((l == 100) || (l == 112)) (is_numeral (before_point w) && is_numeral (behind_point w)) false)) x.0
    ∙ both _ _ (number_form 1 65535 r.0 _ (lit< tt) x.1) (number_form 1 8 c.0 _ (lit< tt) x.2)
port_form w (UuPort c) x =
    ap (λ (l : ℕ). cond (l == 117) (is_numeral (drop 1 w)) (cond ((l == 100) || (l == 112)) (is_numeral (before_point w) && is_numeral (behind_point w)) false)) x.0
    ∙ number_form 1 8 c.0 _ (lit< tt) x.1

shaped : (w : List ℕ) (f : Field) → IsBounded f → IsSpelt w f → is_shaped w f ≡ true
shaped w (Number low high n) small x = number_form low high n w small x
shaped w (Size S12) small x = ap is_numeral x
shaped w (Size S18) small x = ap is_numeral x
shaped w (Hex bytes) small x = hex_form w bytes x
shaped w (Port p) small x = port_form w p x
shaped w (Way Ul) small x = ap (λ (u : List ℕ). is_shaped u (Way Ul)) x
shaped w (Way Dl) small x = ap (λ (u : List ℕ). is_shaped u (Way Dl)) x
shaped w (Side Low) small x = ap (λ (u : List ℕ). is_shaped u (Side Low)) x
shaped w (Side High) small x = ap (λ (u : List ℕ). is_shaped u (Side High)) x
shaped w (Timer Poll) small x = ap (λ (u : List ℕ). is_shaped u (Timer Poll)) x
shaped w (Timer Reasm) small x = ap (λ (u : List ℕ). is_shaped u (Timer Reasm)) x
shaped w (Timer Prohibit) small x = ap (λ (u : List ℕ). is_shaped u (Timer Prohibit)) x
shaped w (Node AtRemote) small x = ap (λ (u : List ℕ). is_shaped u (Node AtRemote)) x
shaped w (Node AtRelay) small x = ap (λ (u : List ℕ). is_shaped u (Node AtRelay)) x
shaped w (Node AtGnb) small x = ap (λ (u : List ℕ). is_shaped u (Node AtGnb)) x
shaped w (Setting Queue) small x = ap (λ (u : List ℕ). is_shaped u (Setting Queue)) x
shaped w (Setting Reports) small x = ap (λ (u : List ℕ). is_shaped u (Setting Reports)) x
shaped w (Setting PollPdu) small x = ap (λ (u : List ℕ). is_shaped u (Setting PollPdu)) x
shaped w (Setting PollByte) small x = ap (λ (u : List ℕ). is_shaped u (Setting PollByte)) x
shaped w (Setting MaxRetx) small x = ap (λ (u : List ℕ). is_shaped u (Setting MaxRetx)) x
shaped w ToDirect small x = ap (λ (v : List ℕ). is_shaped v ToDirect) x
shaped w ToRelay small x = ap (λ (v : List ℕ). is_shaped v ToRelay) x

pub all_shaped : (k : ℕ) (ws : List (List ℕ)) (fs : List Field) → AreBounded fs → AreSpelt k ws fs → are_shaped k ws fs ≡ true
all_shaped k ws [] small x = refl
all_shaped k ws (f ∷ fs) small x = both _ _ (shaped (word_at k ws) f small.0 x.0) (all_shaped (suc k) ws fs small.1 x.1)

pub formed : (part : Part) (ws : List (List ℕ)) (line : Line) → IsLineOf part ws line → IsFormed part ws
formed part ws line x = record {
  line = line;
  stands = x.stands;
  form = record { count = x.spelt.count; begins = x.spelt.begins; shaped = all_shaped 1 ws (fields line) (bounded line) x.spelt.holds };
}
