use Rattle.std.proofs.Common.{sym, subst, List, ℕ}
use Rattle.std.specs.Str.{IsUtf8}
use Rattle.std.proofs.lemmas.Str.{IsUtf8-from_ascii}
use Rattle.hex.specs.Hex.{lower_digits}
use Rattle.hex.proofs.HexLemmas.{IsAscii-encode_with}
use Rattle.script_text.proofs.HexText.{ascii_digits}
use Rattle.script_text.proofs.hex_words.push_piece.Goals as goal

pub from_utf8_unchecked-requires : goal.from_utf8_unchecked-requires
from_utf8_unchecked-requires c =
    subst (λ (bs : List ℕ). IsUtf8 bs) (sym c.write_digits.ensures) (IsUtf8-from_ascii _ (IsAscii-encode_with lower_digits c.args.piece.now ascii_digits))
