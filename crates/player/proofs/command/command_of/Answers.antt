use Rattle.std.proofs.Common.{◌≡◌, List, [], ◌∷◌, ℕ, codes, string_bytes, map, ap, sym, ◌∙◌}
use Rattle.std.proofs.lemmas.Result.{IfOk-weaker}
use Rattle.player.specs.Commands.{IsCommand}
use Rattle.player.proofs.Commands.{shows, three_words}
use Rattle.player.proofs.command.command_of.Goals as goal

pub returns-in-len3 : goal.returns-in-len3
returns-in-len3 c =
    let words : List (List ℕ) = map string_bytes c.args.words.now in
    let three : words ≡ string_bytes c.show-item.result ∷ string_bytes c.form-item.result ∷ string_bytes c.hex-item.result ∷ [] = three_words string_bytes c.args.words.now c.show-item.result c.form-item.result c.hex-item.result c.in-len3.len_at_least c.in-len3.len_below c.show-item.is c.form-item.is c.hex-item.is in
    let show : string_bytes c.show-item.result ≡ codes "show" = sym c.as_bytes-then-words-lt4.ensures.value ∙ c.is_word-then-words-lt4.ensures.0 c.if-is_word-2.true in
    let is : words ≡ codes "show" ∷ c.as_bytes-in-len3.result.now ∷ c.as_bytes-in-len3-2.result.now ∷ [] =
    three ∙ (ap (λ (w : List ℕ). w ∷ string_bytes c.form-item.result ∷ string_bytes c.hex-item.result ∷ []) show
    ∙ (ap (λ (w : List ℕ). codes "show" ∷ w ∷ string_bytes c.hex-item.result ∷ []) (sym c.as_bytes-in-len3.ensures.value) ∙ ap (λ (w : List ℕ). codes "show" ∷ c.as_bytes-in-len3.result.now ∷ w ∷ []) (sym c.as_bytes-in-len3-2.ensures.value))) in
    IfOk-weaker c.show_command.result _ (IsCommand words) (λ command said. shows words _ _ command is said) c.show_command.ensures
