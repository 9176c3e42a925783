use Rattle.std.proofs.Common.{◌+◌, ◌∙◌, [], List, ℕ, drop, cond, ap, refl, arith, take_all, length-drop}
use Rattle.script_text.specs.Words.{words_of}
use Rattle.script_text.proofs.ReaderSteps.{first_word, last_word, head_word, tail_words, no_more}
use Rattle.script_text.proofs.reader.Reader.next_word.Goals as goal

pub returns-in-Some-clause-word : goal.returns-in-Some-clause-word
returns-in-Some-clause-word c =
    let at = c.in-Some.ensures in
    head_word c.args.self.now.is_done _ _ _ c.if-self.false (first_word c.args.self.now.rest.now _ _ at.split at.before)

pub returns-in-Some-clause-skips : goal.returns-in-Some-clause-skips
returns-in-Some-clause-skips c =
    let at = c.in-Some.ensures in
    let behind : List ℕ = drop (c.in-Some.at + 1) c.args.self.now.rest.now in
    record {
      left = ap (λ (t : List ℕ). cond c.args.self.now.is_done [] (words_of t)) (take_all _ behind (omega (arith, length-drop (c.in-Some.at + 1) c.args.self.now.rest.now)))
          ∙ tail_words c.args.self.now.is_done _ _ _ c.if-self.false (first_word c.args.self.now.rest.now _ _ at.split at.before);
      formed = refl;
      spelt = refl;
    }

pub returns-in-None-clause-word : goal.returns-in-None-clause-word
returns-in-None-clause-word c =
    let none = c.in-None.ensures.none refl in
    head_word c.args.self.now.is_done _ _ _ c.if-self.false (last_word c.args.self.now.rest.now none)

pub returns-in-None-clause-skips : goal.returns-in-None-clause-skips
returns-in-None-clause-skips c =
    let none = c.in-None.ensures.none refl in
    record {
      left = no_more c.args.self.now.is_done _ _ (last_word c.args.self.now.rest.now none);
      formed = refl;
      spelt = refl;
    }
