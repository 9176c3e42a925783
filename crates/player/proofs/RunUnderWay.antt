-- A run that is under way, and how it ends.
use Rattle.std.proofs.Common.{◌≡◌, ◌⊎◌, ℕ, ◌+◌, ◌-◌, ◌≤◌, codes, true, false, List, [], ◌∷◌, ◌++◌, length, map, Some, None, refl, sym, ◌∙◌, ap, subst, arith, inl, inr, length-append, append_assoc}
use Rattle.script_text.specs.declared.reason.Reason.{Reason}
use Rattle.script_text.specs.declared.reason.Reason.TheVariants as reason
use Rattle.script_text.specs.declared.stage.ScriptStage.{ScriptStage}
use Rattle.script_text.specs.declared.trace.Total.{Total}
use Rattle.script_text.specs.Grammar.{IsBad, IsFirstReason, reasons}
use Rattle.script_text.specs.Lines.{is_skipped}
use Rattle.script_text.specs.Splits.{Splits, EndsInTime, IsTooLong}
use Rattle.script_text.specs.Texts.{is_running, totals_text, done_text, bad_text, reason_text, too_long_text}
use Rattle.script_text.specs.History.{Entry, trace, ReadsLines, Spelt}
use Rattle.node_model.specs.Tables.{keys}
use Rattle.chain_model.specs.Runs.{Turn, entries}
use Rattle.chain_model.specs.State.{Chain}
use Rattle.chain_core.specs.Chain.{total_of}
use Rattle.player.specs.declared.play.Ending.{Ending}
use Rattle.player.specs.declared.play.Ending.TheVariants.{Done, Later, Bad, TooLong}
use Rattle.player.specs.declared.player_state.Player.{Player}
use Rattle.player.specs.declared.player_state.Progress.{Progress}
use Rattle.player.specs.declared.player_state.Progress.TheVariants as progress
use Rattle.player.specs.Ended.{is_ended}
use Rattle.player.specs.Foundations.{RunLaws}
use Rattle.player.specs.Plays.{IsLater, Plays, ReadsText, chain_or}
use Rattle.player.specs.Turns.{TurnsAt, StopsAtEnd, Finishes}
use Rattle.player.specs.Runs.{IsRun, Stops, IsBadNext, last_text, own_entry}
use Rattle.player.proofs.Totals.{totals}
use Rattle.player.proofs.RunLines.{keeps_books, has_sound_replies, hands_up_all}

-- the chain of a player
abbrev chain_at : Player → Chain
chain_at p = chain_or p.stage p.chain

-- some lines were read and carried out, so many are counted, the rest is left, and their trace was written
pub record IsGoing (input rest : List ℕ) (number : ℕ) (player : Player) (out : List ℕ) : Type 0 where
  pub texts : List (List ℕ)
  pub history : List Turn
  pub reads : ReadsLines input texts rest
  pub spelt : Spelt texts (map own_entry history)
  pub plays : Plays player history
  pub written : out ≡ trace (entries history)
  pub counted : number ≡ length texts + 1
  pub each_long : length texts + length rest ≤ length input
  pub in_limit : length input ≤ 16777216 + length rest

-- a run begins
pub begins : (input : List ℕ) (player : Player) (out : List ℕ) → Plays player [] → out ≡ [] → IsGoing input input 1 player out
begins input player out plays empty = record {
  texts = [];
  history = [];
  reads = refl;
  spelt = tt;
  plays = plays;
  written = empty;
  counted = refl;
  each_long = omega arith;
  in_limit = omega arith;
}

splits_shorter : (bytes text after : List ℕ) → Splits bytes text after → length after + 1 ≤ length bytes
splits_shorter bytes text after s = elim s.ends [
  | inl lf ↦ omega (arith, ap length lf, length-append text (10 ∷ after))
  | inr end ↦ omega (arith, ap length end.0, ap length end.1, end.2)
]

spelt_skip : (text : List ℕ) (texts : List (List ℕ)) (h : List Entry) → is_skipped text ≡ true → Spelt texts h → Spelt (text ∷ texts) h
spelt_skip text texts [] skip s = (skip, s)
spelt_skip text texts (e ∷ h) skip s = inl (skip, s)

pub going_on : (input rest text after : List ℕ) (number : ℕ) (p p' : Player) (out out' : List ℕ) (step : Progress) (g : IsGoing input rest number p out)
    → Splits rest text after → EndsInTime (length input - length rest) rest text after → ReadsText text g.history p.stage step p' out' → (step ≡ progress.Skipped) ⊎ (step ≡ progress.Carried)
    → IsGoing input after (number + 1) p' out'
going_on input rest text after number p p' out out' progress.Skipped g splits time read on =
    let less = splits_shorter rest text after splits in
    let limit : length input ≤ 16777216 + length after = omega (arith, time.within, g.each_long) in
    record {
      texts = text ∷ g.texts;
      history = g.history;
      reads = (rest, g.reads, splits, time.short, limit);
      spelt = spelt_skip text g.texts (map own_entry g.history) read.0 g.spelt;
      plays = read.1;
      written = read.2;
      counted = omega (arith, g.counted);
      each_long = omega (arith, g.each_long);
      in_limit = limit;
    }
going_on input rest text after number p p' out out' progress.Carried g splits time read on =
    let less = splits_shorter rest text after splits in
    let limit : length input ≤ 16777216 + length after = omega (arith, time.within, g.each_long) in
    record {
      texts = text ∷ g.texts;
      history = read.1 ∷ g.history;
      reads = (rest, g.reads, splits, time.short, limit);
      spelt = inr (read.0, read.2, g.spelt);
      plays = read.3;
      written = read.4;
      counted = omega (arith, g.counted);
      each_long = omega (arith, g.each_long);
      in_limit = limit;
    }
going_on input rest text after number p p' out out' progress.Later g splits time read on = elim on [ inl e ↦ absurd (cc) | inr e ↦ absurd (cc) ]
going_on input rest text after number p p' out out' (progress.Bad reason) g splits time read on = elim on [ inl e ↦ absurd (cc) | inr e ↦ absurd (cc) ]

-- a line that ends in time is bad for a reason of its own
pub bad_next : (stage : ScriptStage) (used : ℕ) (rest text after : List ℕ) (why : Reason) → Splits rest text after → EndsInTime used rest text after → IsFirstReason (IsBad stage text) (reasons text) why → IsBadNext stage used rest why
bad_next stage used rest text after reason.Line splits time first = absurd (too_short (reasons text) first)
  where
    too_short : (rs : List Reason) → IsFirstReason (IsBad stage text) rs reason.Line → ⊥
    too_short [] x = x
    too_short (r ∷ rs) (inl x) = omega (arith, time.short, subst (IsBad stage text) (sym x.0) x.1)
    too_short (r ∷ rs) (inr x) = too_short rs x.1
bad_next stage used rest text after reason.End splits time first = absurd (no_end (reasons text) first)
  where
    no_end : (rs : List Reason) → IsFirstReason (IsBad stage text) rs reason.End → ⊥
    no_end [] x = x
    no_end (r ∷ rs) (inl x) = subst (IsBad stage text) (sym x.0) x.1
    no_end (r ∷ rs) (inr x) = no_end rs x.1
bad_next stage used rest text after why splits time first = (text, (after, splits, time), first)

module _ (laws : RunLaws) where
  -- a run that stops here
  pub run_stops : (input rest : List ℕ) (number : ℕ) (p : Player) (out out' : List ℕ) (ending : Ending) (g : IsGoing input rest number p out)
      → Stops (length g.texts) (entries g.history) p.stage (chain_at p) (length input - length rest) rest ending out' → IsRun input ending out'
  run_stops input rest number p out out' ending g stops =
      record {
        texts = g.texts;
        history = g.history;
        rest = rest;
        used = length input - length rest;
        place = omega (arith, g.each_long);
        reads = g.reads;
        spelt = g.spelt;
        stage = p.stage;
        chain = chain_at p;
        leads = g.plays.leads;
        carried = g.plays.carried;
        books = keeps_books laws g.history p.stage (chain_at p) g.plays.leads g.plays.carried;
        hand_ups = laws.exact g.history p.stage (chain_at p) g.plays.leads;
        pdus = laws.pdus g.history p.stage (chain_at p) g.plays.leads;
        reports = laws.reports g.history p.stage (chain_at p) g.plays.leads;
        replies = has_sound_replies laws g.history p.stage (chain_at p) g.plays.leads g.plays.carried;
        quiet = hands_up_all laws g.history p.stage (chain_at p) g.plays.leads g.plays.carried;
        stops = stops;
      }

  -- what is written at the end of a run
  pub run_done : (input rest : List ℕ) (number : ℕ) (p : Player) (out out' : List ℕ) (g : IsGoing input rest number p out)
      → (is_ended p.stage.part ≡ true) ⊎ ((is_running p.stage.part ≡ true) × (rest ≡ [])) → Finishes p out out' → IsRun input Done out'
  run_done input rest number p out out' g why said =
      let c : Chain = chain_at p in
      let same : said.0 ≡ c = sym (ap (chain_or p.stage) said.1) in
      let text : out' ≡ trace (entries g.history) ++ last_text c.tables (entries g.history) =
      said.2 ∙ (ap (λ (x : Chain). out ++ totals_text (map (total_of x) (keys x.tables)) ++ done_text) same
      ∙ (ap (λ (l : List Total). out ++ totals_text l ++ done_text) (totals laws g.history p.stage c g.plays.leads)
      ∙ (append_assoc out _ done_text ∙ ap (λ (l : List ℕ). l ++ last_text c.tables (entries g.history)) g.written))) in
      run_stops input rest number p out out' Done g (why, text)

  -- what is written where a run stops at a bad line
  module _ (input rest : List ℕ) (number : ℕ) (p : Player) (out out' : List ℕ) (g : IsGoing input rest number p out) (going : is_ended p.stage.part ≡ false) where
    bad_so : (reason : List ℕ) → out' ≡ out ++ bad_text number reason → out' ≡ trace (entries g.history) ++ bad_text (length g.texts + 1) reason
    bad_so reason said = said ∙ (ap (λ (l : List ℕ). l ++ bad_text number reason) g.written ∙ ap (λ (n : ℕ). trace (entries g.history) ++ bad_text n reason) g.counted)

    pub run_bad : (why : Reason) → IsBadNext p.stage (length input - length rest) rest why → out' ≡ out ++ bad_text number (reason_text why) → IsRun input (Bad why) out'
    run_bad why bad said = run_stops input rest number p out out' (Bad why) g (going, bad, bad_so (reason_text why) said)

    pub run_later : (text after : List ℕ) → Splits rest text after → EndsInTime (length input - length rest) rest text after → IsLater p.stage text → out' ≡ out ++ bad_text number (codes "later") → IsRun input Later out'
    run_later text after splits time later said = run_stops input rest number p out out' Later g (going, text, (after, splits, time), later, bad_so (codes "later") said)

    pub run_too_long : IsTooLong (length input - length rest) rest → out' ≡ out ++ too_long_text → IsRun input TooLong out'
    run_too_long long said = run_stops input rest number p out out' TooLong g (going, long, said ∙ ap (λ (l : List ℕ). l ++ too_long_text) g.written)

  -- how a run ends at a line, and at the input's end
  module _ (input rest : List ℕ) (number : ℕ) (p : Player) (out out' : List ℕ) (g : IsGoing input rest number p out) (going : is_ended p.stage.part ≡ false) where
    pub run_turns : (text after : List ℕ) → Splits rest text after → EndsInTime (length input - length rest) rest text after → (p' : Player) (ending : Ending) → TurnsAt text g.history p.stage number (Some ending) p' out' → IsRun input ending out'
    run_turns text after splits time p' Later x = run_later input rest number p out out' g going text after splits time x.0 (x.1 ∙ ap (λ (l : List ℕ). l ++ bad_text number (codes "later")) (sym g.written))
    run_turns text after splits time p' (Bad why) x =
        run_bad input rest number p out out' g going why (bad_next p.stage (length input - length rest) rest text after why splits time x.0) (x.1 ∙ ap (λ (l : List ℕ). l ++ bad_text number (reason_text why)) (sym g.written))
    run_turns text after splits time p' Done x = absurd x
    run_turns text after splits time p' TooLong x = absurd x

    pub run_over : (ending : Ending) → rest ≡ [] → StopsAtEnd p number out ending out' → IsRun input ending out'
    run_over Done none x = run_done input rest number p out out' g (inr (x.0, none)) x.1
    run_over (Bad reason.End) none x = run_bad input rest number p out out' g going reason.End (x.0, none) x.1
    run_over (Bad why) none x = absurd x
    run_over Later none x = absurd x
    run_over TooLong none x = absurd x

-- a line behind which a run goes on
pub run_on : (input rest text after : List ℕ) (number : ℕ) (p p' : Player) (out out' : List ℕ) (g : IsGoing input rest number p out) → Splits rest text after → EndsInTime (length input - length rest) rest text after
    → TurnsAt text g.history p.stage number None p' out' → IsGoing input after (number + 1) p' out'
run_on input rest text after number p p' out out' g splits time (inl x) = going_on input rest text after number p p' out out' progress.Skipped g splits time x (inl refl)
run_on input rest text after number p p' out out' g splits time (inr x) = going_on input rest text after number p p' out out' progress.Carried g splits time x (inr refl)

-- the same run, seen in other terms
pub run_as : (input input' : List ℕ) (ending : Ending) (text text' : List ℕ) → input ≡ input' → text' ≡ text → IsRun input ending text → IsRun input' ending text'
run_as input input' ending text text' e f r = subst (λ (l : List ℕ). IsRun l ending text') e (subst (λ (l : List ℕ). IsRun input ending l) (sym f) r)
