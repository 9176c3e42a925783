-- All runs over an input end alike.
use Rattle.std.proofs.Common.{◌≡◌, ◌≢◌, ℕ, ◌+◌, ◌<◌, ◌≤◌, List, [], ◌∷◌, length, refl, sym, ◌∙◌, ap, subst, arith, inl, inr}
use Rattle.std.proofs.lemmas.Bool.{cases_eq, cases_lt}
use Rattle.std.proofs.lemmas.List.{append_cancel_right}
use Rattle.script_text.specs.declared.reason.Reason.{Reason}
use Rattle.script_text.specs.declared.reason.Reason.TheVariants as reason
use Rattle.script_text.specs.declared.stage.ScriptStage.{ScriptStage}
use Rattle.script_text.specs.Splits.{IsTooLong}
use Rattle.script_text.specs.Grammar.{IsBad, IsFirstReason, reasons}
use Rattle.script_text.specs.History.{Entry, ReadsLines}
use Rattle.script_text.proofs.OneParse.{one_first, none_first}
use Rattle.chain_model.specs.Runs.{entries}
use Rattle.chain_model.specs.State.{Chain}
use Rattle.player.specs.declared.play.Ending.{Ending}
use Rattle.player.specs.declared.play.Ending.TheVariants.{Done, Later, Bad, TooLong}
use Rattle.player.specs.Plays.{IsLater}
use Rattle.player.specs.Runs.{NextIs, IsBadNext, Stops, IsRun, LeadsToStage, OneEnding}
use Rattle.player.specs.Outcome.{OneStatus, status_of}
use Rattle.player.proofs.Complete.{splits_one, splits_none, reads_one, leads_one, leads_of, past_end, goes_on, going_on_done, long_stops, too_long_stops, IsEnd, ended_stops, over_stops}

-- the lines that were read end at or before byte 16,777,216
read_in_time : (input : List ℕ) (texts : List (List ℕ)) (rest : List ℕ) (used : ℕ) → ReadsLines input texts rest → used + length rest ≡ length input → used ≤ 16777216
read_in_time input [] rest used r place = omega (arith, ap length r, place)
read_in_time input (text ∷ texts) rest used r place = omega (arith, r.4, place)

-- one text is next
next_one : (used : ℕ) (rest a b : List ℕ) → NextIs used rest a → NextIs used rest b → a ≡ b
next_one used rest a b x y = (splits_one rest a x.0 b y.0 x.1 y.1).0

-- a rest has one reason to be bad
bad_one : (stage : ScriptStage) (used : ℕ) (rest : List ℕ) (a b : Reason) → IsBadNext stage used rest a → IsBadNext stage used rest b → a ≡ b
bad_one stage used rest reason.Line reason.Line x y = refl
bad_one stage used rest reason.End reason.End x y = refl
bad_one stage used rest reason.Line reason.End x y = absurd (omega (arith, x.enough, ap length y.1))
bad_one stage used rest reason.End reason.Line x y = absurd (omega (arith, y.enough, ap length x.1))
bad_one stage used rest reason.Line b x y = absurd (long_stops used rest y.0 y.1.0 y.1.1 y.1.2.short x)
bad_one stage used rest a reason.Line x y = absurd (long_stops used rest x.0 x.1.0 x.1.1 x.1.2.short y)
bad_one stage used rest reason.End b x y = absurd (splits_none rest y.0 y.1.0 x.1 y.1.1)
bad_one stage used rest a reason.End x y = absurd (splits_none rest x.0 x.1.0 y.1 x.1.1)
bad_one stage used rest a b x y =
    let same = next_one used rest x.0 y.0 x.1 y.1 in
    one_first (IsBad stage y.0) (reasons y.0) a b (subst (λ (t : List ℕ). IsFirstReason (IsBad stage t) (reasons t) a) same x.2) y.2

-- a bad rest isn't a line that is carried out later
bad_later : (stage : ScriptStage) (used : ℕ) (rest text : List ℕ) (why : Reason) → IsBadNext stage used rest why → NextIs used rest text → IsLater stage text → ⊥
bad_later stage used rest text reason.Line x next later = long_stops used rest text next.0 next.1 next.2.short x
bad_later stage used rest text reason.End x next later = splits_none rest text next.0 x.1 next.1
bad_later stage used rest text why x next later =
    let same = next_one used rest x.0 text x.1 next in
    none_first (IsBad stage text) (reasons text) why later.good (subst (λ (t : List ℕ). IsFirstReason (IsBad stage t) (reasons t) why) same x.2)

-- a bad rest isn't too long
bad_too_long : (stage : ScriptStage) (used : ℕ) (rest : List ℕ) (why : Reason) → used ≤ 16777216 → IsBadNext stage used rest why → IsTooLong used rest → ⊥
bad_too_long stage used rest reason.Line within x long = omega (arith, x.room, long.near)
bad_too_long stage used rest reason.End within x long = omega (arith, ap length x.1, long.past, within)
bad_too_long stage used rest why within x long = too_long_stops used rest x.0 x.1.0 x.1.1 x.1.2.within long

-- a run stops at a place for one reason
module _ (input : List ℕ) (texts : List (List ℕ)) (rest : List ℕ) (stage : ScriptStage) (used : ℕ) (place : used + length rest ≡ length input) (reads : ReadsLines input texts rest) (leads : LeadsToStage texts stage) where
  -- at a script's end it is done
  at_end : (h : List Entry) (c : Chain) (ending : Ending) (out : List ℕ) → IsEnd stage rest → Stops (length texts) h stage c used rest ending out → ending ≡ Done
  at_end h c ending out (inl ended) x = ended_stops (length texts) h stage c used rest ending out ended x
  at_end h c ending out (inr over) x = over_stops input texts h stage c used rest place leads over.0 over.1 ending out reads x

  one_stop : (h h' : List Entry) (c c' : Chain) (a b : Ending) (out out' : List ℕ) → Stops (length texts) h stage c used rest a out → Stops (length texts) h' stage c' used rest b out' → a ≡ b
  one_stop h h' c c' Done b out out' x y = sym (at_end h' c' b out' x.0 y)
  one_stop h h' c c' a Done out out' x y = at_end h c a out y.0 x
  one_stop h h' c c' (Bad why) (Bad other) out out' x y = ap (λ (r : Reason). Bad r) (bad_one stage used rest why other x.1 y.1)
  one_stop h h' c c' (Bad why) Later out out' x y = absurd (bad_later stage used rest y.1 why x.1 y.2 y.3)
  one_stop h h' c c' Later (Bad why) out out' x y = absurd (bad_later stage used rest x.1 why y.1 x.2 x.3)
  one_stop h h' c c' (Bad why) TooLong out out' x y = absurd (bad_too_long stage used rest why (read_in_time input texts rest used reads place) x.1 y.1)
  one_stop h h' c c' TooLong (Bad why) out out' x y = absurd (bad_too_long stage used rest why (read_in_time input texts rest used reads place) y.1 x.1)
  one_stop h h' c c' Later Later out out' x y = refl
  one_stop h h' c c' Later TooLong out out' x y = absurd (too_long_stops used rest x.1 x.2.0 x.2.1 x.2.2.within y.1)
  one_stop h h' c c' TooLong Later out out' x y = absurd (too_long_stops used rest y.1 y.2.0 y.2.1 y.2.2.within x.1)
  one_stop h h' c c' TooLong TooLong out out' x y = refl

-- the lines of a run lead to its stage
pub lead : (input : List ℕ) (ending : Ending) (out : List ℕ) (p : IsRun input ending out) → LeadsToStage p.texts p.stage
lead input ending out p = leads_of p.texts p.history p.stage p.chain p.spelt p.leads p.carried

-- of two runs that read different numbers of lines both are done
pub fewer : (input : List ℕ) (a b : Ending) (out out' : List ℕ) (p : IsRun input a out) (q : IsRun input b out') → length p.texts < length q.texts → (a ≡ Done) × (b ≡ Done)
fewer input a b out out' p q less =
    let from = lead input a out p in
    let on = lead input b out' q in
    let done : a ≡ Done = going_on_done input p.texts (entries p.history) p.stage p.chain p.used p.rest p.place from (goes_on input p.texts p.rest q.texts q.rest q.stage p.reads q.reads on less) a out p.stops in
    let ends : IsEnd p.stage p.rest = (subst (λ (e : Ending). Stops (length p.texts) (entries p.history) p.stage p.chain p.used p.rest e out) done p.stops).0 in
    let ended = past_end input q.texts q.rest q.stage p.texts p.rest p.stage q.reads p.reads on from ends less in
    (done, ended_stops (length q.texts) (entries q.history) q.stage q.chain q.used q.rest b out' ended q.stops)

pub one_ending : OneEnding
one_ending input a b out out' p q = elim (cases_lt (length p.texts) (length q.texts)) [
  | inl less ↦ let both = fewer input a b out out' p q less in (both.0 ∙ sym both.1, λ ne. absurd (ne both.0))
  | inr more ↦ elim (cases_eq (length p.texts) (length q.texts)) [
    | inl many ↦ alike many
    | inr ne ↦ let both = fewer input b a out' out q p (omega arith) in (both.1 ∙ sym both.0, λ ne. absurd (ne both.1))
  ]
]
  where
    alike : length p.texts ≡ length q.texts → (a ≡ b) × (a ≢ Done → p.texts ≡ q.texts)
    alike many =
        let same = reads_one input p.texts p.rest q.texts q.rest p.reads q.reads many in
        let from = lead input a out p in
        let stage : q.stage ≡ p.stage = leads_one q.texts q.stage p.stage (lead input b out' q) (subst (λ (t : List (List ℕ)). LeadsToStage t p.stage) same.0 from) in
        let used : q.used ≡ p.used = omega (arith, p.place, q.place, ap length same.1) in
        let stops : Stops (length p.texts) (entries q.history) p.stage q.chain p.used p.rest b out' =
        subst (λ (n : ℕ). Stops n (entries q.history) p.stage q.chain p.used p.rest b out') (sym many)
        (subst (λ (s : ScriptStage). Stops (length q.texts) (entries q.history) s q.chain p.used p.rest b out') stage
        (subst (λ (n : ℕ). Stops (length q.texts) (entries q.history) q.stage q.chain n p.rest b out') used
        (subst (λ (l : List ℕ). Stops (length q.texts) (entries q.history) q.stage q.chain q.used l b out') (sym same.1) q.stops))) in
        (one_stop input p.texts p.rest p.stage p.used p.place p.reads from (entries p.history) (entries q.history) p.chain q.chain a b out out' p.stops stops, λ ne. same.0)

-- what was read is one input, and its run has one ending
pub one_status : OneStatus
one_status a b left left' written written' other other' p q =
    let input : p.2.input ≡ q.2.input = append_cancel_right p.2.input q.2.input left' (sym p.2.is_input.taken ∙ q.2.is_input.taken) in
    let run : IsRun q.2.input p.0 p.2.text = subst (λ (l : List ℕ). IsRun l p.0 p.2.text) input p.2.is_run in
    p.1 ∙ (ap status_of (one_ending q.2.input p.0 q.0 p.2.text q.2.text run q.2.is_run).0 ∙ sym q.1)
