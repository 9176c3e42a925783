-- All runs over an input write one text.
use Rattle.std.proofs.Common.{◌≡◌, ◌≢◌, inl, inr, ℕ, ◌+◌, ◌<◌, ◌≤◌, true, false, List, [], ◌∷◌, ◌++◌, length, map, codes, refl, sym, ◌∙◌, ap, subst, arith}
use Rattle.std.proofs.lemmas.Bool.{cases_eq, cases_lt, false≢true}
use Rattle.std.specs.List.{AllByRecursion}
use Rattle.bearer_map.specs.Contents.{Contents}
use Rattle.script_text.specs.declared.line.Line.{Line}
use Rattle.script_text.specs.declared.line.Line.TheVariants.{Burst}
use Rattle.script_text.specs.declared.reason.Reason.{Reason}
use Rattle.script_text.specs.declared.stage.ScriptStage.{ScriptStage}
use Rattle.script_text.specs.History.{Entry, trace, ReadsLines, Spelt}
use Rattle.script_text.specs.Lines.{is_skipped}
use Rattle.script_text.specs.Texts.{bad_text, reason_text, too_long_text}
use Rattle.script_text.specs.Words.{words_of}
use Rattle.script_text.proofs.OneLine.{one_line}
use Rattle.chain_model.specs.Runs.{Turn, entries}
use Rattle.orderly_law.specs.Laws.{RunsHaveOneOutcome, line_of, is_burst_or_drain}
use Rattle.player.specs.declared.play.Ending.{Ending}
use Rattle.player.specs.declared.play.Ending.TheVariants.{Done, Later, Bad, TooLong}
use Rattle.player.specs.Carried.{is_carried}
use Rattle.player.specs.Ended.{is_ended}
use Rattle.player.specs.Plays.{AreCarried}
use Rattle.player.specs.Runs.{IsRun, Stops, LeadsToStage, OneText, last_text, own_entry}
use Rattle.player.proofs.Complete.{reads_one, leads_one, past_end, ended_before, ended_none, IsEnd}
use Rattle.player.proofs.OneEnding.{one_ending, lead, fewer}

-- lines that are spelt by one list of texts are the same
one_lines : (texts : List (List ℕ)) (h g : List Turn) → Spelt texts (map own_entry h) → Spelt texts (map own_entry g) → map line_of h ≡ map line_of g
one_lines [] [] [] x y = refl
one_lines [] (t ∷ h) g x y = absurd x
one_lines [] [] (u ∷ g) x y = absurd y
one_lines (text ∷ texts) [] [] x y = refl
one_lines (text ∷ texts) [] (u ∷ g) x (inl y) = one_lines texts [] (u ∷ g) x.1 y.1
one_lines (text ∷ texts) [] (u ∷ g) x (inr y) = absurd (false≢true (sym y.0 ∙ x.0))
one_lines (text ∷ texts) (t ∷ h) [] (inl x) y = one_lines texts (t ∷ h) [] x.1 y.1
one_lines (text ∷ texts) (t ∷ h) [] (inr x) y = absurd (false≢true (sym x.0 ∙ y.0))
one_lines (text ∷ texts) (t ∷ h) (u ∷ g) (inl x) (inl y) = one_lines texts (t ∷ h) (u ∷ g) x.1 y.1
one_lines (text ∷ texts) (t ∷ h) (u ∷ g) (inl x) (inr y) = absurd (false≢true (sym y.0 ∙ x.0))
one_lines (text ∷ texts) (t ∷ h) (u ∷ g) (inr x) (inl y) = absurd (false≢true (sym x.0 ∙ y.0))
one_lines (text ∷ texts) (t ∷ h) (u ∷ g) (inr x) (inr y) =
    let line : t.entry.line ≡ u.entry.line = one_line (words_of text) t.entry.line u.entry.line x.1 y.1 in
    let rest : map line_of h ≡ map line_of g = one_lines texts h g x.2 y.2 in
    cc (line, rest)

-- a text that is skipped spells nothing
unskipped : (text : List ℕ) (texts : List (List ℕ)) (h : List Entry) → is_skipped text ≡ true → Spelt (text ∷ texts) h → Spelt texts h
unskipped text texts [] skip x = x.1
unskipped text texts (e ∷ h) skip (inl x) = x.1
unskipped text texts (e ∷ h) skip (inr x) = absurd (false≢true (sym x.0 ∙ skip))

-- behind a script's end nothing is spelt
module _ (input : List ℕ) (whole : List (List ℕ)) (end : List ℕ) (last : ScriptStage) (w : ReadsLines input whole end) (l : LeadsToStage whole last) (is : IsEnd last end) where
  ended : (text : List ℕ) (more : List (List ℕ)) (rest : List ℕ) (b : ScriptStage) → ReadsLines input (text ∷ more) rest → LeadsToStage more b → length whole ≤ length more
      → is_ended b.part ≡ true
  ended text more rest b r lead le = elim (cases_eq (length more) (length whole)) [
    | inl many ↦
        let same = reads_one input more r.0 whole end r.1 w many in
        ap (λ (s : ScriptStage). is_ended s.part) (leads_one whole b last (subst (λ (t : List (List ℕ)). LeadsToStage t b) same.0 lead) l)
        ∙ ended_before r.0 text rest last (subst (λ (q : List ℕ). IsEnd last q) (sym same.1) is) r.2
    | inr ne ↦ past_end input more r.0 b whole end last r.1 w lead l is (omega arith)
  ]

  spelt_before : (texts : List (List ℕ)) (rest : List ℕ) (s : ScriptStage) (h : List Entry) → ReadsLines input texts rest → LeadsToStage texts s → Spelt texts h → length whole ≤ length texts → Spelt whole h
  spelt_before [] rest s h r lead x le = subst (λ (t : List (List ℕ)). Spelt t h) (reads_one input [] rest whole end r w (omega (arith, le))).0 x
  spelt_before (text ∷ more) rest s h r lead x le = elim (cases_eq (length (text ∷ more)) (length whole)) [
    | inl many ↦ subst (λ (t : List (List ℕ)). Spelt t h) (reads_one input (text ∷ more) rest whole end r w many).0 x
    | inr ne ↦ by lead (λ older shorter. spelt_before more r.0 s h r.1 older shorter (omega (arith, le, ne))) (omega (arith, le, ne))
  ]
    where
      by : LeadsToStage (text ∷ more) s → (LeadsToStage more s → Spelt more h → Spelt whole h) → length whole ≤ length more → Spelt whole h
      by (inl y) before le = before y.1 (unskipped text more h y.0 x)
      by (inr y) before le = absurd (ended_none y.2 s y.1 (ended text more rest y.2 r y.3 le) y.5)

-- a line that is carried out is no burst and no drain
plain : (line : Line) → is_carried line ≡ true → is_burst_or_drain line ≡ false
plain Burst carried = cc
plain line carried = cc

plain_lines : (h : List Turn) → AreCarried h → AllByRecursion (λ (t : Turn). is_burst_or_drain t.entry.line ≡ false) h
plain_lines [] carried = tt
plain_lines (t ∷ h) carried = (plain t.entry.line carried.0, plain_lines h carried.1)

-- where one of two runs has read fewer lines, both have carried out the same
fewer_lines : (input : List ℕ) (a b : Ending) (out out' : List ℕ) (p : IsRun input a out) (q : IsRun input b out') → length p.texts < length q.texts → map line_of p.history ≡ map line_of q.history
fewer_lines input a b out out' p q less =
    let done : a ≡ Done = (fewer input a b out out' p q less).0 in
    let at_end : IsEnd p.stage p.rest = (subst (λ (e : Ending). Stops (length p.texts) (entries p.history) p.stage p.chain p.used p.rest e out) done p.stops).0 in
    one_lines p.texts p.history q.history p.spelt
    (spelt_before input p.texts p.rest p.stage p.reads (lead input a out p) at_end q.texts q.rest q.stage (map own_entry q.history) q.reads (lead input b out' q) q.spelt (omega (arith, less)))

module _ (outcome : RunsHaveOneOutcome) (input : List ℕ) (a b : Ending) (out out' : List ℕ) (p : IsRun input a out) (q : IsRun input b out') where
  same_lines : map line_of p.history ≡ map line_of q.history
  same_lines = elim (cases_lt (length p.texts) (length q.texts)) [
    | inl less ↦ fewer_lines input a b out out' p q less
    | inr more ↦ elim (cases_eq (length p.texts) (length q.texts)) [
      | inl many ↦ one_lines q.texts p.history q.history (subst (λ (t : List (List ℕ)). Spelt t (map own_entry p.history)) (reads_one input p.texts p.rest q.texts q.rest p.reads q.reads many).0 p.spelt) q.spelt
      | inr ne ↦ sym (fewer_lines input b a out' out q p (omega arith))
    ]
  ]

  abbrev h : List Entry
  h = entries p.history

  abbrev g : List Entry
  g = entries q.history

  same : (h ≡ g) × (p.chain.tables ≡ q.chain.tables)
  same =
      let one = outcome p.history q.history p.stage q.stage p.chain q.chain p.leads q.leads same_lines (plain_lines p.history p.carried) in
      (one.0, one.2.tables)

  same_trace : trace h ≡ trace g
  same_trace = ap trace same.0

  behind : (last last' : List ℕ) → last ≡ last' → out ≡ trace h ++ last → out' ≡ trace g ++ last' → out ≡ out'
  behind last last' e x y = x ∙ (ap (λ (l : List ℕ). l ++ last) same_trace ∙ (ap (λ (l : List ℕ). trace g ++ l) e ∙ sym y))

  text : (x y : Ending) → x ≡ y → (x ≢ Done → length p.texts ≡ length q.texts) → Stops (length p.texts) h p.stage p.chain p.used p.rest x out → Stops (length q.texts) g q.stage q.chain q.used q.rest y out'
      → out ≡ out'
  text Done Done e many s t = behind (last_text p.chain.tables h) (last_text q.chain.tables g)
      (ap (λ (u : Contents). last_text u h) same.1 ∙ ap (last_text q.chain.tables) same.0) s.1 t.1
  text (Bad why) (Bad other) e many s t = behind (bad_text (length p.texts + 1) (reason_text why)) (bad_text (length q.texts + 1) (reason_text other))
      (ap (λ (n : ℕ). bad_text (n + 1) (reason_text why)) (many (λ done. absurd cc)) ∙ ap (λ (r : Reason). bad_text (length q.texts + 1) (reason_text r)) (same_reason why other e)) s.2 t.2
    where
      same_reason : (r q : Reason) → (let x : Ending = Bad r in x) ≡ Bad q → r ≡ q
      same_reason r q e = cc
  text Later Later e many s t = behind _ _ (ap (λ (n : ℕ). bad_text (n + 1) (codes "later")) (many (λ done. absurd cc))) s.4 t.4
  text TooLong TooLong e many s t = behind too_long_text too_long_text refl s.2 t.2
  text x y e many s t = absurd cc

  pub one_text_of : out ≡ out'
  one_text_of =
      let ends = one_ending input a b out out' p q in
      text a b ends.0 (λ ne. ap length (ends.1 ne)) p.stops q.stops

pub one_text : RunsHaveOneOutcome → OneText
one_text outcome input a b out out' p q = one_text_of outcome input a b out out' p q
