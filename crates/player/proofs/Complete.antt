-- A run over a script of the grammar comes to its end.
use Rattle.std.proofs.Common.{◌≡◌, ◌⊎◌, ℕ, ◌+◌, ◌<◌, ◌≤◌, true, false, List, [], ◌∷◌, length, get_or, map, take, drop, cond, Option, Some, Result, Ok, Err, refl, sym, ◌∙◌, ap, subst, arith, inl, inr, length-append, length-take-le}
use Rattle.std.proofs.lemmas.Bool.{cases_eq, cases_lt, false≢true}
use Rattle.std.proofs.lemmas.List.{get_or-take}
use Rattle.std.proofs.Math.Seq.{take-append_seam, take-length, drop-append-add, get_or-append_seam}
use Rattle.std.proofs.Math.ListN.{drop_of_length-le}
use Rattle.bearer_map.specs.declared.rows.TableFault.{TableFault}
use Rattle.script_text.specs.declared.line.Line.{Line}
use Rattle.script_text.specs.declared.line.Line.TheVariants.{Version}
use Rattle.script_text.specs.declared.reason.Reason.{Reason}
use Rattle.script_text.specs.declared.reason.Reason.TheVariants as reason
use Rattle.script_text.specs.declared.reason.LineFault.{LineFault}
use Rattle.script_text.specs.declared.reason.LineFault.TheVariants as fault
use Rattle.script_text.specs.declared.stage.ScriptStage.{ScriptStage}
use Rattle.script_text.specs.Words.{words_of}
use Rattle.script_text.specs.Lines.{is_skipped, part_of, Spells}
use Rattle.script_text.specs.Splits.{HasNoLf, Splits, IsLong, IsTooLong}
use Rattle.script_text.specs.Stages.{after}
use Rattle.script_text.specs.Grammar.{IsBad, IsFirstReason, Parses, reasons}
use Rattle.script_text.specs.Texts.{is_running}
use Rattle.script_text.specs.History.{Entry, ReadsLines, Spelt}
use Rattle.script_text.proofs.OneLine.{one_line}
use Rattle.script_text.proofs.OneParse.{one_parse}
use Rattle.script_text.proofs.SpeltIsRead.{spelt_is_read}
use Rattle.chain_model.specs.Runs.{Turn, entries, Stands, LeadsTo}
use Rattle.chain_model.specs.State.{Chain}
use Rattle.player.specs.declared.play.Ending.{Ending}
use Rattle.player.specs.declared.play.Ending.TheVariants.{Done, Later, Bad, TooLong}
use Rattle.player.specs.Carried.{is_carried}
use Rattle.player.specs.Plays.{AreCarried, IsLater}
use Rattle.player.specs.Ended.{is_ended}
use Rattle.player.specs.Runs.{IsBadNext, Stops, LeadsToStage, ScriptsEnd, own_entry}

-- a line is the front of the bytes that it splits off
line_is : (bytes line after : List ℕ) → Splits bytes line after → take (length line) bytes ≡ line
line_is bytes line after s = elim s.ends [
  | inl lf ↦ ap (λ (l : List ℕ). take (length line) l) lf ∙ take-append_seam line (10 ∷ after)
  | inr end ↦ ap (λ (l : List ℕ). take (length line) l) end.0 ∙ take-length line
]

-- what stands behind a line is the bytes without it and its LF
after_is : (bytes line after : List ℕ) → Splits bytes line after → drop (length line + 1) bytes ≡ after
after_is bytes line after s = elim s.ends [
  | inl lf ↦ ap (λ (l : List ℕ). drop (length line + 1) l) lf ∙ drop-append-add line (10 ∷ after) 1
  | inr end ↦ ap (λ (l : List ℕ). drop (length line + 1) l) end.0 ∙ (drop_of_length-le line (omega arith) ∙ sym end.1)
]

-- a front without an LF goes no further than the line
within_line : (bytes line after : List ℕ) (n : ℕ) → Splits bytes line after → n ≤ length bytes → HasNoLf (take n bytes) → n ≤ length line
within_line bytes line after n s le none = elim (cases_lt (length line) n) [
  | inl lt ↦ elim s.ends [
    | inl lf ↦
        let here : length line < length (take n bytes) = omega (arith, length-take-le n bytes le) in
        let at : get_or (take n bytes) (length line) 0 ≡ 10 = get_or-take n bytes (length line) 0 lt ∙ (ap (λ (l : List ℕ). get_or l (length line) 0) lf ∙ get_or-append_seam line 10 after 0) in
        absurd (none (length line) here at)
    | inr end ↦ omega (arith, ap length end.0)
  ]
  | inr ge ↦ ge
]

-- a line is no longer than another that the same bytes split off
not_longer : (bytes a x b y : List ℕ) → Splits bytes a x → Splits bytes b y → length b ≤ length a
not_longer bytes a x b y s t =
    let le : length b ≤ length bytes = elim t.ends [
      | inl lf ↦ omega (arith, ap length lf, length-append b (10 ∷ y))
      | inr end ↦ omega (arith, ap length end.0)
    ] in
    within_line bytes a x (length b) s le (subst HasNoLf (sym (line_is bytes b y t)) t.one)

-- bytes split off one line
pub splits_one : (bytes a x b y : List ℕ) → Splits bytes a x → Splits bytes b y → (a ≡ b) × (x ≡ y)
splits_one bytes a x b y s t =
    let ge = not_longer bytes a x b y s t in
    let le = not_longer bytes b y a x t s in
    let same : length a ≡ length b = omega arith in (
      sym (line_is bytes a x s) ∙ (ap (λ (n : ℕ). take n bytes) same ∙ line_is bytes b y t),
      sym (after_is bytes a x s) ∙ (ap (λ (n : ℕ). drop (n + 1) bytes) same ∙ after_is bytes b y t),
    )

-- no line splits off where no byte is left
pub splits_none : (bytes line after : List ℕ) → bytes ≡ [] → Splits bytes line after → ⊥
splits_none bytes line after none s = elim s.ends [
  | inl lf ↦ omega (arith, ap length none, ap length lf, length-append line (10 ∷ after))
  | inr end ↦ omega (arith, ap length none, ap length end.0, end.2)
]

-- as many lines of an input are the same lines
pub reads_one : (input : List ℕ) (texts : List (List ℕ)) (rest : List ℕ) (texts' : List (List ℕ)) (rest' : List ℕ) → ReadsLines input texts rest → ReadsLines input texts' rest' → length texts ≡ length texts'
    → (texts ≡ texts') × (rest ≡ rest')
reads_one input [] rest [] rest' r r' many = (refl, r ∙ sym r')
reads_one input [] rest (t ∷ texts') rest' r r' many = absurd (omega arith)
reads_one input (t ∷ texts) rest [] rest' r r' many = absurd (omega arith)
reads_one input (t ∷ texts) rest (t' ∷ texts') rest' r r' many =
    let older = reads_one input texts r.0 texts' r'.0 r.1 r'.1 (omega arith) in
    let one = splits_one r'.0 t rest t' rest' (subst (λ (l : List ℕ). Splits l t rest) older.1 r.2) r'.2 in
    let same : t ∷ texts ≡ t' ∷ texts' = cc (older.0, one.0) in
    (same, one.1)

-- what leads on leads to one stage
same_stage : (a b : ScriptStage) → (let r : Result ScriptStage TableFault = Ok a in r) ≡ Ok b → a ≡ b
same_stage a b e = cc

-- lines lead to one stage
pub leads_one : (texts : List (List ℕ)) (s t : ScriptStage) → LeadsToStage texts s → LeadsToStage texts t → s ≡ t
leads_one [] s t x y = x ∙ sym y
leads_one (text ∷ texts) s t (inl x) (inl y) = leads_one texts s t x.1 y.1
leads_one (text ∷ texts) s t (inl x) (inr y) = absurd (false≢true (sym y.0 ∙ x.0))
leads_one (text ∷ texts) s t (inr x) (inl y) = absurd (false≢true (sym x.0 ∙ y.0))
leads_one (text ∷ texts) s t (inr x) (inr y) =
    let before = leads_one texts x.2 y.2 x.3 y.3 in
    let line = one_line (words_of text) x.1 y.1 x.4 y.4 in
    same_stage s t (sym x.5.enters ∙ (ap (λ (u : ScriptStage). after u x.1) before ∙ (ap (λ (l : Line). after y.2 l) line ∙ y.5.enters)))

-- the lines of a history lead to its stage
pub leads_of : (texts : List (List ℕ)) (h : List Turn) (stage : ScriptStage) (c : Chain) → Spelt texts (map own_entry h) → LeadsTo h stage c → AreCarried h → LeadsToStage texts stage
leads_of [] [] stage c x l p = l.0
leads_of [] (t ∷ h) stage c x l p = absurd x
leads_of (text ∷ texts) [] stage c x l p = inl (x.0, leads_of texts [] stage c x.1 l p)
leads_of (text ∷ texts) (t ∷ h) stage c (inl x) l p = inl (x.0, leads_of texts (t ∷ h) stage c x.1 l p)
leads_of (text ∷ texts) (t ∷ h) stage c (inr x) l p = inr (x.0, t.entry.line, l.0, leads_of texts h l.0 l.1 x.2 l.2 p.1, x.1, l.3, p.0)

-- lines without their newest lead to a stage too
older_lead : (text : List ℕ) (texts : List (List ℕ)) (s : ScriptStage) → LeadsToStage (text ∷ texts) s → (before : ScriptStage) × LeadsToStage texts before
older_lead text texts s (inl x) = (s, x.1)
older_lead text texts s (inr x) = (x.2, x.3)

-- no line has its place behind the end line
pub never_ended : (line : Line) → is_ended (part_of line) ≡ false
never_ended (Version n) = refl
never_ended line = refl

pub ended_none : (s t : ScriptStage) (line : Line) → is_ended s.part ≡ true → Stands s line t → ⊥
ended_none s t line is x = false≢true (sym (never_ended line) ∙ (ap is_ended x.part ∙ is))

-- behind an ended stage the stage stays ended
stays_ended : (text : List ℕ) (texts : List (List ℕ)) (s : ScriptStage) → ((before : ScriptStage) → LeadsToStage texts before → is_ended before.part ≡ true) → LeadsToStage (text ∷ texts) s → is_ended s.part ≡ true
stays_ended text texts s ended (inl x) = ended s x.1
stays_ended text texts s ended (inr x) = absurd (ended_none x.2 s x.1 (ended x.2 x.3) x.5)

-- a script may end at this stage with this rest left
abbrev pub IsEnd : ScriptStage → List ℕ → Type 0
IsEnd stage rest = (is_ended stage.part ≡ true) ⊎ ((is_running stage.part ≡ true) × (rest ≡ []))

-- a line that follows a script's end follows its end line
pub ended_before : (rest text after : List ℕ) (s : ScriptStage) → IsEnd s rest → Splits rest text after → is_ended s.part ≡ true
ended_before rest text after s (inl ended) splits = ended
ended_before rest text after s (inr over) splits = absurd (splits_none rest text after over.1 splits)

-- more lines than a script has lead to an ended stage
pub past_end : (input : List ℕ) (texts : List (List ℕ)) (rest : List ℕ) (s : ScriptStage) (whole : List (List ℕ)) (end : List ℕ) (last : ScriptStage) → ReadsLines input texts rest → ReadsLines input whole end → LeadsToStage texts s → LeadsToStage whole last
    → IsEnd last end → length whole < length texts → is_ended s.part ≡ true
past_end input [] rest s whole end last r w l m is more = absurd (omega arith)
past_end input (text ∷ texts) rest s whole end last r w l m is more = stays_ended text texts s (λ before x.
    elim (cases_eq (length texts) (length whole)) [
      | inl many ↦
          let same = reads_one input texts r.0 whole end r.1 w many in
          let ended = ended_before r.0 text rest last (subst (λ (b : List ℕ). IsEnd last b) (sym same.1) is) r.2 in
          ap (λ (s : ScriptStage). is_ended s.part) (leads_one whole before last (subst (λ (t : List (List ℕ)). LeadsToStage t before) same.0 x) m) ∙ ended
      | inr ne ↦ past_end input texts r.0 before whole end last r.1 w x m is (omega arith)
    ]) l

-- the script has a line behind these, which stands where it may
pub record GoesOn (input : List ℕ) (texts : List (List ℕ)) (rest : List ℕ) : Type 0 where
  pub text : List ℕ
  pub after : List ℕ
  pub stage : ScriptStage
  pub splits : Splits rest text after
  pub short : length text ≤ 65536
  pub limit : length input ≤ 16777216 + length after
  pub leads : LeadsToStage (text ∷ texts) stage

-- fewer lines than a script has go on in it
pub goes_on : (input : List ℕ) (texts : List (List ℕ)) (rest : List ℕ) (whole : List (List ℕ)) (end : List ℕ) (last : ScriptStage) → ReadsLines input texts rest → ReadsLines input whole end → LeadsToStage whole last → length texts < length whole
    → GoesOn input texts rest
goes_on input texts rest [] end last r w l less = absurd (omega arith)
goes_on input texts rest (text ∷ whole) end last r w l less = elim (cases_eq (length texts) (length whole)) [
  | inl many ↦
      let same = reads_one input texts rest whole w.0 r w.1 many in
      record {
        text = text;
        after = end;
        stage = last;
        splits = subst (λ (b : List ℕ). Splits b text end) (sym same.1) w.2;
        short = w.3;
        limit = w.4;
        leads = subst (λ (t : List (List ℕ)). LeadsToStage (text ∷ t) last) (sym same.0) l;
      }
  | inr ne ↦
      let older = older_lead text whole last l in
      goes_on input texts rest whole w.0 older.0 r w.1 older.1 (omega arith)
]

-- a line of at most 65,536 bytes isn't long
pub long_stops : (used : ℕ) (rest text after : List ℕ) → Splits rest text after → length text ≤ 65536 → IsLong used rest → ⊥
long_stops used rest text after splits short long =
    let past = within_line rest text after 65537 splits long.enough long.one in
    omega arith

-- a line that ends in time isn't too long
pub too_long_stops : (used : ℕ) (rest text after : List ℕ) → Splits rest text after → used + length rest ≤ 16777216 + length after → IsTooLong used rest → ⊥
too_long_stops used rest text after splits within long =
    let past = within_line rest text after long.left splits (omega (arith, long.past, long.place)) long.one in
    elim splits.ends [
      | inl lf ↦ omega (arith, ap length lf, length-append text (10 ∷ after), long.place)
      | inr end ↦ omega (arith, ap length end.1, long.past)
    ]

-- the answers of reading are apart
no_want_bad : (why : Reason) → (let r : Result (Option Line) LineFault = Err (fault.Bad why) in r) ≡ Err fault.Memory → ⊥
no_want_bad why e = absurd cc

no_want_good : (line : Line) → (let r : Result (Option Line) LineFault = Ok (Some line) in r) ≡ Err fault.Memory → ⊥
no_want_good line e = absurd cc

bad_or_good : (why : Reason) (line : Line) → (let r : Result (Option Line) LineFault = Err (fault.Bad why) in r) ≡ Ok (Some line) → ⊥
bad_or_good why line e = absurd cc

-- a text that leads on from a stage is bad there for no reason
module _ (texts : List (List ℕ)) (text : List ℕ) (s t : ScriptStage) (short : length text ≤ 65536) (l : LeadsToStage texts s) where
  -- it is read as the line that it leads on with
  read_so : (skip : is_skipped text ≡ false) (line : Line) (before : ScriptStage) → LeadsToStage texts before → Spells (words_of text) line → Stands before line t → Parses s text (Ok (Some line)) t
  read_so skip line before older spelt stands =
      let same = leads_one texts before s older l in
      subst (λ (u : ScriptStage). Parses u text (Ok (Some line)) t) same (spelt_is_read before t text line short (record { stands = stands.part; spelt = spelt }) stands.enters)

  not_bad : (why : Reason) → LeadsToStage (text ∷ texts) t → IsFirstReason (IsBad s text) (reasons text) why → ⊥
  not_bad why (inl x) first = only_long (subst (λ b. IsFirstReason (IsBad s text) (cond b (reason.Line ∷ []) (reason.Line ∷ reason.Text ∷ reason.Version ∷ reason.Word ∷ reason.Form ∷ reason.Range ∷ reason.Twice ∷ reason.Unknown ∷ reason.Limit ∷ reason.Map ∷ [])) why) x.0 first)
    where
      only_long : IsFirstReason (IsBad s text) (reason.Line ∷ []) why → ⊥
      only_long (inl y) = omega (arith, short, y.1)
      only_long (inr y) = y.1
  not_bad why (inr x) first =
      let read = read_so x.0 x.1 x.2 x.3 x.4 x.5 in
      bad_or_good why x.1 (one_parse s s t text (Err (fault.Bad why)) (Ok (Some x.1)) (no_want_bad why) (no_want_good x.1) (first, refl) read).0

  not_later : LeadsToStage (text ∷ texts) t → IsLater s text → ⊥
  not_later (inl x) later = false≢true (sym (spelt_is_read s later.next text later.line short later.is_line later.enters).0 ∙ x.0)
  not_later (inr x) later =
      let line = one_line (words_of text) later.line x.1 later.is_line.spelt x.4 in
      false≢true (sym later.not_carried ∙ (ap is_carried line ∙ x.6))

-- a run doesn't stop where the script goes on
module _ (input : List ℕ) (texts : List (List ℕ)) (h : List Entry) (stage : ScriptStage) (c : Chain) (used : ℕ) (rest : List ℕ) (place : used + length rest ≡ length input) (l : LeadsToStage texts stage) (g : GoesOn input texts rest) where
  goes_on_well : (why : Reason) → IsBadNext stage used rest why → ⊥
  goes_on_well reason.Line x = long_stops used rest g.text g.after g.splits g.short x
  goes_on_well reason.End x = splits_none rest g.text g.after x.1 g.splits
  goes_on_well why x =
      let same = splits_one rest x.0 x.1.0 g.text g.after x.1.1 g.splits in
      not_bad texts g.text stage g.stage g.short l why g.leads (subst (λ (t : List ℕ). IsFirstReason (IsBad stage t) (reasons t) why) same.0 x.2)

  pub going_on_done : (ending : Ending) (out : List ℕ) → Stops (length texts) h stage c used rest ending out → ending ≡ Done
  going_on_done Done out x = refl
  going_on_done (Bad why) out x = absurd (goes_on_well why x.1)
  going_on_done Later out x =
      let same = splits_one rest x.1 x.2.0 g.text g.after x.2.1 g.splits in
      absurd (not_later texts g.text stage g.stage g.short l g.leads (subst (IsLater stage) same.0 x.3))
  going_on_done TooLong out x = absurd (too_long_stops used rest g.text g.after g.splits (omega (arith, place, g.limit)) x.1)

-- the last of the lines that lead behind go ends in time
ends_in_time : (input : List ℕ) (texts : List (List ℕ)) (rest : List ℕ) (s : ScriptStage) → ReadsLines input texts rest → LeadsToStage texts s → is_running s.part ≡ true → length input ≤ 16777216 + length rest
ends_in_time input [] rest s r l is = absurd (false≢true (sym (ap (λ (u : ScriptStage). is_running u.part) l) ∙ is))
ends_in_time input (text ∷ texts) rest s r l is = r.4

-- behind go, at the input's end, a run comes to its end
module _ (input : List ℕ) (texts : List (List ℕ)) (h : List Entry) (stage : ScriptStage) (c : Chain) (used : ℕ) (rest : List ℕ) (place : used + length rest ≡ length input) (l : LeadsToStage texts stage) (running : is_running stage.part ≡ true)
    (none : rest ≡ []) where
  over_well : (why : Reason) → IsBadNext stage used rest why → ⊥
  over_well reason.Line x = omega (arith, ap length none, x.enough)
  over_well reason.End x = false≢true (sym x.0 ∙ running)
  over_well why x = splits_none rest x.0 x.1.0 none x.1.1

  pub over_stops : (ending : Ending) (out : List ℕ) → ReadsLines input texts rest → Stops (length texts) h stage c used rest ending out → ending ≡ Done
  over_stops Done out r x = refl
  over_stops (Bad why) out r x = absurd (over_well why x.1)
  over_stops Later out r x = absurd (splits_none rest x.1 x.2.0 none x.2.1)
  over_stops TooLong out r x =
      let limit = ends_in_time input texts rest stage r l running in
      absurd (omega (arith, ap length none, x.1.past))

-- behind an end line too
pub ended_stops : (lines : ℕ) (h : List Entry) (stage : ScriptStage) (c : Chain) (used : ℕ) (rest : List ℕ) (ending : Ending) (out : List ℕ) → is_ended stage.part ≡ true → Stops lines h stage c used rest ending out → ending ≡ Done
ended_stops lines h stage c used rest Done out is x = refl
ended_stops lines h stage c used rest (Bad why) out is x = absurd (false≢true (sym x.0 ∙ is))
ended_stops lines h stage c used rest Later out is x = absurd (false≢true (sym x.0 ∙ is))
ended_stops lines h stage c used rest TooLong out is x = absurd (false≢true (sym x.0 ∙ is))

pub scripts_end : ScriptsEnd
scripts_end input ending out run script =
    let leads : LeadsToStage run.texts run.stage = leads_of run.texts run.history run.stage run.chain run.spelt run.leads run.carried in
    elim (cases_lt (length run.texts) (length script.texts)) [
      | inl less ↦ going_on_done input run.texts (entries run.history) run.stage run.chain run.used run.rest run.place leads (goes_on input run.texts run.rest script.texts script.rest script.stage run.reads script.reads script.leads less) ending out run.stops
      | inr more ↦ elim (cases_eq (length run.texts) (length script.texts)) [
        | inl many ↦
            let same = reads_one input run.texts run.rest script.texts script.rest run.reads script.reads many in
            let stage : script.stage ≡ run.stage = leads_one script.texts script.stage run.stage script.leads (subst (λ (t : List (List ℕ)). LeadsToStage t run.stage) same.0 leads) in
            elim script.ends [
              | inl ended ↦ ended_stops (length run.texts) (entries run.history) run.stage run.chain run.used run.rest ending out (ap (λ (u : ScriptStage). is_ended u.part) (sym stage) ∙ ended) run.stops
              | inr over ↦ over_stops input run.texts (entries run.history) run.stage run.chain run.used run.rest run.place leads (ap (λ (u : ScriptStage). is_running u.part) (sym stage) ∙ over.0) (same.1 ∙ over.1) ending out run.reads run.stops
            ]
        | inr ne ↦ ended_stops (length run.texts) (entries run.history) run.stage run.chain run.used run.rest ending out
            (past_end input run.texts run.rest run.stage script.texts script.rest script.stage run.reads script.reads leads script.leads script.ends (omega arith)) run.stops
      ]
    ]
