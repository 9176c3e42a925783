-- The book of a run: for each key what was submitted and accepted, what was handed up, and how much is confirmed. It knows no PDU.
use Rattle.std.specs.Prelude.{◌≡◌, ℕ, ◌+◌, ◌<◌, ◌≤◌, true, List, [], ◌∷◌, ◌++◌, length, take, cond, if◌then◌else◌}
use Rattle.link_base.specs.declared.names.Key.{Key}
use Rattle.script_text.specs.declared.line.Line.{Line}
use Rattle.script_text.specs.declared.line.Line.TheVariants.{Submit, Drain}
use Rattle.script_text.specs.declared.event.Event.{Event}
use Rattle.script_text.specs.declared.event.Event.TheVariants.{Up, Conf}
use Rattle.script_text.specs.declared.reply.Reply.{Reply}
use Rattle.script_text.specs.declared.reply.Reply.TheVariants.{Ok, OkNumber, Full}
use Rattle.script_text.specs.History.{Entry}
use Rattle.bearer_map.specs.declared.rows.BearerRow.{BearerRow}
use Rattle.link_base.specs.SequenceNumbers.{most_unconfirmed}
use Rattle.node_model.specs.Names.{is_key}
use Rattle.node_model.specs.Tables.{first_count}

-- the SDU of the key that a line had accepted
abbrev pub accepted : Key → Line → Reply → List (List ℕ)
accepted key (Submit of sdu) (OkNumber count) = if is_key of key then sdu ∷ [] else []
accepted key line reply = []

-- the SDUs of the key that were submitted and accepted, in order
abbrev pub submitted : Key → List Entry → List (List ℕ)
submitted key [] = []
submitted key (e ∷ h) = submitted key h ++ accepted key e.line e.reply

-- the SDUs of the key that events show
abbrev pub ups : Key → List Event → List (List ℕ)
ups key [] = []
ups key (Up of sdu ∷ events) = if is_key of key then sdu ∷ ups key events else ups key events
ups key (e ∷ events) = ups key events

-- the SDUs of the key that were handed up, in order
abbrev pub handed : Key → List Entry → List (List ℕ)
handed key [] = []
handed key (e ∷ h) = handed key h ++ ups key e.events

-- the confirmed number of the key that the last of these events tells
abbrev pub confirmed_by : Key → List Event → ℕ → ℕ
confirmed_by key [] before = before
confirmed_by key (Conf of n ∷ events) before = if is_key of key then confirmed_by key events n else confirmed_by key events before
confirmed_by key (e ∷ events) before = confirmed_by key events before

-- the confirmed number of the key
abbrev pub confirmed : Key → List Entry → ℕ
confirmed key [] = 0
confirmed key (e ∷ h) = confirmed_by key e.events (confirmed key h)

-- a submission of the key is answered by its COUNT, the first one of the bearer and as many more as were accepted before; or by the confirmed
-- number, where as many as may be are unconfirmed
abbrev pub AnswersSubmission : BearerRow → Key → List Entry → Line → Reply → Type 0
AnswersSubmission row key h (Submit of sdu) (OkNumber count) = is_key of key ≡ true → count ≡ first_count row key.way + length (submitted key h)
AnswersSubmission row key h (Submit of sdu) (Full n) = is_key of key ≡ true → (n ≡ confirmed key h) × (length (submitted key h) ≡ n + most_unconfirmed row.pdcp)
AnswersSubmission row key h line reply = Unit {0}

-- each event of a confirmed number raises it, to at most the number handed up
abbrev pub Confirms : Key → List Event → ℕ → ℕ → Type 0
Confirms key [] before handed_up = Unit {0}
Confirms key (Conf of n ∷ events) before handed_up = cond (is_key of key) ((before < n) × (n ≤ handed_up) × Confirms key events n handed_up) (Confirms key events before handed_up)
Confirms key (e ∷ events) before handed_up = Confirms key events before handed_up

-- behind a drain that is answered ok all that was submitted is handed up and confirmed
abbrev pub IsWhole : Key → List Entry → Line → Reply → Type 0
IsWhole key h Drain Ok = (handed key h ≡ submitted key h) × (confirmed key h ≡ length (submitted key h))
IsWhole key h line reply = Unit {0}

-- each line keeps the book of a key of this bearer: what is handed up is what was submitted, in order from the first
pub record Books (row : BearerRow) (key : Key) (h : List Entry) (e : Entry) : Type 0 where
  pub submission : AnswersSubmission row key h e.line e.reply
  pub hand_up : handed key (e ∷ h) ≡ take (length (handed key (e ∷ h))) (submitted key (e ∷ h))
  pub confirms : Confirms key e.events (confirmed key h) (length (handed key (e ∷ h)))
  pub whole : IsWhole key (e ∷ h) e.line e.reply

-- each line of a history keeps the book
abbrev pub IsBook : BearerRow → Key → List Entry → Type 0
IsBook row key [] = Unit {0}
IsBook row key (e ∷ h) = IsBook row key h × Books row key h e
