-- What holds of each run of the chain, on every path.
use Rattle.std.specs.Prelude.{◌≡◌, ◌⊎◌, ◌↔◌, ℕ, ◌+◌, ◌<◌, ◌≤◌, true, false, List, [], ◌∷◌, ◌++◌, length, map, take, None}
use Rattle.std.specs.List.{AllByRecursion}
use Rattle.link_base.specs.declared.names.SnSize.{SnSize}
use Rattle.link_base.specs.declared.names.Key.{Key}
use Rattle.bearer_map.specs.declared.rows.RemoteRow.{RemoteRow}
use Rattle.bearer_map.specs.declared.rows.BearerRow.{BearerRow}
use Rattle.bearer_map.specs.Contents.{Contents}
use Rattle.pdcp_model.specs.declared.answers.PdcpHeard.{PdcpHeard}
use Rattle.pdcp_model.specs.Sender.{kept_at, submitted as accepted_by, confirmed as confirmed_by, is_reported}
use Rattle.pdcp_model.specs.Receiver.{Receiver, rx_deliv, Hears, IsReport}
use Rattle.pdcp_model.specs.HandUp.{Hearing, IsCount, IsHeard, HandUp, HasHeard}
use Rattle.script_text.specs.declared.stage.ScriptStage.{ScriptStage}
use Rattle.script_text.specs.History.{Entry}
use Rattle.node_model.specs.Names.{NodeName, AtRemote, AtRelay, AtGnb, is_node}
use Rattle.node_model.specs.Tables.{first_count}
use Rattle.node_model.specs.Places.{node_name}
use Rattle.chain_model.specs.State.{Chain, sender_at, receiving_at}
use Rattle.chain_model.specs.Draining.{Moment}
use Rattle.chain_model.specs.Runs.{Turn, entries, LeadsTo}
use Rattle.chain_model.specs.Book.{submitted, handed, confirmed, IsBook}
use Rattle.chain_model.specs.Carried.{IsRowOf}
use Rattle.chain_model.specs.Places.{HasSender, HasReceiver}
use Rattle.book_law.specs.Past.{Goes, IsPast}
use Rattle.book_law.specs.Hearings.{HearsEach}
use Rattle.book_law.specs.Confirmations.{ConfirmsBy}
use Rattle.book_law.specs.Kept.{KeepsSdus, AnswersEach, RaisesEach}
use Rattle.book_law.specs.Honest.{HasCount, AreHonest}

-- a run is that of lines carried out one behind another from the chain that its tables open
abbrev pub EachRunIsPast : Type 0
EachRunIsPast = (h : List Turn) (stage : ScriptStage) (c : Chain) → LeadsTo h stage c → IsPast (entries h) c

-- the name of a remote's node
abbrev pub remote_name : RemoteRow → NodeName
remote_name row = AtRemote row.remote

-- no name stands twice
abbrev pub AreApart : List NodeName → Type 0
AreApart [] = Unit {0}
AreApart (name ∷ names) = AllByRecursion (λ other. is_node name other ≡ false) names × AreApart names

-- the tables stay those with which the chain was opened
abbrev pub TablesStay : Type 0
TablesStay = (h : List Entry) (c : Chain) (past : IsPast h c) → c.tables ≡ past.tables

-- the chain has a node for each remote of its tables, the relay and the gNB, and no two of one name
pub record HasEachNode (t : Contents) (c : Chain) : Type 0 where
  pub names : map node_name c.nodes ≡ map remote_name t.remotes ++ AtRelay ∷ AtGnb ∷ []
  pub apart : AreApart (map node_name c.nodes)

-- so it has behind each line
abbrev pub NodesStay : Type 0
NodesStay = (h : List Entry) (c : Chain) (past : IsPast h c) → HasEachNode past.tables c

-- this holds of both keys of each bearer behind each line, those of a drain among them
abbrev pub OfEachLine : (List Entry → Chain → BearerRow → Key → Type 0) → Type 0
OfEachLine Holds = (h : List Entry) (c : Chain) → IsPast h c → (row : BearerRow) (key : Key) → IsRowOf c.tables key row → Holds h c row key

-- this holds of them behind each run
abbrev pub OfEachRun : (List Entry → Chain → BearerRow → Key → Type 0) → Type 0
OfEachRun Holds = (h : List Turn) (stage : ScriptStage) (c : Chain) → LeadsTo h stage c → (row : BearerRow) (key : Key) → IsRowOf c.tables key row → Holds (entries h) c row key

-- the chain has both ends of the key
abbrev pub HasBothEnds : List Entry → Chain → BearerRow → Key → Type 0
HasBothEnds h c row key = HasSender c key × HasReceiver c key

-- the sender has accepted what the book has as submitted, and keeps of it what isn't confirmed; and each submission was answered so
abbrev pub KeepsBook : List Entry → Chain → BearerRow → Key → Type 0
KeepsBook h c row key = KeepsSdus row key.way (submitted key h) (sender_at c key) × AnswersEach row key h

-- the confirmed number of the book is that of the sender, and each event of it raised it
abbrev pub TellsConfirmed : List Entry → Chain → BearerRow → Key → Type 0
TellsConfirmed h c row key = (confirmed key h ≡ confirmed_by (sender_at c key)) × RaisesEach key h

-- what the book has as handed up is what the receiver handed up of the data PDUs that it heard by these lines
pub record TellsHandUps (moments : List Moment) (h : List Entry) (c : Chain) (row : BearerRow) (key : Key) : Type 0 where
  pub hearings : List Hearing
  pub each : HearsEach key moments hearings
  pub heard : HasHeard row.pdcp (first_count row key.way) hearings (handed key h) (receiving_at c key).receiver
  pub hand_up : HandUp row.pdcp (first_count row key.way) hearings (handed key h)
  pub number : (receiving_at c key).receiver.handed ≡ length (handed key h)

-- behind each line it is
abbrev pub HandUpsAreTold : Type 0
HandUpsAreTold = (h : List Entry) (c : Chain) (past : IsPast h c) (row : BearerRow) (key : Key) → IsRowOf c.tables key row → TellsHandUps past.moments h c row key

-- so it is behind each run
abbrev pub RunsTellHandUps : Type 0
RunsTellHandUps = (h : List Turn) (stage : ScriptStage) (c : Chain) → LeadsTo h stage c
    → (past : IsPast (entries h) c) × ((row : BearerRow) (key : Key) → IsRowOf c.tables key row → TellsHandUps past.moments (entries h) c row key)

-- behind a line an SDU isn't kept any more that was accepted: it wasn't before, or its COUNT is confirmed by the line
abbrev pub ConfirmationsHaveACause : Type 0
ConfirmationsHaveACause =
    (h : List Entry) (old : Chain) → IsPast h old → (e : Entry) (new : Chain) → Goes old e new → (row : BearerRow) (key : Key) → IsRowOf old.tables key row
    → (n : ℕ) → n < accepted_by (sender_at new key) → kept_at (sender_at new key) n ≡ None
    → ((n < accepted_by (sender_at old key)) × (kept_at (sender_at old key) n ≡ None)) ⊎ ConfirmsBy key (record { before = old; entry = e }) (first_count row key.way + n)

-- a receiving side has a COUNT exactly where it was heard
abbrev pub HasWhatWasHeard : Type 0
HasWhatWasHeard = (size : SnSize) (first : ℕ) (hs : List Hearing) (sdus : List (List ℕ)) (r : Receiver) → HasHeard size first hs sdus r
    → (count : ℕ) → first ≤ count → HasCount r count ↔ IsHeard size first hs count

-- one that hears one more data PDU has the COUNTs that it had, and the one of that PDU
abbrev pub HearingKeepsCounts : Type 0
HearingKeepsCounts = (size : SnSize) (first : ℕ) (hs : List Hearing) (sdus : List (List ℕ)) (r : Receiver) → HasHeard size first hs sdus r
    → (h : Hearing) (answer : PdcpHeard) (new : Receiver) → Hears r h.sn h.sdu answer new
    → (count : ℕ) → first ≤ count → HasCount r count ⊎ IsCount size first h.sn (rx_deliv r) count → HasCount new count

-- its status report tells which COUNTs it has
abbrev pub ReportsTellCounts : Type 0
ReportsTellCounts = (size : SnSize) (first : ℕ) (hs : List Hearing) (sdus : List (List ℕ)) (r : Receiver) → HasHeard size first hs sdus r
    → (fmc : ℕ) (bits : List ℕ) → IsReport r fmc bits → (count : ℕ) → first ≤ count → (is_reported fmc bits count ≡ true) ↔ HasCount r count

-- what was handed up is what was submitted, in order from the first, and what is confirmed was handed up
pub record HandsUpInOrder (h : List Entry) (key : Key) : Type 0 where
  pub in_order : handed key h ≡ take (length (handed key h)) (submitted key h)
  pub few : length (handed key h) ≤ length (submitted key h)
  pub confirmed_few : confirmed key h ≤ length (handed key h)

-- a run that is honest to a key keeps its book
abbrev pub HonestRunKeepsBook : Type 0
HonestRunKeepsBook =
    (h : List Entry) (c : Chain) (past : IsPast h c) (row : BearerRow) (key : Key) → IsRowOf c.tables key row → AreHonest row key past.declared past.moments
    → IsBook row key h × HandsUpInOrder h key

-- so does each such run of a script
abbrev pub HonestRunsKeepBook : Type 0
HonestRunsKeepBook = (h : List Turn) (stage : ScriptStage) (c : Chain) → LeadsTo h stage c
    → (past : IsPast (entries h) c)
    × ((row : BearerRow) (key : Key) → IsRowOf c.tables key row → AreHonest row key past.declared past.moments → IsBook row key (entries h) × HandsUpInOrder (entries h) key)
