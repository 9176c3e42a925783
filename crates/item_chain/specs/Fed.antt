-- The ends are fed: what they have to give has no room, and where a ghost stands for a chain each status report can tell of all that is stored.
use Rattle.std.specs.Prelude.{◌≡◌, ◌⊎◌, ◌&&◌, true, false, List, Some}
use Rattle.link_base.specs.declared.names.Key.{Key}
use Rattle.bearer_map.specs.Contents.{Contents}
use Rattle.pdcp_model.specs.Receiver.{can_report}
use Rattle.pdcp_model.specs.Sender.{has_next}
use Rattle.script_text.specs.declared.event.Event.{Event}
use Rattle.script_text.specs.declared.line.Line.{Line}
use Rattle.script_text.specs.declared.reply.Reply.{Reply}
use Rattle.script_text.specs.declared.stage.ScriptStage.{ScriptStage}
use Rattle.script_text.specs.History.{Entry}
use Rattle.node_model.specs.Feeding.{has_room, wants_report}
use Rattle.node_model.specs.Names.{NodeName, back}
use Rattle.node_model.specs.State.{Incoming, Node, outgoing, incoming_at}
use Rattle.chain_model.specs.Runs.{Turn, LeadsTo}
use Rattle.chain_model.specs.State.{Chain, node_at}
use Rattle.chain_model.specs.Steps.{Step}
use Rattle.book_law.specs.Past.{IsPast}
use Rattle.item_chain.specs.View.{View}
use Rattle.item_chain.specs.Stands.{Ghost, Stands}

-- a status report about a key that is still to be given has no room; or it can't tell of all that is stored, and nobody asks for it any more
abbrev pub IsWithoutRoom : Contents → Node → Key → Incoming → Type 0
IsWithoutRoom t n key i = ((can_report i.receiver ≡ true) × (has_room t n (back key) ≡ false)) ⊎ ((can_report i.receiver ≡ false) × (i.wanted ≡ false))

-- a node is fed: of no key it has both an SDU to give and room for it, nor a status report to give and room for it
pub record IsFedNode (t : Contents) (n : Node) : Type 0 where
  pub data_pdus : (key : Key) → (has_next (outgoing n key).sender && has_room t n key) ≡ false
  pub reports : (key : Key) (i : Incoming) → incoming_at n key ≡ Some i → wants_report t n i ≡ true → IsWithoutRoom t n key i

-- each node of a chain is fed
abbrev pub IsFed : Chain → Type 0
IsFed c = (name : NodeName) → IsFedNode c.tables (node_at c name)

-- each line, with the feeding behind it, leaves a chain that is fed
abbrev pub StepsLeaveFed : Type 0
StepsLeaveFed = (old : Chain) (line : Line) (events : List Event) (reply : Reply) (new : Chain) → Step old line events reply new → IsFed new

-- in each run the chain is fed behind each line, those of a drain among them
abbrev pub PastsAreFed : Type 0
PastsAreFed = (h : List Entry) (c : Chain) → IsPast h c → IsFed c

-- so it is behind each run of a script
abbrev pub RunsAreFed : Type 0
RunsAreFed = (h : List Turn) (stage : ScriptStage) (c : Chain) → LeadsTo h stage c → IsFed c

-- where a ghost stands for a chain, the status report of each receiving end can tell of all that is stored
abbrev pub ReportsTellAll : Type 0
ReportsTellAll = (g : Ghost) (v : View) → Stands g v → (name : NodeName) (key : Key) (i : Incoming) → v.incoming name key ≡ Some i → can_report i.receiver ≡ true
