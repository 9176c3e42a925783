-- What a chain's calls rely on, whatever line comes next.
use Rattle.std.specs.Prelude.{List}
use Rattle.script_text.specs.declared.event.Event.{Event}
use Rattle.script_text.specs.declared.line.Line.{Line}
use Rattle.script_text.specs.declared.reply.Reply.{Reply}
use Rattle.chain_model.specs.State.{Chain}
use Rattle.chain_model.specs.Steps.{Does}
use Rattle.chain_core.specs.Chain.{HasEnds, HasSmallNumbers}
use Rattle.chain_core.specs.Confirming.{HaveOwnTags}
use Rattle.chain_core.specs.Nodes.{HaveNumbers}

-- what the calls of a chain rely on, whatever line comes next
pub record CanStep (c : Chain) : Type 0 where
  -- both ends of each key are there
  pub ends : HasEnds c
  -- the numbers of all entities are small enough for octets to be heard, and for SDUs to be given
  pub small : HasSmallNumbers c
  -- open direct ports keep data PDUs of their own key alone
  pub tags : HaveOwnTags c
  -- behind the line each transmitter has numbers left for the SDUs that it is fed
  pub numbers : (line : Line) (own : List Event) (reply : Reply) (mid : Chain) → Does c line own reply mid → HaveNumbers mid.nodes
