-- What the calls of the chain rely on and tell.
use Rattle.std.specs.Prelude.{◌≡◌, ℕ, List, ◌++◌, map}
use Rattle.link_base.specs.declared.names.Key.{Key}
use Rattle.rlc_model.specs.declared.hop.HopHeard.{HopHeard}
use Rattle.rlc_model.specs.declared.hop.HopHeard.TheVariants.{Amd}
use Rattle.rlc_model.specs.declared.receiver.Heard.TheVariants.{Complete}
use Rattle.node_model.specs.declared.answers.NodeHeard.{NodeHeard}
use Rattle.node_model.specs.declared.answers.NodeHeard.TheVariants.{Hop}
use Rattle.script_text.specs.declared.event.Event.{Event}
use Rattle.script_text.specs.declared.event.Event.TheVariants.{Up}
use Rattle.script_text.specs.declared.reply.Reply.{Reply}

-- the entity's answer is that of a PDU that completed no SDU
abbrev pub IsToldHop : HopHeard → Type 0
IsToldHop (Amd (Complete number sdu)) = ⊥
IsToldHop answer = Unit {0}

-- the node's answer is none of an entity that completed an SDU
abbrev pub IsTold : NodeHeard → Type 0
IsTold (Hop answer) = IsToldHop answer
IsTold answer = Unit {0}

-- to the events told so far some were added, which are told with this reply
abbrev pub Tells : List Event → List Event → (List Event → Reply → Type 0) → Reply → Type 0
Tells old new told reply = (events : List Event) × (new ≡ old ++ events) × told events reply

-- the events that show SDUs of a key
abbrev pub ups : Key → List (List ℕ) → List Event
ups key sdus = map (λ sdu. Up key sdu) sdus
