-- What is discarded where paths are switched: an SDU whose UE ID the node that hears it doesn't attach.
use Rattle.std.specs.Prelude.{◌≡◌, ℕ, List}
use Rattle.link_base.specs.declared.discard.Discard.{Discard as DiscardName}
use Rattle.link_base.specs.declared.discard.Discard.TheVariants.{UnknownUe}
use Rattle.link_base.specs.declared.names.Remote.{Remote}
use Rattle.bearer_map.specs.Ids.{IsAttached}
use Rattle.srap_header.specs.Srap.{Srap, IsSrap}
use Rattle.rlc_model.specs.declared.hop.HopHeard.TheVariants.{Amd}
use Rattle.rlc_model.specs.declared.receiver.Heard.TheVariants.{Complete}
use Rattle.script_text.specs.declared.reply.Reply.TheVariants.{Discard}
use Rattle.node_model.specs.Names.{NodeName}
use Rattle.chain_model.specs.Draining.{Moment}
use Rattle.chain_model.specs.State.{node_at}
use Rattle.book_law.specs.Hearings.{EntityHears}

-- by a line an SDU completes at a node that attaches the UE ID of its SRAP header to no remote (TS 38.351 clause 5.2)
pub record HearsUnattached (m : Moment) : Type 0 where
  pub name : NodeName
  pub number : ℕ
  pub whole : List ℕ
  pub comes : EntityHears name m (Amd (Complete number whole))
  pub header : Srap
  pub reads : IsSrap header whole
  pub unattached : (remote : Remote) → IsAttached (node_at m.before name).attached remote header.ue → ⊥

-- where a line is answered by a discard, it is of an unknown UE ID, and the node that hears the SDU doesn't attach it
abbrev pub DiscardsUnattached : Moment → Type 0
DiscardsUnattached m = (name : DiscardName) → m.entry.reply ≡ Discard name → (name ≡ UnknownUe) × HearsUnattached m
