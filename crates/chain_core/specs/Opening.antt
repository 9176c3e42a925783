-- What tables need so that a chain can be opened.
use Rattle.bearer_map.specs.Contents.{Contents}
use Rattle.bearer_map.specs.Ids.{AreIds}
use Rattle.node_model.specs.Opening.{all_attached}
use Rattle.node_bearers.specs.Calls.{HaveCounts}
use Rattle.node_end.specs.Opening.{HaveRoutes}
use Rattle.relay_core.specs.Opening.{HaveChannels}

-- tables can open a chain: first COUNTs are COUNTs, bearers that are mapped to channels are declared and so are the channels, and no two remotes begin with one
-- local identity
pub record CanOpen (t : Contents) : Type 0 where
  pub counts : HaveCounts t
  pub routes : HaveRoutes t
  pub channels : HaveChannels t
  pub ids : AreIds (all_attached t)
