-- The law of unconfirmed SDUs: it holds of the chain that tables open, and each line keeps it.
use Rattle.std.proofs.Common.{◌≡◌, refl, sym, ◌∙◌, ap}
use Rattle.link_base.specs.declared.names.Drb.{Drb}
use Rattle.link_base.specs.declared.names.Key.{Key}
use Rattle.link_base.specs.declared.names.PortName.TheVariants.{Direct}
use Rattle.link_base.specs.declared.names.Remote.{Remote}
use Rattle.link_base.specs.declared.names.Side.{Side}
use Rattle.link_base.specs.declared.names.Side.TheVariants.{Low, High}
use Rattle.rlc_model.specs.Sides.{way_from}
use Rattle.node_model.specs.Names.{NodeName, key_of, owner, source}
use Rattle.node_model.specs.State.{Node, entity_at}
use Rattle.node_model.specs.Switching.{node_closed}
use Rattle.chain_model.specs.State.{node_at}
use Rattle.tag_law.specs.Laws.{DirectPortsKeepUnconfirmed}
use Rattle.tag_law.proofs.Kept.{NodeKept, alike, expired_kept, granted_kept, heard_kept, received_kept, submitted_kept}
use Rattle.tag_law.proofs.KeptFeeding.{feeds_kept}
use Rattle.tag_law.proofs.KeptOpened.{opened_kept}
use Rattle.tag_law.proofs.KeptSwitching.{after_kept}
use Rattle.tag_law.proofs.Lines.{NodeSteps, ends_have, not_relay}
use Rattle.tag_law.proofs.Nodes.{CallLaws}
use Rattle.tag_law.proofs.Senders.{sender_same}

-- a node of any name
abbrev KeptAt : NodeName → Node → Type 0
KeptAt x n = NodeKept n

kept_steps : CallLaws → NodeSteps KeptAt
kept_steps laws = record {
  submit = λ x. submitted_kept;
  grant = λ x. granted_kept;
  expire = λ x. expired_kept;
  hear = λ x. heard_kept laws;
  receive = λ x. received_kept;
  apply = λ x. after_kept;
  close = λ x remote n. alike n (node_closed remote n) (λ r. refl) (λ q. refl) (λ key. sender_same _ _ refl);
  feed = λ x. feeds_kept;
}

-- a side of a direct port is at the end that sends its key
sends_there : (side : Side) (remote : Remote) (drb : Drb) → source (key_of remote drb (way_from side)) ≡ owner side (Direct remote drb)
sends_there Low remote drb = refl
sends_there High remote drb = refl

pub keep_unconfirmed : CallLaws → DirectPortsKeepUnconfirmed
keep_unconfirmed laws c up side remote drb e is key its idle n sdu low here =
    let at : source key ≡ owner side (Direct remote drb) = ap source its ∙ sends_there side remote drb in
    let has : NodeKept (node_at c (source key)) = ends_have KeptAt (kept_steps laws) opened_kept up (source key) (λ relay. not_relay side remote drb (sym at ∙ relay)) in
    has.kept key e (ap (λ (x : NodeName). entity_at (node_at c x) (Direct key.remote key.drb)) at
    ∙ ap (λ (k : Key). entity_at (node_at c (owner side (Direct remote drb))) (Direct k.remote k.drb)) its ∙ is) idle n sdu low here
