-- Whatever PDU a node hears, its answer is no strange one, but that an SDU is discarded whose UE ID the node attaches to no remote.
use Rattle.std.proofs.Common.{◌≡◌, ◌⊎◌, inl, inr, ℕ, Bool, true, false, List, Option, Some, None, Result, Ok, Err, refl, ◌∙◌, ap, subst}
use Rattle.link_base.specs.declared.discard.Discard.{Discard}
use Rattle.link_base.specs.declared.discard.Discard.TheVariants as discards
use Rattle.link_base.specs.declared.names.Node.{Node as NodeKind}
use Rattle.rlc_model.specs.declared.hop.HopHeard.{HopHeard}
use Rattle.rlc_model.specs.declared.hop.HopHeard.TheVariants.{Amd, Status, BadAmd, BadStatus}
use Rattle.rlc_model.specs.declared.hop.Pdu.{Pdu}
use Rattle.rlc_model.specs.declared.receiver.Heard.TheVariants as receiving
use Rattle.rlc_model.specs.declared.transmitter.StatusHeard.TheVariants as sending
use Rattle.rlc_model.specs.Hop.{on_air, HearsHop}
use Rattle.rlc_model.specs.Rx.{Rx}
use Rattle.rlc_model.specs.Sides.{Entity, hearer_of}
use Rattle.rlc_model.specs.Tx.{Tx}
use Rattle.rlc_law.specs.PortLaws.{HearLeaves, HearsDataMade}
use Rattle.node_model.specs.declared.answers.NodeHeard.{NodeHeard}
use Rattle.node_model.specs.declared.answers.NodeHeard.TheVariants as answers
use Rattle.node_model.specs.Hearing.{hear_refusal, Passes, Follows, HearsSide, HearsUnless, HearsPdu}
use Rattle.node_model.specs.Names.{NodeName, owner}
use Rattle.node_model.specs.Routing.{Target, ToPdcp, Onward, Leads}
use Rattle.node_model.specs.State.{Node, PortSide, side_at, set_entity}
use Rattle.chain_model.specs.Lines.{hearer}
use Rattle.chain_model.specs.State.{Chain, node_at}
use Rattle.heard_law.proofs.Tickets.{refused}
use Rattle.item_law.specs.State.{Item, goal_at}
use Rattle.item_chain.specs.Foundations.{PduLaws}
use Rattle.item_chain.specs.View.{view}
use Rattle.item_chain.specs.Stands.{Ghost, Stands}
use Rattle.item_chain.proofs.Heard.{IsHandedOver, its_leads, node_with, side_with}
use Rattle.item_run.proofs.Coming.{came_over, may_hear, port_there, same_side, same_entity, made}
use Rattle.item_run.proofs.Discarding.{IsUnknown, why_discarded}
use Rattle.item_run.proofs.Strange.{is_strange, refused_fine}
use Rattle.item_run.proofs.Taking.{pdcp_fine}

-- each item's remote is on the item's path at each node
abbrev pub AreOnPath : Ghost → Type 0
AreOnPath g = (n : ℕ) (i : Item) → g.chain.items n ≡ Some i → (nd : NodeKind) → goal_at (g.chain.path i.key.remote) nd ≡ i.goal

module _ (l : PduLaws) (g : Ghost) (c : Chain) (st : Stands g (view c)) (ticket : ℕ) where
  module _ (pdu : Pdu) (on : on_air c.air ticket ≡ Some pdu) where
    abbrev N : Node
    N = hearer pdu c

    module _ (taken : hear_refusal pdu (side_at N pdu.port) ≡ None) where
      abbrev may : IsHandedOver pdu N
      may = may_hear g c st ticket pdu on taken

      -- an SDU completes, and leads nowhere
      pub record LeadsNowhere : Type 0 where
        pub number : ℕ
        pub whole : List ℕ
        pub tx : Tx
        pub rx : Rx
        pub hears : HearsHop may.entity.tx may.entity.rx pdu.bytes (Amd (receiving.Complete number whole)) tx rx
        pub unknown : IsUnknown g N.attached whole

      -- the answer is no strange one, or such an SDU is discarded
      abbrev pub IsFine : NodeHeard → Type 0
      IsFine answer = (is_strange answer ≡ false) ⊎ ((answer ≡ answers.Discard discards.UnknownUe) × LeadsNowhere)

      -- what completes goes to where it leads
      passes_fine : (k : ℕ) (sdu : List ℕ) (tx : Tx) (rx : Rx) → HearsHop may.entity.tx may.entity.rx pdu.bytes (Amd (receiving.Complete k sdu)) tx rx
          → HearsDataMade (port_there g c st ticket pdu on taken) pdu.way pdu.number pdu.bytes (receiving.Complete k sdu) tx rx
          → (target : Result Target Discard) → Leads c.tables N (hearer_of pdu.way) pdu.port sdu target → (answer : NodeHeard) (node : Node)
          → Passes (node_with g c st ticket pdu on may tx rx) (side_with g c st ticket pdu on may tx rx) sdu target answer node → IsFine answer
      passes_fine k sdu tx rx hears h (Ok (ToPdcp key body)) leads answer node passes =
          let came = came_over g c st ticket pdu.epoch pdu.number pdu.status pdu.bytes key body pdu.port pdu.way on may k sdu tx rx h leads in
          let name : NodeName = owner (hearer_of pdu.way) pdu.port in
          inl (pdcp_fine l g c st name key body came (node_with g c st ticket pdu on may tx rx)
          (ap (λ (x : NodeName). (node_at c x).incoming) came.home) (ap (λ (x : NodeName). (node_at c x).outgoing) came.home) answer node passes)
      passes_fine k sdu tx rx hears h (Ok (Onward route)) leads answer node passes = inl (ap is_strange passes.0)
      passes_fine k sdu tx rx hears h (Err discard) leads answer node passes =
          let why = why_discarded g c st ticket pdu.epoch pdu.number pdu.status pdu.bytes discard pdu.port pdu.way on may k sdu tx rx h leads in
          inr (passes.0 ∙ ap (λ (d : Discard). answers.Discard d) why.0, record { number = k; whole = sdu; tx = tx; rx = rx; hears = hears; unknown = why.1 })

      followed_fine : (kind : Bool) → pdu.status ≡ kind → (hop : HopHeard) (tx : Tx) (rx : Rx) → HearsHop may.entity.tx may.entity.rx pdu.bytes hop tx rx
          → HearLeaves (port_there g c st ticket pdu on taken) pdu.way kind pdu.number pdu.bytes hop tx rx → (answer : NodeHeard) (node : Node)
          → Follows c.tables (node_with g c st ticket pdu on may tx rx) (hearer_of pdu.way) (side_with g c st ticket pdu on may tx rx) hop answer node → IsFine answer
      followed_fine false is (Amd (receiving.Complete k sdu)) tx rx hears h answer node f =
          passes_fine k sdu tx rx hears h f.0 (its_leads g c st ticket pdu on may tx rx sdu f.0 f.1) answer node f.2
      followed_fine false is (Amd receiving.Stored) tx rx hears h answer node f = inl (ap is_strange f.0)
      followed_fine false is (Amd receiving.Repeat) tx rx hears h answer node f = inl (ap is_strange f.0)
      followed_fine false is (Amd receiving.Outside) tx rx hears h answer node f = absurd h.as_given
      followed_fine false is (Amd receiving.Conflict) tx rx hears h answer node f = absurd h.as_given
      followed_fine false is (Status s) tx rx hears h answer node f = absurd h
      followed_fine false is (BadAmd fault) tx rx hears h answer node f = absurd h
      followed_fine false is (BadStatus fault) tx rx hears h answer node f = absurd h
      followed_fine true is (Status (sending.Acked tags marks)) tx rx hears h answer node f = inl (ap is_strange f.0)
      followed_fine true is (Status (sending.Old ack next)) tx rx hears h answer node f = inl (ap is_strange f.0)
      followed_fine true is (Status (sending.Beyond ack most)) tx rx hears h answer node f = absurd h.of_sent
      followed_fine true is (Amd a) tx rx hears h answer node f = absurd h
      followed_fine true is (BadAmd fault) tx rx hears h answer node f = absurd h
      followed_fine true is (BadStatus fault) tx rx hears h answer node f = absurd h

      side_fine : (answer : NodeHeard) (node : Node) → HearsSide c.tables N (hearer_of pdu.way) pdu.port pdu.bytes answer node → IsFine answer
      side_fine answer node s =
          let side : s.side ≡ may.side = same_side g c st ticket pdu on taken s.side s.entity s.its in
          let entity : s.entity ≡ may.entity = same_entity g c st ticket pdu on taken s.side s.entity s.its in
          let behind : s.behind ≡ record may.entity { tx = s.tx; rx = s.rx } = s.its_entity ∙ ap (λ (x : Entity). record x { tx = s.tx; rx = s.rx }) entity in
          followed_fine pdu.status refl s.hop s.tx s.rx (subst (λ (x : Entity). HearsHop x.tx x.rx pdu.bytes s.hop s.tx s.rx) entity s.hears)
          (made g c st ticket pdu on taken s.side s.entity s.its s.hop s.tx s.rx s.hears) answer node
          (subst (λ (b : Entity). Follows c.tables (set_entity N may.side b) (hearer_of pdu.way) (record may.side { entity = Some b }) s.hop answer node) behind
          (subst (λ (p : PortSide). Follows c.tables (set_entity N p s.behind) (hearer_of pdu.way) (record p { entity = Some s.behind }) s.hop answer node) side s.follows))

    -- a PDU that is refused, or heard
    pub hears_fine : (answer : NodeHeard) (node : Node) → HearsPdu c.tables N (hearer_of pdu.way) pdu answer node
        → (is_strange answer ≡ false) ⊎ ((answer ≡ answers.Discard discards.UnknownUe) × (taken : hear_refusal pdu (side_at N pdu.port) ≡ None) × LeadsNowhere taken)
    hears_fine answer node x = by (hear_refusal pdu (side_at N pdu.port)) refl x
      where
        by : (o : Option NodeHeard) → hear_refusal pdu (side_at N pdu.port) ≡ o → HearsUnless o c.tables N (hearer_of pdu.way) pdu answer node
            → (is_strange answer ≡ false) ⊎ ((answer ≡ answers.Discard discards.UnknownUe) × (taken : hear_refusal pdu (side_at N pdu.port) ≡ None) × LeadsNowhere taken)
        by (Some r) is u = inl (ap is_strange u.0 ∙ refused_fine r (refused pdu (side_at N pdu.port) r is))
        by None is s = elim (side_fine is answer node s) [
          | inl fine ↦ inl fine
          | inr nowhere ↦ inr (nowhere.0, is, nowhere.1)
        ]
