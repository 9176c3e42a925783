-- Each line by which no PDU comes to a node leaves the tables and all confirmed numbers.
use Rattle.std.proofs.Common.{◌≡◌, inl, inr, ℕ, ◌+◌, List, [], ◌∷◌, ◌++◌, Option, Some, None, unwrap_or, true, refl, sym, ◌∙◌, ap, subst}
use Rattle.std.specs.List.{prefix_len}
use Rattle.std.specs.Option.{is_none}
use Rattle.link_base.specs.declared.names.Key.{Key}
use Rattle.link_base.specs.declared.names.PortName.{PortName}
use Rattle.link_base.specs.declared.names.Side.{Side}
use Rattle.link_base.specs.declared.names.Timer.{Timer}
use Rattle.link_base.specs.declared.names.Way.{Way}
use Rattle.rlc_model.specs.declared.hop.HopGrant.{HopGrant}
use Rattle.rlc_model.specs.declared.hop.HopGrant.TheVariants as grants
use Rattle.rlc_model.specs.declared.hop.Pdu.{Pdu}
use Rattle.rlc_model.specs.Hop.{on_air}
use Rattle.rlc_model.specs.Sides.{Entity, sender_of}
use Rattle.pdcp_model.specs.declared.answers.SubmitFault.{SubmitFault}
use Rattle.pdcp_model.specs.Sender.{confirmed, submit_fault}
use Rattle.script_text.specs.declared.event.Event.{Event}
use Rattle.script_text.specs.declared.line.Line.TheVariants.{Submit, Grant, Lose, Expire, Push, Pull, Report}
use Rattle.script_text.specs.declared.reply.Reply.{Reply}
use Rattle.node_model.specs.declared.answers.PushReply.{PushReply}
use Rattle.node_model.specs.declared.answers.PushReply.TheVariants as pushed
use Rattle.node_model.specs.declared.answers.PullReply.{PullReply}
use Rattle.node_model.specs.declared.answers.PullReply.TheVariants as pulled
use Rattle.node_model.specs.Names.{NodeName, AtRelay, owner, source, sink}
use Rattle.node_model.specs.State.{PortSide, Node, Outgoing, no_outgoing, set_entity, outgoing, outgoing_at, set_outgoing, incoming, set_incoming}
use Rattle.node_model.specs.Relaying.{PushesPort, PullsPort}
use Rattle.node_model.proofs.Names.{cases_key}
use Rattle.node_model.proofs.ByName.{outgoing_set}
use Rattle.chain_model.specs.State.{Chain, node_at, set_node, sender_at}
use Rattle.chain_model.specs.Lines.{Unless, Submits, Granted, Sends, Loses, Expires, Wants, queue_capacity}
use Rattle.chain_model.specs.Steps.{Does}
use Rattle.chain_model.proofs.Lookups.{cases_found, sets_nodes, outgoing_key, out_others, view_same}
use Rattle.chain_core.specs.Confirming.{Watches}
use Rattle.chain_core.proofs.Raising.{number_at, KeepsNumbers, keeps_all}

-- no line that is quiet raises a number
abbrev Quiet : Chain → Chain → Type 0
Quiet old new = Watches old None new

unchanged : (c new : Chain) → new ≡ c → Quiet c new
unchanged c new same = record { tables = ap (λ (d : Chain). d.tables) same; before = tt; others = λ k ne. ap (λ (d : Chain). confirmed (sender_at d k)) same }

-- one node keeps all its numbers, and so does the chain
quiet_at : (c : Chain) (name : NodeName) (n : Node) → KeepsNumbers (node_at c name) None n → Quiet c (set_node c n)
quiet_at c name n keeps = record {
  tables = refl;
  before = tt;
  others = λ k ne. view_same (λ (m : Node). number_at m k) c n
      (keeps.others k ne ∙ ap (λ (m : NodeName). number_at (node_at c m) k) (sym (keeps.name ∙ sets_nodes.named c name))) (source k);
}

unless_quiet : (refusal : Option Reply) (old : Chain) (events : List Event) (reply : Reply) (new : Chain) (done : Type 0) → (done → Quiet old new) → Unless refusal old events reply new done → Quiet old new
unless_quiet (Some refusal) old events reply new done quiet u = unchanged old new u.2
unless_quiet None old events reply new done quiet u = quiet u

-- a sending end that is set in the place of one with the same number
own_number : (n : Node) (o : Outgoing) (k : Key) → confirmed o.sender ≡ number_at n o.key → number_at (set_outgoing n o) k ≡ number_at n k
own_number n o k same = elim (cases_key o.key k) [
  | inl is ↦ subst (λ (k : Key). number_at (set_outgoing n o) k ≡ number_at n k) is (elim (cases_found (outgoing_at n o.key)) [
    | inl found ↦ ap (λ (x : Option Outgoing). confirmed (unwrap_or x (no_outgoing o.key)).sender) (outgoing_set.own n.outgoing o found.0 found.1) ∙ same
    | inr none ↦ ap (λ (rows : List Outgoing). number_at (record n { outgoing = rows }) o.key) (outgoing_set.none n.outgoing o none)
  ])
  | inr ne ↦ ap (λ (x : Option Outgoing). confirmed (unwrap_or x (no_outgoing k)).sender) (out_others n o k ne)
]

-- an SDU that is accepted confirms none
not_confirmed : (kept : List (Option (List ℕ))) (sdu : List ℕ) → prefix_len is_none (kept ++ Some sdu ∷ []) ≡ prefix_len is_none kept
not_confirmed [] sdu = refl
not_confirmed (None ∷ kept) sdu = ap (λ (n : ℕ). 1 + n) (not_confirmed kept sdu)
not_confirmed (Some x ∷ kept) sdu = refl

submits_quietly : (fault : Option SubmitFault) (c : Chain) (key : Key) (sdu : List ℕ) (events : List Event) (reply : Reply) (new : Chain) → Submits fault c key sdu events reply new → Quiet c new
submits_quietly (Some fault) c key sdu events reply new s = unchanged c new s.2
submits_quietly None c key sdu events reply new s =
    let n = node_at c (source key) in
    let o : Outgoing = record (outgoing n key) { sender = record (outgoing n key).sender { kept = (outgoing n key).sender.kept ++ Some sdu ∷ [] } } in
    let same : confirmed o.sender ≡ number_at n o.key = not_confirmed (outgoing n key).sender.kept sdu ∙ ap (number_at n) (sym (outgoing_key n key)) in
    subst (Quiet c) (sym s.2) (quiet_at c (source key) (set_outgoing n o) (record { name = refl; others = λ k ne. own_number n o k same }))

-- a node of which the ends stay keeps its numbers
ends_keep : (n new : Node) → new.name ≡ n.name → new.outgoing ≡ n.outgoing → KeepsNumbers n None new
ends_keep n new name ends = record { name = name; others = λ k ne. ap (λ (rows : List Outgoing). number_at (record n { outgoing = rows }) k) ends }

-- a step of a side changes no sending end
side_quiet : (c : Chain) (name : NodeName) (side : PortSide) (entity : Entity) (n : Node) → n ≡ set_entity (node_at c name) side entity → Quiet c (set_node c n)
side_quiet c name side entity n is = quiet_at c name n (ends_keep (node_at c name) n (ap (λ (m : Node). m.name) is) (ap (λ (m : Node). m.outgoing) is))

sends_quietly : (c : Chain) (node : Node) (port : PortName) (way : Way) (epoch : ℕ) (answer : HopGrant) (reply : Reply) (new : Chain) → Quiet c (set_node c node)
    → Sends c node port way epoch answer reply new → Quiet c new
sends_quietly c node port way epoch (grants.Sent status number bytes) reply new l s = subst (Quiet c) (sym s.1) (record { tables = l.tables; before = tt; others = l.others })
sends_quietly c node port way epoch grants.Idle reply new l s = unchanged c new s.1
sends_quietly c node port way epoch (grants.Small need) reply new l s = unchanged c new s.1

-- the relay moves an SDU
pushes_keep : (capacity : ℕ) (old : Node) (port : PortName) (answer : PushReply) (new : Node) → PushesPort capacity old port answer new → KeepsNumbers old None new
pushes_keep capacity old port (pushed.Done egress) new p = ends_keep old new (ap (λ (m : Node). m.name) p.1.is ∙ ap (λ (m : Node). m.name) p.1.empties) (ap (λ (m : Node). m.outgoing) p.1.is ∙ ap (λ (m : Node). m.outgoing) p.1.empties)
pushes_keep capacity old port pushed.NoPort new p = keeps_all old None new p.1
pushes_keep capacity old port pushed.Nothing new p = keeps_all old None new p.1
pushes_keep capacity old port pushed.QueueFull new p = keeps_all old None new p.1

pulls_keep : (old : Node) (port : PortName) (answer : PullReply) (new : Node) → PullsPort old port answer new → KeepsNumbers old None new
pulls_keep old port (pulled.Done number) new p = ends_keep old new (ap (λ (m : Node). m.name) p.1.is) (ap (λ (m : Node). m.outgoing) p.1.is)
pulls_keep old port pulled.NoPort new p = keeps_all old None new p.1
pulls_keep old port pulled.Empty new p = keeps_all old None new p.1
pulls_keep old port pulled.Stalled new p = keeps_all old None new p.1

loses_quietly : (c : Chain) (pdu : Option Pdu) (ticket : ℕ) (events : List Event) (reply : Reply) (new : Chain) → Loses c pdu ticket events reply new → Quiet c new
loses_quietly c None ticket events reply new l = unchanged c new l.2
loses_quietly c (Some pdu) ticket events reply new l = subst (Quiet c) (sym l.2) (record { tables = refl; before = tt; others = λ k ne. refl })

-- the lines
module _ (c : Chain) (own : List Event) (reply : Reply) (mid : Chain) where
  pub submit_quiet : (key : Key) (sdu : List ℕ) → Does c (Submit key sdu) own reply mid → Watches c None mid
  submit_quiet key sdu = unless_quiet _ c own reply mid _ (submits_quietly (submit_fault (sender_at c key) sdu) c key sdu own reply mid)

  pub grant_quiet : (port : PortName) (way : Way) (octets : ℕ) → Does c (Grant port way octets) own reply mid → Watches c None mid
  grant_quiet port way octets = unless_quiet _ c own reply mid _ (λ (g : Granted c port way octets own reply mid). sends_quietly c g.node port way g.epoch g.answer reply mid
      (side_quiet c (owner (sender_of way) port) g.grants.side (record g.grants.entity { tx = g.grants.tx; rx = g.grants.rx }) g.node g.grants.is) g.sends)

  pub lose_quiet : (ticket : ℕ) → Does c (Lose ticket) own reply mid → Watches c None mid
  lose_quiet ticket = loses_quietly c (on_air c.air ticket) ticket own reply mid

  pub expire_quiet : (port : PortName) (side : Side) (timer : Timer) → Does c (Expire port side timer) own reply mid → Watches c None mid
  expire_quiet port side timer = unless_quiet _ c own reply mid _ (λ (e : Expires c port side timer own reply mid). subst (Quiet c) (sym e.is)
      (side_quiet c (owner side port) e.expires.side (record e.expires.entity { tx = e.expires.tx; rx = e.expires.rx }) e.node e.expires.is))

  pub push_quiet : (port : PortName) → Does c (Push port) own reply mid → Watches c None mid
  push_quiet port p = subst (Quiet c) (sym p.is) (quiet_at c AtRelay p.node (pushes_keep (queue_capacity c) (node_at c AtRelay) port p.answer p.node p.pushes))

  pub pull_quiet : (port : PortName) → Does c (Pull port) own reply mid → Watches c None mid
  pull_quiet port p = subst (Quiet c) (sym p.is) (quiet_at c AtRelay p.node (pulls_keep (node_at c AtRelay) port p.answer p.node p.pulls))

  pub report_quiet : (key : Key) → Does c (Report key) own reply mid → Watches c None mid
  report_quiet key = unless_quiet _ c own reply mid _ (λ (w : Wants c key own reply mid). subst (Quiet c) (sym w.2)
      (quiet_at c (sink key) (set_incoming (node_at c (sink key)) (record (incoming (node_at c (sink key)) key) { wanted = true })) (record { name = refl; others = λ k ne. refl })))
