-- What is refused of chains that nothing tells apart is refused alike.
use Rattle.std.proofs.Common.{◌≡◌, Bool, cond, not, nat_le, ◌&&◌, ◌||◌, List, [], ◌∷◌, ◌++◌, length, map, find, count_by, Option, Some, None, is_some, is_none, option_map, refl, ◌∙◌, ap}
use Rattle.std.specs.List.{list_any}
use Rattle.link_base.specs.declared.names.Goal.{Goal}
use Rattle.link_base.specs.declared.names.Goal.TheVariants.{Direct as ToDirect, Relay as ToRelay}
use Rattle.link_base.specs.declared.names.Key.{Key}
use Rattle.link_base.specs.declared.names.LocalId.{LocalId}
use Rattle.link_base.specs.declared.names.Node.{Node as NodeKind}
use Rattle.link_base.specs.declared.names.Place.{Place}
use Rattle.link_base.specs.declared.names.Place.TheVariants.{Attached, Planned, Slot, Queue, Uu as UuChan}
use Rattle.link_base.specs.declared.names.PortName.{PortName}
use Rattle.link_base.specs.declared.names.PortName.TheVariants.{Uu}
use Rattle.link_base.specs.declared.names.Remote.{Remote}
use Rattle.link_base.specs.declared.names.Side.{Side}
use Rattle.link_base.specs.declared.names.Way.{Way}
use Rattle.bearer_map.specs.declared.ids.Attachment.{Attachment}
use Rattle.bearer_map.specs.declared.rows.RemoteRow.{RemoteRow}
use Rattle.bearer_map.specs.declared.rows.UuRow.{UuRow}
use Rattle.bearer_map.specs.Contents.{Contents}
use Rattle.rlc_model.specs.declared.hop.Pdu.{Pdu}
use Rattle.rlc_model.specs.Sides.{Entity, sender_of}
use Rattle.rlc_model.specs.Tx.{Tx}
use Rattle.script_text.specs.declared.reply.Reply.{Reply}
use Rattle.script_text.specs.declared.reply.Reply.TheVariants.{NoBearer, NoRemote, NoPort, NoTable, AirFull, Worn, IdBusy}
use Rattle.node_model.specs.declared.parcel.Parcel.{Parcel}
use Rattle.node_model.specs.Names.{AtRelay, AtGnb, is_id, is_remote, owner}
use Rattle.node_model.specs.Relaying.{ue_of}
use Rattle.node_model.specs.State.{PortSide, Node, entity_at}
use Rattle.node_model.specs.Tables.{has_remote, has_bearer, has_path}
use Rattle.node_model.proofs.Finding.{find_same}
use Rattle.node_law.specs.Alike.{SameOpen, SameSides}
use Rattle.node_law.proofs.Alike.{closed_alike, entity_too, slot_too, queue_too}
use Rattle.chain_model.specs.declared.plan.Plan.{Plan}
use Rattle.chain_model.specs.Plans.{kept_bears, entity_bears, slot_bears, plan_asks, is_at, places, busy_place}
use Rattle.chain_model.specs.State.{Chain, node_at, plan_at, entity_on}
use Rattle.chain_model.specs.Lines.{or_else, submit_refusal, grant_refusal, expire_refusal, open_refusal, report_refusal, plan_refusal, node_refusal, apply_refusal}
use Rattle.step_law.specs.OneStep.{SameNodes, SameChain}
use Rattle.step_law.proofs.Chains.{node_too}

-- the names of ports of sides that nothing tells apart
named : (make : PortName → Place) (xs ys : List PortSide) → SameSides xs ys → map (λ (s : PortSide). make s.name) xs ≡ map (λ (s : PortSide). make s.name) ys
named make [] [] e = refl
named make [] (y ∷ ys) e = absurd e
named make (x ∷ xs) [] e = absurd e
named make (x ∷ xs) (y ∷ ys) e = ap (λ (p : PortName). make p ∷ map (λ (s : PortSide). make s.name) xs) e.0.name ∙ ap (λ (l : List Place). make y.name ∷ l) (named make xs ys e.1)

-- what nodes attach that nothing tells apart
attach_alike : (test : List Attachment → Bool) (xs ys : List Node) → SameNodes xs ys → list_any (λ (n : Node). test n.attached) xs ≡ list_any (λ (n : Node). test n.attached) ys
attach_alike test [] [] e = refl
attach_alike test [] (y ∷ ys) e = absurd e
attach_alike test (x ∷ xs) [] e = absurd e
attach_alike test (x ∷ xs) (y ∷ ys) e = ap (λ (l : List Attachment). test l || list_any (λ (n : Node). test n.attached) xs) e.0.attached
    ∙ ap (λ (b : Bool). test y.attached || b) (attach_alike test xs ys e.1)

bears_alike : (id : LocalId) (x y : Option Entity) → SameOpen x y → entity_bears id x ≡ entity_bears id y
bears_alike id None None same = refl
bears_alike id None (Some y) same = absurd same
bears_alike id (Some x) None same = absurd same
bears_alike id (Some x) (Some y) same = ap (λ (t : Tx). list_any (kept_bears id) t.kept) same.tx

module _ (c d : Chain) (e : SameChain c d) where
  pub plan_too : (remote : Remote) → plan_at c remote ≡ plan_at d remote
  plan_too remote = ap (λ (ps : List Plan). find (λ (p : Plan). is_remote remote p.remote) ps) e.plans

  pub submit_too : (key : Key) → submit_refusal c key ≡ submit_refusal d key
  submit_too key = ap (λ (t : Contents). cond (not (has_bearer t key.remote key.drb)) (Some NoBearer) None) e.tables

  closed_too : (side : Side) (port : PortName) → is_none (entity_on c side port) ≡ is_none (entity_on d side port)
  closed_too side port = closed_alike (entity_on c side port) (entity_on d side port)
      (entity_too (node_at c (owner side port)) (node_at d (owner side port)) (node_too c d e (owner side port)) port)

  -- the rest of a grant's refusals
  abbrev air_refusal : List (Option Pdu) → Option Reply
  air_refusal air = cond (nat_le 16384 (count_by is_some air)) (Some AirFull) (cond (nat_le 2305843009213693952 (length air)) (Some Worn) None)

  pub grant_too : (port : PortName) (way : Way) → grant_refusal c port way ≡ grant_refusal d port way
  grant_too port way = ap (λ (b : Bool). cond b (Some NoPort) (air_refusal c.air)) (closed_too (sender_of way) port)
      ∙ ap (λ (air : List (Option Pdu)). cond (is_none (entity_on d (sender_of way) port)) (Some NoPort) (air_refusal air)) e.air

  pub expire_too : (port : PortName) (at : Side) → expire_refusal c port at ≡ expire_refusal d port at
  expire_too port at = ap (λ (b : Bool). cond b (Some NoPort) None) (closed_too at port)

  pub report_too : (key : Key) → report_refusal c key ≡ report_refusal d key
  report_too key = ap (λ (t : Contents). cond (not (has_bearer t key.remote key.drb)) (Some NoBearer) (open_refusal (plan_at c key.remote))) e.tables
      ∙ ap (λ (o : Option Plan). cond (not (has_bearer d.tables key.remote key.drb)) (Some NoBearer) (open_refusal o)) (plan_too key.remote)

  -- where a local identity is in use
  places_too : places c ≡ places d
  places_too = ap (λ (t : Contents). listed t (map slot ports) (map queue ports)) e.tables
      ∙ ap (λ (l : List Place). listed d.tables l (map queue ports)) (named (λ (p : PortName). Slot p) ports others same)
      ∙ ap (listed d.tables (map slot others)) (named (λ (p : PortName). Queue p) ports others same)
    where
      ports : List PortSide
      ports = (node_at c AtRelay).ports

      others : List PortSide
      others = (node_at d AtRelay).ports

      same : SameSides ports others
      same = (node_too c d e AtRelay).ports

      slot : PortSide → Place
      slot s = Slot s.name

      queue : PortSide → Place
      queue s = Queue s.name

      listed : Contents → List Place → List Place → List Place
      listed t slots queues = map (λ (row : RemoteRow). Attached row.remote) t.remotes ++ map (λ (row : RemoteRow). Planned row.remote) t.remotes ++ slots ++ queues ++ map
          (λ (row : UuRow). UuChan row.chan) t.uus

  at_too : (id : LocalId) (place : Place) → is_at c id place ≡ is_at d id place
  at_too id (Attached remote) = attach_alike (list_any (λ (a : Attachment). is_remote remote a.remote && is_id id a.id)) c.nodes d.nodes e.nodes
  at_too id (Planned remote) = ap (plan_asks id) (plan_too remote)
  at_too id (Slot port) = ap (slot_bears id) (slot_too (node_at c AtRelay) (node_at d AtRelay) (node_too c d e AtRelay) port)
  at_too id (Queue port) = ap (list_any (λ (parcel : Parcel). is_id id (ue_of parcel))) (queue_too (node_at c AtRelay) (node_at d AtRelay) (node_too c d e AtRelay) port)
  at_too id (UuChan chan) =
      ap (λ (b : Bool). b || entity_bears id (entity_at (node_at c AtGnb) (Uu chan)))
      (bears_alike id _ _ (entity_too (node_at c AtRelay) (node_at d AtRelay) (node_too c d e AtRelay) (Uu chan)))
      ∙ ap (λ (b : Bool). entity_bears id (entity_at (node_at d AtRelay) (Uu chan)) || b)
      (bears_alike id _ _ (entity_too (node_at c AtGnb) (node_at d AtGnb) (node_too c d e AtGnb) (Uu chan)))

  busy_too : (goal : Goal) → busy_place c goal ≡ busy_place d goal
  busy_too ToDirect = refl
  busy_too (ToRelay id) = find_same (is_at c id) (is_at d id) (at_too id) (places c) ∙ ap (find (is_at d id)) places_too

  -- the refusals of a plan by what they depend on
  abbrev planning : Contents → Option Plan → Option Place → Remote → Goal → Option Reply
  planning t plan busy remote goal =
      cond (not (has_remote t remote)) (Some NoRemote) (or_else (open_refusal plan)
      (cond (not (has_path t remote goal)) (Some NoTable) (option_map (λ (place : Place). IdBusy place) busy)))

  pub planned_too : (remote : Remote) (goal : Goal) → plan_refusal c remote goal ≡ plan_refusal d remote goal
  planned_too remote goal = ap (λ (t : Contents). planning t (plan_at c remote) (busy_place c goal) remote goal) e.tables
      ∙ ap (λ (o : Option Plan). planning d.tables o (busy_place c goal) remote goal) (plan_too remote)
      ∙ ap (λ (o : Option Place). planning d.tables (plan_at d remote) o remote goal) (busy_too goal)

  pub applied_too : (remote : Remote) (kind : NodeKind) → apply_refusal c remote kind ≡ apply_refusal d remote kind
  applied_too remote kind = ap (λ (t : Contents). cond (not (has_remote t remote)) (Some NoRemote) (node_refusal (plan_at c remote) kind)) e.tables
      ∙ ap (λ (o : Option Plan). cond (not (has_remote d.tables remote)) (Some NoRemote) (node_refusal o kind)) (plan_too remote)
