-- What the calls of a node leave in its slots and queues: a PDU that is heard fills a slot at most.
use Rattle.std.proofs.Common.{◌≡◌, ◌⊎◌, inl, inr, ℕ, List, [], ◌∷◌, fold, find, Option, Some, None, option_map, option_and_then, Result, Ok, Err, refl, sym, ◌∙◌, ap, subst}
use Rattle.std.specs.Option.{unwrap_or}
use Rattle.link_base.specs.declared.discard.Discard.{Discard}
use Rattle.link_base.specs.declared.names.Key.{Key}
use Rattle.link_base.specs.declared.names.PortName.{PortName}
use Rattle.link_base.specs.declared.names.PortName.TheVariants.{Direct, Pc5, Uu}
use Rattle.link_base.specs.declared.names.Side.{Side}
use Rattle.link_base.specs.declared.names.Timer.{Timer}
use Rattle.link_base.specs.declared.rlc_words.Expired.{Expired}
use Rattle.link_base.specs.declared.rlc_words.Tag.{Tag}
use Rattle.bearer_map.specs.declared.routes.Route.{Route}
use Rattle.bearer_map.specs.Contents.{Contents}
use Rattle.rlc_model.specs.declared.hop.HopGrant.{HopGrant}
use Rattle.rlc_model.specs.declared.hop.HopHeard.{HopHeard}
use Rattle.rlc_model.specs.declared.hop.HopHeard.TheVariants.{Amd, Status, BadAmd, BadStatus}
use Rattle.rlc_model.specs.declared.hop.Pdu.{Pdu}
use Rattle.rlc_model.specs.declared.receiver.Heard.TheVariants.{Stored, Repeat, Outside, Conflict, Complete}
use Rattle.rlc_model.specs.declared.transmitter.StatusHeard.TheVariants.{Acked, Old, Beyond}
use Rattle.rlc_model.specs.Hop.{HearsHop}
use Rattle.rlc_model.specs.Rx.{Rx}
use Rattle.rlc_model.specs.Sides.{Entity}
use Rattle.rlc_model.specs.Tx.{Tx}
use Rattle.node_model.specs.declared.answers.NodeHeard.{NodeHeard}
use Rattle.node_model.specs.declared.parcel.Parcel.{Parcel}
use Rattle.node_model.specs.Ends.{HearsPdcp, data_pdu, report, neither, confirm_count, confirm_tags}
use Rattle.node_model.specs.Hearing.{hear_refusal, Passes, Follows, HearsSide, HearsUnless, HearsPdu}
use Rattle.node_model.specs.Names.{NodeName, is_node, is_port}
use Rattle.node_model.specs.Routing.{Target, ToPdcp, Onward, Leads}
use Rattle.node_model.specs.Sides.{IsOpen, GrantsSide, ExpiresSide}
use Rattle.node_model.specs.State.{PortSide, Node, side_at, entity_of, entity_at, slot_of, slot_at, queue_of, queue_at, set_side, set_entity}
use Rattle.node_model.proofs.Finding.{find_none}
use Rattle.node_model.proofs.Names.{cases_port, cases_node}
use Rattle.chain_model.proofs.Lookups.{cases_found}
use Rattle.chain_model.specs.State.{Chain, node_at, set_node}
use Rattle.chain_law.proofs.Chains.{node_in, node_set, node_kept}
use Rattle.chain_law.proofs.Nodes.{side_name, side_set}
use Rattle.chain_law.proofs.Stands.{SideChanges}
use Rattle.heard_law.proofs.Leading.{leads_same}

-- two nodes have the same in their slots and queues
pub record SameLists (old new : Node) : Type 0 where
  pub slots : (i : PortName) → slot_at new i ≡ slot_at old i
  pub queues : (q : PortName) → queue_at new q ≡ queue_at old q

pub lists_ports : (old new : Node) → new.ports ≡ old.ports → SameLists old new
lists_ports old new same = record {
  slots = λ i. ap (λ (ports : List PortSide). option_and_then slot_of (find (λ (s : PortSide). is_port i s.name) ports)) same;
  queues = λ q. ap (λ (ports : List PortSide). unwrap_or (option_map queue_of (find (λ (s : PortSide). is_port q s.name) ports)) []) same;
}

pub lists_same : (old new : Node) → new ≡ old → SameLists old new
lists_same old new is = lists_ports old new (ap (λ (n : Node). n.ports) is)

pub lists_then : (a b c : Node) → SameLists a b → SameLists b c → SameLists a c
lists_then a b c first second = record { slots = λ i. second.slots i ∙ first.slots i; queues = λ q. second.queues q ∙ first.queues q }

-- a side is set
module _ (n : Node) (port : PortName) (was now : PortSide) (here : side_at n port ≡ Some was) (name : now.name ≡ was.name) where
  abbrev changes : SideChanges n port now (set_side n now)
  changes = side_set n port was now here name

  pub slot_here : slot_at (set_side n now) port ≡ now.slot
  slot_here = ap (option_and_then slot_of) changes.here

  pub slot_other : (q : PortName) → (q ≡ port → ⊥) → slot_at (set_side n now) q ≡ slot_at n q
  slot_other q ne = ap (option_and_then slot_of) (changes.others q ne)

  pub queue_here : queue_at (set_side n now) port ≡ now.queue
  queue_here = ap (λ (o : Option PortSide). unwrap_or (option_map queue_of o) []) changes.here

  pub queue_other : (q : PortName) → (q ≡ port → ⊥) → queue_at (set_side n now) q ≡ queue_at n q
  queue_other q ne = ap (λ (o : Option PortSide). unwrap_or (option_map queue_of o) []) (changes.others q ne)

  pub slots_stay : now.slot ≡ was.slot → (i : PortName) → slot_at (set_side n now) i ≡ slot_at n i
  slots_stay same i = elim (cases_port i port) [
    | inr ne ↦ slot_other i ne
    | inl this ↦ ap (slot_at (set_side n now)) this ∙ slot_here ∙ same ∙ sym (ap (slot_at n) this ∙ ap (option_and_then slot_of) here)
  ]

  pub queues_stay : now.queue ≡ was.queue → (q : PortName) → queue_at (set_side n now) q ≡ queue_at n q
  queues_stay same q = elim (cases_port q port) [
    | inr ne ↦ queue_other q ne
    | inl this ↦ ap (queue_at (set_side n now)) this ∙ queue_here ∙ same ∙ sym (ap (queue_at n) this ∙ ap (λ (o : Option PortSide). unwrap_or (option_map queue_of o) []) here)
  ]

  pub entities_stay : now.entity ≡ was.entity → (q : PortName) → entity_at (set_side n now) q ≡ entity_at n q
  entities_stay same q = elim (cases_port q port) [
    | inr ne ↦ ap (option_and_then entity_of) (changes.others q ne)
    | inl this ↦ ap (entity_at (set_side n now)) this ∙ ap (option_and_then entity_of) changes.here ∙ same ∙ sym (ap (entity_at n) this ∙ ap (option_and_then entity_of) here)
  ]

  pub lists_set : now.slot ≡ was.slot → now.queue ≡ was.queue → SameLists n (set_side n now)
  lists_set slot queue = record { slots = slots_stay slot; queues = queues_stay queue }

pub entity_lists : (n : Node) (port : PortName) (side : PortSide) (entity e : Entity) → IsOpen n port side entity → SameLists n (set_entity n side e)
entity_lists n port side entity e its = lists_set n port side (record side { entity = Some e }) its.here refl refl refl

pub grants_lists : (old : Node) (port : PortName) (octets epoch : ℕ) (answer : HopGrant) (new : Node) → GrantsSide old port octets epoch answer new → SameLists old new
grants_lists old port octets epoch answer new g = subst (SameLists old) (sym g.is) (entity_lists old port g.side g.entity (record g.entity { tx = g.tx; rx = g.rx }) g.its)

pub expires_lists : (old : Node) (port : PortName) (timer : Timer) (expired : Expired) (new : Node) → ExpiresSide old port timer expired new → SameLists old new
expires_lists old port timer expired new x = subst (SameLists old) (sym x.is) (entity_lists old port x.side x.entity (record x.entity { tx = x.tx; rx = x.rx }) x.its)

-- PDCP changes no port
pdcp_ports : (old : Node) (key : Key) (pdu : List ℕ) (answer : NodeHeard) (new : Node) → HearsPdcp old key pdu answer new → new.ports ≡ old.ports
pdcp_ports old key pdu answer new (data_pdu sn sdu is h) = ap (λ (n : Node). n.ports) h.is
pdcp_ports old key pdu answer new (report fmc bits is (inl taken)) = ap (λ (n : Node). n.ports) taken.2
pdcp_ports old key pdu answer new (report fmc bits is (inr beyond)) = ap (λ (n : Node). n.ports) beyond.2
pdcp_ports old key pdu answer new (neither fault is says same) = ap (λ (n : Node). n.ports) same

count_ports : (n : Node) (key : Key) (count : Option ℕ) → (confirm_count n key count).ports ≡ n.ports
count_ports n key None = refl
count_ports n key (Some count) = refl

tags_ports : (n : Node) (tags : List Tag) → (fold (λ node (tag : Tag). confirm_count node tag.key tag.count) n tags).ports ≡ n.ports
tags_ports n [] = refl
tags_ports n (tag ∷ tags) = tags_ports (confirm_count n tag.key tag.count) tags ∙ count_ports n tag.key tag.count

confirm_ports : (n : Node) (port : PortName) (tags : List Tag) → (confirm_tags n port tags).ports ≡ n.ports
confirm_ports n (Direct remote drb) tags = tags_ports n tags
confirm_ports n (Pc5 remote chan) tags = refl
confirm_ports n (Uu chan) tags = refl

-- a PDU that is heard on a port completes an SDU which leads on, and which comes into the port's slot
pub record Fills (t : Contents) (old : Node) (at : Side) (pdu : Pdu) (i : PortName) (parcel : Parcel) : Type 0 where
  pub its_port : i ≡ pdu.port
  pub none : hear_refusal pdu (side_at old pdu.port) ≡ None
  pub side : PortSide
  pub entity : Entity
  pub its : IsOpen old pdu.port side entity
  pub number : ℕ
  pub whole : List ℕ
  pub tx : Tx
  pub rx : Rx
  pub hears : HearsHop entity.tx entity.rx pdu.bytes (Amd (Complete number whole)) tx rx
  pub route : Route
  pub leads : Leads t old at pdu.port whole (Ok (Onward route))
  pub is : parcel ≡ record { from = pdu.port; route = route; sdu = whole }

-- queues stay, and a slot that doesn't was filled
pub record HearsLists (t : Contents) (old : Node) (at : Side) (pdu : Pdu) (new : Node) : Type 0 where
  pub slots : (i : PortName) → (slot_at new i ≡ slot_at old i) ⊎ ((parcel : Parcel) × (slot_at new i ≡ Some parcel) × Fills t old at pdu i parcel)
  pub queues : (q : PortName) → queue_at new q ≡ queue_at old q

-- where nothing comes into a slot
unfilled : (t : Contents) (old : Node) (at : Side) (pdu : Pdu) (new : Node) → SameLists old new → HearsLists t old at pdu new
unfilled t old at pdu new same = record { slots = λ i. inl (same.slots i); queues = same.queues }

module _ (t : Contents) (old : Node) (at : Side) (pdu : Pdu) (answer : NodeHeard) (new : Node) (none : hear_refusal pdu (side_at old pdu.port) ≡ None)
    (h : HearsSide t old at pdu.port pdu.bytes answer new) where
  abbrev here : PortSide
  here = record h.side { entity = Some h.behind }

  abbrev mid : Node
  mid = set_side old here

  first : SameLists old mid
  first = lists_set old pdu.port h.side here h.its.here refl refl refl

  found : side_at mid pdu.port ≡ Some here
  found = (side_set old pdu.port h.side here h.its.here refl).here

  behind : new.ports ≡ mid.ports → HearsLists t old at pdu new
  behind same = unfilled t old at pdu new (lists_then old mid new first (lists_ports mid new same))

  its_name : pdu.port ≡ h.side.name
  its_name = side_name old pdu.port h.side h.its.here

  passes : (number : ℕ) (whole : List ℕ) → HearsHop h.entity.tx h.entity.rx pdu.bytes (Amd (Complete number whole)) h.tx h.rx → (target : Result Target Discard)
      → Leads t mid at h.side.name whole target → Passes mid here whole target answer new → HearsLists t old at pdu new
  passes number whole hears (Ok (ToPdcp key body)) leads p = behind (pdcp_ports mid key body answer new p)
  passes number whole hears (Err discard) leads p = behind (ap (λ (n : Node). n.ports) p.1)
  passes number whole hears (Ok (Onward route)) leads p = record {
    slots = λ i. elim (cases_port i pdu.port) [
      | inr ne ↦ inl (ap (λ (n : Node). slot_at n i) p.1 ∙ slot_other mid pdu.port here full found refl i ne ∙ first.slots i)
      | inl this ↦ inr (
        parcel,
        ap (λ (n : Node). slot_at n i) p.1 ∙ ap (slot_at (set_side mid full)) this ∙ slot_here mid pdu.port here full found refl,
        record {
          its_port = this;
          none = none;
          side = h.side;
          entity = h.entity;
          its = h.its;
          number = number;
          whole = whole;
          tx = h.tx;
          rx = h.rx;
          hears = hears;
          route = route;
          leads = leads_same t mid old (λ r. refl) at pdu.port whole (Ok (Onward route))
              (subst (λ (p : PortName). Leads t mid at p whole (Ok (Onward route))) (sym its_name) leads);
          is = ap (λ (p : PortName). record { from = p; route = route; sdu = whole }) (sym its_name);
        },
      )
    ];
    queues = λ q. ap (λ (n : Node). queue_at n q) p.1 ∙ queues_stay mid pdu.port here full found refl refl q ∙ first.queues q;
  }
    where
      parcel : Parcel
      parcel = record { from = h.side.name; route = route; sdu = whole }

      full : PortSide
      full = record here { slot = Some parcel }

  follows : (hop : HopHeard) → HearsHop h.entity.tx h.entity.rx pdu.bytes hop h.tx h.rx → Follows t mid at here hop answer new → HearsLists t old at pdu new
  follows (Amd (Complete number whole)) hears f = passes number whole hears f.0 f.1 f.2
  follows (Status (Acked tags marks)) hears f = behind (ap (λ (n : Node). n.ports) f.1 ∙ confirm_ports mid h.side.name tags)
  follows (Amd Stored) hears f = behind (ap (λ (n : Node). n.ports) f.1)
  follows (Amd Repeat) hears f = behind (ap (λ (n : Node). n.ports) f.1)
  follows (Amd Outside) hears f = behind (ap (λ (n : Node). n.ports) f.1)
  follows (Amd Conflict) hears f = behind (ap (λ (n : Node). n.ports) f.1)
  follows (Status (Old ack next)) hears f = behind (ap (λ (n : Node). n.ports) f.1)
  follows (Status (Beyond ack top)) hears f = behind (ap (λ (n : Node). n.ports) f.1)
  follows (BadAmd fault) hears f = behind (ap (λ (n : Node). n.ports) f.1)
  follows (BadStatus fault) hears f = behind (ap (λ (n : Node). n.ports) f.1)

pub hears_lists : (t : Contents) (old : Node) (at : Side) (pdu : Pdu) (answer : NodeHeard) (new : Node) → HearsPdu t old at pdu answer new → HearsLists t old at pdu new
hears_lists t old at pdu answer new = by (hear_refusal pdu (side_at old pdu.port)) refl
  where
    by : (refusal : Option NodeHeard) → hear_refusal pdu (side_at old pdu.port) ≡ refusal → HearsUnless refusal t old at pdu answer new → HearsLists t old at pdu new
    by (Some refusal) is x = unfilled t old at pdu new (lists_same old new x.1)
    by None none h = follows t old at pdu answer new none h h.hop h.hears h.follows

-- of a chain a node is set
pub set_lists : (c : Chain) (y : NodeName) (m : Node) → m.name ≡ y → SameLists (node_at c y) m → (x : NodeName) → SameLists (node_at c x) (node_at (set_node c m) x)
set_lists c y m name same x = elim (cases_node x y) [
  | inr ne ↦ lists_same (node_at c x) (node_at (set_node c m) x) (node_kept c y m name x ne)
  | inl this ↦ subst (λ (z : NodeName). SameLists (node_at c z) (node_at (set_node c m) z)) (sym this) (elim (cases_found (find (λ (n : Node). is_node y n.name) c.nodes)) [
    | inl there ↦ subst (SameLists (node_at c y)) (sym (node_set c y m name there.0 there.1)) same
    | inr none ↦ lists_same (node_at c y) (node_at (set_node c m) y) (ap (λ (ns : List Node). node_in ns y) (find_none (λ (n : Node). is_node m.name n.name) m c.nodes
        (ap (λ (z : NodeName). find (λ (n : Node). is_node z n.name) c.nodes) name ∙ none)))
  ])
]
