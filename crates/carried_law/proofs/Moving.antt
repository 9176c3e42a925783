-- The relay goes on: a PDU fills a slot, an SDU is pushed or pulled, and a plan is applied.
use Rattle.std.proofs.Common.{◌≡◌, inl, inr, ℕ, ◌+◌, ◌<◌, ◌≤◌, Bool, true, false, cond, List, [], ◌∷◌, ◌++◌, length, find, append_assoc, Option, Some, None, option_map, option_and_then, refl, sym, ◌∙◌, ap, subst, arith}
use Rattle.std.specs.List.{AllByRecursion}
use Rattle.std.specs.Option.{unwrap_or}
use Rattle.std.proofs.lemmas.Bool.{cases_Bool, cond-true, cond-false, false≢true}
use Rattle.std.proofs.lemmas.List.{length-append}
use Rattle.std.proofs.lemmas.Option.{none-some, same_Some}
use Rattle.link_base.specs.declared.names.Goal.{Goal}
use Rattle.link_base.specs.declared.names.Node.TheVariants as kinds
use Rattle.link_base.specs.declared.names.PortName.{PortName}
use Rattle.link_base.specs.declared.names.PortName.TheVariants.{Direct, Pc5, Uu}
use Rattle.link_base.specs.declared.names.Remote.{Remote}
use Rattle.link_base.specs.declared.names.SnSize.{SnSize}
use Rattle.bearer_map.specs.Contents.{Contents}
use Rattle.bearer_map.specs.declared.settings.Settings.{Settings}
use Rattle.rlc_model.specs.Sides.{Entity}
use Rattle.rlc_model.specs.Tx.{kept_at}
use Rattle.script_text.specs.History.{Entry}
use Rattle.node_model.specs.declared.parcel.Parcel.{Parcel}
use Rattle.node_model.specs.Names.{is_of, is_port}
use Rattle.node_model.specs.Opening.{new_entity}
use Rattle.node_model.specs.Relaying.{Pushes, Pulls}
use Rattle.node_model.specs.State.{PortSide, Node, side_at, entity_of, entity_at, slot_of, slot_at, queue_of, queue_at}
use Rattle.node_model.specs.Switching.{is_purged, side_after, node_after}
use Rattle.node_model.specs.Tables.{is_open_on}
use Rattle.node_model.proofs.Finding.{find_map}
use Rattle.node_model.proofs.Names.{cases_port, remote_is}
use Rattle.chain_model.specs.Carried.{Passed, IsPassed}
use Rattle.chain_model.specs.Told.{epoch_at}
use Rattle.chain_law.proofs.Nodes.{side_name, side_set}
use Rattle.chain_law.proofs.Pairs.{each_then}
use Rattle.carried_law.proofs.Holding.{SameLists, lists_ports, slot_here, slot_other, queue_here, queue_other, slots_stay, queues_stay, entities_stay}
use Rattle.carried_law.proofs.Keeping.{SideKeeps, side_itself}
use Rattle.carried_law.proofs.Relayed.{IsOf, Apart, Held, IsHeld, relay_epoch, PortLine, IsBehind, GoesOn, nowhere_before, passed_of, held_later, line_on, line_more, line_gives, line_cleared, extends_then, goes_then, recast, Relays, Carries}

-- a completion by the line behind a history comes behind all of the history
pub newest : (h : List Entry) (p w : Passed) → IsOf h p → w.before ≡ h → Apart p w
newest h p w is now same = (
  λ e. omega (arith, ap length (ap (λ (x : Passed). x.before) e ∙ now ∙ is.is), length-append is.later (is.entry ∷ p.before)),
  (is.later ++ is.entry ∷ [], now ∙ is.is ∙ sym (append_assoc is.later (is.entry ∷ []) p.before)),
)

pub new_behind : {t : Contents} {h : List Entry} {q : PortName} {entity : Option Entity} {queue : List Parcel} (l : PortLine t h q entity queue) (g : List Entry)
    (egress : PortName)
    (sdu : List ℕ) (w : Passed) → IsPassed t g egress sdu w → w.before ≡ h → IsBehind l w
new_behind {t} {h} {q} l g egress sdu w is now = record {
  given = λ epoch n. elim (l.past epoch n) [
    | inl past ↦ newest h (l.given epoch n) w past now
    | inr unused ↦ nowhere_before t g egress sdu n w (l.given epoch n) is unused
  ];
  queued = each_then (IsHeld t h q) (λ x. Apart x.passed w) (λ x held. newest h x.passed w (passed_of t h q x.parcel.sdu x.passed held.its) now) l.queued l.held;
}

-- a slot holds what it held, or nothing more, or was filled by the line
pub data SlotGoes (t : Contents) (h : List Entry) (x : Entry) (old new : Node) (i : PortName) : Type 0 where
  stays : ((parcel : Parcel) → slot_at new i ≡ Some parcel → slot_at old i ≡ Some parcel) → SlotGoes t h x old new i
  fills : (w : Held) → slot_at new i ≡ Some w.parcel → IsHeld t (x ∷ h) w.parcel.route.egress w → w.parcel.from ≡ i → w.passed.before ≡ h → SlotGoes t h x old new i

-- lines of ports go on, and slots hold what they held, or were filled
module _ {t : Contents} {h : List Entry} {old : Node} (r : Relays t h old) (x : Entry) (new : Node) (lines : (q : PortName)
    → GoesOn (r.line q) [] (x ∷ h) (entity_at new q) (queue_at new q))
    (slots : (i : PortName) → SlotGoes t h x old new i) where
  abbrev slotted_by : (i : PortName) → SlotGoes t h x old new i → Passed
  slotted_by i (stays so) = r.slotted i
  slotted_by i (fills w at held from now) = w.passed

  slot_held : (i : PortName) (s : SlotGoes t h x old new i) (parcel : Parcel) → slot_at new i ≡ Some parcel
      → IsHeld t (x ∷ h) parcel.route.egress (record { parcel = parcel; passed = slotted_by i s }) × (parcel.from ≡ i)
  slot_held i (stays so) parcel at =
      let was = r.in_slot i parcel (so parcel at) in
      (held_later t x h parcel.route.egress (record { parcel = parcel; passed = r.slotted i }) was.0, was.1)
  slot_held i (fills w at_w held from now) parcel at = subst (λ (p : Parcel). IsHeld t (x ∷ h) p.route.egress (record { parcel = p; passed = w.passed }) × (p.from ≡ i))
      (same_Some w.parcel parcel (sym at_w ∙ at)) (held, from)

  slot_behind : (i : PortName) (s : SlotGoes t h x old new i) (parcel : Parcel) → slot_at new i ≡ Some parcel → (q : PortName) → IsBehind (lines q).line (slotted_by i s)
  slot_behind i (stays so) parcel at q = (lines q).behind (r.slotted i) (r.behind i parcel (so parcel at) q) tt
  slot_behind i (fills w at_w held from now) parcel at q = (lines q).behind w.passed (new_behind (r.line q) (x ∷ h) w.parcel.route.egress w.parcel.sdu w.passed held.its now) tt

  pub relays_go : Carries r (x ∷ h) new
  relays_go = record {
    relays = record {
      line = λ q. (lines q).line;
      slotted = λ i. slotted_by i (slots i);
      in_slot = λ i. slot_held i (slots i);
      behind = λ i. slot_behind i (slots i);
    };
    extends = λ q. (lines q).extends;
  }

-- transmitters are given nothing, and queues stay
pub relays_on : {t : Contents} {h : List Entry} {old : Node} (r : Relays t h old) (x : Entry) (new : Node)
    → ((q : PortName) → SideKeeps (λ sdu. ⊥) (λ n. Unit {0}) (entity_at old q) (entity_at new q))
    → ((q : PortName) → queue_at new q ≡ queue_at old q) → ((i : PortName) → SlotGoes t h x old new i) → Carries r (x ∷ h) new
relays_on {t} {h} {old} r x new keeps queues slots = relays_go r x new
    (λ q. goes_then (r.line q) [] (x ∷ h) (entity_at new q) (queue_at old q) (line_on (r.line q) x (entity_at new q) (keeps q)) (x ∷ h) (entity_at new q) (queue_at new q)
    (recast (line_on (r.line q) x (entity_at new q) (keeps q)).line (entity_at new q) (queue_at new q) refl (queues q))) slots

-- what holds of the relay holds where nothing is passed on
pub relays_rest : {t : Contents} {h : List Entry} {old : Node} (r : Relays t h old) (x : Entry) (new : Node)
    → ((q : PortName) → SideKeeps (λ sdu. ⊥) (λ n. Unit {0}) (entity_at old q) (entity_at new q)) → SameLists old new → Carries r (x ∷ h) new
relays_rest r x new keeps same = relays_on r x new keeps same.queues (λ i. stays (λ parcel at. sym (same.slots i) ∙ at))

-- where its ports are as before
same_entity : (old new : Node) → new.ports ≡ old.ports → (q : PortName) → entity_at new q ≡ entity_at old q
same_entity old new ports q = ap (λ (l : List PortSide). option_and_then entity_of (find (λ (s : PortSide). is_port q s.name) l)) ports

pub relays_ports : {t : Contents} {h : List Entry} {old : Node} (r : Relays t h old) (x : Entry) (new : Node) → new.ports ≡ old.ports → Carries r (x ∷ h) new
relays_ports {old = old} r x new ports = relays_rest r x new (λ q. side_itself (entity_at old q) (entity_at new q) (same_entity old new ports q)) (lists_ports old new ports)

-- and where they are as behind a line
pub carries_ports : {t : Contents} {h : List Entry} {n : Node} (r : Relays t h n) (g : List Entry) (mid : Node) → Carries r g mid → (new : Node) → new.ports ≡ mid.ports
    → Carries r g new
carries_ports r g mid c new ports =
    let lists = lists_ports mid new ports in
    record {
      relays = record {
        line = λ q. (recast (c.relays.line q) (entity_at new q) (queue_at new q) (same_entity mid new ports q) (lists.queues q)).line;
        slotted = c.relays.slotted;
        in_slot = λ i parcel at. c.relays.in_slot i parcel (sym (lists.slots i) ∙ at);
        behind = λ i parcel at q. (recast (c.relays.line q) (entity_at new q) (queue_at new q) (same_entity mid new ports q) (lists.queues q)).behind (c.relays.slotted i)
            (c.relays.behind i parcel (sym (lists.slots i) ∙ at) q) tt;
      };
      extends = λ q epoch k. extends_then (c.extends q epoch k)
          ((recast (c.relays.line q) (entity_at new q) (queue_at new q) (same_entity mid new ports q) (lists.queues q)).extends epoch k);
    }

pub carries_then : {t : Contents} {h : List Entry} {n : Node} (r : Relays t h n) (g : List Entry) (mid : Node) (first : Carries r g mid) (i : List Entry) (new : Node)
    → Carries first.relays i new → Carries r i new
carries_then r g mid first i new second = record {
  relays = second.relays;
  extends = λ q epoch k. extends_then (first.extends q epoch k) (second.extends q epoch k);
}

-- an SDU is pushed from a slot into a queue
module _ {t : Contents} {g : List Entry} {old : Node} (r : Relays t g old) (port egress : PortName) (new : Node) (p : Pushes old port egress new) where
  abbrev longer : PortSide
  longer = record p.to { queue = p.to.queue ++ p.parcel ∷ [] }

  slot_full : slot_at old port ≡ Some p.parcel
  slot_full = ap (option_and_then slot_of) p.here ∙ p.full

  slots_now : (i : PortName) → slot_at new i ≡ slot_at p.mid i
  slots_now i = ap (λ (n : Node). slot_at n i) p.is ∙ slots_stay p.mid egress p.to longer p.there refl refl i

  slot_now : (i : PortName) → (i ≡ port → ⊥) → slot_at new i ≡ slot_at old i
  slot_now i ne = slots_now i ∙ ap (λ (n : Node). slot_at n i) p.empties ∙ slot_other old port p.from (record p.from { slot = None }) p.here refl i ne

  slot_empty : slot_at new port ≡ None
  slot_empty = slots_now port ∙ ap (λ (n : Node). slot_at n port) p.empties ∙ slot_here old port p.from (record p.from { slot = None }) p.here refl

  queues_mid : (q : PortName) → queue_at p.mid q ≡ queue_at old q
  queues_mid q = ap (λ (n : Node). queue_at n q) p.empties ∙ queues_stay old port p.from (record p.from { slot = None }) p.here refl refl q

  queue_now : queue_at new egress ≡ queue_at old egress ++ p.parcel ∷ []
  queue_now = ap (λ (n : Node). queue_at n egress) p.is ∙ queue_here p.mid egress p.to longer p.there refl
      ∙ ap (λ (l : List Parcel). l ++ p.parcel ∷ []) (sym (ap (λ (o : Option PortSide). unwrap_or (option_map queue_of o) []) p.there) ∙ queues_mid egress)

  queue_kept : (q : PortName) → (q ≡ egress → ⊥) → queue_at new q ≡ queue_at old q
  queue_kept q ne = ap (λ (n : Node). queue_at n q) p.is ∙ queue_other p.mid egress p.to longer p.there refl q ne ∙ queues_mid q

  abbrev moved : Held
  moved = record { parcel = p.parcel; passed = r.slotted port }

  its_slot : IsHeld t g p.parcel.route.egress moved × (p.parcel.from ≡ port)
  its_slot = r.in_slot port p.parcel slot_full

  -- what comes into the queue of a port
  record Comes (q : PortName) : Type 0 where
    more : List Held
    its : AllByRecursion (λ x. x ≡ moved) more
    goes : GoesOn (r.line q) more g (entity_at new q) (queue_at new q)

  entities : (q : PortName) → entity_at new q ≡ entity_at old q
  entities q = ap (λ (n : Node). entity_at n q) p.is ∙ entities_stay p.mid egress p.to longer p.there refl refl q
      ∙ ap (λ (n : Node). entity_at n q) p.empties ∙ entities_stay old port p.from (record p.from { slot = None }) p.here refl refl q

  comes : (q : PortName) → Comes q
  comes q = elim (cases_port q egress) [
    | inr ne ↦ record { more = []; its = tt; goes = recast (r.line q) (entity_at new q) (queue_at new q) (entities q) (queue_kept q ne) }
    | inl this ↦ subst Comes (sym this) (record {
      more = moved ∷ [];
      its = (refl, tt);
      goes =
          let l = line_more (r.line egress) (moved ∷ [])
          (subst (λ (e : PortName). IsHeld t g e moved) (sym p.its_egress) its_slot.0, tt) (tt, tt) (r.behind port p.parcel slot_full egress, tt) in
          goes_then (r.line egress) (moved ∷ []) g (entity_at old egress) (queue_at old egress ++ p.parcel ∷ []) l g (entity_at new egress) (queue_at new egress)
          (recast l.line (entity_at new egress) (queue_at new egress) (entities egress) queue_now);
    })
  ]

  -- what is in another slot came over another port
  apart_there : (i : PortName) (parcel : Parcel) → slot_at old i ≡ Some parcel → (i ≡ port → ⊥) → Apart moved.passed (r.slotted i)
  apart_there i parcel at ne same =
      let other = r.in_slot i parcel at in
      absurd (ne (sym (sym its_slot.1 ∙ sym its_slot.0.from ∙ same ∙ other.0.from ∙ other.1)))

  pub pushes_carry : Carries r g new
  pushes_carry = record {
    relays = record {
      line = λ q. (comes q).goes.line;
      slotted = r.slotted;
      in_slot = λ i parcel at. elim (cases_port i port) [
        | inl this ↦ absurd (none-some parcel (sym slot_empty ∙ sym (ap (slot_at new) this) ∙ at))
        | inr ne ↦ r.in_slot i parcel (sym (slot_now i ne) ∙ at)
      ];
      behind = λ i parcel at q. elim (cases_port i port) [
        | inl this ↦ absurd (none-some parcel (sym slot_empty ∙ sym (ap (slot_at new) this) ∙ at))
        | inr ne ↦
            let was = sym (slot_now i ne) ∙ at in
            (comes q).goes.behind (r.slotted i) (r.behind i parcel was q)
            (each_then (λ x. x ≡ moved) (λ x. Apart x.passed (r.slotted i)) (λ x is. subst (λ (y : Held). Apart y.passed (r.slotted i)) (sym is) (apart_there i parcel was ne))
            (comes q).more (comes q).its)
      ];
    };
    extends = λ q. (comes q).goes.extends;
  }

-- an SDU is pulled from a queue into its transmitter
module _ {t : Contents} {g : List Entry} {old : Node} (r : Relays t g old) (port : PortName) (number : ℕ) (new : Node) (p : Pulls old port number new) where
  abbrev now : PortSide
  now = record p.side { entity = Some (record p.entity { tx = p.tx }); queue = p.parcels }

  entity_now : (q : PortName) → (q ≡ port → ⊥) → entity_at new q ≡ entity_at old q
  entity_now q ne = ap (λ (n : Node). entity_at n q) p.is ∙ ap (option_and_then entity_of) ((side_set old port p.side now p.its.here refl).others q ne)

  pulled : (q : PortName) → GoesOn (r.line q) [] g (entity_at new q) (queue_at new q)
  pulled q = elim (cases_port q port) [
    | inr ne ↦ recast (r.line q) (entity_at new q) (queue_at new q) (entity_now q ne) (ap (λ (n : Node). queue_at n q) p.is ∙ queue_other old port p.side now p.its.here refl q ne)
    | inl this ↦ subst (λ (x : PortName). GoesOn (r.line x) [] g (entity_at new x) (queue_at new x)) (sym this) (
        let first = recast (r.line port) (Some p.entity) (p.parcel ∷ p.parcels) (sym (ap (option_and_then entity_of) p.its.here ∙ p.its.is_open))
        (sym (ap (λ (o : Option PortSide). unwrap_or (option_map queue_of o) []) p.its.here ∙ p.waits)) in
        let second = goes_then (r.line port) [] g (Some p.entity) (p.parcel ∷ p.parcels) first g (Some (record p.entity { tx = p.tx })) p.parcels
        (line_gives t g port p.entity p.parcel p.parcels number p.tx p.gives first.line) in
        goes_then (r.line port) [] g (Some (record p.entity { tx = p.tx })) p.parcels second g (entity_at new port) (queue_at new port)
        (recast second.line (entity_at new port) (queue_at new port)
        (ap (λ (n : Node). entity_at n port) p.is ∙ ap (option_and_then entity_of) (side_set old port p.side now p.its.here refl).here)
        (ap (λ (n : Node). queue_at n port) p.is ∙ queue_here old port p.side now p.its.here refl)))
  ]

  pub pulls_carry : Carries r g new
  pulls_carry = record {
    relays = record {
      line = λ q. (pulled q).line;
      slotted = r.slotted;
      in_slot = λ i parcel at. r.in_slot i parcel (slot_was i parcel at);
      behind = λ i parcel at q. (pulled q).behind (r.slotted i) (r.behind i parcel (slot_was i parcel at) q) tt;
    };
    extends = λ q. (pulled q).extends;
  }
    where
      slot_was : (i : PortName) (parcel : Parcel) → slot_at new i ≡ Some parcel → slot_at old i ≡ Some parcel
      slot_was i parcel at = sym (ap (λ (n : Node). slot_at n i) p.is ∙ slots_stay old port p.side now p.its.here refl refl i) ∙ at

-- the relay applies a plan
module _ {t : Contents} {h : List Entry} {old : Node} (r : Relays t h old) (x : Entry) (s : Settings) (remote : Remote) (goal : Goal) (epoch : ℕ)
    (later : epoch ≡ epoch_at kinds.Relay remote h + 1) (applied : epoch_at kinds.Relay remote (x ∷ h) ≡ epoch_at kinds.Relay remote h + 1) where
  abbrev behind_plan : Node
  behind_plan = node_after s remote goal epoch old

  side_now : (q : PortName) → side_at behind_plan q ≡ option_map (side_after s remote goal epoch) (side_at old q)
  side_now q = find_map (side_after s remote goal epoch) (λ (y : PortSide). is_port q y.name) old.ports

  -- a remote's own ports stand in its epoch
  own_epochs : (q : PortName) (g : List Entry) → is_of remote q ≡ true → relay_epoch q g ≡ epoch_at kinds.Relay remote g
  own_epochs (Direct r d) g own = ap (λ (y : Remote). epoch_at kinds.Relay y g) (sym (remote_is remote r own))
  own_epochs (Pc5 r c) g own = ap (λ (y : Remote). epoch_at kinds.Relay y g) (sym (remote_is remote r own))
  own_epochs (Uu c) g own = absurd (false≢true own)

  opens : (q : PortName) → is_of remote q ≡ true → (b : Bool) (size : SnSize) (e : Entity) → cond b (Some (new_entity s size epoch)) None ≡ Some e
      → ((n : ℕ) → kept_at e.tx n ≡ None) × (relay_epoch q h < e.epoch) × (e.epoch ≤ relay_epoch q (x ∷ h))
  opens q own true size e is =
      let same : new_entity s size epoch ≡ e = same_Some (new_entity s size epoch) e is in (
        λ n. ap (λ (y : Entity). kept_at y.tx n) (sym same),
        omega (arith, own_epochs q h own, later, ap (λ (y : Entity). y.epoch) same),
        omega (arith, own_epochs q (x ∷ h) own, later, applied, ap (λ (y : Entity). y.epoch) same),
      )
  opens q own false size e is = absurd (none-some e is)

  applied_line : (q : PortName) (o : Option PortSide) → side_at old q ≡ o → GoesOn (r.line q) [] (x ∷ h) (entity_at behind_plan q) (queue_at behind_plan q)
  applied_line q None at =
      let none : side_at behind_plan q ≡ None = side_now q ∙ ap (option_map (side_after s remote goal epoch)) at in
      let entity : entity_at behind_plan q ≡ entity_at old q = ap (option_and_then entity_of) none ∙ sym (ap (option_and_then entity_of) at) in
      let first = line_on (r.line q) x (entity_at behind_plan q) (side_itself (entity_at old q) (entity_at behind_plan q) entity) in
      goes_then (r.line q) [] (x ∷ h) (entity_at behind_plan q) (queue_at old q) first (x ∷ h) (entity_at behind_plan q) (queue_at behind_plan q)
      (recast first.line (entity_at behind_plan q) (queue_at behind_plan q) refl
      (ap (λ (o : Option PortSide). unwrap_or (option_map queue_of o) []) none ∙ sym (ap (λ (o : Option PortSide). unwrap_or (option_map queue_of o) []) at)))
  applied_line q (Some y) at = elim (cases_Bool (is_of remote y.name)) [
    | inl own ↦
        let first = line_cleared (r.line q) x (entity_at behind_plan q) (λ e is. opens q (ap (is_of remote) (side_name old q y at) ∙ own) (is_open_on goal y.name) y.size e
        (sym (cond-true (is_of remote y.name) (cond (is_open_on goal y.name) (Some (new_entity s y.size epoch)) None) y.entity own)
        ∙ sym (ap (option_and_then entity_of) there) ∙ is)) in
        goes_then (r.line q) [] (x ∷ h) (entity_at behind_plan q) [] first (x ∷ h) (entity_at behind_plan q) (queue_at behind_plan q)
        (recast first.line (entity_at behind_plan q) (queue_at behind_plan q) refl
        (ap (λ (o : Option PortSide). unwrap_or (option_map queue_of o) []) there ∙ cond-true (is_of remote y.name) [] y.queue own))
    | inr other ↦
        let entity : entity_at behind_plan q ≡ entity_at old q = ap (option_and_then entity_of) there
        ∙ cond-false (is_of remote y.name) (cond (is_open_on goal y.name) (Some (new_entity s y.size epoch)) None) y.entity other ∙ sym (ap (option_and_then entity_of) at) in
        let first = line_on (r.line q) x (entity_at behind_plan q) (side_itself (entity_at old q) (entity_at behind_plan q) entity) in
        goes_then (r.line q) [] (x ∷ h) (entity_at behind_plan q) (queue_at old q) first (x ∷ h) (entity_at behind_plan q) (queue_at behind_plan q)
        (recast first.line (entity_at behind_plan q) (queue_at behind_plan q) refl
        (ap (λ (o : Option PortSide). unwrap_or (option_map queue_of o) []) there ∙ cond-false (is_of remote y.name) [] y.queue other
        ∙ sym (ap (λ (o : Option PortSide). unwrap_or (option_map queue_of o) []) at)))
  ]
    where
      there : side_at behind_plan q ≡ Some (side_after s remote goal epoch y)
      there = side_now q ∙ ap (option_map (side_after s remote goal epoch)) at

  slot_was : (i : PortName) (parcel : Parcel) (o : Option PortSide) → side_at old i ≡ o → slot_at behind_plan i ≡ Some parcel → slot_at old i ≡ Some parcel
  slot_was i parcel None at is = absurd (none-some parcel (sym (ap (option_and_then slot_of) (side_now i ∙ ap (option_map (side_after s remote goal epoch)) at)) ∙ is))
  slot_was i parcel (Some y) at is = ap (option_and_then slot_of) at
      ∙ by (is_purged remote y) (sym (ap (option_and_then slot_of) (side_now i ∙ ap (option_map (side_after s remote goal epoch)) at)) ∙ is)
    where
      by : (b : Bool) → cond b None y.slot ≡ Some parcel → y.slot ≡ Some parcel
      by true e = absurd (none-some parcel e)
      by false e = e

  pub applies_carry : Carries r (x ∷ h) behind_plan
  applies_carry = relays_go r x behind_plan (λ q. applied_line q (side_at old q) refl) (λ i. stays (λ parcel is. slot_was i parcel (side_at old i) refl is))
