-- A PDU comes to its node: what that leaves in the relay's slots and queues, and the completion of what comes into a slot.
use Rattle.std.proofs.Common.{◌≡◌, ◌⊎◌, inl, inr, ℕ, Bool, true, false, cond, List, [], ◌∷◌, find, Option, Some, option_and_then, Ok, refl, sym, ◌∙◌, ap, subst}
use Rattle.link_base.specs.declared.names.PortName.{PortName}
use Rattle.rlc_pdu.specs.Amd.{Amd}
use Rattle.bearer_map.specs.Contents.{Contents}
use Rattle.rlc_model.specs.declared.hop.Pdu.{Pdu}
use Rattle.rlc_model.specs.Hop.{on_air}
use Rattle.rlc_model.specs.Sides.{hearer_of}
use Rattle.script_text.specs.declared.event.Event.{Event}
use Rattle.script_text.specs.declared.reply.Reply.{Reply}
use Rattle.script_text.specs.History.{Entry}
use Rattle.node_model.specs.declared.parcel.Parcel.{Parcel}
use Rattle.node_model.specs.Hearing.{HearsPdu}
use Rattle.node_model.specs.Names.{NodeName, AtRelay, is_node, owner}
use Rattle.node_model.specs.Routing.{Onward, Leads}
use Rattle.node_model.specs.State.{Node, side_at, entity_of, entity_at, slot_at, queue_at}
use Rattle.node_model.proofs.Finding.{find_none}
use Rattle.node_model.proofs.Names.{cases_node}
use Rattle.chain_model.proofs.Lookups.{cases_found}
use Rattle.chain_model.specs.Carried.{Passed}
use Rattle.chain_model.specs.Heard.{HopOf, Delivered, HeardAt}
use Rattle.chain_model.specs.Lines.{is_handed_over, Comes}
use Rattle.chain_model.specs.State.{Chain, node_at, set_node}
use Rattle.chain_model.specs.Told.{known}
use Rattle.chain_law.proofs.Chains.{node_in, node_name, node_set, node_kept}
use Rattle.chain_law.proofs.Hearing.{Takes, hears_name, no_fault}
use Rattle.chain_law.proofs.Stands.{View, Limits, Stands, sides_of}
use Rattle.heard_law.specs.Foundations.{HeardLaws}
use Rattle.heard_law.specs.Receiving.{hop_at}
use Rattle.heard_law.proofs.Answering.{CompletesBetween, completes_between}
use Rattle.heard_law.proofs.Leading.{Same, leads_same}
use Rattle.heard_law.proofs.Logged.{logged}
use Rattle.carried_law.proofs.Holding.{Fills, HearsLists, hears_lists}
use Rattle.carried_law.proofs.Relayed.{IsHeld}

-- of the relay queues stay, and a slot that doesn't was filled by the PDU that came
pub record CameLists (old : Chain) (pdu : Pdu) (new : Chain) : Type 0 where
  pub slots : (i : PortName) → (slot_at (node_at new AtRelay) i ≡ slot_at (node_at old AtRelay) i)
      ⊎ ((owner (hearer_of pdu.way) pdu.port ≡ AtRelay) × (parcel : Parcel) × (slot_at (node_at new AtRelay) i ≡ Some parcel)
      × Fills old.tables (node_at old AtRelay) (hearer_of pdu.way) pdu i parcel)
  pub queues : (q : PortName) → queue_at (node_at new AtRelay) q ≡ queue_at (node_at old AtRelay) q

-- where the relay stays as it was
came_none : (old : Chain) (pdu : Pdu) (new : Chain) → node_at new AtRelay ≡ node_at old AtRelay → CameLists old pdu new
came_none old pdu new same = record { slots = λ i. inl (ap (λ (n : Node). slot_at n i) same); queues = λ q. ap (λ (n : Node). queue_at n q) same }

pub comes_lists : (old : Chain) (pdu : Pdu) (events : List Event) (reply : Reply) (new : Chain) (behind : Chain → Chain) → ((c : Chain) → (behind c).nodes ≡ c.nodes)
    → Comes old pdu events reply new behind → CameLists old pdu new
comes_lists old pdu events reply new behind stays c = by (is_handed_over c.answer) c.is
  where
    name : c.node.name ≡ owner (hearer_of pdu.way) pdu.port
    name = hears_name old.tables (node_at old (owner (hearer_of pdu.way) pdu.port)) (hearer_of pdu.way) pdu c.answer c.node c.hears
        ∙ node_name old (owner (hearer_of pdu.way) pdu.port)

    by : (b : Bool) → new ≡ cond b (behind (set_node old c.node)) old → CameLists old pdu new
    by false is = came_none old pdu new (ap (λ (d : Chain). node_at d AtRelay) is)
    by true is = elim (cases_node (owner (hearer_of pdu.way) pdu.port) AtRelay) [
      | inr ne ↦ came_none old pdu new (nodes ∙ node_kept old (owner (hearer_of pdu.way) pdu.port) c.node name AtRelay (λ e. ne (sym e)))
      | inl this ↦ elim (cases_found (find (λ (n : Node). is_node AtRelay n.name) old.nodes)) [
        | inr none ↦ came_none old pdu new (nodes ∙ ap (λ (ns : List Node). node_in ns AtRelay) (find_none (λ (n : Node). is_node c.node.name n.name) c.node old.nodes
            (ap (λ (z : NodeName). find (λ (n : Node). is_node z n.name) old.nodes) (name ∙ this) ∙ none)))
        | inl there ↦
            let set : node_at new AtRelay ≡ c.node = nodes ∙ node_set old AtRelay c.node (name ∙ this) there.0 there.1 in
            let lists : HearsLists old.tables (node_at old AtRelay) (hearer_of pdu.way) pdu c.node = hears_lists old.tables (node_at old AtRelay)
            (hearer_of pdu.way) pdu c.answer c.node
            (subst (λ (z : NodeName). HearsPdu old.tables (node_at old z) (hearer_of pdu.way) pdu c.answer c.node) this c.hears) in
            record {
              slots = λ i. elim (lists.slots i) [
                | inl same ↦ inl (ap (λ (n : Node). slot_at n i) set ∙ same)
                | inr filled ↦ inr (this, filled.0, ap (λ (n : Node). slot_at n i) set ∙ filled.1, filled.2)
              ];
              queues = λ q. ap (λ (n : Node). queue_at n q) set ∙ lists.queues q;
            }
      ]
    ]
      where
        nodes : node_at new AtRelay ≡ node_at (set_node old c.node) AtRelay
        nodes = ap (λ (d : Chain). node_at d AtRelay) is ∙ ap (λ (ns : List Node). node_in ns AtRelay) (stays (set_node old c.node))

-- what one history delivers of a hop another delivers, so what is heard by the one is heard by the other
pub heard_more : (hop : HopOf) (a b : List Entry) → ((number : ℕ) (fields : Amd) → Delivered hop a number fields → Delivered hop b number fields) → (number : ℕ) (sdu : List ℕ)
    → HeardAt hop a number sdu → HeardAt hop b number sdu
heard_more hop a b more number sdu is = record {
  end = (is.end.0, more number is.end.0 is.end.1, is.end.2, is.end.3);
  bytes = λ place low. let x = is.bytes place low in (x.0, more number x.0 x.1, x.2);
}

-- an SDU that comes into a slot of the relay by a line behind a history, and its completion: its number was heard by what was delivered before and with
-- the PDU, and not by what was delivered before
pub record Filled (t : Contents) (h : List Entry) (x : Entry) (before behind : List Entry) (parcel : Parcel) : Type 0 where
  pub passed : Passed
  pub held : IsHeld t (x ∷ h) parcel.route.egress (record { parcel = parcel; passed = passed })
  pub now : passed.before ≡ h
  pub sdu : List ℕ
  pub done : HeardAt passed.hop behind passed.number sdu
  pub undone : (other : List ℕ) → HeardAt passed.hop before passed.number other → ⊥

pub filled : (laws : HeardLaws) (t : Contents) (h : List Entry) (x : Entry) (before behind : List Entry) {view : View} {limit : Limits} {air : List (Option Pdu)}
    → Stands (logged t before) t view limit air → (ticket : ℕ) (pdu : Pdu) → on_air air ticket ≡ Some pdu → (n : Node)
    → sides_of view (hearer_of pdu.way) pdu.port ≡ entity_at n pdu.port → Same n.attached (known t AtRelay h).attached → owner (hearer_of pdu.way) pdu.port ≡ AtRelay
    → (pdu.status ≡ false → Takes t pdu (logged t before) (logged t behind))
    → ((hop : HopOf) (number : ℕ) (fields : Amd) → Delivered hop behind number fields → Delivered hop (x ∷ h) number fields)
    → ((hop : HopOf) (number : ℕ) (fields : Amd) → Delivered hop h number fields → Delivered hop before number fields)
    → (i : PortName) (parcel : Parcel) → Fills t n (hearer_of pdu.way) pdu i parcel → Filled t h x before behind parcel × (parcel.from ≡ i)
filled laws t h x before behind s ticket pdu on n sees same at takes more less i parcel f = (
  record {
    passed = passed;
    held = record {
      its = record {
        entry = x;
        later = [];
        its = refl;
        its_size = refl;
        at_relay = at;
        completes = record {
          now = subst (HeardAt hop (x ∷ h) f.number) (sym sdu_is) (heard_more hop behind (x ∷ h) (more hop) f.number f.whole between.now);
          before = λ was. between.before parcel.sdu (heard_more hop h before (less hop) f.number parcel.sdu was);
        };
        route = parcel.route;
        leads = leads_same t n (known t AtRelay h) same (hearer_of pdu.way) pdu.port parcel.sdu (Ok (Onward parcel.route))
            (subst (λ (p : Parcel). Leads t n (hearer_of pdu.way) pdu.port p.sdu (Ok (Onward p.route))) (sym f.is) f.leads);
        egress = refl;
      };
      from = ap (λ (p : Parcel). p.from) (sym f.is);
    };
    now = refl;
    sdu = f.whole;
    done = between.now;
    undone = between.before;
  },
  ap (λ (p : Parcel). p.from) f.is ∙ sym f.its_port,
)
  where
    hop : HopOf
    hop = hop_at t pdu.port pdu.way pdu.epoch

    passed : Passed
    passed = record { hop = hop_at t pdu.port pdu.way pdu.epoch; number = f.number; before = h }

    sdu_is : parcel.sdu ≡ f.whole
    sdu_is = ap (λ (p : Parcel). p.sdu) f.is

    between : CompletesBetween (hop_at t pdu.port pdu.way pdu.epoch) before behind f.number f.whole
    between = completes_between laws t before behind s ticket pdu on f.entity (sees ∙ ap (option_and_then entity_of) f.its.here ∙ f.its.is_open)
        (no_fault pdu (side_at n pdu.port) f.side f.entity f.none f.its.here f.its.is_open) f.number f.whole f.tx f.rx f.hears takes
