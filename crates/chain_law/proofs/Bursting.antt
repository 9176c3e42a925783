-- A burst: at each port of the relay a list of hearings, pushes and gives, one port after another.
use Rattle.std.proofs.Common.{◌≡◌, ◌⊎◌, inl, inr, ℕ, Bool, true, false, cond, List, [], ◌∷◌, ◌++◌, map, fold, find, append_assoc, append-nil, Option, Some, None, option_map, refl, sym, ◌∙◌, ap, subst}
use Rattle.std.specs.List.{AllByRecursion, AllZip, list_any}
use Rattle.std.proofs.lemmas.Bool.{cases_Bool, cond-true, cond-false}
use Rattle.std.proofs.lemmas.Option.{none-some, same_Some}
use Rattle.link_base.specs.declared.names.PortName.{PortName}
use Rattle.rlc_model.specs.declared.hop.Pdu.{Pdu}
use Rattle.rlc_model.specs.Hop.{on_air, off_air}
use Rattle.rlc_model.specs.Sides.{Entity, hearer_of, way_from}
use Rattle.rlc_model.specs.Tx.{Tx}
use Rattle.rlc_law.specs.Hop.Event.{Give}
use Rattle.script_text.specs.declared.event.Event.{Event}
use Rattle.script_text.specs.declared.event.Event.TheVariants.{Heard as HeardTicket}
use Rattle.script_text.specs.declared.reply.Reply.{Reply}
use Rattle.script_text.specs.declared.reply.Reply.TheVariants.{Gone, Stale}
use Rattle.node_model.specs.declared.parcel.Parcel.{Parcel}
use Rattle.node_model.specs.Names.{NodeName, AtRelay, is_node, is_port, owner}
use Rattle.node_model.specs.State.{PortSide, Node, side_at, set_side}
use Rattle.node_model.specs.Relaying.{parcel_tag}
use Rattle.chain_model.specs.State.{Chain, node_at, set_node}
use Rattle.chain_model.specs.Lines.{hearer, is_handed_over}
use Rattle.chain_model.specs.Told.{event_hears}
use Rattle.chain_model.specs.Bursts.{goes_over, inbox, with_side, Treats, Ingests, ends, stops, pushes, hears, Ingress, Egress, GivesEach, GivesAll, Emits, air_after, behind_ingress, behind_egress}
use Rattle.node_model.proofs.Names.{cases_node, port_refl, port_apart, cases_port}
use Rattle.chain_law.proofs.Pairs.{each_passes, each_picked}
use Rattle.chain_law.specs.Foundations.{RlcLaws}
use Rattle.chain_law.proofs.Stands.{Logs, Implies, Stands, stands_implied, moves, shown, put, put_alike, stands_same, window, calls, SideChanges, node_stands, window_shown}
use Rattle.chain_law.proofs.Nodes.{SideFits, ParcelFits, port_of, side_name, side_set, side_fits, fits_side}
use Rattle.chain_law.proofs.Chains.{Holds, view, node_fits, node_name, node_there, node_set, node_kept, off_holds}
use Rattle.chain_law.proofs.Hearing.{Into, HearsOn, not_handed, hears_stand, hears_name}

-- a node that has this one side of a port
abbrev pub alone : PortSide → Node
alone s = record { name = AtRelay; ports = s ∷ []; attached = []; outgoing = []; incoming = [] }

alone_here : (p : PortName) (s : PortSide) → s.name ≡ p → side_at (alone s) p ≡ Some s
alone_here p s name = cond-true (is_port p s.name) (Some s) None (ap (is_port p) name ∙ port_refl p)

alone_changes : (p : PortName) (was now : PortSide) → was.name ≡ p → now.name ≡ p → SideChanges (alone was) p now (alone now)
alone_changes p was now name new_name = record {
  here = alone_here p now new_name;
  others = λ q ne. cond-false (is_port q now.name) (Some now) None (port_apart q now.name (λ e. ne (e ∙ new_name)))
      ∙ sym (cond-false (is_port q was.name) (Some was) None (port_apart q was.name (λ e. ne (e ∙ name))));
}

-- the sides of ports where this one stands in the place of its port's
abbrev pub with_one : PortName → (PortName → Option PortSide) → PortSide → PortName → Option PortSide
with_one p rest s = window (is_port p) rest (alone s)

one_here : (p : PortName) (rest : PortName → Option PortSide) (s : PortSide) (q : PortName) → s.name ≡ p → q ≡ p → with_one p rest s q ≡ Some s
one_here p rest s q name same = cond-true (is_port p q) (side_at (alone s) q) (rest q) (ap (is_port p) same ∙ port_refl p) ∙ ap (side_at (alone s)) same ∙ alone_here p s name

one_other : (p : PortName) (rest : PortName → Option PortSide) (s : PortSide) (q : PortName) → (q ≡ p → ⊥) → with_one p rest s q ≡ rest q
one_other p rest s q ne = cond-false (is_port p q) (side_at (alone s) q) (rest q) (port_apart p q (λ e. ne (sym e)))

-- sides of ports that agree at a port with one side, and elsewhere with others, are those
pub one_is : (p : PortName) (rest : PortName → Option PortSide) (s : PortSide) (sides : PortName → Option PortSide) → s.name ≡ p → sides p ≡ Some s
    → ((q : PortName) → (q ≡ p → ⊥) → sides q ≡ rest q) → (q : PortName) → with_one p rest s q ≡ sides q
one_is p rest s sides name here others q = elim (cases_port q p) [
  | inl same ↦ one_here p rest s q name same ∙ sym here ∙ ap sides (sym same)
  | inr ne ↦ one_other p rest s q ne ∙ sym (others q ne)
]

-- what the port of a name told as heard
abbrev pub heard_at : List PortSide → List Ingress → PortName → List Event
heard_at [] is p = []
heard_at (s ∷ ss) [] p = []
heard_at (s ∷ ss) (i ∷ is) p = cond (is_port p s.name) i.heard (heard_at ss is p)

-- what goes off the air in a burst
pub air_case : (air : List (Option Pdu)) (e : Event) → (air_after air e ≡ air) ⊎ ((ticket : ℕ) × (air_after air e ≡ off_air air ticket))
air_case air (HeardTicket ticket Gone) = inl refl
air_case air (HeardTicket ticket (Stale number next)) = inl refl
air_case air (HeardTicket ticket reply) = inr (ticket, refl)
air_case air event = inl refl

-- what is said of what was heard while a burst goes on, by the events of the tickets treated so far: a PDU that is treated is said as one that comes, and
-- what is said depends on the tickets alone that are told as heard
pub record SaysOn (c : Chain) (IsStaged : ℕ → Type 0) (said : List Event → Logs) : Type 0 where
  pub staged : AllByRecursion IsStaged c.staged
  pub treats : (done : List Event) (ticket : ℕ) (pdu : Pdu) → on_air c.air ticket ≡ Some pdu → (side new : PortSide) (reply : Reply) → Treats c pdu side reply new
      → Into (said done) c.tables (side_at (hearer pdu (with_side c side)) pdu.port) pdu (said (done ++ HeardTicket ticket reply ∷ []))
  pub elsewhere : (done : List Event) (ticket : ℕ) → IsStaged ticket → (pdu : Pdu) → on_air c.air ticket ≡ Some pdu → (owner (hearer_of pdu.way) pdu.port ≡ AtRelay → ⊥)
      → (reply : Reply)
      → Implies (said done) (said (done ++ HeardTicket ticket reply ∷ []))
  pub again : (done more : List Event) → ((ticket : ℕ) → list_any (event_hears ticket) more ≡ true → list_any (event_hears ticket) done ≡ true)
      → Implies (said done) (said (done ++ more))

module _ (l : RlcLaws) {logs : Logs} where
  pub folded_holds : (events : List Event) (c : Chain) → Holds logs c → Holds logs (record c { air = fold air_after c.air events })
  folded_holds [] c h = record { limit = h.limit; apart = h.apart; stands = h.stands; fresh = h.fresh; nodes = h.nodes; tickets = h.tickets }
  folded_holds (e ∷ events) c h = folded_holds events (record c { air = air_after c.air e }) (elim (air_case c.air e) [
    | inl same ↦ subst (λ (air : List (Option Pdu)). Holds logs (record c { air = air })) (sym same)
        (record { limit = h.limit; apart = h.apart; stands = h.stands; fresh = h.fresh; nodes = h.nodes; tickets = h.tickets })
    | inr off ↦ subst (λ (air : List (Option Pdu)). Holds logs (record c { air = air })) (sym off.1) (off_holds l c off.0 h)
  ])

module _ (l : RlcLaws) (c : Chain) {first_said : Logs} (h : Holds first_said c) where
  abbrev pub relay : Node
  relay = node_at c AtRelay

  abbrev pub StandsWith : Logs → (PortName → Option PortSide) → Type 0
  StandsWith q sides = Stands q c.tables (put (view c) AtRelay sides) h.limit c.air

  pub alike : {logs : Logs} (old new : PortName → Option PortSide) → ((q : PortName) → new q ≡ old q) → StandsWith logs old → StandsWith logs new
  alike old new same s = stands_same _ (put_alike (view c) AtRelay old new (λ q own. ap (option_map shown) (same q))) s

  module _ (p : PortName) (first : PortSide) (there : side_at relay p ≡ Some first) (rest : PortName → Option PortSide) where
    -- a side of the port on its way through a burst
    pub record OnItsWay (q : Logs) (s : PortSide) : Type 0 where
      pub stands : StandsWith q (with_one p rest s)
      pub fits : SideFits s
      pub name : s.name ≡ p

    on_implied : {q r : Logs} {s : PortSide} → Implies q r → OnItsWay q s → OnItsWay r s
    on_implied more o = record { stands = stands_implied more o.stands; fits = o.fits; name = o.name }

    first_name : first.name ≡ p
    first_name = sym (side_name relay p first there)

    -- a side of which the same is said stands alike
    pub resaid : {logs : Logs} (was now : PortSide) → now.name ≡ was.name → shown now ≡ shown was → StandsWith logs (with_one p rest was) → StandsWith logs (with_one p rest now)
    resaid was now name same s = stands_same _
        (put_alike (view c) AtRelay (with_one p rest was) (with_one p rest now) (λ q own. window_shown (is_port p) rest (alone was) (alone now) q
        (ap (λ (x : PortName). option_map shown (cond (is_port q x) (Some now) None)) name ∙ by (is_port q was.name)))) s
      where
        by : (b : Bool) → option_map shown (cond b (Some now) None) ≡ option_map shown (cond b (Some was) None)
        by true = ap (λ (x : _). Some x) same
        by false = refl

    module _ {IsStaged : ℕ → Type 0} {said : List Event → Logs} (on_and_on : SaysOn c IsStaged said) where
      -- the PDU of a ticket is treated
      pub treated : (done : List Event) (side new : PortSide) (ticket : ℕ) (pdu : Pdu) (reply : Reply) → IsStaged ticket → OnItsWay (said done) side → on_air c.air ticket ≡ Some pdu
          → is_port p pdu.port ≡ true → Treats c pdu side reply new → OnItsWay (said (done ++ HeardTicket ticket reply ∷ [])) new
      treated done side new ticket pdu reply staged o on over t = by (cases_node x AtRelay)
        where
          x : NodeName
          x = owner (hearer_of pdu.way) pdu.port

          n : Node
          n = set_side relay side

          sc : SideChanges relay p side n
          sc = side_set relay p first side there (o.name ∙ sym first_name)

          its_name : n.name ≡ AtRelay
          its_name = node_name c AtRelay

          found : node_at (with_side c side) AtRelay ≡ n
          found = node_set c AtRelay n its_name relay (node_there c AtRelay p first there)

          here : find (λ (y : Node). is_node AtRelay y.name) (with_side c side).nodes ≡ Some (node_at (with_side c side) AtRelay)
          here = node_there (with_side c side) AtRelay p side (ap (λ (y : Node). side_at y p) found ∙ sc.here)

          -- where the relay is as before
          stays : side_at (node_at t.1 AtRelay) side.name ≡ Some side → OnItsWay (said done) new
          stays same = subst (OnItsWay (said done)) (same_Some side new (sym same ∙ t.3)) o

          behind : Logs
          behind = said (done ++ HeardTicket ticket reply ∷ [])

          into : Into (said done) c.tables (side_at (hearer pdu (with_side c side)) pdu.port) pdu behind
          into = on_and_on.treats done ticket pdu on side new reply t

          unchanged : side_at n side.name ≡ Some side
          unchanged = ap (side_at n) o.name ∙ sc.here

          heard_elsewhere : (x ≡ AtRelay → ⊥) → (b : Bool) → side_at (node_at (cond b (set_node (with_side c side) t.2.node) (with_side c side)) AtRelay) side.name ≡ Some side
          heard_elsewhere ne true = ap (λ (y : Node). side_at y side.name)
              (node_kept (with_side c side) x t.2.node (hears_name c.tables _ (hearer_of pdu.way) pdu t.2.answer t.2.node t.2.hears ∙ node_name (with_side c side) x) AtRelay
              (λ e. ne (sym e)) ∙ found) ∙ unchanged
          heard_elsewhere ne false = ap (λ (y : Node). side_at y side.name) found ∙ unchanged

          module_heard : x ≡ AtRelay → (b : Bool) → side_at (node_at (cond b (set_node (with_side c side) t.2.node) (with_side c side)) AtRelay) side.name ≡ Some new
              → is_handed_over t.2.answer ≡ b → OnItsWay behind new
          module_heard is false e not_over = on_implied (not_handed c.tables (hearer pdu (with_side c side)) pdu t.2.answer t.2.node into t.2.hears not_over)
              (subst (OnItsWay (said done)) (same_Some side new (sym (ap (λ (y : Node). side_at y side.name) found ∙ unchanged) ∙ e)) o)
          module_heard is true e handed = record {
            stands = alike (window (is_port p) rest node) (with_one p rest new) (one_is p rest new (window (is_port p) rest node) name_new
                (cond-true (is_port p p) (side_at node p) (rest p) (port_refl p) ∙ is_new)
                (λ q ne. cond-false (is_port p q) (side_at node q) (rest q) (port_apart p q (λ e. ne (sym e)))))
                (subst (λ (y : NodeName). Stands behind c.tables (put (view c) y (window (is_port p) rest node)) h.limit c.air) is heard.0);
            fits = side_fits node p new heard.1.fits is_new;
            name = name_new;
          }
            where
              node : Node
              node = t.2.node

              comes_to : node_at (with_side c side) x ≡ n
              comes_to = ap (node_at (with_side c side)) is ∙ found

              before : Stands (said done) c.tables (put (view c) x (window (is_port p) rest n)) h.limit c.air
              before = subst (λ (y : NodeName). Stands (said done) c.tables (put (view c) y (window (is_port p) rest n)) h.limit c.air) (sym is)
                  (alike (with_one p rest side) (window (is_port p) rest n) (λ q. sym (one_is p rest side (window (is_port p) rest n) o.name
                  (cond-true (is_port p p) (side_at n p) (rest p) (port_refl p) ∙ sc.here)
                  (λ q ne. cond-false (is_port p q) (side_at n q) (rest q) (port_apart p q (λ e. ne (sym e)))) q)) o.stands)

              heard : Stands behind c.tables (put (view c) x (window (is_port p) rest node)) h.limit c.air × HearsOn (said done) behind n pdu.port node
              heard = hears_stand l c.tables (view c) (is_port p) rest ticket pdu on over n node t.2.answer (fits_side relay side (node_fits c h AtRelay) o.fits)
                  (subst (λ (y : Node). Into (said done) c.tables (side_at y pdu.port) pdu behind) comes_to into)
                  (subst (λ (y : Node). Rattle.node_model.specs.Hearing.HearsPdu c.tables y (hearer_of pdu.way) pdu t.2.answer node) comes_to t.2.hears) before

              node_is_set : node_at (set_node (with_side c side) node) AtRelay ≡ node
              node_is_set = node_set (with_side c side) AtRelay node (heard.1.name ∙ its_name) (node_at (with_side c side) AtRelay) here

              is_new : side_at node p ≡ Some new
              is_new = ap (side_at node) (sym o.name) ∙ ap (λ (y : Node). side_at y side.name) (sym node_is_set) ∙ e

              name_new : new.name ≡ p
              name_new = sym (side_name node p new is_new)

          by : (x ≡ AtRelay) ⊎ (x ≡ AtRelay → ⊥) → OnItsWay behind new
          by (inl is) = module_heard is (is_handed_over t.2.answer) (ap (λ (d : Chain). side_at (node_at d AtRelay) side.name) (sym t.2.is) ∙ t.3) refl
          by (inr ne) = on_implied (on_and_on.elsewhere done ticket staged pdu on ne reply) (stays (ap (λ (d : Chain). side_at (node_at d AtRelay) side.name) t.2.is
              ∙ heard_elsewhere ne (is_handed_over t.2.answer)))

      -- an ingress port works
      ingested : (done : List Event) {side new : PortSide} {tickets left : List ℕ} {heard : List Event} {put : List Parcel} → OnItsWay (said done) side
          → AllByRecursion (λ (ticket : ℕ). goes_over p (on_air c.air ticket) ≡ true) tickets → AllByRecursion IsStaged tickets → Ingests c side tickets heard put left new
          → OnItsWay (said (done ++ heard)) new × AllByRecursion ParcelFits put
      ingested done {side} o over staged (ends none) = (subst (λ (l : List Event). OnItsWay (said l) side) (sym (append-nil done)) o, tt)
      ingested done {side} o over staged (stops full) = (subst (λ (l : List Event). OnItsWay (said l) side) (sym (append-nil done)) o, tt)
      ingested done {side} o over staged (pushes parcel full more) =
          let then_more = ingested done (record {
            stands = resaid side (record side { slot = None }) refl refl o.stands;
            fits = record { slot = λ parcel e. absurd (none-some parcel e); queue = o.fits.queue };
            name = o.name;
          }) over staged more in
          (then_more.0, (o.fits.slot parcel full, then_more.1))
      ingested done {side} {new} o over staged (hears {mid = mid} {heard = heard} ticket pdu reply none on treats more) =
          let then_more = ingested (done ++ HeardTicket ticket reply ∷ []) (treated done side mid ticket pdu reply staged.0 o on
          (ap (goes_over p) (sym on) ∙ over.0) treats) over.1 staged.1 more in
          (subst (λ (l : List Event). OnItsWay (said l) new) (append_assoc done (HeardTicket ticket reply ∷ []) heard) then_more.0, then_more.1)

    -- an egress port gives its transmitter SDUs
    given : {logs : Logs} (side : PortSide) (entity : Entity) (a tx : Tx) (parcels : List Parcel) → side.name ≡ p → AllByRecursion ParcelFits parcels → GivesEach a parcels tx
        → StandsWith logs (with_one p rest (record side { entity = Some (record entity { tx = a }) }))
        → StandsWith logs (with_one p rest (record side { entity = Some (record entity { tx = tx }) }))
    given {logs} side entity a tx [] name fits g s = subst (λ (tx : Tx). StandsWith logs (with_one p rest (record side { entity = Some (record entity { tx = tx }) }))) (sym g) s
    given side entity a tx (parcel ∷ parcels) name fits g s =
        given side entity g.1 tx parcels name fits.1 g.3
        (node_stands l (view c) AtRelay (is_port p) rest
        (calls p (record side { entity = Some (record entity { tx = a }) }) (record side { entity = Some (record entity { tx = g.1 }) })
        (record entity { tx = a }) g.1 entity.rx (alone_here p _ name) refl refl refl
        (λ at q is. let m = l.give_moves q at a entity.rx is (parcel_tag parcel) parcel.sdu g.0 g.1 fits.0.some fits.0.most g.2 in moves (way_from at)
        (Give (parcel_tag parcel) parcel.sdu) m.0 refl m.1)
        (alone_changes p _ _ name name)) s)

    pub emitted : {logs : Logs} (capacity : ℕ) (put : List Parcel) (side : PortSide) (e : Egress) → side.name ≡ p → AllByRecursion ParcelFits e.taken → Emits capacity put side e
        → StandsWith logs (with_one p rest side) → StandsWith logs (with_one p rest e.behind)
    emitted {logs} capacity put side e name fits m s = subst (λ (b : PortSide). StandsWith logs (with_one p rest b)) (sym m.is)
        (resaid (record side { entity = e.behind.entity }) (record side { entity = e.behind.entity; queue = e.behind.queue }) refl refl (by side.entity refl m.gives))
      where
        by : (o : Option Entity) → side.entity ≡ o → GivesAll o e.taken e.behind.entity → StandsWith logs (with_one p rest (record side { entity = e.behind.entity }))
        by None is g = subst (λ (o : Option Entity). StandsWith logs (with_one p rest (record side { entity = o }))) (is ∙ sym g.1) s
        by (Some entity) is g = subst (λ (o : Option Entity). StandsWith logs (with_one p rest (record side { entity = o }))) (sym g.2)
            (given side entity entity.tx g.0 e.taken name fits g.1 (subst (λ (o : Option Entity). StandsWith logs (with_one p rest (record side { entity = o }))) is s))

  -- the side of a port and what became of it
  pub record Burst (cap : ℕ) (put : List Parcel) (side : PortSide) (e : Egress) : Type 0 where
    pub i : Ingress
    pub ingests : Ingests c side (inbox c side.name) i.heard i.put i.left i.behind
    pub emits : Emits cap put i.behind e

  abbrev pub Ingesting : PortSide → Ingress → Type 0
  Ingesting side i = Ingests c side (inbox c side.name) i.heard i.put i.left i.behind

  pub joined : (cap : ℕ) (put : List Parcel) (ports : List PortSide) (ingresses : List Ingress) (egresses : List Egress) → AllZip Ingesting ports ingresses
      → AllZip (Emits cap put) (map behind_ingress ingresses) egresses → AllZip (Burst cap put) ports egresses
  joined cap put [] [] [] first second = tt
  joined cap put (s ∷ ss) (i ∷ is) (e ∷ es) first second = (record { i = i; ingests = first.0; emits = second.0 }, joined cap put ss is es first.1 second.1)
  joined cap put [] [] (e ∷ es) first second = absurd second
  joined cap put [] (i ∷ is) es first second = absurd first
  joined cap put (s ∷ ss) [] es first second = absurd first
  joined cap put (s ∷ ss) (i ∷ is) [] first second = absurd second

  -- an ingress port keeps its name
  ingress_name : {side new : PortSide} {tickets left : List ℕ} {heard : List Event} {put : List Parcel} → Ingests c side tickets heard put left new → new.name ≡ side.name
  ingress_name (ends none) = refl
  ingress_name (stops full) = refl
  ingress_name (pushes parcel full more) = ingress_name more
  ingress_name {side} (hears {mid = mid} ticket pdu reply none on treats more) = ingress_name more ∙ sym (side_name (node_at treats.1 AtRelay) side.name mid treats.3)

  burst_name : (cap : ℕ) (put : List Parcel) (side : PortSide) (e : Egress) → Burst cap put side e → e.behind.name ≡ side.name
  burst_name cap put side e b = ap (λ (s : PortSide). s.name) b.emits.is ∙ ingress_name b.ingests

  module _ (cap : ℕ) (put : List Parcel) where
    pub names_stay : (ports : List PortSide) (egresses : List Egress) → AllZip (Burst cap put) ports egresses → map port_of (map behind_egress egresses) ≡ map port_of ports
    names_stay [] [] all = refl
    names_stay (s ∷ ss) (e ∷ es) all = ap (λ (p : PortName). p ∷ map port_of (map behind_egress es)) (burst_name cap put s e all.0)
        ∙ ap (λ (ps : List PortName). s.name ∷ ps) (names_stay ss es all.1)
    names_stay [] (e ∷ es) all = absurd all
    names_stay (s ∷ ss) [] all = absurd all

    -- what is found of a port before the burst is found behind it, with what it heard
    pub found_behind : (q : PortName) (ports : List PortSide) (ingresses : List Ingress) (egresses : List Egress) → AllZip Ingesting ports ingresses
        → AllZip (Emits cap put) (map behind_ingress ingresses) egresses → (side : PortSide) → find (λ (s : PortSide). is_port q s.name) ports ≡ Some side
        → (e : Egress) × (i : Ingress) × (find (λ (s : PortSide). is_port q s.name) (map behind_egress egresses) ≡ Some e.behind) × Ingesting side i × Emits cap put i.behind e
        × (i.heard ≡ heard_at ports ingresses q)
    found_behind q [] ingresses egresses first second side is = absurd (none-some side is)
    found_behind q (s ∷ ss) [] egresses first second side is = absurd first
    found_behind q (s ∷ ss) (i ∷ is) [] first second side here = absurd second
    found_behind q (s ∷ ss) (i ∷ is) (e ∷ es) first second side here = elim (cases_Bool (is_port q s.name)) [
      | inl passed ↦ (
        e,
        i,
        cond-true (is_port q e.behind.name) (Some e.behind) _ (ap (is_port q) (burst_name cap put s e (record { i = i; ingests = first.0; emits = second.0 })) ∙ passed),
        subst (λ (s : PortSide). Ingesting s i) (same_Some s side (sym (cond-true (is_port q s.name) (Some s) _ passed) ∙ here)) first.0,
        second.0,
        sym (cond-true (is_port q s.name) i.heard (heard_at ss is q) passed),
      )
      | inr fails ↦
          let rest = found_behind q ss is es first.1 second.1 side (sym (cond-false (is_port q s.name) (Some s) _ fails) ∙ here) in (
            rest.0,
            rest.1,
            cond-false (is_port q e.behind.name) (Some e.behind) _ (ap (is_port q) (burst_name cap put s e (record { i = i; ingests = first.0; emits = second.0 })) ∙ fails)
                ∙ rest.2,
            rest.3,
            rest.4,
            rest.5 ∙ sym (cond-false (is_port q s.name) i.heard (heard_at ss is q) fails),
          )
    ]

    pub none_behind : (q : PortName) (ports : List PortSide) (egresses : List Egress) → AllZip (Burst cap put) ports egresses
        → find (λ (s : PortSide). is_port q s.name) ports ≡ None → find (λ (s : PortSide). is_port q s.name) (map behind_egress egresses) ≡ None
    none_behind q [] [] all none = refl
    none_behind q [] (e ∷ es) all none = absurd all
    none_behind q (s ∷ ss) [] all none = absurd all
    none_behind q (s ∷ ss) (e ∷ es) all none = elim (cases_Bool (is_port q s.name)) [
      | inl passed ↦ absurd (none-some s (sym none ∙ cond-true (is_port q s.name) (Some s) _ passed))
      | inr fails ↦ cond-false (is_port q e.behind.name) (Some e.behind) _ (ap (is_port q) (burst_name cap put s e all.0) ∙ fails)
          ∙ none_behind q ss es all.1 (sym (cond-false (is_port q s.name) (Some s) _ fails) ∙ none)
    ]

  -- the sides with one of them in its own place are those of the relay
  pub own_place : {logs : Logs} (side : PortSide) (p : PortName) (sides : PortName → Option PortSide) → side.name ≡ p → sides p ≡ Some side → StandsWith logs sides
      → StandsWith logs (with_one p sides side)
  own_place side p sides name here = alike sides (with_one p sides side) (one_is p sides side sides name here (λ q ne. refl))

  -- each ingress port works from the chain as it stands
  pub ingress_works : {IsStaged : ℕ → Type 0} {said : List Event → Logs} (on_and_on : SaysOn c IsStaged said) (done : List Event) (side : PortSide) (i : Ingress) (p : PortName)
      (sides : PortName → Option PortSide) (there : side_at relay p ≡ Some side) → SideFits side → sides p ≡ Some side → StandsWith (said done) sides → Ingesting side i
      → OnItsWay p side there sides (said (done ++ i.heard)) i.behind × AllByRecursion ParcelFits i.put
  ingress_works {IsStaged} on_and_on done side i p sides there fits here s w =
      ingested p side there sides on_and_on done (record { stands = own_place side p sides name here s; fits = fits; name = name }) over
      (each_picked IsStaged _ c.staged on_and_on.staged) w
    where
      name : side.name ≡ p
      name = sym (side_name relay p side there)

      over : AllByRecursion (λ (ticket : ℕ). goes_over p (on_air c.air ticket) ≡ true) (inbox c side.name)
      over = subst (λ (q : PortName). AllByRecursion (λ (ticket : ℕ). goes_over q (on_air c.air ticket) ≡ true) (inbox c side.name)) name
          (each_passes (λ (ticket : ℕ). goes_over side.name (on_air c.air ticket)) c.staged)
