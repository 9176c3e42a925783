-- A node applies a plan: the sides of the remote's ports that it has are closed, or opened in an epoch to which they had not come.
use Rattle.std.proofs.Common.{◌≡◌, inl, inr, ℕ, ◌+◌, ◌≤◌, Bool, true, false, cond, ◌&&◌, ◌||◌, List, [], ◌∷◌, length, map, find, Option, Some, None, option_map, refl, sym, ◌∙◌, ap, subst, arith}
use Rattle.std.specs.List.{AllByRecursion, list_any}
use Rattle.std.specs.Option.{unwrap_or}
use Rattle.std.proofs.lemmas.Bool.{cases_Bool, cases_eq, cond-true, cond-false, false≢true, and_parts, and_from}
use Rattle.std.proofs.lemmas.Option.{none-some, same_Some}
use Rattle.link_base.specs.declared.names.Goal.{Goal}
use Rattle.link_base.specs.declared.names.Node.{Node as NodeKind}
use Rattle.link_base.specs.declared.names.Node.TheVariants as kinds
use Rattle.link_base.specs.declared.names.PortName.{PortName}
use Rattle.link_base.specs.declared.names.PortName.TheVariants.{Direct, Pc5, Uu}
use Rattle.link_base.specs.declared.names.Remote.{Remote}
use Rattle.link_base.specs.declared.names.Side.{Side}
use Rattle.link_base.specs.declared.names.Side.TheVariants.{Low, High}
use Rattle.link_base.specs.declared.names.SnSize.{SnSize}
use Rattle.link_base.specs.declared.names.Way.{Way}
use Rattle.link_base.specs.declared.names.Way.TheVariants.{Ul, Dl}
use Rattle.bearer_map.specs.Contents.{Contents}
use Rattle.rlc_model.specs.declared.hop.Pdu.{Pdu}
use Rattle.rlc_model.specs.Sides.{Entity}
use Rattle.rlc_law.specs.Ports.{Settings, Port, Ports, Changes, hop_of, start_port, opens}
use Rattle.rlc_law.specs.Sides.{Epochs, start_entity, begins, follows, closes}
use Rattle.pdcp_model.specs.Sender.{begins_wait}
use Rattle.script_text.specs.declared.event.Event.{Event}
use Rattle.script_text.specs.declared.reply.Reply.{Reply}
use Rattle.node_model.specs.Names.{NodeName, AtRemote, is_node, is_port, is_remote, is_of, owner, node_of}
use Rattle.node_model.specs.State.{PortSide, Outgoing, Node, side_at, no_node}
use Rattle.node_model.specs.Tables.{settings, is_open_on}
use Rattle.node_model.specs.Opening.{new_entity}
use Rattle.node_model.specs.Switching.{is_purged, side_after, outgoing_after, node_after, node_closed}
use Rattle.chain_model.specs.declared.plan.Plan.{Plan}
use Rattle.chain_model.specs.State.{Chain, node_at, set_node, plan_at, set_plan}
use Rattle.chain_model.specs.Plans.{has_applied, marks, is_open}
use Rattle.chain_model.specs.Told.{kind_of}
use Rattle.chain_model.specs.Lines.{apply_refusal, node_refusal, Applies, closed}
use Rattle.chain_model.specs.Sizes.{port_size}
use Rattle.chain_law.specs.Entities.{port_settings, next_epoch}
use Rattle.node_model.proofs.Names.{remote_is, node_is, node_refl, port_refl, cases_node, cases_port, cases_owner, owner_side}
use Rattle.node_model.proofs.Finding.{find_map, find_none, each_map, each_replaced}
use Rattle.chain_law.specs.Foundations.{RlcLaws}
use Rattle.chain_law.proofs.Stands.{entity_changes, sizes_stay, View, Limits, Stands, sides_of, heard_in, Logs, shown, put, put_here, put_other, put_alike, stands_same}
use Rattle.chain_law.proofs.Pairs.{Pairwise}
use Rattle.chain_law.proofs.Nodes.{NodeFits, SideFits, ParcelFits, OutgoingFits, port_of, Differ, IsOwned, side_name}
use Rattle.chain_law.proofs.Mixing.{stands_higher, mixed, mixed_before, mixed_other, mixed_this, all_mixed}
use Rattle.chain_law.proofs.Chains.{Holds, view, view_in, node_fits, node_name, put_own, set_stands}
use Rattle.chain_law.proofs.Lines.{plan_was}

-- the entity of a side that opens is that of the port's start
pub start_is : (t : Contents) (name : PortName) (side : Side) (epoch : ℕ) → new_entity (settings t) (port_size t name) epoch ≡ start_entity (port_settings t name) side epoch
start_is t name Low epoch = refl
start_is t name High epoch = refl

-- a port at its start has heard nothing
pub start_heard : (s : Settings) (way : Way) → heard_in (Some (start_port s)) way ≡ []
start_heard s Ul = refl
start_heard s Dl = refl

-- a side of a port opens in an epoch to which it had not come, or closes
module _ (l : RlcLaws) {logs : Logs} {t : Contents} {limit : Limits} {air : List (Option Pdu)} {view : View} (s : Stands logs t view limit air) (side : Side) (name : PortName)
    (was now : PortSide)
    (there : view (owner side name) name ≡ Some was) (same_size : now.size ≡ was.size)
    (new : View) (change : Changes view (owner side name) name (Some now) new) (higher : Limits) (le : (at : Side) (q : PortName) → limit at q ≤ higher at q) where
  side_changes : Changes (sides_of view) side name now.entity (sides_of new)
  side_changes = entity_changes s side name was now there same_size new change

  closes_stands : now.entity ≡ None → Stands logs t new higher air
  closes_stands none = record {
    ports = s.ports;
    epochs = s.epochs;
    fits = s.fits;
    opened = s.opened;
    sides = l.sides_keep (port_settings t) s.ports s.ports s.epochs s.epochs (sides_of view) (sides_of new) s.sides
        (closes side name (subst (λ (e : Option Entity). Changes (sides_of view) side name e (sides_of new)) none side_changes));
    few = s.few;
    within = λ at q. omega (arith, s.within at q, le at q);
    sizes = sizes_stay s side name was now there same_size new change;
    heard = s.heard;
  }

  module _ (epoch : ℕ) (its : now.entity ≡ Some (new_entity (settings t) was.size epoch)) (past : limit side name ≤ epoch) (up : epoch + 1 ≤ higher side name) where
    opening : Changes (sides_of view) side name (Some (start_entity (port_settings t name) side epoch)) (sides_of new)
    opening = subst (λ (e : Option Entity). Changes (sides_of view) side name e (sides_of new))
        (its ∙ ap (λ (size : SnSize). Some (new_entity (settings t) size epoch)) (s.sizes side name was there)
        ∙ ap (λ (e : Entity). Some e) (start_is t name side epoch)) side_changes

    epochs : (new_epochs : Epochs) × Changes s.epochs side name (epoch + 1) new_epochs
    epochs = l.one_changes.2 s.epochs side name (epoch + 1)

    not_come : s.epochs side name ≤ epoch
    not_come = omega (arith, s.within side name, past)

    -- no side comes past its limit
    still_within : (at : Side) (q : PortName) → epochs.0 at q ≤ higher at q
    still_within at q = elim (cases_port q name) [
      | inr ne ↦ omega (arith, epochs.1.others at q (λ same. ne same.1), s.within at q, le at q)
      | inl same ↦ elim (cases_node (owner at name) (owner side name)) [
        | inr ne ↦ omega (arith, epochs.1.others at q (λ same. ne (ap (λ (x : Side). owner x name) same.0)), s.within at q, le at q)
        | inl one ↦
            let at_is = owner_side at side name one in
            omega (arith, up, ap (λ (x : Side). epochs.0 x q) at_is, ap (epochs.0 side) same, epochs.1.here, ap (λ (x : Side). higher x q) at_is, ap (higher side) same)
      ]
    ]

    -- the other side has opened the port in this epoch, or none has
    opens_stands : (found : Option Port) → s.ports name epoch ≡ found → Stands logs t new higher air
    opens_stands (Some port) is = record {
      ports = s.ports;
      epochs = epochs.0;
      fits = s.fits;
      opened = s.opened;
      sides = l.sides_keep (port_settings t) s.ports s.ports s.epochs epochs.0 (sides_of view) (sides_of new) s.sides (follows side name epoch port not_come is epochs.1 opening);
      few = s.few;
      within = still_within;
      sizes = sizes_stay s side name was now there same_size new change;
      heard = s.heard;
    }
    opens_stands None is = record {
      ports = ports.0;
      epochs = epochs.0;
      fits = l.ports_keep s.ports ports.0 air air s.fits (opens name epoch (port_settings t name) none_there ports.1);
      opened = λ ticket pdu on. let found = s.opened ticket pdu on in (found.0, ports.1.others pdu.port pdu.epoch (none_there ticket pdu on) ∙ found.1);
      sides = l.sides_keep (port_settings t) s.ports ports.0 s.epochs epochs.0 (sides_of view) (sides_of new) s.sides (begins side name epoch not_come is ports.1 epochs.1 opening);
      few = few;
      within = still_within;
      sizes = sizes_stay s side name was now there same_size new change;
      heard = λ q e way. subst (logs q e way) (sym (nothing_more q e way)) (s.heard q e way);
    }
      where
        ports : (new_ports : Ports) × Changes s.ports name epoch (Some (start_port (port_settings t name))) new_ports
        ports = l.one_changes.0 s.ports name epoch (Some (start_port (port_settings t name)))

        none_there : (ticket : ℕ) (pdu : Pdu) → Rattle.rlc_model.specs.Hop.on_air air ticket ≡ Some pdu → (pdu.port ≡ name) × (pdu.epoch ≡ epoch) → ⊥
        none_there ticket pdu on same = let found = s.opened ticket pdu on in none-some found.0
            (sym is ∙ ap (s.ports name) (sym same.1) ∙ ap (λ (q : PortName). s.ports q pdu.epoch) (sym same.0) ∙ found.1)

        start_few : (way : Way) → length (hop_of (start_port (port_settings t name)) way).pdus ≤ length air
        start_few Ul = omega arith
        start_few Dl = omega arith

        -- a port that opens has heard nothing, as one that isn't there
        nothing_more : (q : PortName) (e : ℕ) (way : Way) → heard_in (ports.0 q e) way ≡ heard_in (s.ports q e) way
        nothing_more q e way = elim (cases_port q name) [
          | inr ne ↦ ap (λ (o : Option Port). heard_in o way) (ports.1.others q e (λ same. ne same.0))
          | inl same ↦ elim (cases_eq e epoch) [
            | inr ne ↦ ap (λ (o : Option Port). heard_in o way) (ports.1.others q e (λ same. ne same.1))
            | inl one ↦ ap (λ (x : PortName). heard_in (ports.0 x e) way) same ∙ ap (λ (x : ℕ). heard_in (ports.0 name x) way) one
                ∙ ap (λ (o : Option Port). heard_in o way) ports.1.here ∙ start_heard (port_settings t name) way ∙ ap (λ (o : Option Port). heard_in o way) (sym is)
                ∙ ap (λ (x : ℕ). heard_in (s.ports name x) way) (sym one) ∙ ap (λ (x : PortName). heard_in (s.ports x e) way) (sym same)
          ]
        ]

        few : (q : PortName) (e : ℕ) (p : Port) (way : Way) → ports.0 q e ≡ Some p → length (hop_of p way).pdus ≤ length air
        few q e p way at = elim (cases_port q name) [
          | inr ne ↦ s.few q e p way (sym (ports.1.others q e (λ same. ne same.0)) ∙ at)
          | inl same ↦ elim (cases_eq e epoch) [
            | inr ne ↦ s.few q e p way (sym (ports.1.others q e (λ same. ne same.1)) ∙ at)
            | inl one ↦ subst (λ (p : Port). length (hop_of p way).pdus ≤ length air)
                (same_Some _ p (sym ports.1.here ∙ ap (ports.0 name) (sym one) ∙ ap (λ (q : PortName). ports.0 q e) (sym same) ∙ at)) (start_few way)
          ]
        ]

-- a node applies a plan, a port of its own after another
module _ (l : RlcLaws) (logs : Logs) (t : Contents) (air : List (Option Pdu)) (limit : Limits) (v : View) (n : Node) (x : NodeName) (remote : Remote) (goal : Goal) (epoch : ℕ)
    (fresh : (side : Side) (name : PortName) → owner side name ≡ x → is_of remote name ≡ true → limit side name ≤ epoch) where
  abbrev pub applied : Node
  applied = node_after (settings t) remote goal epoch n

  abbrev turned : PortSide → PortSide
  turned = side_after (settings t) remote goal epoch

  after_is : (q : PortName) → side_at applied q ≡ option_map turned (side_at n q)
  after_is q = find_map turned (λ (s : PortSide). is_port q s.name) n.ports

  -- the limit of a side then
  abbrev pub raised : Limits
  raised side q = cond (is_of remote q && is_node x (owner side q)) (epoch + 1) (limit side q)

  abbrev limit_by : List PortName → Limits
  limit_by names side q = cond (list_any (is_port q) names) (raised side q) (limit side q)

  pub raised_up : (side : Side) (q : PortName) → limit side q ≤ raised side q
  raised_up side q = by (is_of remote q && is_node x (owner side q)) refl
    where
      by : (b : Bool) → (is_of remote q && is_node x (owner side q)) ≡ b → limit side q ≤ cond b (epoch + 1) (limit side q)
      by true is =
          let p = and_parts (is_of remote q) (is_node x (owner side q)) is in
          let le : limit side q ≤ epoch = fresh side q (sym (node_is x (owner side q) p.1)) p.0 in
          omega (arith, le)
      by false is = omega arith

  raised_here : (side : Side) (q : PortName) → owner side q ≡ x → is_of remote q ≡ true → raised side q ≡ epoch + 1
  raised_here side q own of = cond-true (is_of remote q && is_node x (owner side q)) (epoch + 1) (limit side q) (and_from _ _ of (ap (is_node x) own ∙ node_refl x))

  -- one more name
  up_by : (p : PortName) (names : List PortName) (side : Side) (q : PortName) → limit_by names side q ≤ limit_by (p ∷ names) side q
  up_by p names side q = by (is_port q p) (list_any (is_port q) names)
    where
      by : (a b : Bool) → cond b (raised side q) (limit side q) ≤ cond (a || b) (raised side q) (limit side q)
      by true true = omega arith
      by true false = raised_up side q
      by false true = omega arith
      by false false = omega arith

  module _ (p : PortName) (names : List PortName) (new_name : list_any (is_port p) names ≡ false) (s : Stands logs t (put v x (mixed n applied names)) (limit_by names) air) where
    -- where the same is said of the port's side, or no side of it is the node's
    same_said : (((side : Side) × (owner side p ≡ x)) → option_map shown (side_at applied p) ≡ option_map shown (side_at n p))
        → Stands logs t (put v x (mixed n applied (p ∷ names))) (limit_by (p ∷ names)) air
    same_said same = stands_higher (limit_by (p ∷ names)) (up_by p names) (stands_same _ (put_alike v x (mixed n applied names) (mixed n applied (p ∷ names)) said) s)
      where
        said : (q : PortName) → (side : Side) × (owner side q ≡ x) → option_map shown (mixed n applied (p ∷ names) q) ≡ option_map shown (mixed n applied names q)
        said q own = elim (cases_port q p) [
          | inr ne ↦ ap (option_map shown) (mixed_other n applied p names q ne)
          | inl e ↦ ap (λ (q : PortName). option_map shown (mixed n applied (p ∷ names) q)) e ∙ ap (option_map shown) (mixed_this n applied p names)
              ∙ same (own.0, ap (owner own.0) (sym e) ∙ own.1)
              ∙ ap (option_map shown) (sym (mixed_before n applied names p new_name)) ∙ ap (λ (q : PortName). option_map shown (mixed n applied names q)) (sym e)
        ]

    module _ (was : PortSide) (there : side_at n p ≡ Some was) where
      its_name : p ≡ was.name
      its_name = side_name n p was there

      is_turned : side_at applied p ≡ Some (turned was)
      is_turned = after_is p ∙ ap (option_map turned) there

      module _ (side : Side) (own : owner side p ≡ x) where
        in_view : put v x (mixed n applied names) (owner side p) p ≡ Some was
        in_view = put_here v x (mixed n applied names) (owner side p) p own ∙ mixed_before n applied names p new_name ∙ there

        change : Changes (put v x (mixed n applied names)) (owner side p) p (Some (turned was)) (put v x (mixed n applied (p ∷ names)))
        change = record {
          here = put_here v x (mixed n applied (p ∷ names)) (owner side p) p own ∙ mixed_this n applied p names ∙ is_turned;
          others = λ y q ne. elim (cases_node y x) [
            | inr other ↦ put_other v x (mixed n applied (p ∷ names)) y q other ∙ sym (put_other v x (mixed n applied names) y q other)
            | inl same ↦ put_here v x (mixed n applied (p ∷ names)) y q same ∙ mixed_other n applied p names q (λ e. ne (same ∙ sym own, e))
                ∙ sym (put_here v x (mixed n applied names) y q same)
          ];
        }

        -- a port of the remote's own
        own_port : is_of remote p ≡ true → (is_open : Bool) → is_open_on goal p ≡ is_open → Stands logs t (put v x (mixed n applied (p ∷ names))) (limit_by (p ∷ names)) air
        own_port of true is = opens_stands l s side p was (turned was) in_view refl (put v x (mixed n applied (p ∷ names))) change (limit_by (p ∷ names)) (up_by p names) epoch
            (cond-true (is_of remote was.name) _ was.entity (ap (is_of remote) (sym its_name) ∙ of)
            ∙ cond-true (is_open_on goal was.name) _ None (ap (is_open_on goal) (sym its_name) ∙ is))
            (omega (arith, cond-false (list_any (is_port p) names) (raised side p) (limit side p) new_name, fresh side p own of))
            (omega (arith, ap (λ (b : Bool). cond (b || list_any (is_port p) names) (raised side p) (limit side p)) (port_refl p), raised_here side p own of))
            (s.ports p epoch) refl
        own_port of false is = closes_stands l s side p was (turned was) in_view refl (put v x (mixed n applied (p ∷ names))) change (limit_by (p ∷ names)) (up_by p names)
            (cond-true (is_of remote was.name) _ was.entity (ap (is_of remote) (sym its_name) ∙ of)
            ∙ cond-false (is_open_on goal was.name) (Some (new_entity (settings t) was.size epoch)) None (ap (is_open_on goal) (sym its_name) ∙ is))

      -- a port that isn't the remote's stays as it is
      stays_said : is_of remote p ≡ false → option_map shown (side_at applied p) ≡ option_map shown (side_at n p)
      stays_said of = ap (option_map shown) is_turned
          ∙ ap (λ (e : Option Entity). Some (record { entity = e; size = was.size })) (cond-false (is_of remote was.name) _ was.entity (ap (is_of remote) (sym its_name) ∙ of))
          ∙ ap (option_map shown) (sym there)

    one_more : Stands logs t (put v x (mixed n applied (p ∷ names))) (limit_by (p ∷ names)) air
    one_more = by (side_at n p) refl
      where
        by : (found : Option PortSide) → side_at n p ≡ found → Stands logs t (put v x (mixed n applied (p ∷ names))) (limit_by (p ∷ names)) air
        by None is = same_said (λ own. ap (option_map shown) (after_is p ∙ ap (option_map turned) is ∙ sym is))
        by (Some was) is = elim (cases_owner x p) [
          | inr none ↦ same_said (λ own. absurd (none own.0 own.1))
          | inl own ↦ elim (cases_Bool (is_of remote p)) [
            | inr of ↦ same_said (λ own. stays_said was is of)
            | inl of ↦ own_port was is own.0 own.1 of (is_open_on goal p) refl
          ]
        ]

  pub applied_stands : Stands logs t (put v x (side_at n)) limit air → Stands logs t (put v x (side_at applied)) raised air
  applied_stands s = stands_higher raised (λ side q. low side q (list_any (is_port q) (map port_of n.ports)))
      (all_mixed n applied v x limit_by (λ names. logs) up_by (λ p names again name e way heard so. so) one_more (λ q none. after_is q ∙ ap (option_map turned) none) s)
    where
      low : (side : Side) (q : PortName) (b : Bool) → cond b (raised side q) (limit side q) ≤ raised side q
      low side q true = omega arith
      low side q false = raised_up side q

-- the SDUs of a node that applies a plan, or learns that all have, still fit
applied_fits : (t : Contents) (remote : Remote) (goal : Goal) (epoch : ℕ) (n : Node) → NodeFits n → NodeFits (node_after (settings t) remote goal epoch n)
applied_fits t remote goal epoch n fits = record {
  ports = each_map SideFits SideFits (side_after (settings t) remote goal epoch) side n.ports fits.ports;
  outgoing = each_map OutgoingFits OutgoingFits (outgoing_after remote) sender n.outgoing fits.outgoing;
  apart = subst (Pairwise Differ) (sym (names n.ports)) fits.apart;
  owned = subst (AllByRecursion (IsOwned n.name)) (sym (names n.ports)) fits.owned;
}
  where
    names : (ports : List PortSide) → map port_of (map (side_after (settings t) remote goal epoch) ports) ≡ map port_of ports
    names [] = refl
    names (s ∷ ss) = ap (λ (rest : List PortName). s.name ∷ rest) (names ss)

    side : (s : PortSide) → SideFits s → SideFits (side_after (settings t) remote goal epoch s)
    side s was = record { slot = slot (is_purged remote s); queue = queue (is_of remote s.name) }
      where
        slot : (b : Bool) (parcel : _) → cond b None s.slot ≡ Some parcel → ParcelFits parcel
        slot true parcel e = absurd (none-some parcel e)
        slot false parcel e = was.slot parcel e

        queue : (b : Bool) → AllByRecursion ParcelFits (cond b [] s.queue)
        queue true = tt
        queue false = was.queue

    sender : (o : Outgoing) → OutgoingFits o → OutgoingFits (outgoing_after remote o)
    sender o was = by (is_remote remote o.key.remote)
      where
        by : (b : Bool) → OutgoingFits (cond b (record o { sender = begins_wait o.sender }) o)
        by true = was
        by false = was

-- a remote's port is at the node of its kind
pub owner_is : (remote : Remote) (side : Side) (name : PortName) → is_of remote name ≡ true → owner side name ≡ node_of (kind_of (owner side name)) remote
owner_is remote Low (Direct r d) of = ap AtRemote (sym (remote_is remote r of))
owner_is remote High (Direct r d) of = refl
owner_is remote Low (Pc5 r c) of = ap AtRemote (sym (remote_is remote r of))
owner_is remote High (Pc5 r c) of = refl
owner_is remote side (Uu c) of = absurd (false≢true of)

pub kind_is : (kind : NodeKind) (remote : Remote) → kind_of (node_of kind remote) ≡ kind
kind_is kinds.Remote remote = refl
kind_is kinds.Relay remote = refl
kind_is kinds.Gnb remote = refl

-- a port is of one remote
pub one_remote : (a b : Remote) (name : PortName) → is_of a name ≡ true → is_of b name ≡ true → a ≡ b
one_remote a b (Direct r d) x y = remote_is a r x ∙ sym (remote_is b r y)
one_remote a b (Pc5 r c) x y = remote_is a r x ∙ sym (remote_is b r y)
one_remote a b (Uu c) x y = absurd (false≢true x)

-- the plan once a node applied it: at that node the next epoch is one more, and nowhere less
marked_here : (plan : Plan) (kind : NodeKind) → next_epoch (marks plan kind) kind ≡ plan.epoch + 1
marked_here plan kinds.Remote = refl
marked_here plan kinds.Relay = refl
marked_here plan kinds.Gnb = refl

up_to : (b : Bool) (e : ℕ) → cond b (e + 1) e ≤ e + 1
up_to true e = omega arith
up_to false e = omega arith

marked_up : (plan : Plan) (kind other : NodeKind) → next_epoch plan other ≤ next_epoch (marks plan kind) other
marked_up plan kinds.Remote kinds.Remote = up_to plan.at_remote plan.epoch
marked_up plan kinds.Relay kinds.Relay = up_to plan.at_relay plan.epoch
marked_up plan kinds.Gnb kinds.Gnb = up_to plan.at_gnb plan.epoch
marked_up plan kinds.Remote kinds.Relay = omega arith
marked_up plan kinds.Remote kinds.Gnb = omega arith
marked_up plan kinds.Relay kinds.Remote = omega arith
marked_up plan kinds.Relay kinds.Gnb = omega arith
marked_up plan kinds.Gnb kinds.Remote = omega arith
marked_up plan kinds.Gnb kinds.Relay = omega arith

pub same_remote : (plan : Plan) (kind : NodeKind) → (marks plan kind).remote ≡ plan.remote
same_remote plan kinds.Remote = refl
same_remote plan kinds.Relay = refl
same_remote plan kinds.Gnb = refl

-- a node that isn't refused has not applied the plan
pub not_applied : (c : Chain) (remote : Remote) (kind : NodeKind) (plan : Plan) → plan_at c remote ≡ Some plan → apply_refusal c remote kind ≡ None → has_applied plan kind ≡ false
not_applied c remote kind plan its none = first (Rattle.std.specs.Prelude.not (Rattle.node_model.specs.Tables.has_remote c.tables remote)) none
  where
    last : (a : Bool) → has_applied plan kind ≡ a → cond a (Some Rattle.script_text.specs.declared.reply.Reply.TheVariants.Already) None ≡ None → has_applied plan kind ≡ false
    last true is e = absurd (none-some _ (sym e))
    last false is e = is

    second : (b : Bool) → cond b (Some Rattle.script_text.specs.declared.reply.Reply.TheVariants.NoPlan)
        (cond (has_applied plan kind) (Some Rattle.script_text.specs.declared.reply.Reply.TheVariants.Already) None) ≡ None → has_applied plan kind ≡ false
    second true e = absurd (none-some _ (sym e))
    second false e = last (has_applied plan kind) refl e

    first : (b : Bool) → cond b (Some Rattle.script_text.specs.declared.reply.Reply.TheVariants.NoRemote) (node_refusal (plan_at c remote) kind) ≡ None
        → has_applied plan kind ≡ false
    first true e = absurd (none-some _ (sym e))
    first false e = second (Rattle.std.specs.Prelude.not (is_open plan)) (ap (λ (p : Option Plan). node_refusal p kind) (sym its) ∙ e)

-- each node learns that all have applied the plan
closed_holds : {logs : Logs} (remote : Remote) (c : Chain) → Holds logs c → Holds logs (record c { nodes = map (node_closed remote) c.nodes })
closed_holds remote c h = record {
  limit = h.limit;
  apart = h.apart;
  stands = stands_same _ (λ side name. ap (option_map shown) (same (owner side name) name)) h.stands;
  fresh = h.fresh;
  nodes = each_map NodeFits NodeFits (node_closed remote) (λ n fits. record { ports = fits.ports; outgoing = fits.outgoing; apart = fits.apart; owned = fits.owned }) c.nodes h.nodes;
  tickets = h.tickets;
}
  where
    same : (y : NodeName) (q : PortName) → view_in (map (node_closed remote) c.nodes) y q ≡ view_in c.nodes y q
    same y q = ap (λ (o : Option Node). side_at (unwrap_or o (no_node y)) q) (find_map (node_closed remote) (λ (n : Node). is_node y n.name) c.nodes)
        ∙ by (find (λ (n : Node). is_node y n.name) c.nodes)
      where
        by : (o : Option Node) → side_at (unwrap_or (option_map (node_closed remote) o) (no_node y)) q ≡ side_at (unwrap_or o (no_node y)) q
        by None = refl
        by (Some n) = refl

pub applies_hold : (l : RlcLaws) {logs : Logs} (old : Chain) (remote : Remote) (kind : NodeKind) (events : List Event) (reply : Reply) (new : Chain) → Holds logs old
    → apply_refusal old remote kind ≡ None → Applies old remote kind events reply new → Holds logs new
applies_hold l {logs} old remote kind events reply new h none a = subst (Holds logs) (sym a.is) (close (is_open (marks a.plan kind)))
  where
    x : NodeName
    x = node_of kind remote

    n : Node
    n = node_at old x

    m : Node
    m = node_after (settings old.tables) remote a.plan.goal a.plan.epoch n

    kind_here : (side : Side) (name : PortName) → owner side name ≡ x → kind_of (owner side name) ≡ kind
    kind_here side name own = ap kind_of own ∙ kind_is kind remote

    not_yet : next_epoch a.plan kind ≡ a.plan.epoch
    not_yet = cond-false (has_applied a.plan kind) (a.plan.epoch + 1) a.plan.epoch (not_applied old remote kind a.plan a.its none)

    fresh : (side : Side) (name : PortName) → owner side name ≡ x → is_of remote name ≡ true → h.limit side name ≤ a.plan.epoch
    fresh side name own of = omega (arith, h.fresh remote a.plan a.its side name of, ap (next_epoch a.plan) (kind_here side name own), not_yet)

    up : Limits
    up = raised l logs old.tables old.air h.limit (view old) n x remote a.plan.goal a.plan.epoch fresh

    stands : (o : Option Node) → find (λ (n : Node). is_node x n.name) old.nodes ≡ o → Stands logs old.tables (view (set_node old m)) up old.air
    stands None is =
        let gone : find (λ (y : Node). is_node m.name y.name) old.nodes ≡ None = ap (λ (y : NodeName). find (λ (n : Node). is_node y n.name) old.nodes) (node_name old x) ∙ is in
        stands_higher up (raised_up l logs old.tables old.air h.limit (view old) n x remote a.plan.goal a.plan.epoch fresh)
        (subst (λ (ns : List Node). Stands logs old.tables (view_in ns) h.limit old.air) (sym (find_none (λ (y : Node). is_node m.name y.name) m old.nodes gone)) h.stands)
    stands (Some was) is = set_stands old x m was (node_name old x) is
        (applied_stands l logs old.tables old.air h.limit (view old) n x remote a.plan.goal a.plan.epoch fresh (put_own old.nodes x h.stands))

    -- what is next behind the plan that is marked
    next_here : (side : Side) (name : PortName) → is_of remote name ≡ true → (b : Bool) → is_node x (owner side name) ≡ b
        → cond b (a.plan.epoch + 1) (h.limit side name) ≤ next_epoch (marks a.plan kind) (kind_of (owner side name))
    next_here side name of true is = omega (arith, ap (next_epoch (marks a.plan kind)) (kind_here side name (sym (node_is x (owner side name) is))), marked_here a.plan kind)
    next_here side name of false is = omega (arith, h.fresh remote a.plan a.its side name of, marked_up a.plan kind (kind_of (owner side name)))

    marked : Holds logs (set_plan (set_node old m) (marks a.plan kind))
    marked = record {
      limit = up;
      apart = h.apart;
      stands = stands (find (λ (n : Node). is_node x n.name) old.nodes) refl;
      fresh = λ r q is side name of. elim (plan_was (set_node old m) remote a.plan (marks a.plan kind) a.its (same_remote a.plan kind) r q is) [
        | inl this ↦ subst (λ (q : Plan). up side name ≤ next_epoch q (kind_of (owner side name))) (sym this.1)
            (let its = subst (λ (r : Remote). is_of r name ≡ true) this.0 of in
            omega (
              arith,
              next_here side name its (is_node x (owner side name)) refl,
              ap
                  (λ (b : Bool). cond (b && is_node x (owner side name)) (a.plan.epoch + 1) (h.limit side name)) its,
            ))
        | inr other ↦ omega (arith, h.fresh r q other.1 side name of, not_its side name (λ its. other.0 (one_remote r remote name of its)))
      ];
      nodes = each_replaced NodeFits (λ (y : Node). is_node m.name y.name) m (applied_fits old.tables remote a.plan.goal a.plan.epoch n (node_fits old h x)) old.nodes h.nodes;
      tickets = h.tickets;
    }
      where
        not_its : (side : Side) (name : PortName) → (is_of remote name ≡ true → ⊥) → up side name ≡ h.limit side name
        not_its side name apart = elim (cases_Bool (is_of remote name)) [
          | inl its ↦ absurd (apart its)
          | inr fails ↦ ap (λ (b : Bool). cond (b && is_node x (owner side name)) (a.plan.epoch + 1) (h.limit side name)) fails
        ]

    close : (still : Bool) → Holds logs (closed remote still (set_plan (set_node old m) (marks a.plan kind)))
    close true = marked
    close false = closed_holds remote (set_plan (set_node old m) (marks a.plan kind)) marked
