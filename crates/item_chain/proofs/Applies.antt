-- The line apply: a node applies the open plan of a remote, and the third one closes it.
use Rattle.std.proofs.Common.{◌≡◌, ℕ, Bool, true, false, not, List, [], Option, Some, None, is_some, refl, sym, ◌∙◌, ap, subst}
use Rattle.link_base.specs.declared.names.Node.{Node as NodeKind}
use Rattle.link_base.specs.declared.names.Node.TheVariants as kinds
use Rattle.link_base.specs.declared.names.PortName.{PortName}
use Rattle.link_base.specs.declared.names.PortName.TheVariants.{Direct, Pc5, Uu}
use Rattle.link_base.specs.declared.names.Remote.{Remote}
use Rattle.link_base.specs.declared.names.Way.{Way}
use Rattle.bearer_map.specs.Contents.{Contents}
use Rattle.rlc_model.specs.Tx.{Tx}
use Rattle.script_text.specs.declared.event.Event.{Event}
use Rattle.script_text.specs.declared.reply.Reply.{Reply}
use Rattle.node_model.specs.declared.parcel.Parcel.{Parcel}
use Rattle.node_model.specs.Names.{NodeName, AtRemote, AtRelay, AtGnb, node_of}
use Rattle.node_model.specs.State.{slot_of, queue_of}
use Rattle.node_model.specs.Tables.{is_open_on}
use Rattle.chain_model.specs.declared.plan.Plan.{Plan}
use Rattle.chain_model.specs.Lines.{Unless, apply_refusal, Applies}
use Rattle.chain_model.specs.Places.{find_node}
use Rattle.chain_model.specs.Plans.{is_open, marks}
use Rattle.chain_model.specs.State.{Chain, plan_at}
use Rattle.item_law.specs.State.{Item, Spot, Arrived}
use Rattle.item_law.specs.State.{Chain as ItemChain, Tables as ItemTables}
use Rattle.item_law.specs.Steps.{Step, apply}
use Rattle.item_place.specs.Places.{Link, Box, Layout, StandsFor, Ingress, Egress}
use Rattle.item_chain.specs.View.{View, view}
use Rattle.item_chain.specs.Stands.{FitsDirect, IsParcel, PlacesFit, item_tables, Ghost, Stands, Refines, IsQueued, RowFits, as_list}
use Rattle.item_chain.proofs.Goings.{stays, one_step, reaches_on}
use Rattle.item_chain.proofs.Reopened.{ports_now, epochs_now, ports_fit, sides_fit, fits_now, directs_now, unopened_now, given_now}
use Rattle.item_chain.proofs.SwitchedEnds.{ends_fit}
use Rattle.item_chain.proofs.SwitchedItems.{next_chain, next_is}
use Rattle.item_chain.proofs.SwitchedNodes.{new, sides_there}
use Rattle.item_chain.proofs.SwitchedPaths.{item_plan, there, plan_is, not_yet, all_is, late, was, paths_fit, openings_fit}
use Rattle.std.specs.Option.{option_and_then, option_map, unwrap_or}
use Rattle.rlc_law.specs.Ports.{hop_of}

-- the direct ports where items go to other spots that have not arrived
direct_spots : (t : Contents) (items : ℕ → Option Item) (old now : ℕ → Spot) → ((n : ℕ) → old n ≡ Arrived → now n ≡ Arrived) → (name : PortName) (w : Way) (b : Box) (tx : Tx)
    → FitsDirect name w t items old b tx → FitsDirect name w t items now b tx
direct_spots t items old now still (Direct r d) w b tx f = record { goals = f.goals; arrived = λ k n among gone. still n (f.arrived k n among gone); tags = f.tags }
direct_spots t items old now still (Pc5 r c) w b tx f = tt
direct_spots t items old now still (Uu c) w b tx f = f

module _ (g : Ghost) (old : Chain) (st : Stands g (view old)) (remote : Remote) (kind : NodeKind) (plan : Plan) (its : plan_at old remote ≡ Some plan)
    (none : apply_refusal old remote kind ≡ None) (still : Bool) (is_still : is_open (marks plan kind) ≡ still) where
  abbrev node_is_there : is_some (find_node old (node_of kind remote)) ≡ true
  node_is_there = there g old st remote kind plan its none still is_still

  abbrev pub behind : Chain
  behind = new old remote kind plan node_is_there still

  abbrev y : NodeName
  y = node_of kind remote

  abbrev T : ItemTables
  T = item_tables old.tables

  abbrev pub items_behind : ItemChain
  items_behind = next_chain g.chain remote (item_plan plan) (not still) kind

  -- tables and air stay, whether the plan closes or not
  abbrev shown : View
  shown = record (view behind) { tables = old.tables; air = old.air }

  same_view : shown ≡ view behind
  same_view = by still
    where
      by : (b : Bool) → record (view (new old remote kind plan node_is_there b)) { tables = old.tables; air = old.air } ≡ view (new old remote kind plan node_is_there b)
      by true = refl
      by false = refl

  step : Step T g.chain items_behind
  step = apply remote (item_plan plan) kind (plan_is g old st remote kind plan its none still is_still) (not_yet g old st remote kind plan its none still is_still)
      (sym (next_is g.chain remote (item_plan plan) kind (not still) (all_is g old st remote kind plan its none still is_still)))

  module _ (layout : Layout) (same : (name : PortName) (w : Way) (f : ℕ) → layout.box (Link name w f) ≡ g.layout.box (Link name w f))
      (stand : StandsFor old.tables layout g.chain.items items_behind.spot)
      (arrived : (n : ℕ) → g.chain.spot n ≡ Arrived → items_behind.spot n ≡ Arrived)
      (places : PlacesFit (IsParcel old.tables g.chain.items items_behind.spot g.spell) layout.box (view behind).slot (view behind).queue) where
    abbrev ghost : Ghost
    ghost = record g {
      chain = items_behind;
      layout = layout;
      ports = ports_now g (view old) st remote y plan.epoch (is_open_on plan.goal) (view behind).entity;
      epochs = epochs_now g (view old) st remote y plan.epoch (is_open_on plan.goal) (view behind).entity;
    }

    apply_stands : Stands ghost shown
    apply_stands = record {
      good = st.good;
      reaches = reaches_on T g.chain items_behind st.reaches step;
      layout = stand;
      spelt = st.spelt;
      lengths = st.lengths;
      ports = ports_fit g (view old) st remote y plan.epoch (is_open_on plan.goal) (view behind).entity;
      sides = sides_fit g (view old) st remote y plan.epoch (is_open_on plan.goal) (view behind).entity (was g old st remote kind plan its none still is_still)
          (late g old st remote kind plan its none still is_still);
      hops = fits_now g (view old) st remote y plan.epoch (is_open_on plan.goal) (view behind).entity layout.box same;
      directs = directs_now g (view old) st remote y plan.epoch (is_open_on plan.goal) (view behind).entity items_behind.spot
          (λ name w f p is. direct_spots old.tables g.chain.items g.chain.spot items_behind.spot arrived name w (g.layout.box (Link name w f)) (hop_of p w).tx
          (st.directs name f p is w))
          layout.box same;
      unopened = λ name f closed w. ap (λ (b : Box). b.log) (same name w f)
          ∙ st.unopened name f (unopened_now g (view old) st remote y plan.epoch (is_open_on plan.goal) (view behind).entity name f closed) w;
      places = places;
      paths = paths_fit g old st remote kind plan its none still is_still;
      openings = openings_fit g old st remote kind plan its none still is_still;
      ends = ends_fit g old st remote kind plan its none still is_still;
    }

    pub apply_refines : Refines old.tables g (view behind)
    apply_refines = record {
      ghost = ghost;
      goes = one_step T g.chain items_behind step;
      given = given_now g (view old) st remote y plan.epoch (is_open_on plan.goal) (view behind).entity;
      stands = subst (Stands ghost) same_view apply_stands;
    }

  -- at an end nothing of the relay changes
  module _ (apart : AtRelay ≡ node_of kind remote → ⊥) (same_spots : items_behind.spot ≡ g.chain.spot) where
    same_slot : (q : PortName) → (view behind).slot q ≡ (view old).slot q
    same_slot q = ap (option_and_then slot_of) (sides_there old remote kind plan node_is_there still AtRelay q apart)

    same_queue : (q : PortName) → (view behind).queue q ≡ (view old).queue q
    same_queue q = ap (λ (o : Option _). unwrap_or (option_map queue_of o) [])
        (sides_there old remote kind plan node_is_there still AtRelay q apart)

    pub end_applies : Refines old.tables g (view behind)
    end_applies = apply_refines g.layout (λ name w f. refl) (subst (StandsFor old.tables g.layout g.chain.items) (sym same_spots) st.layout)
        (λ n is. ap (λ (s : ℕ → Spot). s n) same_spots ∙ is)
        (subst (λ (s : ℕ → Spot). PlacesFit (IsParcel old.tables g.chain.items s g.spell) g.layout.box (view behind).slot (view behind).queue) (sym same_spots) (record {
          slots = λ q. subst (λ (o : Option Parcel). RowFits (IsParcel old.tables g.chain.items g.chain.spot g.spell)
              (g.layout.box (Ingress q)) (as_list o)) (sym (same_slot q)) (st.places.slots q);
          queues = λ q. subst (RowFits (IsQueued (IsParcel old.tables g.chain.items g.chain.spot g.spell) q)
              (g.layout.box (Egress q))) (sym (same_queue q)) (st.places.queues q);
          own = λ q x is. st.places.own q x (sym (same_slot q) ∙ is);
        }))

remote_apart : (r : Remote) → AtRelay ≡ AtRemote r → ⊥
remote_apart r e = cc

gnb_apart : AtRelay ≡ AtGnb → ⊥
gnb_apart e = cc

-- a line apply is refused, or goes by a step
pub applies_by : (g : Ghost) (old : Chain) (st : Stands g (view old)) (remote : Remote) (kind : NodeKind)
    → ((plan : Plan) (its : plan_at old remote ≡ Some plan) (none : apply_refusal old remote kind ≡ None)
    → Refines old.tables g (view (behind g old st remote kind plan its none (is_open (marks plan kind)) refl)))
    → (events : List Event) (reply : Reply) (new : Chain) → Unless (apply_refusal old remote kind) old events reply new (Applies old remote kind events reply new)
    → Refines old.tables g (view new)
applies_by g old st remote kind goes events reply new = go (apply_refusal old remote kind) refl
  where
    go : (refusal : Option Reply) → apply_refusal old remote kind ≡ refusal → Unless refusal old events reply new (Applies old remote kind events reply new)
        → Refines old.tables g (view new)
    go (Some r) is does = stays old.tables g (view old) (view new) (ap view does.2) st
    go None is does = subst (λ (c : Chain). Refines old.tables g (view c)) (sym does.is) (goes does.plan does.its is)

pub remote_applies : (g : Ghost) (old : Chain) → Stands g (view old) → (remote : Remote) (events : List Event) (reply : Reply) (new : Chain)
    → Unless (apply_refusal old remote kinds.Remote) old events reply new (Applies old remote kinds.Remote events reply new)
    → Refines old.tables g (view new)
remote_applies g old st remote = applies_by g old st remote kinds.Remote
    (λ plan its none. end_applies g old st remote kinds.Remote plan its none (is_open (marks plan kinds.Remote)) refl (remote_apart remote) refl)

pub gnb_applies : (g : Ghost) (old : Chain) → Stands g (view old) → (remote : Remote) (events : List Event) (reply : Reply) (new : Chain)
    → Unless (apply_refusal old remote kinds.Gnb) old events reply new (Applies old remote kinds.Gnb events reply new)
    → Refines old.tables g (view new)
gnb_applies g old st remote = applies_by g old st remote kinds.Gnb
    (λ plan its none. end_applies g old st remote kinds.Gnb plan its none (is_open (marks plan kinds.Gnb)) refl gnb_apart refl)
