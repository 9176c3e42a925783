-- Sides of a remote's ports at a node are opened anew in an epoch to which they hadn't come, or closed.
use Rattle.std.proofs.Common.{◌≡◌, ◌⊎◌, inl, inr, ℕ, ◌+◌, ◌==◌, ◌<◌, ◌≤◌, ◌&&◌, Bool, true, false, cond, List, [], Option, Some, None, refl, sym, ◌∙◌, ap, subst, append-nil, arith}
use Rattle.std.specs.Option.{unwrap_or}
use Rattle.std.proofs.lemmas.Bool.{cases_Bool, cond-true, cond-false, and_parts, and_from, eq-eqb}
use Rattle.std.proofs.lemmas.Option.{none-some, same_Some}
use Rattle.link_base.specs.declared.names.PortName.{PortName}
use Rattle.link_base.specs.declared.names.Remote.{Remote}
use Rattle.link_base.specs.declared.names.Side.{Side}
use Rattle.link_base.specs.declared.names.Way.{Way}
use Rattle.rlc_model.specs.declared.hop.Pdu.{Pdu}
use Rattle.rlc_model.specs.Hop.{on_air}
use Rattle.rlc_model.specs.Sides.{Entity}
use Rattle.rlc_law.specs.Ports.{Port, Ports, Settings, hop_of, start_port, IsSide, PortsFit, ReachesPort}
use Rattle.rlc_law.specs.Sides.{Epochs, HasSize, IsStart, start_entity, SidesFit}
use Rattle.node_model.specs.Names.{NodeName, is_node, is_of, owner}
use Rattle.chain_model.proofs.Lookups.{cases_found}
use Rattle.chain_law.specs.Entities.{port_settings}
use Rattle.item_law.specs.State.{Spot}
use Rattle.item_place.specs.Places.{Station, Link, Box}
use Rattle.item_place.specs.HopFits.{HopFits}
use Rattle.item_chain.specs.View.{View}
use Rattle.item_chain.specs.Stands.{FitsDirect, KeepGiven, Ghost, Stands}
use Rattle.item_chain.proofs.Starts.{start_reaches, start_size, start_fits, start_direct}
use Rattle.std.specs.Prelude.{length}

-- the side is one of the remote's own ports at the node
abbrev pub is_turned : Remote → NodeName → Side → PortName → Bool
is_turned remote x at name = is_of remote name && is_node x (owner at name)

module _ (g : Ghost) (v : View) (st : Stands g v) (remote : Remote) (x : NodeName) (epoch : ℕ) (on : PortName → Bool)
    (entity : Side → PortName → Option Entity) where
  abbrev its_settings : PortName → Settings
  its_settings = port_settings v.tables

  -- an open side was opened anew as its path says, or is as before
  pub data EntityWas (at : Side) (name : PortName) (e : Entity) : Type 0 where
    reopened : is_turned remote x at name ≡ true → on name ≡ true → e ≡ start_entity (its_settings name) at epoch → EntityWas at name e
    kept : is_turned remote x at name ≡ false → v.entity at name ≡ Some e → EntityWas at name e

  -- the remote's ports are there in the epoch, at their start where they weren't
  abbrev pub ports_now : Ports
  ports_now name f = cond (is_of remote name && (f == epoch)) (Some (unwrap_or (g.ports name f) (start_port (its_settings name)))) (g.ports name f)

  abbrev pub epochs_now : Epochs
  epochs_now at name = cond (is_turned remote x at name) (epoch + 1) (g.epochs at name)

  -- a port was there before, or is at its start
  port_was : (name : PortName) (f : ℕ) (p : Port) → ports_now name f ≡ Some p → (g.ports name f ≡ Some p) ⊎ ((g.ports name f ≡ None) × (p ≡ start_port (its_settings name)))
  port_was name f p = by (is_of remote name && (f == epoch)) (g.ports name f) refl
    where
      by : (b : Bool) (o : Option Port) → g.ports name f ≡ o → cond b (Some (unwrap_or o (start_port (its_settings name)))) o ≡ Some p
          → (g.ports name f ≡ Some p) ⊎ ((g.ports name f ≡ None) × (p ≡ start_port (its_settings name)))
      by true None is e = inr (is, sym (same_Some (start_port (its_settings name)) p e))
      by true (Some q) is e = inl (is ∙ e)
      by false o is e = inl (is ∙ e)

  -- a port that was there still is
  port_stays : (name : PortName) (f : ℕ) (p : Port) → g.ports name f ≡ Some p → ports_now name f ≡ Some p
  port_stays name f p is = ap (λ (o : Option Port). cond (is_of remote name && (f == epoch)) (Some (unwrap_or o (start_port (its_settings name)))) o) is
      ∙ by (is_of remote name && (f == epoch))
    where
      by : (b : Bool) → cond b (Some p) (Some p) ≡ Some p
      by true = refl
      by false = refl

  port_new : (name : PortName) → is_of remote name ≡ true → ports_now name epoch ≡ Some (unwrap_or (g.ports name epoch) (start_port (its_settings name)))
  port_new name of = cond-true (is_of remote name && (epoch == epoch)) _ (g.ports name epoch) (and_from _ _ of (eq-eqb epoch epoch refl))

  -- what is so of each hop that was there, and of hops at the start, is so of all
  pub hops_now : (P : PortName → ℕ → Port → Type 0) → ((name : PortName) (f : ℕ) (p : Port) → g.ports name f ≡ Some p → P name f p)
      → ((name : PortName) (f : ℕ) → g.ports name f ≡ None → P name f (start_port (its_settings name)))
      → (name : PortName) (f : ℕ) (p : Port) → ports_now name f ≡ Some p → P name f p
  hops_now P old new name f p is = elim (port_was name f p is) [
    | inl was ↦ old name f p was
    | inr start ↦ subst (P name f) (sym start.1) (new name f start.0)
  ]

  pub given_now : KeepGiven g.ports ports_now
  given_now name f p is = (p, port_stays name f p is, λ w. ([], sym (append-nil (hop_of p w).given)))

  pub unopened_now : (name : PortName) (f : ℕ) → ports_now name f ≡ None → g.ports name f ≡ None
  unopened_now name f none = elim (cases_found (g.ports name f)) [
    | inr is ↦ is
    | inl found ↦ absurd (none-some found.0 (sym none ∙ port_stays name f found.0 found.1))
  ]

  pub ports_fit : PortsFit ports_now v.air
  ports_fit = record {
    reaches = hops_now (λ name f p. ReachesPort p) st.ports.reaches (λ name f none. start_reaches v.tables name);
    made = λ ticket pdu p on is. elim (port_was pdu.port pdu.epoch p is) [
      | inl was ↦ st.ports.made ticket pdu p on was
      | inr start ↦ let found = st.openings.aired ticket pdu on in absurd (none-some found.0 (sym start.0 ∙ found.1))
    ];
  }

  pub aired_now : (ticket : ℕ) (pdu : Pdu) → on_air v.air ticket ≡ Some pdu → (p : Port) × (ports_now pdu.port pdu.epoch ≡ Some p)
  aired_now ticket pdu on = let found = st.openings.aired ticket pdu on in (found.0, port_stays pdu.port pdu.epoch found.0 found.1)

  -- hops fit boxes of which nothing is changed, and direct ones where items that have arrived still have
  pub fits_now : (box : Station → Box) → ((name : PortName) (w : Way) (f : ℕ) → box (Link name w f) ≡ g.layout.box (Link name w f))
      → (name : PortName) (f : ℕ) (p : Port) → ports_now name f ≡ Some p → (w : Way) → HopFits g.spell (hop_of p w) (box (Link name w f))
  fits_now box same = hops_now (λ name f p. (w : Way) → HopFits g.spell (hop_of p w) (box (Link name w f)))
      (λ name f p is w. subst (HopFits g.spell (hop_of p w)) (sym (same name w f)) (st.hops name f p is w))
      (λ name f none w. subst (HopFits g.spell (hop_of (start_port (its_settings name)) w)) (sym (same name w f))
      (start_fits v.tables (g.layout.box (Link name w f)) (st.unopened name f none w) g.spell (λ k. nothing_left name f none w k) name w))
    where
      nothing_left : (name : PortName) (f : ℕ) → g.ports name f ≡ None → (w : Way) (k : ℕ) → (g.layout.box (Link name w f)).left k ≡ false
      nothing_left name f none w k = st.layout.fresh (Link name w f) k
          (let empty = ap (λ (log : List ℕ). length log) (st.unopened name f none w) in omega (arith, empty))

  pub directs_now : (spot : ℕ → Spot) → ((name : PortName) (w : Way) (f : ℕ) (p : Port) → g.ports name f ≡ Some p
      → FitsDirect name w v.tables g.chain.items spot (g.layout.box (Link name w f)) (hop_of p w).tx)
      → (box : Station → Box) → ((name : PortName) (w : Way) (f : ℕ) → box (Link name w f) ≡ g.layout.box (Link name w f))
      → (name : PortName) (f : ℕ) (p : Port) → ports_now name f ≡ Some p → (w : Way) → FitsDirect name w v.tables g.chain.items spot (box (Link name w f)) (hop_of p w).tx
  directs_now spot old box same = hops_now (λ name f p. (w : Way) → FitsDirect name w v.tables g.chain.items spot (box (Link name w f)) (hop_of p w).tx)
      (λ name f p is w. subst (λ (b : Box). FitsDirect name w v.tables g.chain.items spot b (hop_of p w).tx) (sym (same name w f)) (old name w f p is))
      (λ name f none w. subst (λ (b : Box). FitsDirect name w v.tables g.chain.items spot b (hop_of (start_port (its_settings name)) w).tx) (sym (same name w f))
      (start_direct v.tables (g.layout.box (Link name w f)) (st.unopened name f none w) g.chain.items spot name w (hop_of (start_port (its_settings name)) w).tx))

  -- the sides had not come to the epoch
  module _ (was : (at : Side) (name : PortName) (e : Entity) → entity at name ≡ Some e → EntityWas at name e)
      (late : (at : Side) (name : PortName) → is_turned remote x at name ≡ true → g.epochs at name ≤ epoch) where
    -- a side that is opened is at its port's start
    starts : (at : Side) (name : PortName) → is_turned remote x at name ≡ true → (p : Port) × (ports_now name epoch ≡ Some p) × IsStart (its_settings name) p at
    starts at name turned = (
      unwrap_or (g.ports name epoch) (start_port (its_settings name)),
      port_new name (and_parts _ _ turned).0,
      by (g.ports name epoch) refl,
    )
      where
        by : (o : Option Port) → g.ports name epoch ≡ o → IsStart (its_settings name) (unwrap_or o (start_port (its_settings name))) at
        by None is = record { its_tx = refl; its_rx = refl }
        by (Some p) is = st.sides.not_open at name epoch p (late at name turned) is

    opens : (at : Side) (name : PortName) (e : Entity) → EntityWas at name e → (p : Port) × (ports_now name e.epoch ≡ Some p) × IsSide p at e.tx e.rx
    opens at name e (kept other is) = let o = st.sides.open_port at name e is in (o.0, port_stays name e.epoch o.0 o.1, o.2)
    opens at name e (reopened turned its is) = subst (λ (e : Entity). (p : Port) × (ports_now name e.epoch ≡ Some p) × IsSide p at e.tx e.rx) (sym is) (starts at name turned)

    below : (at : Side) (name : PortName) (e : Entity) → EntityWas at name e → e.epoch < epochs_now at name
    below at name e (kept other is) = let same = cond-false (is_turned remote x at name) (epoch + 1) (g.epochs at name) other in omega
        (arith, same, st.sides.open_epoch at name e is)
    below at name e (reopened turned its is) =
        let same = cond-true (is_turned remote x at name) (epoch + 1) (g.epochs at name) turned in
        let own = ap (λ (e : Entity). e.epoch) is in
        omega (arith, same, own)

    come : (at : Side) (name : PortName) (f : ℕ) → epochs_now at name ≤ f → g.epochs at name ≤ f
    come at name f le = elim (cases_Bool (is_turned remote x at name)) [
      | inl turned ↦ let same = cond-true (is_turned remote x at name) (epoch + 1) (g.epochs at name) turned in omega (arith, same, le, late at name turned)
      | inr other ↦ let same = cond-false (is_turned remote x at name) (epoch + 1) (g.epochs at name) other in omega (arith, same, le)
    ]

    pub sides_fit : SidesFit its_settings ports_now epochs_now entity
    sides_fit = record {
      open_port = λ at name e is. opens at name e (was at name e is);
      open_epoch = λ at name e is. below at name e (was at name e is);
      not_open = λ at name f p le is. elim (port_was name f p is) [
        | inl old ↦ st.sides.not_open at name f p (come at name f le) old
        | inr start ↦ subst (λ (p : Port). IsStart (its_settings name) p at) (sym start.1) (record { its_tx = refl; its_rx = refl })
      ];
      sizes = hops_now (λ name f p. HasSize (its_settings name).size p) st.sides.sizes (λ name f none. start_size v.tables name);
    }
