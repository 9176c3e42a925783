-- A node of which each port changes, a port after another.
use Rattle.std.proofs.Common.{◌≡◌, ◌⊎◌, inl, inr, ◌≤◌, Bool, true, false, cond, ◌||◌, List, [], ◌∷◌, map, find, Option, Some, None, option_map, refl, sym, ◌∙◌, ap, arith}
use Rattle.std.specs.List.{list_any}
use Rattle.std.proofs.lemmas.Bool.{cases_Bool, cond-true, cond-false, or_parts}
use Rattle.link_base.specs.declared.names.PortName.{PortName}
use Rattle.link_base.specs.declared.names.Side.{Side}
use Rattle.bearer_map.specs.Contents.{Contents}
use Rattle.rlc_model.specs.declared.hop.Pdu.{Pdu}
use Rattle.node_model.specs.Names.{NodeName, is_port}
use Rattle.node_model.specs.State.{PortSide, Node, side_at}
use Rattle.node_model.proofs.Names.{cases_port, port_apart, port_refl}
use Rattle.chain_law.proofs.Stands.{View, Limits, Logs, Implies, Stands, stands_implied, shown, put, put_alike, stands_same}
use Rattle.chain_law.proofs.Nodes.{port_of}

-- sides stand with higher limits too
pub stands_higher : {q : Logs} {t : Contents} {view : View} {limit : Limits} {air : List (Option Pdu)} (higher : Limits)
    → ((side : Side) (name : PortName) → limit side name ≤ higher side name) → Stands q t view limit air → Stands q t view higher air
stands_higher higher le s = record {
  ports = s.ports;
  epochs = s.epochs;
  fits = s.fits;
  opened = s.opened;
  sides = s.sides;
  few = s.few;
  within = λ side name. omega (arith, s.within side name, le side name);
  sizes = s.sizes;
  heard = s.heard;
}

-- a side that isn't among the names of all isn't there
not_named : (ports : List PortSide) (q : PortName) → list_any (is_port q) (map port_of ports) ≡ false → find (λ (s : PortSide). is_port q s.name) ports ≡ None
not_named [] q e = refl
not_named (s ∷ ss) q e = let p = or_parts (is_port q s.name) (list_any (is_port q) (map port_of ss)) e in cond-false (is_port q s.name) (Some s)
    (find (λ (s : PortSide). is_port q s.name) ss) p.0 ∙ not_named ss q p.1

module _ (n m : Node) where
  -- the node where the ports of these names have changed
  abbrev pub mixed : List PortName → PortName → Option PortSide
  mixed names q = cond (list_any (is_port q) names) (side_at m q) (side_at n q)

  pub mixed_before : (names : List PortName) (q : PortName) → list_any (is_port q) names ≡ false → mixed names q ≡ side_at n q
  mixed_before names q e = cond-false (list_any (is_port q) names) (side_at m q) (side_at n q) e

  pub mixed_other : (p : PortName) (names : List PortName) (q : PortName) → (q ≡ p → ⊥) → mixed (p ∷ names) q ≡ mixed names q
  mixed_other p names q ne = ap (λ (b : Bool). cond (b || list_any (is_port q) names) (side_at m q) (side_at n q)) (port_apart q p ne)

  pub mixed_this : (p : PortName) (names : List PortName) → mixed (p ∷ names) p ≡ side_at m p
  mixed_this p names = ap (λ (b : Bool). cond (b || list_any (is_port p) names) (side_at m p) (side_at n p)) (port_refl p)

  module _ {t : Contents} {air : List (Option Pdu)} (v : View) (x : NodeName) (limits : List PortName → Limits) (logs : List PortName → Logs)
      (up : (p : PortName) (names : List PortName) (side : Side) (q : PortName) → limits names side q ≤ limits (p ∷ names) side q)
      (said_so : (p : PortName) (names : List PortName) → list_any (is_port p) names ≡ true → Implies (logs names) (logs (p ∷ names)))
      (one : (p : PortName) (names : List PortName) → list_any (is_port p) names ≡ false → Stands (logs names) t (put v x (mixed names)) (limits names) air
      → Stands (logs (p ∷ names)) t (put v x (mixed (p ∷ names))) (limits (p ∷ names)) air) where
    -- a name that stands there twice changes nothing more
    once_more : (p : PortName) (names : List PortName) → list_any (is_port p) names ≡ true → Stands (logs names) t (put v x (mixed names)) (limits names) air
        → Stands (logs (p ∷ names)) t (put v x (mixed (p ∷ names))) (limits (p ∷ names)) air
    once_more p names again s = stands_higher (limits (p ∷ names)) (up p names)
        (stands_implied (said_so p names again) (stands_same _ (put_alike v x (mixed names) (mixed (p ∷ names)) (λ q own. ap (option_map shown) (same q (cases_port q p)))) s))
      where
        same : (q : PortName) → (q ≡ p) ⊎ (q ≡ p → ⊥) → mixed (p ∷ names) q ≡ mixed names q
        same q (inr ne) = mixed_other p names q ne
        same q (inl e) = ap (mixed (p ∷ names)) e ∙ mixed_this p names ∙ sym (cond-true (list_any (is_port p) names) (side_at m p) (side_at n p) again) ∙ ap (mixed names) (sym e)

    all_names : (names : List PortName) → Stands (logs []) t (put v x (side_at n)) (limits []) air → Stands (logs names) t (put v x (mixed names)) (limits names) air
    all_names [] s = s
    all_names (p ∷ names) s = elim (cases_Bool (list_any (is_port p) names)) [
      | inl again ↦ once_more p names again (all_names names s)
      | inr new_name ↦ one p names new_name (all_names names s)
    ]

    -- all have
    pub all_mixed : ((q : PortName) → side_at n q ≡ None → side_at m q ≡ None) → Stands (logs []) t (put v x (side_at n)) (limits []) air
        → Stands (logs (map port_of n.ports)) t (put v x (side_at m)) (limits (map port_of n.ports)) air
    all_mixed none s = stands_same _ (put_alike v x (mixed names) (side_at m) (λ q own. ap (option_map shown) (sym (whole q (cases_Bool (list_any (is_port q) names))))))
        (all_names names s)
      where
        names : List PortName
        names = map port_of n.ports

        whole : (q : PortName) → (list_any (is_port q) names ≡ true) ⊎ (list_any (is_port q) names ≡ false) → mixed names q ≡ side_at m q
        whole q (inl e) = cond-true (list_any (is_port q) names) (side_at m q) (side_at n q) e
        whole q (inr e) = cond-false (list_any (is_port q) names) (side_at m q) (side_at n q) e ∙ not_named n.ports q e ∙ sym (none q (not_named n.ports q e))
