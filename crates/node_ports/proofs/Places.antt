-- The place of a port among rows in order.
use Rattle.std.proofs.Common.{◌≡◌, ◌≢◌, ℕ, ◌<◌, true, false, List, [], ◌∷◌, length, get_or, sym, ◌∙◌, ap, subst, inl, inr, arith, None}
use Rattle.std.specs.List.Sorted.{IsPartitionedBy, IsPartitionPoint}
use Rattle.std.proofs.lemmas.Bool.{both_ways, cases_order, false_from_ne_true}
use Rattle.std.proofs.lemmas.List.{get_or_default}
use Rattle.link_base.specs.declared.names.PortName.{PortName}
use Rattle.node_model.specs.Names.{is_port}
use Rattle.node_model.specs.Rows.{AreOrdered}
use Rattle.node_model.specs.Laws.{OrderedRows}
use Rattle.node_model.specs.State.{PortSide}
use Rattle.node_model.specs.Places.{side_name}
use Rattle.node_model.proofs.Rows.{places_ordered}
use Rattle.node_ports.specs.Order.{is_before, side_before, by_port, IsRowOf}
use Rattle.node_ports.specs.Table.{IsPlace, side_in}
use Rattle.node_ports.proofs.Before.{before_trans, before_self, same_port, port_itself}

-- a row that is there
pub row_at : {T : Type 0} (rows : List T) (place : ℕ) → place < length rows → T
row_at [] place lt = absurd (omega arith)
row_at (row ∷ rows) place lt = row

module _ {T : Type 0} (port_of : T → PortName) (rows : List T) (port : PortName) (up : AreOrdered (by_port port_of) rows) where
  -- those that stand before a port are at the front
  pub parted : IsPartitionedBy (λ (row : T). is_before (port_of row) port) rows
  parted i j d le lt is = elim (cases_order i j) [
    | inl same ↦ subst (λ k. is_before (port_of (get_or rows k d)) port ≡ true) (sym same) is
    | inr (inl below) ↦ before_trans (port_of (get_or rows i d)) (port_of (get_or rows j d)) port (places_ordered (by_port port_of) rows up i j d below lt) is
    | inr (inr above) ↦ absurd (omega arith)
  ]

  -- a port that isn't at the place up to which rows stand before it has no row
  pub no_row : (place : ℕ) → IsPartitionPoint (λ (row : T). is_before (port_of row) port ≡ true) (λ (row : T). is_before (port_of row) port ≡ false) rows place
      → ((d : T) → place < length rows → port_of (get_or rows place d) ≢ port) → (at : ℕ) → IsRowOf port_of rows port at → ⊥
  no_row place point other at row =
      let d : T = row_at rows at row.within in
      let same : port ≡ port_of (get_or rows at d) = sym (row.its d) in
      elim (cases_order at place) [
        | inl here ↦ other d (subst (λ k. k < length rows) here row.within) (subst (λ k. port_of (get_or rows k d) ≡ port) here (sym same))
        | inr (inl below) ↦ both_ways _ (before_self port) (subst (λ n. is_before n port ≡ true) (sym same) (point.0 at d (omega arith) below))
        | inr (inr above) ↦ both_ways _ (point.1 place d (omega arith) (omega arith))
            (subst (λ n. is_before (port_of (get_or rows place d)) n ≡ true) (sym same) (places_ordered (by_port port_of) rows up place at d above row.within))
      ]

-- two sides of one name don't stand one before the other
apart : (port : PortName) (a b : PortSide) → is_port port a.name ≡ true → is_port port b.name ≡ true → side_before a b ≡ false
apart port a b x y = rw (sym (same_port port a.name x), sym (same_port port b.name y)) (before_self port)

module _ (law : OrderedRows PortSide) (sides : List PortSide) (port : PortName) (up : AreOrdered side_before sides) where
  pub place_is : (place : ℕ) (side : PortSide) → place < length sides → side ≡ get_or sides place side → side.name ≡ port → IsPlace sides port place
  place_is place side lt here name =
      let passes : is_port port side.name ≡ true = rw name (port_itself port) in
      let found = law.found side_before (λ s. is_port port s.name) sides place side up (apart port) lt here passes in
      record {
        side = side;
        within = lt;
        here = here;
        name = name;
        found = found.0;
        replaces = found.1;
        stays = λ new same.
            let names : new.name ≡ side.name = same ∙ sym name in
            law.stays side_before sides place side new up lt here (λ other. ap (λ n. is_before other.name n) names) (λ other. ap (λ n. is_before n other.name) names);
      }

  -- the row of a port is its side
  pub row_is : (place : ℕ) → IsRowOf side_name sides port place → IsPlace sides port place
  row_is place row =
      let d : PortSide = row_at sides place row.within in
      place_is place (get_or sides place d) row.within (get_or_default sides place d (get_or sides place d) row.within) (row.its d)

  -- a port that has no row has no side
  pub none_is : ((place : ℕ) → IsRowOf side_name sides port place → ⊥) → side_in sides port ≡ None
  none_is none = law.none (λ s. is_port port s.name) sides (λ place d lt. false_from_ne_true _ (λ passes.
      none place (record { within = lt; its = λ row. ap side_name (get_or_default sides place row d lt) ∙ sym (same_port port (get_or sides place d).name passes) })))
