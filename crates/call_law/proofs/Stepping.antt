-- Behind each run each line can be carried out.
use Rattle.std.proofs.Common.{◌≡◌, inl, inr, ℕ, suc, ◌≤◌, ◌==◌, Bool, true, ◌&&◌, ◌||◌, List, [], ◌∷◌, slice_index_or, find, Option, Some, None, is_some, option_and_then, refl, sym, ◌∙◌, ap, arith, Contains}
use Rattle.std.specs.List.{list_any}
use Rattle.std.proofs.lemmas.Bool.{and_parts, cases_Bool, cond-true, cond-false, eqb-true, false≢true}
use Rattle.std.proofs.lemmas.Option.{none-some, same_Some}
use Rattle.std.proofs.lemmas.List.{get_or_default}
use Rattle.link_base.specs.declared.names.Drb.{Drb}
use Rattle.link_base.specs.declared.names.Key.{Key}
use Rattle.link_base.specs.declared.names.SnSize.{SnSize}
use Rattle.link_base.specs.declared.names.SnSize.TheVariants.{S12, S18}
use Rattle.link_base.specs.SequenceNumbers.{window}
use Rattle.bearer_map.specs.declared.rows.BearerRow.{BearerRow}
use Rattle.bearer_map.specs.Contents.{Contents}
use Rattle.rlc_model.specs.Sides.{Entity}
use Rattle.script_text.specs.declared.stage.ScriptStage.{ScriptStage}
use Rattle.node_model.specs.Names.{NodeName, is_remote, is_port, source, sink}
use Rattle.node_model.specs.State.{PortSide, Node, side_at, entity_at, entity_of, outgoing_at, incoming_at}
use Rattle.node_model.specs.Tables.{has_bearer}
use Rattle.node_model.proofs.Names.{remote_is}
use Rattle.node_ports.specs.Sides.{IsSmall}
use Rattle.chain_model.specs.State.{Chain, node_at}
use Rattle.chain_model.specs.Runs.{Turn, entries, LeadsTo}
use Rattle.chain_model.specs.Carried.{IsRowOf}
use Rattle.chain_model.proofs.Lookups.{here}
use Rattle.chain_law.specs.Laws.{ComesUp, behind, unfed, IsWithinTickets}
use Rattle.chain_core.specs.Chain.{HasEnds, HasSmallNumbers}
use Rattle.chain_core.specs.Nodes.{HaveNumbers}
use Rattle.call_law.specs.Foundations.{RunLaws}
use Rattle.call_law.specs.Laws.{StepsCanBeCarriedOut}

-- one of a list passes
any_passes : {X : Type 0} (test : X → Bool) (xs : List X) → list_any test xs ≡ true → (x : X) × Contains xs x × (test x ≡ true)
any_passes test [] any = absurd (false≢true any)
any_passes test (x ∷ xs) any = elim (cases_Bool (test x)) [
  | inl passes ↦ (x, (0, omega arith, refl), passes)
  | inr fails ↦
      let later = any_passes test xs (ap (λ (b : Bool). b || list_any test xs) (sym fails) ∙ any) in
      let at = later.1 in
      (later.0, (suc at.0, omega (arith, at.1), at.2), later.2)
]

-- what is found among items is one of them
found_among : {X : Type 0} (test : X → Bool) (xs : List X) (x : X) → find test xs ≡ Some x → Contains xs x
found_among test [] x found = absurd (none-some x found)
found_among test (y ∷ xs) x found = elim (cases_Bool (test y)) [
  | inl passes ↦ (0, omega arith, sym (same_Some x y (sym found ∙ cond-true (test y) (Some y) (find test xs) passes)))
  | inr fails ↦
      let at = found_among test xs x (sym (cond-false (test y) (Some y) (find test xs) fails) ∙ found) in
      (suc at.0, omega (arith, at.1), at.2)
]

-- a side that is open has its entity
its_side : (side : Option PortSide) (e : Entity) → option_and_then entity_of side ≡ Some e → (s : PortSide) × (side ≡ Some s) × (s.entity ≡ Some e)
its_side None e is = absurd (none-some e is)
its_side (Some s) e is = (s, refl, is)

-- a bearer of the tables has a row
bearer_row : (t : Contents) (key : Key) → has_bearer t key.remote key.drb ≡ true → (row : BearerRow) × IsRowOf t key row
bearer_row t key has =
    let found = any_passes (λ (row : BearerRow). is_remote key.remote row.remote && (key.drb.0 == row.drb.0)) t.bearers has in
    let parts = and_parts _ _ found.2 in (
      found.0,
      record {
        among = found.1;
        remote = sym (remote_is key.remote found.0.remote parts.0);
        drb = ap (λ (n : ℕ). let d : Drb = record { 0 = n } in d) (sym (eqb-true key.drb.0 found.0.drb.0 parts.1));
      },
    )

-- numbers that lie within the tickets are small
small_window : (size : SnSize) → window size ≤ 131072
small_window S12 = omega arith
small_window S18 = omega arith

within_small : (c : Chain) (e : Entity) → IsWithinTickets c e → IsSmall e
within_small c e is = record {
  sent = omega (arith, is.given, is.tickets, small_window e.tx.size);
  heard = omega (arith, is.heard, is.tickets, small_window e.rx.size);
}

module _ (laws : RunLaws) where
  -- an entity at a node is that of a side
  entity_within : (c : Chain) → ComesUp c → (name : NodeName) (s : PortSide) (e : Entity) → Contains (node_at c name).ports s → s.entity ≡ Some e → IsWithinTickets c e
  entity_within c up name s e among is =
      let found = laws.found c up name s among in
      laws.numbers c up found.0 s.name e (ap (λ (x : NodeName). entity_at (node_at c x) s.name) found.1 ∙ ap (option_and_then entity_of) found.2 ∙ is)

  small_numbers : (c : Chain) → ComesUp c → HasSmallNumbers c
  small_numbers c up name port e is =
      let ports = (node_at c name).ports in
      let its = its_side (side_at (node_at c name) port) e is in
      within_small c e (entity_within c up name its.0 e (found_among (λ (s : PortSide). is_port port s.name) ports its.0 its.1) its.2)

  -- each transmitter has numbers left
  numbers_left : (c : Chain) → ComesUp c → HaveNumbers c.nodes
  numbers_left c up name k d lt e is =
      let s : PortSide = slice_index_or (node_at c name).ports k d in
      let within = entity_within c up name s e (k, lt, get_or_default (node_at c name).ports k s d lt) is in
      omega (arith, within.given, within.tickets, small_window e.tx.size)

  both_ends : (h : List Turn) (stage : ScriptStage) (c : Chain) → LeadsTo h stage c → HasEnds c
  both_ends h stage c leads = record { sender = sender; receiver = receiver }
    where
      sender : (key : Key) → has_bearer c.tables key.remote key.drb ≡ true → is_some (outgoing_at (node_at c (source key)) key) ≡ true
      sender key has =
          let row = bearer_row c.tables key has in
          let end = (laws.ends (entries h) c (laws.past h stage c leads) row.0 key row.1).0 in
          ap (λ (n : Node). is_some (outgoing_at n key)) (here c (source key) end.node end.its_node) ∙ ap is_some end.its_row

      receiver : (key : Key) → has_bearer c.tables key.remote key.drb ≡ true → is_some (incoming_at (node_at c (sink key)) key) ≡ true
      receiver key has =
          let row = bearer_row c.tables key has in
          let end = (laws.ends (entries h) c (laws.past h stage c leads) row.0 key row.1).1 in
          ap (λ (n : Node). is_some (incoming_at n key)) (here c (sink key) end.node end.its_node) ∙ ap is_some end.its_row

  pub steps : StepsCanBeCarriedOut
  steps h stage c leads = record {
    ends = both_ends h stage c leads;
    small = small_numbers c up;
    tags = laws.tags c up;
    numbers = λ line own reply mid does. numbers_left mid (unfed line own reply up does);
  }
    where
      up : ComesUp c
      up = behind h stage leads
