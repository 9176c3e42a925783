-- The relay's ports at which nothing has happened.
use Rattle.std.proofs.Common.{◌≡◌, ℕ, ◌==◌, Bool, true, false, cond, ◌&&◌, ◌||◌, List, [], ◌∷◌, ◌++◌, map, filter, flat_map, Option, Some, None, is_some, refl, sym, ◌∙◌, ap, subst, inl, inr, arith}
use Rattle.std.specs.List.{list_any, AllByRecursion}
use Rattle.std.proofs.lemmas.Bool.{cases_Bool, cond-true, cond-false, or_left, or_right, or_cases, and_parts, true≢false, eqb-true}
use Rattle.std.proofs.lemmas.List.{map-append}
use Rattle.std.proofs.lemmas.List.Folds.{list_any-append}
use Rattle.link_base.specs.declared.names.Chan.{Chan}
use Rattle.link_base.specs.declared.names.Goal.{Goal}
use Rattle.link_base.specs.declared.names.PortName.{PortName}
use Rattle.link_base.specs.declared.names.PortName.TheVariants.{Pc5, Uu}
use Rattle.link_base.specs.declared.names.Remote.{Remote}
use Rattle.bearer_map.specs.declared.rows.RemoteRow.{RemoteRow}
use Rattle.bearer_map.specs.declared.rows.Pc5Row.{Pc5Row}
use Rattle.bearer_map.specs.declared.rows.UuRow.{UuRow}
use Rattle.bearer_map.specs.declared.rows.MapRow.{MapRow}
use Rattle.bearer_map.specs.declared.settings.Settings.{Settings}
use Rattle.bearer_map.specs.Contents.{Contents}
use Rattle.rlc_model.specs.Rx.{empty_rx}
use Rattle.rlc_model.specs.Tx.{empty_tx}
use Rattle.rlc_model.specs.Sides.{Entity}
use Rattle.node_model.specs.Names.{is_remote, is_port}
use Rattle.node_model.specs.Rows.{AreOrdered}
use Rattle.node_model.specs.State.{PortSide, Node}
use Rattle.node_model.specs.Tables.{settings, has_remote}
use Rattle.node_model.specs.Opening.{new_entity, new_side, pc5_side, uu_side, pc5s_of, new_relay}
use Rattle.node_model.proofs.Finding.{each_append, each_made, each_flat}
use Rattle.node_ports.specs.Order.{side_before}
use Rattle.node_ports.proofs.Opened.{relay_ordered}
use Rattle.relay_core.specs.declared.opening.NewPort.{NewPort}
use Rattle.relay_core.specs.declared.ports.IngressPort.{IngressPort}
use Rattle.relay_core.specs.declared.ports.EgressPort.{EgressPort}
use Rattle.relay_core.specs.Ports.{ArePort, ArePorts, IsOfRelay, entity_by, side_of, sides_of, ingress_name, is_among}
use Rattle.relay_core.specs.Opening.{AreInOrder, new_pc5, new_uu, new_pc5s, new_ports, new_ingress, new_egress, new_port_side, HasChannels, HaveChannels}
use Rattle.relay_core.specs.Relay.{LeadsAmong, queue_capacity}
use Rattle.relay_core.proofs.Pairs.{pairs_made}

module _ (s : Settings) where
  side_new : (p : NewPort) → side_of (new_ingress p) (new_egress s p) ≡ new_port_side s p
  side_new p = ap (λ (x : Option Entity). let side : PortSide = record { name = p.name; size = p.size; entity = x; slot = None; queue = [] } in side) (by p.is_open)
    where
      by : (b : Bool) → entity_by (cond b (Some (empty_rx p.size)) None) (cond b (Some (empty_tx p.size s.poll_pdu s.poll_byte s.max_retx)) None) 0 ≡ cond b (Some (new_entity s p.size 0)) None
      by true = refl
      by false = refl

  sides_new : (ps : List NewPort) → sides_of (map new_ingress ps) (map (new_egress s) ps) ≡ map (new_port_side s) ps
  sides_new [] = refl
  sides_new (p ∷ ps) = ap (λ (x : PortSide). x ∷ sides_of (map new_ingress ps) (map (new_egress s) ps)) (side_new p) ∙ ap (λ (xs : List PortSide). new_port_side s p ∷ xs) (sides_new ps)

  pc5s_new : (goal : Goal) (rows : List Pc5Row) → map (new_port_side s) (map (new_pc5 goal) rows) ≡ map (pc5_side s goal) rows
  pc5s_new goal [] = refl
  pc5s_new goal (row ∷ rows) = ap (λ (xs : List PortSide). pc5_side s goal row ∷ xs) (pc5s_new goal rows)

  uus_new : (rows : List UuRow) → map (new_port_side s) (map new_uu rows) ≡ map (uu_side s) rows
  uus_new [] = refl
  uus_new (row ∷ rows) = ap (λ (xs : List PortSide). uu_side s row ∷ xs) (uus_new rows)

  abbrev sides_of_remote : List Pc5Row → RemoteRow → List PortSide
  sides_of_remote pc5s row = map (pc5_side s row.goal) (filter (λ (p : Pc5Row). is_remote row.remote p.remote) pc5s)

  remotes_new : (pc5s : List Pc5Row) (rows : List RemoteRow) → map (new_port_side s) (flat_map (new_pc5s pc5s) rows) ≡ flat_map (sides_of_remote pc5s) rows
  remotes_new pc5s [] = refl
  remotes_new pc5s (row ∷ rows) = map-append (new_port_side s) (new_pc5s pc5s row) (flat_map (new_pc5s pc5s) rows)
      ∙ ap (λ (xs : List PortSide). xs ++ map (new_port_side s) (flat_map (new_pc5s pc5s) rows)) (pc5s_new row.goal (filter (λ (p : Pc5Row). is_remote row.remote p.remote) pc5s))
      ∙ ap (λ (xs : List PortSide). sides_of_remote pc5s row ++ xs) (remotes_new pc5s rows)

  -- both sides of a new port are there, or neither is
  opens_new : (p : NewPort) → is_some (new_egress s p).tx ≡ is_some (new_ingress p).rx
  opens_new p = by p.is_open
    where
      by : (b : Bool) → is_some (cond b (Some (empty_tx p.size s.poll_pdu s.poll_byte s.max_retx)) None) ≡ is_some (cond b (Some (empty_rx p.size)) None)
      by true = refl
      by false = refl

-- the sides are those of a new relay
pub ports_new : (t : Contents) → sides_of (map new_ingress (new_ports t)) (map (new_egress (settings t)) (new_ports t)) ≡ (new_relay t).ports
ports_new t =
    let s = settings t in
    sides_new s (new_ports t) ∙ map-append (new_port_side s) (flat_map (new_pc5s t.pc5s) t.remotes) (map new_uu t.uus)
    ∙ ap (λ (xs : List PortSide). xs ++ map (new_port_side s) (map new_uu t.uus)) (remotes_new s t.pc5s t.remotes) ∙ ap (λ (xs : List PortSide). flat_map (sides_of_remote s t.pc5s) t.remotes ++ xs) (uus_new s t.uus)

-- each is a port of the relay
abbrev NewOfRelay : NewPort → Type 0
NewOfRelay p = IsOfRelay p.name

of_relay : (t : Contents) → AllByRecursion NewOfRelay (new_ports t)
of_relay t = each_append NewOfRelay (flat_map (new_pc5s t.pc5s) t.remotes) (map new_uu t.uus)
    (each_flat NewOfRelay (new_pc5s t.pc5s) (λ row. each_made NewOfRelay (new_pc5 row.goal) (λ p. tt) _) t.remotes) (each_made NewOfRelay new_uu (λ u. tt) t.uus)

new_pairs : (s : Settings) (names : List PortName) (ps : List NewPort) → AllByRecursion NewOfRelay ps → AllByRecursion (λ p. ArePort s.queue names (new_ingress p) (new_egress s p)) ps
new_pairs s names [] all = tt
new_pairs s names (p ∷ ps) all = (record { of_relay = all.0; name = refl; opens = opens_new s p; capacity_is = refl; in_slot = tt; in_queue = tt }, new_pairs s names ps all.1)

pub are_ports : (t : Contents) → AreInOrder t → ArePorts (queue_capacity t) (map new_ingress (new_ports t)) (map (new_egress (settings t)) (new_ports t))
are_ports t order =
    let s = settings t in
    let names : List PortName = map ingress_name (map new_ingress (new_ports t)) in
    record {
      pairs = pairs_made (ArePort s.queue names) new_ingress (new_egress s) (new_ports t) (new_pairs s names (new_ports t) (of_relay t));
      ordered = subst (AreOrdered side_before) (sym (ports_new t)) (relay_ordered s t.remotes order.remotes t.uus order.uus t.pc5s order.pc5s);
    }

-- a port is among the names of new ports where one of them has it
among_new : (port : PortName) (ps : List NewPort) → is_among (map ingress_name (map new_ingress ps)) port ≡ list_any (λ (p : NewPort). is_port port p.name) ps
among_new port [] = refl
among_new port (p ∷ ps) = ap (λ (b : Bool). is_port port p.name || b) (among_new port ps)

-- what some item passes, some item that was picked passes where it picks each such
picked_has : {T : Type 0} (test picks : T → Bool) → ((x : T) → test x ≡ true → picks x ≡ true) → (xs : List T) → list_any test xs ≡ true → list_any test (filter picks xs) ≡ true
picked_has test picks gives [] any = any
picked_has test picks gives (x ∷ xs) any = elim (cases_Bool (picks x)) [
  | inl is ↦ rw is (elim (or_cases (test x) (list_any test xs) any) [
    | inl here ↦ or_left (test x) (list_any test (filter picks xs)) here
    | inr later ↦ or_right (test x) (list_any test (filter picks xs)) (picked_has test picks gives xs later)
  ])
  | inr fails ↦ rw fails (elim (or_cases (test x) (list_any test xs) any) [
    | inl here ↦ absurd (true≢false (sym (gives x here) ∙ fails))
    | inr later ↦ picked_has test picks gives xs later
  ])
]

uu_among : (chan : Chan) (uus : List UuRow) → list_any (λ (p : NewPort). is_port (Uu chan) p.name) (map new_uu uus) ≡ list_any (λ (u : UuRow). chan.0 == u.chan.0) uus
uu_among chan [] = refl
uu_among chan (u ∷ uus) = ap (λ (b : Bool). (chan.0 == u.chan.0) || b) (uu_among chan uus)

module _ (remote : Remote) (chan : Chan) where
  abbrev is_its : Pc5Row → Bool
  is_its p = is_remote remote p.remote && (chan.0 == p.chan.0)

  abbrev has_its : NewPort → Bool
  has_its p = is_port (Pc5 remote chan) p.name

  pc5_among : (goal : Goal) (rows : List Pc5Row) → list_any has_its (map (new_pc5 goal) rows) ≡ list_any is_its rows
  pc5_among goal [] = refl
  pc5_among goal (p ∷ rows) = ap (λ (b : Bool). is_its p || b) (pc5_among goal rows)

  remote_among : (pc5s : List Pc5Row) → list_any is_its pc5s ≡ true → (row : RemoteRow) → is_remote remote row.remote ≡ true → list_any has_its (new_pc5s pc5s row) ≡ true
  remote_among pc5s any row its = pc5_among row.goal (filter (λ (p : Pc5Row). is_remote row.remote p.remote) pc5s)
      ∙ picked_has is_its (λ (p : Pc5Row). is_remote row.remote p.remote) (λ p is.
      let same : remote.0 ≡ row.remote.0 = eqb-true remote.0 row.remote.0 its in
      subst (λ (m : ℕ). (m == p.remote.0) ≡ true) same (and_parts (is_remote remote p.remote) (chan.0 == p.chan.0) is).0) pc5s any

  remotes_among : (pc5s : List Pc5Row) → list_any is_its pc5s ≡ true → (rows : List RemoteRow) → list_any (λ (row : RemoteRow). is_remote remote row.remote) rows ≡ true
      → list_any has_its (flat_map (new_pc5s pc5s) rows) ≡ true
  remotes_among pc5s any [] has = absurd (true≢false (sym has))
  remotes_among pc5s any (row ∷ rows) has = list_any-append has_its (new_pc5s pc5s row) (flat_map (new_pc5s pc5s) rows)
      ∙ elim (or_cases (is_remote remote row.remote) (list_any (λ (r : RemoteRow). is_remote remote r.remote) rows) has) [
        | inl here ↦ or_left (list_any has_its (new_pc5s pc5s row)) (list_any has_its (flat_map (new_pc5s pc5s) rows)) (remote_among pc5s any row here)
        | inr later ↦ or_right (list_any has_its (new_pc5s pc5s row)) (list_any has_its (flat_map (new_pc5s pc5s) rows)) (remotes_among pc5s any rows later)
      ]

leads_row : (t : Contents) (row : MapRow) → HasChannels t row → LeadsAmong (map ingress_name (map new_ingress (new_ports t))) row
leads_row t row has =
    let pc5s = flat_map (new_pc5s t.pc5s) t.remotes in
    let uus = map new_uu t.uus in
    let pc5 : PortName = Pc5 row.remote row.pc5 in
    let uu : PortName = Uu row.uu in (
      among_new pc5 (new_ports t) ∙ list_any-append (λ (p : NewPort). is_port pc5 p.name) pc5s uus
          ∙ or_left (list_any (λ (p : NewPort). is_port pc5 p.name) pc5s) (list_any (λ (p : NewPort). is_port pc5 p.name) uus) (remotes_among row.remote row.pc5 t.pc5s has.pc5 t.remotes has.remote),
      among_new uu (new_ports t) ∙ list_any-append (λ (p : NewPort). is_port uu p.name) pc5s uus
          ∙ or_right (list_any (λ (p : NewPort). is_port uu p.name) pc5s) (list_any (λ (p : NewPort). is_port uu p.name) uus) (uu_among row.uu t.uus ∙ has.uu),
    )

leads_each : (t : Contents) (rows : List MapRow) → AllByRecursion (HasChannels t) rows → AllByRecursion (LeadsAmong (map ingress_name (map new_ingress (new_ports t)))) rows
leads_each t [] all = tt
leads_each t (row ∷ rows) all = (leads_row t row all.0, leads_each t rows all.1)

-- each route leads to one of the ports
pub leads_new : (t : Contents) → HaveChannels t → AllByRecursion (LeadsAmong (map ingress_name (map new_ingress (new_ports t)))) t.maps
leads_new t have = leads_each t t.maps have
