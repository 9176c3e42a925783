-- Which bearers go over a port.
use Rattle.std.proofs.Common.{◌≡◌, inl, inr, ℕ, ◌≤◌, Bool, true, false, List, [], ◌∷◌, Option, Some, None, is_some, refl, sym, ◌∙◌, ap, subst, eq-eqb, arith}
use Rattle.std.specs.Prelude.{◌&&◌, ◌==◌, find, option_map, nat_lt, option_and_then}
use Rattle.std.specs.List.{list_any}
use Rattle.std.proofs.lemmas.Bool.{cases_Bool, cond-true, cond-false, or_left, or_right, and_from, eqb-true}
use Rattle.std.proofs.lemmas.Bool.Decides.{nat_tests}
use Rattle.link_base.specs.declared.names.Key.{Key}
use Rattle.link_base.specs.declared.names.LocalId.{LocalId}
use Rattle.link_base.specs.declared.names.PortName.{PortName}
use Rattle.link_base.specs.declared.names.PortName.TheVariants.{Direct, Pc5, Uu}
use Rattle.link_base.specs.declared.names.Way.{Way}
use Rattle.link_base.specs.declared.names.Way.TheVariants.{Ul, Dl}
use Rattle.bearer_map.specs.declared.ids.Attachment.{Attachment}
use Rattle.bearer_map.specs.declared.rows.MapRow.{MapRow}
use Rattle.bearer_map.specs.Contents.{Contents}
use Rattle.rlc_model.specs.Sides.{Entity}
use Rattle.node_model.specs.Names.{back, is_port, is_remote}
use Rattle.node_model.specs.State.{PortSide, Node, entity_at, entity_of, id_in, set_entity}
use Rattle.node_model.specs.Tables.{map_row, relay_port}
use Rattle.node_model.specs.Feeding.{first_hop, has_room, port_on, room_at, room_of}
use Rattle.node_model.proofs.ByName.{sides_set}
use Rattle.node_model.proofs.Finding.{each_found, find_passes}
use Rattle.node_model.proofs.Names.{port_refl, remote_refl}
use Rattle.node_bearers.proofs.Found.{both_true}
use Rattle.node_end.specs.Opening.{HaveRoutes, IsRoute}
use Rattle.node_end.specs.Ports.{is_mapped, is_over, maps_to}
use Rattle.node_end.proofs.Rooms.{some_is}

-- what is found that passes another test too is one that passes it
pub found_any : {T : Type 0} (test other : T → Bool) (xs : List T) (y : T) → find test xs ≡ Some y → other y ≡ true → list_any other xs ≡ true
found_any test other [] y is passes = absurd cc
found_any test other (x ∷ xs) y is passes = elim (cases_Bool (test x)) [
  | inl here ↦ or_left (other x) (list_any other xs) (subst (λ z. other z ≡ true) (sym (some_is x y (sym (cond-true (test x) (Some x) (find test xs) here) ∙ is))) passes)
  | inr not_here ↦ or_right (other x) (list_any other xs) (found_any test other xs y (sym (cond-false (test x) (Some x) (find test xs) not_here) ∙ is) passes)
]

-- a row leads over its channels
maps_relay : (way : Way) (key : Key) (row : MapRow) → (is_remote key.remote row.remote && (key.drb.0 == row.drb.0)) ≡ true → maps_to (relay_port way row) key row ≡ true
maps_relay Ul key row its = and_from (is_remote key.remote row.remote && (key.drb.0 == row.drb.0)) _ its (or_left (is_port (Pc5 row.remote row.pc5) (Pc5 row.remote row.pc5)) (is_port (Pc5 row.remote row.pc5) (Uu row.uu)) (port_refl (Pc5 row.remote row.pc5)))
maps_relay Dl key row its = and_from (is_remote key.remote row.remote && (key.drb.0 == row.drb.0)) _ its (or_right (is_port (Uu row.uu) (Pc5 row.remote row.pc5)) (is_port (Uu row.uu) (Uu row.uu)) (port_refl (Uu row.uu)))

over_relay : (t : Contents) (way : Way) (key : Key) (row : MapRow) → is_mapped t.maps (relay_port way row) key ≡ true → is_over t (relay_port way row) key ≡ true
over_relay t Ul key row is = is
over_relay t Dl key row is = is

mapped : (t : Contents) (key : Key) (found : Option MapRow) (port : PortName) → map_row t key.remote key.drb ≡ found → option_map (relay_port key.way) found ≡ Some port → is_over t port key ≡ true
mapped t key None port its is = absurd cc
mapped t key (Some row) port its is =
    let passes = find_passes (λ (r : MapRow). is_remote key.remote r.remote && (key.drb.0 == r.drb.0)) t.maps row its in
    subst (λ (p : PortName). is_over t p key ≡ true) (some_is (relay_port key.way row) port is)
    (over_relay t key.way key row (found_any (λ (r : MapRow). is_remote key.remote r.remote && (key.drb.0 == r.drb.0)) (maps_to (relay_port key.way row) key) t.maps row its (maps_relay key.way key row passes)))

-- a key's bearer goes over the port of its first hop
pub hop_over : (t : Contents) (id : Option LocalId) (key : Key) (port : PortName) → port_on t id key ≡ Some port → is_over t port key ≡ true
hop_over t None key port is = subst (λ (p : PortName). is_over t p key ≡ true) (some_is (Direct key.remote key.drb) port is) (rw (remote_refl key.remote) (eq-eqb key.drb.0 key.drb.0 refl))
hop_over t (Some id) key port is = mapped t key (map_row t key.remote key.drb) port refl is

-- so do both keys of a bearer
pub back_over : (t : Contents) (port : PortName) (key : Key) → is_over t port (back key) ≡ is_over t port key
back_over t (Direct remote drb) key = refl
back_over t (Pc5 remote chan) key = refl
back_over t (Uu chan) key = refl

-- room does not come
no_room : (a b : ℕ) → b ≤ a → nat_lt 0 a ≡ false → nat_lt 0 b ≡ false
no_room a b le full = grind (arith, nat_tests)

module _ (t : Contents) (n m : Node) (attached : m.attached ≡ n.attached) where
  by_hop : (key : Key) (hop : Option PortName) → first_hop t n key ≡ hop → ((port : PortName) → hop ≡ Some port → room_of (entity_at m port) ≤ room_of (entity_at n port))
      → nat_lt 0 (room_at n hop) ≡ false → nat_lt 0 (room_at m hop) ≡ false
  by_hop key None is less full = refl
  by_hop key (Some port) is less full = no_room (room_of (entity_at n port)) (room_of (entity_at m port)) (less port refl) full

  pub less_room : (key : Key) → ((port : PortName) → first_hop t n key ≡ Some port → room_of (entity_at m port) ≤ room_of (entity_at n port)) → has_room t n key ≡ false → has_room t m key ≡ false
  less_room key less full =
      ap (λ (ids : List Attachment). nat_lt 0 (room_at m (port_on t (id_in ids key.remote) key))) attached
      ∙ by_hop key (first_hop t n key) refl less full

-- the room of other ports stays
pub room_elsewhere : (n : Node) (side : PortSide) (entity : Entity) (q : PortName) → (side.name ≡ q → ⊥) → room_of (entity_at (set_entity n side entity) q) ≡ room_of (entity_at n q)
room_elsewhere n side entity q apart = ap (λ (s : Option PortSide). room_of (option_and_then entity_of s)) (sides_set.others n.ports (record side { entity = Some entity }) q apart)

-- a bearer that goes over the relay has an identity that fits a SRAP header
route_if : (t : Contents) (key : Key) (found : Option MapRow) (port : PortName) → HaveRoutes t → map_row t key.remote key.drb ≡ found → option_map (relay_port key.way) found ≡ Some port → (1 ≤ key.drb.0) × (key.drb.0 ≤ 32)
route_if t key None port routes its is = absurd cc
route_if t key (Some row) port routes its is =
    let passes = find_passes (λ (r : MapRow). is_remote key.remote r.remote && (key.drb.0 == r.drb.0)) t.maps row its in
    let same = eqb-true key.drb.0 row.drb.0 (both_true (is_remote key.remote row.remote) (key.drb.0 == row.drb.0) passes).1 in
    let route = each_found (IsRoute t) (λ (r : MapRow). is_remote key.remote r.remote && (key.drb.0 == r.drb.0)) t.maps row routes its in
    (omega (arith, same, route.from_1), omega (arith, same, route.to_32))

pub route_fits : (t : Contents) (id : Option LocalId) (key : Key) (port : PortName) → HaveRoutes t → port_on t id key ≡ Some port → is_some id ≡ true → (1 ≤ key.drb.0) × (key.drb.0 ≤ 32)
route_fits t None key port routes is some = absurd cc
route_fits t (Some id) key port routes is some = route_if t key (map_row t key.remote key.drb) port routes refl is
