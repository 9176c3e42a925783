-- As an end gives, there is less and less room, and what has no room has none behind it.
use Rattle.std.proofs.Common.{◌≡◌, ◌⊎◌, inl, inr, ℕ, ◌+◌, ◌-◌, ◌≤◌, false, nat_lt, List, [], ◌∷◌, ◌++◌, Option, Some, None, is_none, refl, sym, ◌∙◌, ap, subst, arith}
use Rattle.std.specs.List.{prefix_len}
use Rattle.std.specs.Option.{option_and_then}
use Rattle.std.proofs.lemmas.Bool.{ltb-false, le-ltb}
use Rattle.std.proofs.lemmas.List.{length_push}
use Rattle.link_base.specs.declared.names.Key.{Key}
use Rattle.link_base.specs.declared.names.PortName.{PortName}
use Rattle.link_base.specs.declared.rlc_words.Tag.{Tag}
use Rattle.bearer_map.specs.declared.ids.Attachment.{Attachment}
use Rattle.bearer_map.specs.Contents.{Contents}
use Rattle.rlc_model.specs.Tx.{Tx, Kept, Gives, room}
use Rattle.node_model.specs.Feeding.{port_on, first_hop, room_of, room_at, has_room, GivesPdu}
use Rattle.node_model.specs.State.{PortSide, Node, side_at, entity_of, entity_at, id_in, set_side}
use Rattle.node_model.proofs.ByName.{sides_set}
use Rattle.node_model.proofs.Names.{cases_port}

-- the node attaches what it attached, and no port has more room
pub record HasLessRoom (old new : Node) : Type 0 where
  pub attached : new.attached ≡ old.attached
  pub room : (port : PortName) → room_of (entity_at new port) ≤ room_of (entity_at old port)

pub as_much : (old new : Node) → new.ports ≡ old.ports → new.attached ≡ old.attached → HasLessRoom old new
as_much old new ports attached = record {
  attached = attached;
  room = λ port. subst (λ (x : List PortSide). room_of (entity_at (record old { ports = x }) port) ≤ room_of (entity_at old port)) (sym ports) (omega arith);
}

pub less_on : (a b c : Node) → HasLessRoom a b → HasLessRoom b c → HasLessRoom a c
less_on a b c p q = record { attached = q.attached ∙ p.attached; room = λ port. omega (arith, p.room port, q.room port) }

prefix_push : (xs : List (Option Kept)) (k : Kept) → prefix_len is_none (xs ++ Some k ∷ []) ≡ prefix_len is_none xs
prefix_push [] k = refl
prefix_push (None ∷ xs) k = ap (λ (n : ℕ). 1 + n) (prefix_push xs k)
prefix_push (Some x ∷ xs) k = refl

-- a transmitter that is given an SDU has room for one less
room_falls : (old new : Tx) (tag : Tag) (sdu : List ℕ) (number : ℕ) → Gives old tag sdu number new → room new ≤ room old
room_falls old new tag sdu number g =
    let k : Kept = record { tag = tag; sdu = sdu; flags = []; retx_count = None } in
    omega (arith, ap room g.is, prefix_push old.kept k, length_push old.kept (Some k))

pub gives_less : (t : Contents) (old : Node) (key : Key) (tag : Tag) (pdu : List ℕ) (new : Node) → GivesPdu t old key tag pdu new → HasLessRoom old new
gives_less t old key tag pdu new x = record {
  attached = ap (λ (n : Node). n.attached) x.is;
  room = λ port. subst (λ (n : Node). room_of (entity_at n port) ≤ room_of (entity_at old port)) (sym x.is) (by port (cases_port port x.side.name));
}
  where
    behind : PortSide
    behind = record x.side { entity = Some (record x.entity { tx = x.tx }) }

    named : x.side.name ≡ x.port
    named = sides_set.named old.ports x.port x.side x.its.here

    here : side_at old x.side.name ≡ Some x.side
    here = ap (side_at old) named ∙ x.its.here

    was : entity_at old x.side.name ≡ Some x.entity
    was = ap (option_and_then entity_of) here ∙ x.its.is_open

    by : (port : PortName) → (port ≡ x.side.name) ⊎ (port ≡ x.side.name → ⊥) → room_of (entity_at (set_side old behind) port) ≤ room_of (entity_at old port)
    by port (inl same) = subst (λ (p : PortName). room_of (entity_at (set_side old behind) p) ≤ room_of (entity_at old p)) (sym same)
        (omega (
          arith,
          ap (λ (o : Option PortSide). room_of (option_and_then entity_of o)) (sides_set.own old.ports behind x.side here),
          ap room_of was,
          room_falls x.entity.tx x.tx _ _ x.number x.gives,
        ))
    by port (inr ne) = omega (arith, ap (λ (o : Option PortSide). room_of (option_and_then entity_of o)) (sides_set.others old.ports behind port (λ e. ne (sym e))))

-- what had no room has none
pub no_more_room : (t : Contents) (old new : Node) (key : Key) → HasLessRoom old new → has_room t old key ≡ false → has_room t new key ≡ false
no_more_room t old new key less none = ap (λ (xs : List Attachment). nat_lt 0 (room_at new (port_on t (id_in xs key.remote) key))) less.attached
    ∙ by (first_hop t old key) (ltb-false 0 (room_at old (first_hop t old key)) none)
  where
    by : (hop : Option PortName) → room_at old hop ≤ 0 → nat_lt 0 (room_at new hop) ≡ false
    by None le = refl
    by (Some port) le = le-ltb 0 (room_of (entity_at new port)) (omega (arith, le, less.room port))
