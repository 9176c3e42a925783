-- Names stay where rows are set by name.
use Rattle.std.proofs.Common.{◌≡◌, Bool, true, false, cond, List, [], ◌∷◌, map, Option, Some, refl, ◌∙◌, ap}
use Rattle.std.specs.Prelude.{find}
use Rattle.node_model.specs.Names.{is_key, is_port, replaced}
use Rattle.node_model.specs.State.{PortSide, Node, Outgoing, Incoming, set_side, set_incoming, set_outgoing}
use Rattle.node_model.specs.Feeding.{in_key, out_key}
use Rattle.node_model.proofs.Names.{key_is, port_is}
use Rattle.node_end.specs.Ports.{side_name}

-- rows found and set by name
module _ {T N : Type 0} (name : T → N) (same : N → N → Bool) (one : (a b : N) → same a b ≡ true → a ≡ b) where
  kept_if : (b : Bool) (new x : T) (xs ys : List N) → (b ≡ true → name new ≡ name x) → xs ≡ ys → name (cond b new x) ∷ xs ≡ name x ∷ ys
  kept_if true new x xs ys named rest = ap (λ (n : N). n ∷ xs) (named refl) ∙ ap (λ (ns : List N). name x ∷ ns) rest
  kept_if false new x xs ys named rest = ap (λ (ns : List N). name x ∷ ns) rest

  pub names_kept : (new : T) (xs : List T) → map name (replaced (λ x. same (name new) (name x)) new xs) ≡ map name xs
  names_kept new [] = refl
  names_kept new (x ∷ xs) = kept_if (same (name new) (name x)) new x _ _ (one (name new) (name x)) (names_kept new xs)

  found_if : (b : Bool) (n : N) (x y : T) (rest : Option T) → (b ≡ true → n ≡ name x) → (rest ≡ Some y → n ≡ name y) → cond b (Some x) rest ≡ Some y → n ≡ name y
  found_if true n x y rest named later is = named refl ∙ ap name (let this : x ≡ y = cc in this)
  found_if false n x y rest named later is = later is

  pub found_name : (n : N) (xs : List T) (y : T) → find (λ x. same n (name x)) xs ≡ Some y → n ≡ name y
  found_name n [] y is = absurd cc
  found_name n (x ∷ xs) y is = found_if (same n (name x)) n x y (find (λ z. same n (name z)) xs) (one n (name x)) (found_name n xs y) is

-- the sides, and the ends, of a node stay the same
pub sides_kept : (n : Node) (s : PortSide) → map side_name (set_side n s).ports ≡ map side_name n.ports
sides_kept n s = names_kept side_name is_port port_is s n.ports

pub in_keys_kept : (n : Node) (i : Incoming) → map in_key (set_incoming n i).incoming ≡ map in_key n.incoming
in_keys_kept n i = names_kept in_key is_key key_is i n.incoming

pub out_keys_kept : (n : Node) (o : Outgoing) → map out_key (set_outgoing n o).outgoing ≡ map out_key n.outgoing
out_keys_kept n o = names_kept out_key is_key key_is o n.outgoing
