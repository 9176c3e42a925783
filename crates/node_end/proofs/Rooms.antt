-- Numbers and room of transmitters that are given SDUs.
use Rattle.std.proofs.Common.{◌≡◌, ℕ, suc, ◌+◌, ◌-◌, ◌^◌, ◌<◌, ◌≤◌, Bool, true, false, cond, List, [], ◌∷◌, ◌++◌, length, get_or, Option, Some, None, refl, sym, ◌∙◌, ap, subst, eq-eqb, arith}
use Rattle.std.specs.Prelude.{find, All, option_and_then}
use Rattle.std.specs.List.{AllByRecursion, prefix_len}
use Rattle.std.specs.Option.{is_none}
use Rattle.std.proofs.lemmas.Bool.{false≢true}
use Rattle.std.proofs.lemmas.List.{length_push}
use Rattle.std.proofs.lemmas.List.Sums.{prefix_len-le-length}
use Rattle.link_base.specs.declared.names.SnSize.{SnSize}
use Rattle.link_base.specs.declared.names.SnSize.TheVariants.{S12, S18}
use Rattle.link_base.specs.declared.names.Key.{Key}
use Rattle.link_base.specs.declared.names.Way.{Way}
use Rattle.link_base.specs.declared.names.Way.TheVariants.{Ul, Dl}
use Rattle.link_base.specs.declared.names.PortName.{PortName}
use Rattle.link_base.specs.declared.names.PortName.TheVariants.{Direct, Pc5, Uu}
use Rattle.link_base.specs.declared.rlc_words.Tag.{Tag}
use Rattle.link_base.specs.SequenceNumbers.{window}
use Rattle.rlc_model.specs.Tx.{Tx, Kept, Gives, tx_next, room}
use Rattle.rlc_model.specs.Sides.{Entity}
use Rattle.node_model.specs.Names.{is_port, is_key, is_way, replaced}
use Rattle.node_model.specs.State.{PortSide, Outgoing, Node, entity_of, entity_at, side_at}
use Rattle.node_model.specs.Feeding.{room_of, out_key}
use Rattle.node_ports.specs.Calls.{GivesPort}
use Rattle.node_end.specs.Ports.{side_name}
use Rattle.node_end.specs.Feeding.{HasNumbers, HasNumbersLeft, HaveNumbersLeft}
use Rattle.node_model.proofs.Names.{port_is, key_is}

-- one more SDU at the end
front_push : {A : Type 0} (xs : List (Option A)) (x : A) → prefix_len is_none (xs ++ Some x ∷ []) ≡ prefix_len is_none xs
front_push [] x = refl
front_push (None ∷ xs) x = ap (λ (n : ℕ). 1 + n) (front_push xs x)
front_push (Some y ∷ xs) x = refl

-- an SDU that is given takes a number, and room for one
pub room_given : (old new : Tx) (tag : Tag) (sdu : List ℕ) (number : ℕ) → Gives old tag sdu number new → (room new + 1 ≡ room old) × (tx_next new + room new ≡ tx_next old + room old)
room_given old new tag sdu number g =
    let kept : Kept = record { tag = tag; sdu = sdu; flags = []; retx_count = None } in
    let after = record old { kept = old.kept ++ Some kept ∷ [] } in
    let longer = length_push old.kept (Some kept) in
    let front = front_push old.kept kept in
    let one : room after + 1 ≡ room old = omega (arith, longer, front, g.has_room) in
    let both : tx_next after + room after ≡ tx_next old + room old = omega (arith, longer, front, g.has_room) in
    (ap (λ (t : Tx). room t + 1) g.is ∙ one, ap (λ (t : Tx). tx_next t + room t) g.is ∙ both)

window_small : (size : SnSize) → window size ≤ 131072
window_small S12 = omega arith
window_small S18 = omega arith

-- a window takes no more SDUs than there are numbers left
left_of : (tx : Tx) → tx_next tx < 2 ^ 62 - 2 ^ 40 → tx_next tx + room tx < 2 ^ 62
left_of tx lt = omega (arith, lt, window_small tx.size, prefix_len-le-length is_none tx.kept)

from_places : {A : Type 0} (P Q : A → Type 0) → ((x : A) → P x → Q x) → (xs : List A) → ((i : ℕ) (d : A) → i < length xs → P (get_or xs i d)) → AllByRecursion Q xs
from_places P Q goes [] each = tt
from_places P Q goes (x ∷ xs) each = (goes x (each 0 x (omega arith)), from_places P Q goes xs (λ i d lt. each (suc i) d (omega arith)))

pub numbers_left : (n : Node) → All HasNumbers n.ports → HaveNumbersLeft n
numbers_left n far = from_places HasNumbers HasNumbersLeft (λ (s : PortSide) has entity is. left_of entity.tx (has entity is)) n.ports far

port_itself : (p : PortName) → is_port p p ≡ true
port_itself (Direct r d) = rw (eq-eqb r.0 r.0 refl, eq-eqb d.0 d.0 refl) refl
port_itself (Pc5 r c) = rw (eq-eqb r.0 r.0 refl, eq-eqb c.0 c.0 refl) refl
port_itself (Uu c) = eq-eqb c.0 c.0 refl

way_itself : (w : Way) → is_way w w ≡ true
way_itself Ul = refl
way_itself Dl = refl

pub key_itself : (k : Key) → is_key k k ≡ true
key_itself k = rw (eq-eqb k.remote.0 k.remote.0 refl, eq-eqb k.drb.0 k.drb.0 refl, way_itself k.way) refl

-- rows found by name, where tests of names decide
module _ {T N : Type 0} (name : T → N) (same : N → N → Bool) (one : (a b : N) → same a b ≡ true → a ≡ b) (itself : (a : N) → same a a ≡ true) where
  first_set : (b c : Bool) (n : N) (new x y : T) (found later : Option T) → b ≡ same n (name x) → c ≡ same (name new) (name x) → name new ≡ name y → n ≡ name y
      → (found ≡ Some y → later ≡ Some new) → cond b (Some x) found ≡ Some y → cond (same n (name (cond c new x))) (Some (cond c new x)) later ≡ Some new
  first_set true true n new x y found later b c named here rest is = rw (ap (λ (a : N). same a (name new)) (here ∙ sym named) ∙ itself (name new)) refl
  first_set true false n new x y found later b c named here rest is =
      let this : x ≡ y = cc in
      absurd (false≢true (c ∙ ap (λ (z : T). same (name new) (name z)) this ∙ ap (λ (a : N). same (name new) a) (sym named) ∙ itself (name new)))
  first_set false true n new x y found later b c named here rest is =
      absurd (false≢true (b ∙ ap (same n) (sym (one (name new) (name x) (sym c)) ∙ named ∙ sym here) ∙ itself n))
  first_set false false n new x y found later b c named here rest is = rw (← b) (rest is)

  pub found_set : (n : N) (new y : T) (xs : List T) → name new ≡ name y → n ≡ name y → find (λ x. same n (name x)) xs ≡ Some y → find (λ x. same n (name x)) (replaced (λ x. same (name new) (name x)) new xs) ≡ Some new
  found_set n new y [] named here is = absurd cc
  found_set n new y (x ∷ xs) named here is =
      first_set (same n (name x)) (same (name new) (name x)) n new x y (find (λ z. same n (name z)) xs) (find (λ z. same n (name z)) (replaced (λ z. same (name new) (name z)) new xs)) refl refl named here (found_set n new y xs named here) is

pub side_set : (port : PortName) (new y : PortSide) (ports : List PortSide) → new.name ≡ y.name → port ≡ y.name → find (λ s. is_port port s.name) ports ≡ Some y → find (λ s. is_port port s.name) (replaced (λ x. is_port new.name x.name) new ports) ≡ Some new
side_set = found_set side_name is_port port_is port_itself

pub key_set : (key : Key) (new y : Outgoing) (os : List Outgoing) → new.key ≡ y.key → key ≡ y.key → find (λ o. is_key key o.key) os ≡ Some y → find (λ o. is_key key o.key) (replaced (λ x. is_key new.key x.key) new os) ≡ Some new
key_set = found_set out_key is_key key_is key_itself

-- what holds of each side, and of one that is set
set_if : (P : PortSide → Type 0) (b : Bool) (x new : PortSide) → P x → P new → P (cond b new x)
set_if P true x new old is = is
set_if P false x new old is = old

all_set : (P : PortSide → Type 0) (test : PortSide → Bool) (new : PortSide) (xs : List PortSide) → AllByRecursion P xs → P new → AllByRecursion P (replaced test new xs)
all_set P test new [] all is = tt
all_set P test new (x ∷ xs) all is = (set_if P (test x) x new all.0 is, all_set P test new xs all.1 is)

found_all : (P : PortSide → Type 0) (test : PortSide → Bool) (y : PortSide) (xs : List PortSide) → AllByRecursion P xs → find test xs ≡ Some y → P y
found_all P test y [] all is = absurd cc
found_all P test y (x ∷ xs) all is = elim (test x) as (λ b. cond b (Some x) (find test xs) ≡ Some y → P y) [
  | true ↦ λ here. let this : x ≡ y = cc in subst P this all.0
  | false ↦ λ there. found_all P test y xs all.1 there
] is

pub some_is : {A : Type 0} (x y : A) → Some x ≡ Some y → x ≡ y
some_is x y is = cc

-- a transmitter that was given an SDU has numbers left as before, and room for one less
module _ (n : Node) (port : PortName) (tag : Tag) (sdu : List ℕ) (new : Node) (named : (s : PortSide) → side_at n port ≡ Some s → port ≡ s.name) (g : GivesPort n port tag sdu new) where
  pub given_numbers : HaveNumbersLeft n → HaveNumbersLeft new
  given_numbers left =
      let was : tx_next g.entity.tx + room g.entity.tx < 2 ^ 62 = found_all HasNumbersLeft (λ s. is_port port s.name) g.side n.ports left g.its.here g.entity g.its.is_open in
      let now : tx_next g.tx + room g.tx < 2 ^ 62 = subst (λ (m : ℕ). m < 2 ^ 62) (sym (room_given g.entity.tx g.tx tag sdu g.number g.gives).1) was in
      let side = record g.side { entity = Some (record g.entity { tx = g.tx }) } in
      let has : HasNumbersLeft side = λ entity is. subst (λ (e : Entity). tx_next e.tx + room e.tx < 2 ^ 62) (some_is (record g.entity { tx = g.tx }) entity is) now in
      subst (λ (m : Node). HaveNumbersLeft m) (sym g.is) (all_set HasNumbersLeft (λ x. is_port g.side.name x.name) side n.ports left has)

  pub given_room : room_of (entity_at new port) + 1 ≡ room_of (entity_at n port)
  given_room =
      let entity = record g.entity { tx = g.tx } in
      let side = record g.side { entity = Some entity } in
      let here : side_at (record n { ports = replaced (λ x. is_port side.name x.name) side n.ports }) port ≡ Some side = side_set port side g.side n.ports refl (named g.side g.its.here) g.its.here in
      let after : entity_at new port ≡ Some entity = ap (λ (m : Node). entity_at m port) g.is ∙ ap (λ (s : Option PortSide). option_and_then entity_of s) here in
      let before : entity_at n port ≡ Some g.entity = ap (λ (s : Option PortSide). option_and_then entity_of s) g.its.here ∙ g.its.is_open in
      ap (λ (e : Option Entity). room_of e + 1) after ∙ (room_given g.entity.tx g.tx tag sdu g.number g.gives).0 ∙ ap room_of (sym before)

-- a transmitter of a port has numbers left
numbers_if : (side : Option PortSide) (entity : Entity) → ((s : PortSide) → side ≡ Some s → HasNumbersLeft s) → option_and_then entity_of side ≡ Some entity → tx_next entity.tx < 2 ^ 62
numbers_if None entity left is = absurd cc
numbers_if (Some s) entity left is = let has = left s refl entity is in omega (arith, has)

pub numbers_at : (n : Node) (port : PortName) (entity : Entity) → HaveNumbersLeft n → entity_at n port ≡ Some entity → tx_next entity.tx < 2 ^ 62
numbers_at n port entity left is = numbers_if (side_at n port) entity (λ s here. found_all HasNumbersLeft (λ x. is_port port x.name) s n.ports left here) is
