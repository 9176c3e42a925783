-- The chains from which the worked runs begin are orderly.
use Rattle.std.proofs.Common.{◌≡◌, ℕ, zero, suc, ◌<◌, Bool, true, false, if◌then◌else◌, List, [], ◌∷◌, length, get_or, find, unwrap_or, Option, Some, sym, ◌∙◌, ap, subst, arith}
use Rattle.std.specs.List.{Contains, AllByRecursion}
use Rattle.std.proofs.lemmas.Option.{none-some, same_Some}
use Rattle.link_base.specs.declared.names.Goal.{Goal}
use Rattle.link_base.specs.declared.names.Goal.TheVariants.{Direct as ToDirect, Relay as ToRelay}
use Rattle.link_base.specs.declared.names.PortName.{PortName}
use Rattle.link_base.specs.declared.names.SnSize.{SnSize}
use Rattle.link_base.specs.declared.names.SnSize.TheVariants.{S12}
use Rattle.bearer_map.specs.declared.ids.Attachment.{Attachment}
use Rattle.bearer_map.specs.declared.settings.Settings.{Settings}
use Rattle.bearer_map.specs.declared.rows.RemoteRow.{RemoteRow}
use Rattle.bearer_map.specs.Contents.{Contents}
use Rattle.bearer_map.specs.Ids.{AreIds, attachment}
use Rattle.rlc_model.specs.Sides.{Entity}
use Rattle.rlc_law.specs.Receiver.{IsSound}
use Rattle.rlc_law.proofs.Receiver.{starts_sound}
use Rattle.node_model.specs.Names.{NodeName, is_node, is_port}
use Rattle.node_model.specs.State.{PortSide, Node, no_node}
use Rattle.node_model.specs.Opening.{new_entity, new_side, new_remote, new_relay, new_gnb}
use Rattle.node_model.specs.Tables.{settings, is_open_on}
use Rattle.node_law.specs.OneOutcome.{AreSound}
use Rattle.chain_model.specs.State.{opened, node_at}
use Rattle.chain_model.specs.Worked.{remote, tables_on, direct, pc5, uu}
use Rattle.step_law.specs.OneStep.{WorkedChainsAreOrderly}

-- a node is orderly
abbrev IsFine : Node → Type 0
IsFine n = AreSound n × AreIds n.attached

-- what is found, or this in its place
found_is : (b : Bool) (n d : Node) (o : Option Node) → IsFine n → IsFine (unwrap_or o d) → IsFine (unwrap_or (if b then Some n else o) d)
found_is true n d o here later = here
found_is false n d o here later = later

node_is : (f : Node → Bool) (d : Node) → IsFine d → (xs : List Node) → AllByRecursion IsFine xs → IsFine (unwrap_or (find f xs) d)
node_is f d fine [] all = fine
node_is f d fine (n ∷ ns) all = found_is (f n) n d (find f ns) all.0 (node_is f d fine ns all.1)

-- the receiver of a side is sound, where it is open
abbrev HasSound : PortSide → Type 0
HasSound s = (e : Entity) → s.entity ≡ Some e → IsSound e.rx

first_is : (b : Bool) (x s : PortSide) (o : Option PortSide) → HasSound x → (o ≡ Some s → HasSound s) → (if b then Some x else o) ≡ Some s → HasSound s
first_is true x s o here later is = subst HasSound (same_Some x s is) here
first_is false x s o here later is = later is

side_is : (f : PortSide → Bool) (xs : List PortSide) → AllByRecursion HasSound xs → (s : PortSide) → find f xs ≡ Some s → HasSound s
side_is f [] all s is = absurd (none-some s is)
side_is f (x ∷ xs) all s is = first_is (f x) x s (find f xs) all.0 (side_is f xs all.1 s) is

are_sound : (n : Node) → AllByRecursion HasSound n.ports → AreSound n
are_sound n all port side entity its = side_is (λ s. is_port port s.name) n.ports all side its.here entity its.is_open

-- a new side's is
new_is : (s : Settings) (name : PortName) (size : SnSize) (is_open : Bool) → HasSound (new_side s name size is_open)
new_is s name size true e is = subst (λ (x : Entity). IsSound x.rx) (same_Some (new_entity s size 0) e is) (starts_sound size)
new_is s name size false e is = absurd (none-some e is)

-- no attachment, and one alone, share nothing
no_ids : AreIds []
no_ids = record { one_id = λ r id other a b. absurd (omega (arith, a.1)); one_remote = λ r other id a b. absurd (omega (arith, a.1)) }

only : (a x : Attachment) → Contains (a ∷ []) x → a ≡ x
only a x c = go c.0 c.1 c.2
  where
    go : (i : ℕ) → i < length (a ∷ []) → get_or (a ∷ []) i x ≡ x → a ≡ x
    go zero lt e = e
    go (suc i) lt e = absurd (omega (arith, lt))

one_is : (a : Attachment) → AreIds (a ∷ [])
one_is a = record {
  one_id = λ r id other p q. ap (λ (x : Attachment). x.id.0)
      (sym (only a (record { remote = r; id = record { 0 = id } }) p) ∙ only a (record { remote = r; id = record { 0 = other } }) q);
  one_remote = λ r other id p q. ap (λ (x : Attachment). x.remote)
      (sym (only a (record { remote = r; id = record { 0 = id } }) p) ∙ only a (record { remote = other; id = record { 0 = id } }) q);
}

-- a node that isn't there is orderly
none_is : (name : NodeName) → IsFine (no_node name)
none_is name = (are_sound (no_node name) tt, no_ids)

-- the nodes of such a chain, with their sides
module _ (goal : Goal) where
  -- the tables, and the row of the remote
  abbrev t : Contents
  t = tables_on goal

  abbrev row : RemoteRow
  row = record { remote = remote; goal = goal }

  -- a side of a port with 12-bit SNs
  side : (name : PortName) (is_open : Bool) → HasSound (new_side (settings t) name S12 is_open)
  side name is_open = new_is (settings t) name S12 is_open

  remote_is : AreSound (new_remote t row)
  remote_is = are_sound (new_remote t row) (side direct (is_open_on goal direct), (side pc5 (is_open_on goal pc5), tt))

  relay_is : AreSound (new_relay t)
  relay_is = are_sound (new_relay t) (side pc5 (is_open_on goal pc5), (side uu true, tt))

  gnb_is : AreSound (new_gnb t)
  gnb_is = are_sound (new_gnb t) (side direct (is_open_on goal direct), (side uu true, tt))

-- on each path each node is orderly
all_are : (goal : Goal) → AllByRecursion IsFine (opened (tables_on goal)).nodes
all_are ToDirect = ((remote_is ToDirect, no_ids), ((relay_is ToDirect, no_ids), ((gnb_is ToDirect, no_ids), tt)))
all_are (ToRelay id) =
    let ids = one_is (attachment remote id) in
    ((remote_is (ToRelay id), ids), ((relay_is (ToRelay id), ids), ((gnb_is (ToRelay id), ids), tt)))

pub worked_chains_are_orderly : WorkedChainsAreOrderly
worked_chains_are_orderly goal = record {
  rows = (tt, tt);
  sound = λ name. (fine name).0;
  ids = λ name. (fine name).1;
}
  where
    fine : (name : NodeName) → IsFine (node_at (opened (tables_on goal)) name)
    fine name = node_is (λ (n : Node). is_node name n.name) (no_node name) (none_is name) (opened (tables_on goal)).nodes (all_are goal)
