-- The relay that tables open holds nothing.
use Rattle.std.proofs.Common.{◌≡◌, inr, ℕ, Bool, true, false, List, [], ◌∷◌, map, find, Option, Some, None, option_map, option_and_then, refl, sym, ◌∙◌, ap, arith}
use Rattle.std.specs.List.{AllByRecursion}
use Rattle.std.specs.Option.{unwrap_or}
use Rattle.std.proofs.lemmas.Option.{none-some, same_Some}
use Rattle.link_base.specs.declared.names.PortName.{PortName}
use Rattle.link_base.specs.declared.names.SnSize.{SnSize}
use Rattle.bearer_map.specs.declared.rows.RemoteRow.{RemoteRow}
use Rattle.bearer_map.specs.declared.settings.Settings.{Settings}
use Rattle.bearer_map.specs.Contents.{Contents}
use Rattle.rlc_model.specs.Sides.{Entity}
use Rattle.rlc_model.specs.Tx.{kept_at}
use Rattle.script_text.specs.History.{Entry}
use Rattle.node_model.specs.declared.parcel.Parcel.{Parcel}
use Rattle.node_model.specs.Names.{AtRelay, is_node, is_port}
use Rattle.node_model.specs.Opening.{new_entity, new_side, direct_side, pc5_side, uu_side, bearers_of, pc5s_of, new_remote, new_relay, new_gnb}
use Rattle.node_model.specs.State.{PortSide, Node, no_node, side_at, entity_of, entity_at, slot_of, slot_at, queue_of, queue_at}
use Rattle.node_model.specs.Tables.{settings}
use Rattle.node_model.proofs.Finding.{each_found, each_append, each_made, each_flat}
use Rattle.chain_model.specs.State.{node_at, opened}
use Rattle.carried_law.proofs.Relayed.{nowhere, nowhere_apart, Relays}

-- a side at which nothing has happened
record IsBare (s : PortSide) : Type 0 where
  slot : s.slot ≡ None
  queue : s.queue ≡ []
  entity : (e : Entity) → s.entity ≡ Some e → (e.epoch ≡ 0) × ((n : ℕ) → kept_at e.tx n ≡ None)

new_bare : (s : Settings) (name : PortName) (size : SnSize) (is_open : Bool) → IsBare (new_side s name size is_open)
new_bare s name size true = record {
  slot = refl;
  queue = refl;
  entity = λ e is.
      let same = same_Some (new_entity s size 0) e is in
      (ap (λ (x : Entity). x.epoch) (sym same), λ n. ap (λ (x : Entity). kept_at x.tx n) (sym same));
}
new_bare s name size false = record { slot = refl; queue = refl; entity = λ e is. absurd (none-some e is) }

module _ (t : Contents) where
  directs_bare : (row : RemoteRow) → AllByRecursion IsBare (map (direct_side (settings t) row.goal) (bearers_of t row.remote))
  directs_bare row = each_made IsBare (direct_side (settings t) row.goal) (λ b. new_bare (settings t) _ _ _) (bearers_of t row.remote)

  pc5s_bare : (row : RemoteRow) → AllByRecursion IsBare (map (pc5_side (settings t) row.goal) (pc5s_of t row.remote))
  pc5s_bare row = each_made IsBare (pc5_side (settings t) row.goal) (λ p. new_bare (settings t) _ _ _) (pc5s_of t row.remote)

  uus_bare : AllByRecursion IsBare (map (uu_side (settings t)) t.uus)
  uus_bare = each_made IsBare (uu_side (settings t)) (λ u. new_bare (settings t) _ _ true) t.uus

  abbrev AreBare : Node → Type 0
  AreBare n = AllByRecursion IsBare n.ports

  nodes_bare : AllByRecursion AreBare (opened t).nodes
  nodes_bare = each_append AreBare (map (new_remote t) t.remotes) (new_relay t ∷ new_gnb t ∷ [])
      (each_made AreBare (new_remote t) (λ row. each_append IsBare _ _ (directs_bare row) (pc5s_bare row)) t.remotes) (
        each_append IsBare _ _ (each_flat IsBare (λ (row : RemoteRow). map (pc5_side (settings t) row.goal) (pc5s_of t row.remote)) pc5s_bare t.remotes) uus_bare,
        (each_append IsBare _ _ (each_flat IsBare (λ (row : RemoteRow). map (direct_side (settings t) row.goal) (bearers_of t row.remote)) directs_bare t.remotes) uus_bare, tt),
      )

  relay_bare : AreBare (node_at (opened t) AtRelay)
  relay_bare = by (find (λ (n : Node). is_node AtRelay n.name) (opened t).nodes) refl
    where
      by : (o : Option Node) → find (λ (n : Node). is_node AtRelay n.name) (opened t).nodes ≡ o → AreBare (unwrap_or o (no_node AtRelay))
      by None is = tt
      by (Some n) is = each_found AreBare (λ (n : Node). is_node AtRelay n.name) (opened t).nodes n nodes_bare is

  abbrev relay : Node
  relay = node_at (opened t) AtRelay

  side_bare : (q : PortName) (s : PortSide) → side_at relay q ≡ Some s → IsBare s
  side_bare q s at = each_found IsBare (λ (s : PortSide). is_port q s.name) relay.ports s relay_bare at

  slot_bare : (q : PortName) (parcel : Parcel) → slot_at relay q ≡ Some parcel → ⊥
  slot_bare q parcel = by (side_at relay q) refl
    where
      by : (o : Option PortSide) → side_at relay q ≡ o → option_and_then slot_of o ≡ Some parcel → ⊥
      by None at is = none-some parcel is
      by (Some s) at is = none-some parcel (sym (side_bare q s at).slot ∙ is)

  queue_bare : (q : PortName) → queue_at relay q ≡ []
  queue_bare q = by (side_at relay q) refl
    where
      by : (o : Option PortSide) → side_at relay q ≡ o → unwrap_or (option_map queue_of o) [] ≡ []
      by None at = refl
      by (Some s) at = (side_bare q s at).queue

  entity_bare : (q : PortName) (e : Entity) → entity_at relay q ≡ Some e → (e.epoch ≡ 0) × ((n : ℕ) → kept_at e.tx n ≡ None)
  entity_bare q e = by (side_at relay q) refl
    where
      by : (o : Option PortSide) → side_at relay q ≡ o → option_and_then entity_of o ≡ Some e → (e.epoch ≡ 0) × ((n : ℕ) → kept_at e.tx n ≡ None)
      by None at is = absurd (none-some e is)
      by (Some s) at is = (side_bare q s at).entity e is

  pub opened_relays : (declared : List Entry) → Relays t declared relay
  opened_relays declared = record {
    line = λ q. record {
      given = λ epoch n. nowhere n;
      queued = [];
      waits = sym (queue_bare q);
      held = tt;
      kept = λ e is n k at. absurd (none-some k (sym ((entity_bare q e is).1 n) ∙ at));
      unused = λ e is n high. refl;
      within = λ e is. omega (arith, (entity_bare q e is).0);
      fresh = λ epoch n high. refl;
      past = λ epoch n. inr refl;
      ordered = λ epoch m n less. nowhere_apart m n less;
      ahead = λ epoch n. tt;
      pairs = tt;
    };
    slotted = λ q. nowhere 0;
    in_slot = λ i parcel at. absurd (slot_bare i parcel at);
    behind = λ i parcel at. absurd (slot_bare i parcel at);
  }
