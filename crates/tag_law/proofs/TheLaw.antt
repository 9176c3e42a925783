-- The law of tags: it holds of the chain that tables open, and each line keeps it.
use Rattle.std.proofs.Common.{◌≡◌, ◌⊎◌, inl, inr, ℕ, Bool, true, false, cond, List, [], ◌∷◌, map, filter, find, get_or, Option, Some, None, unwrap_or, option_and_then}
use Rattle.std.proofs.Common.{refl, sym, ◌∙◌, ap, subst}
use Rattle.std.specs.List.{AllByRecursion}
use Rattle.std.proofs.lemmas.Bool.{cases_Bool, cond-true, cond-false}
use Rattle.std.proofs.lemmas.Option.{none-some, same_Some}
use Rattle.link_base.specs.declared.names.Drb.{Drb}
use Rattle.link_base.specs.declared.names.Goal.{Goal}
use Rattle.link_base.specs.declared.names.Key.{Key}
use Rattle.link_base.specs.declared.names.PortName.{PortName}
use Rattle.link_base.specs.declared.names.PortName.TheVariants.{Direct, Pc5, Uu}
use Rattle.link_base.specs.declared.names.Remote.{Remote}
use Rattle.link_base.specs.declared.names.Side.{Side}
use Rattle.link_base.specs.declared.names.Side.TheVariants.{Low, High}
use Rattle.link_base.specs.declared.names.SnSize.{SnSize}
use Rattle.link_base.specs.declared.names.Way.{Way}
use Rattle.link_base.specs.declared.names.Way.TheVariants.{Ul, Dl}
use Rattle.bearer_map.specs.declared.rows.BearerRow.{BearerRow}
use Rattle.bearer_map.specs.declared.rows.RemoteRow.{RemoteRow}
use Rattle.bearer_map.specs.declared.settings.Settings.{Settings}
use Rattle.bearer_map.specs.Contents.{Contents}
use Rattle.rlc_model.specs.Sides.{Entity, way_from}
use Rattle.rlc_model.specs.Tx.{Kept, kept_at}
use Rattle.pdcp_model.specs.Sender.{accepts, begins_wait}
use Rattle.node_model.specs.Feeding.{out_key}
use Rattle.node_model.specs.Names.{NodeName, AtRemote, AtRelay, AtGnb, is_node, is_port, is_remote, key_of, owner, source}
use Rattle.node_model.specs.Opening.{new_entity, new_side, new_outgoing, new_remote, new_relay, new_gnb, direct_side, pc5_side, uu_side, bearers_of, pc5s_of}
use Rattle.node_model.specs.State.{Outgoing, PortSide, Node, no_node, entity_of, side_at, entity_at, outgoing, set_incoming, set_outgoing}
use Rattle.node_model.specs.Switching.{node_after, node_closed, outgoing_after}
use Rattle.node_model.specs.Tables.{settings, is_open_on}
use Rattle.node_model.proofs.Finding.{each_append, each_made, each_flat, each_found, find_passes}
use Rattle.node_model.proofs.Names.{remote_is, node_is}
use Rattle.chain_model.specs.State.{opened}
use Rattle.carried_law.proofs.Switching.{applied_side}
use Rattle.carried_law.proofs.Own.{outs_after, outs_from}
use Rattle.chain_law.proofs.Leaving.{same_out}
use Rattle.tag_law.specs.Laws.{DirectPortsKeepTheirTags}
use Rattle.tag_law.proofs.Nodes.{CallLaws, IsOwn, NodeOwn, KeepsOwn, own_alike, granted_own, expired_own, heard_own}
use Rattle.tag_law.proofs.Feeding.{feeds_own}
use Rattle.tag_law.proofs.Lines.{EndsHave, NodeSteps, ends_have, not_relay}

-- an entity, where there is one, keeps nothing
abbrev IsFresh : PortSide → Type 0
IsFresh s = (e : Entity) → s.entity ≡ Some e → e.tx.kept ≡ []

new_is : (s : Settings) (name : PortName) (size : SnSize) (is_open : Bool) → IsFresh (new_side s name size is_open)
new_is s name size true e is = ap (λ (x : Entity). x.tx.kept) (sym (same_Some (new_entity s size 0) e is))
new_is s name size false e is = absurd (none-some e is)

fresh_tags : (x : NodeName) (n : Node) → AllByRecursion IsFresh n.ports → (remote : Remote) (drb : Drb) (e : Entity) → entity_at n (Direct remote drb) ≡ Some e
    → KeepsOwn x remote drb e.tx
fresh_tags x n all remote drb e is m k here = by (side_at n (Direct remote drb)) refl is
  where
    by : (o : Option PortSide) → side_at n (Direct remote drb) ≡ o → option_and_then entity_of o ≡ Some e → IsOwn x remote drb k.tag
    by None at is = absurd (none-some e is)
    by (Some s) at is = absurd (none-some k (sym (ap (λ (l : List (Option Kept)). get_or l m None)
        (each_found IsFresh (λ (s : PortSide). is_port (Direct remote drb) s.name) n.ports s all at e is)) ∙ here))

module _ (t : Contents) where
  abbrev IsEndOwn : Node → Type 0
  IsEndOwn n = (n.name ≡ AtRelay → ⊥) → NodeOwn n.name n

  of_remote : (remote : Remote) (rows : List BearerRow) → AllByRecursion (λ (row : BearerRow). source (key_of row.remote row.drb Ul) ≡ AtRemote remote)
      (filter (λ (row : BearerRow). is_remote remote row.remote) rows)
  of_remote remote [] = tt
  of_remote remote (row ∷ rows) = by (cases_Bool (is_remote remote row.remote)) (of_remote remote rows)
    where
      P : List BearerRow → Type 0
      P xs = AllByRecursion (λ (row : BearerRow). source (key_of row.remote row.drb Ul) ≡ AtRemote remote) xs

      rest : List BearerRow
      rest = filter (λ (row : BearerRow). is_remote remote row.remote) rows

      by : (is_remote remote row.remote ≡ true) ⊎ (is_remote remote row.remote ≡ false) → P rest → P (filter (λ (row : BearerRow). is_remote remote row.remote) (row ∷ rows))
      by (inl mine) all = subst P (sym (cond-true (is_remote remote row.remote) (row ∷ rest) rest mine)) (ap AtRemote (sym (remote_is remote row.remote mine)), all)
      by (inr other) all = subst P (sym (cond-false (is_remote remote row.remote) (row ∷ rest) rest other)) all

  at_gnb : (rows : List BearerRow) → AllByRecursion (λ (row : BearerRow). source (key_of row.remote row.drb Dl) ≡ AtGnb) rows
  at_gnb [] = tt
  at_gnb (row ∷ rows) = (refl, at_gnb rows)

  directs : (row : RemoteRow) → AllByRecursion IsFresh (map (direct_side (settings t) row.goal) (bearers_of t row.remote))
  directs row = each_made IsFresh (direct_side (settings t) row.goal)
      (λ b. new_is (settings t) (Direct b.remote b.drb) b.direct (is_open_on row.goal (Direct b.remote b.drb))) (bearers_of t row.remote)

  pc5s : (row : RemoteRow) → AllByRecursion IsFresh (map (pc5_side (settings t) row.goal) (pc5s_of t row.remote))
  pc5s row = each_made IsFresh (pc5_side (settings t) row.goal)
      (λ p. new_is (settings t) (Pc5 p.remote p.chan) p.size (is_open_on row.goal (Pc5 p.remote p.chan))) (pc5s_of t row.remote)

  uus : AllByRecursion IsFresh (map (uu_side (settings t)) t.uus)
  uus = each_made IsFresh (uu_side (settings t)) (λ u. new_is (settings t) (Uu u.chan) u.size true) t.uus

  remote_own : (row : RemoteRow) → IsEndOwn (new_remote t row)
  remote_own row end = record {
    outs = outs_from (λ (k : Key). source k ≡ AtRemote row.remote) Ul (bearers_of t row.remote) (of_remote row.remote t.bearers);
    tags = fresh_tags (AtRemote row.remote) (new_remote t row) (each_append IsFresh _ _ (directs row) (pc5s row));
  }

  gnb_own : IsEndOwn (new_gnb t)
  gnb_own end = record {
    outs = outs_from (λ (k : Key). source k ≡ AtGnb) Dl t.bearers (at_gnb t.bearers);
    tags = fresh_tags AtGnb (new_gnb t)
        (each_append IsFresh _ _ (each_flat IsFresh (λ (row : RemoteRow). map (direct_side (settings t) row.goal) (bearers_of t row.remote)) directs t.remotes) uus);
  }

  each_own : AllByRecursion IsEndOwn (opened t).nodes
  each_own = each_append IsEndOwn (map (new_remote t) t.remotes) (new_relay t ∷ new_gnb t ∷ []) (each_made IsEndOwn (new_remote t) remote_own t.remotes)
      ((λ end. absurd (end refl)), (gnb_own, tt))

  pub opened_own : EndsHave NodeOwn (opened t)
  opened_own x end = by (find (λ (n : Node). is_node x n.name) (opened t).nodes) refl
    where
      by : (o : Option Node) → find (λ (n : Node). is_node x n.name) (opened t).nodes ≡ o → NodeOwn x (unwrap_or o (no_node x))
      by None is = record { outs = tt; tags = λ remote drb e is. absurd (none-some e is) }
      by (Some n) is =
          let name : n.name ≡ x = sym (node_is x n.name (find_passes (λ (n : Node). is_node x n.name) (opened t).nodes n is)) in
          subst (λ (y : NodeName). NodeOwn y n) name
          (each_found IsEndOwn (λ (n : Node). is_node x n.name) (opened t).nodes n each_own is (λ at. end (sym name ∙ at)))

none_kept : (x : NodeName) (remote : Remote) (drb : Drb) (s : Settings) (size : SnSize) (epoch : ℕ) (e : Entity) → e ≡ new_entity s size epoch → KeepsOwn x remote drb e.tx
none_kept x remote drb s size epoch e is n k here = absurd (none-some k (sym (ap (λ (y : Entity). kept_at y.tx n) is) ∙ here))

-- a node that applies a plan has the same keys, and opens sides that keep nothing
after_own : (s : Settings) (remote : Remote) (goal : Goal) (epoch : ℕ) (y : NodeName) (n : Node) → NodeOwn y n → NodeOwn y (node_after s remote goal epoch n)
after_own s remote goal epoch y n had = record {
  outs = subst (AllByRecursion (λ (k : Key). source k ≡ y)) (sym (outs_after remote n.outgoing)) had.outs;
  tags = λ r drb e is. elim (applied_side s remote goal epoch n (Direct r drb) e is) [
    | inl was ↦ had.tags r drb e was
    | inr opened ↦ none_kept y r drb s opened.1 epoch e opened.2
  ];
}

-- each step of a node keeps its own
own_steps : CallLaws → NodeSteps NodeOwn
own_steps laws = record {
  submit = λ x n key sdu own.
      let o : Outgoing = record (outgoing n key) { sender = accepts (outgoing n key).sender sdu } in
      own_alike x n (set_outgoing n o) (same_out n o).outs (λ q. refl) own;
  grant = λ x. granted_own x laws;
  expire = λ x. expired_own x laws;
  hear = λ x. heard_own x laws;
  receive = λ x n i own. own_alike x n (set_incoming n i) refl (λ q. refl) own;
  apply = λ x s remote goal epoch n own. after_own s remote goal epoch x n own;
  close = λ x remote n own. own_alike x n (node_closed remote n) refl (λ q. refl) own;
  feed = λ x. feeds_own x;
}

own_key : (key : Key) (side : Side) (remote : Remote) (drb : Drb) → key.remote ≡ remote → key.drb ≡ drb → source key ≡ owner side (Direct remote drb)
    → key ≡ key_of remote drb (way_from side)
own_key key side remote drb r d s =
    ap (λ (w : Way). key_of key.remote key.drb w) (way_is side key.way s) ∙ ap (λ (x : Remote). key_of x key.drb (way_from side)) r
    ∙ ap (λ (x : Drb). key_of remote x (way_from side)) d
  where
    is_gnb : NodeName → Type 0
    is_gnb AtGnb = Unit {0}
    is_gnb AtRelay = ⊥
    is_gnb (AtRemote r) = ⊥

    way_is : (side : Side) (way : Way) → source (key_of key.remote key.drb way) ≡ owner side (Direct remote drb) → way ≡ way_from side
    way_is Low Ul e = refl
    way_is High Dl e = refl
    way_is Low Dl e = absurd (subst is_gnb e tt)
    way_is High Ul e = absurd (subst is_gnb (sym e) tt)

pub keep_their_tags : CallLaws → DirectPortsKeepTheirTags
keep_their_tags laws c up side remote drb e is n k here count its =
    let own : EndsHave NodeOwn c = ends_have NodeOwn (own_steps laws) (λ t apart. opened_own t) up in
    let t = (own (owner side (Direct remote drb)) (not_relay side remote drb)).tags remote drb e is n k here count its in
    own_key k.tag.key side remote drb t.0 t.1 t.2
