-- The ends of the chain that tables open: nothing was given, and a remote has open direct ports where it isn't attached.
use Rattle.std.proofs.Common.{◌≡◌, inl, inr, ℕ, ◌<◌, true, List, [], ◌∷◌, ◌++◌, map, flat_map, find, Option, Some, None, unwrap_or, option_and_then, refl, sym, ◌∙◌, ap}
use Rattle.std.proofs.Common.{subst, arith}
use Rattle.std.specs.List.{AllByRecursion}
use Rattle.std.proofs.lemmas.Bool.{cond-false}
use Rattle.std.proofs.lemmas.Option.{none-some}
use Rattle.link_base.specs.declared.names.Drb.{Drb}
use Rattle.link_base.specs.declared.names.Goal.{Goal}
use Rattle.link_base.specs.declared.names.Goal.TheVariants.{Direct as ToDirect, Relay as ToRelay}
use Rattle.link_base.specs.declared.names.Key.{Key}
use Rattle.link_base.specs.declared.names.PortName.{PortName}
use Rattle.link_base.specs.declared.names.PortName.TheVariants.{Direct, Pc5, Uu}
use Rattle.link_base.specs.declared.names.Remote.{Remote}
use Rattle.link_base.specs.declared.names.Way.{Way}
use Rattle.link_base.specs.declared.names.Way.TheVariants.{Ul, Dl}
use Rattle.bearer_map.specs.declared.ids.Attachment.{Attachment}
use Rattle.bearer_map.specs.declared.rows.BearerRow.{BearerRow}
use Rattle.bearer_map.specs.declared.rows.RemoteRow.{RemoteRow}
use Rattle.bearer_map.specs.Contents.{Contents, remote_rank}
use Rattle.bearer_map.specs.Order.{IsAscending}
use Rattle.rlc_model.specs.Sides.{Entity}
use Rattle.node_model.specs.Names.{AtRelay, is_key, is_node, is_port, is_remote}
use Rattle.node_model.specs.Opening.{attachments, bearers_of, direct_side, new_gnb, new_outgoing, new_relay, new_remote, pc5_side, pc5s_of, uu_side}
use Rattle.node_model.specs.State.{Node, Outgoing, PortSide, entity_of, entity_at, no_node, no_outgoing, outgoing, outgoing_at, side_at}
use Rattle.node_model.specs.Tables.{settings}
use Rattle.node_model.proofs.Finding.{each_append, each_found, each_made, each_map, find_append, find_passes}
use Rattle.node_model.proofs.Names.{port_is, node_is, remote_apart, remote_is}
use Rattle.chain_model.specs.State.{opened}
use Rattle.chain_law.proofs.Pairs.{each_passes}
use Rattle.chain_law.proofs.Tables.{TablesApart}
use Rattle.heard_law.proofs.Attached.{of_append, of_own}
use Rattle.heard_law.specs.Telling.{of_remote}
use Rattle.tag_law.proofs.Kept.{NodeKept}
use Rattle.tag_law.proofs.Lines.{EndsHave}

-- a sending end has given nothing
abbrev IsFresh : Outgoing → Type 0
IsFresh o = o.sender.place ≡ 0

-- a node whose sending ends have given nothing
begun : (n : Node) → AllByRecursion IsFresh n.outgoing → ((remote : Remote) (drb : Drb) (e : Entity) → entity_at n (Direct remote drb) ≡ Some e
    → of_remote remote n.attached ≡ [])
    → NodeKept n
begun n fresh direct = record {
  direct = direct;
  places = λ key. let none = nothing key in omega (arith, none);
  kept = λ key e is idle i sdu low here. let none = nothing key in absurd (omega (arith, none, low));
}
  where
    nothing : (key : Key) → (outgoing n key).sender.place ≡ 0
    nothing key = by (outgoing_at n key) refl
      where
        by : (o : Option Outgoing) → outgoing_at n key ≡ o → (unwrap_or o (no_outgoing key)).sender.place ≡ 0
        by None is = refl
        by (Some o) is = each_found IsFresh (λ (o : Outgoing). is_key key o.key) n.outgoing o fresh is

-- an open direct side is of this remote, whose path is direct
abbrev IsOnPath : Remote → Goal → PortSide → Type 0
IsOnPath q goal s = (r : Remote) (d : Drb) (e : Entity) → Direct r d ≡ s.name → s.entity ≡ Some e → (r ≡ q) × (goal ≡ ToDirect)

abbrev pub remote_in : Remote → PortName → Remote
remote_in other (Direct r d) = r
remote_in other (Pc5 r c) = other
remote_in other (Uu c) = other

abbrev pub IsDirectName : PortName → Type 0
IsDirectName (Direct r d) = Unit {0}
IsDirectName (Pc5 r c) = ⊥
IsDirectName (Uu c) = ⊥

module _ (t : Contents) where
  direct_on : (q : Remote) (goal : Goal) (b : BearerRow) → is_remote q b.remote ≡ true → IsOnPath q goal (direct_side (settings t) goal b)
  direct_on q ToDirect b own r d e name is = (ap (remote_in r) name ∙ sym (remote_is q b.remote own), refl)
  direct_on q (ToRelay id) b own r d e name is = absurd (none-some e is)

  directs_on : (q : Remote) (goal : Goal) → AllByRecursion (IsOnPath q goal) (map (direct_side (settings t) goal) (bearers_of t q))
  directs_on q goal = each_map (IsOnPath q goal) (λ (b : BearerRow). is_remote q b.remote ≡ true) (direct_side (settings t) goal) (direct_on q goal) (bearers_of t q)
      (each_passes (λ (b : BearerRow). is_remote q b.remote) t.bearers)

  pc5s_on : (q : Remote) (goal : Goal) → AllByRecursion (IsOnPath q goal) (map (pc5_side (settings t) goal) (pc5s_of t q))
  pc5s_on q goal = each_made (IsOnPath q goal) (pc5_side (settings t) goal) (λ p r d e name is. absurd (subst IsDirectName name tt)) (pc5s_of t q)

  -- what is found among such sides
  on_path : (q : Remote) (goal : Goal) (sides : List PortSide) → AllByRecursion (IsOnPath q goal) sides → (r : Remote) (d : Drb) (s : PortSide) (e : Entity)
      → find (λ (s : PortSide). is_port (Direct r d) s.name) sides ≡ Some s → s.entity ≡ Some e → (r ≡ q) × (goal ≡ ToDirect)
  on_path q goal sides all r d s e found is = each_found (IsOnPath q goal) (λ (s : PortSide). is_port (Direct r d) s.name) sides s all found r d e
      (port_is (Direct r d) s.name (find_passes (λ (s : PortSide). is_port (Direct r d) s.name) sides s found)) is

  -- an open side
  open_side : (o : Option PortSide) (e : Entity) → option_and_then entity_of o ≡ Some e → (s : PortSide) × (o ≡ Some s) × (s.entity ≡ Some e)
  open_side None e is = absurd (none-some e is)
  open_side (Some s) e is = (s, refl, is)

  remote_direct : (row : RemoteRow) (r : Remote) (d : Drb) (e : Entity) → entity_at (new_remote t row) (Direct r d) ≡ Some e
      → of_remote r (attachments row.remote row.goal) ≡ []
  remote_direct row r d e is =
      let s = open_side (side_at (new_remote t row) (Direct r d)) e is in
      let on = on_path row.remote row.goal (new_remote t row).ports
      (each_append (IsOnPath row.remote row.goal) _ _ (directs_on row.remote row.goal) (pc5s_on row.remote row.goal)) r d s.0 e s.1 s.2 in
      ap (λ (g : Goal). of_remote r (attachments row.remote g)) on.1

  ---- the gNB

  abbrev ids_of : List RemoteRow → List Attachment
  ids_of rows = flat_map (λ (row : RemoteRow). attachments row.remote row.goal) rows

  abbrev sides_of : List RemoteRow → List PortSide
  sides_of rows = flat_map (λ (row : RemoteRow). map (direct_side (settings t) row.goal) (bearers_of t row.remote)) rows

  -- rows of other remotes attach nothing to a remote
  apart_ids : (r : Remote) (row : RemoteRow) (rows : List RemoteRow) → (r ≡ row.remote → ⊥) → of_remote r (ids_of rows) ≡ [] → of_remote r (ids_of (row ∷ rows)) ≡ []
  apart_ids r row rows ne none = of_append r (attachments row.remote row.goal) (ids_of rows) ∙ ap (λ (l : List Attachment). l ++ of_remote r (ids_of rows))
      (of_own r row.remote row.goal ∙ cond-false (is_remote r row.remote) (attachments r row.goal) [] (remote_apart r row.remote ne)) ∙ none

  none_above : (r : Remote) (rows : List RemoteRow) → AllByRecursion (λ (y : RemoteRow). r.0 < y.remote.0) rows → of_remote r (ids_of rows) ≡ []
  none_above r [] all = refl
  none_above r (row ∷ rows) all = apart_ids r row rows (λ e. omega (arith, all.0, ap (λ (x : Remote). x.0) e)) (none_above r rows all.1)

  gnb_direct : (rows : List RemoteRow) → IsAscending remote_rank rows → (r : Remote) (d : Drb) (s : PortSide) (e : Entity)
      → find (λ (s : PortSide). is_port (Direct r d) s.name) (sides_of rows) ≡ Some s → s.entity ≡ Some e
      → ((low : ℕ) → AllByRecursion (λ (y : RemoteRow). low < y.remote.0) rows → low < r.0) × (of_remote r (ids_of rows) ≡ [])
  gnb_direct [] up r d s e found is = absurd (none-some s found)
  gnb_direct (row ∷ rows) up r d s e found is = elim (find_append
      (λ (s : PortSide). is_port (Direct r d) s.name) (map (direct_side (settings t) row.goal) (bearers_of t row.remote)) (sides_of rows) s found) [
        | inl own ↦
            let on = on_path row.remote row.goal _ (directs_on row.remote row.goal) r d s e own is in
            let at = ap (λ (x : Remote). x.0) on.0 in (
              λ low all. omega (arith, all.0, at),
              ap (λ (g : Goal). of_remote r (attachments row.remote g ++ ids_of rows)) on.1
                  ∙ none_above r rows (subst (λ (x : Remote). AllByRecursion (λ (y : RemoteRow). x.0 < y.remote.0) rows) (sym on.0) up.0),
            )
        | inr later ↦
            let rest = gnb_direct rows up.1 r d s e later is in
            let above = rest.0 row.remote.0 up.0 in (
              λ low all. omega (arith, all.0, above),
              apart_ids r row rows (λ same. omega (arith, above, ap (λ (x : Remote). x.0) same)) rest.1,
            )
      ]

  uus_closed : (r : Remote) (d : Drb) (s : PortSide) → find (λ (s : PortSide). is_port (Direct r d) s.name) (map (uu_side (settings t)) t.uus) ≡ Some s → ⊥
  uus_closed r d s found = each_found (λ (s : PortSide). IsDirectName s.name → ⊥) (λ (s : PortSide). is_port (Direct r d) s.name) (map (uu_side (settings t)) t.uus) s
      (each_made (λ (s : PortSide). IsDirectName s.name → ⊥) (uu_side (settings t)) (λ u named. named) t.uus) found
      (subst IsDirectName (port_is (Direct r d) s.name (find_passes (λ (s : PortSide). is_port (Direct r d) s.name) (map (uu_side (settings t)) t.uus) s found)) tt)

  outs_fresh : (way : Way) (rows : List BearerRow) → AllByRecursion IsFresh (map (new_outgoing way) rows)
  outs_fresh way rows = each_made IsFresh (new_outgoing way) (λ row. refl) rows

  abbrev IsEndKept : Node → Type 0
  IsEndKept n = (n.name ≡ AtRelay → ⊥) → NodeKept n

  remote_kept : (row : RemoteRow) → IsEndKept (new_remote t row)
  remote_kept row end = begun (new_remote t row) (outs_fresh Ul (bearers_of t row.remote)) (λ r d e is. remote_direct row r d e is)

  gnb_kept : IsAscending remote_rank t.remotes → IsEndKept (new_gnb t)
  gnb_kept up end = begun (new_gnb t) (outs_fresh Dl t.bearers) (λ r d e is.
      let s = open_side (side_at (new_gnb t) (Direct r d)) e is in
      elim (find_append (λ (s : PortSide). is_port (Direct r d) s.name) (sides_of t.remotes) (map (uu_side (settings t)) t.uus) s.0 s.1) [
        | inl direct ↦ (gnb_direct t.remotes up r d s.0 e direct s.2).1
        | inr uu ↦ absurd (uus_closed r d s.0 uu)
      ])

  -- the ends of the chain that the tables open
  pub opened_kept : TablesApart t → EndsHave (λ x n. NodeKept n) (opened t)
  opened_kept apart x end = by (find (λ (n : Node). is_node x n.name) (opened t).nodes) refl
    where
      each : AllByRecursion IsEndKept (opened t).nodes
      each = each_append IsEndKept (map (new_remote t) t.remotes) (new_relay t ∷ new_gnb t ∷ []) (each_made IsEndKept (new_remote t) remote_kept t.remotes)
          ((λ end. absurd (end refl)), (gnb_kept apart.remotes, tt))

      by : (o : Option Node) → find (λ (n : Node). is_node x n.name) (opened t).nodes ≡ o → NodeKept (unwrap_or o (no_node x))
      by None is = begun (no_node x) tt (λ r d e is. absurd (none-some e is))
      by (Some n) is =
          let name : n.name ≡ x = sym (node_is x n.name (find_passes (λ (n : Node). is_node x n.name) (opened t).nodes n is)) in
          each_found IsEndKept (λ (n : Node). is_node x n.name) (opened t).nodes n each is (λ at. end (sym name ∙ at))
