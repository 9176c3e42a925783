-- The ports that are open are direct ones, and carry data PDUs of their own key.
use Rattle.std.proofs.Common.{◌≡◌, inl, inr, ℕ, List, [], ◌∷◌, map, filter, find, Option, Some, None, unwrap_or, option_and_then, refl, sym, ◌∙◌, ap, subst}
use Rattle.std.specs.List.{AllByRecursion}
use Rattle.std.proofs.lemmas.Option.{none-some, same_Some}
use Rattle.link_base.specs.declared.names.Drb.{Drb}
use Rattle.link_base.specs.declared.names.Key.{Key}
use Rattle.link_base.specs.declared.names.PortName.{PortName}
use Rattle.link_base.specs.declared.names.PortName.TheVariants.{Direct}
use Rattle.link_base.specs.declared.names.Remote.{Remote}
use Rattle.link_base.specs.declared.names.Side.{Side}
use Rattle.link_base.specs.declared.rlc_words.Tag.{Tag}
use Rattle.bearer_map.specs.declared.rows.Pc5Row.{Pc5Row}
use Rattle.bearer_map.specs.declared.rows.RemoteRow.{RemoteRow}
use Rattle.bearer_map.specs.declared.rows.UuRow.{UuRow}
use Rattle.bearer_map.specs.Contents.{Contents}
use Rattle.pdcp_model.specs.Sender.{Sender}
use Rattle.pdcp_model.specs.Receiver.{Receiver}
use Rattle.rlc_model.specs.Sides.{Entity}
use Rattle.rlc_model.specs.Tx.{Kept, kept_at}
use Rattle.node_model.specs.Names.{NodeName, is_node, is_port, is_remote, owner}
use Rattle.node_model.specs.Opening.{direct_side, pc5_side, uu_side, bearers_of, pc5s_of, new_remote, new_relay, new_gnb}
use Rattle.node_model.specs.State.{PortSide, Node, side_at, entity_of, no_node}
use Rattle.node_model.specs.Tables.{settings}
use Rattle.node_model.proofs.Finding.{each_append, each_made, each_flat, each_found}
use Rattle.chain_model.specs.State.{Chain, opened, node_at, entity_on}
use Rattle.chain_law.proofs.Nodes.{port_of, side_name}
use Rattle.direct_run_law.specs.Direct.{HasNoChannels}
use Rattle.direct_run_law.specs.Own.{IsOwnTag, HasOwnTags}
use Rattle.direct_run_law.proofs.Carried.{Carries, data_pdu_of, report}
use Rattle.direct_run_law.proofs.Ends.{sent}
use Rattle.direct_run_law.proofs.Chains.{Holds}

-- the port is a direct one
abbrev IsOneOfDirect : PortName → Type 0
IsOneOfDirect port = (remote : Remote) × (drb : Drb) × (port ≡ Direct remote drb)

abbrev IsDirectOne : PortSide → Type 0
IsDirectOne s = IsOneOfDirect s.name

-- what is carried of a key has its tag
own_tag : (key : Key) (done : Type 0) (s : Sender) (r far : Receiver) (tag : Tag) (octets : List ℕ) → Carries key done s r far tag octets → IsOwnTag key tag
own_tag key done s r far tag octets (data_pdu_of m d) count its = d.its_key
own_tag key done s r far tag octets (report x) count its = absurd (none-some count (sym x.no_count ∙ its))

-- the ports that tables without channels of the relay give the nodes
module _ (t : Contents) (none : HasNoChannels t) where
  abbrev AreDirectOnes : List PortSide → Type 0
  AreDirectOnes ports = AllByRecursion IsDirectOne ports

  abbrev HasDirectOnes : Node → Type 0
  HasDirectOnes n = AreDirectOnes n.ports

  directs : (row : RemoteRow) → AreDirectOnes (map (direct_side (settings t) row.goal) (bearers_of t row.remote))
  directs row = each_made IsDirectOne (direct_side (settings t) row.goal) (λ b. (b.remote, b.drb, refl)) (bearers_of t row.remote)

  pc5s : (row : RemoteRow) → AreDirectOnes (map (pc5_side (settings t) row.goal) (pc5s_of t row.remote))
  pc5s row = subst (λ (rows : List Pc5Row). AreDirectOnes (map (pc5_side (settings t) row.goal) (filter (λ (p : Pc5Row). is_remote row.remote p.remote) rows))) (sym none.no_pc5) tt

  uus : AreDirectOnes (map (uu_side (settings t)) t.uus)
  uus = subst (λ (rows : List UuRow). AreDirectOnes (map (uu_side (settings t)) rows)) (sym none.no_uu) tt

  each_direct : AllByRecursion HasDirectOnes (opened t).nodes
  each_direct = each_append HasDirectOnes (map (new_remote t) t.remotes) (new_relay t ∷ new_gnb t ∷ [])
      (each_made HasDirectOnes (new_remote t) (λ row. each_append IsDirectOne _ _ (directs row) (pc5s row)) t.remotes) (
        each_append IsDirectOne _ _ (each_flat IsDirectOne (λ (row : RemoteRow). map (pc5_side (settings t) row.goal) (pc5s_of t row.remote)) pc5s t.remotes) uus,
        (each_append IsDirectOne _ _ (each_flat IsDirectOne (λ (row : RemoteRow). map (direct_side (settings t) row.goal) (bearers_of t row.remote)) directs t.remotes) uus, tt),
      )

  opened_direct : (x : NodeName) → HasDirectOnes (node_at (opened t) x)
  opened_direct x = by (find (λ (n : Node). is_node x n.name) (opened t).nodes) refl
    where
      by : (o : Option Node) → find (λ (n : Node). is_node x n.name) (opened t).nodes ≡ o → HasDirectOnes (unwrap_or o (no_node x))
      by None is = tt
      by (Some n) is = each_found HasDirectOnes (λ (n : Node). is_node x n.name) (opened t).nodes n each_direct is

-- what holds of each name of a list holds of each item of that name
each_name : (P : PortName → Type 0) (ports : List PortSide) → AllByRecursion P (map port_of ports) → AllByRecursion (λ (s : PortSide). P s.name) ports
each_name P [] all = tt
each_name P (s ∷ ss) all = (all.0, each_name P ss all.1)

name_each : (P : PortName → Type 0) (ports : List PortSide) → AllByRecursion (λ (s : PortSide). P s.name) ports → AllByRecursion P (map port_of ports)
name_each P [] all = tt
name_each P (s ∷ ss) all = (all.0, name_each P ss all.1)

pub holds_own : (c : Chain) → Holds c → HasNoChannels c.tables → HasOwnTags c
holds_own c h none = record { direct = direct; tags = tags }
  where
    direct : (side : Side) (port : PortName) (e : Entity) → entity_on c side port ≡ Some e → IsOneOfDirect port
    direct side port e is = by (side_at (node_at c x) port) refl
      where
        x : NodeName
        x = owner side port

        all : AllByRecursion IsDirectOne (node_at c x).ports
        all = each_name IsOneOfDirect (node_at c x).ports (subst (AllByRecursion IsOneOfDirect) (sym (h.ports x))
            (name_each IsOneOfDirect (node_at (opened c.tables) x).ports (opened_direct c.tables none x)))

        by : (o : Option PortSide) → side_at (node_at c x) port ≡ o → IsOneOfDirect port
        by None at = absurd (none-some e (sym (ap (option_and_then entity_of) at) ∙ is))
        by (Some s) at = subst IsOneOfDirect (sym (side_name (node_at c x) port s at))
            (each_found IsDirectOne (λ (s : PortSide). is_port port s.name) (node_at c x).ports s all at)

    tags : (side : Side) (remote : Remote) (drb : Drb) (e : Entity) → entity_on c side (Direct remote drb) ≡ Some e → (n : ℕ) (k : Kept) → kept_at e.tx n ≡ Some k
        → IsOwnTag (sent remote drb side) k.tag
    tags side remote drb e is n k at = elim (h.each remote drb) [
      | inr closed ↦ absurd (none-some e (sym (closed side) ∙ is))
      | inl j ↦
          let same : e ≡ j.entity side = same_Some e (j.entity side) (sym is ∙ j.is_open side) in
          own_tag _ _ _ _ _ k.tag k.sdu ((j.both side).0.carries n k (ap (λ (x : Entity). kept_at x.tx n) (sym same) ∙ at))
    ]
