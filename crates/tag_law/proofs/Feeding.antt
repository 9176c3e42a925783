-- An end that feeds gives data PDUs of its keys to their direct ports.
use Rattle.std.proofs.Common.{◌≡◌, ℕ, false, List, [], ◌∷◌, map, Option, Some, None, option_map, refl, sym, ◌∙◌, ap, subst}
use Rattle.std.specs.List.{AllByRecursion}
use Rattle.std.proofs.lemmas.Option.{none-some, same_Some}
use Rattle.link_base.specs.declared.names.Drb.{Drb}
use Rattle.link_base.specs.declared.names.Key.{Key}
use Rattle.link_base.specs.declared.names.LocalId.{LocalId}
use Rattle.link_base.specs.declared.names.PortName.{PortName}
use Rattle.link_base.specs.declared.names.PortName.TheVariants.{Direct, Pc5, Uu}
use Rattle.link_base.specs.declared.names.Remote.{Remote}
use Rattle.link_base.specs.declared.names.Way.{Way}
use Rattle.link_base.specs.declared.names.Way.TheVariants.{Ul, Dl}
use Rattle.link_base.specs.declared.rlc_words.Tag.{Tag}
use Rattle.bearer_map.specs.declared.rows.MapRow.{MapRow}
use Rattle.bearer_map.specs.Contents.{Contents}
use Rattle.node_model.specs.Feeding.{Feeds, FeedsReports, FeedsReport, FeedsEach, FeedsData, GivesPdu, GivesData, port_on, out_key, in_key}
use Rattle.node_model.specs.Feeding.FeedsReport.{unwanted, dropped, no_room, gives as gives_report}
use Rattle.node_model.specs.Feeding.FeedsData.{rests, gives as gives_more}
use Rattle.node_model.specs.Names.{NodeName, source}
use Rattle.node_model.specs.State.{Node, Outgoing, id_at, incoming, outgoing, set_incoming, set_outgoing}
use Rattle.node_model.specs.Tables.{map_row, relay_port}
use Rattle.chain_model.proofs.Lookups.{outgoing_key}
use Rattle.pdcp_model.specs.Sender.{gave_next}
use Rattle.chain_law.proofs.Leaving.{same_out}
use Rattle.tag_law.proofs.Nodes.{NodeOwn, own_alike, own_same, given_own}

-- the port of a key's first hop is the bearer's direct port, or none of direct ports
hop_of_bearer : (t : Contents) (id : Option LocalId) (key : Key) (port : PortName) → port_on t id key ≡ Some port → (remote : Remote) (drb : Drb) → port ≡ Direct remote drb
    → (key.remote ≡ remote) × (key.drb ≡ drb)
hop_of_bearer t None key port is remote drb direct =
    let same : Direct key.remote key.drb ≡ Direct remote drb = same_Some (Direct key.remote key.drb) port is ∙ direct in
    (ap remote_in same, ap drb_in same)
  where
    remote_in : PortName → Remote
    remote_in (Direct r d) = r
    remote_in (Pc5 r c) = r
    remote_in (Uu c) = key.remote

    drb_in : PortName → Drb
    drb_in (Direct r d) = d
    drb_in (Pc5 r c) = key.drb
    drb_in (Uu c) = key.drb
hop_of_bearer t (Some id) key port is remote drb direct = by (map_row t key.remote key.drb) is
  where
    is_direct : PortName → Type 0
    is_direct (Direct r d) = Unit {0}
    is_direct (Pc5 r c) = ⊥
    is_direct (Uu c) = ⊥

    not_direct : (way : Way) (row : MapRow) → relay_port way row ≡ Direct remote drb → ⊥
    not_direct Ul row e = subst is_direct (sym e) tt
    not_direct Dl row e = subst is_direct (sym e) tt

    by : (o : Option MapRow) → option_map (relay_port key.way) o ≡ Some port → (key.remote ≡ remote) × (key.drb ≡ drb)
    by None e = absurd (none-some port e)
    by (Some row) e = absurd (not_direct key.way row (same_Some (relay_port key.way row) port e ∙ direct))

module _ (x : NodeName) (t : Contents) where
  -- a PDU is given under a tag of its own
  pdu_own : (old : Node) (key : Key) (tag : Tag) (pdu : List ℕ) (new : Node) (g : GivesPdu t old key tag pdu new)
      → ((count : ℕ) → tag.count ≡ Some count → (tag.key ≡ key) × (source key ≡ x)) → NodeOwn x old → NodeOwn x new
  pdu_own old key tag pdu new g mine own = subst (NodeOwn x) (sym g.is)
      (given_own x old g.port g.side g.entity g.its tag _ g.number g.tx g.gives (λ remote drb direct count its.
      let m = mine count its in
      let names = hop_of_bearer t (id_at old key.remote) key g.port g.its_port remote drb direct in
      (ap (λ (k : Key). k.remote) m.0 ∙ names.0, ap (λ (k : Key). k.drb) m.0 ∙ names.1, ap source m.0 ∙ m.1)) own)

  report_own : (old : Node) (key : Key) (given : List Key) (new : Node) → FeedsReport t old (incoming old key) given new → NodeOwn x old → NodeOwn x new
  report_own old key given new (unwanted not_wanted none is) own = own_same x old new is own
  report_own old key given new (dropped wanted cannot none is) own = subst (NodeOwn x) (sym is) (own_alike x old (set_incoming old (record
      (incoming old key) { wanted = false })) refl (λ q. refl) own)
  report_own old key given new (no_room wanted can full none is) own = own_same x old new is own
  report_own old key given new (gives_report wanted can room g one) own =
      let mid = pdu_own old _ _ _ g.mid g.gives (λ count its. absurd (none-some count its)) own in
      subst (NodeOwn x) (sym g.is) (own_alike x g.mid _ refl (λ q. refl) mid)

  reports_own : (keys : List Key) (old : Node) (given : List Key) (new : Node) → FeedsReports t old keys given new → NodeOwn x old → NodeOwn x new
  reports_own [] old given new f own = own_same x old new f.1 own
  reports_own (key ∷ keys) old given new (first, more, mid, one, rest, are) own = reports_own keys mid more new rest (report_own old key first mid one own)

  given_data : (old : Node) (key : Key) (new : Node) → source key ≡ x → GivesData t old (outgoing old key) new → NodeOwn x old → NodeOwn x new
  given_data old key new mine g own =
      let o = outgoing old key in
      let its = outgoing_key old key in
      let row : Outgoing = record o { sender = gave_next o.sender } in
      let mid = pdu_own old o.key _ _ g.mid g.gives (λ count is. (refl, ap source its ∙ mine)) own in
      subst (NodeOwn x) (sym g.is) (own_alike x g.mid (set_outgoing g.mid row) (same_out g.mid row).outs (λ q. refl) mid)

  data_own : (key : Key) → source key ≡ x → {old new : Node} → FeedsData t key old new → NodeOwn x old → NodeOwn x new
  data_own key mine {old} (rests none) own = own
  data_own key mine {old} {new} (gives_more {mid = mid} some g more) own = data_own key mine more (given_data old key mid mine g own)

  each_own : (keys : List Key) → AllByRecursion (λ (k : Key). source k ≡ x) keys → (old new : Node) → FeedsEach t old keys new → NodeOwn x old → NodeOwn x new
  each_own [] mine old new f own = own_same x old new f own
  each_own (key ∷ keys) mine old new (mid, one, rest) own = each_own keys mine.1 mid new rest (data_own key mine.0 one own)

  -- a node feeds
  pub feeds_own : (old : Node) (given : List Key) (new : Node) → Feeds t old given new → NodeOwn x old → NodeOwn x new
  feeds_own old given new f own =
      let mid = reports_own (map in_key old.incoming) old given f.mid f.reports own in
      each_own (map out_key f.mid.outgoing) mid.outs f.mid new f.data_pdus mid
