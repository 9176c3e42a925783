-- Feeding and switching keep all that a key's sender has accepted, and its receiver.
use Rattle.std.proofs.Common.{◌≡◌, Bool, true, false, cond, List, [], ◌∷◌, map, find, Some, None, refl, sym, ◌∙◌, ap, subst}
use Rattle.link_base.specs.declared.names.Key.{Key}
use Rattle.link_base.specs.declared.names.Goal.{Goal}
use Rattle.link_base.specs.declared.names.Remote.{Remote}
use Rattle.bearer_map.specs.declared.settings.Settings.{Settings}
use Rattle.bearer_map.specs.Contents.{Contents}
use Rattle.pdcp_model.specs.Sender.{Sender, gave_next}
use Rattle.node_model.specs.Names.{is_key, is_remote}
use Rattle.node_model.specs.State.{Incoming, Outgoing, Node, outgoing, incoming, set_outgoing, set_incoming, set_entity}
use Rattle.node_model.specs.Feeding.{GivesPdu, FeedsReport, FeedsReports, GivesData, FeedsData, FeedsEach, Feeds, in_key, out_key}
use Rattle.node_model.specs.Feeding.FeedsReport.{unwanted, dropped, no_room, gives as gives_report}
use Rattle.node_model.specs.Feeding.FeedsData.{rests, gives as gives_data}
use Rattle.node_model.specs.Switching.{outgoing_after, incoming_after, wanting, node_after, node_closed}
use Rattle.node_model.proofs.Finding.{find_maps}
use Rattle.chain_model.proofs.Lookups.{incoming_key}
use Rattle.book_law.proofs.Senders.{KeepsAll, keeps_itself, keeps_on}
use Rattle.book_law.proofs.Ends.{Ends, Stays, ends_same, ends_out, ends_in, ends_on}

-- all that a node does but hear
abbrev pub Keeps : Key → Node → Node → Type 0
Keeps k old new = Ends k KeepsAll Stays old new

module _ (k : Key) where
  pub keeps_same : (old new : Node) → new.name ≡ old.name → new.outgoing ≡ old.outgoing → new.incoming ≡ old.incoming → Keeps k old new
  keeps_same = ends_same k KeepsAll Stays keeps_itself (λ r. refl)

  pub keeps_further : (x y z : Node) → Keeps k x y → Keeps k y z → Keeps k x z
  keeps_further = ends_on k KeepsAll Stays keeps_on (λ a b c p q. q ∙ p)

  keeps_set_in : (n : Node) (of : Key) (j : Incoming) → j.key ≡ of → j.receiver ≡ (incoming n of).receiver → Keeps k n (set_incoming n j)
  keeps_set_in = ends_in k KeepsAll Stays keeps_itself (λ r. refl)

  -- an end whose transmitter is given a PDU
  gives_keeps : (t : Contents) (old : Node) (of : Key) (tag : _) (pdu : List _) (new : Node) → GivesPdu t old of tag pdu new → Keeps k old new
  gives_keeps t old of tag pdu new g = subst (Keeps k old) (sym g.is) (keeps_same old (set_entity old g.side (record g.entity { tx = g.tx })) refl refl refl)

  gives_incoming : (t : Contents) (old : Node) (of : Key) (tag : _) (pdu : List _) (new : Node) → GivesPdu t old of tag pdu new → (key : Key) → incoming new key ≡ incoming old key
  gives_incoming t old of tag pdu new g key = ap (λ n. incoming n key) g.is

  gives_outgoing : (t : Contents) (old : Node) (of : Key) (tag : _) (pdu : List _) (new : Node) → GivesPdu t old of tag pdu new → (key : Key) → outgoing new key ≡ outgoing old key
  gives_outgoing t old of tag pdu new g key = ap (λ n. outgoing n key) g.is

  report_keeps : (t : Contents) (old : Node) (of : Key) (given : List Key) (new : Node) → FeedsReport t old (incoming old of) given new → Keeps k old new
  report_keeps t old of given new (unwanted no_want none is) = subst (Keeps k old) (sym is) (keeps_same old old refl refl refl)
  report_keeps t old of given new (dropped want cannot none is) =
      subst (Keeps k old) (sym is) (keeps_set_in old of (record (incoming old of) { wanted = false }) (incoming_key old of) refl)
  report_keeps t old of given new (no_room want can full none is) = subst (Keeps k old) (sym is) (keeps_same old old refl refl refl)
  report_keeps t old of given new (gives_report want can room g is) =
      let i = incoming old of in
      let row : Incoming = record i { wanted = false; reported = i.receiver.handed } in
      let first = gives_keeps t old _ _ _ g.mid g.gives in
      let same : i.receiver ≡ (incoming g.mid of).receiver = ap (λ (x : Incoming). x.receiver) (sym (gives_incoming t old _ _ _ g.mid g.gives of)) in
      keeps_further old g.mid new first (subst (Keeps k g.mid) (sym g.is) (keeps_set_in g.mid of row (incoming_key old of) same))

  reports_keep : (t : Contents) (keys : List Key) (old : Node) (given : List Key) (new : Node) → FeedsReports t old keys given new → Keeps k old new
  reports_keep t [] old given new (none, is) = subst (Keeps k old) (sym is) (keeps_same old old refl refl refl)
  reports_keep t (key ∷ keys) old given new (first, more, mid, one, rest, are) = keeps_further old mid new (report_keeps t old key first mid one) (reports_keep t keys mid more new rest)

  data_keeps : (t : Contents) (old : Node) (of : Key) (new : Node) → GivesData t old (outgoing old of) new → Keeps k old new
  data_keeps t old of new g =
      let o = outgoing old of in
      let first = gives_keeps t old _ _ _ g.mid g.gives in
      let same : outgoing g.mid of ≡ o = gives_outgoing t old _ _ _ g.mid g.gives of in
      let row : set_outgoing g.mid (record (outgoing g.mid of) { sender = gave_next o.sender }) ≡ new = ap (λ (x : Outgoing). set_outgoing g.mid (record x { sender = gave_next o.sender })) same ∙ sym g.is in
      let moves : KeepsAll (outgoing g.mid of).sender (gave_next o.sender) = subst (λ (x : Outgoing). KeepsAll x.sender (gave_next o.sender)) (sym same) (record { size = refl; first = refl; kept = refl }) in
      keeps_further old g.mid new first (subst (Keeps k g.mid) row (ends_out k KeepsAll Stays keeps_itself (λ r. refl) g.mid of (gave_next o.sender) moves))

  datas_keep : (t : Contents) (key : Key) (old new : Node) → FeedsData t key old new → Keeps k old new
  datas_keep t key a b (rests {n} none) = keeps_same n n refl refl refl
  datas_keep t key a b (gives_data {old} {mid} {new} some one rest) = keeps_further old mid new (data_keeps t old key mid one) (datas_keep t key mid new rest)

  each_keeps : (t : Contents) (keys : List Key) (old new : Node) → FeedsEach t old keys new → Keeps k old new
  each_keeps t [] old new is = subst (Keeps k old) (sym is) (keeps_same old old refl refl refl)
  each_keeps t (key ∷ keys) old new (mid, one, rest) = keeps_further old mid new (datas_keep t key old mid one) (each_keeps t keys mid new rest)

  -- a node that feeds
  pub feeds_keep : (t : Contents) (old : Node) (given : List Key) (new : Node) → Feeds t old given new → Keeps k old new
  feeds_keep t old given new f = keeps_further old f.mid new (reports_keep t (map in_key old.incoming) old given f.mid f.reports) (each_keeps t (map out_key f.mid.outgoing) f.mid new f.data_pdus)

  -- rows that were changed but for their keys, the SDUs accepted and the receiver
  maps_keep : (old new : Node) (out : Outgoing → Outgoing) (in' : Incoming → Incoming) → new.name ≡ old.name → new.outgoing ≡ map out old.outgoing → new.incoming ≡ map in' old.incoming
      → ((o : Outgoing) → (out o).key ≡ o.key) → ((i : Incoming) → (in' i).key ≡ i.key) → ((o : Outgoing) → KeepsAll o.sender (out o).sender) → ((i : Incoming) → (in' i).receiver ≡ i.receiver) → Keeps k old new
  maps_keep old new out in' name outs ins out_key in_key keeps same = record {
    name = name;
    sends = λ o found. (
      out o,
      ap (find (λ (x : Outgoing). is_key k x.key)) outs ∙ find_maps (λ (x : Outgoing). is_key k x.key) out (λ x. ap (is_key k) (out_key x)) old.outgoing o found,
      keeps o,
    );
    hears = λ i found. (
      in' i,
      ap (find (λ (x : Incoming). is_key k x.key)) ins ∙ find_maps (λ (x : Incoming). is_key k x.key) in' (λ x. ap (is_key k) (in_key x)) old.incoming i found,
      same i,
    );
  }

  -- a node that applies a plan
  pub applies_keep : (s : Settings) (remote : Remote) (goal : Goal) (epoch : _) (n : Node) → Keeps k n (node_after s remote goal epoch n)
  applies_keep s remote goal epoch n =
      maps_keep n (node_after s remote goal epoch n) (outgoing_after remote) (incoming_after remote) refl refl refl
      (λ o. elim (is_remote remote o.key.remote) as (λ b. (cond b (record o { sender = Rattle.pdcp_model.specs.Sender.begins_wait o.sender }) o).key ≡ o.key) [ true ↦ refl | false ↦ refl ])
      (λ i. elim (is_remote remote i.key.remote) as (λ b. (cond b (record i { wanted = false; held_back = true }) i).key ≡ i.key) [ true ↦ refl | false ↦ refl ])
      (λ o. elim (is_remote remote o.key.remote) as (λ b. KeepsAll o.sender (cond b (record o { sender = Rattle.pdcp_model.specs.Sender.begins_wait o.sender }) o).sender) [
        | true ↦ record { size = refl; first = refl; kept = refl }
        | false ↦ keeps_itself o.sender
      ])
      (λ i. elim (is_remote remote i.key.remote) as (λ b. (cond b (record i { wanted = false; held_back = true }) i).receiver ≡ i.receiver) [ true ↦ refl | false ↦ refl ])

  -- a node that learns that all have
  pub closed_keeps : (remote : Remote) (n : Node) → Keeps k n (node_closed remote n)
  closed_keeps remote n =
      maps_keep n (node_closed remote n) (λ o. o) (wanting remote) refl (sym (Rattle.std.proofs.Common.map-id n.outgoing)) refl (λ o. refl)
      (λ i. elim (is_remote remote i.key.remote) as (λ b. (cond b (record i { wanted = true; held_back = false }) i).key ≡ i.key) [ true ↦ refl | false ↦ refl ])
      (λ o. keeps_itself o.sender)
      (λ i. elim (is_remote remote i.key.remote) as (λ b. (cond b (record i { wanted = true; held_back = false }) i).receiver ≡ i.receiver) [ true ↦ refl | false ↦ refl ])
