-- The ends of the chain that tables open: a remote that isn't attached has open direct ports for its bearers.
use Rattle.std.proofs.Common.{◌≡◌, inl, inr, ℕ, ◌==◌, Bool, true, false, cond, List, [], ◌∷◌, ◌++◌, length, map, filter, flat_map, find, Option, Some, None, is_some}
use Rattle.std.proofs.Common.{option_and_then}
use Rattle.std.proofs.Common.{unwrap_or, refl, sym, ◌∙◌, ap, subst, arith}
use Rattle.std.specs.List.{AllByRecursion}
use Rattle.std.proofs.lemmas.Bool.{cond-true, eqb-true}
use Rattle.std.proofs.lemmas.Option.{none-some, same_Some}
use Rattle.link_base.specs.declared.names.Goal.{Goal}
use Rattle.link_base.specs.declared.names.Goal.TheVariants.{Direct as ToDirect}
use Rattle.link_base.specs.declared.names.Key.{Key}
use Rattle.link_base.specs.declared.names.PortName.{PortName}
use Rattle.link_base.specs.declared.names.PortName.TheVariants.{Direct}
use Rattle.link_base.specs.declared.names.Remote.{Remote}
use Rattle.link_base.specs.declared.names.Way.{Way}
use Rattle.link_base.specs.declared.names.Way.TheVariants.{Ul, Dl}
use Rattle.bearer_map.specs.declared.ids.Attachment.{Attachment}
use Rattle.bearer_map.specs.declared.rows.BearerRow.{BearerRow}
use Rattle.bearer_map.specs.declared.rows.RemoteRow.{RemoteRow}
use Rattle.bearer_map.specs.Contents.{Contents, remote_rank}
use Rattle.node_model.specs.Feeding.{out_key}
use Rattle.node_model.specs.Names.{AtRelay, is_node, is_port, is_remote}
use Rattle.node_model.specs.Opening.{attachments, bearers_of, direct_side, new_gnb, new_outgoing, new_relay, new_remote, pc5_side, pc5s_of, uu_side}
use Rattle.node_model.specs.State.{Node, PortSide, entity_at, entity_of, no_node}
use Rattle.node_model.specs.Tables.{settings}
use Rattle.node_model.proofs.Finding.{each_append, each_found, each_made, find_passes}
use Rattle.node_model.proofs.Names.{node_is, remote_is, remote_refl}
use Rattle.chain_model.specs.State.{opened}
use Rattle.chain_law.proofs.Members.{IsIn, in_first, in_made, in_picked, in_second, in_two, in_many, made_in, one_passes}
use Rattle.chain_law.proofs.Nodes.{port_of, side_name}
use Rattle.chain_law.proofs.Tables.{IsDeclared, TablesApart}
use Rattle.heard_law.proofs.Attached.{of_append, of_own}
use Rattle.heard_law.specs.Telling.{of_remote}
use Rattle.tag_law.proofs.KeptOpened.{IsDirectName, remote_in}
use Rattle.tag_law.proofs.Lines.{EndsHave}
use Rattle.tag_law.proofs.Opens.{IsSent, NodeOpens, none_direct, side_there}

-- what is in a list and passes is among those picked
picked_in : {T : Type 0} (picks : T → Bool) (xs : List T) (x : T) → IsIn xs x → picks x ≡ true → IsIn (filter picks xs) x
picked_in picks [] x among is = among
picked_in picks (y ∷ xs) x (inl e) is = subst (λ (l : List _). IsIn l x) (sym (cond-true (picks y) (y ∷ filter picks xs) (filter picks xs) (ap picks e ∙ is))) (inl e)
picked_in {T} picks (y ∷ xs) x (inr later) is = by (picks y) (picked_in picks xs x later is)
  where
    by : (b : Bool) → IsIn (filter picks xs) x → IsIn (cond b (y ∷ filter picks xs) (filter picks xs)) x
    by true among = inr among
    by false among = among

-- what is in the list of one of many is in all of them together
many_in : {X T : Type 0} (make : X → List T) (xs : List X) (x : X) (y : T) → IsIn xs x → IsIn (make x) y → IsIn (flat_map make xs) y
many_in make [] x y among is = among
many_in {X} {T} make (z ∷ xs) x y (inl e) is = in_first (make z) (flat_map make xs) y (subst (λ (w : X). IsIn (make w) y) (sym e) is)
many_in make (z ∷ xs) x y (inr later) is = in_second (make z) (flat_map make xs) y (many_in make xs x y later is)

-- what is found is there
pub found_in : {T : Type 0} (test : T → Bool) (xs : List T) (y : T) → find test xs ≡ Some y → IsIn xs y
found_in test [] y e = absurd (none-some y e)
found_in {T} test (x ∷ xs) y e = by (found_in test xs y) (test x) e
  where
    by : (find test xs ≡ Some y → IsIn xs y) → (b : Bool) → cond b (Some x) (find test xs) ≡ Some y → IsIn (x ∷ xs) y
    by more true e = inl (same_Some x y e)
    by more false e = inr (more e)

-- two lists that are nothing together
both_none : {T : Type 0} (xs ys : List T) → xs ++ ys ≡ [] → (xs ≡ []) × (ys ≡ [])
both_none [] ys e = (refl, e)
both_none {T} (x ∷ xs) ys e = let long = ap (λ (l : List T). length l) e in absurd (omega (arith, long))

module _ (t : Contents) where
  -- the key of a bearer's sending end
  sent_row : (way : Way) (rows : List BearerRow) (key : Key) → IsIn (map out_key (map (new_outgoing way) rows)) key
      → (b : BearerRow) × IsIn rows b × (Direct b.remote b.drb ≡ Direct key.remote key.drb) × (b.remote ≡ key.remote)
  sent_row way rows key sent =
      let o = in_made out_key (map (new_outgoing way) rows) key sent in
      let b = in_made (new_outgoing way) rows o.0 o.1 in
      let same : out_key (new_outgoing way b.0) ≡ key = ap out_key b.2 ∙ o.2 in
      (b.0, b.1, ap (λ (k : Key). Direct k.remote k.drb) same, ap (λ (k : Key). k.remote) same)

  -- a direct side on the direct path is open
  open_side : (b : BearerRow) (goal : Goal) → goal ≡ ToDirect → is_some (direct_side (settings t) goal b).entity ≡ true
  open_side b goal is = subst (λ (g : Goal). is_some (direct_side (settings t) g b).entity ≡ true) (sym is) refl

  -- a direct side of a node that is found
  at_side : (n : Node) (q : PortName) → IsIn (map port_of n.ports) q → ((s : PortSide) → IsIn n.ports s → s.name ≡ q → is_some s.entity ≡ true) → is_some (entity_at n q) ≡ true
  at_side n q named each =
      let s = side_there n q named in
      ap (λ (o : Option PortSide). is_some (option_and_then entity_of o)) s.1
      ∙ each s.0 (found_in (λ (x : PortSide). is_port q x.name) n.ports s.0 s.1) (sym (side_name n q s.0 s.1))

  ---- a remote

  remote_opens : (row : RemoteRow) → NodeOpens (new_remote t row)
  remote_opens row = record {
    names = λ key sent. subst (IsIn (map port_of (new_remote t row).ports)) (sent_row Ul bs key sent).2
        (made_in port_of (new_remote t row).ports _ (in_first directs pc5s _ (made_in (direct_side (settings t) row.goal) bs (sent_row Ul bs key sent).0
        (sent_row Ul bs key sent).1)));
    opens = λ key sent none.
        let b = sent_row Ul bs key sent in
        at_side (new_remote t row) (Direct key.remote key.drb)
        (subst (IsIn (map port_of (new_remote t row).ports)) b.2 (made_in port_of (new_remote t row).ports _ (in_first directs pc5s _ (made_in (direct_side
        (settings t) row.goal) bs b.0 b.1))))
        (λ s among name. is_open key (own key b.0 b.1 b.3 none) s among name);
  }
    where
      bs : List BearerRow
      bs = bearers_of t row.remote

      directs : List PortSide
      directs = map (direct_side (settings t) row.goal) bs

      pc5s : List PortSide
      pc5s = map (pc5_side (settings t) row.goal) (pc5s_of t row.remote)

      own : (key : Key) (b : BearerRow) → IsIn bs b → b.remote ≡ key.remote → of_remote key.remote (attachments row.remote row.goal) ≡ [] → row.goal ≡ ToDirect
      own key b among same none =
          let is : is_remote key.remote row.remote ≡ true = ap (λ (r : Remote). is_remote r row.remote)
          (sym same ∙ sym (remote_is row.remote b.remote (in_picked (λ (x : BearerRow). is_remote row.remote x.remote) t.bearers b among).1)) ∙ remote_refl row.remote in
          none_direct key.remote row.goal (sym (of_own key.remote row.remote row.goal
          ∙ cond-true (is_remote key.remote row.remote) (attachments key.remote row.goal) [] is) ∙ none)

      is_open : (key : Key) → row.goal ≡ ToDirect → (s : PortSide) → IsIn (directs ++ pc5s) s → s.name ≡ Direct key.remote key.drb → is_some s.entity ≡ true
      is_open key goal s among name = elim (in_two directs pc5s s among) [
        | inl direct ↦
            let made = in_made (direct_side (settings t) row.goal) bs s direct in
            ap (λ (x : PortSide). is_some x.entity) (sym made.2) ∙ open_side made.0 row.goal goal
        | inr pc5 ↦
            let made = in_made (pc5_side (settings t) row.goal) (pc5s_of t row.remote) s pc5 in
            absurd (subst IsDirectName (sym (ap (λ (x : PortSide). x.name) made.2 ∙ name)) tt)
      ]

  ---- the gNB

  abbrev sides_of : RemoteRow → List PortSide
  sides_of row = map (direct_side (settings t) row.goal) (bearers_of t row.remote)

  abbrev ids_of : RemoteRow → List Attachment
  ids_of row = attachments row.remote row.goal

  -- where nothing is attached to a remote, its row has the direct path
  row_direct : (r : Remote) (rows : List RemoteRow) → of_remote r (flat_map ids_of rows) ≡ [] → (row : RemoteRow) → IsIn rows row → row.remote ≡ r → row.goal ≡ ToDirect
  row_direct r [] none row among same = absurd among
  row_direct r (y ∷ rows) none row (inl e) same =
      let first = (both_none (of_remote r (ids_of y)) (of_remote r (flat_map ids_of rows)) (sym (of_append r (ids_of y) (flat_map ids_of rows)) ∙ none)).0 in
      let own : y.remote ≡ r = ap (λ (x : RemoteRow). x.remote) e ∙ same in
      let is : is_remote r y.remote ≡ true = ap (is_remote r) own ∙ remote_refl r in
      ap (λ (x : RemoteRow). x.goal) (sym e) ∙ none_direct r y.goal (sym (of_own r y.remote y.goal ∙ cond-true (is_remote r y.remote) (attachments r y.goal) [] is) ∙ first)
  row_direct r (y ∷ rows) none row (inr later) same =
      row_direct r rows (both_none (of_remote r (ids_of y)) (of_remote r (flat_map ids_of rows)) (sym (of_append r (ids_of y) (flat_map ids_of rows)) ∙ none)).1 row later same

  gnb_opens : TablesApart t → NodeOpens (new_gnb t)
  gnb_opens apart = record {
    names = λ key sent. named key sent;
    opens = λ key sent none. at_side (new_gnb t) (Direct key.remote key.drb) (named key sent) (λ s among name. is_open key none s among name);
  }
    where
      uus : List PortSide
      uus = map (uu_side (settings t)) t.uus

      -- the row of a bearer's remote
      row_of : (b : BearerRow) → IsIn t.bearers b → (row : RemoteRow) × IsIn t.remotes row × (row.remote ≡ b.remote)
      row_of b among =
          let one = one_passes (λ (row : RemoteRow). remote_rank row == b.remote.0) t.remotes (declared t.bearers apart.declared among) in
          (one.0, one.1, ap (λ (n : ℕ). let r : Remote = record { 0 = n } in r) (eqb-true one.0.remote.0 b.remote.0 one.2))
        where
          declared : (rows : List BearerRow) → AllByRecursion (IsDeclared t.remotes) rows → IsIn rows b → IsDeclared t.remotes b
          declared [] all among = absurd among
          declared (x ∷ rows) all (inl e) = subst (IsDeclared t.remotes) e all.0
          declared (x ∷ rows) all (inr later) = declared rows all.1 later

      named : (key : Key) → IsSent (new_gnb t) key → IsIn (map port_of (new_gnb t).ports) (Direct key.remote key.drb)
      named key sent =
          let b = sent_row Dl t.bearers key sent in
          let row = row_of b.0 b.1 in
          let own : is_remote row.0.remote b.0.remote ≡ true = ap (is_remote row.0.remote) (sym row.2) ∙ remote_refl row.0.remote in
          subst (IsIn (map port_of (new_gnb t).ports)) b.2 (made_in port_of (new_gnb t).ports _ (in_first (flat_map sides_of t.remotes) uus _
          (many_in sides_of t.remotes row.0 (direct_side (settings t) row.0.goal b.0) row.1
          (made_in (direct_side (settings t) row.0.goal) (bearers_of t row.0.remote) b.0 (picked_in
          (λ (x : BearerRow). is_remote row.0.remote x.remote) t.bearers b.0 b.1 own)))))

      is_open : (key : Key) → of_remote key.remote (flat_map ids_of t.remotes) ≡ [] → (s : PortSide) → IsIn (flat_map sides_of t.remotes ++ uus) s
          → s.name ≡ Direct key.remote key.drb
          → is_some s.entity ≡ true
      is_open key none s among name = elim (in_two (flat_map sides_of t.remotes) uus s among) [
        | inl direct ↦
            let row = in_many sides_of t.remotes s direct in
            let made = in_made (direct_side (settings t) row.0.goal) (bearers_of t row.0.remote) s row.2 in
            let its : Direct made.0.remote made.0.drb ≡ Direct key.remote key.drb = ap (λ (x : PortSide). x.name) made.2 ∙ name in
            let of_row : row.0.remote ≡ made.0.remote = remote_is row.0.remote made.0.remote (in_picked
            (λ (x : BearerRow). is_remote row.0.remote x.remote) t.bearers made.0 made.1).1 in
            ap (λ (x : PortSide). is_some x.entity) (sym made.2)
            ∙ open_side made.0 row.0.goal (row_direct key.remote t.remotes none row.0 row.1 (of_row ∙ ap (remote_in key.remote) its))
        | inr uu ↦
            let made = in_made (uu_side (settings t)) t.uus s uu in
            absurd (subst IsDirectName (sym (ap (λ (x : PortSide). x.name) made.2 ∙ name)) tt)
      ]

  abbrev IsEndOpen : Node → Type 0
  IsEndOpen n = (n.name ≡ AtRelay → ⊥) → NodeOpens n

  pub opened_opens : TablesApart t → EndsHave (λ x n. NodeOpens n) (opened t)
  opened_opens apart x end = by (find (λ (n : Node). is_node x n.name) (opened t).nodes) refl
    where
      each : AllByRecursion IsEndOpen (opened t).nodes
      each = each_append IsEndOpen (map (new_remote t) t.remotes) (new_relay t ∷ new_gnb t ∷ []) (each_made IsEndOpen (new_remote t) (λ row end. remote_opens row) t.remotes)
          ((λ end. absurd (end refl)), ((λ end. gnb_opens apart), tt))

      by : (o : Option Node) → find (λ (n : Node). is_node x n.name) (opened t).nodes ≡ o → NodeOpens (unwrap_or o (no_node x))
      by None is = record { names = λ key sent. absurd sent; opens = λ key sent none. absurd sent }
      by (Some n) is =
          let name : n.name ≡ x = sym (node_is x n.name (find_passes (λ (n : Node). is_node x n.name) (opened t).nodes n is)) in
          each_found IsEndOpen (λ (n : Node). is_node x n.name) (opened t).nodes n each is (λ at. end (sym name ∙ at))
