-- An end that doesn't attach a remote has the direct ports of the remote's bearers open.
use Rattle.std.proofs.Common.{◌≡◌, inl, inr, ℕ, true, false, cond, List, [], ◌∷◌, length, map, Option, Some, None, is_some, option_map, option_and_then}
use Rattle.std.proofs.Common.{refl, sym, ◌∙◌, ap, subst, arith}
use Rattle.std.proofs.lemmas.Bool.{cases_Bool, cond-true, cond-false, true≢false}
use Rattle.link_base.specs.declared.names.Goal.{Goal}
use Rattle.link_base.specs.declared.names.Goal.TheVariants.{Direct as ToDirect, Relay as ToRelay}
use Rattle.link_base.specs.declared.names.Key.{Key}
use Rattle.link_base.specs.declared.names.PortName.{PortName}
use Rattle.link_base.specs.declared.names.PortName.TheVariants.{Direct}
use Rattle.link_base.specs.declared.names.Remote.{Remote}
use Rattle.bearer_map.specs.declared.ids.Attachment.{Attachment}
use Rattle.bearer_map.specs.declared.settings.Settings.{Settings}
use Rattle.pdcp_model.specs.Sender.{accepts}
use Rattle.rlc_model.specs.Sides.{Entity}
use Rattle.node_model.specs.Feeding.{out_key}
use Rattle.node_model.specs.Names.{is_of, is_port, is_remote}
use Rattle.node_model.specs.Opening.{attachments, new_entity}
use Rattle.node_model.specs.State.{Node, Outgoing, PortSide, entity_at, entity_of, outgoing, set_incoming, set_outgoing, side_at}
use Rattle.node_model.specs.Switching.{attached_after, node_after, node_closed, side_after}
use Rattle.node_model.specs.Tables.{is_open_on}
use Rattle.node_model.proofs.Finding.{find_map}
use Rattle.node_model.proofs.Names.{port_refl, remote_apart, remote_is, remote_refl}
use Rattle.chain_law.proofs.Members.{IsIn, in_made, none_found}
use Rattle.chain_law.proofs.Nodes.{port_of, side_name}
use Rattle.chain_law.proofs.Leaving.{NodeSame, same_entity, same_out}
use Rattle.direct_run_law.proofs.Feeding.{feeds_rests}
use Rattle.heard_law.proofs.Attached.{of_switched}
use Rattle.heard_law.proofs.Standing.{Standing, Stays, ends_stay, epoch_in, epoch_of, expires_stays, feeds_stays, grants_stays, hears_stays}
use Rattle.heard_law.specs.Telling.{of_remote}
use Rattle.tag_law.proofs.Lines.{NodeSteps}
use Rattle.tag_law.proofs.Nodes.{heard_same}
use Rattle.carried_law.proofs.Own.{outs_after}

-- the key is one that the node sends
abbrev pub IsSent : Node → Key → Type 0
IsSent n key = IsIn (map out_key n.outgoing) key

-- a node has the direct ports of its keys' bearers, and those of a remote that it doesn't attach are open
pub record NodeOpens (n : Node) : Type 0 where
  pub names : (key : Key) → IsSent n key → IsIn (map port_of n.ports) (Direct key.remote key.drb)
  pub opens : (key : Key) → IsSent n key → of_remote key.remote n.attached ≡ [] → is_some (entity_at n (Direct key.remote key.drb)) ≡ true

some_epoch : (o : Option Entity) → is_some (option_map epoch_of o) ≡ is_some o
some_epoch None = refl
some_epoch (Some e) = refl

-- a node with the same keys and ports, which stands as before
opens_same : (old new : Node) → map out_key new.outgoing ≡ map out_key old.outgoing → map port_of new.ports ≡ map port_of old.ports → Stays old new → NodeOpens old
    → NodeOpens new
opens_same old new outs ports stays has = record {
  names = λ key sent. subst (λ (l : List PortName). IsIn l (Direct key.remote key.drb)) (sym ports) (has.names key (was key sent));
  opens = λ key sent none.
      let q : PortName = Direct key.remote key.drb in
      let same : epoch_in new q ≡ epoch_in old q = ap (λ (s : Standing). s.epoch) (stays.stands q) in
      sym (some_epoch (entity_at new q)) ∙ ap is_some same ∙ some_epoch (entity_at old q)
      ∙ has.opens key (was key sent) (ap (λ (s : Standing). of_remote key.remote s.attached) (sym (stays.stands q)) ∙ none);
}
  where
    was : (key : Key) → IsSent new key → IsSent old key
    was key sent = subst (λ (l : List Key). IsIn l key) outs sent

-- a port whose name is there has a side
pub side_there : (n : Node) (q : PortName) → IsIn (map port_of n.ports) q → (s : PortSide) × (side_at n q ≡ Some s)
side_there n q named = by (side_at n q) refl
  where
    by : (o : Option PortSide) → side_at n q ≡ o → (s : PortSide) × (side_at n q ≡ Some s)
    by (Some s) is = (s, is)
    by None is =
        let made = in_made port_of n.ports q named in
        absurd (true≢false (sym (ap (is_port q) made.2 ∙ port_refl q) ∙ none_found (λ (s : PortSide). is_port q s.name) n.ports made.0 is made.1))

-- a path that attaches nothing is the direct one
pub none_direct : (r : Remote) (goal : Goal) → attachments r goal ≡ [] → goal ≡ ToDirect
none_direct r ToDirect none = refl
none_direct r (ToRelay id) none = let long = ap (λ (l : List Attachment). length l) none in absurd (omega (arith, long))

module _ (s : Settings) (remote : Remote) (goal : Goal) (epoch : ℕ) (n : Node) (has : NodeOpens n) where
  now : (q : PortName) → entity_at (node_after s remote goal epoch n) q ≡ option_and_then entity_of (option_map (side_after s remote goal epoch) (side_at n q))
  now q = ap (option_and_then entity_of) (find_map (side_after s remote goal epoch) (λ (x : PortSide). is_port q x.name) n.ports)

  -- the side of a port of the remote on the direct path is open, and that of another remote is as before
  own_open : (q : PortName) → is_of remote q ≡ true → is_open_on goal q ≡ true → (x : PortSide) → side_at n q ≡ Some x
      → is_some (entity_at (node_after s remote goal epoch n) q) ≡ true
  own_open q own open_on x at =
      let name : q ≡ x.name = side_name n q x at in
      ap is_some (now q ∙ ap (λ (o : Option PortSide). option_and_then entity_of (option_map (side_after s remote goal epoch) o)) at
      ∙ cond-true (is_of remote x.name) _ x.entity (ap (is_of remote) (sym name) ∙ own)
      ∙ cond-true (is_open_on goal x.name) (Some (new_entity s x.size epoch)) None (ap (is_open_on goal) (sym name) ∙ open_on))

  other_open : (q : PortName) → is_of remote q ≡ false → (x : PortSide) → side_at n q ≡ Some x → is_some (entity_at n q) ≡ true
      → is_some (entity_at (node_after s remote goal epoch n) q) ≡ true
  other_open q other x at is =
      let name : q ≡ x.name = side_name n q x at in
      ap is_some (now q ∙ ap (λ (o : Option PortSide). option_and_then entity_of (option_map (side_after s remote goal epoch) o)) at
      ∙ cond-false (is_of remote x.name) _ x.entity (ap (is_of remote) (sym name) ∙ other)) ∙ sym (ap (λ (o : Option PortSide). is_some (option_and_then entity_of o)) at) ∙ is

  ports_after : (ports : List PortSide) → map port_of (map (side_after s remote goal epoch) ports) ≡ map port_of ports
  ports_after [] = refl
  ports_after (x ∷ ports) = ap (λ (l : List PortName). x.name ∷ l) (ports_after ports)

  after_opens : NodeOpens (node_after s remote goal epoch n)
  after_opens = record {
    names = λ key sent. subst (λ (l : List PortName). IsIn l (Direct key.remote key.drb)) (sym (ports_after n.ports)) (has.names key (was key sent));
    opens = λ key sent none.
        let x = side_there n (Direct key.remote key.drb) (has.names key (was key sent)) in
        elim (cases_Bool (is_remote remote key.remote)) [
          | inl own ↦ own_open (Direct key.remote key.drb) own (ap (λ (g : Goal). is_open_on g (Direct key.remote key.drb)) (on_direct key own none)) x.0 x.1
          | inr other ↦ other_open (Direct key.remote key.drb) other x.0 x.1 (has.opens key (was key sent) (before key other none))
        ];
  }
    where
      was : (key : Key) → IsSent (node_after s remote goal epoch n) key → IsSent n key
      was key sent = subst (λ (l : List Key). IsIn l key) (outs_after remote n.outgoing) sent

      attached : (key : Key) → of_remote key.remote (attached_after remote goal n.attached)
          ≡ cond (is_remote key.remote remote) (attachments key.remote goal) (of_remote key.remote n.attached)
      attached key = of_switched key.remote remote goal n.attached

      on_direct : (key : Key) → is_remote remote key.remote ≡ true → of_remote key.remote (attached_after remote goal n.attached) ≡ [] → goal ≡ ToDirect
      on_direct key own none = none_direct key.remote goal (sym (attached key
          ∙ cond-true (is_remote key.remote remote) (attachments key.remote goal) (of_remote key.remote n.attached) (ap (is_remote key.remote)
          (remote_is remote key.remote own) ∙ remote_refl key.remote)) ∙ none)

      before : (key : Key) → is_remote remote key.remote ≡ false → of_remote key.remote (attached_after remote goal n.attached) ≡ [] → of_remote key.remote n.attached ≡ []
      before key other none = sym (attached key ∙ cond-false (is_remote key.remote remote) (attachments key.remote goal) (of_remote key.remote n.attached)
          (remote_apart key.remote remote (λ same. true≢false (sym (ap (is_remote remote) same ∙ remote_refl remote) ∙ other)))) ∙ none

-- each step of a node keeps it so
pub opens_steps : NodeSteps (λ x n. NodeOpens n)
opens_steps = record {
  submit = λ x n key sdu has.
      let o : Outgoing = record (outgoing n key) { sender = accepts (outgoing n key).sender sdu } in
      opens_same n (set_outgoing n o) (same_out n o).outs refl (ends_stay n (set_outgoing n o) refl refl refl) has;
  grant = λ x old port octets epoch answer new g has.
      let same : NodeSame old new = subst (NodeSame old) (sym g.is) (same_entity old g.side (record g.entity { tx = g.tx; rx = g.rx })) in
      opens_same old new same.outs same.ports (grants_stays old port octets epoch answer new g) has;
  expire = λ x old port timer expired new g has.
      let same : NodeSame old new = subst (NodeSame old) (sym g.is) (same_entity old g.side (record g.entity { tx = g.tx; rx = g.rx })) in
      opens_same old new same.outs same.ports (expires_stays old port timer expired new g) has;
  hear = λ x t old at pdu answer new h has.
      let same = heard_same t old at pdu answer new h in
      opens_same old new same.outs same.ports (hears_stays t old at pdu answer new h) has;
  receive = λ x n i has. opens_same n (set_incoming n i) refl refl (ends_stay n (set_incoming n i) refl refl refl) has;
  apply = λ x s remote goal epoch n has. after_opens s remote goal epoch n has;
  close = λ x remote n has. opens_same n (node_closed remote n) refl refl (ends_stay n (node_closed remote n) refl refl refl) has;
  feed = λ x t old given new f has.
      let same = (feeds_rests t old given new f).same in
      opens_same old new same.outs same.ports (feeds_stays t old given new f) has;
}
