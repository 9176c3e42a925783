-- The ends of keys once a node has applied a plan: senders begin to wait, and reports are held back until all nodes have.
use Rattle.std.proofs.Common.{◌≡◌, inl, inr, Bool, true, false, not, Option, Some, None, is_some, option_map, refl, sym, ◌∙◌, ap, subst}
use Rattle.std.proofs.lemmas.Bool.{cond-true, cond-false, true≢false}
use Rattle.std.proofs.lemmas.Option.{none-some, same_Some}
use Rattle.link_base.specs.declared.names.Key.{Key}
use Rattle.link_base.specs.declared.names.Node.{Node as NodeKind}
use Rattle.link_base.specs.declared.names.Remote.{Remote}
use Rattle.bearer_map.specs.declared.rows.BearerRow.{BearerRow}
use Rattle.pdcp_model.specs.Sender.{begins_wait}
use Rattle.node_model.specs.Names.{NodeName, is_remote, node_of, source, sink}
use Rattle.node_model.specs.State.{Outgoing, Incoming}
use Rattle.node_model.specs.Switching.{outgoing_after, incoming_after, wanting}
use Rattle.node_model.proofs.Names.{cases_node, remote_is, remote_refl}
use Rattle.chain_model.specs.declared.plan.Plan.{Plan}
use Rattle.chain_model.specs.Lines.{apply_refusal}
use Rattle.chain_model.specs.Plans.{is_open, marks}
use Rattle.chain_model.specs.State.{Chain, plan_at}
use Rattle.item_law.specs.State.{Path, has_applied}
use Rattle.item_law.specs.State.{Sender as ItemSender, sink as sink_kind}
use Rattle.item_chain.specs.View.{view}
use Rattle.item_chain.specs.Stands.{row_of, SenderFits, OutgoingFits, IncomingFits, EndsFit, Ghost, Stands, ReceiverFits}
use Rattle.item_chain.proofs.SwitchedItems.{path_next, senders_next, wanted_next, wanted_closed, applied_there, sender_here, sender_there, wanted_here, wanted_there, hears_at}
use Rattle.item_chain.proofs.SwitchedItems.{same_remote as remotes_turn}
use Rattle.item_chain.proofs.SwitchedNodes.{new, closing_in, outs_here, outs_there, ins_here, ins_there}
use Rattle.item_chain.proofs.SwitchedPaths.{item_plan, there, plan_is, new_path, path_own, path_other}
use Rattle.chain_model.specs.Places.{find_node}

mapped : {X Y : Type 0} (f : X → Y) (o : Option X) (y : Y) → option_map f o ≡ Some y → (x : X) × (o ≡ Some x) × (f x ≡ y)
mapped f None y e = absurd (none-some y e)
mapped f (Some x) y e = (x, refl, same_Some (f x) y e)

module _ (g : Ghost) (old : Chain) (st : Stands g (view old)) (remote : Remote) (kind : NodeKind) (plan : Plan) (its : plan_at old remote ≡ Some plan)
    (none : apply_refusal old remote kind ≡ None) (still : Bool) (is_still : is_open (marks plan kind) ≡ still) where
  abbrev node_is_there : is_some (find_node old (node_of kind remote)) ≡ true
  node_is_there = there g old st remote kind plan its none still is_still

  abbrev c : Chain
  c = new old remote kind plan node_is_there still

  abbrev y : NodeName
  y = node_of kind remote

  abbrev path : Remote → Path
  path = new_path g old st remote kind plan its none still is_still

  abbrev senders : Key → ItemSender
  senders = senders_next kind remote g.chain.sender

  abbrev wants : Key → Bool
  wants = wanted_closed (not still) remote (wanted_next kind remote g.chain.wanted)

  ---- senders

  -- a sending end at the node
  out_waits : (name : NodeName) (key : Key) (o : Outgoing) → OutgoingFits old.tables g.chain.sender name key o → name ≡ y
      → OutgoingFits old.tables senders name key (outgoing_after remote o)
  out_waits name key o f here = by (is_remote remote key.remote) refl
    where
      at_source : source key ≡ y
      at_source = sym f.home ∙ here

      its_key : is_remote remote o.key.remote ≡ is_remote remote key.remote
      its_key = ap (λ (k : Key). is_remote remote k.remote) f.named

      by : (b : Bool) → is_remote remote key.remote ≡ b → OutgoingFits old.tables senders name key (outgoing_after remote o)
      by true is = subst (OutgoingFits old.tables senders name key) (sym (cond-true (is_remote remote o.key.remote) (record o { sender = begins_wait o.sender }) o (its_key
          ∙ is))) (record {
            home = f.home;
            named = f.named;
            row = f.row;
            its_row = f.its_row;
            size = f.size;
            first = f.first;
            few = f.few;
            fits = subst (λ (a : ItemSender). SenderFits a (begins_wait o.sender))
                (sym (sender_here remote g.chain.sender key kind at_source ∙ cond-true (is_remote remote key.remote) (record (g.chain.sender key) { waits = true })
                (g.chain.sender key) is))
                (record { long = f.fits.long; sdus = f.fits.sdus; confirmed = f.fits.confirmed; place = f.fits.place; waits = refl; bodies = f.fits.bodies });
          })
      by false is = subst (OutgoingFits old.tables senders name key) (sym (cond-false (is_remote remote o.key.remote) (record o { sender = begins_wait o.sender }) o (its_key
          ∙ is))) (record {
            home = f.home;
            named = f.named;
            row = f.row;
            its_row = f.its_row;
            size = f.size;
            first = f.first;
            few = f.few;
            fits = subst (λ (a : ItemSender). SenderFits a o.sender)
                (sym (sender_here remote g.chain.sender key kind at_source ∙ cond-false (is_remote remote key.remote) (record (g.chain.sender key) { waits = true })
                (g.chain.sender key) is))
                f.fits;
          })

  out_stays : (name : NodeName) (key : Key) (o : Outgoing) → OutgoingFits old.tables g.chain.sender name key o → (name ≡ y → ⊥) → OutgoingFits old.tables senders name key o
  out_stays name key o f ne = record {
    home = f.home;
    named = f.named;
    row = f.row;
    its_row = f.its_row;
    size = f.size;
    first = f.first;
    few = f.few;
    fits = subst (λ (a : ItemSender). SenderFits a o.sender) (sym (sender_there remote g.chain.sender key kind (λ e. ne (f.home ∙ e)))) f.fits;
  }

  outgoings : (name : NodeName) (key : Key) (o : Outgoing) → (view c).outgoing name key ≡ Some o → OutgoingFits old.tables senders name key o
  outgoings name key o is = elim (cases_node name y) [
    | inr ne ↦ out_stays name key o (st.ends.outgoings name key o (sym (outs_there old remote kind plan node_is_there still name key ne) ∙ is)) ne
    | inl here ↦
        let m = mapped (outgoing_after remote) ((view old).outgoing name key) o (sym (outs_here old remote kind plan node_is_there still name key here) ∙ is) in
        subst (OutgoingFits old.tables senders name key) m.2 (out_waits name key m.0 (st.ends.outgoings name key m.0 m.1) here)
  ]

  sends : (key : Key) (row : BearerRow) → row_of old.tables key.remote key.drb ≡ Some row → (o : Outgoing) × ((view c).outgoing (source key) key ≡ Some o)
  sends key row is =
      let was = st.ends.sends key row is in
      elim (cases_node (source key) y) [
        | inr ne ↦ (was.0, outs_there old remote kind plan node_is_there still (source key) key ne ∙ was.1)
        | inl here ↦ (outgoing_after remote was.0, outs_here old remote kind plan node_is_there still (source key) key here ∙ ap (option_map (outgoing_after remote)) was.1)
      ]

  ---- receiving ends

  -- one that has another of its flags set
  in_with : (name : NodeName) (key : Key) (i j : Incoming) → IncomingFits old.tables g.chain.path g.chain.heard g.chain.wanted name key i → j.key ≡ i.key → j.receiver ≡ i.receiver
      → (wants key ≡ true → j.wanted ≡ true) → (j.held_back ≡ false → has_applied (path key.remote) (sink_kind key.way) ≡ false)
      → IncomingFits old.tables path g.chain.heard wants name key j
  in_with name key i j f same_key same_receiver want ready = record {
    home = f.home;
    named = same_key ∙ f.named;
    row = f.row;
    its_row = f.its_row;
    size = ap (λ (r : _). r.size) same_receiver ∙ f.size;
    first = ap (λ (r : _). r.first) same_receiver ∙ f.first;
    fits = subst (ReceiverFits (g.chain.heard key)) (sym same_receiver) f.fits;
    wants = want;
    ready = ready;
  }

  -- of another remote it stays as it is
  own_of : (key : Key) → is_remote remote key.remote ≡ true → key.remote ≡ remote
  own_of key is = sym (remote_is remote key.remote is)

  other_of : (key : Key) → is_remote remote key.remote ≡ false → key.remote ≡ remote → ⊥
  other_of key is same = true≢false (sym (ap (is_remote remote) same ∙ remote_refl remote) ∙ is)

  -- what is wanted of a key
  wants_other : (key : Key) → is_remote remote key.remote ≡ false → wants key ≡ wanted_next kind remote g.chain.wanted key
  wants_other key is = by still
    where
      by : (b : Bool) → wanted_closed (not b) remote (wanted_next kind remote g.chain.wanted) key ≡ wanted_next kind remote g.chain.wanted key
      by true = refl
      by false = cond-false (is_remote key.remote remote) true _ (remotes_turn key.remote remote ∙ is)

  ready_other : (key : Key) → is_remote remote key.remote ≡ false → has_applied (g.chain.path key.remote) (sink_kind key.way) ≡ false
      → has_applied (path key.remote) (sink_kind key.way) ≡ false
  ready_other key is none_there = ap (λ (x : Path). has_applied x (sink_kind key.way)) (path_other g old st remote kind plan its none still is_still key.remote
      (other_of key is)) ∙ none_there

  its_remote : (name : NodeName) (key : Key) (i : Incoming) → IncomingFits old.tables g.chain.path g.chain.heard g.chain.wanted name key i
      → is_remote remote i.key.remote ≡ is_remote remote key.remote
  its_remote name key i f = ap (λ (k : Key). is_remote remote k.remote) f.named

  after_own : (i : Incoming) → is_remote remote i.key.remote ≡ true → incoming_after remote i ≡ record i { wanted = false; held_back = true }
  after_own i is = cond-true (is_remote remote i.key.remote) (record i { wanted = false; held_back = true }) i is

  after_other : (i : Incoming) → is_remote remote i.key.remote ≡ false → incoming_after remote i ≡ i
  after_other i is = cond-false (is_remote remote i.key.remote) (record i { wanted = false; held_back = true }) i is

  wanting_own : (i : Incoming) → is_remote remote i.key.remote ≡ true → wanting remote i ≡ record i { wanted = true; held_back = false }
  wanting_own i is = cond-true (is_remote remote i.key.remote) (record i { wanted = true; held_back = false }) i is

  wanting_other : (i : Incoming) → is_remote remote i.key.remote ≡ false → wanting remote i ≡ i
  wanting_other i is = cond-false (is_remote remote i.key.remote) (record i { wanted = true; held_back = false }) i is

  closing_own : (i : Incoming) → is_remote remote i.key.remote ≡ true → closing_in remote false i ≡ record i { wanted = true; held_back = false }
  closing_own i is = wanting_own i is

  -- of another remote it stays as it is
  same_wanted : (key : Key) → is_remote remote key.remote ≡ false → wants key ≡ g.chain.wanted key
  same_wanted key is = wants_other key is ∙ elim (cases_node (sink key) y) [
    | inr ne ↦ wanted_there remote g.chain.wanted key kind ne
    | inl here ↦ wanted_here remote g.chain.wanted key kind here ∙ cond-false (is_remote remote key.remote) false (g.chain.wanted key) is
  ]

  in_other : (name : NodeName) (key : Key) (i : Incoming) → IncomingFits old.tables g.chain.path g.chain.heard g.chain.wanted name key i → is_remote remote key.remote ≡ false
      → IncomingFits old.tables path g.chain.heard wants name key i
  in_other name key i f is = in_with name key i i f refl refl (λ w. f.wants (sym (same_wanted key is) ∙ w)) (λ free. ready_other key is (f.ready free))

  closing_other : (i : Incoming) → is_remote remote i.key.remote ≡ false → (b : Bool) → closing_in remote b i ≡ i
  closing_other i is true = refl
  closing_other i is false = wanting_other i is

  -- as the plan closes a report is wanted
  in_closed : (name : NodeName) (key : Key) (i j : Incoming) → IncomingFits old.tables g.chain.path g.chain.heard g.chain.wanted name key i → j.key ≡ i.key
      → j.receiver ≡ i.receiver
      → is_remote remote key.remote ≡ true → still ≡ false → j.wanted ≡ true → IncomingFits old.tables path g.chain.heard wants name key j
  in_closed name key i j f same_key same_receiver is shut want = in_with name key i j f same_key same_receiver (λ w. want) (λ free.
      ap (λ (r : Remote). has_applied (path r) (sink_kind key.way)) (own_of key is)
      ∙ ap (λ (x : Path). has_applied x (sink_kind key.way)) (path_own g old st remote kind plan its none still is_still)
      ∙ ap (λ (b : Bool). has_applied (path_next (not b) (g.chain.path remote) (item_plan plan) kind) (sink_kind key.way)) shut)

  -- while it is open the node holds reports back
  open_wants : (key : Key) → still ≡ true → wants key ≡ wanted_next kind remote g.chain.wanted key
  open_wants key is = ap (λ (b : Bool). wanted_closed (not b) remote (wanted_next kind remote g.chain.wanted) key) is

  in_held : (name : NodeName) (key : Key) (i : Incoming) → IncomingFits old.tables g.chain.path g.chain.heard g.chain.wanted name key i → name ≡ y
      → is_remote remote key.remote ≡ true → still ≡ true → IncomingFits old.tables path g.chain.heard wants name key (record i { wanted = false; held_back = true })
  in_held name key i f here is opens = in_with name key i (record i { wanted = false; held_back = true }) f refl refl
      (λ w. sym (open_wants key opens ∙ wanted_here remote g.chain.wanted key kind (sym f.home ∙ here) ∙ cond-true (is_remote remote key.remote) false (g.chain.wanted key) is) ∙ w)
      (λ free. absurd (true≢false free))

  -- and others give them as before
  in_before : (name : NodeName) (key : Key) (i : Incoming) → IncomingFits old.tables g.chain.path g.chain.heard g.chain.wanted name key i → (name ≡ y → ⊥)
      → is_remote remote key.remote ≡ true → still ≡ true → IncomingFits old.tables path g.chain.heard wants name key i
  in_before name key i f ne is opens = in_with name key i i f refl refl
      (λ w. f.wants (sym (open_wants key opens ∙ wanted_there remote g.chain.wanted key kind (λ e. ne (f.home ∙ e))) ∙ w))
      (λ free. ap (λ (r : Remote). has_applied (path r) (sink_kind key.way)) (own_of key is)
      ∙ ap (λ (x : Path). has_applied x (sink_kind key.way)) (path_own g old st remote kind plan its none still is_still)
      ∙ applied_there (g.chain.path remote) (item_plan plan) (plan_is g old st remote kind plan its none still is_still) kind (sink_kind key.way) (other_kind name key f ne is)
      (not still)
      (ap (λ (r : Remote). has_applied (g.chain.path r) (sink_kind key.way)) (sym (own_of key is)) ∙ f.ready free))
    where
      other_kind : (name : NodeName) (key : Key) → IncomingFits old.tables g.chain.path g.chain.heard g.chain.wanted name key i → (name ≡ y → ⊥)
          → is_remote remote key.remote ≡ true
          → sink_kind key.way ≡ kind → ⊥
      other_kind name key f ne is same = ne (f.home ∙ sym (hears_at remote g.chain.wanted key) ∙ ap (λ (k : NodeKind). node_of k key.remote) same
          ∙ ap (node_of kind) (own_of key is))

  in_there : (name : NodeName) (key : Key) (i : Incoming) → IncomingFits old.tables g.chain.path g.chain.heard g.chain.wanted name key i → (name ≡ y → ⊥)
      → (a : Bool) → is_remote remote key.remote ≡ a → (b : Bool) → still ≡ b → IncomingFits old.tables path g.chain.heard wants name key (closing_in remote b i)
  in_there name key i f ne false is b shut = subst (IncomingFits old.tables path g.chain.heard wants name key) (sym (closing_other i (its_remote name key i f
      ∙ is) b)) (in_other name key i f is)
  in_there name key i f ne true is true opens = in_before name key i f ne is opens
  in_there name key i f ne true is false shut = subst (IncomingFits old.tables path g.chain.heard wants name key) (sym (closing_own i (its_remote name key i f ∙ is)))
      (in_closed name key i (record i { wanted = true; held_back = false }) f refl refl is shut refl)

  in_here : (name : NodeName) (key : Key) (i : Incoming) → IncomingFits old.tables g.chain.path g.chain.heard g.chain.wanted name key i → name ≡ y
      → (a : Bool) → is_remote remote key.remote ≡ a → (b : Bool) → still ≡ b → IncomingFits old.tables path g.chain.heard wants name key (closing_in remote b
      (incoming_after remote i))
  in_here name key i f here false is b shut =
      let its = its_remote name key i f ∙ is in
      subst (IncomingFits old.tables path g.chain.heard wants name key) (sym (ap (closing_in remote b) (after_other i its) ∙ closing_other i its b)) (in_other name key i f is)
  in_here name key i f here true is true opens = subst (IncomingFits old.tables path g.chain.heard wants name key) (sym (after_own i (its_remote name key i f ∙ is)))
      (in_held name key i f here is opens)
  in_here name key i f here true is false shut =
      let its = its_remote name key i f ∙ is in
      subst (IncomingFits old.tables path g.chain.heard wants name key)
      (sym (ap (closing_in remote false) (after_own i its) ∙ closing_own (record i { wanted = false; held_back = true }) its))
      (in_closed name key i (record i { wanted = true; held_back = false }) f refl refl is shut refl)

  incomings : (name : NodeName) (key : Key) (j : Incoming) → (view c).incoming name key ≡ Some j → IncomingFits old.tables path g.chain.heard wants name key j
  incomings name key j is = elim (cases_node name y) [
    | inr ne ↦
        let m = mapped (closing_in remote still) ((view old).incoming name key) j (sym (ins_there old remote kind plan node_is_there still name key ne) ∙ is) in
        subst (IncomingFits old.tables path g.chain.heard wants name key) m.2
        (in_there name key m.0 (st.ends.incomings name key m.0 m.1) ne (is_remote remote key.remote) refl still refl)
    | inl here ↦
        let m = mapped (closing_in remote still) (option_map (incoming_after remote) ((view old).incoming name key)) j
        (sym (ins_here old remote kind plan node_is_there still name key here) ∙ is) in
        let i = mapped (incoming_after remote) ((view old).incoming name key) m.0 m.1 in
        subst (IncomingFits old.tables path g.chain.heard wants name key) (ap (closing_in remote still) i.2 ∙ m.2)
        (in_here name key i.0 (st.ends.incomings name key i.0 i.1) here (is_remote remote key.remote) refl still refl)
  ]

  receives : (key : Key) (row : BearerRow) → row_of old.tables key.remote key.drb ≡ Some row → (i : Incoming) × ((view c).incoming (sink key) key ≡ Some i)
  receives key row is =
      let was = st.ends.receives key row is in
      elim (cases_node (sink key) y) [
        | inr ne ↦ (closing_in remote still was.0, ins_there old remote kind plan node_is_there still (sink key) key ne ∙ ap (option_map (closing_in remote still)) was.1)
        | inl here ↦ (
          closing_in remote still (incoming_after remote was.0),
          ins_here old remote kind plan node_is_there still (sink key) key here ∙ ap (λ (o : Option Incoming). option_map (closing_in remote still) (option_map
              (incoming_after remote) o)) was.1,
        )
      ]

  pub ends_fit : EndsFit old.tables path senders g.chain.heard wants (view c).outgoing (view c).incoming
  ends_fit = record { outgoings = outgoings; incomings = incomings; sends = sends; receives = receives }
