-- The ends of keys behind a change of one of them.
use Rattle.std.proofs.Common.{◌≡◌, inl, inr, ℕ, Bool, Option, Some, sym, ◌∙◌, ap, subst}
use Rattle.std.proofs.lemmas.Option.{same_Some}
use Rattle.link_base.specs.declared.names.Key.{Key}
use Rattle.link_base.specs.declared.names.Remote.{Remote}
use Rattle.bearer_map.specs.Contents.{Contents}
use Rattle.node_model.specs.Names.{NodeName, is_node, is_key, source, sink}
use Rattle.node_model.specs.State.{Incoming, Outgoing}
use Rattle.item_law.specs.State.{Sdu, Path, put}
use Rattle.item_law.specs.State.{Sender as ItemSender}
use Rattle.item_law.proofs.base.Puts.{of_key, put_other}
use Rattle.item_chain.specs.View.{put_at}
use Rattle.item_chain.specs.Stands.{SenderFits, ReceiverFits, OutgoingFits, IncomingFits, EndsFit}
use Rattle.item_chain.proofs.Puts.{of_node, at_here, at_other, at_all, cases_both}

-- a table of rows with one that is set has all that it had
has_still : {X : Type 0} (f : NodeName → Key → Option X) (name : NodeName) (key : Key) (x : X) (m : NodeName) (k : Key) → (y : X) × (f m k ≡ Some y) → (y : X)
    × (put_at is_node is_key f name key (Some x) m k ≡ Some y)
has_still f name key x m k has = elim (cases_both of_node of_key name m key k) [
  | inl is ↦ (
    x,
    ap (λ (m : NodeName). put_at is_node is_key f name key (Some x) m k) is.0 ∙ ap (put_at is_node is_key f name key (Some x) name) is.1
        ∙ at_here of_node of_key f name key (Some x),
  )
  | inr ne ↦ (has.0, at_other of_node of_key f name key (Some x) m k ne ∙ has.1)
]

module _ {t : Contents} {path : Remote → Path} {sender : Key → ItemSender} {heard : Key → ℕ → Option Sdu} {wanted : Key → Bool} {out : NodeName → Key → Option Outgoing}
    {inc : NodeName → Key → Option Incoming}
    (ends : EndsFit t path sender heard wanted out inc) (key : Key) where
  -- a receiving end has another row, which fits what is heard now
  pub incoming_goes : (i : Incoming) (now : ℕ → Option Sdu) → IncomingFits t path (put is_key heard key now) wanted (sink key) key i
      → EndsFit t path sender (put is_key heard key now) wanted out (put_at is_node is_key inc (sink key) key (Some i))
  incoming_goes i now fits = record {
    outgoings = ends.outgoings;
    incomings = at_all of_node of_key inc (sink key) key (Some i) (λ m k o. (j : Incoming) → o ≡ Some j → IncomingFits t path (put is_key heard key now) wanted m k j)
        (λ j is. subst (IncomingFits t path (put is_key heard key now) wanted (sink key) key) (same_Some i j is) fits)
        (λ m k ne j is. let f = ends.incomings m k j is in record {
          home = f.home;
          named = f.named;
          row = f.row;
          its_row = f.its_row;
          size = f.size;
          first = f.first;
          fits = subst (λ (h : ℕ → Option Sdu). ReceiverFits h j.receiver) (sym (put_other of_key heard key now k (λ e. ne (f.home ∙ ap sink e, e)))) f.fits;
          wants = f.wants;
          ready = f.ready;
        });
    sends = ends.sends;
    receives = λ k row is. has_still inc (sink key) key i (sink k) k (ends.receives k row is);
  }

  -- a sending end has another row, which fits the sender now
  pub outgoing_goes : (o : Outgoing) (now : ItemSender) → OutgoingFits t (put is_key sender key now) (source key) key o
      → EndsFit t path (put is_key sender key now) heard wanted (put_at is_node is_key out (source key) key (Some o)) inc
  outgoing_goes o now fits = record {
    outgoings = at_all of_node of_key out (source key) key (Some o) (λ m k p. (j : Outgoing) → p ≡ Some j → OutgoingFits t (put is_key sender key now) m k j)
        (λ j is. subst (OutgoingFits t (put is_key sender key now) (source key) key) (same_Some o j is) fits)
        (λ m k ne j is. let f = ends.outgoings m k j is in record {
          home = f.home;
          named = f.named;
          row = f.row;
          its_row = f.its_row;
          size = f.size;
          first = f.first;
          few = f.few;
          fits = subst (λ (s : ItemSender). SenderFits s j.sender) (sym (put_other of_key sender key now k (λ e. ne (f.home ∙ ap source e, e)))) f.fits;
        });
    incomings = ends.incomings;
    sends = λ k row is. has_still out (source key) key o (source k) k (ends.sends k row is);
    receives = ends.receives;
  }

  -- a receiving end is told what is wanted
  pub incoming_wants : (i : Incoming) (now : Bool) → IncomingFits t path heard (put is_key wanted key now) (sink key) key i
      → EndsFit t path sender heard (put is_key wanted key now) out (put_at is_node is_key inc (sink key) key (Some i))
  incoming_wants i now fits = record {
    outgoings = ends.outgoings;
    incomings = at_all of_node of_key inc (sink key) key (Some i) (λ m k o. (j : Incoming) → o ≡ Some j → IncomingFits t path heard (put is_key wanted key now) m k j)
        (λ j is. subst (IncomingFits t path heard (put is_key wanted key now) (sink key) key) (same_Some i j is) fits)
        (λ m k ne j is. let f = ends.incomings m k j is in record {
          home = f.home;
          named = f.named;
          row = f.row;
          its_row = f.its_row;
          size = f.size;
          first = f.first;
          fits = f.fits;
          wants = λ w. f.wants (sym (put_other of_key wanted key now k (λ e. ne (f.home ∙ ap sink e, e))) ∙ w);
          ready = f.ready;
        });
    sends = ends.sends;
    receives = λ k row is. has_still inc (sink key) key i (sink k) k (ends.receives k row is);
  }

  -- a receiving end has another row that fits as before
  pub incoming_same : (i : Incoming) → IncomingFits t path heard wanted (sink key) key i
      → EndsFit t path sender heard wanted out (put_at is_node is_key inc (sink key) key (Some i))
  incoming_same i fits = record {
    outgoings = ends.outgoings;
    incomings = at_all of_node of_key inc (sink key) key (Some i) (λ m k o. (j : Incoming) → o ≡ Some j → IncomingFits t path heard wanted m k j)
        (λ j is. subst (IncomingFits t path heard wanted (sink key) key) (same_Some i j is) fits) (λ m k ne j is. ends.incomings m k j is);
    sends = ends.sends;
    receives = λ k row is. has_still inc (sink key) key i (sink k) k (ends.receives k row is);
  }
