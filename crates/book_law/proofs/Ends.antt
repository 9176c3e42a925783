-- What a step at a node does to the rows of one key: the sender moves by one relation, the receiver by another.
use Rattle.std.proofs.Common.{◌≡◌, inl, inr, Option, Some, unwrap_or, refl, sym, ◌∙◌, ap, subst}
use Rattle.link_base.specs.declared.names.Key.{Key}
use Rattle.pdcp_model.specs.Sender.{Sender}
use Rattle.pdcp_model.specs.Receiver.{Receiver}
use Rattle.node_model.specs.State.{Incoming, Outgoing, Node, outgoing_at, incoming_at, outgoing, incoming, set_outgoing, set_incoming, no_outgoing, no_incoming}
use Rattle.node_model.proofs.Names.{cases_key}
use Rattle.chain_model.proofs.Lookups.{outgoing_key, out_own, out_others, in_own, in_others}

-- the rows of a key at a node stay, and their sender and receiver move so
pub record Ends (k : Key) (R : Sender → Sender → Type 0) (Q : Receiver → Receiver → Type 0) (old new : Node) : Type 0 where
  pub name : new.name ≡ old.name
  pub sends : (o : Outgoing) → outgoing_at old k ≡ Some o → (p : Outgoing) × (outgoing_at new k ≡ Some p) × R o.sender p.sender
  pub hears : (i : Incoming) → incoming_at old k ≡ Some i → (j : Incoming) × (incoming_at new k ≡ Some j) × Q i.receiver j.receiver

-- a receiver that stays
abbrev pub Stays : Receiver → Receiver → Type 0
Stays old new = new ≡ old

-- what is found stands for the key
pub out_is : (n : Node) (k : Key) (o : Outgoing) → outgoing_at n k ≡ Some o → outgoing n k ≡ o
out_is n k o found = ap (λ (x : Option Outgoing). unwrap_or x (no_outgoing k)) found

pub in_is : (n : Node) (k : Key) (i : Incoming) → incoming_at n k ≡ Some i → incoming n k ≡ i
in_is n k i found = ap (λ (x : Option Incoming). unwrap_or x (no_incoming k)) found

module _ (k : Key) (R : Sender → Sender → Type 0) (Q : Receiver → Receiver → Type 0) (same_s : (s : Sender) → R s s) where
  -- a step that leaves both lists of rows
  pub ends_same : ((r : Receiver) → Q r r) → (old new : Node) → new.name ≡ old.name → new.outgoing ≡ old.outgoing → new.incoming ≡ old.incoming → Ends k R Q old new
  ends_same same_r old new name out in' = record {
    name = name;
    sends = λ o found. (o, ap (λ rows. outgoing_at (record old { outgoing = rows }) k) out ∙ found, same_s o.sender);
    hears = λ i found. (i, ap (λ rows. incoming_at (record old { incoming = rows }) k) in' ∙ found, same_r i.receiver);
  }

  -- a step that sets the sender of a key
  pub ends_out : ((r : Receiver) → Q r r) → (n : Node) (of : Key) (s : Sender) → R (outgoing n of).sender s → Ends k R Q n (set_outgoing n (record (outgoing n of) { sender = s }))
  ends_out same_r n of s moves = record {
    name = refl;
    sends = λ o found. elim (cases_key of k) [
      | inl is ↦ (
        record (outgoing n of) { sender = s },
        out_own n (record (outgoing n of) { sender = s }) o k (outgoing_key n of ∙ is) found,
        subst (λ (x : Outgoing). R x.sender s) (ap (outgoing n) is ∙ out_is n k o found) moves,
      )
      | inr ne ↦ (o, out_others n (record (outgoing n of) { sender = s }) k (λ e. ne (sym (outgoing_key n of) ∙ e)) ∙ found, same_s o.sender)
    ];
    hears = λ i found. (i, found, same_r i.receiver);
  }

  -- a step that sets the receiving end of a key
  pub ends_in : ((r : Receiver) → Q r r) → (n : Node) (of : Key) (j : Incoming) → j.key ≡ of → Q (incoming n of).receiver j.receiver → Ends k R Q n (set_incoming n j)
  ends_in same_r n of j its moves = record {
    name = refl;
    sends = λ o found. (o, found, same_s o.sender);
    hears = λ i found. elim (cases_key of k) [
      | inl is ↦ (j, in_own n j i k (its ∙ is) found, subst (λ (x : Incoming). Q x.receiver j.receiver) (ap (incoming n) is ∙ in_is n k i found) moves)
      | inr ne ↦ (i, in_others n j k (λ e. ne (sym its ∙ e)) ∙ found, same_r i.receiver)
    ];
  }

  -- a step that sets the receiving end of this key
  pub ends_in_own : (n : Node) (j : Incoming) → j.key ≡ k → Q (incoming n k).receiver j.receiver → Ends k R Q n (set_incoming n j)
  ends_in_own n j its moves = record {
    name = refl;
    sends = λ o found. (o, found, same_s o.sender);
    hears = λ i found. (j, in_own n j i k its found, subst (λ (x : Incoming). Q x.receiver j.receiver) (in_is n k i found) moves);
  }

  -- a step that sets the sender of another key
  pub ends_out_other : ((r : Receiver) → Q r r) → (n : Node) (of : Key) (s : Sender) → (of ≡ k → ⊥) → Ends k R Q n (set_outgoing n (record (outgoing n of) { sender = s }))
  ends_out_other same_r n of s ne = record {
    name = refl;
    sends = λ o found. (o, out_others n (record (outgoing n of) { sender = s }) k (λ e. ne (sym (outgoing_key n of) ∙ e)) ∙ found, same_s o.sender);
    hears = λ i found. (i, found, same_r i.receiver);
  }

  -- a step that sets the receiving end of another key
  pub ends_in_other : ((r : Receiver) → Q r r) → (n : Node) (j : Incoming) → (j.key ≡ k → ⊥) → Ends k R Q n (set_incoming n j)
  ends_in_other same_r n j ne = record {
    name = refl;
    sends = λ o found. (o, found, same_s o.sender);
    hears = λ i found. (i, in_others n j k ne ∙ found, same_r i.receiver);
  }

-- a step from a node with the same rows
pub ends_from : (k : Key) (R : Sender → Sender → Type 0) (Q : Receiver → Receiver → Type 0) (n m x : Node) → m.name ≡ n.name → m.outgoing ≡ n.outgoing → m.incoming ≡ n.incoming → Ends k R Q m x → Ends k R Q n x
ends_from k R Q n m x name out in' p = record {
  name = p.name ∙ name;
  sends = λ o found. p.sends o (ap (λ rows. outgoing_at (record n { outgoing = rows }) k) out ∙ found);
  hears = λ i found. p.hears i (ap (λ rows. incoming_at (record n { incoming = rows }) k) in' ∙ found);
}

-- one step behind another
pub ends_on : (k : Key) (R : Sender → Sender → Type 0) (Q : Receiver → Receiver → Type 0) → ((a b c : Sender) → R a b → R b c → R a c) → ((a b c : Receiver) → Q a b → Q b c → Q a c)
    → (x y z : Node) → Ends k R Q x y → Ends k R Q y z → Ends k R Q x z
ends_on k R Q on_s on_r x y z p q = record {
  name = q.name ∙ p.name;
  sends = λ o found. let a = p.sends o found in let b = q.sends a.0 a.1 in (b.0, b.1, on_s o.sender a.0.sender b.0.sender a.2 b.2);
  hears = λ i found. let a = p.hears i found in let b = q.hears a.0 a.1 in (b.0, b.1, on_r i.receiver a.0.receiver b.0.receiver a.2 b.2);
}

-- relations that say less
pub ends_less : (k : Key) (R S : Sender → Sender → Type 0) (Q P : Receiver → Receiver → Type 0) → ((a b : Sender) → R a b → S a b) → ((a b : Receiver) → Q a b → P a b)
    → (x y : Node) → Ends k R Q x y → Ends k S P x y
ends_less k R S Q P less_s less_r x y p = record {
  name = p.name;
  sends = λ o found. let a = p.sends o found in (a.0, a.1, less_s o.sender a.0.sender a.2);
  hears = λ i found. let a = p.hears i found in (a.0, a.1, less_r i.receiver a.0.receiver a.2);
}
