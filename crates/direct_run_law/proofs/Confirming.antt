-- What is confirmed to a sender: it keeps each SDU that wasn't heard.
use Rattle.std.proofs.Common.{◌≡◌, inl, inr, ℕ, zero, suc, ◌+◌, ◌==◌, Bool, true, false, cond, List, [], ◌∷◌, fold, get_or, Option, Some, None, refl, sym, ◌∙◌, ap, subst, arith, Contains}
use Rattle.std.proofs.lemmas.Bool.{eqb-true}
use Rattle.link_base.specs.declared.names.Key.{Key}
use Rattle.link_base.specs.declared.rlc_words.Tag.{Tag}
use Rattle.pdcp_model.specs.Sender.{Sender, still_kept, confirmed, confirms, is_reported, hears_report}
use Rattle.pdcp_model.specs.Receiver.{Receiver}
use Rattle.node_model.specs.Names.{is_key}
use Rattle.node_model.specs.State.{Outgoing, Node, outgoing, outgoing_at, set_outgoing}
use Rattle.node_model.specs.Ends.{confirm_count}
use Rattle.node_model.proofs.Names.{cases_key}
use Rattle.node_model.proofs.Finding.{find_none}
use Rattle.chain_model.proofs.Lookups.{cases_found, outgoing_key}
use Rattle.chain_law.proofs.Leaving.{NodeSame, out_kept, out_set, same_itself, same_out, same_then}
use Rattle.book_law.specs.Honest.{HasCount}
use Rattle.direct_run_law.proofs.Carried.{SenderKeeps, keeps_itself}

-- one step behind another
pub keeps_then : (r : Receiver) (a b c : Sender) → SenderKeeps r a b → SenderKeeps r b c → SenderKeeps r a c
keeps_then r a b c p q = record {
  size = q.size ∙ p.size;
  first = q.first ∙ p.first;
  place = omega (arith, p.place, q.place);
  waits = q.waits ∙ p.waits;
  kept = λ m sdu is unheard. q.kept m sdu (p.kept m sdu is unheard) (λ has. unheard (subst (λ (f : ℕ). HasCount r (f + m)) p.first has));
}

-- an SDU is still kept that doesn't pass the test
still_there : (test : ℕ → Bool) (count : ℕ) (xs : List (Option (List ℕ))) (n : ℕ) (sdu : List ℕ) → get_or xs n None ≡ Some sdu → (test (count + n) ≡ true → ⊥)
    → get_or (still_kept test count xs) n None ≡ Some sdu
still_there test count [] n sdu is fails = is
still_there test count (x ∷ xs) zero sdu is fails = by (test count) refl
  where
    by : (b : Bool) → test count ≡ b → cond b None x ≡ Some sdu
    by true t = let here : count + 0 ≡ count = omega arith in absurd (fails (ap test here ∙ t))
    by false t = is
still_there test count (x ∷ xs) (suc n) sdu is fails = still_there test (count + 1) xs n sdu is
    (λ t. let at : count + suc n ≡ count + 1 + n = omega arith in fails (ap test at ∙ t))

pub confirms_keeps : (r : Receiver) (s : Sender) (test : ℕ → Bool) → ((m : ℕ) → test (s.first + m) ≡ true → HasCount r (s.first + m)) → SenderKeeps r s (confirms s test)
confirms_keeps r s test had = record {
  size = refl;
  first = refl;
  place = omega arith;
  waits = refl;
  kept = λ m sdu is unheard. still_there test s.first s.kept m sdu is (λ t. unheard (had m t));
}

-- a report is heard by a sender that doesn't wait
pub report_keeps : (r : Receiver) (s : Sender) (fmc : ℕ) (bits : List ℕ) → s.waits ≡ false → ((m : ℕ) → is_reported fmc bits (s.first + m) ≡ true → HasCount r (s.first + m))
    → SenderKeeps r s (hears_report s fmc bits)
report_keeps r s fmc bits goes had =
    let t = confirms s (is_reported fmc bits) in
    subst (SenderKeeps r s) (sym (ap (λ (b : Bool). cond b (record t { waits = false; place = confirmed t }) t) goes)) (confirms_keeps r s (is_reported fmc bits) had)

-- a sender that is set is the key's, or there is none
pub out_keeps : (r : Receiver) (n : Node) (k : Key) (t : Sender) → SenderKeeps r (outgoing n k).sender t
    → SenderKeeps r (outgoing n k).sender (outgoing (set_outgoing n (record (outgoing n k) { sender = t })) k).sender
out_keeps r n k t keeps = elim (cases_found (outgoing_at n k)) [
  | inl there ↦ subst (λ (o : Outgoing). SenderKeeps r (outgoing n k).sender o.sender)
      (sym (out_set n (record (outgoing n k) { sender = t }) there.0 k (outgoing_key n k) there.1)) keeps
  | inr none ↦
      let row : Outgoing = record (outgoing n k) { sender = t } in
      let absent : outgoing_at n row.key ≡ None = ap (outgoing_at n) (outgoing_key n k) ∙ none in
      subst (λ (rows : List Outgoing). SenderKeeps r (outgoing n k).sender (outgoing (record n { outgoing = rows }) k).sender)
      (sym (find_none (λ (x : Outgoing). is_key row.key x.key) row n.outgoing absent)) (keeps_itself r (outgoing n k).sender)
]

-- what a node that confirms tags leaves of a key's sender, and of all else
pub record Confirms (r : Receiver) (k : Key) (old new : Node) : Type 0 where
  pub same : NodeSame old new
  pub ports : new.ports ≡ old.ports
  pub incoming : new.incoming ≡ old.incoming
  pub sends : SenderKeeps r (outgoing old k).sender (outgoing new k).sender

confirms_itself : (r : Receiver) (k : Key) (n : Node) → Confirms r k n n
confirms_itself r k n = record { same = same_itself n; ports = refl; incoming = refl; sends = keeps_itself r (outgoing n k).sender }

confirms_one : (r : Receiver) (k : Key) (n : Node) (key : Key) (count : Option ℕ) → (key ≡ k → (c : ℕ) → count ≡ Some c → HasCount r c)
    → Confirms r k n (confirm_count n key count)
confirms_one r k n key None had = confirms_itself r k n
confirms_one r k n key (Some count) had = record {
  same = same_out n (record (outgoing n key) { sender = confirms (outgoing n key).sender test });
  ports = refl;
  incoming = refl;
  sends = elim (cases_key key k) [
    | inr ne ↦ subst (λ (o : Outgoing). SenderKeeps r (outgoing n k).sender o.sender)
        (sym (out_kept n (record (outgoing n key) { sender = confirms (outgoing n key).sender test }) k (λ e. ne (sym (outgoing_key n key) ∙ e))))
        (keeps_itself r (outgoing n k).sender)
    | inl is ↦ subst (λ (x : Key). SenderKeeps r (outgoing n k).sender
        (outgoing (set_outgoing n (record (outgoing n x) { sender = confirms (outgoing n x).sender test })) k).sender) (sym is)
        (out_keeps r n k (confirms (outgoing n k).sender test)
        (confirms_keeps r (outgoing n k).sender test (λ m passes. had is _ (ap (λ (c : ℕ). Some c) (sym (eqb-true _ count passes))))))
  ];
}
  where
    test : ℕ → Bool
    test other = other == count

pub tags_keep : (r : Receiver) (k : Key) (tags : List Tag) (n : Node) → ((tag : Tag) → Contains tags tag → tag.key ≡ k → (count : ℕ) → tag.count ≡ Some count → HasCount r count)
    → Confirms r k n (fold (λ node (tag : Tag). confirm_count node tag.key tag.count) n tags)
tags_keep r k [] n had = confirms_itself r k n
tags_keep r k (tag ∷ tags) n had =
    let mid = confirm_count n tag.key tag.count in
    let p = confirms_one r k n tag.key tag.count (had tag (0, omega arith, refl)) in
    let q = tags_keep r k tags mid (λ x among. had x (suc among.0, omega (arith, among.1), among.2)) in
    record {
      same = same_then n mid _ p.same q.same;
      ports = q.ports ∙ p.ports;
      incoming = q.incoming ∙ p.incoming;
      sends = keeps_then r (outgoing n k).sender (outgoing mid k).sender _ p.sends q.sends;
    }
