-- Behind its feeding a key has nothing to give for which there is room, and it stays so as other keys are fed.
use Rattle.std.proofs.Common.{◌≡◌, ◌⊎◌, inl, inr, ℕ, ◌+◌, Bool, true, false, not, ◌&&◌, ◌||◌, nat_lt, nat_le, List, Option, Some, None, is_some, unwrap_or, refl, sym, ◌∙◌, ap, arith}
use Rattle.std.proofs.lemmas.Bool.{and_parts, true≢false, false≢true, leb-true, ltb-true}
use Rattle.std.proofs.lemmas.Option.{none-some, same_Some}
use Rattle.link_base.specs.declared.names.Key.{Key}
use Rattle.bearer_map.specs.declared.ids.Attachment.{Attachment}
use Rattle.bearer_map.specs.Contents.{Contents}
use Rattle.pdcp_model.specs.Receiver.{can_report}
use Rattle.pdcp_model.specs.Sender.{has_next, gave_next}
use Rattle.node_model.specs.Feeding.{has_room, is_enough, wants_report, FeedsReport, unwanted, dropped, no_room, gives as gives_report, GivesData, FeedsData, rests as rests_data, gives as gives_data}
use Rattle.node_model.specs.Names.{back}
use Rattle.node_model.specs.State.{Incoming, Outgoing, Node, incoming, outgoing, incoming_at, outgoing_at, id_in, id_at, set_incoming, no_incoming}
use Rattle.node_model.specs.Tables.{settings}
use Rattle.node_model.proofs.ByName.{incoming_set}
use Rattle.chain_model.proofs.Lookups.{cases_found, outgoing_key, incoming_key, out_others, in_own, in_others}
use Rattle.item_chain.specs.Fed.{IsWithoutRoom}
use Rattle.item_chain.proofs.Room.{HasLessRoom, as_much, less_on, gives_less, no_more_room}

-- no SDU of the key has room
abbrev pub HasNoData : Contents → Node → Key → Type 0
HasNoData t n key = (has_next (outgoing n key).sender && has_room t n key) ≡ false

-- no status report about the key has
abbrev pub HasNoReport : Contents → Node → Key → Type 0
HasNoReport t n key = (i : Incoming) → incoming_at n key ≡ Some i → wants_report t n i ≡ true → IsWithoutRoom t n key i

and_false : (b c : Bool) → (b && c) ≡ false → (b ≡ false) ⊎ (c ≡ false)
and_false true c e = inr e
and_false false c e = inl refl

left_false : (b c : Bool) → b ≡ false → (b && c) ≡ false
left_false true c e = absurd (true≢false e)
left_false false c e = refl

right_false : (b c : Bool) → c ≡ false → (b && c) ≡ false
right_false true c e = e
right_false false c e = refl

module _ (t : Contents) (old new : Node) (less : HasLessRoom old new) (key : Key) where
  pub data_stays : outgoing new key ≡ outgoing old key → HasNoData t old key → HasNoData t new key
  data_stays same none = elim (and_false (has_next (outgoing old key).sender) (has_room t old key) none) [
    | inl e ↦ left_false (has_next (outgoing new key).sender) (has_room t new key) (ap (λ (o : Outgoing). has_next o.sender) same ∙ e)
    | inr e ↦ right_false (has_next (outgoing new key).sender) (has_room t new key) (no_more_room t old new key less e)
  ]

  pub report_stays : incoming_at new key ≡ incoming_at old key → HasNoReport t old key → HasNoReport t new key
  report_stays same none i is wants = elim (none i (sym same ∙ is) (wanted_before wants)) [
    | inl w ↦ inl (w.0, no_more_room t old new (back key) less w.1)
    | inr w ↦ inr w
  ]
    where
      wanted_before : wants_report t new i ≡ true → wants_report t old i ≡ true
      wanted_before w = ap (λ (xs : List Attachment). not i.held_back && (i.wanted || is_enough (settings t).report (is_some (id_in xs i.key.remote)) i)) (sym less.attached) ∙ w

-- data PDUs of a key are given: there is less room, and all else stays
pub record GivesOf (key : Key) (old new : Node) : Type 0 where
  pub less : HasLessRoom old new
  pub outgoing : (k : Key) → (k ≡ key → ⊥) → outgoing_at new k ≡ outgoing_at old k
  pub incoming : new.incoming ≡ old.incoming

-- a status report about a key is given, or not
pub record ReportsOf (key : Key) (old new : Node) : Type 0 where
  pub less : HasLessRoom old new
  pub incoming : (k : Key) → (k ≡ key → ⊥) → incoming_at new k ≡ incoming_at old k

module _ (t : Contents) (key : Key) where
  nothing_given : (n : Node) → GivesOf key n n
  nothing_given n = record { less = as_much n n refl refl; outgoing = λ k ne. refl; incoming = refl }

  given_on : (a b c : Node) → GivesOf key a b → GivesOf key b c → GivesOf key a c
  given_on a b c p q = record { less = less_on a b c p.less q.less; outgoing = λ k ne. q.outgoing k ne ∙ p.outgoing k ne; incoming = q.incoming ∙ p.incoming }

  one_given : (old new : Node) → GivesData t old (outgoing old key) new → GivesOf key old new
  one_given old new x =
      let o : Outgoing = record (outgoing old key) { sender = gave_next (outgoing old key).sender } in
      record {
        less = less_on old x.mid new (gives_less t old _ _ _ x.mid x.gives) (as_much x.mid new (ap (λ (n : Node). n.ports) x.is) (ap (λ (n : Node). n.attached) x.is));
        outgoing = λ k ne. ap (λ (n : Node). outgoing_at n k) x.is ∙ out_others x.mid o k (λ e. ne (sym e ∙ outgoing_key old key)) ∙ ap (λ (n : Node). outgoing_at n k) x.gives.is;
        incoming = ap (λ (n : Node). n.incoming) x.is ∙ ap (λ (n : Node). n.incoming) x.gives.is;
      }

  pub data_fed : {old new : Node} → FeedsData t key old new → GivesOf key old new × HasNoData t new key
  data_fed {old} (rests_data none) = (nothing_given old, none)
  data_fed {old} {new} (gives_data {mid = mid} some x more) = let rest = data_fed more in (given_on old mid new (one_given old mid x) rest.0, rest.1)

  stays_as : (old new : Node) → new ≡ old → ReportsOf key old new
  stays_as old new is = record {
    less = as_much old new (ap (λ (n : Node). n.ports) is) (ap (λ (n : Node). n.attached) is);
    incoming = λ k ne. ap (λ (n : Node). incoming_at n k) is;
  }

  its_row : (n : Node) (i : Incoming) → incoming_at n key ≡ Some i → incoming n key ≡ i
  its_row n i is = ap (λ (o : Option Incoming). unwrap_or o (no_incoming key)) is

  -- what is found where a row is set
  set_row : (n : Node) (new i : Incoming) → new.key ≡ key → incoming_at (set_incoming n new) key ≡ Some i
      → ((was : Incoming) × (incoming_at n key ≡ Some was)) ⊎ (incoming_at n key ≡ None) → i ≡ new
  set_row n new i named is (inl was) = sym (same_Some new i (sym (in_own n new was.0 key named was.1) ∙ is))
  set_row n new i named is (inr none) =
      absurd (none-some i (sym none ∙ sym (ap (λ (rows : List Incoming). incoming_at (record n { incoming = rows }) key)
      (incoming_set.none n.incoming new (ap (incoming_at n) named ∙ none))) ∙ is))

  -- as many as the setting says are not handed up again at once
  not_enough : (report : ℕ) (on : Bool) (i : Incoming) → i.reported ≡ i.receiver.handed → is_enough report on i ≡ true → ⊥
  not_enough report on i same e =
      let some = and_parts (nat_lt 0 report) (on && nat_le (i.reported + report) i.receiver.handed) e in
      let reached = and_parts on (nat_le (i.reported + report) i.receiver.handed) some.1 in
      absurd (omega (arith, ltb-true 0 report some.0, leb-true (i.reported + report) i.receiver.handed reached.1, same))

  pub report_fed : (old : Node) (given : List Key) (new : Node) → FeedsReport t old (incoming old key) given new → ReportsOf key old new × HasNoReport t new key
  report_fed old given new (unwanted w none is) = (
    stays_as old new is,
    λ i found wants. absurd (false≢true
        (sym w ∙ ap (wants_report t old) (its_row old i (ap (λ (n : Node). incoming_at n key) (sym is) ∙ found)) ∙ ap (λ (n : Node). wants_report t n i) (sym is) ∙ wants)),
  )
  report_fed old given new (no_room w can full none is) = (
    stays_as old new is,
    λ i found wants.
        inl (
          ap (λ (i : Incoming). can_report i.receiver) (sym (its_row old i (ap (λ (n : Node). incoming_at n key) (sym is) ∙ found))) ∙ can,
          ap (λ (n : Node). has_room t n (back key)) is ∙ ap (λ (k : Key). has_room t old (back k)) (sym (incoming_key old key)) ∙ full,
        ),
  )
  report_fed old given new (dropped w cannot none is) =
      let row : Incoming = record (incoming old key) { wanted = false } in (
        record {
          less = as_much old new (ap (λ (n : Node). n.ports) is) (ap (λ (n : Node). n.attached) is);
          incoming = λ k ne. ap (λ (n : Node). incoming_at n k) is ∙ in_others old row k (λ e. ne (sym e ∙ incoming_key old key));
        },
        λ i found wants.
            let same = set_row old row i (incoming_key old key) (ap (λ (n : Node). incoming_at n key) (sym is) ∙ found) (cases_found (incoming_at old key)) in
            inr (ap (λ (i : Incoming). can_report i.receiver) same ∙ cannot, ap (λ (i : Incoming). i.wanted) same),
      )
  report_fed old given new (gives_report w can full y one) =
      let row : Incoming = record (incoming old key) { wanted = false; reported = (incoming old key).receiver.handed } in (
        record {
          less = less_on old y.mid new (gives_less t old _ _ _ y.mid y.gives) (as_much y.mid new (ap (λ (n : Node). n.ports) y.is) (ap (λ (n : Node). n.attached) y.is));
          incoming = λ k ne. ap (λ (n : Node). incoming_at n k) y.is ∙ in_others y.mid row k (λ e. ne (sym e ∙ incoming_key old key))
              ∙ ap (λ (n : Node). incoming_at n k) y.gives.is;
        },
        λ i found wants.
            let same = set_row y.mid row i (incoming_key old key) (ap (λ (n : Node). incoming_at n key) (sym y.is) ∙ found) (cases_found (incoming_at y.mid key)) in
            let wish = and_parts (not row.held_back) (is_enough (settings t).report (is_some (id_at new row.key.remote)) row) (ap (wants_report t new) (sym same) ∙ wants) in
            absurd (not_enough (settings t).report (is_some (id_at new row.key.remote)) row refl wish.1),
      )
