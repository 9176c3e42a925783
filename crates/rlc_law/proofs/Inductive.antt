-- Each step keeps the invariant.
use Rattle.std.proofs.Common.{◌≡◌, ◌≢◌, ◌⊎◌, inl, inr, ℕ, ◌+◌, ◌-◌, ◌%◌, ◌<◌, ◌≤◌, Bool, true, false, ◌||◌, List, [], ◌∷◌, ◌++◌, length, Option, Some, None, refl, sym, ◌∙◌, ap, subst, arith}
use Rattle.std.proofs.lemmas.Option.{none-some, same_Some}
use Rattle.std.proofs.lemmas.Bool.{cases_lt, cases_eq}
use Rattle.rlc_model.specs.Made.{IsWithin, WritesStatus}
use Rattle.rlc_law.proofs.Lists.{contains_nil, contains_cases}
use Rattle.rlc_law.proofs.Bytes.{held_some}
use Rattle.rlc_law.proofs.Hear.{stays_confirms, stays_statuses, with_rx, with_completions, stores_rx, stores_completions, completes_rx, completes_completions}
use Rattle.rlc_law.proofs.Elements.{Each, ElementFits, written, written_status_is_true}
use Rattle.link_base.specs.declared.names.SnSize.{SnSize}
use Rattle.link_base.specs.SequenceNumbers.{modulus, Near}
use Rattle.rlc_pdu.specs.Amd.{Amd}
use Rattle.rlc_status.specs.declared.status.Nack.{Nack}
use Rattle.rlc_status.specs.Format.{StatusFits}
use Rattle.rlc_status.specs.declared.status.Status.{Status}
use Rattle.rlc_model.specs.Pdu.{IsPiece, end_of}
use Rattle.rlc_model.specs.Heard.{Data}
use Rattle.rlc_status.specs.Says.{SaysReceived}
use Rattle.rlc_model.specs.Tx.{Tx, tx_next_ack, Gives, Sends}
use Rattle.rlc_model.specs.declared.transmitter.StatusHeard.{StatusHeard}
use Rattle.rlc_model.specs.declared.transmitter.StatusHeard.TheVariants.{Acked, Old, Beyond}
use Rattle.rlc_model.specs.Retransmission.{HearsStatus}
use Rattle.rlc_model.specs.Rx.{Rx, Done, got, held_at, len_of, rx_next_highest, rx_next, PollsAtOnce, Hears, ExpiresReassembly}
use Rattle.rlc_model.specs.declared.receiver.Heard.{Heard}
use Rattle.rlc_model.specs.declared.receiver.Heard.TheVariants.{Stored, Complete, Repeat, Outside, Conflict}
use Rattle.rlc_law.proofs.Receiver.{with, first_within, stores_stays, completes_stays, with_ok, hears_ok, starts_sound}
use Rattle.rlc_model.specs.Air.{IsFresh}
use Rattle.rlc_law.specs.Hop.{Hop, StatusMade, Event, Happens, gives, sends, makes_status, delivers, acknowledges, expires_poll, expires_reassembly, expires_prohibit, Reaches, start, completed_after}
use Rattle.std.specs.List.{Contains}
use Rattle.rlc_law.proofs.Runs.{everywhere}
use Rattle.rlc_law.proofs.Base.{near_one, part_not_done}
use Rattle.rlc_law.proofs.Windows.{reads_number, reads_ack}
use Rattle.rlc_law.proofs.Give.{gives_tx, gives_confirms, gives_rx, gives_pdus, gives_completions, gives_statuses, gives_sdus}
use Rattle.rlc_law.proofs.Grant.{sends_tx, sends_confirms, sends_pdus}
use Rattle.rlc_law.proofs.Acknowledge.{Keeps, keeps_tx, acks_keeps, acks_confirms, expires_keeps, expires_confirms}
use Rattle.rlc_law.proofs.Invariant.{at, RxFits, PdusFit, Confirms, NamesGiven, StatusHolds, Invariant}
use Rattle.link_base.specs.declared.rlc_words.Tag.{Tag}

-- a data PDU that isn't stale is read under its own number
pub own_number : (h : Hop) → Invariant h → (d : Data) → Contains h.pdus d → IsFresh h.rx.size false d.number (rx_next h.rx) → Near h.rx.size d.view.sn (rx_next h.rx) d.number
own_number h inv d among fresh =
    let is = inv.pdus d among in
    subst (λ (sn : ℕ). Near h.rx.size sn (rx_next h.rx) d.number) (ap (λ (z : SnSize). d.number % modulus z) inv.size ∙ sym is.sn)
    (reads_number h.tx h.rx h.given inv.tx inv.confirms inv.size d.number is.number fresh)

-- a STATUS that isn't stale is read with its own ACK
pub own_ack : (h : Hop) → Invariant h → (t : StatusMade) → Contains h.statuses t → IsFresh h.tx.size true t.ack (tx_next_ack h.tx) → Near h.tx.size t.status.ack (tx_next_ack h.tx + 1) t.ack
own_ack h inv t among fresh =
    let is = inv.statuses t among in
    subst (λ (sn : ℕ). Near h.tx.size sn (tx_next_ack h.tx + 1) t.ack) (ap (λ (z : SnSize). t.ack % modulus z) (sym inv.size) ∙ sym is.sn)
    (reads_ack h.tx h.given inv.tx t.ack is.ack fresh)

-- what elements name that can be read was given
elements_named : (r : Rx) (given : List (List ℕ)) (a : ℕ) → RxFits r given → ((n : ℕ) → n < length given → (0 < length (at given n)) × (length (at given n) ≤ 9005)) → a ≤ length given → (es : List Nack) → Each (ElementFits r a) es → Each (NamesGiven r.size given a) es
elements_named r given a rx sdus le [] h = tt
elements_named r given a rx sdus le (e ∷ es) h = (
  record { first = (h.0).first; is = (h.0).is; inside = (h.0).inside; part = λ x y is. let p = (h.0).part x y is in (p.0, starts_in x p.1 p.2, ends_in y p.3) },
  elements_named r given a rx sdus le es h.1,
)
  where
    m : ℕ
    m = (h.0).first

    held_in : (q : ℕ) → held_at (got r m) q ≢ None → q < length (at given m)
    held_in q held = let b = held_some (held_at (got r m) q) held in (rx.held m q b.0 b.1).0

    starts_in : (x : ℕ) → IsWithin (got r m) x → ((x ≡ 0) ⊎ (held_at (got r m) (x - 1) ≢ None)) → x < length (at given m)
    starts_in x within (inl zero_x) = omega (arith, (sdus m (omega (arith, (h.0).is.below))).0)
    starts_in x within (inr held) = elim (cases_lt x (length (at given m))) [
      | inl lt ↦ lt
      | inr past ↦ elim (cases_eq x 0) [
        | inl zero_x ↦ omega (arith, (sdus m (omega (arith, (h.0).is.below))).0)
        | inr ne ↦ absurd (rx.ends m (x - 1) held (omega (arith, held_in (x - 1) held)) (no_len x within past))
      ]
    ]
      where
        no_len : (x : ℕ) → IsWithin (got r m) x → length (at given m) ≤ x → len_of (got r m) ≡ None
        no_len x within past = go (len_of (got r m)) refl
          where
            go : (o : Option ℕ) → len_of (got r m) ≡ o → o ≡ None
            go None e = refl
            go (Some l) e = absurd (omega (arith, within l e, rx.len m l e))

    ends_in : (y : ℕ) → ((y ≡ 65535) ⊎ (held_at (got r m) (y + 1) ≢ None) ⊎ (len_of (got r m) ≡ Some (y + 1))) → (y ≡ 65535) ⊎ (y < length (at given m))
    ends_in y (inl all_places) = inl all_places
    ends_in y (inr (inl held)) = inr (omega (arith, held_in (y + 1) held))
    ends_in y (inr (inr known)) = inr (omega (arith, rx.len m (y + 1) known))

module _ (h : Hop) (inv : Invariant h) where
  -- the receiver changes but for its entries
  keeps_entries : (r : Rx) (status : ℕ) (trigger : Option ℕ) (triggered : Bool) (polls : List ℕ) (prohibit : Bool) → r ≡ with h.rx status trigger triggered polls prohibit → got h.rx status ≢ Done → status ≤ rx_next_highest h.rx → ((t : ℕ) → trigger ≡ Some t → t ≤ rx_next_highest h.rx) → Invariant (record h { rx = r })
  keeps_entries r status trigger triggered polls prohibit is open_status limit bound = subst (λ (r : Rx). Invariant (record h { rx = r })) (sym is) (record {
    size = inv.size;
    tx = inv.tx;
    rx = with_rx h.rx h.given status trigger triggered polls prohibit inv.rx;
    sound = with_ok h.rx trigger triggered polls prohibit status inv.sound open_status limit bound;
    sdus = inv.sdus;
    pdus = inv.pdus;
    confirms = inv.confirms;
    completed = with_completions h.rx h.given h.completed status trigger triggered polls prohibit inv.completed;
    statuses = λ t among. let x = inv.statuses t among in record { ack = x.ack; sn = x.sn; fits = x.fits; named = x.named; received = x.received };
  })

  -- a poll at once keeps the invariant
  polled : (v : Amd) (r : Rx) → PollsAtOnce h.rx v r → Invariant (record h { rx = r })
  polled v r is = keeps_entries r h.rx.rx_highest_status h.rx.rx_next_status_trigger (h.rx.status_triggered || v.poll) h.rx.delayed_polls h.rx.status_prohibit_runs is inv.sound.highest_status inv.sound.limit inv.sound.trigger

  module _ (d : Data) (r : Rx) (among : Contains h.pdus d) (fresh : IsFresh h.rx.size false d.number (rx_next h.rx)) where
    own : (x : ℕ) → Near h.rx.size d.view.sn (rx_next h.rx) x → x ≡ d.number
    own x near = near_one h.rx.size d.view.sn (rx_next h.rx) x d.number near (own_number h inv d among fresh)

    below : (x : ℕ) → Near h.rx.size d.view.sn (rx_next h.rx) x → x < length h.given
    below x near = omega (arith, own x near, (inv.pdus d among).number)

    piece : (x : ℕ) → Near h.rx.size d.view.sn (rx_next h.rx) x → IsPiece (at h.given x) d.view
    piece x near = subst (λ (n : ℕ). IsPiece (at h.given n) d.view) (sym (own x near)) (inv.pdus d among).piece

    small : (x : ℕ) → Near h.rx.size d.view.sn (rx_next h.rx) x → end_of d.view ≤ 9005
    small x near = omega (arith, (piece x near).within, (inv.sdus x (below x near)).1)

    delivered : (answer : Heard) → Hears h.rx d.view answer r → Invariant (record h { rx = r; completed = completed_after answer h.completed })
    delivered Outside hears = polled d.view r hears.1
    delivered Repeat hears = polled d.view r hears.3
    delivered Conflict hears = polled d.view r hears.4
    delivered Stored hears =
        let x = hears.0 in
        let s = hears.4 in
        let open_before : got h.rx x ≡ Done → ⊥ = λ e. hears.2 (inr (inl e)) in
        record {
          size = s.size ∙ inv.size;
          tx = inv.tx;
          rx = stores_rx h.rx r x d.view h.given inv.rx (below x hears.1) (piece x hears.1) open_before s;
          sound = hears_ok h.rx r d.view Stored inv.sound (small x hears.1) hears;
          sdus = inv.sdus;
          pdus = inv.pdus;
          confirms = stays_confirms h.tx h.rx r (stores_stays h.rx r x d.view open_before s) inv.confirms;
          completed = stores_completions h.rx r x d.view h.given inv.rx (below x hears.1) (piece x hears.1) open_before s h.completed inv.completed;
          statuses = stays_statuses h.rx r h.given h.statuses s.size (stores_stays h.rx r x d.view open_before s) inv.statuses;
        }
    delivered (Complete x sdu) hears =
        let s = hears.3 in
        let open_before : got h.rx x ≡ Done → ⊥ = λ e. hears.1 (inr (inl e)) in
        record {
          size = s.size ∙ inv.size;
          tx = inv.tx;
          rx = completes_rx h.rx r x d.view h.given inv.rx (below x hears.0) (piece x hears.0) open_before sdu s;
          sound = hears_ok h.rx r d.view (Complete x sdu) inv.sound (small x hears.0) hears;
          sdus = inv.sdus;
          pdus = inv.pdus;
          confirms = stays_confirms h.tx h.rx r (completes_stays h.rx r x d.view sdu s) inv.confirms;
          completed = completes_completions h.rx r x d.view h.given inv.rx (below x hears.0) (piece x hears.0) open_before sdu s h.completed inv.completed;
          statuses = stays_statuses h.rx r h.given h.statuses s.size (completes_stays h.rx r x d.view sdu s) inv.statuses;
        }

  -- the transmitter changes but for what was given
  keeps_inv : (t : Tx) → Keeps h.tx t → Confirms t h.rx → Invariant (record h { tx = t })
  keeps_inv t keeps confirms = record {
    size = inv.size ∙ sym keeps.size;
    tx = keeps_tx h.tx t h.given keeps inv.tx;
    rx = inv.rx;
    sound = inv.sound;
    sdus = inv.sdus;
    pdus = subst (λ (z : SnSize). PdusFit z h.given h.pdus) (sym keeps.size) inv.pdus;
    confirms = confirms;
    completed = inv.completed;
    statuses = inv.statuses;
  }

  module _ (t : StatusMade) (x : Tx) (among : Contains h.statuses t) (fresh : IsFresh h.tx.size true t.ack (tx_next_ack h.tx)) where
    acknowledged : (answer : StatusHeard) → HearsStatus h.tx t.status answer x → Invariant (record h { tx = x })
    acknowledged (Beyond sn sent) hears = subst (λ (x : Tx). Invariant (record h { tx = x })) (sym hears.3) inv
    acknowledged (Old a next) hears = subst (λ (x : Tx). Invariant (record h { tx = x })) (sym hears.4) inv
    acknowledged (Acked tags marks) hears =
        let same : t.ack ≡ hears.a = near_one h.tx.size t.status.ack (tx_next_ack h.tx + 1) t.ack hears.a (own_ack h inv t among fresh) hears.ack in
        keeps_inv x (acks_keeps h.tx x t.status tags marks hears) (acks_confirms h.tx x t.status tags marks hears h.rx
        (λ n says. (inv.statuses t among).received n (subst (λ (a : ℕ). SaysReceived h.rx.size a t.status n) (sym same) (subst (λ (z : SnSize). SaysReceived z hears.a t.status n) (sym inv.size) says)))
        inv.confirms)

  -- giving keeps the invariant
  given_more : {tag : Tag} {sdu : List ℕ} (number : ℕ) (t : Tx) → 0 < length sdu → length sdu ≤ 9005 → Gives h.tx tag sdu number t → Invariant (record h { tx = t; given = h.given ++ sdu ∷ [] })
  given_more {tag} {sdu} number t some small g = subst (λ (t : Tx). Invariant (record h { tx = t; given = h.given ++ sdu ∷ [] })) (sym g.is) (record {
    size = inv.size;
    tx = gives_tx h.tx h.given tag sdu g.has_room inv.tx;
    rx = gives_rx h.tx h.given tag sdu g.has_room inv.tx h.rx inv.rx;
    sound = inv.sound;
    sdus = gives_sdus h.tx h.given tag sdu g.has_room inv.tx (some, small) inv.sdus;
    pdus = gives_pdus h.tx h.given tag sdu g.has_room inv.tx h.tx.size h.pdus inv.pdus;
    confirms = gives_confirms h.tx h.given tag sdu g.has_room inv.tx h.rx inv.confirms;
    completed = gives_completions h.tx h.given tag sdu g.has_room inv.tx h.rx inv.rx h.completed inv.completed;
    statuses = gives_statuses h.tx h.given tag sdu g.has_room inv.tx h.rx h.statuses inv.statuses;
  })

  -- sending a data PDU keeps it
  sent_more : {n : ℕ} (m : ℕ) (v : Amd) (t : Tx) → Sends h.tx n m v t → Invariant (record h { tx = t; pdus = record { number = m; view = v } ∷ h.pdus })
  sent_more {n} m v t s = record {
    size = inv.size ∙ sym s.same.size;
    tx = sends_tx h.tx t n m v h.given inv.tx s;
    rx = inv.rx;
    sound = inv.sound;
    sdus = inv.sdus;
    pdus = sends_pdus h.tx t n m v h.given inv.tx s (λ k lt. (inv.sdus k lt).1) h.pdus inv.pdus;
    confirms = sends_confirms h.tx t n m v h.given inv.tx s h.rx inv.confirms;
    completed = inv.completed;
    statuses = inv.statuses;
  }

  -- a STATUS that is made has an ACK up to RX_Highest_Status
  pub at_most : (n : ℕ) (r : Rx) (a : ℕ) (s : Status) → WritesStatus h.rx n a s r → a ≤ h.rx.rx_highest_status
  at_most n r a s m = (written_status_is_true h.rx inv.sound n a s r m).4

  -- it speaks truly
  pub status_holds : (n : ℕ) (r : Rx) (a : ℕ) (s : Status) → WritesStatus h.rx n a s r → StatusHolds h.rx h.given (record { ack = a; status = s })
  status_holds n r a s m =
      let true_s = written_status_is_true h.rx inv.sound n a s r m in
      let given_a : a ≤ length h.given = omega (arith, at_most n r a s m, inv.sound.limit, inv.rx.long) in
      record {
        ack = given_a;
        sn = m.ack;
        fits = true_s.1;
        named = elements_named h.rx h.given a inv.rx inv.sdus given_a s.nacks (written h.rx inv.sound n a s r m);
        received = λ k says. (true_s.0).complete k says.0 says.1;
      }

  -- making a STATUS keeps the invariant
  reported : {n : ℕ} (a : ℕ) (s : Status) (r : Rx) → WritesStatus h.rx n a s r → Invariant (record h { rx = r; statuses = record { ack = a; status = s } ∷ h.statuses })
  reported {n} a s r m =
      let rest = keeps_entries r h.rx.rx_highest_status h.rx.rx_next_status_trigger false h.rx.delayed_polls true m.after inv.sound.highest_status inv.sound.limit inv.sound.trigger in
      let size : r.size ≡ h.rx.size = ap (λ (r : Rx). r.size) m.after in
      let this = status_holds n r a s m in
      record {
        size = rest.size;
        tx = rest.tx;
        rx = rest.rx;
        sound = rest.sound;
        sdus = rest.sdus;
        pdus = rest.pdus;
        confirms = rest.confirms;
        completed = rest.completed;
        statuses = λ t among. elim (contains_cases (record { ack = a; status = s }) h.statuses t among) [
          | inl e ↦ subst (StatusHolds r h.given) (sym e) (record {
            ack = this.ack;
            sn = this.sn ∙ ap (λ (z : SnSize). a % modulus z) (sym size);
            fits = subst (λ (z : SnSize). StatusFits z s) (sym size) this.fits;
            named = subst (λ (z : SnSize). Each (NamesGiven z h.given a) s.nacks) (sym size) this.named;
            received = λ k says. ap (λ (r : Rx). got r k) m.after ∙ this.received k (subst (λ (z : SnSize). SaysReceived z a s k) size says);
          })
          | inr e ↦ rest.statuses t e
        ];
      }

  -- the expiry of t-Reassembly keeps it
  expired : (r : Rx) → ExpiresReassembly h.rx r → Invariant (record h { rx = r })
  expired r x = keeps_entries r r.rx_highest_status r.rx_next_status_trigger true r.delayed_polls h.rx.status_prohibit_runs x.is x.highest_status.has
      (first_within h.rx x.trigger r.rx_highest_status (inv.sound.trigger x.trigger x.runs) x.highest_status)
      (λ t is. elim x.reassembly [
        | inl e ↦ omega (arith, same_Some t (rx_next_highest h.rx) (sym is ∙ e.1))
        | inr e ↦ absurd (none-some t (sym e.1 ∙ is))
      ])

-- the invariant doesn't speak of what was delivered
pub reheard : (h : Hop) (heard : List Data) → Invariant h → Invariant (record h { heard = heard })
reheard h heard inv = record { size = inv.size; tx = inv.tx; rx = inv.rx; sound = inv.sound; sdus = inv.sdus; pdus = inv.pdus; confirms = inv.confirms; completed = inv.completed; statuses = inv.statuses }

-- each event keeps it
pub keeps_each : (old : Hop) (e : Event) (new : Hop) → Invariant old → Happens old e new → Invariant new
keeps_each old e new inv (gives number t some small g) = given_more old inv number t some small g
keeps_each old e new inv (sends m v t s) = sent_more old inv m v t s
keeps_each old e new inv (makes_status a s r m) = reported old inv a s r m
keeps_each old e new inv (delivers {d = d} answer r among fresh hears) = reheard (record old { rx = r; completed = completed_after answer old.completed }) (d ∷ old.heard) (delivered old inv d r among fresh answer hears)
keeps_each old e new inv (acknowledges {t = t} answer x among fresh hears) = acknowledged old inv t x among fresh answer hears
keeps_each old e new inv (expires_poll marks t x) = keeps_inv old inv t (expires_keeps old.tx marks t x) (expires_confirms old.tx marks t x old.rx inv.confirms)
keeps_each old e new inv (expires_reassembly r x) = expired old inv r x
keeps_each old e new inv (expires_prohibit r x) = keeps_entries old inv r old.rx.rx_highest_status old.rx.rx_next_status_trigger old.rx.status_triggered old.rx.delayed_polls false x.is inv.sound.highest_status inv.sound.limit inv.sound.trigger

-- it holds at the start
starts : (s : SnSize) (poll_pdu poll_byte max_retx_threshold : ℕ) → Invariant (start s poll_pdu poll_byte max_retx_threshold)
starts s poll_pdu poll_byte max_retx_threshold = record {
  size = refl;
  tx = record {
    long = refl;
    sdu = λ n k is. absurd (none-some k is);
    sent = λ n k is. absurd (none-some k is);
    within = λ n k is. absurd (none-some k is);
  };
  rx = record {
    long = omega arith;
    held = λ n p b is. absurd (none-some b is);
    len = λ n l is. absurd (none-some l is);
    ends = λ n p h last. absurd (h refl);
  };
  sound = starts_sound s;
  sdus = λ n lt. absurd (omega arith);
  pdus = λ d among. absurd (contains_nil d among);
  confirms = λ n lt is. absurd (omega arith);
  completed = record { each = λ u among. absurd (contains_nil u among); all = λ n is. absurd (part_not_done [] None is); once = λ i j d lt below. absurd (omega arith) };
  statuses = λ t among. absurd (contains_nil t among);
}

-- it holds after every run
pub reaches_inv : (h : Hop) → Reaches h → Invariant h
reaches_inv h r = everywhere Invariant starts (λ old e new reached inv x. keeps_each old e new inv x) h r
