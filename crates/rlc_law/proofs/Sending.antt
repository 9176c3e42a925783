-- What was heard was sent, so no STATUS is beyond.
use Rattle.std.proofs.Common.{◌≡◌, ◌≢◌, ◌⊎◌, inl, inr, ℕ, ◌+◌, ◌-◌, ◌<◌, ◌≤◌, max, true, false, List, [], ◌∷◌, ◌++◌, length, get_or, drop, length-take, Option, Some, None, refl, sym, ◌∙◌, ap, subst, arith, lt-ltb}
use Rattle.std.proofs.lemmas.Bool.{cases_lt, cases_eq, false≢true, ltb-true}
use Rattle.std.proofs.lemmas.Option.{none-some, same_Some}
use Rattle.std.proofs.lemmas.List.{get_or_append_left, length_push}
use Rattle.link_base.specs.declared.names.SnSize.{SnSize}
use Rattle.link_base.specs.SequenceNumbers.{Near}
use Rattle.rlc_status.specs.Says.{count, Some_has, SaysReceived}
use Rattle.rlc_pdu.specs.Amd.{Amd}
use Rattle.rlc_status.specs.declared.status.Nack.{Nack}
use Rattle.rlc_status.specs.declared.status.Status.{Status}
use Rattle.rlc_model.specs.Pdu.{end_of, byte_at}
use Rattle.rlc_model.specs.Heard.{Data}
use Rattle.rlc_model.specs.Tx.{Tx, Kept, kept_at, tx_next, tx_next_ack, is_unsent, is_sent, IsSent, Gives, Sends}
use Rattle.rlc_model.specs.Retransmission.{HearsStatus, IsBeyondAt, IsBeyond, no_number, beyond_at, above, below_zero, past_ack, begins_past, ends_past, not_sent}
use Rattle.rlc_model.specs.declared.transmitter.StatusHeard.TheVariants.{Acked, Old, Beyond}
use Rattle.rlc_model.specs.declared.transmitter.StatusHeard.{StatusHeard}
use Rattle.rlc_model.specs.Rx.{Rx, Got, Done, Part, got, held_at, rx_next_highest, rx_next, Places, PollsAtOnce, Hears, Stores, Completes}
use Rattle.rlc_model.specs.declared.receiver.Heard.{Heard}
use Rattle.rlc_model.specs.declared.receiver.Heard.TheVariants.{Stored, Complete, Repeat, Outside, Conflict}
use Rattle.rlc_model.specs.Made.{WritesStatus}
use Rattle.rlc_model.specs.Air.{IsFresh}
use Rattle.rlc_law.specs.Hop.{Hop, StatusMade, Completion, Event, Happens, gives, sends, makes_status, delivers, acknowledges, expires_poll, expires_reassembly, expires_prohibit, Reaches, start, completed_after}
use Rattle.std.specs.List.{Contains}
use Rattle.rlc_law.specs.Laws.{NoneBeyond}
use Rattle.rlc_law.proofs.Base.{near_one, past_highest, part_not_done, done_below, kept_below}
use Rattle.rlc_law.proofs.Elements.{Each}
use Rattle.rlc_law.proofs.Truth.{greatest_one}
use Rattle.rlc_law.proofs.Invariant.{at, NamesGiven, Invariant}
use Rattle.rlc_law.proofs.Pieces.{sends_some}
use Rattle.rlc_law.proofs.Grant.{next_was}
use Rattle.rlc_law.proofs.Bytes.{first_cases, byte_below, held_some}
use Rattle.rlc_law.proofs.Acknowledge.{Keeps, acks_keeps, expires_keeps}
use Rattle.rlc_law.proofs.Inductive.{own_number, own_ack, at_most, reaches_inv, reheard}
use Rattle.rlc_law.proofs.Runs.{reaches_more, everywhere}
use Rattle.rlc_law.proofs.Lists.{contains_nil, contains_here, contains_cases}
use Rattle.link_base.specs.declared.rlc_words.Tag.{Tag}

-- a place of the number below a was sent, or a is 0
abbrev pub SentUpTo : Tx → ℕ → Type 0
SentUpTo t a = (a ≡ 0) ⊎ ((m : ℕ) × IsSent t m × (a ≤ m + 1))

-- more is sent, and no SDU changes
pub record Grows (old new : Tx) : Type 0 where
  pub sent : (n : ℕ) → IsSent old n → IsSent new n
  pub more : (n : ℕ) (k' : Kept) → kept_at new n ≡ Some k' → n < tx_next old → (k : Kept) × (kept_at old n ≡ Some k) × (length k.flags ≤ length k'.flags) × (k'.sdu ≡ k.sdu)

-- that stays where more is sent
up_to : (old new : Tx) → Grows old new → (a : ℕ) → SentUpTo old a → SentUpTo new a
up_to old new grows a (inl e) = inl e
up_to old new grows a (inr s) = inr (s.0, grows.sent s.0 s.1, s.2)

-- and holds of smaller numbers
lower : (t : Tx) (a b : ℕ) → a ≤ b → SentUpTo t b → SentUpTo t a
lower t a b le (inl e) = inl (omega arith)
lower t a b le (inr s) = inr (s.0, s.1, omega (arith, s.2))

-- a change that keeps the SDUs is such
pub grows_keeps : (old new : Tx) → Keeps old new → Grows old new
grows_keeps old new keeps = record {
  sent = λ n s. (omega (arith, keeps.long, s.0), go n s (kept_at new n) refl);
  more = λ n k' is lt. let was = keeps.from n k' is in (was.0, was.1, omega (arith, was.3), was.2);
}
  where
    go : (n : ℕ) → IsSent old n → (o : Option Kept) → kept_at new n ≡ o → is_sent (kept_at new n) ≡ true
    go n s None e = ap is_sent e
    go n s (Some k') e =
        let was = keeps.from n k' e in
        let some : 0 < length (was.0).flags = ltb-true 0 (length (was.0).flags) (sym (ap is_sent was.1) ∙ s.1) in
        ap is_sent e ∙ lt-ltb 0 (length k'.flags) (omega (arith, was.3))

-- giving is
pub grows_gives : (old new : Tx) (tag : Tag) (sdu : List ℕ) (number : ℕ) → Gives old tag sdu number new → Grows old new
grows_gives old new tag sdu number g = record {
  sent = λ n s. (omega (arith, s.0, ap (λ (t : Tx). tx_next t) g.is, length_push old.kept fresh), ap is_sent (same n s.0) ∙ s.1);
  more = λ n k' is lt. (k', sym (same n lt) ∙ is, omega arith, refl);
}
  where
    fresh : Option Kept
    fresh = Some (record { tag = tag; sdu = sdu; flags = []; retx_count = None })

    same : (n : ℕ) → n < tx_next old → kept_at new n ≡ kept_at old n
    same n lt = ap (λ (t : Tx). kept_at t n) g.is ∙ get_or_append_left old.kept (Some (record { tag = tag; sdu = sdu; flags = []; retx_count = None }) ∷ []) None n lt

-- sending is
pub grows_sends : (old new : Tx) (n m : ℕ) (v : Amd) → Sends old n m v new → Grows old new
grows_sends old new n m v s = record {
  sent = λ j is. (
    omega (arith, is.0, s.long),
    elim (cases_eq j m) [
      | inl e ↦ ap is_sent (ap (kept_at new) e ∙ s.this) ∙ lt-ltb 0 (length s.flags) (omega (arith, s.clears.long, sends_some old n m v new s))
      | inr ne ↦ ap is_sent (s.others j ne) ∙ is.1
    ],
  );
  more = λ j k' is lt. elim (cases_eq j m) [
    | inl e ↦
        let same : record s.kept { flags = s.flags } ≡ k' = same_Some (record s.kept { flags = s.flags }) k' (sym s.this ∙ ap (kept_at new) (sym e) ∙ is) in
        (s.kept, ap (kept_at old) e ∙ next_was old m s.kept s.a s.b s.next, omega (arith, s.clears.long, ap (λ (k : Kept). length k.flags) same), sym (ap (λ (k : Kept). k.sdu) same))
    | inr ne ↦ (k', sym (s.others j ne) ∙ is, omega arith, refl)
  ];
}

-- the byte at the place p of number n was sent
abbrev pub Covered : Tx → ℕ → ℕ → Type 0
Covered t n p = (k : Kept) → kept_at t n ≡ Some k → p < length k.flags

pub record SentFits (h : Hop) : Type 0 where
  pub pdus : (d : Data) → Contains h.pdus d → IsSent h.tx d.number × ((k : Kept) → kept_at h.tx d.number ≡ Some k → end_of d.view ≤ length k.flags)
  pub held : (n p : ℕ) → held_at (got h.rx n) p ≢ None → Covered h.tx n p
  pub done : (n : ℕ) → got h.rx n ≡ Done → (k : Kept) → kept_at h.tx n ≡ Some k → length k.sdu ≤ length k.flags
  pub high : SentUpTo h.tx (rx_next_highest h.rx)
  pub statuses : (t : StatusMade) → Contains h.statuses t → SentUpTo h.tx t.ack

-- what is held is of a number below RX_Next_Highest
held_below : (r : Rx) (n p : ℕ) → held_at (got r n) p ≢ None → n < rx_next_highest r
held_below r n p h = elim (cases_lt n (rx_next_highest r)) [
  | inl lt ↦ lt
  | inr le ↦ absurd (h (ap (λ (g : Got). held_at g p) (past_highest r n le)))
]

module _ (h : Hop) (inv : Invariant h) (fits : SentFits h) where
  -- more that is sent keeps it
  grows_tx : (t : Tx) → Grows h.tx t → (given : List (List ℕ)) → SentFits (record h { tx = t; given = given })
  grows_tx t grows given = record {
    pdus = λ d among. let was = fits.pdus d among in (grows.sent d.number was.0, λ k is. let k' = grows.more d.number k is (was.0).0 in omega (arith, k'.2, was.1 k'.0 k'.1));
    held = λ n p held k is. let k' = grows.more n k is (omega (arith, held_below h.rx n p held, inv.rx.long, inv.tx.long)) in omega (arith, k'.2, fits.held n p held k'.0 k'.1);
    done = λ n done k is. let k' = grows.more n k is (omega (arith, done_below h.rx n done, inv.rx.long, inv.tx.long)) in omega (arith, k'.2, fits.done n done k'.0 k'.1, ap (λ (l : List ℕ). length l) k'.3);
    high = up_to h.tx t grows (rx_next_highest h.rx) fits.high;
    statuses = λ x among. up_to h.tx t grows x.ack (fits.statuses x among);
  }

  -- sending a data PDU keeps it
  sends_fits : (n : ℕ) (t : Tx) (m : ℕ) (v : Amd) → Sends h.tx n m v t → SentFits (record h { tx = t; pdus = record { number = m; view = v } ∷ h.pdus })
  sends_fits n t m v s =
      let more = grows_tx t (grows_sends h.tx t n m v s) h.given in
      record {
        pdus = λ d among. elim (contains_cases (record { number = m; view = v }) h.pdus d among) [
          | inl e ↦ subst (λ (d : Data). IsSent t d.number × ((k : Kept) → kept_at t d.number ≡ Some k → end_of d.view ≤ length k.flags)) (sym e) this
          | inr e ↦ more.pdus d e
        ];
        held = more.held;
        done = more.done;
        high = more.high;
        statuses = more.statuses;
      }
    where
      some : 0 < length s.flags
      some = omega (arith, s.clears.long, sends_some h.tx n m v t s)

      this : IsSent t m × ((k : Kept) → kept_at t m ≡ Some k → end_of v ≤ length k.flags)
      this = (
        (kept_below t m (record s.kept { flags = s.flags }) s.this, ap is_sent s.this ∙ lt-ltb 0 (length s.flags) some),
        λ k is.
            omega (arith, ap end_of s.view, length-take (s.e - s.a) (drop s.a s.kept.sdu), s.clears.long, sends_some h.tx n m v t s, ap (λ (k : Kept). length k.flags) (same_Some (record s.kept { flags = s.flags }) k (sym s.this ∙ is))),
      )

  -- a change of other variables of the receiver keeps it
  same_rx : (r : Rx) → r.received ≡ (h.rx).received → (statuses : List StatusMade) → ((t : StatusMade) → Contains statuses t → SentUpTo h.tx t.ack) → SentFits (record h { rx = r; statuses = statuses })
  same_rx r same statuses each = record {
    pdus = fits.pdus;
    held = λ n p held. fits.held n p (λ none. held (ap (λ (g : Got). held_at g p) (ap (λ (l : List Got). get_or l n (Part [] None)) same) ∙ none));
    done = λ n done. fits.done n (sym (ap (λ (l : List Got). get_or l n (Part [] None)) same) ∙ done);
    high = subst (SentUpTo h.tx) (sym (ap (λ (l : List Got). length l) same)) fits.high;
    statuses = each;
  }

  module _ (d : Data) (r : Rx) (among : Contains h.pdus d) (fresh : IsFresh h.rx.size false d.number (rx_next h.rx)) (x : ℕ) (near : Near h.rx.size d.view.sn (rx_next h.rx) x) where
    own : x ≡ d.number
    own = near_one h.rx.size d.view.sn (rx_next h.rx) x d.number near (own_number h inv d among fresh)

    -- a place that is held after the PDU was sent
    placed_sent : (held : List (Option ℕ)) (len : Option ℕ) → Places (got h.rx x) d.view held len → (p : ℕ) → get_or held p None ≢ None → Covered h.tx x p
    placed_sent held len places p some k is =
        let b = held_some (get_or held p None) some in
        elim (first_cases (held_at (got h.rx x) p) (byte_at d.view p) b.0 (sym (places.bytes p) ∙ b.1)) [
          | inl e ↦ fits.held x p (λ none. none-some b.0 (sym none ∙ e)) k is
          | inr e ↦ omega (arith, byte_below d.view p b.0 e, (fits.pdus d among).1 k (ap (kept_at h.tx) (sym own) ∙ is))
        ]

    high_after : rx_next_highest r ≡ max (rx_next_highest h.rx) (x + 1) → SentUpTo h.tx (rx_next_highest r)
    high_after long = elim (cases_lt (rx_next_highest h.rx) (x + 1)) [
      | inl lt ↦ inr (x, subst (IsSent h.tx) (sym own) (fits.pdus d among).0, omega (arith, long))
      | inr le ↦ lower h.tx (rx_next_highest r) (rx_next_highest h.rx) (omega (arith, long)) fits.high
    ]

    stores_fits : Stores h.rx x d.view r → SentFits (record h { rx = r })
    stores_fits s = record {
      pdus = fits.pdus;
      held = λ n p held k is. elim (cases_eq n x) [
        | inl e ↦ placed_sent s.held s.len s.places p (λ none. held (ap (λ (g : Got). held_at g p) (ap (got r) e ∙ s.enters.this) ∙ none)) k (ap (kept_at h.tx) (sym e) ∙ is)
        | inr ne ↦ fits.held n p (λ none. held (ap (λ (g : Got). held_at g p) (s.enters.others n ne) ∙ none)) k is
      ];
      done = λ n done. elim (cases_eq n x) [
        | inl e ↦ absurd (part_not_done s.held s.len (sym s.enters.this ∙ ap (got r) (sym e) ∙ done))
        | inr ne ↦ fits.done n (sym (s.enters.others n ne) ∙ done)
      ];
      high = high_after s.enters.long;
      statuses = fits.statuses;
    }

    completes_fits : (sdu : List ℕ) → sdu ≡ at h.given x → (completed : List Completion) → Completes h.rx x d.view sdu r → SentFits (record h { rx = r; completed = completed })
    completes_fits sdu same completed s = record {
      pdus = fits.pdus;
      held = λ n p held k is. elim (cases_eq n x) [
        | inl e ↦ absurd (held (ap (λ (g : Got). held_at g p) (ap (got r) e ∙ s.enters.this)))
        | inr ne ↦ fits.held n p (λ none. held (ap (λ (g : Got). held_at g p) (s.enters.others n ne) ∙ none)) k is
      ];
      done = λ n done k is. elim (cases_eq n x) [
        | inl e ↦ all_sent n e k is
        | inr ne ↦ fits.done n (sym (s.enters.others n ne) ∙ done) k is
      ];
      high = high_after s.enters.long;
      statuses = fits.statuses;
    }
      where
        all_sent : (n : ℕ) → n ≡ x → (k : Kept) → kept_at h.tx n ≡ Some k → length k.sdu ≤ length k.flags
        all_sent n e k is =
            let k_is : kept_at h.tx x ≡ Some k = ap (kept_at h.tx) (sym e) ∙ is in
            let long : length k.sdu ≡ length sdu = ap (λ (l : List ℕ). length l) (inv.tx.sdu x k k_is ∙ sym same) in
            elim (cases_eq (length sdu) 0) [
              | inl none ↦ omega (arith, long)
              | inr some ↦
                  let at_end = placed_sent s.held s.len s.places (length sdu - 1) (λ none. none-some (get_or sdu (length sdu - 1) 0) (sym none ∙ s.covers.bytes (length sdu - 1) (omega arith))) k k_is in
                  omega (arith, at_end, long)
            ]

  -- hearing a data PDU keeps it
  delivers_fits : (d : Data) (r : Rx) → Contains h.pdus d → IsFresh h.rx.size false d.number (rx_next h.rx) → (answer : Heard) → Hears h.rx d.view answer r → Invariant (record h { rx = r; completed = completed_after answer h.completed }) → SentFits (record h { rx = r; completed = completed_after answer h.completed })
  delivers_fits d r among fresh Outside hears next = polls (hears.1)
    where
      polls : PollsAtOnce h.rx d.view r → SentFits (record h { rx = r; completed = h.completed })
      polls is = same_rx r (ap (λ (r : Rx). r.received) is) h.statuses fits.statuses
  delivers_fits d r among fresh Repeat hears next = same_rx r (ap (λ (r : Rx). r.received) hears.3) h.statuses fits.statuses
  delivers_fits d r among fresh Conflict hears next = same_rx r (ap (λ (r : Rx). r.received) hears.4) h.statuses fits.statuses
  delivers_fits d r among fresh Stored hears next = stores_fits d r among fresh hears.0 hears.1 hears.4
  delivers_fits d r among fresh (Complete x sdu) hears next =
      completes_fits d r among fresh x hears.0 sdu (next.completed.each (record { number = x; sdu = sdu }) (contains_here (record { number = x; sdu = sdu }) h.completed)).1 (record { number = x; sdu = sdu } ∷ h.completed) hears.3

-- it doesn't speak of what was delivered
reheard_sent : (h : Hop) (heard : List Data) → SentFits h → SentFits (record h { heard = heard })
reheard_sent h heard fits = record { pdus = fits.pdus; held = fits.held; done = fits.done; high = fits.high; statuses = fits.statuses }

-- each event keeps it
sent_each : (old : Hop) (e : Event) (new : Hop) → Reaches old → SentFits old → Happens old e new → SentFits new
sent_each old e new reached fits x = go x (reaches_inv new (reaches_more old e new reached x))
  where
    inv : Invariant old
    inv = reaches_inv old reached

    grown : (t : Tx) → Keeps old.tx t → SentFits (record old { tx = t })
    grown t keeps = grows_tx old inv fits t (grows_keeps old.tx t keeps) old.given

    heard : (t : StatusMade) (answer : StatusHeard) (x : Tx) → HearsStatus old.tx t.status answer x → SentFits (record old { tx = x })
    heard t (Acked tags marks) x hears = grown x (acks_keeps old.tx x t.status tags marks hears)
    heard t (Old a next) x hears = subst (λ (t : Tx). SentFits (record old { tx = t })) (sym hears.4) fits
    heard t (Beyond sn sent) x hears = subst (λ (t : Tx). SentFits (record old { tx = t })) (sym hears.3) fits

    reported : {n : ℕ} (a : ℕ) (s : Status) (r : Rx) → WritesStatus old.rx n a s r → (t : StatusMade) → Contains (record { ack = a; status = s } ∷ old.statuses) t → SentUpTo old.tx t.ack
    reported {n} a s r m t among = elim (contains_cases (record { ack = a; status = s }) old.statuses t among) [
      | inl e ↦ subst (λ (t : StatusMade). SentUpTo old.tx t.ack) (sym e) (lower old.tx a (rx_next_highest old.rx) (omega (arith, at_most old inv n r a s m, inv.sound.limit)) fits.high)
      | inr e ↦ fits.statuses t e
    ]

    go : {e : Event} {new : Hop} → Happens old e new → Invariant new → SentFits new
    go (gives {tag = tag} {sdu = sdu} number t some small g) next = grows_tx old inv fits t (grows_gives old.tx t tag sdu number g) (old.given ++ sdu ∷ [])
    go (sends {n = n} m v t s) next = sends_fits old inv fits n t m v s
    go (makes_status a s r m) next = same_rx old inv fits r (ap (λ (r : Rx). r.received) m.after) (record { ack = a; status = s } ∷ old.statuses) (reported a s r m)
    go (delivers {d = d} answer r among fresh hears) next =
        reheard_sent (record old { rx = r; completed = completed_after answer old.completed }) (d ∷ old.heard)
        (delivers_fits old inv fits d r among fresh answer hears (reheard (record old { rx = r; completed = completed_after answer old.completed; heard = d ∷ old.heard }) old.heard next))
    go (acknowledges {t = t} answer x among fresh hears) next = heard t answer x hears
    go (expires_poll marks t x) next = grown t (expires_keeps old.tx marks t x)
    go (expires_reassembly r x) next = same_rx old inv fits r (ap (λ (r : Rx). r.received) x.is) old.statuses fits.statuses
    go (expires_prohibit r x) next = same_rx old inv fits r (ap (λ (r : Rx). r.received) x.is) old.statuses fits.statuses

-- at the start nothing is heard
starts_sent : (s : SnSize) (poll_pdu poll_byte max_retx_threshold : ℕ) → SentFits (start s poll_pdu poll_byte max_retx_threshold)
starts_sent s poll_pdu poll_byte max_retx_threshold = record {
  pdus = λ d among. absurd (contains_nil d among);
  held = λ n p held k is. absurd (none-some k is);
  done = λ n done k is. absurd (none-some k is);
  high = inl refl;
  statuses = λ t among. absurd (contains_nil t among);
}

-- it holds after every run
pub reaches_sent : (h : Hop) → Reaches h → SentFits h
reaches_sent = everywhere SentFits starts_sent sent_each

-- an element that has Q, where each has P
both : (P Q : Nack → Type 0) (es : List Nack) → Each P es → Some_has Q es → (e : Nack) × P e × Q e
both P Q [] each some = absurd some
both P Q (e ∷ es) each (inl h) = (e, each.0, h)
both P Q (e ∷ es) each (inr h) = both P Q es each.1 h

-- an SDU with unsent bytes is there
kept_of : (o : Option Kept) → is_unsent o ≡ true → (k : Kept) × (o ≡ Some k) × (length k.flags < length k.sdu)
kept_of None e = absurd (false≢true e)
kept_of (Some k) e = (k, refl, ltb-true (length k.flags) (length k.sdu) e)

pub none_beyond : NoneBeyond
none_beyond h run t among fresh beyond = go beyond
  where
    inv : Invariant h
    inv = reaches_inv h run

    fits : SentFits h
    fits = reaches_sent h run

    near : Near h.tx.size t.status.ack (tx_next_ack h.tx + 1) t.ack
    near = own_ack h (reaches_inv h run) t among fresh

    -- what the elements name was given
    named : (a : ℕ) → a ≡ t.ack → Each (NamesGiven h.tx.size h.given a) t.status.nacks
    named a e = subst (λ (a : ℕ). Each (NamesGiven h.tx.size h.given a) t.status.nacks) (sym e) (subst (λ (z : SnSize). Each (NamesGiven z h.given t.ack) t.status.nacks) inv.size (inv.statuses t among).named)

    sdu_of : (m : ℕ) (k : Kept) → kept_at h.tx m ≡ Some k → length k.sdu ≡ length (at h.given m)
    sdu_of m k is = ap (λ (l : List ℕ). length l) (inv.tx.sdu m k is)

    at_ack : (a : ℕ) → a ≡ t.ack → IsBeyondAt h.tx t.status a → ⊥
    at_ack a own (above c counts lt) = elim (fits.statuses t among) [
      | inl e ↦ omega (arith, own)
      | inr s ↦ omega (arith, own, counts.above s.0 s.1, s.2)
    ]
    at_ack a own (below_zero some) = let b = both _ _ t.status.nacks (named a own) some in b.2 (b.1.first) (b.1.is)
    at_ack a own (past_ack some) =
        let b = both _ _ t.status.nacks (named a own) some in
        omega (arith, b.2.2, b.1.inside, greatest_one h.tx.size a (b.0).sn b.2.0 b.1.first b.2.1 b.1.is)
    at_ack a own (begins_past some) =
        let b = both _ _ t.status.nacks (named a own) some in
        let p = b.2 in
        let same : p.number ≡ b.1.first = greatest_one h.tx.size a (b.0).sn p.number b.1.first p.is b.1.is in
        omega (arith, p.past, (b.1.part p.start p.end p.part).1, sdu_of p.number p.unconfirmed p.kept, ap (λ (m : ℕ). length (at h.given m)) same)
    at_ack a own (ends_past some) =
        let b = both _ _ t.status.nacks (named a own) some in
        let p = b.2 in
        let same : p.number ≡ b.1.first = greatest_one h.tx.size a (b.0).sn p.number b.1.first p.is b.1.is in
        let part = b.1.part p.start p.end p.part in
        let number : p.number + count b.0 - 1 ≡ b.1.first = omega (arith, part.0, same) in
        elim part.2 [
          | inl all_places ↦ p.explicit all_places
          | inr within ↦ omega (arith, p.past, within, sdu_of (p.number + count b.0 - 1) p.unconfirmed p.kept, ap (λ (m : ℕ). length (at h.given m)) number)
        ]
    at_ack a own (not_sent n says unsent) =
        let k = kept_of (kept_at h.tx n) unsent in
        let done = (inv.statuses t among).received n (subst (λ (a : ℕ). SaysReceived h.rx.size a t.status n) own (subst (λ (z : SnSize). SaysReceived z a t.status n) (sym inv.size) says)) in
        omega (arith, fits.done n done k.0 k.1, k.2)

    go : IsBeyond h.tx t.status → ⊥
    go (no_number none) = none t.ack near
    go (beyond_at a other at_a) = at_ack a (near_one h.tx.size t.status.ack (tx_next_ack h.tx + 1) a t.ack other near) at_a
