-- Numbers are first sent in their order.
use Rattle.std.proofs.Common.{◌≡◌, ◌≢◌, inl, inr, ℕ, ◌+◌, ◌<◌, true, nat_lt, List, [], ◌∷◌, ◌++◌, length, Option, Some, None, refl, sym, ◌∙◌, ap, subst, arith, lt-ltb}
use Rattle.std.proofs.lemmas.Bool.{cases_eq, cases_Bool, false≢true, ltb-true, ltb-false}
use Rattle.std.proofs.lemmas.Option.{same_Some}
use Rattle.std.proofs.lemmas.List.{get_or_push, get_or_append_left, length_push}
use Rattle.std.specs.List.{Contains}
use Rattle.link_base.specs.declared.names.SnSize.{SnSize}
use Rattle.link_base.specs.declared.rlc_words.Tag.{Tag}
use Rattle.rlc_pdu.specs.Amd.{Amd}
use Rattle.rlc_model.specs.declared.transmitter.StatusHeard.{StatusHeard}
use Rattle.rlc_model.specs.declared.transmitter.StatusHeard.TheVariants.{Acked, Old, Beyond}
use Rattle.rlc_model.specs.Heard.{Data}
use Rattle.rlc_model.specs.Tx.{Tx, Kept, kept_at, tx_next, is_unsent, is_sent, IsSent, Gives, IsNext, pending, unsent, Sends}
use Rattle.rlc_model.specs.Retransmission.{HearsStatus}
use Rattle.rlc_law.specs.Hop.{Hop, StatusMade, Event, Happens, gives, sends, makes_status, delivers, acknowledges, expires_poll, expires_reassembly, expires_prohibit, Reaches, start}
use Rattle.rlc_law.specs.Laws.{SendsInOrder}
use Rattle.rlc_law.proofs.Lists.{contains_here, contains_later}
use Rattle.rlc_law.proofs.Runs.{reaches_more, everywhere}
use Rattle.rlc_law.proofs.Base.{kept_below}
use Rattle.rlc_law.proofs.Pieces.{flag_within}
use Rattle.rlc_law.proofs.Grant.{next_was}
use Rattle.rlc_law.proofs.Invariant.{at, Invariant}
use Rattle.rlc_law.proofs.Acknowledge.{Keeps, acks_keeps, expires_keeps}
use Rattle.rlc_law.proofs.Inductive.{reaches_inv}
use Rattle.rlc_law.proofs.Sending.{SentFits, grows_keeps, grows_gives, grows_sends, reaches_sent}

-- what is sent after a change that keeps the SDUs was sent before, or was sent and is confirmed
pub sent_kept : (old new : Tx) → Keeps old new → ((n : ℕ) (k : Kept) → kept_at old n ≡ Some k → kept_at new n ≡ None → 0 < length k.flags) → (n : ℕ) → IsSent new n → IsSent old n
sent_kept old new keeps only n sent = (omega (arith, keeps.long, sent.0), go (kept_at old n) refl (kept_at new n) refl)
  where
    some : (k : Kept) → 0 < length k.flags → is_sent (Some k) ≡ true
    some k lt = lt-ltb 0 (length k.flags) lt

    go : (o : Option Kept) → kept_at old n ≡ o → (p : Option Kept) → kept_at new n ≡ p → is_sent (kept_at old n) ≡ true
    go None e p f = ap is_sent e
    go (Some k) e None f = ap is_sent e ∙ some k (only n k e f)
    go (Some k) e (Some k') f =
        let was = keeps.from n k' f in
        let same : k ≡ was.0 = same_Some k was.0 (sym e ∙ was.1) in
        let some' : 0 < length k'.flags = ltb-true 0 (length k'.flags) (sym (ap is_sent f) ∙ sent.1) in
        ap is_sent e ∙ some k (omega (arith, was.3, ap (λ (k : Kept). length k.flags) same))

-- what is confirmed was sent
pub sent_before : (old : Hop) → Invariant old → SentFits old → (t : Tx) → Keeps old.tx t → Invariant (record old { tx = t }) → (n : ℕ) → IsSent t n → IsSent old.tx n
sent_before old inv fits t keeps next = sent_kept old.tx t keeps (λ n k was none.
    let below = kept_below old.tx n k was in
    let done = next.confirms n (omega (arith, below, keeps.long)) none in
    let some = (inv.sdus n (omega (arith, below, inv.tx.long))).0 in
    omega (arith, fits.done n done k was, some, ap (λ (l : List ℕ). length l) (inv.tx.sdu n k was)))

-- giving sends nothing
pub gives_sent : (old new : Tx) (tag : Tag) (sdu : List ℕ) (number : ℕ) → Gives old tag sdu number new → (n : ℕ) → IsSent new n → IsSent old n
gives_sent old new tag sdu number g n sent = elim (cases_eq n (tx_next old)) [
  | inl e ↦ absurd (false≢true (sym (ap is_sent (ap (λ (t : Tx). kept_at t n) g.is ∙ get_or_push old.kept (Some (record { tag = tag; sdu = sdu; flags = []; retx_count = None })) None n (sym e))) ∙ sent.1))
  | inr ne ↦
      let below : n < tx_next old = omega (arith, sent.0, ap (λ (t : Tx). tx_next t) g.is, length_push old.kept (Some (record { tag = tag; sdu = sdu; flags = []; retx_count = None }))) in
      (below, sym (ap is_sent (ap (λ (t : Tx). kept_at t n) g.is ∙ get_or_append_left old.kept (Some (record { tag = tag; sdu = sdu; flags = []; retx_count = None }) ∷ []) None n below)) ∙ sent.1)
]

-- sending from one number sends of no other
pub sends_sent : (old new : Tx) (n m : ℕ) (v : Amd) → Sends old n m v new → (j : ℕ) → j ≢ m → IsSent new j → IsSent old j
sends_sent old new n m v s j ne sent = (omega (arith, sent.0, s.long), sym (ap is_sent (s.others j ne)) ∙ sent.1)

-- each PDU of a number above 0 stands before one of the number below, the last first
abbrev pub InOrder : List Data → Type 0
InOrder [] = Unit {0}
InOrder (d ∷ ds) = ((n : ℕ) → d.number ≡ n + 1 → (e : Data) × Contains ds e × (e.number ≡ n)) × InOrder ds

-- the same of a list that is split at a PDU
at_split : (pdus later earlier : List Data) (d : Data) → pdus ≡ later ++ d ∷ earlier → InOrder pdus → (n : ℕ) → d.number ≡ n + 1 → (e : Data) × Contains earlier e × (e.number ≡ n)
at_split pdus [] earlier d is order = (subst InOrder is order).0
at_split pdus (y ∷ ys) earlier d is order = at_split (ys ++ d ∷ earlier) ys earlier d refl (subst InOrder is order).1

pub record Ordered (h : Hop) : Type 0 where
  pub closed : (n : ℕ) → IsSent h.tx (n + 1) → IsSent h.tx n
  pub made : (n : ℕ) → IsSent h.tx n → (d : Data) × Contains h.pdus d × (d.number ≡ n)
  pub order : InOrder h.pdus

-- a transmitter that has sent as much
same_order : (h : Hop) (t : Tx) (given : List (List ℕ)) → ((n : ℕ) → IsSent h.tx n → IsSent t n) → ((n : ℕ) → IsSent t n → IsSent h.tx n) → Ordered h → Ordered (record h { tx = t; given = given })
same_order h t given more no_more o = record {
  closed = λ n sent. more n (o.closed n (no_more (n + 1) sent));
  made = λ n sent. o.made n (no_more n sent);
  order = o.order;
}

module _ (h : Hop) (inv : Invariant h) (o : Ordered h) (n m : ℕ) (v : Amd) (t : Tx) (s : Sends h.tx n m v t) where
  -- the number below that of a PDU was sent
  below_sent : (j : ℕ) → m ≡ j + 1 → IsSent h.tx j
  below_sent j is = go s.next
    where
      below : m < tx_next h.tx
      below = kept_below h.tx m s.kept (next_was h.tx m s.kept s.a s.b s.next)

      whole : (o : Option Kept) → kept_at h.tx j ≡ o → is_unsent o ≢ true → is_sent o ≡ true
      whole None e h = refl
      whole (Some k) e not_unsent =
          let long : length k.sdu ≡ length (at h.given j) = ap (λ (l : List ℕ). length l) (inv.tx.sdu j k e) in
          let some = (inv.sdus j (omega (arith, below, is, inv.tx.long))).0 in
          elim (cases_Bool (nat_lt (length k.flags) (length k.sdu))) [
            | inl less ↦ absurd (not_unsent less)
            | inr fine ↦ lt-ltb 0 (length k.flags) (omega (arith, ltb-false (length k.flags) (length k.sdu) fine, long, some))
          ]

      go : IsNext h.tx m s.kept s.a s.b → IsSent h.tx j
      go (pending first was run) =
          let some : 0 < length (s.kept).flags = omega (arith, flag_within s.kept.flags s.a (run.run s.a (omega arith) run.some)) in
          o.closed j (subst (IsSent h.tx) is (below, ap is_sent was ∙ lt-ltb 0 (length (s.kept).flags) some))
      go (unsent none first was from to) = (omega (arith, below, is), whole (kept_at h.tx j) refl (λ yes_unsent. first.none j (omega arith) (omega (arith, is)) yes_unsent))

  -- sending a data PDU keeps the order
  sends_order : Ordered (record h { tx = t; pdus = record { number = m; view = v } ∷ h.pdus })
  sends_order = record {
    closed = λ j sent. elim (cases_eq (j + 1) m) [
      | inl e ↦ grown j (below_sent j (sym e))
      | inr ne ↦ grown j (o.closed j (sends_sent h.tx t n m v s (j + 1) ne sent))
    ];
    made = λ j sent. elim (cases_eq j m) [
      | inl e ↦ (record { number = m; view = v }, contains_here (record { number = m; view = v }) h.pdus, sym e)
      | inr ne ↦ let d = o.made j (sends_sent h.tx t n m v s j ne sent) in (d.0, contains_later (record { number = m; view = v }) h.pdus d.0 d.1, d.2)
    ];
    order = (λ j is. o.made j (below_sent j is), o.order);
  }
    where
      grown : (j : ℕ) → IsSent h.tx j → IsSent t j
      grown = (grows_sends h.tx t n m v s).sent

-- each event keeps it
ordered_each : (old : Hop) (e : Event) (new : Hop) → Reaches old → Ordered old → Happens old e new → Ordered new
ordered_each old e new reached o x = go x (reaches_inv new (reaches_more old e new reached x))
  where
    inv : Invariant old
    inv = reaches_inv old reached

    kept : (t : Tx) → Keeps old.tx t → Invariant (record old { tx = t }) → Ordered (record old { tx = t })
    kept t keeps next = same_order old t old.given (grows_keeps old.tx t keeps).sent (sent_before old inv (reaches_sent old reached) t keeps next) o

    heard : (t : StatusMade) (answer : StatusHeard) (x : Tx) → HearsStatus old.tx t.status answer x → Invariant (record old { tx = x }) → Ordered (record old { tx = x })
    heard t (Acked tags marks) x hears next = kept x (acks_keeps old.tx x t.status tags marks hears) next
    heard t (Old a ack_next) x hears next = subst (λ (t : Tx). Ordered (record old { tx = t })) (sym hears.4) o
    heard t (Beyond sn sent) x hears next = subst (λ (t : Tx). Ordered (record old { tx = t })) (sym hears.3) o

    go : {e : Event} {new : Hop} → Happens old e new → Invariant new → Ordered new
    go (gives {tag = tag} {sdu = sdu} number t some small g) next = same_order old t (old.given ++ sdu ∷ []) (grows_gives old.tx t tag sdu number g).sent (gives_sent old.tx t tag sdu number g) o
    go (sends {n = n} m v t s) next = sends_order old inv o n m v t s
    go (makes_status a s r m) next = record { closed = o.closed; made = o.made; order = o.order }
    go (delivers answer r among fresh hears) next = record { closed = o.closed; made = o.made; order = o.order }
    go (acknowledges {t = t} answer x among fresh hears) next = heard t answer x hears next
    go (expires_poll marks t x) next = kept t (expires_keeps old.tx marks t x) next
    go (expires_reassembly r x) next = record { closed = o.closed; made = o.made; order = o.order }
    go (expires_prohibit r x) next = record { closed = o.closed; made = o.made; order = o.order }

-- at the start nothing is sent
starts_ordered : (s : SnSize) (poll_pdu poll_byte max_retx_threshold : ℕ) → Ordered (start s poll_pdu poll_byte max_retx_threshold)
starts_ordered s poll_pdu poll_byte max_retx_threshold = record { closed = λ n sent. absurd (omega (arith, sent.0)); made = λ n sent. absurd (omega (arith, sent.0)); order = tt }

-- it holds after every run
pub reaches_ordered : (h : Hop) → Reaches h → Ordered h
reaches_ordered = everywhere Ordered starts_ordered ordered_each

pub sends_in_order : SendsInOrder
sends_in_order h reached later earlier d is n number = at_split h.pdus later earlier d is (reaches_ordered h reached).order n number
