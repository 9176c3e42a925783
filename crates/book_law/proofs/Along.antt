-- Along a run the two ends of a key hold what the book tells of it.
use Rattle.std.proofs.Common.{◌≡◌, ◌⊎◌, inl, inr, ℕ, ◌+◌, ◌<◌, ◌≤◌, Bool, true, false, List, [], ◌∷◌, ◌++◌, length, map, take, get_or, length-append, Option, Some, None, is_none, refl, sym, ◌∙◌, ap, subst, arith, append-nil, take_all}
use Rattle.std.specs.List.{AllByRecursion, prefix_len, list_all}
use Rattle.std.proofs.lemmas.Bool.{cases_lt, true≢false, and_parts, eqb-true}
use Rattle.std.proofs.lemmas.Option.{none-some}
use Rattle.std.proofs.lemmas.List.{get_or_append_left, get_or-append-add}
use Rattle.std.proofs.lemmas.List.Sums.{prefix_len_passes, prefix_len-le-length}
use Rattle.link_base.specs.declared.names.SnSize.{SnSize}
use Rattle.link_base.specs.declared.names.SnSize.TheVariants.{S12, S18}
use Rattle.link_base.specs.declared.names.Key.{Key}
use Rattle.link_base.specs.SequenceNumbers.{window, most_unconfirmed, Near}
use Rattle.bearer_map.specs.declared.rows.BearerRow.{BearerRow}
use Rattle.bearer_map.specs.Contents.{Contents}
use Rattle.pdcp_model.specs.declared.answers.PdcpHeard.{PdcpHeard}
use Rattle.pdcp_model.specs.Sender.{Sender, new_sender, kept_at, submitted as accepted_by, confirmed as confirmed_by_sender}
use Rattle.pdcp_model.specs.Receiver.{rx_deliv, stored_at, Hears}
use Rattle.pdcp_model.specs.HandUp.{Hearing, IsHeard, HasHeard, handed_by}
use Rattle.pdcp_law.specs.Submitted.{AreOfSubmitted}
use Rattle.pdcp_law.proofs.OfSubmitted.{more_may_be_submitted, one_more_is_heard, goes_up_as_submitted}
use Rattle.pdcp_law.proofs.Holding.{HoldsAll, holds_all, hand_up, deliv}
use Rattle.script_text.specs.declared.line.Line.{Line}
use Rattle.script_text.specs.declared.line.Line.TheVariants.{Submit, Drain, End}
use Rattle.script_text.specs.declared.event.Event.{Event}
use Rattle.script_text.specs.declared.reply.Reply.{Reply}
use Rattle.script_text.specs.declared.reply.Reply.TheVariants.{Ok, OkNumber, Full}
use Rattle.script_text.specs.History.{Entry}
use Rattle.script_text.specs.declared.stage.Part.TheVariants.{Running}
use Rattle.script_text.specs.Lines.{part_of}
use Rattle.node_model.specs.State.{Incoming}
use Rattle.node_model.specs.Tables.{keys, first_count}
use Rattle.node_model.proofs.Names.{key_is}
use Rattle.chain_model.specs.State.{Chain, opened, sender_at, receiving_at}
use Rattle.chain_model.specs.Steps.{Step, Does}
use Rattle.chain_model.specs.Resting.{is_all_confirmed, is_finished}
use Rattle.chain_model.specs.Draining.{Moment, entry_of}
use Rattle.chain_model.specs.Carried.{IsRowOf}
use Rattle.chain_model.specs.Book.{accepted, submitted, ups, handed, confirmed_by, confirmed, AnswersSubmission, Confirms, IsWhole, IsBook}
use Rattle.book_law.specs.Past.{Goes, steps, drained, ended, Passes, IsDeclaration, AreTables}
use Rattle.book_law.specs.Hearings.{coming, HearsBy, HearsNone, HearsEach}
use Rattle.book_law.specs.Confirmations.{ConfirmsBy}
use Rattle.book_law.specs.Kept.{KeepsSdus, AnswersEach, Raises, RaisesEach}
use Rattle.book_law.specs.Honest.{HasCount, IsOfSubmitted, IsHonestLine, AreHonest}
use Rattle.book_law.proofs.Senders.{KeepsAll, Forgets, Drops, forgets_none, forgets_on, confirmed_rises, accepting}
use Rattle.book_law.proofs.Ends.{Stays}
use Rattle.book_law.proofs.Moves.{HasEnds, Moves, moves_each, feeding_rests, sender_is, receiving_is}
use Rattle.book_law.proofs.Events.{Tells, tells_none, step_tells, step_ups, raises_confirms, StandsOnce}
use Rattle.book_law.proofs.Lines.{AnswersSender, Acts, rests, takes, hears, Acting, acts_so}
use Rattle.book_law.proofs.Opened.{new_ends, stands_once}
use Rattle.book_law.proofs.Having.{has_heard, heard_has}
use Rattle.book_law.proofs.Books.{may_be, begins, forgotten, taken}

-- lines of the tables tell nothing of a key
accepted_ok : (k : Key) (line : Line) → accepted k line Ok ≡ []
accepted_ok k (Submit of sdu) = refl
accepted_ok k line = refl

answered_ok : (row : BearerRow) (k : Key) (h : List Entry) (line : Line) → AnswersSubmission row k h line Ok
answered_ok row k h (Submit of sdu) = tt
answered_ok row k h line = tt

-- what is answered to a submission, by the sender and by the book
answered : (row : BearerRow) (k : Key) (h : List Entry) (c : Chain) → KeepsSdus row k.way (submitted k h) (sender_at c k) → confirmed k h ≡ confirmed_by_sender (sender_at c k) → (line : Line) (reply : Reply) → AnswersSender k c line reply → AnswersSubmission row k h line reply
answered row k h c keeps told (Submit of sdu) (OkNumber count) a = λ its. let is = a its in omega (arith, is, keeps.first, keeps.many)
answered row k h c keeps told (Submit of sdu) (Full n) a = λ its.
    let is = a its in
    let most : most_unconfirmed (sender_at c k).size ≡ most_unconfirmed row.pdcp = ap most_unconfirmed keeps.size in
    (is.0 ∙ sym told, omega (arith, is.1, keeps.many, most))
answered row k h c keeps told line reply a = tt

-- a line that leaves all as it is
rest_accepts : (k : Key) (line : Line) (reply : Reply) → (line ≡ Drain) ⊎ (line ≡ End) → accepted k line reply ≡ []
rest_accepts k line reply (inl is) = ap (λ l. accepted k l reply) is
rest_accepts k line reply (inr is) = ap (λ l. accepted k l reply) is

rest_answers : (row : BearerRow) (k : Key) (h : List Entry) (line : Line) (reply : Reply) → (line ≡ Drain) ⊎ (line ≡ End) → AnswersSubmission row k h line reply
rest_answers row k h line reply (inl is) = subst (λ l. AnswersSubmission row k h l reply) (sym is) tt
rest_answers row k h line reply (inr is) = subst (λ l. AnswersSubmission row k h l reply) (sym is) tt

rest_comes : (line : Line) → (line ≡ Drain) ⊎ (line ≡ End) → coming line ≡ None
rest_comes line (inl is) = ap coming is
rest_comes line (inr is) = ap coming is

-- the two lines differ
abbrev is_end : Line → Bool
is_end End = true
is_end line = false

end_is_no_drain : End ≡ Drain → ⊥
end_is_no_drain is = true≢false (ap is_end is)

-- no more than a window is unconfirmed
most_window : (size : SnSize) → most_unconfirmed size ≤ window size
most_window S12 = omega arith
most_window S18 = omega arith

-- of all keys each passes
all_pass : (k : Key) (test : Key → Bool) (ks : List Key) → list_all test ks ≡ true → StandsOnce k ks → test k ≡ true
all_pass k test [] all once = absurd once
all_pass k test (x ∷ ks) all (inl now) = ap test (sym (key_is x k now.0)) ∙ (and_parts (test x) (list_all test ks) all).0
all_pass k test (x ∷ ks) all (inr later) = all_pass k test ks (and_parts (test x) (list_all test ks) all).1 later.1

module _ (t : Contents) (are : AreTables t) (k : Key) (row : BearerRow) (its : IsRowOf t k row) (declared : List Entry) (declare : AllByRecursion IsDeclaration declared) where
  -- the history of these lines
  abbrev past : List Moment → List Entry
  past ms = map entry_of ms ++ declared

  abbrev first : ℕ
  first = first_count row k.way

  -- what an honest run gives besides
  pub record Honestly (h : List Entry) (hs : List Hearing) (c : Chain) : Type 0 where
    pub of_submitted : AreOfSubmitted row.pdcp first (submitted k h) hs
    pub up : handed k h ≡ take (length (handed k h)) (submitted k h)
    pub few : length (handed k h) ≤ length (submitted k h)
    pub had : (n : ℕ) → n < accepted_by (sender_at c k) → kept_at (sender_at c k) n ≡ None → HasCount (receiving_at c k).receiver (first + n)
    pub confirmed_few : confirmed_by_sender (sender_at c k) ≤ length (handed k h)
    pub book : IsBook row k h

  pub record Along (ms : List Moment) (c : Chain) : Type 0 where
    pub tables : c.tables ≡ t
    pub ends : HasEnds c k
    pub keeps : KeepsSdus row k.way (submitted k (past ms)) (sender_at c k)
    pub answers : AnswersEach row k (past ms)
    pub told : confirmed k (past ms) ≡ confirmed_by_sender (sender_at c k)
    pub raises : RaisesEach k (past ms)
    pub hearings : List Hearing
    pub each : HearsEach k ms hearings
    pub heard : HasHeard row.pdcp first hearings (handed k (past ms)) (receiving_at c k).receiver
    pub honestly : AreHonest row k declared ms → Honestly (past ms) hearings c

  -- behind the tables' lines
  pub record Nothing (h : List Entry) : Type 0 where
    pub none_submitted : submitted k h ≡ []
    pub none_handed : handed k h ≡ []
    pub none_confirmed : confirmed k h ≡ 0
    pub answers : AnswersEach row k h
    pub raises : RaisesEach k h
    pub book : IsBook row k h

  nothing : (h : List Entry) → AllByRecursion IsDeclaration h → Nothing h
  nothing [] all = record { none_submitted = refl; none_handed = refl; none_confirmed = refl; answers = tt; raises = tt; book = tt }
  nothing (e ∷ h) all =
      let d = all.0 in
      let rest = nothing h all.1 in
      let none : accepted k e.line e.reply ≡ [] = ap (accepted k e.line) d.says ∙ accepted_ok k e.line in
      let subs : submitted k (e ∷ h) ≡ [] = ap (λ l. submitted k h ++ l) none ∙ append-nil (submitted k h) ∙ rest.none_submitted in
      let ups_none : handed k (e ∷ h) ≡ [] = ap (λ l. handed k h ++ ups k l) d.shows ∙ append-nil (handed k h) ∙ rest.none_handed in
      let answer : AnswersSubmission row k h e.line e.reply = subst (AnswersSubmission row k h e.line) (sym d.says) (answered_ok row k h e.line) in
      record {
        none_submitted = subs;
        none_handed = ups_none;
        none_confirmed = ap (λ l. confirmed_by k l (confirmed k h)) d.shows ∙ rest.none_confirmed;
        answers = (rest.answers, answer);
        raises = (rest.raises, subst (λ l. Raises k l (confirmed k h)) (sym d.shows) tt);
        book = (
          rest.book,
          record {
            submission = answer;
            hand_up = ups_none ∙ sym (ap (λ (l : List (List ℕ)). take (length l) (submitted k (e ∷ h))) ups_none);
            confirms = subst (λ l. Confirms k l (confirmed k h) (length (handed k (e ∷ h)))) (sym d.shows) tt;
            whole = whole e.line e.reply d.part;
          },
        );
      }
    where
      whole : (line : Line) (reply : Reply) → (part_of line ≡ Running → ⊥) → IsWhole k (e ∷ h) line reply
      whole Drain Ok part = absurd (part refl)
      whole line reply part = tt

  -- the chain that the tables open
  opens : (c : Chain) → c ≡ opened t → Along [] c
  opens c is =
      let new = new_ends t are k row its in
      let none = nothing declared declare in
      let sender : sender_at (opened t) k ≡ new_sender row.pdcp first = sender_is (opened t) k new.ends.sender ∙ new.sender in
      subst (Along []) (sym is) (record {
        tables = refl;
        ends = new.ends;
        keeps = subst (λ l. KeepsSdus row k.way l (sender_at (opened t) k)) (sym none.none_submitted) (subst (KeepsSdus row k.way []) (sym sender) (begins row k.way));
        answers = none.answers;
        told = none.none_confirmed ∙ sym (ap confirmed_by_sender sender);
        raises = none.raises;
        hearings = [];
        each = refl;
        heard = (none.none_handed, ap (λ (i : Incoming). i.receiver) (receiving_is (opened t) k new.ends.receiver) ∙ new.receiver);
        honestly = λ honest. record {
          of_submitted = tt;
          up = none.none_handed ∙ sym (ap (λ (l : List (List ℕ)). take (length l) (submitted k declared)) none.none_handed);
          few = omega (arith, ap length none.none_handed);
          had = λ n lt. absurd (omega (arith, lt, ap accepted_by sender));
          confirmed_few = omega (arith, ap confirmed_by_sender sender);
          book = none.book;
        };
      })

  module _ (ms : List Moment) (old : Chain) (a : Along ms old) (e : Entry) (c : Chain) where
    abbrev moment : Moment
    moment = record { before = old; entry = e }

    -- what the receiving end does: nothing, or it hears a data PDU
    abbrev Receives : Type 0
    Receives =
        (((receiving_at c k).receiver ≡ (receiving_at old k).receiver) × (ups k e.events ≡ []) × HearsNone k moment)
        ⊎ ((hearing : Hearing) × (heard : PdcpHeard) × HearsBy k moment hearing × Hears (receiving_at old k).receiver hearing.sn hearing.sdu heard (receiving_at c k).receiver × (ups k e.events ≡ handed_by heard))

    -- what a line does to both ends, once the ends have fed
    pub record Shifts : Type 0 where
      pub tables : c.tables ≡ t
      pub ends : HasEnds c k
      pub keeps : KeepsSdus row k.way (submitted k (e ∷ past ms)) (sender_at c k)
      pub answer : AnswersSubmission row k (past ms) e.line e.reply
      pub tells : Tells k e.events (confirmed_by_sender (sender_at old k)) (confirmed_by_sender (sender_at c k))
      pub receives : Receives
      pub causes : (n : ℕ) → n < accepted_by (sender_at c k) → kept_at (sender_at c k) n ≡ None → ((n < accepted_by (sender_at old k)) × (kept_at (sender_at old k) n ≡ None)) ⊎ ConfirmsBy k moment (first + n)
      pub whole : e.line ≡ Drain → e.reply ≡ Ok → is_finished c ≡ true

    module _ (s : Shifts) where
      told : confirmed k (e ∷ past ms) ≡ confirmed_by_sender (sender_at c k)
      told = ap (confirmed_by k e.events) a.told ∙ s.tells.told

      raises_now : Raises k e.events (confirmed k (past ms))
      raises_now = subst (Raises k e.events) (sym a.told) s.tells.raises

      -- the book behind an honest line
      keeps_book : (hs : List Hearing) → HasHeard row.pdcp first hs (handed k (e ∷ past ms)) (receiving_at c k).receiver → AreOfSubmitted row.pdcp first (submitted k (e ∷ past ms)) hs
          → ((count : ℕ) → IsHeard row.pdcp first a.hearings count → IsHeard row.pdcp first hs count) → Honestly (past ms) a.hearings old → IsHonestLine row k (past ms) moment → Honestly (e ∷ past ms) hs c
      keeps_book hs heard of_submitted more before honest = record {
        of_submitted = of_submitted;
        up = goes.1;
        few = goes.0;
        had = had;
        confirmed_few = few;
        book = (
          before.book,
          record {
            submission = s.answer;
            hand_up = goes.1;
            confirms = raises_confirms k e.events (confirmed k (past ms)) (length (handed k (e ∷ past ms))) raises_now (omega (arith, told, few));
            whole = whole e.line e.reply s.whole;
          },
        );
      }
        where
          goes : (length (handed k (e ∷ past ms)) ≤ length (submitted k (e ∷ past ms))) × (handed k (e ∷ past ms) ≡ take (length (handed k (e ∷ past ms))) (submitted k (e ∷ past ms)))
          goes = goes_up_as_submitted row.pdcp first (submitted k (e ∷ past ms)) hs of_submitted (handed k (e ∷ past ms))
              (hand_up row.pdcp first hs (handed k (e ∷ past ms)) (receiving_at c k).receiver (holds_all row.pdcp first hs (handed k (e ∷ past ms)) (receiving_at c k).receiver heard))

          free : (o : Option (List ℕ)) → is_none o ≡ true → o ≡ None
          free None is = refl
          free (Some x) is = absurd (true≢false (sym is))

          all : HoldsAll row.pdcp first hs (handed k (e ∷ past ms)) (receiving_at c k).receiver
          all = holds_all row.pdcp first hs (handed k (e ∷ past ms)) (receiving_at c k).receiver heard

          old_all : HoldsAll row.pdcp first a.hearings (handed k (past ms)) (receiving_at old k).receiver
          old_all = holds_all row.pdcp first a.hearings (handed k (past ms)) (receiving_at old k).receiver a.heard

          -- what the receiving end has it still has
          still : (n : ℕ) → HasCount (receiving_at old k).receiver (first + n) → HasCount (receiving_at c k).receiver (first + n)
          still n has =
              heard_has row.pdcp first hs (handed k (e ∷ past ms)) (receiving_at c k).receiver all (first + n) (omega arith)
              (more (first + n) (has_heard row.pdcp first a.hearings (handed k (past ms)) (receiving_at old k).receiver old_all (first + n) (omega arith) has))

          had : (n : ℕ) → n < accepted_by (sender_at c k) → kept_at (sender_at c k) n ≡ None → HasCount (receiving_at c k).receiver (first + n)
          had n lt is = elim (s.causes n lt is) [
            | inl x ↦ still n (before.had n x.0 x.1)
            | inr cause ↦ still n (honest.confirmed (first + n) cause)
          ]

          few : confirmed_by_sender (sender_at c k) ≤ length (handed k (e ∷ past ms))
          few = elim (cases_lt (length (handed k (e ∷ past ms))) (confirmed_by_sender (sender_at c k))) [
            | inr le ↦ le
            | inl lt ↦
                let n = length (handed k (e ∷ past ms)) in
                let at = deliv row.pdcp first hs (handed k (e ∷ past ms)) (receiving_at c k).receiver all in
                let within : n < accepted_by (sender_at c k) = omega (arith, lt, prefix_len-le-length is_none (sender_at c k).kept) in
                elim (had n within (free (kept_at (sender_at c k) n) (prefix_len_passes is_none (sender_at c k).kept n None lt))) [
                  | inl low ↦ absurd (omega (arith, low, at))
                  | inr x ↦
                      let zero_is : 0 ≡ x.0 = omega (arith, x.1, at) in
                      absurd (x.2 (ap (stored_at (receiving_at c k).receiver) (sym zero_is) ∙ all.next))
                ]
          ]

          finished : is_finished c ≡ true → (handed k (e ∷ past ms) ≡ submitted k (e ∷ past ms)) × (confirmed k (e ∷ past ms) ≡ length (submitted k (e ∷ past ms)))
          finished is =
              let once : StandsOnce k (keys c.tables) = subst (λ x. StandsOnce k (keys x)) (sym s.tables) (stands_once t are k row its) in
              let all : confirmed_by_sender (sender_at c k) ≡ accepted_by (sender_at c k) = eqb-true _ _ (all_pass k (λ key. is_all_confirmed (sender_at c key)) (keys c.tables) is once) in
              let long : length (handed k (e ∷ past ms)) ≡ length (submitted k (e ∷ past ms)) = omega (arith, few, goes.0, all, s.keeps.many) in
              (goes.1 ∙ ap (λ n. take n (submitted k (e ∷ past ms))) long ∙ take_all (length (submitted k (e ∷ past ms))) (submitted k (e ∷ past ms)) (omega arith), omega (arith, told, all, s.keeps.many))

          whole : (line : Line) (reply : Reply) → (line ≡ Drain → reply ≡ Ok → is_finished c ≡ true) → IsWhole k (e ∷ past ms) line reply
          whole Drain Ok w = finished (w refl refl)
          whole line reply w = tt

      -- an honest hearing is of an SDU submitted
      hears_own : (h : Honestly (past ms) a.hearings old) (hearing : Hearing) → IsOfSubmitted row k (past ms) hearing → AreOfSubmitted row.pdcp first (submitted k (e ∷ past ms)) (hearing ∷ a.hearings)
      hears_own h hearing own =
          let r = (receiving_at old k).receiver in
          let all = holds_all row.pdcp first a.hearings (handed k (past ms)) r a.heard in
          let at = deliv row.pdcp first a.hearings (handed k (past ms)) r all in
          let near : Near row.pdcp hearing.sn (rx_deliv r) (first + own.number) = record {
            same = sym own.sn;
            low = omega (arith, at, own.recent);
            high = omega (arith, at, own.below, a.keeps.few, h.confirmed_few, most_window row.pdcp);
          } in
          more_may_be_submitted row.pdcp first (submitted k (past ms)) (accepted k e.line e.reply) (hearing ∷ a.hearings)
          (one_more_is_heard row.pdcp first (submitted k (past ms)) a.hearings (handed k (past ms)) r hearing (first + own.number) a.heard h.of_submitted (record { number = own.number; below = own.below; its_count = refl; its_sdu = own.sdu }) near)

      pub goes_along : Along (moment ∷ ms) c
      goes_along = elim s.receives [
        | inl (same, none, silent) ↦
            let up : handed k (e ∷ past ms) ≡ handed k (past ms) = ap (λ l. handed k (past ms) ++ l) none ∙ append-nil (handed k (past ms)) in
            let heard : HasHeard row.pdcp first a.hearings (handed k (e ∷ past ms)) (receiving_at c k).receiver =
            subst (λ l. HasHeard row.pdcp first a.hearings l (receiving_at c k).receiver) (sym up) (subst (HasHeard row.pdcp first a.hearings (handed k (past ms))) (sym same) a.heard) in
            record {
              tables = s.tables;
              ends = s.ends;
              keeps = s.keeps;
              answers = (a.answers, s.answer);
              told = told;
              raises = (a.raises, raises_now);
              hearings = a.hearings;
              each = inl (silent, a.each);
              heard = heard;
              honestly = λ honest.
                  let h = a.honestly honest.0 in
                  keeps_book a.hearings heard (more_may_be_submitted row.pdcp first (submitted k (past ms)) (accepted k e.line e.reply) a.hearings h.of_submitted) (λ count x. x) h honest.1;
            }
        | inr (hearing, answer, by, hears_it, shows) ↦
            let heard : HasHeard row.pdcp first (hearing ∷ a.hearings) (handed k (e ∷ past ms)) (receiving_at c k).receiver =
            ((receiving_at old k).receiver, handed k (past ms), a.heard, answer, hears_it, ap (λ l. handed k (past ms) ++ l) shows) in
            record {
              tables = s.tables;
              ends = s.ends;
              keeps = s.keeps;
              answers = (a.answers, s.answer);
              told = told;
              raises = (a.raises, raises_now);
              hearings = hearing ∷ a.hearings;
              each = inr (hearing, a.hearings, by, a.each, refl);
              heard = heard;
              honestly = λ honest.
                  let h = a.honestly honest.0 in
                  keeps_book (hearing ∷ a.hearings) heard (hears_own h hearing (honest.1.heard hearing by)) (λ count x. (x.0, inl x.1)) h honest.1;
            }
      ]

    -- a line that leaves the chain as it is
    rests_shift : (e.line ≡ Drain) ⊎ (e.line ≡ End) → e.events ≡ [] → c ≡ old → (e.line ≡ Drain → e.reply ≡ Ok → is_finished c ≡ true) → Shifts
    rests_shift line none is whole = record {
      tables = ap (λ (x : Chain). x.tables) is ∙ a.tables;
      ends = subst (λ x. HasEnds x k) (sym is) a.ends;
      keeps = subst (λ x. KeepsSdus row k.way (submitted k (e ∷ past ms)) (sender_at x k)) (sym is)
          (subst (λ l. KeepsSdus row k.way l (sender_at old k)) (sym (ap (λ l. submitted k (past ms) ++ l) (rest_accepts k e.line e.reply line) ∙ append-nil (submitted k (past ms)))) a.keeps);
      answer = rest_answers row k (past ms) e.line e.reply line;
      tells = subst (λ l. Tells k l (confirmed_by_sender (sender_at old k)) (confirmed_by_sender (sender_at c k))) (sym none)
          (subst (λ x. Tells k [] (confirmed_by_sender (sender_at old k)) (confirmed_by_sender (sender_at x k))) (sym is) (tells_none k [] (confirmed_by_sender (sender_at old k)) tt));
      receives = inl (ap (λ x. (receiving_at x k).receiver) is, ap (ups k) none, inl (rest_comes e.line line));
      causes = λ n lt free. inl (
        subst (λ x. n < accepted_by (sender_at x k)) is lt,
        subst (λ x. kept_at (sender_at x k) n ≡ None) is free,
      );
      whole = whole;
    }

    -- a step
    no_drain : (line : Line) (own : List Event) (reply : Reply) (mid : Chain) → Does old line own reply mid → line ≡ Drain → ⊥
    no_drain line own reply mid d is = subst (λ l. Does old l own reply mid) is d

    step_shift : Step old e.line e.events e.reply c → Shifts
    step_shift s =
        by acting.acts
      where
        acting : Acting k (ConfirmsBy k moment) old e s.own s.mid
        acting = acts_so k old a.ends e e.line e.reply s.own s.mid refl s.does

        fed : HasEnds s.mid k → Moves k KeepsAll Stays s.mid c
        fed ends = subst (Moves k KeepsAll Stays s.mid) (sym s.is) (moves_each k KeepsAll Stays s.mid (record s.mid { nodes = s.nodes }) ends (feeding_rests k s.mid s.given s.nodes s.feeds))

        once : StandsOnce k (keys old.tables)
        once = subst (λ x. StandsOnce k (keys x)) (sym a.tables) (stands_once t are k row its)

        tells_so : HasEnds s.mid k → confirmed_by_sender (sender_at old k) ≤ confirmed_by_sender (sender_at s.mid k) → Tells k e.events (confirmed_by_sender (sender_at old k)) (confirmed_by_sender (sender_at c k))
        tells_so ends le =
            subst (λ n. Tells k e.events (confirmed_by_sender (sender_at old k)) n) (sym (ap (prefix_len is_none) (fed ends).sends.kept))
            (subst (λ l. Tells k l (confirmed_by_sender (sender_at old k)) (confirmed_by_sender (sender_at s.mid k))) (sym s.shows)
            (step_tells k (λ x is. key_is x k is) old s.mid s.own s.given (keys old.tables) acting.no_conf once le))

        ups_so : ups k e.events ≡ ups k s.own
        ups_so = ap (ups k) s.shows ∙ step_ups k old s.mid s.own s.given (keys old.tables)

        answer_so : AnswersSubmission row k (past ms) e.line e.reply
        answer_so = answered row k (past ms) old a.keeps a.told e.line e.reply acting.answers

        with_none : accepted k e.line e.reply ≡ [] → submitted k (past ms) ≡ submitted k (e ∷ past ms)
        with_none none = sym (ap (λ l. submitted k (past ms) ++ l) none ∙ append-nil (submitted k (past ms)))

        kept_so : accepted k e.line e.reply ≡ [] → Forgets (sender_at old k) (sender_at s.mid k) → HasEnds s.mid k → KeepsSdus row k.way (submitted k (e ∷ past ms)) (sender_at c k)
        kept_so none forgets ends =
            subst (λ l. KeepsSdus row k.way l (sender_at c k)) (with_none none)
            (forgotten row k.way (submitted k (past ms)) (sender_at old k) (sender_at c k) a.keeps (forgets_on (sender_at old k) (sender_at s.mid k) (sender_at c k) forgets (forgets_none (sender_at s.mid k) (sender_at c k) (fed ends).sends)))

        -- what isn't kept behind feeding wasn't before
        mid_free : HasEnds s.mid k → (n : ℕ) → kept_at (sender_at c k) n ≡ None → kept_at (sender_at s.mid k) n ≡ None
        mid_free ends n free = ap (λ (xs : List (Option (List ℕ))). get_or xs n None) (sym (fed ends).sends.kept) ∙ free

        causes_so : HasEnds s.mid k → Drops (ConfirmsBy k moment) (sender_at old k) (sender_at s.mid k) → (n : ℕ) → n < accepted_by (sender_at c k) → kept_at (sender_at c k) n ≡ None
            → ((n < accepted_by (sender_at old k)) × (kept_at (sender_at old k) n ≡ None)) ⊎ ConfirmsBy k moment (first + n)
        causes_so ends drops n lt free =
            let within : n < accepted_by (sender_at old k) = omega (arith, lt, ap length (fed ends).sends.kept, drops.forgets.many) in
            elim (drops.causes n within (mid_free ends n free)) [
              | inl before ↦ inl (within, before)
              | inr cause ↦ inr (subst (λ f. ConfirmsBy k moment (f + n)) a.keeps.first cause)
            ]

        by : Acts k (ConfirmsBy k moment) old e s.own s.mid → Shifts
        by (rests none moves up silent) = record {
          tables = (fed moves.ends).tables ∙ moves.tables ∙ a.tables;
          ends = (fed moves.ends).ends;
          keeps = kept_so none moves.sends.forgets moves.ends;
          answer = answer_so;
          tells = tells_so moves.ends (confirmed_rises (sender_at old k) (sender_at s.mid k) moves.sends.forgets);
          receives = inl ((fed moves.ends).hears ∙ moves.hears, ups_so ∙ up, silent);
          causes = causes_so moves.ends moves.sends;
          whole = λ drain ok. absurd (no_drain e.line s.own e.reply s.mid s.does drain);
        }
        by (takes sdu some may moves up silent) =
            let same : confirmed_by_sender (sender_at s.mid k) ≡ confirmed_by_sender (sender_at old k) = ap confirmed_by_sender moves.sends ∙ accepting (sender_at old k).kept sdu in
            let mid_keeps : KeepsSdus row k.way (submitted k (past ms) ++ sdu ∷ []) (sender_at s.mid k) =
            subst (KeepsSdus row k.way (submitted k (past ms) ++ sdu ∷ [])) (sym moves.sends) (taken row k.way (submitted k (past ms)) (sender_at old k) sdu a.keeps (may_be (sender_at old k) sdu may)) in
            let new_keeps = forgotten row k.way (submitted k (past ms) ++ sdu ∷ []) (sender_at s.mid k) (sender_at c k) mid_keeps (forgets_none (sender_at s.mid k) (sender_at c k) (fed moves.ends).sends) in
            record {
              tables = (fed moves.ends).tables ∙ moves.tables ∙ a.tables;
              ends = (fed moves.ends).ends;
              keeps = subst (λ l. KeepsSdus row k.way (submitted k (past ms) ++ l) (sender_at c k)) (sym some) new_keeps;
              answer = answer_so;
              tells = tells_so moves.ends (omega (arith, same));
              receives = inl ((fed moves.ends).hears ∙ moves.hears, ups_so ∙ up, silent);
              causes = λ n lt free.
                  let mid_kept : (sender_at s.mid k).kept ≡ (sender_at old k).kept ++ Some sdu ∷ [] = ap (λ (x : Sender). x.kept) moves.sends in
                  let at_mid : get_or ((sender_at old k).kept ++ Some sdu ∷ []) n None ≡ None = ap (λ (xs : List (Option (List ℕ))). get_or xs n None) (sym mid_kept) ∙ mid_free moves.ends n free in
                  let long : n < length ((sender_at old k).kept ++ Some sdu ∷ []) = omega (arith, lt, ap length (fed moves.ends).sends.kept, ap length mid_kept) in
                  elim (cases_lt n (length (sender_at old k).kept)) [
                    | inl low ↦ inl (low, sym (get_or_append_left (sender_at old k).kept (Some sdu ∷ []) None n low) ∙ at_mid)
                    | inr high ↦
                        let at : n ≡ length (sender_at old k).kept + 0 = omega (arith, high, long, length-append (sender_at old k).kept (Some sdu ∷ [])) in
                        absurd (none-some sdu (sym at_mid ∙ ap (λ m. get_or ((sender_at old k).kept ++ Some sdu ∷ []) m None) at ∙ get_or-append-add (sender_at old k).kept (Some sdu ∷ []) 0 None))
                  ];
              whole = λ drain ok. absurd (no_drain e.line s.own e.reply s.mid s.does drain);
            }
        by (hears hearing heard none it moves up) = record {
          tables = (fed moves.ends).tables ∙ moves.tables ∙ a.tables;
          ends = (fed moves.ends).ends;
          keeps = kept_so none moves.sends.forgets moves.ends;
          answer = answer_so;
          tells = tells_so moves.ends (confirmed_rises (sender_at old k) (sender_at s.mid k) moves.sends.forgets);
          receives = inr (hearing, heard, it, subst (Hears (receiving_at old k).receiver hearing.sn hearing.sdu heard) (sym (fed moves.ends).hears) moves.hears, ups_so ∙ up);
          causes = causes_so moves.ends moves.sends;
          whole = λ drain ok. absurd (no_drain e.line s.own e.reply s.mid s.does drain);
        }

    pub line_shifts : Goes old e c → Shifts
    line_shifts (steps s) = step_shift s
    line_shifts (drained line none is whole) = rests_shift (inl line) none is (λ drain ok. whole ok)
    line_shifts (ended line none says is) = rests_shift (inr line) none is (λ drain ok. absurd (end_is_no_drain (sym line ∙ drain)))

  -- lines one behind another
  pub along : (ms : List Moment) (c : Chain) → Passes t ms c → Along ms c
  along [] c is = opens c is
  along (m ∷ ms) c (before, goes) = let a = along ms m.before before in goes_along ms m.before a m.entry c (line_shifts ms m.before a m.entry c goes)
