-- The text of an answer tells it, and that of a history tells the history.
use Rattle.std.proofs.Common.{◌≡◌, ℕ, Bool, true, false, cond, List, [], ◌∷◌, ◌++◌, length, map, reverse, get_or, drop, refl, sym, ◌∙◌, ap, subst, arith, append_assoc, length-append}
use Rattle.std.specs.Prelude.{◌&&◌, ◌==◌, nat_le}
use Rattle.std.specs.List.{flat_map, AllByRecursion, slice_split, onto_first, join_with_byte}
use Rattle.std.proofs.lemmas.Bool.{leb-true, eqb-true}
use Rattle.std.proofs.lemmas.List.{reverse-append, reverse-reverse}
use Rattle.std.proofs.lemmas.List.Splits.{slice_split-cons_no, join_with_byte-slice_split}
use Rattle.script_text.specs.declared.line.Line.{Line}
use Rattle.script_text.specs.declared.event.Event.{Event}
use Rattle.script_text.specs.declared.reply.Reply.{Reply}
use Rattle.script_text.specs.declared.reply.Reply.TheVariants.{OkNumber}
use Rattle.script_text.specs.Texts.{reply_text, reply_words, event_text, event_line, answer_text, entry_text, is_printed}
use Rattle.script_text.specs.Fields.{joined}
use Rattle.script_text.specs.Grammar.{is_printable}
use Rattle.script_text.specs.History.{Entry, trace}
use Rattle.script_text.specs.Told.{FitsReply, FitsEvent, FitsAnswer, FitsEntry, told, told_event, TellSame}
use Rattle.script_text.proofs.Joined.{first_of, second_of, printable_joined}
use Rattle.script_text.proofs.ReplyTexts.{ArePlain, each_plain, plain_reply, some_word, one_reply}
use Rattle.script_text.proofs.EventTexts.{all_words, text_is, plain_event, first_word, one_event}

-- lines, each with its LF
abbrev unlines : List (List ℕ) → List ℕ
unlines [] = []
unlines (l ∷ ls) = l ++ 10 ∷ unlines ls

-- a printable byte is no LF
no_lf : (b : ℕ) → (nat_le 32 b && nat_le b 126) ≡ true → (b == 10) ≡ false
no_lf b e =
    let low = leb-true 32 b (first_of _ _ e) in
    elim (b == 10) as (λ v. ((b == 10) ≡ v) → v ≡ false) [ true ↦ λ same. absurd (omega (arith, low, eqb-true b 10 same)) | false ↦ λ same. refl ] refl

abbrev lines_in : List ℕ → List (List ℕ)
lines_in text = slice_split (λ b. b == 10) text

split_line : (l rest : List ℕ) → is_printable l ≡ true → lines_in (l ++ 10 ∷ rest) ≡ l ∷ lines_in rest
split_line [] rest e = refl
split_line (b ∷ l) rest e =
    slice_split-cons_no (λ c. c == 10) b (l ++ 10 ∷ rest) (no_lf b (first_of (nat_le 32 b && nat_le b 126) (is_printable l) e))
    ∙ ap (onto_first b) (split_line l rest (second_of (nat_le 32 b && nat_le b 126) (is_printable l) e))

heads : (l m : List ℕ) (ls ms : List (List ℕ)) → l ∷ ls ≡ m ∷ ms → l ≡ m
heads l m ls ms e = ap (λ (us : List (List ℕ)). get_or us 0 []) e

tails : (l m : List ℕ) (ls ms : List (List ℕ)) → l ∷ ls ≡ m ∷ ms → ls ≡ ms
tails l m ls ms e = ap (λ (us : List (List ℕ)). drop 1 us) e

abbrev ArePrintable : List (List ℕ) → Type 0
ArePrintable ls = AllByRecursion (λ l. is_printable l ≡ true) ls

one_unlines : (ls ms : List (List ℕ)) → ArePrintable ls → ArePrintable ms → unlines ls ≡ unlines ms → ls ≡ ms
one_unlines [] [] x y e = refl
one_unlines [] (m ∷ ms) x y e = absurd (omega (arith, ap length e, length-append m (10 ∷ unlines ms)))
one_unlines (l ∷ ls) [] x y e = absurd (omega (arith, ap length e, length-append l (10 ∷ unlines ls)))
one_unlines (l ∷ ls) (m ∷ ms) x y e =
    let split : l ∷ lines_in (unlines ls) ≡ m ∷ lines_in (unlines ms) = sym (split_line l (unlines ls) x.0) ∙ (ap lines_in e ∙ split_line m (unlines ms) y.0) in
    let rest : unlines ls ≡ unlines ms = sym (join_with_byte-slice_split 10 (unlines ls)) ∙ (ap (join_with_byte 10) (tails _ _ _ _ split) ∙ join_with_byte-slice_split 10 (unlines ms)) in
    ap (λ (k : List ℕ). k ∷ ls) (heads _ _ _ _ split) ∙ ap (λ (ks : List (List ℕ)). m ∷ ks) (one_unlines ls ms x.1 y.1 rest)

unlines-append : (ls ms : List (List ℕ)) → unlines (ls ++ ms) ≡ unlines ls ++ unlines ms
unlines-append [] ms = refl
unlines-append (l ∷ ls) ms = ap (λ (t : List ℕ). l ++ 10 ∷ t) (unlines-append ls ms) ∙ sym (append_assoc l (10 ∷ unlines ls) (unlines ms))

-- the lines of an answer
abbrev shifted : Event → List ℕ
shifted event = 32 ∷ 32 ∷ event_text event

abbrev answer_lines : List Event → Reply → List (List ℕ)
answer_lines events reply = map shifted events ++ reply_text reply ∷ []

events_text : (events : List Event) → flat_map event_line events ≡ unlines (map shifted events)
events_text [] = refl
events_text (e ∷ events) = ap (λ (t : List ℕ). event_line e ++ t) (events_text events) ∙ append_assoc (shifted e) (10 ∷ []) (unlines (map shifted events))

answer_is : (events : List Event) (reply : Reply) → answer_text events reply ≡ unlines (answer_lines events reply)
answer_is events reply = ap (λ (t : List ℕ). t ++ (reply_text reply ++ 10 ∷ [])) (events_text events) ∙ sym (unlines-append (map shifted events) (reply_text reply ∷ []))

printable_list : (words : List (List ℕ)) (w : List ℕ) (ws : List (List ℕ)) → words ≡ w ∷ ws → ArePlain words → is_printable (joined words) ≡ true
printable_list words w ws e plain =
    let all = each_plain (w ∷ ws) (subst ArePlain e plain) in
    ap (λ (us : List (List ℕ)). is_printable (joined us)) e ∙ printable_joined w ws all.0 all.1

printable_reply : (r : Reply) → FitsReply r → is_printable (reply_text r) ≡ true
printable_reply r x = printable_list (reply_words r) _ _ (some_word r) (plain_reply r x)

printable_event : (e : Event) → FitsEvent e → is_printable (shifted e) ≡ true
printable_event e x = ap is_printable (text_is e) ∙ printable_list (all_words e) _ _ (first_word e) (plain_event e x)

printable_events : (events : List Event) → AllByRecursion FitsEvent events → ArePrintable (map shifted events)
printable_events [] x = tt
printable_events (e ∷ events) x = (printable_event e x.0, printable_events events x.1)

all_append : (ls ms : List (List ℕ)) → ArePrintable ls → ArePrintable ms → ArePrintable (ls ++ ms)
all_append [] ms x y = y
all_append (l ∷ ls) ms x y = (x.0, all_append ls ms x.1 y)

printable_answer : (events : List Event) (reply : Reply) → FitsAnswer events reply → ArePrintable (answer_lines events reply)
printable_answer events reply x = all_append (map shifted events) (reply_text reply ∷ []) (printable_events events x.0) (printable_reply reply x.1, tt)

-- an event's line begins with a space, a reply's doesn't
abbrev indented : List ℕ → Bool
indented l = get_or l 0 0 == 32

flush : (r : Reply) → indented (reply_text r) ≡ false
flush (OkNumber n) = refl
flush reply = refl

abbrev AreIndented : List (List ℕ) → Type 0
AreIndented ls = AllByRecursion (λ l. indented l ≡ true) ls

abbrev BeginsFlush : List (List ℕ) → Type 0
BeginsFlush [] = Unit {0}
BeginsFlush (l ∷ ls) = indented l ≡ false

differ : (l m : List ℕ) → indented l ≡ true → indented m ≡ false → l ≡ m → ⊥
differ l m x y e = let clash = sym x ∙ (ap indented e ∙ y) in cc

-- indented lines in front of a flush one are told apart
one_front : (xs ys us vs : List (List ℕ)) → AreIndented xs → AreIndented ys → BeginsFlush us → BeginsFlush vs → xs ++ us ≡ ys ++ vs → (xs ≡ ys) × (us ≡ vs)
one_front [] [] us vs a b c d e = (refl, e)
one_front [] (y ∷ ys) [] vs a b c d e = absurd cc
one_front [] (y ∷ ys) (u ∷ us) vs a b c d e = absurd (differ y u b.0 c (sym (heads _ _ _ _ e)))
one_front (x ∷ xs) [] us [] a b c d e = absurd cc
one_front (x ∷ xs) [] us (v ∷ vs) a b c d e = absurd (differ x v a.0 d (heads _ _ _ _ e))
one_front (x ∷ xs) (y ∷ ys) us vs a b c d e =
    let rest = one_front xs ys us vs a.1 b.1 c d (tails _ _ _ _ e) in
    (ap (λ (l : List ℕ). l ∷ xs) (heads _ _ _ _ e) ∙ ap (λ (ls : List (List ℕ)). y ∷ ls) rest.0, rest.1)

indented_events : (events : List Event) → AreIndented (map shifted events)
indented_events [] = tt
indented_events (e ∷ events) = (refl, indented_events events)

indented_append : (xs ys : List (List ℕ)) → AreIndented xs → AreIndented ys → AreIndented (xs ++ ys)
indented_append [] ys a b = b
indented_append (x ∷ xs) ys a b = (a.0, indented_append xs ys a.1 b)

indented_reverse : (xs : List (List ℕ)) → AreIndented xs → AreIndented (reverse xs)
indented_reverse [] a = tt
indented_reverse (x ∷ xs) a = subst AreIndented (sym (reverse-append (x ∷ []) xs)) (indented_append (reverse xs) (x ∷ []) (indented_reverse xs a.1) (a.0, tt))

-- events whose lines are the same tell the same
same_events : (es fs : List Event) → AllByRecursion FitsEvent es → AllByRecursion FitsEvent fs → map shifted es ≡ map shifted fs → map told_event es ≡ map told_event fs
same_events [] [] x y e = refl
same_events [] (f ∷ fs) x y e = absurd cc
same_events (a ∷ es) [] x y e = absurd cc
same_events (a ∷ es) (f ∷ fs) x y e =
    let text : event_text a ≡ event_text f = ap (λ (t : List ℕ). drop 2 t) (heads _ _ _ _ e) in
    ap (λ (t : Event). t ∷ map told_event es) (one_event a f x.0 y.0 text) ∙ ap (λ (ts : List Event). told_event f ∷ ts) (same_events es fs x.1 y.1 (tails _ _ _ _ e))

pub one_answer : (es fs : List Event) (a b : Reply) → FitsAnswer es a → FitsAnswer fs b → answer_text es a ≡ answer_text fs b → (map told_event es ≡ map told_event fs) × (told a ≡ told b)
one_answer es fs a b x y e =
    let lines = one_unlines (answer_lines es a) (answer_lines fs b) (printable_answer es a x) (printable_answer fs b y) (sym (answer_is es a) ∙ (e ∙ answer_is fs b)) in
    let parts = one_front (map shifted es) (map shifted fs) (reply_text a ∷ []) (reply_text b ∷ []) (indented_events es) (indented_events fs) (flush a) (flush b) lines in
    (same_events es fs x.0 y.0 parts.0, one_reply a b x.1 y.1 (heads _ _ _ _ parts.1))

-- the lines of a history, the oldest first
abbrev entry_lines : Entry → List (List ℕ)
entry_lines e = cond (is_printed e.line) (answer_lines e.events e.reply) []

abbrev trace_lines : List Entry → List (List ℕ)
trace_lines [] = []
trace_lines (e ∷ h) = trace_lines h ++ entry_lines e

entry_is : (e : Entry) (b : Bool) → cond b (answer_text e.events e.reply) [] ≡ unlines (cond b (answer_lines e.events e.reply) [])
entry_is e true = answer_is e.events e.reply
entry_is e false = refl

trace_is : (h : List Entry) → trace h ≡ unlines (trace_lines h)
trace_is [] = refl
trace_is (e ∷ h) =
    ap (λ (t : List ℕ). t ++ entry_text e.line e.events e.reply) (trace_is h)
    ∙ (ap (λ (t : List ℕ). unlines (trace_lines h) ++ t) (entry_is e (is_printed e.line)) ∙ sym (unlines-append (trace_lines h) (entry_lines e)))

printable_entry : (e : Entry) (b : Bool) → FitsEntry e → ArePrintable (cond b (answer_lines e.events e.reply) [])
printable_entry e true x = printable_answer e.events e.reply x
printable_entry e false x = tt

printable_trace : (h : List Entry) → AllByRecursion FitsEntry h → ArePrintable (trace_lines h)
printable_trace [] x = tt
printable_trace (e ∷ h) x = all_append (trace_lines h) (entry_lines e) (printable_trace h x.1) (printable_entry e (is_printed e.line) x.0)

-- the same, the newest first
abbrev entry_back : Bool → Entry → List (List ℕ)
entry_back b e = cond b (reply_text e.reply ∷ reverse (map shifted e.events)) []

abbrev trace_back : List Entry → List (List ℕ)
trace_back [] = []
trace_back (e ∷ h) = entry_back (is_printed e.line) e ++ trace_back h

entry_reversed : (e : Entry) (b : Bool) → reverse (cond b (answer_lines e.events e.reply) []) ≡ entry_back b e
entry_reversed e true = reverse-append (map shifted e.events) (reply_text e.reply ∷ [])
entry_reversed e false = refl

reversed : (h : List Entry) → reverse (trace_lines h) ≡ trace_back h
reversed [] = refl
reversed (e ∷ h) =
    reverse-append (trace_lines h) (entry_lines e) ∙ (ap (λ (ls : List (List ℕ)). ls ++ reverse (trace_lines h)) (entry_reversed e (is_printed e.line)) ∙ ap (λ (ls : List (List ℕ)). entry_back (is_printed e.line) e ++ ls) (reversed h))

begins_flush : (e : Entry) (b : Bool) (rest : List (List ℕ)) → BeginsFlush rest → BeginsFlush (entry_back b e ++ rest)
begins_flush e true rest x = flush e.reply
begins_flush e false rest x = x

trace_flush : (h : List Entry) → BeginsFlush (trace_back h)
trace_flush [] = tt
trace_flush (e ∷ h) = begins_flush e (is_printed e.line) (trace_back h) (trace_flush h)

-- one entry of each history, with what the entries before print
Split : Bool → Entry → Entry → List (List ℕ) → List (List ℕ) → Type 0
Split b d e us vs = (b ≡ true → (map told_event d.events ≡ map told_event e.events) × (told d.reply ≡ told e.reply)) × (us ≡ vs)

one_entry : (b : Bool) (d e : Entry) (us vs : List (List ℕ)) → FitsEntry d → FitsEntry e → BeginsFlush us → BeginsFlush vs → entry_back b d ++ us ≡ entry_back b e ++ vs → Split b d e us vs
unfolding Split
one_entry false d e us vs x y c f same = (λ t. absurd cc, same)
one_entry true d e us vs x y c f same =
    let parts = one_front (reverse (map shifted d.events)) (reverse (map shifted e.events)) us vs (indented_reverse _ (indented_events d.events)) (indented_reverse _ (indented_events e.events)) c f (tails _ _ _ _ same) in
    let events : map shifted d.events ≡ map shifted e.events = sym (reverse-reverse (map shifted d.events)) ∙ (ap reverse parts.0 ∙ reverse-reverse (map shifted e.events)) in
    (λ t. (same_events d.events e.events x.0 y.0 events, one_reply d.reply e.reply x.1 y.1 (heads _ _ _ _ same)), parts.1)

split_events : (b : Bool) (d e : Entry) (us vs : List (List ℕ)) → Split b d e us vs → b ≡ true → (map told_event d.events ≡ map told_event e.events) × (told d.reply ≡ told e.reply)
unfolding Split
split_events b d e us vs s = s.0

split_rest : (b : Bool) (d e : Entry) (us vs : List (List ℕ)) → Split b d e us vs → us ≡ vs
unfolding Split
split_rest b d e us vs s = s.1

first_line : (d e : Entry) (g h : List Entry) → map (λ (x : Entry). x.line) (d ∷ g) ≡ map (λ (x : Entry). x.line) (e ∷ h) → d.line ≡ e.line
first_line d e g h same = ap (λ (ls : List Line). get_or ls 0 d.line) same

same_back : (g h : List Entry) → AllByRecursion FitsEntry g → AllByRecursion FitsEntry h → map (λ (x : Entry). x.line) g ≡ map (λ (x : Entry). x.line) h → trace_back g ≡ trace_back h → TellSame g h
same_back [] [] x y lines e = tt
same_back [] (d ∷ h) x y lines e = absurd cc
same_back (d ∷ g) [] x y lines e = absurd cc
same_back (d ∷ g) (a ∷ h) x y lines e =
    let line = first_line d a g h lines in
    let both : entry_back (is_printed d.line) d ++ trace_back g ≡ entry_back (is_printed d.line) a ++ trace_back h =
    e ∙ ap (λ (l : Line). entry_back (is_printed l) a ++ trace_back h) (sym line) in
    let parts = one_entry (is_printed d.line) d a (trace_back g) (trace_back h) x.0 y.0 (trace_flush g) (trace_flush h) both in
    (line, split_events _ _ _ _ _ parts, same_back g h x.1 y.1 (ap (λ (ls : List Line). drop 1 ls) lines) (split_rest _ _ _ _ _ parts))

pub one_history : (g h : List Entry) → AllByRecursion FitsEntry g → AllByRecursion FitsEntry h → map (λ (x : Entry). x.line) g ≡ map (λ (x : Entry). x.line) h → trace g ≡ trace h → TellSame g h
one_history g h x y lines e =
    let same = one_unlines (trace_lines g) (trace_lines h) (printable_trace g x) (printable_trace h y) (sym (trace_is g) ∙ (e ∙ trace_is h)) in
    same_back g h x y lines (sym (reversed g) ∙ (ap reverse same ∙ reversed h))
