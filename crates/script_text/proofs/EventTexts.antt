-- The text of an event tells it.
use Rattle.std.proofs.Common.{◌≡◌, ℕ, true, cond, List, [], ◌∷◌, ◌++◌, codes, refl, sym, ◌∙◌, ap, get_or, drop, append-nil, bytes_eq}
use Rattle.std.specs.Fmt.{decimal}
use Rattle.link_base.specs.declared.names.Key.{Key}
use Rattle.link_base.specs.declared.names.Way.{Way}
use Rattle.link_base.specs.declared.names.Way.TheVariants.{Ul, Dl}
use Rattle.link_base.specs.declared.names.PortName.{PortName}
use Rattle.script_text.specs.declared.event.Event.{Event}
use Rattle.script_text.specs.declared.event.Event.TheVariants.{Heard, Left, MaxRetx, Up, Conf, Rep}
use Rattle.script_text.specs.declared.reply.Reply.{Reply}
use Rattle.script_text.specs.Words.{words_of, way_text, hex_text}
use Rattle.script_text.specs.Fields.{spaced, joined}
use Rattle.script_text.specs.Texts.{reply_words, event_words, event_text, key_words}
use Rattle.script_text.specs.Told.{FitsKey, FitsEvent, told_event}
use Rattle.script_text.proofs.PlainWords.{plain_decimal}
use Rattle.script_text.proofs.Joined.{is_plain}
use Rattle.script_text.proofs.ReplyBack.{value, value_back, port_of, port_back, bytes_of, bytes_back, reply_of, reply_back}
use Rattle.script_text.proofs.ReplyTexts.{ArePlain, none, more, plain_port_text, plain_bytes, plain_reply, some_word, words_of_listed}

-- the words of an event, those of a reply in it each by itself
abbrev pub all_words : Event → List (List ℕ)
all_words (Heard ticket reply) = codes "heard" ∷ decimal ticket ∷ reply_words reply
all_words event = event_words event

-- a text of words at the end is the words
nested : (words : List (List ℕ)) (w : List ℕ) (ws : List (List ℕ)) → words ≡ w ∷ ws → spaced (joined words ∷ []) ≡ spaced words
nested words w ws e = ap (λ (us : List (List ℕ)). spaced (joined us ∷ [])) e ∙ (ap (λ (t : List ℕ). 32 ∷ t) (append-nil (w ++ spaced ws)) ∙ ap spaced (sym e))

pub text_is : (e : Event) → event_text e ≡ joined (all_words e)
text_is (Heard ticket reply) = ap (λ (t : List ℕ). codes "heard" ++ 32 ∷ decimal ticket ++ t) (nested (reply_words reply) _ _ (some_word reply))
text_is (Left ticket) = refl
text_is (MaxRetx port way number) = refl
text_is (Up key sdu) = refl
text_is (Conf key confirmed) = refl
text_is (Rep key) = refl

plain_way : (way : Way) → is_plain (way_text way) ≡ true
plain_way Ul = refl
plain_way Dl = refl

plain_key : (key : Key) (words : List (List ℕ)) → FitsKey key → ArePlain words → ArePlain (key_words key ++ words)
plain_key key words x e = more _ _ (plain_decimal key.remote.0 x.0) (more _ _ (plain_decimal key.drb.0 x.1) (more _ _ (plain_way key.way) e))

pub plain_event : (e : Event) → FitsEvent e → ArePlain (all_words e)
plain_event (Heard ticket reply) x = more _ _ refl (more _ _ (plain_decimal ticket x.0) (plain_reply reply x.1))
plain_event (Left ticket) x = more _ _ refl (more _ _ (plain_decimal ticket x) none)
plain_event (MaxRetx port way number) x = more _ _ refl (more _ _ (plain_port_text port x.0) (more _ _ (plain_way way) (more _ _ (plain_decimal number x.1) none)))
plain_event (Up key sdu) x = more _ _ refl (plain_key key (hex_text sdu ∷ []) x.0 (more _ _ (plain_bytes sdu x.1) none))
plain_event (Conf key confirmed) x = more _ _ refl (plain_key key (decimal confirmed ∷ []) x.0 (more _ _ (plain_decimal confirmed x.1) none))
plain_event (Rep key) x = more _ _ refl (plain_key key [] x none)

pub first_word : (e : Event) → all_words e ≡ get_or (all_words e) 0 [] ∷ drop 1 (all_words e)
first_word (Heard ticket reply) = refl
first_word (Left ticket) = refl
first_word (MaxRetx port way number) = refl
first_word (Up key sdu) = refl
first_word (Conf key confirmed) = refl
first_word (Rep key) = refl

words_of_event : (e : Event) → FitsEvent e → words_of (event_text e) ≡ all_words e
words_of_event e x = ap words_of (text_is e) ∙ words_of_listed (all_words e) _ _ (first_word e) (plain_event e x)

-- the event that has these words
abbrev way_of : List ℕ → Way
way_of w = cond (bytes_eq w (codes "ul")) Ul Dl

way_back : (way : Way) → way_of (way_text way) ≡ way
way_back Ul = refl
way_back Dl = refl

abbrev key_of : List ℕ → List ℕ → List ℕ → Key
key_of r d w = record { remote = record { 0 = value r }; drb = record { 0 = value d }; way = way_of w }

key_back : (key : Key) → FitsKey key → key_of (decimal key.remote.0) (decimal key.drb.0) (way_text key.way) ≡ key
key_back key x =
    ap (λ (n : ℕ). let k : Key = record { remote = record { 0 = n }; drb = record { 0 = value (decimal key.drb.0) }; way = way_of (way_text key.way) } in k) (value_back key.remote.0 x.0)
    ∙ (ap (λ (n : ℕ). let k : Key = record { remote = key.remote; drb = record { 0 = n }; way = way_of (way_text key.way) } in k) (value_back key.drb.0 x.1)
    ∙ ap (λ (w : Way). let k : Key = record { remote = key.remote; drb = key.drb; way = w } in k) (way_back key.way))

abbrev by_name : List ℕ → List (List ℕ) → Event
by_name w ws =
    cond (bytes_eq w (codes "heard")) (Heard (value (get_or ws 0 [])) (reply_of (drop 1 ws))) (cond (bytes_eq w (codes "left")) (Left (value (get_or ws 0 [])))
    (cond (bytes_eq w (codes "maxretx")) (MaxRetx (port_of (get_or ws 0 [])) (way_of (get_or ws 1 [])) (value (get_or ws 2 [])))
    (cond (bytes_eq w (codes "up")) (Up (key_of (get_or ws 0 []) (get_or ws 1 []) (get_or ws 2 [])) (bytes_of (get_or ws 3 [])))
    (cond (bytes_eq w (codes "conf")) (Conf (key_of (get_or ws 0 []) (get_or ws 1 []) (get_or ws 2 [])) (value (get_or ws 3 [])))
    (Rep (key_of (get_or ws 0 []) (get_or ws 1 []) (get_or ws 2 [])))))))

abbrev event_of : List (List ℕ) → Event
event_of ws = by_name (get_or ws 0 []) (drop 1 ws)

event_back : (e : Event) → FitsEvent e → event_of (all_words e) ≡ told_event e
event_back (Heard ticket reply) x = ap (λ (n : ℕ). Heard n (reply_of (reply_words reply))) (value_back ticket x.0) ∙ ap (λ (r : Reply). Heard ticket r) (reply_back reply x.1)
event_back (Left ticket) x = ap (λ (n : ℕ). Left n) (value_back ticket x)
event_back (MaxRetx port way number) x =
    ap (λ (p : PortName). MaxRetx p (way_of (way_text way)) (value (decimal number))) (port_back port x.0)
    ∙ (ap (λ (w : Way). MaxRetx port w (value (decimal number))) (way_back way) ∙ ap (λ (n : ℕ). MaxRetx port way n) (value_back number x.1))
event_back (Up key sdu) x = ap (λ (k : Key). Up k (bytes_of (hex_text sdu))) (key_back key x.0) ∙ ap (λ (b : List ℕ). Up key b) (bytes_back sdu x.1)
event_back (Conf key confirmed) x = ap (λ (k : Key). Conf k (value (decimal confirmed))) (key_back key x.0) ∙ ap (λ (n : ℕ). Conf key n) (value_back confirmed x.1)
event_back (Rep key) x = ap (λ (k : Key). Rep k) (key_back key x)

pub one_event : (a b : Event) → FitsEvent a → FitsEvent b → event_text a ≡ event_text b → told_event a ≡ told_event b
one_event a b x y e =
    sym (event_back a x) ∙ (ap event_of (sym (words_of_event a x) ∙ (ap words_of e ∙ words_of_event b y)) ∙ event_back b y)
