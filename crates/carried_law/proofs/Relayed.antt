-- What the relay holds was heard: each SDU in a slot, in a queue or in a transmitter has a completion that led there.
use Rattle.std.proofs.Common.{◌≡◌, ◌⊎◌, inl, inr, ℕ, ◌+◌, ◌<◌, ◌≤◌, ◌==◌, Bool, true, false, cond, ◌&&◌, List, [], ◌∷◌, ◌++◌, length, get_or, map, Option, Some, None, refl, sym, ◌∙◌, ap, subst, arith}
use Rattle.std.specs.List.{AllByRecursion}
use Rattle.std.proofs.lemmas.Bool.{cases_Bool, cases_lt, cond-true, cond-false, and_parts, and_from, eqb-true, eq-eqb}
use Rattle.std.proofs.lemmas.List.{get_or_append_left, get_or_push, length_push, map-append}
use Rattle.std.proofs.lemmas.Option.{none-some, same_Some}
use Rattle.link_base.specs.declared.names.Drb.{Drb}
use Rattle.link_base.specs.declared.names.Node.TheVariants as kinds
use Rattle.link_base.specs.declared.names.PortName.{PortName}
use Rattle.link_base.specs.declared.names.PortName.TheVariants.{Direct, Pc5, Uu}
use Rattle.link_base.specs.declared.names.Remote.{Remote}
use Rattle.link_base.specs.declared.names.SnSize.TheVariants.{S12}
use Rattle.link_base.specs.declared.names.Way.TheVariants.{Ul}
use Rattle.bearer_map.specs.Contents.{Contents}
use Rattle.rlc_model.specs.Sides.{Entity, hearer_of}
use Rattle.rlc_model.specs.Tx.{Tx, Kept, kept_at, tx_next, Gives}
use Rattle.rlc_law.proofs.Base.{kept_below}
use Rattle.script_text.specs.History.{Entry}
use Rattle.node_model.specs.declared.parcel.Parcel.{Parcel}
use Rattle.node_model.specs.Names.{owner}
use Rattle.node_model.specs.Relaying.{parcel_tag}
use Rattle.node_model.specs.State.{Node, entity_at, slot_at, queue_at}
use Rattle.node_model.proofs.Finding.{each_append}
use Rattle.chain_model.specs.Carried.{IsBefore, Passed, IsPassed}
use Rattle.chain_model.specs.Told.{epoch_at, applies}
use Rattle.chain_law.proofs.Pairs.{Pairwise, each_then, pairs_append}
use Rattle.carried_law.proofs.Keeping.{SideKeeps}
use Rattle.carried_law.proofs.Own.{ends_apart}

-- a completion at no port of the relay, another one for each number
abbrev pub nowhere : ℕ → Passed
nowhere n = record { hop = record { size = S12; port = Direct (record { 0 = 0 }) (record { 0 = n }); way = Ul; epoch = 0 }; number = n; before = [] }

-- the completion is by a line of the history
pub record IsOf (h : List Entry) (p : Passed) : Type 0 where
  pub entry : Entry
  pub later : List Entry
  pub is : h ≡ later ++ entry ∷ p.before

-- of two completions on one ingress port the first is another one, and isn't later
abbrev pub Apart : Passed → Passed → Type 0
Apart p q = p.hop.port ≡ q.hop.port → (p ≡ q → ⊥) × IsBefore p.before q.before

-- an SDU that the relay holds, and its completion
pub record Held : Type 0 where
  pub parcel : Parcel
  pub passed : Passed

abbrev pub parcel_of : Held → Parcel
parcel_of x = x.parcel

abbrev pub Follow : Held → Held → Type 0
Follow x y = Apart x.passed y.passed

-- the relay heard the SDU on the port that it tells, and it leads to this port
pub record IsHeld (t : Contents) (h : List Entry) (q : PortName) (x : Held) : Type 0 where
  pub its : IsPassed t h q x.parcel.sdu x.passed
  pub from : x.passed.hop.port ≡ x.parcel.from

-- in which epoch the relay's side of a port stands
abbrev pub relay_epoch : PortName → List Entry → ℕ
relay_epoch (Direct remote drb) h = epoch_at kinds.Relay remote h
relay_epoch (Pc5 remote chan) h = epoch_at kinds.Relay remote h
relay_epoch (Uu chan) h = 0

-- the SDUs that a port of the relay was given, by epochs and numbers, and those in its queue behind them: each was heard, and those of one ingress
-- port are in order
pub record PortLine (t : Contents) (h : List Entry) (q : PortName) (entity : Option Entity) (queue : List Parcel) : Type 0 where
  pub given : ℕ → ℕ → Passed
  pub queued : List Held
  pub waits : map parcel_of queued ≡ queue
  pub held : AllByRecursion (IsHeld t h q) queued
  pub kept : (e : Entity) → entity ≡ Some e → (n : ℕ) (k : Kept) → kept_at e.tx n ≡ Some k → IsPassed t h q k.sdu (given e.epoch n)
  pub unused : (e : Entity) → entity ≡ Some e → (n : ℕ) → tx_next e.tx ≤ n → given e.epoch n ≡ nowhere n
  pub within : (e : Entity) → entity ≡ Some e → e.epoch ≤ relay_epoch q h
  pub fresh : (epoch n : ℕ) → relay_epoch q h < epoch → given epoch n ≡ nowhere n
  pub past : (epoch n : ℕ) → IsOf h (given epoch n) ⊎ (given epoch n ≡ nowhere n)
  pub ordered : (epoch m n : ℕ) → m < n → Apart (given epoch m) (given epoch n)
  pub ahead : (epoch n : ℕ) → AllByRecursion (λ x. Apart (given epoch n) x.passed) queued
  pub pairs : Pairwise Follow queued

-- a completion comes behind all that a port was given and that waits there
pub record IsBehind {t : Contents} {h : List Entry} {q : PortName} {entity : Option Entity} {queue : List Parcel} (l : PortLine t h q entity queue) (p : Passed) : Type 0 where
  pub given : (epoch n : ℕ) → Apart (l.given epoch n) p
  pub queued : AllByRecursion (λ x. Apart x.passed p) l.queued

-- what a port has now is what it had, and these SDUs
pub record GoesOn {t : Contents} {h : List Entry} {q : PortName} {entity : Option Entity} {queue : List Parcel} (l : PortLine t h q entity queue) (more : List Held)
    (g : List Entry) (now : Option Entity) (rest : List Parcel) : Type 0 where
  pub line : PortLine t g q now rest
  pub extends : (epoch n : ℕ) → (line.given epoch n ≡ l.given epoch n) ⊎ (l.given epoch n ≡ nowhere n)
  pub behind : (p : Passed) → IsBehind l p → AllByRecursion (λ x. Apart x.passed p) more → IsBehind line p

-- an SDU of the relay was completed on a port of it
abbrev direct_drb : PortName → ℕ
direct_drb (Direct remote drb) = drb.0
direct_drb q = 0

pub not_direct : (t : Contents) (h : List Entry) (q : PortName) (sdu : List ℕ) (p : Passed) → IsPassed t h q sdu p → (remote : Remote) (drb : Drb)
    → p.hop.port ≡ Direct remote drb → ⊥
not_direct t h q sdu p is remote drb e = ends_apart (hearer_of p.hop.way) remote drb (ap (owner (hearer_of p.hop.way)) (sym e) ∙ is.at_relay)

-- so it is apart from what was never given
pub nowhere_before : (t : Contents) (h : List Entry) (q : PortName) (sdu : List ℕ) (n : ℕ) (p x : Passed) → IsPassed t h q sdu p → x ≡ nowhere n → Apart x p
nowhere_before t h q sdu n p x is unused_yet same = absurd (not_direct t h q sdu p is (record { 0 = 0 }) (record { 0 = n }) (sym same ∙ ap (λ (y : Passed). y.hop.port) unused_yet))

nowhere_behind : (t : Contents) (h : List Entry) (q : PortName) (sdu : List ℕ) (n : ℕ) (p x : Passed) → IsPassed t h q sdu p → x ≡ nowhere n → Apart p x
nowhere_behind t h q sdu n p x is unused_yet same = absurd (not_direct t h q sdu p is (record { 0 = 0 }) (record { 0 = n }) (same ∙ ap (λ (y : Passed). y.hop.port) unused_yet))

pub nowhere_apart : (m n : ℕ) → m < n → Apart (nowhere m) (nowhere n)
nowhere_apart m n less same = absurd (omega (arith, less, ap direct_drb same))

-- a history goes on
pub passed_later : (t : Contents) (e : Entry) (h : List Entry) (q : PortName) (sdu : List ℕ) (p : Passed) → IsPassed t h q sdu p → IsPassed t (e ∷ h) q sdu p
passed_later t e h q sdu p is = record {
  entry = is.entry;
  later = e ∷ is.later;
  its = ap (λ (l : List Entry). e ∷ l) is.its;
  its_size = is.its_size;
  at_relay = is.at_relay;
  completes = is.completes;
  route = is.route;
  leads = is.leads;
  egress = is.egress;
}

pub of_later : (e : Entry) (h : List Entry) (p : Passed) → IsOf h p → IsOf (e ∷ h) p
of_later e h p is = record { entry = is.entry; later = e ∷ is.later; is = ap (λ (l : List Entry). e ∷ l) is.is }

pub held_later : (t : Contents) (e : Entry) (h : List Entry) (q : PortName) (x : Held) → IsHeld t h q x → IsHeld t (e ∷ h) q x
held_later t e h q x is = record { its = passed_later t e h q x.parcel.sdu x.passed is.its; from = is.from }

pub passed_of : (t : Contents) (h : List Entry) (q : PortName) (sdu : List ℕ) (p : Passed) → IsPassed t h q sdu p → IsOf h p
passed_of t h q sdu p is = record { entry = is.entry; later = is.later; is = is.its }

relay_rises : (e : Entry) (h : List Entry) (q : PortName) → relay_epoch q h ≤ relay_epoch q (e ∷ h)
relay_rises e h q = by q
  where
    rises : (b : Bool) (n : ℕ) → n ≤ cond b (n + 1) n
    rises true n = omega arith
    rises false n = omega arith

    by : (q : PortName) → relay_epoch q h ≤ relay_epoch q (e ∷ h)
    by (Direct r d) = rises (applies kinds.Relay r e.line e.reply) (epoch_at kinds.Relay r h)
    by (Pc5 r c) = rises (applies kinds.Relay r e.line e.reply) (epoch_at kinds.Relay r h)
    by (Uu c) = omega arith

-- an entity that keeps what it kept, and is given nothing
pub line_on : {t : Contents} {h : List Entry} {q : PortName} {entity : Option Entity} {queue : List Parcel} (l : PortLine t h q entity queue) (x : Entry) (now : Option Entity)
    → SideKeeps (λ sdu. ⊥) (λ n. Unit {0}) entity now → GoesOn l [] (x ∷ h) now queue
line_on {t} {h} {q} {entity} l x now keeps = record {
  line = record {
    given = l.given;
    queued = l.queued;
    waits = l.waits;
    held = each_then (IsHeld t h q) (IsHeld t (x ∷ h) q) (λ y is. held_later t x h q y is) l.queued l.held;
    kept = λ e is n k at.
        let was = keeps e is in
        elim (was.3.kept n k at) [
          | inr new ↦ absurd new.allowed
          | inl old ↦ passed_later t x h q k.sdu (l.given e.epoch n) (subst (λ (epoch : ℕ). IsPassed t h q k.sdu (l.given epoch n)) (sym was.2)
              (subst (λ (sdu : List ℕ). IsPassed t h q sdu (l.given was.0.epoch n)) (sym old.sdu) (l.kept was.0 was.1 n old.was old.here)))
        ];
    unused = λ e is n high.
        let was = keeps e is in
        ap (λ (epoch : ℕ). l.given epoch n) was.2 ∙ l.unused was.0 was.1 n (omega (arith, high, was.3.long));
    within = λ e is. let was = keeps e is in omega (arith, l.within was.0 was.1, was.2, relay_rises x h q);
    fresh = λ epoch n high. l.fresh epoch n (omega (arith, high, relay_rises x h q));
    past = λ epoch n. elim (l.past epoch n) [ inl is ↦ inl (of_later x h (l.given epoch n) is) | inr unused_yet ↦ inr unused_yet ];
    ordered = l.ordered;
    ahead = l.ahead;
    pairs = l.pairs;
  };
  extends = λ epoch n. inl refl;
  behind = λ p is none. record { given = is.given; queued = is.queued };
}

-- each stands so to each, seen from the other list
each_across : {X : Type 0} (R : X → X → Type 0) (xs zs : List X) → AllByRecursion (λ z. AllByRecursion (λ x. R x z) xs) zs → AllByRecursion (λ x. AllByRecursion (R x) zs) xs
each_across R [] zs all = tt
each_across {X} R (x ∷ xs) zs all = (
  each_then (λ z. AllByRecursion (λ y. R y z) (x ∷ xs)) (R x) (λ z is. is.0) zs all,
  each_across R xs zs (each_then (λ z. AllByRecursion (λ y. R y z) (x ∷ xs)) (λ z. AllByRecursion (λ y. R y z) xs) (λ z is. is.1) zs all),
)

-- SDUs come into the queue
pub line_more : {t : Contents} {h : List Entry} {q : PortName} {entity : Option Entity} {queue : List Parcel} (l : PortLine t h q entity queue) (more : List Held)
    → AllByRecursion (IsHeld t h q) more → Pairwise Follow more → AllByRecursion (λ x. IsBehind l x.passed) more → GoesOn l more h entity (queue ++ map parcel_of more)
line_more {t} {h} {q} {entity} {queue} l more held pairs behind = record {
  line = record {
    given = l.given;
    queued = l.queued ++ more;
    waits = map-append parcel_of l.queued more ∙ ap (λ (xs : List Parcel). xs ++ map parcel_of more) l.waits;
    held = each_append (IsHeld t h q) l.queued more l.held held;
    kept = l.kept;
    unused = l.unused;
    within = l.within;
    fresh = l.fresh;
    past = l.past;
    ordered = l.ordered;
    ahead = λ epoch n. each_append (λ x. Apart (l.given epoch n) x.passed) l.queued more (l.ahead epoch n)
        (each_then (λ x. IsBehind l x.passed) (λ x. Apart (l.given epoch n) x.passed) (λ x is. is.given epoch n) more behind);
    pairs = pairs_append Follow l.queued more l.pairs pairs (each_across Follow l.queued more (each_then (λ x. IsBehind l x.passed) _ (λ x is. is.queued) more behind));
  };
  extends = λ epoch n. inl refl;
  behind = λ p is also. record { given = is.given; queued = each_append (λ x. Apart x.passed p) l.queued more is.queued also };
}

-- the transmitter is given the SDU at the front of the queue
module _ (t : Contents) (h : List Entry) (q : PortName) (entity : Entity) (parcel : Parcel) (parcels : List Parcel) (number : ℕ) (tx : Tx)
    (gives : Gives entity.tx (parcel_tag parcel) parcel.sdu number tx) where
  abbrev top : ℕ
  top = tx_next entity.tx

  abbrev is_this : ℕ → ℕ → Bool
  is_this epoch n = (epoch == entity.epoch) && (n == top)

  module _ (l : PortLine t h q (Some entity) (parcel ∷ parcels)) where
    line_gives_by : (queued : List Held) → l.queued ≡ queued → map parcel_of queued ≡ parcel ∷ parcels → AllByRecursion (IsHeld t h q) queued
        → ((epoch n : ℕ) → AllByRecursion (λ x. Apart (l.given epoch n) x.passed) queued) → Pairwise Follow queued
        → ((p : Passed) → IsBehind l p → AllByRecursion (λ x. Apart x.passed p) queued)
        → GoesOn l [] h (Some (record entity { tx = tx })) parcels
    line_gives_by [] same waits held ahead pairs queued_behind = absurd (nothing waits)
      where
        nothing : ◌≡◌ {A = List Parcel} [] (parcel ∷ parcels) → ⊥
        nothing e = omega (arith, ap length e)
    line_gives_by (x ∷ xs) same waits held ahead pairs queued_behind = record {
      line = record {
        given = given;
        queued = xs;
        waits = ap (λ (l : List Parcel). rest_of l) waits;
        held = held.1;
        kept = λ e is n k at. subst (λ (y : Entity). kept_at y.tx n ≡ Some k → IsPassed t h q k.sdu (given y.epoch n)) (same_Some now e is) (kept_now n k) at;
        unused = λ e is n. subst (λ (y : Entity). tx_next y.tx ≤ n → given y.epoch n ≡ nowhere n) (same_Some now e is)
            (λ high. not_this entity.epoch n (λ one. omega (arith, high, longer, eqb-true n top one.1)) ∙ l.unused entity refl n (omega (arith, high, longer)));
        within = λ e is. subst (λ (y : Entity). y.epoch ≤ relay_epoch q h) (same_Some now e is) (l.within entity refl);
        fresh = λ epoch n high. not_this epoch n (λ one. omega (arith, high, eqb-true epoch entity.epoch one.0, l.within entity refl)) ∙ l.fresh epoch n high;
        past = λ epoch n. elim (either epoch n) [
          | inl one ↦ inl (subst (IsOf h) (sym one.1) (passed_of t h q x.parcel.sdu x.passed held.0.its))
          | inr old ↦ elim (l.past epoch n) [ inl is ↦ inl (subst (IsOf h) (sym old.1) is) | inr unused_yet ↦ inr (old.1 ∙ unused_yet) ]
        ];
        ordered = ordered;
        ahead = λ epoch n. elim (either epoch n) [
          | inl one ↦ subst (λ (p : Passed). AllByRecursion (λ y. Apart p y.passed) xs) (sym one.1) pairs.0
          | inr old ↦ subst (λ (p : Passed). AllByRecursion (λ y. Apart p y.passed) xs) (sym old.1) (ahead epoch n).1
        ];
        pairs = pairs.1;
      };
      extends = λ epoch n. elim (either epoch n) [
        | inl one ↦ inr (ap (λ (m : ℕ). l.given m n) (eqb-true epoch entity.epoch one.0.0) ∙ l.unused entity refl n (omega (arith, eqb-true n top one.0.1)))
        | inr old ↦ inl old.1
      ];
      behind = λ p is none. record {
        given = λ epoch n. elim (either epoch n) [
          | inl one ↦ subst (λ (y : Passed). Apart y p) (sym one.1) (queued_behind p is).0
          | inr old ↦ subst (λ (y : Passed). Apart y p) (sym old.1) (is.given epoch n)
        ];
        queued = (queued_behind p is).1;
      };
    }
      where
        rest_of : List Parcel → List Parcel
        rest_of [] = []
        rest_of (y ∷ ys) = ys

        first_of : List Parcel → Parcel
        first_of [] = parcel
        first_of (y ∷ ys) = y

        now : Entity
        now = record entity { tx = tx }

        given : ℕ → ℕ → Passed
        given epoch n = cond (is_this epoch n) x.passed (l.given epoch n)

        not_this : (epoch n : ℕ) → ((epoch == entity.epoch) ≡ true × (n == top) ≡ true → ⊥) → given epoch n ≡ l.given epoch n
        not_this epoch n apart = elim (cases_Bool (is_this epoch n)) [
          | inl one ↦ absurd (apart (and_parts (epoch == entity.epoch) (n == top) one))
          | inr other ↦ cond-false (is_this epoch n) x.passed (l.given epoch n) other
        ]

        either : (epoch n : ℕ) → (((epoch == entity.epoch) ≡ true × (n == top) ≡ true) × (given epoch n ≡ x.passed)) ⊎ ((is_this epoch n ≡ false)
            × (given epoch n ≡ l.given epoch n))
        either epoch n = elim (cases_Bool (is_this epoch n)) [
          | inl one ↦ inl (and_parts (epoch == entity.epoch) (n == top) one, cond-true (is_this epoch n) x.passed (l.given epoch n) one)
          | inr other ↦ inr (other, cond-false (is_this epoch n) x.passed (l.given epoch n) other)
        ]

        last : Kept
        last = record { tag = parcel_tag parcel; sdu = parcel.sdu; flags = []; retx_count = None }

        its : tx.kept ≡ entity.tx.kept ++ Some last ∷ []
        its = ap (λ (u : Tx). u.kept) gives.is

        longer : tx_next tx ≡ top + 1
        longer = ap length its ∙ length_push entity.tx.kept (Some last)

        sdu_is : x.parcel.sdu ≡ parcel.sdu
        sdu_is = ap (λ (l : List Parcel). (first_of l).sdu) waits

        its_passed : IsPassed t h q parcel.sdu x.passed
        its_passed = subst (λ (sdu : List ℕ). IsPassed t h q sdu x.passed) sdu_is held.0.its

        kept_now : (n : ℕ) (k : Kept) → kept_at tx n ≡ Some k → IsPassed t h q k.sdu (given entity.epoch n)
        kept_now n k at = elim (cases_lt n top) [
          | inl low ↦ subst (IsPassed t h q k.sdu) (sym (not_this entity.epoch n (λ one. omega (arith, low, eqb-true n top one.1))))
              (l.kept entity refl n k (sym (get_or_append_left entity.tx.kept (Some last ∷ []) None n low) ∙ ap (λ (l : List (Option Kept)). get_or l n None) (sym its) ∙ at))
          | inr high ↦
              let place : top ≡ n = omega (arith, high, kept_below tx n k at, longer) in
              let same : last ≡ k = same_Some last k (sym (get_or_push entity.tx.kept (Some last) None n place) ∙ ap (λ (l : List (Option Kept)). get_or l n None) (sym its)
              ∙ at) in
              subst (IsPassed t h q k.sdu) (sym (cond-true (is_this entity.epoch n) x.passed (l.given entity.epoch n)
              (and_from (entity.epoch == entity.epoch) (n == top) (eq-eqb entity.epoch entity.epoch refl) (eq-eqb n top (sym place)))))
              (subst (λ (k : Kept). IsPassed t h q k.sdu x.passed) same its_passed)
        ]

        ordered : (epoch m n : ℕ) → m < n → Apart (given epoch m) (given epoch n)
        ordered epoch m n less = elim (either epoch m) [
          | inl one ↦ subst (λ (p : Passed). Apart p (given epoch n)) (sym one.1)
              (nowhere_behind t h q parcel.sdu n x.passed (given epoch n) its_passed
              (not_this epoch n (λ two. omega (arith, less, eqb-true m top one.0.1, eqb-true n top two.1))
              ∙ ap (λ (e : ℕ). l.given e n) (eqb-true epoch entity.epoch one.0.0) ∙ l.unused entity refl n (omega (arith, less, eqb-true m top one.0.1))))
          | inr old ↦ subst (λ (p : Passed). Apart p (given epoch n)) (sym old.1) (elim (either epoch n) [
            | inl one ↦ subst (Apart (l.given epoch m)) (sym one.1) (ahead epoch m).0
            | inr other ↦ subst (Apart (l.given epoch m)) (sym other.1) (l.ordered epoch m n less)
          ])
        ]

    pub line_gives : GoesOn l [] h (Some (record entity { tx = tx })) parcels
    line_gives = line_gives_by l.queued refl l.waits l.held l.ahead l.pairs (λ p is. is.queued)

-- a port that its node opens anew or closes, with an empty queue
pub line_cleared : {t : Contents} {h : List Entry} {q : PortName} {entity : Option Entity} {queue : List Parcel} (l : PortLine t h q entity queue) (x : Entry) (now : Option Entity)
    → ((e : Entity) → now ≡ Some e → ((n : ℕ) → kept_at e.tx n ≡ None) × (relay_epoch q h < e.epoch) × (e.epoch ≤ relay_epoch q (x ∷ h)))
    → GoesOn l [] (x ∷ h) now []
line_cleared {t} {h} {q} l x now opens = record {
  line = record {
    given = l.given;
    queued = [];
    waits = refl;
    held = tt;
    kept = λ e is n k at. absurd (none-some k (sym ((opens e is).0 n) ∙ at));
    unused = λ e is n high. l.fresh e.epoch n (opens e is).1;
    within = λ e is. (opens e is).2;
    fresh = λ epoch n high. l.fresh epoch n (omega (arith, high, relay_rises x h q));
    past = λ epoch n. elim (l.past epoch n) [ inl is ↦ inl (of_later x h (l.given epoch n) is) | inr unused_yet ↦ inr unused_yet ];
    ordered = l.ordered;
    ahead = λ epoch n. tt;
    pairs = tt;
  };
  extends = λ epoch n. inl refl;
  behind = λ p is none. record { given = is.given; queued = tt };
}

-- what was given stays given behind two changes
pub extends_then : {a b c d : Passed} → (b ≡ a) ⊎ (a ≡ d) → (c ≡ b) ⊎ (b ≡ d) → (c ≡ a) ⊎ (a ≡ d)
extends_then (inr unused) second = inr unused
extends_then (inl same) (inl also) = inl (also ∙ same)
extends_then (inl same) (inr unused) = inr (sym same ∙ unused)

-- one change behind another
pub goes_then : {t : Contents} {h : List Entry} {q : PortName} {entity : Option Entity} {queue : List Parcel} (l : PortLine t h q entity queue) (more : List Held) (g : List Entry)
    (mid : Option Entity) (between : List Parcel) (first : GoesOn l more g mid between) (i : List Entry) (now : Option Entity) (rest : List Parcel)
    → GoesOn first.line [] i now rest → GoesOn l more i now rest
goes_then l more g mid between first i now rest second = record {
  line = second.line;
  extends = λ epoch n. extends_then (first.extends epoch n) (second.extends epoch n);
  behind = λ p is also. second.behind p (first.behind p is also) tt;
}

-- the same entity and queue
pub recast : {t : Contents} {h : List Entry} {q : PortName} {entity : Option Entity} {queue : List Parcel} (l : PortLine t h q entity queue) (now : Option Entity)
    (rest : List Parcel)
    → now ≡ entity → rest ≡ queue → GoesOn l [] h now rest
recast l now rest same also = record {
  line = record {
    given = l.given;
    queued = l.queued;
    waits = l.waits ∙ sym also;
    held = l.held;
    kept = λ e is. l.kept e (sym same ∙ is);
    unused = λ e is. l.unused e (sym same ∙ is);
    within = λ e is. l.within e (sym same ∙ is);
    fresh = l.fresh;
    past = l.past;
    ordered = l.ordered;
    ahead = l.ahead;
    pairs = l.pairs;
  };
  extends = λ epoch n. inl refl;
  behind = λ p is none. record { given = is.given; queued = is.queued };
}

-- what the relay holds: a line of SDUs at each port, and in each slot one that comes behind all that was passed on before
pub record Relays (t : Contents) (h : List Entry) (n : Node) : Type 0 where
  pub line : (q : PortName) → PortLine t h q (entity_at n q) (queue_at n q)
  pub slotted : PortName → Passed
  pub in_slot : (i : PortName) (parcel : Parcel) → slot_at n i ≡ Some parcel
      → IsHeld t h parcel.route.egress (record { parcel = parcel; passed = slotted i }) × (parcel.from ≡ i)
  pub behind : (i : PortName) (parcel : Parcel) → slot_at n i ≡ Some parcel → (q : PortName) → IsBehind (line q) (slotted i)

-- the relay behind one more line: what was given stays given
pub record Carries {t : Contents} {h : List Entry} {n : Node} (r : Relays t h n) (g : List Entry) (new : Node) : Type 0 where
  pub relays : Relays t g new
  pub extends : (q : PortName) (epoch k : ℕ) → ((relays.line q).given epoch k ≡ (r.line q).given epoch k) ⊎ ((r.line q).given epoch k ≡ nowhere k)
