-- What comes into a queue from several ports, those of each port in their order, is in order with its completions.
use Rattle.std.proofs.Common.{◌≡◌, inl, inr, Bool, true, false, cond, ◌&&◌, List, [], ◌∷◌, ◌++◌, length, map, filter, refl, sym, ◌∙◌, ap, subst, arith}
use Rattle.std.specs.List.{AllByRecursion}
use Rattle.std.proofs.lemmas.Bool.{cases_Bool, cond-true, cond-false, true≢false}
use Rattle.link_base.specs.declared.names.PortName.{PortName}
use Rattle.node_model.specs.declared.parcel.Parcel.{Parcel}
use Rattle.node_model.specs.Names.{is_port}
use Rattle.node_model.proofs.Finding.{each_append, each_left, each_right}
use Rattle.node_model.proofs.Names.{port_is, port_refl}
use Rattle.chain_model.specs.Bursts.{is_from, goes_to}
use Rattle.chain_law.proofs.Members.{IsIn, in_two, in_first, in_second}
use Rattle.chain_law.proofs.Pairs.{Pairwise, each_picked, each_then, pairs_picked}
use Rattle.carried_law.proofs.Relayed.{Held, parcel_of, Follow}

-- the completion is on the port that the SDU tells
abbrev pub TellsPort : Held → Type 0
TellsPort x = x.passed.hop.port ≡ x.parcel.from

-- of these SDUs those that came over a port
abbrev over : PortName → List Held → List Parcel
over port xs = filter (is_from port) (map parcel_of xs)

abbrev head_of : Parcel → List Parcel → Parcel
head_of other [] = other
head_of other (x ∷ xs) = x

abbrev tail_of : List Parcel → List Parcel
tail_of [] = []
tail_of (x ∷ xs) = xs

-- the first SDU that came over a port, and those before and behind it
record Split (port : PortName) (x : Parcel) (rest : List Parcel) (ys : List Held) : Type 0 where
  first : List Held
  this : Held
  behind : List Held
  its : ys ≡ first ++ this ∷ behind
  is : this.parcel ≡ x
  others : AllByRecursion (λ (b : Held). is_from port b.parcel ≡ false) first
  more : rest ≡ over port behind

split : (port : PortName) (x : Parcel) (rest : List Parcel) (ys : List Held) → x ∷ rest ≡ over port ys → Split port x rest ys
split port x rest [] e = absurd (omega (arith, ap length e))
split port x rest (y ∷ ys) e = elim (cases_Bool (is_from port y.parcel)) [
  | inl mine ↦
      let e : x ∷ rest ≡ y.parcel ∷ over port ys = e ∙ cond-true (is_from port y.parcel) (y.parcel ∷ over port ys) (over port ys) mine in
      record { first = []; this = y; behind = ys; its = refl; is = sym (ap (head_of x) e); others = tt; more = ap tail_of e }
  | inr other ↦
      let s = split port x rest ys (e ∙ cond-false (is_from port y.parcel) (y.parcel ∷ over port ys) (over port ys) other) in
      record { first = y ∷ s.first; this = s.this; behind = s.behind; its = ap (λ (l : List Held). y ∷ l) s.its; is = s.is; others = (other, s.others); more = s.more }
]

-- where one is left out that came over another port, or none before came over it
without_other : (port : PortName) (first : List Held) (this : Held) (behind : List Held) → is_from port this.parcel ≡ false
    → over port (first ++ this ∷ behind) ≡ over port (first ++ behind)
without_other port [] this behind other = cond-false (is_from port this.parcel) (this.parcel ∷ over port behind) (over port behind) other
without_other port (x ∷ xs) this behind other = ap (λ (l : List Parcel). cond (is_from port x.parcel) (x.parcel ∷ l) l) (without_other port xs this behind other)

behind_others : (port : PortName) (first behind : List Held) → AllByRecursion (λ (b : Held). is_from port b.parcel ≡ false) first → over port (first ++ behind) ≡ over port behind
behind_others port [] behind others = refl
behind_others port (x ∷ xs) behind others = cond-false (is_from port x.parcel) (x.parcel ∷ over port (xs ++ behind)) (over port (xs ++ behind)) others.0
    ∙ behind_others port xs behind others.1

module _ (R : Held → Held → Type 0) (this : Held) (behind : List Held) where
  pairs_without : (first : List Held) → Pairwise R (first ++ this ∷ behind) → Pairwise R (first ++ behind)
  pairs_without [] pairs = pairs.1
  pairs_without (x ∷ xs) pairs = (
    each_append (R x) xs behind (each_left (R x) xs (this ∷ behind) pairs.0) (each_right (R x) xs (this ∷ behind) pairs.0).1,
    pairs_without xs pairs.1,
  )

  pairs_at : (first : List Held) → Pairwise R (first ++ this ∷ behind) → AllByRecursion (R this) behind
  pairs_at [] pairs = pairs.0
  pairs_at (x ∷ xs) pairs = pairs_at xs pairs.1

-- what each has, each among them has
pub each_among : {T : Type 0} (P : T → Type 0) (ys zs : List T) → AllByRecursion P ys → AllByRecursion (IsIn ys) zs → AllByRecursion P zs
each_among P ys [] all among = tt
each_among {T} P ys (z ∷ zs) all among = (one ys all among.0, each_among P ys zs all among.1)
  where
    one : (ys : List T) → AllByRecursion P ys → IsIn ys z → P z
    one [] all i = absurd i
    one (y ∷ ys) all (inl e) = subst P e all.0
    one (y ∷ ys) all (inr i) = one ys all.1 i

-- SDUs in their order by ports, and their completions
pub record Woven (xs : List Parcel) (ys : List Held) : Type 0 where
  pub held : List Held
  pub its : map parcel_of held ≡ xs
  pub pairs : Pairwise Follow held
  pub among : AllByRecursion (IsIn ys) held

pub woven : (xs : List Parcel) (ys : List Held) → ((port : PortName) → filter (is_from port) xs ≡ over port ys) → Pairwise Follow ys → AllByRecursion TellsPort ys → Woven xs ys
woven [] ys each pairs tells = record { held = []; its = refl; pairs = tt; among = tt }
woven (x ∷ xs) ys each pairs tells = by (λ left each pairs tells. woven xs left each pairs tells)
  where
    own : PortName
    own = x.from

    s : Split own x (filter (is_from own) xs) ys
    s = split own x (filter (is_from own) xs) ys (sym (cond-true (is_from own x) (x ∷ filter (is_from own) xs) (filter (is_from own) xs) (port_refl own)) ∙ each own)

    left : List Held
    left = s.first ++ s.behind

    pairs_so : Pairwise Follow (s.first ++ s.this ∷ s.behind)
    pairs_so = subst (Pairwise Follow) s.its pairs

    tells_so : AllByRecursion TellsPort (s.first ++ s.this ∷ s.behind)
    tells_so = subst (AllByRecursion TellsPort) s.its tells

    each_left_over : (port : PortName) → filter (is_from port) xs ≡ over port left
    each_left_over port = elim (cases_Bool (is_from port x)) [
      | inl mine ↦ subst (λ (p : PortName). filter (is_from p) xs ≡ over p left) (sym (port_is port own mine)) (s.more ∙ sym (behind_others own s.first s.behind s.others))
      | inr other ↦ sym (cond-false (is_from port x) (x ∷ filter (is_from port) xs) (filter (is_from port) xs) other) ∙ each port ∙ ap (over port) s.its
          ∙ without_other port s.first s.this s.behind (ap (is_from port) s.is ∙ other)
    ]

    -- those before it came over other ports
    apart : AllByRecursion (Follow s.this) s.first
    apart = others_apart s.first s.others (each_left TellsPort s.first (s.this ∷ s.behind) tells_so)
      where
        own_port : s.this.passed.hop.port ≡ own
        own_port = (each_right TellsPort s.first (s.this ∷ s.behind) tells_so).0 ∙ ap (λ (p : Parcel). p.from) s.is

        others_apart : (bs : List Held) → AllByRecursion (λ (b : Held). is_from own b.parcel ≡ false) bs → AllByRecursion TellsPort bs → AllByRecursion (Follow s.this) bs
        others_apart [] others tells = tt
        others_apart (b ∷ bs) others tells = (
          λ same. absurd (true≢false (sym (port_refl own) ∙ ap (is_port own) (sym own_port ∙ same ∙ tells.0) ∙ others.0)),
          others_apart bs others.1 tells.1,
        )

    by : ((left : List Held) → ((port : PortName) → filter (is_from port) xs ≡ over port left) → Pairwise Follow left → AllByRecursion TellsPort left → Woven xs left)
        → Woven (x ∷ xs) ys
    by more =
        let rest = more left each_left_over (pairs_without Follow s.this s.behind s.first pairs_so)
        (each_append TellsPort s.first s.behind (each_left TellsPort s.first (s.this ∷ s.behind) tells_so) (each_right TellsPort s.first (s.this ∷ s.behind) tells_so).1) in
        record {
          held = s.this ∷ rest.held;
          its = ap (λ (p : Parcel). p ∷ map parcel_of rest.held) s.is ∙ ap (λ (l : List Parcel). x ∷ l) rest.its;
          pairs = (
            each_among (Follow s.this) left rest.held (each_append (Follow s.this) s.first s.behind apart (pairs_at Follow s.this s.behind s.first pairs_so)) rest.among,
            rest.pairs,
          );
          among = subst (λ (l : List Held). AllByRecursion (IsIn l) (s.this ∷ rest.held)) (sym s.its) (
            in_second s.first (s.this ∷ s.behind) s.this (inl refl),
            each_then (IsIn left) (IsIn (s.first ++ s.this ∷ s.behind)) (λ z is. elim (in_two s.first s.behind z is) [
              | inl here ↦ in_first s.first (s.this ∷ s.behind) z here
              | inr there ↦ in_second s.first (s.this ∷ s.behind) z (inr there)
            ]) rest.held rest.among,
          );
        }

-- of all that ports put, what leads to one
abbrev pub leads_to : PortName → Held → Bool
leads_to q x = goes_to q x.parcel

picked_over : (q port : PortName) (xs : List Held) → filter (λ (p : Parcel). is_from port p && goes_to q p) (map parcel_of xs) ≡ over port (filter (leads_to q) xs)
picked_over q port [] = refl
picked_over q port (x ∷ xs) = by (goes_to q x.parcel) refl (picked_over q port xs)
  where
    rest : List Parcel
    rest = filter (λ (p : Parcel). is_from port p && goes_to q p) (map parcel_of xs)

    never : (b : Bool) → (b && false) ≡ false
    never true = refl
    never false = refl

    always : (b : Bool) → (b && true) ≡ b
    always true = refl
    always false = refl

    by : (b : Bool) → goes_to q x.parcel ≡ b → rest ≡ over port (filter (leads_to q) xs)
        → cond (is_from port x.parcel && goes_to q x.parcel) (x.parcel ∷ rest) rest ≡ over port (cond (goes_to q x.parcel) (x ∷ filter (leads_to q) xs) (filter (leads_to q) xs))
    by true is more = ap (λ (b : Bool). cond (is_from port x.parcel && b) (x.parcel ∷ rest) rest) is
        ∙ ap (λ (b : Bool). cond b (x.parcel ∷ rest) rest) (always (is_from port x.parcel))
        ∙ ap (λ (l : List Parcel). cond (is_from port x.parcel) (x.parcel ∷ l) l) more
        ∙ sym (ap (over port) (cond-true (goes_to q x.parcel) (x ∷ filter (leads_to q) xs) (filter (leads_to q) xs) is))
    by false is more = ap (λ (b : Bool). cond (is_from port x.parcel && b) (x.parcel ∷ rest) rest) is
        ∙ ap (λ (b : Bool). cond b (x.parcel ∷ rest) rest) (never (is_from port x.parcel))
        ∙ more ∙ sym (ap (over port) (cond-false (goes_to q x.parcel) (x ∷ filter (leads_to q) xs) (filter (leads_to q) xs) is))

-- so what came into a queue of what ports put is in order with its completions
pub came_woven : (q : PortName) (came : List Parcel) (put : List Held) → Pairwise Follow put → AllByRecursion TellsPort put
    → ((port : PortName) → filter (is_from port) came ≡ filter (λ parcel. is_from port parcel && goes_to q parcel) (map parcel_of put))
    → Woven came (filter (leads_to q) put)
came_woven q came put pairs tells each = woven came (filter (leads_to q) put) (λ port. each port ∙ picked_over q port put) (pairs_picked Follow (leads_to q) put pairs)
    (each_picked TellsPort (leads_to q) put tells)
