-- What a decoder has read, and what it comes to.
use Rattle.std.proofs.Common.{◌≡◌, ℕ, ◌<◌, Bool, true, false, List, [], ◌∷◌, ◌++◌, length, take, drop, refl, sym, ap, subst, ◌∙◌, append_assoc, arith}
use Rattle.std.proofs.lemmas.List.{append-nil, nil_from_length}
use Rattle.link_base.specs.declared.names.SnSize.{SnSize}
use Rattle.rlc_status.specs.declared.status.Nack.{Nack}
use Rattle.rlc_status.specs.declared.fault.StatusFault.{StatusFault}
use Rattle.rlc_status.specs.declared.fault.StatusFault.TheVariants.{Trailing}
use Rattle.rlc_status.specs.Format.{bit, Then, IsFree, IsHeader, IsNack, IsNacks, IsStatus, e1_before, IsNackFault, IsFaultBehind, IsStatusFault, HasElement}
use Rattle.rlc_status.specs.Format.IsStatusFault.{of_end, of_nack}
use Rattle.rlc_status.proofs.Elements.{split}

-- behind E1 stand these elements, and behind the last one, whose E1 is more, the rest
pub AreRead : SnSize → ℕ → List Nack → Bool → List ℕ → List ℕ → Type 0
AreRead size e1 [] more rest octets = (e1 ≡ bit more) × (octets ≡ rest)
AreRead size e1 (nack ∷ nacks) more rest octets = (e1 ≡ 1) × (next : ℕ) × Then (IsNack IsFree size nack next) (λ behind. AreRead size next nacks more rest behind) octets

-- one more is read
read_more : (size : SnSize) (e1 : ℕ) (nacks : List Nack) (nack : Nack) (more : Bool) (rest behind octets : List ℕ)
    → AreRead size e1 nacks true rest octets → Then (IsNack IsFree size nack (bit more)) (λ r. r ≡ behind) rest → AreRead size e1 (nacks ++ nack ∷ []) more behind octets
unfolding AreRead
read_more size e1 [] nack more rest behind octets was one = (was.0, bit more, record { front = one.front; rest = one.rest; both = was.1 ∙ one.both; first = one.first; second = (refl, one.second) })
read_more size e1 (n ∷ nacks) nack more rest behind octets was one =
    (was.0, was.1, record { front = was.2.front; rest = was.2.rest; both = was.2.both; first = was.2.first; second = read_more size was.1 nacks nack more rest behind was.2.rest was.2.second one })

-- all are read
read_all : (size : SnSize) (e1 : ℕ) (nacks : List Nack) (rest octets : List ℕ) → AreRead size e1 nacks false rest octets → (e1 ≡ e1_before nacks) × Then (IsNacks IsFree size nacks) (λ r. r ≡ rest) octets
unfolding AreRead
read_all size e1 [] rest octets was = (was.0, record { front = []; rest = rest; both = was.1; first = refl; second = refl })
read_all size e1 (nack ∷ nacks) rest octets was =
    let tail = read_all size was.1 nacks rest was.2.rest was.2.second in (
      was.0,
      record {
        front = was.2.front ++ tail.1.front;
        rest = rest;
        both = was.2.both ∙ ap (λ (r : List ℕ). was.2.front ++ r) (tail.1.both ∙ ap (λ (r : List ℕ). tail.1.front ++ r) tail.1.second) ∙ sym (append_assoc was.2.front tail.1.front rest);
        first = record { front = was.2.front; rest = tail.1.front; both = refl; first = subst (λ (e : ℕ). IsNack IsFree size nack e was.2.front) tail.0 was.2.first; second = tail.1.first };
        second = refl;
      },
    )

-- the next one has a fault
read_to_fault : (size : SnSize) (e1 : ℕ) (nacks : List Nack) (rest octets : List ℕ) (fault : StatusFault) → AreRead size e1 nacks true rest octets → IsNackFault size rest fault → (e1 ≡ 1) × IsFaultBehind size nacks fault octets
unfolding AreRead
read_to_fault size e1 [] rest octets fault was wrong = (was.0, subst (λ (o : List ℕ). IsNackFault size o fault) (sym was.1) wrong)
read_to_fault size e1 (nack ∷ nacks) rest octets fault was wrong =
    let tail = read_to_fault size was.1 nacks rest was.2.rest fault was.2.second wrong in
    (was.0, record { front = was.2.front; rest = was.2.rest; both = was.2.both; first = subst (λ (e : ℕ). IsNack IsFree size nack e was.2.front) tail.0 was.2.first; second = tail.1 })

-- the header with ACK_SN, these elements and the rest are the octets
pub record HasRead (size : SnSize) (ack : ℕ) (nacks : List Nack) (more : Bool) (rest octets : List ℕ) : Type 0 where
  pub e1 : ℕ
  pub parts : Then (IsHeader IsFree size ack e1) (λ behind. AreRead size e1 nacks more rest behind) octets

-- behind the header nothing is read yet
pub begins : (size : SnSize) (ack : ℕ) (more : Bool) (rest octets : List ℕ) → IsHeader IsFree size ack (bit more) (take 3 octets) → rest ≡ drop 3 octets → HasRead size ack [] more rest octets
unfolding AreRead
begins size ack more rest octets header rest-is = record { e1 = bit more; parts = record { front = take 3 octets; rest = rest; both = sym (split 3 octets rest rest-is); first = header; second = (refl, refl) } }

-- one more element is read
pub goes_on : (size : SnSize) (ack : ℕ) (nacks : List Nack) (nack : Nack) (more : Bool) (rest behind octets : List ℕ)
    → HasRead size ack nacks true rest octets → Then (IsNack IsFree size nack (bit more)) (λ r. r ≡ behind) rest → HasRead size ack (nacks ++ nack ∷ []) more behind octets
goes_on size ack nacks nack more rest behind octets was one =
    let parts = was.parts in
    record { e1 = was.e1; parts = record { front = parts.front; rest = parts.rest; both = parts.both; first = parts.first; second = read_more size was.e1 nacks nack more rest behind parts.rest parts.second one } }

-- where an element is read, one stands behind the header
pub has_element : (size : SnSize) (ack : ℕ) (nacks : List Nack) (more : Bool) (rest octets : List ℕ) → 0 < length nacks → HasRead size ack nacks more rest octets → HasElement size octets
unfolding AreRead
has_element size ack [] more rest octets some was = absurd (omega (arith, some))
has_element size ack (nack ∷ nacks) more rest octets some was =
    let parts = was.parts in
    let one = parts.second in (
      ack,
      record {
        front = parts.front;
        rest = parts.rest;
        both = parts.both;
        first = subst (λ (e : ℕ). IsHeader IsFree size ack e parts.front) one.0 parts.first;
        second = (nack, one.1, record { front = one.2.front; rest = one.2.rest; both = one.2.both; first = one.2.first; second = tt });
      },
    )

-- a STATUS, and what is left behind it
status_then : (size : SnSize) (ack : ℕ) (nacks : List Nack) (rest octets : List ℕ) → HasRead size ack nacks false rest octets → Then (IsStatus size (record { ack = ack; nacks = nacks })) (λ r. r ≡ rest) octets
status_then size ack nacks rest octets was =
    let parts = was.parts in
    let all = read_all size was.e1 nacks rest parts.rest parts.second in
    record {
      front = parts.front ++ all.1.front;
      rest = rest;
      both = parts.both ∙ ap (λ (r : List ℕ). parts.front ++ r) (all.1.both ∙ ap (λ (r : List ℕ). all.1.front ++ r) all.1.second) ∙ sym (append_assoc parts.front all.1.front rest);
      first = record { front = parts.front; rest = all.1.front; both = refl; first = subst (λ (e : ℕ). IsHeader IsFree size ack e parts.front) all.0 parts.first; second = all.1.first };
      second = refl;
    }

-- where no more is announced and nothing is left, it is that STATUS
pub ends : (size : SnSize) (ack : ℕ) (nacks : List Nack) (rest octets : List ℕ) → HasRead size ack nacks false rest octets → length rest ≡ 0 → IsStatus size (record { ack = ack; nacks = nacks }) octets
ends size ack nacks rest octets was none =
    let status = status_then size ack nacks rest octets was in
    let whole : status.front ≡ octets = sym (append-nil status.front) ∙ ap (λ (r : List ℕ). status.front ++ r) (sym (status.second ∙ nil_from_length rest none)) ∙ sym status.both in
    subst (λ (o : List ℕ). IsStatus size (record { ack = ack; nacks = nacks }) o) whole status.first

-- where something is left, that is the fault
pub trails : (size : SnSize) (ack : ℕ) (nacks : List Nack) (rest octets : List ℕ) → HasRead size ack nacks false rest octets → 0 < length rest → IsStatusFault size octets Trailing
trails size ack nacks rest octets was some =
    let status = status_then size ack nacks rest octets was in
    of_end (record { ack = ack; nacks = nacks }) (record { front = status.front; rest = status.rest; both = status.both; first = status.first; second = rw status.second some })

-- where the next element has a fault, it is the first one
pub fails : (size : SnSize) (ack : ℕ) (nacks : List Nack) (rest octets : List ℕ) (fault : StatusFault) → HasRead size ack nacks true rest octets → IsNackFault size rest fault → IsStatusFault size octets fault
fails size ack nacks rest octets fault was wrong =
    let parts = was.parts in
    let here = read_to_fault size was.e1 nacks rest parts.rest fault parts.second wrong in
    of_nack ack nacks (record { front = parts.front; rest = parts.rest; both = parts.both; first = subst (λ (e : ℕ). IsHeader IsFree size ack e parts.front) here.0 parts.first; second = here.1 })
