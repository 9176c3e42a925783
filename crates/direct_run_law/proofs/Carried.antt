-- What a direct port carries of a key, and what keeps it so.
use Rattle.std.proofs.Common.{◌≡◌, ℕ, ◌+◌, ◌%◌, ◌<◌, ◌≤◌, true, false, List, Some, None, refl, sym, ◌∙◌, ap, subst, arith}
use Rattle.link_base.specs.declared.names.Key.{Key}
use Rattle.link_base.specs.declared.names.SnSize.{SnSize}
use Rattle.link_base.specs.declared.rlc_words.Tag.{Tag}
use Rattle.link_base.specs.SequenceNumbers.{modulus}
use Rattle.rlc_model.specs.Rx.{Rx, Done, got}
use Rattle.rlc_model.specs.Tx.{Tx, Kept, kept_at as rlc_kept_at, tx_next}
use Rattle.pdcp_pdu.specs.Pdcp.{Sdu, Report, pdcp_bytes}
use Rattle.pdcp_model.specs.Sender.{Sender, kept_at, data_pdu, is_reported}
use Rattle.pdcp_model.specs.Receiver.{Receiver}
use Rattle.chain_law.specs.Calls.{KeepsTags, CompletesNone}
use Rattle.book_law.specs.Honest.{HasCount}

-- a data PDU that wasn't heard: the sender keeps its SDU, these are its octets, and the receiving side doesn't have its COUNT
pub record Waits (s : Sender) (r : Receiver) (m : ℕ) (octets : List ℕ) : Type 0 where
  pub sdu : List ℕ
  pub kept : kept_at s m ≡ Some sdu
  pub spelt : octets ≡ pdcp_bytes s.size (data_pdu s m sdu)
  pub unheard : HasCount r (s.first + m) → ⊥

-- an SDU of RLC is the data PDU of a number that had its turn. Where RLC has completed it the receiving side has its COUNT
pub record CarriesData (key : Key) (done : Type 0) (s : Sender) (r : Receiver) (tag : Tag) (octets : List ℕ) (m : ℕ) : Type 0 where
  pub below : m < s.place
  pub its_key : tag.key ≡ key
  pub its_count : tag.count ≡ Some (s.first + m)
  pub heard : done → HasCount r (s.first + m)
  pub waits : (done → ⊥) → Waits s r m octets

-- it is a status report about the bearer's other key that tells of no COUNT which isn't had
pub record CarriesReport (far : Receiver) (tag : Tag) (octets : List ℕ) : Type 0 where
  pub no_count : tag.count ≡ None
  pub fmc : ℕ
  pub bits : List ℕ
  pub spelt : octets ≡ pdcp_bytes far.size (Report fmc bits)
  pub had : (count : ℕ) → far.first ≤ count → is_reported fmc bits count ≡ true → HasCount far count

-- one of the two
pub data Carries (key : Key) (done : Type 0) (s : Sender) (r far : Receiver) (tag : Tag) (octets : List ℕ) : Type 0 where
  data_pdu_of : (m : ℕ) → CarriesData key done s r tag octets m → Carries key done s r far tag octets
  report : CarriesReport far tag octets → Carries key done s r far tag octets

-- what the two ends of a direct port hold for a key in its way: the transmitter and the PDCP sender at one end, the RLC receiver and the PDCP receiving side at the
-- other, and at the first end the receiving side of the bearer's other key
pub record Fits (key : Key) (tx : Tx) (rx : Rx) (s : Sender) (r far : Receiver) : Type 0 where
  pub size : r.size ≡ s.size
  pub first : r.first ≡ s.first
  pub goes : s.waits ≡ false
  pub carries : (n : ℕ) (k : Kept) → rlc_kept_at tx n ≡ Some k → Carries key (got rx n ≡ Done) s r far k.tag k.sdu
  pub apart : (n o : ℕ) (k l : Kept) (count : ℕ) → rlc_kept_at tx n ≡ Some k → rlc_kept_at tx o ≡ Some l → k.tag.count ≡ Some count → l.tag.count ≡ Some count → n ≡ o
  pub complete : (n : ℕ) → got rx n ≡ Done → n < tx_next tx
  pub heard : (m : ℕ) → HasCount r (s.first + m) → m < s.place

-- a sender still keeps each SDU that it kept and that wasn't heard, and its place doesn't fall
pub record SenderKeeps (r : Receiver) (old new : Sender) : Type 0 where
  pub size : new.size ≡ old.size
  pub first : new.first ≡ old.first
  pub place : old.place ≤ new.place
  pub waits : new.waits ≡ old.waits
  pub kept : (m : ℕ) (sdu : List ℕ) → kept_at old m ≡ Some sdu → (HasCount r (old.first + m) → ⊥) → kept_at new m ≡ Some sdu

-- a receiving side has each COUNT that it had
pub record Grows (old new : Receiver) : Type 0 where
  pub size : new.size ≡ old.size
  pub first : new.first ≡ old.first
  pub has : (count : ℕ) → HasCount old count → HasCount new count

module _ (key : Key) (r : Receiver) (s t : Sender) (far more : Receiver) (keeps : SenderKeeps r s t) (grows : Grows far more) where
  waits_still : (m : ℕ) (octets : List ℕ) → Waits s r m octets → Waits t r m octets
  waits_still m octets w = record {
    sdu = w.sdu;
    kept = keeps.kept m w.sdu w.kept w.unheard;
    spelt = w.spelt ∙ ap (λ (z : SnSize). pdcp_bytes z (Sdu ((s.first + m) % modulus z) w.sdu)) (sym keeps.size)
        ∙ ap (λ (f : ℕ). pdcp_bytes t.size (Sdu ((f + m) % modulus t.size) w.sdu)) (sym keeps.first);
    unheard = λ has. w.unheard (subst (λ (f : ℕ). HasCount r (f + m)) keeps.first has);
  }

  -- what is carried stays
  pub carries_still : (was now : Type 0) → (was → now) → (now → was) → (tag : Tag) (octets : List ℕ) → Carries key was s r far tag octets → Carries key now t r more tag octets
  carries_still was now to from tag octets (data_pdu_of m d) = data_pdu_of m (record {
    below = omega (arith, d.below, keeps.place);
    its_key = d.its_key;
    its_count = d.its_count ∙ ap (λ (f : ℕ). Some (f + m)) (sym keeps.first);
    heard = λ done. subst (λ (f : ℕ). HasCount r (f + m)) (sym keeps.first) (d.heard (from done));
    waits = λ yet. waits_still m octets (d.waits (λ done. yet (to done)));
  })
  carries_still was now to from tag octets (report x) = report (record {
    no_count = x.no_count;
    fmc = x.fmc;
    bits = x.bits;
    spelt = x.spelt ∙ ap (λ (z : SnSize). pdcp_bytes z (Report x.fmc x.bits)) (sym grows.size);
    had = λ count low says. grows.has count (x.had count (omega (arith, low, grows.first)) says);
  })

  -- a call that completes nothing, a sender that still keeps what wasn't heard, and an end that hears more for the other key
  pub fits_still : (tx u : Tx) (rx q : Rx) → KeepsTags tx u → tx_next tx ≤ tx_next u → CompletesNone rx q → Fits key tx rx s r far → Fits key u q t r more
  fits_still tx u rx q tags long none f = record {
    size = f.size ∙ sym keeps.size;
    first = f.first ∙ sym keeps.first;
    goes = keeps.waits ∙ f.goes;
    carries = λ n k is.
        let was = tags n k is in
        subst (Carries key (got q n ≡ Done) t r more k.tag) (sym was.3)
        (subst (λ (tag : Tag). Carries key (got q n ≡ Done) t r more tag was.0.sdu) (sym was.2)
        (carries_still (got rx n ≡ Done) (got q n ≡ Done) (none n).1 (none n).0 was.0.tag was.0.sdu (f.carries n was.0 was.1)));
    apart = λ n o k l count a b x y.
        let c = tags n k a in
        let d = tags o l b in
        f.apart n o c.0 d.0 count c.1 d.1 (ap (λ (tag : Tag). tag.count) (sym c.2) ∙ x) (ap (λ (tag : Tag). tag.count) (sym d.2) ∙ y);
    complete = λ n done. omega (arith, f.complete n ((none n).0 done), long);
    heard = λ m has. omega (arith, f.heard m (subst (λ (x : ℕ). HasCount r (x + m)) keeps.first has), keeps.place);
  }

-- nothing changes
pub keeps_itself : (r : Receiver) (s : Sender) → SenderKeeps r s s
keeps_itself r s = record { size = refl; first = refl; place = omega arith; waits = refl; kept = λ m sdu is yet. is }

pub grows_itself : (r : Receiver) → Grows r r
grows_itself r = record { size = refl; first = refl; has = λ count has. has }

pub tags_themselves : (tx : Tx) → KeepsTags tx tx
tags_themselves tx n k is = (k, is, refl, refl)

pub none_itself : (rx : Rx) → CompletesNone rx rx
none_itself rx n = (λ e. e, λ e. e)
