-- What a hop's receiver has, where what it heard is what a history delivers.
use Rattle.std.proofs.Common.{◌≡◌, ◌↔◌, ℕ, ◌<◌, List, [], ◌∷◌, length, get_or, ⊎_elim, refl, sym, ◌∙◌, ap, subst, arith}
use Rattle.std.specs.List.{Contains}
use Rattle.rlc_pdu.specs.Amd.{Amd}
use Rattle.rlc_model.specs.Heard.{Data, HasByte as HasByteOf, HasEnd as HasEndOf, HeardAs}
use Rattle.rlc_model.specs.Rx.{Done, got}
use Rattle.rlc_law.specs.Hop.{Hop, Reaches, given_at}
use Rattle.rlc_law.proofs.Base.{done_below}
use Rattle.rlc_law.proofs.Inductive.{reaches_inv}
use Rattle.script_text.specs.History.{Entry}
use Rattle.chain_model.specs.Heard.{HopOf, Delivers, Delivered, HasByte, HasEnd, HeardAt, CompletesAt}
use Rattle.heard_law.specs.Foundations.{HeardLaws}
use Rattle.heard_law.specs.Receiving.{HasDelivered}

-- a hop that can be reached, whose receiver has heard what a history delivers over a hop
pub record HasLog (o : Hop) (hop : HopOf) (h : List Entry) : Type 0 where
  pub reaches : Reaches o
  pub log : (d : Data) → Contains o.heard d ↔ Delivered hop h d.number d.view

module _ (laws : HeardLaws) (o : Hop) (hop : HopOf) (h : List Entry) (x : HasLog o hop h) where
  byte_told : (n p b : ℕ) → HasByteOf o.heard n p b → HasByte hop h n p b
  byte_told n p b y = (y.0.view, subst (λ (n : ℕ). Delivered hop h n y.0.view) y.2 ((x.log y.0).0 y.1), y.3)

  byte_heard : (n p b : ℕ) → HasByte hop h n p b → HasByteOf o.heard n p b
  byte_heard n p b y = (record { number = n; view = y.0 }, (x.log (record { number = n; view = y.0 })).1 y.1, refl, y.2)

  end_told : (n l : ℕ) → HasEndOf o.heard n l → HasEnd hop h n l
  end_told n l y = (y.0.view, subst (λ (n : ℕ). Delivered hop h n y.0.view) y.2 ((x.log y.0).0 y.1), y.3, y.4)

  end_heard : (n l : ℕ) → HasEnd hop h n l → HasEndOf o.heard n l
  end_heard n l y = (record { number = n; view = y.0 }, (x.log (record { number = n; view = y.0 })).1 y.1, refl, y.2, y.3)

  heard_told : (n : ℕ) (sdu : List ℕ) → HeardAs o.heard n sdu → HeardAt hop h n sdu
  heard_told n sdu y = record { end = end_told n (length sdu) y.end; bytes = λ place lt. byte_told n place (get_or sdu place 0) (y.bytes place lt) }

  told_heard : (n : ℕ) (sdu : List ℕ) → HeardAt hop h n sdu → HeardAs o.heard n sdu
  told_heard n sdu y = record { end = end_heard n (length sdu) y.end; bytes = λ place lt. byte_heard n place (get_or sdu place 0) (y.bytes place lt) }

  -- what is heard is the SDU given, and complete
  pub heard_given : (n : ℕ) (sdu : List ℕ) → HeardAt hop h n sdu → (n < length o.given) × (sdu ≡ given_at o n)
  heard_given n sdu y = laws.as_given o x.reaches n sdu (told_heard n sdu y)

  pub heard_done : (n : ℕ) (sdu : List ℕ) → HeardAt hop h n sdu → got o.rx n ≡ Done
  heard_done n sdu y =
      let g = heard_given n sdu y in
      (laws.complete o x.reaches n g.0).1 (subst (HeardAs o.heard n) g.1 (told_heard n sdu y))

  -- what is complete is heard, as the SDU given
  pub done_heard : (n : ℕ) → got o.rx n ≡ Done → HeardAt hop h n (given_at o n)
  done_heard n done = heard_told n (given_at o n) ((laws.complete o x.reaches n (omega (arith, done_below o.rx n done, (reaches_inv o x.reaches).rx.long))).0 done)

  pub has_delivered : HasDelivered hop h o.rx
  has_delivered = record {
    done = λ n. (λ done. (given_at o n, done_heard n done), λ heard. heard_done n heard.0 heard.1);
    one = λ n a b y z. (heard_given n a y).1 ∙ sym (heard_given n b z).1;
    held = λ n p not_done.
        let so = laws.holds o x.reaches n p not_done in
        (λ none b has. so.0 none b (byte_heard n p b has), λ none. so.1 (λ b has. none b (byte_told n p b has)));
    ends = λ n l not_done.
        let so = laws.ends o x.reaches n l not_done in
        (λ is. end_told n l (so.0 is), λ has. so.1 (end_heard n l has));
  }

-- a line that delivers nothing over a hop completes nothing there
module _ (hop : HopOf) (h : List Entry) (e : Entry) (none : (number : ℕ) (fields : Amd) → Delivers hop h e number fields → ⊥) where
  before : (n : ℕ) (fields : Amd) → Delivered hop (e ∷ h) n fields → Delivered hop h n fields
  before n fields d = ⊎_elim (λ now. absurd (none n fields now)) (λ old. old) d

  pub completes_none : (n : ℕ) (sdu : List ℕ) → CompletesAt hop h e n sdu → ⊥
  completes_none n sdu c = c.before (record {
    end = (c.now.end.0, before n c.now.end.0 c.now.end.1, c.now.end.2, c.now.end.3);
    bytes = λ place lt. let y = c.now.bytes place lt in (y.0, before n y.0 y.1, y.2);
  })

-- a hop behind a delivery completes no number that isn't done by it
module _ (laws : HeardLaws) (old new : Hop) (hop : HopOf) (h : List Entry) (e : Entry) (x : HasLog old hop h) (y : HasLog new hop (e ∷ h)) (given : new.given ≡ old.given) where
  given_same : (n : ℕ) → given_at new n ≡ given_at old n
  given_same n = ap (λ (l : List (List ℕ)). get_or l n []) given

  -- where it is done behind the line, and was before, it isn't completed
  pub was_done : (n : ℕ) (sdu : List ℕ) → got old.rx n ≡ Done → CompletesAt hop h e n sdu → ⊥
  was_done n sdu done c = c.before (subst (HeardAt hop h n) (sym ((heard_given laws new hop (e ∷ h) y n sdu c.now).1 ∙ given_same n)) (done_heard laws old hop h x n done))

  -- what is completed is done, and the SDU given
  pub completed_given : (n : ℕ) (sdu : List ℕ) → CompletesAt hop h e n sdu → (got new.rx n ≡ Done) × (sdu ≡ given_at old n)
  completed_given n sdu c = (heard_done laws new hop (e ∷ h) y n sdu c.now, (heard_given laws new hop (e ∷ h) y n sdu c.now).1 ∙ given_same n)
