-- What the PDCP ends of a key hold, and what hearing a data PDU does there.
use Rattle.std.proofs.Common.{◌≡◌, ◌⊎◌, inl, inr, ℕ, ◌+◌, ◌%◌, ◌<◌, ◌≤◌, List, ◌∷◌, ◌++◌, length, Some, refl, sym, ◌∙◌, ap, subst, arith}
use Rattle.std.proofs.lemmas.Bool.{cases_lt}
use Rattle.link_base.specs.declared.names.SnSize.{SnSize}
use Rattle.link_base.specs.declared.names.SnSize.TheVariants.{S12, S18}
use Rattle.link_base.specs.declared.names.Key.{Key}
use Rattle.link_base.specs.SequenceNumbers.{modulus, window, most_unconfirmed, Near}
use Rattle.bearer_map.specs.declared.rows.BearerRow.{BearerRow}
use Rattle.pdcp_pdu.specs.Pdcp.{Pdcp, Sdu, Report, IsPdcp, pdcp_bytes, IsBody}
use Rattle.pdcp_model.specs.declared.answers.PdcpHeard.{PdcpHeard}
use Rattle.pdcp_model.specs.declared.answers.PdcpHeard.TheVariants.{Up, Stored, Old, Repeat, BeforeStart, PastEnd}
use Rattle.pdcp_model.specs.Sender.{Sender, kept_at, confirmed, data_pdu}
use Rattle.pdcp_model.specs.Receiver.{Receiver, rx_deliv, Hears}
use Rattle.pdcp_model.specs.HandUp.{Hearing, IsHeard, HandUp, HasHeard, IsCount, handed_by}
use Rattle.node_model.specs.Tables.{first_count}
use Rattle.pdcp_law.proofs.Counts.{one_near}
use Rattle.book_law.specs.Honest.{HasCount}
use Rattle.book_law.specs.Kept.{KeepsSdus}
use Rattle.direct_run_law.specs.Foundations.{BookLaws, PdcpLaws}
use Rattle.direct_run_law.proofs.Carried.{Waits}
use Rattle.direct_run_law.proofs.Given.{GrowsBy}

-- what a sender and a receiving side of a key hold, by the book of the lines so far
pub record IsBooked (row : BearerRow) (key : Key) (s : Sender) (r : Receiver) : Type 0 where
  pub sdus : List (List ℕ)
  pub keeps : KeepsSdus row key.way sdus s
  pub hearings : List Hearing
  pub handed : List (List ℕ)
  pub heard : HasHeard row.pdcp (first_count row key.way) hearings handed r
  pub hand_up : HandUp row.pdcp (first_count row key.way) hearings handed
  pub number : r.handed ≡ length handed
  pub few : confirmed s ≤ length handed

-- a report is read as the one that was spelt, and never as a data PDU
pub report_read : (size z : SnSize) (fmc other : ℕ) (bits more : List ℕ) → IsPdcp z (Report other more) (pdcp_bytes size (Report fmc bits)) → (other ≡ fmc) × (more ≡ bits)
report_read size z fmc other bits more is = (omega (arith, is.1), is.2)

pub report_no_data : (size z : SnSize) (fmc sn : ℕ) (bits sdu : List ℕ) → IsPdcp z (Sdu sn sdu) (pdcp_bytes size (Report fmc bits)) → ⊥
report_no_data size S12 fmc sn bits sdu is = omega (arith, is.0)
report_no_data size S18 fmc sn bits sdu is = omega (arith, is.0)

some_modulus : (size : SnSize) (n : ℕ) → n % modulus size < modulus size
some_modulus S12 n = omega arith
some_modulus S18 n = omega arith

most_window : (size : SnSize) → most_unconfirmed size ≤ window size
most_window S12 = omega arith
most_window S18 = omega arith

abbrev sn_in : Pdcp → ℕ
sn_in (Sdu sn sdu) = sn
sn_in (Report fmc bits) = fmc

abbrev body_in : Pdcp → List ℕ
body_in (Sdu sn sdu) = sdu
body_in (Report fmc bits) = bits

-- a receiving side keeps its size and its first COUNT
hears_settings : (old new : Receiver) (sn : ℕ) (sdu : List ℕ) (answer : PdcpHeard) → Hears old sn sdu answer new → (new.size ≡ old.size) × (new.first ≡ old.first)
hears_settings old new sn sdu BeforeStart h = (ap (λ (r : Receiver). r.size) h.1, ap (λ (r : Receiver). r.first) h.1)
hears_settings old new sn sdu PastEnd h = (ap (λ (r : Receiver). r.size) h.3, ap (λ (r : Receiver). r.first) h.3)
hears_settings old new sn sdu Old h = (ap (λ (r : Receiver). r.size) h.4, ap (λ (r : Receiver). r.first) h.4)
hears_settings old new sn sdu Repeat h = (ap (λ (r : Receiver). r.size) h.4, ap (λ (r : Receiver). r.first) h.4)
hears_settings old new sn sdu Stored h = (ap (λ (r : Receiver). r.size) h.5, ap (λ (r : Receiver). r.first) h.5)
hears_settings old new sn sdu (Up sdus) h = (ap (λ (r : Receiver). r.size) h.4, ap (λ (r : Receiver). r.first) h.4)

module _
    (l : BookLaws) (p : PdcpLaws) (row : BearerRow) (key : Key) (s : Sender) (r : Receiver) (b : IsBooked row key s r) (size : r.size ≡ s.size) (first : r.first ≡ s.first) where
  abbrev F : ℕ
  F = first_count row key.way

  its_first : r.first ≡ F
  its_first = first ∙ b.keeps.first

  -- a data PDU that waits has no fault, is no report, and is read as it was spelt
  pub waits_spelt : (m : ℕ) (octets : List ℕ) → Waits s r m octets → (sdu : List ℕ) × (kept_at s m ≡ Some sdu) × IsPdcp r.size (Sdu ((s.first + m) % modulus s.size) sdu) octets
  waits_spelt m octets w =
      let its = b.keeps.each m w.sdu w.kept in
      let body : IsBody w.sdu = subst IsBody (sym its.1) (b.keeps.bodies m its.0) in
      let is = (p.spelling.0 s.size (data_pdu s m w.sdu) (some_modulus s.size (s.first + m), body)).0 in (
        w.sdu,
        w.kept,
        subst (λ (z : SnSize). IsPdcp z (Sdu ((s.first + m) % modulus s.size) w.sdu) octets) (sym size)
            (subst (IsPdcp s.size (data_pdu s m w.sdu)) (sym w.spelt) is),
      )

  pub waits_read : (m : ℕ) (octets : List ℕ) (w : Waits s r m octets) (sn : ℕ) (sdu : List ℕ) → IsPdcp r.size (Sdu sn sdu) octets
      → (sn ≡ (s.first + m) % modulus s.size) × (kept_at s m ≡ Some sdu)
  waits_read m octets w sn sdu is =
      let x = waits_spelt m octets w in
      let same = p.reading r.size (Sdu sn sdu) (Sdu ((s.first + m) % modulus s.size) x.0) octets is x.2 in
      (ap sn_in same, x.1 ∙ ap (λ (y : Pdcp). Some (body_in y)) (sym same))

  -- the COUNT of a data PDU that waits is near
  module _ (m : ℕ) (octets : List ℕ) (w : Waits s r m octets) where
    low : rx_deliv r ≤ s.first + m
    low = elim (cases_lt (s.first + m) (rx_deliv r)) [
      | inl lt ↦ absurd (w.unheard (inl lt))
      | inr le ↦ le
    ]

    its_count : IsCount row.pdcp F ((s.first + m) % modulus s.size) (rx_deliv r) (s.first + m)
    its_count =
        let its = b.keeps.each m w.sdu w.kept in
        record {
          near = record {
            same = ap (λ (z : SnSize). (s.first + m) % modulus z) (sym b.keeps.size);
            low = omega (arith, low);
            high = omega (arith, its.0, b.keeps.few, b.few, b.number, most_window row.pdcp, first);
          };
          from = omega (arith, b.keeps.first);
          within = omega (arith, b.keeps.counts m its.0, b.keeps.first);
        }

    -- it is not too old
    pub recent : length b.handed ≤ m
    recent = omega (arith, low, b.number, first)

    -- hearing it adds just its COUNT
    pub hears_grows : (sn : ℕ) (sdu : List ℕ) (answer : PdcpHeard) (new : Receiver) → sn ≡ (s.first + m) % modulus s.size → Hears r sn sdu answer new
        → GrowsBy s r (s.first + m) new
    hears_grows sn sdu answer new is hears = record {
      grows = record { size = settings.0; first = settings.1; has = has };
      own = l.keeps_counts row.pdcp F b.hearings b.handed r b.heard hearing answer new hears (s.first + m) (omega (arith, b.keeps.first)) (inr counts);
      only = λ n had. by n ((l.has_heard row.pdcp F (hearing ∷ b.hearings) (b.handed ++ handed_by answer) new (r, b.handed, b.heard, answer, hears, refl) (s.first + n)
          (omega (arith, b.keeps.first))).0 had);
    }
      where
        hearing : Hearing
        hearing = record { sn = sn; sdu = sdu }

        counts : IsCount row.pdcp F sn (rx_deliv r) (s.first + m)
        counts = subst (λ (n : ℕ). IsCount row.pdcp F n (rx_deliv r) (s.first + m)) (sym is) its_count

        settings : (new.size ≡ r.size) × (new.first ≡ r.first)
        settings = hears_settings r new sn sdu answer hears

        has : (count : ℕ) → HasCount r count → HasCount new count
        has count had = elim (cases_lt count F) [
          | inl lt ↦ inl (omega (arith, lt, settings.1, its_first))
          | inr le ↦ l.keeps_counts row.pdcp F b.hearings b.handed r b.heard hearing answer new hears count le (inl had)
        ]

        by : (n : ℕ) → IsHeard row.pdcp F (hearing ∷ b.hearings) (s.first + n) → HasCount r (s.first + n) ⊎ (s.first + n ≡ s.first + m)
        by n (x, inl before) = inl ((l.has_heard row.pdcp F b.hearings b.handed r b.heard (s.first + n) (omega (arith, b.keeps.first))).1 (x, before))
        by n (x, inr (fresh, same, up, run, count)) =
            let one : length up ≡ length b.handed = ap length (p.hand_up row.pdcp F b.hearings up b.handed run b.hand_up) in
            let base : F + length up ≡ rx_deliv r = omega (arith, one, b.number, its_first) in
            inr (one_near row.pdcp sn (rx_deliv r) (s.first + n) (s.first + m) (subst (λ (n' : ℕ). Near row.pdcp sn n' (s.first + n)) base count.near) counts.near)
