-- What the status report of a receiving end tells: all that was heard.
use Rattle.std.proofs.Common.{◌≡◌, ◌≢◌, ◌↔◌, inl, inr, ℕ, zero, suc, ◌+◌, ◌-◌, ◌^◌, ◌<◌, ◌≤◌, ◌==◌, Bool, true, false, ◌&&◌, ◌||◌, nat_lt, List, [], ◌∷◌, length, drop, get_or, Option, Some, None, is_some, is_none, refl, sym, ◌∙◌, ap, subst, arith}
use Rattle.std.specs.List.{list_all}
use Rattle.std.proofs.lemmas.Bool.{cases_Bool, cases_lt, cases_eq, and_from, false≢true, lt-ltb, le-ltb, eq-eqb, ne_eqb}
use Rattle.std.proofs.lemmas.Option.{same_Some}
use Rattle.link_base.specs.declared.names.Drb.{Drb}
use Rattle.link_base.specs.declared.names.Key.{Key}
use Rattle.link_base.specs.declared.names.LocalId.{LocalId}
use Rattle.link_base.specs.declared.names.SnSize.{SnSize}
use Rattle.link_base.specs.declared.names.SnSize.TheVariants.{S12, S18}
use Rattle.link_base.specs.SequenceNumbers.{most_unconfirmed}
use Rattle.bearer_map.specs.declared.rows.BearerRow.{BearerRow}
use Rattle.pdcp_pdu.specs.Pdcp.{Report as ReportPdu, PdcpFits, pdcp_bytes}
use Rattle.pdcp_pdu.specs.Reports.{bit_of}
use Rattle.pdcp_model.specs.Receiver.{Receiver, stored_at, can_report, IsReport}
use Rattle.pdcp_model.specs.Sender.{is_reported}
use Rattle.node_model.specs.Feeding.{under}
use Rattle.node_model.specs.Names.{NodeName, source}
use Rattle.node_model.specs.State.{Incoming}
use Rattle.node_model.specs.Tables.{first_count}
use Rattle.chain_law.proofs.Feeds.{under_fits, report_long}
use Rattle.item_law.specs.State.{Sdu}
use Rattle.item_law.specs.State.{Tables as ItemTables}
use Rattle.item_law.proofs.Inductive.{reaches_inv}
use Rattle.item_law.proofs.kept.Invariant.{KeyFits, state_of}
use Rattle.item_chain.specs.View.{View}
use Rattle.item_chain.specs.Stands.{row_limit, item_tables, IsLongEnough, ReceiverFits, OutgoingFits, IncomingFits, calm, Ghost, Stands}
use Rattle.item_chain.specs.Fed.{ReportsTellAll}
use Rattle.item_chain.proofs.Receives.{some_is, none_is}

-- where nothing is past a place, all behind it are free
all_free : (m : ℕ) (ss : List (Option Sdu)) → ((n : ℕ) → m ≤ n → get_or ss n None ≡ None) → list_all is_none (drop m ss) ≡ true
all_free m [] none = by m
  where
    by : (m : ℕ) → list_all is_none (drop m (let xs : List (Option Sdu) = [] in xs)) ≡ true
    by zero = refl
    by (suc m) = refl
all_free zero (s ∷ ss) none = and_from (is_none s) (list_all is_none ss) (ap is_none (none 0 (omega arith))) (all_free zero ss (λ n le. none (suc n) (omega arith)))
all_free (suc m) (s ∷ ss) none = all_free m ss (λ n le. none (suc n) (omega (arith, le)))

-- as many SDUs as may be unconfirmed are no more than a report tells of
most_told : (size : SnSize) → most_unconfirmed size ≤ 65536
most_told S12 = omega arith
most_told S18 = omega arith

module _ (g : Ghost) (v : View) (st : Stands g v) (name : NodeName) (key : Key) (i : Incoming) (has : v.incoming name key ≡ Some i) where
  abbrev T : ItemTables
  T = item_tables v.tables

  abbrev f : IncomingFits v.tables g.chain.path g.chain.heard g.chain.wanted name key i
  f = st.ends.incomings name key i has

  abbrev r : Receiver
  r = i.receiver

  k : KeyFits (state_of T g.chain (λ r. false) key) g.chain.items g.chain.spot key
  k = (reaches_inv T (calm g.chain) st.reaches).keys key refl

  -- what was heard was submitted
  pub submitted_of : (c : ℕ) → is_some (g.chain.heard key c) ≡ true → c < length (g.chain.sender key).submitted
  submitted_of c e = let h = some_is (g.chain.heard key c) e in (k.submitted c h.0 h.1).0

  -- the next one to be handed up was not heard
  unheard : is_some (g.chain.heard key r.handed) ≡ false
  unheard = ap (λ (n : ℕ). is_some (g.chain.heard key n)) (let same : r.handed ≡ r.handed + 0 = omega arith in same) ∙ f.fits.stored 0
      ∙ ap (λ (o : Option Sdu). is_some o) f.fits.stops

  -- all confirmed ones are below it
  confirmed_below : k.few.n ≤ r.handed
  confirmed_below = elim (cases_lt r.handed k.few.n) [
    | inl lt ↦ absurd (false≢true (sym unheard ∙ k.confirmed r.handed (k.few.first r.handed lt)))
    | inr ge ↦ ge
  ]

  limit : T.limit key.remote key.drb ≤ 65536
  limit = subst (λ (n : ℕ). n ≤ 65536) (sym (ap row_limit f.its_row)) (most_told f.row.pdcp)

  stored_low : (n : ℕ) → 65536 ≤ n → stored_at r n ≡ None
  stored_low n le = none_is (stored_at r n) (sym (f.fits.stored n) ∙ elim (cases_Bool (is_some (g.chain.heard key (r.handed + n)))) [
    | inl e ↦ absurd (omega (arith, submitted_of (r.handed + n) e, k.few.few, confirmed_below, limit, le))
    | inr e ↦ e
  ])

  pub tells_all : can_report r ≡ true
  tells_all = all_free 65536 r.stored stored_low

  -- RX_DELIV is a COUNT, or the end of COUNTs
  pub deliv_low : r.first + r.handed < 2 ^ 32
  deliv_low =
      let out = st.ends.sends key f.row f.its_row in
      let o : OutgoingFits v.tables g.chain.sender (source key) key out.0 = st.ends.outgoings (source key) key out.0 out.1 in
      let first : out.0.sender.first ≡ r.first = o.first ∙ ap (λ (row : BearerRow). first_count row key.way) (same_Some o.row f.row (sym o.its_row ∙ f.its_row)) ∙ sym f.first in
      omega (arith, o.few, o.fits.long, handed_low, first)
    where
      handed_low : r.handed ≤ length (g.chain.sender key).submitted
      handed_low = by r.handed refl
        where
          by : (n : ℕ) → r.handed ≡ n → r.handed ≤ length (g.chain.sender key).submitted
          by zero e = omega (arith, e)
          by (suc n) e = omega (arith, e, submitted_of n (f.fits.up n (omega (arith, e))))

pub reports_tell_all : ReportsTellAll
reports_tell_all g v st name key i has = tells_all g v st name key i has

-- the status report has a spelling that RLC can take
pub report_spelt : (o : Option LocalId) (drb : Drb) (size : SnSize) (r : Receiver) (fmc : ℕ) (map : List ℕ) → IsReport r fmc map → can_report r ≡ true
    → IsLongEnough (under o drb (pdcp_bytes size (ReportPdu fmc map)))
report_spelt o drb size r fmc map x can =
    let few = report_long r fmc map can x in
    let fits = under_fits o drb (pdcp_bytes size (ReportPdu fmc map)) (omega arith) (omega (arith, few)) in
    (fits.some, fits.most)

pub report_fits : (size : SnSize) (r : Receiver) (fmc : ℕ) (map : List ℕ) → IsReport r fmc map → can_report r ≡ true → r.first + r.handed < 2 ^ 32
    → PdcpFits size (ReportPdu fmc map)
report_fits size r fmc map x can low = (subst (λ (n : ℕ). n < 2 ^ 32) (sym x.its_fmc) low, omega (arith, report_long r fmc map can x))

some_none : {X : Type 0} (o : Option X) → (o ≢ None) → is_some o ≡ true
some_none None ne = absurd (ne refl)
some_none (Some x) ne = refl

-- a bit of the bitmap tells of one place
bit_is : (b : ℕ) (o : Option Sdu) → (b ≡ 1 ↔ (o ≢ None)) → is_some o ≡ (b == 1)
bit_is b o w = elim (cases_eq b 1) [
  | inl e ↦ some_none o (w.0 e) ∙ sym (eq-eqb b 1 e)
  | inr ne ↦ not_stored (is_some o) refl ne
]
  where
    not_stored : (z : Bool) → is_some o ≡ z → (b ≡ 1 → ⊥) → is_some o ≡ (b == 1)
    not_stored true is ne = absurd (ne (w.1 (λ e. false≢true (sym (ap (λ (o : Option Sdu). is_some o) e) ∙ is))))
    not_stored false is ne = is ∙ sym (ne_eqb b 1 ne)

-- the report names what was heard
pub names_heard : (heard : ℕ → Option Sdu) (r : Receiver) → ReceiverFits heard r → (fmc : ℕ) (map : List ℕ) → IsReport r fmc map
    → (c : ℕ) → is_some (heard c) ≡ is_reported fmc map (r.first + c)
names_heard heard r fit fmc map x c = elim (cases_lt c r.handed) [
  | inl lt ↦ fit.up c lt
      ∙ sym (ap (λ (z : Bool). z || (nat_lt fmc (r.first + c) && (bit_of map (r.first + c - fmc) == 1))) (lt-ltb (r.first + c) fmc (omega (arith, lt, x.its_fmc))))
  | inr ge ↦
      let low : nat_lt (r.first + c) fmc ≡ false = le-ltb (r.first + c) fmc (omega (arith, ge, x.its_fmc)) in
      let is : c ≡ r.handed + (c - r.handed) = omega (arith, ge) in
      let here : is_some (heard c) ≡ is_some (stored_at r (c - r.handed)) = ap (λ (j : ℕ). is_some (heard j)) is ∙ fit.stored (c - r.handed) in
      elim (cases_eq c r.handed) [
        | inl e ↦ here ∙ ap (λ (j : ℕ). is_some (stored_at r j)) (let z : c - r.handed ≡ 0 = omega (arith, e) in z) ∙ ap (λ (o : Option Sdu). is_some o) fit.stops
            ∙ sym (ap (λ (z : Bool). z || (nat_lt fmc (r.first + c) && (bit_of map (r.first + c - fmc) == 1))) low
            ∙ ap (λ (z : Bool). z && (bit_of map (r.first + c - fmc) == 1)) (le-ltb fmc (r.first + c) (omega (arith, e, x.its_fmc))))
        | inr ne ↦ here ∙ bit_is (bit_of map (c - r.handed)) (stored_at r (c - r.handed)) (x.bits (c - r.handed) (omega (arith, ge, ne)))
            ∙ ap (λ (j : ℕ). bit_of map j == 1) (let z : c - r.handed ≡ r.first + c - fmc = omega (arith, ge, x.its_fmc) in z)
            ∙ sym (ap (λ (z : Bool). z || (nat_lt fmc (r.first + c) && (bit_of map (r.first + c - fmc) == 1))) low
            ∙ ap (λ (z : Bool). z && (bit_of map (r.first + c - fmc) == 1)) (lt-ltb fmc (r.first + c) (omega (arith, ge, ne, x.its_fmc))))
      ]
]
