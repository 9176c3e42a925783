-- Many ports over one air: what one of them does, and what goes on the air and off it.
use Rattle.std.proofs.Common.{◌≡◌, ◌⊎◌, inl, inr, ℕ, ◌-◌, ◌≤◌, Bool, true, false, cond, eqb, List, [], ◌∷◌, ◌++◌, length, get_or, set, Option, Some, None, refl, sym, ◌∙◌, ap, subst, arith}
use Rattle.std.proofs.lemmas.Bool.{cases_eq, cases_lt, cond-false}
use Rattle.std.proofs.lemmas.Option.{none-some, same_Some}
use Rattle.std.proofs.lemmas.List.{get_or_past, get_or-set_same, get_or-set_other, length-set}
use Rattle.link_base.specs.declared.names.PortName.{PortName}
use Rattle.link_base.specs.declared.names.PortName.TheVariants.{Direct, Pc5, Uu}
use Rattle.link_base.specs.declared.names.Side.{Side}
use Rattle.link_base.specs.declared.names.Side.TheVariants.{Low, High}
use Rattle.link_base.specs.declared.names.Way.{Way}
use Rattle.link_base.specs.declared.names.Way.TheVariants.{Ul, Dl}
use Rattle.rlc_model.specs.declared.hop.Pdu.{Pdu}
use Rattle.rlc_model.specs.Hop.{on_air, off_air, sent_from}
use Rattle.rlc_model.specs.Sides.{way_from}
use Rattle.rlc_law.specs.Ports.{Port, Settings, start_hop, start_port, ReachesPort, HasMade, Ports, Changes, NoneOnAir, PortsFit, moves, sends, goes_off, opens, closes}
use Rattle.rlc_law.specs.Hop.{Reaches}
use Rattle.rlc_law.specs.PortLaws.{OneChanges, PortsKeep, EpochsKeep}
use Rattle.rlc_law.proofs.Give.{pushed}
use Rattle.rlc_law.proofs.Moving.{moves_on}

---- names of ports

-- it is so, or it isn't
abbrev pub Decided : Type 0 → Type 0
Decided P = P ⊎ (P → ⊥)

-- two things are so, or not both
two_same : {P Q : Type 0} → Decided P → Decided Q → Decided (P × Q)
two_same (inl p) (inl q) = inl (p, q)
two_same (inl p) (inr nq) = inr (λ both. nq both.1)
two_same (inr np) q = inr (λ both. np both.0)

-- two ports have the same name or not
pub cases_port : (a b : PortName) → Decided (a ≡ b)
cases_port (Direct r d) (Direct q e) = elim (two_same (cases_eq r.0 q.0) (cases_eq d.0 e.0)) [
  | inl same ↦ inl (ap (λ (n : ℕ). Direct (record { 0 = n }) d) same.0 ∙ ap (λ (n : ℕ). Direct q (record { 0 = n })) same.1)
  | inr apart ↦ inr (λ same. apart (first same, second same))
]
  where
    first : Direct r d ≡ Direct q e → r.0 ≡ q.0
    first same = cc

    second : Direct r d ≡ Direct q e → d.0 ≡ e.0
    second same = cc
cases_port (Pc5 r c) (Pc5 q e) = elim (two_same (cases_eq r.0 q.0) (cases_eq c.0 e.0)) [
  | inl same ↦ inl (ap (λ (n : ℕ). Pc5 (record { 0 = n }) c) same.0 ∙ ap (λ (n : ℕ). Pc5 q (record { 0 = n })) same.1)
  | inr apart ↦ inr (λ same. apart (first same, second same))
]
  where
    first : Pc5 r c ≡ Pc5 q e → r.0 ≡ q.0
    first same = cc

    second : Pc5 r c ≡ Pc5 q e → c.0 ≡ e.0
    second same = cc
cases_port (Uu c) (Uu e) = elim (cases_eq c.0 e.0) [
  | inl same ↦ inl (ap (λ (n : ℕ). Uu (record { 0 = n })) same)
  | inr apart ↦ inr (λ same. apart (number same))
]
  where
    number : Uu c ≡ Uu e → c.0 ≡ e.0
    number same = cc
cases_port (Direct r d) (Pc5 q e) = inr (λ same. cc)
cases_port (Direct r d) (Uu e) = inr (λ same. cc)
cases_port (Pc5 r c) (Direct q e) = inr (λ same. cc)
cases_port (Pc5 r c) (Uu e) = inr (λ same. cc)
cases_port (Uu c) (Direct q e) = inr (λ same. cc)
cases_port (Uu c) (Pc5 q e) = inr (λ same. cc)

-- two sides are the same or not
pub cases_side : (a b : Side) → Decided (a ≡ b)
cases_side Low Low = inl refl
cases_side High High = inl refl
cases_side Low High = inr (λ same. cc)
cases_side High Low = inr (λ same. cc)

-- the same with an epoch, and of a side of a port
pub cases_epoch : (a b : PortName) (e f : ℕ) → Decided ((a ≡ b) × (e ≡ f))
cases_epoch a b e f = two_same (cases_port a b) (cases_eq e f)

pub cases_place : (s t : Side) (a b : PortName) → Decided ((s ≡ t) × (a ≡ b))
cases_place s t a b = two_same (cases_side s t) (cases_port a b)

---- one place of a table changes

module _ {Row Column Value : Type 0} (decide : (a b : Row) (c d : Column) → Decided ((a ≡ b) × (c ≡ d))) where
  abbrev chosen : {P : Type 0} → Decided P → Value → Value → Value
  chosen (inl p) a b = a
  chosen (inr n) a b = b

  chosen_in : {P : Type 0} (c : Decided P) (a b : Value) → P → chosen c a b ≡ a
  chosen_in (inl p) a b is = refl
  chosen_in (inr n) a b is = absurd (n is)

  chosen_out : {P : Type 0} (c : Decided P) (a b : Value) → (P → ⊥) → chosen c a b ≡ b
  chosen_out (inl p) a b no_one = absurd (no_one p)
  chosen_out (inr n) a b no_one = refl

  place_changes : (old : Row → Column → Value) (row : Row) (column : Column) (value : Value) → (new : Row → Column → Value) × Changes old row column value new
  place_changes old row column value = (
    λ other place. chosen (decide other row place column) value (old other place),
    record { here = chosen_in (decide row row column column) value (old row column) (refl, refl); others = λ other place ne. chosen_out (decide other row place column) value (old other place) ne },
  )

  -- what stands at a place of the changed table is new there, or stood there before
  pub stood : (old : Row → Column → Value) (row : Row) (column : Column) (value : Value) (new : Row → Column → Value) → Changes old row column value new → (other : Row) (place : Column) (v : Value) → new other place ≡ v
      → ((other ≡ row) × (place ≡ column) × (value ≡ v)) ⊎ (((other ≡ row) × (place ≡ column) → ⊥) × (old other place ≡ v))
  stood old row column value new changes other place v is = elim (decide other row place column) [
    | inl same ↦ inl (same.0, same.1, sym changes.here ∙ sym (ap (λ (a : Row). new a place) same.0 ∙ ap (new row) same.1) ∙ is)
    | inr ne ↦ inr (ne, sym (changes.others other place ne) ∙ is)
  ]

pub one_changes : OneChanges
one_changes = (place_changes cases_epoch, place_changes cases_place, place_changes cases_place)

---- the air

-- where a place was cleared, what is there was there
cleared : (air : List (Option Pdu)) (i n : ℕ) (pdu : Pdu) → get_or (set air i None) n None ≡ Some pdu → get_or air n None ≡ Some pdu
cleared air i n pdu here = elim (cases_eq n i) [
  | inr other ↦ sym (get_or-set_other air i n None None other) ∙ here
  | inl same ↦ absurd (none-some pdu (elim (cases_lt i (length air)) [
    | inl low ↦ sym (ap (λ (k : ℕ). get_or (set air i None) k None) same ∙ get_or-set_same air i None None low) ∙ here
    | inr past ↦ sym (get_or_past (set air i None) n None (omega (arith, same, past, length-set air i None))) ∙ here
  ]))
]

-- a PDU on the air stands at the place of its ticket
on_place : (air : List (Option Pdu)) (ticket : ℕ) (pdu : Pdu) → on_air air ticket ≡ Some pdu → (eqb ticket 0 ≡ false) × (get_or air (ticket - 1) None ≡ Some pdu)
on_place air ticket pdu = go (eqb ticket 0)
  where
    go : (b : Bool) → cond b None (get_or air (ticket - 1) None) ≡ Some pdu → (b ≡ false) × (get_or air (ticket - 1) None ≡ Some pdu)
    go true e = absurd (none-some pdu e)
    go false e = (refl, e)

at_place : (air : List (Option Pdu)) (ticket : ℕ) (pdu : Pdu) → eqb ticket 0 ≡ false → get_or air (ticket - 1) None ≡ Some pdu → on_air air ticket ≡ Some pdu
at_place air ticket pdu some e = cond-false (eqb ticket 0) None (get_or air (ticket - 1) None) some ∙ e

-- what is on the air once a PDU went off it was there before
pub was_on : (air : List (Option Pdu)) (gone ticket : ℕ) (pdu : Pdu) → on_air (off_air air gone) ticket ≡ Some pdu → on_air air ticket ≡ Some pdu
was_on air gone ticket pdu here =
    let p = on_place (off_air air gone) ticket pdu here in
    at_place air ticket pdu p.0 (go (eqb gone 0) p.1)
  where
    go : (b : Bool) → get_or (cond b air (set air (gone - 1) None)) (ticket - 1) None ≡ Some pdu → get_or air (ticket - 1) None ≡ Some pdu
    go true e = e
    go false e = cleared air (gone - 1) (ticket - 1) pdu e

-- what is there once one more went on it was there before, or is that one
pub was_or_came : (air : List (Option Pdu)) (came : Pdu) (ticket : ℕ) (pdu : Pdu) → on_air (air ++ Some came ∷ []) ticket ≡ Some pdu → (on_air air ticket ≡ Some pdu) ⊎ (came ≡ pdu)
was_or_came air came ticket pdu here =
    let p = on_place (air ++ Some came ∷ []) ticket pdu here in
    elim (pushed air (Some came) (ticket - 1) pdu p.1) [
      | inl was ↦ inl (at_place air ticket pdu p.0 was)
      | inr new ↦ inr (same_Some came pdu new.1)
    ]

---- what is known of ports and the air stays

module _ (old new : Ports) (air : List (Option Pdu)) (fits : PortsFit old air) (name : PortName) (epoch : ℕ) (port : Option Port) (changes : Changes old name epoch port new) where
  -- so where the changed one fits, all do
  changed : ((p : Port) → port ≡ Some p → ReachesPort p) → ((ticket : ℕ) (pdu : Pdu) (p : Port) → on_air air ticket ≡ Some pdu → pdu.port ≡ name → pdu.epoch ≡ epoch → port ≡ Some p → HasMade p pdu.way pdu.status pdu.number pdu.bytes) → PortsFit new air
  changed reaches made = record {
    reaches = λ other later p is. elim (stood cases_epoch old name epoch port new changes other later (Some p) is) [
      | inl this ↦ reaches p this.2
      | inr there ↦ fits.reaches other later p there.1
    ];
    made = λ ticket pdu p here is. elim (stood cases_epoch old name epoch port new changes pdu.port pdu.epoch (Some p) is) [
      | inl this ↦ made ticket pdu p here this.0 this.1 this.2
      | inr there ↦ fits.made ticket pdu p here there.1
    ];
  }

module _ (old new : Ports) (air : List (Option Pdu)) (fits : PortsFit old air) (name : PortName) (epoch : ℕ) where
  -- a port moves
  moved : (before behind : Port) → old name epoch ≡ Some before → (ReachesPort before → ReachesPort behind) → ((to : Way) (status : Bool) (number : ℕ) (bytes : List ℕ) → HasMade before to status number bytes → HasMade behind to status number bytes)
      → Changes old name epoch (Some behind) new → PortsFit new air
  moved before behind is reaches made changes = changed old new air fits name epoch (Some behind) changes
      (λ p same. subst ReachesPort (same_Some behind p same) (reaches (fits.reaches name epoch before is)))
      (λ ticket pdu p here port later same. subst (λ (p : Port). HasMade p pdu.way pdu.status pdu.number pdu.bytes) (same_Some behind p same)
      (made pdu.way pdu.status pdu.number pdu.bytes (fits.made ticket pdu before here (ap (λ (a : PortName). old a pdu.epoch) port ∙ ap (old name) later ∙ is))))

  -- one opens
  opened : (settings : Settings) → NoneOnAir air name epoch → Changes old name epoch (Some (start_port settings)) new → PortsFit new air
  opened settings none_there changes = changed old new air fits name epoch (Some (start_port settings)) changes
      (λ p same. subst ReachesPort (same_Some (start_port settings) p same) starts)
      (λ ticket pdu p here port later same. absurd (none_there ticket pdu here (port, later)))
    where
      start : Reaches (start_hop settings)
      start = record { size = settings.size; poll_pdu = settings.poll_pdu; poll_byte = settings.poll_byte; max_retx_threshold = settings.max_retx_threshold; events = []; run = refl }

      starts : ReachesPort (start_port settings)
      starts Ul = start
      starts Dl = start

  -- one closes
  closed : Changes old name epoch None new → PortsFit new air
  closed changes = changed old new air fits name epoch None changes (λ p same. absurd (none-some p same)) (λ ticket pdu p here port later same. absurd (none-some p same))

-- one more PDU is on the air, which its port has made
came : (ports : Ports) (air : List (Option Pdu)) (pdu : Pdu) → ((port : Port) → ports pdu.port pdu.epoch ≡ Some port → HasMade port pdu.way pdu.status pdu.number pdu.bytes) → PortsFit ports air → PortsFit ports (air ++ Some pdu ∷ [])
came ports air pdu made fits = record {
  reaches = fits.reaches;
  made = λ ticket other port here is. elim (was_or_came air pdu ticket other here) [
    | inl before ↦ fits.made ticket other port before is
    | inr this ↦ subst (λ (p : Pdu). HasMade port p.way p.status p.number p.bytes) this (made port (ap (λ (p : Pdu). ports p.port p.epoch) this ∙ is))
  ];
}

pub ports_keep : PortsKeep
ports_keep old new before behind fits (moves name epoch was is way event there m changes) =
    let on = moves_on was way event is m in
    moved old new before fits name epoch was is there on.0 on.1 changes
ports_keep old new before behind fits (sends name epoch was is way event side status number bytes there m made changes) =
    let on = moves_on was way event is m in
    came new before (sent_from name side epoch status number bytes)
    (λ port found. subst (λ (p : Port). HasMade p (way_from side) status number bytes) (same_Some is port (sym changes.here ∙ found)) made)
    (moved old new before fits name epoch was is there on.0 on.1 changes)
ports_keep old new before behind fits (goes_off gone) = record { reaches = fits.reaches; made = λ ticket pdu port here is. fits.made ticket pdu port (was_on before gone ticket pdu here) is }
ports_keep old new before behind fits (opens name epoch settings none_there changes) = opened old new before fits name epoch settings none_there changes
ports_keep old new before behind fits (closes name epoch changes) = closed old new before fits name epoch changes

pub epochs_keep : EpochsKeep
epochs_keep air name epoch up_to = (
  λ gone ticket pdu here is. up_to ticket pdu (was_on air gone ticket pdu here) is,
  λ new le ticket pdu here is. elim (was_or_came air new ticket pdu here) [
    | inl before ↦ up_to ticket pdu before is
    | inr this ↦ subst (λ (p : Pdu). p.epoch ≤ epoch) this (le (ap (λ (p : Pdu). p.port) this ∙ is))
  ],
  λ later lt. (λ ticket pdu here same. absurd (omega (arith, up_to ticket pdu here same.0, same.1)), λ ticket pdu here is. omega (arith, up_to ticket pdu here is)),
)
