-- Open sides are those of ports, whatever happens to them.
use Rattle.std.proofs.Common.{◌≡◌, ◌⊎◌, inl, inr, ℕ, ◌+◌, ◌<◌, ◌≤◌, Bool, true, false, cond, Option, Some, None, refl, sym, ◌∙◌, ap, subst, arith}
use Rattle.std.proofs.lemmas.Option.{none-some, same_Some}
use Rattle.link_base.specs.declared.names.PortName.{PortName}
use Rattle.link_base.specs.declared.names.Side.{Side}
use Rattle.link_base.specs.declared.names.Side.TheVariants.{Low, High}
use Rattle.link_base.specs.declared.names.Way.{Way}
use Rattle.link_base.specs.declared.names.Way.TheVariants.{Ul, Dl}
use Rattle.rlc_model.specs.declared.hop.Pdu.{Pdu}
use Rattle.rlc_model.specs.Hop.{air_fault, side_fault}
use Rattle.rlc_model.specs.Rx.{Rx, rx_next}
use Rattle.rlc_model.specs.Sides.{across, hearer_of, Entity}
use Rattle.rlc_model.specs.Tx.{Tx, tx_next_ack}
use Rattle.rlc_law.specs.Hop.{Event}
use Rattle.rlc_law.specs.Ports.{Settings, Port, start_port, tx_of, rx_of, IsSide, MovesSide, Ports, Changes, moves, sends}
use Rattle.rlc_law.specs.PortLaws.{SidesKeep, NothingFits, SideHears, CallFits}
use Rattle.rlc_law.specs.Sides.{Sides, Epochs, IsStart, HasSize, start_entity, SidesFit, calls, begins, follows, closes}
use Rattle.rlc_law.proofs.Crossing.{cases_epoch, cases_place, stood, one_changes, ports_keep}
use Rattle.rlc_law.proofs.Fresh.{passes_fresh}
use Rattle.rlc_law.proofs.Hearing.{hear_moves}
use Rattle.rlc_law.proofs.Moving.{both_grown}

-- a side that isn't this one is the other one
other_side : (a b : Side) → (a ≡ b → ⊥) → a ≡ across b
other_side Low Low ne = absurd (ne refl)
other_side High High ne = absurd (ne refl)
other_side Low High ne = refl
other_side High Low ne = refl

-- two ports that stand at one place are the same
same_port : (a b : Option Port) (p q : Port) → a ≡ b → a ≡ Some p → b ≡ Some q → p ≡ q
same_port a b p q same here there = same_Some p q (sym here ∙ same ∙ there)

-- at its start a port has the size set
start_size : (settings : Settings) → HasSize settings.size (start_port settings)
start_size settings Ul = (refl, refl)
start_size settings Dl = (refl, refl)

-- what is at a side stays where the other side moves
stays_at : (side : Side) (port behind : Port) (way : Way) (event : Event) (tx : Tx) (rx : Rx) → MovesSide port side way event tx rx behind → (at : Side) → (at ≡ side → ⊥) → (a : Tx) (b : Rx) → IsSide port at a b → IsSide behind at a b
stays_at side port behind way event tx rx m at ne a b was =
    let far = other_side at side ne in
    let still : IsSide behind at (tx_of port at) (rx_of port at) = subst (λ (s : Side). IsSide behind s (tx_of port s) (rx_of port s)) (sym far) m.there in
    record { its_tx = was.its_tx ∙ still.its_tx; its_rx = was.its_rx ∙ still.its_rx }

module _ (settings : PortName → Settings) (ports : Ports) (epochs : Epochs) (sides : Sides) (fits : SidesFit settings ports epochs sides) where
  -- a call of an open side
  module _ (side : Side) (name : PortName) (entity : Entity) (port behind : Port) (way : Way) (event : Event) (tx : Tx) (rx : Rx) (is_open : sides side name ≡ Some entity) (here : ports name entity.epoch ≡ Some port)
      (m : MovesSide port side way event tx rx behind) (new_ports : Ports) (port_changes : Changes ports name entity.epoch (Some behind) new_ports) where
    -- the other sides of the changed ports are as they were
    kept : (at : Side) (other : PortName) (epoch : ℕ) (p : Port) (a : Tx) (b : Rx) → ((at ≡ side) × (other ≡ name) × (epoch ≡ entity.epoch) → ⊥) → ports other epoch ≡ Some p → IsSide p at a b → (q : Port) × (new_ports other epoch ≡ Some q) × IsSide q at a b
    kept at other epoch p a b ne found was = elim (cases_epoch other name epoch entity.epoch) [
      | inr apart ↦ (p, port_changes.others other epoch apart ∙ found, was)
      | inl same ↦ (
        behind,
        ap (λ (n : PortName). new_ports n epoch) same.0 ∙ ap (new_ports name) same.1 ∙ port_changes.here,
        stays_at side port behind way event tx rx m at (λ e. ne (e, same.0, same.1)) a b
            (subst (λ (q : Port). IsSide q at a b) (same_port (ports other epoch) (ports name entity.epoch) p port (ap (λ (n : PortName). ports n epoch) same.0 ∙ ap (ports name) same.1) found here) was),
      )
    ]

    called : (new_sides : Sides) → Changes sides side name (Some (record entity { tx = tx; rx = rx })) new_sides → SidesFit settings new_ports epochs new_sides
    called new_sides side_changes = record {
      open_port = λ at other e is. elim (was_open at other e is) [
        | inl this ↦ subst (λ (e : Entity). (p : Port) × (new_ports other e.epoch ≡ Some p) × IsSide p at e.tx e.rx) (same_Some (record entity { tx = tx; rx = rx }) e this.2)
            (behind, ap (λ (n : PortName). new_ports n entity.epoch) this.1 ∙ port_changes.here, subst (λ (s : Side). IsSide behind s tx rx) (sym this.0) m.here)
        | inr there ↦ let p = fits.open_port at other e there.1 in kept at other e.epoch p.0 e.tx e.rx (λ same. there.0 (same.0, same.1)) p.1 p.2
      ];
      open_epoch = λ at other e is. elim (was_open at other e is) [
        | inl this ↦ subst (λ (e : Entity). e.epoch < epochs at other) (same_Some (record entity { tx = tx; rx = rx }) e this.2)
            (subst (λ (s : Side). entity.epoch < epochs s other) (sym this.0) (subst (λ (n : PortName). entity.epoch < epochs side n) (sym this.1) (fits.open_epoch side name entity is_open)))
        | inr there ↦ fits.open_epoch at other e there.1
      ];
      not_open = λ at other epoch p le is. elim (stood cases_epoch ports name entity.epoch (Some behind) new_ports port_changes other epoch (Some p) is) [
        | inr there ↦ fits.not_open at other epoch p le there.1
        | inl this ↦
            let not_this : at ≡ side → ⊥ = λ e. absurd (omega (arith, le, this.1, ap (λ (s : Side). epochs s other) e, ap (epochs side) this.0, fits.open_epoch side name entity is_open)) in
            subst (λ (q : Port). IsStart (settings other) q at) (same_Some behind p this.2)
            (stays_at side port behind way event tx rx m at not_this _ _
            (fits.not_open at other epoch port le (ap (λ (n : PortName). ports n epoch) this.0 ∙ ap (ports name) this.1 ∙ here)))
      ];
      sizes = λ other epoch p is. elim (stood cases_epoch ports name entity.epoch (Some behind) new_ports port_changes other epoch (Some p) is) [
        | inr there ↦ fits.sizes other epoch p there.1
        | inl this ↦ subst (λ (n : PortName). HasSize (settings n).size p) (sym this.0) (subst (HasSize (settings name).size) (same_Some behind p this.2)
            (λ to. let g = both_grown port way event behind m.moves to in let was = fits.sizes name entity.epoch port here to in (g.tx_size ∙ was.0, g.rx_size ∙ was.1)))
      ];
    }
      where
        was_open : (at : Side) (other : PortName) (e : Entity) → new_sides at other ≡ Some e
            → ((at ≡ side) × (other ≡ name) × (Some (record entity { tx = tx; rx = rx }) ≡ Some e)) ⊎ (((at ≡ side) × (other ≡ name) → ⊥) × (sides at other ≡ Some e))
        was_open at other e is = stood cases_place sides side name (Some (record entity { tx = tx; rx = rx })) new_sides side_changes at other (Some e) is

  -- a side opens, once its port is there as it was at the start
  module _ (side : Side) (name : PortName) (epoch : ℕ) (past : epochs side name ≤ epoch) (new_ports : Ports)
      (more : (other : PortName) (f : ℕ) (p : Port) → ports other f ≡ Some p → new_ports other f ≡ Some p)
      (fewer : (at : Side) (other : PortName) (f : ℕ) (p : Port) → epochs at other ≤ f → new_ports other f ≡ Some p → IsStart (settings other) p at)
      (its_port : (p : Port) × (new_ports name epoch ≡ Some p) × IsStart (settings name) p side)
      (same_size : (other : PortName) (f : ℕ) (p : Port) → new_ports other f ≡ Some p → HasSize (settings other).size p) where
    abbrev begun : Entity
    begun = start_entity (settings name) side epoch

    opened : (new_epochs : Epochs) (new_sides : Sides) → Changes epochs side name (epoch + 1) new_epochs → Changes sides side name (Some begun) new_sides → SidesFit settings new_ports new_epochs new_sides
    opened new_epochs new_sides epoch_changes side_changes = record {
      open_port = λ at other e is. elim (was_open at other e is) [
        | inl this ↦ subst (λ (e : Entity). (p : Port) × (new_ports other e.epoch ≡ Some p) × IsSide p at e.tx e.rx) (same_Some begun e this.2)
            (its_port.0, ap (λ (n : PortName). new_ports n epoch) this.1 ∙ its_port.1, subst (λ (s : Side). IsSide its_port.0 s begun.tx begun.rx) (sym this.0) its_port.2)
        | inr there ↦ let p = fits.open_port at other e there.1 in (p.0, more other e.epoch p.0 p.1, p.2)
      ];
      open_epoch = λ at other e is. elim (was_open at other e is) [
        | inl this ↦ omega (arith, ap (λ (e : Entity). e.epoch) (same_Some begun e this.2), ap (λ (s : Side). new_epochs s other) this.0, ap (new_epochs side) this.1, epoch_changes.here)
        | inr there ↦ omega (arith, fits.open_epoch at other e there.1, risen at other)
      ];
      not_open = λ at other f p le is. fewer at other f p (omega (arith, le, risen at other)) is;
      sizes = same_size;
    }
      where
        was_open : (at : Side) (other : PortName) (e : Entity) → new_sides at other ≡ Some e → ((at ≡ side) × (other ≡ name) × (Some begun ≡ Some e)) ⊎ (((at ≡ side) × (other ≡ name) → ⊥) × (sides at other ≡ Some e))
        was_open at other e is = stood cases_place sides side name (Some begun) new_sides side_changes at other (Some e) is

        -- no side falls back
        risen : (at : Side) (other : PortName) → epochs at other ≤ new_epochs at other
        risen at other = elim (cases_place at side other name) [
          | inl same ↦ omega (arith, past, ap (λ (s : Side). new_epochs s other) same.0, ap (new_epochs side) same.1, ap (λ (s : Side). epochs s other) same.0, ap (epochs side) same.1, epoch_changes.here)
          | inr ne ↦ omega (arith, epoch_changes.others at other ne)
        ]

  closed : (side : Side) (name : PortName) (new_sides : Sides) → Changes sides side name None new_sides → SidesFit settings ports epochs new_sides
  closed side name new_sides changes = record {
    open_port = λ at other e is. fits.open_port at other e (was_open at other e is);
    open_epoch = λ at other e is. fits.open_epoch at other e (was_open at other e is);
    not_open = fits.not_open;
    sizes = fits.sizes;
  }
    where
      was_open : (at : Side) (other : PortName) (e : Entity) → new_sides at other ≡ Some e → sides at other ≡ Some e
      was_open at other e is = elim (stood cases_place sides side name None new_sides changes at other (Some e) is) [
        | inl this ↦ absurd (none-some e this.2)
        | inr there ↦ there.1
      ]

  -- the port of a side that opens first
  begun_port : (side : Side) (name : PortName) (epoch : ℕ) (new_ports : Ports) → ports name epoch ≡ None → Changes ports name epoch (Some (start_port (settings name))) new_ports
      → ((other : PortName) (f : ℕ) (p : Port) → ports other f ≡ Some p → new_ports other f ≡ Some p) × ((at : Side) (other : PortName) (f : ℕ) (p : Port) → epochs at other ≤ f → new_ports other f ≡ Some p → IsStart (settings other) p at)
      × ((other : PortName) (f : ℕ) (p : Port) → new_ports other f ≡ Some p → HasSize (settings other).size p)
  begun_port side name epoch new_ports none changes = (
    λ other f p is. elim (cases_epoch other name f epoch) [
      | inl same ↦ absurd (none-some p (sym none ∙ sym (ap (λ (n : PortName). ports n f) same.0 ∙ ap (ports name) same.1) ∙ is))
      | inr ne ↦ changes.others other f ne ∙ is
    ],
    λ at other f p le is. elim (stood cases_epoch ports name epoch (Some (start_port (settings name))) new_ports changes other f (Some p) is) [
      | inl this ↦ subst (λ (n : PortName). IsStart (settings n) p at) (sym this.0) (subst (λ (q : Port). IsStart (settings name) q at) (same_Some (start_port (settings name)) p this.2) (record { its_tx = refl; its_rx = refl }))
      | inr there ↦ fits.not_open at other f p le there.1
    ],
    λ other f p is. elim (stood cases_epoch ports name epoch (Some (start_port (settings name))) new_ports changes other f (Some p) is) [
      | inl this ↦ subst (λ (n : PortName). HasSize (settings n).size p) (sym this.0) (subst (HasSize (settings name).size) (same_Some (start_port (settings name)) p this.2) (start_size (settings name)))
      | inr there ↦ fits.sizes other f p there.1
    ],
  )

pub sides_keep : SidesKeep
sides_keep settings old new before behind were are fits (calls side name entity port moved way event tx rx is_open here m port_changes side_changes) =
    called settings old before were fits side name entity port moved way event tx rx is_open here m new port_changes are side_changes
sides_keep settings old new before behind were are fits (begins side name epoch past none port_changes epoch_changes side_changes) =
    let ports = begun_port settings old before were fits side name epoch new none port_changes in
    opened settings old before were fits side name epoch past new ports.0 ports.1 (start_port (settings name), port_changes.here, record { its_tx = refl; its_rx = refl }) ports.2 behind are epoch_changes side_changes
sides_keep settings old new before behind were are fits (follows side name epoch port past found epoch_changes side_changes) =
    opened settings old before were fits side name epoch past old (λ other f p is. is) fits.not_open (port, found, fits.not_open side name epoch port past found) fits.sizes behind are epoch_changes side_changes
sides_keep settings old new before behind were are fits (closes side name side_changes) = closed settings old before were fits side name are side_changes

pub nothing_fits : NothingFits
nothing_fits = (
  record { reaches = λ name epoch port is. absurd (none-some port is); made = λ ticket pdu port here is. absurd (none-some port is) },
  λ settings epochs. record { open_port = λ side name entity is. absurd (none-some entity is); open_epoch = λ side name entity is. absurd (none-some entity is); not_open = λ side name epoch port le is. absurd (none-some port is); sizes = λ name epoch port is. absurd (none-some port is) },
)

-- an open side hears a PDU only in the epoch in which it stands
same_epoch : (pdu : Pdu) (epoch : ℕ) (tx : Tx) (rx : Rx) → side_fault pdu (Some epoch) tx rx ≡ None → epoch ≡ pdu.epoch
same_epoch pdu epoch tx rx none = go pdu.status none
  where
    go : (status : Bool) → cond status (air_fault tx.size pdu (Some epoch) (tx_next_ack tx)) (air_fault rx.size pdu (Some epoch) (rx_next rx)) ≡ None → epoch ≡ pdu.epoch
    go true e = same_Some epoch pdu.epoch ((passes_fresh tx.size pdu (Some epoch) (tx_next_ack tx)).0 e).0
    go false e = same_Some epoch pdu.epoch ((passes_fresh rx.size pdu (Some epoch) (rx_next rx)).0 e).0

pub side_hears : SideHears
side_hears settings ports epochs sides air fits open_fits ticket pdu here entity is_open none answer tx rx hears =
    let p = open_fits.open_port (hearer_of pdu.way) pdu.port entity is_open in (
      p.0,
      p.1,
      hear_moves p.0 (fits.reaches pdu.port entity.epoch p.0 p.1) pdu
          (fits.made ticket pdu p.0 here (ap (ports pdu.port) (sym (same_epoch pdu entity.epoch entity.tx entity.rx none)) ∙ p.1)) entity.tx entity.rx p.2 (Some entity.epoch) none answer tx rx hears,
    )

pub call_fits : CallFits
call_fits settings ports epochs sides air fits open_fits side name entity port is_open here way event tx rx behind m new_sides side_changes =
    let new = one_changes.0 ports name entity.epoch (Some behind) in (
      new.0,
      new.1,
      sides_keep settings ports new.0 epochs epochs sides new_sides open_fits (calls side name entity port behind way event tx rx is_open here m new.1 side_changes),
      ports_keep ports new.0 air air fits (moves name entity.epoch port behind way event here m.moves new.1),
      λ status number bytes made. ports_keep ports new.0 air _ fits (sends name entity.epoch port behind way event side status number bytes here m.moves made new.1),
    )
