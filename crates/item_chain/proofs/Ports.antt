-- One port moves as a side of it is called: the other ports, the sides and the air are as before.
use Rattle.std.proofs.Common.{◌≡◌, ◌⊎◌, inl, inr, ℕ, Bool, true, List, [], ◌∷◌, ◌++◌, Option, Some, None, is_some, refl, sym, ◌∙◌, ap, subst, append-nil}
use Rattle.std.proofs.lemmas.Bool.{false≢true}
use Rattle.std.proofs.lemmas.Option.{none-some, same_Some}
use Rattle.link_base.specs.declared.names.PortName.{PortName}
use Rattle.link_base.specs.declared.names.PortName.TheVariants.{Uu}
use Rattle.link_base.specs.declared.names.Side.{Side}
use Rattle.link_base.specs.declared.names.Way.{Way}
use Rattle.link_base.specs.declared.names.Way.TheVariants.{Ul, Dl}
use Rattle.rlc_model.specs.declared.hop.Pdu.{Pdu}
use Rattle.rlc_model.specs.Hop.{on_air, sent_from}
use Rattle.rlc_model.specs.Rx.{Rx}
use Rattle.rlc_model.specs.Sides.{Entity, flip, way_from}
use Rattle.rlc_model.specs.Tx.{Tx}
use Rattle.rlc_law.specs.Hop.{Hop, Event}
use Rattle.rlc_law.specs.Ports.{Port, Ports, hop_of, IsSide, MovesSide, HasMade, Changes, PortsFit}
use Rattle.rlc_law.specs.Sides.{SidesFit}
use Rattle.rlc_law.proofs.Crossing.{was_or_came}
use Rattle.rlc_law.proofs.Opening.{call_fits}
use Rattle.node_model.specs.Names.{is_port, is_way}
use Rattle.chain_law.specs.Entities.{port_settings}
use Rattle.item_law.specs.State.{Item, Spot}
use Rattle.item_law.proofs.base.Puts.{of_number, of_way, cases_same}
use Rattle.item_place.specs.Places.{Station, Link, Box}
use Rattle.item_place.specs.HopFits.{HopFits}
use Rattle.item_chain.specs.View.{View, is_side, put_at}
use Rattle.item_chain.specs.Stands.{FitsDirect, IsOpenBy, kind_at, PathsFit, OpeningsFit, Ghost, Stands, KeepGiven}
use Rattle.item_chain.proofs.Tags.{IsQuiet, quiet_tags, direct_tx}
use Rattle.item_chain.proofs.Puts.{of_side, of_port, at_all, at_changes, cases_both}
use Rattle.item_chain.proofs.Given.{hop_keeps}

-- a way is one way or the other
pub other_way : (w v : Way) → (w ≡ v → ⊥) → w ≡ flip v
other_way Ul Ul ne = absurd (ne refl)
other_way Ul Dl ne = refl
other_way Dl Ul ne = refl
other_way Dl Dl ne = absurd (ne refl)

-- the links of two hops are one where the hops are
pub link_port : (p q : PortName) (v w : Way) (e f : ℕ) → Link p v e ≡ Link q w f → p ≡ q
link_port p q v w e f h = cc

pub link_way : (p q : PortName) (v w : Way) (e f : ℕ) → Link p v e ≡ Link q w f → v ≡ w
link_way p q v w e f h = cc

pub link_epoch : (p q : PortName) (v w : Way) (e f : ℕ) → Link p v e ≡ Link q w f → e ≡ f
link_epoch p q v w e f h = cc

flip_other : (w : Way) → flip w ≡ w → ⊥
flip_other Ul e = false≢true (ap (is_way Ul) e)
flip_other Dl e = false≢true (ap (is_way Dl) e)

module _ (g : Ghost) (v : View) (st : Stands g v) (at : Side) (name : PortName) (e : Entity) (is_open : v.entity at name ≡ Some e) where
  -- the port of an open side
  abbrev pub own : (port : Port) × (g.ports name e.epoch ≡ Some port) × IsSide port at e.tx e.rx
  own = st.sides.open_port at name e is_open

  module _ (way : Way) (event : Event) (tx : Tx) (rx : Rx) (behind : Port) (moves : MovesSide own.0 at way event tx rx behind) where
    abbrev pub entity_after : Entity
    entity_after = record e { tx = tx; rx = rx }

    abbrev pub entities_after : Side → PortName → Option Entity
    entities_after = put_at is_side is_port v.entity at name (Some entity_after)

    pub called : (ports : Ports) × Changes g.ports name e.epoch (Some behind) ports × SidesFit (port_settings v.tables) ports g.epochs entities_after × PortsFit ports v.air
        × ((status : Bool) (number : ℕ) (bytes : List ℕ) → HasMade behind (way_from at) status number bytes
        → PortsFit ports (v.air ++ Some (sent_from name at e.epoch status number bytes) ∷ []))
    called = call_fits (port_settings v.tables) g.ports g.epochs v.entity v.air st.ports st.sides at name e own.0 is_open own.1 way event tx rx behind moves entities_after
        (at_changes of_side of_port v.entity at name (Some entity_after))

    abbrev pub ports_after : Ports
    ports_after = called.0

    pub sides_after : SidesFit (port_settings v.tables) ports_after g.epochs entities_after
    sides_after = called.2

    pub air_after : PortsFit ports_after v.air
    air_after = called.3

    pub air_sent : (status : Bool) (number : ℕ) (bytes : List ℕ) → HasMade behind (way_from at) status number bytes
        → PortsFit ports_after (v.air ++ Some (sent_from name at e.epoch status number bytes) ∷ [])
    air_sent = called.4

    -- a port behind is the one that moved, or is as before
    port_was : (n : PortName) (f : ℕ) (p : Port) → ports_after n f ≡ Some p → ((n ≡ name) × (f ≡ e.epoch) × (p ≡ behind)) ⊎
        (((n ≡ name) × (f ≡ e.epoch) → ⊥) × (g.ports n f ≡ Some p))
    port_was n f p is = elim (cases_both of_port of_number name n e.epoch f) [
      | inl same ↦ inl (
        same.0,
        same.1,
        sym (same_Some behind p (sym called.1.here ∙ ap (ports_after name) (sym same.1) ∙ ap (λ (n : PortName). ports_after n f) (sym same.0)
            ∙ is)),
      )
      | inr ne ↦ inr (ne, sym (called.1.others n f ne) ∙ is)
    ]

    -- hops keep what they were given
    pub given_after : KeepGiven g.ports ports_after
    given_after n f p is = elim (cases_both of_port of_number name n e.epoch f) [
      | inr ne ↦ (p, called.1.others n f ne ∙ is, λ w. ([], sym (append-nil (hop_of p w).given)))
      | inl same ↦
          let its : p ≡ own.0 = same_Some p own.0 (sym is ∙ ap (λ (n : PortName). g.ports n f) same.0 ∙ ap (g.ports name) same.1 ∙ own.1) in (
            behind,
            ap (λ (n : PortName). ports_after n f) same.0 ∙ ap (ports_after name) same.1 ∙ called.1.here,
            λ w. subst (λ (p : Port). (more : List (List ℕ)) × ((hop_of behind w).given ≡ (hop_of p w).given ++ more)) (sym its) (by_way w),
          )
    ]
      where
        by_way : (w : Way) → (more : List (List ℕ)) × ((hop_of behind w).given ≡ (hop_of own.0 w).given ++ more)
        by_way w = elim (cases_same of_way w way) [
          | inl here ↦ subst (λ (w : Way). (more : List (List ℕ)) × ((hop_of behind w).given ≡ (hop_of own.0 w).given ++ more)) (sym here)
              (hop_keeps (hop_of own.0 way) event (hop_of behind way) moves.moves.happens)
          | inr ne ↦ subst (λ (w : Way). (more : List (List ℕ)) × ((hop_of behind w).given ≡ (hop_of own.0 w).given ++ more)) (sym (other_way w way ne))
              ([], ap (λ (h : Hop). h.given) moves.moves.other ∙ sym (append-nil (hop_of own.0 (flip way)).given))
        ]

    pub unopened_after : (n : PortName) (f : ℕ) → ports_after n f ≡ None → g.ports n f ≡ None
    unopened_after n f none = elim (cases_both of_port of_number name n e.epoch f) [
      | inl same ↦ absurd (none-some behind (sym none ∙ ap (λ (n : PortName). ports_after n f) same.0 ∙ ap (ports_after name) same.1 ∙ called.1.here))
      | inr ne ↦ sym (called.1.others n f ne) ∙ none
    ]

    -- what is so of the hop that moved, and of each other one as it was, is so of all
    hop_all : (P : PortName → ℕ → Way → Hop → Type 0) → P name e.epoch way (hop_of behind way)
        → ((n : PortName) (f : ℕ) (p : Port) → g.ports n f ≡ Some p → (w : Way) → (Link n w f ≡ Link name way e.epoch → ⊥) → P n f w (hop_of p w))
        → (n : PortName) (f : ℕ) (p : Port) → ports_after n f ≡ Some p → (w : Way) → P n f w (hop_of p w)
    hop_all P this others n f p is w = elim (port_was n f p is) [
      | inr was ↦ others n f p was.1 w (λ h. was.0 (link_port n name w way f e.epoch h, link_epoch n name w way f e.epoch h))
      | inl same ↦ subst (λ (n : PortName). P n f w (hop_of p w)) (sym same.0)
          (subst (λ (f : ℕ). P name f w (hop_of p w)) (sym same.1)
          (subst (λ (p : Port). P name e.epoch w (hop_of p w)) (sym same.2) (elim (cases_same of_way w way) [
            | inl here ↦ subst (λ (w : Way). P name e.epoch w (hop_of behind w)) (sym here) this
            | inr ne ↦
                let is_flip = other_way w way ne in
                subst (λ (w : Way). P name e.epoch w (hop_of behind w)) (sym is_flip)
                (subst (P name e.epoch (flip way)) (sym moves.moves.other)
                (others name e.epoch own.0 own.1 (flip way) (λ h. flip_other way (link_way name name (flip way) way e.epoch e.epoch h))))
          ])))
    ]

    -- the hops fit boxes
    pub hops_after : (spell : ℕ → List ℕ) (box : Station → Box) → HopFits spell (hop_of behind way) (box (Link name way e.epoch))
        → ((n : PortName) (f : ℕ) (p : Port) → g.ports n f ≡ Some p → (w : Way) → (Link n w f ≡ Link name way e.epoch → ⊥) → HopFits spell (hop_of p w) (box (Link n w f)))
        → (n : PortName) (f : ℕ) (p : Port) → ports_after n f ≡ Some p → (w : Way) → HopFits spell (hop_of p w) (box (Link n w f))
    hops_after spell box = hop_all (λ n f w h. HopFits spell h (box (Link n w f)))

    -- direct ports fit them
    pub directs_after : (items : ℕ → Option Item) (spot : ℕ → Spot) (box : Station → Box)
        → FitsDirect name way v.tables items spot (box (Link name way e.epoch)) (hop_of behind way).tx
        → ((n : PortName) (f : ℕ) (p : Port) → g.ports n f ≡ Some p → (w : Way) → (Link n w f ≡ Link name way e.epoch → ⊥)
        → FitsDirect n w v.tables items spot (box (Link n w f)) (hop_of p w).tx)
        → (n : PortName) (f : ℕ) (p : Port) → ports_after n f ≡ Some p → (w : Way) → FitsDirect n w v.tables items spot (box (Link n w f)) (hop_of p w).tx
    directs_after items spot box = hop_all (λ n f w h. FitsDirect n w v.tables items spot (box (Link n w f)) h.tx)

    -- the tags of the hop stay where it is given no SDU
    pub direct_quiet : (items : ℕ → Option Item) (spot : ℕ → Spot) (b : Box) → IsQuiet event → FitsDirect name way v.tables items spot b (hop_of own.0 way).tx
        → FitsDirect name way v.tables items spot b (hop_of behind way).tx
    direct_quiet items spot b quiet = direct_tx v.tables items spot way name b (hop_of own.0 way).tx (hop_of behind way).tx
        (quiet_tags (hop_of own.0 way) (hop_of behind way) event quiet moves.moves.happens)

    -- sides are open as they were
    pub paths_after : PathsFit v.tables g.chain.path entities_after v.attached v.plan
    paths_after = record {
      opens = at_all of_side of_port v.entity at name (Some entity_after) (λ b q x. (y : Entity) → x ≡ Some y → IsOpenBy g.chain.path (kind_at b q) q y.epoch)
          (λ y is. subst (IsOpenBy g.chain.path (kind_at at name) name) (ap (λ (z : Entity). z.epoch) (same_Some entity_after y is)) (st.paths.opens at name e is_open))
          (λ b q ne y is. st.paths.opens b q y is);
      ids = st.paths.ids;
      agree = st.paths.agree;
      plans = st.paths.plans;
      listed = st.paths.listed;
      lasts = st.paths.lasts;
    }

    -- a port that was opened still is
    still_opened : (n : PortName) (f : ℕ) → (p : Port) × (g.ports n f ≡ Some p) → (p : Port) × (ports_after n f ≡ Some p)
    still_opened n f was = elim (cases_both of_port of_number name n e.epoch f) [
      | inl same ↦ (behind, ap (λ (n : PortName). ports_after n f) same.0 ∙ ap (ports_after name) same.1 ∙ called.1.here)
      | inr ne ↦ (was.0, called.1.others n f ne ∙ was.1)
    ]

    -- a side that was open still is
    still_open : (b : Side) (q : PortName) → is_some (v.entity b q) ≡ true → is_some (entities_after b q) ≡ true
    still_open = at_all of_side of_port v.entity at name (Some entity_after) (λ b q x. is_some (v.entity b q) ≡ true → is_some x ≡ true) (λ was. refl) (λ b q ne was. was)

    openings_with : (air : List (Option Pdu)) → ((ticket : ℕ) (pdu : Pdu) → on_air air ticket ≡ Some pdu → (p : Port) × (g.ports pdu.port pdu.epoch ≡ Some p))
        → OpeningsFit v.tables g.chain.path ports_after g.epochs air entities_after v.size v.there
    openings_with air aired = record {
      aired = λ ticket pdu on. still_opened pdu.port pdu.epoch (aired ticket pdu on);
      fresh = st.openings.fresh;
      uus = λ b chan has. still_open b (Uu chan) (st.openings.uus b chan has);
      both = st.openings.both;
      on_path = λ r b q of there on. still_open b q (st.openings.on_path r b q of there on);
      sizes = st.openings.sizes;
      nodes = st.openings.nodes;
    }

    pub openings_after : OpeningsFit v.tables g.chain.path ports_after g.epochs v.air entities_after v.size v.there
    openings_after = openings_with v.air st.openings.aired

    openings_sent : (status : Bool) (number : ℕ) (bytes : List ℕ)
        → OpeningsFit v.tables g.chain.path ports_after g.epochs (v.air ++ Some (sent_from name at e.epoch status number bytes) ∷ []) entities_after v.size v.there
    openings_sent status number bytes = openings_with (v.air ++ Some (sent_from name at e.epoch status number bytes) ∷ [])
        (λ ticket pdu on. elim (was_or_came v.air (sent_from name at e.epoch status number bytes) ticket pdu on) [
          | inl was ↦ st.openings.aired ticket pdu was
          | inr came ↦ subst (λ (x : Pdu). (p : Port) × (g.ports x.port x.epoch ≡ Some p)) came (own.0, own.1)
        ])

    -- no item moves, and a PDU may have been sent
    module _ (quiet : IsQuiet event) (fits : HopFits g.spell (hop_of behind way) (g.layout.box (Link name way e.epoch))) where
      stands_with : (air : List (Option Pdu)) → PortsFit ports_after air → OpeningsFit v.tables g.chain.path ports_after g.epochs air entities_after v.size v.there
          → Stands (record g { ports = ports_after }) (record v { entity = entities_after; air = air })
      stands_with air made openings = record {
        good = st.good;
        reaches = st.reaches;
        layout = st.layout;
        spelt = st.spelt;
        lengths = st.lengths;
        ports = made;
        sides = sides_after;
        hops = hops_after g.spell g.layout.box fits (λ n f p is w ne. st.hops n f p is w);
        directs = directs_after g.chain.items g.chain.spot g.layout.box
            (direct_quiet g.chain.items g.chain.spot (g.layout.box (Link name way e.epoch)) quiet (st.directs name e.epoch own.0 own.1 way))
            (λ n f p is w ne. st.directs n f p is w);
        unopened = λ n f none. st.unopened n f (unopened_after n f none);
        places = st.places;
        paths = paths_after;
        openings = openings;
        ends = st.ends;
      }

      pub port_moves : Stands (record g { ports = ports_after }) (record v { entity = entities_after })
      port_moves = stands_with v.air air_after openings_after

      pub port_sends : (status : Bool) (number : ℕ) (bytes : List ℕ) → HasMade behind (way_from at) status number bytes
          → Stands (record g { ports = ports_after }) (record v { entity = entities_after; air = v.air ++ Some (sent_from name at e.epoch status number bytes) ∷ [] })
      port_sends status number bytes made = stands_with _ (air_sent status number bytes made) (openings_sent status number bytes)
