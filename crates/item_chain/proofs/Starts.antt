-- Ports at their start: nothing was given to them, and nothing stands on their hops.
use Rattle.std.proofs.Common.{◌≡◌, ◌↔◌, ℕ, Bool, true, false, List, [], length, Option, Some, None, refl, sym, ◌∙◌, ap}
use Rattle.std.specs.List.{slice_get}
use Rattle.std.proofs.lemmas.Bool.{false≢true}
use Rattle.std.proofs.lemmas.Option.{none-some}
use Rattle.link_base.specs.declared.names.PortName.{PortName}
use Rattle.link_base.specs.declared.names.PortName.TheVariants.{Direct, Pc5, Uu}
use Rattle.link_base.specs.declared.names.Way.{Way}
use Rattle.link_base.specs.declared.names.Way.TheVariants.{Ul, Dl}
use Rattle.bearer_map.specs.Contents.{Contents}
use Rattle.rlc_model.specs.Rx.{Got, Done, Part, got}
use Rattle.rlc_model.specs.Tx.{Tx}
use Rattle.rlc_law.specs.Ports.{hop_of, start_port, ReachesPort}
use Rattle.rlc_law.specs.Sides.{HasSize}
use Rattle.node_model.specs.Tables.{settings}
use Rattle.chain_model.specs.Sizes.{port_size}
use Rattle.chain_law.specs.Entities.{port_settings}
use Rattle.item_law.specs.State.{Item, Spot}
use Rattle.item_place.specs.Places.{Box}
use Rattle.item_place.specs.HopFits.{HopFits}
use Rattle.item_chain.specs.Stands.{FitsDirect}

part_done : (held : List (Option ℕ)) (len : Option ℕ) → Part held len ≡ Done → ⊥
part_done held len e = cc

none_left : {left : Bool} (o : Got) → left ≡ false → o ≡ Part [] None → (left ≡ true) ↔ (o ≡ Done)
none_left o stays is = ((λ e. absurd (false≢true (sym stays ∙ e))), (λ e. absurd (part_done [] None (sym is ∙ e))))

nothing_came : (b : Box) → b.log ≡ [] → (k n : ℕ) → slice_get b.log k ≡ Some n → ⊥
nothing_came b empty k n e = none-some n (ap (λ (log : List ℕ). slice_get log k) (sym empty) ∙ e)

module _ (t : Contents) where
  pub start_reaches : (name : PortName) → ReachesPort (start_port (port_settings t name))
  start_reaches name Ul = record {
    size = port_size t name;
    poll_pdu = (settings t).poll_pdu;
    poll_byte = (settings t).poll_byte;
    max_retx_threshold = (settings t).max_retx;
    events = [];
    run = refl;
  }
  start_reaches name Dl = record {
    size = port_size t name;
    poll_pdu = (settings t).poll_pdu;
    poll_byte = (settings t).poll_byte;
    max_retx_threshold = (settings t).max_retx;
    events = [];
    run = refl;
  }

  pub start_size : (name : PortName) → HasSize (port_size t name) (start_port (port_settings t name))
  start_size name Ul = (refl, refl)
  start_size name Dl = (refl, refl)

  -- they fit boxes into which nothing came
  module _ (b : Box) (empty : b.log ≡ []) where
    pub start_fits : (spell : ℕ → List ℕ) → ((k : ℕ) → b.left k ≡ false) → (name : PortName) (w : Way) → HopFits spell (hop_of (start_port (port_settings t name)) w) b
    start_fits spell stays name Ul = record {
      long = ap (λ (log : List ℕ). length log) empty;
      sdus = λ k n e. absurd (nothing_came b empty k n e);
      left = λ k. none_left (got (hop_of (start_port (port_settings t name)) Ul).rx k) (stays k) refl;
    }
    start_fits spell stays name Dl = record {
      long = ap (λ (log : List ℕ). length log) empty;
      sdus = λ k n e. absurd (nothing_came b empty k n e);
      left = λ k. none_left (got (hop_of (start_port (port_settings t name)) Dl).rx k) (stays k) refl;
    }

    pub start_direct : (items : ℕ → Option Item) (spot : ℕ → Spot) (name : PortName) (w : Way) (tx : Tx) → FitsDirect name w t items spot b tx
    start_direct items spot (Direct r d) w tx = record {
      goals = λ k n e. absurd (nothing_came b empty k n e);
      arrived = λ k n e left. absurd (nothing_came b empty k n e);
      tags = λ k n i kept e is has. absurd (nothing_came b empty k n e);
    }
    start_direct items spot (Pc5 r c) w tx = tt
    start_direct items spot (Uu c) w tx = λ k n i kept e is has. absurd (nothing_came b empty k n e)
