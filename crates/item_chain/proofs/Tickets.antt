-- Lines that move tickets only: lose and stage.
use Rattle.std.proofs.Common.{◌≡◌, inl, inr, ℕ, List, Option, Some, None, sym, ap, subst}
use Rattle.rlc_model.specs.declared.hop.Pdu.{Pdu}
use Rattle.rlc_model.specs.Hop.{on_air, off_air}
use Rattle.rlc_law.specs.Ports.{PortsFit, goes_off}
use Rattle.rlc_law.proofs.Crossing.{ports_keep, was_on}
use Rattle.script_text.specs.declared.event.Event.{Event}
use Rattle.script_text.specs.declared.reply.Reply.{Reply}
use Rattle.chain_model.specs.State.{Chain}
use Rattle.chain_model.specs.Lines.{Unless, Loses, Stages}
use Rattle.item_chain.specs.View.{View, view}
use Rattle.item_chain.specs.Stands.{Ghost, Stands, rests, Refines}
use Rattle.item_chain.proofs.Calls.{unless}
use Rattle.item_chain.proofs.Goings.{stays}
use Rattle.item_chain.proofs.Given.{given_same}

-- another air that has what ports have made
pub air_stands : (g : Ghost) (v : View) (air : List (Option Pdu)) → Stands g v → PortsFit g.ports air
    → ((ticket : ℕ) (pdu : Pdu) → on_air air ticket ≡ Some pdu → on_air v.air ticket ≡ Some pdu) → Stands g (record v { air = air })
air_stands g v air st fits was = record {
  good = st.good;
  reaches = st.reaches;
  layout = st.layout;
  spelt = st.spelt;
  lengths = st.lengths;
  ports = fits;
  sides = st.sides;
  hops = st.hops;
  directs = st.directs;
  unopened =
      st.unopened;
  places = st.places;
  paths = st.paths;
  openings = record {
    aired = λ ticket pdu on. st.openings.aired ticket pdu (was ticket pdu on);
    fresh = st.openings.fresh;
    uus = st.openings.uus;
    both = st.openings.both;
    on_path = st.openings.on_path;
    sizes = st.openings.sizes;
    nodes = st.openings.nodes;
  };
  ends = st.ends;
}

-- a PDU is lost
pub lost : (g : Ghost) (v : View) (ticket : ℕ) → Stands g v → Stands g (record v { air = off_air v.air ticket })
lost g v ticket st = air_stands g v (off_air v.air ticket) st (ports_keep g.ports g.ports v.air (off_air v.air ticket) st.ports (goes_off ticket))
    (λ other pdu on. was_on v.air ticket other pdu on)

pub loses_refines : (g : Ghost) (old : Chain) → Stands g (view old) → (pdu : Option Pdu) (ticket : ℕ) (events : List Event) (reply : Reply) (new : Chain)
    → Loses old pdu ticket events reply new
    → Refines old.tables g (view new)
loses_refines g old st None ticket events reply new does = stays old.tables g (view old) (view new) (ap view does.2) st
loses_refines g old st (Some pdu) ticket events reply new does = record {
  ghost = g;
  goes = rests;
  given = given_same g.ports;
  stands =
      subst (λ (c : Chain). Stands g (view c)) (sym does.2) (lost g (view old) ticket st);
}

pub stage_refines : (g : Ghost) (old : Chain) → Stands g (view old) → (refusal : Option Reply) (ticket : ℕ) (events : List Event) (reply : Reply) (new : Chain)
    → Unless refusal old events reply new (Stages old ticket events reply new) → Refines old.tables g (view new)
stage_refines g old st refusal ticket events reply new does = elim (unless refusal old events reply new (Stages old ticket events reply new) does) [
  | inl same ↦ stays old.tables g (view old) (view new) (ap view same) st
  | inr x ↦ stays old.tables g (view old) (view new) (ap view x.2) st
]
