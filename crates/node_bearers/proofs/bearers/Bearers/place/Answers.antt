use Rattle.rlc_model.specs.Sides.{flip}
use Rattle.node_model.specs.Feeding.{in_key, out_key}
use Rattle.node_bearers.specs.Bearer.{outgoing_of, incoming_of}
use Rattle.bearer_map.specs.Contents.{pair}
use Rattle.node_bearers.specs.Order.{HasRank}
use Rattle.node_bearers.proofs.Table.{place_within, names_at}
use Rattle.node_bearers.proofs.Searches.{its_place}
use Rattle.node_bearers.proofs.bearers.Bearers.place.Goals as goal

pub returns : goal.returns
returns c =
    let a = c.self.inside in
    let rows = a.rows.items in
    let ranked = rw (c.rank_of.ensures.value, c.deref.ensures.value) at c.place_with.ensures in
    let small = c.rank_of.ensures.octet in
    rw (← c.self.view_is) (record {
      within = place_within (HasRank (pair c.args.remote.0 c.args.drb.0)) (outgoing_of a.sends) rows c.place_with.result ranked.some;
      sent = λ at key is its.
          let named = names_at (outgoing_of a.sends) out_key key rows at is in
          its_place rows c.self.invariant c.args.remote c.args.drb c.place_with.result ranked.some ranked.none a.sends key at named.0 named.1 its;
      received = λ at key is its.
          let named = names_at (incoming_of (flip a.sends)) in_key key rows at is in
          its_place rows c.self.invariant c.args.remote c.args.drb c.place_with.result ranked.some ranked.none (flip a.sends) key at named.0 named.1 its;
    })
