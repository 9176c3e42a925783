use Rattle.std.proofs.Common.{Some, sym, ◌∙◌, ap}
use Rattle.rlc_model.specs.Sides.{flip}
use Rattle.node_model.specs.State.{Outgoing, Incoming}
use Rattle.node_model.specs.Feeding.{in_key, out_key}
use Rattle.node_bearers.specs.Bearer.{bearer_key, outgoing_of, incoming_of}
use Rattle.node_bearers.proofs.Table.{within, names_at, named_at, found_sent, sent, found_received, received}
use Rattle.node_bearers.proofs.bearers.Bearers.key.Goals as goal

pub returns : goal.returns
returns c =
    let a = c.self.inside in
    let b = c.index-bearer.result.now in
    let rows = a.rows.items in
    let place = c.args.place in
    let here = c.index-bearer.ensures in
    let lt = within (outgoing_of a.sends) rows place (rw (← c.self.view_is) at c.requires) in
    let out = bearer_key a.sends b in
    let into = bearer_key (flip a.sends) b in
    let sends = named_at (outgoing_of a.sends) out_key b rows place lt here in
    let receives = named_at (incoming_of (flip a.sends)) in_key b rows place lt here in
    let out_at = names_at (outgoing_of a.sends) out_key out rows place sends in
    let in_at = names_at (incoming_of (flip a.sends)) in_key into rows place receives in
    let out_is = sent out a.sends b rows place c.self.invariant here out_at in
    let in_is = received into a.sends b rows place c.self.invariant here in_at in
    rw (← c.self.view_is) (record {
      sent = sends;
      received = receives;
      sender = found_sent out a.sends b rows place c.self.invariant here out_at ∙ ap (λ (o : Outgoing). Some o) (sym out_is);
      receiver = found_received into a.sends b rows place c.self.invariant here in_at ∙ ap (λ (i : Incoming). Some i) (sym in_is);
      sent_key = ap out_key out_is;
      received_key = ap in_key in_is;
    })
