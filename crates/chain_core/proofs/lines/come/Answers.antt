use Rattle.chain_core.proofs.Carrying.{arrives}
use Rattle.chain_core.proofs.lines.come.Goals as goal

pub returns : goal.returns
returns c = arrives c.args.nodes.now c.args.pdu.now c.hearer_of-side.result c.way_from.result c.sent_over-sent.result c.in_ok-heard.heard c.args.log.now c.tell_heard.new.log c.in_ok-reply.reply
    (record { carried = record { reply = c.in_ok-reply.reply; watch = c.watch_of-watch.result }; is_heard = c.is_handed_over-is_heard.result }) c.hear.new.self
    c.hearer_of-side.ensures c.way_from.ensures c.sent_over-sent.ensures c.in_ok-heard.ensures.ok c.in_ok-heard.ensures.tables c.in_ok-heard.ensures.still c.in_ok-reply.ensures
    c.is_handed_over-is_heard.ensures c.watch_of-watch.ensures
