use Rattle.std.proofs.Common.{rules}
use Rattle.chain_core.proofs.Rising.{plays}
use Rattle.chain_core.proofs.chain.Chain.step.Goals as goal

pub returns : goal.returns
returns c = plays c.args.self.now c.args.line.now c.args.log.now c.carry.new.log c.tell_confirmed.new.log c.feed.new.log c.in_ok-carried.carried.reply c.carry.new.self c.feed.new.self c.in_ok-carried.carried.watch
    c.in_ok-carried.ensures.carries c.in_ok-carried.ensures.watches (search rules) (search rules)
