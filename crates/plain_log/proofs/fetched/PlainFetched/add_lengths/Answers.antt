use Rattle.seq_arith.specs.MessageGrammar.{lens_in}
use Rattle.plain_log.proofs.Following.{one_added}
use Rattle.plain_log.proofs.fetched.PlainFetched.add_lengths.Goals as goal

pub loop-len-preserved : goal.loop-len-preserved
loop-len-preserved c =
    one_added c.args.self.now c.loop-len.self c.add_length.new.self (lens_in c.args.lens.now) (lens_in c.loop-len.rest.now) (lens_in c.in-Some.behind.now) c.in-Some.len
    c.loop-len.invariant c.in-Some.ensures.value c.in_ok-add_length.ensures
