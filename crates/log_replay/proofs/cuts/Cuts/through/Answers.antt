use Rattle.std.proofs.Common.{◌≤◌, ◌∙◌, sym, length, arith}
use Rattle.seq_arith.specs.MessageGrammar.{lens_in}
use Rattle.log_replay.proofs.Lengths.{all_through, sum_through}
use Rattle.seq_arith.proofs.Texts.{lens_in_length}
use Rattle.log_replay.proofs.cuts.Cuts.through.Goals as goal

pub returns-clause-sum : goal.returns-clause-sum
returns-clause-sum c =
    let size = lens_in_length c.args.lens.now in
    let past : length (lens_in c.args.lens.now) ≤ c.loop-i.i = omega (arith, size, c.loop-i-test.false) in
    sum_through c.args.len c.args.fin c.args.self c.loop-i.cuts (lens_in c.args.lens.now)
    (sym (all_through c.args.len c.args.fin c.loop-i.cuts (lens_in c.args.lens.now) c.loop-i.i past) ∙ c.loop-i.invariant.0)
