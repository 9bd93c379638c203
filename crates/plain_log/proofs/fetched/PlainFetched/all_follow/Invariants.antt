use Rattle.std.specs.Prelude.{◌≡◌, ◌≤◌, length}
use Rattle.seq_arith.specs.MessageGrammar.{lens_in}
use Rattle.plain_log.specs.Following.{follow_on}
use Rattle.plain_log.proofs.fetched.PlainFetched.all_follow.Given as goal

abbrev pub invariant-loop-len : goal.invariant-loop-len
invariant-loop-len l =
    (follow_on l.self.head.length l.self.head.fin l.read l.closed (lens_in l.rest) ≡ follow_on l.self.head.length l.self.head.fin l.initial.read l.initial.closed (lens_in l.fn.lens))
    × (l.read ≤ l.self.head.length)

abbrev pub decreases-loop-len : goal.decreases-loop-len
decreases-loop-len l = length l.rest
