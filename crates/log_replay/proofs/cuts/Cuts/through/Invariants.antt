use Rattle.std.proofs.Common.{◌≡◌, ◌≤◌, drop}
use Rattle.seq_arith.specs.MessageGrammar.{lens_in}
use Rattle.log_replay.specs.ReadLengths.{cuts_through, HaveBytes}
use Rattle.log_replay.proofs.cuts.Cuts.through.Given as goal

-- the lengths that are left decide
abbrev pub invariant-loop-i : goal.invariant-loop-i
invariant-loop-i l =
    (cuts_through l.fn.len l.fn.fin l.cuts (drop l.i (lens_in l.fn.lens)) ≡ cuts_through l.fn.len l.fn.fin l.fn.self (lens_in l.fn.lens))
    × HaveBytes l.cuts × (l.cuts.sum ≤ l.fn.len)
