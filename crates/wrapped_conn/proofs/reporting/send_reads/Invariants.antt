use Rattle.std.proofs.Common.{◌≡◌, ◌+◌, ◌++◌, drop, length}
use Rattle.north_wrap.specs.Refinement.{messages_of}
use Rattle.wrapped_conn.specs.LoggerMessages.{spelled, AreShort}
use Rattle.wrapped_conn.proofs.reporting.send_reads.Given as goal

abbrev pub invariant-loop-i : goal.invariant-loop-i
invariant-loop-i l = record {
  count : length l.out ≡ length l.initial.out + l.i;
  short : AreShort l.out;
  reported : l.out ++ spelled l.wide l.boot (messages_of l.key (drop l.i l.reads)) ≡ l.initial.out ++ spelled l.wide l.boot (messages_of l.key l.reads);
}
