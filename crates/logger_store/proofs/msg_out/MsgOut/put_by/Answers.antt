use Rattle.std.proofs.Common.{arith, refl, subst, sym, IsOk}
use Rattle.logger_wire.specs.Value.{message_of}
use Rattle.logger_wire.proofs.OneSpelling.{not_longer}
use Rattle.logger_store.proofs.Answers.{written_replies}
use Rattle.logger_store.proofs.msg_out.MsgOut.put_by.Goals as goal

pub invariant_of-self : goal.invariant_of-self
invariant_of-self c = (
  omega (arith, c.write_msg_by-self-inside.ensures.length, not_longer (message_of c.args.m.now) c.requires.spellable),
  written_replies c.args.grammar _ (subst IsOk (sym c.write_msg_by-self-inside.ensures.read) refl),
)
