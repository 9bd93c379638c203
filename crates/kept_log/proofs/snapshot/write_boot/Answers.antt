use Rattle.std.proofs.Common.{◌∙◌, ap, Some}
use Rattle.std.proofs.lemmas.Result.{on_ok_weaker}
use Rattle.seq_arith.specs.Message.Body.{HelloMsg}
use Rattle.seq_arith.specs.MessageGrammar.{reading_by}
use Rattle.long_laws.specs.Snapshot.{said}
use Rattle.kept_log.proofs.snapshot.write_boot.Goals as goal

pub returns-clause-written : goal.returns-clause-written
returns-clause-written g c =
    on_ok_weaker c.take.result (λ taken. taken c.args.grammar (Some (said c.args.boot HelloMsg)) (ap (reading_by c.args.grammar) c.bytes.ensures.value ∙ c.write_boot.ensures)) c.take.ensures.taken
