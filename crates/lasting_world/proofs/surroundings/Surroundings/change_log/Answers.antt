use Rattle.std.proofs.Common.{Some, subst}
use Rattle.std.proofs.lemmas.Result.{on_ok_weaker}
use Rattle.ft_model.specs.Log.{entry_of}
use Rattle.lasting_world.specs.Around.{kept_around}
use Rattle.lasting_world.specs.GoneEntries.{IsEntryToGo}
use Rattle.lasting_world.specs.LogTurns.{RecyclesUnless, log_then, with_log}
use Rattle.lasting_world.proofs.Taking.{gone_as}
use Rattle.lasting_world.proofs.surroundings.Surroundings.change_log.Goals as goal

pub returns-in_ok-answer-in-Some-clause-log : goal.returns-in_ok-answer-in-Some-clause-log
returns-in_ok-answer-in-Some-clause-log c =
    let before = kept_around c.args.self.now in
    let log = log_then c.args.bytes.now before in
    let was : IsEntryToGo (Some c.in-Some.entry) (entry_of c.args.key before.log) = subst (λ o. IsEntryToGo o (entry_of c.args.key before.log)) c.in-Some.is c.in_ok-entry.ensures in
    on_ok_weaker c.recycle_if_gone.result
    (λ r.
    gone_as c.args.key (entry_of c.args.key before.log) (entry_of c.args.key log) c.in-Some.entry (with_log log before) (kept_around c.recycle_if_gone.new.self) was
    (subst (λ m. RecyclesUnless (entry_of c.args.key m.log) c.args.key c.in-Some.entry m (kept_around c.recycle_if_gone.new.self)) c.in_ok-answer-in-Some.ensures.log r))
    c.recycle_if_gone.ensures.recycled
