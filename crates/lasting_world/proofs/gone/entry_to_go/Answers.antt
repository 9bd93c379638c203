use Rattle.std.proofs.Common.{◌∙◌, None, sym, subst, length, ◌≤◌, arith}
use Rattle.schedule_network.proofs.ByKey.{found_later, found_no_more, nothing_from}
use Rattle.logger_wire.specs.Records.{head_said}
use Rattle.ft_model.specs.Log.{entry_of}
use Rattle.lasting_world.specs.GoneEntries.{IsEntryToGo}
use Rattle.lasting_world.proofs.Recycling.{entry_reported}
use Rattle.lasting_world.proofs.gone.entry_to_go.Goals as goal

pub returns-in_default : goal.returns-in_default
returns-in_default c =
    subst (IsEntryToGo None) (sym (c.loop-i.invariant ∙ found_no_more c.args.key c.args.log.now.entries c.loop-i.i c.in_default.ensures.value)) tt

pub loop-i-preserved : goal.loop-i-preserved
loop-i-preserved c =
    c.loop-i.invariant ∙ found_later c.args.key c.args.log.now.entries c.loop-i.i (head_said c.in-Some.head) c.in-Some.ensures.value (sym c.eq.ensures ∙ c.if-eq.false)

pub returns : goal.returns
returns c =
    let all : length c.args.log.now.entries ≤ c.loop-i.i = omega (arith, c.count-i-end.ensures.value, c.loop-i-test.false) in
    subst (IsEntryToGo None) (sym (c.loop-i.invariant ∙ nothing_from c.args.key c.args.log.now.entries c.loop-i.i all)) tt

pub returns-then-eq : goal.returns-then-eq
returns-then-eq c =
    entry_reported c.args.key c.args.log.now.entries c.loop-i.i (entry_of c.args.key c.args.log.now) (record { head = c.in-Some.head; lengths = c.in_ok-lengths.lengths }) c.in-Some.ensures.value
    (sym c.eq.ensures ∙ c.if-eq.true) c.in_ok-lengths.ensures c.loop-i.invariant
