use Rattle.std.proofs.Common.{◌≡◌, ◌∙◌, ◌≤◌, sym, ap, true, false, option_map, length, arith}
use Rattle.ft_io.specs.Key.{key_eq}
use Rattle.ft_model.specs.Log.{Entry}
use Rattle.logger_wire.specs.Records.{head_said}
use Rattle.logger_store.proofs.LeftLogs.{same_count}
use Rattle.schedule_network.proofs.ByKey.{found_here, found_later, found_no_more, nothing_from}
use Rattle.schedule_network.proofs.marked.acknowledged.Goals as goal

pub returns-in_default : goal.returns-in_default
returns-in_default c = λ l a.
    sym (ap (option_map (λ (e : Entry). e.acknowledged)) (c.loop-i.invariant l a ∙ found_no_more c.args.key l.log.entries c.loop-i.i (c.in_default.ensures.value l a)))

pub returns-then-eq : goal.returns-then-eq
returns-then-eq c = λ l a.
    let same : key_eq c.in-Some.head.key c.args.key ≡ true = sym c.eq.ensures ∙ c.if-eq.true in
    found_here c.args.key l.log.entries c.loop-i.i (head_said c.in-Some.head) (c.in-Some.ensures.value l a) same
    ∙ sym (ap (option_map (λ (e : Entry). e.acknowledged)) (c.loop-i.invariant l a))

pub loop-i-preserved : goal.loop-i-preserved
loop-i-preserved c = λ l a.
    let other : key_eq c.in-Some.head.key c.args.key ≡ false = sym c.eq.ensures ∙ c.if-eq.false in
    c.loop-i.invariant l a ∙ found_later c.args.key l.log.entries c.loop-i.i (head_said c.in-Some.head) (c.in-Some.ensures.value l a) other

pub returns : goal.returns
returns c = λ l a.
    let counts : length c.args.store.now.trimmed.log.entries ≡ length l.log.entries = same_count c.args.store.now.trimmed.trims c.args.store.now.trimmed.log.entries l.log.entries a.left.entries in
    let end : c.count-i-end.result ≡ length c.args.store.now.trimmed.log.entries = c.count-i-end.ensures.value in
    let all : length l.log.entries ≤ c.loop-i.i = omega (arith, counts, end, c.loop-i-test.false) in
    sym (ap (option_map (λ (e : Entry). e.acknowledged)) (c.loop-i.invariant l a ∙ nothing_from c.args.key l.log.entries c.loop-i.i all))
