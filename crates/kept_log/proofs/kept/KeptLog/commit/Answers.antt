use Rattle.std.proofs.Common.{◌≡◌, ◌∙◌, ◌≤◌, [], length, sym, ap, ap₂, subst, arith, vec_len}
use Rattle.std.specs.Prelude.{◌==◌}
use Rattle.kept_log.specs.Format.{next_tip}
use Rattle.kept_log.specs.JournaledLog.{HasLog, with_round}
use Rattle.kept_log.proofs.Messages.{is_empty, not_empty}
use Rattle.kept_log.proofs.Logs.{kept_none, kept_round}
use Rattle.kept_log.proofs.kept.KeptLog.commit.Goals as goal

pub returns-then-is_empty-clause-has_log : goal.returns-then-is_empty-clause-has_log
returns-then-is_empty-clause-has_log g c = λ made bodies before has waits.
    let k = c.args.self.now in
    let counted : vec_len c.self.inside.round ≡ length c.self.inside.round.items = omega (arith, c.self.inside.round.ok.0) in
    let none : c.self.inside.round.items ≡ [] = is_empty c.self.inside.round.items c.is_empty.result (c.is_empty.ensures ∙ ap (λ n. n == 0) counted) c.if-is_empty.true in
    kept_none made bodies k.round k.tip before k.log (ap (λ s. s.round) (sym c.self.view_is) ∙ none) has waits

pub returns-clause-has_log : goal.returns-clause-has_log
returns-clause-has_log g c = λ made bodies before has waits.
    let k = c.args.self.now in
    let counted : vec_len c.self.inside.round ≡ length c.self.inside.round.items = omega (arith, c.self.inside.round.ok.0) in
    let round : k.round ≡ c.self.inside.round.items = ap (λ s. s.round) (sym c.self.view_is) in
    let some = not_empty c.self.inside.round.items c.is_empty.result (c.is_empty.ensures ∙ ap (λ n. n == 0) counted) c.if-is_empty.false in
    let few : length k.round ≤ 381696 = omega (arith, ap length round, c.self.invariant.0) in
    let tip : next_tip k.tip k.round ≡ c.keep.new.self =
    ap₂ next_tip (ap (λ s. s.tip) (sym c.self.view_is)) (round ∙ sym c.deref.ensures.value) ∙ sym c.in_ok-keep.ensures.next in
    let log : k.log ≡ c.self.inside.store = ap (λ s. s.log) (sym c.self.view_is) in
    subst (λ l. HasLog made (with_round bodies k.round) c.keep.new.self l) log
    (subst (λ t. HasLog made (with_round bodies k.round) t k.log) tip
    (kept_round made bodies k.round k.tip before k.log (λ none. some (sym round ∙ none)) few has waits))
