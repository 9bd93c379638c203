use Rattle.std.proofs.Common.{◌≡◌, ◌+◌, ◌<◌, ◌≤◌, true, ap, arith, length, ◌∙◌, [], sym, take, length-take, eqb-true}
use Rattle.std.specs.Prelude.{nat_le}
use Rattle.tcp_rules.specs.Early.{laid, run_count}
use Rattle.tcp_buffers.specs.Queue.{Queue}
use Rattle.tcp_buffers.proofs.Overwrites.{no_items}
use Rattle.tcp_buffers.proofs.QueueFields.{held_so, none_laid, held_by, not_held_by, hold_counts, shown}
use Rattle.tcp_buffers.proofs.receive_queue.RecvQueue.hold.Goals as goal

pub returns-then-is_empty-clause-held : goal.returns-then-is_empty-clause-held
returns-then-is_empty-clause-held c =
    let e : c.args.bytes.now ≡ [] = no_items c.args.bytes.now (eqb-true _ _ (sym c.is_empty.ensures ∙ c.if-is_empty.true)) in
    let few : nat_le (run_count c.args.self.now.early) 16 ≡ true = grind (arith, c.few.ensures) in
    sym (ap (λ l. nat_le (run_count (laid c.args.at l c.args.self.now.early)) 16) e ∙ ap (λ l. nat_le (run_count l) 16) (none_laid c.args.at c.args.self.now.early) ∙ few)

pub returns-then-is_empty-clause-state : goal.returns-then-is_empty-clause-state
returns-then-is_empty-clause-state c =
    let e : c.args.bytes.now ≡ [] = no_items c.args.bytes.now (eqb-true _ _ (sym c.is_empty.ensures ∙ c.if-is_empty.true)) in
    let few : nat_le (run_count c.args.self.now.early) 16 ≡ true = grind (arith, c.few.ensures) in
    let laid_none : laid c.args.at c.args.bytes.now c.args.self.now.early ≡ c.args.self.now.early = ap (λ l. laid c.args.at l c.args.self.now.early) e ∙ none_laid c.args.at c.args.self.now.early in
    ap (λ l. record c.args.self.now { early = l }) (sym (held_by c.args.at c.args.bytes.now c.args.self.now.early (ap (λ l. nat_le (run_count l) 16) laid_none ∙ few) ∙ laid_none))

pub returns-then-not-cover-clause-held : goal.returns-then-not-cover-clause-held
returns-then-not-cover-clause-held c =
    let some : 0 < length c.args.bytes.now = grind (arith, c.is_empty.ensures, c.if-is_empty.false) in
    let count = hold_counts c.self.inside.bytes.items c.args.bytes.now c.args.at c.self.inside.in_order c.self.inside.early c.self.invariant.1 c.requires.ahead some in
    c.if-not-cover.ensures.fits ∙ ap (λ n. nat_le n 16) count ∙ ap (λ (q : Queue). nat_le (run_count (laid c.args.at c.args.bytes.now q.early)) 16) c.self.view_is

pub returns-then-not-cover-clause-state : goal.returns-then-not-cover-clause-state
returns-then-not-cover-clause-state c =
    let some : 0 < length c.args.bytes.now = grind (arith, c.is_empty.ensures, c.if-is_empty.false) in
    let count = hold_counts c.self.inside.bytes.items c.args.bytes.now c.args.at c.self.inside.in_order c.self.inside.early c.self.invariant.1 c.requires.ahead some in
    let reported = c.if-not-cover.ensures.fits ∙ ap (λ n. nat_le n 16) count ∙ ap (λ (q : Queue). nat_le (run_count (laid c.args.at c.args.bytes.now q.early)) 16) c.self.view_is in
    ap (shown c.self.inside.bytes.items c.self.inside.in_order) c.if-not-cover.ensures.full ∙ c.self.view_is
    ∙ ap (λ l. record c.args.self.now { early = l }) (sym (not_held_by c.args.at c.args.bytes.now c.args.self.now.early (sym reported)))

pub invariant_of-self-2 : goal.invariant_of-self-2
invariant_of-self-2 c =
    let some : 0 < length c.args.bytes.now = grind (arith, c.is_empty.ensures, c.if-is_empty.false) in
    let long : length (take c.self.inside.in_order c.self.inside.bytes.items) ≡ length c.args.self.now.unread = ap (λ (q : Queue). length q.unread) c.self.view_is in
    let fit : c.self.inside.in_order + c.args.at + length c.args.bytes.now ≤ 65535 =
    omega (arith, long, length-take c.self.inside.in_order c.self.inside.bytes.items, c.self.invariant.1.within, c.requires.fits) in (
      c.overwrite.ensures.room,
      (held_so c.self.inside.bytes.items c.args.bytes.now c.overwrite.new.queue.items c.args.at c.self.inside.in_order c.self.inside.early c.cover.new.self c.self.invariant.1 c.requires.ahead some fit
          c.overwrite.ensures.items c.if-not-cover.ensures.held).keeps,
    )

pub returns-clause-held : goal.returns-clause-held
returns-clause-held c =
    let some : 0 < length c.args.bytes.now = grind (arith, c.is_empty.ensures, c.if-is_empty.false) in
    let count = hold_counts c.self.inside.bytes.items c.args.bytes.now c.args.at c.self.inside.in_order c.self.inside.early c.self.invariant.1 c.requires.ahead some in
    c.if-not-cover.ensures.fits ∙ ap (λ n. nat_le n 16) count ∙ ap (λ (q : Queue). nat_le (run_count (laid c.args.at c.args.bytes.now q.early)) 16) c.self.view_is

pub returns-clause-state : goal.returns-clause-state
returns-clause-state c =
    let some : 0 < length c.args.bytes.now = grind (arith, c.is_empty.ensures, c.if-is_empty.false) in
    let count = hold_counts c.self.inside.bytes.items c.args.bytes.now c.args.at c.self.inside.in_order c.self.inside.early c.self.invariant.1 c.requires.ahead some in
    let reported = c.if-not-cover.ensures.fits ∙ ap (λ n. nat_le n 16) count ∙ ap (λ (q : Queue). nat_le (run_count (laid c.args.at c.args.bytes.now q.early)) 16) c.self.view_is in
    let long : length (take c.self.inside.in_order c.self.inside.bytes.items) ≡ length c.args.self.now.unread = ap (λ (q : Queue). length q.unread) c.self.view_is in
    let fit : c.self.inside.in_order + c.args.at + length c.args.bytes.now ≤ 65535 =
    omega (arith, long, length-take c.self.inside.in_order c.self.inside.bytes.items, c.self.invariant.1.within, c.requires.fits) in
    (held_so c.self.inside.bytes.items c.args.bytes.now c.overwrite.new.queue.items c.args.at c.self.inside.in_order c.self.inside.early c.cover.new.self c.self.invariant.1 c.requires.ahead some fit
    c.overwrite.ensures.items c.if-not-cover.ensures.held).view
    ∙ ap (λ (q : Queue). record q { early = laid c.args.at c.args.bytes.now q.early }) c.self.view_is
    ∙ ap (λ l. record c.args.self.now { early = l }) (sym (held_by c.args.at c.args.bytes.now c.args.self.now.early (sym reported)))
