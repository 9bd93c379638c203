use Rattle.std.proofs.Common.{ℕ, ◌≡◌, ◌∙◌, ◌<◌, ◌≤◌, ◌-◌, length, take, drop, sym, ap, subst, arith, length-drop}
use Rattle.std.proofs.lemmas.List.{take_rest, length-take-le}
use Rattle.forget_store.specs.AnyMessage.{any_said}
use Rattle.kept_log.specs.MessageList.{IsSpellingOf}
use Rattle.kept_log.proofs.Messages.{Left, left_all, left_less, left_none, left_wrong, any_whole, not_empty, is_empty}
use Rattle.kept_log.proofs.body.take_body.Goals as goal

less : (m n k : ℕ) → m ≡ n - k → 16 ≤ k → k ≤ n → m < n
less m n k is some within = omega (arith, is, some, within)

pub loop-rest-init : goal.loop-rest-init
loop-rest-init c = left_all c.args.body.now c.args.store.now

pub loop-rest-preserved : goal.loop-rest-preserved
loop-rest-preserved c =
    let rest = c.loop-rest.rest.now in
    let some = not_empty rest c.is_empty.result c.is_empty.ensures c.loop-rest-test.true in
    let read = c.in-Some-read_one.ensures.read in
    let is = c.in-Some-read_one.any-is in
    let reads : IsSpellingOf (take c.in-Some.n rest) (any_said c.in-Some-read_one.any) = subst (λ h. IsSpellingOf (take c.in-Some.n rest) (any_said h)) (sym is) read in
    let left = left_less c.args.body.now rest c.args.store.now c.loop-rest.store c.in-Some.n (any_said c.in-Some-read_one.any) some c.in-Some.ensures.some.2 reads c.loop-rest.invariant in
    let next : Left c.args.body.now (drop c.in-Some.n rest) c.args.store.now c.take_any.new.log =
    subst (λ log. Left c.args.body.now (drop c.in-Some.n rest) c.args.store.now log) (sym c.in_ok-take_any.ensures.next) left in
    subst (λ r. Left c.args.body.now r c.args.store.now c.take_any.new.log) (sym (take_rest rest c.in-Some.n)) next

pub returns-in_default-read_one-clause-wrong : goal.returns-in_default-read_one-clause-wrong
returns-in_default-read_one-clause-wrong c = λ _.
    let rest = c.loop-rest.rest.now in
    left_wrong c.args.body.now rest c.args.store.now c.loop-rest.store c.in-Some.n (not_empty rest c.is_empty.result c.is_empty.ensures c.loop-rest-test.true) c.in-Some.ensures.some.2
    c.in_default-read_one.ensures.none c.loop-rest.invariant

pub loop-rest-smaller : goal.loop-rest-smaller
loop-rest-smaller c =
    let rest = c.loop-rest.rest.now in
    let w = any_whole (take c.in-Some.n rest) (any_said c.in-Some-read_one.any)
    (subst (λ h. IsSpellingOf (take c.in-Some.n rest) (any_said h)) (sym c.in-Some-read_one.any-is) c.in-Some-read_one.ensures.read) in
    let first : length (take c.in-Some.n rest) ≡ c.in-Some.n = length-take-le c.in-Some.n rest c.in-Some.ensures.some.1 in
    let behind : length (take (length rest - c.in-Some.n) (drop c.in-Some.n rest)) ≡ length rest - c.in-Some.n = ap length (take_rest rest c.in-Some.n) ∙ length-drop c.in-Some.n rest in
    less _ (length rest) c.in-Some.n behind (omega (arith, w.long, first)) c.in-Some.ensures.some.1

pub returns-clause-said : goal.returns-clause-said
returns-clause-said c = λ _.
    left_none c.args.body.now c.loop-rest.rest.now c.args.store.now c.loop-rest.store (is_empty c.loop-rest.rest.now c.is_empty.result c.is_empty.ensures c.loop-rest-test.false) c.loop-rest.invariant
