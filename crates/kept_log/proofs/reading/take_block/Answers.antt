use Rattle.std.proofs.Common.{◌≡◌, ◌∙◌, ◌+◌, ◌-◌, ℕ, List, length, take, drop, refl, sym, ap, subst, arith, rules}
use Rattle.forget_store.specs.AnyMessage.{AnyMessage}
use Rattle.kept_log.specs.JournaledLog.{Waits}
use Rattle.kept_log.specs.MessageList.{Says}
use Rattle.kept_log.specs.ReadSteps.{StartsWith}
use Rattle.kept_log.specs.declared.block.Start.TheVariants.{Block}
use Rattle.kept_log.proofs.Steps.{block_fits, block_taken, block_wrong}
use Rattle.kept_log.proofs.reading.take_block.Goals as goal

pub slice_bounds-take_body-end : goal.slice_bounds-take_body-end
slice_bounds-take_body-end c =
    let salt : length c.args.tip.now.salt ≡ 16 = search rules in
    let begins : StartsWith c.args.tip.now c.bytes.result.now (Block c.in-Block.len c.in-Block.digest) = subst (StartsWith c.args.tip.now c.bytes.result.now) c.in-Block.is c.in_ok-start_of.ensures in
    let fits = block_fits c.args.tip.now c.bytes.result.now c.in-Block.len c.in-Block.digest salt begins in
    omega (arith, fits, ap length c.bytes.ensures, ap length c.bytes-in-Block.ensures)

pub returns-then-not-branch : goal.returns-then-not-branch
returns-then-not-branch c =
    let salt : length c.args.tip.now.salt ≡ 16 = search rules in
    let n = c.in-Block.len in
    let begins : StartsWith c.args.tip.now c.args.window.now (Block n c.in-Block.digest) =
    subst (λ (b : List ℕ). StartsWith c.args.tip.now b (Block n c.in-Block.digest)) c.bytes.ensures (subst (StartsWith c.args.tip.now c.bytes.result.now) c.in-Block.is c.in_ok-start_of.ensures) in
    let width : n + 44 - 44 ≡ n = omega arith in
    let bad : (messages : List AnyMessage) → Says (take (n + 44 - 44) (drop 44 c.bytes-in-Block.result.now)) messages → ⊥ = c.in_ok-take_body-in-Block.ensures.wrong c.if-not-branch.true in
    let here : (messages : List AnyMessage) → Says (take n (drop 44 c.args.window.now)) messages → ⊥ =
    subst (λ (b : List ℕ). (messages : List AnyMessage) → Says b messages → ⊥)
    (ap (λ (b : List ℕ). take (n + 44 - 44) (drop 44 b)) c.bytes-in-Block.ensures ∙ ap (λ k. take k (drop 44 c.args.window.now)) width) bad in
    (block_wrong c.args.tip.now c.args.window.now n c.in-Block.digest salt begins here, refl)

pub skip-requires : goal.skip-requires
skip-requires c =
    let salt : length c.args.tip.now.salt ≡ 16 = search rules in
    let begins : StartsWith c.args.tip.now c.args.window.now (Block c.in-Block.len c.in-Block.digest) =
    subst (λ (b : List ℕ). StartsWith c.args.tip.now b (Block c.in-Block.len c.in-Block.digest)) c.bytes.ensures
    (subst (StartsWith c.args.tip.now c.bytes.result.now) c.in-Block.is c.in_ok-start_of.ensures) in
    block_fits c.args.tip.now c.args.window.now c.in-Block.len c.in-Block.digest salt begins

pub returns-else-not-branch : goal.returns-else-not-branch
returns-else-not-branch c =
    let salt : length c.args.tip.now.salt ≡ 16 = search rules in
    let n = c.in-Block.len in
    let begins : StartsWith c.args.tip.now c.args.window.now (Block n c.in-Block.digest) =
    subst (λ (b : List ℕ). StartsWith c.args.tip.now b (Block n c.in-Block.digest)) c.bytes.ensures (subst (StartsWith c.args.tip.now c.bytes.result.now) c.in-Block.is c.in_ok-start_of.ensures) in
    let width : n + 44 - 44 ≡ n = omega arith in
    let waits : Waits c.args.store.now (take n (drop 44 c.args.window.now)) c.take_body.new.store =
    subst (λ (b : List ℕ). Waits c.args.store.now b c.take_body.new.store)
    (ap (λ (b : List ℕ). take (n + 44 - 44) (drop 44 b)) c.bytes-in-Block.ensures ∙ ap (λ k. take k (drop 44 c.args.window.now)) width)
    (c.in_ok-take_body-in-Block.ensures.said c.if-not-branch.false) in
    block_taken c.args.tip.now c.args.window.now n c.in-Block.digest salt begins c.pass.new.self c.skip.new.self c.args.store.now c.take_body.new.store waits c.skip.ensures c.pass.ensures
