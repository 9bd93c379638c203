use Rattle.std.proofs.Common.{◌≡◌, ◌∙◌, ◌+◌, ◌-◌, List, ℕ, length, take, drop, sym, ap, subst, arith}
use Rattle.kept_log.specs.Format.{first_tip}
use Rattle.kept_log.specs.ReadSteps.{StartsWith}
use Rattle.kept_log.specs.Startup.{IsOtherwise}
use Rattle.kept_log.specs.declared.block.Start.TheVariants.{Block, Short}
use Rattle.kept_log.proofs.Blocks.{salt_long}
use Rattle.kept_log.proofs.Steps.{block_fits}
use Rattle.kept_log.proofs.Grammars.{block_otherwise, block_same, short_same}
use Rattle.kept_log.proofs.grammar.has_other_grammar.Goals as goal

pub slice_bounds-is_otherwise-end : goal.slice_bounds-is_otherwise-end
slice_bounds-is_otherwise-end c =
    let begins : StartsWith (first_tip c.args.made.now) c.args.bytes.now (Block c.in-Block.len c.in-Block._digest) =
    subst (λ t. StartsWith t c.args.bytes.now (Block c.in-Block.len c.in-Block._digest)) c.first_of-tip.ensures
    (subst (StartsWith c.first_of-tip.result c.args.bytes.now) c.in-Block.is c.in_ok-len.ensures) in
    let fits = block_fits (first_tip c.args.made.now) c.args.bytes.now c.in-Block.len c.in-Block._digest (salt_long c.args.made.now) begins in
    omega (arith, fits)

pub returns-in-Block-clause-some : goal.returns-in-Block-clause-some
returns-in-Block-clause-some c = λ is.
    let n = c.in-Block.len in
    let begins : StartsWith (first_tip c.args.made.now) c.args.bytes.now (Block n c.in-Block._digest) =
    subst (λ t. StartsWith t c.args.bytes.now (Block n c.in-Block._digest)) c.first_of-tip.ensures
    (subst (StartsWith c.first_of-tip.result c.args.bytes.now) c.in-Block.is c.in_ok-len.ensures) in
    let width : n + 44 - 44 ≡ n = omega arith in
    block_otherwise c.args.grammar c.args.made.now c.args.bytes.now n c.in-Block._digest begins
    (subst (λ k. IsOtherwise c.args.grammar (take k (drop 44 c.args.bytes.now))) width (c.is_otherwise.ensures.some is))

pub returns-in-Block-clause-none : goal.returns-in-Block-clause-none
returns-in-Block-clause-none c = λ is more all.
    let n = c.in-Block.len in
    let begins : StartsWith (first_tip c.args.made.now) c.args.bytes.now (Block n c.in-Block._digest) =
    subst (λ t. StartsWith t c.args.bytes.now (Block n c.in-Block._digest)) c.first_of-tip.ensures
    (subst (StartsWith c.first_of-tip.result c.args.bytes.now) c.in-Block.is c.in_ok-len.ensures) in
    let width : n + 44 - 44 ≡ n = omega arith in
    block_same c.args.grammar c.args.made.now c.args.bytes.now n c.in-Block._digest begins
    (λ o. c.is_otherwise.ensures.none is (subst (λ k. IsOtherwise c.args.grammar (take k (drop 44 c.args.bytes.now))) (sym width) o)) more

pub returns-in-Short-clause-none : goal.returns-in-Short-clause-none
returns-in-Short-clause-none c = λ _ more all.
    let begins : StartsWith (first_tip c.args.made.now) c.args.bytes.now Short =
    subst (λ t. StartsWith t c.args.bytes.now Short) c.first_of-tip.ensures (subst (StartsWith c.first_of-tip.result c.args.bytes.now) c.in-Short.is c.in_ok-len.ensures) in
    short_same c.args.grammar c.args.made.now c.args.bytes.now begins more all
