use Rattle.std.proofs.Common.{◌≡◌, ℕ, ◌+◌, ◌-◌, arith, ◌∙◌, ◌++◌, length, take, drop}
use Rattle.tcp_buffers.proofs.Overwrites.{written_within}
use Rattle.tcp_buffers.proofs.overwriting.copy_over.Goals as goal

pub returns-clause-items : goal.returns-clause-items
returns-clause-items c =
    let at : ℕ = c.args.from in
    let count : at + length c.args.bytes.now - at ≡ length c.args.bytes.now = omega arith in
    (λ i. take at c.args.items.now ++ (c.copy_from_slice.ensures.after i ++ drop (count i) (drop at c.args.items.now)))
    ∙ written_within at c.args.bytes.now c.args.items.now (omega (arith, c.requires.within))
