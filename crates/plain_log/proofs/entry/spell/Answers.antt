use Rattle.std.proofs.Common.{◌≡◌, ℕ, ◌+◌, ◌<◌, ◌^◌, ◌++◌, ◌∷◌, [], take, arith, get_or}
use Rattle.std.proofs.lemmas.List.{take_more}
use Rattle.plain_log.proofs.ReadLengths.{one_more_spelled}
use Rattle.plain_log.proofs.entry.spell.Goals as goal

pub loop-length-preserved : goal.loop-length-preserved
loop-length-preserved c =
    let i : ℕ = c.loop-length.length-index in
    let n : ℕ = get_or c.args.lengths.now i 0 in
    let fits = c.type_inv.lengths i in
    let small : n < 2 ^ 16 = omega (arith, fits) in
    let more = one_more_spelled c.loop-length.out.items (take i c.args.lengths.now) n small c.loop-length.invariant in
    let longer : take (i + 1) c.args.lengths.now ≡ take i c.args.lengths.now ++ n ∷ [] = take_more c.args.lengths.now i 0 c.loop-length-test.true in
    let t = c.to_be_bytes.ensures in
    let e = c.in_ok-extend_from_slice.ensures.items in
    rw (e, t, longer) more
