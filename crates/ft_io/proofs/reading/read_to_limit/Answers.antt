-- What a failed turn took comes after what was kept, and there was room for it under the limit.
use Rattle.std.proofs.Common.{◌++◌, arith, length-append}
use Rattle.std.proofs.KnownBytes.{Consumes-trans}
use Rattle.ft_io.proofs.reading.read_to_limit.Goals as goal

pub returns-in_err-read_more-clause-taken : goal.returns-in_err-read_more-clause-taken
returns-in_err-read_more-clause-taken g c =
    let (front, consumed, short) = c.read_more.ensures.taken in
    let kept = c.loop-chunk.bytes.items in
    let counted = c.loop-chunk.bytes.ok.0 in
    let both = length-append kept front in
    (kept ++ front, Consumes-trans _ _ _ _ _ c.loop-chunk.invariant.0 consumed, omega arith)
