use Rattle.std.proofs.Common.{◌+◌, ◌≤◌, ◌++◌, ◌∷◌, [], length, take, ap, sym, ◌∙◌, arith}
use Rattle.std.proofs.lemmas.Bool.{OnTrue_at}
use Rattle.seq_arith.specs.Packet.{Segment}
use Rattle.seq_arith.proofs.Spelling.{size}
use Rattle.seq_arith.proofs.Units.{options_short}
use Rattle.segment_codec.specs.Value.{said}
use Rattle.wrapped_conn.proofs.leaving.push_bare.Goals as goal

pub slice_bounds-push_longer-end : goal.slice_bounds-push_longer-end
slice_bounds-push_longer-end c =
    let segment : Segment = record { head = said c.args.head.now; payload = [] } in
    c.write_packet-len.ensures.length ∙ sym (size segment) ∙ sym (ap length c.write_packet-len.ensures.front)

pub returns : goal.returns
returns c =
    let segment : Segment = record { head = said c.args.head.now; payload = [] } in
    let short : length (take c.write_packet-len.result c.write_packet-len.new.out) ≤ 56 =
    omega (arith, ap length c.write_packet-len.ensures.front, size segment, options_short segment.head.mss segment.head.timestamps) in
    OnTrue_at (c.push_longer.ensures.fits.1 (omega (arith, c.requires.count), omega (arith, c.requires.bytes, short))) c.push_longer.ensures.pushed
    ∙ ap (λ packet. c.args.out.now ++ packet ∷ []) c.write_packet-len.ensures.front
