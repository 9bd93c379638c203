use Rattle.std.proofs.Common.{arith, add-one, ap}
use Rattle.std.specs.Prelude.{length}
use Rattle.peer_client.proofs.Stamped.{found, none_written, one_written, whole_written, has_room, packets_length}
use Rattle.peer_client.proofs.stamping.append_all.Goals as goal

pub append_stamped-requires-clause-spelled : goal.append_stamped-requires-clause-spelled
append_stamped-requires-clause-spelled c =
    let h = c.requires.spelled in
    let f = found h.0 c.args.segments.now c.loop-i.i c.packet.result.now h.1 h.2 c.packet.ensures in (f.segment, f.bytes_are, f.readable)

pub append_stamped-requires-clause-count : goal.append_stamped-requires-clause-count
append_stamped-requires-clause-count c =
    let h = c.requires.spelled in
    (has_room c.args.timestamps h.0 c.loop-i.i c.args.segments.now c.loop-i.out h.1 c.requires.count c.requires.bytes (c.loop-i.invariant h.0 h.1 h.2)).0

pub append_stamped-requires-clause-bytes : goal.append_stamped-requires-clause-bytes
append_stamped-requires-clause-bytes c =
    let h = c.requires.spelled in
    (has_room c.args.timestamps h.0 c.loop-i.i c.args.segments.now c.loop-i.out h.1 c.requires.count c.requires.bytes (c.loop-i.invariant h.0 h.1 h.2)).1

pub loop-i-init : goal.loop-i-init
loop-i-init c = λ own is readable. none_written c.args.timestamps own c.args.out.now c.requires.empty

pub loop-i-preserved : goal.loop-i-preserved
loop-i-preserved c = λ own is readable.
    let f = found own c.args.segments.now c.loop-i.i c.packet.result.now is readable c.packet.ensures in
    let one = c.append_stamped.ensures f.segment f.bytes_are f.readable in
    rw add-one (one_written c.args.timestamps own c.loop-i.i f.segment c.loop-i.out c.append_stamped.new.out f.there one.0 one.1 (c.loop-i.invariant own is readable))

pub returns : goal.returns
returns c = λ own is readable.
    whole_written c.args.timestamps own c.loop-i.i c.loop-i.out
    (omega (arith, c.loop-i-test.false, c.loop-i.auto.i-end, c.len-i-end.ensures, ap length is, packets_length own)) (c.loop-i.invariant own is readable)
