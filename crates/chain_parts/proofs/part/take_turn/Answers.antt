use Rattle.std.proofs.Common.{◌≡◌, take}
use Rattle.link_parts.specs.Receipt.{datagram}
use Rattle.chain_parts.specs.PartSteps.{standing_of}
use Rattle.chain_parts.proofs.PairRun.{quiet, turned, room_left}
use Rattle.chain_parts.proofs.part.take_turn.Goals as goal

pub send_all-requires : goal.send_all-requires
send_all-requires g c = let r = c.in-Some.ensures.received in room_left c.args.counts.now c.receive.new.counts r.0 c.requires r.2

pub returns-in_default-clause-turned : goal.returns-in_default-clause-turned
returns-in_default-clause-turned g c =
    let r = c.in_default.ensures.received in
    quiet c.args.other (standing_of c.args.twin.now) (g.L.Link.reported c.args.link.now) (g.L.Link.reported c.receive.new.link) c.args.counts.now c.receive.new.counts r.0 r.1 r.2 r.3

pub returns-clause-turned : goal.returns-clause-turned
returns-clause-turned g c =
    let r = c.in-Some.ensures.received in
    let came = r.3.1 in
    let len = c.in-Some.len-is in
    let from = c.in-Some.from-is in
    let is : r.0 ≡ datagram c.in-Some.from (take c.in-Some.len c.receive.new.buffer) = cc in
    turned c.args.other (standing_of c.args.twin.now) (standing_of c.take.new.twin) (g.L.Link.reported c.args.link.now) (g.L.Link.reported c.receive.new.link) (g.L.Link.reported c.send_all.new.link)
    c.args.counts.now c.receive.new.counts c.send_all.new.counts r.0 c.in-Some.from (take c.in-Some.len c.receive.new.buffer) c.take.new.twin.out r.1 r.2 is c.in_ok-take.ensures.next
    c.in_ok-take.ensures.sent c.send_all.ensures.short c.send_all.ensures.sent
