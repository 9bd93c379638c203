use Rattle.std.proofs.Common.{◌≡◌, ap, arith}
use Rattle.tcp_endpoint.specs.Packets.{byte_count}
use Rattle.wrapped_conn.proofs.Copied.{own_short}
use Rattle.wrapped_conn.proofs.conn.Conn.send_own.Goals as goal

pub send_data-requires-clause-most : goal.send_data-requires-clause-most
send_data-requires-clause-most g c = own_short c.args.packet.now c.args.self.now.south c.args.own c.in-Some.part c.in-Some.is c.requires.accepted c.requires.part

pub send_data-requires-clause-short : goal.send_data-requires-clause-short
send_data-requires-clause-short g c =
    let most = own_short c.args.packet.now c.args.self.now.south c.args.own c.in-Some.part c.in-Some.is c.requires.accepted c.requires.part in
    let none : byte_count c.args.out.now ≡ 0 = ap byte_count c.requires.empty in
    omega (arith, most, none)

pub send_data-requires-else-more-clause-most : goal.send_data-requires-else-more-clause-most
send_data-requires-else-more-clause-most g c = own_short c.args.packet.now c.args.self.now.south c.args.own c.in-Some.part c.in-Some.is c.requires.accepted c.requires.part

pub send_data-requires-else-more-clause-short : goal.send_data-requires-else-more-clause-short
send_data-requires-else-more-clause-short g c =
    let most = own_short c.args.packet.now c.args.self.now.south c.args.own c.in-Some.part c.in-Some.is c.requires.accepted c.requires.part in
    let none : byte_count c.args.out.now ≡ 0 = ap byte_count c.requires.empty in
    omega (arith, most, none)

pub returns-then-more-clause-short : goal.returns-then-more-clause-short
returns-then-more-clause-short g c =
    let most = own_short c.args.packet.now c.args.self.now.south c.args.own c.in-Some.part c.in-Some.is c.requires.accepted c.requires.part in
    let none : byte_count c.args.out.now ≡ 0 = ap byte_count c.requires.empty in
    omega (arith, most, none, c.send_data.ensures.few, c.send_data.ensures.short)

pub returns-else-more-clause-short : goal.returns-else-more-clause-short
returns-else-more-clause-short g c =
    let most = own_short c.args.packet.now c.args.self.now.south c.args.own c.in-Some.part c.in-Some.is c.requires.accepted c.requires.part in
    let none : byte_count c.args.out.now ≡ 0 = ap byte_count c.requires.empty in
    omega (arith, most, none, c.send_data-else-more.ensures.few, c.send_data-else-more.ensures.short)
