use Rattle.std.proofs.Common.{◌≡◌, ◌+◌, ◌-◌, ◌≤◌, List, take, drop, length, sym, ap, subst, arith}
use Rattle.std.proofs.lemmas.List.{take_rest}
use Rattle.ft_model.specs.Network.{Packet}
use Rattle.ft_model.specs.Wire.{Wire}
use Rattle.report_laws.specs.Transitions.{clients_in}
use Rattle.trace_check.specs.SentLines.{CanBeRead, wire_lines}
use Rattle.trace_check.specs.Turn.{AreSent, ReportsTurn}
use Rattle.trace_check.proofs.ReportedTurns.{due_is_written, sent_can_be_read, reported_within, turn_is_reported, turn_is_not_reported}
use Rattle.trace_check.proofs.turn.read_sent.Goals as goal

pub write_wires-requires-clause-readable : goal.write_wires-requires-clause-readable
write_wires-requires-clause-readable c =
    let wires : List Wire = c.args.packets.now in
    let readable : CanBeRead (clients_in c.args.schedule.now) (take (length wires - c.args.played.before) (drop c.args.played.before wires)) =
    subst (CanBeRead (clients_in c.args.schedule.now)) (sym (take_rest wires c.args.played.before)) (sent_can_be_read c.args.schedule.now wires c.args.played.before c.requires.sent.0 c.requires.sent.1) in
    subst (λ ws. CanBeRead (clients_in c.args.schedule.now) (take (length ws - c.args.played.before) (drop c.args.played.before ws))) (sym c.as_slice-all.ensures) readable

-- what is due is the lines of the packets after the first ones
due_is : (c : goal.In-Some) → c.deref.result.now ≡ wire_lines (clients_in c.args.schedule.now) (c.args.played.before + 1) (drop c.args.played.before c.args.packets.now)
due_is c =
    due_is_written (clients_in c.args.schedule.now) (c.args.played.before + 1) c.args.played.before c.as_slice-all.result.now c.args.packets.now c.clear.new.self.items c.write_wires.new.lines.items c.deref.result.now
    c.as_slice-all.ensures c.clear.ensures.items c.deref.ensures.value c.in_ok-write_wires.ensures

reported_so : (c : goal.In-Some) (sent : List Packet) → AreSent c.args.packets.now c.args.played.before sent
    → ReportsTurn c.args.text.now c.args.schedule.now c.args.played.place.at c.in-Some.end (c.args.played.before + 1) sent
reported_so c sent a =
    let same : length c.as_slice-all.result.now ≡ length c.args.packets.now = ap length c.as_slice-all.ensures in
    let few : length c.args.packets.now ≤ 200000 = omega (arith, same) in
    turn_is_reported c.args.text.now c.args.schedule.now c.args.played.place.at c.in-Some.end (length c.as_slice-all.result.now + 1) c.args.played.before c.args.packets.now sent c.deref.result.now a few
    (ap (λ n. n + 1) same) (due_is c) c.in-Some.ensures

pub returns-in-Some-clause-reported : goal.returns-in-Some-clause-reported
returns-in-Some-clause-reported c = reported_so c

pub returns-in-Some-clause-within : goal.returns-in-Some-clause-within
returns-in-Some-clause-within c =
    let sent : List Packet = c.requires.sent.0 in
    let t : ReportsTurn c.args.text.now c.args.schedule.now c.args.played.place.at c.in-Some.end (c.args.played.before + 1) sent = reported_so c sent c.requires.sent.1 in
    let same : length c.as_slice-all.result.now ≡ length c.args.packets.now = ap length c.as_slice-all.ensures in
    let count : length c.args.packets.now ≡ c.args.played.before + length sent = c.requires.sent.1.count in
    let enough : c.args.played.place.at + length sent ≤ c.in-Some.end = reported_within c.args.text.now c.args.schedule.now c.args.played.place.at c.in-Some.end (c.args.played.before + 1) sent t in
    (omega (arith, same, count, enough), t.is.within, omega (arith, same, count), omega (arith, same, count))

pub returns-in-None-clause-reported : goal.returns-in-None-clause-reported
returns-in-None-clause-reported c = λ sent a.
    turn_is_not_reported c.args.text.now c.args.schedule.now c.args.played.place.at (length c.as_slice-all.result.now + 1) c.args.played.before c.args.packets.now sent c.deref.result.now a
    (ap (λ all. length all + 1) c.as_slice-all.ensures)
    (due_is_written (clients_in c.args.schedule.now) (c.args.played.before + 1) c.args.played.before c.as_slice-all.result.now c.args.packets.now c.clear.new.self.items c.write_wires.new.lines.items c.deref.result.now
    c.as_slice-all.ensures c.clear.ensures.items c.deref.ensures.value c.in_ok-write_wires.ensures) c.in-None.ensures
