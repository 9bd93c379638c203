use Rattle.std.proofs.Common.{ℕ, ◌+◌, ◌<◌, ◌≤◌, List, take, drop, length, subst, arith}
use Rattle.std.specs.Prelude.{IsTrue, ◌↔◌}
use Rattle.ft_model.specs.Legal.{machines}
use Rattle.ft_model.specs.Network.{Packet}
use Rattle.report_laws.specs.Transitions.{IsPacketLine}
use Rattle.trace_check.proofs.TurnLines.{all_grow, few_packets, turn_ends_with_text}
use Rattle.trace_check.proofs.turn.read_packet_lines.Goals as goal

pub loop-end-preserved : goal.loop-end-preserved
loop-end-preserved g c =
    let text : List ℕ = c.args.text.now in
    let at : ℕ = c.loop-end.end in
    let end : ℕ = c.line_end-next.result in
    let n : ℕ = c.args.reported + c.loop-end.count + 1 in
    let first : c.args.at ≤ at = c.loop-end.invariant.0 in
    let more : at < end = omega arith in
    let within : end ≤ length text = omega arith in
    let iff : IsTrue c.is_packet_line.result ↔ ((packet : Packet) × IsPacketLine c.args.schedule.now n packet (drop at (take end text))) =
    subst (λ line. IsTrue c.is_packet_line.result ↔ ((packet : Packet) × IsPacketLine c.args.schedule.now n packet line)) c.between.ensures c.is_packet_line.ensures in
    let few : n ≤ 200000 = few_packets c.args.schedule.now n (drop at (take end text)) c.is_packet_line.result iff c.if-not-is_packet_line.false in (
      omega arith,
      within,
      omega (arith, few),
      all_grow (machines g.S.Service.started g.S.Service.after g.S.Service.greeting) text c.args.schedule.now c.args.at at end c.args.reported c.loop-end.count c.is_packet_line.result first more within c.line_end-next.ensures.line iff
          c.if-not-is_packet_line.false c.loop-end.invariant.3,
    )

pub returns-clause-complete : goal.returns-clause-complete
returns-clause-complete g c =
    let end : c.loop-end.end ≤ length c.args.text.now = c.loop-end.invariant.1 in
    turn_ends_with_text c.args.schedule.now c.args.text.now c.loop-end.end (c.args.reported + c.loop-end.count + 1) (omega arith)
