use Rattle.std.proofs.Common.{◌≡◌, ◌∙◌, arith, length, length-take, take}
use Rattle.seq_arith.specs.MessageGrammar.{kind_of}
use Rattle.logger_wire.specs.Value.{body_of}
use Rattle.wrapped_conn.specs.LoggerMessages.{text_length}
use Rattle.wrapped_conn.proofs.Reported.{head_short, short_pushed}
use Rattle.wrapped_conn.proofs.reporting.send_message.Goals as goal

pub slice_bounds-push-end : goal.slice_bounds-push-end
slice_bounds-push-end c =
    let whole : length c.put_msg_by-len.new.out ≡ length c.args.room.now = c.put_msg_by-len.auto.out in
    omega (arith, whole, c.put_msg_by-len.ensures.length, c.requires.room)

pub slice_bounds-push-end-2 : goal.slice_bounds-push-end-2
slice_bounds-push-end-2 c =
    let whole : length c.put_msg_by-len.new.out ≡ length c.args.room.now = c.put_msg_by-len.auto.out in
    omega (arith, whole, c.put_msg_by-len.ensures.length, c.requires.room, length-take c.put_msg_by-len.result c.put_msg_by-len.new.out)

pub returns-clause-short : goal.returns-clause-short
returns-clause-short c =
    let message = c.put_msg_by-len.new.out in
    let cut = length-take c.put_msg_by-len.result message in
    let head = head_short (kind_of (body_of c.args.body)) in
    short_pushed c.push.result c.args.out.now c.push.new.self (take c.put_msg_by-len.result message) (text_length c.args.body) c.push.ensures.pushed c.push.ensures.refused
    (omega (arith, cut, head, c.put_msg_by-len.ensures.length))
