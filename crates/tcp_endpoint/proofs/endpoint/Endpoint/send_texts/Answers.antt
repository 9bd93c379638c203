use Rattle.std.proofs.Common.{◌∙◌, ◌≡◌, ap, arith, min}
use Rattle.tcp_endpoint.specs.Tcb.{Tcb}
use Rattle.tcp_endpoint.proofs.Spelled.{texts_step, texts_done, text_readable, no_text_readable}
use Rattle.tcp_endpoint.proofs.endpoint.Endpoint.send_texts.Goals as goal

pub send_text_at-requires-clause-text : goal.send_text_at-requires-clause-text
send_text_at-requires-clause-text c = omega (arith, c.requires.text (omega arith), c.min-n.ensures)

pub loop-left-preserved : goal.loop-left-preserved
loop-left-preserved c =
    let e = c.args.self.now in
    let size : c.mss.result ≡ e.sending.mss = c.mss.ensures.size ∙ ap (λ (t : Tcb). t.sending.mss) c.self.view_is in
    let n : c.min-n.result ≡ min c.loop-left.left e.sending.mss = c.min-n.ensures ∙ ap (λ m. min c.loop-left.left m) size in
    record {
      less = omega (arith, c.min-n.ensures);
      place = omega (arith, c.min-n.ensures);
      sent = texts_step e c.loop-left.out c.send_text_at.new.out _ c.loop-left.place c.loop-left.left c.min-n.result (omega (arith, size, c.mss.ensures.least)) (omega arith) n c.send_text_at.ensures.sent c.loop-left.invariant.sent;
      readable = λ rest. c.loop-left.invariant.readable (text_readable e c.loop-left.place c.loop-left.left c.min-n.result (omega (arith, size, c.mss.ensures.least)) (omega arith) n c.send_text_at.ensures.readable rest);
      packets = omega (arith, c.min-n.ensures, c.send_text_at.ensures.count, c.loop-left.invariant.open_packets (omega arith));
      open_packets = λ some. omega (arith, c.min-n.ensures, c.send_text_at.ensures.count, c.mss.ensures.least, c.loop-left.invariant.open_packets (omega arith));
      bytes = omega (arith, c.min-n.ensures, c.send_text_at.ensures.bytes, c.send_text_at.ensures.count);
    }

pub returns-clause-sent : goal.returns-clause-sent
returns-clause-sent c = texts_done c.args.self.now c.loop-left.out _ c.loop-left.place c.loop-left.left (omega arith) c.loop-left.invariant.sent

pub returns-clause-readable : goal.returns-clause-readable
returns-clause-readable c = c.loop-left.invariant.readable (no_text_readable c.args.self.now c.loop-left.place c.loop-left.left (omega arith))
