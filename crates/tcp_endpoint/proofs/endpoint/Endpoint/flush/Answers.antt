use Rattle.std.proofs.Common.{◌≡◌, ◌++◌, ap, ◌∙◌, subst}
use Rattle.tcp_endpoint.specs.SendHalf.{in_flight}
use Rattle.tcp_endpoint.specs.Tcb.{Tcb}
use Rattle.tcp_endpoint.specs.Packets.{AreReadable}
use Rattle.tcp_endpoint.specs.Output.{reset_reply_out, retransmission_out, probe_out, with_probe, text_out, with_text_sent, fin_out, with_fin_out, full_out, with_timed, after_full, packets}
use Rattle.tcp_endpoint.proofs.Spelled.{packets_full, full_readable, leaving_readable}
use Rattle.tcp_endpoint.proofs.endpoint.Endpoint.flush.Goals as goal

pub returns-clause-readable : goal.returns-clause-readable
unfolding after_full
returns-clause-readable c =
    let e : Tcb = c.args.self.now in
    let probed : c.send_probe.new.self ≡ with_probe e = c.send_probe.ensures.state in
    let texted : c.send_text.new.self ≡ with_text_sent (with_probe e) = c.send_text.ensures.state ∙ ap with_text_sent probed in
    let finished : c.send_fin.new.self ≡ with_fin_out (with_text_sent (with_probe e)) = c.send_fin.ensures.state ∙ ap with_fin_out texted in
    let place : c.in_flight-place.result ≡ in_flight (with_probe e).sending = c.in_flight-place.ensures ∙ ap (λ (f : Tcb). in_flight f.sending) probed in
    let timed : c.time_first.new.self ≡ after_full e = c.time_first.ensures ∙ (λ i. with_timed (place i) (finished i)) in
    let text : AreReadable (text_out (with_probe e)) = subst (λ (f : Tcb). AreReadable (text_out f)) probed c.send_text.ensures.readable in
    let fin : AreReadable (fin_out (with_text_sent (with_probe e))) = subst (λ (f : Tcb). AreReadable (fin_out f)) texted c.send_fin.ensures.readable in
    let full : AreReadable (full_out e) = full_readable e c.send_reset_reply.ensures.readable c.retransmit.ensures.readable c.send_probe.ensures.readable text fin in
    let steps : c.send_fin.new.out
    ≡ packets (reset_reply_out e) ++ packets (retransmission_out e) ++ packets (probe_out e) ++ packets (text_out (with_probe e)) ++ packets (fin_out (with_text_sent (with_probe e))) =
    cc (probed, texted, c.send_reset_reply.ensures.sent, c.retransmit.ensures.sent, c.send_probe.ensures.sent, c.send_text.ensures.sent, c.send_fin.ensures.sent) in
    leaving_readable e c.time_first.new.self timed (c.send_pending_ack.ensures.readable (full_out e) (steps ∙ packets_full e) full)
