-- TCP's own address stays in each turn.
use Rattle.std.proofs.Common.{◌≡◌, Bool, true, false, List, [], ◌∷◌, refl, ◌∙◌}
use Rattle.std.specs.Prelude.{if◌then◌else◌, ◌&&◌, not, pos}
use Rattle.ft_io.specs.declared.Addr.{Addr}
use Rattle.tcp_rules.specs.Arrival.{int_eq}
use Rattle.seq_arith.specs.Packet.{Segment, has_rst, has_syn, has_ack, has_fin}
use Rattle.tcp_buffers.specs.Near.{is_ahead}
use Rattle.tcp_endpoint.specs.declared.states.StateName.{StateName}
use Rattle.tcp_endpoint.specs.declared.states.StateName.TheVariants.{Closed, Listen, SynSent, SynReceived, Established, FinWait1, FinWait2, CloseWait, Closing, LastAck, TimeWait}
use Rattle.tcp_endpoint.specs.Arrival.{received, received_in, in_closed, in_listen, in_syn_sent, in_others, with_reset_reply, with_reset_reply_without_ack, begun, answered, with_text_and_fin, with_fin_acked, with_first_ack, with_ack_used, with_ack, check_ack, check_syn, check_rst, check_sequence, with_time_wait_restarted, first, ack_at}
use Rattle.tcp_endpoint.specs.ReceiveHalf.{next, with_segment}
use Rattle.tcp_endpoint.specs.SendHalf.{fin_acked}
use Rattle.tcp_endpoint.specs.Output.{flushed, with_turn_ended, with_advertised, after_full, with_timed, with_fin_out, with_text_sent, with_probe}
use Rattle.tcp_endpoint.specs.Tcb.{Tcb}
use Rattle.endpoint_laws.specs.Turn.{Call, called, used}
use Rattle.endpoint_laws.proofs.NoConnection.{call_locals}

pub either : (b : Bool) (x y : Tcb) (a : Addr) → x.local ≡ a → y.local ≡ a → (if b then x else y).local ≡ a
either true x y a p q = p
either false x y a p q = q

closed_local : (e : Tcb) (p : Segment) → (in_closed e p).local ≡ e.local
unfolding in_closed with_reset_reply with_reset_reply_without_ack
closed_local e p = either (has_rst p) e _ e.local refl (either (has_ack p) _ _ e.local refl refl)

listen_local : (e : Tcb) (p : Segment) → (in_listen e p).local ≡ e.local
unfolding in_listen with_reset_reply begun
listen_local e p = either (has_rst p) e _ e.local refl (either (has_ack p) _ _ e.local refl (either (has_syn p) _ e e.local refl refl))

syn_sent_local : (e : Tcb) (p : Segment) → (in_syn_sent e p).local ≡ e.local
unfolding in_syn_sent with_reset_reply answered
syn_sent_local e p =
    either (has_ack p) _ e e.local
    (either (int_eq (ack_at e p) (pos 0)) _ _ e.local (either (has_rst p) _ _ e.local refl (either (has_syn p) _ e e.local refl refl)) (either (has_rst p) e _ e.local refl refl))
    refl

text_local : (e : Tcb) (p : Segment) → (with_text_and_fin e p).local ≡ e.local
unfolding with_text_and_fin
text_local e p = either ((with_segment e.receiving (first e p) p.payload (has_fin p)).fin && not e.receiving.fin) _ _ e.local refl refl

fin_local : (e : Tcb) → (with_fin_acked e).local ≡ e.local
unfolding with_fin_acked
fin_local e = either (fin_acked e.sending) _ e e.local refl refl

first_ack_local : (e : Tcb) (p : Segment) → (with_first_ack e p).local ≡ e.local
unfolding with_first_ack with_reset_reply
first_ack_local e p = either (int_eq (ack_at e p) (pos 0)) _ _ e.local (text_local _ p) refl

ack_local : (e : Tcb) (p : Segment) → (with_ack e p).local ≡ e.local
unfolding with_ack with_ack_used
ack_local e p = either (is_ahead e.sending.sent (ack_at e p)) _ _ e.local refl (text_local (with_fin_acked (with_ack_used e p)) p ∙ fin_local (with_ack_used e p))

check_ack_local : (e : Tcb) (p : Segment) → (check_ack e p).local ≡ e.local
unfolding check_ack
check_ack_local e p = either (has_ack p) _ e e.local (either e.sending.syn_acked _ _ e.local (ack_local e p) (first_ack_local e p)) refl

check_syn_local : (e : Tcb) (p : Segment) → (check_syn e p).local ≡ e.local
unfolding check_syn
check_syn_local e p = either (has_syn p) _ _ e.local refl (check_ack_local _ p)

check_rst_local : (e : Tcb) (p : Segment) → (check_rst e p).local ≡ e.local
unfolding check_rst
check_rst_local e p = either (has_rst p) _ _ e.local (either (int_eq (first e p) (pos (next e.receiving))) _ _ e.local refl refl) (check_syn_local e p)

others_local : (e : Tcb) (p : Segment) → (in_others e p).local ≡ e.local
unfolding in_others check_sequence with_time_wait_restarted
others_local e p = either _ _ _ e.local (check_rst_local _ p) refl

named_local : (name : StateName) (e : Tcb) (p : Segment) → (received_in name e p).local ≡ e.local
named_local Closed e p = closed_local e p
named_local Listen e p = listen_local e p
named_local SynSent e p = syn_sent_local e p
named_local SynReceived e p = others_local e p
named_local Established e p = others_local e p
named_local FinWait1 e p = others_local e p
named_local FinWait2 e p = others_local e p
named_local CloseWait e p = others_local e p
named_local Closing e p = others_local e p
named_local LastAck e p = others_local e p
named_local TimeWait e p = others_local e p

pub received_local : (e : Tcb) (p : Segment) → (received e p).local ≡ e.local
unfolding received
received_local e p = named_local e.name e p

pub used_local : (calls : List Call) (e : Tcb) → (used calls e).local ≡ e.local
used_local [] e = refl
used_local (call ∷ calls) e = used_local calls (called call e) ∙ call_locals call e

pub flushed_local : (e : Tcb) → (flushed e).local ≡ e.local
unfolding flushed with_turn_ended with_advertised after_full with_timed with_fin_out with_text_sent with_probe
flushed_local e = refl
