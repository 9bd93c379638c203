-- What an endpoint sends that is in no connection: a RST that answers, and nothing else unless the SYN is due.
use Rattle.std.proofs.Common.{◌≡◌, Bool, true, false, Option, Some, None, List, [], ◌∷◌, refl, ap, ◌∙◌}
use Rattle.std.proofs.lemmas.Bool.{false≢true}
use Rattle.seq_arith.specs.Packet.{Segment}
use Rattle.segment_codec.specs.declared.Head.{Head}
use Rattle.tcp_endpoint.specs.declared.states.StateName.TheVariants.{Closed, Listen, SynSent}
use Rattle.tcp_endpoint.specs.Tcb.{Tcb}
use Rattle.tcp_endpoint.specs.Output.{reset_reply_segments, reset_reply_out, retransmission_out, probe_out, with_probe, text_out, texts, with_text_sent, fin_out, with_fin_out, full_out, after_full, is_ack_pending, leaving, with_timed}

reset_reply_alone : (u : Tcb) (retransmission_due probe : Bool) (reset_reply : Option Head)
    → leaving (record u { name = Closed; retransmission_due = retransmission_due; probe = probe; reset_reply = reset_reply }) ≡ reset_reply_segments reset_reply
unfolding leaving full_out reset_reply_out retransmission_out probe_out with_probe text_out texts with_text_sent fin_out is_ack_pending after_full with_timed with_fin_out
reset_reply_alone u true true None = refl
reset_reply_alone u true false None = refl
reset_reply_alone u false true None = refl
reset_reply_alone u false false None = refl
reset_reply_alone u true true (Some head) = refl
reset_reply_alone u true false (Some head) = refl
reset_reply_alone u false true (Some head) = refl
reset_reply_alone u false false (Some head) = refl

-- a list with a segment is none without
abbrev pub is_empty : List Segment → Bool
is_empty [] = true
is_empty (segment ∷ segments) = false

pub reset_reply_none : (reset_reply : Option Head) → reset_reply_segments reset_reply ≡ [] → reset_reply ≡ None
reset_reply_none None h = refl
reset_reply_none (Some head) h = absurd (false≢true (ap is_empty h))

-- a RST that answers, and nothing else
pub closed_sends : (u : Tcb) → u.name ≡ Closed → leaving u ≡ reset_reply_segments u.reset_reply
closed_sends u closed = (λ i. leaving (record u { name = closed i })) ∙ reset_reply_alone u u.retransmission_due u.probe u.reset_reply

-- .. and so in LISTEN and SYN-SENT, where nothing goes out again
listen_alone : (u : Tcb) (probe : Bool) (reset_reply : Option Head)
    → leaving (record u { name = Listen; retransmission_due = false; probe = probe; reset_reply = reset_reply }) ≡ reset_reply_segments reset_reply
unfolding leaving full_out reset_reply_out retransmission_out probe_out with_probe text_out texts with_text_sent fin_out is_ack_pending after_full with_timed with_fin_out
listen_alone u true None = refl
listen_alone u false None = refl
listen_alone u true (Some head) = refl
listen_alone u false (Some head) = refl

syn_sent_alone : (u : Tcb) (probe : Bool) (reset_reply : Option Head)
    → leaving (record u { name = SynSent; retransmission_due = false; probe = probe; reset_reply = reset_reply }) ≡ reset_reply_segments reset_reply
unfolding leaving full_out reset_reply_out retransmission_out probe_out with_probe text_out texts with_text_sent fin_out is_ack_pending after_full with_timed with_fin_out
syn_sent_alone u true None = refl
syn_sent_alone u false None = refl
syn_sent_alone u true (Some head) = refl
syn_sent_alone u false (Some head) = refl

pub listen_sends : (u : Tcb) → u.name ≡ Listen → u.retransmission_due ≡ false → leaving u ≡ reset_reply_segments u.reset_reply
listen_sends u name still = (λ i. leaving (record u { name = name i; retransmission_due = still i })) ∙ listen_alone u u.probe u.reset_reply

pub syn_sent_sends : (u : Tcb) → u.name ≡ SynSent → u.retransmission_due ≡ false → leaving u ≡ reset_reply_segments u.reset_reply
syn_sent_sends u name still = (λ i. leaving (record u { name = name i; retransmission_due = still i })) ∙ syn_sent_alone u u.probe u.reset_reply
