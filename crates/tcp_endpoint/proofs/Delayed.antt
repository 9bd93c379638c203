-- An ACK that is delayed: the flush sends all else that it would send, and ends the turn in the same way.
use Rattle.std.proofs.Common.{◌≡◌, ℕ, zero, suc, ◌+◌, ◌-◌, Bool, true, false, not, min, List, [], ◌∷◌, ◌++◌, refl, ap, ap₂, ◌∙◌, if◌then◌else◌}
use Rattle.std.specs.Prelude.{◌==◌, ◌&&◌, ◌||◌, nat_lt}
use Rattle.seq_arith.specs.Packet.{Segment}
use Rattle.tcp_endpoint.specs.States.{has_begun}
use Rattle.tcp_endpoint.specs.ReceiveHalf.{next, advertised_edge}
use Rattle.tcp_endpoint.specs.SendHalf.{in_flight}
use Rattle.tcp_endpoint.specs.Tcb.{Tcb}
use Rattle.tcp_endpoint.specs.Output.{head_at, opening_segment, text_at, fin_at, texts, reset_reply_out, retransmitted_segment, retransmission_out, probe_out, with_probe, new_length, text_out, with_text_sent, fin_out, with_fin_out, full_out, with_timed, after_full, is_ack_pending, bare_segment, or_bare, leaving, with_advertised, with_turn_ended, flushed, with_ack_delayed}
use Rattle.ft_io.proofs.Numbers.{equal_itself}

none_pending : (b : Bool) (m n k l : ℕ) → (b && (false || not ((if b then m else k) == m) || not ((if b then n else l) == n))) ≡ false
none_pending true m n k l = rw (equal_itself m, equal_itself n) refl
none_pending false m n k l = refl

noted_once : (b : Bool) (m n : ℕ) → (if b then m else (if b then m else n)) ≡ (if b then m else n)
noted_once true m n = refl
noted_once false m n = refl

pub without_ack : (bare : Segment) (segments : List Segment) → or_bare false bare segments ≡ segments
without_ack bare [] = refl
without_ack bare (first ∷ others) = refl

texts_delayed : (k : ℕ) (e : Tcb) (place left : ℕ) → texts k (with_ack_delayed e) place left ≡ texts k e place left
unfolding texts text_at head_at with_ack_delayed
texts_delayed zero e place left = refl
texts_delayed (suc k) e place left =
    ap (λ ts. if nat_lt 0 left then text_at e place (min left e.sending.mss) ∷ ts else [])
    (texts_delayed k e (place + min left e.sending.mss) (left - min left e.sending.mss))

full_delayed : (e : Tcb) → full_out (with_ack_delayed e) ≡ full_out e
unfolding full_out reset_reply_out retransmission_out retransmitted_segment opening_segment fin_at text_at head_at probe_out with_probe with_text_sent text_out fin_out with_ack_delayed
full_delayed e =
    ap (λ ts. reset_reply_out e ++ retransmission_out e ++ probe_out e ++ ts ++ fin_out (with_text_sent (with_probe e)))
    (texts_delayed (new_length (with_probe e)) (with_probe e) (in_flight (with_probe e).sending) (new_length (with_probe e)))

pub delayed_leaves : (e : Tcb) → leaving (with_ack_delayed e) ≡ full_out e
unfolding leaving is_ack_pending after_full with_timed with_fin_out with_text_sent with_probe with_ack_delayed
delayed_leaves e =
    ap (λ b. or_bare b (bare_segment (after_full (with_ack_delayed e))) (full_out (with_ack_delayed e)))
    (none_pending (has_begun e.name) (next e.receiving) (advertised_edge e.receiving) e.last_ack_sent e.last_advertised_edge)
    ∙ without_ack (bare_segment (after_full (with_ack_delayed e))) (full_out (with_ack_delayed e))
    ∙ full_delayed e

pub delayed_ends : (e : Tcb) → flushed (with_ack_delayed e) ≡ flushed e
unfolding flushed with_turn_ended with_advertised after_full with_timed with_probe with_text_sent with_fin_out with_ack_delayed
delayed_ends e =
    ap₂ (λ reported edge. record (flushed e) { last_ack_sent = reported; last_advertised_edge = edge })
    (noted_once (has_begun e.name) (next e.receiving) e.last_ack_sent)
    (noted_once (has_begun e.name) (advertised_edge e.receiving) e.last_advertised_edge)
