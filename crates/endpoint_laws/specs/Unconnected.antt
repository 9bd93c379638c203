-- What an endpoint sends that has no connection: in CLOSED, LISTEN and SYN-SENT (RFC 9293, 3.10.7.1 to 3.10.7.3). The RSTs, field by field, are the model's.
use Rattle.limits.specs.Limits.{largest_segment}
use Rattle.std.specs.Prelude.{ℕ, Bool, true, false, pos, ◌==◌, ◌&&◌, not, min, Some, List, [], ◌∷◌, if◌then◌else◌, None}
use Rattle.ft_io.specs.declared.Addr.{Addr}
use Rattle.tcp_rules.specs.Arrival.{int_eq}
use Rattle.seq_arith.specs.Offset.{ack_of}
use Rattle.seq_arith.specs.Packet.{Segment, has_syn, has_rst, has_ack}
use Rattle.ft_model.specs.News.{News}
use Rattle.ft_model.specs.News.News.{Comes, Ticks}
use Rattle.ft_model.specs.Refusal.{rst_at_ack, as_listen, as_closed}
use Rattle.tcp_endpoint.specs.declared.states.StateName.{StateName}
use Rattle.tcp_endpoint.specs.declared.states.StateName.TheVariants.{Closed, SynSent, Established}
use Rattle.tcp_endpoint.specs.SendHalf.{Sending}
use Rattle.endpoint_laws.specs.Laws.{timing_ticked, ticked_interval, ticked_rest}

-- 3.10.7.1: CLOSED answers each segment except a RST with a RST
abbrev pub sent_in_closed : Addr → News → List Segment
sent_in_closed local (Comes segment) = as_closed local segment
sent_in_closed local _ = []

-- 3.10.7.2, first and second check: LISTEN answers an acknowledgement with a RST, unless the segment has RST itself
abbrev pub sent_in_listen : Addr → News → List Segment
sent_in_listen local (Comes segment) = as_listen local segment
sent_in_listen local _ = []

-- 3.10.7.3: SEG.ACK is ISS + 1, so the SYN is acknowledged, and nothing else has been sent
abbrev pub acknowledges_syn : (iss : ℕ) → Segment → Bool
acknowledges_syn iss segment = has_ack segment && int_eq (ack_of iss segment) (pos 0)

-- first check: any other acknowledgement is answered with a RST, unless the segment has RST itself
abbrev pub refused_in_syn_sent : Addr → (iss : ℕ) → News → List Segment
refused_in_syn_sent local iss (Comes segment) =
    if has_ack segment && not (acknowledges_syn iss segment) && not (has_rst segment) then rst_at_ack local segment ∷ [] else []
refused_in_syn_sent local iss _ = []

-- second check: a RST that acknowledges the SYN resets
abbrev pub resets_in_syn_sent : (iss : ℕ) → News → Bool
resets_in_syn_sent iss (Comes segment) = acknowledges_syn iss segment && has_rst segment
resets_in_syn_sent iss _ = false

-- fourth check: a SYN that acknowledges ours
abbrev pub answers_in_syn_sent : (iss : ℕ) → News → Bool
answers_in_syn_sent iss (Comes segment) = acknowledges_syn iss segment && not (has_rst segment) && has_syn segment
answers_in_syn_sent iss _ = false

-- the state after the news. A SYN without ACK is ignored: simultaneous open isn't implemented
abbrev pub state_after_syn_sent : (iss : ℕ) → News → StateName
state_after_syn_sent iss news = if resets_in_syn_sent iss news then Closed else (if answers_in_syn_sent iss news then Established else SynSent)

-- 3.10.1: <SEQ=ISS><CTL=SYN>, with the window of a half that has taken nothing, and the MSS option
abbrev pub syn_of : (local remote : Addr) (iss limit : ℕ) → Segment
syn_of local remote iss limit = record {
  head = record {
    src = local.ip;
    dst = remote.ip;
    sport = local.port;
    dport = remote.port;
    seq = iss;
    ack = 0;
    flags = 2;
    window = min 65535 limit;
    mss = Some largest_segment;
    timestamps = None;
  };
  payload = [];
}

-- 3.10.8: the timer expires at this tick, so the SYN is retransmitted
abbrev pub expires_at : News → Sending → Bool
expires_at Ticks s = s.rest == 1
expires_at _ s = false

-- the timer continues at a tick, and nothing else changes it
abbrev pub interval_waiting : News → Sending → ℕ
interval_waiting Ticks s = ticked_interval true (timing_ticked s).base s
interval_waiting _ s = s.interval

abbrev pub rest_waiting : News → Sending → ℕ
rest_waiting Ticks s = ticked_rest true (timing_ticked s).base s
rest_waiting _ s = s.rest
