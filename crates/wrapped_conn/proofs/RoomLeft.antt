-- The segments that TCP sends leave as much room in a packet as the segment size does, so that timestamps fit where it leaves room for them.
use Rattle.std.proofs.Common.{◌≡◌, ℕ, zero, suc, ◌≤◌, ◌+◌, ◌-◌, Bool, true, true≢false, Option, None, Some, List, [], ◌∷◌, ◌++◌, length, length-append, length-take, drop, max, min, refl, sym, ap, arith, ◌∙◌}
use Rattle.std.specs.Prelude.{is_some, ◌==◌, ◌&&◌, not, nat_lt}
use Rattle.std.specs.List.{AllByRecursion}
use Rattle.seq_arith.specs.Packet.{Segment}
use Rattle.seq_arith.proofs.Units.{mss_option_short, timestamps_option_short}
use Rattle.seq_arith.specs.PacketGrammar.{mss_option, timestamps_option, packet_length}
use Rattle.seq_arith.specs.declared.options.Timestamps.{Timestamps}
use Rattle.std.specs.Option.{option_or}
use Rattle.tcp_rules.specs.Timestamping.{timestamps_sent}
use Rattle.south_wrap.specs.SouthState.{SouthState}
use Rattle.south_wrap.specs.Translation.{outward}
use Rattle.tcp_rules.specs.declared.timestamping.Timestamping.{Timestamping}
use Rattle.tcp_rules.specs.declared.timestamping.Timestamping.TheVariants.{Off, Awaited, Echoes}
use Rattle.wrapped_conn.specs.Output.{AllFit}
use Rattle.wrapped_conn.specs.Sound.{LeavesRoom}
use Rattle.wrapped_conn.proofs.Flushed.{probe_leaves}
use Rattle.segment_codec.specs.declared.Head as codec
use Rattle.ft_model.proofs.Lists.{all_append}
use Rattle.ft_io.proofs.Choices.{holds_if}
use Rattle.tcp_endpoint.specs.States.{is_closed, is_syn_sent}
use Rattle.tcp_endpoint.specs.SendHalf.{in_flight, is_unacknowledged, resent_length}
use Rattle.tcp_endpoint.specs.Tcb.{Tcb}
use Rattle.tcp_endpoint.specs.Output.{head_at, opening_segment, text_at, fin_at, texts, reset_reply_segments, reset_reply_out, retransmitted_segment, retransmission_out, probes_text, probes_fin, probe_out, with_probe, new_length, text_out, with_text_sent, new_fin, fin_out, full_out, after_full, is_ack_pending, bare_segment, or_bare, leaving}

abbrev pub IsShort : (mss : ℕ) → Segment → Type 0
IsShort mss segment = length (mss_option segment.head.mss) + length segment.payload ≤ max 4 mss

abbrev pub AllShort : (mss : ℕ) → List Segment → Type 0
AllShort mss segments = AllByRecursion (IsShort mss) segments

text_short : (mss : ℕ) (e : Tcb) (place n : ℕ) → n ≤ max 4 mss → IsShort mss (text_at e place n)
unfolding text_at head_at
text_short mss e place n small = omega (arith, small, length-take n (drop place e.sending.held))

fin_short : (mss : ℕ) (e : Tcb) (place : ℕ) → IsShort mss (fin_at e place)
unfolding fin_at head_at
fin_short mss e place = omega arith

bare_short : (mss : ℕ) (e : Tcb) → IsShort mss (bare_segment e)
unfolding bare_segment head_at
bare_short mss e = omega arith

opening_short : (mss : ℕ) (e : Tcb) → IsShort mss (opening_segment e)
unfolding opening_segment
opening_short mss e = holds_if (IsShort mss) (is_syn_sent e.name) _ _ (λ t. omega arith) (λ t. omega arith)

texts_short : (mss k : ℕ) (e : Tcb) (place left : ℕ) → e.sending.mss ≡ mss → AllShort mss (texts k e place left)
unfolding texts
texts_short mss zero e place left is = tt
texts_short mss (suc k) e place left is =
    holds_if (AllShort mss) (nat_lt 0 left) _ []
    (λ t. (text_short mss e place (min left e.sending.mss) (omega (arith, is)), texts_short mss k e (place + min left e.sending.mss) (left - min left e.sending.mss) is))
    (λ t. tt)

reply_short : (mss : ℕ) (reply : Option codec.Head) → AllShort mss (reset_reply_segments reply)
reply_short mss None = tt
reply_short mss (Some head) = (omega (arith, mss_option_short head.mss), tt)

resent_short : (mss : ℕ) (e : Tcb) → e.sending.mss ≡ mss → IsShort mss (retransmitted_segment e)
unfolding retransmitted_segment
resent_short mss e is =
    holds_if (IsShort mss) (not e.sending.syn_acked) (opening_segment e) _ (λ t. opening_short mss e)
    (λ t. holds_if (IsShort mss) (length e.sending.held == 0) (fin_at e 0) _ (λ u. fin_short mss e 0) (λ u. text_short mss e 0 (resent_length e.sending) (omega (arith, is))))

again_short : (mss : ℕ) (e : Tcb) → e.sending.mss ≡ mss → AllShort mss (retransmission_out e)
unfolding retransmission_out
again_short mss e is =
    holds_if (AllShort mss) (e.retransmission_due && not (is_closed e.name) && is_unacknowledged e.sending) _ [] (λ t. (resent_short mss e is, tt)) (λ t. tt)

probe_short : (mss : ℕ) (e : Tcb) → AllShort mss (probe_out e)
unfolding probe_out
probe_short mss e =
    holds_if (AllShort mss) (probes_text e) _ _ (λ t. (text_short mss e (in_flight e.sending) 1 (omega arith), tt))
    (λ t. holds_if (AllShort mss) (probes_fin e) _ [] (λ u. (fin_short mss e (in_flight e.sending), tt)) (λ u. tt))

new_fin_short : (mss : ℕ) (e : Tcb) → AllShort mss (fin_out e)
unfolding fin_out
new_fin_short mss e = holds_if (AllShort mss) (new_fin e) _ [] (λ t. (fin_short mss e (in_flight e.sending), tt)) (λ t. tt)

full_short : (mss : ℕ) (e : Tcb) → e.sending.mss ≡ mss → (with_probe e).sending.mss ≡ mss → AllShort mss (full_out e)
unfolding full_out reset_reply_out text_out
full_short mss e is kept =
    let probed : Tcb = with_probe e in
    let again = all_append (IsShort mss) (reset_reply_out e) (retransmission_out e) (reply_short mss e.reset_reply) (again_short mss e is) in
    let probe = all_append (IsShort mss) (reset_reply_out e ++ retransmission_out e) (probe_out e) again (probe_short mss e) in
    let text : AllShort mss (text_out probed) = texts_short mss (new_length probed) probed (in_flight probed.sending) (new_length probed) kept in
    let all = all_append (IsShort mss) (reset_reply_out e ++ retransmission_out e ++ probe_out e) (text_out probed) probe text in
    all_append (IsShort mss) (reset_reply_out e ++ retransmission_out e ++ probe_out e ++ text_out probed) (fin_out (with_text_sent probed)) all
    (new_fin_short mss (with_text_sent probed))

bare_or_short : (mss : ℕ) (b : Bool) (bare : Segment) (segments : List Segment) → IsShort mss bare → AllShort mss segments → AllShort mss (or_bare b bare segments)
bare_or_short mss b bare [] one all = holds_if (AllShort mss) b (bare ∷ []) [] (λ t. (one, tt)) (λ t. tt)
bare_or_short mss b bare (first ∷ others) one all = all

leaving_short : (mss : ℕ) (e : Tcb) → e.sending.mss ≡ mss → (with_probe e).sending.mss ≡ mss → AllByRecursion (IsShort mss) (leaving e)
unfolding leaving
leaving_short mss e is kept =
    bare_or_short mss (is_ack_pending (after_full e)) (bare_segment (after_full e)) (full_out e) (bare_short mss (after_full e)) (full_short mss e is kept)

-- and so they fit a packet with the timestamps
stamped_fits : (s : SouthState) (mss : ℕ) (segment : Segment) → mss + 12 ≤ 1460 → IsShort mss segment → packet_length (outward s segment) ≤ 1500
stamped_fits s mss segment high short =
    let carried : Option Timestamps = option_or (timestamps_sent s.timestamping) segment.head.timestamps in
    omega (arith, length-append (mss_option segment.head.mss) (timestamps_option carried), timestamps_option_short carried, high, short)

all_fit : (s : SouthState) (mss : ℕ) (segments : List Segment) → mss + 12 ≤ 1460 → AllShort mss segments → AllFit s segments
all_fit s mss [] high short = tt
all_fit s mss (segment ∷ segments) high short = (stamped_fits s mss segment high short.0, all_fit s mss segments high short.1)

room_of : (mss : ℕ) (timestamping : Timestamping) → is_some (timestamps_sent timestamping) ≡ true → LeavesRoom mss timestamping → mss + 12 ≤ 1460
room_of mss Off some room = absurd (true≢false (sym some))
room_of mss Awaited some room = absurd (true≢false (sym some))
room_of mss (Echoes recent) some room = room refl

-- what TCP sends, where the connection's segments leave room for timestamps
pub leaving_fits : (e : Tcb) (s t : SouthState) → LeavesRoom e.sending.mss s.timestamping → t.timestamping ≡ s.timestamping → is_some (timestamps_sent t.timestamping) ≡ true
    → AllFit t (leaving e)
leaving_fits e s t room same some =
    all_fit t e.sending.mss (leaving e) (room_of e.sending.mss s.timestamping (ap (λ x. is_some (timestamps_sent x)) (sym same) ∙ some) room)
    (leaving_short e.sending.mss e refl (probe_leaves e).mss)
