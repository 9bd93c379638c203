-- Each packet line makes a turn longer.
use Rattle.std.proofs.Common.{◌≡◌, ℕ, ◌+◌, ◌<◌, ◌≤◌, Bool, true, false, inl, List, [], ◌∷◌, ◌++◌, take, drop, length, length-append, refl, sym, ap, ap₂, ◌∙◌, subst, arith, true≢false}
use Rattle.std.specs.Prelude.{IsTrue, ◌↔◌}
use Rattle.std.proofs.lemmas.List.{drop-append-le, length-take-le, drop_all}
use Rattle.server_trait.specs.Service.{Machine}
use Rattle.ft_model.specs.Client.{Client}
use Rattle.ft_model.specs.Network.{Packet}
use Rattle.ft_model.specs.Report.{packet_count, packet_line, way_of}
use Rattle.ft_model.specs.World.{Moment}
use Rattle.ft_model.specs.declared.event.Event.{Event}
use Rattle.ft_model.specs.declared.schedule.Schedule.{Schedule}
use Rattle.report_laws.specs.Lines.{lines_in}
use Rattle.report_laws.specs.Transitions.{IsPacketLine, clients_in}
use Rattle.report_laws.specs.Transitions.Position.{InTurn}
use Rattle.report_laws.proofs.Accepted.{lines_more}
use Rattle.trace_check.specs.Leads.{Leads}
use Rattle.trace_check.specs.Turn.{ReportsPackets, EndsTurn, with_events}
use Rattle.trace_check.proofs.HeaderLines.{leads_on, front_grows}
use Rattle.trace_check.proofs.TextLines.{nothing_after}

-- what stands between two places, and one line more
between_grows : (text : List ℕ) (from at end : ℕ) → from ≤ at → at ≤ end → end ≤ length text → drop from (take end text) ≡ drop from (take at text) ++ drop at (take end text)
between_grows text from at end first more within =
    let size : length (take at text) ≡ at = length-take-le at text (omega (arith, more, within)) in
    ap (drop from) (front_grows text at end more) ∙ drop-append-le from (take at text) (drop at (take end text)) (omega (arith, size, first))

with_other_events : (schedule : Schedule) (events : List Event) (n : ℕ) (packet : Packet) (line : List ℕ) → IsPacketLine schedule n packet line → IsPacketLine (with_events schedule events) n packet line
with_other_events schedule events n packet line is = record { readable = is.readable; written = is.written; number = is.number; spelled = is.spelled }

module _ {State : Type 0} (service : ℕ → Machine State) where
  pub turn_begins : (text : List ℕ) (schedule : Schedule) (trace : List Moment) (event : Event) (at lines : ℕ) → at ≤ length text
      → Leads service text (InTurn schedule trace event []) (drop at text) lines → ReportsPackets service text schedule trace event at at lines 0
  turn_begins text schedule trace event at lines within l =
      let size : length (take at text) ≡ at = length-take-le at text within in
      record { sent = []; count_is = refl; reported = drop_all at (take at text) (omega (arith, size)); leads = l }

  pub turn_grows : (text : List ℕ) (schedule : Schedule) (trace : List Moment) (event : Event) (packet : Packet) (from at end lines count : ℕ) → from ≤ at → at < end → end ≤ length text
      → lines_in (drop at text) ≡ drop at (take end text) ∷ lines_in (drop end text) → IsPacketLine schedule (packet_count trace + count + 1) packet (drop at (take end text))
      → ReportsPackets service text schedule trace event from at lines count → ReportsPackets service text schedule trace event from end (lines + 1) (count + 1)
  turn_grows text schedule trace event packet from at end lines count first more within cut is t =
      let clients : List Client = clients_in schedule in
      let n : ℕ = packet_count trace in
      let same : count ≡ length t.sent = sym t.count_is in
      let here : IsPacketLine schedule (n + length t.sent + 1) packet (drop at (take end text)) = subst (λ k. IsPacketLine schedule (n + k + 1) packet (drop at (take end text))) same is in
      let number : n + length t.sent + 1 ≡ (n + 1) + length t.sent = omega arith in
      let last : drop at (take end text) ≡ packet_line ((n + 1) + length t.sent) (way_of clients packet) packet =
      here.spelled ∙ ap (λ k. packet_line k (way_of clients packet) packet) number in
      let longer : length (t.sent ++ packet ∷ []) ≡ length t.sent + 1 = length-append t.sent (packet ∷ []) in
      record {
        sent = t.sent ++ packet ∷ [];
        count_is = omega (arith, longer, same);
        reported = between_grows text from at end first (omega (arith, more)) within ∙ (ap₂ ◌++◌ t.reported last ∙ sym (lines_more clients (n + 1) t.sent packet));
        leads = leads_on service text (drop at (take end text)) (drop at text) (drop end text) (InTurn schedule trace event t.sent) (InTurn schedule trace event (t.sent ++ packet ∷ [])) lines
            t.leads cut (inl (packet, (drop at (take end text), refl, here), refl));
      }

  -- the same, for every trace that the packets told so far may be of
  pub all_begin : (text : List ℕ) (schedule : Schedule) (at reported : ℕ) → at ≤ length text → (events : List Event) (trace : List Moment) (event : Event) (lines : ℕ) → packet_count trace ≡ reported
      → Leads service text (InTurn (with_events schedule events) trace event []) (drop at text) lines
      → ReportsPackets service text (with_events schedule events) trace event at at (lines + 0) 0
  all_begin text schedule at reported within events trace event lines e l =
      let same : lines ≡ lines + 0 = omega arith in
      subst (λ k. ReportsPackets service text (with_events schedule events) trace event at at k 0) same (turn_begins text (with_events schedule events) trace event at lines within l)

  pub all_grow : (text : List ℕ) (schedule : Schedule) (from at end reported count : ℕ) (test : Bool) → from ≤ at → at < end → end ≤ length text
      → lines_in (drop at text) ≡ drop at (take end text) ∷ lines_in (drop end text)
      → (IsTrue test ↔ ((packet : Packet) × IsPacketLine schedule (reported + count + 1) packet (drop at (take end text)))) → test ≡ true
      → ((events : List Event) (trace : List Moment) (event : Event) (lines : ℕ) → packet_count trace ≡ reported
      → Leads service text (InTurn (with_events schedule events) trace event []) (drop from text) lines
      → ReportsPackets service text (with_events schedule events) trace event from at (lines + count) count)
      → (events : List Event) (trace : List Moment) (event : Event) (lines : ℕ) → packet_count trace ≡ reported
      → Leads service text (InTurn (with_events schedule events) trace event []) (drop from text) lines
      → ReportsPackets service text (with_events schedule events) trace event from end (lines + (count + 1)) (count + 1)
  all_grow text schedule from at end reported count test first more within cut iff true_so so_far events trace event lines e l =
      let found : (packet : Packet) × IsPacketLine schedule (reported + count + 1) packet (drop at (take end text)) = iff.0 true_so in
      let here : IsPacketLine (with_events schedule events) (packet_count trace + count + 1) found.0 (drop at (take end text)) =
      with_other_events schedule events (packet_count trace + count + 1) found.0 (drop at (take end text))
      (subst (λ k. IsPacketLine schedule (k + count + 1) found.0 (drop at (take end text))) (sym e) found.1) in
      let same : (lines + count) + 1 ≡ lines + (count + 1) = omega arith in
      subst (λ k. ReportsPackets service text (with_events schedule events) trace event from end k (count + 1)) same
      (turn_grows text (with_events schedule events) trace event found.0 from at end (lines + count) count first more within cut here (so_far events trace event lines e l))

pub few_packets : (schedule : Schedule) (n : ℕ) (line : List ℕ) (test : Bool) → (IsTrue test ↔ ((packet : Packet) × IsPacketLine schedule n packet line)) → test ≡ true → n ≤ 200000
few_packets schedule n line test iff true_so = (iff.0 true_so).1.number

pub turn_ends_with_text : (schedule : Schedule) (text : List ℕ) (at n : ℕ) → at ≡ length text → EndsTurn schedule n (lines_in (drop at text))
turn_ends_with_text schedule text at n e = subst (EndsTurn schedule n) (sym (nothing_after text at e)) tt

pub turn_ends_before : (schedule : Schedule) (text line : List ℕ) (more : List (List ℕ)) (at n : ℕ) (test : Bool) → lines_in (drop at text) ≡ line ∷ more
    → (IsTrue test ↔ ((packet : Packet) × IsPacketLine schedule n packet line)) → test ≡ false → EndsTurn schedule n (lines_in (drop at text))
turn_ends_before schedule text line more at n test cut iff other = subst (EndsTurn schedule n) (sym cut) (λ packet is. true≢false (sym (iff.1 (packet, is)) ∙ other))
