-- After the turns of a legal trace, each line decides about the text or leads on.
use Rattle.std.proofs.Common.{◌≡◌, ℕ, ◌+◌, true, false, inl, inr, Some, None, List, [], ◌∷◌, codes, take, drop, length, refl, sym, ap, ◌∙◌, subst}
use Rattle.std.specs.Prelude.{◌&&◌, nat_le}
use Rattle.server_trait.specs.Service.{Machine}
use Rattle.ft_model.specs.Grammar.{with_line}
use Rattle.ft_model.specs.World.{Moment}
use Rattle.ft_model.specs.declared.event.Event.{Event}
use Rattle.ft_model.specs.declared.line.Draft.TheVariants.{Begun}
use Rattle.ft_model.specs.declared.line.Line.TheVariants as says
use Rattle.ft_model.specs.declared.schedule.Schedule.{Schedule}
use Rattle.report_laws.specs.declared.Law.{Law}
use Rattle.report_laws.specs.declared.Law.TheVariants as law
use Rattle.report_laws.specs.Canonical.{schedule_bytes}
use Rattle.report_laws.specs.Lines.{lines_in}
use Rattle.report_laws.specs.Transitions.{Step, LineGives, AfterTurn, EventLine, ClosingLine, IsEventLine, begins_with, closing_of}
use Rattle.report_laws.specs.Transitions.Position.{InTurn, InClosing}
use Rattle.report_laws.specs.Transitions.Step.{Continues, Rejects}
use Rattle.report_laws.specs.Verdict.{RejectedFrom, IsRejected}
use Rattle.report_laws.proofs.Turns.{if_true, if_false}
use Rattle.trace_check.specs.After.{first_of, IsAfter, ReadsEvent, is_refused, with_event}
use Rattle.trace_check.specs.Leads.{Leads}
use Rattle.trace_check.proofs.HeaderLines.{leads_on, line_decides}
use Rattle.trace_check.proofs.TextLines.{nothing_after}

module _ {State : Type 0} (service : ℕ → Machine State) where
  -- what a line does after the turns, it does at the position
  line_gives : (text : List ℕ) (schedule : Schedule) (trace : List Moment) (rest line : List ℕ) (more : List (List ℕ)) (lines : ℕ) (step : Step)
      (a : IsAfter service text schedule trace rest lines) → lines_in rest ≡ line ∷ more → AfterTurn schedule trace (Some line) step → LineGives service a.position (Some line) step
  line_gives text schedule trace rest line more lines step a cut gives =
      let first : first_of (lines_in rest) ≡ Some line = ap first_of cut in
      subst (λ t. LineGives service a.position t step) first (a.gives step (subst (λ t. AfterTurn schedule trace t step) (sym first) gives))

  -- a packet's line after a complete turn
  pub late_packet_is_rejected : (text line : List ℕ) (at end lines events size : ℕ) → lines_in (drop at text) ≡ line ∷ lines_in (drop end text)
      → begins_with (codes "packet ") line && nat_le 1 events ≡ true → (schedule : Schedule) (trace : List Moment) → length trace ≡ events → length (schedule_bytes (Begun schedule)) ≡ size
      → IsAfter service text schedule trace (drop at text) lines → IsRejected service text (lines + 1) law.Packet
  late_packet_is_rejected text line at end lines events size cut late schedule trace count bytes a =
      let test : begins_with (codes "packet ") line && nat_le 1 (length trace) ≡ true = ap (λ n. begins_with (codes "packet ") line && nat_le 1 n) count ∙ late in
      line_decides service text line (drop at text) (drop end text) a.position lines law.Packet a.leads cut
      (line_gives text schedule trace (drop at text) line (lines_in (drop end text)) lines (Rejects law.Packet) a cut
      (if_true (begins_with (codes "packet ") line && nat_le 1 (length trace)) _ _ test refl))

  -- the line of an event
  event_gives : (text line : List ℕ) (at end lines events : ℕ) (step : Step) → lines_in (drop at text) ≡ line ∷ lines_in (drop end text)
      → begins_with (codes "packet ") line && nat_le 1 events ≡ false → begins_with (codes "event ") line ≡ true → (schedule : Schedule) (trace : List Moment) → length trace ≡ events
      → (a : IsAfter service text schedule trace (drop at text) lines) → EventLine schedule trace line step → LineGives service a.position (Some line) step
  event_gives text line at end lines events step cut early begins schedule trace count a gives =
      let test : begins_with (codes "packet ") line && nat_le 1 (length trace) ≡ false = ap (λ n. begins_with (codes "packet ") line && nat_le 1 n) count ∙ early in
      line_gives text schedule trace (drop at text) line (lines_in (drop end text)) lines step a cut
      (if_false (begins_with (codes "packet ") line && nat_le 1 (length trace)) _ _ test (if_true (begins_with (codes "event ") line) _ _ begins gives))

  pub no_event_is_rejected : (text line : List ℕ) (at end lines events size : ℕ) → lines_in (drop at text) ≡ line ∷ lines_in (drop end text)
      → begins_with (codes "packet ") line && nat_le 1 events ≡ false → begins_with (codes "event ") line ≡ true
      → ((schedule : Schedule) → length (schedule_bytes (Begun schedule)) ≡ size → (event : Event) → IsEventLine schedule (events + 1) event line → ⊥)
      → (schedule : Schedule) (trace : List Moment) → length trace ≡ events → length (schedule_bytes (Begun schedule)) ≡ size
      → IsAfter service text schedule trace (drop at text) lines → IsRejected service text (lines + 1) law.Text
  no_event_is_rejected text line at end lines events size cut early begins none schedule trace count bytes a =
      line_decides service text line (drop at text) (drop end text) a.position lines law.Text a.leads cut
      (event_gives text line at end lines events (Rejects law.Text) cut early begins schedule trace count a
      (inr ((λ event is. none schedule bytes event (subst (λ n. IsEventLine schedule (n + 1) event line) count is)), refl)))

  pub event_is_read : (text line : List ℕ) (at end lines events size larger : ℕ) (event : Event) → line ≡ drop at (take end text) → lines_in (drop at text) ≡ line ∷ lines_in (drop end text)
      → begins_with (codes "packet ") line && nat_le 1 events ≡ false → begins_with (codes "event ") line ≡ true
      → ((schedule : Schedule) → length (schedule_bytes (Begun schedule)) ≡ size → IsEventLine schedule (events + 1) event line)
      → ((schedule : Schedule) → length (schedule_bytes (Begun schedule)) ≡ size → length (schedule_bytes (with_line (Begun schedule) (says.Event event))) ≡ larger)
      → (schedule : Schedule) (trace : List Moment) → length trace ≡ events → length (schedule_bytes (Begun schedule)) ≡ size
      → IsAfter service text schedule trace (drop at text) lines → ReadsEvent service text schedule trace event at end lines larger
  event_is_read text line at end lines events size larger event there cut early begins is grows schedule trace count bytes a =
      let here : IsEventLine schedule (length trace + 1) event line = subst (λ n. IsEventLine schedule (n + 1) event line) (sym count) (is schedule bytes) in
      record {
        is = subst (IsEventLine schedule (length trace + 1) event) there here;
        allowed = λ free. leads_on service text line (drop at text) (drop end text) a.position (InTurn (with_event schedule event) trace event []) lines a.leads cut
            (event_gives text line at end lines events (Continues (InTurn (with_event schedule event) trace event [])) cut early begins schedule trace count a
            (inl (event, here, if_false (is_refused schedule trace event) _ _ free refl)));
        refused = λ barred. line_decides service text line (drop at text) (drop end text) a.position lines law.Event a.leads cut
            (event_gives text line at end lines events (Rejects law.Event) cut early begins schedule trace count a
            (inl (event, here, if_true (is_refused schedule trace event) _ _ barred refl)));
        size_is = grows schedule bytes;
      }

  -- any other line, or the end, is where the closing lines begin
  begins_closing : (text : List ℕ) (schedule : Schedule) (trace : List Moment) (rest : List ℕ) (lines : ℕ) (a : IsAfter service text schedule trace rest lines)
      → ((step : Step) → ClosingLine (closing_of schedule trace) (first_of (lines_in rest)) step → AfterTurn schedule trace (first_of (lines_in rest)) step)
      → Leads service text (InClosing (closing_of schedule trace)) rest lines
  begins_closing text schedule trace rest lines a same = record {
    rejects = λ n law r. a.leads.rejects n law (rejected (lines_in rest) n law (λ step c. a.gives step (same step c)) r);
  }
    where
      due : List (List ℕ)
      due = closing_of schedule trace

      rejected : (ls : List (List ℕ)) (n : ℕ) (law : Law) → ((step : Step) → ClosingLine due (first_of ls) step → LineGives service a.position (first_of ls) step)
          → RejectedFrom service (InClosing due) ls n law → RejectedFrom service a.position ls n law
      rejected [] n law gives (e, r) = (e, gives (Rejects law) r)
      rejected (line ∷ ls) n law gives (inl (e, r)) = inl (e, gives (Rejects law) r)
      rejected (line ∷ ls) n law gives (inr (next, before, e, r, others)) = inr (next, before, e, gives (Continues next) r, others)

  pub closing_begins : (text line : List ℕ) (at end lines events size : ℕ) → lines_in (drop at text) ≡ line ∷ lines_in (drop end text)
      → begins_with (codes "packet ") line && nat_le 1 events ≡ false → begins_with (codes "event ") line ≡ false
      → (schedule : Schedule) (trace : List Moment) → length trace ≡ events → length (schedule_bytes (Begun schedule)) ≡ size
      → IsAfter service text schedule trace (drop at text) lines → Leads service text (InClosing (closing_of schedule trace)) (drop at text) lines
  closing_begins text line at end lines events size cut early other schedule trace count bytes a =
      let test : begins_with (codes "packet ") line && nat_le 1 (length trace) ≡ false = ap (λ n. begins_with (codes "packet ") line && nat_le 1 n) count ∙ early in
      let first : first_of (lines_in (drop at text)) ≡ Some line = ap first_of cut in
      begins_closing text schedule trace (drop at text) lines a
      (λ step c. subst (λ t. AfterTurn schedule trace t step) (sym first)
      (if_false (begins_with (codes "packet ") line && nat_le 1 (length trace)) _ _ test
      (if_false (begins_with (codes "event ") line) _ _ other (subst (λ t. ClosingLine (closing_of schedule trace) t step) first c))))

  pub closing_begins_at_end : (text : List ℕ) (at lines events size : ℕ) → at ≡ length text
      → (schedule : Schedule) (trace : List Moment) → length trace ≡ events → length (schedule_bytes (Begun schedule)) ≡ size
      → IsAfter service text schedule trace (drop at text) lines → Leads service text (InClosing (closing_of schedule trace)) (drop at text) lines
  closing_begins_at_end text at lines events size ends schedule trace count bytes a =
      let first : first_of (lines_in (drop at text)) ≡ None = ap first_of (nothing_after text at ends) in
      begins_closing text schedule trace (drop at text) lines a
      (λ step c. subst (λ t. AfterTurn schedule trace t step) (sym first) (subst (λ t. ClosingLine (closing_of schedule trace) t step) first c))
