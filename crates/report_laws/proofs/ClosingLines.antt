-- After the last turn the closing lines follow, so a report is accepted from the line after its header on.
use Rattle.std.proofs.Common.{◌≡◌, ℕ, ◌≤◌, ◌&&◌, nat_le, Bool, true, false, refl, sym, ap, ◌∙◌, subst, Some, None, List, [], ◌∷◌, ◌++◌, codes, drop, length, append_assoc}
use Rattle.std.specs.List.{concat}
use Rattle.std.specs.Str.{bytes_eq}
use Rattle.std.proofs.lemmas.Slice.Eq.{bytes_eq-Decides, starts_is}
use Rattle.std.proofs.lemmas.Bool.Decides.{Decides-eqb}
use Rattle.server_trait.specs.Service.{Machine}
use Rattle.ft_model.specs.Legal.{IsLegalFor, start_of}
use Rattle.ft_model.specs.Report.{event_lines, packet_count, closing_lines}
use Rattle.ft_model.specs.World.{Moment, world_after, events_of}
use Rattle.ft_model.specs.declared.schedule.Schedule.{Schedule}
use Rattle.ft_model.proofs.ReportLines.{mark}
use Rattle.ft_model.proofs.ReportHeader.{IsClosing, closing_ends}
use Rattle.report_laws.specs.declared.Law.TheVariants as law
use Rattle.report_laws.specs.Transitions.{begins_with, ClosingLine, AfterTurn, EventLine, clients_in}
use Rattle.report_laws.specs.Transitions.Position.{InClosing}
use Rattle.report_laws.specs.Transitions.Step.{Continues, Rejects, Accepts}
use Rattle.report_laws.specs.Verdict.{AcceptedFrom}
use Rattle.report_laws.specs.Lines.{lines_in}
use Rattle.report_laws.proofs.LineLemmas.{lines_join}
use Rattle.report_laws.proofs.CutLines.{turns_cut}
use Rattle.report_laws.specs.TurnLines.{schedule_through, AllCanonical, NoPacketFirst, AcceptedAfter}
use Rattle.report_laws.proofs.Turns.{turns_read, if_true, if_false}

begins_is : (word text : List ℕ) → begins_with word text ≡ true → text ≡ word ++ drop (length word) text
begins_is word text e = (starts_is Decides-eqb text word (begins_with word text) refl).0 e

pub decide : (b : Bool) → (b ≡ true → ⊥) → b ≡ false
decide true no_way = absurd (no_way refl)
decide false no_way = refl

-- a text begins with its first line
first_is : (text line : List ℕ) (lines : List (List ℕ)) → lines_in text ≡ line ∷ lines → text ≡ line ++ concat lines
first_is text line lines e = sym (lines_join text) ∙ ap concat e

not_begun : (text line word : List ℕ) (lines : List (List ℕ)) → lines_in text ≡ line ∷ lines → ((rest : List ℕ) → text ≡ word ++ rest → ⊥) → begins_with word line ≡ false
not_begun text line word lines e none =
    decide (begins_with word line)
    (λ b. none (drop (length word) line ++ concat lines)
    (first_is text line lines e ∙ (ap (λ l. l ++ concat lines) (begins_is word line b) ∙ append_assoc word (drop (length word) line) (concat lines))))

module _ {State : Type 0} (service : ℕ → Machine State) where
  due_read : (due : List (List ℕ)) → AcceptedFrom service (InClosing due) due
  due_read [] = refl
  due_read (line ∷ more) = (InClosing more, if_true (bytes_eq line line) _ _ ((bytes_eq-Decides line line).1 refl) refl, due_read more)

  closing_read : (schedule : Schedule) (trace : List Moment) (due : List (List ℕ)) → lines_in (closing_lines (world_after (start_of schedule) trace) (length trace)) ≡ due
      → AcceptedAfter service (schedule_through schedule trace) trace due
  closing_read schedule trace [] e = subst (λ d. ClosingLine d None Accepts) (sym e) refl
  closing_read schedule trace (line ∷ more) e =
      let text : List ℕ = closing_lines (world_after (start_of schedule) trace) (length trace) in
      let closing : IsClosing text = closing_ends (world_after (start_of schedule) trace) (length trace) in
      let no_packet : begins_with (codes "packet ") line ≡ false = not_begun text line (codes "packet ") more e (λ rest f. closing.packet (ap mark f)) in
      let no_event : begins_with (codes "event ") line ≡ false = not_begun text line (codes "event ") more e (λ rest f. closing.event (ap mark f)) in
      let due : ClosingLine (line ∷ more) (Some line) (Continues (InClosing more)) = if_true (bytes_eq line line) _ _ ((bytes_eq-Decides line line).1 refl) refl in
      let last : ClosingLine (lines_in text) (Some line) (Continues (InClosing more)) = subst (λ d. ClosingLine d (Some line) (Continues (InClosing more))) (sym e) due in
      let first : AfterTurn (schedule_through schedule trace) trace (Some line) (Continues (InClosing more)) =
      if_false _ (Continues (InClosing more) ≡ Rejects law.Packet) _ (ap (λ b. b && nat_le 1 (length trace)) no_packet)
      (if_false _ (EventLine (schedule_through schedule trace) trace line (Continues (InClosing more))) _ no_event last) in
      (InClosing more, first, due_read more)

  no_packet_first : (schedule : Schedule) (trace : List Moment) (due : List (List ℕ)) → lines_in (closing_lines (world_after (start_of schedule) trace) (length trace)) ≡ due
      → NoPacketFirst due
  no_packet_first schedule trace [] e = tt
  no_packet_first schedule trace (line ∷ more) e =
      not_begun (closing_lines (world_after (start_of schedule) trace) (length trace)) line (codes "packet ") more e
      (λ rest f. (closing_ends (world_after (start_of schedule) trace) (length trace)).packet (ap mark f))

  -- after its header, the report of a legal trace is accepted
  pub report_read : (schedule : Schedule) (trace : List Moment) → IsLegalFor service schedule (events_of trace) trace → packet_count trace ≤ 200000 → AllCanonical schedule trace
      → AcceptedAfter service (schedule_through schedule []) []
      (lines_in (event_lines (clients_in schedule) trace ++ closing_lines (world_after (start_of schedule) trace) (length trace)))
  report_read schedule trace legal few asked =
      let text : List ℕ = closing_lines (world_after (start_of schedule) trace) (length trace) in
      subst (AcceptedAfter service (schedule_through schedule []) []) (sym (turns_cut schedule trace text asked few))
      (turns_read service schedule trace (lines_in text) legal few asked (no_packet_first schedule trace (lines_in text) refl) (closing_read schedule trace (lines_in text) refl))
