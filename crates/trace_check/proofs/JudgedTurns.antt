-- A turn whose packets are read is judged as a whole: a legal one leads behind it, and any other decides about the text.
use Rattle.std.proofs.Common.{◌≡◌, ℕ, ◌+◌, inl, inr, Some, List, [], ◌∷◌, length, refl, sym, subst}
use Rattle.server_trait.specs.Service.{Machine}
use Rattle.ft_model.specs.Legal.{IsLegalFor, start_of}
use Rattle.ft_model.specs.Network.{Packet}
use Rattle.ft_model.specs.Report.{packet_count}
use Rattle.ft_model.specs.World.{World, Moment, world_after}
use Rattle.ft_model.specs.declared.event.Event.{Event}
use Rattle.ft_model.specs.declared.schedule.Schedule.{Schedule}
use Rattle.report_laws.specs.declared.Law.{Law}
use Rattle.report_laws.specs.Lines.{lines_in}
use Rattle.report_laws.specs.Transitions.{LineGives, IsPacketLine, actor}
use Rattle.report_laws.specs.Transitions.Position.{InTurn}
use Rattle.report_laws.specs.Transitions.Step.{Rejects}
use Rattle.report_laws.specs.Verdict.{RejectedFrom, IsRejected}
use Rattle.trace_check.specs.After.{first_of, IsAfter}
use Rattle.trace_check.specs.Leads.{Leads}
use Rattle.trace_check.specs.Turn.{EndsTurn}

no_packet : (schedule : Schedule) (n : ℕ) (lines : List (List ℕ)) → EndsTurn schedule n lines → (packet : Packet)
    → (line : List ℕ) × (first_of lines ≡ Some line) × IsPacketLine schedule n packet line → ⊥
no_packet schedule n [] ends packet (line, e, is) = absurd (cc)
no_packet schedule n (first ∷ lines) ends packet (line, e, is) = let same : first ≡ line = cc in ends packet (subst (IsPacketLine schedule n packet) (sym same) is)

module _ {State : Type 0} (service : ℕ → Machine State) where
  pub legal_turn_leads : (text rest : List ℕ) (schedule : Schedule) (trace : List Moment) (event : Event) (sent : List Packet) (w : World) (lines : ℕ)
      → Leads service text (InTurn schedule trace event sent) rest lines → EndsTurn schedule (packet_count trace + length sent + 1) (lines_in rest)
      → IsLegalFor service schedule schedule.events (record { event = event; sent = sent; world = w } ∷ trace)
      → IsAfter service text schedule (record { event = event; sent = sent; world = w } ∷ trace) rest lines
  legal_turn_leads text rest schedule trace event sent w lines l ends legal = record {
    position = InTurn schedule trace event sent;
    leads = l;
    gives = λ step g. inr (no_packet schedule (packet_count trace + length sent + 1) (lines_in rest) ends, inl (w, legal, g));
  }

  pub other_turn_decides : (text rest : List ℕ) (schedule : Schedule) (trace : List Moment) (event : Event) (sent : List Packet) (lines : ℕ)
      → Leads service text (InTurn schedule trace event sent) rest lines → EndsTurn schedule (packet_count trace + length sent + 1) (lines_in rest)
      → ((w : World) → IsLegalFor service schedule schedule.events (record { event = event; sent = sent; world = w } ∷ trace) → ⊥)
      → IsRejected service text (lines + 1) (actor (world_after (start_of schedule) trace) event)
  other_turn_decides text rest schedule trace event sent lines l ends never =
      l.rejects 1 law (rejected (lines_in rest) (inr (no_packet schedule (packet_count trace + length sent + 1) (lines_in rest) ends, inr (never, refl))))
    where
      law : Law
      law = actor (world_after (start_of schedule) trace) event

      rejected : (ls : List (List ℕ)) → LineGives service (InTurn schedule trace event sent) (first_of ls) (Rejects law) → RejectedFrom service (InTurn schedule trace event sent) ls 1 law
      rejected [] gives = (refl, gives)
      rejected (line ∷ ls) gives = inl (refl, gives)
