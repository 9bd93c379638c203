-- The lines of a legal trace's turns continue a report, one turn after another.
use Rattle.std.proofs.Common.{◌≡◌, ℕ, ◌+◌, ◌≤◌, Bool, true, false, ◌&&◌, ◌||◌, nat_le, MatchBool, is_some, inl, inr, refl, sym, ap, ◌∙◌, subst, arith, true≢false, Option, Some, None, List, [], ◌∷◌, ◌++◌, codes, length, length-append, append_assoc, append-nil}
use Rattle.std.specs.List.{AllByRecursion}
use Rattle.server_trait.specs.Service.{Machine}
use Rattle.ft_model.specs.Legal.{IsLegalFor, IsAllowed, start_of, refusal}
use Rattle.ft_model.specs.Network.{Packet}
use Rattle.ft_model.specs.Readable.{IsReadable}
use Rattle.ft_model.specs.Wire.{HasWireBy}
use Rattle.ft_model.specs.Report.{event_line, packet_line, packet_count, way_of}
use Rattle.ft_model.specs.World.{Moment, world_after, events_of}
use Rattle.ft_model.specs.declared.event.Event.{Event}
use Rattle.ft_model.specs.declared.way.Way.{Way}
use Rattle.ft_model.specs.declared.schedule.Schedule.{Schedule}
use Rattle.report_laws.specs.declared.Law.TheVariants as law
use Rattle.report_laws.specs.Transitions.{Position, IsPacketLine, begins_with, EventLine, AfterTurn, clients_in, grammar_in}
use Rattle.report_laws.specs.Transitions.Position.{InTurn}
use Rattle.report_laws.specs.Transitions.Step.{Continues, Rejects}
use Rattle.report_laws.specs.Verdict.{AcceptedFrom}
use Rattle.report_laws.specs.TurnLines.{schedule_through, packet_line_list, turn_line_list, IsCanonicalTurn, AllCanonical, NoPacketFirst, AcceptedAfter}

event_no_packet : (n : ℕ) (event : Event) → begins_with (codes "packet ") (event_line n event) ≡ false
unfolding event_line
event_no_packet n event = refl

event_begins : (n : ℕ) (event : Event) → begins_with (codes "event ") (event_line n event) ≡ true
unfolding event_line
event_begins n event = refl

packet_begins : (n : ℕ) (way : Way) (packet : Packet) → begins_with (codes "packet ") (packet_line n way packet) ≡ true
unfolding packet_line
packet_begins n way packet = refl

pub if_true : (b : Bool) (A B : Type 0) → b ≡ true → A → MatchBool b A B
if_true true A B e x = x
if_true false A B e x = absurd (true≢false (sym e))

pub if_false : (b : Bool) (A B : Type 0) → b ≡ false → B → MatchBool b A B
if_false true A B e x = absurd (true≢false e)
if_false false A B e x = x

neither : (a b : Bool) → a ≡ false → b ≡ false → (a || b) ≡ false
neither true b p q = absurd (true≢false p)
neither false b p q = q

module _ {State : Type 0} (service : ℕ → Machine State) where
  not_packet : (schedule : Schedule) (n : ℕ) (line : List ℕ) (packet : Packet) → begins_with (codes "packet ") line ≡ false
      → (l : List ℕ) × (Some line ≡ Some l) × IsPacketLine schedule n packet l → ⊥
  not_packet schedule n line packet none (l, e, is) =
      true≢false
      (sym (packet_begins n (way_of (clients_in schedule) packet) packet) ∙ (ap (begins_with (codes "packet ")) (sym is.spelled) ∙ (sym (ap (λ t. begins_with (codes "packet ") (text_of t)) e) ∙ none)))
    where
      text_of : Option (List ℕ) → List ℕ
      text_of (Some t) = t
      text_of None = []

  no_line : {P : Type 0} (l : List ℕ) → None ≡ Some l → P
  no_line l e = absurd (true≢false (sym (ap is_some e)))

  -- once all packets of a turn are read, the trace is legal with it
  turn_done : (schedule : Schedule) (m : Moment) (earlier : List Moment) (rest : List (List ℕ)) → IsLegalFor service schedule (events_of (m ∷ earlier)) (m ∷ earlier)
      → NoPacketFirst rest → AcceptedAfter service (schedule_through schedule (m ∷ earlier)) (m ∷ earlier) rest
      → AcceptedFrom service (InTurn (schedule_through schedule (m ∷ earlier)) earlier m.event m.sent) rest
  turn_done schedule m earlier [] legal none ends =
      inr ((λ packet x. no_line x.0 x.1), inl (m.world, record { joint = legal.joint; events_are = legal.events_are; allowed = legal.allowed }, ends))
  turn_done schedule m earlier (line ∷ lines) legal none ends = (
    ends.0,
    inr (
      (λ packet x. not_packet (schedule_through schedule (m ∷ earlier)) (packet_count earlier + length m.sent + 1) line packet none x),
      inl (m.world, record { joint = legal.joint; events_are = legal.events_are; allowed = legal.allowed }, ends.1),
    ),
    ends.2,
  )

  packets_read : (schedule : Schedule) (m : Moment) (earlier : List Moment) (rest : List (List ℕ)) (done todo : List Packet) → done ++ todo ≡ m.sent
      → packet_count earlier + length done + length todo ≤ 200000 → AllByRecursion (IsReadable schedule.server (clients_in schedule)) todo
      → AllByRecursion (HasWireBy (grammar_in schedule)) todo → AcceptedFrom service (InTurn (schedule_through schedule (m ∷ earlier)) earlier m.event m.sent) rest
      → AcceptedFrom service (InTurn (schedule_through schedule (m ∷ earlier)) earlier m.event done) (packet_line_list (clients_in schedule) (packet_count earlier + length done + 1) todo ++ rest)
  packets_read schedule m earlier rest done [] all few readable written ends =
      subst (λ s. AcceptedFrom service (InTurn (schedule_through schedule (m ∷ earlier)) earlier m.event s) rest) (sym (sym (append-nil done) ∙ all)) ends
  packets_read schedule m earlier rest done (p ∷ todo) all few readable written ends =
      let n : ℕ = packet_count earlier + length done + 1 in
      let longer : length (done ++ p ∷ []) ≡ length done + 1 = length-append done (p ∷ []) in
      let number : packet_count earlier + length (done ++ p ∷ []) + 1 ≡ n + 1 = omega (arith, longer) in
      let within : n ≤ 200000 = omega (arith, few) in
      let on : packet_count earlier + length (done ++ p ∷ []) + length todo ≤ 200000 = omega (arith, few, longer) in
      let line : IsPacketLine (schedule_through schedule (m ∷ earlier)) n p (packet_line n (way_of (clients_in schedule) p) p) = record { readable = readable.0; written = written.0; number = within; spelled = refl } in
      let more : AcceptedFrom service (InTurn (schedule_through schedule (m ∷ earlier)) earlier m.event (done ++ p ∷ []))
      (packet_line_list (clients_in schedule) (packet_count earlier + length (done ++ p ∷ []) + 1) todo ++ rest) =
      packets_read schedule m earlier rest (done ++ p ∷ []) todo (append_assoc done (p ∷ []) todo ∙ all) on readable.1 written.1 ends in (
        InTurn (schedule_through schedule (m ∷ earlier)) earlier m.event (done ++ p ∷ []),
        inl (p, (packet_line n (way_of (clients_in schedule) p) p, refl, line), refl),
        subst (λ k. AcceptedFrom service (InTurn (schedule_through schedule (m ∷ earlier)) earlier m.event (done ++ p ∷ [])) (packet_line_list (clients_in schedule) k todo ++ rest)) number more,
      )

  turn_read : (schedule : Schedule) (m : Moment) (earlier : List Moment) (rest : List (List ℕ)) → IsLegalFor service schedule (events_of (m ∷ earlier)) (m ∷ earlier)
      → packet_count (m ∷ earlier) ≤ 200000 → IsCanonicalTurn schedule m earlier → NoPacketFirst rest → AcceptedAfter service (schedule_through schedule (m ∷ earlier)) (m ∷ earlier) rest
      → AcceptedAfter service (schedule_through schedule earlier) earlier (event_line (length earlier + 1) m.event ∷ (packet_line_list (clients_in schedule) (packet_count earlier + 1) m.sent ++ rest))
  turn_read schedule m earlier rest legal few asked none ends =
      let text : List ℕ = event_line (length earlier + 1) m.event in
      let here : Schedule = schedule_through schedule earlier in
      let next : Position = InTurn (schedule_through schedule (m ∷ earlier)) earlier m.event [] in
      let allowed : IsAllowed (world_after (start_of schedule) earlier) m = legal.allowed.1 in
      let not_full : nat_le 100000 (length earlier) ≡ false = grind (arith, asked.few) in
      let goes : MatchBool (is_some (refusal (world_after (start_of schedule) earlier) m.event) || nat_le 100000 (length earlier)) (Continues next ≡ Rejects law.Event) (Continues next ≡ Continues next) =
      if_false _ (Continues next ≡ Rejects law.Event) (Continues next ≡ Continues next) (neither _ _ (ap is_some allowed.allowed) not_full) refl in
      let event : EventLine here earlier text (Continues next) = inl (m.event, asked.event, goes) in
      let first : AfterTurn here earlier (Some text) (Continues next) =
      if_false _ (Continues next ≡ Rejects law.Packet) _ (ap (λ b. b && nat_le 1 (length earlier)) (event_no_packet (length earlier + 1) m.event))
      (if_true _ (EventLine here earlier text (Continues next)) _ (event_begins (length earlier + 1) m.event) event) in
      let start : packet_count earlier + length {A = Packet} [] + 1 ≡ packet_count earlier + 1 = omega arith in
      let count : packet_count earlier + length {A = Packet} [] + length m.sent ≤ 200000 = omega (arith, few) in (
        next,
        first,
        subst (λ k. AcceptedFrom service next (packet_line_list (clients_in schedule) k m.sent ++ rest)) start
            (packets_read schedule m earlier rest [] m.sent refl count asked.readable.1 asked.written (turn_done schedule m earlier rest legal none ends)),
      )

  -- all turns of a trace
  pub turns_read : (schedule : Schedule) (trace : List Moment) (rest : List (List ℕ)) → IsLegalFor service schedule (events_of trace) trace
      → packet_count trace ≤ 200000 → AllCanonical schedule trace → NoPacketFirst rest → AcceptedAfter service (schedule_through schedule trace) trace rest
      → AcceptedAfter service (schedule_through schedule []) [] (turn_line_list schedule trace ++ rest)
  turns_read schedule [] rest legal few asked none ends = ends
  turns_read schedule (m ∷ earlier) rest legal few asked none ends =
      let text : List ℕ = event_line (length earlier + 1) m.event in
      let packets : List (List ℕ) = packet_line_list (clients_in schedule) (packet_count earlier + 1) m.sent in
      let before : packet_count earlier ≤ 200000 = omega (arith, few) in
      let front : IsLegalFor service schedule (events_of earlier) earlier = record { joint = legal.joint.0; events_are = refl; allowed = legal.allowed.0 } in
      subst (AcceptedAfter service (schedule_through schedule []) []) (sym (append_assoc (turn_line_list schedule earlier) (text ∷ packets) rest))
      (turns_read schedule earlier (text ∷ (packets ++ rest)) front before asked.0 (event_no_packet (length earlier + 1) m.event)
      (turn_read schedule m earlier rest legal few asked.1 none ends))
