-- What is needed of the traces of a schedule, with two loggers, with one log or with marks.
use Rattle.std.proofs.Common.{◌≡◌, ℕ, ◌+◌, ◌≤◌, Bool, true, false, Option, None, Some, IsSome, IfSome, List, [], ◌∷◌, ◌++◌, length, ◌∙◌, ap, sym, subst, refl, arith}
use Rattle.std.specs.List.{AllByRecursion, flat_map}
use Rattle.std.proofs.lemmas.List.{length-map}
use Rattle.sample_servers.specs.AnyService.{any_machine}
use Rattle.sample_servers.specs.declared.any_service.AnyService.{AnyService}
use Rattle.server_trait.specs.Service.{CanCut}
use Rattle.tcp_rules.specs.Profile.{grammar_of}
use Rattle.tcp_rules.specs.Profiles.{profile_of}
use Rattle.ft_model.specs.Lawful.{is_fenced}
use Rattle.ft_model.specs.Legal.{start_of, IsLegalFor}
use Rattle.ft_model.specs.Report.{header, client_lines, log_line, end_line}
use Rattle.ft_model.specs.Schedule.{kind_of}
use Rattle.ft_model.specs.World.{World, Moment, Joint, IsStart, events_of}
use Rattle.ft_model.specs.declared.event.Event.{Event}
use Rattle.ft_model.specs.declared.schedule.Schedule.{Schedule}
use Rattle.ft_model.specs.declared.way.Way.{Way}
use Rattle.ft_model.specs.Masked.{Masked}
use Rattle.ft_model.specs.Resets.{ResetsNoLogged}
use Rattle.mark_laws.specs.MarkedLegal.{IsMarkedLegalFor, marked_start}
use Rattle.mark_laws.specs.MarkedWorld.{MarkedMoment, MarkedWorld, MarkedJoint, marked_after, plain_trace, usual}
use Rattle.mark_laws.specs.TrueMarks.{MarksAreTrue}
use Rattle.replay_check.specs.Safe.{IsSafe}
use Rattle.twin_laws.specs.Flat.{flat}
use Rattle.twin_laws.specs.TwinLegal.{twin_start, IsTwinLegalFor}
use Rattle.twin_laws.specs.TwinWorld.{TwinMoment}
use Rattle.schedule_network.specs.AtNumber.{at_number}
use Rattle.net_schedule.specs.SentPackets.{run_grammar, KeepsAllSent, KeepsAllParcels, KeepsAllMarked}
use Rattle.net_schedule.specs.Refinement.{Kept}
use Rattle.net_schedule.specs.MarkedStep.{MarkedStandsAfter, MarkedSteps, MarkedEndsStep}
use Rattle.net_schedule.specs.Step.{StandsAfter, Steps, EndsStep}
use Rattle.net_schedule.specs.TwinStep.{TwinStandsAfter, TwinSteps, TwinEndsStep}
use Rattle.schedule_network.specs.declared.end.StepEnd.{StepEnd}
use Rattle.schedule_network.specs.declared.end.StepEnd.TheVariants.{NoMemory, BadEvent, PacketLimit}
use Rattle.schedule_network.specs.declared.step_out.StepOut.{StepOut}
use Rattle.schedule_text.specs.Bytes.{content_by}
use Rattle.replay_run.specs.PacketLines.{stored_lines}
use Rattle.replay_run.specs.TraceEnd.{IsTraceEnd, IsStanding, PlaysOne, StopsAt}
use Rattle.replay_run.specs.Traces.{any_marker, traces_of, traces}
use Rattle.replay_run.proofs.Marked as marked
use Rattle.replay_run.proofs.OneLog as one
use Rattle.replay_run.proofs.TwoLoggers as two

-- what holds of every legal trace
abbrev pub AreSafe : Type 0
AreSafe = (schedule : Schedule) (events : List Event) (trace : List (traces schedule).Turn) → (traces schedule).IsLegal schedule events trace → (traces schedule).IsSafe schedule trace

pub as_many : (twin : Bool) (marks : Option ℕ) (schedule : Schedule) (events : List Event) (trace : List (traces_of twin marks).Turn) → (traces_of twin marks).IsLegal schedule events trace
    → length events ≡ length trace
as_many true marks schedule events trace l = two.as_many schedule events trace l
as_many false None schedule events trace l = one.as_many schedule events trace l
as_many false (Some every) schedule events trace l = marked.as_many every schedule events trace l

pub legal_of : (twin : Bool) (marks : Option ℕ) (schedule : Schedule) (events : List Event) (trace : List (traces_of twin marks).Turn) (w : Kept AnyService) → IsTraceEnd twin marks schedule events trace w
    → (traces_of twin marks).IsLegal schedule events trace
legal_of true marks schedule events trace w s = s.legal
legal_of false None schedule events trace w s = s.legal
legal_of false (Some every) schedule events trace w s = s.legal

-- the world has the schedule's profile
profile_is : (twin : Bool) (marks : Option ℕ) (schedule : Schedule) (events : List Event) (trace : List (traces_of twin marks).Turn) (w : Kept AnyService) → IsTraceEnd twin marks schedule events trace w
    → w.profile ≡ schedule.profile
profile_is true marks schedule events trace w s = s.profile
profile_is false None schedule events trace w s = s.profile
profile_is false (Some every) schedule events trace w s = s.profile

-- before the first event
pub no_lines : (twin : Bool) (marks : Option ℕ) (schedule : Schedule) → (traces_of twin marks).lines schedule [] ≡ []
no_lines true marks schedule = refl
no_lines false None schedule = refl
no_lines false (Some every) schedule = refl

pub none_sent : (twin : Bool) (marks : Option ℕ) (schedule : Schedule) → (traces_of twin marks).sent schedule [] ≤ 200000
none_sent true marks schedule = omega arith
none_sent false None schedule = omega arith
none_sent false (Some every) schedule = omega arith

pub none_legal : (twin : Bool) (marks : Option ℕ) (schedule : Schedule) → IsStart (start_of schedule) → (traces_of twin marks).IsLegal schedule [] []
none_legal true marks schedule start = record { joint = record { start = start; pair = refl; parcels = refl }; events_are = refl; allowed = tt }
none_legal false None schedule start = record { joint = start; events_are = refl; allowed = tt }
none_legal false (Some every) schedule start = record { joint = record { start = start; log = refl; parcels = refl; node = refl }; events_are = refl; allowed = tt }

pub stands_first : (twin : Bool) (marks : Option ℕ) (schedule : Schedule) (w : Kept AnyService) → (twin ≡ false → marks ≡ None → StandsAfter any_machine schedule [] [] w)
    → (twin ≡ true → TwinStandsAfter any_machine schedule [] [] w) → ((every : ℕ) → twin ≡ false → marks ≡ Some every → MarkedStandsAfter (any_marker every) schedule [] [] w)
    → IsTraceEnd twin marks schedule [] [] w
stands_first true marks schedule w f g h = g refl
stands_first false None schedule w f g h = f refl refl
stands_first false (Some every) schedule w f g h = h every refl refl

-- there are as many clients as keys
as_many_keys : (twin : Bool) (marks : Option ℕ) (schedule : Schedule) (events : List Event) (trace : List (traces_of twin marks).Turn) (w : Kept AnyService) → IsTraceEnd twin marks schedule events trace w
    → length w.keys ≡ length w.clients
as_many_keys true marks schedule events trace w s = ap length s.stands.actors.keys ∙ length-map _ (λ c. c.key) ∙ ap length (sym s.stands.actors.clients)
as_many_keys false None schedule events trace w s = ap length s.stands.keys ∙ length-map _ (λ c. c.key) ∙ ap length (sym s.stands.clients)
as_many_keys false (Some every) schedule events trace w s = ap length s.stands.actors.keys ∙ length-map _ (λ c. c.key) ∙ ap length (sym s.stands.actors.clients)

pub few_clients : (w : Kept AnyService) → IsStanding w → length w.keys ≤ 16 → length w.clients ≤ 16
few_clients w i few = subst (λ n. n ≤ 16) (as_many_keys i.schedule.twin i.schedule.marks i.schedule i.events i.trace w i.stands) few

-- the end of a report
pub closes : (twin : Bool) (marks : Option ℕ) (schedule : Schedule) (events : List Event) (trace : List (traces_of twin marks).Turn) (w : Kept AnyService) → IsTraceEnd twin marks schedule events trace w
    → (traces_of twin marks).report schedule trace ≡ header schedule ++ ((traces_of twin marks).lines schedule trace
    ++ (client_lines 1 w.clients ++ (flat_map log_line w.log.entries ++ end_line (length trace))))
closes true marks schedule events trace w s = two.closes schedule events trace w s
closes false None schedule events trace w s = one.closes schedule events trace w s
closes false (Some every) schedule events trace w s = marked.closes every schedule events trace w s

-- what is stored is what was sent
abbrev pub KeepsSent : Type 0
KeepsSent = (schedule : Schedule) (events : List Event) (trace : List Moment) (w : Kept AnyService) → StandsAfter any_machine schedule events trace w → KeepsAllSent schedule trace w.packets

abbrev pub KeepsParcels : Type 0
KeepsParcels = (schedule : Schedule) (events : List Event) (trace : List TwinMoment) (w : Kept AnyService) → TwinStandsAfter any_machine schedule events trace w → KeepsAllParcels schedule trace w.packets

abbrev pub KeepsMarked : Type 0
KeepsMarked =
    (every : ℕ) (schedule : Schedule) (events : List Event) (trace : List MarkedMoment) (w : Kept AnyService) → MarkedStandsAfter (any_marker every) schedule events trace w → KeepsAllMarked schedule trace w.packets

-- .. in each of the worlds
pub record KeepsAll : Type 0 where
  pub one : KeepsSent
  pub two : KeepsParcels
  pub marked : KeepsMarked

-- what a step does in each of the worlds
pub record StepsAll (event : Event) (answer : StepOut) (w w' : Kept AnyService) : Type 0 where
  pub one : (schedule : Schedule) (events : List Event) (trace : List Moment) → StandsAfter any_machine schedule events trace w → Steps any_machine schedule events trace event answer w'
  pub two : (schedule : Schedule) (events : List Event) (trace : List TwinMoment) → TwinStandsAfter any_machine schedule events trace w → TwinSteps any_machine schedule events trace event answer w'
  pub marked : (every : ℕ) (schedule : Schedule) (events : List Event) (trace : List MarkedMoment) → MarkedStandsAfter (any_marker every) schedule events trace w
      → MarkedSteps (any_marker every) schedule events trace event answer w'

pub record EndsAll (event : Event) (w w' : Kept AnyService) (end : StepEnd) : Type 0 where
  pub one : (schedule : Schedule) (events : List Event) (trace : List Moment) → StandsAfter any_machine schedule events trace w → EndsStep any_machine schedule events trace event w' end
  pub two : (schedule : Schedule) (events : List Event) (trace : List TwinMoment) → TwinStandsAfter any_machine schedule events trace w → TwinEndsStep any_machine schedule events trace event w' end
  pub marked : (every : ℕ) (schedule : Schedule) (events : List Event) (trace : List MarkedMoment) → MarkedStandsAfter (any_marker every) schedule events trace w
      → MarkedEndsStep (any_marker every) schedule events trace event w' end

-- a step of the code's world plays one event more
pub plays_one : KeepsAll → (event : Event) (answer : StepOut) (w w' : Kept AnyService) → StepsAll event answer w w'
    → (twin : Bool) (marks : Option ℕ) (schedule : Schedule) (events : List Event) (trace : List (traces_of twin marks).Turn) → IsTraceEnd twin marks schedule events trace w
    → PlaysOne twin marks schedule events trace event answer w'
plays_one keeps event answer w w' does true marks schedule events trace s =
    let d : TwinSteps any_machine schedule events trace event answer w' = does.two schedule events trace s in
    record {
      moment = d.extends.moment;
      stands = d.extends.stands;
      within = d.within;
      lines = two.turn_lines schedule events event d.extends.moment trace _ answer.first s.legal d.extends.stands.legal d.first
          (ap (λ p. stored_lines (grammar_of (profile_of p)) w'.packets answer.first answer.count) d.extends.stands.profile
          ∙ two.stored_in_turn schedule trace d.extends.moment w'.packets answer.first answer.count
          (keeps.two schedule (events ++ event ∷ []) (d.extends.moment ∷ trace) w' d.extends.stands) d.extends.grew d.first d.count);
    }
plays_one keeps event answer w w' does false None schedule events trace s =
    let d : Steps any_machine schedule events trace event answer w' = does.one schedule events trace s in
    record {
      moment = d.extends.moment;
      stands = d.extends.stands;
      within = d.within;
      lines = one.turn_lines schedule events event d.extends.moment trace _ answer.first s.legal d.extends.stands.legal d.first
          (ap (λ p. stored_lines (grammar_of (profile_of p)) w'.packets answer.first answer.count) d.extends.stands.profile
          ∙ one.stored_in_turn schedule trace d.extends.moment w'.packets answer.first answer.count
          (keeps.one schedule (events ++ event ∷ []) (d.extends.moment ∷ trace) w' d.extends.stands) d.extends.grew d.first d.count);
    }
plays_one keeps event answer w w' does false (Some every) schedule events trace s =
    let d : MarkedSteps (any_marker every) schedule events trace event answer w' = does.marked every schedule events trace s in
    record {
      moment = d.extends.moment;
      stands = d.extends.stands;
      within = d.within;
      lines = marked.turn_lines every schedule events event d.extends.moment trace _ answer.first s.legal d.extends.stands.legal d.first
          (ap (λ p. stored_lines (grammar_of (profile_of p)) w'.packets answer.first answer.count) d.extends.stands.profile
          ∙ marked.stored_in_turn schedule trace d.extends.moment w'.packets answer.first answer.count
          (keeps.marked every schedule (events ++ event ∷ []) (d.extends.moment ∷ trace) w' d.extends.stands) d.extends.grew d.first d.count);
    }

-- .. or ends there
stops_one : (schedule : Schedule) (events : List Event) (trace : List Moment) (event : Event) (w' : Kept AnyService) (end : StepEnd)
    → EndsStep any_machine schedule events trace event w' end → StopsAt false None schedule events trace event end
stops_one schedule events trace event w' NoMemory e = tt
stops_one schedule events trace event w' (BadEvent why) e = e
stops_one schedule events trace event w' PacketLimit e = record { moment = e.0.moment; legal = e.0.stands.legal; over = e.1 }

stops_two : (marks : Option ℕ) (schedule : Schedule) (events : List Event) (trace : List TwinMoment) (event : Event) (w' : Kept AnyService) (end : StepEnd)
    → TwinEndsStep any_machine schedule events trace event w' end → StopsAt true marks schedule events trace event end
stops_two marks schedule events trace event w' NoMemory e = tt
stops_two marks schedule events trace event w' (BadEvent why) e = e
stops_two marks schedule events trace event w' PacketLimit e = record { moment = e.0.moment; legal = e.0.stands.legal; over = e.1 }

stops_marked : (every : ℕ) (schedule : Schedule) (events : List Event) (trace : List MarkedMoment) (event : Event) (w' : Kept AnyService) (end : StepEnd)
    → MarkedEndsStep (any_marker every) schedule events trace event w' end → StopsAt false (Some every) schedule events trace event end
stops_marked every schedule events trace event w' NoMemory e = tt
stops_marked every schedule events trace event w' (BadEvent why) e = e
stops_marked every schedule events trace event w' PacketLimit e = record { moment = e.0.moment; legal = e.0.stands.legal; over = e.1 }

pub stops_at : (event : Event) (w w' : Kept AnyService) (end : StepEnd) → EndsAll event w w' end
    → (twin : Bool) (marks : Option ℕ) (schedule : Schedule) (events : List Event) (trace : List (traces_of twin marks).Turn) → IsTraceEnd twin marks schedule events trace w
    → StopsAt twin marks schedule events trace event end
stops_at event w w' end ends true marks schedule events trace s = stops_two marks schedule events trace event w' end (ends.two schedule events trace s)
stops_at event w w' end ends false None schedule events trace s = stops_one schedule events trace event w' end (ends.one schedule events trace s)
stops_at event w w' end ends false (Some every) schedule events trace s = stops_marked every schedule events trace event w' end (ends.marked every schedule events trace s)

-- what is stored can be read
can_be_read : KeepsAll → (n : ℕ) (way : Way) (bytes : List ℕ) (twin : Bool) (marks : Option ℕ) (schedule : Schedule) (events : List Event) (trace : List (traces_of twin marks).Turn) (w : Kept AnyService)
    → IsTraceEnd twin marks schedule events trace w → at_number w.packets.ways n ≡ Some way → at_number w.packets.bytes n ≡ Some bytes → IsSome (content_by (run_grammar schedule) way bytes)
can_be_read keeps n way bytes true marks schedule events trace w s e f = two.can_be_read schedule trace w.packets n way bytes (keeps.two schedule events trace w s) e f
can_be_read keeps n way bytes false None schedule events trace w s e f = one.can_be_read schedule trace w.packets n way bytes (keeps.one schedule events trace w s) e f
can_be_read keeps n way bytes false (Some every) schedule events trace w s e f = marked.can_be_read schedule trace w.packets n way bytes (keeps.marked every schedule events trace w s) e f

pub can_be_written : KeepsAll → (w : Kept AnyService) (n : ℕ) (way : Way) (bytes : List ℕ) → IsStanding w → at_number w.packets.ways n ≡ Some way
    → at_number w.packets.bytes n ≡ Some bytes → IsSome (content_by (grammar_of (profile_of w.profile)) way bytes)
can_be_written keeps w n way bytes i e f =
    subst (λ p. IsSome (content_by (grammar_of (profile_of p)) way bytes)) (sym (profile_is i.schedule.twin i.schedule.marks i.schedule i.events i.trace w i.stands))
    (can_be_read keeps n way bytes i.schedule.twin i.schedule.marks i.schedule i.events i.trace w i.stands e f)

-- what is proved of a trace with marks
pub record MarkedLaws : Type 0 where
  pub masked : (every : ℕ) (schedule : Schedule) (events : List Event) (trace : List MarkedMoment) → IsMarkedLegalFor (any_marker every) schedule events trace
      → Masked (any_machine (kind_of schedule.service)) (start_of schedule) (plain_trace trace)
  pub resets : (kind every : ℕ) (start : MarkedWorld) (trace : List MarkedMoment) → MarkedJoint (any_marker every kind) start trace
      → AllByRecursion (ResetsNoLogged (marked_after start trace).log.log) (usual (marked_after start trace).parcels)
  pub fenced : (kind every : ℕ) (start : MarkedWorld) (trace : List MarkedMoment) → MarkedJoint (any_marker every kind) start trace
      → IfSome (marked_after start trace).node (λ node. is_fenced node.plain.stage ≡ false)
  pub cut : (kind every : ℕ) (start : MarkedWorld) (trace : List MarkedMoment) → MarkedJoint (any_marker every kind) start trace
      → AllByRecursion (λ e. CanCut e.bytes e.lengths) (marked_after start trace).log.log.entries
  pub are_true : (kind every : ℕ) (start : MarkedWorld) (trace : List MarkedMoment) → MarkedJoint (any_marker every kind) start trace
      → MarksAreTrue (any_marker every kind) (marked_after start trace)

-- what is proved of a legal trace
pub safe_in : ((kind : ℕ) (start : World) (trace : List Moment) → Joint (any_machine kind) start trace → IsSafe (any_machine kind) start trace)
    → ((schedule : Schedule) (events : List Event) (trace : List TwinMoment) → IsTwinLegalFor any_machine schedule events trace
    → IsLegalFor any_machine schedule (events_of (flat (twin_start schedule) trace).trace) (flat (twin_start schedule) trace).trace)
    → MarkedLaws
    → (twin : Bool) (marks : Option ℕ) (schedule : Schedule) (events : List Event) (trace : List (traces_of twin marks).Turn) → (traces_of twin marks).IsLegal schedule events trace
    → (traces_of twin marks).IsSafe schedule trace
safe_in safe made laws true marks schedule events trace l =
    let m : IsLegalFor any_machine schedule (events_of (flat (twin_start schedule) trace).trace) (flat (twin_start schedule) trace).trace = made schedule events trace l in
    record { legal = m; safe = safe (kind_of schedule.service) (start_of schedule) (flat (twin_start schedule) trace).trace m.joint }
safe_in safe made laws false None schedule events trace l = safe (kind_of schedule.service) (start_of schedule) trace l.joint
safe_in safe made laws false (Some every) schedule events trace l =
    let kind = kind_of schedule.service in
    record {
      masked = laws.masked every schedule events trace l;
      resets = laws.resets kind every (marked_start schedule) trace l.joint;
      fenced = laws.fenced kind every (marked_start schedule) trace l.joint;
      cut = laws.cut kind every (marked_start schedule) trace l.joint;
      marks = laws.are_true kind every (marked_start schedule) trace l.joint;
    }

-- a schedule's events end in one way
pub one_end : (A B : (twin : Bool) → (marks : Option ℕ) → Schedule → Type 0) → ((schedule : Schedule) → A false None schedule → B false None schedule → ⊥)
    → ((marks : Option ℕ) (schedule : Schedule) → A true marks schedule → B true marks schedule → ⊥) → ((every : ℕ) (schedule : Schedule) → A false (Some every) schedule → B false (Some every) schedule → ⊥)
    → (twin : Bool) (marks : Option ℕ) (schedule : Schedule) → A twin marks schedule → B twin marks schedule → ⊥
one_end A B one two marked true marks schedule a b = two marks schedule a b
one_end A B one two marked false None schedule a b = one schedule a b
one_end A B one two marked false (Some every) schedule a b = marked every schedule a b
