-- The stage of a node that marks: the law of a node that makes no marks says nothing of it, and its restart stays that of its incarnation.
use Rattle.std.proofs.Common.{◌≡◌, ◌∙◌, ◌<◌, ◌^◌, ℕ, Bool, true, false, true≢false, refl, sym, ap, subst, List, [], Option, Some, None, IfSome, option_map, MatchOption, if◌then◌else◌, ◌==◌, ◌&&◌}
use Rattle.ft_model.proofs.Lists.{none_is_some}
use Rattle.seq_arith.specs.Mark.{MarkBody, MarkMessage}
use Rattle.seq_arith.specs.Mark.MarkBody.{MarkMsg, MarkedMsg, AskMsg, HeldMsg}
use Rattle.seq_arith.specs.Message.{Body, Message}
use Rattle.server_trait.specs.Service.{Machine, Served}
use Rattle.ft_model.specs.Node as law
use Rattle.ft_model.specs.Node.Input.{Packet_comes, Message_comes, Noise_comes, Tick_comes}
use Rattle.ft_model.specs.Wire.{Wire}
use Rattle.mark_laws.specs.MarkedLog.{AnyMessage}
use Rattle.mark_laws.specs.MarkedLog.AnyMessage.{About_mark, Of_log}
use Rattle.mark_laws.specs.Restart.{or_else}
use Rattle.reincarnate.specs.Marking.{awaits, marks_after, marked_on}
use Rattle.reincarnate.specs.Progress.{EntryState}
use Rattle.reincarnate.specs.Questions.{FetchingState, asked, any_asked, mark_asked, noted, log_received, after_answer, with_marked, held_received, mark_received, any_received}
use Rattle.node_serving.specs.declared.identity.Identity.{Identity}
use Rattle.server_node.specs.declared.stage.Stage.{Stage}
use Rattle.server_node.specs.declared.stage.Stage.TheVariants as stage
use Rattle.server_node.specs.Apart.{TurnsApart}
use Rattle.server_node.specs.FetchStage.{IsOf}
use Rattle.node_serving.specs.Identity.{node_of, service_of}
use Rattle.server_trait.specs.declared.Service.{Ghosts}
use Rattle.server_node.specs.StageTurns.{StageTurns}
use Rattle.server_node.specs.Restarts.{Restarts}
use Rattle.server_node.specs.Stages.{StageStands, IsSoundStage, NodeGoes, is_marked}
use Rattle.server_node.proofs.Staged.{noise_rests}
use Rattle.server_node.proofs.StagedApart.{rest_apart, noise_knows}
use Rattle.server_node.specs.Marked.{IsBareQuestion}
use Rattle.server_node.proofs.FetchAnswer.{IsSame, received_same}
use Rattle.server_node.proofs.Questions.{question_is_bare}

-- it stands nowhere in the model without marks
pub stands_plain : {S : Type 0} (service : Machine S) (node : law.Node) (at : Stage S) → StageStands service node at → is_marked at ≡ false
stands_plain service node stage.Asking st = refl
stands_plain service node (stage.Fetching f) st = refl
stands_plain service node (stage.Serving s) st = refl
stands_plain service node (stage.Marked m) st = absurd st
stands_plain service node stage.Lost st = refl

restarts_any : {S : Type 0} (service : Machine S) (node : law.Node) (input : law.Input) (was now : Stage S) (sent : List Wire) → is_marked was ≡ true → Restarts service node input was now sent
restarts_any service node (Packet_comes segment) was now sent h = tt
restarts_any service node Noise_comes was now sent h = tt
restarts_any service node Tick_comes was now sent h = tt
restarts_any service node (Message_comes message) stage.Asking now sent h = absurd (true≢false (sym h))
restarts_any service node (Message_comes message) (stage.Fetching f) now sent h = absurd (true≢false (sym h))
restarts_any service node (Message_comes message) (stage.Serving s) now sent h = tt
restarts_any service node (Message_comes message) (stage.Marked m) now sent h = tt
restarts_any service node (Message_comes message) stage.Lost now sent h = tt

pub marked_apart : {S : Type 0} (service : Machine S) (who : Identity) (input : law.Input) (was now : Stage S) (sent : List Wire) → is_marked was ≡ true → TurnsApart service who input was now sent
marked_apart service who input stage.Asking now sent h = absurd (true≢false (sym h))
marked_apart service who input (stage.Fetching f) now sent h = absurd (true≢false (sym h))
marked_apart service who input (stage.Serving s) now sent h = absurd (true≢false (sym h))
marked_apart service who input stage.Lost now sent h = absurd (true≢false (sym h))
marked_apart service who input (stage.Marked m) now sent h = record {
  others = λ standing. tt;
  untouched = λ standing. tt;
  alone = λ standing. tt;
  restarts = λ standing. restarts_any service (node_of who standing) input (stage.Marked m) now sent h;
  known = λ standing. tt;
}

-- what a node without marks doesn't read changes nothing
pub unreceived : {S : Type 0} (service : Machine S) (who : Identity) (standing : law.Stage) (input : law.Input) (was now : Stage S) (sent : List Wire) → input ≡ Noise_comes → now ≡ was → sent ≡ []
    → StageStands service (node_of who standing) was → NodeGoes service (node_of who standing) input who now sent
unreceived service who standing input was now sent noise same silent st =
    subst (λ i. NodeGoes service (node_of who standing) i who now sent) (sym noise)
    (subst (λ n. NodeGoes service (node_of who standing) Noise_comes who n sent) (sym same)
    (subst (NodeGoes service (node_of who standing) Noise_comes who was) (sym silent) (noise_rests service who standing was st)))

pub unreceived_apart : {S : Type 0} (service : Machine S) (who : Identity) (input : law.Input) (was now : Stage S) (sent : List Wire) → input ≡ Noise_comes → now ≡ was → sent ≡ []
    → who.isn < 2 ^ 32 → IsSoundStage who was → TurnsApart service who input was now sent
unreceived_apart service who input was now sent noise same silent low sound =
    subst (λ i. TurnsApart service who i was now sent) (sym noise)
    (subst (λ n. TurnsApart service who Noise_comes was n sent) (sym same)
    (subst (TurnsApart service who Noise_comes was was) (sym silent) (rest_apart service who Noise_comes was low sound (λ standing key. refl) (λ standing. tt) (λ standing. noise_knows (node_of who standing) was))))

-- a question that isn't about marks is the one of a restart without them
abbrev said_in : ℕ → Body → Message
said_in boot body = record { boot = boot; body = body }

abbrev message_in : Option AnyMessage → Option Message
message_in (Some (Of_log message)) = Some message
message_in _ = None

of_log : (boot : ℕ) (m : Message) (o : Option Body) → option_map (λ body. Of_log (said_in boot body)) o ≡ Some (Of_log m) → Some m ≡ option_map (said_in boot) o
of_log boot m None e = absurd (none_is_some (Of_log m) e)
of_log boot m (Some body) e = sym (ap message_in e)

not_about : (m : Message) (o : Option AnyMessage) → message_in o ≡ None → o ≡ Some (Of_log m) → ⊥
not_about m o none e = none_is_some m (sym none ∙ ap message_in e)

by_parts : {S : Type 0} (boot : ℕ) (m : Message) (a : Bool) (newest : Option (EntryState S)) (o : Option Body)
    → or_else (if a then mark_asked boot newest else None) (option_map (λ body. Of_log (said_in boot body)) o) ≡ Some (Of_log m) → Some m ≡ option_map (said_in boot) o
by_parts boot m true (Some x) o e = absurd (not_about m (Some (About_mark (record { boot = boot; body = AskMsg x.head.key }))) refl e)
by_parts boot m true None o e = of_log boot m o e
by_parts boot m false newest o e = of_log boot m o e

pub log_question_is : {S : Type 0} (s : FetchingState S) (m : Message) → any_asked s ≡ Some (Of_log m) → Some m ≡ option_map (said_in s.boot) (asked s)
log_question_is s m e = by_parts s.boot m (awaits s.marks) s.newest (asked s) e

pub question_bare : {S : Type 0} (s : FetchingState S) (m : AnyMessage) → any_asked s ≡ Some m → IsBareQuestion m
question_bare s (Of_log message) e = question_is_bare s message (log_question_is s message e)
question_bare s (About_mark message) e = tt

-- whatever answers it, a restart stays that of its incarnation
pub record IsKept {S : Type 0} (s t : FetchingState S) : Type 0 where
  pub boot : t.boot ≡ s.boot
  pub kind : t.kind ≡ s.kind

noted_kept : {S : Type 0} (started : ℕ → S) (after : S → List ℕ → Served S) (greeting : S → List ℕ) (message : Message) (s : FetchingState S) → IfSome (log_received started after greeting message s) (IsKept s)
noted_kept {S} started after greeting message s = go (awaits s.marks) (after_answer started after greeting message s) (received_same started after greeting message s)
  where
    go : (a : Bool) (o : Option (FetchingState S)) → IfSome o (IsSame s)
        → IfSome (if a then None else option_map (noted (marks_after s.marks message.body)) o) (IsKept s)
    go true o h = tt
    go false None h = tt
    go false (Some x) h = record { boot = h.boot; kind = h.kind }

marked_kept : {S : Type 0} (s : FetchingState S) (o : Option (EntryState S)) → IfSome (option_map (with_marked s) o) (IsKept s)
marked_kept s None = tt
marked_kept s (Some e) = record { boot = refl; kind = refl }

held_kept : {S : Type 0} (started : ℕ → S) (greeting : S → List ℕ) (state_of : ℕ → List ℕ → Option S) (body : MarkBody) (s : FetchingState S) → IfSome (held_received started greeting state_of body s) (IsKept s)
held_kept started greeting state_of (HeldMsg key m) s = marked_kept s (marked_on (started s.kind) (greeting (started s.kind)) (state_of s.kind) key m s.newest)
held_kept started greeting state_of (MarkMsg key m) s = tt
held_kept started greeting state_of (MarkedMsg key reads) s = tt
held_kept started greeting state_of (AskMsg key) s = tt

about_kept : {S : Type 0} (started : ℕ → S) (greeting : S → List ℕ) (state_of : ℕ → List ℕ → Option S) (message : MarkMessage) (s : FetchingState S) → IfSome (mark_received started greeting state_of message s) (IsKept s)
about_kept {S} started greeting state_of message s = go (message.boot == s.boot && awaits s.marks)
  where
    go : (b : Bool) → IfSome (if b then held_received started greeting state_of message.body s else None) (IsKept s)
    go true = held_kept started greeting state_of message.body s
    go false = tt

any_kept : {S : Type 0} (started : ℕ → S) (after : S → List ℕ → Served S) (greeting : S → List ℕ) (state_of : ℕ → List ℕ → Option S) (message : AnyMessage) (s : FetchingState S)
    → IfSome (any_received started after greeting state_of message s) (IsKept s)
any_kept started after greeting state_of (Of_log message) s = noted_kept started after greeting message s
any_kept started after greeting state_of (About_mark message) s = about_kept started greeting state_of message s

pub answer_kept : {S : Type 0} (started : ℕ → S) (after : S → List ℕ → Served S) (greeting : S → List ℕ) (state_of : ℕ → List ℕ → Option S) (message : AnyMessage) (who : Identity) (s t : FetchingState S) (fits : Bool)
    → MatchOption (any_received started after greeting state_of message s) ((fits ≡ false) × (t ≡ s)) (λ x. (fits ≡ true) × (t ≡ x)) → IsOf who s → IsOf who t
answer_kept {S} started after greeting state_of message who s t fits m own = go (any_received started after greeting state_of message s) (any_kept started after greeting state_of message s) m
  where
    kept : (x : FetchingState S) → IsKept s x → t ≡ x → IsOf who t
    kept x k e = subst (IsOf who) (sym e) (record { boot = k.boot ∙ own.boot; kind = k.kind ∙ own.kind })

    go : (o : Option (FetchingState S)) → IfSome o (IsKept s) → MatchOption o ((fits ≡ false) × (t ≡ s)) (λ x. (fits ≡ true) × (t ≡ x)) → IsOf who t
    go None h (unfit, same) = subst (IsOf who) (sym same) own
    go (Some x) h (fit, is) = kept x h is

-- so a turn of a node that marks is one of which the law of a node without marks says nothing
pub marked_turns : {S : Type 0} (s : Ghosts S) (who : Identity) (input : law.Input) (was now : Stage S) (sent : List Wire) → is_marked was ≡ true → StageTurns s who input was now sent
marked_turns s who input was now sent h = λ standing near sound st. absurd (true≢false (sym h ∙ stands_plain (service_of s who) (node_of who standing) was st))
