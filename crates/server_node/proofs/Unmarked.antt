-- A restart that uses no marks asks and takes what a server without marks does.
use Rattle.std.proofs.Common.{◌≡◌, ◌∙◌, ℕ, Bool, true, false, refl, sym, ap, subst, List, Option, Some, None, IfSome, MatchOption, option_map, if◌then◌else◌}
use Rattle.seq_arith.specs.Message.{Body, Message}
use Rattle.server_trait.specs.Service.{Machine, Served}
use Rattle.server_trait.specs.Saved.{Writing}
use Rattle.ft_model.specs.Restart.{Fetched, Wanted, wanted, question}
use Rattle.mark_laws.specs.MarkedLog.{AnyMessage}
use Rattle.mark_laws.specs.MarkedLog.AnyMessage.{Of_log}
use Rattle.mark_laws.specs.Restart as law
use Rattle.mark_laws.specs.Restart.{awaits_after}
use Rattle.reincarnate.specs.declared.marks.Marks.{Marks}
use Rattle.reincarnate.specs.declared.marks.Marks.TheVariants as marks
use Rattle.reincarnate.specs.Marking.{uses, awaits, marks_after}
use Rattle.reincarnate.specs.Questions.{FetchingState, asked, any_asked, mark_asked, after_answer, noted, any_received}
use Rattle.server_node.specs.FetchStage.{UsesNone, of_log}
use Rattle.server_node.proofs.FetchAnswer.{IsSame, received_same}
use Rattle.reincarnate.specs.Refinement.{StandsFetching, StandsSoFar, AnswerLeads, AnyLeads, fetched_then}

none_awaited : (code : Marks) → UsesNone code → awaits code ≡ false
none_awaited marks.Unused e = refl
none_awaited marks.Used e = absurd e
none_awaited marks.Awaited e = absurd e

still_unused : (code : Marks) (body : Body) → UsesNone code → marks_after code body ≡ code
still_unused marks.Unused body e = refl
still_unused marks.Used body e = absurd e
still_unused marks.Awaited body e = absurd e

abbrev said_in : ℕ → Body → Message
said_in boot body = record { boot = boot; body = body }

-- What is asked is about the log's entries
pub asked_of_log : {S : Type 0} (s : FetchingState S) (q : Option AnyMessage) → UsesNone s.marks → q ≡ any_asked s → of_log q ≡ option_map (said_in s.boot) (asked s)
asked_of_log s q unused e =
    ap of_log (e ∙ (λ j. law.or_else (if none_awaited s.marks unused j then mark_asked s.boot s.newest else None) (option_map (λ body. Of_log (said_in s.boot body)) (asked s)))) ∙ go (asked s)
  where
    go : (o : Option Body) → of_log (option_map (λ body. Of_log (said_in s.boot body)) o) ≡ option_map (said_in s.boot) o
    go None = refl
    go (Some body) = refl

-- What is known after an answer is what a server without marks knows
noted_same : {S : Type 0} (s : FetchingState S) (code : Marks) → code ≡ s.marks → noted code s ≡ s
noted_same s code e = ap (λ m. noted m s) e

pub answer_of_log : {S : Type 0} (started : ℕ → S) (after : S → List ℕ → Served S) (greeting : S → List ℕ) (state_of : ℕ → List ℕ → Option S) (message : Message) (s t : FetchingState S) (fits : Bool) → UsesNone s.marks
    → MatchOption (any_received started after greeting state_of (Of_log message) s) ((fits ≡ false) × (t ≡ s)) (λ x. (fits ≡ true) × (t ≡ x))
    → MatchOption (after_answer started after greeting message s) ((fits ≡ false) × (t ≡ s)) (λ x. (fits ≡ true) × (t ≡ x))
answer_of_log {S} started after greeting state_of message s t fits unused m =
    go (after_answer started after greeting message s) (received_same started after greeting message s)
    (subst (λ a. MatchOption (if a then None else option_map (noted (marks_after s.marks message.body)) (after_answer started after greeting message s)) ((fits ≡ false) × (t ≡ s))
    (λ x. (fits ≡ true) × (t ≡ x))) (none_awaited s.marks unused) m)
  where
    go : (o : Option (FetchingState S)) → IfSome o (IsSame s) → MatchOption (option_map (noted (marks_after s.marks message.body)) o) ((fits ≡ false) × (t ≡ s)) (λ x. (fits ≡ true) × (t ≡ x))
        → MatchOption o ((fits ≡ false) × (t ≡ s)) (λ x. (fits ≡ true) × (t ≡ x))
    go None same m = m
    go (Some x) same m = (m.0, m.1 ∙ noted_same x (marks_after s.marks message.body) (still_unused s.marks message.body unused ∙ sym same.marks))

-- .. and leads where the law Restart says
pub leads_as_unmarked : {S : Type 0} (service : Machine S) (written : Writing S) (message : Message) (s t : FetchingState S) (fits : Bool) (fetched : List Fetched)
    → AnyLeads service written (record { entries = fetched; awaits_mark = false }) (Of_log message) fits s t → AnswerLeads service (fetched_then s.boot s.count message fetched) fits s t
leads_as_unmarked service written message s t fits fetched leads = go (fetched_then s.boot s.count message fetched) leads
  where
    go : (o : Option (List Fetched)) → MatchOption (option_map (λ more. record { entries = more; awaits_mark = awaits_after (uses s.marks) message.body }) o) ((fits ≡ false) × (t ≡ s))
        (λ more. (fits ≡ true) × StandsSoFar service more t)
        → AnswerLeads service o fits s t
    go None l = l
    go (Some more) l = (l.0, l.1.fetched)

-- what stands so far, as the restart with marks has it
pub so_far_unmarked : {S : Type 0} (service : Machine S) (s : FetchingState S) (fetched : List Fetched) → UsesNone s.marks → StandsFetching service fetched s
    → StandsSoFar service (record { entries = fetched; awaits_mark = false }) s
so_far_unmarked service s fetched unused st = record { fetched = st; awaits = none_awaited s.marks unused }

-- the law's question, by what is wanted
pub law_asked : (boot count : ℕ) (fetched : List Fetched) (q : Option AnyMessage) → q ≡ law.next_question boot count (record { entries = fetched; awaits_mark = false })
    → of_log q ≡ option_map (said_in boot) (option_map question (wanted count fetched))
law_asked boot count fetched q e = ap of_log e ∙ go (wanted count fetched)
  where
    go : (o : Option Wanted) → of_log (option_map (λ w. Of_log (record { boot = boot; body = question w })) o) ≡ option_map (said_in boot) (option_map question o)
    go None = refl
    go (Some w) = refl
