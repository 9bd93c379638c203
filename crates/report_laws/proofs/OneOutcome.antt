-- At a position, a line has one outcome: what a line spells is unique, and from a world each turn has one legal result.
use Rattle.std.proofs.Common.{◌≡◌, ℕ, ◌<◌, ◌+◌, ◌^◌, Bool, true, false, ◌&&◌, ◌||◌, nat_le, MatchBool, is_some, inl, inr, sym, ap, ◌∙◌, subst, arith, Option, Some, None, Result, Ok, Err, List, [], ◌∷◌, ◌++◌, codes, decimal, length}
use Rattle.std.proofs.lemmas.List.{append_cancel_left}
use Rattle.std.specs.Str.{bytes_eq}
use Rattle.server_trait.specs.Service.{Machine}
use Rattle.ft_model.specs.Grammar.{with_line}
use Rattle.ft_model.specs.Legal.{IsLegalFor, start_of, refusal}
use Rattle.ft_model.specs.Network.{Packet}
use Rattle.ft_model.specs.Report.{closing_lines, packet_count}
use Rattle.ft_model.specs.Schedule.{clients_of}
use Rattle.ft_model.specs.World.{World, Moment, world_after}
use Rattle.ft_model.specs.declared.event.Event.{Event}
use Rattle.ft_model.specs.declared.line.Draft.{Draft}
use Rattle.ft_model.specs.declared.line.Draft.TheVariants.{Empty, Named, Begun}
use Rattle.ft_model.specs.declared.line.Line.{Line}
use Rattle.ft_model.specs.declared.line.Line.TheVariants as says
use Rattle.ft_model.specs.declared.schedule.LineWhy.{LineWhy}
use Rattle.ft_model.specs.declared.schedule.Schedule.{Schedule}
use Rattle.ft_model.specs.declared.schedule.ServiceKind.{ServiceKind}
use Rattle.ft_io.specs.declared.Addr.{Addr}
use Rattle.ft_model.proofs.OneTrace.{legal_once}
use Rattle.ft_model.proofs.ReportPackets.{packet_same}
use Rattle.report_laws.specs.declared.Law.TheVariants as law
use Rattle.report_laws.specs.Lines.{lines_in}
use Rattle.report_laws.specs.Transitions.{Position, Step, IfExists, IsEventLine, IsPacketLine, begins_with, ClosingLine, EventLine, AfterTurn, SaysMore, HeaderLine, is_header_line, pieces, LineGives, actor}
use Rattle.report_laws.specs.Canonical.{IsCanonical}
use Rattle.report_laws.specs.Transitions.Position.{AtStart, InHeader, InTurn, InClosing}
use Rattle.report_laws.specs.Transitions.Step.{Continues, Rejects, Accepts}

-- a choice by existence has one outcome, if at most one thing has the property
if_once : {A : Type 0} (Is Goes Comes : A → Type 0) (o p P : Type 0) → ((x y : A) → Is x → Is y → x ≡ y) → ((x : A) → Is x → Goes x → Comes x → P) → (o → p → P)
    → IfExists Is Goes o → IfExists Is Comes p → P
if_once Is Goes Comes o p P once both neither (inl (x, i, g)) (inl (y, j, h)) = both x i g (subst Comes (once y x j i) h)
if_once Is Goes Comes o p P once both neither (inl (x, i, g)) (inr (none, h)) = absurd (none x i)
if_once Is Goes Comes o p P once both neither (inr (none, g)) (inl (y, j, h)) = absurd (none y j)
if_once Is Goes Comes o p P once both neither (inr (none, g)) (inr (never, h)) = neither g h

-- so has a choice by a test
by_test : (b : Bool) (Yes No : Step → Type 0) → ((a c : Step) → Yes a → Yes c → a ≡ c) → ((a c : Step) → No a → No c → a ≡ c) → (a c : Step)
    → MatchBool b (Yes a) (No a) → MatchBool b (Yes c) (No c) → a ≡ c
by_test true Yes No one other a c p q = one a c p q
by_test false Yes No one other a c p q = other a c p q

abbrev Is : Step → Step → Type 0
Is step s = s ≡ step

alike : (c a b : Step) → a ≡ c → b ≡ c → a ≡ b
alike c a b p q = p ∙ sym q

-- what an accepted line says
abbrev line_in : Result Line LineWhy → Line → Line
line_in (Ok l) other = l
line_in (Err why) other = other

plain_once : (draft : Draft) (text : List ℕ) (l m : Line) → IsCanonical draft l text → IsCanonical draft m text → l ≡ m
plain_once draft text l m p q = ap (λ r. line_in r l) (sym p.accepted ∙ q.accepted)

abbrev event_in : Line → Event → Event
event_in (says.Event e) other = e
event_in _ other = other

event_once : (schedule : Schedule) (n : ℕ) (text : List ℕ) (e f : Event) → IsEventLine schedule n e text → IsEventLine schedule n f text → e ≡ f
event_once schedule n text e f p q =
    let behind : decimal n ++ 32 ∷ p.asked ≡ decimal n ++ 32 ∷ q.asked = append_cancel_left (codes "event ") _ _ (sym p.spelled ∙ q.spelled) in
    let spaced : 32 ∷ p.asked ≡ 32 ∷ q.asked = append_cancel_left (decimal n) _ _ behind in
    let same : p.asked ≡ q.asked = append_cancel_left (32 ∷ []) _ _ spaced in
    ap (λ l. event_in l e) (plain_once (Begun schedule) q.asked (says.Event e) (says.Event f) (subst (IsCanonical (Begun schedule) (says.Event e)) same p.canonical) q.canonical)

abbrev text_in : Option (List ℕ) → List ℕ
text_in (Some text) = text
text_in None = []

abbrev IsNext : Schedule → ℕ → Option (List ℕ) → Packet → Type 0
IsNext schedule n text packet = (line : List ℕ) × (text ≡ Some line) × IsPacketLine schedule n packet line

packet_once : (schedule : Schedule) (n : ℕ) (text : Option (List ℕ)) (a b : Packet) → IsNext schedule n text a → IsNext schedule n text b → a ≡ b
packet_once schedule n text a b p q =
    let line : p.0 ≡ q.0 = ap text_in (sym p.1 ∙ q.1) in
    let fits : n < 2 ^ 64 = omega (arith, p.2.number) in
    (packet_same schedule.server (clients_of schedule.server schedule.clients) n n a b fits fits p.2.readable q.2.readable (sym p.2.spelled ∙ (line ∙ q.2.spelled))).1

abbrev newest : List Moment → World → World
newest [] other = other
newest (m ∷ earlier) other = m.world

world_once : {State : Type 0} (service : ℕ → Machine State) (schedule : Schedule) (trace : List Moment) (event : Event) (sent : List Packet) (w x : World)
    → IsLegalFor service schedule schedule.events (record { event = event; sent = sent; world = w } ∷ trace)
    → IsLegalFor service schedule schedule.events (record { event = event; sent = sent; world = x } ∷ trace) → w ≡ x
world_once service schedule trace event sent w x p q = ap (λ t. newest t w) (legal_once service schedule schedule.events _ _ p q)

due_once : (due : List (List ℕ)) (text : Option (List ℕ)) (a b : Step) → ClosingLine due text a → ClosingLine due text b → a ≡ b
due_once [] None a b p q = alike Accepts a b p q
due_once [] (Some text) a b p q = alike (Rejects law.End) a b p q
due_once (line ∷ more) None a b p q = alike (Rejects law.End) a b p q
due_once (line ∷ more) (Some text) a b p q =
    by_test (bytes_eq text line) (Is (Continues (InClosing more))) (Is (Rejects law.End)) (alike (Continues (InClosing more))) (alike (Rejects law.End)) a b p q

abbrev going : Schedule → List Moment → Event → Step
going schedule trace event = Continues (InTurn (record schedule { events = schedule.events ++ event ∷ [] }) trace event [])

event_step_once : (schedule : Schedule) (trace : List Moment) (text : List ℕ) (a b : Step) → EventLine schedule trace text a → EventLine schedule trace text b → a ≡ b
event_step_once schedule trace text a b p q =
    if_once (λ event. IsEventLine schedule (length trace + 1) event text) _ _ (a ≡ Rejects law.Text) (b ≡ Rejects law.Text) (a ≡ b) (event_once schedule (length trace + 1) text)
    (λ event i g h. by_test (is_some (refusal (world_after (start_of schedule) trace) event) || nat_le 100000 (length trace)) (Is (Rejects law.Event)) (Is (going schedule trace event))
    (alike (Rejects law.Event)) (alike (going schedule trace event)) a b g h) (alike (Rejects law.Text) a b) p q

abbrev closing : Schedule → List Moment → List (List ℕ)
closing schedule trace = lines_in (closing_lines (world_after (start_of schedule) trace) (length trace))

behind_once : (schedule : Schedule) (trace : List Moment) (text : Option (List ℕ)) (a b : Step) → AfterTurn schedule trace text a → AfterTurn schedule trace text b → a ≡ b
behind_once schedule trace None a b p q = due_once (closing schedule trace) None a b p q
behind_once schedule trace (Some text) a b p q =
    by_test (begins_with (codes "packet ") text && nat_le 1 (length trace)) (Is (Rejects law.Packet))
    (λ s. MatchBool (begins_with (codes "event ") text) (EventLine schedule trace text s) (ClosingLine (closing schedule trace) (Some text) s)) (alike (Rejects law.Packet))
    (λ c d g h. by_test (begins_with (codes "event ") text) (EventLine schedule trace text) (ClosingLine (closing schedule trace) (Some text)) (event_step_once schedule trace text)
    (due_once (closing schedule trace) (Some text)) c d g h) a b p q

abbrev kind_in : Line → ServiceKind → ServiceKind
kind_in (says.Service kind) other = kind
kind_in _ other = other

abbrev server_in : Line → Addr → Addr
server_in (says.Server at) other = at
server_in _ other = other

header_once : (draft : Draft) (text : List ℕ) (a b : Step) → HeaderLine draft text a → HeaderLine draft text b → a ≡ b
header_once Empty text a b p q =
    if_once (λ kind. IsCanonical Empty (says.Service kind) text) _ _ (a ≡ Rejects law.Text) (b ≡ Rejects law.Text) (a ≡ b)
    (λ x y i j. ap (λ l. kind_in l x) (plain_once Empty text (says.Service x) (says.Service y) i j)) (λ kind i. alike (Continues (InHeader (Named kind))) a b) (alike (Rejects law.Text) a b) p q
header_once (Named kind) text a b p q =
    if_once (λ at. IsCanonical (Named kind) (says.Server at) text) _ _ (a ≡ Rejects law.Text) (b ≡ Rejects law.Text) (a ≡ b)
    (λ x y i j. ap (λ l. server_in l x) (plain_once (Named kind) text (says.Server x) (says.Server y) i j))
    (λ at i. alike (Continues (InHeader (with_line (Named kind) (says.Server at)))) a b) (alike (Rejects law.Text) a b) p q
header_once (Begun schedule) text a b p q =
    if_once (λ l. SaysMore l × IsCanonical (Begun schedule) l text) _ _ (a ≡ Rejects law.Text) (b ≡ Rejects law.Text) (a ≡ b)
    (λ x y i j. plain_once (Begun schedule) text x y i.1 j.1) (λ l i. alike (Continues (InHeader (with_line (Begun schedule) l))) a b) (alike (Rejects law.Text) a b) p q

pub step_once : {State : Type 0} (service : ℕ → Machine State) (position : Position) (text : Option (List ℕ)) (a b : Step)
    → LineGives service position text a → LineGives service position text b → a ≡ b
step_once service AtStart None a b p q = alike (Rejects law.End) a b p q
step_once service AtStart (Some text) a b p q =
    by_test (bytes_eq text (codes "ftreplay 1\n")) (Is (Continues (InHeader Empty))) (Is (Rejects law.Text)) (alike (Continues (InHeader Empty))) (alike (Rejects law.Text)) a b p q
step_once service (InHeader Empty) None a b p q = alike (Rejects law.End) a b p q
step_once service (InHeader Empty) (Some text) a b p q = header_once Empty text a b p q
step_once service (InHeader (Named kind)) None a b p q = alike (Rejects law.End) a b p q
step_once service (InHeader (Named kind)) (Some text) a b p q = header_once (Named kind) text a b p q
step_once service (InHeader (Begun schedule)) None a b p q = behind_once schedule [] None a b p q
step_once service (InHeader (Begun schedule)) (Some text) a b p q =
    by_test (is_header_line schedule (pieces text)) (HeaderLine (Begun schedule) text) (AfterTurn schedule [] (Some text)) (header_once (Begun schedule) text)
    (behind_once schedule [] (Some text)) a b p q
step_once service (InTurn schedule trace event sent) text a b p q =
    if_once (IsNext schedule (packet_count trace + length sent + 1) text) _ _ _ _ (a ≡ b) (packet_once schedule (packet_count trace + length sent + 1) text)
    (λ packet i. alike (Continues (InTurn schedule trace event (sent ++ packet ∷ []))) a b)
    (λ g h. if_once (λ w. IsLegalFor service schedule schedule.events (record { event = event; sent = sent; world = w } ∷ trace)) _ _ _ _ (a ≡ b)
    (world_once service schedule trace event sent) (λ w i. behind_once schedule (record { event = event; sent = sent; world = w } ∷ trace) text a b)
    (alike (Rejects (actor (world_after (start_of schedule) trace) event)) a b) g h) p q
step_once service (InClosing due) text a b p q = due_once due text a b p q
