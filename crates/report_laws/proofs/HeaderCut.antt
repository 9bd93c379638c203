-- A header's text is cut into its lines.
use Rattle.std.proofs.Common.{◌≡◌, ℕ, ◌+◌, refl, sym, ap, ap₂, ◌∙◌, List, [], ◌∷◌, ◌++◌, codes, length, length-append, append_assoc}
use Rattle.tcp_rules.specs.declared.profile.Profile.{Profile}
use Rattle.tcp_rules.specs.declared.profile.Profile.TheVariants.{Plain, Wan}
use Rattle.ft_model.specs.Report.{header, profile_line, twin_line, marks_line, lasting_line, schedule_line, schedule_lines}
use Rattle.ft_model.specs.declared.line.Draft.{Draft}
use Rattle.ft_model.specs.declared.line.Draft.TheVariants.{Empty, Named, Begun}
use Rattle.ft_model.specs.declared.line.Line.{Line}
use Rattle.ft_model.specs.declared.line.Line.TheVariants as says
use Rattle.ft_model.specs.declared.schedule.ClientLine.{ClientLine}
use Rattle.ft_model.specs.declared.schedule.Schedule.{Schedule}
use Rattle.report_laws.specs.Canonical.{IsCanonical, ClientsAccepted, ProfileAccepted, HeaderAccepted, bare, profiled, canonical_line, client_header_lines, profile_header_lines, header_lines}
use Rattle.report_laws.specs.Lines.{lines_in}
use Rattle.report_laws.proofs.CutLines.{lines_cut}
use Rattle.report_laws.proofs.Fronts.{HasFront, front_of}

canonical_cut : (draft : Draft) (l : Line) (text rest : List ℕ) → IsCanonical draft l text → lines_in (text ++ rest) ≡ text ∷ lines_in rest
canonical_cut draft l text rest c =
    let f : HasFront draft l text = front_of draft l text c in
    ap (λ t. lines_in (t ++ rest)) f.whole ∙ (lines_cut f.front rest f.clean ∙ ap (λ t. t ∷ lines_in rest) (sym f.whole))

clients_cut : (s : Schedule) (clients : List ClientLine) (rest : List ℕ) → ClientsAccepted s clients
    → lines_in (schedule_lines (length s.clients + 1) clients ++ rest) ≡ client_header_lines (length s.clients + 1) clients ++ lines_in rest
clients_cut s [] rest h = refl
clients_cut s (c ∷ more) rest h =
    let n : ℕ = length s.clients + 1 in
    let line : List ℕ = schedule_line n c in
    let number : length (s.clients ++ c ∷ []) + 1 ≡ n + 1 = ap (λ k. k + 1) (length-append s.clients (c ∷ [])) in
    let behind : lines_in (schedule_lines (n + 1) more ++ rest) ≡ client_header_lines (n + 1) more ++ lines_in rest =
    ap (λ k. lines_in (schedule_lines k more ++ rest)) (sym number)
    ∙ (clients_cut (record s { clients = s.clients ++ c ∷ [] }) more rest h.1 ∙ ap (λ k. client_header_lines k more ++ lines_in rest) number) in
    ap lines_in (append_assoc line (schedule_lines (n + 1) more) rest)
    ∙ (canonical_cut (Begun s) (says.Client c) line (schedule_lines (n + 1) more ++ rest) h.0 ∙ ap (λ ls. line ∷ ls) behind)

profile_cut : (schedule : Schedule) (profile : Profile) (rest : List ℕ) → ProfileAccepted (bare schedule) profile
    → lines_in (profile_line profile ++ rest) ≡ profile_header_lines profile ++ lines_in rest
profile_cut schedule Plain rest h = refl
profile_cut schedule Wan rest h = canonical_cut (Begun (bare schedule)) (says.Profile Wan) (profile_line Wan) rest h

first_cut : (rest : List ℕ) → lines_in (codes "ftreplay 1\n" ++ rest) ≡ codes "ftreplay 1\n" ∷ lines_in rest
unfolding lines_in
first_cut rest = refl

pub header_cut : (schedule : Schedule) (rest : List ℕ) → HeaderAccepted schedule → lines_in (header schedule ++ rest) ≡ header_lines schedule ++ lines_in rest
unfolding header
header_cut schedule rest h =
    let name : List ℕ = codes "ftreplay 1\n" in
    let a : List ℕ = canonical_line Empty (says.Service schedule.service) in
    let b : List ℕ = canonical_line (Named schedule.service) (says.Server schedule.server) in
    let p : List ℕ = profile_line schedule.profile in
    let c : List ℕ = schedule_lines 1 schedule.clients in
    let single : name ++ (a ++ (b ++ (p ++ (twin_line schedule.twin ++ (marks_line schedule.marks ++ (lasting_line schedule.lasting ++ c)))))) ≡ name ++ (a ++ (b ++ (p ++ c))) =
    ap₂ (λ t m. name ++ (a ++ (b ++ (p ++ (twin_line t ++ (marks_line m ++ (lasting_line schedule.lasting ++ c))))))) h.one_logger h.unmarked
    ∙ ap (λ l. name ++ (a ++ (b ++ (p ++ (lasting_line l ++ c))))) h.fleeting in
    let apart : (name ++ (a ++ (b ++ (p ++ c)))) ++ rest ≡ name ++ (a ++ (b ++ (p ++ (c ++ rest)))) =
    append_assoc name (a ++ (b ++ (p ++ c))) rest
    ∙ ap (λ t. name ++ t) (append_assoc a (b ++ (p ++ c)) rest ∙ ap (λ t. a ++ t) (append_assoc b (p ++ c) rest ∙ ap (λ t. b ++ t) (append_assoc p c rest))) in
    let clients : List (List ℕ) = client_header_lines 1 schedule.clients in
    ap (λ t. lines_in (t ++ rest)) single
    ∙ (ap lines_in apart
    ∙ (first_cut (a ++ (b ++ (p ++ (c ++ rest))))
    ∙ ap (λ ls. name ∷ ls) (canonical_cut Empty (says.Service schedule.service) a (b ++ (p ++ (c ++ rest))) h.service
    ∙ ap (λ ls. a ∷ ls) (canonical_cut (Named schedule.service) (says.Server schedule.server) b (p ++ (c ++ rest)) h.server
    ∙ ap (λ ls. b ∷ ls) (profile_cut schedule schedule.profile (c ++ rest) h.profile
    ∙ (ap (λ ls. profile_header_lines schedule.profile ++ ls) (clients_cut (profiled schedule) schedule.clients rest h.clients)
    ∙ sym (append_assoc (profile_header_lines schedule.profile) clients (lines_in rest))))))))
