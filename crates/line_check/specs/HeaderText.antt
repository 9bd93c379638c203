-- A report's header up to one of its lines. A text is one if the grammar reads a schedule in it, and the header of that schedule is this text.
use Rattle.std.specs.Prelude.{◌≡◌, ℕ, Bool, ◌-◌, ◌&&◌, not, is_none, Option, Some, None, Result, Ok, Err, codes, List, [], ◌∷◌, ◌++◌, length, take}
use Rattle.std.specs.Prelude.{drop, if◌then◌else◌}
use Rattle.std.specs.Str.{bytes_eq}
use Rattle.ft_model.specs.Grammar.{Refusal, read_text}
use Rattle.ft_model.specs.Report.{header}
use Rattle.ft_model.specs.declared.line.Draft.{Draft}
use Rattle.ft_model.specs.declared.line.Draft.TheVariants.{Empty, Named, Begun}
use Rattle.ft_model.specs.declared.schedule.Schedule.{Schedule}
use Rattle.ft_model.specs.declared.schedule.ServiceKind.{ServiceKind}
use Rattle.ft_model.specs.declared.schedule.ServiceKind.TheVariants.{Echo, Line, Transfer, Meter}
use Rattle.report_laws.specs.Canonical.{HeaderAccepted, schedule_bytes}

-- lines of a header, at least the service's, each accepted after those before it
abbrev pub IsHeaderSoFar : Draft → Type 0
IsHeaderSoFar Empty = ⊥
IsHeaderSoFar (Named kind) = Unit {0}
IsHeaderSoFar (Begun schedule) = HeaderAccepted schedule × (schedule.events ≡ [])

-- .. including the report's first line
abbrev pub header_so_far : Draft → List ℕ
header_so_far draft = codes "ftreplay 1\n" ++ schedule_bytes draft

-- the schedule's own text, without its last line feed
abbrev pub own_text : List ℕ → List ℕ
own_text text = take (length text - 1 - 11) (drop 11 text)

abbrev pub is_header_of : Schedule → List ℕ → Bool
is_header_of schedule text = not schedule.twin && is_none schedule.marks && is_none schedule.lasting && bytes_eq (header schedule) text

abbrev pub if_header : Result Schedule Refusal → List ℕ → Option Schedule
if_header (Ok schedule) text = if is_header_of schedule text then Some schedule else None
if_header (Err why) text = None

abbrev pub header_in : List ℕ → Option Schedule
header_in text = if_header (read_text (own_text text)) text

-- the line of a service
abbrev pub service_text_line : ServiceKind → List ℕ
service_text_line Echo = codes "service echo\n"
service_text_line Line = codes "service line\n"
service_text_line Transfer = codes "service transfer\n"
service_text_line Meter = codes "service meter\n"

abbrev pub service_among : List ServiceKind → List ℕ → Option ServiceKind
service_among [] text = None
service_among (kind ∷ more) text = if bytes_eq text (service_text_line kind) then Some kind else service_among more text

abbrev pub all_services : List ServiceKind
all_services = Echo ∷ Line ∷ Transfer ∷ Meter ∷ []

abbrev pub service_in : List ℕ → Option ServiceKind
service_in text = service_among all_services text
