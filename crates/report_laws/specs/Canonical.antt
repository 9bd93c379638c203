-- A report contains its schedule, line by line, in one spelling: the lines of its header after the first, and its event lines without the number. The limit
-- on a schedule's text applies to these lines together. Reports of schedules with two loggers, with marks or with a server that lasts aren't checked, so
-- `twin`, `marks` and `lasting` have no spelling here.
use Rattle.std.specs.Prelude.{◌≡◌, ℕ, false, None, ◌+◌, ◌-◌, ◌≤◌, Ok, codes, List, [], ◌∷◌, ◌++◌, length, take}
use Rattle.std.specs.List.{flat_map}
use Rattle.tcp_rules.specs.declared.profile.Profile.{Profile}
use Rattle.tcp_rules.specs.declared.profile.Profile.TheVariants.{Plain, Wan}
use Rattle.ft_model.specs.Grammar.{line_of, with_line}
use Rattle.ft_model.specs.Texts.{line, address_text, service_text}
use Rattle.ft_model.specs.Report.{profile_line, schedule_line, schedule_lines}
use Rattle.ft_model.specs.declared.event.Event.{Event}
use Rattle.ft_model.specs.declared.line.Draft.{Draft}
use Rattle.ft_model.specs.declared.line.Draft.TheVariants.{Empty, Named, Begun}
use Rattle.ft_model.specs.declared.line.Line.{Line}
use Rattle.ft_model.specs.declared.line.Line.TheVariants as says
use Rattle.ft_model.specs.declared.schedule.ClientLine.{ClientLine}
use Rattle.ft_model.specs.declared.schedule.Schedule.{Schedule}
use Rattle.schedule_text.specs.EventLines.{asked_line}

-- the canonical line of a schedule for this content, if the next client's number is n
abbrev pub line_for : ℕ → Line → List ℕ
line_for n (says.Service kind) = line (codes "service") (service_text kind ∷ [])
line_for n (says.Server at) = line (codes "server") (address_text at.ip at.port ∷ [])
line_for n (says.Profile profile) = profile_line profile
line_for n says.Twin = []
line_for n (says.Marks every) = []
line_for n (says.Lasting waits) = []
line_for n (says.Client asked) = schedule_line n asked
line_for n (says.Event e) = asked_line e ++ 10 ∷ []

abbrev pub next_client : Draft → ℕ
next_client (Begun schedule) = length schedule.clients + 1
next_client draft = 1

-- .. after the lines of a draft
abbrev pub canonical_line : Draft → Line → List ℕ
canonical_line draft l = line_for (next_client draft) l

-- the canonical lines of a draft, concatenated
abbrev pub schedule_bytes : Draft → List ℕ
schedule_bytes Empty = []
schedule_bytes (Named kind) = line (codes "service") (service_text kind ∷ [])
schedule_bytes (Begun schedule) =
    line (codes "service") (service_text schedule.service ∷ [])
    ++ (line (codes "server") (address_text schedule.server.ip schedule.server.port ∷ [])
    ++ (profile_line schedule.profile
    ++ (schedule_lines 1 schedule.clients ++ flat_map (λ e. asked_line e ++ 10 ∷ []) schedule.events)))

-- a draft's canonical lines have at most 8,388,608 bytes, not counting the last line feed
abbrev pub FitsLimit : Draft → Type 0
FitsLimit draft = length (schedule_bytes draft) - 1 ≤ 8388608

-- The line is the canonical one for its content, the grammar accepts it after this draft, and the schedule's text stays within its limit.
pub record IsCanonical (draft : Draft) (l : Line) (text : List ℕ) : Type 0 where
  pub spelled : text ≡ canonical_line draft l
  pub accepted : line_of draft (take (length text - 1) text) ≡ Ok l
  pub short : FitsLimit (with_line draft l)

-- a line of a schedule, in its one spelling, may follow the lines of this draft
abbrev pub Follows : Draft → Line → Type 0
Follows draft l = IsCanonical draft l (canonical_line draft l)

-- clients, each accepted after those before it
abbrev pub ClientsAccepted : Schedule → List ClientLine → Type 0
ClientsAccepted schedule [] = Unit {0}
ClientsAccepted schedule (c ∷ more) = Follows (Begun schedule) (says.Client c) × ClientsAccepted (record schedule { clients = schedule.clients ++ c ∷ [] }) more

-- .. and events
abbrev pub EventsAccepted : Schedule → List Event → Type 0
EventsAccepted schedule [] = Unit {0}
EventsAccepted schedule (e ∷ more) = Follows (Begun schedule) (says.Event e) × EventsAccepted (record schedule { events = schedule.events ++ e ∷ [] }) more

-- the schedule with only a service and a server's address
abbrev pub bare : Schedule → Schedule
bare schedule = record schedule { profile = Plain; twin = false; marks = None; lasting = None; clients = []; events = [] }

-- .. and with its profile
abbrev pub profiled : Schedule → Schedule
profiled schedule = record (bare schedule) { profile = schedule.profile }

-- a profile that isn't the plain one, in a line of its own that is accepted after those before it
abbrev pub ProfileAccepted : Schedule → Profile → Type 0
ProfileAccepted schedule Plain = Unit {0}
ProfileAccepted schedule Wan = Follows (Begun schedule) (says.Profile Wan)

-- the lines of a header, each accepted after those before it
pub record HeaderAccepted (schedule : Schedule) : Type 0 where
  pub one_logger : schedule.twin ≡ false
  pub unmarked : schedule.marks ≡ None
  pub fleeting : schedule.lasting ≡ None
  pub service : Follows Empty (says.Service schedule.service)
  pub server : Follows (Named schedule.service) (says.Server schedule.server)
  pub profile : ProfileAccepted (bare schedule) schedule.profile
  pub clients : ClientsAccepted (profiled schedule) schedule.clients

-- A schedule within the limits: it has one logger, no marks and no server that lasts, the grammar accepts its lines one after another, and it has at most
-- 100,000 events.
pub record IsWithinLimits (schedule : Schedule) : Type 0 where
  pub header : HeaderAccepted schedule
  pub events : EventsAccepted (record schedule { events = [] }) schedule.events
  pub few : length schedule.events ≤ 100000

-- the lines of clients, numbered from n
abbrev pub client_header_lines : ℕ → List ClientLine → List (List ℕ)
client_header_lines n [] = []
client_header_lines n (c ∷ more) = schedule_line n c ∷ client_header_lines (n + 1) more

-- the line of a profile, unless it is the plain one
abbrev pub profile_header_lines : Profile → List (List ℕ)
profile_header_lines Plain = []
profile_header_lines Wan = profile_line Wan ∷ []

-- the lines of a schedule's header, including the report's first line
abbrev pub header_lines : Schedule → List (List ℕ)
header_lines schedule =
    codes "ftreplay 1\n" ∷ canonical_line Empty (says.Service schedule.service) ∷ canonical_line (Named schedule.service) (says.Server schedule.server)
    ∷ (profile_header_lines schedule.profile ++ client_header_lines 1 schedule.clients)
