-- The grammar of a schedule's text: the schedule that it spells, or the first line that is refused and why.
--
-- First `service NAME`, then `server ADDRESS`, then `profile NAME` where the server's profile isn't the plain one, then `twin` where there are two loggers,
-- `marks EVERY` where the server marks the log, or `lasting WAIT SILENCE` where it is one that lasts, then 0 to 16 times `client N ADDRESS ISN SCRIPT` with N
-- from 1 in order, then events: `boot BOOT ISN`, `crash`, `tick`, `deliver P`, `flip P BIT`, `open N W`, `send N FROM LEN`, `fin N`, `ack N W`, `reset N`,
-- `stop PART`. A line without words, or whose first byte is `#`, is skipped, but counted.
use Rattle.std.specs.Prelude.{ℕ, Bool, true, false, ◌+◌, ◌-◌, ◌^◌, ◌==◌, ◌&&◌, ◌||◌, not, nat_lt, nat_le, Option, Some, None, is_none, option_map}
use Rattle.std.specs.Prelude.{Result, Ok, Err, List, [], ◌∷◌, ◌++◌, length, codes, if◌then◌else◌}
use Rattle.std.specs.List.{list_all, list_any}
use Rattle.std.specs.Option.{ok_or}
use Rattle.std.specs.Str.{bytes_eq}
use Rattle.ft_io.specs.declared.Addr.{Addr}
use Rattle.tcp_rules.specs.declared.profile.Profile.{Profile}
use Rattle.tcp_rules.specs.declared.profile.Profile.TheVariants.{Plain, Wan}
use Rattle.ft_model.specs.Words.{is_empty, lines_of, words_of}
use Rattle.ft_model.specs.Spelling.{numeral, number_of, addr_of, service_of, script_of, profile_named}
use Rattle.ft_model.specs.declared.event.Event.{Event}
use Rattle.ft_model.specs.declared.event.Event.TheVariants as event
use Rattle.ft_model.specs.declared.line.Draft.{Draft}
use Rattle.ft_model.specs.declared.line.Draft.TheVariants.{Empty, Named, Begun}
use Rattle.ft_model.specs.declared.line.Keyword.{Keyword}
use Rattle.ft_model.specs.declared.line.Keyword.TheVariants as keyword
use Rattle.ft_model.specs.declared.line.Line.{Line}
use Rattle.ft_model.specs.declared.line.Line.TheVariants as line
use Rattle.ft_model.specs.declared.line.Verb.{Verb}
use Rattle.ft_model.specs.declared.line.Verb.TheVariants as verb
use Rattle.ft_model.specs.declared.schedule.ClientLine.{ClientLine}
use Rattle.ft_model.specs.declared.schedule.Lasting.{Lasting}
use Rattle.ft_model.specs.declared.schedule.Limit.{Limit}
use Rattle.ft_model.specs.declared.schedule.Limit.TheVariants as limit
use Rattle.ft_model.specs.declared.schedule.LineWhy.{LineWhy}
use Rattle.ft_model.specs.declared.schedule.LineWhy.TheVariants as why
use Rattle.ft_model.specs.declared.schedule.Schedule.{Schedule}
use Rattle.ft_model.specs.declared.schedule.ServiceKind.{ServiceKind}

-- why a text spells no schedule: a line, counted from 1, or a limit
pub data Refusal : Type 0 where
  BadLine : (line : ℕ) (why : LineWhy) → Refusal
  TooLong : (what : Limit) → Refusal

-- one test after another: the first refusal decides
infixl 10 ◌>>=◌
abbrev pub ◌>>=◌ : {A B E : Type 0} → Result A E → (A → Result B E) → Result B E
(Ok x) >>= f = f x
(Err e) >>= f = Err e

-- Numbers, each with its range.
abbrev pub number : ℕ → ℕ → List ℕ → Result ℕ LineWhy
number least most word = ok_or (number_of least most word) why.Number

abbrev pub boot_number : List ℕ → Result ℕ LineWhy
boot_number word = number 1 (2 ^ 64 - 1) word

abbrev pub packet_number : List ℕ → Result ℕ LineWhy
packet_number word = number 1 (2 ^ 32 - 1) word

abbrev pub client_number : List ℕ → Result ℕ LineWhy
client_number word = number 1 16 word

abbrev pub window : List ℕ → Result ℕ LineWhy
window word = number 0 65535 word

-- one of two loggers: 1 is the head, 2 the tail
abbrev pub part_number : List ℕ → Result ℕ LineWhy
part_number word = number 1 2 word

-- after how many reads a mark is due
abbrev pub every_number : List ℕ → Result ℕ LineWhy
every_number word = number 1 1000 word

-- for how many ticks a server that lasts keeps what is done, and after how many it asks a silent client
abbrev pub wait_number : List ℕ → Result ℕ LineWhy
wait_number word = number 1 100000 word

abbrev pub silence_number : List ℕ → Result ℕ LineWhy
silence_number word = number 0 100000 word

-- a number of 32 bits: an initial sequence number, a bit, an offset or a length
abbrev pub long_number : List ℕ → Result ℕ LineWhy
long_number word = number 0 (2 ^ 32 - 1) word

-- The lines of events, from the words after the first. Their count is tested first, then the numbers in order.
unfoldable pub boot_line : List (List ℕ) → Result Event LineWhy
boot_line (boot ∷ isn ∷ []) = do
  b ← boot_number boot
  i ← long_number isn
  Ok (event.Boot b i)
boot_line _ = Err why.Count

-- a line of one word
unfoldable pub bare_line : {Says : Type 0} → Says → List (List ℕ) → Result Says LineWhy
bare_line said [] = Ok said
bare_line said _ = Err why.Count

unfoldable pub deliver_line : List (List ℕ) → Result Event LineWhy
deliver_line (packet ∷ []) = do
  p ← packet_number packet
  Ok (event.Deliver p)
deliver_line _ = Err why.Count

unfoldable pub flip_line : List (List ℕ) → Result Event LineWhy
flip_line (packet ∷ bit ∷ []) = do
  p ← packet_number packet
  b ← long_number bit
  Ok (event.Flip p b)
flip_line _ = Err why.Count

-- a client and a window
unfoldable pub client_and_window : List (List ℕ) → Result (ℕ × ℕ) LineWhy
client_and_window (client ∷ room ∷ []) = do
  c ← client_number client
  w ← window room
  Ok (c, w)
client_and_window _ = Err why.Count

unfoldable pub send_line : List (List ℕ) → Result Event LineWhy
send_line (client ∷ from ∷ len ∷ []) = do
  c ← client_number client
  f ← long_number from
  l ← long_number len
  Ok (event.Send c f l)
send_line _ = Err why.Count

-- only a client
unfoldable pub client_alone : List (List ℕ) → Result ℕ LineWhy
client_alone (client ∷ []) = client_number client
client_alone _ = Err why.Count

unfoldable pub stop_line : List (List ℕ) → Result Event LineWhy
stop_line (part ∷ []) = do
  p ← part_number part
  Ok (event.Stop p)
stop_line _ = Err why.Count

abbrev pub event_line : Verb → List (List ℕ) → Result Event LineWhy
event_line verb.Boot words = boot_line words
event_line verb.Crash words = bare_line event.Crash words
event_line verb.Tick words = bare_line event.Tick words
event_line verb.Deliver words = deliver_line words
event_line verb.Flip words = flip_line words
event_line verb.Open words = client_and_window words >>= λ m. Ok (event.Begin m.0 m.1)
event_line verb.Send words = send_line words
event_line verb.Fin words = client_alone words >>= λ c. Ok (event.Fin c)
event_line verb.Ack words = client_and_window words >>= λ m. Ok (event.Ack m.0 m.1)
event_line verb.Reset words = client_alone words >>= λ c. Ok (event.Reset c)
event_line verb.Stop words = stop_line words

-- The lines before the events, likewise.
unfoldable pub service_line : List (List ℕ) → Result ServiceKind LineWhy
service_line (name ∷ []) = ok_or (service_of name) why.Word
service_line _ = Err why.Count

unfoldable pub server_line : List (List ℕ) → Result Addr LineWhy
server_line (address ∷ []) = ok_or (addr_of address) why.Address
server_line _ = Err why.Count

unfoldable pub profile_line : List (List ℕ) → Result Profile LineWhy
profile_line (name ∷ []) = ok_or (profile_named name) why.Word
profile_line _ = Err why.Count

unfoldable pub marks_line : List (List ℕ) → Result ℕ LineWhy
marks_line (every ∷ []) = every_number every
marks_line _ = Err why.Count

-- both numbers are tested in their order
unfoldable pub lasting_line : List (List ℕ) → Result Lasting LineWhy
lasting_line (wait ∷ silence ∷ []) = do
  w ← wait_number wait
  s ← silence_number silence
  Ok (record { wait = w; silence = s })
lasting_line _ = Err why.Count

-- Whether the server or an earlier client has the address. At a server that lasts a client may have an earlier one's, with another initial sequence number
unfoldable pub is_taken : Draft → Addr → (isn : ℕ) → Bool
is_taken (Begun schedule) addr isn =
    schedule.server.ip == addr.ip && schedule.server.port == addr.port
    || list_any (λ client. (is_none schedule.lasting || client.isn == isn) && client.key.ip == addr.ip && client.key.port == addr.port) schedule.clients
is_taken draft addr isn = false

-- an address that isn't taken yet
unfoldable pub free_address : Draft → (isn : ℕ) → List ℕ → Result Addr LineWhy
free_address draft isn word = do
  addr ← ok_or (addr_of word) why.Address
  if is_taken draft addr isn then Err why.Address else Ok addr

-- both numbers are tested before the address, and the script last
unfoldable pub client_line : Draft → List (List ℕ) → Result ClientLine LineWhy
client_line draft (client ∷ address ∷ isn ∷ script ∷ []) = do
  c ← client_number client
  i ← long_number isn
  addr ← free_address draft i address
  s ← ok_or (script_of script) why.Script
  Ok (record { key = record { ip = addr.ip; port = addr.port }; isn = i; script = s })
client_line draft _ = Err why.Count

abbrev pub line_from : Draft → Keyword → List (List ℕ) → Result Line LineWhy
line_from draft keyword.Service words = service_line words >>= λ kind. Ok (line.Service kind)
line_from draft keyword.Server words = server_line words >>= λ addr. Ok (line.Server addr)
line_from draft keyword.Profile words = profile_line words >>= λ profile. Ok (line.Profile profile)
line_from draft keyword.Twin words = bare_line line.Twin words
line_from draft keyword.Marks words = marks_line words >>= λ every. Ok (line.Marks every)
line_from draft keyword.Lasting words = lasting_line words >>= λ waits. Ok (line.Lasting waits)
line_from draft keyword.Client words = client_line draft words >>= λ client. Ok (line.Client client)
line_from draft (keyword.Event v) words = event_line v words >>= λ e. Ok (line.Event e)

-- the first words of events
abbrev pub verbs : List (List ℕ × Verb)
verbs =
    (codes "boot", verb.Boot)
    ∷ (codes "crash", verb.Crash)
    ∷ (codes "tick", verb.Tick)
    ∷ (codes "deliver", verb.Deliver)
    ∷ (codes "flip", verb.Flip)
    ∷ (codes "open", verb.Open)
    ∷ (codes "send", verb.Send)
    ∷ (codes "fin", verb.Fin)
    ∷ (codes "ack", verb.Ack)
    ∷ (codes "reset", verb.Reset)
    ∷ (codes "stop", verb.Stop)
    ∷ []

-- the verb that such a table has for a word
abbrev pub announced : List (List ℕ × Verb) → List ℕ → Option Verb
announced [] word = None
announced (row ∷ rows) word = if bytes_eq word row.0 then Some row.1 else announced rows word

-- The test `word`: the first word is one of these, a service has one of the four names, and a profile the name of one.
unfoldable pub verb_of : List ℕ → Option Verb
verb_of word = announced verbs word

unfoldable pub keyword_of : List ℕ → Option Keyword
keyword_of word =
    if bytes_eq word (codes "service") then Some keyword.Service
    else (if bytes_eq word (codes "server") then Some keyword.Server
    else (if bytes_eq word (codes "profile") then Some keyword.Profile
    else (if bytes_eq word (codes "twin") then Some keyword.Twin
    else (if bytes_eq word (codes "marks") then Some keyword.Marks
    else (if bytes_eq word (codes "lasting") then Some keyword.Lasting
    else (if bytes_eq word (codes "client") then Some keyword.Client
    else option_map keyword.Event (verb_of word)))))))

-- a line that names a service or a profile that doesn't exist. One without a name is left to the test `count`
unfoldable pub is_misnamed : Keyword → List (List ℕ) → Bool
is_misnamed keyword.Service (name ∷ more) = is_none (service_of name)
is_misnamed keyword.Profile (name ∷ more) = is_none (profile_named name)
is_misnamed _ _ = false

-- The test `place`. A client line's number is the next one; a line without a number is left to the test `count`, and a word that is
-- no number to the test `number`.
unfoldable pub is_next : ℕ → Option ℕ → Bool
is_next count None = true
is_next count (Some n) = n == count + 1

unfoldable pub has_next_number : ℕ → List (List ℕ) → Bool
has_next_number count [] = true
has_next_number count (client ∷ more) = is_next count (numeral 20 client)

-- clients come before events, and there are at most 16
unfoldable pub may_join : Schedule → List (List ℕ) → Bool
may_join schedule words = length schedule.events == 0 && nat_lt (length schedule.clients) 16 && has_next_number (length schedule.clients) words

-- the line `twin`, `marks` or `lasting` comes directly after the server's line, or after that of its profile
unfoldable pub has_only_server : Schedule → Bool
has_only_server schedule = length schedule.events == 0 && length schedule.clients == 0 && not schedule.twin && is_none schedule.marks
    && is_none schedule.lasting

-- whether no line has named a profile
abbrev pub is_unnamed : Profile → Bool
is_unnamed Plain = true
is_unnamed Wan = false

abbrev pub may_stand : Draft → Keyword → List (List ℕ) → Bool
may_stand Empty keyword.Service words = true
may_stand (Named kind) keyword.Server words = true
may_stand (Begun schedule) keyword.Profile words = is_unnamed schedule.profile && has_only_server schedule
may_stand (Begun schedule) keyword.Twin words = has_only_server schedule
may_stand (Begun schedule) keyword.Marks words = has_only_server schedule
may_stand (Begun schedule) keyword.Lasting words = has_only_server schedule
may_stand (Begun schedule) keyword.Client words = may_join schedule words
may_stand (Begun schedule) (keyword.Event v) words = true
may_stand _ _ words = false

-- The tests of a line in their order: character, word, place, and those of its kind (count, number, address, script).
unfoldable pub is_printable : List ℕ → Bool
is_printable text = list_all (λ byte. nat_le 32 byte && nat_le byte 126) text

unfoldable pub line_behind : Draft → Keyword → List (List ℕ) → Result Line LineWhy
line_behind draft k words =
    if is_misnamed k words then Err why.Word
    else (if may_stand draft k words then line_from draft k words
    else Err why.Place)

abbrev pub line_of_words : Draft → List (List ℕ) → Result Line LineWhy
line_of_words draft [] = Err why.Word
line_of_words draft (word ∷ words) = do
  k ← ok_or (keyword_of word) why.Word
  line_behind draft k words

unfoldable pub line_of : Draft → List ℕ → Result Line LineWhy
line_of draft text = if is_printable text then line_of_words draft (words_of text) else Err why.Character

-- what a line adds to the lines before it
abbrev pub with_line : Draft → Line → Draft
with_line Empty (line.Service kind) = Named kind
with_line (Named kind) (line.Server addr) = Begun (record {
  service = kind;
  server = addr;
  profile = Plain;
  twin = false;
  marks = None;
  lasting = None;
  clients = [];
  events = [];
})
with_line (Begun schedule) (line.Profile profile) = Begun (record schedule { profile = profile })
with_line (Begun schedule) line.Twin = Begun (record schedule { twin = true })
with_line (Begun schedule) (line.Marks every) = Begun (record schedule { marks = Some every })
with_line (Begun schedule) (line.Lasting waits) = Begun (record schedule { lasting = Some waits })
with_line (Begun schedule) (line.Client client) = Begun (record schedule { clients = schedule.clients ++ client ∷ [] })
with_line (Begun schedule) (line.Event e) = Begun (record schedule { events = schedule.events ++ e ∷ [] })
with_line draft _ = draft

-- a line without words, or a comment: its first byte is `#`
abbrev pub is_comment : List ℕ → Bool
is_comment [] = false
is_comment (byte ∷ more) = byte == 35

unfoldable pub is_passed_over : List ℕ → Bool
is_passed_over text = is_comment text || is_empty (words_of text)

-- an event's line after 100,000 of them is one too many, whatever it says
abbrev pub is_full : Draft → Bool
is_full (Begun schedule) = nat_le 100000 (length schedule.events)
is_full _ = false

abbrev pub begins_event : List (List ℕ) → Bool
begins_event [] = false
begins_event (word ∷ words) = not (is_none (verb_of word))

unfoldable pub is_too_much : Draft → List ℕ → Bool
is_too_much draft text = is_full draft && begins_event (words_of text)

-- a refusal with the number of its line
abbrev pub at_line : ℕ → Result Draft LineWhy → Result Draft Refusal
at_line n (Ok draft) = Ok draft
at_line n (Err reason) = Err (BadLine n reason)

-- A reader's objection to a well-formed line, given the lines before it: a test of its own, the last one. The grammar itself has none.
abbrev pub Objection : Type 0
Objection = Draft → Line → Option LineWhy

abbrev pub no_objection : Objection
no_objection draft l = None

abbrev pub unless_objected : Option LineWhy → Draft → Result Draft LineWhy
unless_objected (Some reason) later = Err reason
unless_objected None later = Ok later

-- what the lines spell once line n is added
unfoldable pub after_line : Objection → ℕ → Draft → List ℕ → Result Draft Refusal
after_line objection n draft text =
    if is_passed_over text then Ok draft
    else (if is_too_much draft text then Err (TooLong limit.Events)
    else at_line n (line_of draft text >>= λ l. unless_objected (objection draft l) (with_line draft l)))

-- a text that ends before its server line is refused by the test `place`, at the number after its last line
abbrev pub schedule_of : ℕ → Draft → Result Schedule Refusal
schedule_of n (Begun schedule) = Ok schedule
schedule_of n _ = Err (BadLine n why.Place)

-- what the lines from number n on spell, after those before
unfoldable pub read_lines : Objection → ℕ → Draft → List (List ℕ) → Result Schedule Refusal
read_lines objection n draft [] = schedule_of n draft
read_lines objection n draft (text ∷ more) = after_line objection n draft text >>= λ later. read_lines objection (n + 1) later more

-- the schedule that a text spells for a reader with this test, or why it spells none. A text of more than 2^23 bytes is too long.
unfoldable pub read_with : Objection → List ℕ → Result Schedule Refusal
read_with objection text = if nat_le (length text) 8388608 then read_lines objection 1 Empty (lines_of text) else Err (TooLong limit.Text)

-- the schedule that a text spells, or why it spells none
abbrev pub read_text : List ℕ → Result Schedule Refusal
read_text text = read_with no_objection text
