-- The bytes of a connection, read as one request after another (RFC 9112, section 2.1): a request line, field lines, an empty line, and a body. It is a fold
-- over the bytes, so that a request may be cut over any number of chunks.
use Rattle.std.specs.Prelude.{ℕ, ◌+◌, ◌-◌, Bool, false, ◌==◌, not, nat_lt, Option, Some, None, Result, Ok, Err, List, [], ◌∷◌, ◌++◌, length, take}
use Rattle.std.specs.Prelude.{drop, bytes_eq, codes, if◌then◌else◌}
use Rattle.web_service.specs.Request.{request_line, with_field}
use Rattle.web_service.specs.declared.request.Request.{Request}
use Rattle.web_service.specs.declared.request.Version.{Version}
use Rattle.web_service.specs.declared.request.Version.TheVariants.{Ten, Eleven}
use Rattle.web_service.specs.declared.answer.Status.{Status}
use Rattle.web_service.specs.declared.answer.Status.TheVariants.{BadRequest, UriTooLong, FieldsTooLarge, NotImplemented}
use Rattle.web_service.specs.declared.answer.Reply.{Reply}
use Rattle.web_service.specs.declared.answer.Reply.TheVariants.{Answer, Refusal}
use Rattle.web_service.specs.declared.reader.Stage.{Stage}
use Rattle.web_service.specs.declared.reader.Stage.TheVariants.{RequestLine, Fields, Body}
use Rattle.web_service.specs.declared.reader.LineEnd.{LineEnd}

-- what is being read, the bytes of the unfinished line, and how many bytes the request line has so far, or the field lines
pub record Reading : Type 0 where
  pub stage : Stage
  pub held : List ℕ
  pub size : ℕ

-- what is read after a byte, and the reply that is due after it, if any
pub record Read : Type 0 where
  pub next : Reading
  pub due : Option Reply

-- where a request begins
abbrev pub at_start : Reading
at_start = record { stage = RequestLine; held = []; size = 0 }

-- a line without a carriage return at its end
abbrev pub without_return : List ℕ → List ℕ
without_return line = if bytes_eq (drop (length line - 1) line) (codes "\r") then take (length line - 1) line else line

-- 1.1 requires a Host
abbrev pub lacks_host : Version → Bool → Bool
lacks_host Eleven host = not host
lacks_host Ten host = false

-- the reply to a request whose fields are complete. No transfer coding is implemented
abbrev pub reply_to : Request → Reply
reply_to request =
    if lacks_host request.version request.host then Refusal BadRequest
    else if request.coding then Refusal NotImplemented
    else Answer request

-- a body is dropped before the next request begins
abbrev pub stage_after : Option ℕ → Stage
stage_after None = RequestLine
stage_after (Some len) = if len == 0 then RequestLine else Body len

-- an invalid line is refused
abbrev pub refused : Status → LineEnd
refused status = record { stage = RequestLine; size = 0; due = Some (Refusal status) }

-- fields follow a valid line
abbrev pub fields_follow : ℕ → Result Request Status → LineEnd
fields_follow size (Ok request) = record { stage = Fields request; size = size; due = None }
fields_follow size (Err status) = refused status

-- empty lines before a request line are ignored
unfoldable pub request_line_end : List ℕ → LineEnd
request_line_end line = if length line == 0 then record { stage = RequestLine; size = 0; due = None } else fields_follow 0 (request_line line)

-- an empty line ends the fields
unfoldable pub field_line_end : ℕ → Request → List ℕ → LineEnd
field_line_end size request line =
    if length line == 0
    then record { stage = stage_after request.length; size = 0; due = Some (reply_to request) }
    else fields_follow size (with_field request line)

-- what the end of a line does, where the request line or the field lines have `size` bytes with it
abbrev pub line_end : Stage → ℕ → List ℕ → LineEnd
line_end (Fields request) size line = field_line_end size request line
line_end stage size line = request_line_end line

abbrev pub at_line_end : LineEnd → Read
at_line_end end = record { next = record { stage = end.stage; held = []; size = end.size }; due = end.due }

abbrev pub too_long : Stage → Status
too_long (Fields request) = FieldsTooLarge
too_long stage = UriTooLong

-- a request line has at most 8,192 bytes, and so have all field lines together
unfoldable pub line_byte : Reading → ℕ → Read
line_byte reading byte =
    if nat_lt 8191 reading.size
    then at_line_end (refused (too_long reading.stage))
    else if byte == 10
    then at_line_end (line_end reading.stage (reading.size + 1) (without_return reading.held))
    else record { next = record reading { held = reading.held ++ byte ∷ []; size = reading.size + 1 }; due = None }

abbrev pub body_byte : Reading → ℕ → Read
body_byte reading left = record { next = record reading { stage = stage_after (Some (left - 1)) }; due = None }

abbrev pub staged_byte : Stage → Reading → ℕ → Read
staged_byte (Body left) reading byte = body_byte reading left
staged_byte stage reading byte = line_byte reading byte

-- what one byte does
abbrev pub read_byte : Reading → ℕ → Read
read_byte reading byte = staged_byte reading.stage reading byte
