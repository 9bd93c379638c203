-- Whole inputs: the messages of RFC 9112, section 2.1, and the replies to all bytes of a connection, however they are cut.
use Rattle.std.specs.Prelude.{◌≡◌, ℕ, ◌≤◌, Bool, true, Option, Some, None, Result, Ok, Err, List, [], ◌∷◌, ◌++◌, length, codes, if◌then◌else◌}
use Rattle.std.specs.List.{list_any}
use Rattle.web_service.specs.Request.{request_line, with_field}
use Rattle.web_service.specs.Answer.{head_of, answer_of, closes}
use Rattle.web_service.specs.Reader.{Reading, read_byte}
use Rattle.web_service.specs.Web.{answer_room}
use Rattle.web_service.specs.declared.request.Request.{Request}
use Rattle.web_service.specs.declared.answer.Status.{Status}
use Rattle.web_service.specs.declared.answer.Reply.{Reply}
use Rattle.web_service.specs.declared.answer.Reply.TheVariants.{Answer, Refusal}

-- the replies that are due in these bytes, in order
abbrev pub onto_replies : Option Reply → List Reply → List Reply
onto_replies None replies = replies
onto_replies (Some reply) replies = reply ∷ replies

abbrev pub replies_in : Reading → List ℕ → List Reply
replies_in reading [] = []
replies_in reading (byte ∷ bytes) = onto_replies (read_byte reading byte).due (replies_in (read_byte reading byte).next bytes)

-- what is read after these bytes
abbrev pub reading_after : Reading → List ℕ → Reading
reading_after reading [] = reading
reading_after reading (byte ∷ bytes) = reading_after (read_byte reading byte).next bytes

-- the bytes of a reply, and whether the connection closes after them
abbrev pub reply_text : Reply → List ℕ
reply_text (Answer request) = answer_of request
reply_text (Refusal status) = head_of status 0 true

abbrev pub reply_closes : Reply → Bool
reply_closes (Answer request) = closes request
reply_closes (Refusal status) = true

-- the bytes of these replies, up to the first that closes
abbrev pub replies_text : List Reply → List ℕ
replies_text [] = []
replies_text (reply ∷ replies) = reply_text reply ++ (if reply_closes reply then [] else replies_text replies)

abbrev pub one_closes : List Reply → Bool
one_closes = list_any reply_closes

-- the answers to each chunk have room
abbrev pub HasRoom : Reading → List (List ℕ) → Type 0
HasRoom reading [] = Unit {0}
HasRoom reading (chunk ∷ chunks) =
    (length (replies_text (replies_in reading chunk)) ≤ answer_room) × HasRoom (reading_after reading chunk) chunks

-- HTTP-message = start-line CRLF *( field-line CRLF ) CRLF [ message-body ]
abbrev pub line_text : List ℕ → List ℕ
line_text line = line ++ codes "\r\n"

abbrev pub fields_text : List (List ℕ) → List ℕ
fields_text [] = []
fields_text (line ∷ lines) = line_text line ++ fields_text lines

abbrev pub message : List ℕ → List (List ℕ) → List ℕ → List ℕ
message first fields body = line_text first ++ fields_text fields ++ line_text [] ++ body

-- the request that a request line and field lines spell
abbrev pub and_field : Result Request Status → List ℕ → Result Request Status
and_field (Ok request) line = with_field request line
and_field (Err status) line = Err status

abbrev pub and_fields : Result Request Status → List (List ℕ) → Result Request Status
and_fields read [] = read
and_fields read (line ∷ lines) = and_fields (and_field read line) lines

-- the length of a body: 0, unless a field gives it
abbrev pub body_length : Option ℕ → ℕ
body_length None = 0
body_length (Some len) = len

-- the parts of a message: its lines spell this request, they aren't too long, and its body is as long as they say
pub record IsMessage (first : List ℕ) (fields : List (List ℕ)) (body : List ℕ) (request : Request) : Type 0 where
  pub says : and_fields (request_line first) fields ≡ Ok request
  pub first_fits : length (line_text first) ≤ 8192
  pub fields_fit : length (fields_text fields ++ line_text []) ≤ 8192
  pub whole : length body ≡ body_length request.length
