-- An HTTP/1.0 and 1.1 server as a service: each request is answered where its fields end.
use Rattle.std.specs.Prelude.{ℕ, ◌-◌, ◌^◌, true, ◌==◌, nat_lt, Option, Some, None, List, [], length, if◌then◌else◌}
use Rattle.server_trait.specs.Service.{Served, Machine, silent}
use Rattle.sample_servers.specs.Stream.{waiting, each_byte}
use Rattle.web_service.specs.Answer.{head_of, answer_of, closes}
use Rattle.web_service.specs.Reader.{Reading, at_start, read_byte}
use Rattle.web_service.specs.declared.request.Request.{Request}
use Rattle.web_service.specs.declared.answer.Status.{Status}
use Rattle.web_service.specs.declared.answer.Status.TheVariants.{Unavailable}
use Rattle.web_service.specs.declared.answer.Reply.{Reply}
use Rattle.web_service.specs.declared.answer.Reply.TheVariants.{Answer, Refusal}

-- what is being read, and how many more bytes may answer this chunk
pub record WebState : Type 0 where
  pub reading : Reading
  pub room : ℕ

abbrev pub web_started : WebState
web_started = record { reading = at_start; room = 0 }

-- a refusal has no body, and closes
unfoldable pub refused : WebState → Status → Served WebState
refused state status = record { next = state; output = head_of status 0 true; closed = true }

-- an answer without room is refused
unfoldable pub answered : WebState → Request → Served WebState
answered state request =
    let answer = answer_of request in
    if nat_lt state.room (length answer)
    then refused state Unavailable
    else record { next = record state { room = state.room - length answer }; output = answer; closed = closes request }

-- the reply that is due is given
abbrev pub replied : WebState → Option Reply → Served WebState
replied state None = waiting state
replied state (Some (Refusal status)) = refused state status
replied state (Some (Answer request)) = answered state request

-- what one byte does
abbrev pub web_byte : WebState → ℕ → Served WebState
web_byte state byte =
    let read = read_byte state.reading byte in
    replied (record state { reading = read.next }) read.due

-- the most bytes of answers to one chunk. A refusal after them has at most 256
abbrev pub answer_room : ℕ
answer_room = 2 ^ 20 - 256

-- what a chunk does. An empty one is the end of input, and closes
abbrev pub web_after : WebState → List ℕ → Served WebState
web_after state chunk =
    if length chunk == 0
    then record { next = state; output = []; closed = true }
    else each_byte web_byte (record state { room = answer_room }) chunk

-- the service as runs see it
abbrev pub web_machine : Machine WebState
web_machine = silent web_started web_after
