-- Two loggers that act as one: a chain of two (chain replication, van Renesse and Schneider, OSDI 2004). The head takes the server's messages, numbers them and
-- forwards them. The tail applies them in that order and answers. One of them may stop, and the other then serves alone.
use Rattle.std.specs.Prelude.{ℕ, Bool, false, ◌+◌, ◌-◌, ◌^◌, ◌==◌, ◌&&◌, not, nat_lt, nat_le, map, Result, Ok, Err, List, [], ◌∷◌, ◌++◌, length, drop}
use Rattle.std.specs.Prelude.{slice_index, if◌then◌else◌}
use Rattle.std.specs.List.{list_any}
use Rattle.std.specs.Option.{option_to_list}
use Rattle.std.specs.Str.{bytes_eq}
use Rattle.seq_arith.specs.declared.kinds.Grammar.{Grammar}
use Rattle.seq_arith.specs.declared.kinds.Grammar.TheVariants as grammars
use Rattle.seq_arith.specs.declared.kinds.BadMsg.{BadMsg}
use Rattle.seq_arith.specs.declared.twin.BadTwin.{BadTwin}
use Rattle.seq_arith.specs.Message.{Message, is_answer}
use Rattle.seq_arith.specs.MessageGrammar as messages
use Rattle.seq_arith.specs.TwinDatagram.{TwinDatagram}
use Rattle.seq_arith.specs.TwinDatagram.{TwinDatagram as datagrams}
use Rattle.seq_arith.specs.TwinGrammar as twins
use Rattle.ft_model.specs.Log.{Log, empty_log, log_after, answer_to}

-- a message of the server, with the bytes in which it arrived
pub record Request : Type 0 where
  pub bytes : List ℕ
  pub message : Message

-- what is sent between the two
pub data Between : Type 0 where
  Forward : (number : ℕ) → Request → Between
  Got : (number : ℕ) → Between

-- what arrives at one of them: a request of the server, a datagram of the other, or anything else
pub data Comes : Type 0 where
  Asks : Request → Comes
  Reports : Between → Comes
  Is_noise : Comes

pub record Head : Type 0 where
  pub log : Log
  pub taken : List Request  -- all that it took, in order: the number of each is its place, from 1
  pub confirmed : ℕ  -- how many of them the tail has confirmed
  pub alone : Bool

pub record Tail : Type 0 where
  pub log : Log
  pub applied : ℕ  -- how many requests it has applied
  pub alone : Bool

abbrev pub new_head : Head
new_head = record { log = empty_log; taken = []; confirmed = 0; alone = false }

abbrev pub new_tail : Tail
new_tail = record { log = empty_log; applied = 0; alone = false }

-- what a logger does: its next state, what it sends to the server, and then to the other logger
pub record Does (State : Type 0) : Type 0 where
  pub next : State
  pub to_server : List Message
  pub to_other : List Between

abbrev pub nothing : {State : Type 0} → State → Does State
nothing state = record { next = state; to_server = []; to_other = [] }

-- a head takes no further request while 64 are unconfirmed, nor one whose number has more than 64 bits
abbrev pub may_take : (unconfirmed taken : ℕ) → Bool
may_take unconfirmed taken = nat_lt unconfirmed 64 && nat_lt taken (2 ^ 64 - 1)

abbrev pub has_room : Head → Bool
has_room head = may_take (length head.taken - head.confirmed) (length head.taken)

-- the head applies what it takes to its own log, and drops that log's answer
abbrev pub with_taken : Request → Head → Head
with_taken request head = record head { log = log_after head.log request.message; taken = head.taken ++ request ∷ [] }

-- requests with their numbers. The first has the number after `n`
abbrev pub numbered : ℕ → List Request → List Between
numbered n [] = []
numbered n (request ∷ requests) = Forward (n + 1) request ∷ numbered (n + 1) requests

-- all that is unconfirmed, in order
abbrev pub waiting : Head → List Between
waiting head = numbered head.confirmed (drop head.confirmed head.taken)

abbrev pub sends_waiting : Head → Does Head
sends_waiting head = record { next = head; to_server = []; to_other = waiting head }

-- whether a message is of the wide grammar, by its version
abbrev pub is_wide : List ℕ → Bool
is_wide bytes = slice_index bytes 2 == messages.version grammars.Wide

-- whether these bytes are those of a message that waits: the server, which still lacks the answer, repeats it
abbrev pub is_among : List ℕ → List (List ℕ) → Bool
is_among bytes those = list_any (λ other. bytes_eq other bytes) those

abbrev pub waits : Request → Head → Bool
waits request head = is_among request.bytes (map (λ r. r.bytes) (drop head.confirmed head.taken))

-- What is forwarded of a message that the head takes: all that is unconfirmed. In wide messages only the new one, unless the server repeats one that waits. So
-- in these a message is forwarded once, and kept until the tail confirms it (the list of sent requests of chain replication); a Forward that was lost is sent
-- again where the server repeats any unconfirmed message, or there is no room
abbrev pub forwarding : Request → Head → List Between
forwarding request head =
    if is_wide request.bytes && not (waits request head) then Forward (length head.taken + 1) request ∷ [] else waiting (with_taken request head)

abbrev pub head_takes : Request → Head → Does Head
head_takes request head = record { next = with_taken request head; to_server = []; to_other = forwarding request head }

-- On each request the head of a pair takes it and forwards. If it has no room it sends all that is unconfirmed
abbrev pub head_paired : Request → Head → Does Head
head_paired request head =
    if is_answer request.message.body then nothing head else (if has_room head then head_takes request head else sends_waiting head)

-- a Got confirms all requests up to its number
abbrev pub confirmed_to : ℕ → Head → Head
confirmed_to number head = if nat_lt head.confirmed number && nat_le number (length head.taken) then record head { confirmed = number } else head

-- a logger that serves alone is a log
abbrev pub head_alone : Request → Head → Does Head
head_alone request head =
    record { next = record head { log = log_after head.log request.message }; to_server = option_to_list (answer_to head.log request.message); to_other = [] }

abbrev pub tail_alone : Request → Tail → Does Tail
tail_alone request tail =
    record { next = record tail { log = log_after tail.log request.message }; to_server = option_to_list (answer_to tail.log request.message); to_other = [] }

abbrev pub head_does : Comes → Head → Does Head
head_does (Asks request) head = if head.alone then head_alone request head else head_paired request head
head_does (Reports (Got number)) head = if head.alone then nothing head else nothing (confirmed_to number head)
head_does _ head = nothing head

-- The tail applies the next request: it answers the server, and then confirms to the head. For a request that it has applied before, it only confirms all
-- that it has applied
abbrev pub applies_next : Request → Tail → Does Tail
applies_next request tail = record {
  next = record tail { log = log_after tail.log request.message; applied = tail.applied + 1 };
  to_server = option_to_list (answer_to tail.log request.message);
  to_other = Got (tail.applied + 1) ∷ [];
}

abbrev pub confirms_again : Tail → Does Tail
confirms_again tail = record { next = tail; to_server = []; to_other = Got tail.applied ∷ [] }

abbrev pub tail_applies : ℕ → Request → Tail → Does Tail
tail_applies number request tail =
    if number == tail.applied + 1 then applies_next request tail else (if nat_le number tail.applied then confirms_again tail else nothing tail)

abbrev pub tail_does : Comes → Tail → Does Tail
tail_does (Asks request) tail = if tail.alone then tail_alone request tail else nothing tail
tail_does (Reports (Forward number request)) tail = if tail.alone then nothing tail else tail_applies number request tail
tail_does _ tail = nothing tail

-- what bytes of the server ask for
abbrev pub asked : List ℕ → Result Message BadMsg → Comes
asked bytes (Ok message) = Asks (record { bytes = bytes; message = message })
asked bytes (Err why) = Is_noise

-- what bytes of the other logger say. A forwarded message is read as the server's messages are. An Alone is noise here
abbrev pub forwarded_as : ℕ → Comes → Comes
forwarded_as number (Asks request) = Reports (Forward number request)
forwarded_as number _ = Is_noise

abbrev pub from_other_logger : Grammar → Result TwinDatagram BadTwin → Comes
from_other_logger grammar (Ok (datagrams.Forward number bytes)) = forwarded_as number (asked bytes (messages.reading_by grammar bytes))
from_other_logger grammar (Ok (datagrams.Got number)) = Reports (Got number)
from_other_logger grammar _ = Is_noise

-- the datagram that is sent, and its bytes. A forwarded message has the bytes in which it arrived
abbrev pub datagram_of : Between → TwinDatagram
datagram_of (Forward number request) = datagrams.Forward number request.bytes
datagram_of (Got number) = datagrams.Got number

unfoldable pub bytes_of : Between → List ℕ
bytes_of between = twins.spelling (datagram_of between)
