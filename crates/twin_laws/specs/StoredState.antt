-- The state that a program stores of one of two loggers, and what it does with bytes: the same as its definition. A head stores how many requests it took,
-- and the bytes of the unconfirmed ones. A tail stores how many it applied.
use Rattle.std.specs.Prelude.{ℕ, Bool, true, false, ◌+◌, ◌-◌, ◌==◌, ◌&&◌, not, nat_lt, nat_le, map, Option, List, [], ◌∷◌, ◌++◌, length, drop, if◌then◌else◌}
use Rattle.std.specs.Option.{option_to_list}
use Rattle.seq_arith.specs.declared.kinds.Grammar.{Grammar}
use Rattle.seq_arith.specs.Message.{Message, is_answer}
use Rattle.seq_arith.specs.MessageGrammar as messages
use Rattle.seq_arith.specs.TwinDatagram.{TwinDatagram as datagrams}
use Rattle.seq_arith.specs.TwinGrammar as twins
use Rattle.ft_model.specs.Log.{Log, empty_log, log_after, answer_to}
use Rattle.twin_laws.specs.declared.part.Part.{Part}
use Rattle.twin_laws.specs.declared.part.Part.TheVariants as parts
use Rattle.twin_laws.specs.declared.part.Side.{Side}
use Rattle.twin_laws.specs.declared.part.Side.TheVariants as sides
use Rattle.twin_laws.specs.Twin.{Request, Between, Comes, Head, Tail, Does, may_take, is_wide, is_among, asked, from_other_logger, bytes_of}
use Rattle.twin_laws.specs.Twin.Between.{Forward, Got}
use Rattle.twin_laws.specs.Twin.Comes.{Asks, Reports}

pub record Kept : Type 0 where
  pub grammar : Grammar  -- of the server's messages and the answers. It never changes
  pub part : Part
  pub alone : Bool
  pub log : Log
  pub number : ℕ  -- a head: how many requests it took; a tail: how many it applied
  pub waiting : List (List ℕ)  -- a head's unconfirmed requests, in order; none for a tail

abbrev pub new_kept : Grammar → Part → Kept
new_kept grammar part = record { grammar = grammar; part = part; alone = false; log = empty_log; number = 0; waiting = [] }

-- it serves alone from now on
abbrev pub left_alone : Kept → Kept
left_alone kept = record kept { alone = true }

-- what is stored of a head, and of a tail
abbrev pub kept_head : Grammar → Head → Kept
kept_head grammar head =
    record {
      grammar = grammar;
      part = parts.Head;
      alone = head.alone;
      log = head.log;
      number = length head.taken;
      waiting = map (λ r. r.bytes) (drop head.confirmed head.taken);
    }

abbrev pub kept_tail : Grammar → Tail → Kept
kept_tail grammar tail = record { grammar = grammar; part = parts.Tail; alone = tail.alone; log = tail.log; number = tail.applied; waiting = [] }

-- what arrives as bytes from a side
abbrev pub comes_from : Grammar → Side → List ℕ → Comes
comes_from grammar sides.Server bytes = asked bytes (messages.reading_by grammar bytes)
comes_from grammar sides.Other bytes = from_other_logger grammar (twins.reading_by grammar bytes)

-- the next state, and the datagrams that are sent, in order, each with its addressee
pub record KeptDoes : Type 0 where
  pub next : Kept
  pub sent : List (Side × List ℕ)

abbrev pub sends_nothing : Kept → KeptDoes
sends_nothing kept = record { next = kept; sent = [] }

abbrev pub answers_sent : Grammar → Option Message → List (Side × List ℕ)
answers_sent grammar answer = map (λ m. (sides.Server, messages.spelling_by grammar m)) (option_to_list answer)

abbrev pub sent_to_other : List Between → List (Side × List ℕ)
sent_to_other betweens = map (λ b. (sides.Other, bytes_of b)) betweens

-- the log takes a message, and its answer is sent
abbrev pub serves_alone : Message → Kept → KeptDoes
serves_alone message kept = record { next = record kept { log = log_after kept.log message }; sent = answers_sent kept.grammar (answer_to kept.log message) }

-- Forwards of these messages, the first with the number after `n`
abbrev pub forwards_sent : ℕ → List (List ℕ) → List (Side × List ℕ)
forwards_sent n [] = []
forwards_sent n (bytes ∷ rest) = (sides.Other, twins.spelling (datagrams.Forward (n + 1) bytes)) ∷ forwards_sent (n + 1) rest

-- how many requests of a head are confirmed
abbrev pub confirmed_of : Kept → ℕ
confirmed_of kept = kept.number - length kept.waiting

abbrev pub sends_kept : Kept → KeptDoes
sends_kept kept = record { next = kept; sent = forwards_sent (confirmed_of kept) kept.waiting }

abbrev pub has_kept_room : Kept → Bool
has_kept_room kept = may_take (length kept.waiting) kept.number

abbrev pub keeps_too : Request → Kept → Kept
keeps_too request kept =
    record kept { log = log_after kept.log request.message; number = kept.number + 1; waiting = kept.waiting ++ request.bytes ∷ [] }

-- whether a message is forwarded alone: it is a wide one, and isn't that of one that waits
abbrev pub forwards_once : List ℕ → Kept → Bool
forwards_once bytes kept = is_wide bytes && not (is_among bytes kept.waiting)

abbrev pub kept_takes : Request → Kept → KeptDoes
kept_takes request kept =
    if forwards_once request.bytes kept then record { next = keeps_too request kept; sent = forwards_sent kept.number (request.bytes ∷ []) }
    else sends_kept (keeps_too request kept)

abbrev pub kept_head_asked : Request → Kept → KeptDoes
kept_head_asked request kept =
    if is_answer request.message.body then sends_nothing kept else (if has_kept_room kept then kept_takes request kept else sends_kept kept)

-- a Got removes what it confirms
abbrev pub kept_confirmed : ℕ → Kept → Kept
kept_confirmed number kept =
    if nat_lt (confirmed_of kept) number && nat_le number kept.number then record kept { waiting = drop (number - confirmed_of kept) kept.waiting } else kept

abbrev pub applies_kept : Message → Kept → KeptDoes
applies_kept message kept = record {
  next = record kept { log = log_after kept.log message; number = kept.number + 1 };
  sent = answers_sent kept.grammar (answer_to kept.log message) ++ sent_to_other (Got (kept.number + 1) ∷ []);
}

abbrev pub kept_tail_reported : ℕ → Message → Kept → KeptDoes
kept_tail_reported number message kept =
    if number == kept.number + 1 then applies_kept message kept
    else (if nat_le number kept.number then record { next = kept; sent = sent_to_other (Got kept.number ∷ []) } else sends_nothing kept)

-- what each of these does: a logger that serves alone, a head of a pair, a tail of a pair
abbrev pub kept_alone_does : Comes → Kept → KeptDoes
kept_alone_does (Asks request) kept = serves_alone request.message kept
kept_alone_does _ kept = sends_nothing kept

abbrev pub kept_head_does : Comes → Kept → KeptDoes
kept_head_does (Asks request) kept = kept_head_asked request kept
kept_head_does (Reports (Got number)) kept = sends_nothing (kept_confirmed number kept)
kept_head_does _ kept = sends_nothing kept

abbrev pub kept_tail_does : Comes → Kept → KeptDoes
kept_tail_does (Reports (Forward number request)) kept = kept_tail_reported number request.message kept
kept_tail_does _ kept = sends_nothing kept

abbrev pub paired_does : Part → Comes → Kept → KeptDoes
paired_does parts.Head comes kept = kept_head_does comes kept
paired_does parts.Tail comes kept = kept_tail_does comes kept

abbrev pub does_of : Comes → Kept → KeptDoes
does_of comes kept = if kept.alone then kept_alone_does comes kept else paired_does kept.part comes kept

unfoldable pub kept_does : Side → List ℕ → Kept → KeptDoes
kept_does side bytes kept = does_of (comes_from kept.grammar side bytes) kept

-- what a logger does by its definition, in the same terms
abbrev pub in_bytes : {State : Type 0} → (State → Kept) → Does State → KeptDoes
in_bytes keep d =
    record { next = keep d.next; sent = map (λ m. (sides.Server, messages.spelling_by (keep d.next).grammar m)) d.to_server ++ sent_to_other d.to_other }
