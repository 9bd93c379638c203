-- The log with marks: the log with all its bytes and lengths, and for each entry at most one mark, from which a restart may begin. Nothing is dropped here. A
-- store may drop what is below a mark, since no answer reports it any more.
use Rattle.std.specs.Prelude.{ℕ, ◌==◌, Bool, true, false, ◌&&◌, not, nat_lt, nat_le, max, sum, Option, Some, None, option_map, List, [], take, length}
use Rattle.std.specs.Prelude.{if◌then◌else◌}
use Rattle.std.specs.Option.{option_map_or}
use Rattle.std.specs.List.{list_any}
use Rattle.ft_io.specs.declared.Key.{Key}
use Rattle.ft_io.specs.Key.{key_eq}
use Rattle.seq_arith.specs.Mark.{Mark, MarkBody, MarkMessage}
use Rattle.seq_arith.specs.Mark.MarkBody.{MarkMsg, MarkedMsg, AskMsg, HeldMsg}
use Rattle.seq_arith.specs.Message.{Message, Body}
use Rattle.seq_arith.specs.Message.Body.{BytesMsg, CutsMsg, StaleMsg}
use Rattle.ft_model.specs.Log.{Log, Entry, empty_log, entry_of, with_entry, log_after, answer_to}

-- the value for an entry that has no mark
abbrev pub no_mark : Mark
no_mark = record { reads = 0; length = 0; made = 0; state = [] }

pub record MarkedLog : Type 0 where
  pub log : Log
  pub marks : Key → Mark  -- `no_mark` for a key without one

abbrev pub nothing_logged : MarkedLog
nothing_logged = record { log = empty_log; marks = λ key. no_mark }

-- a closing read, of length 0, is among them
abbrev pub has_closing : List ℕ → Bool
has_closing lengths = list_any (λ n. n == 0) lengths

-- An entry's next mark lies after more reads than the one before it. These reads are logged, its length is how many bytes they took, and no closing read is
-- among them
abbrev pub may_follow : Mark → Mark → Entry → Bool
may_follow before next e =
    nat_lt before.reads next.reads && nat_le next.reads (length e.lengths) && next.length == sum (take next.reads e.lengths)
    && not (has_closing (take next.reads e.lengths))

abbrev pub keeps : Key → Mark → MarkedLog → Bool
keeps key mark l = option_map_or (may_follow (l.marks key) mark) (entry_of key l.log) false

-- the output that a mark counts is acknowledged
abbrev pub acknowledging : ℕ → Entry → Entry
acknowledging units e = record e { acknowledged = max e.acknowledged units }

abbrev pub with_mark : Key → Mark → MarkedLog → MarkedLog
with_mark key mark l = record {
  log = with_entry key (acknowledging mark.made) l.log;
  marks = λ k. if key_eq k key then mark else l.marks k;
}

-- the marked log after a message about marks of the log's own boot
abbrev pub with_mark_body : MarkBody → MarkedLog → MarkedLog
with_mark_body (MarkMsg key mark) l = if keeps key mark l then with_mark key mark l else l
with_mark_body _ l = l

-- The marked log after a message about marks. A message of another boot than the log's changes nothing.
unfoldable pub after_mark : MarkedLog → MarkMessage → MarkedLog
after_mark l message = if message.boot == l.log.boot then with_mark_body message.body l else l

-- .. and after any other message, which changes the log as without marks. The marks stay.
abbrev pub after_message : MarkedLog → Message → MarkedLog
after_message l message = record l { log = log_after l.log message }

-- whether a question asks for bytes or lengths below the mark. No answer reports these
abbrev pub is_below : MarkedLog → Body → Bool
is_below l (BytesMsg key offset) = nat_lt offset (l.marks key).length
is_below l (CutsMsg key first) = nat_lt first (l.marks key).reads
is_below l _ = false

-- The answer to a message that isn't about marks.
unfoldable pub answer_above : MarkedLog → Message → Option Message
answer_above l message = if message.boot == l.log.boot && is_below l message.body then None else answer_to l.log message

-- a message between a server and its log with marks: one about marks, or any other
pub data AnyMessage : Type 0 where
  About_mark : MarkMessage → AnyMessage
  Of_log : Message → AnyMessage

-- only the logger sends such a body
abbrev pub is_mark_answer : MarkBody → Bool
is_mark_answer (MarkedMsg key reads) = true
is_mark_answer (HeldMsg key mark) = true
is_mark_answer _ = false

-- the body of the answer, if the key has an entry: how many reads its mark has, or the mark itself
abbrev pub reported_of_mark : MarkBody → MarkedLog → Option MarkBody
reported_of_mark (MarkMsg key mark) l = option_map (λ e. MarkedMsg key (l.marks key).reads) (entry_of key l.log)
reported_of_mark (AskMsg key) l = option_map (λ e. HeldMsg key (l.marks key)) (entry_of key l.log)
reported_of_mark _ l = None

abbrev pub about_mark : ℕ → MarkBody → AnyMessage
about_mark boot body = About_mark (record { boot = boot; body = body })

-- The answer to a message about marks, once the log has taken it. A message of an older boot gets Stale, one of a newer boot nothing.
unfoldable pub answer_to_mark : MarkedLog → MarkMessage → Option AnyMessage
answer_to_mark l message =
    if is_mark_answer message.body then None
    else (if nat_lt message.boot l.log.boot then Some (Of_log (record { boot = message.boot; body = StaleMsg l.log.boot }))
    else (if message.boot == l.log.boot then option_map (about_mark message.boot) (reported_of_mark message.body (after_mark l message)) else None))
