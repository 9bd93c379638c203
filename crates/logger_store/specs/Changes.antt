-- Which messages change a log: exactly those for which `changes` is true.
use Rattle.limits.specs.Limits.{most_entries}
use Rattle.std.specs.Prelude.{Bool, false, not, length, ◌+◌, ◌==◌, ◌&&◌, ◌||◌, nat_lt, nat_le, if◌then◌else◌}
use Rattle.std.specs.List.{list_any}
use Rattle.std.specs.Option.{option_map_or}
use Rattle.ft_io.specs.Key.{key_eq}
use Rattle.seq_arith.specs.Message.{Message, Body, Part, is_answer}
use Rattle.seq_arith.specs.Message.Body.{OpenMsg, DataMsg, ReadMsg, DoneMsg}
use Rattle.ft_model.specs.Log.{Log, Entry, is_hello, is_next_read, entry_of}

-- a part changes an entry if it raises the acknowledged units; or if no FIN is logged, the part leaves no gap, and it either has bytes past the logged ones,
-- or has a FIN and ends where they end
abbrev pub part_changes : Part → Entry → Bool
part_changes part e =
    let end = part.offset + length part.bytes
    in nat_lt e.acknowledged part.acked
    || (not e.fin && nat_le part.offset (length e.bytes) && (nat_lt (length e.bytes) end || (part.fin && end == length e.bytes)))

-- the body of a message with the log's boot number changes the log if it opens an entry for a new key while there is room, or has such a part, the next read,
-- or an end that isn't noted yet
abbrev pub body_changes : Body → Log → Bool
body_changes (OpenMsg n) log = not (list_any (λ e. key_eq e.key n.key) log.entries || nat_le most_entries (length log.entries))
body_changes (DataMsg part) log = option_map_or (part_changes part) (entry_of part.key log) false
body_changes (ReadMsg key index n) log = option_map_or (λ e. is_next_read e index n) (entry_of key log) false
body_changes (DoneMsg key) log = option_map_or (λ e. not e.done) (entry_of key log) false
body_changes _ log = false

-- .. and a message changes it if it is a Hello of a larger boot, or has the log's boot number and such a body
unfoldable pub changes : Log → Message → Bool
changes log message =
    not (is_answer message.body)
    && (if is_hello message.body then nat_lt log.boot message.boot else message.boot == log.boot && body_changes message.body log)
