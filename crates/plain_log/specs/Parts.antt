-- What a message changes in one entry.
use Rattle.limits.specs.Limits.{longest_stream}
use Rattle.std.specs.Prelude.{true, ◌≤◌, ◌+◌, ◌^◌, length, if◌then◌else◌}
use Rattle.ft_io.specs.Key.{key_eq}
use Rattle.seq_arith.specs.Message.{Body}
use Rattle.seq_arith.specs.Message.Body.{DataMsg, ReadMsg, DoneMsg}
use Rattle.ft_model.specs.Log.{Entry, with_part, with_read}

-- the bytes in a message are within the longest stream
abbrev pub StaysInStream : Body → Type 0
StaysInStream (DataMsg part) = part.offset + length part.bytes ≤ longest_stream
StaysInStream _ = Unit {0}

-- the entry after a body, which changes it only if it is about the entry's key
abbrev pub logged_in : Body → Entry → Entry
logged_in (DataMsg part) e = if key_eq e.key part.key then with_part part e else e
logged_in (ReadMsg key index length) e = if key_eq e.key key then with_read index length e else e
logged_in (DoneMsg key) e = if key_eq e.key key then record e { done = true } else e
logged_in _ e = e
