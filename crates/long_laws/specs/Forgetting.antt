-- The messages by which a server has the log recycle the entry of a connection that is done, and what the log does with them.
use Rattle.std.specs.Prelude.{◌≡◌, ℕ, ◌==◌, ◌&&◌, nat_lt, Bool, true, false, if◌then◌else◌, Option, Some, None}
use Rattle.std.specs.List.{list_any}
use Rattle.ft_io.specs.declared.Key.{Key}
use Rattle.ft_io.specs.Key.{key_eq}
use Rattle.seq_arith.specs.Message.{Message}
use Rattle.seq_arith.specs.Message.Body.{StaleMsg}
use Rattle.ft_model.specs.Log.{Log, Entry, entry_of}
use Rattle.long_laws.specs.LongTrace.{others, without_entry}

-- a connection, named by its key and both initial sequence numbers, so that a late message isn't taken for one about a later connection of its key (RFC 9293,
-- 3.4.1)
pub record Named : Type 0 where
  pub key : Key
  pub cisn : ℕ
  pub sisn : ℕ

pub data ForgetBody : Type 0 where
  ForgetMsg : Named → ForgetBody  -- from the server: its entry may be recycled
  ForgottenMsg : Named → ForgetBody  -- from the log: it has no entry of this connection any more

pub record ForgetMessage : Type 0 where
  pub boot : ℕ
  pub body : ForgetBody

-- the connection that a message is about
abbrev pub named_of : ForgetBody → Named
named_of (ForgetMsg n) = n
named_of (ForgottenMsg n) = n

abbrev pub forget : (boot : ℕ) → Named → ForgetMessage
forget boot n = record { boot = boot; body = ForgetMsg n }

abbrev pub forgotten_message : (boot : ℕ) → Named → ForgetMessage
forgotten_message boot n = record { boot = boot; body = ForgottenMsg n }

-- the entry is of this connection, ..
abbrev pub is_entry_of : Named → Entry → Bool
is_entry_of n e = key_eq e.key n.key && (e.cisn == n.cisn && e.sisn == n.sisn)

-- .. and is recycled if it is done
abbrev pub is_recycled : Named → Entry → Bool
is_recycled n e = is_entry_of n e && e.done

abbrev pub forgotten_in : Named → Log → Log
forgotten_in n log = record log { entries = others (is_recycled n) log.entries }

abbrev pub with_forget : ForgetBody → Log → Log
with_forget (ForgetMsg n) log = forgotten_in n log
with_forget (ForgottenMsg n) log = log

-- The log after a message about forgetting. One of another boot than the log's changes nothing, nor does one that only the logger sends.
unfoldable pub after_forget : Log → ForgetMessage → Log
after_forget log message = if message.boot == log.boot then with_forget message.body log else log

-- the entry that a Forget has recycled
pub record IsRecycled (log : Log) (message : ForgetMessage) : Type 0 where
  pub named : Named
  pub is : message ≡ forget log.boot named
  pub entry : Entry
  pub found : entry_of named.key log ≡ Some entry
  pub cisn : entry.cisn ≡ named.cisn
  pub sisn : entry.sisn ≡ named.sisn
  pub done : entry.done ≡ true
  pub after : after_forget log message ≡ without_entry named.key log

-- the log has no entry of this connection
abbrev pub IsGone : Named → Log → Type 0
IsGone n log = list_any (is_entry_of n) log.entries ≡ false

-- what the logger answers: a message about forgetting, or any other
pub data ForgetAnswer : Type 0 where
  About_forgetting : ForgetMessage → ForgetAnswer
  Of_log : Message → ForgetAnswer

abbrev pub reported_of : ℕ → ForgetBody → Log → Option ForgetAnswer
reported_of boot (ForgetMsg n) log = if list_any (is_entry_of n) log.entries then None else Some (About_forgetting (forgotten_message boot n))
reported_of boot (ForgottenMsg n) log = None

abbrev pub is_forget_answer : ForgetBody → Bool
is_forget_answer (ForgetMsg n) = false
is_forget_answer (ForgottenMsg n) = true

-- The answer to a message about forgetting, once the log has taken it: Forgotten where the log doesn't have the connection then. A message of an older boot
-- gets Stale, as any other message would, and one of a newer boot nothing.
unfoldable pub answer_to_forget : Log → ForgetMessage → Option ForgetAnswer
answer_to_forget log message =
    if is_forget_answer message.body then None
    else (if nat_lt message.boot log.boot then Some (Of_log (record { boot = message.boot; body = StaleMsg log.boot }))
    else (if message.boot == log.boot then reported_of message.boot message.body (after_forget log message) else None))
