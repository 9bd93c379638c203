-- The connection that bytes between server and logger are about.
use Rattle.std.specs.Prelude.{Bool, false, Option, Some, None, Result, Ok, Err, List, ℕ}
use Rattle.ft_io.specs.declared.Key.{Key}
use Rattle.ft_io.specs.Key.{key_eq}
use Rattle.seq_arith.specs.Message.{Message}
use Rattle.seq_arith.specs.MessageGrammar as messages
use Rattle.seq_arith.specs.declared.kinds.BadMsg.{BadMsg}
use Rattle.seq_arith.specs.declared.kinds.Grammar.{Grammar}
use Rattle.long_laws.specs.ForgetGrammar as forgets
use Rattle.long_laws.specs.Forgetting.{ForgetMessage, named_of}
use Rattle.long_laws.specs.LongTrace.{is_about}

-- something names a key, or none
abbrev pub names : Option Key → Key → Bool
names (Some k) key = key_eq k key
names None key = false

abbrev pub said_about : Result Message BadMsg → Result ForgetMessage BadMsg → Key → Bool
said_about (Ok message) _ key = is_about key message.body
said_about (Err why) (Ok message) key = key_eq (named_of message.body).key key
said_about (Err why) (Err other) key = false

abbrev pub key_said : Grammar → List ℕ → Key → Bool
key_said grammar bytes key = said_about (messages.reading_by grammar bytes) (forgets.reading bytes) key
