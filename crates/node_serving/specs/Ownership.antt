-- The key to which a packet of the node belongs: it is sent to that client, or it is a message to the logger about that client's connection.
use Rattle.std.specs.Prelude.{◌≡◌, ◌++◌, ℕ, Bool, true, false, IfOk, List, filter, Result, Ok, Err}
use Rattle.std.specs.List.{AllByRecursion}
use Rattle.ft_io.specs.declared.Key.{Key}
use Rattle.ft_io.specs.Key.{key_eq}
use Rattle.seq_arith.specs.declared.kinds.BadMsg.{BadMsg}
use Rattle.seq_arith.specs.declared.kinds.Grammar.{Grammar}
use Rattle.seq_arith.specs.Message.{Body, Message}
use Rattle.seq_arith.specs.Message.Body.{OpenMsg, DataMsg, ReadMsg, DoneMsg}
use Rattle.seq_arith.specs.MessageGrammar as messages
use Rattle.ft_model.specs.Wire.{Wire, Party}
use Rattle.ft_model.specs.Wire.Party.{A_client, The_server, The_logger}

-- whether a message of the server is about this key's connection
abbrev pub reports_of : Body → Key → Bool
reports_of (OpenMsg numbers) key = key_eq numbers.key key
reports_of (DataMsg part) key = key_eq part.key key
reports_of (ReadMsg named index length) key = key_eq named key
reports_of (DoneMsg named) key = key_eq named key
reports_of _ key = false

-- whether the message that the logger reads in a datagram is about it
abbrev pub is_reported_of : Key → Result Message BadMsg → Bool
is_reported_of key (Ok message) = reports_of message.body key
is_reported_of key (Err bad) = false

abbrev pub goes_to : Grammar → Key → Party → List ℕ → Bool
goes_to grammar key (A_client client) bytes = key_eq client key
goes_to grammar key The_logger bytes = is_reported_of key (messages.reading_by grammar bytes)
goes_to grammar key The_server bytes = false

-- whether a packet is this key's: it is sent to this client, or it is a message to the logger about it
abbrev pub is_of : Grammar → Key → Wire → Bool
is_of grammar key wire = goes_to grammar key wire.to wire.bytes

-- the packets of this key, in order
abbrev pub of_key : Grammar → Key → List Wire → List Wire
of_key grammar key sent = filter (is_of grammar key) sent

-- a packet is this key's alone: only its client gets it, or the logger, and the message that the logger reads there, if it reads one, is about this key
abbrev pub IsBetween : Grammar → Key → Party → List ℕ → Type 0
IsBetween grammar key (A_client client) bytes = key_eq client key ≡ true
IsBetween grammar key The_logger bytes = IfOk (messages.reading_by grammar bytes) (λ message. reports_of message.body key ≡ true)
IsBetween grammar key The_server bytes = ⊥

abbrev pub IsFor : Grammar → Key → Wire → Type 0
IsFor grammar key wire = IsBetween grammar key wire.to wire.bytes

-- only packets of this key alone are sent, after what was sent before
pub record IsOnlyFor (grammar : Grammar) (key : Key) (old new : List Wire) : Type 0 where
  pub reported : List Wire
  pub put : new ≡ old ++ reported
  pub alone : AllByRecursion (IsFor grammar key) reported
