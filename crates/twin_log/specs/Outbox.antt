-- What a logger sends, as the code stores it.
use Rattle.std.specs.Prelude.{ℕ, Bool, true, not, List, [], ◌∷◌, ◌≡◌, ◌+◌, length, map, Vec}
use Rattle.std.specs.declared.alloc.Global.{Global}
use Rattle.std.specs.List.{AllByRecursion}
use Rattle.seq_arith.specs.Message.{Message, is_answer}
use Rattle.seq_arith.specs.TwinGrammar.{has_length}
use Rattle.seq_arith.specs.declared.twin.TwinKind.TheVariants as kinds
use Rattle.twin_laws.specs.declared.part.Side.{Side}
use Rattle.twin_laws.specs.declared.part.Side.TheVariants as sides
use Rattle.twin_laws.specs.Twin.{Request}

-- an answer of the log is sent to the server; where there is none, nothing is sent
abbrev pub answer_out : List ℕ → List (Side × List ℕ)
answer_out [] = []
answer_out (byte ∷ bytes) = (sides.Server, byte ∷ bytes) ∷ []

-- bytes of the length of a message: a Forward has room for them
abbrev pub is_forwardable : List ℕ → Bool
is_forwardable message = has_length kinds.Forward (16 + length message)

abbrev pub AreForwardable : List (List ℕ) → Type 0
AreForwardable messages = AllByRecursion (λ message. is_forwardable message ≡ true) messages

-- the bytes of messages, each in a vector of its own
abbrev pub texts_of : List (Vec ℕ Global) → List (List ℕ)
texts_of messages = map (λ message. message.items) messages

-- a message with the bytes in which it arrived
abbrev pub request_in : List ℕ → Message → Request
request_in bytes message = record { bytes = bytes; message = message }

abbrev pub is_asking_message : Message → Bool
is_asking_message message = not (is_answer message.body)
