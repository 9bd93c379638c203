-- What a node that marks sends, as bytes, and where its marks are among its packets.
use Rattle.std.specs.Prelude.{◌≡◌, ℕ, ◌-◌, Bool, false, List, ◌++◌, map, filter, length, take, drop, Result, Ok, Err}
use Rattle.std.specs.List.{AllByRecursion}
use Rattle.ft_io.specs.declared.Key.{Key}
use Rattle.seq_arith.specs.Mark.{Mark, MarkMessage}
use Rattle.seq_arith.specs.Mark.MarkBody.{MarkMsg}
use Rattle.seq_arith.specs.MarkGrammar as marks
use Rattle.seq_arith.specs.Message.{Message}
use Rattle.seq_arith.specs.MessageGrammar as messages
use Rattle.seq_arith.specs.declared.kinds.BadMsg.{BadMsg}
use Rattle.seq_arith.specs.declared.kinds.Grammar.{Grammar}
use Rattle.ft_model.specs.Wire.{Wire, Party, wire_by, HasWireBy}
use Rattle.ft_model.specs.Wire.Party.{A_client, The_server, The_logger}
use Rattle.mark_laws.specs.Marking.{Outgoing}
use Rattle.mark_laws.specs.Marking.Outgoing.{Plain, Mark_to_logger}
use Rattle.mark_laws.specs.MarkedNode.{says_done}

-- a message about marks to the logger. There is one grammar of such messages
abbrev pub mark_wire : MarkMessage → Wire
mark_wire message = record { from = The_server; to = The_logger; bytes = marks.spelling message }

-- an outgoing packet's bytes, with the addressee, where the other messages are written in this grammar
abbrev pub outgoing_wire : Grammar → Outgoing → Wire
outgoing_wire grammar (Plain packet) = wire_by grammar packet
outgoing_wire grammar (Mark_to_logger message) = mark_wire message

-- an outgoing packet can be written, so its wire determines it
abbrev pub HasOutgoingWire : Grammar → Outgoing → Type 0
HasOutgoingWire grammar (Plain packet) = HasWireBy grammar packet
HasOutgoingWire grammar (Mark_to_logger message) = marks.IsSpellable message

-- all this is sent, after what was sent before, each in its one spelling
pub record AreOut (grammar : Grammar) (sent : List Outgoing) (old new : List Wire) : Type 0 where
  pub wires : new ≡ old ++ map (outgoing_wire grammar) sent
  pub spelled : AllByRecursion (HasOutgoingWire grammar) sent

-- bytes that the logger reads as the message that a connection is done
abbrev pub says_done_in : Result Message BadMsg → Bool
says_done_in (Ok message) = says_done message.body
says_done_in (Err bad) = false

abbrev pub is_done_at : Grammar → Party → List ℕ → Bool
is_done_at grammar The_logger bytes = says_done_in (messages.reading_by grammar bytes)
is_done_at grammar The_server bytes = false
is_done_at grammar (A_client key) bytes = false

abbrev pub is_done_wire : Grammar → Wire → Bool
is_done_wire grammar wire = is_done_at grammar wire.to wire.bytes

-- all packets, with `more` inserted before the last `behind`
abbrev pub put_before : (behind : ℕ) → (more all : List Wire) → List Wire
put_before behind more all = take (length all - behind) all ++ (more ++ drop (length all - behind) all)

abbrev pub mark_message : (boot : ℕ) → Key → Mark → MarkMessage
mark_message boot key mark = record { boot = boot; body = MarkMsg key mark }

abbrev pub mark_wires : (boot : ℕ) → Key → List Mark → List Wire
mark_wires boot key sent = map (λ mark. mark_wire (mark_message boot key mark)) sent

-- a key's marks are inserted before the last n packets, where n is how many packets after the first `from` say that a connection is done
pub record SendsMarks (grammar : Grammar) (boot : ℕ) (key : Key) (from : ℕ) (sent : List Mark) (old new : List Wire) : Type 0 where
  pub wires : new ≡ put_before (length (filter (is_done_wire grammar) (drop from old))) (mark_wires boot key sent) old
  pub spelled : AllByRecursion (λ mark. marks.IsSpellable (mark_message boot key mark)) sent
