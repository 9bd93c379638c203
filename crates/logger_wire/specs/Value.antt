-- The code's messages as plain records of the message grammar, and which of them may be sent.
use Rattle.std.specs.Prelude.{ℕ, ◌≡◌, ◌%◌, length, Result, Ok, Err}
use Rattle.seq_arith.specs.declared.kinds.BadMsg.{BadMsg}
use Rattle.seq_arith.specs.declared.kinds.Grammar.{Grammar}
use Rattle.seq_arith.specs.declared.kinds.Grammar.TheVariants.{Plain}
use Rattle.seq_arith.specs.Message as said
use Rattle.seq_arith.specs.Message.{Message}
use Rattle.seq_arith.specs.Message.{Body as bodies}
use Rattle.seq_arith.specs.MessageGrammar.{lens_in, IsSpellableBy}
use Rattle.logger_wire.specs.declared.Msg.{Msg}
use Rattle.logger_wire.specs.declared.Body.{Body}
use Rattle.logger_wire.specs.declared.Body.TheVariants as body
use Rattle.logger_wire.specs.Records.{numbers_said, kept_said, head_said, part_said}

abbrev pub body_of : Body → said.Body
body_of body.Hello = bodies.HelloMsg
body_of (body.Summary count) = bodies.SummaryMsg count
body_of (body.List index) = bodies.ListMsg index
body_of (body.Entry index head) = bodies.EntryMsg index (head_said head)
body_of (body.Bytes key offset) = bodies.BytesMsg key offset
body_of (body.Part key offset bytes) = bodies.PartMsg key offset bytes.now
body_of (body.Cuts key first) = bodies.CutsMsg key first
body_of (body.Lens key first lens) = bodies.LensMsg key first (lens_in lens.now)
body_of (body.Open numbers) = bodies.OpenMsg (numbers_said numbers)
body_of (body.Opened numbers) = bodies.OpenedMsg (numbers_said numbers)
body_of (body.Data part) = bodies.DataMsg (part_said part)
body_of (body.Stable kept) = bodies.StableMsg (kept_said kept)
body_of (body.Read key index length) = bodies.ReadMsg key index length
body_of (body.Reads kept) = bodies.ReadsMsg (kept_said kept)
body_of (body.Done key) = bodies.DoneMsg key
body_of (body.Ended key) = bodies.EndedMsg key
body_of (body.Stale newer) = bodies.StaleMsg newer
body_of (body.Full key) = bodies.FullMsg key

abbrev pub message_of : Msg → Message
message_of msg = record { boot = msg.boot; body = body_of msg.body }

-- a result of reading, as a plain record
abbrev pub seen : Result Msg BadMsg → Result Message BadMsg
seen (Ok msg) = Ok (message_of msg)
seen (Err bad) = Err bad

-- how many bytes are left over from a body's lengths of two bytes each
abbrev pub left_over : Body → ℕ
left_over (body.Lens key first lens) = length lens.now % 2
left_over _ = 0

-- a message may be sent in a grammar: its lengths have two bytes each, each field is in its range, and its kind allows its length
pub record IsSendableBy (grammar : Grammar) (msg : Msg) : Type 0 where
  pub lens : left_over msg.body ≡ 0
  pub spellable : IsSpellableBy grammar (message_of msg)

-- .. in the plain one
abbrev pub IsSendable : Msg → Type 0
IsSendable msg = IsSendableBy Plain msg
