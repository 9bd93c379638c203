-- The code's messages about forgetting as plain values of their grammar.
use Rattle.std.specs.Prelude.{Result, Ok, Err}
use Rattle.seq_arith.specs.declared.kinds.BadMsg.{BadMsg}
use Rattle.long_laws.specs.Forgetting as said
use Rattle.long_laws.specs.Forgetting.{ForgetMessage}
use Rattle.long_laws.specs.Forgetting.{ForgetBody as bodies}
use Rattle.long_laws.specs.ForgetGrammar.{ForgetKind}
use Rattle.long_laws.specs.ForgetGrammar.{ForgetKind as kinds}
use Rattle.forget_wire.specs.declared.message.ForgetMsg.{ForgetMsg}
use Rattle.forget_wire.specs.declared.message.Named.{Named}
use Rattle.forget_wire.specs.declared.message.ForgetBody.{ForgetBody}
use Rattle.forget_wire.specs.declared.message.ForgetBody.TheVariants as body
use Rattle.forget_wire.specs.declared.message.Kind.{Kind}
use Rattle.forget_wire.specs.declared.message.Kind.TheVariants as kind

abbrev pub named_said : Named → said.Named
named_said named = record { key = named.key; cisn = named.cisn; sisn = named.sisn }

abbrev pub body_of : ForgetBody → said.ForgetBody
body_of (body.Forget named) = bodies.ForgetMsg (named_said named)
body_of (body.Forgotten named) = bodies.ForgottenMsg (named_said named)

abbrev pub message_of : ForgetMsg → ForgetMessage
message_of msg = record { boot = msg.boot; body = body_of msg.body }

abbrev pub kind_said : Kind → ForgetKind
kind_said kind.Forget = kinds.Forget
kind_said kind.Forgotten = kinds.Forgotten

-- a result of reading, as a plain value
abbrev pub seen : Result ForgetMsg BadMsg → Result ForgetMessage BadMsg
seen (Ok msg) = Ok (message_of msg)
seen (Err bad) = Err bad
