-- The answer to a message, given the log that has taken it.
use Rattle.std.specs.Prelude.{ℕ, ◌==◌, nat_lt, Option, Some, None, option_map, List, [], take, drop, if◌then◌else◌}
use Rattle.std.specs.Option.{option_map_or}
use Rattle.seq_arith.specs.Message.{Body, Message, is_answer}
use Rattle.seq_arith.specs.Message.Body.{CutsMsg, StaleMsg}
use Rattle.ft_model.specs.Log.{Log, entry_of, answer_from}

-- a server of an older boot gets the newer boot number, one of the log's own boot gets its answer, and no other gets any
abbrev pub reply_body : Log → Message → Option Body
reply_body log message =
    if is_answer message.body then None
    else (if nat_lt message.boot log.boot then Some (StaleMsg log.boot) else (if message.boot == log.boot then answer_from message.body log else None))

abbrev pub reply : Log → Message → Option Message
reply log message = option_map (λ body. record { boot = message.boot; body = body }) (reply_body log message)

-- the lengths that a body asks for
abbrev pub lengths_asked : Body → Log → List ℕ
lengths_asked (CutsMsg key first) log = option_map_or (λ e. take 512 (drop first e.lengths)) (entry_of key log) []
lengths_asked _ log = []
