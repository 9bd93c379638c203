use Rattle.std.proofs.Common.{◌∙◌, refl, sym}
use Rattle.std.proofs.lemmas.Result.{on_ok_weaker}
use Rattle.plain_point.specs.Values.{data_in}
use Rattle.plain_connection.proofs.Copies.{last_sent, none_sent}
use Rattle.plain_connection.proofs.logging.send_last.Goals as goal

pub returns-then-has_any : goal.returns-then-has_any
returns-then-has_any c = λ batches.
    on_ok_weaker c.send_data.result
    (λ e. last_sent c.args.boot c.args.sent.now c.send_data.new.sent batches (data_in c.args.part.now) refl c.requires (sym c.has_any.ensures ∙ c.if-has_any.true) e)
    c.send_data.ensures

pub returns-else-has_any : goal.returns-else-has_any
returns-else-has_any c = λ batches. none_sent c.args.boot c.args.sent.now batches (data_in c.args.part.now) (sym c.has_any.ensures ∙ c.if-has_any.false)
