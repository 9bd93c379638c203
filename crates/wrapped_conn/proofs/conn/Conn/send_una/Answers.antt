use Rattle.std.proofs.Common.{◌≡◌, ◌∙◌, ◌++◌, ◌∷◌, [], true, false, nat_lt, arith}
use Rattle.seq_arith.specs.Message.Body.{DataMsg}
use Rattle.wrapped_conn.specs.LoggerMessages.{spelled}
use Rattle.wrapped_conn.specs.Numbers.{una_units}
use Rattle.wrapped_conn.proofs.Copied.{una_reported, nothing_yet}
use Rattle.wrapped_conn.proofs.conn.Conn.send_una.Goals as goal

pub returns-then-una_before-acked-clause-reported : goal.returns-then-una_before-acked-clause-reported
returns-then-una_before-acked-clause-reported g c =
    let here = c.args.self.now in
    let less : nat_lt c.args.una_before (una_units here) ≡ true = grind (arith, c.if-una_before-acked.true, c.una-acked.ensures.value) in
    let none : c.args.out.now ≡ [] = nothing_yet c.args.out.now c.is_empty.result c.is_empty.ensures c.if-is_empty.true in
    una_reported here c.args.una_before c.args.out.now c.send_data.new.out less none
    (c.send_data.ensures.reported
    ∙ (λ j. c.args.out.now ++ spelled here.batches here.boot (DataMsg (record { key = here.key; offset = c.logged_bytes.ensures.value j; acked = c.una-acked.ensures.value j; fin = false; more = false; bytes = [] }) ∷ [])))
