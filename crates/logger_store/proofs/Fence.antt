-- A message of an older boot gets Stale.
use Rattle.std.proofs.Common.{◌≡◌, true, false, ◌<◌, ◌≤◌, nat_lt, refl, arith, Some}
use Rattle.seq_arith.specs.Message.{Message, is_answer}
use Rattle.seq_arith.specs.Message.Body.{StaleMsg}
use Rattle.ft_model.specs.Log.{Log, log_after, answer_to, is_hello}
use Rattle.ft_model.specs.Growth.{LogGrows}
use Rattle.ft_model.proofs.Grows.{hello_raises}

older_gets_stale : (log : Log) (message : Message) → message.boot < log.boot → is_answer message.body ≡ false
    → answer_to log message ≡ Some (record { boot = message.boot; body = StaleMsg log.boot })
unfolding answer_to
older_gets_stale log message older asks =
    let old : nat_lt message.boot log.boot ≡ true = grind (arith, older) in rw (asks, old) refl

pub stale_for_good : (log later : Log) (hello message : Message) → is_hello hello.body ≡ true → LogGrows (log_after log hello) later → message.boot < hello.boot
    → is_answer message.body ≡ false → answer_to later message ≡ Some (record { boot = message.boot; body = StaleMsg later.boot })
stale_for_good log later hello message h g older asks =
    let raised : hello.boot ≤ (log_after log hello).boot = hello_raises log hello h in
    let grown : (log_after log hello).boot ≤ later.boot = g.boot in
    older_gets_stale later message (omega (arith, older, raised, grown)) asks
