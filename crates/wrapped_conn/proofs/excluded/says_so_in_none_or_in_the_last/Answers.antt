use Rattle.std.proofs.Common.{◌∙◌, ap₂}
use Rattle.ft_io.proofs.Outcomes.{if_ok}
use Rattle.seq_arith.specs.PacketGrammar.{reading}
use Rattle.wrapped_conn.specs.LoggerMessages.{spelled}
use Rattle.wrapped_conn.proofs.Batches.{two_copied}
use Rattle.wrapped_conn.proofs.excluded.says_so_in_none_or_in_the_last.Goals as goal

pub returns : goal.returns
returns g c = if_ok (reading c.args.packet.now)
    (λ segment reported first last own further.
    reported ∙ ap₂ (λ wide bodies. spelled wide c.args.conn.now.boot bodies) c.requires.batches (two_copied c.args.before segment c.args.conn.now first last c.requires.batches own further))
    c.send_copy.ensures.reported
