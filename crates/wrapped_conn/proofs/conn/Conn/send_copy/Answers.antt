use Rattle.std.proofs.Common.{◌≤◌, ◌^◌, sym, subst, ◌∙◌}
use Rattle.std.proofs.lemmas.Result.{IfOk-at_ok}
use Rattle.seq_arith.specs.PacketGrammar.{segment_in}
use Rattle.segment_codec.proofs.Accepting.{is_read}
use Rattle.wrapped_conn.proofs.Copied.{start_low, copies_reported}
use Rattle.wrapped_conn.proofs.Small.{taken_small}
use Rattle.wrapped_conn.proofs.conn.Conn.send_copy.Goals as goal

pub send_further-requires-clause-start : goal.send_further-requires-clause-start
send_further-requires-clause-start g c = λ held.
    let here = c.args.self.now in
    let segment = segment_in c.args.packet.now in
    let start = IfOk-at_ok _ (is_read c.args.packet.now c.requires.accepted) c.further_start-start.ensures in
    subst (λ n. n ≤ 2 ^ 24) (sym start)
    (start_low c.args.before _ segment here c.requires.before (taken_small here c.requires.sound) (sym c.takes_held_fin-fin.ensures ∙ held))

pub returns-clause-reported : goal.returns-clause-reported
returns-clause-reported g c =
    copies_reported c.args.packet.now c.args.before c.args.self.now c.copies_fin.result c.has_more-more.result c.further_start-start.result c.takes_held_fin-fin.result c.send_own.new.out c.send_further.new.out c.send_una.new.out
    c.requires.accepted c.send_own.ensures.reported c.copies_fin.ensures c.further_start-start.ensures c.takes_held_fin-fin.ensures c.has_more-more.ensures.value c.send_further.ensures.reported c.send_una.ensures.reported
