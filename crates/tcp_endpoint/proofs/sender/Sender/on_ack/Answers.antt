use Rattle.std.proofs.Common.{◌≡◌, ◌∙◌, false, refl, sym, ap}
use Rattle.std.specs.Prelude.{◌||◌, if◌then◌else◌}
use Rattle.seq_arith.specs.Number.{offset_of}
use Rattle.tcp_buffers.specs.Near.{is_ahead}
use Rattle.ft_io.proofs.Booleans.{not_true}
use Rattle.tcp_endpoint.specs.declared.sender.AckUse.TheVariants.{Used, ShowsLoss}
use Rattle.tcp_endpoint.specs.SendHalf.{Sending, acknowledged, duplicated, shows_loss, untimed_if}
use Rattle.tcp_endpoint.proofs.Acks.{third_is, loss_is, answered_is}
use Rattle.tcp_endpoint.proofs.sender.Sender.on_ack.Goals as goal

pub returns-clause-used : goal.returns-clause-used
returns-clause-used c short =
    let s = c.args.self.now in
    let z = offset_of s.iss c.args.ack.0 in
    let sent : is_ahead s.sent z ≡ false = not_true _ (sym (c.acknowledge.ensures.used short) ∙ c.if-not-acknowledge.false) in
    let acked : c.acknowledge.new.self ≡ acknowledged s c.args.seq.0 z c.args.window = c.acknowledge.ensures.state short ∙ rw sent refl in
    let third = c.count_duplicate-is_third.ensures.third
    ∙ third_is s c.args.is_bare c.args.seq.0 z c.args.window c.is_duplicate-is_duplicate.result c.acknowledge.new.self (c.is_duplicate-is_duplicate.ensures short) acked in
    let loss : (c.count_duplicate-is_third.result || c.is_partial-is_partial.result) ≡ shows_loss s c.args.is_bare z c.args.window =
    loss_is s c.args.is_bare z c.args.window _ _ third (c.is_partial-is_partial.ensures short sent) in
    rw sent (c.note_loss.ensures.used ∙ ap (λ b. if b then ShowsLoss else Used) loss)

pub returns-clause-state : goal.returns-clause-state
returns-clause-state c short =
    let s = c.args.self.now in
    let z = offset_of s.iss c.args.ack.0 in
    let sent : is_ahead s.sent z ≡ false = not_true _ (sym (c.acknowledge.ensures.used short) ∙ c.if-not-acknowledge.false) in
    let acked : c.acknowledge.new.self ≡ acknowledged s c.args.seq.0 z c.args.window = c.acknowledge.ensures.state short ∙ rw sent refl in
    let duplicate = c.is_duplicate-is_duplicate.result in
    let third = c.count_duplicate-is_third.ensures.third
    ∙ third_is s c.args.is_bare c.args.seq.0 z c.args.window duplicate c.acknowledge.new.self (c.is_duplicate-is_duplicate.ensures short) acked in
    let lost = c.count_duplicate-is_third.result || c.is_partial-is_partial.result in
    let loss : lost ≡ shows_loss s c.args.is_bare z c.args.window =
    loss_is s c.args.is_bare z c.args.window _ _ third (c.is_partial-is_partial.ensures short sent) in
    rw sent (c.note_loss.ensures.state
    ∙ ap (untimed_if lost) (c.count_duplicate-is_third.ensures.state ∙ ap (λ (t : Sending). if duplicate then duplicated t else t) acked)
    ∙ answered_is s c.args.is_bare c.args.seq.0 z c.args.window duplicate lost (c.is_duplicate-is_duplicate.ensures short) loss)
