use Rattle.std.proofs.Common.{◌≡◌, ◌∙◌, false, sym, ap, subst, OnOk}
use Rattle.std.proofs.lemmas.Result.{on_ok_weaker}
use Rattle.server_trait.specs.Service.{machine}
use Rattle.ft_model.specs.Connection.{sent_by}
use Rattle.ft_model.specs.ResetAndEnd.{reset_after}
use Rattle.plain_packets.specs.Sent.{Appends}
use Rattle.plain_connection.specs.Before.{IsBefore}
use Rattle.plain_connection.specs.News.{news_in}
use Rattle.plain_connection.specs.State.{IsServed}
use Rattle.plain_connection.proofs.Noting.{reset_served}
use Rattle.plain_connection.proofs.Turns.{live_taken, reset_taken}
use Rattle.ft_model.proofs.ReportedLast.{was_not_reset}
use Rattle.plain_connection.proofs.connection.PlainConnection.turn.Goals as goal

pub returns-then-before-clause-served : goal.returns-then-before-clause-served
returns-then-before-clause-served g c =
    let service = machine (g.S.Service.started c.args.self.now.kind) g.S.Service.after g.S.Service.greeting in
    let reset = c.is_reset-was_reset.ensures ∙ ap (λ x. x.point.reset) c.self.view_is in
    on_ok_weaker c.send_dones.result
    (λ _. subst (IsServed service) (sym c.note_reset.ensures) (reset_served service (news_in c.args.news.now) c.args.self.now c.requires))
    (c.send_dones.ensures c.args.self.now.point reset)

pub returns-then-before-clause-turn : goal.returns-then-before-clause-turn
returns-then-before-clause-turn g c =
    let service = machine (g.S.Service.started c.args.self.now.kind) g.S.Service.after g.S.Service.greeting in
    let reset = c.is_reset-was_reset.ensures ∙ ap (λ x. x.point.reset) c.self.view_is in
    on_ok_weaker c.send_dones.result
    (λ e. reset_taken service c.args.server c.args.boot (news_in c.args.news.now) c.args.self.now.point c.note_reset.new.self.point c.args.sent.now c.send_dones.new.sent
    (sym c.before-before.ensures.value.reset ∙ c.if-before.true) (ap (λ x. x.point) c.note_reset.ensures) e)
    (c.send_dones.ensures c.args.self.now.point reset)

pub returns-clause-turn : goal.returns-clause-turn
returns-clause-turn g c =
    let service = machine (g.S.Service.started c.args.self.now.kind) g.S.Service.after g.S.Service.greeting in
    let news = news_in c.args.news.now in
    let p = c.args.self.now.point in
    let q = c.advance.new.self.point in
    let live : reset_after news p ≡ false = sym c.before-before.ensures.value.reset ∙ c.if-before.false in
    let kind = c.in_ok-advance.ensures.kind in
    let before = subst (λ k. IsBefore (machine (g.S.Service.started k) g.S.Service.after g.S.Service.greeting) news p c.before-before.result) (sym kind) c.before-before.ensures.value in
    on_ok_weaker c.send_turn.result
    (λ e. live_taken service c.args.server c.args.boot news p q c.args.sent.now c.send_turn.new.sent live (c.in_ok-advance.ensures.turn c.args.server c.args.boot) e)
    (subst (λ k. OnOk c.send_turn.result (Appends c.args.sent.now c.send_turn.new.sent (sent_by (machine (g.S.Service.started k) g.S.Service.after g.S.Service.greeting) c.args.server c.args.boot news p q))) kind
    (c.send_turn.ensures p (was_not_reset news p live) before))
