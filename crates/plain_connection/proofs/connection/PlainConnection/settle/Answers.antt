use Rattle.std.proofs.Common.{◌≡◌, ◌∙◌, ap}
use Rattle.server_trait.specs.Service.{machine}
use Rattle.ft_model.specs.Point.{Point}
use Rattle.plain_connection.specs.News.{news_in}
use Rattle.plain_connection.specs.State.{ConnectionState}
use Rattle.plain_connection.specs.Turn.{settled_since}
use Rattle.plain_connection.proofs.Turns.{settled_is}
use Rattle.plain_connection.proofs.connection.PlainConnection.settle.Goals as goal

pub returns-clause-settled : goal.returns-clause-settled
returns-clause-settled g c = λ p b.
    let service = machine (g.S.Service.started c.args.self.now.kind) g.S.Service.after g.S.Service.greeting in
    let news = news_in c.args.news.now in
    let settled : c.count_end.new.self ≡ settled_since service news p c.args.self.now.point =
    settled_is service news p c.self.inside.point c.args.self.now.point c.time_sent.new.self c.set_sent.new.self c.set_timer.new.self c.count_end.new.self c.args.before.now
    c.in_ok-sent.sent c.sent_at_once-at_once.result c.target-target.result c.must_run-must_run.result c.is_tick.result c.is_end_tick-ends.result b
    (ap (λ x. x.point) c.self.view_is) (c.in_ok-sent.ensures news p b) (c.sent_at_once-at_once.ensures.turn news p b) c.target-target.ensures c.is_end_tick-ends.ensures
    c.time_sent.ensures c.set_sent.ensures c.must_run-must_run.ensures
    c.is_tick.ensures c.set_timer.ensures c.count_end.ensures in
    ap (λ (x : Point). record { kind = c.self.inside.kind; point = x; made = c.self.inside.made }) settled
    ∙ ap (λ (x : ConnectionState g.row.S.Denot). record x { point = settled_since service news p c.args.self.now.point }) c.self.view_is
