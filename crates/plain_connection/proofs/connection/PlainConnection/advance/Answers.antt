use Rattle.std.proofs.Common.{◌∙◌, sym, ap, subst}
use Rattle.std.proofs.lemmas.Result.{on_ok_weaker}
use Rattle.server_trait.specs.Service.{machine}
use Rattle.plain_point.specs.Turn.{noted}
use Rattle.plain_connection.specs.News.{news_in}
use Rattle.plain_connection.specs.Before.{IsBefore}
use Rattle.plain_connection.specs.State.{IsServed, ReadsOn}
use Rattle.plain_connection.specs.Turn.{settled_since}
use Rattle.plain_connection.proofs.Noting.{noted_served}
use Rattle.plain_connection.proofs.Turns.{advanced}
use Rattle.ft_model.proofs.ReportedLast.{was_not_reset}
use Rattle.plain_connection.proofs.connection.PlainConnection.advance.Goals as goal

pub read_on-requires : goal.read_on-requires
read_on-requires g c =
    subst (λ x. IsServed (machine (g.S.Service.started x.kind) g.S.Service.after g.S.Service.greeting) x) (sym c.in_ok-note.ensures.noted)
    (noted_served (machine (g.S.Service.started c.args.self.now.kind) g.S.Service.after g.S.Service.greeting) (news_in c.args.news.now) c.args.self.now c.requires.served)

pub returns-clause-turn : goal.returns-clause-turn
returns-clause-turn g c = λ server boot.
    let service = machine (g.S.Service.started c.args.self.now.kind) g.S.Service.after g.S.Service.greeting in
    let news = news_in c.args.news.now in
    let p = c.args.self.now.point in
    let reads : ReadsOn service (record c.args.self.now { point = noted news p }) c.read_on.new.self =
    subst (λ x. ReadsOn (machine (g.S.Service.started x.kind) g.S.Service.after g.S.Service.greeting) x c.read_on.new.self) c.in_ok-note.ensures.noted c.in_ok-read_on.ensures.reads in
    let before = subst (λ k. IsBefore (machine (g.S.Service.started k) g.S.Service.after g.S.Service.greeting) news p c.args.before.now) (sym reads.kind) c.requires.before in
    on_ok_weaker c.settle.result
    (λ e. advanced service server boot news p c.read_on.new.self.point c.settle.new.self.point reads.news
    (was_not_reset news p (sym c.requires.before.reset ∙ c.requires.live)) reads.point reads.makes
    (ap (λ x. x.point) e ∙ ap (λ k. settled_since (machine (g.S.Service.started k) g.S.Service.after g.S.Service.greeting) news p c.read_on.new.self.point) reads.kind))
    (c.settle.ensures.settled p before)
