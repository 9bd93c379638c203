use Rattle.std.proofs.Common.{◌∙◌, ap}
use Rattle.std.proofs.lemmas.Result.{on_ok_weaker}
use Rattle.plain_connection.specs.News.{news_in}
use Rattle.plain_connection.proofs.Copies.{reads_reported_are}
use Rattle.plain_connection.proofs.connection.PlainConnection.send_reads_reported.Goals as goal

pub returns : goal.returns
returns g c = λ p b.
    on_ok_weaker c.send_reads.result
    (λ e. reads_reported_are c.args.boot c.args.sent.now c.send_reads.new.sent (news_in c.args.news.now) p c.args.self.now.point c.key-key.result c.first_reported-first.result c.lengths-lengths.result.now
    (c.key-key.ensures ∙ ap (λ x. x.point.key) c.self.view_is) (c.first_reported-first.ensures p b) (c.lengths-lengths.ensures ∙ ap (λ x. x.point.lengths) c.self.view_is) e)
    c.send_reads.ensures
