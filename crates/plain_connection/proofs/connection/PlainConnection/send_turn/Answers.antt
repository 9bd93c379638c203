use Rattle.std.proofs.Common.{sym}
use Rattle.std.proofs.lemmas.Result.{on_ok_weaker}
use Rattle.server_trait.specs.Service.{machine}
use Rattle.plain_connection.specs.News.{news_in}
use Rattle.plain_connection.proofs.Turns.{sent_in_order}
use Rattle.plain_connection.proofs.connection.PlainConnection.send_turn.Goals as goal

pub returns : goal.returns
returns g c = λ p live b.
    let news = news_in c.args.news.now in
    on_ok_weaker c.send_dones.result
    (λ done. sent_in_order (machine (g.S.Service.started c.args.self.now.kind) g.S.Service.after g.S.Service.greeting) c.args.who.server c.args.who.boot news p c.args.self.now.point
    c.args.sent.now c.send_segments.new.sent c.send_copies.new.sent c.send_reads_reported.new.sent c.send_dones.new.sent
    (c.in_ok-send_segments.ensures news p b) (c.in_ok-send_copies.ensures p b) (c.in_ok-send_reads_reported.ensures p b) done)
    (c.send_dones.ensures p (sym live))
