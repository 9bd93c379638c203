use Rattle.std.proofs.Common.{◌≡◌}
use Rattle.server_trait.specs.Service.{machine}
use Rattle.ft_model.specs.Segments.{new_length}
use Rattle.plain_connection.specs.Since.{having_sent}
use Rattle.plain_connection.proofs.Texts.{new_texts_sent}
use Rattle.plain_connection.proofs.connection.PlainConnection.send_new_texts.Goals as goal

pub returns : goal.returns
returns g c =
    let service = machine (g.S.Service.started c.args.self.now.kind) g.S.Service.after g.S.Service.greeting in
    let before = having_sent c.args.before.now.sent c.args.self.now.point in
    let len : c.saturating_sub-len.result ≡ new_length service before c.args.self.now.point = cc in
    new_texts_sent service c.args.server before c.args.self.now.point c.args.sent.now c.send_texts.new.sent c.saturating_sub-len.result len c.in_ok-send_texts.ensures
