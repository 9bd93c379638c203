use Rattle.std.proofs.Common.{◌≡◌, ◌∙◌, true, false, not, ◌&&◌, ap, subst, [], ◌∷◌}
use Rattle.std.proofs.lemmas.Result.{on_ok_weaker}
use Rattle.segment_codec.specs.Value.{segment_of}
use Rattle.server_trait.specs.Service.{machine}
use Rattle.ft_model.specs.Network.Packet.{To_client}
use Rattle.ft_model.specs.Segments.{bare_segment}
use Rattle.plain_packets.specs.Sent.{Appends}
use Rattle.plain_connection.specs.Since.{is_ack_pending_since}
use Rattle.plain_connection.proofs.Sends.{no_bare_sent, bare_sent}
use Rattle.plain_connection.proofs.connection.PlainConnection.send_segments.Goals as goal

pub returns-then-not-is_bare_due : goal.returns-then-not-is_bare_due
returns-then-not-is_bare_due g c = λ news p is.
    let none : (not c.in_ok-any.any && is_ack_pending_since c.args.before.now c.args.self.now.point) ≡ false = cc in
    no_bare_sent c.in_ok-any.any (machine (g.S.Service.started c.args.self.now.kind) g.S.Service.after g.S.Service.greeting) c.args.server news p c.args.self.now.point c.args.before.now
    c.in_ok-any.ensures none is

pub returns : goal.returns
returns g c = λ news p is.
    let due : (not c.in_ok-any.any && is_ack_pending_since c.args.before.now c.args.self.now.point) ≡ true = cc in
    let bare : segment_of c.bare_segment.result ≡ bare_segment c.args.server c.args.self.now.point =
    c.bare_segment.ensures ∙ ap (λ x. bare_segment c.args.server x.point) c.self.view_is in
    on_ok_weaker c.send_to_client.result
    (λ sent. bare_sent c.in_ok-any.any (machine (g.S.Service.started c.args.self.now.kind) g.S.Service.after g.S.Service.greeting) c.args.server news p c.args.self.now.point
    c.args.before.now c.in_ok-any.ensures due
    (subst (λ segment. Appends c.send_full_segments.new.sent c.send_to_client.new.self (To_client segment ∷ [])) bare sent) is)
    c.send_to_client.ensures
