use Rattle.std.proofs.Common.{[], ◌∷◌, take, subst}
use Rattle.ft_io.specs.Reported.{Reports}
use Rattle.ft_io.specs.Link.{received_as}
use Rattle.ft_io.specs.declared.link.Receipt.{Receipt}
use Rattle.link_parts.specs.Receipt.{datagram}
use Rattle.link_parts.proofs.client.receive.Goals as goal

pub returns-in-Ok-Got-clause-received : goal.returns-in-Ok-Got-clause-received
returns-in-Ok-Got-clause-received g c = record {
  received = datagram c.in-Ok-Got.field-0-1 (take c.in-Ok-Got.len c.recv.new.buf);
  reports = subst (λ (h : Receipt). Reports (g.L.Link.reported c.args.link.now) (g.L.Link.reported c.recv.new.self) (received_as h c.recv.new.buf ∷ [])) c.in-Ok-Got.field-0-is
      c.in-Ok-Got.ensures.reported;
  state = c.on_packet.ensures.state c.requires;
  beside = c.on_packet.ensures.beside;
}
