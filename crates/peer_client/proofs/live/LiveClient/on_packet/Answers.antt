use Rattle.std.proofs.Common.{sym, subst}
use Rattle.seq_arith.specs.PacketGrammar.{reading}
use Rattle.peer_client.specs.Live.{LiveState}
use Rattle.peer_client.specs.Stamping.{EchoFits}
use Rattle.peer_client.specs.Refinement.{IsDue, receiving}
use Rattle.peer_client.proofs.Whole.{received_due, short_between, due_outcome}
use Rattle.peer_client.proofs.live.LiveClient.on_packet.Goals as goal

pub returns-clause-beside : goal.returns-clause-beside
returns-clause-beside c = λ client between none near.
    subst (λ (l : LiveState). IsDue l (receiving c.args.self.now client (reading c.args.bytes.now)))
    (sym (c.receive.ensures.state (short_between c.args.self.now client between)))
    (received_due c.args.self.now client (reading c.args.bytes.now) between none near c.receive.ensures.fits (subst (λ (l : LiveState). EchoFits l.stamps.timestamping) (c.receive.ensures.state (short_between c.args.self.now client between)) c.receive.ensures.echo))

pub returns-clause-outcome : goal.returns-clause-outcome
returns-clause-outcome c = λ client between none near.
    due_outcome c.receive.new.self (receiving c.args.self.now client (reading c.args.bytes.now)) (returns-clause-beside c client between none near)
