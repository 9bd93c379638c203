use Rattle.std.proofs.Common.{sym, subst}
use Rattle.peer_client.specs.Live.{LiveState}
use Rattle.peer_client.specs.Refinement.{IsDue}
use Rattle.peer_client.proofs.Whole.{tick_due}
use Rattle.peer_client.proofs.live.LiveClient.on_tick.Goals as goal

pub returns-clause-beside : goal.returns-clause-beside
returns-clause-beside c = λ client h. subst (λ (l : LiveState). IsDue l client) (sym c.tick.ensures) (tick_due c.args.self.now client h)
