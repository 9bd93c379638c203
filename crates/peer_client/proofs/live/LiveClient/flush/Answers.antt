use Rattle.std.proofs.Common.{sym, subst}
use Rattle.peer_client.specs.Live.{LiveState, sent_by}
use Rattle.peer_client.specs.Refinement.{Moves}
use Rattle.peer_client.proofs.Whole.{flush_moves}
use Rattle.peer_client.proofs.live.LiveClient.flush.Goals as goal

pub returns-clause-moves : goal.returns-clause-moves
returns-clause-moves c = λ client h.
    subst (λ (l : LiveState). Moves l (sent_by c.args.self.now) client) (sym c.end_turn.ensures.state) (flush_moves c.args.self.now client h)
