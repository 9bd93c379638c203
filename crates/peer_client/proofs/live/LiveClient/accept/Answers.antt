use Rattle.std.proofs.Common.{sym, subst}
use Rattle.peer_client.specs.Live.{LiveState}
use Rattle.peer_client.specs.Refinement.{IsDue, IsBetween}
use Rattle.peer_client.proofs.Whole.{unread_is, unread_received, due_handed, between_handed}
use Rattle.peer_client.proofs.live.LiveClient.accept.Goals as goal

pub returns-clause-accepted : goal.returns-clause-accepted
returns-clause-accepted c = λ client h. unread_is c.args.self.now client h

pub returns-clause-rest : goal.returns-clause-rest
returns-clause-rest c = λ client h. unread_received c.args.self.now client h

pub returns-clause-due : goal.returns-clause-due
returns-clause-due c = λ client h.
    subst (λ (l : LiveState). IsDue l client) (sym c.hand_out.ensures.state) (due_handed c.args.self.now client c.hand_out.result h)

pub returns-clause-between : goal.returns-clause-between
returns-clause-between c = λ client h.
    subst (λ (l : LiveState). IsBetween l client) (sym c.hand_out.ensures.state) (between_handed c.args.self.now client c.hand_out.result h)
