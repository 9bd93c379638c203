use Rattle.std.proofs.Common.{◌∙◌}
use Rattle.kept_log.proofs.Drafts.{begun}
use Rattle.kept_log.proofs.draft.Draft.begin.Goals as goal

pub returns-clause-begun : goal.returns-clause-begun
returns-clause-begun g c =
    begun c.args.made.now c.deref.result.now (g.K.Desk.aside c.begin_aside.new.self) (g.K.Desk.aside c.append_aside.new.self) _ c.requires.time c.first_of-tip.ensures c.in_ok-body.ensures.items
    (c.deref.ensures.value ∙ c.in_ok-header.ensures) c.in_ok-begin_aside.ensures.empty c.in_ok-append_aside.ensures.appended
