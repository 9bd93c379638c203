use Rattle.std.proofs.Common.{◌∙◌, sym, ap, subst, ◌≤◌}
use Rattle.limits.specs.Limits.{most_units}
use Rattle.seq_arith.specs.Number.{number_at}
use Rattle.south_wrap.specs.SouthState.{acknowledged, window}
use Rattle.lasting_node.specs.Shown.{is_past_syn}
use Rattle.lasting_node.proofs.Shown.{shown, taken_small}
use Rattle.lasting_node.proofs.outside.outside_of.Goals as goal

pub returns-clause-shows : goal.returns-clause-shows
returns-clause-shows g c = λ service server boot p its ours.
    let conn = c.args.conn.now in
    shown service server boot p conn c.requires ours _ (sym its) (c.cisn.ensures ∙ ap (λ s. s.cisn) c.south-south.ensures) (c.sisn.ensures ∙ ap (λ s. s.sisn) c.south-south.ensures) c.inside-inside.ensures.taken
    c.inside-inside.ensures.reads c.inside-inside.ensures.una c.inside-inside.ensures.sent c.is_reset.ensures
    (c.is_past_syn.ensures ∙ (ap (λ x. is_past_syn x.name) c.state.ensures ∙ ap (λ e. is_past_syn e.name) c.endpoint.ensures))
    (c.ack_now-reported.ensures.ack ∙ ap (λ s. number_at s.cisn (acknowledged s)) c.south-south.ensures) (c.ack_now-reported.ensures.window ∙ ap window c.south-south.ensures)

pub returns-clause-small : goal.returns-clause-small
returns-clause-small g c = subst (λ t. t ≤ most_units) (sym c.inside-inside.ensures.taken) (taken_small c.args.conn.now c.requires)
