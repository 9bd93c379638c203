use Rattle.std.proofs.Common.{refl, sym, subst, [], ap}
use Rattle.server_node.specs.FetchStage.{IsOwn}
use Rattle.node_serving.proofs.Outcomes.{same_ok}
use Rattle.server_node.proofs.restarting.begin_fetching.Goals as goal
use Rattle.ft_io.proofs.Outcomes.{if_ok}

pub proceed-requires-clause-own : goal.proceed-requires-clause-own
proceed-requires-clause-own g c = subst (IsOwn c.args.who) (sym (same_ok c.on_summary.result c.in-Ok.fetching _ c.in-Ok.is c.on_summary.ensures.value)) (record { boot = c.new.ensures; kind = refl; unmarked = tt })

pub returns-clause-turn : goal.returns-clause-turn
returns-clause-turn g c = if_ok c.proceed.result
    (λ after h standing.
    let is = same_ok c.on_summary.result c.in-Ok.fetching _ c.in-Ok.is c.on_summary.ensures.value in
    h standing c.args.count [] (record { so_many = ap (λ f. f.count) is; distinct = tt; entries = c.in-Ok.ensures.law.fetched }) tt) c.proceed.ensures.turn

pub returns-clause-alone : goal.returns-clause-alone
returns-clause-alone g c = if_ok c.proceed.result
    (λ after h standing.
    let is = same_ok c.on_summary.result c.in-Ok.fetching _ c.in-Ok.is c.on_summary.ensures.value in
    h standing c.args.count [] (record { so_many = ap (λ f. f.count) is; distinct = tt; entries = c.in-Ok.ensures.law.fetched })) c.proceed.ensures.alone
