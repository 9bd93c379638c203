use Rattle.std.proofs.Common.{sym, subst, option_map}
use Rattle.logger_wire.specs.Records.{head_said}
use Rattle.server_trait.specs.Service.{machine}
use Rattle.reincarnate.specs.Refinement.{StandsFetching}
use Rattle.server_node.specs.Places.{HasFetched}
use Rattle.server_node.proofs.ShownPlaces.{nothing_fetched}
use Rattle.server_node.proofs.places.fetched.Goals as goal

pub returns-in-Fetching : goal.returns-in-Fetching
returns-in-Fetching g c = λ kind fetched.
    subst (λ at. HasFetched g.S.Service kind fetched at c.args.key (option_map head_said c.known.result)) (sym c.in-Fetching.is)
    (λ same count st. c.known.ensures.law fetched
    (subst (λ k. StandsFetching (machine (g.S.Service.started k) g.S.Service.after g.S.Service.greeting) fetched c.in-Fetching.fetching) (sym same) st.entries))

pub returns-in_default : goal.returns-in_default
returns-in_default g c = λ kind fetched. nothing_fetched g.S.Service kind fetched c.args.stage.now c.args.key c.in_default.not-Fetching
