use Rattle.std.proofs.Common.{◌∙◌, Some, sym, ap, subst}
use Rattle.std.specs.Option.{option_copied}
use Rattle.std.proofs.lemmas.Result.{on_ok_weaker}
use Rattle.lasting_lives.specs.declared.life.Life.TheVariants as life
use Rattle.lasting_lives.specs.Known.{restored_life}
use Rattle.node_serving.specs.Identity.{node_of, service_of}
use Rattle.node_serving.specs.Loan.{IsConnAt, place_in}
use Rattle.lasting_node.specs.Turns.{known_of}
use Rattle.lasting_node.proofs.Noted.{stays_at, becomes_at, dead_restored, live_restored}
use Rattle.lasting_node.proofs.node.LastingNode.watch_one_restored.Goals as goal

pub returns-in_default-clause-watch : goal.returns-in_default-clause-watch
returns-in_default-clause-watch g c = λ at st.
    let was = c.args.self.now in
    let service = service_of g.S.Service was.node.who in
    stays_at c.args.key (restored_life (place_in c.args.key at)) (known_of was)
    (dead_restored service (node_of was.node.who at) (place_in c.args.key at) (known_of was c.args.key)
    (subst (λ o. IsConnAt service (node_of was.node.who at) (option_copied o) (place_in c.args.key at)) c.in_default.is (c.conn.ensures.stands at st)))

pub returns-clause-watch : goal.returns-clause-watch
returns-clause-watch g c =
    on_ok_weaker c.put.result
    (λ t at st.
    let was = c.args.self.now in
    let service = service_of g.S.Service was.node.who in
    becomes_at c.args.key (restored_life (place_in c.args.key at)) (life.Watched c.begin.result) (known_of was) _
    (live_restored service (node_of was.node.who at) c.args.key at c.in-Some.conn.now c.origin_of-origin.result (known_of was c.args.key)
    (subst (λ o. IsConnAt service (node_of was.node.who at) (option_copied o) (place_in c.args.key at)) c.in-Some.is (c.conn.ensures.stands at st))
    (λ p its ours. c.origin_of-origin.ensures p (c.outside_of.ensures.shows service was.node.who.local was.node.who.boot p its ours))
    ∙ ap (λ w. Some (life.Watched w)) (sym c.begin.ensures)) t) c.put.ensures
