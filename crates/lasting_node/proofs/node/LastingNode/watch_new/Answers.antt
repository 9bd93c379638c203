use Rattle.std.proofs.Common.{◌≡◌, ◌∙◌, true, false, Some, is_some, not, sym, ap, subst}
use Rattle.std.proofs.lemmas.Result.{on_ok_weaker}
use Rattle.lasting_laws.specs.Watching.{is_live}
use Rattle.lasting_lives.specs.declared.watch.Origin.TheVariants as origin
use Rattle.lasting_lives.specs.declared.life.Life.TheVariants as life
use Rattle.lasting_lives.specs.Lives.{watch_in}
use Rattle.lasting_lives.specs.Noted.{watched_from}
use Rattle.node_serving.specs.Identity.{node_of, service_of}
use Rattle.node_serving.specs.Loan.{IsConnAt, place_in}
use Rattle.lasting_node.specs.Turns.{known_of}
use Rattle.lasting_node.proofs.Noted.{none_lent, one_lent, not_live, lives_there, stays_at, becomes_at, watched_already, unwatched_dead, watched_first}
use Rattle.lasting_node.proofs.node.LastingNode.watch_new.Goals as goal

pub returns-then-is_some-clause-watch : goal.returns-then-is_some-clause-watch
returns-then-is_some-clause-watch g c = λ at st.
    let was = c.args.self.now in
    let some : is_some (watch_in (known_of was c.args.key)) ≡ true = ap is_some (sym c.watch.ensures) ∙ (sym c.is_some.ensures ∙ c.if-is_some.true) in
    stays_at c.args.key (watched_from origin.Opened (is_live (place_in c.args.key at))) (known_of was)
    (watched_already origin.Opened (is_live (place_in c.args.key at)) (known_of was c.args.key) some)

pub returns-then-is_none-clause-watch : goal.returns-then-is_none-clause-watch
returns-then-is_none-clause-watch g c = λ at st.
    let was = c.args.self.now in
    let service = service_of g.S.Service was.node.who in
    let none : is_some c.conn.result ≡ false = c.is_none.ensures ∙ ap not c.if-is_none.true in
    let dead : is_live (place_in c.args.key at) ≡ false = not_live service (node_of was.node.who at) (place_in c.args.key at)
    (subst (λ o. IsConnAt service (node_of was.node.who at) o (place_in c.args.key at)) (none_lent c.conn.result none) (c.conn.ensures.stands at st)) in
    stays_at c.args.key (watched_from origin.Opened (is_live (place_in c.args.key at))) (known_of was)
    (unwatched_dead origin.Opened (is_live (place_in c.args.key at)) (known_of was c.args.key) dead)

pub returns-clause-watch : goal.returns-clause-watch
returns-clause-watch g c =
    on_ok_weaker c.put.result
    (λ t at st.
    let was = c.args.self.now in
    let service = service_of g.S.Service was.node.who in
    let none : is_some (watch_in (known_of was c.args.key)) ≡ false = ap is_some (sym c.watch.ensures) ∙ (sym c.is_some.ensures ∙ c.if-is_some.false) in
    let some : is_some c.conn.result ≡ true = c.is_none.ensures ∙ ap not c.if-is_none.false in
    let lent = one_lent c.conn.result some in
    let live : is_live (place_in c.args.key at) ≡ true = lives_there service (node_of was.node.who at) (place_in c.args.key at) lent.0
    (subst (λ o. IsConnAt service (node_of was.node.who at) o (place_in c.args.key at)) lent.1 (c.conn.ensures.stands at st)) in
    becomes_at c.args.key (watched_from origin.Opened (is_live (place_in c.args.key at))) (life.Watched c.begin.result) (known_of was) _
    (watched_first origin.Opened (is_live (place_in c.args.key at)) (known_of was c.args.key) live none ∙ ap (λ w. Some (life.Watched w)) (sym c.begin.ensures)) t) c.put.ensures
