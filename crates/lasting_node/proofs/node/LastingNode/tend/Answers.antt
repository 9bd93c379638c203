use Rattle.std.proofs.Common.{◌∙◌, [], ◌∷◌, refl, sym, ap, subst}
use Rattle.std.specs.Option.{option_copied}
use Rattle.std.proofs.lemmas.Result.{on_ok_weaker}
use Rattle.long_laws.specs.LongTrace.{last_rst, keep_alive}
use Rattle.node_serving.specs.Identity.{service_of}
use Rattle.node_serving.specs.Loan.{IsConnAt, place_in}
use Rattle.node_serving.specs.RefusalPackets.{AreSent}
use Rattle.lasting_node.specs.Turns.{known_of}
use Rattle.lasting_node.proofs.Shown.{lent_at}
use Rattle.lasting_node.proofs.Tended.{life_at, unwatched, idle}
use Rattle.lasting_node.proofs.TendOne.{nothing_to_look_at, IsShown, shown_there, nothing_due, keep_alive_due, let_go_due}
use Rattle.lasting_node.proofs.node.LastingNode.tend.Goals as goal

pub due-requires : goal.due-requires
due-requires g c = c.args.self.now.bounded

-- no watch
pub returns-in_default-clause-turn : goal.returns-in_default-clause-turn
returns-in_default-clause-turn g c = λ n place st e.
    let was = c.args.self.now in
    idle n place was st
    (unwatched (service_of g.S.Service was.node.who) was.patience.silence n.watches n.node n c.args.key place (known_of was c.args.key) (life_at n n.node.stage (known_of was) c.args.key place st.lives e)
    (sym c.watch.ensures ∙ c.in_default.is))

-- no connection
pub returns-in_default-conn-clause-turn : goal.returns-in_default-conn-clause-turn
returns-in_default-conn-clause-turn g c = λ n place st e.
    let was = c.args.self.now in
    let service = service_of g.S.Service was.node.who in
    idle n place was st
    (nothing_to_look_at service was.patience.silence n.watches n.node c.args.key place e
    (subst (λ o. IsConnAt service n.node (option_copied o) (place_in c.args.key n.node.stage)) c.in_default-conn.is (lent_at c.args.key n was c.conn.result st c.conn.ensures.stands)))

-- a connection of which nothing is due
pub returns-in-Nothing-clause-turn : goal.returns-in-Nothing-clause-turn
returns-in-Nothing-clause-turn g c = λ n place st e.
    let was = c.args.self.now in
    let service = service_of g.S.Service was.node.who in
    let o = c.outside_of-conn.result in
    let at = subst (λ x. IsConnAt service n.node (option_copied x) (place_in c.args.key n.node.stage)) c.in-Some-conn.is (lent_at c.args.key n was c.conn.result st c.conn.ensures.stands) in
    let x : IsShown n c.args.key place o c.in-Some.watch =
    shown_there service n c.args.key place c.in-Some-conn.conn.now o c.in-Some.watch (known_of was c.args.key) e at
    (λ p its ours. c.outside_of-conn.ensures.shows service n.node.server n.node.boot p its ours) (life_at n n.node.stage (known_of was) c.args.key place st.lives e) (sym c.watch.ensures ∙ c.in-Some.is) in
    nothing_due n c.args.key place o c.in-Some.watch was x st (sym (c.due.ensures (n.watches x.point.key) x.point x.watched x.shows) ∙ c.in-Nothing.is)

-- .. or a keep-alive
pub returns-in_ok-send_bare-in-KeepAlive-clause-turn : goal.returns-in_ok-send_bare-in-KeepAlive-clause-turn
returns-in_ok-send_bare-in-KeepAlive-clause-turn g c = λ n place st e.
    let was = c.args.self.now in
    let service = service_of g.S.Service was.node.who in
    let o = c.outside_of-conn.result in
    let at = subst (λ x. IsConnAt service n.node (option_copied x) (place_in c.args.key n.node.stage)) c.in-Some-conn.is (lent_at c.args.key n was c.conn.result st c.conn.ensures.stands) in
    let x : IsShown n c.args.key place o c.in-Some.watch =
    shown_there service n c.args.key place c.in-Some-conn.conn.now o c.in-Some.watch (known_of was c.args.key) e at
    (λ p its ours. c.outside_of-conn.ensures.shows service n.node.server n.node.boot p its ours) (life_at n n.node.stage (known_of was) c.args.key place st.lives e) (sym c.watch.ensures ∙ c.in-Some.is) in
    keep_alive_due n c.args.key place o c.in-Some.watch was x st _ (sym (c.due.ensures (n.watches x.point.key) x.point x.watched x.shows) ∙ c.in-KeepAlive.is)
    (record { node = refl; patience = refl; lives = refl })
    (subst (λ segment. AreSent (segment ∷ []) was.own.sent.items c.send_bare.new.turn.sent.items) (c.keep_alive.ensures x.point x.shows ∙ ap (λ w. keep_alive w.local x.point) c.who.ensures)
    c.in_ok-send_bare-in-KeepAlive.ensures)

-- .. or that its client is let go of
pub returns-in-LetGo-clause-turn : goal.returns-in-LetGo-clause-turn
returns-in-LetGo-clause-turn g c =
    on_ok_weaker c.let_go.result
    (λ t n place st e.
    let was = c.args.self.now in
    let service = service_of g.S.Service was.node.who in
    let o = c.outside_of-conn.result in
    let at = subst (λ x. IsConnAt service n.node (option_copied x) (place_in c.args.key n.node.stage)) c.in-Some-conn.is (lent_at c.args.key n was c.conn.result st c.conn.ensures.stands) in
    let x : IsShown n c.args.key place o c.in-Some.watch =
    shown_there service n c.args.key place c.in-Some-conn.conn.now o c.in-Some.watch (known_of was c.args.key) e at
    (λ p its ours. c.outside_of-conn.ensures.shows service n.node.server n.node.boot p its ours) (life_at n n.node.stage (known_of was) c.args.key place st.lives e) (sym c.watch.ensures ∙ c.in-Some.is) in
    let_go_due n c.args.key place o c.in-Some.watch was x st c.let_go.new.self (sym (c.due.ensures (n.watches x.point.key) x.point x.watched x.shows) ∙ c.in-LetGo.is) e c.outside_of-conn.ensures.small
    (λ p there small gone shows. t n p st there small gone (c.last_rst.ensures p shows ∙ (ap (λ w. last_rst w.local p) c.who.ensures ∙ ap (λ y. last_rst y.server p) (sym st.who))))) c.let_go.ensures.turn
