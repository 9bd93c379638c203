use Rattle.std.proofs.lemmas.Bool.{ne_eqb}
use Rattle.std.proofs.Common.{eq-eqb, ◌≡◌, ◌∙◌, true, false, ◌==◌, None, Some, sym, ap, subst, if◌then◌else◌}
use Rattle.std.specs.List.{IsDistinct}
use Rattle.std.specs.Map.{lookup, keys_of}
use Rattle.ft_io.specs.Key.{key_eq}
use Rattle.forget_wire.specs.Value.{message_of, body_of, named_said}
use Rattle.server_node.specs.Places.{slots_at, is_serving, Forgets}
use Rattle.lasting_lives.specs.Lives.{resting_in}
use Rattle.lasting_node.specs.Turns.{known_of}
use Rattle.lasting_node.proofs.Forgotten.{nothing_taken, a_forget, other_boot, restarts, unknown, unnamed, taken}
use Rattle.lasting_node.proofs.node.LastingNode.receive_forget.Goals as goal

-- a Forget
pub returns-in_default-clause-turn : goal.returns-in_default-clause-turn
returns-in_default-clause-turn g c =
    let was = c.args.self.now in
    let message = message_of c.args.m.now in
    nothing_taken was c.send_nothing.new.self message (λ n st. a_forget was c.send_nothing.new.self message n (named_said c.in_default.field-0) (ap body_of c.in_default.is)) c.send_nothing.ensures.same
    c.send_nothing.ensures.nothing c.send_nothing.ensures.own

-- Forgotten of another boot
pub returns-then-m-who-clause-turn : goal.returns-then-m-who-clause-turn
returns-then-m-who-clause-turn g c =
    let was = c.args.self.now in
    let now = c.send_nothing.new.self in
    let message = message_of c.args.m.now in
    let differs : (message.boot == now.node.who.boot) ≡ false = ap (λ w. message.boot == w.boot) (sym c.who.ensures) ∙ ne_eqb message.boot c.who.result.boot c.if-m-who.true in
    let other : (message.boot == was.node.who.boot) ≡ false = ap (λ x. message.boot == x.who.boot) (sym c.send_nothing.ensures.same.node) ∙ differs in
    nothing_taken was now message (λ n st. other_boot was now message n st other) c.send_nothing.ensures.same c.send_nothing.ensures.nothing c.send_nothing.ensures.own

-- .. while the node restarts
pub returns-then-not-is_serving-clause-turn : goal.returns-then-not-is_serving-clause-turn
returns-then-not-is_serving-clause-turn g c =
    let was = c.args.self.now in
    let now = c.send_nothing.new.self in
    let message = message_of c.args.m.now in
    let waits : is_serving now.node.stage ≡ false = sym c.is_serving.ensures ∙ c.if-not-is_serving.true in
    let early : is_serving was.node.stage ≡ false = ap (λ x. is_serving x.stage) (sym c.send_nothing.ensures.same.node) ∙ waits in
    nothing_taken was now message (λ n st. restarts was now message n (named_said c.in-Forgotten.named) st (ap body_of c.in-Forgotten.is) early) c.send_nothing.ensures.same c.send_nothing.ensures.nothing
    c.send_nothing.ensures.own

-- .. of a key that isn't in quarantine
pub returns-in_default-resting-clause-turn : goal.returns-in_default-resting-clause-turn
returns-in_default-resting-clause-turn g c =
    let was = c.args.self.now in
    let now = c.send_nothing.new.self in
    let message = message_of c.args.m.now in
    let serves : is_serving now.node.stage ≡ true = sym c.is_serving.ensures ∙ c.if-not-is_serving.false in
    let up : is_serving was.node.stage ≡ true = ap (λ x. is_serving x.stage) (sym c.send_nothing.ensures.same.node) ∙ serves in
    let none : resting_in (known_of was c.in-Forgotten.named.key) ≡ None =
    ap (λ l. resting_in (lookup (key_eq c.in-Forgotten.named.key) l)) (sym c.send_nothing.ensures.same.lives) ∙ (sym c.resting.ensures ∙ c.in_default-resting.is) in
    nothing_taken was now message (λ n st. unknown was now message n (named_said c.in-Forgotten.named) st (ap body_of c.in-Forgotten.is) up none) c.send_nothing.ensures.same c.send_nothing.ensures.nothing
    c.send_nothing.ensures.own

-- .. with other numbers
pub returns-then-not-is_named-clause-turn : goal.returns-then-not-is_named-clause-turn
returns-then-not-is_named-clause-turn g c =
    let was = c.args.self.now in
    let now = c.send_nothing.new.self in
    let message = message_of c.args.m.now in
    let serves : is_serving now.node.stage ≡ true = sym c.is_serving.ensures ∙ c.if-not-is_serving.false in
    let up : is_serving was.node.stage ≡ true = ap (λ x. is_serving x.stage) (sym c.send_nothing.ensures.same.node) ∙ serves in
    let rests : resting_in (known_of was c.in-Forgotten.named.key) ≡ Some c.in-Some.resting =
    ap (λ l. resting_in (lookup (key_eq c.in-Forgotten.named.key) l)) (sym c.send_nothing.ensures.same.lives) ∙ (sym c.resting.ensures ∙ c.in-Some.is) in
    let unlike : c.is_named.result ≡ false = c.if-not-is_named.true in
    nothing_taken was now message
    (λ n st. unnamed was now message n (named_said c.in-Forgotten.named) c.in-Some.resting st (ap body_of c.in-Forgotten.is) up rests (λ q stands. sym unlike ∙ c.is_named.ensures q stands))
    c.send_nothing.ensures.same c.send_nothing.ensures.nothing c.send_nothing.ensures.own

-- the place goes
pub returns-clause-turn : goal.returns-clause-turn
returns-clause-turn g c =
    let was = c.args.self.now in
    let now = c.send_nothing.new.self in
    let message = message_of c.args.m.now in
    let named = c.in-Forgotten.named in
    let serves : is_serving now.node.stage ≡ true = sym c.is_serving.ensures ∙ c.if-not-is_serving.false in
    let up : is_serving was.node.stage ≡ true = ap (λ x. is_serving x.stage) (sym c.send_nothing.ensures.same.node) ∙ serves in
    let its : (message.boot == now.node.who.boot) ≡ true = ap (λ w. message.boot == w.boot) (sym c.who.ensures) ∙ eq-eqb message.boot c.who.result.boot c.if-m-who.false in
    let own : (message.boot == was.node.who.boot) ≡ true = ap (λ x. message.boot == x.who.boot) (sym c.send_nothing.ensures.same.node) ∙ its in
    let rests : resting_in (known_of was named.key) ≡ Some c.in-Some.resting =
    ap (λ l. resting_in (lookup (key_eq named.key) l)) (sym c.send_nothing.ensures.same.lives) ∙ (sym c.resting.ensures ∙ c.in-Some.is) in
    let alike : c.is_named.result ≡ true = c.if-not-is_named.false in
    taken was _ message (named_said named) c.in-Some.resting (ap body_of c.in-Forgotten.is) own up
    (subst (λ x. IsDistinct key_eq (keys_of (slots_at x.stage))) c.send_nothing.ensures.same.node c.apart.ensures)
    rests (λ q stands. sym alike ∙ c.is_named.ensures q stands) (subst (λ x. Forgets named.key x.stage c.forget-2.new.self.stage) c.send_nothing.ensures.same.node c.forget-2.ensures.stage)
    (c.forget-2.ensures.same ∙ ap (λ x. x.who) c.send_nothing.ensures.same.node)
    (λ k. c.forget.ensures k ∙ ap (λ l. if key_eq named.key k then None else lookup (key_eq k) l) c.send_nothing.ensures.same.lives)
    c.send_nothing.ensures.nothing c.send_nothing.ensures.own
