use Rattle.std.proofs.Common.{◌≡◌, ◌∙◌, true, false, Some, None, MatchOption, refl, sym, subst}
use Rattle.std.proofs.lemmas.Result.{on_ok_weaker}
use Rattle.logger_wire.specs.Value.{body_of}
use Rattle.lasting_laws.specs.Watching.{is_live}
use Rattle.lasting_lives.specs.declared.watch.Origin.TheVariants as origin
use Rattle.lasting_lives.specs.Noted.{ChangesAt, StaysKnown, opened_in, watched_from}
use Rattle.lasting_node.specs.Notes.{Notes}
use Rattle.lasting_node.specs.Turns.{known_of}
use Rattle.ft_model.specs.Node.{place_at}
use Rattle.long_laws.specs.LongTrace.{places_at}
use Rattle.lasting_node.proofs.Noted.{placed}
use Rattle.lasting_node.proofs.node.LastingNode.note.Goals as goal

-- while the node restarts
pub returns-then-restarts-clause-notes : goal.returns-then-restarts-clause-notes
returns-then-restarts-clause-notes g c =
    let restarts : c.args.restarts ≡ true = c.if-restarts.true in
    on_ok_weaker c.note_restart.result (λ t. subst (λ b. Notes (body_of c.args.m.now.body) c.args.ends b c.args.self.now c.note_restart.new.self) (sym restarts) t) c.note_restart.ensures.notes

-- a connection that the message has ended
pub returns-in-Some-clause-notes : goal.returns-in-Some-clause-notes
returns-in-Some-clause-notes g c =
    let was = c.args.self.now in
    let serves : c.args.restarts ≡ false = c.if-restarts.false in
    on_ok_weaker c.put.result
    (λ t. subst (λ b. Notes (body_of c.args.m.now.body) c.args.ends b was (record was { lives = c.put.new.self })) (sym serves)
    (subst (λ o. Notes (body_of c.args.m.now.body) o false was (record was { lives = c.put.new.self })) (sym c.in-Some.is) (λ at st k. t k))) c.put.ensures

-- .. or opened
pub returns-in-Some-opened_in-clause-notes : goal.returns-in-Some-opened_in-clause-notes
returns-in-Some-opened_in-clause-notes g c =
    let was = c.args.self.now in
    let now = c.watch_new.new.self in
    let body = body_of c.args.m.now.body in
    let serves : c.args.restarts ≡ false = c.if-restarts.false in
    let opens : opened_in body ≡ Some c.in-Some-opened_in.key = sym c.opened_in.ensures ∙ c.in-Some-opened_in.is in
    on_ok_weaker c.watch_new.result
    (λ t. subst (λ b. Notes body c.args.ends b was now) (sym serves)
    (subst (λ o. Notes body o false was now) (sym c.in_default.is)
    (λ at st. subst (λ o. MatchOption o (StaysKnown (known_of was) (known_of now)) (λ key. ChangesAt key (watched_from origin.Opened (is_live (place_at key (places_at at)))) (known_of was) (known_of now)))
    (sym opens)
    (subst (λ o. ChangesAt c.in-Some-opened_in.key (watched_from origin.Opened (is_live o)) (known_of was) (known_of now)) (placed c.in-Some-opened_in.key at) (t at st))))) c.watch_new.ensures.watch

pub returns-in-None-clause-notes : goal.returns-in-None-clause-notes
returns-in-None-clause-notes g c =
    let was = c.args.self.now in
    let body = body_of c.args.m.now.body in
    let serves : c.args.restarts ≡ false = c.if-restarts.false in
    let opens : opened_in body ≡ None = sym c.opened_in.ensures ∙ c.in-None.is in
    subst (λ b. Notes body c.args.ends b was was) (sym serves)
    (subst (λ o. Notes body o false was was) (sym c.in_default.is)
    (λ at st. subst (λ o. MatchOption o (StaysKnown (known_of was) (known_of was)) (λ key. ChangesAt key (watched_from origin.Opened (is_live (place_at key (places_at at)))) (known_of was) (known_of was)))
    (sym opens) (λ k. refl)))
