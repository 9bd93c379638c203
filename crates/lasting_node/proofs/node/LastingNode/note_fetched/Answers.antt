use Rattle.ft_model.specs.Restart.{Fetched}
use Rattle.std.proofs.Common.{ℕ, List, ◌≡◌, ◌∙◌, true, false, Some, None, is_some, option_map, refl, sym, ap, subst}
use Rattle.std.proofs.lemmas.Result.{on_ok_weaker}
use Rattle.std.specs.Map.{lookup}
use Rattle.ft_io.specs.Key.{key_eq}
use Rattle.ft_io.proofs.Choices.{if_true, if_false}
use Rattle.logger_wire.specs.Records.{head_said}
use Rattle.node_serving.specs.Identity.{node_of, service_of}
use Rattle.server_node.specs.Places.{slots_at, is_done, HasFetched}
use Rattle.lasting_lives.specs.Lives.{resting_in}
use Rattle.lasting_lives.specs.Noted.{if_done}
use Rattle.lasting_node.specs.Turns.{known_of}
use Rattle.lasting_node.proofs.Noted.{rested_before, rests_by, unrested, done_there, done_fetched, fetched_key}
use Rattle.lasting_node.proofs.node.LastingNode.note_fetched.Goals as goal

pub returns-then-is_some-clause-notes : goal.returns-then-is_some-clause-notes
returns-then-is_some-clause-notes g c = λ at st.
    let was = c.args.self.now in
    let head = head_said c.args.head.now in
    let some : is_some (resting_in (known_of was head.key)) ≡ true = ap is_some (sym c.resting.ensures) ∙ (sym c.is_some.ensures ∙ c.if-is_some.true) in
    rested_before head at (known_of was) some

pub returns-then-is_done-clause-notes : goal.returns-then-is_done-clause-notes
returns-then-is_done-clause-notes g c =
    on_ok_weaker c.rest.result
    (λ t at st.
    let was = c.args.self.now in
    let head = head_said c.args.head.now in
    let none : is_some (resting_in (known_of was head.key)) ≡ false = ap is_some (sym c.resting.ensures) ∙ (sym c.is_some.ensures ∙ c.if-is_some.false) in
    let done : is_done (lookup (key_eq head.key) (slots_at was.node.stage)) ≡ true = sym c.is_done.ensures ∙ c.if-is_done.true in
    rests_by head head at (known_of was) (known_of c.rest.new.self) none refl (done_there (service_of g.S.Service was.node.who) (node_of was.node.who at) head was.node.stage st done) t) c.rest.ensures.rests

pub returns-in_default-clause-notes : goal.returns-in_default-clause-notes
returns-in_default-clause-notes g c = λ at st.
    let was = c.args.self.now in
    let head = head_said c.args.head.now in
    let none : is_some (resting_in (known_of was head.key)) ≡ false = ap is_some (sym c.resting.ensures) ∙ (sym c.is_some.ensures ∙ c.if-is_some.false) in
    let undone : is_done (lookup (key_eq head.key) (slots_at was.node.stage)) ≡ false = sym c.is_done.ensures ∙ c.if-is_done.false in
    unrested head at (known_of was) none
    (done_fetched g.S.Service was.node.who head at was.node.stage (option_map head_said c.fetched.result) st was.node.sound undone c.fetched.ensures ∙ ap (λ o. if_done (option_map head_said o)) c.in_default.is)

pub returns-then-not-kept-clause-notes : goal.returns-then-not-kept-clause-notes
returns-then-not-kept-clause-notes g c = λ at st.
    let was = c.args.self.now in
    let head = head_said c.args.head.now in
    let kept = head_said c.in-Some.kept in
    let none : is_some (resting_in (known_of was head.key)) ≡ false = ap is_some (sym c.resting.ensures) ∙ (sym c.is_some.ensures ∙ c.if-is_some.false) in
    let undone : is_done (lookup (key_eq head.key) (slots_at was.node.stage)) ≡ false = sym c.is_done.ensures ∙ c.if-is_done.false in
    let not_done : kept.done ≡ false = c.if-not-kept.true in
    unrested head at (known_of was) none
    (done_fetched g.S.Service was.node.who head at was.node.stage (option_map head_said c.fetched.result) st was.node.sound undone c.fetched.ensures
    ∙ (ap (λ o. if_done (option_map head_said o)) c.in-Some.is ∙ if_false kept.done (Some kept) None not_done))

pub returns-clause-notes : goal.returns-clause-notes
returns-clause-notes g c =
    on_ok_weaker c.rest-2.result
    (λ t at st.
    let was = c.args.self.now in
    let head = head_said c.args.head.now in
    let kept = head_said c.in-Some.kept in
    let none : is_some (resting_in (known_of was head.key)) ≡ false = ap is_some (sym c.resting.ensures) ∙ (sym c.is_some.ensures ∙ c.if-is_some.false) in
    let undone : is_done (lookup (key_eq head.key) (slots_at was.node.stage)) ≡ false = sym c.is_done.ensures ∙ c.if-is_done.false in
    let done : kept.done ≡ true = c.if-not-kept.false in
    rests_by head kept at (known_of was) (known_of c.rest-2.new.self) none
    (fetched_key g.S.Service was.node.who head.key at was.node.stage kept st was.node.sound
    (subst (λ o. (kind : ℕ) (fetched : List Fetched) → HasFetched g.S.Service kind fetched was.node.stage head.key (option_map head_said o)) c.in-Some.is c.fetched.ensures))
    (done_fetched g.S.Service was.node.who head at was.node.stage (option_map head_said c.fetched.result) st was.node.sound undone c.fetched.ensures
    ∙ (ap (λ o. if_done (option_map head_said o)) c.in-Some.is ∙ if_true kept.done (Some kept) None done)) t) c.rest-2.ensures.rests
