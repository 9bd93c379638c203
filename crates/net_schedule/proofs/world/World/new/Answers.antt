use Rattle.std.proofs.Common.{◌≡◌, ◌∙◌, ap, map, ℕ, ◌<◌, nat_lt, true, false}
use Rattle.std.proofs.lemmas.Bool.{lt-ltb}
use Rattle.ft_model.specs.Legal.{machines}
use Rattle.ft_model.specs.Schedule.{clients_of}
use Rattle.node_serving.specs.Markers.{saving}
use Rattle.ft_model.proofs.PlayableLemmas.{starts}
use Rattle.schedule_network.specs.Loggers.{new_loggers}
use Rattle.schedule_network.specs.declared.logs.Logs.TheVariants.{Two}
use Rattle.net_schedule.proofs.FirstWorld.{begun_so, stands_at_start, twin_stands_at_start, marked_stands_at_start, no_marks, no_twin_marks, marks_are}
use Rattle.net_schedule.proofs.world.World.new.Goals as goal

none_due : (n : ℕ) → n ≡ 0 → nat_lt 0 n ≡ false
none_due n e = ap (nat_lt 0) e

some_due : (n m : ℕ) → n ≡ m → 0 < m → nat_lt 0 n ≡ true
some_due n m e h = ap (nat_lt 0) e ∙ lt-ltb 0 m h

pub returns-clause-one : goal.returns-clause-one
returns-clause-one g c = λ twin marks.
    let none : c.every_of-every.result ≡ 0 = c.every_of-every.ensures ∙ no_marks g.S.Saved.is_savable c.args.schedule.now marks in
    stands_at_start (machines g.S.Service.started g.S.Service.after g.S.Service.greeting) c.args.schedule.now _ c.in_ok-new.field-0 c.every_of-every.result
    (starts c.args.schedule.now c.requires.playable c.requires.fleeting)
    (begun_so c.args.schedule.now c.number.result c.in_ok-keys_of.field-0.items c.in_ok-new_clients.field-0.items c.in_ok-new.field-0 c.every_of-every.result _ c.number.ensures
    (c.in_ok-keys_of.ensures ∙ ap (map (λ line. line.key)) c.as_slice-lines.ensures)
    (c.in_ok-new_clients.ensures ∙ ap (clients_of c.args.schedule.now.server) c.as_slice-lines.ensures) c.new-2.ensures)
    (c.in_ok-new.ensures.one twin (none_due c.every_of-every.result none)) none

pub returns-clause-unmarked : goal.returns-clause-unmarked
returns-clause-unmarked g c = λ twin due.
    let none : c.every_of-every.result ≡ 0 = c.every_of-every.ensures ∙ due in
    stands_at_start (machines g.S.Service.started g.S.Service.after g.S.Service.greeting) c.args.schedule.now _ c.in_ok-new.field-0 c.every_of-every.result
    (starts c.args.schedule.now c.requires.playable c.requires.fleeting)
    (begun_so c.args.schedule.now c.number.result c.in_ok-keys_of.field-0.items c.in_ok-new_clients.field-0.items c.in_ok-new.field-0 c.every_of-every.result _ c.number.ensures
    (c.in_ok-keys_of.ensures ∙ ap (map (λ line. line.key)) c.as_slice-lines.ensures)
    (c.in_ok-new_clients.ensures ∙ ap (clients_of c.args.schedule.now.server) c.as_slice-lines.ensures) c.new-2.ensures)
    (c.in_ok-new.ensures.one twin (none_due c.every_of-every.result none)) none

pub returns-clause-two : goal.returns-clause-two
returns-clause-two g c = λ twin.
    let none : c.every_of-every.result ≡ 0 = c.every_of-every.ensures ∙ no_twin_marks g.S.Saved.is_savable c.args.schedule.now twin in
    twin_stands_at_start (machines g.S.Service.started g.S.Service.after g.S.Service.greeting) c.args.schedule.now _ c.in_ok-new.field-0 c.every_of-every.result
    (starts c.args.schedule.now c.requires.playable c.requires.fleeting)
    (begun_so c.args.schedule.now c.number.result c.in_ok-keys_of.field-0.items c.in_ok-new_clients.field-0.items c.in_ok-new.field-0 c.every_of-every.result _ c.number.ensures
    (c.in_ok-keys_of.ensures ∙ ap (map (λ line. line.key)) c.as_slice-lines.ensures)
    (c.in_ok-new_clients.ensures ∙ ap (clients_of c.args.schedule.now.server) c.as_slice-lines.ensures) c.new-2.ensures)
    (c.in_ok-new.ensures.two twin ∙ ap (λ grammar. Two (new_loggers grammar)) c.grammar.ensures) none

pub returns-clause-marked : goal.returns-clause-marked
returns-clause-marked g c = λ every savable twin marks some.
    let same : c.every_of-every.result ≡ every = c.every_of-every.ensures ∙ marks_are g.S.Saved.is_savable c.args.schedule.now every savable twin marks in
    marked_stands_at_start (saving g.S.Saved.form g.S.Saved.state_of g.S.Saved.is_savable) (machines g.S.Service.started g.S.Service.after g.S.Service.greeting) c.args.schedule.now _ c.in_ok-new.field-0
    c.every_of-every.result every (starts c.args.schedule.now c.requires.playable c.requires.fleeting)
    (begun_so c.args.schedule.now c.number.result c.in_ok-keys_of.field-0.items c.in_ok-new_clients.field-0.items c.in_ok-new.field-0 c.every_of-every.result _ c.number.ensures
    (c.in_ok-keys_of.ensures ∙ ap (map (λ line. line.key)) c.as_slice-lines.ensures)
    (c.in_ok-new_clients.ensures ∙ ap (clients_of c.args.schedule.now.server) c.as_slice-lines.ensures) c.new-2.ensures)
    (c.in_ok-new.ensures.marked twin (some_due c.every_of-every.result every same some)) same some
