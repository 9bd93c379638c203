use Rattle.std.proofs.Common.{◌≡◌, ◌∙◌, ◌++◌, [], ap}
use Rattle.std.specs.Option.{option_to_list}
use Rattle.kept_log.specs.Draft.{DraftState}
use Rattle.kept_log.proofs.Drafts.{taken, written_on}
use Rattle.kept_log.proofs.draft.Draft.take.Goals as goal

pub returns-clause-taken : goal.returns-clause-taken
returns-clause-taken g c = λ grammar message says.
    let after : DraftState = record { tip = c.self.inside.tip; body = c.extend_from_slice.new.self.items } in
    let body : after.body ≡ c.make_room.new.self.body ++ c.args.bytes.now =
    c.in_ok-extend_from_slice.ensures.items ∙ ap (λ s. s.body ++ c.args.bytes.now) c.self.view_is in
    written_on (g.K.Desk.aside c.args.desk.now) (g.K.Desk.aside c.make_room.new.desk) (g.K.Desk.aside c.make_room.new.desk) c.args.self.now c.make_room.new.self after [] (option_to_list message)
    c.in_ok-make_room.ensures.written
    (taken grammar (g.K.Desk.aside c.make_room.new.desk) c.make_room.new.self after c.args.bytes.now message (ap (λ s. s.tip) c.self.view_is) body says)
