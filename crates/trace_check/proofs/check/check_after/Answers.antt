use Rattle.std.proofs.Common.{◌≡◌, ◌-◌, [], length, refl, arith}
use Rattle.ft_model.specs.Legal.{machines}
use Rattle.ft_model.specs.World.{Moment}
use Rattle.trace_check.proofs.WalkEnds.{header_is_checked, header_is_place, header_plays, header_walks}
use Rattle.trace_check.proofs.check.check_after.Goals as goal

pub new-requires-clause-playable : goal.new-requires-clause-playable
new-requires-clause-playable g c =
    header_plays (machines g.S.Service.started g.S.Service.after g.S.Service.greeting) c.args.text.now c.args.header.now.schedule c.args.header.now.bytes c.args.header.now.lines c.requires.read

pub new-requires-clause-fleeting : goal.new-requires-clause-fleeting
new-requires-clause-fleeting g c = c.requires.read.so_far.0.fleeting

pub check_turns-requires-clause-schedule : goal.check_turns-requires-clause-schedule
check_turns-requires-clause-schedule g c =
    header_is_checked (machines g.S.Service.started g.S.Service.after g.S.Service.greeting) c.args.text.now c.args.header.now.schedule c.args.header.now.bytes c.args.header.now.lines c.requires.read

pub check_turns-requires-clause-within : goal.check_turns-requires-clause-within
check_turns-requires-clause-within g c =
    let turns : c.in-Ok.world.turns ≡ length {A = Moment} [] = (c.in-Ok.ensures c.args.header.now.schedule.events).turns in (
      header_is_place (machines g.S.Service.started g.S.Service.after g.S.Service.greeting) c.args.text.now c.args.header.now.schedule
          (record { at = c.args.header.now.bytes; lines = c.args.header.now.lines; size = c.args.header.now.bytes - 11 }) c.requires.read c.requires.size refl,
      c.requires.short,
      omega (arith, turns),
    )

pub check_turns-requires-clause-walked : goal.check_turns-requires-clause-walked
check_turns-requires-clause-walked g c = (
  [],
  header_walks (machines g.S.Service.started g.S.Service.after g.S.Service.greeting) c.args.text.now c.args.header.now.schedule
      (record { at = c.args.header.now.bytes; lines = c.args.header.now.lines; size = c.args.header.now.bytes - 11 }) c.in-Ok.world c.requires.read c.requires.after c.requires.size refl
      (c.in-Ok.ensures c.args.header.now.schedule.events),
)
