use Rattle.own_service.proofs.read.Goals as goal

pub returns-in-Ok-clause-playable : goal.returns-in-Ok-clause-playable
returns-in-Ok-clause-playable c = c.accepted_schedules_can_be_played.ensures c.args.text.now c.in-Ok.schedule c.in-Ok.ensures
