use Rattle.node_serving.proofs.Among.{marks_nothing}
use Rattle.node_serving.proofs.marked_serving.mark_key.Goals as goal

pub send_new-requires-clause-sound : goal.send_new-requires-clause-sound
send_new-requires-clause-sound g c = c.in-Some.ensures.sound c.args.who c.requires.sound

pub returns-in-None-clause-alone : goal.returns-in-None-clause-alone
returns-in-None-clause-alone g c = marks_nothing c.args.who.boot c.args.key c.args.marks.now c.args.turn.now.sent.items
