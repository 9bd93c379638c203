use Rattle.std.proofs.Common.{sym, subst}
use Rattle.ft_io.specs.Key.{key_eq}
use Rattle.node_serving.specs.Slots.{AllSound}
use Rattle.node_serving.proofs.Sound.{sound_drop}
use Rattle.node_serving.proofs.slots.forget_slot.Goals as goal

pub returns-clause-sound : goal.returns-clause-sound
returns-clause-sound g c = λ who all. subst (AllSound who) (sym c.shift_remove.ensures.entries) (sound_drop who (key_eq c.args.key) c.args.slots.now.entries all)
