use Rattle.std.proofs.Common.{◌∙◌, sym, subst}
use Rattle.ft_io.specs.Key.{key_eq}
use Rattle.indexmap.proofs.CallerLemmas.{insert_entry-new}
use Rattle.node_serving.specs.Slots.{AllSound}
use Rattle.node_serving.proofs.Sound.{sound_insert}
use Rattle.node_serving.proofs.slots.add_slot.Goals as goal

pub returns-clause-added : goal.returns-clause-added
returns-clause-added g c none = c.in_ok-insert.ensures.entries ∙ insert_entry-new key_eq c.args.slots.now c.args.key c.args.slot none

pub returns-clause-sound : goal.returns-clause-sound
returns-clause-sound g c = λ who all one. subst (AllSound who) (sym c.in_ok-insert.ensures.entries) (sound_insert who c.args.key c.args.slots.now.entries c.args.slot all one)
