use Rattle.std.proofs.Common.{rules, ◌≡◌, ◌≤◌, length, take, subst, sym, slice_get, Some}
use Rattle.std.proofs.lemmas.List.{take_all}
use Rattle.ft_model.specs.Node.Input.{Tick_comes}
use Rattle.node_serving.specs.Identity.{node_of, grammar_in}
use Rattle.node_serving.specs.Openings.{ArePut, all_opens, slot_opens}
use Rattle.node_serving.proofs.Collecting.{entry_at}
use Rattle.node_serving.proofs.Opens.{opens_more, put_none, put_on}
use Rattle.node_serving.proofs.Sound.{sound_at}
use Rattle.node_serving.proofs.opening.ask_all.Goals as goal

pub ask_slot-requires-clause-sound : goal.ask_slot-requires-clause-sound
ask_slot-requires-clause-sound g c = sound_at c.args.who c.args.slots.now.entries c.loop-i.i c.key_at.result c.index.result.now c.requires.sound c.key_at.ensures c.index.ensures

pub loop-i-init : goal.loop-i-init
loop-i-init g c = λ stage. put_none (grammar_in c.args.who) c.args.turn.now.sent.items

pub loop-i-preserved : goal.loop-i-preserved
loop-i-preserved g c =
    let reported = rw c.in_ok-ask_slot.was at c.ask_slot.ensures in
    let es = c.args.slots.now.entries in
    let at : slice_get es c.loop-i.i ≡ Some (c.key_at.result, c.index.result.now) = entry_at es c.loop-i.i c.key_at.result c.index.result.now c.key_at.ensures c.index.ensures in
    λ stage. subst (λ ps. ArePut (grammar_in c.args.who) ps c.args.turn.now.sent.items c.ask_slot.new.turn.sent.items) (sym (opens_more (node_of c.args.who stage) Tick_comes es c.loop-i.i c.key_at.result c.index.result.now at))
    (put_on (grammar_in c.args.who) (all_opens (node_of c.args.who stage) Tick_comes (take c.loop-i.i es)) (slot_opens (node_of c.args.who stage) Tick_comes c.key_at.result c.index.result.now)
    c.args.turn.now.sent.items c.loop-i.turn.sent.items c.ask_slot.new.turn.sent.items (c.loop-i.invariant stage) (reported stage))

pub returns-clause-asked : goal.returns-clause-asked
returns-clause-asked g c =
    let es = c.args.slots.now.entries in
    let past : length es ≤ c.loop-i.i = search rules in
    λ stage. subst (λ xs. ArePut (grammar_in c.args.who) (all_opens (node_of c.args.who stage) Tick_comes xs) c.args.turn.now.sent.items c.loop-i.turn.sent.items) (take_all c.loop-i.i es past) (c.loop-i.invariant stage)
