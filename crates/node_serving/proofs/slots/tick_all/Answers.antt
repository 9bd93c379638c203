use Rattle.std.proofs.Common.{rules, ◌≡◌, ◌∙◌, ◌<◌, ◌≤◌, length, subst, sym, arith, ap, ◌++◌, append_assoc, append-nil, slice_get, Some, refl, add-one, []}
use Rattle.server_trait.specs.Service.{machine}
use Rattle.ft_model.specs.Node.Input.{Tick_comes}
use Rattle.indexmap.specs.Layout.{length-set_value_at}
use Rattle.node_serving.specs.Identity.{node_of}
use Rattle.node_serving.specs.Slots.{SlotStands, SlotGoes}
use Rattle.node_serving.proofs.AllSlots.{first_more, first_all, value_at, key_is_at}
use Rattle.node_serving.proofs.Collecting.{entry_at}
use Rattle.node_serving.proofs.Sound.{sound_at, sound_put}
use Rattle.node_serving.proofs.Ticked.{ticks_slot, ticks_more, ticks_alone}
use Rattle.node_serving.proofs.Known.{same_known_at}
use Rattle.node_serving.proofs.slots.tick_all.Goals as goal

pub key_at-key-requires : goal.key_at-key-requires
key_at-key-requires g c = omega (arith, c.loop-i.invariant.0, c.loop-i-test.true)

pub tick_slot-requires : goal.tick_slot-requires
tick_slot-requires g c = sound_at c.args.who c.loop-i.slots.entries c.loop-i.i c.key_at-key.result c.index_mut.result.now c.loop-i.invariant.1 c.key_at-key.ensures c.index_mut.ensures.value

pub loop-i-preserved : goal.loop-i-preserved
loop-i-preserved g c =
    let reported = rw c.in_ok-tick_slot.was at c.tick_slot.ensures in
    let within : c.loop-i.i < length c.loop-i.slots.entries = search rules in
    let service = machine (g.S.Service.started c.args.who.kind) g.S.Service.after g.S.Service.greeting in (
      length-set_value_at c.loop-i.slots.entries c.loop-i.i c.tick_slot.new.slot ∙ c.loop-i.invariant.0,
      sound_put c.args.who c.loop-i.slots.entries c.loop-i.i c.key_at-key.result c.tick_slot.new.slot c.loop-i.invariant.1 c.key_at-key.ensures reported.sound,
      λ stage places st. first_more service (node_of c.args.who stage) Tick_comes places c.loop-i.i c.loop-i.slots.entries c.args.turn.now.sent.items
          c.loop-i.turn.sent.items c.tick_slot.new.turn.sent.items c.tick_slot.new.slot within (c.loop-i.invariant.2 stage places st)
          (λ key was place at stands.
          let same : key ≡ c.key_at-key.result = key_is_at c.loop-i.slots.entries c.loop-i.i key c.key_at-key.result was at c.key_at-key.ensures in
          let here = subst (λ s. SlotStands service (node_of c.args.who stage) key s place)
          (value_at c.loop-i.slots.entries c.loop-i.i key was c.index_mut.result.now at c.index_mut.ensures.value) stands in
          subst (λ k. SlotGoes service (node_of c.args.who stage) Tick_comes k place c.tick_slot.new.slot c.loop-i.turn.sent.items c.tick_slot.new.turn.sent.items) (sym same)
          (reported.turn stage place tt (subst (λ k. SlotStands service (node_of c.args.who stage) k c.index_mut.result.now place) same here))),
      λ stage.
          let sofar = c.loop-i.invariant.3 stage in
          let at : slice_get c.loop-i.slots.entries c.loop-i.i ≡ Some (c.key_at-key.result, c.index_mut.result.now) =
          entry_at c.loop-i.slots.entries c.loop-i.i c.key_at-key.result c.index_mut.result.now c.key_at-key.ensures c.index_mut.ensures.value in (
            sofar.0 ++ reported.alone.reported,
            reported.alone.put ∙ (ap (λ ws. ws ++ reported.alone.reported) sofar.1 ∙ append_assoc c.args.turn.now.sent.items sofar.0 reported.alone.reported),
            rw (add-one) (ticks_more service (node_of c.args.who stage) c.loop-i.i c.args.slots.now.entries c.loop-i.slots.entries sofar.0 reported.alone.reported c.key_at-key.result c.index_mut.result.now
                c.tick_slot.new.slot at sofar.2
                (ticks_slot service (node_of c.args.who stage) c.key_at-key.result c.index_mut.result.now c.tick_slot.new.slot c.loop-i.turn.sent.items c.tick_slot.new.turn.sent.items reported.alone
                (λ q stands. reported.turn stage q tt stands))),
          ),
      same_known_at c.loop-i.slots.entries c.loop-i.i c.index_mut.result.now c.tick_slot.new.slot c.index_mut.ensures.value reported.known ∙ c.loop-i.invariant.4,
    )

pub returns-clause-turn : goal.returns-clause-turn
returns-clause-turn g c =
    let service = machine (g.S.Service.started c.args.who.kind) g.S.Service.after g.S.Service.greeting in
    let past : length c.loop-i.slots.entries ≤ c.loop-i.i = search rules in
    let within : c.loop-i.i ≤ length c.loop-i.slots.entries = search rules in
    λ stage places near st. first_all service (node_of c.args.who stage) Tick_comes places c.loop-i.i c.loop-i.slots.entries c.args.turn.now.sent.items c.loop-i.turn.sent.items
    past within (c.loop-i.invariant.2 stage places st)

pub loop-i-init : goal.loop-i-init
loop-i-init g c = (
  sym c.len-i-end.ensures.len,
  c.requires,
  λ stage places st. record {
    done = [];
    left = places;
    went = [];
    packets = [];
    split = refl;
    at = refl;
    stands = st;
    go = (refl, refl);
    wires = sym (append-nil c.args.turn.now.sent.items);
    spelled = tt;
  },
  λ stage. ([], sym (append-nil c.args.turn.now.sent.items), (refl, refl)),
  refl,
)

pub returns-clause-alone : goal.returns-clause-alone
returns-clause-alone g c =
    let service = machine (g.S.Service.started c.args.who.kind) g.S.Service.after g.S.Service.greeting in
    λ stage.
    let all = c.loop-i.invariant.3 stage in
    ticks_alone service (node_of c.args.who stage) c.loop-i.i c.args.slots.now.entries c.loop-i.slots.entries c.args.turn.now.sent.items c.loop-i.turn.sent.items all.0 (search rules) c.len-i-end.ensures.unique all.1 all.2

pub returns-clause-known : goal.returns-clause-known
returns-clause-known g c = c.loop-i.invariant.4
