use Rattle.std.proofs.Common.{rules, ◌≡◌, ◌∙◌, ◌<◌, ◌≤◌, ◌++◌, append-nil, add-one, slice_get, Some, length, subst, sym, refl, []}
use Rattle.indexmap.specs.Layout.{length-set_value_at}
use Rattle.conn_marks.proofs.MarkWires.{out_none}
use Rattle.node_serving.specs.Identity.{node_of, service_of, grammar_in}
use Rattle.node_serving.specs.Markers.{saving, marker_of}
use Rattle.node_serving.specs.MarkedServing.{SlotTicks}
use Rattle.node_serving.specs.Slots.{SlotStands}
use Rattle.node_serving.proofs.AllSlots.{value_at, key_is_at}
use Rattle.node_serving.proofs.MarkedTicks.{ticks_more_marked, ticks_all_marked}
use Rattle.node_serving.proofs.Sound.{sound_at, sound_put}
use Rattle.ft_model.specs.Node.Input.{Tick_comes}
use Rattle.mark_laws.specs.MarkedNode.MarkedInput.{Plain_comes}
use Rattle.node_serving.specs.MarkedAlone.{AreAmong, IsMarkOfSubject}
use Rattle.node_serving.proofs.Among.{among_none, tick_among}
use Rattle.node_serving.proofs.Collecting.{entry_at}
use Rattle.node_serving.proofs.Ticked.{ticks_slot, ticks_more, ticks_alone}
use Rattle.node_serving.proofs.marked_serving.tick_all_marked.Goals as goal

pub tick_marked-requires-clause-sound : goal.tick_marked-requires-clause-sound
tick_marked-requires-clause-sound g c = sound_at c.args.who c.loop-i.slots.entries c.loop-i.i c.key_at-key.result c.index_mut.result.now c.loop-i.invariant.1 c.key_at-key.ensures c.index_mut.ensures.value

pub loop-i-preserved : goal.loop-i-preserved
loop-i-preserved g c =
    let reported = rw c.in_ok-tick_marked.was at c.tick_marked.ensures in
    let within : c.loop-i.i < length c.loop-i.slots.entries = search rules in (
      length-set_value_at c.loop-i.slots.entries c.loop-i.i c.tick_marked.new.slot ∙ c.loop-i.invariant.0,
      sound_put c.args.who c.loop-i.slots.entries c.loop-i.i c.key_at-key.result c.tick_marked.new.slot c.loop-i.invariant.1 c.key_at-key.ensures reported.sound,
      λ every standing marking places keeps settled st.
          let by = marker_of g.S.Service (saving g.S.Saved.form g.S.Saved.state_of g.S.Saved.is_savable) c.args.who every in
          let node = node_of c.args.who standing in
          ticks_more_marked by node marking places c.loop-i.i c.loop-i.slots.entries c.args.turn.now.sent.items c.loop-i.turn.sent.items c.tick_marked.new.turn.sent.items c.tick_marked.new.slot within
          (c.loop-i.invariant.2 every standing marking places keeps settled st)
          (λ key was place at calm stands.
          let same : key ≡ c.key_at-key.result = key_is_at c.loop-i.slots.entries c.loop-i.i key c.key_at-key.result was at c.key_at-key.ensures in
          let here = subst (λ s. SlotStands by.service node key s place)
          (value_at c.loop-i.slots.entries c.loop-i.i key was c.index_mut.result.now at c.index_mut.ensures.value) stands in
          subst (λ k. SlotTicks by node marking k place c.tick_marked.new.slot c.loop-i.turn.sent.items c.tick_marked.new.turn.sent.items) (sym same)
          (reported.turn every standing marking place keeps calm (subst (λ k. SlotStands by.service node k c.index_mut.result.now place) same here))),
      λ standing.
          let service = service_of g.S.Service c.args.who in
          let node = node_of c.args.who standing in
          let sofar = c.loop-i.invariant.3 standing in
          let at : slice_get c.loop-i.slots.entries c.loop-i.i ≡ Some (c.key_at-key.result, c.index_mut.result.now) =
          entry_at c.loop-i.slots.entries c.loop-i.i c.key_at-key.result c.index_mut.result.now c.key_at-key.ensures c.index_mut.ensures.value in
          let tick = reported.alone in (
            sofar.0 ++ tick.only.reported,
            tick_among service node c.key_at-key.result c.args.turn.now.sent.items sofar.0 tick.only.reported c.loop-i.turn.sent.items tick.mid c.tick_marked.new.turn.sent.items sofar.1 tick.only.put tick.among,
            rw (add-one) (ticks_more service node c.loop-i.i c.args.slots.now.entries c.loop-i.slots.entries sofar.0 tick.only.reported c.key_at-key.result c.index_mut.result.now
                c.tick_marked.new.slot at sofar.2
                (ticks_slot service node c.key_at-key.result c.index_mut.result.now c.tick_marked.new.slot c.loop-i.turn.sent.items tick.mid tick.only (λ q stands. tick.goes standing q stands))),
          ),
    )

pub loop-i-init : goal.loop-i-init
loop-i-init g c = (
  sym c.len-i-end.ensures.len,
  c.requires.sound,
  λ every standing marking places keeps settled st. record {
    done = [];
    left = places;
    went = [];
    sent = [];
    split = refl;
    at = refl;
    stands = st;
    go = (refl, refl);
    settled = tt;
    waiting = settled;
    out = out_none (grammar_in c.args.who) c.args.turn.now.sent.items;
  },
  λ standing.
      let node = node_of c.args.who standing in (
        [],
        subst (λ l. AreAmong (IsMarkOfSubject node (Plain_comes Tick_comes)) l c.args.turn.now.sent.items) (sym (append-nil c.args.turn.now.sent.items))
            (among_none (IsMarkOfSubject node (Plain_comes Tick_comes)) c.args.turn.now.sent.items),
        (refl, refl),
      ),
)

pub returns-clause-turn : goal.returns-clause-turn
returns-clause-turn g c = λ every standing marking places keeps settled st.
    let past : length c.loop-i.slots.entries ≤ c.loop-i.i = search rules in
    let within : c.loop-i.i ≤ length c.loop-i.slots.entries = search rules in
    ticks_all_marked (marker_of g.S.Service (saving g.S.Saved.form g.S.Saved.state_of g.S.Saved.is_savable) c.args.who every) (node_of c.args.who standing) marking places c.loop-i.i c.loop-i.slots.entries
    c.args.turn.now.sent.items c.loop-i.turn.sent.items past within (c.loop-i.invariant.2 every standing marking places keeps settled st)

pub returns-clause-alone : goal.returns-clause-alone
returns-clause-alone g c = λ standing.
    let all = c.loop-i.invariant.3 standing in record {
      reported = all.0;
      slots = ticks_alone (service_of g.S.Service c.args.who) (node_of c.args.who standing) c.loop-i.i c.args.slots.now.entries c.loop-i.slots.entries [] all.0 all.0 (search rules) c.len-i-end.ensures.unique refl all.2;
      among = all.1;
    }
