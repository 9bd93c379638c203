use Rattle.std.proofs.Common.{◌≡◌, ◌+◌, ap, arith, length, ◌∙◌, ◌∷◌, sym}
use Rattle.tcp_buffers.specs.Runs.{written}
use Rattle.tcp_buffers.proofs.Overwrites.{set_next, length_set}
use Rattle.tcp_buffers.proofs.overwriting.set_each.Goals as goal

pub loop-byte-preserved : goal.loop-byte-preserved
loop-byte-preserved c =
    let split : c.loop-byte.rest.now ≡ c.in-Some.byte.now ∷ c.in-Some.behind.now = c.in-Some.ensures.cases.0 in
    let long : length c.loop-byte.rest.now ≡ length c.in-Some.behind.now + 1 = sym (c.in-Some.ensures.cases.1) in
    let room : length c.set.new.queue.items ≡ length c.loop-byte.queue.items = ap length c.set.ensures.items ∙ length_set c.loop-byte.queue.items c.loop-byte.place c.in-Some.byte.now in
    record {
      items = ap (written (c.loop-byte.place + 1) c.in-Some.behind.now) c.set.ensures.items
          ∙ set_next c.loop-byte.place c.in-Some.byte.now c.in-Some.behind.now c.loop-byte.queue.items (omega (arith, long, c.loop-byte.invariant.within))
          ∙ ap (λ l. written c.loop-byte.place l c.loop-byte.queue.items) (sym split) ∙ c.loop-byte.invariant.items;
      within = omega (arith, long, room, c.loop-byte.invariant.within);
      place = omega (arith, long, c.loop-byte.invariant.place);
      long = room ∙ c.loop-byte.invariant.long;
      room = c.set.ensures.room ∙ c.loop-byte.invariant.room;
    }
