use Rattle.std.proofs.Common.{◌≡◌, ℕ, ◌+◌, ◌≤◌, ◌++◌, List, ap, arith, length, ◌∙◌}
use Rattle.std.specs.Prelude.{replicate}
use Rattle.tcp_buffers.specs.Runs.{written}
use Rattle.tcp_buffers.proofs.Overwrites.{pad_more, zeros_count, zeros_after, zeros_longer}
use Rattle.tcp_buffers.proofs.overwriting.pad_with.Goals as goal

pub loop-queue-preserved : goal.loop-queue-preserved
loop-queue-preserved c =
    let items : List ℕ = c.loop-queue.queue.items in
    let count : ℕ = c.min-count.result in
    let most : length c.args.zeros.now ≡ 512 = zeros_count c.args.zeros.now c.requires.zeros in
    let few : count ≤ 512 = omega (arith, most, c.min-count.ensures) in
    let within : length items + count ≤ c.args.to = omega (arith, c.min-count.ensures, c.len-in-loop-queue.ensures.len, c.loop-queue.invariant.within) in
    let after : c.append.new.queue.items ≡ items ++ replicate count 0 = zeros_after items c.args.zeros.now _ count c.requires.zeros few c.append.ensures.items in
    record {
      items = λ bytes some. ap (written c.args.to bytes) after ∙ pad_more c.args.to bytes items count some within ∙ c.loop-queue.invariant.items bytes some;
      within = omega (arith, zeros_longer items _ count after, within);
      room = c.append.ensures.room;
    }

pub loop-queue-smaller : goal.loop-queue-smaller
loop-queue-smaller c =
    let items : List ℕ = c.loop-queue.queue.items in
    let count : ℕ = c.min-count.result in
    let most : length c.args.zeros.now ≡ 512 = zeros_count c.args.zeros.now c.requires.zeros in
    let few : count ≤ 512 = omega (arith, most, c.min-count.ensures) in
    let after : c.append.new.queue.items ≡ items ++ replicate count 0 = zeros_after items c.args.zeros.now _ count c.requires.zeros few c.append.ensures.items in
    omega (arith, zeros_longer items _ count after, most, c.min-count.ensures, c.len-in-loop-queue.ensures.len, c.len.ensures.len, c.loop-queue-test.true)
