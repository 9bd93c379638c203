use Rattle.std.proofs.Common.{◌≡◌, ◌≤◌, ◌-◌, ◌+◌, subst, length, take, drop, length-drop, arith}
use Rattle.std.proofs.lemmas.List.{take_all}
use Rattle.disk.specs.FileContent.{written_in}
use Rattle.disk.proofs.Writing.{more_written}
use Rattle.disk.proofs.file_disk.write_whole.Goals as goal

pub loop-done-preserved : goal.loop-done-preserved
loop-done-preserved g c =
    let bytes = c.args.bytes.now in
    let done = c.loop-done.done in
    let more = c.in_ok-more.more in
    let rest : take (length bytes - done) (drop done bytes) ≡ drop done bytes = take_all (length bytes - done) (drop done bytes) (omega (arith, length-drop done bytes)) in
    let few : more ≤ length (drop done bytes) = subst (λ l. more ≤ length l) rest c.in_ok-more.ensures.within in
    record {
      within = omega (arith, few, c.loop-done.invariant.within, length-drop done bytes);
      so_far = λ there. more_written c.args.at done more bytes (g.F.OpenFile.content c.args.file.now) (g.F.OpenFile.content c.loop-done.file)
          (g.F.OpenFile.content c.write_at.new.self) c.loop-done.invariant.within there (c.loop-done.invariant.so_far there)
          (subst (λ l. g.F.OpenFile.content c.write_at.new.self ≡ written_in (c.args.at + done) (take more l) (g.F.OpenFile.content c.loop-done.file)) rest
          c.in_ok-more.ensures.written);
    }
