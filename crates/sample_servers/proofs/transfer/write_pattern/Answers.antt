use Rattle.std.proofs.Common.{◌∙◌, sym, ap, ◌++◌, ◌∷◌, [], arith, append_assoc}
use Rattle.sample_servers.specs.Transfer.{pattern}
use Rattle.sample_servers.proofs.Patterns.{pattern_push}
use Rattle.sample_servers.proofs.transfer.write_pattern.Goals as goal

pub loop-i-preserved : goal.loop-i-preserved
loop-i-preserved c =
    let so_far = pattern c.args.place c.loop-i.i in
    record {
      next = omega arith;
      so_far = c.in_ok-push.ensures.items
          ∙ ap (λ bytes. bytes ++ c.loop-i.next ∷ []) c.loop-i.invariant.so_far
          ∙ append_assoc _ so_far (c.loop-i.next ∷ [])
          ∙ ap (λ byte. c.reserve.new.self.items ++ (so_far ++ byte ∷ [])) c.loop-i.invariant.next
          ∙ ap (λ bytes. c.reserve.new.self.items ++ bytes) (sym (pattern_push c.args.place c.loop-i.i));
    }
