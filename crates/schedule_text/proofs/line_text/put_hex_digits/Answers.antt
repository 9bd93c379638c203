use Rattle.std.proofs.Common.{◌∙◌, rules}
use Rattle.schedule_text.proofs.Hex.{part_written, all_written}
use Rattle.schedule_text.proofs.line_text.put_hex_digits.Goals as goal

pub loop-rest-preserved : goal.loop-rest-preserved
loop-rest-preserved c = (
  part_written c.loop-rest.line.words c.append.new.self.words c.loop-rest.rest.now c.split_at.result.0.now c.split_at.result.1.now c.encode_to_slice.new.output _ _
      c.in_ok-append.ensures.ok c.in-Ok.ensures.written c.split_at.ensures.front c.split_at.ensures.back c.loop-rest.invariant.0,
  c.in_ok-append.ensures.before ∙ c.loop-rest.invariant.1,
)

pub returns-clause-ok : goal.returns-clause-ok
returns-clause-ok c = all_written c.loop-rest.line.words c.loop-rest.rest.now _ (search rules) c.loop-rest.invariant.0
