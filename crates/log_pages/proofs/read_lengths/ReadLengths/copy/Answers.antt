use Rattle.std.proofs.Common.{◌∙◌, ◌++◌, ap, take, drop}
use Rattle.log_pages.specs.Pages.{lengths_in}
use Rattle.log_pages.proofs.Lengths.{spelled_fits, three_spelled}
use Rattle.log_pages.proofs.read_lengths.ReadLengths.copy.Goals as goal

pub copy-requires : goal.copy-requires
copy-requires c = spelled_fits (c.spell_run-skip.new.lens ++ drop c.spell_run-skip.result (lengths_in c.self.inside.high)) c.spell_run-skip-2.new.lens c.spell_run-skip-2.ensures.lens

pub returns : goal.returns
returns c =
    three_spelled c.self.inside.low c.self.inside.high c.self.inside.rest c.args.lens.now c.spell_run-skip.new.lens c.spell_run-skip-2.new.lens c.copy.new.lens c.args.first
    c.spell_run-skip.result c.spell_run-skip-2.result c.requires.empty c.spell_run-skip.ensures.lens c.spell_run-skip.ensures.skip c.spell_run-skip-2.ensures.lens
    c.spell_run-skip-2.ensures.skip c.copy.ensures
    ∙ ap (λ xs. take 512 (drop c.args.first xs)) c.self.view_is
