use Rattle.std.proofs.Common.{◌∙◌, ap, not}
use Rattle.log_pages.proofs.GivenUp.{popped_first}
use Rattle.log_pages.proofs.pages.drop_page.Goals as goal

pub returns-else-is_none-clause-value : goal.returns-else-is_none-clause-value
returns-else-is_none-clause-value c =
    (popped_first c.args.full.now.items c.pop_front.new.self.items c.pop_front.result c.args.last.now c.requires.full c.pop_front.ensures.items (c.is_none.ensures ∙ ap not c.if-is_none.false)).0

pub returns-else-is_none-clause-full : goal.returns-else-is_none-clause-full
returns-else-is_none-clause-full c =
    (popped_first c.args.full.now.items c.pop_front.new.self.items c.pop_front.result c.args.last.now c.requires.full c.pop_front.ensures.items (c.is_none.ensures ∙ ap not c.if-is_none.false)).1
