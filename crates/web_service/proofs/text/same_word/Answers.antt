use Rattle.web_service.proofs.Texts.{same_tested}
use Rattle.web_service.proofs.text.same_word.Goals as goal

pub returns : goal.returns
returns c = same_tested c.args.a.now c.args.b.now c.eq_ignore_ascii_case.result c.eq_ignore_ascii_case.ensures.test
