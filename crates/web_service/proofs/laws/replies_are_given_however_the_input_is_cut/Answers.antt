use Rattle.std.proofs.Common.{[]}
use Rattle.web_service.specs.Web.{web_started}
use Rattle.web_service.proofs.Replies.{runs}
use Rattle.web_service.proofs.laws.replies_are_given_however_the_input_is_cut.Goals as goal

pub returns-clause-output : goal.returns-clause-output
returns-clause-output c chunks some room = (runs chunks web_started [] some room).output

pub returns-clause-closed : goal.returns-clause-closed
returns-clause-closed c chunks some room = (runs chunks web_started [] some room).closed
