use Rattle.std.proofs.Common.{rules}
use Rattle.web_service.proofs.Made.{bytes_none}
use Rattle.web_service.proofs.answer.write_bytes.Goals as goal

pub loop-i-init : goal.loop-i-init
loop-i-init c = search (rules, bytes_none)
