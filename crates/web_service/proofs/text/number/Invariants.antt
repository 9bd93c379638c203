use Rattle.std.proofs.Common.{◌≡◌, ◌≤◌, ◌^◌, drop}
use Rattle.web_service.specs.Text.{number_from}
use Rattle.web_service.proofs.text.number.Given as goal

abbrev pub invariant-loop-byte : goal.invariant-loop-byte
invariant-loop-byte l = record {
  small : l.number ≤ 10 ^ 18;
  same : number_from l.number (drop l.byte-index l.word) ≡ number_from 0 l.word;
}
