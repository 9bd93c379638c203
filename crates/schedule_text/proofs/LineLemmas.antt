-- What brings a line that was appended word by word into one form, and what an append leaves of the text before the line.
use Rattle.std.proofs.Common.{append_assoc, append-nil}
use Rattle.std.proofs.Math.Seq.{take-length, drop-length}
use Rattle.std.proofs.lemmas.List.{take-append-le, drop-append-le, take-append-drop, length-drop, length-take}

pub ruleset line_rules = (append_assoc, append-nil)

pub ruleset line_grows = (take-append-le, drop-append-le, take-length, drop-length, take-append-drop, length-drop, length-take)
