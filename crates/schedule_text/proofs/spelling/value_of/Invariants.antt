use Rattle.std.proofs.Common.{◌≡◌, ◌<◌, ◌^◌, true, drop}
use Rattle.std.specs.List.{list_all}
use Rattle.std.specs.Char.{is_ascii_digit}
use Rattle.std.specs.Str.Parse.{digits_value, digits_value_after}
use Rattle.schedule_text.proofs.spelling.value_of.Given as goal

-- the digits so far and those that are left write the whole number
abbrev pub invariant-loop-byte : goal.invariant-loop-byte
invariant-loop-byte l =
    (digits_value_after 10 l.value (drop l.byte-index l.word) ≡ digits_value 10 l.word)
    × (list_all is_ascii_digit (drop l.byte-index l.word) ≡ true)
    × (l.value < 10 ^ l.byte-index)
