use Rattle.std.proofs.Common.{◌≡◌, find, drop}
use Rattle.ft_io.specs.Key.{key_eq}
use Rattle.reincarnate.proofs.fetching.head_among.Given as goal

abbrev pub invariant-loop-entry : goal.invariant-loop-entry
invariant-loop-entry g l =
    find (λ e. key_eq e.head.key l.fn.key) (drop l.entry-index l.fn.entries) ≡ find (λ e. key_eq e.head.key l.fn.key) l.fn.entries
