-- One step over a header's options.
use Rattle.std.specs.Prelude.{ℕ, List, ◌-◌, ◌==◌, slice_index, if◌then◌else◌}

-- how many bytes of an option follow its kind, by its length
abbrev pub option_rest : ℕ → List ℕ → ℕ
option_rest kind behind = if kind == 1 then 0 else slice_index behind 0 - 1
