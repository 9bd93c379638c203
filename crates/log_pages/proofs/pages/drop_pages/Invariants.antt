use Rattle.std.proofs.Common.{◌≡◌, ◌*◌, drop}
use Rattle.std.specs.Prelude.{IfSome}
use Rattle.std.specs.List.{All}
use Rattle.log_pages.specs.Pages.{IsFull, IsLast, kept}
use Rattle.log_pages.proofs.pages.drop_pages.Given as goal

abbrev pub invariant-loop-dropped : goal.invariant-loop-dropped
invariant-loop-dropped l =
    (kept l.full.items l.last ≡ drop (4096 * l._dropped) (kept l.initial.full.items l.initial.last)) × All IsFull l.full.items × IfSome l.last IsLast
