use Rattle.std.proofs.Common.{◌≡◌, false, sym, append-nil, arith}
use Rattle.std.specs.Prelude.{bytes_eq, codes}
use Rattle.std.specs.Cmp.Lexicographic.{same_text}
use Rattle.std.proofs.lemmas.Bool.{false_from_ne_true}
use Rattle.sample_servers.specs.Line.{line_finished}
use Rattle.sample_servers.proofs.laws.line_number_stands_still.Goals as goal

pub returns-clause-state : goal.returns-clause-state
unfolding line_finished
returns-clause-state c held = grind arith

pub returns-clause-output : goal.returns-clause-output
unfolding line_finished
returns-clause-output c held other =
    let quit : bytes_eq held (codes "quit") ≡ false = false_from_ne_true (bytes_eq held (codes "quit")) (λ same. other (same_text held (codes "quit") (sym same))) in
    rw quit (append-nil _)
