use Rattle.std.proofs.Common.{◌≡◌, ◌∙◌, sym, ap, ◌++◌, length, drop}
use Rattle.std.specs.Prelude.{bytes_eq, codes}
use Rattle.std.specs.Cmp.Lexicographic.{same_text}
use Rattle.std.proofs.lemmas.List.{take-append-drop}
use Rattle.sample_servers.proofs.Lines.{bytes_eq_front, bytes_eq_other_front}
use Rattle.sample_servers.proofs.line.is_quit.Goals as goal

pub returns-in-Some : goal.returns-in-Some
returns-in-Some c =
    let front = c.args.front.now in
    let parts = c.in-Some.ensures.cases in
    let whole : front ++ c.in-Some.rest.now ≡ codes "quit" = ap (λ rest. front ++ rest) parts.1 ∙ ap (λ text. text ++ drop (length front) (codes "quit")) (sym (same_text _ _ (sym parts.0))) ∙ take-append-drop (length front) (codes "quit") in
    c.eq.ensures ∙ sym (bytes_eq_front front c.args.back.now c.in-Some.rest.now) ∙ ap (bytes_eq (front ++ c.args.back.now)) whole

pub returns-in-None : goal.returns-in-None
returns-in-None c = sym (bytes_eq_other_front (codes "quit") c.args.front.now c.args.back.now c.in-None.ensures.cases)
