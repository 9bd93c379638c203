use Rattle.std.proofs.Common.{ℕ, length, drop, sym, ap, ◌∙◌, arith}
use Rattle.std.proofs.lemmas.List.{take_rest}
use Rattle.web_service.proofs.Texts.{place_found, place_none}
use Rattle.web_service.proofs.request.from_slash.Goals as goal

pub returns-in-Some : goal.returns-in-Some
returns-in-Some c =
    let bytes = c.args.bytes.now in
    let found = c.in-Some.ensures in
    let within = found.0.high in
    take_rest bytes c.in-Some.at ∙ ap (λ (n : ℕ). drop n bytes) (sym (place_found 47 bytes c.in-Some.at (omega arith) found.0.before found.1))

pub returns-in-None : goal.returns-in-None
returns-in-None c =
    let bytes = c.args.bytes.now in
    take_rest bytes (length bytes) ∙ ap (λ (n : ℕ). drop n bytes) (sym (place_none 47 bytes c.in-None.ensures))
