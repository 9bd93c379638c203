use Rattle.std.proofs.Common.{ℕ, ◌+◌, length, take, drop, sym, ap, ◌∙◌, arith}
use Rattle.std.proofs.lemmas.List.{take_rest, take_all, drop_all}
use Rattle.web_service.proofs.Texts.{place_found, place_none}
use Rattle.web_service.proofs.text.split_at_byte.Goals as goal

pub returns-in-Some-clause-back : goal.returns-in-Some-clause-back
returns-in-Some-clause-back c =
    let bytes = c.args.bytes.now in
    let found = c.in-Some.ensures in
    let within = found.0.high in
    take_rest bytes (c.in-Some.at + 1) ∙ ap (λ (n : ℕ). drop (n + 1) bytes) (sym (place_found c.args.byte bytes c.in-Some.at (omega arith) found.0.before found.1))

pub returns-in-None-clause-front : goal.returns-in-None-clause-front
returns-in-None-clause-front c =
    let bytes = c.args.bytes.now in
    sym (ap (λ (n : ℕ). take n bytes) (place_none c.args.byte bytes c.in-None.ensures) ∙ take_all (length bytes) bytes (omega arith))

pub returns-in-None-clause-back : goal.returns-in-None-clause-back
returns-in-None-clause-back c =
    let bytes = c.args.bytes.now in
    take_rest bytes (length bytes) ∙ drop_all (length bytes) bytes (omega arith)
    ∙ sym (ap (λ (n : ℕ). drop (n + 1) bytes) (place_none c.args.byte bytes c.in-None.ensures) ∙ drop_all (length bytes + 1) bytes (omega arith))
