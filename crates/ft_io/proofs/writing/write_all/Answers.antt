-- Each call moves a front of what is left after what was done; a call that fails leaves the sink as it was.
use Rattle.std.proofs.Common.{◌≡◌, ℕ, ◌-◌, List, ◌++◌, length, take, drop, sym, ap, ◌∙◌, subst, append_assoc, take-append-drop, Result, Ok, Err, OnErr}
use Rattle.std.proofs.lemmas.List.{take_rest}
use Rattle.std.proofs.Math.Seq.{take-append_seam}
use Rattle.std.specs.Io.KnownBytes.{Appends}
use Rattle.std.proofs.KnownBytes.{Appends-trans, Appends-kept}
use Rattle.ft_io.proofs.writing.write_all.Goals as goal

moves_front : (all done rest : List ℕ) (n : ℕ) → all ≡ done ++ rest → all ≡ (done ++ take n rest) ++ take (length rest - n) (drop n rest)
moves_front all done rest n e =
    e ∙ ap (λ l. done ++ l) (sym (take-append-drop n rest)) ∙ sym (append_assoc done (take n rest) (drop n rest)) ∙ ap (λ l. (done ++ take n rest) ++ l) (sym (take_rest rest n))

front_done : (all done rest : List ℕ) → all ≡ done ++ rest → done ≡ take (length done) all
front_done all done rest e = sym (take-append_seam done rest) ∙ ap (take (length done)) (sym e)

at_err : {T E P : Type 0} (r : Result T E) → P → OnErr r P
at_err (Ok x) p = tt
at_err (Err e) p = p

pub returns-in_err-n-clause-front : goal.returns-in_err-n-clause-front
returns-in_err-n-clause-front g c =
    let (done, split, appended) = c.loop-rest.invariant.0 in
    let same = Appends-kept _ _ _ done appended c.in_err-n.ensures.bytes in
    at_err c.from_residual.result (length done, subst (Appends _ _) (front_done _ done _ split) same)

pub loop-rest-preserved : goal.loop-rest-preserved
loop-rest-preserved g c =
    let (done, split, appended) = c.loop-rest.invariant.0 in
    let rest = c.loop-rest.rest.now in
    let n = c.in_ok-n.n in
    ((done ++ take n rest, moves_front _ done rest n split, Appends-trans _ _ _ _ _ appended c.in_ok-n.ensures.bytes), c.in_ok-n.ensures.no_fault ∙ c.loop-rest.invariant.1)
