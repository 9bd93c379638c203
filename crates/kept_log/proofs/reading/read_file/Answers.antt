use Rattle.std.proofs.Common.{◌≡◌, ◌∙◌, ◌⊎◌, ◌≤◌, ◌++◌, [], ℕ, List, length, subst, arith}
use Rattle.std.proofs.lemmas.Result.{IfOk-weaker}
use Rattle.kept_log.specs.ReadSteps.{HasBegin, FindsBehind, FindsAs, FindsIn}
use Rattle.kept_log.specs.Startup.{BeginsOtherwise}
use Rattle.kept_log.proofs.Grammars.{found_other, found_same}
use Rattle.kept_log.specs.declared.header.Begin.TheVariants.{Empty, Unfinished, Older, Whole, Missing}
use Rattle.kept_log.proofs.Whole.{begin_fits, has_first, found_empty, found_unfinished, found_older, found_missing, found_whole}
use Rattle.kept_log.proofs.reading.read_file.Goals as goal

pub returns-in-Empty-clause-found : goal.returns-in-Empty-clause-found
returns-in-Empty-clause-found g c =
    let left = g.D.Disk.left in
    let first = has_first (left c.args.disk.now) (left c.fill_up.new.disk) c.new-window.result c.fill_up.new.window c.in_ok-fill_up.ensures.read c.new-window.ensures (λ few. c.in_ok-fill_up.ensures.end (omega (arith, few))) in
    found_empty (left c.args.disk.now) (left c.fill_up.new.disk) c.fill_up.new.window c.args.store.now first
    (subst (λ (b : List ℕ). HasBegin b Empty) c.bytes.ensures c.in-Empty.ensures)

pub returns-in-Unfinished-clause-found : goal.returns-in-Unfinished-clause-found
returns-in-Unfinished-clause-found g c =
    let left = g.D.Disk.left in
    let first = has_first (left c.args.disk.now) (left c.fill_up.new.disk) c.new-window.result c.fill_up.new.window c.in_ok-fill_up.ensures.read c.new-window.ensures (λ few. c.in_ok-fill_up.ensures.end (omega (arith, few))) in
    found_unfinished (left c.args.disk.now) (left c.fill_up.new.disk) c.fill_up.new.window c.args.store.now first
    (subst (λ (b : List ℕ). HasBegin b Unfinished) c.bytes.ensures c.in-Unfinished.ensures)

pub returns-in-Older-clause-found : goal.returns-in-Older-clause-found
returns-in-Older-clause-found g c =
    let left = g.D.Disk.left in
    let first = has_first (left c.args.disk.now) (left c.fill_up.new.disk) c.new-window.result c.fill_up.new.window c.in_ok-fill_up.ensures.read c.new-window.ensures (λ few. c.in_ok-fill_up.ensures.end (omega (arith, few))) in
    found_older (left c.args.disk.now) (left c.fill_up.new.disk) c.fill_up.new.window c.args.store.now first
    (subst (λ (b : List ℕ). HasBegin b Older) c.bytes.ensures c.in-Older.ensures)

pub returns-in-Missing-clause-found : goal.returns-in-Missing-clause-found
returns-in-Missing-clause-found g c =
    let left = g.D.Disk.left in
    let first = has_first (left c.args.disk.now) (left c.fill_up.new.disk) c.new-window.result c.fill_up.new.window c.in_ok-fill_up.ensures.read c.new-window.ensures (λ few. c.in_ok-fill_up.ensures.end (omega (arith, few))) in
    found_missing (left c.args.disk.now) (left c.fill_up.new.disk) c.fill_up.new.window c.args.store.now first
    (subst (λ (b : List ℕ). HasBegin b Missing) c.bytes.ensures c.in-Missing.ensures)

pub returns-clause-found : goal.returns-clause-found
returns-clause-found g c =
    let left = g.D.Disk.left in
    let first = has_first (left c.args.disk.now) (left c.fill_up.new.disk) c.new-window.result c.fill_up.new.window c.in_ok-fill_up.ensures.read c.new-window.ensures (λ few. c.in_ok-fill_up.ensures.end (omega (arith, few))) in
    let begins : HasBegin c.fill_up.new.window (Whole c.in-Whole.made) = subst (λ (b : List ℕ). HasBegin b (Whole c.in-Whole.made)) c.bytes.ensures c.in-Whole.ensures in
    IfOk-weaker c.read_rest.result (FindsBehind c.in-Whole.made c.skip.new.self (left c.fill_up.new.disk) c.read_rest.new.store) (FindsAs (left c.args.disk.now) c.read_rest.new.store)
    (λ found behind. found_whole (left c.args.disk.now) (left c.fill_up.new.disk) c.in-Whole.made c.fill_up.new.window c.read_rest.new.store first begins found
    (subst (λ (b : List ℕ). FindsBehind c.in-Whole.made b (left c.fill_up.new.disk) c.read_rest.new.store found) c.skip.ensures behind)) c.read_rest.ensures.found

pub returns-then-branch-clause-grammar : goal.returns-then-branch-clause-grammar
returns-then-branch-clause-grammar g c =
    let left = g.D.Disk.left in
    let first = has_first (left c.args.disk.now) (left c.fill_up.new.disk) c.new-window.result c.fill_up.new.window c.in_ok-fill_up.ensures.read c.new-window.ensures (λ few. c.in_ok-fill_up.ensures.end (omega (arith, few))) in
    let begins : HasBegin c.fill_up.new.window (Whole c.in-Whole.made) = subst (λ (b : List ℕ). HasBegin b (Whole c.in-Whole.made)) c.bytes.ensures c.in-Whole.ensures in
    found_other c.args.grammar (left c.args.disk.now) (left c.fill_up.new.disk) c.in-Whole.made c.fill_up.new.window first begins
    (subst (λ (b : List ℕ). (more : List ℕ) → BeginsOtherwise c.args.grammar c.in-Whole.made (b ++ more)) (c.bytes-in-Whole.ensures ∙ c.skip.ensures)
    (c.in_ok-has_other_grammar-in-Whole.ensures.some c.if-branch.true))

pub returns-clause-grammar : goal.returns-clause-grammar
returns-clause-grammar g c =
    let left = g.D.Disk.left in
    let first = has_first (left c.args.disk.now) (left c.fill_up.new.disk) c.new-window.result c.fill_up.new.window c.in_ok-fill_up.ensures.read c.new-window.ensures (λ few. c.in_ok-fill_up.ensures.end (omega (arith, few))) in
    let begins : HasBegin c.fill_up.new.window (Whole c.in-Whole.made) = subst (λ (b : List ℕ). HasBegin b (Whole c.in-Whole.made)) c.bytes.ensures c.in-Whole.ensures in
    let same = subst (λ (b : List ℕ). (more : List ℕ) → (381740 ≤ length b) ⊎ (more ≡ []) → BeginsOtherwise c.args.grammar c.in-Whole.made (b ++ more) → ⊥)
    (c.bytes-in-Whole.ensures ∙ c.skip.ensures) (c.in_ok-has_other_grammar-in-Whole.ensures.none c.if-branch.false) in
    IfOk-weaker c.read_rest.result (FindsBehind c.in-Whole.made c.skip.new.self (left c.fill_up.new.disk) c.read_rest.new.store) (FindsIn c.args.grammar (left c.args.disk.now))
    (λ found behind. found_same c.args.grammar (left c.args.disk.now) (left c.fill_up.new.disk) c.in-Whole.made c.fill_up.new.window c.read_rest.new.store first begins
    (λ few. c.in_ok-fill_up.ensures.end (omega (arith, few))) same found
    (subst (λ (b : List ℕ). FindsBehind c.in-Whole.made b (left c.fill_up.new.disk) c.read_rest.new.store found) c.skip.ensures behind)) c.read_rest.ensures.found

pub skip-requires : goal.skip-requires
skip-requires g c = begin_fits c.fill_up.new.window c.in-Whole.made (subst (λ (b : List ℕ). HasBegin b (Whole c.in-Whole.made)) c.bytes.ensures c.in-Whole.ensures)
