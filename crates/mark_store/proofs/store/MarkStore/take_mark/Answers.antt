use Rattle.std.proofs.Common.{◌≡◌, ◌∙◌, ◌≤◌, ◌==◌, ℕ, true, false, sym, ap, subst, rules, None, Some, length, if◌then◌else◌, arith}
use Rattle.log_pages.specs.Pages.{place_of}
use Rattle.logger_wire.specs.MarkValue.{mark_said}
use Rattle.mark_store.specs.Refinement.{mark_at}
use Rattle.mark_store.proofs.Steps.{kept_given, not_kept, none_kept}
use Rattle.mark_store.proofs.store.MarkStore.take_mark.Goals as goal

pub returns-in_default-clause-ok : goal.returns-in_default-clause-ok
returns-in_default-clause-ok c =
    let few : length c.args.self.now.trimmed.log.entries ≤ 64 = subst (λ s. length s.trimmed.log.entries ≤ 64) c.self.view_is c.place_of.ensures.within in
    let none : c.place_of.result ≡ None = search rules in
    let at : place_of c.args.key c.args.self.now.trimmed.log ≡ None =
    ap (λ s. place_of c.args.key s.trimmed.log) (sym c.self.view_is) ∙ (sym c.place_of.ensures.value ∙ none) in
    λ l a. none_kept c.args.self.now l c.args.key (mark_said c.args.mark.now) a few at

pub returns-then-not-follows-clause-ok : goal.returns-then-not-follows-clause-ok
returns-then-not-follows-clause-ok c =
    let few : length c.args.self.now.trimmed.log.entries ≤ 64 = subst (λ s. length s.trimmed.log.entries ≤ 64) c.self.view_is c.place_of.ensures.within in
    let some : c.place_of.result ≡ Some c.in-Some.place = search rules in
    let at : place_of c.args.key c.args.self.now.trimmed.log ≡ Some c.in-Some.place =
    ap (λ s. place_of c.args.key s.trimmed.log) (sym c.self.view_is) ∙ (sym c.place_of.ensures.value ∙ some) in
    let not_so : c.follows.result ≡ false = search rules in
    λ l a. not_kept c.args.self.now l c.args.key (mark_said c.args.mark.now) c.in-Some.place a few at (sym c.follows.ensures.value ∙ not_so)

pub returns-clause-ok : goal.returns-clause-ok
returns-clause-ok c =
    let few : length c.args.self.now.trimmed.log.entries ≤ 64 = subst (λ s. length s.trimmed.log.entries ≤ 64) c.self.view_is c.place_of.ensures.within in
    let some : c.place_of.result ≡ Some c.in-Some.place = search rules in
    let at : place_of c.args.key c.args.self.now.trimmed.log ≡ Some c.in-Some.place =
    ap (λ s. place_of c.args.key s.trimmed.log) (sym c.self.view_is) ∙ (sym c.place_of.ensures.value ∙ some) in
    let so : c.follows.result ≡ true = search rules in
    let put : (j : ℕ) → mark_at c.put_at.new.marks.items j ≡ (if j == c.in-Some.place then mark_said c.args.mark.now else mark_at c.args.self.now.marks j) =
    λ j. c.in_ok-put_at.ensures.ok j
    ∙ (ap (λ m. if j == c.in-Some.place then m else mark_at c.self.inside.marks.items j) c.in_ok-kept.ensures
    ∙ ap (λ s. if j == c.in-Some.place then mark_said c.args.mark.now else mark_at s.marks j) c.self.view_is) in
    λ l a. kept_given c.args.self.now l c.args.key (mark_said c.args.mark.now) c.in-Some.place c.put_at.new.marks.items c.trim.new.self c.acknowledge.new.self a at
    (grind arith) few (sym c.follows.ensures.value ∙ so) (c.follows.ensures.trims so) (c.follows.ensures.within so) put (grind arith) (grind arith) c.acknowledge.ensures.log c.acknowledge.ensures.trims
