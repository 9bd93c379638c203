use Rattle.std.proofs.Common.{◌≡◌, ◌∙◌, ◌-◌, sym, ap, ap₂, rules, None, Some}
use Rattle.log_pages.specs.Pages.{lengths_in, took}
use Rattle.log_pages.proofs.Took.{plus, took_three, three_summed}
use Rattle.log_pages.proofs.read_lengths.ReadLengths.took.Goals as goal

pub returns-in_err-in_low : goal.returns-in_err-in_low
returns-in_err-in_low c =
    let none : c.took_of.result ≡ None = search rules in
    let result : c.from_residual.result ≡ None = search rules in
    result
    ∙ (sym (took_three c.args.reads c.self.inside.low c.self.inside.high c.self.inside.rest
    ∙ ap (λ o. plus o (plus (took (c.args.reads - c.self.inside.low.count) (lengths_in c.self.inside.high)) (took (c.args.reads - c.self.inside.low.count - c.self.inside.high.count) c.self.inside.rest))) (sym c.took_of.ensures.value ∙ none))
    ∙ ap (took c.args.reads) c.self.view_is)

pub returns-in_err-in_high : goal.returns-in_err-in_high
returns-in_err-in_high c =
    let some : c.took_of.result ≡ Some c.in_ok-in_low.in_low = search rules in
    let none : c.took_of-2.result ≡ None = search rules in
    let result : c.from_residual-in_err-in_high.result ≡ None = search rules in
    let at : took (c.args.reads - c.self.inside.low.count) (lengths_in c.self.inside.high) ≡ None =
    ap (λ n. took n (lengths_in c.self.inside.high)) (sym c.saturating_sub.ensures) ∙ (sym c.took_of-2.ensures.value ∙ none) in
    result
    ∙ (sym (took_three c.args.reads c.self.inside.low c.self.inside.high c.self.inside.rest
    ∙ ap₂ (λ o p. plus o (plus p (took (c.args.reads - c.self.inside.low.count - c.self.inside.high.count) c.self.inside.rest))) (sym c.took_of.ensures.value ∙ some) at)
    ∙ ap (took c.args.reads) c.self.view_is)

pub returns-in_err-in_rest : goal.returns-in_err-in_rest
returns-in_err-in_rest c =
    let some : c.took_of.result ≡ Some c.in_ok-in_low.in_low = search rules in
    let more : c.took_of-2.result ≡ Some c.in_ok-in_high.in_high = search rules in
    let none : c.took.result ≡ None = search rules in
    let result : c.from_residual-in_err-in_rest.result ≡ None = search rules in
    let at : took (c.args.reads - c.self.inside.low.count) (lengths_in c.self.inside.high) ≡ Some c.in_ok-in_high.in_high =
    ap (λ n. took n (lengths_in c.self.inside.high)) (sym c.saturating_sub.ensures) ∙ (sym c.took_of-2.ensures.value ∙ more) in
    let behind : took (c.args.reads - c.self.inside.low.count - c.self.inside.high.count) c.self.inside.rest ≡ None =
    ap (λ n. took n c.self.inside.rest) (sym (c.saturating_sub-3.ensures ∙ ap (λ n. n - c.self.inside.high.count) c.saturating_sub-2.ensures)) ∙ (sym c.took.ensures ∙ none) in
    result
    ∙ (sym (took_three c.args.reads c.self.inside.low c.self.inside.high c.self.inside.rest
    ∙ ap₂ (λ o p. plus o p) (sym c.took_of.ensures.value ∙ some) (ap₂ (λ p q. plus p q) at behind))
    ∙ ap (took c.args.reads) c.self.view_is)

pub returns : goal.returns
returns c =
    let some : c.took_of.result ≡ Some c.in_ok-in_low.in_low = search rules in
    let more : c.took_of-2.result ≡ Some c.in_ok-in_high.in_high = search rules in
    let rest : c.took.result ≡ Some c.in_ok-in_rest.in_rest = search rules in
    let at : took (c.args.reads - c.self.inside.low.count) (lengths_in c.self.inside.high) ≡ Some c.in_ok-in_high.in_high =
    ap (λ n. took n (lengths_in c.self.inside.high)) (sym c.saturating_sub.ensures) ∙ (sym c.took_of-2.ensures.value ∙ more) in
    let behind : took (c.args.reads - c.self.inside.low.count - c.self.inside.high.count) c.self.inside.rest ≡ Some c.in_ok-in_rest.in_rest =
    ap (λ n. took n c.self.inside.rest) (sym (c.saturating_sub-3.ensures ∙ ap (λ n. n - c.self.inside.high.count) c.saturating_sub-2.ensures)) ∙ (sym c.took.ensures ∙ rest) in
    ap Some (three_summed c.in_ok-in_low.in_low c.in_ok-in_high.in_high c.in_ok-in_rest.in_rest)
    ∙ (sym (took_three c.args.reads c.self.inside.low c.self.inside.high c.self.inside.rest
    ∙ ap₂ (λ o p. plus o p) (sym c.took_of.ensures.value ∙ some) (ap₂ (λ p q. plus p q) at behind))
    ∙ ap (took c.args.reads) c.self.view_is)
