use Rattle.std.proofs.Common.{rules, tests, ◌≡◌, ◌∙◌, true, false, None, Some, option_map, ap, sym, if◌then◌else◌}
use Rattle.logger_wire.specs.Records.{head_said}
use Rattle.server_node.proofs.FetchAnswer.{live_head_is, known_key}
use Rattle.server_node.proofs.restarting.live_head.Goals as goal

pub returns-in_default-clause-law : goal.returns-in_default-clause-law
returns-in_default-clause-law g c = λ count fetched st.
    sym (live_head_is c.args.key fetched None st.distinct (ap (option_map head_said) (sym c.in_default.is) ∙ c.known.ensures.law fetched st.entries))

pub returns-then-entry-clause-law : goal.returns-then-entry-clause-law
returns-then-entry-clause-law g c = λ count fetched st.
    let done : c.in-Some.entry.done ≡ true = search (rules, tests) in
    ap (λ b. if b then None else Some (head_said c.in-Some.entry)) (sym done)
    ∙ sym (live_head_is c.args.key fetched (Some (head_said c.in-Some.entry)) st.distinct (ap (option_map head_said) (sym c.in-Some.is) ∙ c.known.ensures.law fetched st.entries))

pub returns-clause-law : goal.returns-clause-law
returns-clause-law g c = λ count fetched st.
    let live : c.in-Some.entry.done ≡ false = search (rules, tests) in
    ap (λ b. if b then None else Some (head_said c.in-Some.entry)) (sym live)
    ∙ sym (live_head_is c.args.key fetched (Some (head_said c.in-Some.entry)) st.distinct (ap (option_map head_said) (sym c.in-Some.is) ∙ c.known.ensures.law fetched st.entries))

pub returns-clause-keyed : goal.returns-clause-keyed
returns-clause-keyed g c = known_key c.args.key (head_said c.in-Some.entry) c.args.fetching.now (ap (option_map head_said) (sym c.in-Some.is) ∙ c.known.ensures.value)
