use Rattle.std.proofs.Common.{◌∙◌, ◌-◌, ◌++◌, ap, arith, length, take, drop, sum}
use Rattle.std.specs.List.{flat_map}
use Rattle.ft_model.proofs.Services.{sum_take}
use Rattle.log_pages.specs.Pages.{lengths_in}
use Rattle.log_pages.proofs.Cutting.{all_rest, all_took}
use Rattle.log_pages.proofs.runs.Runs.drop_first.Goals as goal

pub returns-clause-rest : goal.returns-clause-rest
returns-clause-rest c =
    all_rest c.self.inside.closed.items c.front_of-front.result.runs c.args.reads c.front_of-front.result.reads (lengths_in c.self.inside.last)
    (flat_map lengths_in c.cut_first.new.runs.items ++ lengths_in c.cut_first.new.last)
    (c.front_of-front.ensures.reads ∙ ap (λ rs. length (flat_map lengths_in (take c.front_of-front.result.runs rs))) c.deref.ensures.value) c.front_of-front.ensures.few
    (c.cut_first.ensures.rest ∙ ap (λ rs. drop (c.args.reads - c.front_of-front.result.reads) (flat_map lengths_in rs ++ lengths_in c.self.inside.last)) c.drop_runs.ensures)
    ∙ ap (drop c.args.reads) c.self.view_is

pub returns-clause-took : goal.returns-clause-took
returns-clause-took c =
    all_took c.self.inside.closed.items c.front_of-front.result.runs c.args.reads c.front_of-front.result.reads c.front_of-front.result.bytes c.cut_first.result
    (lengths_in c.self.inside.last)
    (c.front_of-front.ensures.reads ∙ ap (λ rs. length (flat_map lengths_in (take c.front_of-front.result.runs rs))) c.deref.ensures.value) c.front_of-front.ensures.few
    (c.front_of-front.ensures.bytes ∙ ap (λ rs. sum (flat_map lengths_in (take c.front_of-front.result.runs rs))) c.deref.ensures.value)
    (c.cut_first.ensures.took ∙ ap (λ rs. sum (take (c.args.reads - c.front_of-front.result.reads) (flat_map lengths_in rs ++ lengths_in c.self.inside.last))) c.drop_runs.ensures)
    ∙ ap (λ xs. sum (take c.args.reads xs)) c.self.view_is

pub overflow_add-result : goal.overflow_add-result
overflow_add-result c =
    let total =
    all_took c.self.inside.closed.items c.front_of-front.result.runs c.args.reads c.front_of-front.result.reads c.front_of-front.result.bytes c.cut_first.result
    (lengths_in c.self.inside.last)
    (c.front_of-front.ensures.reads ∙ ap (λ rs. length (flat_map lengths_in (take c.front_of-front.result.runs rs))) c.deref.ensures.value) c.front_of-front.ensures.few
    (c.front_of-front.ensures.bytes ∙ ap (λ rs. sum (flat_map lengths_in (take c.front_of-front.result.runs rs))) c.deref.ensures.value)
    (c.cut_first.ensures.took ∙ ap (λ rs. sum (take (c.args.reads - c.front_of-front.result.reads) (flat_map lengths_in rs ++ lengths_in c.self.inside.last))) c.drop_runs.ensures)
    ∙ ap (λ xs. sum (take c.args.reads xs)) c.self.view_is in
    let few = sum_take c.args.reads c.args.self.now in omega (arith, total, few, c.requires.few)
