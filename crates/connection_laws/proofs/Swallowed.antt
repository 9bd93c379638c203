-- The run of a service whose first bytes of output are swallowed is the service's run without them.
use Rattle.std.proofs.Common.{◌≡◌, ℕ, ◌≤◌, ◌+◌, ◌-◌, Bool, true, false, List, [], ◌∷◌, length, length-append, take, refl, sym, ap, arith, ◌∙◌}
use Rattle.std.specs.Prelude.{if◌then◌else◌}
use Rattle.std.proofs.lemmas.List.{length-drop}
use Rattle.ft_io.proofs.Lists.{drop_append}
use Rattle.server_trait.specs.Service.{Machine, Run, begun, fed, fold_from, cut, reference}
use Rattle.ft_model.specs.Point.{Point, answered_run, released, target}
use Rattle.ft_model.proofs.StreamAgreement.{drop_nothing}
use Rattle.connection_laws.specs.Inside.{swallowing, swallowed_run, inside}

less : (u a b : ℕ) → u - a - b ≡ u - (a + b)
less u a b = omega arith

fed_runs : {State : Type 0} (service : Machine State) (u : ℕ) (closed : Bool) (state : State) (output chunk : List ℕ)
    → fed (swallowing u service) (swallowed_run u (record { state = state; output = output; closed = closed })) chunk
    ≡ swallowed_run u (fed service (record { state = state; output = output; closed = closed }) chunk)
fed_runs service u true state output chunk = refl
fed_runs service u false state output chunk =
    let served = service.after state chunk in
    λ j. record {
      state = (served.next, (less u (length output) (length served.output) ∙ ap (λ n. u - n) (sym (length-append output served.output))) j);
      output = sym (drop_append u output served.output) j;
      closed = served.closed;
    }

folded_runs : {State : Type 0} (service : Machine State) (u : ℕ) (run : Run State) (chunks : List (List ℕ))
    → fold_from (swallowing u service) (swallowed_run u run) chunks ≡ swallowed_run u (fold_from service run chunks)
folded_runs service u run [] = refl
folded_runs service u run (chunk ∷ chunks) =
    ap (λ r. fold_from (swallowing u service) r chunks) (fed_runs service u run.closed run.state run.output chunk)
    ∙ folded_runs service u (fed service run chunk) chunks

begun_runs : {State : Type 0} (service : Machine State) (u : ℕ) → begun (swallowing u service) ≡ swallowed_run u (begun service)
begun_runs service u = refl

reference_runs : {State : Type 0} (service : Machine State) (u : ℕ) (bytes lengths : List ℕ)
    → reference (swallowing u service) bytes lengths ≡ swallowed_run u (reference service bytes lengths)
unfolding reference
reference_runs service u bytes lengths =
    ap (λ r. fold_from (swallowing u service) r (cut bytes lengths)) (begun_runs service u) ∙ folded_runs service u (begun service) (cut bytes lengths)

pub inside_runs : {State : Type 0} (service : Machine State) (u i : ℕ) (p : Point)
    → answered_run (swallowing u service) (inside u i p) ≡ swallowed_run u (answered_run service p)
inside_runs service u i p = reference_runs service u p.taken (take p.reads_answered p.lengths)

pub inside_released : {State : Type 0} (service : Machine State) (u i : ℕ) (p : Point) → released (swallowing u service) (inside u i p) ≡ released service p - u
inside_released service u i p = ap (λ r. length r.output) (inside_runs service u i p) ∙ length-drop u (answered_run service p).output

pub inside_target : {State : Type 0} (service : Machine State) (u i : ℕ) (p : Point) → u ≤ released service p
    → target (swallowing u service) (inside u i p) ≡ target service p - u
inside_target service u i p h =
    let b : ℕ = if (answered_run service p).closed then 1 else 0 in
    (λ j. inside_released service u i p j + (if (inside_runs service u i p j).closed then 1 else 0)) ∙ omega (arith, h)
