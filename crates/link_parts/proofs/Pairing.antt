-- Steps of a pair follow one another: so do their calls and what is written.
use Rattle.std.proofs.Common.{◌≡◌, ◌∙◌, ℕ, ◌+◌, ◌-◌, ◌<◌, ◌≤◌, add-one, refl, sym, ap, ap₂, subst, Option, List, [], ◌∷◌, ◌++◌, length, take, drop, get_or, map, append_assoc, append-nil, arith, drop-cons}
use Rattle.std.proofs.lemmas.List.{take_more}
use Rattle.std.proofs.KnownBytes.{Appends-nil, Appends-trans}
use Rattle.std.specs.Io.KnownBytes.{Appends}
use Rattle.ft_io.specs.declared.spawn_call.SpawnCall.{SpawnCall}
use Rattle.ft_io.specs.declared.spawn_call.SpawnCall.TheVariants.{Started, Ended}
use Rattle.ft_io.specs.Reported.{Reports}
use Rattle.ft_io.specs.Sink.{AppendsFront}
use Rattle.ft_io.proofs.Recordings.{reports_on, none_reported}
use Rattle.link_parts.specs.declared.pair.Children.{Children}
use Rattle.link_parts.specs.declared.pair.ChildName.{ChildName}
use Rattle.link_parts.specs.declared.role.PairRole.{PairRole}
use Rattle.link_parts.specs.declared.pair.PairStep.{PairStep}
use Rattle.link_parts.specs.declared.pair.PairStep.TheVariants.{Start, Wait}
use Rattle.link_parts.specs.declared.pair.PairFault.{PairFault}
use Rattle.link_parts.specs.declared.pair.PairFault.TheVariants as faults
use Rattle.link_parts.specs.Pair.{status_line, steps_of, StepsReport, IsPair, StepsStop}
use Rattle.link_parts.specs.PairParts.{StartDone, IsCounted, FitsStep, count_after, FitSteps, WaitDone, WaitStops, StepDone, StepStops}
use Rattle.link_parts.proofs.ClientRunning.{front_more}

pub two_more : {X : Type 0} (f : X → List ℕ) (xs : List X) (a b : X) → map f ((xs ++ a ∷ []) ++ b ∷ []) ≡ map f xs ++ (f a ∷ f b ∷ [])
two_more f [] a b = refl
two_more f (x ∷ xs) a b = ap (λ l. f x ∷ l) (two_more f xs a b)

steps_more : (before : ℕ) (xs ys : List PairStep) (calls later : List SpawnCall) (lines more : List ℕ) → StepsReport before xs calls lines → StepsReport before ys later more
    → StepsReport before (xs ++ ys) (calls ++ later) (lines ++ more)
steps_more before [] ys calls later lines more h k =
    subst (λ (c : List SpawnCall). StepsReport before ys (c ++ later) (lines ++ more)) (sym h.0) (subst (λ (l : List ℕ). StepsReport before ys later (l ++ more)) (sym h.1) k)
steps_more before (x ∷ xs) ys calls later lines more h k = (
  h.0,
  h.1,
  h.2 ++ later,
  h.3 ++ more,
  h.4,
  steps_more before xs ys h.2 later h.3 more h.5 k,
  ap (λ c. c ++ later) h.6 ∙ append_assoc h.0 h.2 later,
  ap (λ l. l ++ more) h.7 ∙ append_assoc h.1 h.3 more,
)

pair_more : (xs ys : List PairStep) (before : ℕ) (old mid new : Option (List SpawnCall)) (Writes More Both : List ℕ → Type 0)
    → ((l m : List ℕ) → Writes l → More m → Both (l ++ m)) → IsPair xs before old mid Writes → IsPair ys before mid new More → IsPair (xs ++ ys) before old new Both
pair_more xs ys before old mid new Writes More Both both p q = record {
  calls = p.calls ++ q.calls;
  lines = p.lines ++ q.lines;
  steps_report = steps_more before xs ys p.calls q.calls p.lines q.lines p.steps_report q.steps_report;
  reports = reports_on old mid new p.calls q.calls p.reports q.reports;
  written = both p.lines q.lines p.written q.written;
}

-- so many steps are done
pub record Goes (steps : List PairStep) (count before : ℕ) (children : Children) (started : ℕ) (old now : Option (List SpawnCall)) (out_old out_now : Option (List ℕ)) : Type 0 where
  pub pair : IsPair (take count steps) before old now (Appends out_old out_now)
  pub fit : FitSteps children.count (drop count steps)
  pub started_is : started ≡ before + children.count
  pub counted : IsCounted children started
  pub few : children.count ≤ count

pub goes_none : (steps : List PairStep) (children : Children) (started : ℕ) (reported : Option (List SpawnCall)) (out : Option (List ℕ)) → children.count ≡ 0 → FitSteps 0 steps
    → Goes steps 0 started children started reported reported out out
goes_none steps children started reported out none fit = record {
  pair = record { calls = []; lines = []; steps_report = (refl, refl); reports = none_reported reported; written = Appends-nil out };
  fit = subst (λ (n : ℕ). FitSteps n steps) (sym none) fit;
  started_is = omega arith;
  counted = record { among = omega arith; last = λ some. absurd (omega (arith, some, none)) };
  few = omega arith;
}

module _ (steps : List PairStep) (i before : ℕ) (step : PairStep) (children : Children) (started : ℕ) (old mid : Option (List SpawnCall)) (out_old out_mid : Option (List ℕ))
    (within : i < length steps) (at : step ≡ get_or steps i step) (g : Goes steps i before children started old mid out_old out_mid) where
  next_is : drop i steps ≡ step ∷ drop (i + 1) steps
  next_is = drop-cons steps i step within ∙ ap₂ (λ s n. s ∷ drop n steps) (sym at) (sym (add-one i))

  taken_is : take (i + 1) steps ≡ take i steps ++ step ∷ []
  taken_is = take_more steps i step within ∙ ap (λ s. take i steps ++ s ∷ []) (sym at)

  fit_next : FitsStep children.count step × FitSteps (count_after children.count step) (drop (i + 1) steps)
  fit_next = subst (λ (xs : List PairStep). FitSteps children.count xs) next_is g.fit

  pub fits_step : FitsStep children.count step
  fits_step = fit_next.0

  before_is : started - children.count ≡ before
  before_is = omega (arith, g.started_is)

  later_pair : (new : Option (List SpawnCall)) (More Both : List ℕ → Type 0) → ((l m : List ℕ) → Appends out_old out_mid l → More m → Both (l ++ m))
      → IsPair (step ∷ []) (started - children.count) mid new More → IsPair (take (i + 1) steps) before old new Both
  later_pair new More Both both p =
      subst (λ (xs : List PairStep). IsPair xs before old new Both) (sym taken_is)
      (pair_more (take i steps) (step ∷ []) before old mid new (Appends out_old out_mid) More Both both g.pair
      (subst (λ (n : ℕ). IsPair (step ∷ []) n mid new More) before_is p))

  pub proceeds : (after : Children) (started_new : ℕ) (new : Option (List SpawnCall)) (out_new : Option (List ℕ))
      → StepDone step children after started started_new mid new (Appends out_mid out_new) → Goes steps (i + 1) before after started_new old new out_old out_new
  proceeds after started_new new out_new d = record {
    pair = later_pair new (Appends out_mid out_new) (Appends out_old out_new) (λ l m h k. Appends-trans out_old out_mid out_new l m h k) d.pair;
    fit = subst (λ (n : ℕ). FitSteps n (drop (i + 1) steps)) (sym d.count) fit_next.1;
    started_is = omega (arith, d.started, before_is);
    counted = d.counted;
    few = omega (arith, g.few, d.count, more_by_one step children.count);
  }
    where
      more_by_one : (s : PairStep) (n : ℕ) → count_after n s ≤ n + 1
      more_by_one (Start words) n = omega arith
      more_by_one (Wait child name) n = omega arith

  pub step_stops : (new : Option (List SpawnCall)) (out_new : Option (List ℕ)) (fault : PairFault) → StepStops step children started mid new out_mid out_new fault
      → StepsStop steps before old new out_old out_new fault
  step_stops new out_new faults.Child h = (
    i,
    within,
    record {
      calls = g.pair.calls;
      lines = g.pair.lines;
      steps_report = g.pair.steps_report;
      reports = subst (Reports old new) (append-nil g.pair.calls) (reports_on old mid new g.pair.calls [] g.pair.reports h.0);
      written = subst (λ (o : Option (List ℕ)). Appends out_old o g.pair.lines) (sym h.1) g.pair.written;
    },
  )
  step_stops new out_new faults.Write h = (
    i + 1,
    later_pair new (AppendsFront out_mid out_new) (AppendsFront out_old out_new) (λ l m w k. front_more out_old out_mid out_new l m w k) h,
  )

-- one step
start_pair : (words : List (List ℕ)) (before : ℕ) (old new : Option (List SpawnCall)) (out : Option (List ℕ)) → Reports old new (Started words ∷ [])
    → IsPair (Start words ∷ []) before old new (Appends out out)
start_pair words before old new out t = record {
  calls = Started words ∷ [];
  lines = [];
  steps_report = (Started words ∷ [], [], [], [], (refl, refl), (refl, refl), refl, refl);
  reports = t;
  written = Appends-nil out;
}

wait_pair : (child number before : ℕ) (name : ChildName) (old new : Option (List SpawnCall)) (Writes : List ℕ → Type 0) → number ≡ before + child
    → WaitDone number name old new Writes → IsPair (Wait child name ∷ []) before old new Writes
wait_pair child number before name old new Writes e w = record {
  calls = Ended number w.status ∷ [];
  lines = status_line name w.status;
  steps_report = (
    Ended number w.status ∷ [],
    status_line name w.status,
    [],
    [],
    (w.status, ap (λ k. Ended k w.status ∷ []) e, refl),
    (refl, refl),
    refl,
    sym (append-nil (status_line name w.status)),
  );
  reports = w.reports;
  written = w.written;
}

pub start_done : (step : PairStep) (words : List (List ℕ)) (children after : Children) (started started_new : ℕ) (old new : Option (List SpawnCall)) (out : Option (List ℕ))
    → step ≡ Start words → IsCounted children started → StartDone words children after started started_new old new
    → StepDone step children after started started_new old new (Appends out out)
start_done step words children after started started_new old new out is c d =
    subst (λ (s : PairStep). StepDone s children after started started_new old new (Appends out out)) (sym is) (record {
      pair = start_pair words (started - children.count) old new out d.reports;
      count = d.count;
      started = omega (arith, c.among, d.next, d.count);
      counted = record { among = omega (arith, c.among, d.next, d.count); last = λ some. d.last };
    })

-- the number of the child that a wait is for
pub number_is : (step : PairStep) (child : ℕ) (name : ChildName) (children : Children) (started : ℕ) → step ≡ Wait child name → IsCounted children started
    → FitsStep children.count step
    → (1 ≤ child) × (child ≤ children.count) × (children.count ≤ started) × (children.last ≡ started)
number_is step child name children started is c f =
    let fits : FitsStep children.count (Wait child name) = subst (FitsStep children.count) is f in
    (fits.0, fits.1, c.among, c.last (omega (arith, fits.0, fits.1)))

pub wait_done : (step : PairStep) (child : ℕ) (name : ChildName) (children : Children) (started started_new : ℕ) (old new : Option (List SpawnCall)) (Writes : List ℕ → Type 0)
    → step ≡ Wait child name → IsCounted children started → FitsStep children.count step → started_new ≡ started
    → WaitDone (children.last - (children.count - child)) name old new Writes → StepDone step children children started started_new old new Writes
wait_done step child name children started started_new old new Writes is c f same w =
    let n = number_is step child name children started is c f in
    let number : children.last - (children.count - child) ≡ (started - children.count) + child = omega (arith, n.0, n.1, n.2, n.3) in
    subst (λ (s : PairStep). StepDone s children children started started_new old new Writes) (sym is) (record {
      pair = wait_pair child _ (started - children.count) name old new Writes number w;
      count = refl;
      started = omega (arith, same, n.2);
      counted = subst (IsCounted children) (sym same) c;
    })

pub wait_stops : (step : PairStep) (child : ℕ) (name : ChildName) (children : Children) (started : ℕ) (old new : Option (List SpawnCall)) (out_old out_new : Option (List ℕ))
    (fault : PairFault) → step ≡ Wait child name → IsCounted children started → FitsStep children.count step
    → WaitStops (children.last - (children.count - child)) name old new out_old out_new fault → StepStops step children started old new out_old out_new fault
wait_stops step child name children started old new out_old out_new faults.Child is c f w = w
wait_stops step child name children started old new out_old out_new faults.Write is c f w =
    let n = number_is step child name children started is c f in
    let number : children.last - (children.count - child) ≡ (started - children.count) + child = omega (arith, n.0, n.1, n.2, n.3) in
    subst (λ (s : PairStep). IsPair (s ∷ []) (started - children.count) old new (AppendsFront out_old out_new)) (sym is)
    (wait_pair child _ (started - children.count) name old new (AppendsFront out_old out_new) number w)

-- the steps of a pair wait for children that were started
pub steps_fit : (role : PairRole) → FitSteps 0 (steps_of role)
steps_fit role =
    (tt, (tt, (tt, ((omega arith, omega arith), (tt, ((omega arith, omega arith), ((omega arith, omega arith), ((omega arith, omega arith), tt))))))))
