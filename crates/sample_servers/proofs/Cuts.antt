-- A run over chunks is what the service does with their bytes joined, where it takes bytes as a stream.
use Rattle.std.proofs.Common.{◌≡◌, ℕ, ◌<◌, ◌==◌, Bool, true, false, List, [], ◌∷◌, ◌++◌, length, refl, sym, ◌∙◌, ap, arith, append_assoc, append-nil}
use Rattle.std.specs.Prelude.{if◌then◌else◌}
use Rattle.std.proofs.lemmas.List.Elements.{All-head, All-tail}
use Rattle.server_trait.specs.Service.{Served, Machine, Run, begun, with_served, fed, fold_from, fold}
use Rattle.sample_servers.specs.Stream.{waiting, and_then}
use Rattle.sample_servers.specs.Cuts.{joined, NoneEmpty, chunks_of, IgnoresCuts}

-- what a service does with bytes, in parts as well as at once, and with each chunk that isn't empty
pub record IsStream {S : Type 0} (service : Machine S) (stream : S → List ℕ → Served S) : Type 0 where
  pub chunk : (s : S) (bytes : List ℕ) → 0 < length bytes → service.after s bytes ≡ stream s bytes
  pub none : (s : S) → stream s [] ≡ waiting s
  pub parts : (s : S) (xs ys : List ℕ) → stream s (xs ++ ys) ≡ and_then (stream s xs) (λ next. stream next ys)

-- a run that goes on by some step, unless it has closed
abbrev pub run_on : {S : Type 0} → Run S → (S → Served S) → Run S
run_on run step = if run.closed then run else with_served run (step run.state)

pub run_on-waiting : {S : Type 0} (state : S) (output : List ℕ) (closed : Bool) → run_on (record { state = state; output = output; closed = closed }) waiting ≡ record { state = state; output = output; closed = closed }
run_on-waiting state output true = refl
run_on-waiting state output false = rw append-nil refl

-- two steps by the parts of the first, since it splits by whether it closed
pub run_on_step : {S : Type 0} (before : List ℕ) (next : S) (output : List ℕ) (closed : Bool) (step : S → Served S) → run_on (record { state = next; output = before ++ output; closed = closed }) step ≡ with_served (record { state = next; output = before; closed = false }) (and_then (record { next = next; output = output; closed = closed }) step)
run_on_step before next output true step = refl
run_on_step before next output false step = rw append_assoc refl

pub run_on_twice : {S : Type 0} (state : S) (output : List ℕ) (closed : Bool) (first second : S → Served S) → run_on (run_on (record { state = state; output = output; closed = closed }) first) second ≡ run_on (record { state = state; output = output; closed = closed }) (λ s. and_then (first s) second)
run_on_twice state output true first second = refl
run_on_twice state output false first second = let t = first state in run_on_step output t.next t.output t.closed second

pub run_on_same : {S : Type 0} (state : S) (output : List ℕ) (closed : Bool) (first second : S → Served S) → ((s : S) → first s ≡ second s) → run_on (record { state = state; output = output; closed = closed }) first ≡ run_on (record { state = state; output = output; closed = closed }) second
run_on_same state output true first second same = refl
run_on_same state output false first second same = ap (λ served. record { state = served.next; output = output ++ served.output; closed = served.closed }) (same state)

pub fold_from_joined : {S : Type 0} (service : Machine S) (stream : S → List ℕ → Served S) → IsStream service stream → (run : Run S) (chunks : List (List ℕ)) → NoneEmpty chunks → fold_from service run chunks ≡ run_on run (λ s. stream s (joined chunks))
fold_from_joined {S} service stream is run [] some =
    sym (run_on_same run.state run.output run.closed (λ s. stream s []) waiting is.none ∙ run_on-waiting run.state run.output run.closed)
fold_from_joined {S} service stream is run (chunk ∷ chunks) some =
    let head : 0 < length chunk = All-head (λ (c : List ℕ). 0 < length c) chunk chunks some in
    let tail : NoneEmpty chunks = All-tail (λ (c : List ℕ). 0 < length c) chunk chunks some in
    let first = λ (s : S). service.after s chunk in
    let rest = λ (s : S). stream s (joined chunks) in
    fold_from_joined service stream is (run_on run first) chunks tail
    ∙ run_on_twice run.state run.output run.closed first rest
    ∙ run_on_same run.state run.output run.closed (λ s. and_then (first s) rest) (λ s. stream s (chunk ++ joined chunks))
    (λ s. ap (λ served. and_then served rest) (is.chunk s chunk head) ∙ sym (is.parts s chunk (joined chunks)))

-- the empty chunk comes last
pub fold_from_end : {S : Type 0} (service : Machine S) (run : Run S) (chunks : List (List ℕ)) → fold_from service run (chunks ++ [] ∷ []) ≡ fed service (fold_from service run chunks) []
fold_from_end service run [] = refl
fold_from_end service run (chunk ∷ chunks) = fold_from_end service (fed service run chunk) chunks

-- a whole run, in terms of the bytes alone
abbrev pub run_of : {S : Type 0} → Machine S → (S → List ℕ → Served S) → List ℕ → Bool → Run S
run_of service stream bytes ended =
    let run = run_on (begun service) (λ s. stream s bytes) in
    if ended then fed service run [] else run

pub fold_joined : {S : Type 0} (service : Machine S) (stream : S → List ℕ → Served S) → IsStream service stream → (chunks : List (List ℕ)) (ended : Bool) → NoneEmpty chunks → fold service (chunks_of chunks ended) ≡ run_of service stream (joined chunks) ended
fold_joined service stream is chunks true some =
    fold_from_end service (begun service) chunks ∙ ap (λ run. fed service run []) (fold_from_joined service stream is (begun service) chunks some)
fold_joined service stream is chunks false some = fold_from_joined service stream is (begun service) chunks some

pub ignores_cuts : {S : Type 0} (service : Machine S) (stream : S → List ℕ → Served S) → IsStream service stream → IgnoresCuts service
ignores_cuts service stream is chunks others ended some some_others same =
    let runs = fold_joined service stream is chunks ended some ∙ ap (λ bytes. run_of service stream bytes ended) same ∙ sym (fold_joined service stream is others ended some_others) in
    (ap (λ run. run.output) runs, ap (λ run. run.closed) runs)

pub length_test : (chunk : List ℕ) → 0 < length chunk → (length chunk == 0) ≡ false
length_test chunk some = grind arith
