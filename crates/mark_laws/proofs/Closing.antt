-- A closing read, of length 0, closes the service: so while the service hasn't closed, none was made.
use Rattle.std.proofs.Common.{◌≡◌, ℕ, zero, suc, ◌==◌, ◌||◌, arith, Bool, true, false, true≢false, sym, ◌∙◌, List, [], ◌∷◌, take, drop}
use Rattle.server_trait.specs.Service.{Machine, Run, begun, with_served, fed, fold_from, cut, reference}
use Rattle.ft_io.proofs.Choices.{by_cases, holds_if}
use Rattle.mark_laws.specs.MarkedLog.{has_closing}

abbrev IsClosed : {State : Type 0} → Run State → Type 0
IsClosed run = run.closed ≡ true

-- an empty chunk closes the service, unless it has closed before
fed_empty : {State : Type 0} (service : Machine State) (run : Run State) → ((s : State) → (service.after s []).closed ≡ true) → IsClosed (fed service run [])
fed_empty service run ends = holds_if IsClosed run.closed run (with_served run (service.after run.state [])) (λ c. c) (λ c. ends run.state)

-- once closed, it stays so
fed_closed : {State : Type 0} (service : Machine State) (run : Run State) (chunk : List ℕ) → IsClosed run → IsClosed (fed service run chunk)
fed_closed service run chunk closed = holds_if IsClosed run.closed run (with_served run (service.after run.state chunk)) (λ c. c) (λ c. absurd (true≢false (sym closed ∙ c)))

stays_closed : {State : Type 0} (service : Machine State) (run : Run State) (chunks : List (List ℕ)) → IsClosed run → IsClosed (fold_from service run chunks)
stays_closed service run [] closed = closed
stays_closed service run (chunk ∷ chunks) closed = stays_closed service (fed service run chunk) chunks (fed_closed service run chunk closed)

-- a closing read is the first one, or a later one
later : (n : ℕ) (b : Bool) → (suc n == 0) || b ≡ true → b ≡ true
later n b any = grind (arith, any)

closes_from : {State : Type 0} (service : Machine State) (run : Run State) (bytes lengths : List ℕ) → ((s : State) → (service.after s []).closed ≡ true) → has_closing lengths ≡ true
    → IsClosed (fold_from service run (cut bytes lengths))
closes_from service run bytes [] ends closing = absurd (true≢false (sym closing))
closes_from service run bytes (zero ∷ lengths) ends closing = stays_closed service (fed service run []) (cut bytes lengths) (fed_empty service run ends)
closes_from service run bytes (suc n ∷ lengths) ends closing = closes_from service (fed service run (take (suc n) bytes)) (drop (suc n) bytes) lengths ends (later n (has_closing lengths) closing)

pub closing_closes : {State : Type 0} (service : Machine State) (bytes lengths : List ℕ) → ((s : State) → (service.after s []).closed ≡ true) → has_closing lengths ≡ true
    → IsClosed (reference service bytes lengths)
unfolding reference
closing_closes service bytes lengths ends closing = closes_from service (begun service) bytes lengths ends closing

-- so none was made before it closes
pub running_reads_on : {State : Type 0} (service : Machine State) (bytes lengths : List ℕ) → ((s : State) → (service.after s []).closed ≡ true) → (reference service bytes lengths).closed ≡ false
    → has_closing lengths ≡ false
running_reads_on service bytes lengths ends running =
    by_cases (has_closing lengths) (λ closing. absurd (true≢false (sym (closing_closes service bytes lengths ends closing) ∙ running))) (λ none. none)
