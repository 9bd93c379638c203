-- What holds of an entry holds of it without its front.
use Rattle.std.proofs.Common.{◌≡◌, ◌∙◌, ℕ, ◌≤◌, ◌==◌, nat_le, Bool, true, sym, ap, subst, arith, List, length, take, sum}
use Rattle.std.specs.List.{list_any, list_all}
use Rattle.seq_arith.specs.MessageGrammar.{flag}
use Rattle.ft_model.proofs.Services.{sum_take}
use Rattle.log_pages.specs.Pages.{pages, zeroed, levelled, reads_on}
use Rattle.logger_store.specs.StoreState.{IsInRange, AreRead}
use Rattle.logger_store.proofs.Left.{low, same_length}
use Rattle.log_pages.proofs.Levels.{levelled_count, levelled_sum, levelled_closing, levelled_each}

abbrev IsKept : (mss output reads read : ℕ) → (closed : Bool) → (bytes lengths : List ℕ) → Type 0
IsKept mss output reads read closed bytes lengths =
    (reads ≡ length lengths) × (read ≡ sum lengths) × (closed ≡ list_any (λ k. k == 0) lengths) × IsInRange mss (length bytes) output × AreRead (length bytes) lengths

-- the bytes below reads are there
pub below_there : (bytes lengths : List ℕ) (b r : ℕ) → b ≡ sum (take r lengths) → AreRead (length bytes) lengths → b ≤ length bytes
below_there bytes lengths b r is kept = let front = sum_take r lengths in let within = kept.within in omega (arith, is, front, within)

pub kept_without : (mss output reads read : ℕ) (closed : Bool) (bytes lengths bytes_after lengths_after : List ℕ) (b r : ℕ) → IsKept mss output reads read closed bytes lengths
    → r ≤ length lengths → b ≡ sum (take r lengths) → reads_on (take r lengths) ≡ true → bytes_after ≡ zeroed (pages b) bytes → lengths_after ≡ levelled r lengths
    → IsKept mss output reads read closed bytes_after lengths_after
kept_without mss output reads read closed bytes lengths bytes_after lengths_after b r kept logged took on bytes_is lengths_is =
    let count : length lengths_after ≡ length lengths = ap length lengths_is ∙ levelled_count r lengths logged in
    let total : sum lengths_after ≡ sum lengths = ap sum lengths_is ∙ levelled_sum r lengths in
    let closing : list_any (λ k. k == 0) lengths_after ≡ list_any (λ k. k == 0) lengths = ap (list_any (λ k. k == 0)) lengths_is ∙ levelled_closing r lengths logged on in
    let size : length bytes_after ≡ length bytes = ap length bytes_is ∙ same_length (pages b) bytes (low b (length bytes) (below_there bytes lengths b r took kept.4)) in
    let within = kept.4.within in
    let few = kept.4.count in
    let flags : flag (list_any (λ k. k == 0) lengths_after) ≡ flag (list_any (λ k. k == 0) lengths) = ap flag closing in (
      kept.0 ∙ sym count,
      kept.1 ∙ sym total,
      kept.2 ∙ sym closing,
      subst (λ n. IsInRange mss n output) (sym size) kept.3,
      record {
        within = omega (arith, total, size, within);
        count = omega (arith, count, total, flags, few);
        each = ap (λ ls. list_all (λ n. nat_le n 2048) ls) lengths_is ∙ levelled_each r lengths logged kept.4.each;
      },
    )
