-- What is known of the reads that are fetched, without a list of them.
use Rattle.std.specs.Prelude.{ℕ, ◌+◌, ◌≤◌, ◌==◌, Bool, ◌&&◌, ◌||◌, not, nat_lt, nat_le, Option, Some, None, List, [], ◌∷◌, length, sum, if◌then◌else◌}
use Rattle.std.specs.List.{list_any}
use Rattle.ft_model.specs.Offset.{one_if}
use Rattle.log_replay.specs.declared.cuts.Cuts.{Cuts}

abbrev pub cuts_of : List ℕ → Cuts
cuts_of lengths = record { count = length lengths; sum = sum lengths; ended = list_any (λ k. k == 0) lengths }

-- whether a read may follow them, by the log's rule for reads: the closing one, of length 0, comes last, where the FIN is kept and all bytes are read
abbrev pub may_cut : (len : ℕ) → (fin : Bool) → Cuts → ℕ → Bool
may_cut len fin cuts n = not cuts.ended && nat_le (cuts.sum + n) len && (nat_lt 0 n || (fin && cuts.sum == len))

abbrev pub cut_on : Cuts → ℕ → Cuts
cut_on cuts n = record { count = cuts.count + 1; sum = cuts.sum + n; ended = cuts.ended || n == 0 }

-- these reads follow, if each of them may
abbrev pub cuts_through : (len : ℕ) → (fin : Bool) → Cuts → List ℕ → Option Cuts
cuts_through len fin cuts [] = Some cuts
cuts_through len fin cuts (n ∷ more) = if may_cut len fin cuts n then cuts_through len fin (cut_on cuts n) more else None

-- all of them except a closing one have bytes
abbrev pub HaveBytes : Cuts → Type 0
HaveBytes cuts = cuts.count ≤ cuts.sum + one_if cuts.ended
