-- The kinds of words, and how a run of a seed ends.
use Rattle.std.proofs.Common.{◌≡◌, ℕ, true, false, Option, None, Some, IfSome, List, [], ◌∷◌, refl, sym, subst, codes, if◌then◌else◌}
use Rattle.std.specs.Str.{bytes_eq}
use Rattle.std.proofs.lemmas.Slice.Eq.{bytes_eq-Decides}
use Rattle.ft_io.specs.Source.{ConsumesAtMost}
use Rattle.replay_seed.specs.SeedSummaries.{EndsRun}
use Rattle.replay_seed.specs.SeedWords.{asked}
use Rattle.replay_seed.specs.declared.asked.Asked.{Asked}
use Rattle.replay_seed.specs.declared.seed_run.SeedEnd.{SeedEnd}
use Rattle.replay_seed.specs.declared.seed_run.SeedEnd.TheVariants as seeds
use Rattle.replay_tool.specs.SeedRuns.{SeedStops, end_of_seed}
use Rattle.replay_check.specs.Stream.{Stream, HasFailed}
use Rattle.replay_tool.specs.Words.{is_run, is_check, most_read}

-- the word `run` asks for no seed
pub run_asks_none : (words : List (List ℕ)) → is_run words ≡ true → asked words ≡ None
run_asks_none [] e = refl
run_asks_none (word ∷ []) e = refl
run_asks_none (word ∷ other ∷ others) e = cc

-- .. nor does the word `check`, and it is another
pub check_asks_none : (words : List (List ℕ)) → is_check words ≡ true → asked words ≡ None
check_asks_none [] e = refl
check_asks_none (word ∷ []) e = refl
check_asks_none (word ∷ other ∷ others) e = cc

pub run_is_no_check : (words : List (List ℕ)) → is_run words ≡ true → is_check words ≡ false
run_is_no_check [] e = refl
run_is_no_check (word ∷ []) e = subst (λ w. bytes_eq w (codes "check") ≡ false) (sym ((bytes_eq-Decides word (codes "run")).0 e)) refl
run_is_no_check (word ∷ other ∷ others) e = refl

-- how much of the input is read
pub most_of_check : (words : List (List ℕ)) (old new : Option (List ℕ)) → is_check words ≡ true → ConsumesAtMost 268435457 old new → ConsumesAtMost (most_read words) old new
most_of_check words old new e c = subst (λ b. ConsumesAtMost (if b then 268435457 else 8388609) old new) (sym e) c

pub most_of_others : (words : List (List ℕ)) (old new : Option (List ℕ)) → is_check words ≡ false → ConsumesAtMost 8388609 old new → ConsumesAtMost (most_read words) old new
most_of_others words old new e c = subst (λ b. ConsumesAtMost (if b then 268435457 else 8388609) old new) (sym e) c

-- what is known of a run that was asked for
pub of_asked : {P Q : Asked → Type 0} (o : Option Asked) → ((asked : Asked) → P asked → Q asked) → IfSome o P → IfSome o Q
of_asked None f p = tt
of_asked (Some asked) f p = f asked p

-- its end as one of the program
pub seed_stops : (asked : Asked) (out : Stream) (end : SeedEnd) → EndsRun asked out.before out.after end → (end ≡ seeds.WriteFault → HasFailed out) → (end ≡ seeds.NoMemory → out.Untouched)
    → (end ≡ seeds.PacketLimit → out.Untouched) → SeedStops asked out (end_of_seed end)
seed_stops asked out seeds.Usage e fault memory limit = e
seed_stops asked out seeds.NoMemory e fault memory limit = memory refl
seed_stops asked out seeds.WriteFault e fault memory limit = (e, fault refl)
seed_stops asked out seeds.PacketLimit e fault memory limit = (e.0, limit refl)
