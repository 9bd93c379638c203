-- The schedule with which a generated run starts can be played.
use Rattle.std.proofs.Common.{◌≡◌, refl, ℕ, zero, suc, ◌+◌, ◌*◌, ◌%◌, ◌<◌, ◌≤◌, ◌^◌, Bool, true, false, [], ◌∷◌, length, arith, lit<, length-append}
use Rattle.std.specs.Prelude.{◌&&◌, not, nat_eq}
use Rattle.std.specs.List.{AllByRecursion}
use Rattle.std.proofs.Math.Nat.{mod-lt}
use Rattle.std.proofs.lemmas.List.Elements.{All-from_recursion}
use Rattle.ft_model.specs.Playable.{IsPlayable}
use Rattle.ft_model.specs.Readable.{FitsClient}
use Rattle.ft_model.specs.Schedule.{bytes_of, clients_of, letters}
use Rattle.ft_model.specs.World.{is_apart, are_apart}
use Rattle.ft_model.specs.declared.schedule.ClientLine.{ClientLine}
use Rattle.ft_model.proofs.Lists.{all_append, all_weaker}
use Rattle.ft_model.proofs.PlayableLemmas.{apart_are_different}
use Rattle.pseudorandom.specs.Generator.{stepped}
use Rattle.replay_seed.specs.Draws.{draw}
use Rattle.ft_model.proofs.Letters.{length_letters}
use Rattle.replay_seed.specs.Generated.{server_address, client_line, client_lines, after_draws, schedule_of}

pub count_lines : (state n : ℕ) → length (client_lines state n) ≡ n
count_lines state zero = refl
count_lines state (suc n) = omega (arith, length-append {A = ClientLine}, count_lines state n)

pub small_draw : (state : ℕ) → draw state < 2 ^ 31
unfolding stepped
small_draw state = let h : (state * 6364136223846793005 + 1442695040888963407) % 2 ^ 64 < 2 ^ 64 = mod-lt _ (lit< tt) in omega (arith, h)

-- a client that starts is one that a schedule can have
pub record LineFits (line : ClientLine) : Type 0 where
  pub short : length (bytes_of line.script) ≤ 2 ^ 24
  pub number : line.isn < 2 ^ 32
  pub sizes : FitsClient line
  pub beside : is_apart server_address line.key [] ≡ true

-- the ports differ, whatever the hosts are
apart_by_port : (same : Bool) → (not (same && false) && true) ≡ true
apart_by_port true = refl
apart_by_port false = refl

line_fits : (state i : ℕ) → i ≤ 16 → LineFits (client_line state i)
line_fits state i h =
    let length_is : length (letters (1000 * i)) ≡ 1000 * i = length_letters (1000 * i) in
    let small : draw state < 2 ^ 31 = small_draw state in
    record { short = omega (arith, h, length_is); number = omega (arith, small); sizes = ((omega (arith, h), lit< tt), omega (arith, small), omega (arith, h)); beside = apart_by_port (nat_eq (3221225984 + i) 3221226084) }

lines_fit : (state n : ℕ) → n ≤ 16 → AllByRecursion LineFits (client_lines state n)
lines_fit state zero h = tt
lines_fit state (suc n) h =
    all_append LineFits (client_lines state n) (client_line (after_draws state n) (n + 1) ∷ []) (lines_fit state n (omega (arith, h)))
    (line_fits (after_draws state n) (n + 1) (omega (arith, h)), tt)

abbrev are_apart_at : ℕ → ℕ → Type 0
are_apart_at state n = are_apart server_address (clients_of server_address (client_lines state n)) ≡ true

apart : (state n : ℕ) → n ≤ 16 → are_apart_at state n
apart state zero h = refl
apart state (suc zero) h = refl
apart state (suc (suc zero)) h = refl
apart state (suc (suc (suc zero))) h = refl
apart state (suc (suc (suc (suc zero)))) h = refl
apart state (suc (suc (suc (suc (suc zero))))) h = refl
apart state (suc (suc (suc (suc (suc (suc zero)))))) h = refl
apart state (suc (suc (suc (suc (suc (suc (suc zero))))))) h = refl
apart state (suc (suc (suc (suc (suc (suc (suc (suc zero)))))))) h = refl
apart state (suc (suc (suc (suc (suc (suc (suc (suc (suc zero))))))))) h = refl
apart state (suc (suc (suc (suc (suc (suc (suc (suc (suc (suc zero)))))))))) h = refl
apart state (suc (suc (suc (suc (suc (suc (suc (suc (suc (suc (suc zero))))))))))) h = refl
apart state (suc (suc (suc (suc (suc (suc (suc (suc (suc (suc (suc (suc zero)))))))))))) h = refl
apart state (suc (suc (suc (suc (suc (suc (suc (suc (suc (suc (suc (suc (suc zero))))))))))))) h = refl
apart state (suc (suc (suc (suc (suc (suc (suc (suc (suc (suc (suc (suc (suc (suc zero)))))))))))))) h = refl
apart state (suc (suc (suc (suc (suc (suc (suc (suc (suc (suc (suc (suc (suc (suc (suc zero))))))))))))))) h = refl
apart state (suc (suc (suc (suc (suc (suc (suc (suc (suc (suc (suc (suc (suc (suc (suc (suc zero)))))))))))))))) h = refl
apart state (suc (suc (suc (suc (suc (suc (suc (suc (suc (suc (suc (suc (suc (suc (suc (suc (suc n))))))))))))))))) h = absurd (omega (arith, h))

pub can_be_played : (seed n : ℕ) → n ≤ 16 → IsPlayable (schedule_of seed n [])
can_be_played seed n h =
    let fit : AllByRecursion LineFits (client_lines seed n) = lines_fit seed n h in
    record {
      server = (lit< tt, lit< tt);
      short = All-from_recursion (λ line. length (bytes_of line.script) ≤ 2 ^ 24) (client_lines seed n) (all_weaker LineFits _ (client_lines seed n) (λ line f. f.short) fit);
      numbers = all_weaker LineFits _ (client_lines seed n) (λ line f. f.number) fit;
      sizes = all_weaker LineFits _ (client_lines seed n) (λ line f. f.sizes) fit;
      beside = all_weaker LineFits _ (client_lines seed n) (λ line f. f.beside) fit;
      different = apart_are_different server_address (client_lines seed n) (apart seed n h);
      apart = λ none. apart seed n h;
      events = tt;
    }
