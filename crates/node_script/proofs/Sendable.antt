-- A Stale that names a larger boot number may be sent.
use Rattle.std.proofs.Common.{ℕ, ◌<◌, ◌≤◌, ◌^◌, true, ◌&&◌, nat_le, nat_lt, refl, arith}
use Rattle.std.proofs.lemmas.Bool.{and_from, le-leb, lt-ltb}
use Rattle.seq_arith.specs.MessageGrammar.{is_sound, has_length, is_sound_by}
use Rattle.logger_wire.specs.declared.Body.TheVariants as body
use Rattle.logger_wire.specs.Value.{IsSendable}

pub stale_sendable : (boot newer : ℕ) → 1 ≤ boot → boot < newer → newer < 2 ^ 64 → IsSendable (record { boot = boot; body = body.Stale newer })
unfolding is_sound_by has_length
stale_sendable boot newer live larger fits = record {
  lens = refl;
  spellable = record {
    boot = omega (arith, larger, fits);
    numbers = (omega (arith, fits), tt);
    sound = and_from (nat_le 1 boot && (nat_lt boot newer && true)) true
        (and_from (nat_le 1 boot) _ (le-leb 1 boot live) (and_from (nat_lt boot newer) true (lt-ltb boot newer larger) refl)) refl;
    size = refl;
  };
}
