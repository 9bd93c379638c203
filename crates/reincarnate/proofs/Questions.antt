-- What a restart asks may be sent.
use Rattle.std.proofs.Common.{ℕ, ◌<◌, ◌≤◌, ◌+◌, ◌^◌, Bool, true, false, ◌&&◌, nat_le, refl, arith}
use Rattle.std.proofs.lemmas.Bool.{and_from, le-leb}
use Rattle.ft_io.specs.declared.Key.{Key}
use Rattle.seq_arith.specs.Mark.MarkBody.{AskMsg}
use Rattle.seq_arith.specs.MarkGrammar as marks
use Rattle.seq_arith.specs.MessageGrammar.{has_length, is_sound_by}
use Rattle.ft_model.specs.Offset.{one_if}
use Rattle.logger_wire.specs.declared.Body.TheVariants as body
use Rattle.reincarnate.specs.Questions.{IsAskable}
use Rattle.wrapped_conn.proofs.Sendable.{FitsKey}

pub hello_askable : IsAskable body.Hello
unfolding is_sound_by has_length
hello_askable grammar boot live fits = record {
  lens = refl;
  spellable = record {
    boot = omega (arith, fits);
    numbers = tt;
    sound = and_from (nat_le 1 boot && true) true (and_from (nat_le 1 boot) true (le-leb 1 boot live) refl) refl;
    size = refl;
  };
}

pub list_askable : (index : ℕ) → index ≤ 63 → IsAskable (body.List index)
unfolding is_sound_by has_length
list_askable index few grammar boot live fits = record {
  lens = refl;
  spellable = record {
    boot = omega (arith, fits);
    numbers = (omega (arith, few), tt);
    sound = and_from (nat_le 1 boot && (nat_le index 63 && true)) true
        (and_from (nat_le 1 boot) _ (le-leb 1 boot live) (and_from _ _ (le-leb index 63 few) refl)) refl;
    size = refl;
  };
}

pub bytes_askable : (key : Key) (offset : ℕ) → FitsKey key → offset ≤ 2 ^ 24 → IsAskable (body.Bytes key offset)
unfolding is_sound_by has_length
bytes_askable key offset k within grammar boot live fits = record {
  lens = refl;
  spellable = record {
    boot = omega (arith, fits);
    numbers = (omega (arith, k.ip), (omega (arith, k.port), (omega (arith, within), tt)));
    sound = and_from (nat_le 1 boot && (nat_le (offset + 0) (2 ^ 24) && true)) true
        (and_from (nat_le 1 boot) _ (le-leb 1 boot live) (and_from _ _ (le-leb (offset + 0) (2 ^ 24) (omega (arith, within))) refl)) refl;
    size = refl;
  };
}

-- only the closing read has no bytes
pub few_reads : (count sum len : ℕ) (ended : Bool) → count ≤ sum + one_if ended → sum ≤ len → len ≤ 2 ^ 24 → count ≤ 2 ^ 24 + 1
few_reads count sum len true have within short = omega (arith, have, within, short)
few_reads count sum len false have within short = omega (arith, have, within, short)

pub cuts_askable : (key : Key) (first : ℕ) → FitsKey key → first ≤ 2 ^ 24 + 1 → IsAskable (body.Cuts key first)
unfolding is_sound_by has_length
cuts_askable key first k few grammar boot live fits = record {
  lens = refl;
  spellable = record {
    boot = omega (arith, fits);
    numbers = (omega (arith, k.ip), (omega (arith, k.port), (omega (arith, few), tt)));
    sound = and_from (nat_le 1 boot && (nat_le first (2 ^ 24 + 1) && true)) true
        (and_from (nat_le 1 boot) _ (le-leb 1 boot live) (and_from _ _ (le-leb first (2 ^ 24 + 1) few) refl)) refl;
    size = refl;
  };
}

pub ask_spellable : (boot : ℕ) (key : Key) → 1 ≤ boot → boot < 2 ^ 64 → FitsKey key → marks.IsSpellable (record { boot = boot; body = AskMsg key })
unfolding marks.is_sound marks.has_length
ask_spellable boot key live fits k = record {
  boot = omega (arith, fits);
  numbers = (omega (arith, k.ip), (omega (arith, k.port), tt));
  sound = and_from (nat_le 1 boot && true) true (and_from (nat_le 1 boot) true (le-leb 1 boot live) refl) refl;
  size = refl;
}
