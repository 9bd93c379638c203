-- What a connection tells may be sent.
use Rattle.std.proofs.Common.{◌≡◌, ℕ, ◌<◌, ◌≤◌, ◌+◌, ◌^◌, Bool, true, false, ◌&&◌, nat_le, refl, sym, length, arith, if◌then◌else◌}
use Rattle.std.proofs.lemmas.Bool.{and_from, and_parts, false≢true}
use Rattle.ft_io.specs.declared.Key.{Key}
use Rattle.ft_io.proofs.Numbers.{at_most_of_test}
use Rattle.seq_arith.specs.MessageGrammar.{flag, most_ending, has_length, is_sound_by}
use Rattle.seq_arith.specs.declared.kinds.Grammar.{Grammar}
use Rattle.logger_wire.specs.declared.Body.{Body}
use Rattle.logger_wire.specs.declared.Body.TheVariants as body
use Rattle.logger_wire.specs.declared.records.Part.{Part}
use Rattle.logger_wire.specs.Value.{IsSendableBy}
use Rattle.ft_model.proofs.Wires.{is_low, has_size}
use Rattle.wrapped_conn.specs.LoggerMessages.{grammar_by}

pub record FitsKey (key : Key) : Type 0 where
  pub ip : key.ip < 2 ^ 32
  pub port : key.port < 2 ^ 16

pub done_sendable : (grammar : Grammar) (boot : ℕ) (key : Key) → 1 ≤ boot → boot < 2 ^ 64 → FitsKey key → IsSendableBy grammar (record { boot = boot; body = body.Done key })
unfolding is_sound_by has_length
done_sendable grammar boot key live fits k = record {
  lens = refl;
  spellable = record {
    boot = omega (arith, fits);
    numbers = (omega (arith, k.ip), (omega (arith, k.port), tt));
    sound = and_from (nat_le 1 boot && true) true (and_from (nat_le 1 boot) true (is_low 1 boot live) refl) refl;
    size = refl;
  };
}

pub read_sendable : (grammar : Grammar) (boot : ℕ) (key : Key) (index count : ℕ) → 1 ≤ boot → boot < 2 ^ 64 → FitsKey key → index ≤ 2 ^ 24 + 1 → count ≤ 2048
    → IsSendableBy grammar (record { boot = boot; body = body.Read key index count })
unfolding is_sound_by has_length
read_sendable grammar boot key index count live fits k few short = record {
  lens = refl;
  spellable = record {
    boot = omega (arith, fits);
    numbers = (omega (arith, k.ip), (omega (arith, k.port), (omega (arith, few), (omega (arith, short), tt))));
    sound = and_from (nat_le 1 boot && (nat_le index (2 ^ 24 + 1) && (nat_le count 2048 && true))) true
        (and_from (nat_le 1 boot) _ (is_low 1 boot live) (and_from _ _ (is_low index (2 ^ 24 + 1) few) (and_from _ _ (is_low count 2048 short) refl))) refl;
    size = refl;
  };
}

-- the ending of a Data: only in the wide grammar it says that another follows, and then it doesn't say that the FIN does
pub ending_low : (wide fin more : Bool) → (fin ≡ true → more ≡ false) → (more ≡ true → wide ≡ true) → flag fin + (if more then 2 else 0) ≤ most_ending (grammar_by wide)
ending_low false false false one is = omega arith
ending_low false true false one is = omega arith
ending_low false fin true one is = absurd (false≢true (is refl))
ending_low true false false one is = omega arith
ending_low true true false one is = omega arith
ending_low true false true one is = omega arith
ending_low true true true one is = absurd (false≢true (sym (one refl)))

pub least_ending : (wide : Bool) → most_ending (grammar_by wide) ≤ 2
least_ending false = omega arith
least_ending true = omega arith

pub data_sendable : (wide : Bool) (boot : ℕ) (part : Part) → 1 ≤ boot → boot < 2 ^ 64 → FitsKey part.key → part.offset + length part.bytes.now ≤ 2 ^ 24 → part.acked ≤ 2 ^ 24 + 1
    → length part.bytes.now ≤ 1460 → (part.fin ≡ true → part.more ≡ false) → (part.more ≡ true → wide ≡ true) → IsSendableBy (grammar_by wide) (record { boot = boot; body = body.Data part })
unfolding is_sound_by has_length
data_sendable wide boot part live fits k within few short one is = record {
  lens = refl;
  spellable = record {
    boot = omega (arith, fits);
    numbers = (omega (arith, k.ip), (omega (arith, k.port), (omega (arith, within), (omega (arith, few), (omega (arith, ending_low wide part.fin part.more one is, least_ending wide), tt)))));
    sound = and_from (nat_le 1 boot && _) true (and_from (nat_le 1 boot) _ (is_low 1 boot live)
        (and_from _ _ (is_low (part.offset + length part.bytes.now) (2 ^ 24) within) (and_from _ _ (is_low part.acked (2 ^ 24 + 1) few) (and_from _ _ (is_low (flag part.fin + (if part.more then 2 else 0)) (most_ending (grammar_by wide)) (ending_low wide part.fin part.more one is)) refl)))) refl;
    size = and_from _ true (has_size 31 0 1460 (length part.bytes.now) (omega arith) short) refl;
  };
}

abbrev pub HasLowLength : Body → Type 0
HasLowLength (body.Stable kept) = kept.length ≤ 2 ^ 24
HasLowLength (body.Reads kept) = kept.length ≤ 2 ^ 24
HasLowLength _ = Unit {0}

pub length_low : (grammar : Grammar) (boot : ℕ) (said : Body) → IsSendableBy grammar (record { boot = boot; body = said }) → HasLowLength said
unfolding is_sound_by
length_low grammar boot (body.Stable kept) s = at_most_of_test kept.length (2 ^ 24) (and_parts _ _ (and_parts _ _ (and_parts _ _ s.spellable.sound).0).1).0
length_low grammar boot (body.Reads kept) s = at_most_of_test kept.length (2 ^ 24) (and_parts _ _ (and_parts _ _ (and_parts _ _ s.spellable.sound).0).1).0
length_low grammar boot _ s = tt
