-- A mark whose numbers are in their ranges can be sent.
use Rattle.std.proofs.Common.{ℕ, ◌<◌, ◌≤◌, ◌+◌, ◌^◌, true, ◌&&◌, nat_le, refl, arith, length}
use Rattle.std.proofs.lemmas.Bool.{and_from}
use Rattle.ft_io.specs.declared.Key.{Key}
use Rattle.seq_arith.specs.Mark.{Mark}
use Rattle.seq_arith.specs.Mark.MarkBody.{MarkMsg}
use Rattle.seq_arith.specs.MarkGrammar.{IsSpellable, is_sound, has_length}
use Rattle.ft_model.proofs.Wires.{is_low}
use Rattle.wrapped_conn.proofs.Sendable.{FitsKey}
use Rattle.conn_marks.specs.Marks.{IsWritableMark}

pub mark_spellable : (boot : ℕ) (key : Key) (m : Mark) → 1 ≤ boot → boot < 2 ^ 64 → FitsKey key → IsWritableMark m → IsSpellable (record { boot = boot; body = MarkMsg key m })
unfolding is_sound has_length
mark_spellable boot key m live fits k t = record {
  boot = omega (arith, fits);
  numbers = (omega (arith, k.ip), (omega (arith, k.port), (let r = t.reads in omega (arith, r), (let l = t.bytes in omega (arith, l), (let d = t.made in omega (arith, d), tt)))));
  sound = and_from (nat_le 1 boot && (nat_le m.reads (2 ^ 24 + 1) && (nat_le m.length (2 ^ 24) && (nat_le m.made (2 ^ 24) && true)))) (nat_le 1 m.reads)
      (and_from (nat_le 1 boot) _ (is_low 1 boot live)
      (and_from _ _ (is_low m.reads (2 ^ 24 + 1) t.reads) (and_from _ _ (is_low m.length (2 ^ 24) t.bytes) (and_from _ _ (is_low m.made (2 ^ 24) t.made) refl))))
      (is_low 1 m.reads t.some);
  size = let s = t.state in and_from (nat_le 34 (34 + length m.state)) (nat_le (34 + length m.state) (34 + 1100)) (is_low 34 (34 + length m.state) (omega arith)) (is_low (34 + length m.state) (34 + 1100) (omega (arith, s)));
}
