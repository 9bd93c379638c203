-- The trace with the changed bit: by the law nothing happens at it.
use Rattle.std.proofs.Common.{◌≡◌, ℕ, false, ◌*◌, ◌^◌, ◌<◌, refl, sym, ap, subst, [], ◌∷◌, ◌++◌, length, arith}
use Rattle.std.specs.Prelude.{slice_index}
use Rattle.std.specs.List.{AllByRecursion}
use native.Mathlib.Bridge.{le_by_compare, IsLe}
use Rattle.seq_arith.specs.Message.{Message}
use Rattle.seq_arith.specs.Message.Body.{DataMsg}
use Rattle.seq_arith.specs.MessageGrammar as messages
use Rattle.seq_arith.specs.Checksum.{checksum}
use Rattle.seq_arith.proofs.MessageSpelling.{spelled_length}
use Rattle.ft_model.specs.Growth.{IsPrefix}
use Rattle.seq_arith.specs.declared.kinds.Grammar.TheVariants.{Plain}
use Rattle.ft_model.specs.Wire.{CanBeWritten}
use Rattle.ft_model.specs.World.{Happens, Flipped}
use Rattle.ft_model.specs.WeakerLaw.{IsWrongOnce}
use Rattle.ft_model.specs.WorkedRuns.Common.{echo, part_with, hello_text}
use Rattle.ft_model.specs.WorkedRuns.FirstPath as path
use Rattle.ft_model.specs.WorkedRuns.ChangedBit as run
use Rattle.ft_model.proofs.Lists.{some_is}
use Rattle.ft_model.proofs.Happened.{flip_is_quiet, nothing_read, message_bit_changed}
use Rattle.ft_model.proofs.AllowedMoments.{hello_bytes}
use Rattle.ft_model.proofs.FirstPath.{opening_is_joint, happens_11, happens_12}

-- the Data of the client's text
abbrev data_message : Message
data_message = record { boot = 1; body = DataMsg (part_with 0 0 false hello_text) }

data_reported : CanBeWritten data_message
unfolding IsLe messages.is_sound_by messages.has_length
data_reported = (
  record {
    boot = le_by_compare 2 (256 ^ 8) tt;
    numbers = (le_by_compare 3221225986 (256 ^ 4) tt, (le_by_compare 40001 (256 ^ 2) tt, (le_by_compare 1 (256 ^ 4) tt, (le_by_compare 1 (256 ^ 4) tt, (le_by_compare 1 256 tt, tt)))));
    sound = refl;
    size = refl;
  },
  hello_bytes,
)

data_long : 248 < 8 * length (messages.spelling data_message)
unfolding messages.spelling_by
data_long =
    let size = spelled_length Plain data_message (checksum (messages.spelled Plain data_message 0)) data_reported.0.numbers in omega (arith, size)

refused : Happens echo path.moment_12.world run.wrong.event run.wrong.sent run.wrong.world → ⊥
refused h =
    let same : path.packet_10 ≡ h.0 = some_is path.packet_10 h.0 h.1 in
    let f : Flipped echo path.moment_12.world path.packet_10 248 run.wrong.sent run.wrong.world = subst (λ p. Flipped echo path.moment_12.world p 248 run.wrong.sent run.wrong.world) (sym same) h.2 in
    let q = flip_is_quiet echo path.moment_12.world data_message 248 run.wrong.sent run.wrong.world f in
    let none : path.packet_12 ∷ [] ≡ [] = q.0 in cc

pub wrong_once : IsWrongOnce echo path.start [] run.wrong run.earlier
wrong_once = record {
  before = ((opening_is_joint echo, happens_11), happens_12);
  refused = refused;
  otherwise = (
    [],
    record path.moment_12.world { packets = path.moment_12.world.packets ++ [] },
    (
      path.packet_10,
      refl,
      record { wire = data_reported; within = data_long; comes = nothing_read _ path.moment_12.world (message_bit_changed Plain 248 data_message data_reported data_long) },
    ),
  );
  after = tt;
}

-- what the log keeps then isn't the front of the client's script
pub not_the_clients : AllByRecursion (λ e. IsPrefix e.bytes hello_text) run.wrong.world.log.entries → ⊥
not_the_clients a = let first : ◌≡◌ {A = ℕ} 105 104 = ap (λ l. slice_index l 0) a.0.1 in omega (arith, first)
