-- The point of an entry of the log, before its reads are made again and after.
use Rattle.std.specs.Prelude.{ℕ, Bool, true, pos, ◌+◌, List, length}
use Rattle.seq_arith.specs.Message.{Numbers}
use Rattle.tcp_rules.specs.Profile.{Profile}
use Rattle.tcp_rules.specs.Timestamping.{resumed_with}
use Rattle.tcp_rules.specs.declared.timestamping.Timestamping.TheVariants.{Off}
use Rattle.ft_model.specs.Offset.{one_if}
use Rattle.ft_model.specs.Opening.{point_opened}
use Rattle.ft_model.specs.Point.{Point}

-- all of the entry is taken and known to be logged, nothing is read, and one acknowledgement has counted
abbrev pub point_fetched : Profile → Numbers → List ℕ → Bool → Point
point_fetched profile numbers bytes fin = record (point_opened profile Off numbers) {
  fetched = length bytes;
  taken = bytes;
  fin = fin;
  answered = length bytes + one_if fin;
  wl1 = pos (length bytes);
  syn_acked = true;
  timestamping = resumed_with profile.timestamps numbers.mss;
}

-- the reads made so far are known to be logged, they make so many units of output, and the output continues from an offset on
abbrev pub with_output_from : (at units : ℕ) → Point → Point
with_output_from at units p = record p { fetched_output = units; reads_answered = length p.lengths; una = at; sent = at; edge = at; wl2 = at }
