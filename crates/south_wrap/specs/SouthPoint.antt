-- The wrapper of a connection, given the connection's point.
use Rattle.std.specs.Prelude.{ℕ, length}
use Rattle.ft_model.specs.Point.{Point, bytes_read}
use Rattle.south_wrap.specs.SouthState.{SouthState}

abbrev pub south_at : (delta : ℕ) → Point → SouthState
south_at delta p = record {
  cisn = p.cisn;
  sisn = p.sisn;
  delta = delta;
  fetched = p.fetched;
  fetched_output = p.fetched_output;
  taken = length p.taken;
  fin = p.fin;
  answered = p.answered;
  read = bytes_read p;
  una = p.una;
  sent = p.sent;
  timestamping = p.timestamping;
}
