-- What a trace with marks guarantees about the mark that comes to a fetching server: there are bytes and lengths below it, and what the server then has is
-- sound.
use Rattle.std.specs.Prelude.{IfSome}
use Rattle.std.specs.List.{AllByRecursion}
use Rattle.seq_arith.specs.Mark.{Mark, MarkBody, MarkMessage}
use Rattle.server_trait.specs.Service.{AreBytes}
use Rattle.ft_model.specs.Lawful.{AreSound}
use Rattle.ft_model.specs.Log.{Log}
use Rattle.ft_model.specs.Node.{Stage}
use Rattle.ft_model.specs.Node.Stage.{Asking, Fetching, Serving, Fenced}
use Rattle.mark_laws.specs.Restart.{FetchedSoFar, IsFront, begun_on, mark_reported}
use Rattle.trace_laws.specs.Premises.{IsSoundFront}
use Rattle.mark_laws.specs.MarkedNode.{Marker, MarkedNode, so_far}
use Rattle.mark_laws.specs.MarkedWorld.{bytes_held, lengths_held}

-- once a mark has come: these bytes and lengths are below it, the entries that are whole and not done are sound, and all are prefixes of sound ones
pub record LeadsToSound {State : Type 0} (by : Marker State) (log : Log) (body : MarkBody) (before : FetchedSoFar) (m : Mark) : Type 0 where
  pub front : IsFront by.service by.writing m (bytes_held log body) (lengths_held log body)
  pub bytes : AreBytes (bytes_held log body)
  pub whole : AreSound by.service (begun_on (bytes_held log body) (lengths_held log body) before).entries
  pub fronts : AllByRecursion (IsSoundFront by.service) (begun_on (bytes_held log body) (lengths_held log body) before).entries

abbrev pub IsSoundMark : {State : Type 0} → Marker State → Log → MarkedNode → MarkMessage → Stage → Type 0
IsSoundMark by log node message (Fetching count fetched) =
    IfSome (mark_reported by.writing node.plain.boot message (so_far node fetched)) (LeadsToSound by log message.body (so_far node fetched))
IsSoundMark by log node message Asking = Unit {0}
IsSoundMark by log node message (Serving opened places) = Unit {0}
IsSoundMark by log node message (Fenced newer) = Unit {0}
