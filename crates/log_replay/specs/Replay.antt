-- A service that gets the logged reads again (FT-TCP, INFOCOM 2001: the restarted server replays its input). No more input and output is stored than is still
-- needed.
use Rattle.limits.specs.Limits.{longest_stream}
use Rattle.std.specs.Prelude.{◌≡◌, ℕ, ◌+◌, ◌-◌, ◌^◌, Bool, true, false, nat_lt, List, [], ◌++◌, length, take, drop, if◌then◌else◌}
use Rattle.server_trait.specs.Service.{Served, Run}

pub record ReplayState (S : Type 0) : Type 0 where
  pub service : S  -- the service's state
  pub closed : Bool  -- whether the service has closed
  pub made : ℕ  -- the bytes of all output
  pub acked : ℕ  -- the units of it that the client has acknowledged
  pub pending : List ℕ  -- the output after those
  pub held : List ℕ  -- the bytes that are fetched and not replayed

-- before its first read a service has made its greeting, and nothing of it that the client has acknowledged is pending
abbrev pub begun_replay : {S : Type 0} → S → (greeting : List ℕ) → (acked : ℕ) → ReplayState S
begun_replay fresh greeting acked = record {
  service = fresh;
  closed = false;
  made = length greeting;
  acked = acked;
  pending = drop acked greeting;
  held = [];
}

-- a stream has 2^24 bytes. No server that keeps its limits has made more output
abbrev pub passes_the_stream : {S : Type 0} → ReplayState S → Served S → Bool
passes_the_stream r served = nat_lt longest_stream (r.made + length served.output)

-- the new output is stored from where the client's acknowledgement ends. If it would pass the stream's end, none of it counts, and the service counts as closed
abbrev pub served_on : {S : Type 0} → ReplayState S → Served S → ReplayState S
served_on r served =
    if passes_the_stream r served then record r { service = served.next; closed = true }
    else record r {
      service = served.next;
      closed = served.closed;
      made = r.made + length served.output;
      pending = r.pending ++ drop (r.acked - r.made) served.output;
    }

-- the service takes a chunk, unless it has closed
abbrev pub taken_on : {S : Type 0} → (S → List ℕ → Served S) → ReplayState S → List ℕ → ReplayState S
taken_on after r chunk = if r.closed then r else served_on r (after r.service chunk)

-- a read of this length is replayed
unfoldable pub fed_on : {S : Type 0} → (S → List ℕ → Served S) → ℕ → ReplayState S → ReplayState S
fed_on after n r = record (taken_on after r (take n r.held)) { held = drop n r.held }

-- a service that has run so far, where the client has acknowledged `acked` units of its output
pub record RunsTo {S : Type 0} (run : Run S) (acked : ℕ) (r : ReplayState S) : Type 0 where
  pub service : r.service ≡ run.state
  pub closed : r.closed ≡ run.closed
  pub made : r.made ≡ length run.output
  pub pending : r.pending ≡ drop acked run.output
