-- The calls to TCP that a turn of the north wrapper makes.
use Rattle.std.specs.Prelude.{ℕ, List, [], ◌∷◌, length, if◌then◌else◌}
use Rattle.north_wrap.specs.RunState.{gives}
use Rattle.north_wrap.specs.NorthState.{NorthState, unstable, closes, given_north}
use Rattle.north_wrap.specs.Refinement.{off_socket}
use Rattle.tcp_endpoint.specs.Tcb.{Tcb}
use Rattle.tcp_endpoint.specs.UserCalls.{write_room}
use Rattle.connection_laws.specs.OutputFeed.{tcp_writer}
use Rattle.endpoint_laws.specs.Turn.{Call}
use Rattle.endpoint_laws.specs.Turn.Call.{Reads, Writes, Closes}

abbrev pub reads_of : List ℕ → List Call
reads_of [] = []
reads_of (k ∷ ks) = Reads k ∷ reads_of ks

-- output is written, TCP is closed where all is written, and these reads are made, except those of the fetched rest and that of length 0
abbrev pub calls_of : {S : Type 0} → NorthState S → Tcb → List ℕ → List Call
calls_of n e lengths =
    let reads : List Call = reads_of (off_socket (length n.rest) lengths)
    in Writes (gives (write_room e) (unstable n) n.run) ∷ (if closes (given_north tcp_writer n e) then Closes ∷ reads else reads)
