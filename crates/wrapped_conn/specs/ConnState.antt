-- A wrapped connection: its parts.
use Rattle.std.specs.Prelude.{ℕ, Bool}
use Rattle.ft_io.specs.declared.Addr.{Addr}
use Rattle.ft_io.specs.declared.Key.{Key}
use Rattle.south_wrap.specs.SouthState.{SouthState}
use Rattle.north_wrap.specs.NorthState.{NorthState}
use Rattle.tcp_endpoint.specs.Tcb.{Tcb}
use Rattle.wrapped_conn.specs.declared.stage.ConnStage.{ConnStage}

pub record ConnState (S : Type 0) : Type 0 where
  pub boot : ℕ  -- the server's boot number
  pub key : Key  -- the client's address and port
  pub local : Addr  -- the server's address
  pub south : SouthState  -- the wrapper between the client and TCP
  pub endpoint : Tcb  -- TCP
  pub north : NorthState S  -- the wrapper between TCP and the service
  pub fetched : ℕ  -- the client's bytes that a restart fetched; else 0
  pub end_ticks : ℕ  -- the end ticks counted so far, up to four
  pub reset : Bool  -- whether the client has reset it
  pub stage : ConnStage  -- how far it has come
  pub delays : Bool  -- whether the ACK of what isn't logged yet waits for the log
  pub batches : Bool  -- whether the Data of a turn are a batch, in the wide grammar
