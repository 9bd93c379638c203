-- A link in memory.
use Rattle.std.specs.Prelude.{ℕ, ◌==◌, Bool, List, [], ◌∷◌, ◌++◌, drop, None, Some, IsTrue, ◌⊎◌, cond}
use Rattle.std.specs.declared.option.Option.{Option}
use Rattle.ft_io.specs.declared.link_call.LinkCall.{LinkCall}
use Rattle.ft_system.specs.declared.mem_link.Arrival.{Arrival}
use Rattle.ft_io.specs.Faults.{raised}
use Rattle.ft_system.specs.NumberedCalls.{Calls, no_call, after_call, IsNextListed}

-- a link in memory, as its callers see it
pub record LinkState : Type 0 where
  -- what its receives will give, in order
  pub arrivals : List Arrival
  -- its binds
  pub binds : Calls
  -- its sends
  pub sends : Calls
  -- its receives
  pub recvs : Calls
  -- all its binds fail
  pub bind_fails : Bool
  -- the calls that it has recorded, the oldest first
  pub calls : List LinkCall
  -- how many calls failed
  pub faults : ℕ
  -- how many of them were binds
  pub bind_faults : ℕ
  -- how many of them failed because an allocation failed
  pub starved : ℕ

-- a link before its first call
abbrev pub fresh_link : List Arrival → List ℕ → List ℕ → Bool → LinkState
fresh_link arriving send_fails recv_fails fails =
    record {
      arrivals = arriving;
      binds = no_call [];
      sends = no_call send_fails;
      recvs = no_call recv_fails;
      bind_fails = fails;
      calls = [];
      faults = 0;
      bind_faults = 0;
      starved = 0;
    }

-- the binds with these numbers are to fail
abbrev pub failing_binds : LinkState → List ℕ → LinkState
failing_binds link numbers = record link { binds = no_call numbers }

-- the next bind is to fail
abbrev pub BindFails : LinkState → Type 0
BindFails link = IsTrue link.bind_fails ⊎ IsNextListed link.binds

-- the record of its calls; there is none once an allocation has failed in a call
abbrev pub reported_of : LinkState → Option (List LinkCall)
reported_of link = cond (link.starved == 0) (Some link.calls) None

-- a call was recorded
abbrev pub noted : LinkState → LinkCall → LinkState
noted link call = record link { calls = link.calls ++ call ∷ [] }

-- a call failed
abbrev pub failed : LinkState → LinkState
failed link = record link { faults = raised link.faults }

-- a call failed because an allocation failed
abbrev pub starved : LinkState → LinkState
starved link = record link { faults = raised link.faults; starved = raised link.starved }

-- a failed call was a bind
abbrev pub at_bind : LinkState → LinkState
at_bind link = record link { bind_faults = raised link.bind_faults }

-- one bind is made
abbrev pub binding : LinkState → LinkState
binding link = record link { binds = after_call link.binds }

-- one send is made
abbrev pub sending : LinkState → LinkState
sending link = record link { sends = after_call link.sends }

-- one receive is made
abbrev pub receiving : LinkState → LinkState
receiving link = record link { recvs = after_call link.recvs }

-- the first arrival is used up
abbrev pub without_arrival : LinkState → LinkState
without_arrival link = record link { arrivals = drop 1 link.arrivals }
