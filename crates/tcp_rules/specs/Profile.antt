-- A profile: what an operator chooses for a server, and keeps as long as its log. The definitions ask for its fields, and never which profile it is.
use Rattle.std.specs.Prelude.{Bool, true, false, if◌then◌else◌}
use Rattle.seq_arith.specs.declared.kinds.Grammar.{Grammar}
use Rattle.seq_arith.specs.declared.kinds.Grammar.TheVariants as grammars

pub record Profile : Type 0 where
  -- the retransmission timer follows measured round trips (RFC 6298), and the losses of one flight are recovered one after another (RFC 6582)
  pub measures : Bool
  -- the ACK of what isn't logged yet waits for the log
  pub delays : Bool
  -- the Data that one turn sends of a connection are a batch, of which the log answers only the last
  pub batches : Bool
  -- the segments to a client whose own segments carry timestamps carry them too (RFC 7323)
  pub timestamps : Bool

-- a timer that starts with one tick, ACKs at once, an answer to each Data, and no timestamps
abbrev pub plain : Profile
plain = record { measures = false; delays = false; batches = false; timestamps = false }

-- for clients beyond a wide-area network
abbrev pub wan : Profile
wan = record { measures = true; delays = true; batches = true; timestamps = true }

-- how server and log write their messages: to send batches takes the wide grammar
abbrev pub grammar_of : Profile → Grammar
grammar_of profile = if profile.batches then grammars.Wide else grammars.Plain
