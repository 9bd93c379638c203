-- Whether a connection's SYN is acknowledged, by the state of its TCP (RFC 9293, 3.3.2).
use Rattle.std.specs.Prelude.{Bool, true, false}
use Rattle.tcp_endpoint.specs.declared.states.StateName.{StateName}
use Rattle.tcp_endpoint.specs.declared.states.StateName.TheVariants.{SynReceived}

abbrev pub is_past_syn : StateName → Bool
is_past_syn SynReceived = false
is_past_syn name = true
