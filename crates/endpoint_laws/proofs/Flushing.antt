-- An endpoint before the flush of a turn that leads from one point of `ft_model` to another.
use Rattle.tcp_rules.specs.declared.timestamping.Timestamping.TheVariants.{Off}
use Rattle.std.specs.Prelude.{◌≡◌, ◌-◌, ◌≤◌, Bool, true, ◌&&◌, ◌||◌, not, nat_lt, length}
use Rattle.server_trait.specs.Service.{Machine}
use Rattle.ft_model.specs.Point.{Point}
use Rattle.ft_model.specs.News.{News}
use Rattle.ft_model.specs.Sending.{resends}
use Rattle.ft_model.specs.Timer.{expires}
use Rattle.tcp_endpoint.specs.States.{has_begun}
use Rattle.tcp_endpoint.specs.Tcb.{Tcb}
use Rattle.tcp_endpoint.specs.Output.{reset_reply_out}
use Rattle.endpoint_laws.specs.Laws.{IsBounded, ProbesRightly}
use Rattle.endpoint_laws.specs.Refinement.{ReceivesAt, SendsAt, IsUsedAt, refusals}

-- what was sent before is unacknowledged after: the SYN, text or the FIN
abbrev pub waits_for_ack : (before after : Point) → Bool
waits_for_ack before after = not after.syn_acked || nat_lt after.una before.sent

pub record Flushes {State : Type 0} (service : Machine State) (news : News) (before after : Point) (u : Tcb) : Type 0 where
  pub begun : has_begun u.name ≡ true
  pub bounds : IsBounded u
  pub probes : ProbesRightly u
  pub fin_last : u.sending.fin_sent ≡ true → (u.sending.closed ≡ true) × (1 ≤ u.sending.sent) × (length u.sending.held ≡ u.sending.sent - 1 - u.sending.una)
  pub ip : after.key.ip ≡ u.remote.ip
  pub port : after.key.port ≡ u.remote.port
  pub receives : ReceivesAt after u
  pub sends : SendsAt after u
  pub used : IsUsedAt service after u
  pub sent : before.sent ≡ u.sending.sent
  pub timestamping : after.timestamping ≡ Off
  pub retransmission_due : u.retransmission_due ≡ ((expires news before || resends news before) && waits_for_ack before after)
  pub probe : u.probe ≡ (expires news before && not (waits_for_ack before after))
  pub resends : resends news before ≡ true → waits_for_ack before after ≡ true
  pub reset_reply : reset_reply_out u ≡ refusals u.local news before
