-- What a turn of a connection compares with the connection before it.
use Rattle.std.specs.Prelude.{◌≡◌, ◌||◌, length}
use Rattle.server_trait.specs.Service.{Machine}
use Rattle.ft_model.specs.Point.{Point, taken_units, advertised_edge, acknowledgement, window}
use Rattle.ft_model.specs.News.{News}
use Rattle.ft_model.specs.Sending.{resends}
use Rattle.ft_model.specs.Timer.{expires, probes}
use Rattle.ft_model.specs.PendingAck.{asks, is_segment}
use Rattle.ft_model.specs.Segments.{opens_with}
use Rattle.ft_model.specs.ResetAndEnd.{reset_after}
use Rattle.plain_point.specs.Turn.{timer_of}
use Rattle.plain_connection.specs.declared.before.Before.{Before}

-- the values of this point, in a turn with this news
pub record IsBefore {State : Type 0} (service : Machine State) (news : News) (p : Point) (before : Before) : Type 0 where
  pub answered : before.answered ≡ p.answered
  pub units : before.units ≡ taken_units p
  pub taken : before.taken ≡ length p.taken
  pub fin : before.fin ≡ p.fin
  pub edge : before.edge ≡ advertised_edge p
  pub reads : before.reads ≡ length p.lengths
  pub una : before.una ≡ p.una
  pub sent : before.sent ≡ p.sent
  pub timer : before.timer ≡ timer_of p
  pub syn_acked : before.syn_acked ≡ p.syn_acked
  pub asks : before.asks ≡ asks service news p
  pub opens : before.opens ≡ opens_with news p
  pub resends : before.resends ≡ (expires news p || resends news p)
  pub probes : before.probes ≡ probes news p
  pub reset : before.reset ≡ reset_after news p
  pub arrives : before.arrives ≡ is_segment news
  pub delays : before.delays ≡ p.delays
  pub acknowledged : before.acknowledged ≡ acknowledgement p
  pub window : before.window ≡ window p
