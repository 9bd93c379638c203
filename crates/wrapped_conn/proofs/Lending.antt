-- What a connection lends of its numbers is its point's.
use Rattle.std.proofs.Common.{ℕ, ap, ◌∙◌}
use Rattle.server_trait.specs.Service.{Machine}
use Rattle.ft_model.specs.Point.{Point}
use Rattle.north_wrap.specs.Refinement.{NorthStands}
use Rattle.south_wrap.specs.SouthState.{SouthState}
use Rattle.connection_laws.specs.PointNumbers.{PartsShow}
use Rattle.connection_laws.proofs.PointNumbers.{parts_show}
use Rattle.wrapped_conn.specs.ConnState.{ConnState}
use Rattle.wrapped_conn.specs.Sound.{IsSound}
use Rattle.wrapped_conn.specs.Refinement.{Keeps, TcpShows, Reports, StandsLive, StandsReset, Stands}
use Rattle.wrapped_conn.proofs.NumbersAt.{tcp_shows, logged_is}
use Rattle.wrapped_conn.proofs.Receiving.{parts_live, parts_reset}
use Rattle.ft_io.proofs.Choices.{by_cases}

reports_by : {S : Type 0} (service : Machine S) (given : ℕ) (p : Point) (c : ConnState S) → IsSound c → Keeps p c → NorthStands service p given c.north → TcpShows p c → Reports p c
reports_by service given p c sound keeps north reported = record {
  tcp = reported;
  answered = logged_is c sound.answered ∙ ap (λ (s : SouthState). s.answered) keeps.south;
  read = north.read;
  reads = north.count;
}

pub reports : {S : Type 0} (service : Machine S) (p : Point) (c : ConnState S) → IsSound c → Stands service c p → Reports p c
reports service p c sound st =
    by_cases p.reset
    (λ on. let there : StandsReset service p c = parts_reset service c p st on in reports_by service there.given p c sound st.keeps there.north there.reported)
    (λ off. let live : StandsLive service p c = parts_live service c p st off in
    let shown : PartsShow service c.south.delta p c.north c.endpoint = parts_show service live.u live.i c.south.delta live.given p c.north c.endpoint live.parts.stand in
    reports_by service live.given p c sound st.keeps live.parts.stand.north
    (tcp_shows service p c shown st.keeps.fetched live.parts.stand.north.read (ap (λ (s : SouthState). s.sisn) st.keeps.south) sound.parts.made))
