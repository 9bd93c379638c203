-- What a connection has of its server's profile, in every turn.
use Rattle.std.specs.Prelude.{◌≡◌, false}
use Rattle.tcp_rules.specs.Profile.{Profile}
use Rattle.tcp_rules.specs.Timing.{initial_timing}
use Rattle.tcp_rules.specs.declared.timestamping.Timestamping.TheVariants.{Off}
use Rattle.ft_model.specs.Point.{Point}

-- a connection has the profile's constants; where nothing is measured its timing is what it was at first, and no loss is noted; and where the profile uses no
-- timestamps its segments carry none
pub record HasProfile (profile : Profile) (p : Point) : Type 0 where
  pub measures : p.timing.measures ≡ profile.measures
  pub recovers : p.congestion.recovers ≡ profile.measures
  pub delays : p.delays ≡ profile.delays
  pub batches : p.batches ≡ profile.batches
  pub timing : profile.measures ≡ false → p.timing ≡ initial_timing false
  pub lost : profile.measures ≡ false → p.congestion.lost ≡ 0
  pub timestamping : profile.timestamps ≡ false → p.timestamping ≡ Off
