-- What the laws of joint traces prove of a trace that is played.
use Rattle.std.specs.Prelude.{◌≡◌, false, IfSome, List}
use Rattle.std.specs.List.{AllByRecursion}
use Rattle.server_trait.specs.Service.{Machine, CanCut}
use Rattle.ft_model.specs.Lawful.{is_fenced}
use Rattle.ft_model.specs.Masked.{Masked}
use Rattle.ft_model.specs.Resets.{ResetsNoLogged}
use Rattle.ft_model.specs.World.{World, Moment, world_after}

-- Crashes can't be seen from outside, and restarts are exact; no RST was sent to a client whose entry isn't done; no server is fenced; and the lengths of
-- each entry's reads cut its logged bytes.
pub record IsSafe {State : Type 0} (service : Machine State) (start : World) (trace : List Moment) : Type 0 where
  pub masked : Masked service start trace
  pub resets : AllByRecursion (ResetsNoLogged (world_after start trace).log) (world_after start trace).packets
  pub fenced : IfSome (world_after start trace).node (λ node. is_fenced node.stage ≡ false)
  pub cut : AllByRecursion (λ e. CanCut e.bytes e.lengths) (world_after start trace).log.entries
