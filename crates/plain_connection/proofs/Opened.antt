-- A new connection is served, and so is one of a fetched entry, whose reads are made again.
use Rattle.tcp_rules.specs.declared.timestamping.Timestamping.{Timestamping}
use Rattle.std.proofs.Common.{◌≡◌, ℕ, Bool, sym, subst, List, arith}
use Rattle.server_trait.specs.Service.{Machine}
use Rattle.plain_connection.specs.Made.{nothing_made, made_of}
use Rattle.seq_arith.specs.Message.{Numbers}
use Rattle.tcp_rules.specs.Profile.{Profile}
use Rattle.ft_model.specs.Opening.{point_opened}
use Rattle.ft_model.specs.Point.{made}
use Rattle.plain_point.specs.Resumed.{point_fetched}
use Rattle.plain_connection.specs.State.{ConnectionState, IsServed}

pub opened_served : {S : Type 0} (service : Machine S) (c : ConnectionState S) (profile : Profile) (asked : Timestamping) (numbers : Numbers) → c.point ≡ point_opened profile asked numbers → c.made ≡ nothing_made service → IsServed service c
unfolding made_of
opened_served service c profile asked numbers point made =
    subst (λ x. IsServed service (record c { point = x; made = c.made })) (sym point)
    (record { made = made; answered = omega arith; enough = omega arith; fetched = omega arith })

pub fetched_served : {S : Type 0} (service : Machine S) (c : ConnectionState S) (profile : Profile) (numbers : Numbers) (bytes : List ℕ) (fin : Bool) → c.point ≡ point_fetched profile numbers bytes fin
    → c.made ≡ nothing_made service → IsServed service c
unfolding made_of
fetched_served service c profile numbers bytes fin point made =
    subst (λ x. IsServed service (record c { point = x; made = c.made })) (sym point)
    (record { made = made; answered = omega arith; enough = omega arith; fetched = omega arith })
