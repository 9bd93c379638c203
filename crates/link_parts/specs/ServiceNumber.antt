-- The number of a server's service.
use Rattle.std.specs.Prelude.{ℕ, Option, None, Some}
use Rattle.ft_model.specs.Schedule.{kind_of}
use Rattle.ft_model.specs.declared.schedule.ServiceKind.{ServiceKind}

-- the number of the service that the words name; 0 where they name none
abbrev pub kind_in : Option ServiceKind → ℕ
kind_in None = 0
kind_in (Some service) = kind_of service
