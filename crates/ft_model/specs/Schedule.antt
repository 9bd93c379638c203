-- What a schedule starts with: its clients, all of them scripted, and the number of its service.
use Rattle.std.specs.Prelude.{ℕ, zero, suc, ◌+◌, ◌%◌, List, [], ◌∷◌, ◌++◌, map}
use Rattle.ft_io.specs.declared.Addr.{Addr}
use Rattle.ft_model.specs.Client.{Client, new_client}
use Rattle.ft_model.specs.Client.ClientKind.{Scripted}
use Rattle.ft_model.specs.declared.schedule.Script.{Script}
use Rattle.ft_model.specs.declared.schedule.Script.TheVariants.{Bytes, Fill}
use Rattle.ft_model.specs.declared.schedule.ClientLine.{ClientLine}
use Rattle.ft_model.specs.declared.schedule.ServiceKind.{ServiceKind}
use Rattle.ft_model.specs.declared.schedule.ServiceKind.TheVariants.{Echo, Line, Transfer, Meter}

-- the number under which a service with several kinds knows the kind that a schedule names
abbrev pub kind_of : ServiceKind → ℕ
kind_of Echo = 1
kind_of Line = 2
kind_of Transfer = 3
kind_of Meter = 4

-- n letters: those from `a` to `z`, repeated
unfoldable pub letters : ℕ → List ℕ
letters zero = []
letters (suc n) = letters n ++ (97 + n % 26) ∷ []

-- the bytes of a script
abbrev pub bytes_of : Script → List ℕ
bytes_of (Bytes bytes) = bytes
bytes_of (Fill n) = letters n

abbrev pub client_of : Addr → ClientLine → Client
client_of server line = new_client Scripted server line.key line.isn (bytes_of line.script)

abbrev pub clients_of : Addr → List ClientLine → List Client
clients_of server lines = map (client_of server) lines
