-- Two clients that come to one address one after another, and the entry of the first.
use Rattle.std.specs.Prelude.{ℕ, true, None, Some, List, [], ◌∷◌}
use Rattle.ft_io.specs.declared.Addr.{Addr}
use Rattle.ft_model.specs.Client.{Client, new_client}
use Rattle.ft_model.specs.Client.ClientKind.{Scripted}
use Rattle.ft_model.specs.Log.{Entry}
use Rattle.ft_model.specs.WorkedRuns.Common.{key}
use Rattle.ft_model.specs.declared.phase.Phase.TheVariants.{Opening, Ended}
use Rattle.long_laws.specs.Forgetting.{Named}
use Rattle.lasting_laws.specs.LastingWorld.{Guest}

abbrev pub first_named : Named
first_named = record { key = key; cisn = 1000; sisn = 5000 }

-- the first client sent nothing but its FIN, and acknowledged the server's
abbrev pub recycled_entry : Entry
recycled_entry = record { key = key; cisn = 1000; sisn = 5000; mss = 536; bytes = []; fin = true; lengths = 0 ∷ []; acknowledged = 1; done = true }

abbrev pub server : Addr
server = record { ip = 3221226084; port = 7 }

abbrev pub two_guests : List Guest
two_guests =
    record { client = record (new_client Scripted server key 1000 []) { phase = Ended }; gone = Some (0 ∷ []) }
    ∷ record { client = record (new_client Scripted server key 9000 []) { phase = Opening }; gone = None } ∷ []
