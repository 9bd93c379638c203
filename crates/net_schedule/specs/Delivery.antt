-- Bytes that arrive at a client or at a logger.
use Rattle.std.specs.Prelude.{ℕ, zero, suc, List, [], ◌∷◌}
use Rattle.ft_model.specs.Client.{Client}
use Rattle.peer_client.specs.Scripted.{delivered}
use Rattle.schedule_network.specs.StoredPackets.{Carried}
use Rattle.schedule_network.specs.Logs.{log_in, keepers_in}
use Rattle.schedule_network.specs.declared.logs.Logs.{Logs}
use Rattle.net_schedule.specs.Refinement.{Kept}

-- the list with the element at this index changed, if there is one
abbrev pub changed_at : {X : Type 0} → ℕ → (X → X) → List X → List X
changed_at n change [] = []
changed_at zero change (x ∷ xs) = change x ∷ xs
changed_at (suc n) change (x ∷ xs) = x ∷ changed_at n change xs

-- the clients after bytes arrive at the client with this number, if there is one
abbrev pub delivered_to : ℕ → List ℕ → List Client → List Client
delivered_to zero bytes clients = clients
delivered_to (suc n) bytes clients = changed_at n (λ c. delivered c bytes) clients

-- the world with these loggers and packets
abbrev pub with_logs : {State : Type 0} → Kept State → Logs × Carried → Kept State
with_logs w h = record w { log = log_in h.0; keepers = keepers_in h.0; packets = h.1 }
