-- Messages that come back are steps of a world.
use Rattle.std.proofs.Common.{◌≡◌, ℕ, List, [], ◌∷◌}
use Rattle.forget_store.specs.AnyMessage.{AnyMessage, log_after_each}
use Rattle.forget_store.specs.AnyMessage.AnyMessage.{Usual, Forgetting}
use Rattle.ft_model.specs.Log.{Log, log_after}
use Rattle.ft_model.specs.Network.{Packet}
use Rattle.trace_laws.specs.Deaths.{ComesBack}
use Rattle.journal_laws.specs.Moments.{AreUnderWay}

pub comes_back : (packets : List Packet) (numbers : List ℕ) (messages : List AnyMessage) (before after : Log) → AreUnderWay packets numbers messages → after ≡ log_after_each before messages
    → ComesBack packets numbers before after
comes_back packets [] [] before after way is = is
comes_back packets [] (message ∷ messages) before after way is = absurd way
comes_back packets (number ∷ numbers) [] before after way is = absurd way
comes_back packets (number ∷ numbers) (Forgetting message ∷ messages) before after way is = absurd way
comes_back packets (number ∷ numbers) (Usual message ∷ messages) before after way is = (message, way.0, comes_back packets numbers messages (log_after before message) after way.1 is)
