-- What holds of every schedule that a text spells.
use Rattle.limits.specs.Limits.{longest_stream}
use Rattle.std.specs.Prelude.{◌≡◌, ℕ, false, Some, None, ◌<◌, ◌≤◌, List, [], ◌∷◌, ◌++◌, length}
use Rattle.std.specs.List.{AllByRecursion}
use Rattle.ft_model.specs.Grammar.{is_taken}
use Rattle.ft_model.specs.Schedule.{bytes_of}
use Rattle.ft_model.specs.declared.line.Draft.TheVariants.{Begun}
use Rattle.ft_model.specs.declared.schedule.ClientLine.{ClientLine}
use Rattle.ft_model.specs.declared.schedule.Lasting.{Lasting}
use Rattle.ft_model.specs.declared.schedule.Schedule.{Schedule}

-- Each client's address differs from the server's and from those of the clients before it. At a server that lasts, clients of one address have different
-- initial sequence numbers
abbrev pub AreApart : Schedule → List ClientLine → List ClientLine → Type 0
AreApart schedule before [] = Unit {0}
AreApart schedule before (client ∷ more) =
    (is_taken (Begun (record schedule { clients = before })) (record { ip = client.key.ip; port = client.key.port }) client.isn ≡ false)
    × AreApart schedule (before ++ client ∷ []) more

pub record IsAccepted (schedule : Schedule) : Type 0 where
  pub clients : length schedule.clients ≤ 16
  pub addresses : AreApart schedule [] schedule.clients
  pub scripts : AllByRecursion (λ client. length (bytes_of client.script) ≤ longest_stream) schedule.clients
  pub events : length schedule.events ≤ 100000
  pub marks : (every : ℕ) → schedule.marks ≡ Some every → (0 < every) × (every ≤ 1000) × (schedule.twin ≡ false)
  pub lasting : (waits : Lasting) → schedule.lasting ≡ Some waits
      → (0 < waits.wait) × (waits.wait ≤ 100000) × (waits.silence ≤ 100000) × (schedule.twin ≡ false) × (schedule.marks ≡ None)
