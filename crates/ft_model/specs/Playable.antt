-- What a schedule must be to be played: its clients can start, and its events' numbers fit their types.
use Rattle.limits.specs.Limits.{longest_stream}
use Rattle.std.specs.Prelude.{◌≡◌, true, None, List, [], ◌∷◌, ◌<◌, ◌≤◌, ◌^◌, length, All}
use Rattle.std.specs.List.{AllByRecursion}
use Rattle.ft_io.specs.Key.{key_eq}
use Rattle.ft_model.specs.Readable.{FitsAddr, FitsClient, FitsEvent}
use Rattle.ft_model.specs.Schedule.{bytes_of, clients_of}
use Rattle.ft_model.specs.World.{is_apart, are_apart}
use Rattle.ft_model.specs.declared.schedule.ClientLine.{ClientLine}
use Rattle.ft_model.specs.declared.schedule.Schedule.{Schedule}

-- clients of one address have different initial sequence numbers, so that a segment or a message of one isn't taken for another's (RFC 9293, 3.4.1)
abbrev pub HaveDifferentNumbers : List ClientLine → Type 0
HaveDifferentNumbers [] = Unit {0}
HaveDifferentNumbers (line ∷ lines) = AllByRecursion (λ other. key_eq other.key line.key ≡ true → other.isn ≡ line.isn → ⊥) lines × HaveDifferentNumbers lines

-- the clients' scripts fit a stream, the numbers of clients and events fit their types, no client has the server's address, and all addresses differ; at a
-- server that lasts the clients of one address have different initial sequence numbers
pub record IsPlayable (schedule : Schedule) : Type 0 where
  pub server : FitsAddr schedule.server
  pub short : All (λ line. length (bytes_of line.script) ≤ longest_stream) schedule.clients
  pub numbers : AllByRecursion (λ line. line.isn < 2 ^ 32) schedule.clients
  pub sizes : AllByRecursion FitsClient schedule.clients
  pub beside : AllByRecursion (λ line. is_apart schedule.server line.key [] ≡ true) schedule.clients
  pub different : HaveDifferentNumbers schedule.clients
  pub apart : schedule.lasting ≡ None → are_apart schedule.server (clients_of schedule.server schedule.clients) ≡ true
  pub events : AllByRecursion FitsEvent schedule.events
