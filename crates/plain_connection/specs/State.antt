-- A connection as its contracts see it.
use Rattle.std.specs.Prelude.{◌≡◌, ◌≤◌, ℕ, ◌+◌, List, ◌++◌, length, sum}
use Rattle.server_trait.specs.Service.{Machine}
use Rattle.plain_connection.specs.Made.{Made, made_of}
use Rattle.ft_model.specs.Point.{Point}
use Rattle.ft_model.specs.Reads.{Makes}

pub record ConnectionState (S : Type 0) : Type 0 where
  pub kind : ℕ
  pub point : Point
  pub made : Made S

-- the output is what the service makes of the reads; no more reads are answered than were made; the bytes that they took, and the fetched ones, are taken
pub record IsServed {S : Type 0} (service : Machine S) (c : ConnectionState S) : Type 0 where
  pub made : c.made ≡ made_of service c.point.taken c.point.lengths
  pub answered : c.point.reads_answered ≤ length c.point.lengths
  pub enough : sum c.point.lengths ≤ length c.point.taken
  pub fetched : c.point.fetched ≤ length c.point.taken

-- so many bytes are there to be read, and fit one read
abbrev pub IsThere : Point → ℕ → Type 0
IsThere p n = (sum p.lengths + n ≤ length p.taken) × (n ≤ 2048)

-- further reads were made
pub record HasRead {S : Type 0} (service : Machine S) (before now : ConnectionState S) : Type 0 where
  pub news : List ℕ
  pub kind : now.kind ≡ before.kind
  pub point : now.point ≡ record before.point { lengths = before.point.lengths ++ news }
  pub served : IsServed service now
  pub continues : (rest : List ℕ) → Makes service now.point rest → Makes service before.point (news ++ rest)

-- all reads that are to be made were made
pub record ReadsOn {S : Type 0} (service : Machine S) (before now : ConnectionState S) : Type 0 where
  pub news : List ℕ
  pub kind : now.kind ≡ before.kind
  pub point : now.point ≡ record before.point { lengths = before.point.lengths ++ news }
  pub served : IsServed service now
  pub makes : Makes service before.point news
