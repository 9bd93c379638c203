-- How an input is cut into chunks, and services whose output doesn't depend on it.
use Rattle.std.specs.Prelude.{◌≡◌, ℕ, ◌<◌, Bool, List, [], ◌∷◌, ◌++◌, All, length, if◌then◌else◌}
use Rattle.server_trait.specs.Service.{Machine, fold}

-- the bytes of the chunks, one chunk after another
abbrev pub joined : List (List ℕ) → List ℕ
joined [] = []
joined (chunk ∷ chunks) = chunk ++ joined chunks

-- chunks before the end of input: none of them is empty
abbrev pub NoneEmpty : List (List ℕ) → Type 0
NoneEmpty = All (λ chunk. 0 < length chunk)

-- the chunks of an input, followed by the empty one where it has ended
abbrev pub chunks_of : List (List ℕ) → Bool → List (List ℕ)
chunks_of chunks ended = if ended then chunks ++ [] ∷ [] else chunks

-- the service writes the same, and closes in the same cases, however the same bytes are cut
abbrev pub IgnoresCuts : {State : Type 0} → Machine State → Type 0
IgnoresCuts service =
    (chunks others : List (List ℕ)) (ended : Bool) → NoneEmpty chunks → NoneEmpty others → joined chunks ≡ joined others →
    ((fold service (chunks_of chunks ended)).output ≡ (fold service (chunks_of others ended)).output)
    × ((fold service (chunks_of chunks ended)).closed ≡ (fold service (chunks_of others ended)).closed)
