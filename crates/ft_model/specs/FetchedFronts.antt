-- How what a restart has fetched stands to the entries of the log: as the log only grows, each answer is about a part of it.
use Rattle.std.specs.Prelude.{◌≡◌, false, Some, List, [], ◌∷◌, length, slice_get}
use Rattle.std.specs.List.{AllByRecursion}
use Rattle.ft_model.specs.Log.{Entry, head_of}
use Rattle.ft_model.specs.Restart.{Fetched, lacks_bytes, lacks_lengths}
use Rattle.ft_model.specs.Growth.{IsPrefix}

-- a fetched entry is the front of this one
pub record IsFront (f : Fetched) (e : Entry) : Type 0 where
  pub head : f.head ≡ head_of e
  pub bytes : IsPrefix f.bytes e.bytes
  pub lengths : IsPrefix f.lengths e.lengths

-- nothing of an entry is missing
abbrev pub IsWhole : Fetched → Type 0
IsWhole f = (lacks_bytes f ≡ false) × (lacks_lengths f ≡ false)

-- so many entries of the log are fetched, the newest first; all but the newest are whole
abbrev pub AreFetched : List Entry → List Fetched → Type 0
AreFetched entries [] = Unit {0}
AreFetched entries (f ∷ earlier) =
    (e : Entry) × (slice_get entries (length earlier) ≡ Some e) × IsFront f e × AllByRecursion IsWhole earlier × AreFetched entries earlier
