-- The code's values as those of the definitions.
use Rattle.std.specs.Prelude.{◌≡◌, Bool, true, false, Option, Some, None, List, length, if◌then◌else◌}
use Rattle.ft_model.specs.Restart.{Fetched, Wanted as wanted, lacks_read_bytes, lacks_lengths, lacks_bytes}
use Rattle.plain_log.specs.declared.wanted.Wanted.{Wanted}
use Rattle.plain_log.specs.declared.wanted.Wanted.TheVariants.{Entry, Bytes, Lengths}

abbrev pub wanted_in : Wanted → wanted
wanted_in (Entry index) = wanted.An_entry index
wanted_in (Bytes key offset) = wanted.Its_bytes key offset
wanted_in (Lengths key first) = wanted.Its_lengths key first

-- what is requested next of an entry
abbrev pub wanted_of : Fetched → Option wanted
wanted_of f =
    if lacks_read_bytes f then Some (wanted.Its_bytes f.head.key (length f.bytes))
    else (if lacks_lengths f then Some (wanted.Its_lengths f.head.key (length f.lengths))
    else (if lacks_bytes f then Some (wanted.Its_bytes f.head.key (length f.bytes)) else None))

-- an answer fits, and then these entries are fetched; or it doesn't, and they are unchanged
abbrev pub IsTakenAs : Option (List Fetched) → (before after : List Fetched) → Bool → Type 0
IsTakenAs (Some now) before after fits = (fits ≡ true) × (after ≡ now)
IsTakenAs None before after fits = (fits ≡ false) × (after ≡ before)
