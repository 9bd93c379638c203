-- What a process of one of this crate's roles did.
use Rattle.std.specs.Prelude.{ℕ, Option, Result, Ok, Err, List}
use Rattle.std.specs.Io.KnownBytes.{Appends}
use Rattle.ft_io.specs.declared.link_call.LinkCall.{LinkCall}
use Rattle.link_parts.specs.declared.status.NodeEnd.{NodeEnd}
use Rattle.chain_parts.specs.PartLife.{IsPart, PartStops}
use Rattle.chain_parts.specs.StopNotice.{IsNotifier, NotifierStops}
use Rattle.chain_parts.specs.declared.pair_role.TwinRole.{TwinRole}
use Rattle.chain_parts.specs.declared.pair_role.TwinRole.TheVariants.{Logger, Alone}

-- by its role
abbrev pub LivesAs : TwinRole → Result (Unit {0}) NodeEnd → (old new : Option (List LinkCall)) → (out_old out_new : Option (List ℕ)) → Type 0
LivesAs (Logger role) (Ok _) old new out_old out_new = IsPart role old new (Appends out_old out_new)
LivesAs (Logger role) (Err end) old new out_old out_new = PartStops role old new out_old out_new end
LivesAs (Alone role) (Ok _) old new out_old out_new = IsNotifier role old new (Appends out_old out_new)
LivesAs (Alone role) (Err end) old new out_old out_new = NotifierStops role old new out_old out_new end
