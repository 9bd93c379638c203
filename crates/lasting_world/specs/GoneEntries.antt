-- Recycled entries, as a report tells them.
use Rattle.std.specs.Prelude.{◌≡◌, Option, Some, None, List, [], ◌∷◌}
use Rattle.ft_model.specs.Log.{Entry, head_of}
use Rattle.logger_wire.specs.Records.{head_said}
use Rattle.lasting_world.specs.declared.gone.GoneEntry.{GoneEntry}

pub record GoneStands (now : GoneEntry) (e : Entry) : Type 0 where
  pub head : head_said now.head ≡ head_of e
  pub lengths : now.lengths.items ≡ e.lengths

abbrev pub IsEntryToGo : Option GoneEntry → Option Entry → Type 0
IsEntryToGo (Some now) (Some e) = GoneStands now e
IsEntryToGo None None = Unit {0}
IsEntryToGo _ _ = ⊥

abbrev pub AllGoneStand : List GoneEntry → List Entry → Type 0
AllGoneStand [] [] = Unit {0}
AllGoneStand (now ∷ more) (e ∷ others) = GoneStands now e × AllGoneStand more others
AllGoneStand _ _ = ⊥
