-- What the log does with bytes in the code: its answer, and what is gone when an entry is recycled.
use Rattle.std.specs.Prelude.{◌≡◌, ℕ, true, false, Option, Some, None, List, [], ◌∷◌, ◌++◌, map, if◌then◌else◌}
use Rattle.std.specs.List.{AllByRecursion}
use Rattle.ft_io.specs.declared.Key.{Key}
use Rattle.tcp_rules.specs.Profile.{grammar_of}
use Rattle.tcp_rules.specs.Profiles.{profile_of}
use Rattle.ft_model.specs.Log.{Log, Entry, entry_of}
use Rattle.ft_model.specs.declared.way.Way.TheVariants.{LoggerToServer}
use Rattle.forget_store.specs.Replies.{after_bytes, answer_to_bytes}
use Rattle.lasting_world.specs.Abouts.{names, key_said}
use Rattle.lasting_world.specs.Around.{KeptAround, AddsMessage}
use Rattle.lasting_world.specs.GoneEntries.{GoneStands}
use Rattle.lasting_world.specs.Guests.{guest_is_there}
use Rattle.lasting_world.specs.NetworkView.{LosesAll}
use Rattle.lasting_world.specs.declared.gone.GoneEntry.{GoneEntry}
use Rattle.lasting_world.specs.declared.guest.Guest.{Guest}

-- at most one client is at an address
abbrev pub IsOneThere : Key → List Guest → Type 0
IsOneThere key [] = Unit {0}
IsOneThere key (g ∷ others) = (guest_is_there key g ≡ true → AllByRecursion (λ x. guest_is_there key x ≡ false) others) × IsOneThere key others

-- the client that is at an address is gone, its entry is told, and what is under way of its connection is lost
abbrev pub gone_guest : Key → Guest → Guest
gone_guest key g = if guest_is_there key g then record g { gone = true } else g

pub record Parts (key : Key) (before after : KeptAround) : Type 0 where
  pub guests : IsOneThere key before.guests → after.guests ≡ map (gone_guest key) before.guests
  pub rest : after ≡ record before { guests = after.guests }

pub record Recycles (key : Key) (entry : GoneEntry) (before after : KeptAround) : Type 0 where
  pub guests : IsOneThere key before.guests → after.guests ≡ map (gone_guest key) before.guests
  pub gone : after.gone ≡ before.gone ++ entry ∷ []
  pub network : LosesAll key before.network after.network
  pub log : after.log ≡ before.log
  pub profile : after.profile ≡ before.profile

-- the log after bytes, and the bytes of its answer, or none
abbrev pub log_then : List ℕ → KeptAround → Log
log_then bytes before = after_bytes (grammar_of (profile_of before.profile)) bytes before.log

abbrev pub answer_of : List ℕ → KeptAround → List ℕ
answer_of bytes before = answer_to_bytes (grammar_of (profile_of before.profile)) bytes before.log

abbrev pub with_log : Log → KeptAround → KeptAround
with_log log before = record before { log = log }

-- this entry of a key is recycled, unless the key has one still
abbrev pub RecyclesUnless : Option Entry → Key → GoneEntry → (before after : KeptAround) → Type 0
RecyclesUnless None key gone before after = Recycles key gone before after
RecyclesUnless (Some e) key gone before after = after ≡ before

-- the entry that a key had is recycled, unless it had none, or has one still
abbrev pub RecyclesGone : Key → (had has : Option Entry) → (before after : KeptAround) → Type 0
RecyclesGone key None has before after = after ≡ before
RecyclesGone key (Some e) (Some other) before after = after ≡ before
RecyclesGone key (Some e) None before after = (gone : GoneEntry) × GoneStands gone e × Recycles key gone before after

-- the log becomes this one by bytes about the connection of a key, or about none
abbrev pub TakesAbout : Option Key → Log → (before after : KeptAround) → Type 0
TakesAbout (Some key) log before after = RecyclesGone key (entry_of key before.log) (entry_of key log) (with_log log before) after
TakesAbout None log before after = after ≡ with_log log before

pub record LogTakes (bytes : List ℕ) (before after : KeptAround) : Type 0 where
  pub about : Option Key
  pub is_about : (key : Key) → names about key ≡ key_said (grammar_of (profile_of before.profile)) bytes key
  pub takes : TakesAbout about (log_then bytes before) before after

-- its answer is stored, if there is one
abbrev pub StoresAnswer : List ℕ → (before after : KeptAround) → Type 0
StoresAnswer [] before after = after ≡ before
StoresAnswer (byte ∷ bytes) before after = AddsMessage LoggerToServer (byte ∷ bytes) before after
