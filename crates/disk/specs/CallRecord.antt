-- The record of a desk: the calls on its network and on its file, in one order.
use Rattle.std.specs.Prelude.{Bool, true, false, List, [], ◌∷◌, map, Some, None}
use Rattle.std.specs.declared.option.Option.{Option}
use Rattle.ft_io.specs.declared.link_call.LinkCall.{LinkCall}
use Rattle.disk.specs.declared.calls.DiskCall.{DiskCall}
use Rattle.disk.specs.declared.calls.DeskCall.{DeskCall}
use Rattle.disk.specs.declared.calls.DeskCall.TheVariants.{OnLink, OnDisk}

-- calls on a network, as calls on a desk
abbrev pub on_link : List LinkCall → List DeskCall
on_link calls = map OnLink calls

-- calls on a file, as calls on a desk
abbrev pub on_disk : List DiskCall → List DeskCall
on_disk calls = map OnDisk calls

-- the calls on the file among those on a desk: what a death leaves depends on these
abbrev pub disk_calls : List DeskCall → List DiskCall
disk_calls [] = []
disk_calls (OnLink call ∷ calls) = disk_calls calls
disk_calls (OnDisk call ∷ calls) = call ∷ disk_calls calls

-- the calls on the network among them
abbrev pub link_calls : List DeskCall → List LinkCall
link_calls [] = []
link_calls (OnLink call ∷ calls) = call ∷ link_calls calls
link_calls (OnDisk call ∷ calls) = link_calls calls

-- the record of a disk or desk in memory; there is none once an allocation has failed in a call
abbrev pub reported_if : {A : Type 0} → Bool → List A → Option (List A)
reported_if true calls = None
reported_if false calls = Some calls
