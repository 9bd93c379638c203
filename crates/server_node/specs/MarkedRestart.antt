-- The turn that ends the restart of a node that marks, layer by layer.
use Rattle.std.specs.Prelude.{◌≡◌, ℕ, false, Some, None, List, [], ◌∷◌, reverse, length, filter}
use Rattle.std.specs.List.{AllByRecursion}
use Rattle.std.specs.Map.{lookup}
use Rattle.ft_io.specs.declared.Key.{Key}
use Rattle.ft_io.specs.Key.{key_eq}
use Rattle.server_trait.specs.Service.{AreBytes}
use Rattle.server_trait.specs.declared.Service.{Ghosts}
use Rattle.tcp_rules.specs.Profile.{grammar_of}
use Rattle.ft_model.specs.Lawful.{AreSound, Revives, all_restored, restored_count}
use Rattle.ft_model.specs.Log.{Entry}
use Rattle.ft_model.specs.Network.{Packet}
use Rattle.ft_model.specs.Node.{Node, Place, Stage as law_stage, place_at}
use Rattle.ft_model.specs.Node.Place.{Lives}
use Rattle.ft_model.specs.Point.{Point}
use Rattle.ft_model.specs.Restart.{Fetched, IsSoundEntry, entry_in, is_fetched, point_of}
use Rattle.ft_model.specs.Wire.{Wire}
use Rattle.mark_laws.specs.Marking.{Marking, Outgoing, with_new, new_marks, with_marks, marks_out}
use Rattle.mark_laws.specs.MarkedNode.{Marker, GoesMarked, AllGoMarked, marks_at, marking_then, is_done}
use Rattle.reincarnate.specs.Progress.{EntryState, ReplayedState}
use Rattle.reincarnate.specs.Refinement.{IsReplayed, RestoredIs, StandsWhole}
use Rattle.reincarnate.specs.declared.entries.Restored.{Restored}
use Rattle.conn_marks.specs.KeyMarks.{KeyMarks, marking_in, Changes}
use Rattle.node_serving.specs.declared.identity.Identity.{Identity}
use Rattle.node_serving.specs.declared.serving.Serving.{Serving}
use Rattle.node_serving.specs.declared.slot.Slot.{Slot}
use Rattle.node_serving.specs.declared.turn.Turn.{Turn}
use Rattle.server_node.specs.FetchStage.{AreDistinct}
use Rattle.server_node.specs.RestartNumbers.{AreNumbered}
use Rattle.node_serving.specs.Identity.{node_of, service_of, grammar_in}
use Rattle.conn_marks.specs.MarkSends.{AreOut}
use Rattle.conn_marks.specs.Settled.{Keeps, AllSettled, IsSettledPoint, MarksPlace}
use Rattle.node_serving.specs.Markers.{Saving, marker_of}
use Rattle.node_serving.specs.ServingStage.{ServingStands}
use Rattle.node_serving.specs.Slots.{SlotStands}

-- the fetched bytes fit their type
abbrev pub AllBytes : List Fetched → Type 0
AllBytes fetched = AllByRecursion (λ f. AreBytes f.bytes) fetched

-- the markings once these places have had their first turn
abbrev pub markings_then : {S : Type 0} → Marker S → List Place → (Key → Marking) → Key → Marking
markings_then by places marking key = marking_then by (place_at key places) (marking key)

-- a slot's first turn, with its mark
pub record SlotRevivesWith {S : Type 0} (by : Marker S) (node : Node) (e : Entry) (now : Slot S) (was marks : KeyMarks) (old new : List Wire) : Type 0 where
  pub after : Point
  pub packets : List Packet
  pub stands : SlotStands by.service node e.key now (Lives after)
  pub turn : Revives by.service node (Lives (point_of by.service node.profile e)) (Lives after ∷ []) packets
  pub changes : Changes e.key (with_new by.service by.writing by.every after (marking_in was e.key)) was marks
  pub settled : IsSettledPoint by (with_new by.service by.writing by.every after (marking_in was e.key)) after
  pub out : AreOut (grammar_of node.profile) (with_marks (length (filter is_done packets))
      (marks_out node.boot after (new_marks by.service by.writing by.every (marking_in was e.key) after)) packets) old new

-- these entries, the newest first, have had their first turn in the log's order, and no other key has a slot
pub record AreRestoredMarked {S : Type 0} (by : Marker S) (node : Node) (marking : Key
    → Marking) (fetched : List Fetched) (now : Serving S) (marks : KeyMarks) (old new : List Wire) : Type 0 where
  pub places : List Place
  pub sent : List Outgoing
  pub stands : ServingStands by.service node (restored_count fetched) places now
  pub go : AllGoMarked (GoesMarked (Revives by.service node) (marks_at by node.boot false marking)) (all_restored by.service node.profile fetched) places sent
  pub numbers : AreNumbered by.service node.isn fetched now.slots.entries
  pub others : (key : Key) → is_fetched key fetched ≡ false → lookup (key_eq key) now.slots.entries ≡ None
  pub keeps : Keeps by (markings_then by places marking) marks
  pub settled : AllSettled by (markings_then by places marking) places
  pub out : AreOut (grammar_of node.profile) sent old new

-- the same, with the slots and the marks as a pair
abbrev pub RestoredSoFar : {S : Type 0} → Marker S → Node → (Key → Marking) → List Fetched → Serving S × KeyMarks → (old new : List Wire) → Type 0
RestoredSoFar by node marking fetched now old new = AreRestoredMarked by node marking fetched now.0 now.1 old new

-- for a service, given by its ghost members, and an incarnation
module _ {S : Type 0} (s : Ghosts S) (v : Saving S) (who : Identity) where
  abbrev pub LogRevivesMarked : List (EntryState S) → (now : Serving S) → (marks later : KeyMarks) → (old new : Turn) → Type 0
  LogRevivesMarked entries now marks later old new =
      (every : ℕ) (standing : law_stage) (marking : Key → Marking) (fetched : List Fetched) → StandsWhole (service_of s who) (reverse fetched) entries
      → AreDistinct fetched
      → AreSound (service_of s who) fetched → AllBytes fetched → Keeps (marker_of s v who every) marking marks
      → AreRestoredMarked (marker_of s v who every) (node_of who standing) marking fetched now later old.sent.items new.sent.items

  abbrev pub EntryRevivesMarked : Restored S → (was now : Serving S) → (marks later : KeyMarks) → (old new : Turn) → Type 0
  EntryRevivesMarked entry was now marks later old new =
      (every : ℕ) (standing : law_stage) (marking : Key → Marking) (f : Fetched) (fetched : List Fetched) (first : List Wire)
      → RestoredIs (service_of s who) f entry
      → (f.head.done ≡ false → IsSoundEntry (service_of s who) (entry_in f)) → AreBytes f.bytes → is_fetched f.head.key fetched ≡ false
      → AreRestoredMarked (marker_of s v who every) (node_of who standing) marking fetched was marks first old.sent.items
      → AreRestoredMarked (marker_of s v who every) (node_of who standing) marking (f ∷ fetched) now later first new.sent.items

  abbrev pub SlotRevivesMarked : ReplayedState S → (now : Slot S) → (marks later : KeyMarks) → (old new : Turn) → Type 0
  SlotRevivesMarked replayed now marks later old new =
      (every : ℕ) (standing : law_stage) (e : Entry) → IsReplayed (service_of s who) e replayed → IsSoundEntry (service_of s who) e → AreBytes e.bytes
      → marks.every ≡ (marker_of s v who every).every
      → SlotRevivesWith (marker_of s v who every) (node_of who standing) e now marks later old.sent.items new.sent.items

  abbrev pub SlotMarked : Key → (from : ℕ) → Slot S → (marks later : KeyMarks) → (old new : Turn) → Type 0
  SlotMarked key from now marks later old new =
      (every : ℕ) (standing : law_stage) (place : Place) → marks.every ≡ (marker_of s v who every).every
      → SlotStands (service_of s who) (node_of who standing) key now place
      → MarksPlace (marker_of s v who every) (grammar_in who) who.boot key from (Some place) marks later old.sent.items new.sent.items
