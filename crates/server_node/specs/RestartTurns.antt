-- A whole turn of a restart, layer by layer, as in `Turns`. By the law: if the fetched entries are sound. Alone: each entry by itself, whatever the others
-- are.
use Rattle.std.specs.Prelude.{◌≡◌, ◌∷◌, [], ℕ, List, Some, false, reverse, IfSome}
use Rattle.seq_arith.specs.Message.{Message}
use Rattle.seq_arith.specs.Packet.{Segment}
use Rattle.server_trait.specs.Service.{machine}
use Rattle.server_trait.specs.declared.Service.{Ghosts}
use Rattle.tcp_rules.specs.Profiles.{profile_of}
use Rattle.ft_model.specs.Lawful.{AreSound, Fetches, StageTurn, asked, fetched_then, held}
use Rattle.ft_model.specs.Log.{Entry}
use Rattle.ft_model.specs.Node.{Stage as law_stage}
use Rattle.ft_model.specs.Node.Input.{Message_comes}
use Rattle.ft_model.specs.Node.Place.{Lives}
use Rattle.ft_model.specs.Node.Stage.{Fetching}
use Rattle.ft_model.specs.Restart.{Fetched, IsSoundEntry, entry_in, is_fetched, point_of, wanted}
use Rattle.ft_model.specs.Wire.{Wire}
use Rattle.reincarnate.specs.Questions.{FetchingState}
use Rattle.reincarnate.specs.Progress.{EntryState, ReplayedState}
use Rattle.reincarnate.specs.Refinement.{IsReplayed, RestoredIs, StandsWhole}
use Rattle.reincarnate.specs.declared.entries.Restored.{Restored}
use Rattle.node_serving.specs.declared.identity.Identity.{Identity}
use Rattle.node_serving.specs.declared.serving.Serving.{Serving}
use Rattle.node_serving.specs.declared.slot.Slot.{Slot}
use Rattle.server_node.specs.declared.stage.Stage.{Stage}
use Rattle.server_node.specs.declared.stage.Stage.TheVariants as stage
use Rattle.node_serving.specs.declared.turn.Turn.{Turn}
use Rattle.node_serving.specs.Identity.{node_of, service_of, grammar_in}
use Rattle.node_serving.specs.Loan.{conn_in}
use Rattle.server_node.specs.RestartNumbers.{IsNumbered, fetched_by}
use Rattle.server_node.specs.FetchStage.{AreDistinct, FetchingStands}
use Rattle.server_node.specs.Restarts.{RestartGoes, RestoredAlone, AnswerGoes, MessageRestarts}
use Rattle.server_node.specs.RestartEnd.{SlotRevives, AreRestored, StageGoes}
use Rattle.node_serving.specs.Turns.{Sends}

-- for a service, given by its ghost members, and an incarnation
module _ {S : Type 0} (s : Ghosts S) (who : Identity) where
  -- the log has `count` entries: what is missing of them is asked for
  abbrev pub FetchingBegins : (count : ℕ) → (now : Stage S) → (old new : Turn) → Type 0
  FetchingBegins count now old new =
      (standing : law_stage)
      → StageGoes (service_of s who) who [] (Fetches (service_of s who) (node_of who standing) count []) now old.sent.items new.sent.items

  abbrev pub FetchingBeginsAlone : (count : ℕ) → (now : Stage S) → (old new : Turn) → Type 0
  FetchingBeginsAlone count now old new =
      (standing : law_stage) → RestartGoes (service_of s who) (node_of who standing) count [] now old.sent.items new.sent.items

  -- what is missing is asked for. Once nothing is, the log is restored
  abbrev pub FetchingTurns : (was : FetchingState S) → (now : Stage S) → (old new : Turn) → Type 0
  FetchingTurns was now old new =
      (standing : law_stage) (count : ℕ) (fetched : List Fetched) → FetchingStands (service_of s who) count fetched was
      → AreSound (service_of s who) fetched
      → StageGoes (service_of s who) who fetched (Fetches (service_of s who) (node_of who standing) count fetched) now
      old.sent.items new.sent.items

  abbrev pub FetchingTurnsAlone : (was : FetchingState S) → (now : Stage S) → (old new : Turn) → Type 0
  FetchingTurnsAlone was now old new =
      (standing : law_stage) (count : ℕ) (fetched : List Fetched) → FetchingStands (service_of s who) count fetched was
      → RestartGoes (service_of s who) (node_of who standing) count fetched now old.sent.items new.sent.items

  -- a message while the log is fetched, from the entries that have come
  abbrev pub AnswerTurns : Message → (was : FetchingState S) → (now : Stage S) → (old new : Turn) → Type 0
  AnswerTurns message was now old new =
      (standing : law_stage) (count : ℕ) (fetched : List Fetched) → FetchingStands (service_of s who) count fetched was
      → IfSome (fetched_then (node_of who standing) message count fetched) (AreSound (service_of s who))
      → StageGoes (service_of s who) who (fetched_by (node_of who standing) (Fetching count fetched) (Message_comes message))
      (StageTurn (service_of s who) (node_of who standing) (Fetching count fetched) (Message_comes message)) now old.sent.items new.sent.items

  abbrev pub AnswerTurnsAlone : Message → (was : FetchingState S) → (now : Stage S) → (old new : Turn) → Type 0
  AnswerTurnsAlone message was now old new =
      (standing : law_stage) (count : ℕ) (fetched : List Fetched) → FetchingStands (service_of s who) count fetched was
      → AnswerGoes (service_of s who) (node_of who standing) message count fetched was now old.sent.items new.sent.items

  -- a message while the logger is asked how many entries it has
  abbrev pub SummaryRestarts : Message → (now : Stage S) → (sent : List Wire) → Type 0
  SummaryRestarts message now sent =
      (standing : law_stage) → MessageRestarts (service_of s who) (node_of who standing) message stage.Asking now sent

  -- the question for what is missing is sent, if anything is
  abbrev pub SendsWanted : (was : FetchingState S) → (old new : Turn) → Type 0
  SendsWanted was old new =
      (standing : law_stage) (count : ℕ) (fetched : List Fetched) → FetchingStands (service_of s who) count fetched was
      → Sends (grammar_in who) (asked (node_of who standing) (wanted count fetched)) old new

  -- the answer to a segment while the log is fetched is sent, if there is one
  abbrev pub SendsHeld : Segment → (was : FetchingState S) → (old new : Turn) → Type 0
  SendsHeld segment was old new =
      (standing : law_stage) (count : ℕ) (fetched : List Fetched) → FetchingStands (service_of s who) count fetched was
      → Sends (grammar_in who) (held (node_of who standing) fetched segment) old new

  -- the whole log is restored
  abbrev pub LogRevives : List (EntryState S) → (now : Serving S) → (old new : Turn) → Type 0
  LogRevives entries now old new =
      (standing : law_stage) (fetched : List Fetched) → StandsWhole (service_of s who) (reverse fetched) entries → AreDistinct fetched
      → AreSound (service_of s who) fetched
      → AreRestored (service_of s who) (node_of who standing) fetched now old.sent.items new.sent.items

  abbrev pub LogRevivesAlone : List (EntryState S) → (now : Serving S) → (old new : Turn) → Type 0
  LogRevivesAlone entries now old new =
      (standing : law_stage) (fetched : List Fetched) → StandsWhole (service_of s who) (reverse fetched) entries → AreDistinct fetched
      → RestoredAlone (service_of s who) (node_of who standing) fetched now old.sent.items new.sent.items

  -- one more entry is restored, after others
  abbrev pub EntryRevives : Restored S → (was now : Serving S) → (old new : Turn) → Type 0
  EntryRevives entry was now old new =
      (standing : law_stage) (f : Fetched) (fetched : List Fetched) (first : List Wire) → RestoredIs (service_of s who) f entry
      → (f.head.done ≡ false → IsSoundEntry (service_of s who) (entry_in f)) → is_fetched f.head.key fetched ≡ false
      → AreRestored (service_of s who) (node_of who standing) fetched was first old.sent.items
      → AreRestored (service_of s who) (node_of who standing) (f ∷ fetched) now first new.sent.items

  abbrev pub EntryRevivesAlone : Restored S → (was now : Serving S) → (old new : Turn) → Type 0
  EntryRevivesAlone entry was now old new =
      (standing : law_stage) (f : Fetched) (fetched : List Fetched) (first : List Wire) → RestoredIs (service_of s who) f entry
      → is_fetched f.head.key fetched ≡ false
      → RestoredAlone (service_of s who) (node_of who standing) fetched was first old.sent.items
      → RestoredAlone (service_of s who) (node_of who standing) (f ∷ fetched) now first new.sent.items

  -- a sound entry's connection becomes live, ..
  abbrev pub SlotRevivesFrom : ReplayedState S → (now : Slot S) → (old new : Turn) → Type 0
  SlotRevivesFrom replayed now old new =
      (standing : law_stage) (e : Entry) → IsReplayed (service_of s who) e replayed → IsSoundEntry (service_of s who) e
      → SlotRevives (service_of s who) (node_of who standing) e.key (Lives (point_of (service_of s who) (profile_of who.profile) e)) now
      old.sent.items new.sent.items

  -- .. and its inner TCP has this initial sequence number
  abbrev pub IsNumberedFrom : ReplayedState S → (number : ℕ) → (now : Slot S) → Type 0
  IsNumberedFrom replayed number now =
      (fresh : S) (e : Entry) → IsReplayed (machine fresh s.after s.greeting) e replayed → IsSoundEntry (machine fresh s.after s.greeting) e
      → IsNumbered (machine fresh s.after s.greeting) e number (conn_in (Some now))
