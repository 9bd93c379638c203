-- A moment in the run of a logger that keeps its log in a journal: the calls that it has made so far, and what the next logger finds if it dies then.
use Rattle.std.specs.Prelude.{◌≡◌, ◌⊎◌, ℕ, Some, List, [], ◌∷◌, ◌++◌, map}
use Rattle.std.specs.Option.{option_to_list}
use Rattle.ft_io.specs.declared.link_call.LinkCall.{LinkCall}
use Rattle.ft_io.specs.declared.link_call.LinkCall.TheVariants.{Bound, Came, Silent, Missed, Handed}
use Rattle.seq_arith.specs.declared.kinds.Grammar.{Grammar}
use Rattle.ft_model.specs.Log.{Log}
use Rattle.long_laws.specs.Forgetting.{ForgetAnswer}
use Rattle.forget_store.specs.declared.heeding.Heeded.{Heeded}
use Rattle.forget_store.specs.AnyMessage.{AnyMessage, heeded_in, log_after_any, answer_to_any, log_after_each}
use Rattle.forget_store.specs.AnyMessage.AnyMessage.{Usual, Forgetting}
use Rattle.forget_store.specs.Replies.{reply_bytes}
use Rattle.ft_model.specs.Network.{Packet, packet_at}
use Rattle.ft_model.specs.Network.Packet.{To_logger}
use Rattle.disk.specs.Remains.{failed}
use Rattle.disk.specs.declared.calls.DiskCall.{DiskCall}
use Rattle.disk.specs.declared.calls.DeskCall.{DeskCall}
use Rattle.disk.specs.declared.calls.DeskCall.TheVariants.{OnLink, OnDisk}
use Rattle.kept_log.specs.Format.{HasBlocks}
use Rattle.kept_log.specs.JournaledLog.{HasLog}
use Rattle.kept_log.specs.Startup.{IsWhole}
use Rattle.kept_log.specs.declared.tip.Tip.{Tip}

-- a prefix of calls. The last one, if it is on the file, may have failed or not be finished
abbrev pub failed_call : DeskCall → DeskCall
failed_call (OnLink call) = OnLink call
failed_call (OnDisk call) = OnDisk (failed call)

abbrev pub IsFront : List DeskCall → List DeskCall → Type 0
IsFront calls [] = Unit {0}
IsFront [] (call ∷ done) = ⊥
IsFront (next ∷ calls) (call ∷ done) = ((call ≡ next) × IsFront calls done) ⊎ ((call ≡ failed_call next) × (done ≡ []))

-- the messages that were received by calls, and are heeded
abbrev pub message_on : Heeded → LinkCall → List AnyMessage
message_on heeded (Came from bytes) = option_to_list (heeded_in heeded bytes)
message_on heeded (Bound at) = []
message_on heeded Silent = []
message_on heeded Missed = []
message_on heeded (Handed to bytes is_lost) = []

abbrev pub messages_in : Heeded → List DeskCall → List AnyMessage
messages_in heeded [] = []
messages_in heeded (OnLink call ∷ calls) = message_on heeded call ++ messages_in heeded calls
messages_in heeded (OnDisk call ∷ calls) = messages_in heeded calls

-- the bytes that calls handed to send
abbrev pub bytes_on : LinkCall → List (List ℕ)
bytes_on (Handed to bytes is_lost) = bytes ∷ []
bytes_on (Came from bytes) = []
bytes_on (Bound at) = []
bytes_on Silent = []
bytes_on Missed = []

abbrev pub handed_in : List DeskCall → List (List ℕ)
handed_in [] = []
handed_in (OnLink call ∷ calls) = bytes_on call ++ handed_in calls
handed_in (OnDisk call ∷ calls) = handed_in calls

-- the answers of a log to messages, each at its message's place, and their spellings
abbrev pub answers_to : Log → List AnyMessage → List ForgetAnswer
answers_to log [] = []
answers_to log (any ∷ messages) = option_to_list (answer_to_any log any) ++ answers_to (log_after_any log any) messages

abbrev pub spelled_by : Grammar → ForgetAnswer → List ℕ
spelled_by grammar answer = reply_bytes grammar (Some answer)

-- The log after a process that made these calls has died. The messages that it received are three lists, one after the other. To those in `answered` it sent
-- exactly the answers of the log, each at its message's place. Those in `kept` are in the file, but it sent no answer to them. The log has both. It doesn't
-- have those in `lost`: they count as never delivered
pub record ComesBack (heeded : Heeded) (before after : Log) (calls : List DeskCall) : Type 0 where
  pub answered : List AnyMessage
  pub kept : List AnyMessage
  pub lost : List AnyMessage
  pub received : messages_in heeded calls ≡ answered ++ (kept ++ lost)
  pub handed : handed_in calls ≡ map (spelled_by heeded.grammar) (answers_to before answered)
  pub after_is : after ≡ log_after_each before (answered ++ kept)

-- what is left of its file is read as such a log, and as no other
pub record Outlives (heeded : Heeded) (before : Log) (calls : List DeskCall) (left : List ℕ) : Type 0 where
  pub made : List ℕ
  pub bodies : List (List ℕ)
  pub tip : Tip
  pub log : Log
  pub stands : HasBlocks made bodies left
  pub has_log : HasLog made bodies tip log
  pub comes_back : ComesBack heeded before log calls
  pub only : (time : List ℕ) (others : List (List ℕ)) (opening : List DiskCall) (at : Tip) (next : Log) → IsWhole left time others opening
      → HasLog time others at next → next ≡ log

-- these messages are packets of a world, under these numbers. None is about forgetting
abbrev pub AreUnderWay : List Packet → List ℕ → List AnyMessage → Type 0
AreUnderWay packets [] [] = Unit {0}
AreUnderWay packets (number ∷ numbers) (Usual message ∷ messages) = (packet_at packets number ≡ Some (To_logger message)) × AreUnderWay packets numbers messages
AreUnderWay packets (number ∷ numbers) (Forgetting message ∷ messages) = ⊥
AreUnderWay packets [] (any ∷ messages) = ⊥
AreUnderWay packets (number ∷ numbers) [] = ⊥
