-- Bytes say one list of messages, so a file that is read has one log.
use Rattle.std.proofs.Common.{◌≡◌, ◌∙◌, sym, ap, subst, List, ℕ}
use Rattle.ft_model.specs.Log.{Log, empty_log}
use Rattle.forget_store.specs.AnyMessage.{log_after_each}
use Rattle.disk.specs.declared.calls.DiskCall.{DiskCall}
use Rattle.kept_log.specs.Format.{HasBlocks}
use Rattle.kept_log.specs.MessageList.{AllSay}
use Rattle.kept_log.specs.JournaledLog.{HasLog}
use Rattle.kept_log.specs.Startup.{IsWhole}
use Rattle.kept_log.specs.declared.tip.Tip.{Tip}
use Rattle.kept_log.proofs.OneReading.{reads_once}
use Rattle.kept_log.proofs.Once.{all_say_once, whole_has}

one_log : (made time : List ℕ) (bodies others : List (List ℕ)) (tip at : Tip) (log next : Log) → others ≡ bodies → HasLog made bodies tip log → HasLog time others at next → next ≡ log
one_log made time bodies others tip at log next same h k =
    k.log_is ∙ (ap (log_after_each empty_log) (all_say_once bodies k.messages h.messages (subst (λ b. AllSay b k.messages) same k.kept.say) h.kept.say) ∙ sym h.log_is)

-- whoever opens a file that has blocks finds their log
pub finds_one : (left made time : List ℕ) (bodies others : List (List ℕ)) (opening : List DiskCall) (tip at : Tip) (log next : Log) → HasBlocks made bodies left → HasLog made bodies tip log
    → IsWhole left time others opening → HasLog time others at next → next ≡ log
finds_one left made time bodies others opening tip at log next stands h whole k =
    one_log made time bodies others tip at log next (reads_once left time made others bodies k.kept.small h.kept.small (whole_has left time others opening whole) stands).1 h k
