-- What calls received and handed on, part by part, and the log after it.
use Rattle.std.proofs.Common.{◌≡◌, ◌∙◌, Bool, refl, sym, ap, ap₂, Option, None, Some, List, [], ◌∷◌, ◌++◌, map, append_assoc, append-nil}
use Rattle.std.proofs.lemmas.List.{map-append}
use Rattle.std.specs.Option.{option_to_list}
use Rattle.ft_io.specs.declared.Addr.{Addr}
use Rattle.ft_io.specs.declared.link_call.LinkCall.{LinkCall}
use Rattle.forget_store.specs.AnyMessage.{AnyMessage, heeded_in, log_after_any, answer_to_any, log_after_each}
use Rattle.forget_store.specs.declared.heeding.Heeded.{Heeded}
use Rattle.seq_arith.specs.declared.kinds.Grammar.{Grammar}
use Rattle.ft_model.specs.Log.{Log}
use Rattle.long_laws.specs.Forgetting.{ForgetAnswer}
use Rattle.disk.specs.CallRecord.{on_link, on_disk, disk_calls}
use Rattle.disk.specs.declared.calls.DiskCall.{DiskCall}
use Rattle.disk.specs.declared.calls.DeskCall.{DeskCall}
use Rattle.disk.specs.declared.calls.DeskCall.TheVariants.{OnLink, OnDisk}
use Rattle.link_parts.specs.LoggerTurns.{log_with, log_then, answer_for, handing, answering}
use Rattle.link_parts.specs.Receipt.{Received, datagram, silence, failure, received_as}
use Rattle.journal_parts.specs.Rounds.{Round, received_in, log_behind, receives, answers_in}
use Rattle.journal_laws.specs.Moments.{message_on, messages_in, bytes_on, handed_in, answers_to, spelled_by}

pub messages-append : (heeded : Heeded) (xs ys : List DeskCall) → messages_in heeded (xs ++ ys) ≡ messages_in heeded xs ++ messages_in heeded ys
messages-append heeded [] ys = refl
messages-append heeded (OnLink x ∷ xs) ys = ap (λ l. message_on heeded x ++ l) (messages-append heeded xs ys) ∙ sym (append_assoc (message_on heeded x) (messages_in heeded xs) (messages_in heeded ys))
messages-append heeded (OnDisk x ∷ xs) ys = messages-append heeded xs ys

pub handed-append : (xs ys : List DeskCall) → handed_in (xs ++ ys) ≡ handed_in xs ++ handed_in ys
handed-append [] ys = refl
handed-append (OnLink x ∷ xs) ys = ap (λ l. bytes_on x ++ l) (handed-append xs ys) ∙ sym (append_assoc (bytes_on x) (handed_in xs) (handed_in ys))
handed-append (OnDisk x ∷ xs) ys = handed-append xs ys

pub disk_calls-append : (xs ys : List DeskCall) → disk_calls (xs ++ ys) ≡ disk_calls xs ++ disk_calls ys
disk_calls-append [] ys = refl
disk_calls-append (OnLink x ∷ xs) ys = disk_calls-append xs ys
disk_calls-append (OnDisk x ∷ xs) ys = ap (λ l. x ∷ l) (disk_calls-append xs ys)

pub messages_of_disk : (heeded : Heeded) (xs : List DiskCall) → messages_in heeded (on_disk xs) ≡ []
messages_of_disk heeded [] = refl
messages_of_disk heeded (x ∷ xs) = messages_of_disk heeded xs

pub handed_of_disk : (xs : List DiskCall) → handed_in (on_disk xs) ≡ []
handed_of_disk [] = refl
handed_of_disk (x ∷ xs) = handed_of_disk xs

pub disk_calls_of_link : (xs : List LinkCall) → disk_calls (on_link xs) ≡ []
disk_calls_of_link [] = refl
disk_calls_of_link (x ∷ xs) = disk_calls_of_link xs

pub log-append : (log : Log) (xs ys : List AnyMessage) → log_after_each log (xs ++ ys) ≡ log_after_each (log_after_each log xs) ys
log-append log [] ys = refl
log-append log (x ∷ xs) ys = log-append (log_after_any log x) xs ys

pub answers-append : (log : Log) (xs ys : List AnyMessage) → answers_to log (xs ++ ys) ≡ answers_to log xs ++ answers_to (log_after_each log xs) ys
answers-append log [] ys = refl
answers-append log (x ∷ xs) ys =
    ap (λ l. option_to_list (answer_to_any log x) ++ l) (answers-append (log_after_any log x) xs ys)
    ∙ sym (append_assoc (option_to_list (answer_to_any log x)) (answers_to (log_after_any log x) xs) (answers_to (log_after_each (log_after_any log x) xs) ys))

-- what a round received
abbrev pub said_by : Heeded → List Received → List AnyMessage
said_by heeded received = messages_in heeded (on_link (receives received))

abbrev pub said_last : Heeded → Received → List AnyMessage
said_last heeded r = message_on heeded (received_as r) ++ []

pub said_more : (heeded : Heeded) (last : Received) (earlier : List Received) → said_by heeded (last ∷ earlier) ≡ said_by heeded earlier ++ said_last heeded last
said_more heeded last earlier = ap (messages_in heeded) (map-append OnLink (receives earlier) (received_as last ∷ [])) ∙ messages-append heeded (on_link (receives earlier)) (OnLink (received_as last) ∷ [])

log_one : (log : Log) (said : Option AnyMessage) → log_with log said ≡ log_after_each log (option_to_list said ++ [])
log_one log (Some any) = refl
log_one log None = refl

log_last : (heeded : Heeded) (log : Log) (r : Received) → log_then heeded log r ≡ log_after_each log (said_last heeded r)
log_last heeded log (datagram from bytes) = log_one log (heeded_in heeded bytes)
log_last heeded log silence = refl
log_last heeded log failure = refl

pub log_said : (heeded : Heeded) (log : Log) (received : List Received) → log_behind heeded log received ≡ log_after_each log (said_by heeded received)
log_said heeded log [] = refl
log_said heeded log (last ∷ earlier) =
    ap (λ l. log_then heeded l last) (log_said heeded log earlier) ∙ (log_last heeded (log_after_each log (said_by heeded earlier)) last
    ∙ (sym (log-append log (said_by heeded earlier) (said_last heeded last)) ∙ ap (log_after_each log) (sym (said_more heeded last earlier))))

-- what it handed on
handed_one : (grammar : Grammar) (to : Addr) (is_lost : Bool) (answer : Option ForgetAnswer) → handed_in (on_link (handing grammar to is_lost answer)) ≡ map (spelled_by grammar) (option_to_list answer)
handed_one grammar to is_lost None = refl
handed_one grammar to is_lost (Some answer) = refl

handed_said : (heeded : Heeded) (log : Log) (from : Addr) (is_lost : Bool) (said : Option AnyMessage)
    → handed_in (on_link (handing heeded.grammar from is_lost (answer_for log said))) ≡ map (spelled_by heeded.grammar) (answers_to log (option_to_list said ++ []))
handed_said heeded log from is_lost (Some any) = handed_one heeded.grammar from is_lost (answer_to_any log any) ∙ ap (map (spelled_by heeded.grammar)) (sym (append-nil (option_to_list (answer_to_any log any))))
handed_said heeded log from is_lost None = refl

pub handed_last : (heeded : Heeded) (log : Log) (is_lost : Bool) (r : Received) → handed_in (on_link (answering heeded log is_lost r)) ≡ map (spelled_by heeded.grammar) (answers_to log (said_last heeded r))
handed_last heeded log is_lost (datagram from bytes) = handed_said heeded log from is_lost (heeded_in heeded bytes)
handed_last heeded log is_lost silence = refl
handed_last heeded log is_lost failure = refl

pub handed_more : (heeded : Heeded) (log : Log) (is_lost : Bool) (last : Received) (earlier : Round) (calls : List DeskCall)
    → handed_in (on_link (answers_in heeded log earlier)) ≡ map (spelled_by heeded.grammar) (answers_to log (said_by heeded (received_in earlier)))
    → handed_in calls ≡ map (spelled_by heeded.grammar) (answers_to (log_behind heeded log (received_in earlier)) (said_last heeded last))
    → handed_in (on_link (answers_in heeded log earlier) ++ calls) ≡ map (spelled_by heeded.grammar) (answers_to log (said_by heeded (received_in earlier) ++ said_last heeded last))
handed_more heeded log is_lost last earlier calls before now =
    let all = said_by heeded (received_in earlier) in
    handed-append (on_link (answers_in heeded log earlier)) calls ∙ (ap₂ (λ a b. a ++ b) before (now ∙ ap (λ l. map (spelled_by heeded.grammar) (answers_to l (said_last heeded last))) (log_said heeded log (received_in earlier)))
    ∙ (sym (map-append (spelled_by heeded.grammar) (answers_to log all) (answers_to (log_after_each log all) (said_last heeded last))) ∙ ap (map (spelled_by heeded.grammar)) (sym (answers-append log all (said_last heeded last)))))

pub handed_all : (heeded : Heeded) (log : Log) (round : Round) → handed_in (on_link (answers_in heeded log round)) ≡ map (spelled_by heeded.grammar) (answers_to log (said_by heeded (received_in round)))
handed_all heeded log [] = refl
handed_all heeded log (last ∷ earlier) =
    let this = answering heeded (log_behind heeded log (received_in earlier)) last.is_lost last.received in
    ap handed_in (map-append OnLink (answers_in heeded log earlier) this)
    ∙ (handed_more heeded log last.is_lost last.received earlier (on_link this) (handed_all heeded log earlier) (handed_last heeded (log_behind heeded log (received_in earlier)) last.is_lost last.received)
    ∙ ap (λ l. map (spelled_by heeded.grammar) (answers_to log l)) (sym (said_more heeded last.received (received_in earlier))))
