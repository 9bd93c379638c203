-- What the log answers: Stale to an older boot, and else what the log after the message tells, in the log's boot.
use Rattle.std.proofs.Common.{◌≡◌, ℕ, ◌<◌, ◌≤◌, Bool, true, false, ◌==◌, ◌||◌, nat_lt, nat_le, refl, sym, ◌∙◌, subst, eqb-true, ltb-true, ⊎_elim, inl, inr, ◌⊎◌, Option, Some, None, option_map, option_to_list, [], ◌∷◌, ◌++◌, length, arith, if◌then◌else◌}
use Rattle.std.specs.List.{AllByRecursion, list_any}
use Rattle.std.proofs.lemmas.Bool.{or_parts, or_from}
use Rattle.seq_arith.specs.Message.{Numbers, Body, Message, is_answer}
use Rattle.seq_arith.specs.Message.Body.{OpenMsg, DataMsg, ReadMsg, DoneMsg, StaleMsg}
use Rattle.ft_model.specs.Log.{Log, log_after, answer_to, answer_body, answer_from, with_message, with_body, opened, new_entry, is_hello}
use Rattle.ft_model.specs.Network.{Packet}
use Rattle.ft_model.specs.Network.Packet.{From_logger}
use Rattle.ft_model.proofs.Lists.{none_is_some, some_is}
use Rattle.ft_model.proofs.Happened.{answers}
use Rattle.ft_io.proofs.Choices.{holds_if}

opened_boot : (n : Numbers) (log : Log) → (opened n log).boot ≡ log.boot
opened_boot n log =
    holds_if (λ l. l.boot ≡ log.boot) (list_any _ log.entries || nat_le 64 (length log.entries)) log (record log { entries = log.entries ++ new_entry n ∷ [] }) (λ t. refl) (λ t. refl)

pub kept_boot : (body : Body) (log : Log) → (with_body body log).boot ≡ log.boot
kept_boot (OpenMsg n) log = opened_boot n log
kept_boot (DataMsg part) log = refl
kept_boot (ReadMsg key index n) log = refl
kept_boot (DoneMsg key) log = refl
kept_boot _ log = refl

-- the log after a message: nothing was changed, or the boot is the message's
pub data LogWent (log : Log) (message : Message) (after : Log) : Type 0 where
  ignored : after ≡ log → LogWent log message after
  raised : is_hello message.body ≡ true → log.boot ≤ message.boot → after ≡ record log { boot = message.boot } → LogWent log message after
  changed : message.boot ≡ log.boot → after ≡ with_body message.body log → LogWent log message after

pub log_went : (log : Log) (message : Message) → LogWent log message (log_after log message)
unfolding log_after
log_went log message =
    holds_if (LogWent log message) (is_answer message.body || nat_lt message.boot log.boot) log (with_message message log) (λ t. ignored refl)
    (λ t. let parts = or_parts (is_answer message.body) (nat_lt message.boot log.boot) t in
    let larger : log.boot ≤ message.boot = grind (arith, parts) in
    holds_if (LogWent log message) (is_hello message.body) _ _ (λ h. raised h larger refl)
    (λ h. holds_if (LogWent log message) (message.boot == log.boot) (with_body message.body log) log (λ b. changed (eqb-true _ _ b) refl) (λ b. ignored refl)))

pub boot_after : (log : Log) (message : Message) (after : Log) (top : ℕ) → LogWent log message after → log.boot ≤ top → message.boot ≤ top → after.boot ≤ top
boot_after log message after top (ignored e) l m = subst (λ x. x.boot ≤ top) (sym e) l
boot_after log message after top (raised h b e) l m = subst (λ x. x.boot ≤ top) (sym e) m
boot_after log message after top (changed b e) l m = subst (λ x. x.boot ≤ top) (sym e) (subst (λ n. n ≤ top) (sym (kept_boot message.body log)) l)

-- an answer that isn't Stale has the log's boot, and tells what the log after the message has
abbrev pub IsAnswered : Log → Message → Body → Type 0
IsAnswered log message body =
    (body ≡ StaleMsg log.boot) ⊎ ((message.boot ≡ (log_after log message).boot) × (answer_from message.body (log_after log message) ≡ Some body))

-- .. and one that is, is of a newer boot
abbrev pub IsAnsweredSo : Log → Message → Body → Type 0
IsAnsweredSo log message body =
    ((body ≡ StaleMsg log.boot) × (message.boot < log.boot)) ⊎ ((message.boot ≡ (log_after log message).boot) × (answer_from message.body (log_after log message) ≡ Some body))

by_hello : (log : Log) (message : Message) (b : Bool) → (b || message.boot == log.boot) ≡ true
    → message.boot ≡ (if b then record log { boot = message.boot } else (if message.boot == log.boot then with_body message.body log else log)).boot
by_hello log message true own = refl
by_hello log message false own =
    let same : message.boot ≡ log.boot = eqb-true _ _ own in
    holds_if (λ l. message.boot ≡ l.boot) (message.boot == log.boot) (with_body message.body log) log (λ t. same ∙ sym (kept_boot message.body log)) (λ t. same)

own_boot : (log : Log) (message : Message) → (is_hello message.body || message.boot == log.boot) ≡ true → is_answer message.body ≡ false
    → nat_lt message.boot log.boot ≡ false → message.boot ≡ (log_after log message).boot
unfolding log_after
own_boot log message own quiet current =
    subst (λ b. message.boot ≡ (if b then log else with_message message log).boot) (sym (or_from (is_answer message.body) (nat_lt message.boot log.boot) quiet current))
    (by_hello log message (is_hello message.body) own)

by_answer : (log : Log) (message : Message) (body : Body) (a b c : Bool) → is_answer message.body ≡ a → nat_lt message.boot log.boot ≡ b
    → (is_hello message.body || message.boot == log.boot) ≡ c
    → (if a then None else (if b then Some (StaleMsg log.boot) else (if c then answer_from message.body (log_after log message) else None))) ≡ Some body
    → IsAnsweredSo log message body
by_answer log message body true b c p q r e = none_is_some body e
by_answer log message body false true c p q r e = inl (sym (some_is _ _ e), ltb-true message.boot log.boot q)
by_answer log message body false false true p q r e = inr (own_boot log message r p q, e)
by_answer log message body false false false p q r e = none_is_some body e

answered_so : (log : Log) (message : Message) (body : Body) → answer_body log (log_after log message) message ≡ Some body → IsAnsweredSo log message body
answered_so log message body e =
    by_answer log message body (is_answer message.body) (nat_lt message.boot log.boot) (is_hello message.body || message.boot == log.boot) refl refl refl e

by_body : (P : Packet → Type 0) (log : Log) (message : Message)
    → ((body : Body) → IsAnsweredSo log message body → P (From_logger (record { boot = message.boot; body = body })))
    → (o : Option Body) → answer_body log (log_after log message) message ≡ o
    → AllByRecursion P (option_to_list (option_map From_logger (option_map (λ body. record { boot = message.boot; body = body }) o)))
by_body P log message f (Some body) e = (f body (answered_so log message body e), tt)
by_body P log message f None e = tt

pub all_answers_so : (P : Packet → Type 0) (log : Log) (message : Message)
    → ((body : Body) → IsAnsweredSo log message body → P (From_logger (record { boot = message.boot; body = body }))) → AllByRecursion P (answers log message)
unfolding answer_to
all_answers_so P log message f = by_body P log message f (answer_body log (log_after log message) message) refl

pub all_answers : (P : Packet → Type 0) (log : Log) (message : Message)
    → ((body : Body) → IsAnswered log message body → P (From_logger (record { boot = message.boot; body = body }))) → AllByRecursion P (answers log message)
all_answers P log message f = all_answers_so P log message (λ body a. f body (⊎_elim (λ s. inl s.0) (λ o. inr o) a))
