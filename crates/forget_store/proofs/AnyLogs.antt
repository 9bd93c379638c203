-- A message about forgetting that recycles no entry changes nothing, and a log stays in order when it forgets.
use Rattle.std.proofs.Common.{◌≡◌, ◌∙◌, Bool, true, false, ◌==◌, ◌&&◌, ◌||◌, ◌≤◌, refl, sym, ap, subst, arith, if◌then◌else◌, true≢false, Option, Some, None, List, [], ◌∷◌, length, map}
use Rattle.std.proofs.lemmas.Bool.{or_parts}
use Rattle.std.specs.List.{list_any}
use Rattle.std.specs.Prelude.{find}
use Rattle.std.specs.Option.{option_map_or}
use Rattle.ft_io.specs.Key.{key_eq}
use Rattle.ft_io.proofs.Choices.{if_true, if_false, holds_if}
use Rattle.seq_arith.specs.Message.{Message}
use Rattle.ft_model.specs.Keys.{has_key, AreDistinct}
use Rattle.ft_model.specs.Log.{Log, Entry, entry_of, empty_log, log_after}
use Rattle.long_laws.specs.LongTrace.{others}
use Rattle.long_laws.specs.Snapshot.{IsOrdered, CanReplay}
use Rattle.long_laws.specs.Forgetting.{Named, ForgetBody, ForgetMessage, is_entry_of, is_recycled, forgotten_in, with_forget, after_forget}
use Rattle.long_laws.specs.Forgetting.ForgetBody.{ForgetMsg, ForgottenMsg}
use Rattle.long_laws.proofs.Forgets.{no_key}
use Rattle.long_laws.proofs.Ordered.{all_ordered}
use Rattle.long_laws.proofs.Others.{all_others, distinct_others}
use Rattle.trace_laws.specs.NeededMessages.{log_after_all}
use Rattle.forget_store.specs.AnyMessage.{AnyMessage, recycles, log_after_any, log_after_each}
use Rattle.forget_store.specs.AnyMessage.AnyMessage.{Usual, Forgetting}
use Rattle.forget_store.proofs.Forgets.{has_its_numbers, shorter}

-- none of these passes, so all stay
others_all : (q : Entry → Bool) (es : List Entry) → list_any q es ≡ false → others q es ≡ es
others_all q [] none = refl
others_all q (x ∷ es) none =
    let parts = or_parts (q x) (list_any q es) none in
    if_false (q x) (others q es) (x ∷ others q es) parts.0 ∙ ap (λ (l : List Entry). x ∷ l) (others_all q es parts.1)

same_entries : (log : Log) (es : List Entry) → es ≡ log.entries → record log { entries = es } ≡ log
same_entries log es same = ap (λ (l : List Entry). let now : Log = record { boot = log.boot; entries = l } in now) same

body_unchanged : (body : ForgetBody) (log : Log) → recycles body log ≡ false → with_forget body log ≡ log
body_unchanged (ForgetMsg n) log none = same_entries log (others (is_recycled n) log.entries) (others_all (is_recycled n) log.entries none)
body_unchanged (ForgottenMsg n) log none = refl

pub unchanged : (log : Log) (message : ForgetMessage) → (message.boot == log.boot && recycles message.body log) ≡ false → after_forget log message ≡ log
unfolding after_forget
unchanged log message none = go (message.boot == log.boot) refl
  where
    right : (a b : Bool) → a ≡ true → (a && b) ≡ false → b ≡ false
    right true b t n = n
    right false b t n = absurd (true≢false (sym t))

    go : (own : Bool) → (message.boot == log.boot) ≡ own → (if message.boot == log.boot then with_forget message.body log else log) ≡ log
    go true is = if_true (message.boot == log.boot) (with_forget message.body log) log is ∙ body_unchanged message.body log (right (message.boot == log.boot) (recycles message.body log) is none)
    go false is = if_false (message.boot == log.boot) (with_forget message.body log) log is

-- the log has a connection's entry, and it is done, if the entry of its key is
none_done : (n : Named) (es : List Entry) → has_key n.key (map (λ e. e.key) es) ≡ false → list_any (is_recycled n) es ≡ false
none_done n [] none = refl
none_done n (x ∷ es) none =
    let parts = or_parts (key_eq x.key n.key) (has_key n.key (map (λ e. e.key) es)) none in
    rw (parts.0, none_done n es parts.1) refl

pub has_it_done : (n : Named) (es : List Entry) → AreDistinct (map (λ e. e.key) es)
    → list_any (is_recycled n) es ≡ option_map_or (λ e. has_its_numbers n e && e.done) (find (λ e. key_eq e.key n.key) es) false
has_it_done n [] d = refl
has_it_done n (x ∷ es) d = go (key_eq x.key n.key) refl (has_it_done n es d.1)
  where
    or_none : (b : Bool) → (b || false) ≡ b
    or_none true = refl
    or_none false = refl

    go : (b : Bool) → key_eq x.key n.key ≡ b
        → list_any (is_recycled n) es ≡ option_map_or (λ e. has_its_numbers n e && e.done) (find (λ e. key_eq e.key n.key) es) false
        → list_any (is_recycled n) (x ∷ es) ≡ option_map_or (λ e. has_its_numbers n e && e.done) (find (λ e. key_eq e.key n.key) (x ∷ es)) false
    go true its rest = rw (its, none_done n es (no_key n x es d its)) (or_none (has_its_numbers n x && x.done))
    go false its rest = rw its rest

-- a log that is in order stays so
forgotten_ordered : (n : Named) (log : Log) → IsOrdered log → IsOrdered (forgotten_in n log)
forgotten_ordered n log o = record {
  distinct = distinct_others (λ e. e.key) (is_recycled n) log.entries o.distinct;
  few = omega (arith, o.few, shorter (is_recycled n) log.entries);
  reads = all_others CanReplay CanReplay (is_recycled n) log.entries (λ e passes can. can) o.reads;
}

body_ordered : (body : ForgetBody) (log : Log) → IsOrdered log → IsOrdered (with_forget body log)
body_ordered (ForgetMsg n) log o = forgotten_ordered n log o
body_ordered (ForgottenMsg n) log o = o

forget_ordered : (log : Log) (message : ForgetMessage) → IsOrdered log → IsOrdered (after_forget log message)
unfolding after_forget
forget_ordered log message o = holds_if IsOrdered (message.boot == log.boot) (with_forget message.body log) log (λ t. body_ordered message.body log o) (λ t. o)

any_ordered : (log : Log) (any : AnyMessage) → IsOrdered log → IsOrdered (log_after_any log any)
any_ordered log (Usual message) o = all_ordered log (message ∷ []) o
any_ordered log (Forgetting message) o = forget_ordered log message o

pub each_ordered : (log : Log) (any : List AnyMessage) → IsOrdered log → IsOrdered (log_after_each log any)
each_ordered log [] o = o
each_ordered log (next ∷ any) o = each_ordered (log_after_any log next) any (any_ordered log next o)

pub any_logs_are_ordered : (any : List AnyMessage) → IsOrdered (log_after_each empty_log any)
any_logs_are_ordered any = each_ordered empty_log any (record { distinct = tt; few = omega arith; reads = tt })

-- messages of the log alone make what they make
pub each_usual : (log : Log) (messages : List Message) → log_after_each log (map Usual messages) ≡ log_after_all log messages
each_usual log [] = refl
each_usual log (message ∷ messages) = each_usual (log_after log message) messages
