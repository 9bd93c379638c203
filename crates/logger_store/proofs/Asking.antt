-- A question for what is trimmed changes no log.
use Rattle.std.proofs.Common.{◌≡◌, ℕ, Bool, true, false, refl, true≢false, nat_lt, ◌==◌, sym, if◌then◌else◌}
use Rattle.ft_io.specs.declared.Key.{Key}
use Rattle.seq_arith.specs.Message.{Message, Body}
use Rattle.seq_arith.specs.Message.Body.{HelloMsg, SummaryMsg, ListMsg, EntryMsg, BytesMsg, PartMsg, CutsMsg, LensMsg, OpenMsg, OpenedMsg, DataMsg, StableMsg, ReadMsg, ReadsMsg, DoneMsg, EndedMsg, StaleMsg, FullMsg}
use Rattle.ft_model.specs.Log.{Log, log_after}
use Rattle.logger_store.specs.Trim.{TrimmedLog, is_trimmed}

all_same : (c d : Bool) (log : Log) → (if c then log else (if d then log else log)) ≡ log
all_same true d log = refl
all_same false true log = refl
all_same false false log = refl

pub bytes_stay : (boot : ℕ) (key : Key) (offset : ℕ) (log : Log) → log_after log (record { boot = boot; body = BytesMsg key offset }) ≡ log
unfolding log_after
bytes_stay boot key offset log = all_same (nat_lt boot log.boot) (boot == log.boot) log

pub cuts_stay : (boot : ℕ) (key : Key) (first : ℕ) (log : Log) → log_after log (record { boot = boot; body = CutsMsg key first }) ≡ log
unfolding log_after
cuts_stay boot key first log = all_same (nat_lt boot log.boot) (boot == log.boot) log

of_body : (boot : ℕ) (body : Body) (t : TrimmedLog) → is_trimmed t body ≡ true → log_after t.log (record { boot = boot; body = body }) ≡ t.log
of_body boot (BytesMsg k o) t is = bytes_stay boot k o t.log
of_body boot (CutsMsg k f) t is = cuts_stay boot k f t.log
of_body boot HelloMsg t is = absurd (true≢false (sym is))
of_body boot (SummaryMsg c) t is = absurd (true≢false (sym is))
of_body boot (ListMsg i) t is = absurd (true≢false (sym is))
of_body boot (EntryMsg i h) t is = absurd (true≢false (sym is))
of_body boot (PartMsg k o b) t is = absurd (true≢false (sym is))
of_body boot (LensMsg k f l) t is = absurd (true≢false (sym is))
of_body boot (OpenMsg n) t is = absurd (true≢false (sym is))
of_body boot (OpenedMsg n) t is = absurd (true≢false (sym is))
of_body boot (DataMsg p) t is = absurd (true≢false (sym is))
of_body boot (StableMsg k) t is = absurd (true≢false (sym is))
of_body boot (ReadMsg k i n) t is = absurd (true≢false (sym is))
of_body boot (ReadsMsg k) t is = absurd (true≢false (sym is))
of_body boot (DoneMsg k) t is = absurd (true≢false (sym is))
of_body boot (EndedMsg k) t is = absurd (true≢false (sym is))
of_body boot (StaleMsg n) t is = absurd (true≢false (sym is))
of_body boot (FullMsg k) t is = absurd (true≢false (sym is))

pub question_stays : (t : TrimmedLog) (message : Message) → is_trimmed t message.body ≡ true → log_after t.log message ≡ t.log
question_stays t message is = of_body message.boot message.body t is
