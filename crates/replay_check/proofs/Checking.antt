-- The ends of a check: what each says of the report, and that the report settles the status.
use Rattle.std.proofs.Common.{◌≡◌, ◌∙◌, inl, inr, ℕ, zero, suc, ◌<◌, ◌≤◌, true, Option, None, Some, IfSome, List, [], ◌∷◌, length, refl, ap, ap₂, subst, arith}
use Rattle.std.specs.Io.KnownBytes.{Appends, IsAtEnd}
use Rattle.ft_io.specs.declared.reading.ReadEnd.{ReadEnd}
use Rattle.ft_io.specs.declared.reading.ReadEnd.TheVariants as reads
use Rattle.ft_model.specs.Legal.{start_of}
use Rattle.ft_model.specs.Report.{packet_count}
use Rattle.ft_model.specs.Schedule.{kind_of}
use Rattle.ft_model.specs.World.{World, Moment, Joint}
use Rattle.report_laws.specs.Lines.{lines_in}
use Rattle.report_laws.specs.Transitions.{IsReport}
use Rattle.report_laws.specs.Verdict.{IsRejected, SameLines}
use Rattle.report_laws.specs.declared.Law.{Law}
use Rattle.sample_servers.specs.AnyService.{any_machine}
use Rattle.replay_check.specs.Safe.{IsSafe}
use Rattle.trace_check.specs.Leads.{IsRejection}
use Rattle.trace_check.specs.declared.end.CheckEnd.{CheckEnd}
use Rattle.trace_check.specs.declared.end.CheckEnd.TheVariants as checks
use Rattle.replay_check.specs.Checks.{report_limit, legal_line, IsFoundLegal, IsFrontOfLegal, ReadsReport, IsLeftAlone, CheckStops, FindsLegal, IsCheckSettled}
use Rattle.replay_check.specs.Ends.{code_of, end_of_check, end_of_read, is_check_code}
use Rattle.replay_check.specs.PartialWrite.{Wrote, WroteFront}
use Rattle.replay_check.specs.Stream.{Stream, HasFailed, HasNotFailed}
use Rattle.replay_check.specs.declared.status.TooMuch.TheVariants.{Text, Events, Packets}
use Rattle.replay_check.specs.declared.status.RunEnd.{RunEnd}
use Rattle.replay_check.specs.declared.status.RunEnd.TheVariants.{Usage, NoMemory, ReadFault, WriteFault, BadLine, BadEvent, TooLong, Rejected}
use Rattle.replay_check.proofs.EndReported.{when_reported, ReportsEnd}

-- what holds of a text that was read holds of the source's
of_read : (Is : List ℕ → Type 0) (left : Option (List ℕ)) (text : List ℕ) → IfSome left (λ whole. text ≡ whole) → Is text → IfSome left Is
of_read Is None text same is = tt
of_read Is (Some whole) text same is = subst Is same is

pub reads_report : (Is : List ℕ → Type 0) (input : Stream) (text : List ℕ) → IsAtEnd input.after → HasNotFailed input → IfSome input.before (λ whole. text ≡ whole)
    → length text ≤ report_limit → Is text → ReadsReport input Is
reads_report Is input text at well same few is = record {
  text = of_read Is input.before text same is;
  within = of_read (λ t. length t ≤ report_limit) input.before text same few;
  end = at;
  faultless = well;
}

-- the reading of the source ends the check
pub source_stops : (input out : Stream) (end : ReadEnd) → IsLeftAlone out → (end ≡ reads.TooLong → IfSome input.before (λ text. report_limit < length text))
    → (end ≡ reads.Fault → HasFailed input) → (end ≡ reads.TooLong → HasNotFailed input) → (end ≡ reads.NoMemory → HasNotFailed input) → CheckStops input out (end_of_read end)
source_stops input out reads.NoMemory alone long fault past memory = (memory refl, alone)
source_stops input out reads.Fault alone long fault past memory = (fault refl, alone)
source_stops input out reads.TooLong alone long fault past memory = (long refl, past refl, alone)

-- the report is rejected
pub judging_stops : (input out : Stream) (text : List ℕ) (end : CheckEnd) → IsAtEnd input.after → HasNotFailed input → IfSome input.before (λ whole. text ≡ whole)
    → length text ≤ report_limit → IsLeftAlone out → IsRejection any_machine text end → CheckStops input out (end_of_check end)
judging_stops input out text checks.NoMemory at well same few alone r = (well, alone)
judging_stops input out text (checks.Reject line law) at well same few alone r =
    (reads_report (λ t. IsRejected any_machine t line law) input text at well same few r, alone)

-- .. or it is legal, and by the laws of joint traces safe
abbrev pub AreSafe : Type 0
AreSafe = (kind : ℕ) (start : World) (trace : List Moment) → Joint (any_machine kind) start trace → IsSafe (any_machine kind) start trace

abbrev pub IsCounted : (text : List ℕ) (events packets : ℕ) → Type 0
IsCounted text events packets = (r : IsReport any_machine text) × (events ≡ length r.trace) × (packets ≡ packet_count r.trace)

pub found : AreSafe → (text : List ℕ) (events packets : ℕ) → IsCounted text events packets → IsFoundLegal text (legal_line events packets)
found safe text events packets judged = record { report = judged.0; safe = safe (kind_of judged.0.schedule.service) (start_of judged.0.schedule) judged.0.trace judged.0.legal.joint; line_is = ap₂ legal_line judged.1 judged.2 }

pub finds : AreSafe → (input out : Stream) (text : List ℕ) (events packets : ℕ) → IsAtEnd input.after → HasNotFailed input → IfSome input.before (λ whole. text ≡ whole)
    → length text ≤ report_limit → IsCounted text events packets → Appends out.before out.after (legal_line events packets) → HasNotFailed out → FindsLegal input out
finds safe input out text events packets at well same few judged wrote kept = (
  reads_report (λ t. Wrote out.before out.after (IsFoundLegal t)) input text at well same few (legal_line events packets, wrote, found safe text events packets judged),
  kept,
)

-- .. and the line isn't written whole
pub reporting_stops : AreSafe → (input out : Stream) (text : List ℕ) (events packets : ℕ) → IsAtEnd input.after → HasNotFailed input → IfSome input.before (λ whole. text ≡ whole)
    → length text ≤ report_limit → IsCounted text events packets → WroteFront out.before out.after (legal_line events packets) → HasFailed out → CheckStops input out WriteFault
reporting_stops safe input out text events packets at well same few judged wrote failed = (
  reads_report (λ t. Wrote out.before out.after (IsFrontOfLegal t)) input text at well same few
      (wrote.0, wrote.1, (legal_line events packets, found safe text events packets judged, wrote.2)),
  failed,
)

-- the ends by their codes
codes_of : (input out : Stream) (end : RunEnd) → CheckStops input out end → is_check_code (code_of end) ≡ true
codes_of input out NoMemory s = refl
codes_of input out ReadFault s = refl
codes_of input out WriteFault s = refl
codes_of input out (TooLong what) s = refl
codes_of input out (Rejected line law) s = refl
codes_of input out Usage s = absurd s
codes_of input out (BadLine line why) s = absurd s
codes_of input out (BadEvent number why) s = absurd s

pub is_reported_code : (input out : Stream) (end : RunEnd) (err : Stream) (code : ℕ) → CheckStops input out end → ReportsEnd end err code → is_check_code code ≡ true
is_reported_code input out end err code s (inl t) = ap is_check_code t.0 ∙ codes_of input out end s
is_reported_code input out end err code s (inr t) = ap is_check_code t.0

same_lines : (n : ℕ) (lines : List (List ℕ)) → SameLines n lines lines
same_lines zero lines = tt
same_lines (suc n) [] = tt
same_lines (suc n) (line ∷ lines) = (refl, same_lines n lines)

-- no report is rejected, so the text settles the status
module _
    (apart : (text other : List ℕ) (line : ℕ) (law : Law) → IsRejected any_machine text line law → SameLines line (lines_in text) (lines_in other) → IsReport any_machine other → ⊥)
    (text : List ℕ) (code : ℕ) where
  never_both : (line : ℕ) (law : Law) → IsRejected any_machine text line law → IsReport any_machine text → ⊥
  never_both line law rejected report = apart text text line law rejected (same_lines line (lines_in text)) report

  short_or_long : {P : Type 0} → length text ≤ report_limit → report_limit < length text → P
  short_or_long short long = absurd (omega arith)

  by_memory : code ≡ 3 → IsCheckSettled text code
  by_memory is = record { within = λ short. inr (inr is); legal = λ short report. inr is; rejected = λ short line law r. inr is; too_long = λ long. inr is }

  by_length : code ≡ 8 → report_limit < length text → IsCheckSettled text code
  by_length is long = record {
    within = λ short. short_or_long short long;
    legal = λ short report. short_or_long short long;
    rejected = λ short line law r. short_or_long short long;
    too_long = λ past. inl is;
  }

  by_rejection : (line : ℕ) (law : Law) → code ≡ 9 → length text ≤ report_limit → IsRejected any_machine text line law → IsCheckSettled text code
  by_rejection line law is short r = record {
    within = λ few. inr (inl is);
    legal = λ few report. absurd (never_both line law r report);
    rejected = λ few other also s. inl is;
    too_long = λ long. short_or_long short long;
  }

  by_report : code ≡ 0 → length text ≤ report_limit → IsReport any_machine text → IsCheckSettled text code
  by_report is short report = record {
    within = λ few. inl is;
    legal = λ few other. inl is;
    rejected = λ few line law r. absurd (never_both line law r report);
    too_long = λ long. short_or_long short long;
  }

  pub settles_found : (input out : Stream) → input.before ≡ Some text → FindsLegal input out → code ≡ 0 → IsCheckSettled text code
  settles_found input out reported s is =
      let line : Wrote out.before out.after (IsFoundLegal text) = when_reported (λ t. Wrote out.before out.after (IsFoundLegal t)) input.before text reported s.0.text in
      by_report is (when_reported (λ t. length t ≤ report_limit) input.before text reported s.0.within) line.2.report

  -- where no count of faults rises, the status is that of the end
  pub settles_end : (input out : Stream) (end : RunEnd) → input.before ≡ Some text → code ≡ code_of end → CheckStops input out end
      → (HasFailed input → ⊥) → (HasFailed out → ⊥) → IsCheckSettled text code
  settles_end input out NoMemory reported is s input_still out_still = by_memory is
  settles_end input out ReadFault reported is s input_still out_still = absurd (input_still s.0)
  settles_end input out WriteFault reported is s input_still out_still = absurd (out_still s.1)
  settles_end input out (TooLong Text) reported is s input_still out_still = by_length is (when_reported (λ t. report_limit < length t) input.before text reported s.0)
  settles_end input out (Rejected line law) reported is s input_still out_still =
      by_rejection line law is (when_reported (λ t. length t ≤ report_limit) input.before text reported s.0.within)
      (when_reported (λ t. IsRejected any_machine t line law) input.before text reported s.0.text)
  settles_end input out (TooLong Events) reported is s input_still out_still = absurd s
  settles_end input out (TooLong Packets) reported is s input_still out_still = absurd s
  settles_end input out Usage reported is s input_still out_still = absurd s
  settles_end input out (BadLine line why) reported is s input_still out_still = absurd s
  settles_end input out (BadEvent number why) reported is s input_still out_still = absurd s
