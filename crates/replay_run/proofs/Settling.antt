-- The status by the text: what each status says of it, and that the text settles the status.
use Rattle.std.proofs.Common.{◌≡◌, ◌∙◌, ◌⊎◌, inl, inr, ℕ, ◌<◌, ◌≤◌, [], ◌∷◌, ◌++◌, Bool, true, false, ◌==◌, ◌||◌, eqb-true, Option, None, Some, List, Ok, Err, refl, sym, ap, subst, Result, append-nil, arith}
use Rattle.schedule_text.specs.Fleeting.{read_fleeting}
use Rattle.ft_model.specs.Grammar.{Refusal as reading}
use Rattle.ft_model.specs.Legal.{IsLegalFor}
use Rattle.ft_model.specs.declared.event.Event.{Event}
use Rattle.ft_model.specs.declared.event.EventWhy.{EventWhy}
use Rattle.ft_model.specs.declared.schedule.Schedule.{Schedule}
use Rattle.ft_model.specs.declared.schedule.LineWhy.{LineWhy}
use Rattle.ft_model.specs.declared.schedule.Limit.{Limit}
use Rattle.ft_model.specs.declared.schedule.Limit.TheVariants as limits
use Rattle.sample_servers.specs.AnyService.{any_machine}
use Rattle.replay_check.specs.Ends.{code_of, is_run_code}
use Rattle.mark_laws.specs.MarkedLegal.{IsMarkedLegalFor}
use Rattle.twin_laws.specs.TwinLegal.{IsTwinLegalFor}
use Rattle.replay_run.specs.Traces.{any_marker, traces_of}
use Rattle.replay_run.specs.Causes.{AllHappen, OneIsRefused, PacketsExceed, IsInOrder, HasBadLine, HasBadEvent, IsPastLimit, IsSettled}
use Rattle.replay_run.specs.Causes.IsPastLimit.{by_text, by_packets}
use Rattle.replay_check.specs.PartialWrite.{Wrote}
use Rattle.replay_run.specs.PlayedRun.{Spells, ReportsAll, ReportsTill, ReportsToLimit}
use Rattle.replay_run.specs.Runs.{Reports, RunStops}
use Rattle.replay_check.specs.Stream.{Stream, HasFailed}
use Rattle.replay_check.specs.declared.status.TooMuch.TheVariants.{Text, Events, Packets}
use Rattle.replay_check.specs.declared.status.RunEnd.{RunEnd}
use Rattle.replay_check.specs.declared.status.RunEnd.TheVariants.{Usage, NoMemory, ReadFault, WriteFault, BadLine, BadEvent, TooLong, Rejected}
use Rattle.replay_check.proofs.EndReported.{when_reported, never_zero, ReportsEnd}

pub bad_line : (text : List ℕ) (input out : Stream) (end : RunEnd) → input.before ≡ Some text → code_of end ≡ 6 → RunStops input out end → HasBadLine text
bad_line text input out (BadLine line why) reported e s = record { line = line; why = why; refused = when_reported (λ t. read_fleeting t ≡ Err (reading.BadLine line why)) input.before text reported s.refused }
bad_line text input out (BadEvent number why) reported e s = cc
bad_line text input out (TooLong what) reported e s = cc
bad_line text input out (Rejected line law) reported e s = cc
bad_line text input out Usage reported e s = cc
bad_line text input out NoMemory reported e s = cc
bad_line text input out ReadFault reported e s = cc
bad_line text input out WriteFault reported e s = cc

-- with two loggers, with one log or with marks
refused_in : (twin : Bool) (marks : Option ℕ) (schedule : Schedule) (played : List Event) (event : Event) (others : List Event) (why : EventWhy) (trace : List (traces_of twin marks).Turn)
    → schedule.events ≡ played ++ event ∷ others → (traces_of twin marks).IsLegal schedule played trace → (traces_of twin marks).sent schedule trace ≤ 200000
    → (traces_of twin marks).refuses schedule trace event ≡ Some why → OneIsRefused twin marks schedule
refused_in true marks schedule played event others why trace split legal within refused =
    record { played = played; event = event; others = others; why = why; trace = trace; events = split; legal = legal; within = within; refused = refused }
refused_in false None schedule played event others why trace split legal within refused =
    record { played = played; event = event; others = others; why = why; trace = trace; events = split; legal = legal; within = within; refused = refused }
refused_in false (Some every) schedule played event others why trace split legal within refused =
    record { played = played; event = event; others = others; why = why; trace = trace; events = split; legal = legal; within = within; refused = refused }

past_in : (twin : Bool) (marks : Option ℕ) (schedule : Schedule) (played : List Event) (event : Event) (others : List Event) (moment : (traces_of twin marks).Turn) (earlier : List (traces_of twin marks).Turn)
    → schedule.events ≡ played ++ event ∷ others → (traces_of twin marks).IsLegal schedule (played ++ event ∷ []) (moment ∷ earlier) → (traces_of twin marks).sent schedule earlier ≤ 200000
    → 200000 < (traces_of twin marks).sent schedule (moment ∷ earlier) → PacketsExceed twin marks schedule
past_in true marks schedule played event others moment earlier split legal within over =
    record { played = played; event = event; others = others; moment = moment; earlier = earlier; events = split; legal = legal; within = within; over = over }
past_in false None schedule played event others moment earlier split legal within over =
    record { played = played; event = event; others = others; moment = moment; earlier = earlier; events = split; legal = legal; within = within; over = over }
past_in false (Some every) schedule played event others moment earlier split legal within over =
    record { played = played; event = event; others = others; moment = moment; earlier = earlier; events = split; legal = legal; within = within; over = over }

whole_in : (twin : Bool) (marks : Option ℕ) (schedule : Schedule) (events : List Event) (trace : List (traces_of twin marks).Turn) → schedule.events ≡ events → (traces_of twin marks).IsLegal schedule events trace
    → (traces_of twin marks).sent schedule trace ≤ 200000 → AllHappen twin marks schedule
whole_in true marks schedule events trace split legal within =
    record { trace = trace; legal = subst (λ es. IsTwinLegalFor any_machine schedule es trace) (sym split) legal; within = within }
whole_in false None schedule events trace split legal within =
    record { trace = trace; legal = subst (λ es. IsLegalFor any_machine schedule es trace) (sym split) legal; within = within }
whole_in false (Some every) schedule events trace split legal within =
    record { trace = trace; legal = subst (λ es. IsMarkedLegalFor (any_marker every) schedule es trace) (sym split) legal; within = within }

refused_event : (schedule : Schedule) (number : ℕ) (why : EventWhy) (old new : Option (List ℕ)) → Wrote old new (ReportsTill schedule number why) → OneIsRefused schedule.twin schedule.marks schedule
refused_event schedule number why old new w =
    let r : ReportsTill schedule number why w.0 = w.2 in
    refused_in schedule.twin schedule.marks schedule r.played.events r.event r.others why r.played.trace r.played.split r.played.legal r.played.within r.refused

past_packets : (schedule : Schedule) (old new : Option (List ℕ)) → Wrote old new (ReportsToLimit schedule) → PacketsExceed schedule.twin schedule.marks schedule
past_packets schedule old new w =
    let r : ReportsToLimit schedule w.0 = w.2 in
    past_in schedule.twin schedule.marks schedule r.played.events r.event r.others r.moment r.played.trace r.played.split r.legal r.played.within r.over

spelled_at : (input out : Stream) (text : List ℕ) (Is : Schedule → List ℕ → Type 0) → input.before ≡ Some text → Reports input out Is → Spells text (λ schedule. Wrote out.before out.after (Is schedule))
spelled_at input out text Is reported r = when_reported (λ t. Spells t (λ schedule. Wrote out.before out.after (Is schedule))) input.before text reported r.written

-- the one end of that status, for any goal that it answers
only_event : {P : Type 0} (end : RunEnd) → code_of end ≡ 7 → ((number : ℕ) (why : EventWhy) → end ≡ BadEvent number why → P) → P
only_event (BadEvent number why) e f = f number why refl
only_event (BadLine line why) e f = cc
only_event (TooLong what) e f = cc
only_event (Rejected line law) e f = cc
only_event Usage e f = cc
only_event NoMemory e f = cc
only_event ReadFault e f = cc
only_event WriteFault e f = cc

has_bad_event : (text : List ℕ) (input out : Stream) (number : ℕ) (why : EventWhy) → input.before ≡ Some text → Reports input out (λ schedule. ReportsTill schedule number why) → HasBadEvent text
has_bad_event text input out number why reported s =
    let t : Spells text (λ schedule. Wrote out.before out.after (ReportsTill schedule number why)) = spelled_at input out text (λ schedule. ReportsTill schedule number why) reported s in
    record { schedule = t.0; spelled = t.1; refused = refused_event t.0 number why out.before out.after t.2 }

pub bad_event : (text : List ℕ) (input out : Stream) (end : RunEnd) → input.before ≡ Some text → code_of end ≡ 7 → RunStops input out end → HasBadEvent text
bad_event text input out end reported e s = only_event end e (λ number why is. has_bad_event text input out number why reported (subst (RunStops input out) is s))

pub past_limit : (text : List ℕ) (input out : Stream) (end : RunEnd) → input.before ≡ Some text → code_of end ≡ 8 → RunStops input out end → IsPastLimit text
past_limit text input out (TooLong Text) reported e s = by_text limits.Text (when_reported (λ t. read_fleeting t ≡ Err (reading.TooLong limits.Text)) input.before text reported s.refused)
past_limit text input out (TooLong Events) reported e s = by_text limits.Events (when_reported (λ t. read_fleeting t ≡ Err (reading.TooLong limits.Events)) input.before text reported s.refused)
past_limit text input out (TooLong Packets) reported e s =
    let t : Spells text (λ schedule. Wrote out.before out.after (ReportsToLimit schedule)) = spelled_at input out text ReportsToLimit reported s in
    by_packets t.0 t.1 (past_packets t.0 out.before out.after t.2)
past_limit text input out (BadLine line why) reported e s = cc
past_limit text input out (Rejected line law) reported e s = cc
past_limit text input out (BadEvent number why) reported e s = cc
past_limit text input out Usage reported e s = cc
past_limit text input out NoMemory reported e s = cc
past_limit text input out ReadFault reported e s = cc
past_limit text input out WriteFault reported e s = cc

ok_or_err : {A B : Type 0} (a : A) (b : B) → Ok a ≡ Err b → ⊥
ok_or_err a b e = cc

err_same : {A : Type 0} (a b : A) (x : Result Schedule A) → x ≡ Err a → x ≡ Err b → a ≡ b
err_same a b x p q = cc

line_or_long : (line : ℕ) (why : LineWhy) (what : Limit) → reading.BadLine line why ≡ reading.TooLong what → ⊥
line_or_long line why what e = cc

-- a code that is neither of these is one of the others
pub isnt : (a b : ℕ) → (a ≡ b → ⊥) → (a == b) ≡ false
isnt a b never = on_test (a == b) (λ e. eqb-true a b e)
  where
    on_test : (t : Bool) → (t ≡ true → a ≡ b) → t ≡ false
    on_test true h = absurd (never (h refl))
    on_test false h = refl

pub remains : (code kept : ℕ) → (code == 3 || (code == kept)) ≡ true → (code ≡ kept) ⊎ (code ≡ 3)
remains code kept e = by_three (code == 3) refl
  where
    by_three : (t : Bool) → (code == 3) ≡ t → (code ≡ kept) ⊎ (code ≡ 3)
    by_three true h = inr (eqb-true code 3 h)
    by_three false h = inl (eqb-true code kept (subst (λ b. (b || (code == kept)) ≡ true) h e))

-- the ends of a run by their codes
codes_of : (input out : Stream) (end : RunEnd) → RunStops input out end → is_run_code (code_of end) ≡ true
codes_of input out Usage s = absurd s
codes_of input out NoMemory s = refl
codes_of input out ReadFault s = refl
codes_of input out WriteFault s = refl
codes_of input out (BadLine line why) s = refl
codes_of input out (BadEvent number why) s = refl
codes_of input out (TooLong what) s = refl
codes_of input out (Rejected line law) s = absurd s

-- a run that is done
pub in_order : (text : List ℕ) (input out : Stream) → input.before ≡ Some text → Reports input out ReportsAll → IsInOrder text
in_order text input out reported r =
    let t : Spells text (λ schedule. Wrote out.before out.after (ReportsAll schedule)) = spelled_at input out text ReportsAll reported r in
    record { schedule = t.0; spelled = t.1; whole = in_whole t.0 t.2.0 t.2.2 }
  where
    in_whole : (schedule : Schedule) (written : List ℕ) → ReportsAll schedule written → AllHappen schedule.twin schedule.marks schedule
    in_whole schedule written a = whole_in schedule.twin schedule.marks schedule a.played.events a.played.trace (a.played.split ∙ append-nil a.played.events) a.played.legal a.played.within

-- the ends that a run has
no_read_fault : (input out : Stream) (end : RunEnd) → RunStops input out end → (HasFailed input → ⊥) → code_of end ≡ 4 → ⊥
no_read_fault input out ReadFault s still e = still s.0
no_read_fault input out Usage s still e = cc
no_read_fault input out NoMemory s still e = cc
no_read_fault input out WriteFault s still e = cc
no_read_fault input out (BadLine line why) s still e = cc
no_read_fault input out (BadEvent number why) s still e = cc
no_read_fault input out (TooLong what) s still e = cc
no_read_fault input out (Rejected line law) s still e = cc

no_write_fault : (input out : Stream) (end : RunEnd) → RunStops input out end → (HasFailed out → ⊥) → code_of end ≡ 5 → ⊥
no_write_fault input out WriteFault s still e = still s.2
no_write_fault input out Usage s still e = cc
no_write_fault input out NoMemory s still e = cc
no_write_fault input out ReadFault s still e = cc
no_write_fault input out (BadLine line why) s still e = cc
no_write_fault input out (BadEvent number why) s still e = cc
no_write_fault input out (TooLong what) s still e = cc
no_write_fault input out (Rejected line law) s still e = cc

pub is_reported_code : (input out : Stream) (end : RunEnd) (err : Stream) (code : ℕ) → RunStops input out end → ReportsEnd end err code → is_run_code code ≡ true
is_reported_code input out end err code s (inl t) = ap is_run_code t.0 ∙ codes_of input out end s
is_reported_code input out end err code s (inr t) = ap is_run_code t.0

module _
    (whole_or_refused : (schedule : Schedule) → AllHappen schedule.twin schedule.marks schedule → OneIsRefused schedule.twin schedule.marks schedule → ⊥)
    (whole_or_past : (schedule : Schedule) → AllHappen schedule.twin schedule.marks schedule → PacketsExceed schedule.twin schedule.marks schedule → ⊥)
    (refused_or_past : (schedule : Schedule) → OneIsRefused schedule.twin schedule.marks schedule → PacketsExceed schedule.twin schedule.marks schedule → ⊥)
    (text : List ℕ) (code : ℕ) where
  -- a text is read in one way
  same : (s t : Schedule) → read_fleeting text ≡ Ok s → read_fleeting text ≡ Ok t → s ≡ t
  same s t p q =
      let both : Ok s ≡ Ok t = sym p ∙ q in
      cc

  order_or_line : IsInOrder text → HasBadLine text → ⊥
  order_or_line a b = ok_or_err a.schedule (reading.BadLine b.line b.why) (sym a.spelled ∙ b.refused)

  order_or_event : IsInOrder text → HasBadEvent text → ⊥
  order_or_event a b = whole_or_refused b.schedule (subst (λ s. AllHappen s.twin s.marks s) (same a.schedule b.schedule a.spelled b.spelled) a.whole) b.refused

  order_or_limit : IsInOrder text → IsPastLimit text → ⊥
  order_or_limit a (by_text what e) = ok_or_err a.schedule (reading.TooLong what) (sym a.spelled ∙ e)
  order_or_limit a (by_packets schedule e p) = whole_or_past schedule (subst (λ s. AllHappen s.twin s.marks s) (same a.schedule schedule a.spelled e) a.whole) p

  line_or_event : HasBadLine text → HasBadEvent text → ⊥
  line_or_event a b = ok_or_err b.schedule (reading.BadLine a.line a.why) (sym b.spelled ∙ a.refused)

  line_or_limit : HasBadLine text → IsPastLimit text → ⊥
  line_or_limit a (by_text what e) = line_or_long a.line a.why what (err_same (reading.BadLine a.line a.why) (reading.TooLong what) (read_fleeting text) a.refused e)
  line_or_limit a (by_packets schedule e p) = ok_or_err schedule (reading.BadLine a.line a.why) (sym e ∙ a.refused)

  event_or_limit : HasBadEvent text → IsPastLimit text → ⊥
  event_or_limit a (by_text what e) = ok_or_err a.schedule (reading.TooLong what) (sym a.spelled ∙ e)
  event_or_limit a (by_packets schedule e p) = refused_or_past schedule (subst (λ s. OneIsRefused s.twin s.marks s) (same a.schedule schedule a.spelled e) a.refused) p

  pub settles : is_run_code code ≡ true → (code ≡ 4 → ⊥) → (code ≡ 5 → ⊥)
      → (code ≡ 0 → IsInOrder text) → (code ≡ 6 → HasBadLine text) → (code ≡ 7 → HasBadEvent text) → (code ≡ 8 → IsPastLimit text) → IsSettled text code
  settles codes four five at_zero at_six at_seven at_eight =
      let not_four = isnt code 4 four in
      let not_five = isnt code 5 five in
      record {
        in_order = λ a.
            let six = isnt code 6 (λ e. order_or_line a (at_six e)) in
            let seven = isnt code 7 (λ e. order_or_event a (at_seven e)) in
            let eight = isnt code 8 (λ e. order_or_limit a (at_eight e)) in
            remains code 0 (grind arith);
        bad_line = λ a.
            let zero = isnt code 0 (λ e. order_or_line (at_zero e) a) in
            let seven = isnt code 7 (λ e. line_or_event a (at_seven e)) in
            let eight = isnt code 8 (λ e. line_or_limit a (at_eight e)) in
            remains code 6 (grind arith);
        bad_event = λ a.
            let zero = isnt code 0 (λ e. order_or_event (at_zero e) a) in
            let six = isnt code 6 (λ e. line_or_event (at_six e) a) in
            let eight = isnt code 8 (λ e. event_or_limit a (at_eight e)) in
            remains code 7 (grind arith);
        past_limit = λ a.
            let zero = isnt code 0 (λ e. order_or_limit (at_zero e) a) in
            let six = isnt code 6 (λ e. line_or_limit (at_six e) a) in
            let seven = isnt code 7 (λ e. event_or_limit (at_seven e) a) in
            remains code 8 (grind arith);
      }

  -- where no count of faults rises, the status is that of the end
  pub settles_end : (input out : Stream) (end : RunEnd) → input.before ≡ Some text → code ≡ code_of end → RunStops input out end
      → (HasFailed input → ⊥) → (HasFailed out → ⊥) → IsSettled text code
  settles_end input out end reported is s input_still out_still =
      settles (ap is_run_code is ∙ codes_of input out end s) (λ e. no_read_fault input out end s input_still (sym is ∙ e))
      (λ e. no_write_fault input out end s out_still (sym is ∙ e))
      (λ e. absurd (never_zero end (sym is ∙ e)))
      (λ e. bad_line text input out end reported (sym is ∙ e) s)
      (λ e. bad_event text input out end reported (sym is ∙ e) s)
      (λ e. past_limit text input out end reported (sym is ∙ e) s)
