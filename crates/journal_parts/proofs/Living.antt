-- A whole life: the opening, the bind, and the rounds with their line.
use Rattle.std.proofs.Common.{◌≡◌, ◌∙◌, inl, inr, ℕ, true, false, true≢false, refl, sym, subst, Option, List, [], ◌∷◌, ◌++◌, length, append-nil, arith, Result, Ok, Err, IfErr}
use Rattle.std.specs.Result.{IsErrAnd}
use Rattle.std.specs.Io.KnownBytes.{Appends}
use Rattle.ft_io.specs.Sink.{AppendsFront}
use Rattle.ft_io.specs.Reported.{Reports}
use Rattle.ft_io.specs.declared.link_call.LinkCall.TheVariants.{Bound}
use Rattle.ft_io.proofs.Recordings.{reports_on}
use Rattle.forget_store.specs.declared.heeding.Heeded.{Heeded}
use Rattle.ft_model.specs.Log.{empty_log}
use Rattle.forget_store.specs.AnyMessage.{log_after_each}
use Rattle.disk.specs.CallRecord.{on_disk}
use Rattle.disk.specs.declared.calls.DeskCall.{DeskCall}
use Rattle.disk.specs.declared.calls.DeskCall.TheVariants.{OnLink}
use Rattle.kept_log.specs.Format.{making, first_tip, tip_of}
use Rattle.kept_log.specs.JournaledLog.{HasLog}
use Rattle.kept_log.specs.Startup.{IsOpened, HasStopped, HasNotBegun, HasGrammar, HasOtherGrammar}
use Rattle.kept_log.proofs.Logs.{no_blocks}
use Rattle.kept_log.specs.declared.journal.KeepEnd.{KeepEnd}
use Rattle.kept_log.specs.declared.journal.KeepEnd.TheVariants as keep_end
use Rattle.kept_log.specs.declared.opening.OpenEnd.{OpenEnd}
use Rattle.kept_log.specs.declared.opening.OpenEnd.TheVariants as open_end
use Rattle.link_parts.specs.Counts.{count_line}
use Rattle.link_parts.specs.declared.counts.Counts.{Counts}
use Rattle.link_parts.specs.LineOutput.{ReportStops}
use Rattle.link_parts.specs.LoggerParts.{heeded_by}
use Rattle.link_parts.specs.declared.status.NodeEnd.{NodeEnd}
use Rattle.link_parts.specs.declared.status.NodeEnd.TheVariants as ends
use Rattle.journal_parts.specs.Ends.{from_open, from_keep, cut_text}
use Rattle.journal_parts.specs.LoggerLife.{IsKeeper, IsCutKeeper, IsCutCompacting, IsUnbound, KeeperStops, IsOpen, OpeningStops}
use Rattle.journal_parts.specs.Rounds.{Place, calls_of}
use Rattle.journal_parts.specs.RoundParts.{HasServed, IsCutServing, IsCutReplacing, HasEndedBy, HasLived, ServingStops, HasServedNoted, IsCutServingNoted, IsCutReplacingNoted, ServingNotedStops}
use Rattle.journal_parts.specs.declared.role.JournalRole.{JournalRole}
use Rattle.journal_parts.specs.declared.status.ProcessEnd.{ProcessEnd}
use Rattle.journal_parts.specs.declared.status.ProcessEnd.TheVariants.{Node, JournalFault, BadJournal, NoJournal, InUse}

-- a file was opened by its name, and the journal in it wasn't
pub opening_stops : (heeded : Heeded) (file left : Option (List ℕ)) (old mid new : Option (List DeskCall)) (end : OpenEnd) → left ≡ file → Reports old mid [] → HasStopped left mid new end
    → (end ≡ open_end.OtherGrammar → HasOtherGrammar heeded.grammar left) → OpeningStops heeded false file old new (from_open end)
opening_stops heeded file left old mid new open_end.NoMemory is t s other = reports_on old mid new [] [] t s
opening_stops heeded file left old mid new open_end.Empty is t (s, none) other = (reports_on old mid new [] [] t s, λ bytes e. none bytes (is ∙ e))
opening_stops heeded file left old mid new open_end.Unfinished is t (s, part) other = (reports_on old mid new [] [] t s, λ bytes e. part bytes (is ∙ e))
opening_stops heeded file left old mid new open_end.Older is t (s, older) other = (reports_on old mid new [] [] t s, λ bytes e. older bytes (is ∙ e))
opening_stops heeded file left old mid new open_end.OtherGrammar is t s other = (reports_on old mid new [] [] t s, λ bytes e. other refl bytes (is ∙ e))
opening_stops heeded file left old mid new (open_end.Wrong at) is t (s, damaged) other = (reports_on old mid new [] [] t s, (λ bytes e. damaged bytes (is ∙ e)), refl)
opening_stops heeded file left old mid new open_end.Failed is t (inl s) other = inl (reports_on old mid new [] [] t s)
opening_stops heeded file left old mid new open_end.Failed is t (inr s) other = inr (record {
  opening = s.calls;
  torn = s.cut;
  start = record { tip = tip_of s.made s.bodies; log = log_after_each empty_log s.messages; heeded = heeded };
  done = s.done;
  starts = record {
    made = s.made;
    bodies = s.bodies;
    has_log = record { time = s.time; messages = s.messages; kept = s.kept; tip_is = refl; log_is = refl };
    finds = λ bytes e. s.finds bytes (is ∙ e);
    heeded_is = refl;
  };
  front = s.is_front;
  reports = reports_on old mid new [] (on_disk s.done) t s.reports;
})

-- a file was made, and the journal in it wasn't
pub making_stops : (heeded : Heeded) (file : Option (List ℕ)) (made : List ℕ) (old mid new : Option (List DeskCall)) (end : KeepEnd) → length made ≡ 8 → Reports old mid [] → HasNotBegun made mid new end
    → OpeningStops heeded true file old new (from_keep end)
making_stops heeded file made old mid new keep_end.NoMemory time t s = reports_on old mid new [] [] t s
making_stops heeded file made old mid new keep_end.Failed time t (done, front, s) = inr (record {
  opening = making made;
  torn = 0;
  start = record { tip = first_tip made; log = empty_log; heeded = heeded };
  done = done;
  starts = record { made = made; heeded_is = refl; has_log = no_blocks made time; opening_is = refl; none = refl };
  front = front;
  reports = reports_on old mid new [] (on_disk done) t s;
})

-- .. and one that was made
pub made_opens : (heeded : Heeded) (file : Option (List ℕ)) (made : List ℕ) (old mid new : Option (List DeskCall)) (start : Place) → Reports old mid [] → HasLog made [] start.tip start.log
    → start.heeded ≡ heeded → Reports mid new (on_disk (making made)) → IsOpen heeded true file 0 start old new
made_opens heeded file made old mid new start t has own s =
    (making made, record { made = made; heeded_is = own; has_log = has; opening_is = refl; none = refl }, (λ never. absurd (true≢false never)), reports_on old mid new [] (on_disk (making made)) t s)

pub found_opens : (heeded : Heeded) (file left : Option (List ℕ)) (old mid new : Option (List DeskCall)) (torn : ℕ) (start : Place) → left ≡ file → Reports old mid []
    → start.heeded ≡ heeded → HasGrammar heeded.grammar left → IsOpened left mid new start.tip torn start.log → IsOpen heeded false file torn start old new
found_opens heeded file left old mid new torn start is t own has s = (
  s.calls,
  record { made = s.made; bodies = s.bodies; has_log = s.has_log; finds = λ bytes e. s.finds bytes (is ∙ e); heeded_is = own },
  (λ _ bytes e. has bytes (is ∙ e)),
  reports_on old mid new [] (on_disk s.calls) t s.reports,
)

lived : (least count : ℕ) (start at : Place) (old new : Option (List DeskCall)) (counts : Counts) (Writes : List ℕ → Type 0) → HasServed least count start at old new counts
    → Writes (count_line counts) → HasLived least count start old new Writes
lived least count start at old new counts Writes s w = record {
  rounds = s.rounds;
  are_rounds = s.are_rounds;
  count_is = s.count_is;
  reports = s.reports;
  written = subst (λ c. Writes (count_line c)) s.counts_are w;
}

-- all turns were done, and memory was wanting for their line
unreported : (least count : ℕ) (start at : Place) (old new : Option (List DeskCall)) (counts : Counts) → HasServed least count start at old new counts
    → IsCutServing least count start old new
unreported least count start at old new counts s = record {
  rounds = s.rounds;
  received = [];
  cut = [];
  reason = inl (refl, inr s.count_is);
  are_rounds = s.are_rounds;
  unanswered = record { done = []; is_round = inl refl; front = tt; calls_are = refl };
  within = omega (arith, s.count_is);
  reports = subst (Reports old new) (sym (append-nil (calls_of start s.rounds))) s.reports;
}

-- rounds that stopped have written nothing
pub ended_stops : (least count : ℕ) (start : Place) (old new : Option (List DeskCall)) (out : Option (List ℕ)) (end : ProcessEnd) → HasEndedBy least count start old new end
    → ServingStops least count start old new out out end
ended_stops least count start old new out (Node ends.NoMemory) s = (s, refl)
ended_stops least count start old new out (Node ends.WriteFault) s = absurd s
ended_stops least count start old new out (Node ends.LinkFault) s = absurd s
ended_stops least count start old new out (Node ends.Usage) s = absurd s
ended_stops least count start old new out (Node (ends.Fenced newer)) s = absurd s
ended_stops least count start old new out (Node ends.Reset) s = absurd s
ended_stops least count start old new out (Node ends.Spent) s = absurd s
ended_stops least count start old new out (Node ends.ReadFault) s = absurd s
ended_stops least count start old new out (Node ends.ChildFault) s = absurd s
ended_stops least count start old new out JournalFault s = (s, refl)
ended_stops least count start old new out (BadJournal at) s = absurd s
ended_stops least count start old new out (NoJournal lack) s = absurd s
ended_stops least count start old new out InUse s = absurd s

pub line_stops : (least count : ℕ) (start at : Place) (old new : Option (List DeskCall)) (counts : Counts) (out_old out_new : Option (List ℕ)) (end : NodeEnd)
    → HasServed least count start at old new counts → ReportStops (count_line counts) out_old out_new end → ServingStops least count start old new out_old out_new (Node end)
line_stops least count start at old new counts out_old out_new ends.NoMemory s t = (unreported least count start at old new counts s, t)
line_stops least count start at old new counts out_old out_new ends.WriteFault s t = lived least count start at old new counts (AppendsFront out_old out_new) s t
line_stops least count start at old new counts out_old out_new ends.LinkFault s t = absurd t
line_stops least count start at old new counts out_old out_new ends.Usage s t = absurd t
line_stops least count start at old new counts out_old out_new (ends.Fenced newer) s t = absurd t
line_stops least count start at old new counts out_old out_new ends.Reset s t = absurd t
line_stops least count start at old new counts out_old out_new ends.Spent s t = absurd t
line_stops least count start at old new counts out_old out_new ends.ReadFault s t = absurd t
line_stops least count start at old new counts out_old out_new ends.ChildFault s t = absurd t

-- the error that a part's error became
pub said_end : {T : Type 0} (r : Result T ProcessEnd) (end : ProcessEnd) (P : ProcessEnd → Type 0) → IsErrAnd r (λ e. e ≡ end) → P end → IfErr r P
said_end (Ok x) end P is p = tt
said_end (Err e) end P is p = subst P (sym is) p

-- after the opening's line and the bind
module _ (role : JournalRole) (start : Place) (torn : ℕ) (old bound new : Option (List DeskCall)) (bind : Reports old bound (OnLink (Bound role.logger.local) ∷ [])) where
  pub served_noted : (Writes Notes : List ℕ → Type 0) → Notes (cut_text torn) → HasLived role.compact role.logger.turns start bound new Writes → HasServedNoted role start torn old new Writes Notes
  served_noted Writes Notes noted l = record {
    rounds = l.rounds;
    are_rounds = l.are_rounds;
    count_is = l.count_is;
    reports = reports_on old bound new (OnLink (Bound role.logger.local) ∷ []) (calls_of start l.rounds) bind l.reports;
    written = l.written;
    noted = noted;
  }

  cut_noted : (Notes : List ℕ → Type 0) → Notes (cut_text torn) → IsCutServing role.compact role.logger.turns start bound new → IsCutServingNoted role start torn old new Notes
  cut_noted Notes noted s = record {
    rounds = s.rounds;
    received = s.received;
    cut = s.cut;
    reason = s.reason;
    are_rounds = s.are_rounds;
    unanswered = s.unanswered;
    within = s.within;
    reports = reports_on old bound new (OnLink (Bound role.logger.local) ∷ []) (calls_of start s.rounds ++ s.cut) bind s.reports;
    noted = noted;
  }

  replacing_noted : (Notes : List ℕ → Type 0) → Notes (cut_text torn) → IsCutReplacing role.compact role.logger.turns start bound new → IsCutReplacingNoted role start torn old new Notes
  replacing_noted Notes noted s = record {
    rounds = s.rounds;
    cut = s.cut;
    are_rounds = s.are_rounds;
    due = s.due;
    unreplaced = s.unreplaced;
    within = s.within;
    reports = reports_on old bound new (OnLink (Bound role.logger.local) ∷ []) (calls_of start s.rounds ++ s.cut) bind s.reports;
    noted = noted;
  }

  pub serving_stops : (out_old out_new err_old err_new : Option (List ℕ)) (end : ProcessEnd) → Appends err_old err_new (cut_text torn)
      → ServingStops role.compact role.logger.turns start bound new out_old out_new end → ServingNotedStops role start torn old new out_old out_new err_old err_new end
  serving_stops out_old out_new err_old err_new (Node ends.NoMemory) n (s, same) = (cut_noted (Appends err_old err_new) n s, same)
  serving_stops out_old out_new err_old err_new (Node ends.WriteFault) n s = inl (served_noted (AppendsFront out_old out_new) (Appends err_old err_new) n s)
  serving_stops out_old out_new err_old err_new (Node ends.LinkFault) n s = absurd s
  serving_stops out_old out_new err_old err_new (Node ends.Usage) n s = absurd s
  serving_stops out_old out_new err_old err_new (Node (ends.Fenced newer)) n s = absurd s
  serving_stops out_old out_new err_old err_new (Node ends.Reset) n s = absurd s
  serving_stops out_old out_new err_old err_new (Node ends.Spent) n s = absurd s
  serving_stops out_old out_new err_old err_new (Node ends.ReadFault) n s = absurd s
  serving_stops out_old out_new err_old err_new (Node ends.ChildFault) n s = absurd s
  serving_stops out_old out_new err_old err_new JournalFault n (inl s, same) = (inl (cut_noted (Appends err_old err_new) n s), same)
  serving_stops out_old out_new err_old err_new JournalFault n (inr s, same) = (inr (replacing_noted (Appends err_old err_new) n s), same)
  serving_stops out_old out_new err_old err_new (BadJournal at) n s = absurd s
  serving_stops out_old out_new err_old err_new (NoJournal lack) n s = absurd s
  serving_stops out_old out_new err_old err_new InUse n s = absurd s

-- a whole life
module _ (role : JournalRole) (file : Option (List ℕ)) (torn : ℕ) (start : Place) (old opened new : Option (List DeskCall)) where
  pub kept : (Writes Notes : List ℕ → Type 0) → IsOpen (heeded_by role.logger) role.begins file torn start old opened → HasServedNoted role start torn opened new Writes Notes → IsKeeper role file old new Writes Notes
  kept Writes Notes (opening, starts, own, o) l = record {
    opening = opening;
    start = start;
    rounds = l.rounds;
    torn = torn;
    starts = starts;
    own = own;
    are_rounds = l.are_rounds;
    count_is = l.count_is;
    reports = reports_on old opened new (on_disk opening) (OnLink (Bound role.logger.local) ∷ calls_of start l.rounds) o l.reports;
    written = l.written;
    noted = l.noted;
  }

  cut : (Notes : List ℕ → Type 0) → IsOpen (heeded_by role.logger) role.begins file torn start old opened → IsCutServingNoted role start torn opened new Notes → IsCutKeeper role file old new Notes
  cut Notes (opening, starts, own, o) s = record {
    opening = opening;
    start = start;
    rounds = s.rounds;
    received = s.received;
    cut = s.cut;
    torn = torn;
    reason = s.reason;
    starts = starts;
    own = own;
    are_rounds = s.are_rounds;
    unanswered = s.unanswered;
    within = s.within;
    reports = reports_on old opened new (on_disk opening) (OnLink (Bound role.logger.local) ∷ (calls_of start s.rounds ++ s.cut)) o s.reports;
    noted = s.noted;
  }

  unreplaced : (Notes : List ℕ → Type 0) → IsOpen (heeded_by role.logger) role.begins file torn start old opened → IsCutReplacingNoted role start torn opened new Notes → IsCutCompacting role file old new Notes
  unreplaced Notes (opening, starts, own, o) s = record {
    opening = opening;
    start = start;
    rounds = s.rounds;
    cut = s.cut;
    torn = torn;
    starts = starts;
    own = own;
    are_rounds = s.are_rounds;
    due = s.due;
    unreplaced = s.unreplaced;
    within = s.within;
    reports = reports_on old opened new (on_disk opening) (OnLink (Bound role.logger.local) ∷ (calls_of start s.rounds ++ s.cut)) o s.reports;
    noted = s.noted;
  }

  unbound : (Notes : List ℕ → Type 0) → IsOpen (heeded_by role.logger) role.begins file torn start old opened → Reports opened new [] → Notes (cut_text torn) → IsUnbound (heeded_by role.logger) role.begins file old new Notes
  unbound Notes (opening, starts, own, o) t n = record {
    opening = opening;
    torn = torn;
    start = start;
    starts = starts;
    reports = subst (Reports old new) (append-nil (on_disk opening)) (reports_on old opened new (on_disk opening) [] o t);
    noted = n;
  }

  pub life_stops : (out_old out_new err_old err_new : Option (List ℕ)) (end : ProcessEnd) → IsOpen (heeded_by role.logger) role.begins file torn start old opened
      → ServingNotedStops role start torn opened new out_old out_new err_old err_new end → KeeperStops role file old new out_old out_new err_old err_new end
  life_stops out_old out_new err_old err_new (Node ends.NoMemory) o (s, same) = (inr (cut (Appends err_old err_new) o s), same)
  life_stops out_old out_new err_old err_new (Node ends.WriteFault) o (inl s) = inl (kept (AppendsFront out_old out_new) (Appends err_old err_new) o s)
  life_stops out_old out_new err_old err_new (Node ends.WriteFault) o (inr (t, n, same)) = inr (unbound (AppendsFront err_old err_new) o t n, same)
  life_stops out_old out_new err_old err_new (Node ends.LinkFault) o (t, n, same) = (unbound (Appends err_old err_new) o t n, same)
  life_stops out_old out_new err_old err_new (Node ends.Usage) o s = absurd s
  life_stops out_old out_new err_old err_new (Node (ends.Fenced newer)) o s = absurd s
  life_stops out_old out_new err_old err_new (Node ends.Reset) o s = absurd s
  life_stops out_old out_new err_old err_new (Node ends.Spent) o s = absurd s
  life_stops out_old out_new err_old err_new (Node ends.ReadFault) o s = absurd s
  life_stops out_old out_new err_old err_new (Node ends.ChildFault) o s = absurd s
  life_stops out_old out_new err_old err_new JournalFault o (inl s, same) = (inr (inl (cut (Appends err_old err_new) o s)), same)
  life_stops out_old out_new err_old err_new JournalFault o (inr s, same) = (inr (inr (unreplaced (Appends err_old err_new) o s)), same)
  life_stops out_old out_new err_old err_new (BadJournal at) o s = absurd s
  life_stops out_old out_new err_old err_new (NoJournal lack) o s = absurd s
  life_stops out_old out_new err_old err_new InUse o s = absurd s

-- an opening that stopped stops the process
pub stops_first : (role : JournalRole) (file : Option (List ℕ)) (old new : Option (List DeskCall)) (out err : Option (List ℕ)) (end : ProcessEnd) → OpeningStops (heeded_by role.logger) role.begins file old new end
    → KeeperStops role file old new out out err err end
stops_first role file old new out err (Node ends.NoMemory) s = (inl (s, refl), refl)
stops_first role file old new out err (Node ends.WriteFault) s = absurd s
stops_first role file old new out err (Node ends.LinkFault) s = absurd s
stops_first role file old new out err (Node ends.Usage) s = absurd s
stops_first role file old new out err (Node (ends.Fenced newer)) s = absurd s
stops_first role file old new out err (Node ends.Reset) s = absurd s
stops_first role file old new out err (Node ends.Spent) s = absurd s
stops_first role file old new out err (Node ends.ReadFault) s = absurd s
stops_first role file old new out err (Node ends.ChildFault) s = absurd s
stops_first role file old new out err JournalFault s = (inl (s, refl), refl)
stops_first role file old new out err (BadJournal at) s = (s, refl, refl)
stops_first role file old new out err (NoJournal lack) s = (s, refl, refl)
stops_first role file old new out err InUse s = (s, refl, refl)
