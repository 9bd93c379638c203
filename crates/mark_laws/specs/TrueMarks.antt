-- In a world with marks each mark is true: those sent to the log, those that the log has, those in its answers, and those that a server has outstanding.
use Rattle.std.specs.Prelude.{◌≡◌, ◌⊎◌, Some}
use Rattle.std.specs.List.{AllByRecursion}
use Rattle.ft_io.specs.declared.Key.{Key}
use Rattle.seq_arith.specs.Mark.{Mark, MarkBody}
use Rattle.seq_arith.specs.Mark.MarkBody.{MarkMsg, HeldMsg}
use Rattle.ft_model.specs.Log.{Log, Entry, entry_of}
use Rattle.mark_laws.specs.MarkedLog.{no_mark}
use Rattle.mark_laws.specs.Marking.{outstanding_in}
use Rattle.mark_laws.specs.Runs.{IsRunOf}
use Rattle.mark_laws.specs.MarkedNode.{Marker, MarkedNode}
use Rattle.mark_laws.specs.MarkedWorld.{MarkedWorld, Parcel}
use Rattle.mark_laws.specs.MarkedWorld.Parcel.{Usual, Mark_sent, Mark_answered}

-- a mark of a key is true of the key's entry
abbrev pub IsTrueMark : {State : Type 0} → Marker State → Log → Key → Mark → Type 0
IsTrueMark by log key m = (e : Entry) × (entry_of key log ≡ Some e) × IsRunOf by.service by.writing e m

abbrev pub IsTrueOrNone : {State : Type 0} → Marker State → Log → Key → Mark → Type 0
IsTrueOrNone by log key m = (m ≡ no_mark) ⊎ IsTrueMark by log key m

abbrev pub ReportsTrueMark : {State : Type 0} → Marker State → Log → MarkBody → Type 0
ReportsTrueMark by log (MarkMsg key m) = IsTrueMark by log key m
ReportsTrueMark by log (HeldMsg key m) = IsTrueOrNone by log key m
ReportsTrueMark by log _ = Unit {0}

abbrev pub HasTrueMark : {State : Type 0} → Marker State → Log → Parcel → Type 0
HasTrueMark by log (Usual packet) = Unit {0}
HasTrueMark by log (Mark_sent message) = ReportsTrueMark by log message.body
HasTrueMark by log (Mark_answered message) = ReportsTrueMark by log message.body

pub record MarksAreTrue {State : Type 0} (by : Marker State) (w : MarkedWorld) : Type 0 where
  pub under_way : AllByRecursion (HasTrueMark by w.log.log) w.parcels
  pub kept : (key : Key) → IsTrueOrNone by w.log.log key (w.log.marks key)
  pub outstanding : (node : MarkedNode) → w.node ≡ Some node → (key : Key) → AllByRecursion (IsTrueMark by w.log.log key) (outstanding_in (node.marking key))
