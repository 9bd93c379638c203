-- In which state the connections of a node that marks are between two turns, and what a turn of one does to its marks.
use Rattle.std.specs.Prelude.{◌≡◌, ℕ, ◌<◌, Option, Some, IfSome, List}
use Rattle.std.specs.List.{AllByRecursion}
use Rattle.ft_io.specs.declared.Key.{Key}
use Rattle.seq_arith.specs.declared.kinds.Grammar.{Grammar}
use Rattle.tcp_rules.specs.Coming.{Early}
use Rattle.server_trait.specs.Service.{AreBytes}
use Rattle.ft_model.specs.Node.{Place}
use Rattle.ft_model.specs.Node.Place.{Lives}
use Rattle.ft_model.specs.Point.{Point}
use Rattle.ft_model.specs.Wire.{Wire}
use Rattle.mark_laws.specs.Marking.{Marking, IsSettled, with_new, new_marks}
use Rattle.mark_laws.specs.MarkedNode.{Marker}
use Rattle.conn_marks.specs.KeyMarks.{KeyMarks, marking_in, Changes}
use Rattle.conn_marks.specs.MarkSends.{SendsMarks}

-- what is stored of the marks is what the law has
pub record Keeps {S : Type 0} (by : Marker S) (marking : Key → Marking) (m : KeyMarks) : Type 0 where
  pub every : m.every ≡ by.every
  pub each : (key : Key) → marking_in m key ≡ marking key

-- text that is held is bytes
abbrev pub HoldsBytes : Early → Type 0
HoldsBytes early = AllByRecursion (λ place. IfSome place (λ byte. byte < 256)) early.text

-- between two turns what a live connection has taken is bytes, and no mark of it is due
pub record IsSettledPoint {S : Type 0} (by : Marker S) (m : Marking) (p : Point) : Type 0 where
  pub taken : AreBytes p.taken
  pub held : HoldsBytes p.early
  pub settled : IsSettled by.service by.every m p

abbrev pub IsSettledPlace : {S : Type 0} → Marker S → (Key → Marking) → Place → Type 0
IsSettledPlace by marking (Lives p) = IsSettledPoint by (marking p.key) p
IsSettledPlace by marking _ = Unit {0}

abbrev pub AllSettled : {S : Type 0} → Marker S → (Key → Marking) → List Place → Type 0
AllSettled by marking places = AllByRecursion (IsSettledPlace by marking) places

-- after a turn that leads to a point, the mark of its key is made and sent, if one is due
pub record MarksNew {S : Type 0} (by : Marker S) (grammar : Grammar) (boot : ℕ) (key : Key) (p : Point) (was now : KeyMarks) (from : ℕ)
    (old new : List Wire) : Type 0 where
  pub changes : Changes key (with_new by.service by.writing by.every p (marking_in was key)) was now
  pub sends : SendsMarks grammar boot key from (new_marks by.service by.writing by.every (marking_in was key) p) old new

-- after a turn: if the key is then live, its mark is made and sent, if one is due; otherwise nothing changes
abbrev pub MarksPlace : {S : Type 0} → Marker S → Grammar → (boot : ℕ) → Key → (from : ℕ) → Option Place → (was now : KeyMarks) → (old new : List Wire)
    → Type 0
MarksPlace by grammar boot key from (Some (Lives p)) was now old new = AreBytes p.taken → MarksNew by grammar boot key p was now from old new
MarksPlace by grammar boot key from _ was now old new = (now ≡ was) × (new ≡ old)
