-- How a logger with a journal ends early: its exit status, and the line that reports it.
use Rattle.std.specs.Prelude.{◌≡◌, ◌⊎◌, ◌==◌, ℕ, Bool, false, Option, Result, MatchResult, List, [], ◌++◌, codes, if◌then◌else◌}
use Rattle.std.specs.Fmt.{decimal}
use Rattle.std.specs.Io.KnownBytes.{Appends}
use Rattle.ft_io.specs.Faults.{Rose}
use Rattle.ft_io.specs.Sink.{AppendsFront}
use Rattle.disk.specs.declared.shelf_end.ShelfEnd.{ShelfEnd}
use Rattle.disk.specs.declared.shelf_end.ShelfEnd.TheVariants as shelf
use Rattle.kept_log.specs.declared.journal.KeepEnd.{KeepEnd}
use Rattle.kept_log.specs.declared.journal.KeepEnd.TheVariants as keep
use Rattle.kept_log.specs.declared.opening.OpenEnd.{OpenEnd}
use Rattle.kept_log.specs.declared.opening.OpenEnd.TheVariants as open_end
use Rattle.link_parts.specs.Ends as node
use Rattle.link_parts.specs.declared.status.NodeEnd.TheVariants as node_end
use Rattle.journal_parts.specs.declared.status.ProcessEnd.{ProcessEnd}
use Rattle.journal_parts.specs.declared.status.ProcessEnd.TheVariants.{Node, JournalFault, BadJournal, NoJournal, InUse}
use Rattle.journal_parts.specs.declared.status.Lack.{Lack}
use Rattle.journal_parts.specs.declared.status.Lack.TheVariants.{Missing, Present, Empty, Unfinished, Older, OtherProfile}

abbrev pub code_of : ProcessEnd → ℕ
code_of (Node end) = node.code_of end
code_of JournalFault = 11
code_of (BadJournal at) = 12
code_of (NoJournal lack) = 12
code_of InUse = 13

-- the faults of `node`; a failed call on the journal is none of them
abbrev pub is_fault : ProcessEnd → Bool
is_fault (Node end) = node.is_fault end
is_fault _ = false

-- P, unless such a fault ended the process
abbrev pub UnlessFault : {T : Type 0} → Result T ProcessEnd → Type 0 → Type 0
UnlessFault result P = MatchResult result (λ _. P) (λ end. is_fault end ≡ false → P)

abbrev pub place_text : ℕ → List ℕ
place_text at = codes "ftnode: journal: byte " ++ (decimal at ++ codes "\n")

abbrev pub lack_text : Lack → List ℕ
lack_text Missing = codes "ftnode: journal: no such file\n"
lack_text Present = codes "ftnode: journal: the file is there\n"
lack_text Empty = codes "ftnode: journal: the file is empty\n"
lack_text Unfinished = codes "ftnode: journal: the file ends in its header\n"
lack_text Older = codes "ftnode: journal: version 1\n"
lack_text OtherProfile = codes "ftnode: journal: another profile\n"

-- the line of a start that has cut off so many bytes: none if there were none
abbrev pub cut_line : (torn : ℕ) → List ℕ
cut_line torn = codes "ftnode: journal: cut " ++ (decimal torn ++ codes " bytes\n")

abbrev pub cut_text : (torn : ℕ) → List ℕ
cut_text torn = if torn == 0 then [] else cut_line torn

abbrev pub text_of : ProcessEnd → List ℕ
text_of (Node end) = node.text_of end
text_of JournalFault = codes "ftnode: journal fault\n"
text_of (BadJournal at) = place_text at
text_of (NoJournal lack) = lack_text lack
text_of InUse = codes "ftnode: journal in use\n"

-- the complete line is written and the status is the end's; or that write failed, and the status is that of a failed write
abbrev pub ReportsEnd : ProcessEnd → (err_old err_new : Option (List ℕ)) → (faults_old faults_new : ℕ) → (code : ℕ) → Type 0
ReportsEnd end err_old err_new faults_old faults_new code =
    ((code ≡ code_of end) × Appends err_old err_new (text_of end))
    ⊎ ((code ≡ 5) × AppendsFront err_old err_new (text_of end) × Rose faults_old faults_new)

-- what stops the parts stops the process
abbrev pub from_shelf : ShelfEnd → ProcessEnd
from_shelf shelf.Failed = JournalFault
from_shelf shelf.InUse = InUse
from_shelf shelf.Missing = NoJournal Missing
from_shelf shelf.Present = NoJournal Present

abbrev pub from_open : OpenEnd → ProcessEnd
from_open open_end.NoMemory = Node node_end.NoMemory
from_open open_end.Failed = JournalFault
from_open open_end.Empty = NoJournal Empty
from_open open_end.Unfinished = NoJournal Unfinished
from_open open_end.Older = NoJournal Older
from_open open_end.OtherGrammar = NoJournal OtherProfile
from_open (open_end.Wrong at) = BadJournal at

abbrev pub from_keep : KeepEnd → ProcessEnd
from_keep keep.NoMemory = Node node_end.NoMemory
from_keep keep.Failed = JournalFault
