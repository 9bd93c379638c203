-- How a process ends early: its exit status, and the line that reports it.
use Rattle.std.specs.Prelude.{◌≡◌, ◌⊎◌, ◌==◌, ◌||◌, ℕ, Bool, true, false, Option, Result, Ok, Err, MatchResult, List, [], ◌++◌, codes}
use Rattle.std.specs.Fmt.{decimal}
use Rattle.std.specs.Io.KnownBytes.{Appends}
use Rattle.ft_io.specs.Faults.{Rose}
use Rattle.ft_io.specs.Sink.{AppendsFront}
use Rattle.link_parts.specs.declared.status.NodeEnd.{NodeEnd}
use Rattle.link_parts.specs.declared.status.NodeEnd.TheVariants.{Usage, NoMemory, LinkFault, WriteFault, Fenced, Reset, Spent, ReadFault, ChildFault}

abbrev pub code_of : NodeEnd → ℕ
code_of Usage = 2
code_of NoMemory = 3
code_of LinkFault = 4
code_of WriteFault = 5
code_of (Fenced newer) = 6
code_of Reset = 7
code_of Spent = 8
code_of ReadFault = 9
code_of ChildFault = 10

-- the ends that a failed call causes: a bind, a write, a read, or a start of a child or a wait for one
abbrev pub is_fault : NodeEnd → Bool
is_fault LinkFault = true
is_fault WriteFault = true
is_fault ReadFault = true
is_fault ChildFault = true
is_fault _ = false

-- and their statuses
abbrev pub is_fault_status : (code : ℕ) → Bool
is_fault_status code = code == 4 || (code == 5 || (code == 9 || code == 10))

-- P, unless a failed call ended the process
abbrev pub UnlessFault : {T : Type 0} → Result T NodeEnd → Type 0 → Type 0
UnlessFault result P = MatchResult result (λ _. P) (λ end. is_fault end ≡ false → P)

abbrev pub fence_text : ℕ → List ℕ
fence_text newer = codes "ftnode: fenced by boot " ++ (decimal newer ++ codes "\n")

-- a failed write is not reported
abbrev pub text_of : NodeEnd → List ℕ
text_of Usage = codes "ftnode: usage\n"
text_of NoMemory = codes "ftnode: no memory\n"
text_of LinkFault = codes "ftnode: link fault\n"
text_of WriteFault = []
text_of (Fenced newer) = fence_text newer
text_of Reset = codes "ftnode: reset\n"
text_of Spent = codes "ftnode: spent\n"
text_of ReadFault = codes "ftnode: read fault\n"
text_of ChildFault = codes "ftnode: child fault\n"

-- the line is written whole and the status is the end's; or that write failed, and the status is 5
abbrev pub ReportsEnd : NodeEnd → (err_old err_new : Option (List ℕ)) → (faults_old faults_new : ℕ) → (code : ℕ) → Type 0
ReportsEnd end err_old err_new faults_old faults_new code =
    ((code ≡ code_of end) × Appends err_old err_new (text_of end))
    ⊎ ((code ≡ 5) × AppendsFront err_old err_new (text_of end) × Rose faults_old faults_new)

-- the status of an end, and what is written to err: the whole line, or a prefix of it at status 5
abbrev pub IsReported : Result (Unit {0}) NodeEnd → (err_old err_new : Option (List ℕ)) → (code : ℕ) → Type 0
IsReported (Ok _) err_old err_new code = (code ≡ 0) × (err_new ≡ err_old)
IsReported (Err end) err_old err_new code =
    ((code ≡ code_of end) × Appends err_old err_new (text_of end)) ⊎ ((code ≡ 5) × AppendsFront err_old err_new (text_of end))
