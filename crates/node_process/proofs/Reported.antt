-- The count of failed writes to standard error, over a run and the report of its end.
use Rattle.std.proofs.Common.{◌≡◌, ◌∙◌, ◌⊎◌, ◌≤◌, ℕ, Bool, false, inl, inr, refl, sym, subst, arith, Option, List}
use Rattle.ft_io.specs.Faults.{Rose}
use Rattle.link_parts.specs.Ends.{is_fault_status}
use Rattle.link_parts.specs.declared.status.NodeEnd.TheVariants as node
use Rattle.node_link.specs.Outcome.{IsStill}
use Rattle.journal_parts.specs.Ends.{ReportsEnd, code_of, is_fault}
use Rattle.journal_parts.specs.declared.status.ProcessEnd.{ProcessEnd}
use Rattle.journal_parts.specs.declared.status.ProcessEnd.TheVariants.{Node, JournalFault, BadJournal, NoJournal, InUse}

-- only a failed write has this status
is_write : (end : ProcessEnd) → code_of end ≡ 5 → end ≡ Node node.WriteFault
is_write (Node node.Usage) e = absurd (omega (arith, e))
is_write (Node node.NoMemory) e = absurd (omega (arith, e))
is_write (Node node.LinkFault) e = absurd (omega (arith, e))
is_write (Node node.WriteFault) e = refl
is_write (Node (node.Fenced newer)) e = absurd (omega (arith, e))
is_write (Node node.Reset) e = absurd (omega (arith, e))
is_write (Node node.Spent) e = absurd (omega (arith, e))
is_write (Node node.ReadFault) e = absurd (omega (arith, e))
is_write (Node node.ChildFault) e = absurd (omega (arith, e))
is_write JournalFault e = absurd (omega (arith, e))
is_write (BadJournal at) e = absurd (omega (arith, e))
is_write (NoJournal lack) e = absurd (omega (arith, e))
is_write InUse e = absurd (omega (arith, e))

-- the count before the run, after it, and after the report
module _ (old mid new : ℕ) (never : old ≤ mid) where
  pub rose_by_then : Rose mid new → Rose old new
  rose_by_then rose = (omega (arith, rose.0, never), omega (arith, rose.1, never))

  pub still_by_then : IsStill old new → IsStill mid new
  still_by_then still = λ rose. still (rose_by_then rose)

  pub write_failed : {Writes : Type 0} (end : ProcessEnd) (taken_mid taken_new : Option (List ℕ)) (code : ℕ) → ReportsEnd end taken_mid taken_new mid new code
      → (end ≡ Node node.WriteFault → new ≡ mid) → (end ≡ Node node.WriteFault → Writes ⊎ Rose old mid) → code ≡ 5 → Writes ⊎ Rose old new
  write_failed end taken_mid taken_new code (inr (is, front, rose)) unreported cause five = inr (rose_by_then rose)
  write_failed {Writes} end taken_mid taken_new code (inl (is, whole)) unreported cause five =
      let written : end ≡ Node node.WriteFault = is_write end (sym is ∙ five) in
      subst (λ n. Writes ⊎ Rose old n) (sym (unreported written)) (cause written)

-- what rose before the report has risen after one that writes nothing
pub rose_before : (old mid new : ℕ) → new ≡ mid → Rose old mid → Rose old new
rose_before old mid new same rose = subst (Rose old) (sym same) rose
