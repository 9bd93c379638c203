use Rattle.std.proofs.Common.{◌≡◌, ◌∙◌, List, ℕ, sym, subst, arith}
use Rattle.long_laws.specs.Snapshot.{joined, messages_of}
use Rattle.ft_model.specs.Log.{Entry}
use Rattle.kept_log.specs.Draft.{IsWritten}
use Rattle.kept_log.proofs.Files.{quiet_on}
use Rattle.kept_log.proofs.Said.{one_more_at, there}
use Rattle.kept_log.proofs.snapshot.write_entries.Goals as goal
use Rattle.kept_log.proofs.snapshot.write_entries.Goals.{in-Some+in_ok-write_entry, in_default}

pub loop-i-preserved : goal.loop-i-preserved
loop-i-preserved g c =
    let t = g.K.Disk.reported in
    let a = g.K.Desk.aside in
    let s = c.loop-i.invariant in
    elim c.match-at.branch [
      | in-Some+in_ok-write_entry w ↦
          let e : Entry = w.in-Some.entry.now in
          let wrote = subst (λ boot. (pieces : List (List ℕ)) × (joined pieces ≡ e.bytes)
          × IsWritten (a c.loop-i.desk) c.loop-i.draft (a w.write_entry.new.desk) w.write_entry.new.draft (messages_of boot e pieces)) w.boot.ensures w.in_ok-write_entry.ensures.written in
          rw w.desk-is (rw w.draft-is (
            one_more_at c.args.store.now.boot c.loop-i.i c.args.store.now.entries e (a c.args.desk.now) (a c.loop-i.desk) (a w.write_entry.new.desk) c.args.draft.now c.loop-i.draft
                w.write_entry.new.draft (sym w.in-Some.ensures) s.0 wrote,
            quiet_on (t c.args.desk.now) (t c.loop-i.desk) (t w.write_entry.new.desk) s.1 w.write_entry.ensures.reported,
            omega (arith, s.2, w.write_entry.ensures.never_falls),
            w.write_entry.ensures.beside ∙ s.3,
          ))
      | in_default w ↦ absurd (there c.loop-i.i c.args.store.now.entries (omega (arith, c.loop-i-test.true, c.count-i-end.ensures.value)) (sym w.in_default.ensures))
    ]
