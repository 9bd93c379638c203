use Rattle.std.proofs.Common.{◌∙◌, ◌∷◌, [], sym, subst}
use Rattle.seq_arith.specs.Message.Body.{HelloMsg}
use Rattle.long_laws.specs.Snapshot.{said}
use Rattle.disk.specs.Aside.{HasAside}
use Rattle.kept_log.specs.Draft.{IsWritten}
use Rattle.kept_log.specs.Format.{front}
use Rattle.kept_log.proofs.Said.{new_file}
use Rattle.kept_log.proofs.snapshot.write_snapshot.Goals as goal

pub returns-clause-written : goal.returns-clause-written
returns-clause-written g c =
    let a = g.K.Desk.aside in
    let made = c.args.made.now in
    let hello = subst (λ boot. IsWritten (a c.begin.new.desk) c.in_ok-draft.draft (a c.write_boot.new.desk) c.write_boot.new.draft (said boot HelloMsg ∷ [])) c.boot.ensures
    c.in_ok-write_boot.ensures.written in
    let n = new_file made c.args.store.now (a c.begin.new.desk) (a c.write_boot.new.desk) (a c.write_entries.new.desk) (a c.flush.new.desk) c.in_ok-draft.draft c.write_boot.new.draft
    c.write_entries.new.draft c.flush.new.self c.in_ok-draft.ensures.begun hello c.in_ok-write_entries.ensures.written c.in_ok-flush.ensures.written c.in_ok-flush.ensures.empty in (
      n.bodies,
      n.messages,
      n.snapshot,
      n.kept,
      c.tip.ensures ∙ n.tip_is,
      subst (λ aside. HasAside aside (front made n.bodies)) (sym c.in_ok-sync_aside.ensures.synced) n.written,
    )
