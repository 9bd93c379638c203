use Rattle.std.proofs.Common.{◌≡◌, ◌∙◌, inl, inr, refl, subst, List, ℕ, [], ◌∷◌, true, false}
use Rattle.ft_io.specs.Reported.{Reports}
use Rattle.disk.specs.declared.calls.DiskCall.TheVariants.{Appended, Synced}
use Rattle.disk.specs.CallRecord.{on_disk}
use Rattle.ft_io.proofs.Recordings.{reports_on}
use Rattle.kept_log.specs.Format.{header}
use Rattle.kept_log.specs.Startup.{HasNotBegun}
use Rattle.kept_log.specs.declared.journal.KeepEnd.TheVariants.{Failed}
use Rattle.kept_log.proofs.Settled.{if_err}
use Rattle.kept_log.proofs.opening.make.Goals as goal

pub returns-in_err-append-clause-stopped : goal.returns-in_err-append-clause-stopped
returns-in_err-append-clause-stopped g c =
    let t = g.D.Disk.reported in
    let new = header c.args.made.now in
    let is : c.deref.result.now ≡ new = c.deref.ensures.value ∙ c.in_ok-header.ensures in
    if_err c.from_residual-in_err-append.result Failed (HasNotBegun c.args.made.now (t c.args.disk.now) (t c.append.new.self)) c.from_residual-in_err-append.ensures.1
    (Appended new true ∷ [], inr (refl, refl), subst (λ (b : List ℕ). Reports (t c.args.disk.now) (t c.append.new.self) (on_disk (Appended b true ∷ []))) is c.in_err-append.ensures.reported)

pub returns-in_err-sync-clause-stopped : goal.returns-in_err-sync-clause-stopped
returns-in_err-sync-clause-stopped g c =
    let t = g.D.Disk.reported in
    let new = header c.args.made.now in
    let is : c.deref.result.now ≡ new = c.deref.ensures.value ∙ c.in_ok-header.ensures in
    let wrote : Reports (t c.args.disk.now) (t c.append.new.self) (on_disk (Appended new false ∷ [])) =
    subst (λ (b : List ℕ). Reports (t c.args.disk.now) (t c.append.new.self) (on_disk (Appended b false ∷ []))) is c.in_ok-append.ensures.reported in
    if_err c.from_residual-in_err-sync.result Failed (HasNotBegun c.args.made.now (t c.args.disk.now) (t c.sync.new.self)) c.from_residual-in_err-sync.ensures.1 (
      Appended new false ∷ Synced true ∷ [],
      inl (refl, inr (refl, refl)),
      reports_on (t c.args.disk.now) (t c.append.new.self) (t c.sync.new.self) (on_disk (Appended new false ∷ [])) (on_disk (Synced true ∷ [])) wrote c.in_err-sync.ensures.reported,
    )

pub returns-clause-made : goal.returns-clause-made
returns-clause-made g c =
    let t = g.D.Disk.reported in
    let new = header c.args.made.now in
    let is : c.deref.result.now ≡ new = c.deref.ensures.value ∙ c.in_ok-header.ensures in
    let wrote : Reports (t c.args.disk.now) (t c.append.new.self) (on_disk (Appended new false ∷ [])) =
    subst (λ (b : List ℕ). Reports (t c.args.disk.now) (t c.append.new.self) (on_disk (Appended b false ∷ []))) is c.in_ok-append.ensures.reported in
    reports_on (t c.args.disk.now) (t c.append.new.self) (t c.sync.new.self) (on_disk (Appended new false ∷ [])) (on_disk (Synced false ∷ [])) wrote c.in_ok-sync.ensures.reported
