use Rattle.std.proofs.Common.{◌≡◌, ◌∙◌, inl, inr, refl, subst, List, [], ◌∷◌, true, false}
use Rattle.ft_io.specs.Reported.{Reports}
use Rattle.disk.specs.declared.calls.DiskCall.{DiskCall}
use Rattle.disk.specs.declared.calls.DiskCall.TheVariants.{Appended, Synced}
use Rattle.disk.specs.Remains.{IsFrontOf}
use Rattle.disk.specs.CallRecord.{on_disk}
use Rattle.kept_log.specs.Format.{block, keeping}
use Rattle.ft_io.proofs.Recordings.{reports_on}
use Rattle.ft_io.proofs.Outcomes.{at_err}
use Rattle.kept_log.proofs.tip.Tip.keep.Goals as goal

pub returns-in_err-append-clause-stopped : goal.returns-in_err-append-clause-stopped
returns-in_err-append-clause-stopped g c =
    let t = g.D.Disk.reported in
    let new = block c.args.self.now c.args.body.now in
    let is : c.deref.result.now ≡ new = c.deref.ensures.value ∙ c.in_ok-block.ensures in
    let stopped : (x : List DiskCall) × IsFrontOf (keeping c.args.self.now c.args.body.now) x × Reports (t c.args.disk.now) (t c.append.new.self) (on_disk x) = (
      Appended new true ∷ [],
      inr (refl, refl),
      subst (λ b. Reports (t c.args.disk.now) (t c.append.new.self) (on_disk (Appended b true ∷ []))) is c.in_err-append.ensures.reported,
    ) in
    at_err c.from_residual-in_err-append.result stopped

pub returns-in_err-sync-clause-stopped : goal.returns-in_err-sync-clause-stopped
returns-in_err-sync-clause-stopped g c =
    let t = g.D.Disk.reported in
    let new = block c.args.self.now c.args.body.now in
    let is : c.deref.result.now ≡ new = c.deref.ensures.value ∙ c.in_ok-block.ensures in
    let wrote : Reports (t c.args.disk.now) (t c.append.new.self) (on_disk (Appended new false ∷ [])) =
    subst (λ b. Reports (t c.args.disk.now) (t c.append.new.self) (on_disk (Appended b false ∷ []))) is c.in_ok-append.ensures.reported in
    let stopped : (x : List DiskCall) × IsFrontOf (keeping c.args.self.now c.args.body.now) x × Reports (t c.args.disk.now) (t c.sync.new.self) (on_disk x) = (
      Appended new false ∷ Synced true ∷ [],
      inl (refl, inr (refl, refl)),
      reports_on (t c.args.disk.now) (t c.append.new.self) (t c.sync.new.self) (on_disk (Appended new false ∷ [])) (on_disk (Synced true ∷ [])) wrote c.in_err-sync.ensures.reported,
    ) in
    at_err c.from_residual-in_err-sync.result stopped
