use Rattle.std.proofs.Common.{◌≡◌, ◌∙◌, List, ℕ, length, sym, ap, ap₂, arith}
use Rattle.kept_log.specs.Format.{seal, block, next_tip, IsRound}
use Rattle.kept_log.proofs.Drafts.{flushed}
use Rattle.kept_log.proofs.draft.Draft.flush.Goals as goal

pub returns-clause-written : goal.returns-clause-written
returns-clause-written g c =
    let items : List ℕ = c.self.inside.body.items in
    let tip : c.args.self.now.tip ≡ c.self.inside.tip = ap (λ s. s.tip) (sym c.self.view_is) in
    let body : c.args.self.now.body ≡ items = ap (λ s. s.body) (sym c.self.view_is) in
    let few : IsRound c.args.self.now.body = omega (arith, ap length body, c.self.invariant) in
    let written : c.deref-3.result.now ≡ block c.args.self.now.tip c.args.self.now.body =
    c.deref-3.ensures.value ∙ (c.in_ok-block.ensures ∙ ap₂ block (sym tip) (c.deref-2.ensures.value ∙ sym body)) in
    let counted : length items ≡ c.len.result = omega (arith, c.len.ensures, c.self.inside.body.ok.0) in
    let next : c.pass.new.self ≡ next_tip c.args.self.now.tip c.args.self.now.body =
    c.pass.ensures items counted (c.seal_of-digest.ensures ∙ ap (seal c.self.inside.tip) c.deref.ensures.value) ∙ ap₂ next_tip (sym tip) (sym body) in
    flushed c.deref-3.result.now (g.K.Desk.aside c.args.desk.now) (g.K.Desk.aside c.append_aside.new.self) c.args.self.now
    (record { tip = c.pass.new.self; body = c.clear.new.self.items }) few written next c.clear.ensures.items c.in_ok-append_aside.ensures.appended
