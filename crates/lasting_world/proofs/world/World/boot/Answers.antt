use Rattle.std.proofs.Common.{◌≡◌, ◌∙◌, ◌≤◌, ◌<◌, subst, refl, arith, true, false, is_some, option_map}
use Rattle.lasting_world.specs.Steps.{KeepsSent, wires_kept}
use Rattle.lasting_world.specs.WorldView.{kept, server_of, service_of}
use Rattle.lasting_world.proofs.Booted.{boots}
use Rattle.lasting_world.proofs.Happenings.{up_refused, boot_refused}
use Rattle.lasting_world.proofs.Outcomes.{same_there}
use Rattle.lasting_world.proofs.world.World.boot.Goals as goal

pub returns-then-is_some-clause-ends : goal.returns-then-is_some-clause-ends
returns-then-is_some-clause-ends g c =
    let w = c.args.self.now in
    let up : is_some (option_map server_of w.node) ≡ true = same_there server_of w.node ∙ cc in
    ((λ v st. up_refused (service_of w) (kept w) (kept w) c.args.boot c.args.isn up v st), refl)

pub returns-then-boot-self-clause-ends : goal.returns-then-boot-self-clause-ends
returns-then-boot-self-clause-ends g c =
    let w = c.args.self.now in
    let down : is_some (option_map server_of w.node) ≡ false = same_there server_of w.node ∙ cc in
    let low : c.args.boot ≤ w.boot = omega arith in
    ((λ v st. boot_refused (service_of w) (kept w) (kept w) c.args.boot c.args.isn down low v st), refl)

pub returns-clause-done : goal.returns-clause-done
returns-clause-done g c =
    let w = c.args.self.now in
    let down : is_some (option_map server_of w.node) ≡ false = same_there server_of w.node ∙ cc in
    let larger : w.boot < c.args.boot = omega arith in
    boots g.S.Service (kept w) _ (kept c.keep_sent.new.self) c.args.boot c.args.isn c.in_ok-boot.field-0 down larger c.in_ok-boot.ensures.stands c.in_ok-boot.ensures.hello c.in_ok-boot.ensures.same
    (λ j. record (kept w) { boot = c.args.boot; node = option_map server_of (c.replace.ensures.after j) })
    (subst (λ n. KeepsSent (wires_kept n) (record (kept w) { boot = c.args.boot; node = option_map server_of c.replace.new.self }) (kept c.keep_sent.new.self)) c.replace.ensures.after c.in_ok-keep_sent.ensures)
