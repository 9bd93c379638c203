use Rattle.std.proofs.Common.{arith, ◌∙◌, ◌+◌, ◌≤◌, sym, ap, subst, sum, max, length, take, drop}
use Rattle.std.proofs.lemmas.Result.{on_ok_weaker}
use Rattle.server_trait.specs.Service.{machine}
use Rattle.plain_connection.specs.Made.{after_read}
use Rattle.ft_model.specs.Reads.{with_read}
use Rattle.plain_connection.specs.State.{IsServed}
use Rattle.plain_connection.proofs.OneRead.{served_on}
use Rattle.plain_connection.proofs.connection.PlainConnection.read.Goals as goal

pub add_read-requires : goal.add_read-requires
add_read-requires g c =
    subst (λ x. sum x.point.lengths + c.args.len ≤ max x.point.fetched (length x.point.taken)) (sym c.self.view_is) (omega (arith, c.requires.there.0))

pub returns-clause-served : goal.returns-clause-served
returns-clause-served g c =
    let service = machine (g.S.Service.started c.args.self.now.kind) g.S.Service.after g.S.Service.greeting in
    let made = c.in_ok-read.ensures c.args.self.now.kind in
    on_ok_weaker c.add_read.result
    (λ e. subst (λ kind. IsServed service (record { kind = kind; point = c.add_read.new.self; made = c.read.new.self })) (sym (ap (λ x. x.kind) c.self.view_is))
    (served_on service c.args.self.now c.args.len c.add_read.new.self c.read.new.self c.requires.served c.requires.there
    (e ∙ ap (λ x. with_read c.args.len x.point) c.self.view_is)
    (made ∙ (ap (after_read service c.self.inside.made) c.unread.ensures
    ∙ ap (λ x. after_read service x.made (take c.args.len (drop (sum x.point.lengths) x.point.taken))) c.self.view_is))))
    c.add_read.ensures
