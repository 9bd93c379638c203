use Rattle.std.proofs.Common.{◌≡◌, ◌∙◌, sym, ap, subst}
use Rattle.node_link.specs.ServerTurns.{address_of, second_for}
use Rattle.node_link.specs.ServerParts.{HasHanded}
use Rattle.node_link.proofs.Serviced.{sent_once, sent_twice}
use Rattle.node_link.proofs.server.send_one.Goals as goal

pub returns-in-Some-clause-sent : goal.returns-in-Some-clause-sent
returns-in-Some-clause-sent g c =
    let to : c.address_of.result ≡ address_of c.args.loggers.first c.args.packet.now.to = c.address_of.ensures ∙ ap (address_of c.args.loggers.first) c.to.ensures in
    let too = sym (ap (second_for c.args.loggers) c.to-2.ensures) ∙ (sym c.second_for.ensures ∙ c.in-Some.is) in
    sent_twice c.args.loggers c.args.packet.now c.in-Some.second (g.L.Link.reported c.args.link.now) (g.L.Link.reported c.hand.new.link) (g.L.Link.reported c.hand-in-Some.new.link)
    c.args.counts.now c.hand.new.counts c.hand-in-Some.new.counts too
    (subst (λ at. HasHanded at c.args.packet.now.bytes (g.L.Link.reported c.args.link.now) (g.L.Link.reported c.hand.new.link) c.args.counts.now c.hand.new.counts) to
    (subst (λ bytes. HasHanded c.address_of.result bytes (g.L.Link.reported c.args.link.now) (g.L.Link.reported c.hand.new.link) c.args.counts.now c.hand.new.counts) c.bytes.ensures
    c.hand.ensures.handed))
    (subst (λ bytes. HasHanded c.in-Some.second bytes (g.L.Link.reported c.hand.new.link) (g.L.Link.reported c.hand-in-Some.new.link) c.hand.new.counts c.hand-in-Some.new.counts)
    c.bytes-in-Some.ensures c.hand-in-Some.ensures.handed)

pub returns-in_default-clause-sent : goal.returns-in_default-clause-sent
returns-in_default-clause-sent g c =
    let to : c.address_of.result ≡ address_of c.args.loggers.first c.args.packet.now.to = c.address_of.ensures ∙ ap (address_of c.args.loggers.first) c.to.ensures in
    let none = sym (ap (second_for c.args.loggers) c.to-2.ensures) ∙ (sym c.second_for.ensures ∙ c.in_default.is) in
    sent_once c.args.loggers c.args.packet.now (g.L.Link.reported c.args.link.now) (g.L.Link.reported c.hand.new.link) c.args.counts.now c.hand.new.counts none
    (subst (λ at. HasHanded at c.args.packet.now.bytes (g.L.Link.reported c.args.link.now) (g.L.Link.reported c.hand.new.link) c.args.counts.now c.hand.new.counts) to
    (subst (λ bytes. HasHanded c.address_of.result bytes (g.L.Link.reported c.args.link.now) (g.L.Link.reported c.hand.new.link) c.args.counts.now c.hand.new.counts) c.bytes.ensures
    c.hand.ensures.handed))
