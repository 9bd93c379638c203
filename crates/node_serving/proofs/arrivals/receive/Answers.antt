use Rattle.std.proofs.Common.{◌==◌, refl, ap, ◌∙◌, sym}
use Rattle.std.proofs.lemmas.Result.{on_ok_weaker}
use Rattle.std.proofs.lemmas.Bool.{and_right}
use Rattle.server_trait.specs.Service.{machine}
use Rattle.logger_wire.specs.Value.{body_of, message_of}
use Rattle.ft_model.specs.Node.Input.{Message_comes}
use Rattle.ft_model.specs.ServingTurn.{names}
use Rattle.node_serving.specs.LogMessages.{logged_in}
use Rattle.node_serving.specs.Identity.{node_of, grammar_in}
use Rattle.node_serving.proofs.Heeded.{message_is, opened_range, others_unreceived, others_keep}
use Rattle.node_serving.proofs.OneKey.{none_concerned}
use Rattle.node_serving.proofs.Keyed.{none_alone}
use Rattle.node_serving.specs.Clients.{known_after, known_in}
use Rattle.node_serving.proofs.arrivals.receive.Goals as goal

pub returns-in-Stable-clause-turn : goal.returns-in-Stable-clause-turn
returns-in-Stable-clause-turn g c = on_ok_weaker c.receive_known.result
    (λ reported boot. reported _ (record { boot = boot; says = ap (λ b. logged_in (body_of b)) c.in-Stable.is; client = refl })) c.receive_known.ensures.turn

pub returns-in-Reads-clause-turn : goal.returns-in-Reads-clause-turn
returns-in-Reads-clause-turn g c = on_ok_weaker c.receive_known-in-Reads.result
    (λ reported boot. reported _ (record { boot = boot; says = ap (λ b. logged_in (body_of b)) c.in-Reads.is; client = refl })) c.receive_known-in-Reads.ensures.turn

pub returns-in-Ended-clause-turn : goal.returns-in-Ended-clause-turn
returns-in-Ended-clause-turn g c = λ boot stage places near st.
    c.end_known.ensures.turn (machine (g.S.Service.started c.args.who.kind) g.S.Service.after g.S.Service.greeting) (node_of c.args.who stage) places (message_of c.args.m.now) c.args.turn.now.sent.items
    (message_is (message_of c.args.m.now) c.args.who.boot _ boot (ap body_of c.in-Ended.is)) st

pub returns-in-Opened-clause-turn : goal.returns-in-Opened-clause-turn
returns-in-Opened-clause-turn g c = on_ok_weaker c.open_known.result
    (λ reported boot. reported (message_of c.args.m.now) (message_is (message_of c.args.m.now) c.args.who.boot _ boot (ap body_of c.in-Opened.is))) c.open_known.ensures.turn

pub returns-in-Full-clause-turn : goal.returns-in-Full-clause-turn
returns-in-Full-clause-turn g c = on_ok_weaker c.refuse_known.result
    (λ reported boot. reported (message_of c.args.m.now) (message_is (message_of c.args.m.now) c.args.who.boot _ boot (ap body_of c.in-Full.is))) c.refuse_known.ensures.turn

pub open_known-requires-clause-least : goal.open_known-requires-clause-least
open_known-requires-clause-least g c = (opened_range (grammar_in c.args.who) c.args.m.now _ c.requires.sendable c.in-Opened.is).0

pub open_known-requires-clause-most : goal.open_known-requires-clause-most
open_known-requires-clause-most g c = (opened_range (grammar_in c.args.who) c.args.m.now _ c.requires.sendable c.in-Opened.is).1

pub returns-in_default-clause-turn : goal.returns-in_default-clause-turn
returns-in_default-clause-turn g c = λ boot stage places near st.
    let node = node_of c.args.who stage in
    let message = message_of c.args.m.now in
    let other = c.in_default in
    none_concerned (machine (g.S.Service.started c.args.who.kind) g.S.Service.after g.S.Service.greeting) node (Message_comes message) c.args.slots.now.entries places c.args.turn.now.sent.items
    (λ k. and_right (message.boot == node.boot) (names message.body k)
    (others_unreceived c.args.m.now.body other.not-Opened other.not-Stable other.not-Reads other.not-Ended other.not-Full k)) st

pub returns-in-Stable-clause-alone : goal.returns-in-Stable-clause-alone
returns-in-Stable-clause-alone g c = on_ok_weaker c.receive_known.result
    (λ reported boot. reported _ (record { boot = boot; says = ap (λ b. logged_in (body_of b)) c.in-Stable.is; client = refl })) c.receive_known.ensures.alone

pub returns-in-Reads-clause-alone : goal.returns-in-Reads-clause-alone
returns-in-Reads-clause-alone g c = on_ok_weaker c.receive_known-in-Reads.result
    (λ reported boot. reported _ (record { boot = boot; says = ap (λ b. logged_in (body_of b)) c.in-Reads.is; client = refl })) c.receive_known-in-Reads.ensures.alone

pub returns-in-Ended-clause-alone : goal.returns-in-Ended-clause-alone
returns-in-Ended-clause-alone g c = λ boot stage.
    c.end_known.ensures.alone (machine (g.S.Service.started c.args.who.kind) g.S.Service.after g.S.Service.greeting) (node_of c.args.who stage) (message_of c.args.m.now) c.args.turn.now.sent.items
    (message_is (message_of c.args.m.now) c.args.who.boot _ boot (ap body_of c.in-Ended.is))

pub returns-in-Ended-clause-sound : goal.returns-in-Ended-clause-sound
returns-in-Ended-clause-sound g c = c.end_known.ensures.sound c.args.who c.requires.sound

pub returns-in-Opened-clause-alone : goal.returns-in-Opened-clause-alone
returns-in-Opened-clause-alone g c = on_ok_weaker c.open_known.result
    (λ reported boot. reported (message_of c.args.m.now) (message_is (message_of c.args.m.now) c.args.who.boot _ boot (ap body_of c.in-Opened.is))) c.open_known.ensures.alone

pub returns-in-Full-clause-alone : goal.returns-in-Full-clause-alone
returns-in-Full-clause-alone g c = on_ok_weaker c.refuse_known.result
    (λ reported boot. reported (message_of c.args.m.now) (message_is (message_of c.args.m.now) c.args.who.boot _ boot (ap body_of c.in-Full.is))) c.refuse_known.ensures.alone

pub returns-in_default-clause-alone : goal.returns-in_default-clause-alone
returns-in_default-clause-alone g c = λ boot stage.
    let node = node_of c.args.who stage in
    let message = message_of c.args.m.now in
    let other = c.in_default in
    none_alone (machine (g.S.Service.started c.args.who.kind) g.S.Service.after g.S.Service.greeting) node (Message_comes message) c.args.slots.now.entries c.args.turn.now.sent.items
    (λ k. and_right (message.boot == node.boot) (names message.body k)
    (others_unreceived c.args.m.now.body other.not-Opened other.not-Stable other.not-Reads other.not-Ended other.not-Full k))

pub returns-in-Stable-clause-known : goal.returns-in-Stable-clause-known
returns-in-Stable-clause-known g c =
    on_ok_weaker c.receive_known.result (λ same. same ∙ sym (ap (λ b. known_after (body_of b) (known_in c.args.slots.now.entries)) c.in-Stable.is)) c.receive_known.ensures.known

pub returns-in-Reads-clause-known : goal.returns-in-Reads-clause-known
returns-in-Reads-clause-known g c =
    on_ok_weaker c.receive_known-in-Reads.result (λ same. same ∙ sym (ap (λ b. known_after (body_of b) (known_in c.args.slots.now.entries)) c.in-Reads.is)) c.receive_known-in-Reads.ensures.known

pub returns-in-Opened-clause-known : goal.returns-in-Opened-clause-known
returns-in-Opened-clause-known g c =
    on_ok_weaker c.open_known.result (λ same. same ∙ sym (ap (λ b. known_after (body_of b) (known_in c.args.slots.now.entries)) c.in-Opened.is)) c.open_known.ensures.known

pub returns-in-Full-clause-known : goal.returns-in-Full-clause-known
returns-in-Full-clause-known g c =
    on_ok_weaker c.refuse_known.result (λ same. same ∙ sym (ap (λ b. known_after (body_of b) (known_in c.args.slots.now.entries)) c.in-Full.is)) c.refuse_known.ensures.known

pub returns-in-Ended-clause-known : goal.returns-in-Ended-clause-known
returns-in-Ended-clause-known g c = c.end_known.ensures.known ∙ sym (ap (λ b. known_after (body_of b) (known_in c.args.slots.now.entries)) c.in-Ended.is)

pub returns-in_default-clause-known : goal.returns-in_default-clause-known
returns-in_default-clause-known g c = sym (others_keep c.args.m.now.body c.in_default.not-Opened c.in_default.not-Full (known_in c.args.slots.now.entries))
