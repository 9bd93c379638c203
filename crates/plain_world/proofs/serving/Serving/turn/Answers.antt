use Rattle.std.proofs.Common.{[], map}
use Rattle.std.specs.Option.{option_to_list}
use Rattle.server_trait.specs.Service.{machine}
use Rattle.seq_arith.specs.Value.{said}
use Rattle.ft_model.specs.Network.Packet.{To_client}
use Rattle.ft_model.specs.Node.{Stage}
use Rattle.ft_model.specs.Node.Place.{Opens}
use Rattle.logger_wire.specs.Records.{numbers_said}
use Rattle.plain_world.specs.Values.{input_in, node_of}
use Rattle.plain_world.proofs.Places.{on_ok, on_ok_more}
use Rattle.plain_world.proofs.AllPlaces.{serving_turn, opened_more}
use Rattle.plain_world.proofs.serving.Serving.turn.Goals as goal

pub returns-clause-turn : goal.returns-clause-turn
returns-clause-turn g c =
    on_ok_more _ _ c.ask_all.result
    (λ asks (stage : Stage).
    serving_turn (machine (g.S.Service.started c.args.who.kind) g.S.Service.after g.S.Service.greeting) (node_of c.args.who stage) (input_in c.args.input.now) c.args.self.now.opened
    c.args.self.now.places.items c.go_all.new.places.items c.open.new.self.places.items
    (map (λ n. Opens (numbers_said n.numbers) n.timestamping) (option_to_list c.newcomer-newcomer.result))
    (map (λ head. To_client (record { head = said head; payload = [] })) (option_to_list c.refusal-refusal.result))
    c.args.sent.now c.go_all.new.sent c.refuse.new.sent c.ask_all.new.sent
    (c.in_ok-go_all.ensures.turn stage) c.in_ok-open.ensures.places (rw c.as_slice.ensures.value at (c.newcomer-newcomer.ensures stage))
    c.in_ok-refuse.ensures (rw c.as_slice-2.ensures.value at (c.refusal-refusal.ensures stage)) (rw c.as_slice-3.ensures.value at (asks stage)))
    c.ask_all.ensures

pub returns-clause-opened : goal.returns-clause-opened
returns-clause-opened g c =
    on_ok _ c.ask_all.result
    (λ (stage : Stage).
    opened_more (λ n. Opens (numbers_said n.numbers) n.timestamping) c.newcomer-newcomer.result _ c.args.self.now.opened c.open.new.self.opened c.in_ok-open.ensures.opened
    (rw c.as_slice.ensures.value at (c.newcomer-newcomer.ensures stage)))

pub returns-clause-served : goal.returns-clause-served
returns-clause-served g c =
    on_ok _ c.ask_all.result
    (c.in_ok-open.ensures.served c.args.who.kind (machine (g.S.Service.started c.args.who.kind) g.S.Service.after g.S.Service.greeting) c.in_ok-go_all.ensures.served)
