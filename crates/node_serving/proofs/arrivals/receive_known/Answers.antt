use Rattle.std.proofs.Common.{ap, ◌≡◌, ◌∙◌, refl, sym, subst, Some, None}
use Rattle.std.specs.Option.{option_copied_mut}
use Rattle.std.specs.Map.{lookup}
use Rattle.ft_io.specs.Key.{key_eq}
use Rattle.server_trait.specs.Service.{machine}
use Rattle.logger_wire.specs.Value.{message_of}
use Rattle.ft_model.specs.Node.Input.{Message_comes}
use Rattle.node_serving.specs.Alone.{SlotsAlone}
use Rattle.node_serving.specs.Identity.{node_of}
use Rattle.node_serving.specs.Slots.{AllSlotsGo, AllSound}
use Rattle.node_serving.proofs.OneKey.{one_goes, none_goes, none_found}
use Rattle.ft_model.proofs.ReportedOver.{all_unit}
use Rattle.ft_model.proofs.Lists.{none_is_some}
use Rattle.node_serving.proofs.Receipt.{only_its_key, its_key, logged_names}
use Rattle.node_serving.proofs.Keyed.{set_alone, same_alone}
use Rattle.node_serving.proofs.Sound.{sound_found, sound_set}
use Rattle.node_serving.specs.Clients.{known_in}
use Rattle.node_serving.proofs.Known.{same_known}
use Rattle.node_serving.proofs.arrivals.receive_known.Goals as goal

pub receive_in_slot-requires-clause-sound : goal.receive_in_slot-requires-clause-sound
receive_in_slot-requires-clause-sound g c =
    let found : lookup (key_eq c.args.key) c.args.slots.now.entries ≡ Some c.in-Some.slot.now = sym c.get_mut.ensures.value ∙ ap option_copied_mut c.in-Some.is in
    sound_found c.args.who c.args.key c.args.slots.now.entries c.in-Some.slot.now c.requires.sound found

pub returns-in_ok-receive_in_slot-clause-turn : goal.returns-in_ok-receive_in_slot-clause-turn
returns-in_ok-receive_in_slot-clause-turn g c = λ kept log stage places near st.
    let service = machine (g.S.Service.started c.args.who.kind) g.S.Service.after g.S.Service.greeting in
    let node = node_of c.args.who stage in
    let message = message_of c.args.m.now in
    let found : lookup (key_eq c.args.key) c.args.slots.now.entries ≡ Some c.in-Some.slot.now = sym c.get_mut.ensures.value ∙ ap option_copied_mut c.in-Some.is in
    subst (λ es. AllSlotsGo service node (Message_comes message) places es c.args.turn.now.sent.items c.receive_in_slot.new.turn.sent.items)
    (sym (c.get_mut.follows.holds c.receive_in_slot.new.slot).0)
    (one_goes service node (Message_comes message) c.args.key (only_its_key node message c.args.key (λ k. logged_names message.body kept log.says k ∙ ap (λ x. key_eq x k) log.client))
    (λ place. Unit {0}) c.args.slots.now.entries places c.in-Some.slot.now c.receive_in_slot.new.slot c.args.turn.now.sent.items c.receive_in_slot.new.turn.sent.items
    st c.get_mut.ensures.unique found (all_unit places)
    (λ place u stands. c.in_ok-receive_in_slot.ensures.turn kept log stage place tt stands))

pub returns-in_ok-receive_in_slot-clause-sound : goal.returns-in_ok-receive_in_slot-clause-sound
returns-in_ok-receive_in_slot-clause-sound g c =
    subst (AllSound c.args.who) (sym (c.get_mut.follows.holds c.receive_in_slot.new.slot).0)
    (sound_set c.args.who c.args.key c.args.slots.now.entries c.receive_in_slot.new.slot c.requires.sound c.in_ok-receive_in_slot.ensures.sound)

pub returns-in_default-clause-turn : goal.returns-in_default-clause-turn
returns-in_default-clause-turn g c = λ kept log stage places near st.
    let service = machine (g.S.Service.started c.args.who.kind) g.S.Service.after g.S.Service.greeting in
    let node = node_of c.args.who stage in
    let message = message_of c.args.m.now in
    let nothing : lookup (key_eq c.args.key) c.args.slots.now.entries ≡ None = sym c.get_mut.ensures.value ∙ ap option_copied_mut c.in_default.is in
    subst (λ m. AllSlotsGo service node (Message_comes message) places m.entries c.args.turn.now.sent.items c.args.turn.now.sent.items) (sym c.get_mut.follows.holds-at-none)
    (none_goes service node (Message_comes message) c.args.key (only_its_key node message c.args.key (λ k. logged_names message.body kept log.says k ∙ ap (λ x. key_eq x k) log.client))
    c.args.slots.now.entries places c.args.turn.now.sent.items st (none_found (key_eq c.args.key) c.args.slots.now.entries nothing))

pub returns-in_ok-receive_in_slot-clause-alone : goal.returns-in_ok-receive_in_slot-clause-alone
returns-in_ok-receive_in_slot-clause-alone g c = λ kept log stage.
    let service = machine (g.S.Service.started c.args.who.kind) g.S.Service.after g.S.Service.greeting in
    let node = node_of c.args.who stage in
    let message = message_of c.args.m.now in
    let found : lookup (key_eq c.args.key) c.args.slots.now.entries ≡ Some c.in-Some.slot.now = sym c.get_mut.ensures.value ∙ ap option_copied_mut c.in-Some.is in
    subst (λ es. SlotsAlone service node (Message_comes message) c.args.slots.now.entries es c.args.turn.now.sent.items c.receive_in_slot.new.turn.sent.items)
    (sym (c.get_mut.follows.holds c.receive_in_slot.new.slot).0)
    (set_alone service node (Message_comes message) c.args.key (only_its_key node message c.args.key (λ k. logged_names message.body kept log.says k ∙ ap (λ x. key_eq x k) log.client))
    (its_key node message c.args.key log.boot (λ k. logged_names message.body kept log.says k ∙ ap (λ x. key_eq x k) log.client) c.args.key refl)
    c.args.slots.now.entries c.in-Some.slot.now c.receive_in_slot.new.slot c.args.turn.now.sent.items c.receive_in_slot.new.turn.sent.items found c.in_ok-receive_in_slot.ensures.alone
    (λ place near stands. c.in_ok-receive_in_slot.ensures.turn kept log stage place near stands))

pub returns-in_default-clause-alone : goal.returns-in_default-clause-alone
returns-in_default-clause-alone g c = λ kept log stage.
    let service = machine (g.S.Service.started c.args.who.kind) g.S.Service.after g.S.Service.greeting in
    let node = node_of c.args.who stage in
    let message = message_of c.args.m.now in
    let nothing : lookup (key_eq c.args.key) c.args.slots.now.entries ≡ None = sym c.get_mut.ensures.value ∙ ap option_copied_mut c.in_default.is in
    subst (λ m. SlotsAlone service node (Message_comes message) c.args.slots.now.entries m.entries c.args.turn.now.sent.items c.args.turn.now.sent.items) (sym c.get_mut.follows.holds-at-none)
    (same_alone service node (Message_comes message) c.args.key (only_its_key node message c.args.key (λ k. logged_names message.body kept log.says k ∙ ap (λ x. key_eq x k) log.client))
    (its_key node message c.args.key log.boot (λ k. logged_names message.body kept log.says k ∙ ap (λ x. key_eq x k) log.client) c.args.key refl)
    c.args.slots.now.entries c.args.turn.now.sent.items (λ s found. none_is_some s (sym nothing ∙ found)))

pub returns-in_ok-receive_in_slot-clause-known : goal.returns-in_ok-receive_in_slot-clause-known
returns-in_ok-receive_in_slot-clause-known g c =
    let es = c.args.slots.now.entries in
    let found : lookup (key_eq c.args.key) es ≡ Some c.in-Some.slot.now = sym c.get_mut.ensures.value ∙ ap option_copied_mut c.in-Some.is in
    subst (λ xs. known_in xs ≡ known_in es) (sym (c.get_mut.follows.holds c.receive_in_slot.new.slot).0)
    (same_known c.args.key es c.in-Some.slot.now c.receive_in_slot.new.slot found c.in_ok-receive_in_slot.ensures.known)

pub returns-in_default-clause-known : goal.returns-in_default-clause-known
returns-in_default-clause-known g c = subst (λ m. known_in m.entries ≡ known_in c.args.slots.now.entries) (sym c.get_mut.follows.holds-at-none) refl
