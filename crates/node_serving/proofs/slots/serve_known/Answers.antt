use Rattle.std.proofs.Common.{ap, ◌≡◌, ◌∙◌, refl, sym, subst, Some, None}
use Rattle.std.specs.Option.{option_copied_mut}
use Rattle.std.specs.Map.{lookup, set_value}
use Rattle.ft_io.specs.Key.{key_eq}
use Rattle.server_trait.specs.Service.{machine}
use Rattle.segment_codec.specs.Value.{segment_of}
use Rattle.ft_model.specs.Network.{source_of}
use Rattle.ft_model.proofs.Lists.{none_is_some}
use Rattle.ft_model.specs.Node.Input.{Packet_comes}
use Rattle.ft_model.specs.Lawful.{IsNearTo}
use Rattle.node_serving.specs.Alone.{SlotsAlone}
use Rattle.node_serving.specs.Identity.{node_of}
use Rattle.node_serving.specs.Slots.{AllSlotsGo, AllSound}
use Rattle.node_serving.proofs.OneKey.{one_goes, none_goes, none_found}
use Rattle.node_serving.proofs.SegmentArrival.{only_its_client, its_client}
use Rattle.node_serving.proofs.Keyed.{set_alone, same_alone}
use Rattle.node_serving.proofs.Sound.{sound_found, sound_set}
use Rattle.node_serving.specs.Clients.{known_in}
use Rattle.node_serving.proofs.Known.{same_known}
use Rattle.node_serving.proofs.slots.serve_known.Goals as goal

pub serve_slot-requires-clause-sound : goal.serve_slot-requires-clause-sound
serve_slot-requires-clause-sound g c =
    let key = source_of (segment_of c.args.segment.now) in
    let there : lookup (key_eq c.sender.result) c.args.slots.now.entries ≡ Some c.in-Some.slot.now = sym c.get_mut.ensures.value ∙ ap option_copied_mut c.in-Some.is in
    sound_found c.args.who key c.args.slots.now.entries c.in-Some.slot.now c.requires.sound
    (subst (λ k. lookup (key_eq k) c.args.slots.now.entries ≡ Some c.in-Some.slot.now) c.sender.ensures there)

pub returns-in_ok-serve_slot-clause-turn : goal.returns-in_ok-serve_slot-clause-turn
returns-in_ok-serve_slot-clause-turn g c = λ mine stage places near st.
    let service = machine (g.S.Service.started c.args.who.kind) g.S.Service.after g.S.Service.greeting in
    let node = node_of c.args.who stage in
    let segment = segment_of c.args.segment.now in
    let es = c.args.slots.now.entries in
    let there : lookup (key_eq c.sender.result) es ≡ Some c.in-Some.slot.now = sym c.get_mut.ensures.value ∙ ap option_copied_mut c.in-Some.is in
    let goes = one_goes service node (Packet_comes segment) (source_of segment) (only_its_client node segment) (IsNearTo node.server segment) es places c.in-Some.slot.now c.serve_slot.new.slot
    c.args.turn.now.sent.items c.serve_slot.new.turn.sent.items st c.get_mut.ensures.unique (subst (λ k. lookup (key_eq k) es ≡ Some c.in-Some.slot.now) c.sender.ensures there) near
    (λ place close stands. c.in_ok-serve_slot.ensures.turn mine stage place close stands) in
    subst (λ xs. AllSlotsGo service node (Packet_comes segment) places xs c.args.turn.now.sent.items c.serve_slot.new.turn.sent.items)
    (sym (c.get_mut.follows.holds c.serve_slot.new.slot).0)
    (subst (λ k. AllSlotsGo service node (Packet_comes segment) places (set_value (key_eq k) es c.serve_slot.new.slot) c.args.turn.now.sent.items c.serve_slot.new.turn.sent.items)
    (sym c.sender.ensures) goes)

pub returns-in_ok-serve_slot-clause-sound : goal.returns-in_ok-serve_slot-clause-sound
returns-in_ok-serve_slot-clause-sound g c =
    let key = source_of (segment_of c.args.segment.now) in
    subst (AllSound c.args.who) (sym (c.get_mut.follows.holds c.serve_slot.new.slot).0)
    (subst (λ k. AllSound c.args.who (set_value (key_eq k) c.args.slots.now.entries c.serve_slot.new.slot)) (sym c.sender.ensures)
    (sound_set c.args.who key c.args.slots.now.entries c.serve_slot.new.slot c.requires.sound c.in_ok-serve_slot.ensures.sound))

pub returns-in_default-clause-turn : goal.returns-in_default-clause-turn
returns-in_default-clause-turn g c = λ mine stage places near st.
    let service = machine (g.S.Service.started c.args.who.kind) g.S.Service.after g.S.Service.greeting in
    let node = node_of c.args.who stage in
    let segment = segment_of c.args.segment.now in
    let es = c.args.slots.now.entries in
    let nothing : lookup (key_eq c.sender.result) es ≡ None = sym c.get_mut.ensures.value ∙ ap option_copied_mut c.in_default.is in
    let goes = none_goes service node (Packet_comes segment) (source_of segment) (only_its_client node segment) es places c.args.turn.now.sent.items st
    (none_found (key_eq (source_of segment)) es (subst (λ k. lookup (key_eq k) es ≡ None) c.sender.ensures nothing)) in
    subst (λ m. AllSlotsGo service node (Packet_comes segment) places m.entries c.args.turn.now.sent.items c.args.turn.now.sent.items) (sym c.get_mut.follows.holds-at-none) goes

pub returns-in_ok-serve_slot-clause-alone : goal.returns-in_ok-serve_slot-clause-alone
returns-in_ok-serve_slot-clause-alone g c = λ mine stage.
    let service = machine (g.S.Service.started c.args.who.kind) g.S.Service.after g.S.Service.greeting in
    let node = node_of c.args.who stage in
    let segment = segment_of c.args.segment.now in
    let es = c.args.slots.now.entries in
    let there : lookup (key_eq c.sender.result) es ≡ Some c.in-Some.slot.now = sym c.get_mut.ensures.value ∙ ap option_copied_mut c.in-Some.is in
    subst (λ xs. SlotsAlone service node (Packet_comes segment) es xs c.args.turn.now.sent.items c.serve_slot.new.turn.sent.items) (sym (c.get_mut.follows.holds c.serve_slot.new.slot).0)
    (subst (λ k. SlotsAlone service node (Packet_comes segment) es (set_value (key_eq k) es c.serve_slot.new.slot) c.args.turn.now.sent.items c.serve_slot.new.turn.sent.items)
    (sym c.sender.ensures)
    (set_alone service node (Packet_comes segment) (source_of segment) (only_its_client node segment) (its_client node segment (source_of segment) mine refl)
    es c.in-Some.slot.now c.serve_slot.new.slot c.args.turn.now.sent.items c.serve_slot.new.turn.sent.items
    (subst (λ k. lookup (key_eq k) es ≡ Some c.in-Some.slot.now) c.sender.ensures there) c.in_ok-serve_slot.ensures.alone
    (λ place close stands. c.in_ok-serve_slot.ensures.turn mine stage place close stands)))

pub returns-in_default-clause-alone : goal.returns-in_default-clause-alone
returns-in_default-clause-alone g c = λ mine stage.
    let service = machine (g.S.Service.started c.args.who.kind) g.S.Service.after g.S.Service.greeting in
    let node = node_of c.args.who stage in
    let segment = segment_of c.args.segment.now in
    let es = c.args.slots.now.entries in
    let nothing : lookup (key_eq c.sender.result) es ≡ None = sym c.get_mut.ensures.value ∙ ap option_copied_mut c.in_default.is in
    subst (λ m. SlotsAlone service node (Packet_comes segment) es m.entries c.args.turn.now.sent.items c.args.turn.now.sent.items) (sym c.get_mut.follows.holds-at-none)
    (same_alone service node (Packet_comes segment) (source_of segment) (only_its_client node segment) (its_client node segment (source_of segment) mine refl)
    es c.args.turn.now.sent.items (λ s found. none_is_some s (sym (subst (λ k. lookup (key_eq k) es ≡ None) c.sender.ensures nothing) ∙ found)))

pub returns-in_ok-serve_slot-clause-known : goal.returns-in_ok-serve_slot-clause-known
returns-in_ok-serve_slot-clause-known g c =
    let es = c.args.slots.now.entries in
    let there : lookup (key_eq c.sender.result) es ≡ Some c.in-Some.slot.now = sym c.get_mut.ensures.value ∙ ap option_copied_mut c.in-Some.is in
    subst (λ xs. known_in xs ≡ known_in es) (sym (c.get_mut.follows.holds c.serve_slot.new.slot).0)
    (same_known c.sender.result es c.in-Some.slot.now c.serve_slot.new.slot there c.in_ok-serve_slot.ensures.known)

pub returns-in_default-clause-known : goal.returns-in_default-clause-known
returns-in_default-clause-known g c = subst (λ m. known_in m.entries ≡ known_in c.args.slots.now.entries) (sym c.get_mut.follows.holds-at-none) refl
