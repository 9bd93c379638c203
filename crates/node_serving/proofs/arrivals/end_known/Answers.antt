use Rattle.std.proofs.Common.{ap, ◌≡◌, ◌∙◌, refl, sym, subst, Some, None}
use Rattle.std.specs.Option.{option_copied_mut}
use Rattle.std.specs.Map.{lookup, set_value}
use Rattle.ft_io.specs.Key.{key_eq}
use Rattle.seq_arith.specs.Message.{Message}
use Rattle.seq_arith.specs.Message.Body.{EndedMsg}
use Rattle.ft_model.specs.Node.Input.{Message_comes}
use Rattle.tcp_rules.specs.Profile.{grammar_of}
use Rattle.node_serving.specs.Slots.{SlotGoes, AllSlotsGo, IsSoundSlot, AllSound}
use Rattle.ft_model.proofs.Lists.{none_is_some}
use Rattle.node_serving.specs.Alone.{SlotsAlone}
use Rattle.node_serving.proofs.Receipt.{only_its_key, its_key}
use Rattle.node_serving.proofs.Keyed.{set_alone, same_alone, quiet_for}
use Rattle.node_serving.proofs.OneKey.{one_goes, none_goes, none_found}
use Rattle.ft_model.proofs.ReportedOver.{all_unit}
use Rattle.node_serving.proofs.Opened.{ends}
use Rattle.node_serving.proofs.Sound.{sound_found, sound_set, sound_ended}
use Rattle.node_serving.specs.Clients.{known_as, known_in}
use Rattle.node_serving.proofs.Known.{same_known, known_ended}
use Rattle.node_serving.proofs.arrivals.end_known.Goals as goal

pub returns-in-Some-clause-turn : goal.returns-in-Some-clause-turn
returns-in-Some-clause-turn g c = λ service node places message reported is st.
    let ended : Message = record { boot = node.boot; body = EndedMsg c.args.key } in
    let es = c.args.slots.now.entries in
    let found : lookup (key_eq c.args.key) es ≡ Some c.in-Some.slot.now = sym c.get_mut.ensures.value ∙ ap option_copied_mut c.in-Some.is in
    subst (λ xs. AllSlotsGo service node (Message_comes message) places xs reported reported) (sym (c.get_mut.follows.holds c.end_slot.new.slot).0)
    (subst (λ m. AllSlotsGo service node (Message_comes m) places (set_value (key_eq c.args.key) es c.end_slot.new.slot) reported reported) (sym is)
    (one_goes service node (Message_comes ended) c.args.key (only_its_key node ended c.args.key (λ k. refl)) (λ place. Unit {0}) es places c.in-Some.slot.now c.end_slot.new.slot reported reported
    st c.get_mut.ensures.unique found (all_unit places)
    (λ place u at. subst (λ s. SlotGoes service node (Message_comes ended) c.args.key place s reported reported) (sym c.end_slot.ensures)
    (ends service node ended refl c.args.key (λ k. refl) refl place c.in-Some.slot.now reported at))))

pub returns-in_default-clause-turn : goal.returns-in_default-clause-turn
returns-in_default-clause-turn g c = λ service node places message reported is st.
    let ended : Message = record { boot = node.boot; body = EndedMsg c.args.key } in
    let nothing : lookup (key_eq c.args.key) c.args.slots.now.entries ≡ None = sym c.get_mut.ensures.value ∙ ap option_copied_mut c.in_default.is in
    subst (λ m. AllSlotsGo service node (Message_comes m) places c.get_mut.follows.lender-at-none.entries reported reported) (sym is)
    (subst (λ m. AllSlotsGo service node (Message_comes ended) places m.entries reported reported) (sym c.get_mut.follows.holds-at-none)
    (none_goes service node (Message_comes ended) c.args.key (only_its_key node ended c.args.key (λ k. refl)) c.args.slots.now.entries places reported st
    (none_found (key_eq c.args.key) c.args.slots.now.entries nothing)))

pub returns-in-Some-clause-sound : goal.returns-in-Some-clause-sound
returns-in-Some-clause-sound g c = λ who sound.
    let found : lookup (key_eq c.args.key) c.args.slots.now.entries ≡ Some c.in-Some.slot.now = sym c.get_mut.ensures.value ∙ ap option_copied_mut c.in-Some.is in
    subst (AllSound who) (sym (c.get_mut.follows.holds c.end_slot.new.slot).0)
    (sound_set who c.args.key c.args.slots.now.entries c.end_slot.new.slot sound
    (subst (IsSoundSlot who c.args.key) (sym c.end_slot.ensures)
    (sound_ended who c.args.key c.in-Some.slot.now (sound_found who c.args.key c.args.slots.now.entries c.in-Some.slot.now sound found))))

pub returns-in-Some-clause-alone : goal.returns-in-Some-clause-alone
returns-in-Some-clause-alone g c = λ service node message reported is.
    let ended : Message = record { boot = node.boot; body = EndedMsg c.args.key } in
    let es = c.args.slots.now.entries in
    let found : lookup (key_eq c.args.key) es ≡ Some c.in-Some.slot.now = sym c.get_mut.ensures.value ∙ ap option_copied_mut c.in-Some.is in
    subst (λ xs. SlotsAlone service node (Message_comes message) es xs reported reported) (sym (c.get_mut.follows.holds c.end_slot.new.slot).0)
    (subst (λ m. SlotsAlone service node (Message_comes m) es (set_value (key_eq c.args.key) es c.end_slot.new.slot) reported reported) (sym is)
    (set_alone service node (Message_comes ended) c.args.key (only_its_key node ended c.args.key (λ k. refl)) (its_key node ended c.args.key refl (λ k. refl) c.args.key refl)
    es c.in-Some.slot.now c.end_slot.new.slot reported reported found (quiet_for (grammar_of node.profile) c.args.key reported)
    (λ place near at. subst (λ s. SlotGoes service node (Message_comes ended) c.args.key place s reported reported) (sym c.end_slot.ensures)
    (ends service node ended refl c.args.key (λ k. refl) refl place c.in-Some.slot.now reported at))))

pub returns-in_default-clause-alone : goal.returns-in_default-clause-alone
returns-in_default-clause-alone g c = λ service node message reported is.
    let ended : Message = record { boot = node.boot; body = EndedMsg c.args.key } in
    let es = c.args.slots.now.entries in
    let nothing : lookup (key_eq c.args.key) es ≡ None = sym c.get_mut.ensures.value ∙ ap option_copied_mut c.in_default.is in
    subst (λ m. SlotsAlone service node (Message_comes m) es c.get_mut.follows.lender-at-none.entries reported reported) (sym is)
    (subst (λ m. SlotsAlone service node (Message_comes ended) es m.entries reported reported) (sym c.get_mut.follows.holds-at-none)
    (same_alone service node (Message_comes ended) c.args.key (only_its_key node ended c.args.key (λ k. refl)) (its_key node ended c.args.key refl (λ k. refl) c.args.key refl) es reported
    (λ s found. none_is_some s (sym nothing ∙ found))))

pub returns-in-Some-clause-known : goal.returns-in-Some-clause-known
returns-in-Some-clause-known g c =
    let es = c.args.slots.now.entries in
    let found : lookup (key_eq c.args.key) es ≡ Some c.in-Some.slot.now = sym c.get_mut.ensures.value ∙ ap option_copied_mut c.in-Some.is in
    subst (λ xs. known_in xs ≡ known_in es) (sym (c.get_mut.follows.holds c.end_slot.new.slot).0)
    (same_known c.args.key es c.in-Some.slot.now c.end_slot.new.slot found (ap known_as c.end_slot.ensures ∙ known_ended c.in-Some.slot.now))

pub returns-in_default-clause-known : goal.returns-in_default-clause-known
returns-in_default-clause-known g c = subst (λ m. known_in m.entries ≡ known_in c.args.slots.now.entries) (sym c.get_mut.follows.holds-at-none) refl
