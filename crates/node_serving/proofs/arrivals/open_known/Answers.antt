use Rattle.std.proofs.Common.{rules, ◌≡◌, ◌∙◌, ◌==◌, false, refl, sym, subst, Some, None, true, eq-eqb}
use Rattle.std.proofs.lemmas.Bool.{ne_eqb}
use Rattle.std.specs.Prelude.{position}
use Rattle.std.specs.Map.{lookup, keys_of}
use Rattle.ft_io.specs.Key.{key_eq}
use Rattle.server_trait.specs.Service.{machine}
use Rattle.seq_arith.specs.Message.{Message}
use Rattle.seq_arith.specs.Message.Body.{OpenedMsg}
use Rattle.ft_model.specs.Node.Input.{Message_comes}
use Rattle.node_serving.specs.declared.slot.Slot.TheVariants as slot
use Rattle.node_serving.specs.LogMessages.{opening_in}
use Rattle.node_serving.specs.Identity.{node_of, grammar_in}
use Rattle.node_serving.specs.Slots.{numbers_of, AllSlotsGo, AllSound}
use Rattle.node_serving.specs.Alone.{SlotsAlone}
use Rattle.node_serving.proofs.AtPlace.{removed_at, put_at, opening_there, no_opening, place_there}
use Rattle.node_serving.proofs.Receipt.{only_its_key, its_key}
use Rattle.node_serving.proofs.Keyed.{set_alone, drop_alone, quiet_for}
use Rattle.node_serving.proofs.OneKey.{one_goes, one_leaves}
use Rattle.ft_model.proofs.ReportedOver.{all_unit}
use Rattle.node_serving.proofs.Opened.{none_pending, none_pending_alone, pending_found, opening_drops, opening_lives}
use Rattle.node_serving.proofs.Sound.{sound_set, sound_drop}
use Rattle.node_serving.specs.Clients.{known_after, known_in}
use Rattle.node_serving.proofs.Known.{unanswered, answered_live, answered_none}
use Rattle.node_serving.proofs.arrivals.open_known.Goals as goal

pub returns-in_default-clause-turn : goal.returns-in_default-clause-turn
returns-in_default-clause-turn g c = λ message is stage places near st.
    let service = machine (g.S.Service.started c.args.who.kind) g.S.Service.after g.S.Service.greeting in
    let node = node_of c.args.who stage in
    let opened : Message = record { boot = c.args.who.boot; body = OpenedMsg (numbers_of c.args.key c.args.numbers) } in
    let es = c.args.slots.now.entries in
    let none : opening_in (lookup (key_eq c.args.key) es) ≡ None = no_opening c.pending_at.result _ c.pending_at.ensures.found c.in_default.is in
    subst (λ m. AllSlotsGo service node (Message_comes m) places es c.args.turn.now.sent.items c.args.turn.now.sent.items) (sym is)
    (none_pending service node opened refl c.args.key (λ k. refl) (λ p. (refl, refl)) (λ k. (refl, refl)) es places c.args.turn.now.sent.items
    c.pending_at.ensures.unique none st)

pub returns-then-opening-numbers-clause-turn : goal.returns-then-opening-numbers-clause-turn
returns-then-opening-numbers-clause-turn g c = λ message is stage places near st.
    let service = machine (g.S.Service.started c.args.who.kind) g.S.Service.after g.S.Service.greeting in
    let node = node_of c.args.who stage in
    let opened : Message = record { boot = c.args.who.boot; body = OpenedMsg (numbers_of c.args.key c.args.numbers) } in
    let es = c.args.slots.now.entries in
    let found = pending_found (lookup (key_eq c.args.key) es) c.in-Some.pending.opening (opening_there c.pending_at.result _ c.in-Some.pending c.pending_at.ensures.found c.in-Some.is) in
    let differ : (c.args.numbers.cisn.0 == c.in-Some.pending.opening.cisn.0) ≡ false = ne_eqb _ _ (λ e. c.if-opening-numbers.true (sym e)) in
    subst (λ m. AllSlotsGo service node (Message_comes m) places c.drop_slot.new.slots.entries c.args.turn.now.sent.items c.args.turn.now.sent.items) (sym is)
    (subst (λ xs. AllSlotsGo service node (Message_comes opened) places xs c.args.turn.now.sent.items c.args.turn.now.sent.items) (sym (c.drop_slot.ensures ∙ removed_at (key_eq c.args.key) c.args.slots.now.entries c.in-Some.pending.place (place_there (λ x. position (key_eq c.args.key) (keys_of c.args.slots.now.entries) ≡ Some x.place) c.pending_at.result c.in-Some.pending c.pending_at.ensures.place c.in-Some.is)))
    (one_leaves service node (Message_comes opened) c.args.key (only_its_key node opened c.args.key (λ k. refl)) es places (slot.Pending c.in-Some.pending.opening)
    c.args.turn.now.sent.items c.args.turn.now.sent.items st c.pending_at.ensures.unique found
    (λ place at. opening_drops service node opened refl c.args.key (λ k. refl) c.args.numbers refl place c.in-Some.pending.opening c.args.turn.now.sent.items at differ)))

pub returns-clause-turn : goal.returns-clause-turn
returns-clause-turn g c = λ message is stage places near st.
    let service = machine (g.S.Service.started c.args.who.kind) g.S.Service.after g.S.Service.greeting in
    let node = node_of c.args.who stage in
    let opened : Message = record { boot = c.args.who.boot; body = OpenedMsg (numbers_of c.args.key c.args.numbers) } in
    let es = c.args.slots.now.entries in
    let found = pending_found (lookup (key_eq c.args.key) es) c.in-Some.pending.opening (opening_there c.pending_at.result _ c.in-Some.pending c.pending_at.ensures.found c.in-Some.is) in
    subst (λ m. AllSlotsGo service node (Message_comes m) places c.put_slot.new.slots.entries c.args.turn.now.sent.items c.begin_live.new.turn.sent.items) (sym is)
    (subst (λ xs. AllSlotsGo service node (Message_comes opened) places xs c.args.turn.now.sent.items c.begin_live.new.turn.sent.items) (sym (c.put_slot.ensures ∙ put_at (key_eq c.args.key) c.args.slots.now.entries c.in-Some.pending.place (slot.Live c.in_ok-conn.conn) (place_there (λ x. position (key_eq c.args.key) (keys_of c.args.slots.now.entries) ≡ Some x.place) c.pending_at.result c.in-Some.pending c.pending_at.ensures.place c.in-Some.is)))
    (one_goes service node (Message_comes opened) c.args.key (only_its_key node opened c.args.key (λ k. refl)) (λ place. Unit {0}) es places (slot.Pending c.in-Some.pending.opening)
    (slot.Live c.in_ok-conn.conn) c.args.turn.now.sent.items c.begin_live.new.turn.sent.items st c.pending_at.ensures.unique found (all_unit places)
    (λ place u at. opening_lives service node opened refl c.args.key (λ k. refl) c.args.numbers refl place c.in-Some.pending.opening c.in_ok-conn.conn
    c.args.turn.now.sent.items c.begin_live.new.turn.sent.items at (search rules) c.in_ok-conn.ensures.turn)))

pub returns-clause-sound : goal.returns-clause-sound
returns-clause-sound g c =
    subst (AllSound c.args.who) (sym (c.put_slot.ensures ∙ put_at (key_eq c.args.key) c.args.slots.now.entries c.in-Some.pending.place (slot.Live c.in_ok-conn.conn) (place_there (λ x. position (key_eq c.args.key) (keys_of c.args.slots.now.entries) ≡ Some x.place) c.pending_at.result c.in-Some.pending c.pending_at.ensures.place c.in-Some.is))) (sound_set c.args.who c.args.key c.args.slots.now.entries (slot.Live c.in_ok-conn.conn) c.requires.sound c.in_ok-conn.ensures.sound)

pub returns-then-opening-numbers-clause-sound : goal.returns-then-opening-numbers-clause-sound
returns-then-opening-numbers-clause-sound g c = subst (AllSound c.args.who) (sym (c.drop_slot.ensures ∙ removed_at (key_eq c.args.key) c.args.slots.now.entries c.in-Some.pending.place (place_there (λ x. position (key_eq c.args.key) (keys_of c.args.slots.now.entries) ≡ Some x.place) c.pending_at.result c.in-Some.pending c.pending_at.ensures.place c.in-Some.is))) (sound_drop c.args.who (key_eq c.args.key) c.args.slots.now.entries c.requires.sound)

pub returns-in_default-clause-alone : goal.returns-in_default-clause-alone
returns-in_default-clause-alone g c = λ message is stage.
    let service = machine (g.S.Service.started c.args.who.kind) g.S.Service.after g.S.Service.greeting in
    let node = node_of c.args.who stage in
    let opened : Message = record { boot = c.args.who.boot; body = OpenedMsg (numbers_of c.args.key c.args.numbers) } in
    let es = c.args.slots.now.entries in
    let none : opening_in (lookup (key_eq c.args.key) es) ≡ None = no_opening c.pending_at.result _ c.pending_at.ensures.found c.in_default.is in
    subst (λ m. SlotsAlone service node (Message_comes m) es es c.args.turn.now.sent.items c.args.turn.now.sent.items) (sym is)
    (none_pending_alone service node opened refl c.args.key (λ k. refl) (λ p. (refl, refl)) (λ k. (refl, refl)) es c.args.turn.now.sent.items none)

pub returns-then-opening-numbers-clause-alone : goal.returns-then-opening-numbers-clause-alone
returns-then-opening-numbers-clause-alone g c = λ message is stage.
    let service = machine (g.S.Service.started c.args.who.kind) g.S.Service.after g.S.Service.greeting in
    let node = node_of c.args.who stage in
    let opened : Message = record { boot = c.args.who.boot; body = OpenedMsg (numbers_of c.args.key c.args.numbers) } in
    let es = c.args.slots.now.entries in
    let found = pending_found (lookup (key_eq c.args.key) es) c.in-Some.pending.opening (opening_there c.pending_at.result _ c.in-Some.pending c.pending_at.ensures.found c.in-Some.is) in
    let differ : (c.args.numbers.cisn.0 == c.in-Some.pending.opening.cisn.0) ≡ false = ne_eqb _ _ (λ e. c.if-opening-numbers.true (sym e)) in
    subst (λ m. SlotsAlone service node (Message_comes m) es c.drop_slot.new.slots.entries c.args.turn.now.sent.items c.args.turn.now.sent.items) (sym is)
    (subst (λ xs. SlotsAlone service node (Message_comes opened) es xs c.args.turn.now.sent.items c.args.turn.now.sent.items) (sym (c.drop_slot.ensures ∙ removed_at (key_eq c.args.key) c.args.slots.now.entries c.in-Some.pending.place (place_there (λ x. position (key_eq c.args.key) (keys_of c.args.slots.now.entries) ≡ Some x.place) c.pending_at.result c.in-Some.pending c.pending_at.ensures.place c.in-Some.is)))
    (drop_alone service node (Message_comes opened) c.args.key (only_its_key node opened c.args.key (λ k. refl)) (its_key node opened c.args.key refl (λ k. refl) c.args.key refl)
    es (slot.Pending c.in-Some.pending.opening) c.args.turn.now.sent.items c.args.turn.now.sent.items c.pending_at.ensures.unique found (quiet_for (grammar_in c.args.who) c.args.key c.args.turn.now.sent.items)
    (λ place at. opening_drops service node opened refl c.args.key (λ k. refl) c.args.numbers refl place c.in-Some.pending.opening c.args.turn.now.sent.items at differ)))

pub returns-clause-alone : goal.returns-clause-alone
returns-clause-alone g c = λ message is stage.
    let service = machine (g.S.Service.started c.args.who.kind) g.S.Service.after g.S.Service.greeting in
    let node = node_of c.args.who stage in
    let opened : Message = record { boot = c.args.who.boot; body = OpenedMsg (numbers_of c.args.key c.args.numbers) } in
    let es = c.args.slots.now.entries in
    let found = pending_found (lookup (key_eq c.args.key) es) c.in-Some.pending.opening (opening_there c.pending_at.result _ c.in-Some.pending c.pending_at.ensures.found c.in-Some.is) in
    subst (λ m. SlotsAlone service node (Message_comes m) es c.put_slot.new.slots.entries c.args.turn.now.sent.items c.begin_live.new.turn.sent.items) (sym is)
    (subst (λ xs. SlotsAlone service node (Message_comes opened) es xs c.args.turn.now.sent.items c.begin_live.new.turn.sent.items) (sym (c.put_slot.ensures ∙ put_at (key_eq c.args.key) c.args.slots.now.entries c.in-Some.pending.place (slot.Live c.in_ok-conn.conn) (place_there (λ x. position (key_eq c.args.key) (keys_of c.args.slots.now.entries) ≡ Some x.place) c.pending_at.result c.in-Some.pending c.pending_at.ensures.place c.in-Some.is)))
    (set_alone service node (Message_comes opened) c.args.key (only_its_key node opened c.args.key (λ k. refl)) (its_key node opened c.args.key refl (λ k. refl) c.args.key refl)
    es (slot.Pending c.in-Some.pending.opening) (slot.Live c.in_ok-conn.conn) c.args.turn.now.sent.items c.begin_live.new.turn.sent.items found c.in_ok-conn.ensures.alone
    (λ place near at. opening_lives service node opened refl c.args.key (λ k. refl) c.args.numbers refl place c.in-Some.pending.opening c.in_ok-conn.conn
    c.args.turn.now.sent.items c.begin_live.new.turn.sent.items at (search rules) c.in_ok-conn.ensures.turn)))

pub returns-in_default-clause-known : goal.returns-in_default-clause-known
returns-in_default-clause-known g c =
    let none : opening_in (lookup (key_eq c.args.key) c.args.slots.now.entries) ≡ None = no_opening c.pending_at.result _ c.pending_at.ensures.found c.in_default.is in
    unanswered c.args.key (λ cisn. c.args.numbers.cisn.0 == cisn) c.args.slots.now.entries none

pub returns-then-opening-numbers-clause-known : goal.returns-then-opening-numbers-clause-known
returns-then-opening-numbers-clause-known g c =
    let es = c.args.slots.now.entries in
    let found = pending_found (lookup (key_eq c.args.key) es) c.in-Some.pending.opening (opening_there c.pending_at.result _ c.in-Some.pending c.pending_at.ensures.found c.in-Some.is) in
    let differ : (c.args.numbers.cisn.0 == c.in-Some.pending.opening.cisn.0) ≡ false = ne_eqb _ _ (λ e. c.if-opening-numbers.true (sym e)) in
    subst (λ xs. known_in xs ≡ known_after (OpenedMsg (numbers_of c.args.key c.args.numbers)) (known_in es)) (sym (c.drop_slot.ensures ∙ removed_at (key_eq c.args.key) c.args.slots.now.entries c.in-Some.pending.place (place_there (λ x. position (key_eq c.args.key) (keys_of c.args.slots.now.entries) ≡ Some x.place) c.pending_at.result c.in-Some.pending c.pending_at.ensures.place c.in-Some.is)))
    (answered_none c.args.key (λ cisn. c.args.numbers.cisn.0 == cisn) es c.in-Some.pending.opening found differ)

pub returns-clause-known : goal.returns-clause-known
returns-clause-known g c =
    let es = c.args.slots.now.entries in
    let found = pending_found (lookup (key_eq c.args.key) es) c.in-Some.pending.opening (opening_there c.pending_at.result _ c.in-Some.pending c.pending_at.ensures.found c.in-Some.is) in
    let same : c.in-Some.pending.opening.cisn.0 ≡ c.args.numbers.cisn.0 = search rules in
    subst (λ xs. known_in xs ≡ known_after (OpenedMsg (numbers_of c.args.key c.args.numbers)) (known_in es)) (sym (c.put_slot.ensures ∙ put_at (key_eq c.args.key) c.args.slots.now.entries c.in-Some.pending.place (slot.Live c.in_ok-conn.conn) (place_there (λ x. position (key_eq c.args.key) (keys_of c.args.slots.now.entries) ≡ Some x.place) c.pending_at.result c.in-Some.pending c.pending_at.ensures.place c.in-Some.is)))
    (answered_live c.args.key (λ cisn. c.args.numbers.cisn.0 == cisn) es c.in-Some.pending.opening found (slot.Live c.in_ok-conn.conn) refl
    (eq-eqb c.args.numbers.cisn.0 c.in-Some.pending.opening.cisn.0 (sym same)))
