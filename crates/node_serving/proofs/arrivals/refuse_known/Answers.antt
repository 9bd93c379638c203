use Rattle.std.proofs.Common.{◌≡◌, ◌∙◌, ◌∷◌, [], false, refl, sym, subst, Some, None}
use Rattle.std.specs.Prelude.{position}
use Rattle.std.specs.Map.{lookup, keys_of}
use Rattle.ft_io.specs.Key.{key_eq}
use Rattle.server_trait.specs.Service.{machine}
use Rattle.seq_arith.specs.Message.{Message}
use Rattle.seq_arith.specs.Message.Body.{FullMsg}
use Rattle.ft_model.specs.Node.Input.{Message_comes}
use Rattle.ft_model.specs.Refusal.{full_rst}
use Rattle.node_serving.specs.declared.slot.Slot.TheVariants as slot
use Rattle.node_serving.specs.LogMessages.{opening_in}
use Rattle.node_serving.specs.Identity.{node_of, grammar_in}
use Rattle.node_serving.specs.Slots.{numbers_of, AllSlotsGo, AllSound}
use Rattle.node_serving.specs.Alone.{SlotsAlone}
use Rattle.node_serving.proofs.AtPlace.{removed_at, opening_there, no_opening, place_there}
use Rattle.node_serving.proofs.Receipt.{only_its_key, its_key}
use Rattle.node_serving.proofs.Keyed.{drop_alone, refused_for, full_back}
use Rattle.node_serving.proofs.OneKey.{one_leaves}
use Rattle.node_serving.proofs.Opened.{none_pending, none_pending_alone, pending_found, opening_refused}
use Rattle.node_serving.proofs.Sound.{sound_drop}
use Rattle.node_serving.specs.Clients.{known_after, known_in}
use Rattle.node_serving.proofs.Known.{unanswered, answered_none}
use Rattle.node_serving.proofs.arrivals.refuse_known.Goals as goal

pub returns-in_default-clause-turn : goal.returns-in_default-clause-turn
returns-in_default-clause-turn g c = λ message is stage places near st.
    let service = machine (g.S.Service.started c.args.who.kind) g.S.Service.after g.S.Service.greeting in
    let node = node_of c.args.who stage in
    let full : Message = record { boot = c.args.who.boot; body = FullMsg c.args.key } in
    let es = c.args.slots.now.entries in
    let none : opening_in (lookup (key_eq c.args.key) es) ≡ None = no_opening c.pending_at.result _ c.pending_at.ensures.found c.in_default.is in
    subst (λ m. AllSlotsGo service node (Message_comes m) places es c.args.turn.now.sent.items c.args.turn.now.sent.items) (sym is)
    (none_pending service node full refl c.args.key (λ k. refl) (λ p. (refl, refl)) (λ k. (refl, refl)) es places c.args.turn.now.sent.items
    c.pending_at.ensures.unique none st)

pub returns-clause-turn : goal.returns-clause-turn
returns-clause-turn g c = λ message is stage places near st.
    let service = machine (g.S.Service.started c.args.who.kind) g.S.Service.after g.S.Service.greeting in
    let node = node_of c.args.who stage in
    let full : Message = record { boot = c.args.who.boot; body = FullMsg c.args.key } in
    let es = c.args.slots.now.entries in
    let reported = rw c.in_ok-refuse_full.was at c.refuse_full.ensures in
    let found = pending_found (lookup (key_eq c.args.key) es) c.in-Some.pending.opening (opening_there c.pending_at.result _ c.in-Some.pending c.pending_at.ensures.found c.in-Some.is) in
    subst (λ m. AllSlotsGo service node (Message_comes m) places c.drop_slot.new.slots.entries c.args.turn.now.sent.items c.refuse_full.new.turn.sent.items) (sym is)
    (subst (λ xs. AllSlotsGo service node (Message_comes full) places xs c.args.turn.now.sent.items c.refuse_full.new.turn.sent.items) (sym (c.drop_slot.ensures ∙ removed_at (key_eq c.args.key) c.args.slots.now.entries c.in-Some.pending.place (place_there (λ x. position (key_eq c.args.key) (keys_of c.args.slots.now.entries) ≡ Some x.place) c.pending_at.result c.in-Some.pending c.pending_at.ensures.place c.in-Some.is)))
    (one_leaves service node (Message_comes full) c.args.key (only_its_key node full c.args.key (λ k. refl)) es places (slot.Pending c.in-Some.pending.opening)
    c.args.turn.now.sent.items c.refuse_full.new.turn.sent.items st c.pending_at.ensures.unique found
    (λ place at. opening_refused service node full refl c.args.key (λ k. refl) refl place c.in-Some.pending.opening c.args.turn.now.sent.items c.refuse_full.new.turn.sent.items at reported)))

pub returns-clause-sound : goal.returns-clause-sound
returns-clause-sound g c = subst (AllSound c.args.who) (sym (c.drop_slot.ensures ∙ removed_at (key_eq c.args.key) c.args.slots.now.entries c.in-Some.pending.place (place_there (λ x. position (key_eq c.args.key) (keys_of c.args.slots.now.entries) ≡ Some x.place) c.pending_at.result c.in-Some.pending c.pending_at.ensures.place c.in-Some.is))) (sound_drop c.args.who (key_eq c.args.key) c.args.slots.now.entries c.requires.sound)

pub returns-in_default-clause-alone : goal.returns-in_default-clause-alone
returns-in_default-clause-alone g c = λ message is stage.
    let service = machine (g.S.Service.started c.args.who.kind) g.S.Service.after g.S.Service.greeting in
    let node = node_of c.args.who stage in
    let full : Message = record { boot = c.args.who.boot; body = FullMsg c.args.key } in
    let es = c.args.slots.now.entries in
    let none : opening_in (lookup (key_eq c.args.key) es) ≡ None = no_opening c.pending_at.result _ c.pending_at.ensures.found c.in_default.is in
    subst (λ m. SlotsAlone service node (Message_comes m) es es c.args.turn.now.sent.items c.args.turn.now.sent.items) (sym is)
    (none_pending_alone service node full refl c.args.key (λ k. refl) (λ p. (refl, refl)) (λ k. (refl, refl)) es c.args.turn.now.sent.items none)

pub returns-clause-alone : goal.returns-clause-alone
returns-clause-alone g c = λ message is stage.
    let service = machine (g.S.Service.started c.args.who.kind) g.S.Service.after g.S.Service.greeting in
    let node = node_of c.args.who stage in
    let full : Message = record { boot = c.args.who.boot; body = FullMsg c.args.key } in
    let es = c.args.slots.now.entries in
    let reported = rw c.in_ok-refuse_full.was at c.refuse_full.ensures in
    let found = pending_found (lookup (key_eq c.args.key) es) c.in-Some.pending.opening (opening_there c.pending_at.result _ c.in-Some.pending c.pending_at.ensures.found c.in-Some.is) in
    subst (λ m. SlotsAlone service node (Message_comes m) es c.drop_slot.new.slots.entries c.args.turn.now.sent.items c.refuse_full.new.turn.sent.items) (sym is)
    (subst (λ xs. SlotsAlone service node (Message_comes full) es xs c.args.turn.now.sent.items c.refuse_full.new.turn.sent.items) (sym (c.drop_slot.ensures ∙ removed_at (key_eq c.args.key) c.args.slots.now.entries c.in-Some.pending.place (place_there (λ x. position (key_eq c.args.key) (keys_of c.args.slots.now.entries) ≡ Some x.place) c.pending_at.result c.in-Some.pending c.pending_at.ensures.place c.in-Some.is)))
    (drop_alone service node (Message_comes full) c.args.key (only_its_key node full c.args.key (λ k. refl)) (its_key node full c.args.key refl (λ k. refl) c.args.key refl)
    es (slot.Pending c.in-Some.pending.opening) c.args.turn.now.sent.items c.refuse_full.new.turn.sent.items c.pending_at.ensures.unique found
    (refused_for (grammar_in c.args.who) c.args.key (full_rst c.args.who.local (numbers_of c.args.key c.in-Some.pending.opening) ∷ []) c.args.turn.now.sent.items c.refuse_full.new.turn.sent.items
    (full_back c.args.who.local c.args.key c.in-Some.pending.opening) reported)
    (λ place at. opening_refused service node full refl c.args.key (λ k. refl) refl place c.in-Some.pending.opening c.args.turn.now.sent.items c.refuse_full.new.turn.sent.items at reported)))

pub returns-in_default-clause-known : goal.returns-in_default-clause-known
returns-in_default-clause-known g c =
    let none : opening_in (lookup (key_eq c.args.key) c.args.slots.now.entries) ≡ None = no_opening c.pending_at.result _ c.pending_at.ensures.found c.in_default.is in
    unanswered c.args.key (λ cisn. false) c.args.slots.now.entries none

pub returns-clause-known : goal.returns-clause-known
returns-clause-known g c =
    let es = c.args.slots.now.entries in
    let found = pending_found (lookup (key_eq c.args.key) es) c.in-Some.pending.opening (opening_there c.pending_at.result _ c.in-Some.pending c.pending_at.ensures.found c.in-Some.is) in
    subst (λ xs. known_in xs ≡ known_after (FullMsg c.args.key) (known_in es)) (sym (c.drop_slot.ensures ∙ removed_at (key_eq c.args.key) c.args.slots.now.entries c.in-Some.pending.place (place_there (λ x. position (key_eq c.args.key) (keys_of c.args.slots.now.entries) ≡ Some x.place) c.pending_at.result c.in-Some.pending c.pending_at.ensures.place c.in-Some.is)))
    (answered_none c.args.key (λ cisn. false) es c.in-Some.pending.opening found refl)
