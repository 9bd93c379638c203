use Rattle.std.proofs.Common.{◌≡◌, ◌∙◌, [], refl, ap, subst, sym, rules, None, Some, true, false, eqb-true}
use Rattle.std.specs.Map.{lookup}
use Rattle.std.proofs.lemmas.Result.{on_ok_weaker}
use Rattle.std.proofs.lemmas.Bool.{and_parts}
use Rattle.ft_io.specs.Key.{key_eq}
use Rattle.segment_codec.specs.Value.{segment_of}
use Rattle.ft_model.specs.Network.{source_of}
use Rattle.ft_model.specs.Node.Input.{Packet_comes}
use Rattle.node_serving.specs.declared.slot.Slot.TheVariants as slot
use Rattle.node_serving.specs.LogMessages.{opening_in}
use Rattle.node_serving.specs.Identity.{node_of, grammar_in}
use Rattle.node_serving.specs.Openings.{ArePut, all_opens}
use Rattle.node_serving.proofs.Asked.{opens_of, opens_one, asked_at_syn, unasked}
use Rattle.node_serving.proofs.Opened.{pending_found}
use Rattle.node_serving.proofs.Opens.{put_none}
use Rattle.node_serving.proofs.Sound.{sound_found}
use Rattle.node_serving.proofs.opening.ask_again.Goals as goal

pub ask-requires-clause-least : goal.ask-requires-clause-least
ask-requires-clause-least g c =
    let es = c.args.slots.now.entries in
    let found = pending_found (lookup (key_eq c.sender-key.result) es) c.in-Some.opening (sym c.opening_at.ensures.found ∙ c.in-Some.is) in
    (sound_found c.args.who c.sender-key.result es (slot.Pending c.in-Some.opening) c.requires.sound found).0

pub ask-requires-clause-most : goal.ask-requires-clause-most
ask-requires-clause-most g c =
    let es = c.args.slots.now.entries in
    let found = pending_found (lookup (key_eq c.sender-key.result) es) c.in-Some.opening (sym c.opening_at.ensures.found ∙ c.in-Some.is) in
    (sound_found c.args.who c.sender-key.result es (slot.Pending c.in-Some.opening) c.requires.sound found).1

pub returns-in_default-clause-asked : goal.returns-in_default-clause-asked
returns-in_default-clause-asked g c = λ mine stage.
    let segment = segment_of c.args.segment.now in
    let from : source_of segment ≡ c.sender-key.result = sym c.sender-key.ensures in
    let node = node_of c.args.who stage in
    let es = c.args.slots.now.entries in
    let none : opening_in (lookup (key_eq c.sender-key.result) es) ≡ None = search rules in
    let quiet : all_opens node (Packet_comes segment) es ≡ [] =
    opens_one node segment es c.opening_at.ensures.unique ∙ (ap (λ k. opens_of node segment k (opening_in (lookup (key_eq k) es))) from ∙ ap (opens_of node segment c.sender-key.result) none) in
    subst (λ ps. ArePut (grammar_in c.args.who) ps c.args.turn.now.sent.items c.args.turn.now.sent.items) (sym quiet) (put_none (grammar_in c.args.who) c.args.turn.now.sent.items)

pub returns-then-not-repeats-clause-asked : goal.returns-then-not-repeats-clause-asked
returns-then-not-repeats-clause-asked g c = λ mine stage.
    let segment = segment_of c.args.segment.now in
    let from : source_of segment ≡ c.sender-key.result = sym c.sender-key.ensures in
    let node = node_of c.args.who stage in
    let es = c.args.slots.now.entries in
    let found : opening_in (lookup (key_eq c.sender-key.result) es) ≡ Some c.in-Some.opening = sym c.opening_at.ensures.found ∙ c.in-Some.is in
    let other : c.repeats.result ≡ false = search rules in
    let quiet : all_opens node (Packet_comes segment) es ≡ [] =
    opens_one node segment es c.opening_at.ensures.unique ∙ (ap (λ k. opens_of node segment k (opening_in (lookup (key_eq k) es))) from
    ∙ (ap (opens_of node segment c.sender-key.result) found ∙ unasked node segment c.sender-key.result c.in-Some.opening (sym (c.repeats.ensures segment refl) ∙ other))) in
    subst (λ ps. ArePut (grammar_in c.args.who) ps c.args.turn.now.sent.items c.args.turn.now.sent.items) (sym quiet) (put_none (grammar_in c.args.who) c.args.turn.now.sent.items)

pub returns-clause-asked : goal.returns-clause-asked
returns-clause-asked g c = on_ok_weaker c.ask.result
    (λ asked mine stage.
    let segment = segment_of c.args.segment.now in
    let from : source_of segment ≡ c.sender-key.result = sym c.sender-key.ensures in
    let node = node_of c.args.who stage in
    let es = c.args.slots.now.entries in
    let found : opening_in (lookup (key_eq c.sender-key.result) es) ≡ Some c.in-Some.opening = sym c.opening_at.ensures.found ∙ c.in-Some.is in
    let its : c.repeats.result ≡ true = search rules in
    let syn = and_parts _ _ (sym (c.repeats.ensures segment refl) ∙ its) in
    subst (λ ps. ArePut (grammar_in c.args.who) ps c.args.turn.now.sent.items c.ask.new.turn.sent.items)
    (sym (opens_one node segment es c.opening_at.ensures.unique ∙ (ap (λ k. opens_of node segment k (opening_in (lookup (key_eq k) es))) from
    ∙ (ap (opens_of node segment c.sender-key.result) found ∙ asked_at_syn node segment c.sender-key.result c.in-Some.opening mine syn.0 from (eqb-true _ _ syn.1)))))
    asked) c.ask.ensures
