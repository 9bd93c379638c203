use Rattle.std.proofs.Common.{rules, ◌≡◌, ◌∙◌, ◌+◌, ◌%◌, ◌^◌, ap, subst, sym, None, ◌&&◌, nat_lt, true, false, refl}
use Rattle.std.specs.Map.{lookup}
use Rattle.std.proofs.lemmas.Bool.{and_parts}
use Rattle.ft_io.specs.Key.{key_eq}
use Rattle.server_trait.specs.Service.{machine}
use Rattle.segment_codec.specs.Value.{segment_of}
use Rattle.ft_model.specs.Network.{source_of}
use Rattle.node_serving.specs.declared.slot.Opening.{Opening}
use Rattle.node_serving.specs.Identity.{node_of}
use Rattle.ft_model.specs.Opening.{is_syn, timestamping_for}
use Rattle.seq_arith.specs.Packet.{text_size}
use Rattle.tcp_rules.specs.Profiles.{profile_of}
use Rattle.tcp_rules.specs.Timestamping.{asked_by, timestamps_sent}
use Rattle.node_serving.specs.Openings.{Admits, Knocks, pending_slots}
use Rattle.node_serving.proofs.Admitted.{none_admitted, one_admitted, same_numbers, next_number}
use Rattle.node_serving.proofs.Knocking.{waits_outside, comes_in, numbers_are, counted_on}
use Rattle.node_serving.proofs.opening.admit.Goals as goal

pub returns-then-not-may_open-clause-turn : goal.returns-then-not-may_open-clause-turn
returns-then-not-may_open-clause-turn g c = λ mine stage opened places number st.
    let segment = segment_of c.args.segment.now in
    let es = c.args.slots.now.entries in
    none_admitted (machine (g.S.Service.started c.args.who.kind) g.S.Service.after g.S.Service.greeting) (node_of c.args.who stage) segment opened places c.args.next.now.0 es c.args.turn.now.sent.items
    c.requires.strange number st (sym (c.may_open.ensures segment refl) ∙ search rules)

pub returns-clause-turn : goal.returns-clause-turn
returns-clause-turn g c = λ mine stage opened places number st.
    let segment = segment_of c.args.segment.now in
    let from : source_of segment ≡ c.sender-key.result = sym c.sender-key.ensures in
    let strange : lookup (key_eq c.sender-key.result) c.args.slots.now.entries ≡ None = subst (λ k. lookup (key_eq k) c.args.slots.now.entries ≡ None) from c.requires.strange in
    let service = machine (g.S.Service.started c.args.who.kind) g.S.Service.after g.S.Service.greeting in
    let node = node_of c.args.who stage in
    let es = c.args.slots.now.entries in
    let reported = rw c.in_ok-ask.was at c.ask.ensures in
    let timed : c.asked-timestamping.result ≡ timestamping_for (profile_of c.args.who.profile) segment = c.asked-timestamping.ensures ∙ ap (λ b. asked_by b segment.head.timestamps) c.timestamps.ensures in
    let size : text_size segment.head.mss (timestamps_sent (timestamping_for (profile_of c.args.who.profile) segment)) ≡ c.text_size.result =
    sym (c.text_size.ensures.size ∙ ap (text_size segment.head.mss) (c.sent.ensures ∙ ap timestamps_sent timed)) in
    let o : Opening = record { cisn = c.args.segment.now.head.seq; sisn = c.args.next.now; mss = c.text_size.result; timestamping = c.asked-timestamping.result } in
    let opening = and_parts _ _ (sym (c.may_open.ensures segment refl) ∙ search rules) in
    let added = rw c.in_ok-add_slot.was at c.add_slot.ensures.added in
    subst (λ xs. Admits service node segment opened places c.add.result.0 xs c.args.turn.now.sent.items c.ask.new.turn.sent.items) (sym (added strange))
    (one_admitted service node segment opened places c.sender-key.result o c.add.result.0 es c.args.turn.now.sent.items c.ask.new.turn.sent.items from strange mine opening.0 opening.1 st
    (same_numbers (profile_of c.args.who.profile) c.args.who.isn opened segment c.sender-key.result o from refl (sym number) size) (sym timed)
    (c.add.ensures ∙ (ap (λ n. (n + 65536) % 2 ^ 32) number ∙ next_number c.args.who.isn opened)) reported)

pub returns-then-not-may_open-clause-alone : goal.returns-then-not-may_open-clause-alone
returns-then-not-may_open-clause-alone g c = λ stage.
    let segment = segment_of c.args.segment.now in
    let shut : (is_syn segment && nat_lt (pending_slots c.args.slots.now.entries) 64) ≡ false = sym (c.may_open.ensures segment refl) ∙ search rules in
    waits_outside (node_of c.args.who stage) segment (source_of segment) c.args.next.now.0 c.args.slots.now.entries c.args.turn.now.sent.items shut

pub returns-clause-alone : goal.returns-clause-alone
returns-clause-alone g c = λ stage.
    let segment = segment_of c.args.segment.now in
    let from : source_of segment ≡ c.sender-key.result = sym c.sender-key.ensures in
    let strange : lookup (key_eq c.sender-key.result) c.args.slots.now.entries ≡ None = subst (λ k. lookup (key_eq k) c.args.slots.now.entries ≡ None) from c.requires.strange in
    let reported = rw c.in_ok-ask.was at c.ask.ensures in
    let timed : c.asked-timestamping.result ≡ timestamping_for (profile_of c.args.who.profile) segment = c.asked-timestamping.ensures ∙ ap (λ b. asked_by b segment.head.timestamps) c.timestamps.ensures in
    let size : text_size segment.head.mss (timestamps_sent (timestamping_for (profile_of c.args.who.profile) segment)) ≡ c.text_size.result =
    sym (c.text_size.ensures.size ∙ ap (text_size segment.head.mss) (c.sent.ensures ∙ ap timestamps_sent timed)) in
    let o : Opening = record { cisn = c.args.segment.now.head.seq; sisn = c.args.next.now; mss = c.text_size.result; timestamping = c.asked-timestamping.result } in
    let opening : (is_syn segment && nat_lt (pending_slots c.args.slots.now.entries) 64) ≡ true = sym (c.may_open.ensures segment refl) ∙ search rules in
    let added = rw c.in_ok-add_slot.was at c.add_slot.ensures.added in
    subst (λ k. Knocks (node_of c.args.who stage) segment k c.args.next.now.0 c.add.result.0 c.args.slots.now.entries c.add_slot.new.slots.entries c.args.turn.now.sent.items c.ask.new.turn.sent.items) (sym from)
    (comes_in (node_of c.args.who stage) segment c.sender-key.result c.args.next.now.0 c.add.result.0 c.args.slots.now.entries c.add_slot.new.slots.entries c.args.turn.now.sent.items c.ask.new.turn.sent.items o opening
    (numbers_are (node_of c.args.who stage) segment c.sender-key.result c.args.next.now.0 o from refl refl size) timed
    c.add.ensures (added strange) reported)

pub returns-clause-counted : goal.returns-clause-counted
returns-clause-counted g c = λ counted. counted_on c.args.who.isn c.args.next.now.0 c.add.result.0 counted c.add.ensures

pub returns-clause-sound : goal.returns-clause-sound
returns-clause-sound g c =
    let all = rw c.in_ok-add_slot.was at c.add_slot.ensures.sound in
    all c.args.who c.requires.sound (c.text_size.ensures.least, c.text_size.ensures.most)
