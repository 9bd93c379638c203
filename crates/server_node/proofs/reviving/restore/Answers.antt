use Rattle.std.proofs.Common.{◌≡◌, ◌∙◌, ap, refl, sym, subst}
use Rattle.std.proofs.lemmas.Result.{on_ok_weaker}
use Rattle.server_trait.specs.Service.{machine}
use Rattle.reincarnate.specs.Refinement.{RestoredIs}
use Rattle.ft_model.specs.Restart.{entry_in}
use Rattle.node_serving.specs.Identity.{node_of, grammar_in}
use Rattle.node_serving.specs.Slots.{IsSoundSlot}
use Rattle.node_serving.proofs.Knocking.{counted_on}
use Rattle.node_serving.specs.Ownership.{IsOnlyFor}
use Rattle.server_node.proofs.Restored.{ended_more, live_more}
use Rattle.server_node.proofs.RestoredAlone.{ended_alone, live_alone}
use Rattle.node_serving.proofs.Turned.{at_ok}
use Rattle.server_node.proofs.reviving.restore.Goals as goal

pub returns-in-Ended-clause-turn : goal.returns-in-Ended-clause-turn
returns-in-Ended-clause-turn g c =
    let service = machine (g.S.Service.started c.args.who.kind) g.S.Service.after g.S.Service.greeting in
    on_ok_weaker c.add_slot.result
    (λ added standing f fetched first is sound fresh r.
    let here = subst (RestoredIs service f) c.in-Ended.is is in
    ended_more service (node_of c.args.who standing) f fetched c.in-Ended.key c.args.serving.now (record { next = c.args.serving.now.next; slots = c.add_slot.new.slots }) first c.args.turn.now.sent.items
    here.0 here.1 fresh r refl added) c.add_slot.ensures.added

pub returns-in_ok-slot-in-Live-clause-turn : goal.returns-in_ok-slot-in-Live-clause-turn
returns-in_ok-slot-in-Live-clause-turn g c =
    let service = machine (g.S.Service.started c.args.who.kind) g.S.Service.after g.S.Service.greeting in
    on_ok_weaker c.add_slot-in-Live.result
    (λ added standing f fetched first is sound fresh r.
    let here = subst (RestoredIs service f) c.in-Live.is is in
    let key : c.head.result.key ≡ f.head.key = ap (λ h. h.key) c.head.ensures ∙ ap (λ h. h.key) here.1.head in
    live_more service (node_of c.args.who standing) f fetched c.head.result.key c.args.serving.now (record { next = c.add-serving.result; slots = c.add_slot-in-Live.new.slots }) c.in_ok-slot-in-Live.slot
    first c.args.turn.now.sent.items c.revive.new.turn.sent.items here.0 key fresh r (c.in_ok-slot-in-Live.ensures.turn standing (entry_in f) here.1 (sound here.0)) c.add-serving.ensures added
    (c.in_ok-slot-in-Live.ensures.number (g.S.Service.started c.args.who.kind) (entry_in f) here.1 (sound here.0)))
    c.add_slot-in-Live.ensures.added

pub returns-in-Ended-clause-sound : goal.returns-in-Ended-clause-sound
returns-in-Ended-clause-sound g c = on_ok_weaker c.add_slot.result (λ all. all c.args.who c.requires.sound tt) c.add_slot.ensures.sound

pub returns-in_ok-slot-in-Live-clause-sound : goal.returns-in_ok-slot-in-Live-clause-sound
returns-in_ok-slot-in-Live-clause-sound g c =
    on_ok_weaker c.add_slot-in-Live.result
    (λ all. all c.args.who c.requires.sound (subst (λ h. IsSoundSlot c.args.who h.key c.in_ok-slot-in-Live.slot) (sym c.head.ensures) c.in_ok-slot-in-Live.ensures.sound)) c.add_slot-in-Live.ensures.sound

pub returns-in_ok-slot-in-Live-clause-counted : goal.returns-in_ok-slot-in-Live-clause-counted
returns-in_ok-slot-in-Live-clause-counted g c =
    at_ok c.add_slot-in-Live.result (λ counted. counted_on c.args.who.isn c.args.serving.now.next.0 c.add-serving.result.0 counted c.add-serving.ensures)

pub returns-in-Ended-clause-alone : goal.returns-in-Ended-clause-alone
returns-in-Ended-clause-alone g c =
    let service = machine (g.S.Service.started c.args.who.kind) g.S.Service.after g.S.Service.greeting in
    on_ok_weaker c.add_slot.result
    (λ added standing f fetched first is fresh r.
    let here = subst (RestoredIs service f) c.in-Ended.is is in
    ended_alone service (node_of c.args.who standing) f fetched c.in-Ended.key c.args.serving.now (record { next = c.args.serving.now.next; slots = c.add_slot.new.slots }) first c.args.turn.now.sent.items
    here.0 here.1 fresh r refl added) c.add_slot.ensures.added

pub returns-in_ok-slot-in-Live-clause-alone : goal.returns-in_ok-slot-in-Live-clause-alone
returns-in_ok-slot-in-Live-clause-alone g c =
    let service = machine (g.S.Service.started c.args.who.kind) g.S.Service.after g.S.Service.greeting in
    let alone = rw c.in_ok-slot-in-Live.was at c.revive.ensures.alone in
    on_ok_weaker c.add_slot-in-Live.result
    (λ added standing f fetched first is fresh r.
    let here = subst (RestoredIs service f) c.in-Live.is is in
    let key : c.head.result.key ≡ f.head.key = ap (λ h. h.key) c.head.ensures ∙ ap (λ h. h.key) here.1.head in
    live_alone service (node_of c.args.who standing) f fetched c.head.result.key c.args.serving.now (record { next = c.add-serving.result; slots = c.add_slot-in-Live.new.slots }) c.in_ok-slot-in-Live.slot
    first c.args.turn.now.sent.items c.revive.new.turn.sent.items here.0 key fresh r (subst (λ h. IsOnlyFor (grammar_in c.args.who) h.key c.args.turn.now.sent.items c.revive.new.turn.sent.items) (sym c.head.ensures) alone)
    (λ sound. c.in_ok-slot-in-Live.ensures.turn standing (entry_in f) here.1 sound) c.add-serving.ensures c.in_ok-slot-in-Live.ensures.known added)
    c.add_slot-in-Live.ensures.added
