use Rattle.std.proofs.Common.{◌≡◌, ◌∙◌, ap, sym, subst}
use Rattle.tcp_rules.specs.Profiles.{profile_of}
use Rattle.server_trait.specs.Service.{machine}
use Rattle.node_serving.specs.Identity.{node_of, grammar_in}
use Rattle.node_serving.specs.declared.slot.Slot.TheVariants as slot
use Rattle.node_serving.specs.Conn.{IsSound}
use Rattle.node_serving.specs.Slots.{IsSoundSlot}
use Rattle.node_serving.specs.Ownership.{IsOnlyFor}
use Rattle.server_node.proofs.Revived.{live_again, proceeds_under}
use Rattle.server_node.proofs.reviving.revive.Goals as goal

pub start_live-requires : goal.start_live-requires
unfolding IsSound
start_live-requires g c = record {
  sound = c.hand_on-conn.ensures.sound;
  client = ap (λ x. x.key) c.hand_on-conn.ensures.value ∙ (ap (λ x. x.key) c.in-Ok.ensures.value ∙ sym (ap (λ h. h.key) c.head.ensures));
  incarnation = ap (λ x. x.boot) c.hand_on-conn.ensures.value ∙ ap (λ x. x.boot) c.in-Ok.ensures.value;
  batches = ap (λ x. x.batches) c.hand_on-conn.ensures.value ∙ ap (λ x. x.profile.batches) c.in-Ok.ensures.value;
}

pub returns-clause-turn : goal.returns-clause-turn
returns-clause-turn g c = λ standing e re sound.
    let fresh = g.S.Service.started c.args.who.kind in
    let reported = rw c.in_ok-start_live.was at c.start_live.ensures.turn in
    let is = c.in-Ok.ensures.law fresh e re sound in
    let key : c.head.result.key ≡ e.key = ap (λ h. h.key) c.head.ensures ∙ ap (λ h. h.key) re.head in
    let local : c.hand_on-conn.result.local ≡ c.args.who.local = ap (λ x. x.local) c.hand_on-conn.ensures.value ∙ ap (λ x. x.local) c.in-Ok.ensures.value in
    let boot : c.hand_on-conn.result.boot ≡ c.args.who.boot = ap (λ x. x.boot) c.hand_on-conn.ensures.value ∙ ap (λ x. x.boot) c.in-Ok.ensures.value in
    live_again (machine fresh g.S.Service.after g.S.Service.greeting) (node_of c.args.who standing) e c.hand_on-conn.result c.start_live.new.conn c.args.turn.now.sent.items c.start_live.new.turn.sent.items
    local boot is.segments.1 (c.hand_on-conn.ensures.profile (profile_of c.args.who.profile) fresh e c.args.isn.0 is) (λ p same begins. reported p (same ∙ sym key) begins)

pub returns-clause-number : goal.returns-clause-number
returns-clause-number g c = λ fresh e re sound.
    let number = rw c.in_ok-start_live.was at c.start_live.ensures.number in
    let delta = rw c.in_ok-start_live.was at c.start_live.ensures.delta in
    proceeds_under (profile_of c.args.who.profile) (machine fresh g.S.Service.after g.S.Service.greeting) e c.args.isn.0 c.in-Ok.spliced c.hand_on-conn.result c.start_live.new.conn (c.in-Ok.ensures.law fresh e re sound)
    c.hand_on-conn.ensures.value number delta

pub returns-clause-sound : goal.returns-clause-sound
returns-clause-sound g c =
    let sound = rw c.in_ok-start_live.was at c.start_live.ensures.sound in
    subst (λ h. IsSoundSlot c.args.who h.key (slot.Live c.start_live.new.conn)) c.head.ensures sound

pub returns-clause-alone : goal.returns-clause-alone
returns-clause-alone g c =
    let alone = rw c.in_ok-start_live.was at c.start_live.ensures.alone in
    subst (λ h. IsOnlyFor (grammar_in c.args.who) h.key c.args.turn.now.sent.items c.start_live.new.turn.sent.items) c.head.ensures alone
