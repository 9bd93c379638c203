use Rattle.std.proofs.Common.{◌∙◌, [], refl, ap, subst, sym}
use Rattle.server_trait.specs.Service.{machine}
use Rattle.segment_codec.specs.Value.{segment_of}
use Rattle.ft_io.proofs.Booleans.{not_true}
use Rattle.ft_model.specs.Network.{source_of}
use Rattle.ft_model.specs.Node.{is_for}
use Rattle.ft_model.specs.Lawful.{AreNear, held}
use Rattle.ft_model.specs.Node.Input.{Packet_comes}
use Rattle.server_node.specs.declared.stage.Stage.TheVariants as stage
use Rattle.server_node.specs.Apart.{TurnsApart}
use Rattle.node_serving.specs.Identity.{node_of, grammar_in}
use Rattle.node_serving.specs.Openings.{ArePut}
use Rattle.node_serving.specs.ServingStage.{ServingGoes}
use Rattle.server_node.specs.Stages.{StageStands, NodeGoes, is_marked}
use Rattle.node_serving.proofs.Opens.{put_none}
use Rattle.server_node.proofs.Resuming.{holds_on}
use Rattle.server_node.proofs.StagedApart.{serving_apart, only_for}
use Rattle.server_node.proofs.Staged.{asks_on, serves_on}
use Rattle.server_node.proofs.stage.on_packet.Goals as goal
use Rattle.node_serving.specs.Markers.{saving}
use Rattle.server_node.specs.MarkedTurns.{IsTurnMarked}
use Rattle.mark_laws.specs.MarkedNode.MarkedInput.{Plain_comes}
use Rattle.server_node.proofs.MarkedNodes.{unmarked_turn}
use Rattle.server_node.proofs.MarkedStage.{marked_apart}

pub returns-in-Asking-clause-turn : goal.returns-in-Asking-clause-turn
returns-in-Asking-clause-turn g c = λ standing near sound st.
    let segment = segment_of c.args.segment.now in
    let service = machine (g.S.Service.started c.args.who.kind) g.S.Service.after g.S.Service.greeting in
    subst (λ xs. NodeGoes service (node_of c.args.who standing) (Packet_comes segment) c.args.who stage.Asking xs) (sym c.requires.empty)
    (asks_on service c.args.who standing (Packet_comes segment) [] [] (subst (λ s. StageStands service (node_of c.args.who standing) s) c.in-Asking.is st) refl (refl, refl) (put_none (grammar_in c.args.who) []))

pub returns-in_ok-serve_bytes-in-Serving-clause-turn : goal.returns-in_ok-serve_bytes-in-Serving-clause-turn
returns-in_ok-serve_bytes-in-Serving-clause-turn g c = λ standing near sound st.
    let segment = segment_of c.args.segment.now in
    let service = machine (g.S.Service.started c.args.who.kind) g.S.Service.after g.S.Service.greeting in
    let reported = rw c.in_ok-serve_bytes-in-Serving.was at c.serve_bytes.ensures.turn in
    serves_on service c.args.who standing (Packet_comes segment) c.in-Serving.serving c.serve_bytes.new.serving c.serve_bytes.new.turn.sent.items refl
    (subst (λ s. StageStands service (node_of c.args.who standing) s) c.in-Serving.is st)
    (λ opened places is stands. subst (λ xs. ServingGoes service (node_of c.args.who standing) (Packet_comes segment) opened places c.serve_bytes.new.serving xs c.serve_bytes.new.turn.sent.items) c.requires.empty
    (reported standing opened places (subst (AreNear c.args.who.local segment) is near) stands))

pub returns-in_ok-hold-in-Fetching-clause-turn : goal.returns-in_ok-hold-in-Fetching-clause-turn
returns-in_ok-hold-in-Fetching-clause-turn g c = λ standing near sound st.
    let segment = segment_of c.args.segment.now in
    let service = machine (g.S.Service.started c.args.who.kind) g.S.Service.after g.S.Service.greeting in
    let reported = rw c.in_ok-hold-in-Fetching.was at c.hold.ensures.held in
    holds_on service c.args.who standing segment c.in-Fetching.fetching c.hold.new.turn.sent.items (subst (λ s. StageStands service (node_of c.args.who standing) s) c.in-Fetching.is st)
    (λ count fetched stands. subst (λ xs. ArePut (grammar_in c.args.who) (held (node_of c.args.who standing) fetched segment) xs c.hold.new.turn.sent.items) c.requires.empty (reported standing count fetched stands))

pub returns-in-Asking-clause-apart : goal.returns-in-Asking-clause-apart
returns-in-Asking-clause-apart g c =
    let input = Packet_comes (segment_of c.args.segment.now) in
    subst (λ s. TurnsApart (machine (g.S.Service.started c.args.who.kind) g.S.Service.after g.S.Service.greeting) c.args.who input s stage.Asking c.args.turn.now.sent.items) (sym c.in-Asking.is)
    (record { others = λ standing. tt; untouched = λ standing nobody. (refl, c.requires.empty); alone = λ standing. tt; restarts = λ standing. tt; known = λ standing. tt })

pub returns-in_ok-hold-in-Fetching-clause-apart : goal.returns-in_ok-hold-in-Fetching-clause-apart
returns-in_ok-hold-in-Fetching-clause-apart g c =
    let segment = segment_of c.args.segment.now in
    let alone = rw c.in_ok-hold-in-Fetching.was at c.hold.ensures.alone in
    let silent = rw c.in_ok-hold-in-Fetching.was at c.hold.ensures.silent in
    subst (λ s. TurnsApart (machine (g.S.Service.started c.args.who.kind) g.S.Service.after g.S.Service.greeting) c.args.who (Packet_comes segment) s (stage.Fetching c.in-Fetching.fetching) c.hold.new.turn.sent.items) (sym c.in-Fetching.is)
    (record {
      others = λ standing. (refl, only_for (grammar_in c.args.who) (source_of segment) c.args.turn.now.sent.items c.hold.new.turn.sent.items c.requires.empty alone);
      untouched = λ standing nobody. (refl, silent (not_true (is_for c.args.who.local segment) nobody) ∙ c.requires.empty);
      alone = λ standing. tt;
      restarts = λ standing. tt;
      known = λ standing. tt;
    })

pub returns-in_ok-serve_bytes-in-Serving-clause-apart : goal.returns-in_ok-serve_bytes-in-Serving-clause-apart
returns-in_ok-serve_bytes-in-Serving-clause-apart g c =
    let service = machine (g.S.Service.started c.args.who.kind) g.S.Service.after g.S.Service.greeting in
    let segment = segment_of c.args.segment.now in
    let alone = rw c.in_ok-serve_bytes-in-Serving.was at c.serve_bytes.ensures.alone in
    let untouched = rw c.in_ok-serve_bytes-in-Serving.was at c.serve_bytes.ensures.untouched in
    let known = rw c.in_ok-serve_bytes-in-Serving.was at c.serve_bytes.ensures.known in
    subst (λ s. TurnsApart service c.args.who (Packet_comes segment) s (stage.Serving c.serve_bytes.new.serving) c.serve_bytes.new.turn.sent.items) (sym c.in-Serving.is)
    (serving_apart service c.args.who (Packet_comes segment) c.in-Serving.serving c.serve_bytes.new.serving c.args.turn.now.sent.items c.serve_bytes.new.turn.sent.items c.requires.empty alone
    (λ standing nobody.
    let same = untouched (not_true (is_for c.args.who.local segment) nobody) in
    (ap stage.Serving same.0, same.1 ∙ c.requires.empty)) (λ standing. tt) known)

pub returns-in_ok-serve_segment-in-Marked-clause-turn : goal.returns-in_ok-serve_segment-in-Marked-clause-turn
returns-in_ok-serve_segment-in-Marked-clause-turn g c = λ standing near sound st.
    absurd (subst (λ s. StageStands (machine (g.S.Service.started c.args.who.kind) g.S.Service.after g.S.Service.greeting) (node_of c.args.who standing) s) c.in-Marked.is st)

pub returns-in_ok-serve_segment-in-Marked-clause-apart : goal.returns-in_ok-serve_segment-in-Marked-clause-apart
returns-in_ok-serve_segment-in-Marked-clause-apart g c = marked_apart (machine (g.S.Service.started c.args.who.kind) g.S.Service.after g.S.Service.greeting) c.args.who (Packet_comes (segment_of c.args.segment.now)) c.args.stage (stage.Marked c.in_ok-serve_segment-in-Marked.field-0) c.serve_segment.new.turn.sent.items
    (ap is_marked c.in-Marked.is)

pub returns-in-Asking-clause-marked : goal.returns-in-Asking-clause-marked
returns-in-Asking-clause-marked g c = unmarked_turn g.S.Service (saving g.S.Saved.form g.S.Saved.state_of g.S.Saved.is_savable) c.args.who (Plain_comes (Packet_comes (segment_of c.args.segment.now))) c.args.stage stage.Asking c.args.turn.now.sent.items (ap is_marked c.in-Asking.is)

pub returns-in_ok-hold-in-Fetching-clause-marked : goal.returns-in_ok-hold-in-Fetching-clause-marked
returns-in_ok-hold-in-Fetching-clause-marked g c = unmarked_turn g.S.Service (saving g.S.Saved.form g.S.Saved.state_of g.S.Saved.is_savable) c.args.who (Plain_comes (Packet_comes (segment_of c.args.segment.now))) c.args.stage (stage.Fetching c.in-Fetching.fetching) c.hold.new.turn.sent.items (ap is_marked c.in-Fetching.is)

pub returns-in_ok-serve_bytes-in-Serving-clause-marked : goal.returns-in_ok-serve_bytes-in-Serving-clause-marked
returns-in_ok-serve_bytes-in-Serving-clause-marked g c = unmarked_turn g.S.Service (saving g.S.Saved.form g.S.Saved.state_of g.S.Saved.is_savable) c.args.who (Plain_comes (Packet_comes (segment_of c.args.segment.now))) c.args.stage (stage.Serving c.serve_bytes.new.serving) c.serve_bytes.new.turn.sent.items (ap is_marked c.in-Serving.is)

pub returns-in_ok-serve_segment-in-Marked-clause-marked : goal.returns-in_ok-serve_segment-in-Marked-clause-marked
returns-in_ok-serve_segment-in-Marked-clause-marked g c =
    subst (λ s. IsTurnMarked g.S.Service (saving g.S.Saved.form g.S.Saved.state_of g.S.Saved.is_savable) c.args.who (Plain_comes (Packet_comes (segment_of c.args.segment.now))) s (stage.Marked c.in_ok-serve_segment-in-Marked.field-0) c.serve_segment.new.turn.sent.items) (sym c.in-Marked.is) (c.in_ok-serve_segment-in-Marked.ensures.turn, c.in_ok-serve_segment-in-Marked.ensures.apart)
