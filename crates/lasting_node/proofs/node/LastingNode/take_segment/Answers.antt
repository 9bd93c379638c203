use Rattle.std.proofs.Common.{◌≡◌, ◌∙◌, true, false, Some, None, option_map, if◌then◌else◌, [], ◌∷◌, ◌++◌, refl, sym, ap, ap₂, subst, ◌≤◌, ◌^◌, ◌-◌}
use Rattle.std.specs.Map.{lookup}
use Rattle.std.proofs.lemmas.Result.{on_ok_weaker}
use Rattle.ft_io.specs.declared.Key.{Key}
use Rattle.ft_io.specs.Key.{key_eq}
use Rattle.ft_io.proofs.Outcomes.{if_err}
use Rattle.seq_arith.specs.PacketGrammar.{reading}
use Rattle.segment_codec.specs.Value.{segment_of}
use Rattle.ft_model.specs.Network.{source_of}
use Rattle.ft_model.specs.World.{segment_or_noise}
use Rattle.lasting_laws.specs.Closing.{is_newer}
use Rattle.lasting_lives.specs.Lives.{resting_in, receipt, left}
use Rattle.forget_wire.specs.Value.{named_said}
use Rattle.long_laws.specs.Forgetting.{forget}
use Rattle.lasting_node.specs.Turns.{NodeProceeds, known_of, forget_wire}
use Rattle.lasting_node.proofs.Leaving.{on_receipt, dropped, ends_early, waits}
use Rattle.lasting_node.proofs.Reading.{memory_of_packet, changed_at}
use Rattle.lasting_node.proofs.node.LastingNode.take_segment.Goals as goal

-- its client is heard
pub returns-in_default-clause-turn : goal.returns-in_default-clause-turn
returns-in_default-clause-turn g c =
    let was = c.args.self.now in
    let segment = segment_of c.args.segment.now in
    let small : was.patience.wait ≤ 2 ^ 32 - 1 = was.counts in
    let its : c.sender-key.result ≡ source_of segment = c.sender-key.ensures in
    let rests : resting_in (known_of was (source_of segment)) ≡ None = ap (λ k. resting_in (known_of was k)) (sym its) ∙ (sym c.resting.ensures ∙ c.in_default.is) in
    on_ok_weaker c.go.result
    (λ proceeds. on_receipt was c.go.new.self segment c.requires.ours c.requires.serving small rests
    (subst (λ r. NodeProceeds (segment_or_noise r) was c.go.new.self) c.requires.read (λ n near sound st. proceeds n near sound (record { who = st.who; stage = st.stage })))
    (subst (λ y. (k : Key) → known_of c.go.new.self k ≡ (if key_eq y k then option_map receipt (known_of was k) else known_of was k)) its
    (λ k. ap (λ l. lookup (key_eq k) l) c.go.ensures.alone.lives ∙ changed_at c.sender-key.result receipt was.lives c.receive.new.self c.receive.ensures.its c.receive.ensures.others k))
    (c.go.ensures.alone.is_own ∙ c.requires.own)) c.go.ensures.turn

pub returns-in_default-clause-fenced : goal.returns-in_default-clause-fenced
returns-in_default-clause-fenced g c = if_err c.go.result (λ end f. memory_of_packet c.args.self.now.node.who (reading c.args.bytes.now) end f) c.go.ensures.fenced

-- what is leaving drops it
pub returns-then-is_leaving-clause-turn : goal.returns-then-is_leaving-clause-turn
returns-then-is_leaving-clause-turn g c =
    let was = c.args.self.now in
    let segment = segment_of c.args.segment.now in
    let small : was.patience.wait ≤ 2 ^ 32 - 1 = was.counts in
    let its : c.sender-key.result ≡ source_of segment = c.sender-key.ensures in
    let rests : resting_in (known_of was (source_of segment)) ≡ Some c.in-Some.resting = ap (λ k. resting_in (known_of was k)) (sym its) ∙ (sym c.resting.ensures ∙ c.in-Some.is) in
    let leaves : c.is_leaving.result ≡ true = c.if-is_leaving.true in
    dropped was c.send_nothing.new.self segment c.requires.ours c.requires.serving small c.in-Some.resting rests (λ q st. sym leaves ∙ c.is_leaving.ensures.law q st)
    c.send_nothing.ensures.same c.send_nothing.ensures.nothing c.send_nothing.ensures.own

-- the SYN of a new connection ends the quarantine
pub returns-then-is_before-clause-turn : goal.returns-then-is_before-clause-turn
returns-then-is_before-clause-turn g c =
    let was = c.args.self.now in
    let segment = segment_of c.args.segment.now in
    let small : was.patience.wait ≤ 2 ^ 32 - 1 = was.counts in
    let its : c.sender-key.result ≡ source_of segment = c.sender-key.ensures in
    let rests : resting_in (known_of was (source_of segment)) ≡ Some c.in-Some.resting = ap (λ k. resting_in (known_of was k)) (sym its) ∙ (sym c.resting.ensures ∙ c.in-Some.is) in
    let stays : c.is_leaving.result ≡ false = c.if-is_leaving.false in
    let newer : is_newer c.in-Some.resting.end.0 segment ≡ true = sym (c.is_before.ensures segment refl) ∙ c.if-is_before.true in
    let nothing = c.send_nothing-then-is_before in
    let after = c.send_forget.new.self in
    ends_early was after segment c.requires.ours c.requires.serving small c.in-Some.resting rests (λ q st. sym stays ∙ c.is_leaving.ensures.law q st) newer
    (c.send_forget.ensures.same.node ∙ nothing.ensures.same.node) (c.send_forget.ensures.same.patience ∙ nothing.ensures.same.patience)
    (subst (λ y. (k : Key) → known_of after k ≡ (if key_eq y k then option_map (left was.patience.wait) (known_of was k) else known_of was k)) its
    (λ k. ap (λ l. lookup (key_eq k) l) (c.send_forget.ensures.same.lives ∙ nothing.ensures.same.lives)
    ∙ changed_at c.sender-key.result (left was.patience.wait) was.lives c.leave.new.self c.leave.ensures.its c.leave.ensures.others k))
    (c.in_ok-send_forget.ensures.sent ∙ ap₂ (λ xs x. xs ++ forget_wire (forget x.who.boot (named_said c.in-Some.resting.named)) ∷ []) nothing.ensures.nothing nothing.ensures.same.node) (c.send_forget.ensures.own ∙ nothing.ensures.own)

-- any other segment of it
pub returns-clause-turn : goal.returns-clause-turn
returns-clause-turn g c =
    let was = c.args.self.now in
    let segment = segment_of c.args.segment.now in
    let small : was.patience.wait ≤ 2 ^ 32 - 1 = was.counts in
    let its : c.sender-key.result ≡ source_of segment = c.sender-key.ensures in
    let rests : resting_in (known_of was (source_of segment)) ≡ Some c.in-Some.resting = ap (λ k. resting_in (known_of was k)) (sym its) ∙ (sym c.resting.ensures ∙ c.in-Some.is) in
    let stays : c.is_leaving.result ≡ false = c.if-is_leaving.false in
    let older : is_newer c.in-Some.resting.end.0 segment ≡ false = sym (c.is_before.ensures segment refl) ∙ c.if-is_before.false in
    on_ok_weaker c.go-2.result
    (λ proceeds. waits was c.go-2.new.self segment c.requires.ours c.requires.serving small c.in-Some.resting rests (λ q st. sym stays ∙ c.is_leaving.ensures.law q st) older
    (subst (λ r. NodeProceeds (segment_or_noise r) was c.go-2.new.self) c.requires.read proceeds) (sym c.go-2.ensures.alone.lives) (c.go-2.ensures.alone.is_own ∙ c.requires.own)) c.go-2.ensures.turn

pub returns-clause-fenced : goal.returns-clause-fenced
returns-clause-fenced g c = if_err c.go-2.result (λ end f. memory_of_packet c.args.self.now.node.who (reading c.args.bytes.now) end f) c.go-2.ensures.fenced
