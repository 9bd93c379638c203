use Rattle.std.proofs.Common.{rules, ◌≡◌, ◌∙◌, true, false, sym}
use Rattle.std.proofs.lemmas.Bool.{false≢true}
use Rattle.std.proofs.lemmas.Result.{on_ok_weaker}
use Rattle.segment_codec.specs.Value.{segment_of}
use Rattle.server_trait.specs.Service.{machine}
use Rattle.ft_model.specs.Node.{is_for}
use Rattle.node_serving.specs.Identity.{node_of}
use Rattle.node_serving.proofs.Knocking.{counted_by}
use Rattle.node_serving.proofs.Served.{others_packet}
use Rattle.node_serving.proofs.Strange.{others_alone}
use Rattle.node_serving.proofs.Known.{other_knows}
use Rattle.node_serving.proofs.serving.serve_packet.Goals as goal

pub returns-then-not-is_for-clause-turn : goal.returns-then-not-is_for-clause-turn
returns-then-not-is_for-clause-turn g c = λ stage opened places near st.
    let segment = segment_of c.args.segment.now in
    let other : is_for c.args.who.local segment ≡ false = sym c.is_for.ensures ∙ search rules in
    others_packet (machine (g.S.Service.started c.args.who.kind) g.S.Service.after g.S.Service.greeting) (node_of c.args.who stage) segment opened places _ c.args.turn.now.sent.items other st

pub returns-then-not-is_for-clause-alone : goal.returns-then-not-is_for-clause-alone
returns-then-not-is_for-clause-alone g c = λ stage.
    let segment = segment_of c.args.segment.now in
    let other : is_for c.args.who.local segment ≡ false = sym c.is_for.ensures ∙ search rules in
    let count = counted_by c.args.who.isn c.args.serving.now.next.0 (search rules) c.requires.counted in
    others_alone (machine (g.S.Service.started c.args.who.kind) g.S.Service.after g.S.Service.greeting) (node_of c.args.who stage) segment c.args.serving.now c.args.turn.now.sent.items count.0 count.1 other

pub returns-then-contains_key-clause-turn : goal.returns-then-contains_key-clause-turn
returns-then-contains_key-clause-turn g c =
    let mine : is_for c.args.who.local (segment_of c.args.segment.now) ≡ true = sym c.is_for.ensures ∙ search rules in
    on_ok_weaker c.serve_known_client.result (λ h. h mine) c.serve_known_client.ensures.turn

pub returns-then-contains_key-clause-alone : goal.returns-then-contains_key-clause-alone
returns-then-contains_key-clause-alone g c =
    let mine : is_for c.args.who.local (segment_of c.args.segment.now) ≡ true = sym c.is_for.ensures ∙ search rules in
    on_ok_weaker c.serve_known_client.result (λ h. h mine) c.serve_known_client.ensures.alone

pub returns-else-contains_key-clause-turn : goal.returns-else-contains_key-clause-turn
returns-else-contains_key-clause-turn g c =
    let mine : is_for c.args.who.local (segment_of c.args.segment.now) ≡ true = sym c.is_for.ensures ∙ search rules in
    on_ok_weaker c.serve_strange.result (λ h. h mine) c.serve_strange.ensures.turn

pub returns-else-contains_key-clause-alone : goal.returns-else-contains_key-clause-alone
returns-else-contains_key-clause-alone g c =
    let mine : is_for c.args.who.local (segment_of c.args.segment.now) ≡ true = sym c.is_for.ensures ∙ search rules in
    on_ok_weaker c.serve_strange.result (λ h. h mine) c.serve_strange.ensures.alone

pub returns-then-contains_key-clause-untouched : goal.returns-then-contains_key-clause-untouched
returns-then-contains_key-clause-untouched g c =
    let mine : is_for c.args.who.local (segment_of c.args.segment.now) ≡ true = sym c.is_for.ensures ∙ search rules in
    on_ok_weaker c.serve_known_client.result (λ h other. absurd (false≢true (sym other ∙ mine))) c.serve_known_client.ensures.sound

pub returns-else-contains_key-clause-untouched : goal.returns-else-contains_key-clause-untouched
returns-else-contains_key-clause-untouched g c =
    let mine : is_for c.args.who.local (segment_of c.args.segment.now) ≡ true = sym c.is_for.ensures ∙ search rules in
    on_ok_weaker c.serve_strange.result (λ h other. absurd (false≢true (sym other ∙ mine))) c.serve_strange.ensures.sound

pub returns-then-not-is_for-clause-known : goal.returns-then-not-is_for-clause-known
returns-then-not-is_for-clause-known g c = λ standing.
    let other : is_for c.args.who.local (segment_of c.args.segment.now) ≡ false = sym c.is_for.ensures ∙ search rules in
    other_knows (node_of c.args.who standing) (segment_of c.args.segment.now) c.args.serving.now other

pub returns-then-contains_key-clause-known : goal.returns-then-contains_key-clause-known
returns-then-contains_key-clause-known g c =
    let mine : is_for c.args.who.local (segment_of c.args.segment.now) ≡ true = sym c.is_for.ensures ∙ search rules in
    on_ok_weaker c.serve_known_client.result (λ h. h mine) c.serve_known_client.ensures.known

pub returns-else-contains_key-clause-known : goal.returns-else-contains_key-clause-known
returns-else-contains_key-clause-known g c =
    let mine : is_for c.args.who.local (segment_of c.args.segment.now) ≡ true = sym c.is_for.ensures ∙ search rules in
    on_ok_weaker c.serve_strange.result (λ h. h mine) c.serve_strange.ensures.known
