use Rattle.std.proofs.Common.{◌∙◌, ◌++◌, ap, refl, subst, sym, None}
use Rattle.std.proofs.lemmas.Result.{on_ok_weaker}
use Rattle.server_trait.specs.Service.{machine}
use Rattle.segment_codec.specs.Value.{segment_of}
use Rattle.ft_model.specs.Network.{source_of}
use Rattle.ft_model.specs.Node.Stage.{Asking}
use Rattle.node_serving.specs.Alone.{StandsFor}
use Rattle.node_serving.specs.Identity.{node_of, grammar_in}
use Rattle.node_serving.specs.Ownership.{of_key}
use Rattle.node_serving.proofs.Strange.{answers_stranger}
use Rattle.node_serving.proofs.excluded.ignores_an_acknowledgement_while_openings_are_pending.Goals as goal

pub returns : goal.returns
returns g c =
    let segment = segment_of c.args.segment.now in
    let key = source_of segment in
    let service = machine (g.S.Service.started c.args.who.kind) g.S.Service.after g.S.Service.greeting in
    let node = node_of c.args.who Asking in
    on_ok_weaker c.serve_packet.result
    (λ alone.
    let a = alone Asking in
    ap (of_key (grammar_in c.args.who) key) (a.put ∙ ap (λ old. old ++ a.reported) c.requires.empty)
    ∙ answers_stranger service node segment key refl c.requires.mine c.args.serving.now _ a.reported c.requires.other
    (a.alone key None (subst (λ slot. StandsFor service node key slot None) (sym c.requires.strange) tt) tt)) c.serve_packet.ensures.alone
