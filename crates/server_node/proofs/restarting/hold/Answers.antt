use Rattle.std.proofs.Common.{rules, tests, ◌≡◌, ◌∙◌, ◌&&◌, ◌∷◌, [], not, true, true≢false, option_map, ap, sym}
use Rattle.std.proofs.lemmas.Result.{on_ok_weaker}
use Rattle.seq_arith.specs.Packet.{has_rst}
use Rattle.seq_arith.specs.Value.{said}
use Rattle.segment_codec.specs.Value.{segment_of}
use Rattle.logger_wire.specs.Records.{head_said}
use Rattle.ft_model.specs.Network.{source_of}
use Rattle.ft_model.specs.Node.{is_for}
use Rattle.node_serving.specs.Identity.{node_of, grammar_in}
use Rattle.server_node.proofs.FetchAnswer.{own_stands}
use Rattle.server_node.proofs.FetchReply.{none_held, one_held}
use Rattle.std.proofs.lemmas.Bool.{and_parts}
use Rattle.node_serving.proofs.Keyed.{quiet_for, refused_for, held_back}
use Rattle.server_node.proofs.restarting.hold.Goals as goal

pub returns-in-Some-clause-held : goal.returns-in-Some-clause-held
returns-in-Some-clause-held g c = on_ok_weaker c.send_bare.result
    (λ put standing count fetched st.
    let segment = segment_of c.args.segment.now in
    let asks : (is_for c.args.who.local segment && not (has_rst segment)) ≡ true = sym c.may_be_held.ensures ∙ search (rules, tests) in
    one_held (node_of c.args.who standing) fetched segment c.sender.result (head_said c.in-Some.entry) _ c.args.turn.now.sent.items c.send_bare.new.turn.sent.items asks (sym c.sender.ensures)
    (ap (option_map head_said) (sym c.in-Some.is)
    ∙ c.live_head.ensures.law count fetched (own_stands g.S.Service.started g.S.Service.after g.S.Service.greeting c.args.who c.args.fetching.now count fetched c.requires st)) c.holding.ensures put)
    c.send_bare.ensures

pub returns-in-None-clause-held : goal.returns-in-None-clause-held
returns-in-None-clause-held g c = λ standing count fetched st.
    let segment = segment_of c.args.segment.now in
    let asks : (is_for c.args.who.local segment && not (has_rst segment)) ≡ true = sym c.may_be_held.ensures ∙ search (rules, tests) in
    none_held (node_of c.args.who standing) fetched segment c.sender.result c.args.turn.now.sent.items asks (sym c.sender.ensures)
    (ap (option_map head_said) (sym c.in-None.is)
    ∙ c.live_head.ensures.law count fetched (own_stands g.S.Service.started g.S.Service.after g.S.Service.greeting c.args.who c.args.fetching.now count fetched c.requires st))

pub returns-then-not-may_be_held-clause-alone : goal.returns-then-not-may_be_held-clause-alone
returns-then-not-may_be_held-clause-alone g c = quiet_for (grammar_in c.args.who) (source_of (segment_of c.args.segment.now)) c.args.turn.now.sent.items

pub returns-in-None-clause-alone : goal.returns-in-None-clause-alone
returns-in-None-clause-alone g c = quiet_for (grammar_in c.args.who) (source_of (segment_of c.args.segment.now)) c.args.turn.now.sent.items

pub returns-in-Some-clause-alone : goal.returns-in-Some-clause-alone
returns-in-Some-clause-alone g c = on_ok_weaker c.send_bare.result
    (λ put. refused_for (grammar_in c.args.who) (source_of (segment_of c.args.segment.now)) (record { head = said c.holding.result; payload = [] } ∷ []) c.args.turn.now.sent.items c.send_bare.new.turn.sent.items
    (held_back c.args.who.local (head_said c.in-Some.entry) (source_of (segment_of c.args.segment.now)) (record { head = said c.holding.result; payload = [] })
    (c.in-Some.ensures.keyed ∙ c.sender.ensures) c.holding.ensures) put)
    c.send_bare.ensures

pub returns-in-Some-clause-silent : goal.returns-in-Some-clause-silent
returns-in-Some-clause-silent g c = on_ok_weaker c.send_bare.result
    (λ put other.
    let segment = segment_of c.args.segment.now in
    let asks : (is_for c.args.who.local segment && not (has_rst segment)) ≡ true = sym c.may_be_held.ensures ∙ search (rules, tests) in
    absurd (true≢false (sym (and_parts (is_for c.args.who.local segment) (not (has_rst segment)) asks).0 ∙ other)))
    c.send_bare.ensures
