use Rattle.std.proofs.Common.{◌≡◌, ◌≤◌, ◌∙◌, ◌++◌, ◌∷◌, [], ap, sym, subst, arith, take, length, length-take}
use Rattle.std.proofs.lemmas.Result.{on_ok_weaker}
use Rattle.server_trait.specs.Service.{AreBytes}
use Rattle.seq_arith.specs.MessageGrammar.{kind_of, message_length, spelling_by}
use Rattle.logger_wire.specs.Value.{body_of, message_of, IsSendableBy}
use Rattle.ft_model.specs.Wire.Party.{The_server, The_logger}
use Rattle.wrapped_conn.proofs.Reported.{head_short}
use Rattle.node_serving.specs.Identity.{grammar_in}
use Rattle.node_serving.proofs.Sendable.{front_in}
use Rattle.node_serving.proofs.sent.send_message.Goals as goal

pub put_msg_by-len-requires-clause-room : goal.put_msg_by-len-requires-clause-room
put_msg_by-len-requires-clause-room c = omega (arith, head_short (kind_of (body_of c.args.message.now.body)), ap length c.requires.bare)

pub put_msg_by-len-requires-clause-sendable : goal.put_msg_by-len-requires-clause-sendable
put_msg_by-len-requires-clause-sendable c = subst (λ grammar. IsSendableBy grammar c.args.message.now) (sym c.grammar.ensures) c.requires.sendable

pub slice_bounds-send-end : goal.slice_bounds-send-end
slice_bounds-send-end c =
    let whole : length c.put_msg_by-len.new.out ≡ 64 = c.put_msg_by-len.auto.out in
    let few : message_length (body_of c.args.message.now.body) ≤ 64 = omega (arith, head_short (kind_of (body_of c.args.message.now.body)), ap length c.requires.bare) in
    omega (arith, whole, few, c.put_msg_by-len.ensures.length, length-take c.put_msg_by-len.result c.put_msg_by-len.new.out)

pub returns : goal.returns
returns c =
    let message = message_of c.args.message.now in
    let text : take c.put_msg_by-len.result c.put_msg_by-len.new.out ≡ spelling_by (grammar_in c.args.who) message =
    front_in (grammar_in c.args.who) c.grammar.result message c.put_msg_by-len.new.out _ c.put_msg_by-len.result c.grammar.ensures c.requires.sendable.spellable c.put_msg_by-len.ensures.length c.put_msg_by-len.ensures.bytes in
    on_ok_weaker c.send.result
    (λ kept. record {
      wires = kept ∙ ap (λ bytes. c.args.turn.now.sent.items ++ record { from = The_server; to = The_logger; bytes = bytes } ∷ []) text;
      spelled = ((c.requires.sendable.spellable, subst AreBytes (sym c.requires.bare) tt), tt);
    }) c.send.ensures
