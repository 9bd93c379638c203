use Rattle.std.proofs.Common.{rules, arith, ◌∙◌, ◌++◌, ◌∷◌, [], length, ap, sym}
use Rattle.std.proofs.lemmas.Result.{on_ok_weaker}
use Rattle.seq_arith.specs.Packet.{Segment}
use Rattle.seq_arith.specs.PacketGrammar.{IsSpellable}
use Rattle.seq_arith.proofs.Spelling.{size}
use Rattle.seq_arith.proofs.Units.{options_short}
use Rattle.seq_arith.specs.Value.{said}
use Rattle.ft_model.specs.Network.{destination_of}
use Rattle.ft_model.specs.Wire.Party.{A_client, The_server}
use Rattle.node_serving.proofs.refusal.send_bare.Goals as goal

pub slice_bounds-send-end : goal.slice_bounds-send-end
slice_bounds-send-end c =
    let segment : Segment = record { head = said c.args.head; payload = [] } in
    c.write_packet-len.ensures.length ∙ sym (size segment) ∙ sym (ap length c.write_packet-len.ensures.front)

pub returns : goal.returns
returns c =
    let segment : Segment = record { head = said c.args.head; payload = [] } in
    let spellable : IsSpellable segment = record {
      src = search rules;
      dst = search rules;
      sport = search rules;
      dport = search rules;
      seq = search rules;
      ack = search rules;
      flags = search rules;
      window = search rules;
      mss = search rules;
      timestamps = c.fit_timestamps.ensures;
      size = omega (arith, options_short c.args.head.mss c.args.head.timestamps);
    } in
    on_ok_weaker c.send.result
    (λ kept. record {
      each = λ grammar. record {
        wires = kept ∙ ap (λ bytes. c.args.turn.now.sent.items ++ record { from = The_server; to = A_client (destination_of segment); bytes = bytes } ∷ []) c.write_packet-len.ensures.front;
        spelled = ((spellable, tt), tt);
      };
    }) c.send.ensures
