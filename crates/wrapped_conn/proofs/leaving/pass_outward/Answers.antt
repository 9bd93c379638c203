use Rattle.std.proofs.Common.{◌≡◌, ◌+◌, length, drop, subst, sym, ap, ◌∙◌, arith, add-one}
use Rattle.std.specs.Prelude.{IsOk, Ok}
use Rattle.std.proofs.lemmas.List.{drop-set-lt, length-set}
use Rattle.std.proofs.lemmas.Grind.{drop_more_same}
use Rattle.seq_arith.specs.Packet.{Segment}
use Rattle.seq_arith.specs.PacketGrammar.{reading, spelling}
use Rattle.south_wrap.specs.Translation.{passed_out}
use Rattle.ft_model.proofs.Lists.{all_slice_get}
use Rattle.tcp_endpoint.specs.Packets.{byte_count}
use Rattle.wrapped_conn.proofs.PassedOn.{Passes, proceeds, passed_all, has_a_rst, passed_none, same_there, same_bytes, packets_count}
use Rattle.wrapped_conn.proofs.leaving.pass_outward.Goals as goal

pub packet_mut-requires : goal.packet_mut-requires
packet_mut-requires c = omega (arith, c.loop-i-test.true, c.len-i-end.ensures, c.loop-i.invariant.count)

pub outward-requires : goal.outward-requires
outward-requires c =
    all_slice_get (λ packet. IsOk (reading packet)) c.args.out.now c.loop-i.i c.packet_mut.result.now c.requires.accepted
    (sym (same_there c.loop-i.out c.args.out.now c.loop-i.i c.loop-i.invariant.rest) ∙ c.packet_mut.ensures.value)

pub loop-i-preserved : goal.loop-i-preserved
loop-i-preserved c =
    let out = c.loop-i.out in
    let i = c.loop-i.i in
    let inv = c.loop-i.invariant in
    let packet = c.outward.new.packet in
    let is = c.packet_mut.ensures.same_length packet c.outward.auto.packet in
    record {
      south = c.outward.ensures.state ∙ inv.south;
      count = ap length is ∙ length-set out i packet ∙ inv.count;
      bytes = ap byte_count is ∙ same_bytes out i c.packet_mut.result.now packet c.packet_mut.ensures.value c.outward.auto.packet ∙ inv.bytes;
      rest = ap (drop (i + 1)) is ∙ drop-set-lt (i + 1) out i packet (omega arith) ∙ drop_more_same out c.args.out.now i inv.rest;
      passed = λ segments first readable. rw (add-one, is) (proceeds c.args.south.now i segments out c.packet_mut.result.now packet c.requires.off (inv.passed segments first readable) readable
          c.packet_mut.ensures.value (subst (Passes c.args.south.now c.packet_mut.result.now packet) c.if-not-outward.false (record {
            answered = c.outward.ensures.answer;
            canonical = subst (λ s. (x : Segment) → reading c.packet_mut.result.now ≡ Ok x → c.packet_mut.result.now ≡ spelling x → packet ≡ spelling (passed_out s x)) inv.south c.outward.ensures.canonical;
          })));
    }

pub returns-then-not-outward-clause-passed : goal.returns-then-not-outward-clause-passed
returns-then-not-outward-clause-passed c = λ segments first readable.
    let packet = c.outward.new.packet in
    c.clear.ensures ∙ passed_none c.args.south.now segments (has_a_rst c.args.south.now c.loop-i.i segments c.loop-i.out c.packet_mut.result.now packet (c.loop-i.invariant.passed segments first readable) readable
    c.packet_mut.ensures.value (subst (Passes c.args.south.now c.packet_mut.result.now packet) c.if-not-outward.true (record {
      answered = c.outward.ensures.answer;
      canonical = subst (λ s. (x : Segment) → reading c.packet_mut.result.now ≡ Ok x → c.packet_mut.result.now ≡ spelling x → packet ≡ spelling (passed_out s x)) c.loop-i.invariant.south c.outward.ensures.canonical;
    })))

pub returns-clause-passed : goal.returns-clause-passed
returns-clause-passed c = λ segments first readable.
    passed_all c.args.south.now c.loop-i.i segments c.loop-i.out (c.loop-i.invariant.passed segments first readable)
    (omega (arith, c.loop-i-test.false, c.loop-i.auto.i-end, c.len-i-end.ensures, ap length first, packets_count segments))
