use Rattle.std.proofs.Common.{◌≤◌, subst, sym, ap, ◌∙◌}
use Rattle.std.specs.Prelude.{Ok}
use Rattle.seq_arith.specs.PacketGrammar.{packet_length, spelling}
use Rattle.south_wrap.proofs.south.South.write_outward.Goals as goal

pub write_packet-requires-clause-fits : goal.write_packet-requires-clause-fits
write_packet-requires-clause-fits c =
    subst (λ x. packet_length x ≤ 1500) (sym (c.outward_head.ensures c.args.segment.now.payload.now)) c.requires.fits

pub returns-clause-most : goal.returns-clause-most
returns-clause-most c =
    subst (λ n. n ≤ 1500) (sym (c.write_packet.ensures.length ∙ ap packet_length (c.outward_head.ensures c.args.segment.now.payload.now))) c.requires.fits

pub returns-clause-canonical : goal.returns-clause-canonical
returns-clause-canonical c =
    c.write_packet.ensures.front ∙ ap spelling (c.outward_head.ensures c.args.segment.now.payload.now)

pub returns-clause-read : goal.returns-clause-read
returns-clause-read c = c.write_packet.ensures.read ∙ ap Ok (c.outward_head.ensures c.args.segment.now.payload.now)
