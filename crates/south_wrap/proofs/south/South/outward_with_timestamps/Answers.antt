use Rattle.std.proofs.Common.{◌≤◌, ap, ◌∙◌}
use Rattle.std.specs.Prelude.{Ok}
use Rattle.std.proofs.lemmas.Result.{IfOk-at_ok}
use Rattle.seq_arith.specs.PacketGrammar.{packet_length, reading, spelling}
use Rattle.segment_codec.specs.Value.{segment_of}
use Rattle.south_wrap.specs.Translation.{outward}
use Rattle.south_wrap.proofs.Heads.{one_reading}
use Rattle.south_wrap.proofs.south.South.outward_with_timestamps.Goals as goal

pub write_outward-requires-clause-fits : goal.write_outward-requires-clause-fits
write_outward-requires-clause-fits c =
    IfOk-at_ok (λ segment. packet_length (outward c.args.self.now segment) ≤ 1500) c.read_accepted-segment.ensures.read c.requires.fits

pub returns-clause-canonical : goal.returns-clause-canonical
returns-clause-canonical c = λ segment is.
    c.write_outward.ensures.canonical ∙ ap (λ x. spelling (outward c.args.self.now x))
    (one_reading (reading c.args.packet.now) (segment_of c.read_accepted-segment.result) segment c.read_accepted-segment.ensures.read is)

pub returns-clause-read : goal.returns-clause-read
returns-clause-read c = λ segment is.
    c.write_outward.ensures.read ∙ ap (λ x. Ok (outward c.args.self.now x))
    (one_reading (reading c.args.packet.now) (segment_of c.read_accepted-segment.result) segment c.read_accepted-segment.ensures.read is)
