use Rattle.std.proofs.Common.{ℕ, ◌≡◌, ◌+◌, ◌++◌, length, take, drop, ap, sym, arith, ◌∙◌}
use Rattle.std.specs.Prelude.{Ok}
use Rattle.seq_arith.specs.Packet.{Segment}
use Rattle.seq_arith.specs.PacketGrammar.{options_of, reading, spelling}
use Rattle.segment_codec.specs.Value.{said}
use Rattle.segment_codec.specs.Spelling.{segment_with}
use Rattle.segment_codec.proofs.Pieces.{payload_put, behind_put, front_written}
use Rattle.segment_codec.proofs.writing.write_packet.Goals as goal

-- the payload comes after the room for the headers
stands : (c : goal.After-slice_known-3-1) → drop (40 + length (options_of (said c.args.head.now))) (take (c.payload_start-start.result + length c.args.payload.now) c.put_bytes.new.bytes) ≡ c.args.payload.now
stands c =
    let start : ℕ = c.payload_start-start.result in let len : ℕ = start + length c.args.payload.now in
    ap (λ n. drop n (take len c.put_bytes.new.bytes)) (sym c.payload_start-start.ensures.place)
    ∙ ap (λ xs. drop start (take len xs)) c.put_bytes.ensures
    ∙ payload_put start c.args.payload.now c.args.out.now (omega (arith, c.payload_start-start.ensures.place, c.requires.fits, c.requires.room))

packet : (c : goal.After-slice_known-3-1) → c.write_header.new.packet ≡ spelling (segment_with c.args.head.now c.args.payload.now)
packet c = c.write_header.ensures.bytes ∙ ap (λ xs. spelling (segment_with c.args.head.now xs)) (stands c)

pub returns-clause-bytes : goal.returns-clause-bytes
returns-clause-bytes c =
    let start : ℕ = c.payload_start-start.result in let len : ℕ = start + length c.args.payload.now in
    let rest : drop len c.put_bytes.new.bytes ≡ drop len c.args.out.now =
    ap (drop len) c.put_bytes.ensures ∙ behind_put start c.args.payload.now c.args.out.now (omega (arith, c.payload_start-start.ensures.place, c.requires.fits, c.requires.room))
    in ap (λ xs. c.write_header.new.packet ++ xs) rest ∙ ap (λ xs. xs ++ drop len c.args.out.now) (packet c)

pub returns-clause-front : goal.returns-clause-front
returns-clause-front c =
    let segment : Segment = segment_with c.args.head.now c.args.payload.now
    in let len : ℕ = c.payload_start-start.result + length c.args.payload.now
    in front_written segment c.write_header.new.packet (drop len c.put_bytes.new.bytes) len (omega (arith, c.payload_start-start.ensures.place)) (packet c)

pub returns-clause-read : goal.returns-clause-read
returns-clause-read c =
    ap reading (returns-clause-front c ∙ sym (packet c))
    ∙ c.write_header.ensures.read ∙ ap (λ xs. Ok (segment_with c.args.head.now xs)) (stands c)
