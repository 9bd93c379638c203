use Rattle.std.proofs.Common.{ℕ, ◌≡◌, ◌+◌, length, length-drop, drop, ap, arith, refl, ◌∙◌}
use Rattle.seq_arith.specs.Packet.{Segment}
use Rattle.seq_arith.specs.PacketGrammar.{IsSpellable, options_of, reading, packet_length}
use Rattle.seq_arith.proofs.Spelling.{spelling_is_read}
use Rattle.segment_codec.specs.Value.{said}
use Rattle.segment_codec.specs.Spelling.{segment_with}
use Rattle.segment_codec.proofs.Pieces.{header_put, headed}
use Rattle.segment_codec.proofs.header.write_header.Goals as goal

pub returns-clause-bytes : goal.returns-clause-bytes
returns-clause-bytes c =
    let at : ℕ = 40 + length (options_of (said c.args.head.now))
    in let segment : Segment = segment_with c.args.head.now (drop at c.args.packet.now)
    in let size : packet_length segment ≡ length c.args.packet.now = omega (arith, length-drop at c.args.packet.now)
    in headed segment c.put_options.new.out c.seal_both.new.packet
    (cc (header_put segment c.args.packet.now refl size, size, c.put_ip_start.ensures, c.put_places.ensures.bytes, c.put_numbers.ensures.bytes, c.put_options.ensures.bytes))
    c.seal_both.ensures

pub returns-clause-read : goal.returns-clause-read
returns-clause-read c =
    let at : ℕ = 40 + length (options_of (said c.args.head.now))
    in let segment : Segment = segment_with c.args.head.now (drop at c.args.packet.now)
    in let size : packet_length segment ≡ length c.args.packet.now = omega (arith, length-drop at c.args.packet.now)
    in let places = c.put_places.ensures.fits
    in let numbers = c.put_numbers.ensures.fits
    in let fits : IsSpellable segment = record {
      src = places.src;
      dst = places.dst;
      sport = places.sport;
      dport = places.dport;
      seq = numbers.seq;
      ack = numbers.ack;
      flags = numbers.flags;
      window = numbers.window;
      mss = c.put_options.ensures.mss;
      timestamps = c.put_options.ensures.timestamps;
      size = omega (arith, size, c.requires.fits);
    }
    in ap reading (returns-clause-bytes c) ∙ spelling_is_read segment fits
