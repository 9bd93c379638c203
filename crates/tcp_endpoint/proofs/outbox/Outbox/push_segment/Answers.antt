use Rattle.std.proofs.Common.{rules, ◌≡◌, [], ◌∷◌, ◌++◌, ap, sym, arith, ◌∙◌, length, length-append, add-zero}
use Rattle.std.proofs.lemmas.List.{length_push}
use Rattle.seq_arith.specs.Packet.{Segment}
use Rattle.seq_arith.specs.PacketGrammar.{spelling}
use Rattle.seq_arith.proofs.Spelling.{size}
use Rattle.segment_codec.specs.Spelling.{segment_with}
use Rattle.tcp_endpoint.specs.Packets.{byte_count}
use Rattle.tcp_endpoint.proofs.Pieces.{appended, appended_climbs, byte_count_pieces, length_pieces}
use Rattle.tcp_endpoint.proofs.Spelled.{spelled_bytes}
use Rattle.tcp_endpoint.proofs.outbox.Outbox.push_segment.Goals as goal

abbrev segment_in : goal.After-note_end → Segment
segment_in c = segment_with c.args.head.now (c.args.front.now ++ c.args.back.now)

held : (c : goal.After-note_end) → byte_count c.args.self.now ≡ length c.self.inside.bytes.items
held c =
    ap byte_count (sym c.self.view_is) ∙ sym (add-zero _) ∙ byte_count_pieces 0 c.self.inside.ends.items c.self.inside.bytes.items c.self.invariant.climbs

end_is : (c : goal.After-note_end) → c.len.result ≡ length c.append_segment.new.bytes.items
end_is c = search rules

pub invariant_of-self : goal.invariant_of-self
invariant_of-self c = record {
  climbs = appended_climbs c.self.inside.ends.items c.self.inside.bytes.items (spelling (segment_in c)) c.note_end.new.ends.items c.append_segment.new.bytes.items c.len.result c.self.invariant.climbs c.append_segment.ensures.bytes c.note_end.ensures.items (end_is c);
  bytes_reserved = omega (arith, c.self.invariant.bytes_reserved, c.append_segment.ensures.capacity);
  ends_reserved = omega (arith, c.self.invariant.ends_reserved, c.note_end.ensures.capacity);
  bytes_held = omega (arith, held c, c.requires.bytes, c.requires.size, ap length c.append_segment.ensures.bytes, length-append c.self.inside.bytes.items (spelling (segment_in c)), size (segment_in c));
  packets_held = omega (arith, ap length c.note_end.ensures.items, length-append c.self.inside.ends.items (c.len.result ∷ []), c.requires.count, ap length c.self.view_is, length_pieces 0 c.self.inside.ends.items c.self.inside.bytes.items);
}

pub returns-clause-sent : goal.returns-clause-sent
returns-clause-sent c =
    appended c.self.inside.ends.items c.self.inside.bytes.items (spelling (segment_in c)) c.note_end.new.ends.items c.append_segment.new.bytes.items c.len.result c.self.invariant.climbs c.append_segment.ensures.bytes c.note_end.ensures.items (end_is c)
    ∙ ap (λ ps. ps ++ spelling (segment_in c) ∷ []) c.self.view_is

pub returns-clause-count : goal.returns-clause-count
returns-clause-count c = ap length (returns-clause-sent c) ∙ length_push c.args.self.now _

pub returns-clause-bytes : goal.returns-clause-bytes
returns-clause-bytes c = ap byte_count (returns-clause-sent c) ∙ spelled_bytes c.args.self.now (segment_in c)
