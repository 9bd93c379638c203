use Rattle.std.proofs.Common.{◌≡◌, ◌&&◌, ◌||◌, ◌+ℤ◌, pos, min, max, nat_lt, nat_le, ◌∙◌, subst, sym, length, arith, rules}
use Rattle.std.proofs.lemmas.Int.{to_z-of_z}
use mir.Syntax.{w64}
use mir.Val.{SFits}
use Rattle.tcp_rules.specs.Arrival.{below, int_eq}
use Rattle.seq_arith.specs.Offset.{fin_of}
use Rattle.ft_model.specs.Copy.{from_start}
use Rattle.std.specs.Prelude.{IfOk, IfSome, is_some, Some, None, Option}
use Rattle.seq_arith.specs.PacketGrammar.{reading}
use Rattle.segment_codec.specs.Value.{segment_of}
use Rattle.south_wrap.specs.declared.answers.CopyPart.{CopyPart}
use Rattle.south_wrap.specs.Translation.{copied, is_some_copied, IsPart}
use Rattle.south_wrap.proofs.Heads.{if_read}
use Rattle.south_wrap.proofs.Parts.{Found, found_size, fin_is, part_is}
use Rattle.south_wrap.proofs.south.South.copy_of.Goals as goal

pub part-requires : goal.part-requires
part-requires c = omega (arith, c.read_accepted-segment.ensures.short, c.read_accepted-segment.ensures.most, c.text_of-text.ensures.most, c.skipped-skipped.ensures, c.min-count.ensures)

pub returns-clause-which : goal.returns-clause-which
returns-clause-which c =
    let fits : SFits w64 c.offset_of-first.result = search rules in
    let back = to_z-of_z w64 c.offset_of-first.result fits in
    let found : Found c.args.self.now (segment_of c.read_accepted-segment.result) c.text_of-text.result.now c.offset_of-first.result c.copy_start-offset.result c.skipped-skipped.result c.min-count.result = record {
      text_is = c.text_of-text.ensures.value;
      first_is = c.offset_of-first.ensures.value;
      offset_is = subst (λ z. c.copy_start-offset.result ≡ max c.args.self.now.answered (from_start z)) back c.copy_start-offset.ensures;
      skipped_is = subst (λ z. c.skipped-skipped.result ≡ min (below c.args.self.now.answered z) (length c.text_of-text.result.now)) back c.skipped-skipped.ensures;
      count_is = omega (arith, c.min-count.ensures, c.saturating_sub.ensures, c.bytes_taken.ensures);
    } in
    let size = found_size c.args.self.now (segment_of c.read_accepted-segment.result) c.text_of-text.result.now c.offset_of-first.result c.copy_start-offset.result c.skipped-skipped.result c.min-count.result found in
    let fin = fin_is c.args.self.now (segment_of c.read_accepted-segment.result) c.text_of-text.result.now c.offset_of-first.result c.copies_fin.result c.text_of-text.ensures.value c.offset_of-first.ensures.value
    (subst (λ z. c.copies_fin.result ≡ (fin_of (segment_of c.read_accepted-segment.result) && (c.args.self.now.fin && int_eq (z +ℤ pos (length c.text_of-text.result.now)) (pos c.args.self.now.taken) && nat_le c.args.self.now.answered c.args.self.now.taken))) back c.copies_fin.ensures) in
    if_read (λ segment. is_some c.part.result ≡ is_some_copied (copied c.args.self.now segment)) (reading c.args.packet.now) (segment_of c.read_accepted-segment.result) c.read_accepted-segment.ensures.read
    (c.part.ensures.which ∙ (λ j. nat_lt 0 (size j) || fin j))

pub returns-clause-part : goal.returns-clause-part
returns-clause-part c =
    let fits : SFits w64 c.offset_of-first.result = search rules in
    let back = to_z-of_z w64 c.offset_of-first.result fits in
    let found : Found c.args.self.now (segment_of c.read_accepted-segment.result) c.text_of-text.result.now c.offset_of-first.result c.copy_start-offset.result c.skipped-skipped.result c.min-count.result = record {
      text_is = c.text_of-text.ensures.value;
      first_is = c.offset_of-first.ensures.value;
      offset_is = subst (λ z. c.copy_start-offset.result ≡ max c.args.self.now.answered (from_start z)) back c.copy_start-offset.ensures;
      skipped_is = subst (λ z. c.skipped-skipped.result ≡ min (below c.args.self.now.answered z) (length c.text_of-text.result.now)) back c.skipped-skipped.ensures;
      count_is = omega (arith, c.min-count.ensures, c.saturating_sub.ensures, c.bytes_taken.ensures);
    } in
    let fin = fin_is c.args.self.now (segment_of c.read_accepted-segment.result) c.text_of-text.result.now c.offset_of-first.result c.copies_fin.result c.text_of-text.ensures.value c.offset_of-first.ensures.value
    (subst (λ z. c.copies_fin.result ≡ (fin_of (segment_of c.read_accepted-segment.result) && (c.args.self.now.fin && int_eq (z +ℤ pos (length c.text_of-text.result.now)) (pos c.args.self.now.taken) && nat_le c.args.self.now.answered c.args.self.now.taken))) back c.copies_fin.ensures) in
    some_part (λ p. IfOk (reading c.args.packet.now) (λ segment. IsPart c.args.packet.now p (copied c.args.self.now segment))) c.part.result _ c.part.ensures.part
    (if_read (λ segment. IsPart c.args.packet.now _ (copied c.args.self.now segment)) (reading c.args.packet.now) (segment_of c.read_accepted-segment.result) c.read_accepted-segment.ensures.read
    (part_is c.args.self.now (segment_of c.read_accepted-segment.result) c.args.packet.now c.text_of-text.result.now c.offset_of-first.result c.copy_start-offset.result c.skipped-skipped.result c.min-count.result c.copies_fin.result found fin
    c.read_accepted-segment.ensures.place c.read_accepted-segment.ensures.within))
  where
    some_part : (P : CopyPart → Type 0) (o : Option CopyPart) (part : CopyPart) → IfSome o (λ p. p ≡ part) → P part → IfSome o P
    some_part P None part e h = e
    some_part P (Some p) part e h = subst P (sym e) h
