use Rattle.std.proofs.Common.{◌≡◌, ◌∙◌, ◌≤◌, ap, arith, rules, true, length}
use Rattle.std.specs.Prelude.{nat_le}
use Rattle.std.specs.List.{list_all}
use Rattle.seq_arith.specs.MessageGrammar.{lens_in}
use Rattle.logger_store.proofs.Sending.{lens_sound, lens_size}
use Rattle.logger_store.proofs.reporting.answer_lengths.Goals as goal

pub put_by-requires : goal.put_by-requires
put_by-requires c =
    let each : list_all (λ n. nat_le n 2048) (lens_in c.as_bytes.result.now) ≡ true = ap (list_all (λ n. nat_le n 2048)) c.as_bytes.ensures.value ∙ c.copy_lengths.ensures.each in
    let whole : length (lens_in c.as_bytes.result.now) ≡ length c.copy_lengths.new.lens = ap length c.as_bytes.ensures.value in
    let some : 1 ≤ length (lens_in c.as_bytes.result.now) =
    omega (arith, whole, c.copy_lengths.ensures.count, c.if-first-head.false, ap (λ h. h.reads) c.head-head.ensures.value) in
    let few : length (lens_in c.as_bytes.result.now) ≤ 512 = omega (arith, whole, c.copy_lengths.ensures.count) in
    record {
      lens = omega (arith, c.as_bytes.ensures.size);
      spellable = record {
        boot = search rules;
        numbers = search rules;
        sound = lens_sound c.args.grammar c.args.boot c.args.first _ _ _ (lens_in c.as_bytes.result.now) c.requires.boot (search rules) each;
        size = lens_size (lens_in c.as_bytes.result.now) some few;
      };
    }
