-- The count of a Summary that may be sent.
use Rattle.std.proofs.Common.{◌≡◌, ℕ, ◌≤◌, ◌&&◌, true, nat_le, refl, arith, subst, length, Some}
use Rattle.std.specs.List.{list_all}
use Rattle.std.proofs.lemmas.Bool.{and_parts}
use Rattle.seq_arith.specs.MessageGrammar.{kind_of, numbers_of, behind_of, lens_of, all_in_range_by, fields_of, is_sound_by}
use Rattle.seq_arith.specs.declared.kinds.Grammar.{Grammar}
use Rattle.seq_arith.specs.declared.kinds.Kind.TheVariants as kinds
use Rattle.ft_model.proofs.Lists.{none_is_some, some_is}
use Rattle.ft_model.specs.Lawful.{summary_count}
use Rattle.logger_wire.specs.declared.Msg.{Msg}
use Rattle.logger_wire.specs.declared.Body.{Body}
use Rattle.logger_wire.specs.declared.Body.TheVariants as body
use Rattle.logger_wire.specs.Value.{body_of, IsSendableBy}

pub summary_in_range : {grammar : Grammar} (m : Msg) (count : ℕ) → IsSendableBy grammar m → m.body ≡ body.Summary count → count ≤ 64
unfolding is_sound_by
summary_in_range {grammar = grammar} m count sendable is =
    let b : Body = body.Summary count in
    let sound = subst (λ x. is_sound_by grammar (kind_of (body_of x)) m.boot (length (behind_of (body_of x))) (numbers_of (body_of x)) (lens_of (body_of x)) ≡ true) is sendable.spellable.sound in
    let fields = (and_parts (nat_le 1 m.boot) (all_in_range_by grammar m.boot 0 (fields_of kinds.Summary) (numbers_of (body_of b)))
    (and_parts (nat_le 1 m.boot && all_in_range_by grammar m.boot 0 (fields_of kinds.Summary) (numbers_of (body_of b))) (list_all (λ k. nat_le k 2048) (lens_of (body_of b))) sound).0).1 in
    grind (arith, fields)

-- whichever way it is read
pub count_in_range : {grammar : Grammar} (m : Msg) (count : ℕ) → IsSendableBy grammar m → summary_count (body_of m.body) ≡ Some count → count ≤ 64
count_in_range m count sendable e = go m.body refl e
  where
    go : (b : Body) → m.body ≡ b → summary_count (body_of b) ≡ Some count → count ≤ 64
    go (body.Summary n) is e = subst (λ k. k ≤ 64) (some_is n count e) (summary_in_range m n sendable is)
    go _ is e = none_is_some count e
