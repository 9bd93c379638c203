use Rattle.std.proofs.Common.{◌≡◌, ◌∙◌, inl, inr, ap, sym, subst, List, map, string_bytes, true, false}
use Rattle.std.specs.List.{list_any}
use Rattle.std.proofs.lemmas.Bool.{and_parts}
use Rattle.clap.specs.Simple.{app_of, matches_of}
use Rattle.clap.specs.Walk.{first_of}
use Rattle.clap.specs.Matches.{found_of}
use Rattle.clap.specs.Kinds.{Kinds, HasKind, IsAmong}
use Rattle.clap.specs.Values.{kind_of}
use Rattle.clap.specs.declared.error.Error.{Error}
use Rattle.clap.specs.declared.error.kind.ErrorKind.TheVariants as kind
use Rattle.clap.specs.Faults.{is_simple_and_free, fault_of}
use Rattle.clap.proofs.WalkLemmas.{list_any-map, first_value-rows}
use Rattle.link_parts.specs.Options.{Text, is_stray, name_of}
use Rattle.link_parts.proofs.Commanding.{is_plain}
use Rattle.link_parts.proofs.Deciding.{stray_refused, decides, when_taken, when_refused, row_value}
use Rattle.link_parts.proofs.options.read_options.Goals as goal

other_kind : (kinds : Kinds) (e : Error) → (kind_of e ≡ kind.OutOfMemory → ⊥) → HasKind kinds e → IsAmong (kind_of e) kinds
other_kind kinds e other (inl memory) = absurd (other memory)
other_kind kinds e other (inr among) = among

pub returns-then-has_stray : goal.returns-then-has_stray
returns-then-has_stray c =
    stray_refused c.args.options.now (map string_bytes c.args.words.now) (sym (list_any-map is_stray string_bytes c.args.words.now) ∙ (sym c.has_stray.ensures ∙ c.if-has_stray.true))

pub returns-in-Ok : goal.returns-in-Ok
returns-in-Ok c =
    let options = c.args.options.now in
    let words : List Text = map string_bytes c.args.words.now in
    let clean : list_any is_stray words ≡ false = sym (list_any-map is_stray string_bytes c.args.words.now) ∙ (sym c.has_stray.ensures ∙ c.if-has_stray.false) in
    let app = c.in_ok-command.ensures in
    let plain : is_simple_and_free (app_of c.in_ok-command.field-0) ≡ true = ap is_simple_and_free app ∙ is_plain options in
    let found = when_taken options words (decides options words clean) (ap (λ a. fault_of a words) (sym app) ∙ c.in-Ok.ensures.kinds plain) in
    let rows = (c.in-Ok.ensures.matches (and_parts _ _ plain).0).0 in (
      found.uses,
      found.spelled,
      λ o. first_value-rows (found_of c.in-Ok.matches) (name_of o)
          ∙ (ap (first_of (name_of o)) (rows ∙ (ap (λ a. matches_of a words) app ∙ found.rows)) ∙ row_value found.uses o),
    )

pub returns : goal.returns
returns c =
    let options = c.args.options.now in
    let words : List Text = map string_bytes c.args.words.now in
    let clean : list_any is_stray words ≡ false = sym (list_any-map is_stray string_bytes c.args.words.now) ∙ (sym c.has_stray.ensures ∙ c.if-has_stray.false) in
    let app = c.in_ok-command.ensures in
    let plain : is_simple_and_free (app_of c.in_ok-command.field-0) ≡ true = ap is_simple_and_free app ∙ is_plain options in
    let among = other_kind (fault_of (app_of c.in_ok-command.field-0) words) c.in-Err.error (λ e. c.in_default.not-OutOfMemory (c.kind.ensures ∙ e)) (c.in-Err.ensures.kinds plain) in
    when_refused options words (kind_of c.in-Err.error) (decides options words clean) (subst (IsAmong (kind_of c.in-Err.error)) (ap (λ a. fault_of a words) app) among)
