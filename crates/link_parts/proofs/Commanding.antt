-- What `clap` builds of a command of options.
use Rattle.std.proofs.Common.{◌≡◌, ◌∙◌, ℕ, Bool, true, false, ◌+◌, ◌&&◌, ◌<◌, refl, sym, ap, Option, None, is_some, option_map, List, [], ◌∷◌, ◌++◌, map, take, length, slice_index_or, codes, add-one, arith, zero, suc}
use Rattle.std.specs.Prelude.{count_by}
use Rattle.std.specs.List.{list_all, list_any, find}
use Rattle.std.specs.Str.{bytes_eq}
use Rattle.clap.specs.Walk.{Rule, arg_by_long, arg_by_id, arg_by_index, is_early_multiple}
use Rattle.clap.specs.Simple.{App, Shape, new_shape, filled, filled_from, built, is_buildable, is_ready, is_ready_leaf, with_rule}
use Rattle.clap.specs.Faults.{is_simple_and_free, is_free_app}
use Rattle.link_parts.specs.declared.options.OptionName.{OptionName}
use Rattle.link_parts.specs.Options.{Text, name_of}
use Rattle.link_parts.specs.Commands.{option_rule, options_app}

abbrev pub built_rule : OptionName → Rule
built_rule o = filled (option_rule o)

abbrev pub rules_of : List OptionName → List Rule
rules_of = map built_rule

abbrev pub level : List OptionName → Shape
level options = record (new_shape (codes "ftnode")) {
  no_binary_name = true;
  disable_help_flag = true;
  disable_version_flag = true;
  disable_help_subcommand = true;
  is_built = true;
  rules = rules_of options;
}

abbrev pub made : List OptionName → App
made options = record { top = level options; subs = [] }

filled_is : (options : List OptionName) → filled_from 1 (map option_rule options) ≡ rules_of options
filled_is [] = refl
filled_is (o ∷ options) = ap (λ rules. built_rule o ∷ rules) (filled_is options)

pub built_is : (options : List OptionName) → built (options_app options) ≡ made options
built_is options = ap (λ rules. record { top = record (level options) { rules = rules }; subs = [] }) (filled_is options)

rules_are_simple : (options : List OptionName) → list_all (λ r. r.is_simple) (map option_rule options) ≡ true
rules_are_simple [] = refl
rules_are_simple (o ∷ options) = rules_are_simple options

built_are_simple : (options : List OptionName) → list_all (λ r. r.is_simple) (rules_of options) ≡ true
built_are_simple [] = refl
built_are_simple (o ∷ options) = built_are_simple options

built_are_free : (options : List OptionName) → list_all (λ r. r.is_free) (rules_of options) ≡ true
built_are_free [] = refl
built_are_free (o ∷ options) = built_are_free options

none_early : (n : ℕ) (options : List OptionName) → list_any (is_early_multiple n) (rules_of options) ≡ false
none_early n [] = refl
none_early n (o ∷ options) = none_early n options

-- whether the command is plain, by what it is built to
abbrev plain_at : App → App → Bool
plain_at a b = (is_buildable a && (is_ready b.top && list_all is_ready_leaf b.subs)) && is_free_app b

pub is_plain : (options : List OptionName) → is_simple_and_free (options_app options) ≡ true
is_plain options = ap (plain_at (options_app options)) (built_is options)
    ∙ rw (rules_are_simple options, built_are_simple options, built_are_free options, none_early (count_by (λ r. is_some r.index) (rules_of options)) options) refl

-- the option of a name, if the role has it
abbrev pub option_named : List OptionName → Text → Option OptionName
option_named options name = find (λ o. bytes_eq (name_of o) name) options

pub by_long : (options : List OptionName) (name : Text) → arg_by_long (rules_of options) name ≡ option_map built_rule (option_named options name)
by_long [] name = refl
by_long (o ∷ options) name = on_test (bytes_eq (name_of o) name) refl (by_long options name)
  where
    on_test : (t : Bool) → bytes_eq (name_of o) name ≡ t → arg_by_long (rules_of options) name ≡ option_map built_rule (option_named options name)
        → arg_by_long (rules_of (o ∷ options)) name ≡ option_map built_rule (option_named (o ∷ options) name)
    on_test true e later = rw e refl
    on_test false e later = rw e later

pub by_id : (options : List OptionName) (name : Text) → arg_by_id (rules_of options) name ≡ option_map built_rule (option_named options name)
by_id [] name = refl
by_id (o ∷ options) name = on_test (bytes_eq (name_of o) name) refl (by_id options name)
  where
    on_test : (t : Bool) → bytes_eq (name_of o) name ≡ t → arg_by_id (rules_of options) name ≡ option_map built_rule (option_named options name)
        → arg_by_id (rules_of (o ∷ options)) name ≡ option_map built_rule (option_named (o ∷ options) name)
    on_test true e later = rw e refl
    on_test false e later = rw e later

pub by_index : (options : List OptionName) (i : ℕ) → arg_by_index (rules_of options) i ≡ None
by_index [] i = refl
by_index (o ∷ options) i = by_index options i

next_rule : (xs : List OptionName) (k : ℕ) (o : OptionName) → k < length xs → o ≡ slice_index_or xs k o
    → map option_rule (take k xs) ++ option_rule o ∷ [] ≡ map option_rule (take (suc k) xs)
next_rule [] k o lt is = absurd (omega arith)
next_rule (x ∷ xs) zero o lt is = ap (λ y. option_rule y ∷ []) is
next_rule (x ∷ xs) (suc k) o lt is = ap (λ rules. option_rule x ∷ rules) (next_rule xs k o (omega arith) is)

pub with_next : (options : List OptionName) (i : ℕ) (o : OptionName) → i < length options → o ≡ slice_index_or options i o
    → with_rule (options_app (take i options)) (option_rule o) ≡ options_app (take (i + 1) options)
with_next options i o lt is = ap (λ rules. record (options_app options) { top = record (options_app options).top { rules = rules } }) (next_rule options i o lt is)
    ∙ ap (λ n. options_app (take n options)) (sym (add-one i))
