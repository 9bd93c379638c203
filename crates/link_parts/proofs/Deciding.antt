-- A command of options takes exactly the words that are allowed, and finds their uses.
use Rattle.std.proofs.Common.{◌≡◌, ◌∙◌, Bool, true, false, ◌&&◌, ◌||◌, not, is_some, refl, sym, ap, ap₂, subst, Option, None, Some, List, [], ◌∷◌, fold, if◌then◌else◌, ◌==◌}
use Rattle.std.specs.Option.{option_and_then}
use Rattle.std.specs.List.{list_any}
use Rattle.std.specs.Str.{bytes_eq}
use Rattle.std.proofs.lemmas.Slice.Eq.{bytes_eq-Decides}
use Rattle.clap.specs.Lexer.{long_of, short_of}
use Rattle.clap.specs.Walk.{Row, Held, idle, walk, walked, settled, settled_rows, finished, has_row, with_default, default_rows, reading_by, first_of, nothing_held}
use Rattle.clap.specs.Takes.{is_given}
use Rattle.clap.specs.Simple.{entered, matches_of}
use Rattle.clap.specs.Kinds.{Kinds, IsAmong, or_else}
use Rattle.clap.specs.declared.error.kind.ErrorKind.{ErrorKind}
use Rattle.clap.specs.Faults.{fault_of, built_fault, entered_fault, walk_fault, settle_fault, defaults_fault, default_fault, check_fault}
use Rattle.clap.specs.declared.error.kind.ErrorKind.TheVariants as kind
use Rattle.link_parts.specs.declared.options.OptionName.{OptionName}
use Rattle.link_parts.specs.Options.{Text, Use, name_of, is_required, is_stray, is_value, by_option, with_use, uses_after, is_used, are_new, lacks, if_allowed, allowed_uses, value_of}
use Rattle.link_parts.specs.Commands.{options_app}
use Rattle.link_parts.proofs.Commanding.{built_rule, rules_of, level, made, built_is}
use Rattle.link_parts.proofs.Walking.{Fails, rows_of, faults, at_word, Holds, Goes, takes, refuses, between, goes, value_parts}

-- no option has a default
no_default : (rows : List Row) (o : OptionName) → with_default rows (built_rule o) ≡ rows
no_default rows o = on_row (has_row (name_of o) rows)
  where
    on_row : (t : Bool) → (if t then rows else default_rows (name_of o) (reading_by (built_rule o)) [] rows) ≡ rows
    on_row true = refl
    on_row false = refl

no_defaults : (options : List OptionName) (rows : List Row) → fold with_default rows (rules_of options) ≡ rows
no_defaults [] rows = refl
no_defaults (o ∷ options) rows = ap (λ x. fold with_default x (rules_of options)) (no_default rows o) ∙ no_defaults options rows

defaults_pass : (options : List OptionName) (rows : List Row) → defaults_fault rows (rules_of options) ≡ []
unfolding defaults_fault
defaults_pass [] rows = refl
defaults_pass (o ∷ options) rows = on_row (has_row (name_of o) rows) refl (defaults_pass options rows)
  where
    on_row : (t : Bool) → has_row (name_of o) rows ≡ t → defaults_fault rows (rules_of options) ≡ []
        → or_else (default_fault rows (built_rule o)) (defaults_fault (with_default rows (built_rule o)) (rules_of options)) ≡ []
    on_row true e later = rw e later
    on_row false e later = rw e later

-- an option is given where it is used
given : (name : Text) (uses : List Use) → is_given name (rows_of uses) ≡ is_used name uses
given name [] = refl
given name (u ∷ uses) = on_test (bytes_eq u.name name) refl (given name uses)
  where
    on_test : (t : Bool) → bytes_eq u.name name ≡ t → is_given name (rows_of uses) ≡ is_used name uses → is_given name (rows_of (u ∷ uses)) ≡ is_used name (u ∷ uses)
    on_test true e later = rw e refl
    on_test false e later = rw e later

lacking : (options : List OptionName) (uses : List Use) → list_any (λ r. r.required && not (is_given r.id (rows_of uses))) (rules_of options) ≡ lacks options uses
lacking [] uses = refl
lacking (o ∷ options) uses = ap₂ (λ x y. (is_required o && not x) || y) (given (name_of o) uses) (lacking options uses)

-- the value of an option in the rows is that of its use
pub row_value : (uses : List Use) (o : OptionName) → first_of (name_of o) (rows_of uses) ≡ value_of uses o
row_value [] o = refl
row_value (u ∷ uses) o = on_test (bytes_eq u.name (name_of o)) refl (row_value uses o)
  where
    on_test : (t : Bool) → bytes_eq u.name (name_of o) ≡ t → first_of (name_of o) (rows_of uses) ≡ value_of uses o → first_of (name_of o) (rows_of (u ∷ uses)) ≡ value_of (u ∷ uses) o
    on_test true e later = rw e refl
    on_test false e later = rw e later

either_fails : (a b below more : Kinds) → Fails (or_else a b) → Fails (or_else a (or_else below (or_else b more)))
either_fails [] (x ∷ b) [] more f = record { first = x; more = b; are = refl }
either_fails [] b (y ∷ below) more f = record { first = y; more = below; are = refl }
either_fails [] [] [] more f = let are = f.are in cc
either_fails (z ∷ a) b below more f = record { first = z; more = a; are = refl }

-- what a command of these options says to words
pub data Decides (options : List OptionName) (words : List Text) : Type 0 where
  allowed : (uses : List Use) → allowed_uses options words ≡ Some uses → fault_of (options_app options) words ≡ [] → matches_of (options_app options) words ≡ rows_of uses
      → Decides options words
  refused : Fails (fault_of (options_app options) words) → allowed_uses options words ≡ None → Decides options words

module _ (options : List OptionName) (words : List Text) where
  as_built : fault_of (options_app options) words ≡ built_fault (made options) nothing_held words
  as_built = ap (λ a. built_fault a nothing_held words) (built_is options)

  refused_words : Fails (faults options (at_word options nothing_held idle) words) → Fails (fault_of (options_app options) words)
  refused_words f = let g = either_fails _ _ (entered_fault (made options) (walk (rules_of options) [] nothing_held words).stopped) _ f in
      record { first = g.first; more = g.more; are = as_built ∙ g.are }

  end_rows : (uses : List Use) (end : Held) → fold (walked (rules_of options) []) (at_word options nothing_held idle) words ≡ at_word options end idle → Holds options end uses
      → finished (rules_of options) (walk (rules_of options) [] nothing_held words).held ≡ rows_of uses
  end_rows uses end walks holds = ap (λ w. finished (rules_of options) w.held) walks ∙ (no_defaults options (settled_rows (rules_of options) end.pending end.rows) ∙ holds.rows)

  rows_found : (uses : List Use) (end : Held) → fold (walked (rules_of options) []) (at_word options nothing_held idle) words ≡ at_word options end idle → Holds options end uses
      → matches_of (options_app options) words ≡ rows_of uses
  rows_found uses end walks holds = ap (λ a. finished a.top.rules (walk a.top.rules [] nothing_held words).held) (built_is options) ∙ end_rows uses end walks holds

  -- the faults of a level by their parts
  abbrev in_parts : Kinds → Option (Text × List Text) → Kinds → Kinds → List Row → Kinds
  in_parts walking stop settling defaults rows =
      or_else walking (or_else (entered_fault (made options) stop) (or_else settling (or_else defaults (check_fault (level options) rows (is_some (entered (made options) stop))))))

  check_is : (uses : List Use) → check_fault (level options) (rows_of uses) false ≡ (if lacks options uses then kind.MissingRequiredArgument ∷ [] else [])
  check_is uses = ap (λ b. if b then kind.MissingRequiredArgument ∷ [] else []) (lacking options uses)

  taken_words : (uses : List Use) (end : Held) → walk_fault (level options) [] (at_word options nothing_held idle) words ≡ []
      → fold (walked (rules_of options) []) (at_word options nothing_held idle) words ≡ at_word options end idle → Holds options end uses
      → fault_of (options_app options) words ≡ (if lacks options uses then kind.MissingRequiredArgument ∷ [] else [])
  taken_words uses end none walks holds =
      let w = walk (rules_of options) [] nothing_held words in
      let settled_now = settled (rules_of options) w.held in
      as_built
      ∙ (ap (λ k. in_parts k w.stopped (settle_fault (rules_of options) false w.held) (defaults_fault settled_now.rows (rules_of options)) (finished (rules_of options) w.held)) none
      ∙ (ap (λ x. in_parts [] x.stopped (settle_fault (rules_of options) false x.held) (defaults_fault settled_now.rows (rules_of options)) (finished (rules_of options) w.held)) walks
      ∙ (ap (λ k. in_parts [] None k (defaults_fault settled_now.rows (rules_of options)) (finished (rules_of options) w.held)) holds.settles
      ∙ (ap₂ (λ k rows. in_parts [] None [] k rows) (defaults_pass options settled_now.rows) (end_rows uses end walks holds)
      ∙ check_is uses))))

  by_new : (uses : List Use) → uses_after None words ≡ Some uses → are_new options [] uses ≡ true → allowed_uses options words ≡ (if not (lacks options uses) then Some uses else None)
  by_new uses found new = ap (option_and_then (if_allowed options)) found ∙ rw new refl

  by_lack : (uses : List Use) → uses_after None words ≡ Some uses → are_new options [] uses ≡ true → fault_of (options_app options) words ≡ (if lacks options uses then kind.MissingRequiredArgument ∷ [] else [])
      → matches_of (options_app options) words ≡ rows_of uses → (b : Bool) → lacks options uses ≡ b → Decides options words
  by_lack uses found new fault rows true e =
      refused (record { first = kind.MissingRequiredArgument; more = []; are = fault ∙ rw e refl }) (by_new uses found new ∙ rw e refl)
  by_lack uses found new fault rows false e = allowed uses (by_new uses found new ∙ rw e refl) (fault ∙ rw e refl) rows

  not_allowed : ((uses : List Use) → uses_after None words ≡ Some uses → are_new options [] uses ≡ true → ⊥) → allowed_uses options words ≡ None
  not_allowed never = by_found (uses_after None words) refl
    where
      by_test : (uses : List Use) → uses_after None words ≡ Some uses → (b : Bool) → are_new options [] uses ≡ b → if_allowed options uses ≡ None
      by_test uses found true new = absurd (never uses found new)
      by_test uses found false new = rw new refl

      by_found : (o : Option (List Use)) → uses_after None words ≡ o → option_and_then (if_allowed options) (uses_after None words) ≡ None
      by_found None e = ap (option_and_then (if_allowed options)) e
      by_found (Some uses) e = ap (option_and_then (if_allowed options)) e ∙ by_test uses e (are_new options [] uses) refl

  pub decides : list_any is_stray words ≡ false → Decides options words
  decides clean = by_walk (goes options words (at_word options nothing_held idle) [] None (between nothing_held [] (record { rows = refl; settles = refl })) clean)
    where
      by_walk : Goes options (at_word options nothing_held idle) words [] (uses_after None words) → Decides options words
      by_walk (takes uses end found new none walks holds) =
          by_lack uses found new (taken_words uses end none walks holds) (rows_found uses end walks holds) (lacks options uses) refl
      by_walk (refuses f never) = refused (refused_words f) (not_allowed never)

-- a stray word is no option
short_alone : (word : Text) → is_some (short_of word) ≡ true → long_of word ≡ None
short_alone [] s = cc
short_alone (x ∷ []) s = by_first (x == 45) refl
  where
    by_first : (b : Bool) → (x == 45) ≡ b → long_of (x ∷ []) ≡ None
    by_first true e = rw e refl
    by_first false e = rw e refl
short_alone (x ∷ y ∷ rest) s = by_bytes (x == 45) refl (y == 45) refl
  where
    by_bytes : (b : Bool) → (x == 45) ≡ b → (c : Bool) → (y == 45) ≡ c → long_of (x ∷ y ∷ rest) ≡ None
    by_bytes false e c f = rw e refl
    by_bytes true e false f = rw (e, f) refl
    by_bytes true e true f = absurd (none_is_some (sym (none_short e f) ∙ s))
      where
        none_short : (x == 45) ≡ true → (y == 45) ≡ true → is_some (short_of (x ∷ y ∷ rest)) ≡ false
        none_short p q = rw (p, q) refl

        none_is_some : false ≡ true → ⊥
        none_is_some p = cc

stray_is_none : (word : Text) → is_stray word ≡ true → long_of word ≡ None
stray_is_none word e = by_end (bytes_eq word (45 ∷ 45 ∷ [])) refl
  where
    by_end : (b : Bool) → bytes_eq word (45 ∷ 45 ∷ []) ≡ b → long_of word ≡ None
    by_end true same = ap long_of ((bytes_eq-Decides word (45 ∷ 45 ∷ [])).0 same)
    by_end false other = short_alone word (ap (λ b. b || is_some (short_of word)) (sym other) ∙ e)

-- words with a stray one among them spell no uses
stray_words : (name : Option Text) (words : List Text) → list_any is_stray words ≡ true → uses_after name words ≡ None
unfolding uses_after
stray_words name [] e = cc
stray_words None (word ∷ words) e = by_stray (is_stray word) refl (λ name. stray_words name words)
  where
    found : Option (Text × Option Text) → Option (List Use)
    found l = by_option l (λ name. uses_after (Some name) words) (uses_after None words)

    by_word : (l : Option (Text × Option Text)) → ((name : Option Text) → uses_after name words ≡ None) → found l ≡ None
    by_word None later = refl
    by_word (Some (name, None)) later = later (Some name)
    by_word (Some (name, Some v)) later = ap (with_use name v) (later None)

    by_stray : (b : Bool) → is_stray word ≡ b → ((name : Option Text) → list_any is_stray words ≡ true → uses_after name words ≡ None) → found (long_of word) ≡ None
    by_stray true s later = ap found (stray_is_none word s)
    by_stray false s later = by_word (long_of word) (λ name. later name (ap (λ b. b || list_any is_stray words) (sym s) ∙ e))
stray_words (Some name) (v ∷ words) e = by_value (is_value v) refl (stray_words None words)
  where
    by_value : (b : Bool) → is_value v ≡ b → (list_any is_stray words ≡ true → uses_after None words ≡ None) → (if is_value v then with_use name v (uses_after None words) else None) ≡ None
    by_value false is later = rw is refl
    by_value true is later = rw is (ap (with_use name v) (later (ap (λ b. b || list_any is_stray words) (sym (value_parts [] v is).0) ∙ e)))

pub stray_refused : (options : List OptionName) (words : List Text) → list_any is_stray words ≡ true → allowed_uses options words ≡ None
stray_refused options words e = ap (option_and_then (if_allowed options)) (stray_words None words e)

-- what a parse that succeeds says, ..
pub record Found (options : List OptionName) (words : List Text) : Type 0 where
  pub uses : List Use
  pub spelled : allowed_uses options words ≡ Some uses
  pub rows : matches_of (options_app options) words ≡ rows_of uses

pub when_taken : (options : List OptionName) (words : List Text) → Decides options words → fault_of (options_app options) words ≡ [] → Found options words
when_taken options words (allowed uses spelled none rows) e = record { uses = uses; spelled = spelled; rows = rows }
when_taken options words (refused f spelled) e = let both = sym f.are ∙ e in cc

-- .. and one that fails for a fault in the words
pub when_refused : (options : List OptionName) (words : List Text) (k : ErrorKind) → Decides options words → IsAmong k (fault_of (options_app options) words) → allowed_uses options words ≡ None
when_refused options words k (allowed uses spelled none rows) among = absurd (subst (IsAmong k) none among)
when_refused options words k (refused f spelled) among = spelled
