-- A walk of `clap` over words of options: it fails exactly where the words aren't allowed, and leaves a row for each use.
use Rattle.std.proofs.Common.{◌≡◌, ◌∙◌, Bool, true, false, ◌&&◌, ◌||◌, not, is_some, refl, sym, ap, subst, Option, None, Some, option_map, List, [], ◌∷◌, ◌++◌, map, fold, if◌then◌else◌, append_assoc, append-nil, cond}
use Rattle.std.specs.List.{list_any}
use Rattle.std.specs.Str.{bytes_eq}
use Rattle.std.proofs.lemmas.Slice.Eq.{bytes_eq-Decides}
use Rattle.std.proofs.lemmas.List.{map-append}
use Rattle.std.proofs.lemmas.Bool.{and_parts, or_parts}
use Rattle.clap.specs.Lexer.{long_of, short_of}
use Rattle.clap.specs.Facts.{parser_of_value}
use Rattle.clap.specs.Values.{reading_of}
use Rattle.clap.specs.Walk.{Rule, Row, Held, Walk, Waiting, idle, option, walked, reacted, settled, settled_rows, used, has_row, arg_by_id, at_row, without, more_values, subcommand_met}
use Rattle.clap.specs.Kinds.{Kinds, or_else}
use Rattle.clap.specs.Faults.{use_fault, settle_fault, long_fault, turn_fault, walk_fault, word_fault}
use Rattle.clap.specs.declared.parser.matches.ValueSource.TheVariants.{CommandLine}
use Rattle.clap.specs.declared.builder.value_parser.ValueParser.TheVariants as parser
use Rattle.clap.specs.declared.error.kind.ErrorKind.{ErrorKind}
use Rattle.clap.specs.declared.error.kind.ErrorKind.TheVariants as kind
use Rattle.link_parts.specs.declared.options.OptionName.{OptionName}
use Rattle.link_parts.specs.Options.{Text, Use, name_of, is_stray, is_value, with_use, by_option, uses_after, is_used, is_among, are_new}
use Rattle.link_parts.proofs.Commanding.{built_rule, rules_of, level, option_named, by_long, by_id, by_index}
use Rattle.ft_model.proofs.Lists.{some_is}

-- a step faults
pub record Fails (kinds : Kinds) : Type 0 where
  pub first : ErrorKind
  pub more : Kinds
  pub are : kinds ≡ first ∷ more

pub left_fails : (a b : Kinds) → Fails a → Fails (or_else a b)
left_fails a b f = record { first = f.first; more = f.more; are = ap (λ k. or_else k b) f.are }

pub right_fails : (a b : Kinds) → a ≡ [] → Fails b → Fails (or_else a b)
right_fails a b none f = record { first = f.first; more = f.more; are = ap (λ k. or_else k b) none ∙ f.are }

-- the row that a use leaves
abbrev pub use_row : Use → Row
use_row u = record { id = u.name; values = u.value ∷ []; count = None; source = Some CommandLine; reading = reading_of (parser_of_value (Some parser.String)) }

abbrev pub rows_of : List Use → List Row
rows_of = map use_row

pub has_use : (name : Text) (uses : List Use) → has_row name (rows_of uses) ≡ is_used name uses
has_use name [] = refl
has_use name (u ∷ uses) = ap (λ b. bytes_eq u.name name || b) (has_use name uses)

put_new : (name : Text) (change : Row → List Row) (missing : List Row) (uses : List Use) → is_used name uses ≡ false
    → at_row name change missing (rows_of uses) ≡ rows_of uses ++ missing
put_new name change missing [] e = refl
put_new name change missing (u ∷ uses) e =
    let parts = or_parts (bytes_eq u.name name) (is_used name uses) e in
    rw parts.0 (ap (λ rows. use_row u ∷ rows) (put_new name change missing uses parts.1))

abbrev use_of : OptionName → Text → Use
use_of o v = record { name = name_of o; value = v }

used_new : (o : OptionName) (v : Text) (before : List Use) → is_used (name_of o) before ≡ false
    → used (built_rule o) (v ∷ []) (rows_of before) ≡ rows_of (before ++ use_of o v ∷ [])
used_new o v before e =
    let none : without (name_of o) (rows_of before) ≡ rows_of before = put_new (name_of o) (λ _. []) [] before e ∙ append-nil (rows_of before) in
    rw none (put_new (name_of o) (more_values CommandLine (v ∷ [])) (rows_of (use_of o v ∷ [])) before e ∙ sym (map-append use_row before (use_of o v ∷ [])))

used_once : (o : OptionName) (v : Text) (rows : List Row) → has_row (name_of o) rows ≡ false → use_fault false (built_rule o) (v ∷ []) rows ≡ []
used_once o v rows e = rw e refl

used_twice : (o : OptionName) (v : Text) (rows : List Row) → has_row (name_of o) rows ≡ true → Fails (use_fault false (built_rule o) (v ∷ []) rows)
used_twice o v rows e = record { first = kind.ArgumentConflict; more = []; are = rw e refl }

used_bare : (o : OptionName) (rows : List Row) → Fails (use_fault false (built_rule o) [] rows)
used_bare o rows = record { first = kind.InvalidValue; more = []; are = refl }

-- an option that is named has that name
named : (options : List OptionName) (name : Text) (o : OptionName) → option_named options name ≡ Some o → name_of o ≡ name
named [] name o e = cc
named (x ∷ options) name o e = on_test (bytes_eq (name_of x) name) refl (named options name o)
  where
    on_test : (t : Bool) → bytes_eq (name_of x) name ≡ t → (option_named options name ≡ Some o → name_of o ≡ name) → name_of o ≡ name
    on_test true same later =
        let is : x ≡ o = some_is x o (sym (ap (λ b. cond b (Some x) (option_named options name)) same) ∙ e) in
        sym (ap name_of is) ∙ (bytes_eq-Decides (name_of x) name).0 same
    on_test false other later = later (sym (ap (λ b. cond b (Some x) (option_named options name)) other) ∙ e)

module _ (options : List OptionName) where
  abbrev pub rules : List Rule
  rules = rules_of options

  abbrev pub faults : Walk → List Text → Kinds
  faults w words = or_else (walk_fault (level options) [] w words) (settle_fault rules false (fold (walked rules []) w words).held)

  abbrev turn : Walk → Text → Kinds
  turn w word = turn_fault (level options) [] w word

  -- between two words, with this waiting for its value
  abbrev pub at_word : Held → Waiting → Walk
  at_word h waiting = record { held = h; waiting = waiting; position = 1; is_trailing = false; stopped = None }

  -- what is held comes to a row for each use so far
  pub record Holds (h : Held) (before : List Use) : Type 0 where
    pub rows : settled_rows rules h.pending h.rows ≡ rows_of before
    pub settles : settle_fault rules false h ≡ []

  turn_fails : (w : Walk) (word : Text) (words : List Text) → Fails (turn w word) → Fails (faults w (word ∷ words))
  unfolding walk_fault
  turn_fails w word words f = left_fails _ _ (left_fails _ _ f)

  turn_passes : (w after : Walk) (word : Text) (words : List Text) → turn w word ≡ [] → walked rules [] w word ≡ after → faults w (word ∷ words) ≡ faults after words
  unfolding walk_fault
  turn_passes w after word words e is =
      ap (λ k. or_else (or_else k (walk_fault (level options) [] (walked rules [] w word) words)) (settle_fault rules false (fold (walked rules []) (walked rules [] w word) words).held)) e
      ∙ ap (λ x. faults x words) is

  -- `--NAME` and `--NAME=VALUE`
  long_faults : (h : Held) (waiting : Waiting) (word name : Text) (v : Option Text) → subcommand_met [] waiting word ≡ None → bytes_eq word (45 ∷ 45 ∷ []) ≡ false
      → long_of word ≡ Some (name, v) → word_fault (level options) [] false waiting word h ≡ long_fault rules false (option_map built_rule (option_named options name)) v h
  long_faults h waiting word name v met e l = rw (met, e, l, by_long options name) refl

  word_fails : (h : Held) (waiting : Waiting) (word : Text) → Fails (word_fault (level options) [] false waiting word h) → Fails (turn (at_word h waiting) word)
  word_fails h waiting word f = left_fails (word_fault (level options) [] false waiting word h) _ f

  fails_as : (a b : Kinds) → a ≡ b → Fails b → Fails a
  fails_as a b is f = record { first = f.first; more = f.more; are = is ∙ f.are }

  unsettled : (h : Held) (o : OptionName) (v : Option Text) → Fails (settle_fault rules false h) → Fails (long_fault rules false (Some (built_rule o)) v h)
  unsettled h o None f = f
  unsettled h o (Some x) f = left_fails (settle_fault rules false h) _ f

  long_unknown : (h : Held) (waiting : Waiting) (word name : Text) (v : Option Text) → subcommand_met [] waiting word ≡ None → bytes_eq word (45 ∷ 45 ∷ []) ≡ false
      → long_of word ≡ Some (name, v) → option_named options name ≡ None → Fails (turn (at_word h waiting) word)
  long_unknown h waiting word name v met e l none =
      word_fails h waiting word (record { first = kind.UnknownArgument; more = []; are = long_faults h waiting word name v met e l ∙ ap (λ o. long_fault rules false (option_map built_rule o) v h) none })

  long_unsettled : (h : Held) (waiting : Waiting) (word name : Text) (v : Option Text) (o : OptionName) → subcommand_met [] waiting word ≡ None → bytes_eq word (45 ∷ 45 ∷ []) ≡ false
      → long_of word ≡ Some (name, v) → option_named options name ≡ Some o → Fails (settle_fault rules false h) → Fails (turn (at_word h waiting) word)
  long_unsettled h waiting word name v o met e l some f =
      word_fails h waiting word (fails_as _ _ (long_faults h waiting word name v met e l ∙ ap (λ x. long_fault rules false (option_map built_rule x) v h) some) (unsettled h o v f))

  -- a word that is neither an option nor the value of one
  plain : (h : Held) (word : Text) → bytes_eq word (45 ∷ 45 ∷ []) ≡ false → long_of word ≡ None → short_of word ≡ None → Fails (turn (at_word h idle) word)
  plain h word e l s = record { first = kind.UnknownArgument; more = []; are = rw (e, l, s, by_index options 1) refl }

  -- with a fault in what is held, no words pass
  no_short : (word : Text) → is_stray word ≡ false → (bytes_eq word (45 ∷ 45 ∷ []) ≡ false) × (short_of word ≡ None)
  no_short word e = let parts = or_parts (bytes_eq word (45 ∷ 45 ∷ [])) (is_some (short_of word)) e in (parts.0, is_none (short_of word) parts.1)
    where
      is_none : (o : Option Text) → is_some o ≡ false → o ≡ None
      is_none None e = refl
      is_none (Some x) e = cc

  by_name : (h : Held) (waiting : Waiting) (word name : Text) (v : Option Text) → subcommand_met [] waiting word ≡ None → bytes_eq word (45 ∷ 45 ∷ []) ≡ false
      → long_of word ≡ Some (name, v) → Fails (settle_fault rules false h) → (found : Option OptionName) → option_named options name ≡ found → Fails (turn (at_word h waiting) word)
  by_name h waiting word name v met e l f None is = long_unknown h waiting word name v met e l is
  by_name h waiting word name v met e l f (Some o) is = long_unsettled h waiting word name v o met e l is f

  no_turn : (h : Held) (word : Text) → is_stray word ≡ false → Fails (settle_fault rules false h) → (l : Option (Text × Option Text)) → long_of word ≡ l → Fails (turn (at_word h idle) word)
  no_turn h word clean f None is = plain h word (no_short word clean).0 is (no_short word clean).1
  no_turn h word clean f (Some p) is = by_name h idle word p.0 p.1 refl (no_short word clean).0 is f (option_named options p.0) refl

  lost : (h : Held) (words : List Text) → list_any is_stray words ≡ false → Fails (settle_fault rules false h) → Fails (faults (at_word h idle) words)
  unfolding walk_fault
  lost h [] clean f = f
  lost h (word ∷ words) clean f = turn_fails (at_word h idle) word words (no_turn h word (or_parts _ _ clean).0 f (long_of word) refl)

  -- `--NAME=VALUE`, of an option that wasn't used before, and of one that was
  joined_turn : (h : Held) (before : List Use) (word v : Text) (o : OptionName) → Holds h before → bytes_eq word (45 ∷ 45 ∷ []) ≡ false
      → long_of word ≡ Some (name_of o, Some v) → option_named options (name_of o) ≡ Some o → is_used (name_of o) before ≡ false → turn (at_word h idle) word ≡ []
  joined_turn h before word v o held e l known new = rw (e, l, by_long options (name_of o), known, held.settles, held.rows, has_use (name_of o) before, new) refl

  joined_again : (h : Held) (before : List Use) (word v : Text) (o : OptionName) → Holds h before → bytes_eq word (45 ∷ 45 ∷ []) ≡ false
      → long_of word ≡ Some (name_of o, Some v) → option_named options (name_of o) ≡ Some o → is_used (name_of o) before ≡ true → Fails (turn (at_word h idle) word)
  joined_again h before word v o held e l known old =
      word_fails h idle word (fails_as _ _ (long_faults h idle word (name_of o) (Some v) refl e l ∙ ap (λ x. long_fault rules false (option_map built_rule x) (Some v) h) known)
      (right_fails (settle_fault rules false h) _ held.settles (used_twice o v _ (ap (has_row (name_of o)) held.rows ∙ (has_use (name_of o) before ∙ old)))))

  joined_walk : (h : Held) (word v : Text) (o : OptionName) → bytes_eq word (45 ∷ 45 ∷ []) ≡ false
      → long_of word ≡ Some (name_of o, Some v) → option_named options (name_of o) ≡ Some o → walked rules [] (at_word h idle) word ≡ at_word (reacted rules (built_rule o) (v ∷ []) h) idle
  unfolding walked
  joined_walk h word v o e l known = rw (e, l, by_long options (name_of o), known) refl

  joined_holds : (h : Held) (before : List Use) (v : Text) (o : OptionName) → Holds h before → is_used (name_of o) before ≡ false
      → Holds (reacted rules (built_rule o) (v ∷ []) h) (before ++ use_of o v ∷ [])
  joined_holds h before v o held new = record { rows = ap (used (built_rule o) (v ∷ [])) held.rows ∙ used_new o v before new; settles = refl }

  -- `--NAME VALUE`
  abbrev bare : Held → OptionName → Held
  bare h o = record (settled rules h) { pending = Some (name_of o, []) }

  abbrev with_value : Held → OptionName → Text → Held
  with_value h o v = record (settled rules h) { pending = Some (name_of o, v ∷ []) }

  apart_turn : (h : Held) (before : List Use) (word : Text) (o : OptionName) → Holds h before → bytes_eq word (45 ∷ 45 ∷ []) ≡ false
      → long_of word ≡ Some (name_of o, None) → option_named options (name_of o) ≡ Some o → turn (at_word h idle) word ≡ []
  apart_turn h before word o held e l known = rw (e, l, by_long options (name_of o), known, held.settles) refl

  apart_walk : (h : Held) (word : Text) (o : OptionName) → bytes_eq word (45 ∷ 45 ∷ []) ≡ false
      → long_of word ≡ Some (name_of o, None) → option_named options (name_of o) ≡ Some o → walked rules [] (at_word h idle) word ≡ at_word (bare h o) (option (name_of o))
  unfolding walked
  apart_walk h word o e l known = rw (e, l, by_long options (name_of o), known) refl

  known_id : (o : OptionName) → option_named options (name_of o) ≡ Some o → arg_by_id rules (name_of o) ≡ Some (built_rule o)
  known_id o known = by_id options (name_of o) ∙ ap (option_map built_rule) known

  bare_fails : (h : Held) (o : OptionName) → option_named options (name_of o) ≡ Some o → Fails (settle_fault rules false (bare h o))
  bare_fails h o known = record { first = kind.InvalidValue; more = []; are = rw (known_id o known) refl }

  pub value_parts : (v : Text) → is_value v ≡ true → (is_stray v ≡ false) × (long_of v ≡ None)
  value_parts v e = let parts = and_parts (not (is_stray v)) (not (is_some (long_of v))) e in (isnt (is_stray v) parts.0, is_none (long_of v) parts.1)
    where
      isnt : (b : Bool) → not b ≡ true → b ≡ false
      isnt false e = refl
      isnt true e = cc

      is_none : (o : Option (Text × Option Text)) → not (is_some o) ≡ true → o ≡ None
      is_none None e = refl
      is_none (Some x) e = cc

  value_turn : (h : Held) (v : Text) (o : OptionName) → is_value v ≡ true → turn (at_word h (option (name_of o))) v ≡ []
  value_turn h v o e = let parts = value_parts v e in let stray = no_short v parts.0 in rw (stray.0, parts.1, stray.1) refl

  value_walk : (h : Held) (v : Text) (o : OptionName) → is_value v ≡ true → option_named options (name_of o) ≡ Some o
      → walked rules [] (at_word (bare h o) (option (name_of o))) v ≡ at_word (with_value h o v) idle
  unfolding walked
  value_walk h v o e known =
      let parts = value_parts v e in
      let stray = no_short v parts.0 in
      rw (stray.0, parts.1, stray.1, known_id o known, (bytes_eq-Decides (name_of o) (name_of o)).1 refl) refl

  value_rows : (h : Held) (before : List Use) (v : Text) (o : OptionName) → Holds h before → option_named options (name_of o) ≡ Some o → is_used (name_of o) before ≡ false
      → Holds (with_value h o v) (before ++ use_of o v ∷ [])
  value_rows h before v o held known new = record {
    rows = rw (known_id o known) (ap (used (built_rule o) (v ∷ [])) held.rows ∙ used_new o v before new);
    settles = rw (known_id o known) (used_once o v _ (ap (has_row (name_of o)) held.rows ∙ (has_use (name_of o) before ∙ new)));
  }

  value_again : (h : Held) (before : List Use) (v : Text) (o : OptionName) → Holds h before → option_named options (name_of o) ≡ Some o → is_used (name_of o) before ≡ true
      → Fails (settle_fault rules false (with_value h o v))
  value_again h before v o held known old = let f = used_twice o v (settled rules h).rows (ap (has_row (name_of o)) held.rows ∙ (has_use (name_of o) before ∙ old)) in
      record { first = f.first; more = f.more; are = rw (known_id o known) f.are }

  -- what the walk over the rest of the words does, where `found` are the uses that they spell
  pub data Goes (w : Walk) (words : List Text) (before : List Use) (found : Option (List Use)) : Type 0 where
    takes : (uses : List Use) (end : Held) → found ≡ Some uses → are_new options before uses ≡ true → walk_fault (level options) [] w words ≡ []
        → fold (walked rules []) w words ≡ at_word end idle → Holds end (before ++ uses) → Goes w words before found
    refuses : Fails (faults w words) → ((uses : List Use) → found ≡ Some uses → are_new options before uses ≡ true → ⊥) → Goes w words before found

  -- where the walk is: between two options, or after `--NAME`
  pub data At : Walk → List Use → Option Text → Type 0 where
    between : (h : Held) (before : List Use) → Holds h before → At (at_word h idle) before None
    waits : (h : Held) (before : List Use) (o : OptionName) → option_named options (name_of o) ≡ Some o → Holds h before
        → At (at_word (bare h o) (option (name_of o))) before (Some (name_of o))

  goes_as : (w : Walk) (words : List Text) (before : List Use) (found now : Option (List Use)) → now ≡ found → Goes w words before found → Goes w words before now
  goes_as w words before found now is g = subst (Goes w words before) (sym is) g

  none_some : (uses : List Use) → None ≡ Some uses → ⊥
  none_some uses e = cc

  true_false : (b : Bool) → b ≡ true → b ≡ false → ⊥
  true_false true p q = cc
  true_false false p q = cc

  record Split (u : Use) (later : Option (List Use)) (uses : List Use) : Type 0 where
    rest : List Use
    found : later ≡ Some rest
    whole : u ∷ rest ≡ uses

  split_found : (u : Use) (later : Option (List Use)) (uses : List Use) → with_use u.name u.value later ≡ Some uses → Split u later uses
  split_found u None uses e = absurd (none_some uses e)
  split_found u (Some us) uses e = record { rest = us; found = refl; whole = some_is _ _ e }

  -- a word that names an option passes, and all is decided after it
  passes_on : (w after : Walk) (word : Text) (words : List Text) (before : List Use) (found : Option (List Use)) → turn w word ≡ [] → walked rules [] w word ≡ after
      → Goes after words before found → Goes w (word ∷ words) before found
  unfolding walk_fault
  passes_on w after word words before found e is (takes uses end spelled new none walks holds) =
      takes uses end spelled new (ap (λ k. or_else k (walk_fault (level options) [] (walked rules [] w word) words)) e ∙ (ap (λ x. walk_fault (level options) [] x words) is ∙ none))
      (ap (λ x. fold (walked rules []) x words) is ∙ walks) holds
  passes_on w after word words before found e is (refuses f never) =
      refuses (fails_as _ _ (turn_passes w after word words e is) f) never

  -- a use is done by the word
  one_done : (w : Walk) (words : List Text) (before : List Use) (u : Use) (later : Option (List Use)) → is_among options u.name ≡ true → is_used u.name before ≡ false
      → Goes w words (before ++ u ∷ []) later → Goes w words before (with_use u.name u.value later)
  unfolding are_new
  one_done w words before u later among unused (takes uses end spelled new none walks holds) =
      takes (u ∷ uses) end (ap (option_map (λ us. u ∷ us)) spelled) (rw (among, unused) new) none walks (subst (Holds end) (append_assoc before (u ∷ []) uses) holds)
  one_done w words before u later among unused (refuses f never) = refuses f (λ uses e new.
      let split = split_found u later uses e in
      never split.rest split.found (and_parts _ _ (ap (are_new options before) split.whole ∙ new)).1)

  -- a first use that isn't allowed
  first_refused : (w : Walk) (words : List Text) (before : List Use) (u : Use) (later : Option (List Use)) → (is_among options u.name && not (is_used u.name before)) ≡ false
      → Fails (faults w words) → Goes w words before (with_use u.name u.value later)
  unfolding are_new
  first_refused w words before u later never f = refuses f (λ uses e new.
      let split = split_found u later uses e in
      true_false _ (and_parts _ _ (ap (are_new options before) split.whole ∙ new)).0 never)

  -- the first use is of the option that waits for its value
  bare_refused : (w : Walk) (words : List Text) (before : List Use) (name : Text) → (is_among options name && not (is_used name before)) ≡ false
      → Fails (faults w words) → (rest : List Text) → Goes w words before (uses_after (Some name) rest)
  unfolding uses_after
  bare_refused w words before name never f [] = refuses f (λ uses e new. none_some uses e)
  bare_refused w words before name never f (v ∷ rest) = by_value (is_value v) refl
    where
      by_value : (t : Bool) → is_value v ≡ t → Goes w words before (if is_value v then with_use name v (uses_after None rest) else None)
      by_value true e = goes_as w words before _ _ (ap (λ b. if b then with_use name v (uses_after None rest) else None) e)
          (first_refused w words before (record { name = name; value = v }) (uses_after None rest) never f)
      by_value false e = goes_as w words before _ _ (ap (λ b. if b then with_use name v (uses_after None rest) else None) e) (refuses f (λ uses e2 new. none_some uses e2))

  among : (o : OptionName) → option_named options (name_of o) ≡ Some o → is_among options (name_of o) ≡ true
  among o known = ap is_some known

  -- a word that names an option is no value
  no_value : (h : Held) (v : Text) (o : OptionName) → is_stray v ≡ false → is_value v ≡ false → Fails (settle_fault rules false h) → Fails (turn (at_word h (option (name_of o))) v)
  no_value h v o clean e f = by_word (long_of v) refl
    where
      by_word : (l : Option (Text × Option Text)) → long_of v ≡ l → Fails (turn (at_word h (option (name_of o))) v)
      by_word (Some p) is = by_name h (option (name_of o)) v p.0 p.1 refl (no_short v clean).0 is f (option_named options p.0) refl
      by_word None is = absurd (true_false (is_value v) (rw (clean, is) refl) e)

  -- after `--NAME` of an option that was used before, nothing passes
  with_time_wait_restarted : (h : Held) (before : List Use) (o : OptionName) (words : List Text) → Holds h before → option_named options (name_of o) ≡ Some o → is_used (name_of o) before ≡ true
      → list_any is_stray words ≡ false → Fails (faults (at_word (bare h o) (option (name_of o))) words)
  unfolding walk_fault
  with_time_wait_restarted h before o [] held known old clean = bare_fails h o known
  with_time_wait_restarted h before o (v ∷ words) held known old clean = by_value (is_value v) refl
    where
      by_value : (t : Bool) → is_value v ≡ t → Fails (faults (at_word (bare h o) (option (name_of o))) (v ∷ words))
      by_value true e = fails_as _ _ (turn_passes (at_word (bare h o) (option (name_of o))) (at_word (with_value h o v) idle) v words (value_turn (bare h o) v o e) (value_walk h v o e known))
          (lost (with_value h o v) words (or_parts _ _ clean).1 (value_again h before v o held known old))
      by_value false e = turn_fails (at_word (bare h o) (option (name_of o))) v words (no_value (bare h o) v o (or_parts _ _ clean).0 e (bare_fails h o known))

  pub goes : (words : List Text) (w : Walk) (before : List Use) (name : Option Text) → At w before name → list_any is_stray words ≡ false → Goes w words before (uses_after name words)
  unfolding uses_after walk_fault are_new
  goes [] _ _ _ (between h before held) clean = takes [] h refl refl refl refl (subst (Holds h) (sym (append-nil before)) held)
  goes [] _ _ _ (waits h before o known held) clean = refuses (bare_fails h o known) (λ uses e new. none_some uses e)
  goes (v ∷ words) _ _ _ (waits h before o known held) clean = by_value (is_value v) refl (is_used (name_of o) before) refl (λ w before2 at. goes words w before2 None at (or_parts _ _ clean).1)
    where
      w : Walk
      w = at_word (bare h o) (option (name_of o))

      found : Option (List Use)
      found = with_use (name_of o) v (uses_after None words)

      by_value : (t : Bool) → is_value v ≡ t → (b : Bool) → is_used (name_of o) before ≡ b
          → ((after : Walk) (before2 : List Use) → At after before2 None → Goes after words before2 (uses_after None words))
          → Goes w (v ∷ words) before (if is_value v then found else None)
      by_value false e b used more = goes_as w (v ∷ words) before None _ (ap (λ x. if x then found else None) e)
          (refuses (turn_fails w v words (no_value (bare h o) v o (or_parts _ _ clean).0 e (bare_fails h o known))) (λ uses e2 new. none_some uses e2))
      by_value true e false unused more = goes_as w (v ∷ words) before found _ (ap (λ x. if x then found else None) e)
          (one_done w (v ∷ words) before (use_of o v) (uses_after None words) (among o known) unused
          (passes_on w (at_word (with_value h o v) idle) v words (before ++ use_of o v ∷ []) (uses_after None words) (value_turn (bare h o) v o e) (value_walk h v o e known)
          (more (at_word (with_value h o v) idle) (before ++ use_of o v ∷ []) (between (with_value h o v) _ (value_rows h before v o held known unused)))))
      by_value true e true old more = goes_as w (v ∷ words) before found _ (ap (λ x. if x then found else None) e)
          (first_refused w (v ∷ words) before (use_of o v) (uses_after None words) (rw old (rw (among o known) refl)) (with_time_wait_restarted h before o (v ∷ words) held known old clean))
  goes (word ∷ words) _ _ _ (between h before held) clean = by_word (long_of word) refl
      (λ w before2 at. goes words w before2 None at (or_parts _ _ clean).1) (λ w before2 o at. goes words w before2 (Some (name_of o)) at (or_parts _ _ clean).1)
    where
      w : Walk
      w = at_word h idle

      no_end : bytes_eq word (45 ∷ 45 ∷ []) ≡ false
      no_end = (no_short word (or_parts _ _ clean).0).0

      found : Option (Text × Option Text) → Option (List Use)
      found l = by_option l (λ name. uses_after (Some name) words) (uses_after None words)

      joined : (v : Text) (o : OptionName) → long_of word ≡ Some (name_of o, Some v) → option_named options (name_of o) ≡ Some o → (b : Bool) → is_used (name_of o) before ≡ b
          → ((after : Walk) (before2 : List Use) → At after before2 None → Goes after words before2 (uses_after None words))
          → Goes w (word ∷ words) before (with_use (name_of o) v (uses_after None words))
      joined v o l known false unused more =
          one_done w (word ∷ words) before (use_of o v) (uses_after None words) (among o known) unused
          (passes_on w (at_word (reacted rules (built_rule o) (v ∷ []) h) idle) word words (before ++ use_of o v ∷ []) (uses_after None words)
          (joined_turn h before word v o held no_end l known unused) (joined_walk h word v o no_end l known)
          (more _ _ (between (reacted rules (built_rule o) (v ∷ []) h) _ (joined_holds h before v o held unused))))
      joined v o l known true old more =
          first_refused w (word ∷ words) before (use_of o v) (uses_after None words) (rw old (rw (among o known) refl))
          (turn_fails w word words (joined_again h before word v o held no_end l known old))

      apart : (o : OptionName) → long_of word ≡ Some (name_of o, None) → option_named options (name_of o) ≡ Some o
          → ((after : Walk) (before2 : List Use) (q : OptionName) → At after before2 (Some (name_of q)) → Goes after words before2 (uses_after (Some (name_of q)) words))
          → Goes w (word ∷ words) before (uses_after (Some (name_of o)) words)
      apart o l known more =
          passes_on w (at_word (bare h o) (option (name_of o))) word words before (uses_after (Some (name_of o)) words)
          (apart_turn h before word o held no_end l known) (apart_walk h word o no_end l known) (more _ before o (waits h before o known held))

      by_known : (name : Text) (v : Option Text) → long_of word ≡ Some (name, v) → (o : OptionName) → option_named options name ≡ Some o → name_of o ≡ name
          → ((after : Walk) (before2 : List Use) → At after before2 None → Goes after words before2 (uses_after None words))
          → ((after : Walk) (before2 : List Use) (q : OptionName) → At after before2 (Some (name_of q)) → Goes after words before2 (uses_after (Some (name_of q)) words))
          → Goes w (word ∷ words) before (found (Some (name, v)))
      by_known name None l o is same more wait =
          let l2 : long_of word ≡ Some (name_of o, None) = l ∙ ap (λ n. Some (n, None)) (sym same) in
          let known : option_named options (name_of o) ≡ Some o = ap (option_named options) same ∙ is in
          subst (λ n. Goes w (word ∷ words) before (uses_after (Some n) words)) same (apart o l2 known wait)
      by_known name (Some v) l o is same more wait =
          let l2 : long_of word ≡ Some (name_of o, Some v) = l ∙ ap (λ n. Some (n, Some v)) (sym same) in
          let known : option_named options (name_of o) ≡ Some o = ap (option_named options) same ∙ is in
          subst (λ n. Goes w (word ∷ words) before (with_use n v (uses_after None words))) same (joined v o l2 known (is_used (name_of o) before) refl more)

      by_name_of : (name : Text) (v : Option Text) → long_of word ≡ Some (name, v) → (q : Option OptionName) → option_named options name ≡ q
          → ((after : Walk) (before2 : List Use) → At after before2 None → Goes after words before2 (uses_after None words))
          → ((after : Walk) (before2 : List Use) (q : OptionName) → At after before2 (Some (name_of q)) → Goes after words before2 (uses_after (Some (name_of q)) words))
          → Goes w (word ∷ words) before (found (Some (name, v)))
      by_name_of name v l (Some o) is more wait = by_known name v l o is (named options name o is) more wait
      by_name_of name None l None is more wait =
          bare_refused w (word ∷ words) before name (rw is refl) (turn_fails w word words (long_unknown h idle word name None refl no_end l is)) words
      by_name_of name (Some v) l None is more wait =
          first_refused w (word ∷ words) before (record { name = name; value = v }) (uses_after None words) (rw is refl)
          (turn_fails w word words (long_unknown h idle word name (Some v) refl no_end l is))

      by_word : (l : Option (Text × Option Text)) → long_of word ≡ l
          → ((after : Walk) (before2 : List Use) → At after before2 None → Goes after words before2 (uses_after None words))
          → ((after : Walk) (before2 : List Use) (q : OptionName) → At after before2 (Some (name_of q)) → Goes after words before2 (uses_after (Some (name_of q)) words))
          → Goes w (word ∷ words) before (found (long_of word))
      by_word None l more wait = goes_as w (word ∷ words) before (found None) _ (ap found l)
          (refuses (turn_fails w word words (plain h word no_end l (no_short word (or_parts _ _ clean).0).1)) (λ uses e new. none_some uses e))
      by_word (Some p) l more wait = goes_as w (word ∷ words) before (found (Some p)) _ (ap found l) (by_name_of p.0 p.1 l (option_named options p.0) refl more wait)
