-- An answer leads a restart as the law Restart says, and what is asked is the law's question.
use Rattle.std.proofs.Common.{◌≡◌, ℕ, ◌+◌, ◌==◌, ◌&&◌, ◌||◌, not, ◌∙◌, Bool, true, false, true≢false, is_none, nat_lt, nat_le, Option, Some, None, List, [], ◌∷◌, ◌++◌, length, find, option_map, refl, ap, sym, subst, arith, eqb-true, if◌then◌else◌}
use Rattle.std.proofs.lemmas.Bool.{and_parts}
use Rattle.ft_io.specs.declared.Key.{Key}
use Rattle.ft_io.specs.Key.{key_eq}
use Rattle.seq_arith.specs.Message.{EntryHead, Body, Message}
use Rattle.seq_arith.specs.Message.Body.{ListMsg, EntryMsg, BytesMsg, PartMsg, CutsMsg, LensMsg}
use Rattle.server_trait.specs.Service.{Machine, Served, machine}
use Rattle.ft_model.specs.Restart.{Fetched, wanted, next_entry, question, is_fetched, fetched_by, fetched_after, all_follow}
use Rattle.ft_model.specs.Restart.Wanted.{An_entry, Its_bytes, Its_lengths}
use Rattle.ft_model.proofs.Lists.{none_is_some}
use Rattle.log_replay.specs.declared.cuts.Cuts.{Cuts}
use Rattle.reincarnate.specs.declared.lack.Lack.{Lack}
use Rattle.reincarnate.specs.declared.lack.Lack.TheVariants as lack
use Rattle.reincarnate.specs.declared.marks.Marks.{Marks}
use Rattle.log_replay.specs.ReadLengths.{cuts_of, cuts_through}
use Rattle.reincarnate.specs.Progress.{EntryState, lacks, asked_for, asks_bytes, asks_lengths, with_bytes, with_lengths, cuts_with}
use Rattle.reincarnate.specs.Questions.{FetchingState, entries_of, asked_of, asked, or_else, entry_known, head_fits, with_head, with_newest, part_on, lens_on, answered, after_answer}
use Rattle.reincarnate.specs.Refinement.{StandsFor, StandFor, StandsFetching, AreWhole, fetched_then}
use Rattle.reincarnate.proofs.EntryLaw.{lack_of, lacks_is, wanted_when, wanted_is, nothing_lacks, head_stands, bytes_stand, lengths_stand, cuts_are, follow_within}

-- what the law makes of an answer, and what the code does
abbrev pub Leads : {S : Type 0} → Machine S → Option (List Fetched) → Option (FetchingState S) → Type 0
Leads service None None = Unit {0}
Leads service None (Some s) = ⊥
Leads service (Some more) None = ⊥
Leads service (Some more) (Some s) = StandsFetching service more s

-- both take it, or neither
by_choice : {S : Type 0} (service : Machine S) (a b : Bool) (more : List Fetched) (s : FetchingState S) → b ≡ a → (a ≡ true → StandsFetching service more s)
    → Leads service (if a then Some more else None) (if b then Some s else None)
by_choice service a b more s same so = subst (λ x. Leads service (if a then Some more else None) (if x then Some s else None)) (sym same) (alike a so)
  where
    alike : (a : Bool) → (a ≡ true → StandsFetching service more s) → Leads service (if a then Some more else None) (if a then Some s else None)
    alike true so = so refl
    alike false so = tt

mapped_choice : {S : Type 0} (f : EntryState S → FetchingState S) (b : Bool) (e : EntryState S) → option_map f (if b then Some e else None) ≡ (if b then Some (f e) else None)
mapped_choice f true e = refl
mapped_choice f false e = refl

pub cons_is_not_nil : {A : Type 0} (x : A) (xs : List A) → (x ∷ xs) ≡ [] → ⊥
cons_is_not_nil x xs e = let size : length (x ∷ xs) ≡ 0 = ap length e in absurd (omega (arith, size))

as_many : {S : Type 0} (service : Machine S) (fetched : List Fetched) (entries : List (EntryState S)) → StandFor service fetched entries → length entries ≡ length fetched
as_many service [] [] st = refl
as_many service [] (e ∷ entries) st = absurd st
as_many service (f ∷ fetched) [] st = absurd st
as_many service (f ∷ fetched) (e ∷ entries) st = let rest = as_many service fetched entries st.1 in grind (arith, rest)

by_key : {S : Type 0} (key : Key) (b : Bool) (e : EntryState S) (rest : Option (EntryState S)) (any : Bool) → is_none rest ≡ not any → is_none (if b then Some e else rest) ≡ not (b || any)
by_key key true e rest any h = refl
by_key key false e rest any h = h

same_known : {S : Type 0} (service : Machine S) (key : Key) (fetched : List Fetched) (entries : List (EntryState S)) → StandFor service fetched entries
    → is_none (find (λ e. key_eq e.head.key key) entries) ≡ not (is_fetched key fetched)
same_known service key [] [] st = refl
same_known service key [] (e ∷ entries) st = absurd st
same_known service key (f ∷ fetched) [] st = absurd st
same_known service key (f ∷ fetched) (e ∷ entries) st =
    by_key key (key_eq e.head.key key) e (find (λ x. key_eq x.head.key key) entries) (is_fetched key fetched) (same_known service key fetched entries st.1)
    ∙ ap (λ h. not (key_eq h.key key || is_fetched key fetched)) st.0.head

chosen_head : {S : Type 0} (b : Bool) (e : EntryState S) (rest : Option (EntryState S)) → option_map (λ x. x.head) (if b then Some e else rest) ≡ (if b then Some e.head else option_map (λ x. x.head) rest)
chosen_head true e rest = refl
chosen_head false e rest = refl

chosen_fetched : (b : Bool) (f : Fetched) (rest : Option Fetched) → option_map (λ x. x.head) (if b then Some f else rest) ≡ (if b then Some f.head else option_map (λ x. x.head) rest)
chosen_fetched true f rest = refl
chosen_fetched false f rest = refl

-- the head of a key's entry
pub heads_found : {S : Type 0} (service : Machine S) (key : Key) (fetched : List Fetched) (entries : List (EntryState S)) → StandFor service fetched entries
    → option_map (λ e. e.head) (find (λ e. key_eq e.head.key key) entries) ≡ option_map (λ f. f.head) (find (λ f. key_eq f.head.key key) fetched)
heads_found service key [] [] st = refl
heads_found service key [] (e ∷ entries) st = absurd st
heads_found service key (f ∷ fetched) [] st = absurd st
heads_found service key (f ∷ fetched) (e ∷ entries) st =
    let rest = heads_found service key fetched entries st.1 in
    chosen_head (key_eq e.head.key key) e (find (λ x. key_eq x.head.key key) entries)
    ∙ (λ j. if key_eq (st.0.head j).key key then Some (st.0.head j) else rest j)
    ∙ sym (chosen_fetched (key_eq f.head.key key) f (find (λ x. key_eq x.head.key key) fetched))

alike : (b nf : Bool) → ((b && true) && nf) ≡ (b && (true && nf))
alike true nf = refl
alike false nf = refl

unlike : (b c nf : Bool) → ((b && false) && nf) ≡ (c && (false && nf))
unlike true true nf = refl
unlike true false nf = refl
unlike false true nf = refl
unlike false false nf = refl

-- the place that is asked for is below the count
same_place : (index n count : ℕ) (nf c : Bool) → (index == n) ≡ c → ((nat_lt index count && index == n) && nf) ≡ (nat_lt n count && (index == n && nf))
same_place index n count nf true e =
    (λ j. (nat_lt (eqb-true index n e j) count && e j) && nf) ∙ alike (nat_lt n count) nf ∙ (λ j. nat_lt n count && ((sym e) j && nf))
same_place index n count nf false e =
    (λ j. (nat_lt index count && e j) && nf) ∙ unlike (nat_lt index count) (nat_lt n count) nf ∙ (λ j. nat_lt n count && ((sym e) j && nf))

head_form : (b : Bool) (n index : ℕ) (head : EntryHead) (fetched : List Fetched)
    → fetched_after (if b then Some (An_entry n) else None) (EntryMsg index head) fetched
    ≡ (if b && (index == n && not (is_fetched head.key fetched)) then Some (record { head = head; bytes = []; lengths = [] } ∷ fetched) else None)
head_form true n index head fetched = refl
head_form false n index head fetched = refl

-- an entry is asked for
heads_lead : {S : Type 0} (service : Machine S) (s : FetchingState S) (fetched : List Fetched) (index : ℕ) (head : EntryHead) → StandFor service fetched (entries_of s) → AreWhole fetched
    → asked_of s.newest ≡ None
    → Leads service (fetched_after (next_entry s.count (length fetched)) (EntryMsg index head) fetched) (if head_fits index head.key s then Some (with_head service.fresh service.greeting head s) else None)
heads_lead service s fetched index head st whole none =
    let nf : Bool = not (is_fetched head.key fetched) in
    let asks : Bool = nat_lt (length fetched) s.count && (index == length fetched && nf) in
    let new : Fetched = record { head = head; bytes = []; lengths = [] } in
    let size = as_many service fetched (entries_of s) st in
    let known = same_known service head.key fetched (entries_of s) st in
    let same : head_fits index head.key s ≡ asks =
    (λ j. is_none (none j) && nat_lt index s.count && index == size j && known j) ∙ same_place index (length fetched) s.count nf (index == length fetched) refl in
    subst (λ m. Leads service m (if head_fits index head.key s then Some (with_head service.fresh service.greeting head s) else None)) (sym (head_form (nat_lt (length fetched) s.count) (length fetched) index head fetched))
    (by_choice service asks (head_fits index head.key s) (new ∷ fetched) (with_head service.fresh service.greeting head s) same
    (λ taken. record { entries = (head_stands service head, st); newest = λ q. none_is_some _ (sym q); whole = whole }))

-- what isn't an entry's head doesn't answer a question for one
abbrev is_head : Body → Bool
is_head (EntryMsg index head) = true
is_head _ = false

no_head : {S : Type 0} (service : Machine S) (b : Bool) (n : ℕ) (body : Body) (fetched : List Fetched) → is_head body ≡ false
    → Leads service (fetched_after (if b then Some (An_entry n) else None) body fetched) None
no_head service false n body fetched e = tt
no_head service true n (EntryMsg index head) fetched e = absurd (true≢false e)
no_head service true n _ fetched e = tt

first_false : (a b c d : Bool) → a ≡ false → (a && b && c && d) ≡ false
first_false false b c d e = refl
first_false true b c d e = absurd (true≢false e)

unled : {S : Type 0} (service : Machine S) (b : Bool) (x : FetchingState S) → b ≡ false → Leads service None (if b then Some x else None)
unled service true x e = absurd (true≢false e)
unled service false x e = tt

not_mapped : {A B : Type 0} (f : A → B) (b : Bool) (x : Option A) → b ≡ false → option_map f (if b then x else None) ≡ None
not_mapped f true x e = absurd (true≢false e)
not_mapped f false x e = refl

head_unfit : {S : Type 0} (s : FetchingState S) (e : EntryState S) (index : ℕ) (key : Key) → s.newest ≡ Some e → is_none (asked_for (lacks e) e) ≡ false → head_fits index key s ≡ false
head_unfit s e index key is asks =
    first_false (is_none (asked_of s.newest)) (nat_lt index s.count) (index == length (entries_of s)) (is_none (entry_known key s)) (ap (λ o. is_none (asked_of o)) is ∙ asks)

part_unfit : {S : Type 0} (f : EntryState S → FetchingState S) (e x : EntryState S) (key : Key) (offset count : ℕ) → asks_bytes (lacks e) ≡ false
    → option_map f (if asks_bytes (lacks e) && key_eq key e.head.key && offset == e.bytes && nat_le (e.bytes + count) e.head.length then Some x else None) ≡ None
part_unfit f e x key offset count asks =
    not_mapped f (asks_bytes (lacks e) && key_eq key e.head.key && offset == e.bytes && nat_le (e.bytes + count) e.head.length) (Some x)
    (first_false (asks_bytes (lacks e)) (key_eq key e.head.key) (offset == e.bytes) (nat_le (e.bytes + count) e.head.length) asks)

lens_unfit : {S : Type 0} (f : EntryState S → FetchingState S) (g : Cuts → EntryState S) (e : EntryState S) (key : Key) (first : ℕ) (lens : List ℕ) → asks_lengths (lacks e) ≡ false
    → option_map f (option_map g (cuts_with key first lens e)) ≡ None
lens_unfit f g e key first lens asks =
    ap (option_map f) (not_mapped g (asks_lengths (lacks e) && key_eq key e.head.key && first == e.cuts.count && nat_le (e.cuts.count + length lens) e.head.reads)
    (cuts_through e.head.length e.head.fin e.cuts lens)
    (first_false (asks_lengths (lacks e)) (key_eq key e.head.key) (first == e.cuts.count) (nat_le (e.cuts.count + length lens) e.head.reads) asks))

-- bytes are asked for
part_leads : {S : Type 0} (service : Machine S) (s : FetchingState S) (e : EntryState S) (f : Fetched) (earlier : List Fetched) (key : Key) (offset : ℕ) (bytes : List ℕ)
    → StandsFor service f e → StandFor service earlier s.earlier → AreWhole earlier → lacks e ≡ lack.Bytes
    → Leads service (fetched_by (Its_bytes f.head.key (length f.bytes)) (PartMsg key offset bytes) (f ∷ earlier)) (option_map (with_newest s) (part_on service.after key offset bytes (Some e)))
part_leads service s e f earlier key offset bytes st rest whole is =
    let asks : Bool = key_eq key f.head.key && offset == length f.bytes && nat_le (length f.bytes + length bytes) f.head.length in
    let fits : Bool = asks_bytes (lacks e) && key_eq key e.head.key && offset == e.bytes && nat_le (e.bytes + length bytes) e.head.length in
    let same : fits ≡ asks = λ j. asks_bytes (is j) && key_eq key (st.head j).key && offset == st.bytes j && nat_le (st.bytes j + length bytes) (st.head j).length in
    let next : EntryState _ = with_bytes service.after bytes e in
    subst (Leads service (if asks then Some (record f { bytes = f.bytes ++ bytes } ∷ earlier) else None)) (sym (mapped_choice (with_newest s) fits next))
    (by_choice service asks fits (record f { bytes = f.bytes ++ bytes } ∷ earlier) (with_newest s next) same
    (λ taken. let within = (and_parts (key_eq key f.head.key && offset == length f.bytes) (nat_le (length f.bytes + length bytes) f.head.length) taken).1 in
    record { entries = (bytes_stand service f e bytes st (grind (arith, within)), rest); newest = λ q. none_is_some _ (sym q); whole = whole }))

nested : {A B C : Type 0} (f : B → C) (g : A → B) (a b : Bool) (x : A) → option_map f (option_map g (if a then (if b then Some x else None) else None)) ≡ (if a && b then Some (f (g x)) else None)
nested f g true true x = refl
nested f g true false x = refl
nested f g false b x = refl

-- lengths are asked for
lens_lead : {S : Type 0} (service : Machine S) (s : FetchingState S) (e : EntryState S) (f : Fetched) (earlier : List Fetched) (key : Key) (first : ℕ) (lens : List ℕ)
    → StandsFor service f e → StandFor service earlier s.earlier → AreWhole earlier → lacks e ≡ lack.Lengths
    → Leads service (fetched_by (Its_lengths f.head.key (length f.lengths)) (LensMsg key first lens) (f ∷ earlier)) (option_map (with_newest s) (lens_on service.after key first lens (Some e)))
lens_lead service s e f earlier key first lens st rest whole is =
    let asks : Bool = key_eq key f.head.key && first == length f.lengths && nat_le (length f.lengths + length lens) f.head.reads in
    let follow : Bool = all_follow f.head.length f.head.fin f.lengths lens in
    let all : Cuts = cuts_of (f.lengths ++ lens) in
    let through : cuts_through e.head.length e.head.fin e.cuts lens ≡ (if follow then Some all else None) =
    (λ j. cuts_through (st.head j).length (st.head j).fin (st.cuts j) lens) ∙ cuts_are f.head.length f.head.fin f.lengths lens in
    let cuts : cuts_with key first lens e ≡ (if asks then (if follow then Some all else None) else None) =
    λ j. if asks_lengths (is j) && key_eq key (st.head j).key && first == (st.cuts j).count && nat_le ((st.cuts j).count + length lens) (st.head j).reads then through j else None in
    let next : EntryState _ = with_lengths service.after all lens e in
    let code : option_map (with_newest s) (lens_on service.after key first lens (Some e)) ≡ (if asks && follow then Some (with_newest s next) else None) =
    ap (λ o. option_map (with_newest s) (option_map (λ c. with_lengths service.after c lens e) o)) cuts ∙ nested (with_newest s) (λ c. with_lengths service.after c lens e) asks follow all in
    subst (Leads service (if asks && follow then Some (record f { lengths = f.lengths ++ lens } ∷ earlier) else None)) (sym code)
    (by_choice service (asks && follow) (asks && follow) (record f { lengths = f.lengths ++ lens } ∷ earlier) (with_newest s next) refl
    (λ taken. let parts = and_parts asks follow taken in
    let within = (and_parts (key_eq key f.head.key && first == length f.lengths) (nat_le (length f.lengths + length lens) f.head.reads) parts.0).1 in
    let enough = follow_within f.head.length f.head.fin f.lengths lens parts.1 st.enough in
    record { entries = (lengths_stand service f e lens all st (grind (arith, within)) enough refl, rest); newest = λ q. none_is_some _ (sym q); whole = whole }))

-- by what is missing of the newest entry
by_lack : {S : Type 0} (started : ℕ → S) (after : S → List ℕ → Served S) (greeting : S → List ℕ) (boot kind count : ℕ) (marks : Marks) (e : EntryState S) (before : List (EntryState S)) (f : Fetched) (earlier : List Fetched)
    → StandsFor (machine (started kind) after greeting) f e → StandFor (machine (started kind) after greeting) earlier before → AreWhole earlier → (l : Lack) → lacks e ≡ l → lack_of f ≡ l → (body : Body)
    → Leads (machine (started kind) after greeting) (fetched_after (wanted_when l count f earlier) body (f ∷ earlier))
    (answered started after greeting (record { boot = boot; kind = kind; count = count; marks = marks; newest = Some e; earlier = before }) body)
by_lack started after greeting boot kind count marks e before f earlier st rest whole lack.Bytes is law (EntryMsg index head) =
    let s : FetchingState _ = record { boot = boot; kind = kind; count = count; marks = marks; newest = Some e; earlier = before } in
    unled (machine (started kind) after greeting) (head_fits index head.key s) (with_head (started kind) (greeting (started kind)) head s) (head_unfit s e index head.key refl (ap (λ l. is_none (asked_for l e)) is))
by_lack started after greeting boot kind count marks e before f earlier st rest whole lack.Bytes is law (PartMsg key offset bytes) =
    part_leads (machine (started kind) after greeting) (record { boot = boot; kind = kind; count = count; marks = marks; newest = Some e; earlier = before }) e f earlier key offset bytes st rest whole is
by_lack started after greeting boot kind count marks e before f earlier st rest whole lack.Bytes is law (LensMsg key first lens) =
    let s : FetchingState _ = record { boot = boot; kind = kind; count = count; marks = marks; newest = Some e; earlier = before } in
    subst (Leads (machine (started kind) after greeting) None) (sym (lens_unfit (with_newest s) (λ c. with_lengths after c lens e) e key first lens (ap asks_lengths is))) tt
by_lack started after greeting boot kind count marks e before f earlier st rest whole lack.Bytes is law _ = tt
by_lack started after greeting boot kind count marks e before f earlier st rest whole lack.Lengths is law (EntryMsg index head) =
    let s : FetchingState _ = record { boot = boot; kind = kind; count = count; marks = marks; newest = Some e; earlier = before } in
    unled (machine (started kind) after greeting) (head_fits index head.key s) (with_head (started kind) (greeting (started kind)) head s) (head_unfit s e index head.key refl (ap (λ l. is_none (asked_for l e)) is))
by_lack started after greeting boot kind count marks e before f earlier st rest whole lack.Lengths is law (PartMsg key offset bytes) =
    let s : FetchingState _ = record { boot = boot; kind = kind; count = count; marks = marks; newest = Some e; earlier = before } in
    subst (Leads (machine (started kind) after greeting) None) (sym (part_unfit (with_newest s) e (with_bytes after bytes e) key offset (length bytes) (ap asks_bytes is))) tt
by_lack started after greeting boot kind count marks e before f earlier st rest whole lack.Lengths is law (LensMsg key first lens) =
    lens_lead (machine (started kind) after greeting) (record { boot = boot; kind = kind; count = count; marks = marks; newest = Some e; earlier = before }) e f earlier key first lens st rest whole is
by_lack started after greeting boot kind count marks e before f earlier st rest whole lack.Lengths is law _ = tt
by_lack started after greeting boot kind count marks e before f earlier st rest whole lack.Nothing is law (EntryMsg index head) =
    heads_lead (machine (started kind) after greeting) (record { boot = boot; kind = kind; count = count; marks = marks; newest = Some e; earlier = before }) (f ∷ earlier) index head (st, rest) (nothing_lacks f law, whole)
    (ap (λ l. asked_for l e) is)
by_lack started after greeting boot kind count marks e before f earlier st rest whole lack.Nothing is law (PartMsg key offset bytes) =
    let s : FetchingState _ = record { boot = boot; kind = kind; count = count; marks = marks; newest = Some e; earlier = before } in
    subst (Leads (machine (started kind) after greeting) (fetched_after (next_entry count (length (f ∷ earlier))) (PartMsg key offset bytes) (f ∷ earlier)))
    (sym (part_unfit (with_newest s) e (with_bytes after bytes e) key offset (length bytes) (ap asks_bytes is)))
    (no_head (machine (started kind) after greeting) (nat_lt (length (f ∷ earlier)) count) (length (f ∷ earlier)) (PartMsg key offset bytes) (f ∷ earlier) refl)
by_lack started after greeting boot kind count marks e before f earlier st rest whole lack.Nothing is law (LensMsg key first lens) =
    let s : FetchingState _ = record { boot = boot; kind = kind; count = count; marks = marks; newest = Some e; earlier = before } in
    subst (Leads (machine (started kind) after greeting) (fetched_after (next_entry count (length (f ∷ earlier))) (LensMsg key first lens) (f ∷ earlier)))
    (sym (lens_unfit (with_newest s) (λ c. with_lengths after c lens e) e key first lens (ap asks_lengths is)))
    (no_head (machine (started kind) after greeting) (nat_lt (length (f ∷ earlier)) count) (length (f ∷ earlier)) (LensMsg key first lens) (f ∷ earlier) refl)
by_lack started after greeting boot kind count marks e before f earlier st rest whole lack.Nothing is law body =
    no_head (machine (started kind) after greeting) (nat_lt (length (f ∷ earlier)) count) (length (f ∷ earlier)) body (f ∷ earlier) refl

-- before the first entry has come
first_leads : {S : Type 0} (started : ℕ → S) (after : S → List ℕ → Served S) (greeting : S → List ℕ) (boot kind count : ℕ) (marks : Marks) (body : Body)
    → Leads (machine (started kind) after greeting) (fetched_after (next_entry count 0) body []) (answered started after greeting (record { boot = boot; kind = kind; count = count; marks = marks; newest = None; earlier = [] }) body)
first_leads started after greeting boot kind count marks (EntryMsg index head) =
    heads_lead (machine (started kind) after greeting) (record { boot = boot; kind = kind; count = count; marks = marks; newest = None; earlier = [] }) [] index head tt tt refl
first_leads started after greeting boot kind count marks body = no_head (machine (started kind) after greeting) (nat_lt 0 count) 0 body [] refl

by_newest : {S : Type 0} (started : ℕ → S) (after : S → List ℕ → Served S) (greeting : S → List ℕ) (boot kind count : ℕ) (marks : Marks) (newest : Option (EntryState S)) (before : List (EntryState S)) (fetched : List Fetched) (body : Body)
    → StandsFetching (machine (started kind) after greeting) fetched (record { boot = boot; kind = kind; count = count; marks = marks; newest = newest; earlier = before })
    → Leads (machine (started kind) after greeting) (fetched_after (wanted count fetched) body fetched) (answered started after greeting (record { boot = boot; kind = kind; count = count; marks = marks; newest = newest; earlier = before }) body)
by_newest started after greeting boot kind count marks None [] [] body st = first_leads started after greeting boot kind count marks body
by_newest started after greeting boot kind count marks None [] (f ∷ fetched) body st = absurd st.entries
by_newest started after greeting boot kind count marks None (e ∷ before) fetched body st = absurd (cons_is_not_nil e before (st.newest refl))
by_newest started after greeting boot kind count marks (Some e) before [] body st = absurd st.entries
by_newest started after greeting boot kind count marks (Some e) before (f ∷ earlier) body st =
    let service : Machine _ = machine (started kind) after greeting in
    let s : FetchingState _ = record { boot = boot; kind = kind; count = count; marks = marks; newest = Some e; earlier = before } in
    let same : lacks e ≡ lack_of f = lacks_is service f e st.entries.0 in
    subst (λ w. Leads service (fetched_after w body (f ∷ earlier)) (answered started after greeting s body)) (sym (wanted_is count f earlier))
    (by_lack started after greeting boot kind count marks e before f earlier st.entries.0 st.entries.1 st.whole (lack_of f) same refl body)

by_boot : {S : Type 0} (service : Machine S) (c : Bool) (reported : Option (List Fetched)) (now : Option (FetchingState S)) → Leads service reported now
    → Leads service (if c then reported else None) (if c then now else None)
by_boot service true reported now l = l
by_boot service false reported now l = tt

-- the law of an answer, where no mark is awaited
pub log_leads : {S : Type 0} (started : ℕ → S) (after : S → List ℕ → Served S) (greeting : S → List ℕ) (s : FetchingState S) (fetched : List Fetched) (message : Message)
    → StandsFetching (machine (started s.kind) after greeting) fetched s → Leads (machine (started s.kind) after greeting) (fetched_then s.boot s.count message fetched) (after_answer started after greeting message s)
log_leads started after greeting s fetched message st =
    by_boot (machine (started s.kind) after greeting) (message.boot == s.boot) (fetched_after (wanted s.count fetched) message.body fetched) (answered started after greeting s message.body)
    (by_newest started after greeting s.boot s.kind s.count s.marks s.newest s.earlier fetched message.body st)

entry_asked : (b : Bool) (n : ℕ) → (if b then Some (ListMsg n) else None) ≡ option_map question (if b then Some (An_entry n) else None)
entry_asked true n = refl
entry_asked false n = refl

asked_by : {S : Type 0} (service : Machine S) (e : EntryState S) (f : Fetched) (earlier : List Fetched) (count n : ℕ) → StandsFor service f e → n ≡ length (f ∷ earlier) → (l : Lack)
    → or_else (asked_for l e) (if nat_lt n count then Some (ListMsg n) else None) ≡ option_map question (wanted_when l count f earlier)
asked_by service e f earlier count n st size lack.Bytes = λ j. Some (BytesMsg (st.head j).key (st.bytes j))
asked_by service e f earlier count n st size lack.Lengths = λ j. Some (CutsMsg (st.head j).key (st.cuts j).count)
asked_by service e f earlier count n st size lack.Nothing = entry_asked (nat_lt n count) n ∙ ap (λ k. option_map question (next_entry count k)) size

asked_when : {S : Type 0} (service : Machine S) (boot kind count : ℕ) (marks : Marks) (newest : Option (EntryState S)) (before : List (EntryState S)) (fetched : List Fetched)
    → StandsFetching service fetched (record { boot = boot; kind = kind; count = count; marks = marks; newest = newest; earlier = before })
    → asked (record { boot = boot; kind = kind; count = count; marks = marks; newest = newest; earlier = before }) ≡ option_map question (wanted count fetched)
asked_when service boot kind count marks None [] [] st = entry_asked (nat_lt 0 count) 0
asked_when service boot kind count marks None [] (f ∷ fetched) st = absurd st.entries
asked_when service boot kind count marks None (e ∷ before) fetched st = absurd (cons_is_not_nil e before (st.newest refl))
asked_when service boot kind count marks (Some e) before [] st = absurd st.entries
asked_when service boot kind count marks (Some e) before (f ∷ earlier) st =
    let same : lacks e ≡ lack_of f = lacks_is service f e st.entries.0 in
    let n : ℕ = length (e ∷ before) in
    asked_by service e f earlier count n st.entries.0 (as_many service (f ∷ earlier) (e ∷ before) st.entries) (lacks e)
    ∙ ap (λ l. option_map question (wanted_when l count f earlier)) same ∙ ap (option_map question) (sym (wanted_is count f earlier))

-- what is asked is the law's question
pub asked_is : {S : Type 0} (service : Machine S) (s : FetchingState S) (fetched : List Fetched) → StandsFetching service fetched s → asked s ≡ option_map question (wanted s.count fetched)
asked_is service s fetched st = asked_when service s.boot s.kind s.count s.marks s.newest s.earlier fetched st
