-- A text is accepted line by line, and each accepted line keeps what every accepted schedule keeps.
use Rattle.std.proofs.Common.{◌≡◌, ℕ, ◌+◌, ◌-◌, ◌*◌, ◌<◌, ◌≤◌, ◌^◌, List, [], ◌∷◌, ◌++◌, length, drop, refl, sym, subst, arith, append_assoc, length-append, Bool, true, false}
use Rattle.std.specs.Prelude.{cond, Option, Some, None, option_map, Result, Ok, Err, nat_le, ◌&&◌, is_none}
use Rattle.std.specs.Option.{ok_or, option_and_then}
use Rattle.std.specs.List.{AllByRecursion}
use Rattle.std.proofs.lemmas.Bool.{ltb-true, leb-true, leb-false, eqb-true}
use Rattle.std.proofs.lemmas.List.{append-nil}
use Rattle.std.proofs.lemmas.Option.{cond_some}
use Rattle.ft_io.specs.declared.Addr.{Addr}
use Rattle.tcp_rules.specs.declared.profile.Profile.{Profile}
use Rattle.ft_model.specs.Words.{words_of, lines_of}
use Rattle.ft_model.specs.Spelling.{numeral, number_of, within, addr_of, is_hex, hex_bytes, script_of}
use Rattle.ft_model.specs.Grammar.Refusal.{TooLong}
use Rattle.ft_model.specs.Grammar.{◌>>=◌, line_of, line_of_words, line_behind, line_from, may_stand, may_join, keyword_of, verb_of, is_misnamed, is_printable, client_line, free_address, is_taken, service_line, server_line, bare_line, profile_line, marks_line, lasting_line, has_only_server, event_line, client_number, wait_number, silence_number, long_number, Objection, no_objection, unless_objected, after_line, read_lines, read_with, read_text, with_line, is_passed_over, is_too_much, at_line}
use Rattle.ft_model.specs.Accepted.{AreApart, IsAccepted}
use Rattle.ft_model.specs.Schedule.{bytes_of}
use Rattle.ft_model.specs.declared.event.Event.{Event}
use Rattle.ft_model.specs.declared.line.Draft.{Draft}
use Rattle.ft_model.specs.declared.line.Draft.TheVariants.{Empty, Named, Begun}
use Rattle.ft_model.specs.declared.line.Keyword.{Keyword}
use Rattle.ft_model.specs.declared.line.Keyword.TheVariants as keyword
use Rattle.ft_model.specs.declared.line.Line.{Line}
use Rattle.ft_model.specs.declared.line.Line.TheVariants as line
use Rattle.ft_model.specs.declared.line.Verb.{Verb}
use Rattle.ft_model.specs.declared.schedule.ClientLine.{ClientLine}
use Rattle.ft_model.specs.declared.schedule.Lasting.{Lasting}
use Rattle.ft_model.specs.declared.schedule.Limit.TheVariants as limit
use Rattle.ft_model.specs.declared.schedule.LineWhy.{LineWhy}
use Rattle.ft_model.specs.declared.schedule.LineWhy.TheVariants as why
use Rattle.ft_model.specs.declared.schedule.Schedule.{Schedule}
use Rattle.ft_model.specs.declared.schedule.Script.{Script}
use Rattle.ft_model.specs.declared.schedule.Script.TheVariants.{Bytes, Fill}
use Rattle.ft_model.proofs.Letters.{length_letters}
use Rattle.ft_io.proofs.Booleans.{left_true, right_true, not_true}

-- What an outcome that isn't a refusal says of the tests that gave it.
pub bind_ok : {A B E : Type 0} (r : Result A E) (f : A → Result B E) (y : B) → (r >>= f) ≡ Ok y → (x : A) × (r ≡ Ok x) × (f x ≡ Ok y)
bind_ok (Ok x) f y e = (x, refl, e)
bind_ok (Err d) f y e = absurd (cc)

pub ok_or_ok : {A E : Type 0} (o : Option A) (d : E) (x : A) → ok_or o d ≡ Ok x → o ≡ Some x
ok_or_ok (Some y) d x e = cc
ok_or_ok None d x e = absurd (cc)

pub unless : {A E : Type 0} (b : Bool) (d : E) (r : Result A E) (x : A) → cond b (Err d) r ≡ Ok x → (b ≡ false) × (r ≡ Ok x)
unless true d r x e = absurd (cc)
unless false d r x e = (refl, e)

provided : {A E : Type 0} (b : Bool) (d : E) (r : Result A E) (x : A) → cond b r (Err d) ≡ Ok x → (b ≡ true) × (r ≡ Ok x)
provided true d r x e = (refl, e)
provided false d r x e = absurd (cc)

-- what an accepted line passed
pub record Passes (draft : Draft) (text : List ℕ) (l : Line) : Type 0 where
  pub word : List ℕ
  pub words : List (List ℕ)
  pub k : Keyword
  pub words_are : words_of text ≡ word ∷ words
  pub advertises : keyword_of word ≡ Some k
  pub stands : may_stand draft k words ≡ true
  pub says : line_from draft k words ≡ Ok l

passes_words : (draft : Draft) (text : List ℕ) (ws : List (List ℕ)) (l : Line) → words_of text ≡ ws → line_of_words draft ws ≡ Ok l → Passes draft text l
unfolding line_behind
passes_words draft text [] l e f = absurd (cc)
passes_words draft text (word ∷ words) l e f =
    let at = bind_ok (ok_or (keyword_of word) why.Word) (λ k. line_behind draft k words) l f in
    let named = unless (is_misnamed at.0 words) why.Word (cond (may_stand draft at.0 words) (line_from draft at.0 words) (Err why.Place)) l at.2 in
    let placed = provided (may_stand draft at.0 words) why.Place (line_from draft at.0 words) l named.1 in
    record {
      word = word;
      words = words;
      k = at.0;
      words_are = e;
      advertises = ok_or_ok (keyword_of word) why.Word at.0 at.1;
      stands = placed.0;
      says = placed.1;
    }

passes : (draft : Draft) (text : List ℕ) (l : Line) → line_of draft text ≡ Ok l → Passes draft text l
unfolding line_of
passes draft text l e = passes_words draft text (words_of text) l refl (provided (is_printable text) why.Character (line_of_words draft (words_of text)) l e).1

-- a line of one word says nothing else
pub bare_says : {Says : Type 0} (own : Says) (words : List (List ℕ)) (said : Says) → (own ≡ said → ⊥) → bare_line own words ≡ Ok said → ⊥
unfolding bare_line
bare_says own [] said other e = other (cc)
bare_says own (word ∷ more) said other e = absurd (cc)

-- an event is announced by a verb, and a client by its keyword
says_event : (draft : Draft) (k : Keyword) (words : List (List ℕ)) (e : Event) → line_from draft k words ≡ Ok (line.Event e) → (v : Verb) × (k ≡ keyword.Event v)
says_event draft keyword.Service words e h = let b = bind_ok (service_line words) (λ kind. Ok (line.Service kind)) (line.Event e) h in absurd (cc b.2)
says_event draft keyword.Server words e h = let b = bind_ok (server_line words) (λ addr. Ok (line.Server addr)) (line.Event e) h in absurd (cc b.2)
says_event draft keyword.Profile words e h = let b = bind_ok (profile_line words) (λ profile. Ok (line.Profile profile)) (line.Event e) h in absurd (cc b.2)
says_event draft keyword.Twin words e h = absurd (bare_says line.Twin words (line.Event e) (λ f. cc) h)
says_event draft keyword.Marks words e h = let b = bind_ok (marks_line words) (λ every. Ok (line.Marks every)) (line.Event e) h in absurd (cc b.2)
says_event draft keyword.Lasting words e h = let b = bind_ok (lasting_line words) (λ waits. Ok (line.Lasting waits)) (line.Event e) h in absurd (cc b.2)
says_event draft keyword.Client words e h = let b = bind_ok (client_line draft words) (λ client. Ok (line.Client client)) (line.Event e) h in absurd (cc b.2)
says_event draft (keyword.Event v) words e h = (v, refl)

pub says_client : (draft : Draft) (k : Keyword) (words : List (List ℕ)) (c : ClientLine) → line_from draft k words ≡ Ok (line.Client c) → (k ≡ keyword.Client) × (client_line draft words ≡ Ok c)
says_client draft keyword.Service words c h = let b = bind_ok (service_line words) (λ kind. Ok (line.Service kind)) (line.Client c) h in absurd (cc b.2)
says_client draft keyword.Server words c h = let b = bind_ok (server_line words) (λ addr. Ok (line.Server addr)) (line.Client c) h in absurd (cc b.2)
says_client draft keyword.Profile words c h = let b = bind_ok (profile_line words) (λ profile. Ok (line.Profile profile)) (line.Client c) h in absurd (cc b.2)
says_client draft keyword.Twin words c h = absurd (bare_says line.Twin words (line.Client c) (λ f. cc) h)
says_client draft keyword.Marks words c h = let b = bind_ok (marks_line words) (λ every. Ok (line.Marks every)) (line.Client c) h in absurd (cc b.2)
says_client draft keyword.Lasting words c h = let b = bind_ok (lasting_line words) (λ waits. Ok (line.Lasting waits)) (line.Client c) h in absurd (cc b.2)
says_client draft keyword.Client words c h = let b = bind_ok (client_line draft words) (λ client. Ok (line.Client client)) (line.Client c) h in (refl, (cc (b.1, b.2)))
says_client draft (keyword.Event v) words c h = let b = bind_ok (event_line v words) (λ e. Ok (line.Event e)) (line.Client c) h in absurd (cc b.2)

another : (b : Bool) (x y : Keyword) (o : Option Keyword) → (x ≡ y → ⊥) → cond b (Some x) o ≡ Some y → o ≡ Some y
another true x y o n e = absurd (n (cc))
another false x y o n e = e

verb_in : (o : Option Verb) (v : Verb) → option_map keyword.Event o ≡ Some (keyword.Event v) → o ≡ Some v
verb_in (Some w) v e = cc
verb_in None v e = absurd (cc)

verb_behind : (word : List ℕ) (v : Verb) → keyword_of word ≡ Some (keyword.Event v) → verb_of word ≡ Some v
unfolding keyword_of
verb_behind word v e = verb_in (verb_of word) v (another _ keyword.Client (keyword.Event v) _ (λ h. cc) (another _ keyword.Lasting (keyword.Event v) _ (λ h. cc) (another _ keyword.Marks (keyword.Event v) _ (λ h. cc) (another _ keyword.Twin (keyword.Event v) _ (λ h. cc) (another _ keyword.Profile (keyword.Event v) _ (λ h. cc) (another _ keyword.Server (keyword.Event v) _ (λ h. cc) (another _ keyword.Service (keyword.Event v) _ (λ h. cc) e)))))))

-- A script has at most 2^24 bytes.
half : (digits : List ℕ) → 2 * length (hex_bytes digits) ≤ length digits
unfolding hex_bytes
half [] = omega arith
half (high ∷ []) = omega arith
half (high ∷ low ∷ more) = omega (arith, half more)

-- What the four tests of a client line gave.
pub tested : (rn ri : Result ℕ LineWhy) (ra : ℕ → Result Addr LineWhy) (rs : Result Script LineWhy) (make : ℕ → Addr → Script → ClientLine) (c : ClientLine)
    → (rn >>= λ n. ri >>= λ i. ra i >>= λ a. rs >>= λ s. Ok (make i a s)) ≡ Ok c → (i : ℕ) × (a : Addr) × (s : Script) × (ri ≡ Ok i) × (ra i ≡ Ok a) × (rs ≡ Ok s) × (make i a s ≡ c)
tested rn ri ra rs make c e =
    let n = bind_ok rn (λ n. ri >>= λ i. ra i >>= λ a. rs >>= λ s. Ok (make i a s)) c e in
    let i = bind_ok ri (λ i. ra i >>= λ a. rs >>= λ s. Ok (make i a s)) c n.2 in
    let a = bind_ok (ra i.0) (λ a. rs >>= λ s. Ok (make i.0 a s)) c i.2 in
    let s = bind_ok rs (λ s. Ok (make i.0 a.0 s)) c a.2 in
    (i.0, a.0, s.0, i.1, a.1, s.1, (cc s.2))

not_both : (a b : Bool) → (a && b) ≡ false → b ≡ true → a ≡ false
not_both true b e f = absurd (cc)
not_both false b e f = refl

hex_limit : (digits : List ℕ) → is_hex digits ≡ true → length digits ≤ 2 * 2 ^ 24
unfolding is_hex
hex_limit digits e = leb-true _ _ (right_true _ _ e)

hex_bound : (digits : List ℕ) (b : Bool) (s : Script) → is_hex digits ≡ b → cond b (Some (Bytes (hex_bytes digits))) None ≡ Some s → length (bytes_of s) ≤ 2 ^ 24
hex_bound digits true s h e = let is : Bytes (hex_bytes digits) ≡ s = cc in rw (← is) (omega (arith, half digits, hex_limit digits h))
hex_bound digits false s h e = absurd (cc)

pub within_bound : (least most : ℕ) (o : Option ℕ) (n : ℕ) → option_and_then (within least most) o ≡ Some n → n ≤ most
within_bound least most (Some m) n e = let is = cond_some (nat_le least m && nat_le m most) m n e in rw (← is.1) (leb-true _ _ (right_true _ _ is.0))
within_bound least most None n e = absurd (cc)

within_least : (least most : ℕ) (o : Option ℕ) (n : ℕ) → option_and_then (within least most) o ≡ Some n → least ≤ n
within_least least most (Some m) n e = let is = cond_some (nat_le least m && nat_le m most) m n e in rw (← is.1) (leb-true _ _ (left_true _ _ is.0))
within_least least most None n e = absurd (cc)

pub number_bound : (least most : ℕ) (word : List ℕ) (n : ℕ) → number_of least most word ≡ Some n → n ≤ most
unfolding number_of
number_bound least most word n e = within_bound least most (numeral 20 word) n e

script_cases : (dash hex fill : Bool) (digits : List ℕ) (o : Option ℕ) (s : Script) → ((n : ℕ) → o ≡ Some n → n ≤ 2 ^ 24) → cond dash (Some (Bytes [])) (cond hex (cond (is_hex digits) (Some (Bytes (hex_bytes digits))) None) (cond fill (option_map Fill o) None)) ≡ Some s → length (bytes_of s) ≤ 2 ^ 24
script_cases true hex fill digits o s f e = let is : Bytes [] ≡ s = cc in rw (← is) (omega arith)
script_cases false true fill digits o s f e = hex_bound digits (is_hex digits) s refl e
script_cases false false true digits (Some n) s f e = let is : Fill n ≡ s = cc in rw (← is) (rw length_letters (f n refl))
script_cases false false true digits None s f e = absurd (cc)
script_cases false false false digits o s f e = absurd (cc)

pub script_bound : (word : List ℕ) (s : Script) → script_of word ≡ Some s → length (bytes_of s) ≤ 2 ^ 24
unfolding script_of
script_bound word s e = script_cases _ _ _ (drop 4 word) (number_of 1 (2 ^ 24) (drop 5 word)) s (λ n is. number_bound 1 (2 ^ 24) (drop 5 word) n is) e

free : (draft : Draft) (isn : ℕ) (word : List ℕ) (a : Addr) → free_address draft isn word ≡ Ok a → is_taken draft a isn ≡ false
unfolding free_address
free draft isn word a e =
    let f = bind_ok (ok_or (addr_of word) why.Address) (λ addr. cond (is_taken draft addr isn) (Err why.Address) (Ok addr)) a e in
    let u = unless (is_taken draft f.0 isn) why.Address (Ok f.0) a f.2 in
    let is : f.0 ≡ a = cc u.1 in
    rw (← is) u.0

-- a client that passed has an address (at a server that lasts: an address and a number) of its own, a script within its limit, and a number modulo 2^32
pub client_kept : (draft : Draft) (words : List (List ℕ)) (c : ClientLine) → client_line draft words ≡ Ok c
    → (is_taken draft (record { ip = c.key.ip; port = c.key.port }) c.isn ≡ false) × (length (bytes_of c.script) ≤ 2 ^ 24) × (c.isn < 2 ^ 32)
unfolding client_line
client_kept draft (n ∷ address ∷ isn ∷ script ∷ []) c h =
    let t = tested (client_number n) (long_number isn) (λ i. free_address draft i address) (ok_or (script_of script) why.Script) (λ i addr s. record { key = record { ip = addr.ip; port = addr.port }; isn = i; script = s }) c h in
    let number = number_bound 0 (2 ^ 32 - 1) isn t.0 (ok_or_ok (number_of 0 (2 ^ 32 - 1) isn) why.Number t.0 t.3) in
    rw (← t.6) (free draft t.0 address t.1 t.4, script_bound script t.2 (ok_or_ok (script_of script) why.Script t.2 t.5), omega (arith, number))
client_kept draft [] c h = absurd (cc)
client_kept draft (n ∷ []) c h = absurd (cc)
client_kept draft (n ∷ address ∷ []) c h = absurd (cc)
client_kept draft (n ∷ address ∷ isn ∷ []) c h = absurd (cc)
client_kept draft (n ∷ address ∷ isn ∷ script ∷ word ∷ more) c h = absurd (cc)

apart_push : (s : Schedule) (before more : List ClientLine) (c : ClientLine) → AreApart s before more
    → is_taken (Begun (record s { clients = before ++ more })) (record { ip = c.key.ip; port = c.key.port }) c.isn ≡ false → AreApart s before (more ++ c ∷ [])
apart_push s before [] c h f = (rw append-nil at f, tt)
apart_push s before (x ∷ xs) c h f = (h.0, apart_push s (before ++ x ∷ []) xs c h.1 (rw append_assoc f))

pub all_push : {A : Type 0} (P : A → Type 0) (xs : List A) (x : A) → AllByRecursion P xs → P x → AllByRecursion P (xs ++ x ∷ [])
all_push P [] x h p = (p, tt)
all_push P (y ∷ ys) x h p = (h.0, all_push P ys x h.1 p)

with_client : (s : Schedule) (c : ClientLine) → IsAccepted s → length s.clients < 16
    → is_taken (Begun s) (record { ip = c.key.ip; port = c.key.port }) c.isn ≡ false → length (bytes_of c.script) ≤ 2 ^ 24 → IsAccepted (record s { clients = s.clients ++ c ∷ [] })
with_client s c h room apart script = record {
  clients = omega (arith, length-append {A = ClientLine});
  addresses = apart_push s [] s.clients c h.addresses apart;
  scripts = all_push (λ client. length (bytes_of client.script) ≤ 2 ^ 24) s.clients c h.scripts script;
  events = h.events;
  marks = h.marks;
  lasting = h.lasting;
}

with_event : (s : Schedule) (e : Event) → IsAccepted s → length s.events < 100000 → IsAccepted (record s { events = s.events ++ e ∷ [] })
unfolding is_taken
with_event s e h room = record {
  clients = h.clients;
  addresses = h.addresses;
  scripts = h.scripts;
  events = omega (arith, length-append {A = Event});
  marks = h.marks;
  lasting = h.lasting;
}

-- a line on two loggers or on marks is announced by its keyword
says_twin : (draft : Draft) (k : Keyword) (words : List (List ℕ)) → line_from draft k words ≡ Ok line.Twin → k ≡ keyword.Twin
says_twin draft keyword.Service words h = let b = bind_ok (service_line words) (λ kind. Ok (line.Service kind)) line.Twin h in absurd (cc b.2)
says_twin draft keyword.Server words h = let b = bind_ok (server_line words) (λ addr. Ok (line.Server addr)) line.Twin h in absurd (cc b.2)
says_twin draft keyword.Profile words h = let b = bind_ok (profile_line words) (λ profile. Ok (line.Profile profile)) line.Twin h in absurd (cc b.2)
says_twin draft keyword.Twin words h = refl
says_twin draft keyword.Marks words h = let b = bind_ok (marks_line words) (λ every. Ok (line.Marks every)) line.Twin h in absurd (cc b.2)
says_twin draft keyword.Lasting words h = let b = bind_ok (lasting_line words) (λ waits. Ok (line.Lasting waits)) line.Twin h in absurd (cc b.2)
says_twin draft keyword.Client words h = let b = bind_ok (client_line draft words) (λ client. Ok (line.Client client)) line.Twin h in absurd (cc b.2)
says_twin draft (keyword.Event v) words h = let b = bind_ok (event_line v words) (λ e. Ok (line.Event e)) line.Twin h in absurd (cc b.2)

pub says_marks : (draft : Draft) (k : Keyword) (words : List (List ℕ)) (every : ℕ) → line_from draft k words ≡ Ok (line.Marks every)
    → (k ≡ keyword.Marks) × (marks_line words ≡ Ok every)
says_marks draft keyword.Service words every h = let b = bind_ok (service_line words) (λ kind. Ok (line.Service kind)) (line.Marks every) h in absurd (cc b.2)
says_marks draft keyword.Server words every h = let b = bind_ok (server_line words) (λ addr. Ok (line.Server addr)) (line.Marks every) h in absurd (cc b.2)
says_marks draft keyword.Profile words every h = let b = bind_ok (profile_line words) (λ profile. Ok (line.Profile profile)) (line.Marks every) h in absurd (cc b.2)
says_marks draft keyword.Twin words every h = absurd (bare_says line.Twin words (line.Marks every) (λ f. cc) h)
says_marks draft keyword.Marks words every h = let b = bind_ok (marks_line words) (λ x. Ok (line.Marks x)) (line.Marks every) h in (refl, cc (b.1, b.2))
says_marks draft keyword.Lasting words every h = let b = bind_ok (lasting_line words) (λ waits. Ok (line.Lasting waits)) (line.Marks every) h in absurd (cc b.2)
says_marks draft keyword.Client words every h = let b = bind_ok (client_line draft words) (λ client. Ok (line.Client client)) (line.Marks every) h in absurd (cc b.2)
says_marks draft (keyword.Event v) words every h = let b = bind_ok (event_line v words) (λ e. Ok (line.Event e)) (line.Marks every) h in absurd (cc b.2)

pub says_lasting : (draft : Draft) (k : Keyword) (words : List (List ℕ)) (waits : Lasting) → line_from draft k words ≡ Ok (line.Lasting waits)
    → (k ≡ keyword.Lasting) × (lasting_line words ≡ Ok waits)
says_lasting draft keyword.Service words waits h = let b = bind_ok (service_line words) (λ kind. Ok (line.Service kind)) (line.Lasting waits) h in absurd (cc b.2)
says_lasting draft keyword.Server words waits h = let b = bind_ok (server_line words) (λ addr. Ok (line.Server addr)) (line.Lasting waits) h in absurd (cc b.2)
says_lasting draft keyword.Profile words waits h = let b = bind_ok (profile_line words) (λ profile. Ok (line.Profile profile)) (line.Lasting waits) h in absurd (cc b.2)
says_lasting draft keyword.Twin words waits h = absurd (bare_says line.Twin words (line.Lasting waits) (λ f. cc) h)
says_lasting draft keyword.Marks words waits h = let b = bind_ok (marks_line words) (λ every. Ok (line.Marks every)) (line.Lasting waits) h in absurd (cc b.2)
says_lasting draft keyword.Lasting words waits h = let b = bind_ok (lasting_line words) (λ x. Ok (line.Lasting x)) (line.Lasting waits) h in (refl, cc (b.1, b.2))
says_lasting draft keyword.Client words waits h = let b = bind_ok (client_line draft words) (λ client. Ok (line.Client client)) (line.Lasting waits) h in absurd (cc b.2)
says_lasting draft (keyword.Event v) words waits h = let b = bind_ok (event_line v words) (λ e. Ok (line.Event e)) (line.Lasting waits) h in absurd (cc b.2)

pub every_bounds : (words : List (List ℕ)) (every : ℕ) → marks_line words ≡ Ok every → (0 < every) × (every ≤ 1000)
unfolding marks_line number_of
every_bounds (word ∷ []) every h =
    let found : number_of 1 1000 word ≡ Some every = ok_or_ok (number_of 1 1000 word) why.Number every h in
    (within_least 1 1000 (numeral 20 word) every found, number_bound 1 1000 word every found)
every_bounds [] every h = absurd (cc)
every_bounds (word ∷ other ∷ more) every h = absurd (cc)

pub lasting_bounds : (words : List (List ℕ)) (waits : Lasting) → lasting_line words ≡ Ok waits → (0 < waits.wait) × (waits.wait ≤ 100000) × (waits.silence ≤ 100000)
unfolding lasting_line number_of
lasting_bounds (wait ∷ silence ∷ []) waits h =
    let w = bind_ok (wait_number wait) (λ w. silence_number silence >>= λ s. Ok (record { wait = w; silence = s })) waits h in
    let s = bind_ok (silence_number silence) (λ s. Ok (record { wait = w.0; silence = s })) waits w.2 in
    let same : record { wait = w.0; silence = s.0 } ≡ waits = cc s.2 in
    let found : number_of 1 100000 wait ≡ Some w.0 = ok_or_ok (number_of 1 100000 wait) why.Number w.0 w.1 in
    let also : number_of 0 100000 silence ≡ Some s.0 = ok_or_ok (number_of 0 100000 silence) why.Number s.0 s.1 in
    subst (λ (x : Lasting). (0 < x.wait) × (x.wait ≤ 100000) × (x.silence ≤ 100000)) same
    (within_least 1 100000 (numeral 20 wait) w.0 found, number_bound 1 100000 wait w.0 found, number_bound 0 100000 silence s.0 also)
lasting_bounds [] waits h = absurd (cc)
lasting_bounds (wait ∷ []) waits h = absurd (cc)
lasting_bounds (wait ∷ silence ∷ word ∷ more) waits h = absurd (cc)

no_value : {A : Type 0} (o : Option A) (n : A) → is_none o ≡ true → o ≡ Some n → ⊥
no_value None n h e = absurd (cc)
no_value (Some m) n h e = absurd (cc)

pub none_is : {A : Type 0} (o : Option A) → is_none o ≡ true → o ≡ None
none_is None h = refl
none_is (Some m) h = absurd (cc)

-- where one of these lines may stand, there are neither two loggers nor marks yet, and the server isn't one that lasts
is_single : (s : Schedule) → has_only_server s ≡ true → s.twin ≡ false
unfolding has_only_server
is_single s h = not_true s.twin (right_true _ _ (left_true _ _ (left_true _ _ h)))

is_unmarked : (s : Schedule) → has_only_server s ≡ true → is_none s.marks ≡ true
unfolding has_only_server
is_unmarked s h = right_true _ _ (left_true _ _ h)

lasts_not : (s : Schedule) → has_only_server s ≡ true → is_none s.lasting ≡ true
unfolding has_only_server
lasts_not s h = right_true _ _ h

with_profile : (s : Schedule) (profile : Profile) → IsAccepted s → IsAccepted (record s { profile = profile })
unfolding is_taken
with_profile s profile h = record {
  clients = h.clients;
  addresses = h.addresses;
  scripts = h.scripts;
  events = h.events;
  marks = h.marks;
  lasting = h.lasting;
}

with_pair : (s : Schedule) → IsAccepted s → is_none s.marks ≡ true → is_none s.lasting ≡ true → IsAccepted (record s { twin = true })
unfolding is_taken
with_pair s h none fleeting = record {
  clients = h.clients;
  addresses = h.addresses;
  scripts = h.scripts;
  events = h.events;
  marks = λ every e. absurd (no_value s.marks every none e);
  lasting = λ waits e. absurd (no_value s.lasting waits fleeting e);
}

with_marks : (s : Schedule) (every : ℕ) → IsAccepted s → s.twin ≡ false → is_none s.lasting ≡ true → (0 < every) × (every ≤ 1000) → IsAccepted (record s { marks = Some every })
unfolding is_taken
with_marks s every h single fleeting within = record {
  clients = h.clients;
  addresses = h.addresses;
  scripts = h.scripts;
  events = h.events;
  marks = λ n e. let is : every ≡ n = cc e in rw (← is) (within.0, within.1, single);
  lasting = λ waits e. absurd (no_value s.lasting waits fleeting e);
}

-- a server that lasts: no client is there yet, so that all addresses are apart
with_lasting : (s : Schedule) (waits : Lasting) → IsAccepted s → s.twin ≡ false → is_none s.marks ≡ true → s.clients ≡ []
    → (0 < waits.wait) × (waits.wait ≤ 100000) × (waits.silence ≤ 100000) → IsAccepted (record s { lasting = Some waits })
with_lasting s waits h single unmarked alone within = record {
  clients = h.clients;
  addresses = subst (AreApart (record s { lasting = Some waits }) []) (sym alone) tt;
  scripts = h.scripts;
  events = h.events;
  marks = λ every e. absurd (no_value s.marks every unmarked e);
  lasting = λ x e. let same : waits ≡ x = cc e in
      subst (λ (y : Lasting). (0 < y.wait) × (y.wait ≤ 100000) × (y.silence ≤ 100000) × (s.twin ≡ false) × (s.marks ≡ None)) same
      (within.0, within.1, within.2, single, none_is s.marks unmarked);
}

no_clients : (s : Schedule) → has_only_server s ≡ true → s.clients ≡ []
unfolding has_only_server
no_clients s h = empty s.clients (eqb-true (length s.clients) 0 (right_true _ _ (left_true _ _ (left_true _ _ (left_true _ _ h)))))
  where
    empty : (cs : List ClientLine) → length cs ≡ 0 → cs ≡ []
    empty [] e = refl
    empty (c ∷ cs) e = absurd (omega (arith, e))

abbrev Kept : Draft → Type 0
Kept Empty = Unit {0}
Kept (Named kind) = Unit {0}
Kept (Begun s) = IsAccepted s

pub room_for_client : (s : Schedule) (words : List (List ℕ)) → may_join s words ≡ true → length s.clients < 16
unfolding may_join
room_for_client s words e = ltb-true _ _ (right_true _ _ (left_true _ _ e))

room_for_event : (s : Schedule) (text word : List ℕ) (words : List (List ℕ)) (v : Verb) → words_of text ≡ word ∷ words → verb_of word ≡ Some v → is_too_much (Begun s) text ≡ false → length s.events < 100000
unfolding is_too_much
room_for_event s text word words v e f h = leb-false _ _ (not_both _ _ h (rw (e, f) refl))

line_kept : (draft : Draft) (text : List ℕ) (l : Line) → Kept draft → is_too_much draft text ≡ false → Passes draft text l → Kept (with_line draft l)
line_kept Empty text (line.Service kind) h few p = tt
line_kept Empty text (line.Server addr) h few p = tt
line_kept Empty text (line.Profile profile) h few p = tt
line_kept Empty text line.Twin h few p = tt
line_kept Empty text (line.Marks every) h few p = tt
line_kept Empty text (line.Lasting waits) h few p = tt
line_kept Empty text (line.Client c) h few p = tt
line_kept Empty text (line.Event e) h few p = tt
line_kept (Named kind) text (line.Service name) h few p = tt
line_kept (Named kind) text (line.Server addr) h few p = record { clients = omega arith; addresses = tt; scripts = tt; events = omega arith; marks = λ every e. absurd (cc); lasting = λ waits e. absurd (cc) }
line_kept (Named kind) text (line.Profile profile) h few p = tt
line_kept (Named kind) text line.Twin h few p = tt
line_kept (Named kind) text (line.Marks every) h few p = tt
line_kept (Named kind) text (line.Lasting waits) h few p = tt
line_kept (Named kind) text (line.Client c) h few p = tt
line_kept (Named kind) text (line.Event e) h few p = tt
line_kept (Begun s) text (line.Service kind) h few p = h
line_kept (Begun s) text (line.Server addr) h few p = h
line_kept (Begun s) text (line.Profile profile) h few p = with_profile s profile h
line_kept (Begun s) text line.Twin h few p =
    let said = says_twin (Begun s) p.k p.words p.says in
    let stands : has_only_server s ≡ true = rw said at p.stands in
    with_pair s h (is_unmarked s stands) (lasts_not s stands)
line_kept (Begun s) text (line.Marks every) h few p =
    let said = says_marks (Begun s) p.k p.words every p.says in
    let stands : has_only_server s ≡ true = rw said.0 at p.stands in
    with_marks s every h (is_single s stands) (lasts_not s stands) (every_bounds p.words every said.1)
line_kept (Begun s) text (line.Lasting waits) h few p =
    let said = says_lasting (Begun s) p.k p.words waits p.says in
    let stands : has_only_server s ≡ true = rw said.0 at p.stands in
    with_lasting s waits h (is_single s stands) (is_unmarked s stands) (no_clients s stands) (lasting_bounds p.words waits said.1)
line_kept (Begun s) text (line.Client c) h few p =
    let said = says_client (Begun s) p.k p.words c p.says in
    let kept = client_kept (Begun s) p.words c said.1 in
    with_client s c h (room_for_client s p.words (rw said.0 at p.stands)) kept.0 kept.1
line_kept (Begun s) text (line.Event e) h few p =
    let said = says_event (Begun s) p.k p.words e p.says in
    with_event s e h (room_for_event s text p.word p.words said.0 p.words_are (verb_behind p.word said.0 (rw said.1 at p.advertises)) few)

at_line_ok : (n : ℕ) (r : Result Draft LineWhy) (later : Draft) → at_line n r ≡ Ok later → r ≡ Ok later
at_line_ok n (Ok draft) later e = cc
at_line_ok n (Err d) later e = absurd (cc)

not_objected : (o : Option LineWhy) (next later : Draft) → unless_objected o next ≡ Ok later → (o ≡ None) × (next ≡ later)
not_objected None next later e = (refl, (cc))
not_objected (Some reason) next later e = absurd (cc)

-- What each line that passes, and to which the reader has no objection, keeps holds of the schedule that the lines spell.
module _ (objection : Objection) (Keeps : Draft → Type 0)
    (step : (draft : Draft) (text : List ℕ) (l : Line) → Keeps draft → is_too_much draft text ≡ false → Passes draft text l → objection draft l ≡ None → Keeps (with_line draft l)) where
  after_by : (n : ℕ) (draft later : Draft) (text : List ℕ) (over : Bool) → Keeps draft
      → cond over (Ok draft) (cond (is_too_much draft text) (Err (TooLong limit.Events)) (at_line n (line_of draft text >>= λ l. unless_objected (objection draft l) (with_line draft l)))) ≡ Ok later → Keeps later
  after_by n draft later text true h e = let is : draft ≡ later = cc in rw (← is) h
  after_by n draft later text false h e =
      let goes : Result Draft LineWhy = line_of draft text >>= λ l. unless_objected (objection draft l) (with_line draft l) in
      let u = unless (is_too_much draft text) (TooLong limit.Events) (at_line n goes) later e in
      let b = bind_ok (line_of draft text) (λ l. unless_objected (objection draft l) (with_line draft l)) later (at_line_ok n goes later u.1) in
      let f = not_objected (objection draft b.0) (with_line draft b.0) later b.2 in
      rw (← f.1) (step draft text b.0 h u.0 (passes draft text b.0 b.1) f.0)

  after_kept : (n : ℕ) (draft later : Draft) (text : List ℕ) → Keeps draft → after_line objection n draft text ≡ Ok later → Keeps later
  unfolding after_line
  after_kept n draft later text h e = after_by n draft later text (is_passed_over text) h e

  lines_keep : (n : ℕ) (draft : Draft) (texts : List (List ℕ)) (s : Schedule) → Keeps draft → read_lines objection n draft texts ≡ Ok s → Keeps (Begun s)
  unfolding read_lines
  lines_keep n Empty [] s h e = absurd (cc)
  lines_keep n (Named kind) [] s h e = absurd (cc)
  lines_keep n (Begun t) [] s h e = let is : t ≡ s = cc in rw (← is) h
  lines_keep n draft (text ∷ more) s h e =
      let b = bind_ok (after_line objection n draft text) (λ later. read_lines objection (n + 1) later more) s e in
      lines_keep (n + 1) b.0 more s (after_kept n draft b.0 text h b.1) b.2

  pub text_keeps : (text : List ℕ) (s : Schedule) → Keeps Empty → read_with objection text ≡ Ok s → Keeps (Begun s)
  unfolding read_with
  text_keeps text s h e = lines_keep 1 Empty (lines_of text) s h (provided (nat_le (length text) 8388608) (TooLong limit.Text) (read_lines objection 1 Empty (lines_of text)) s e).1

pub accepted : (text : List ℕ) (s : Schedule) → read_text text ≡ Ok s → IsAccepted s
accepted text s e = text_keeps no_objection Kept (λ draft text l h few p free. line_kept draft text l h few p) text s tt e
