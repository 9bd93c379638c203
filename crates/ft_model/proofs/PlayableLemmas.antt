-- Each accepted line keeps the addresses apart and the initial numbers modulo 2^32, so what the lines spell can be played.
use Rattle.std.proofs.Common.{◌≡◌, ℕ, ◌<◌, ◌≤◌, ◌^◌, List, [], ◌∷◌, ◌++◌, length, refl, sym, ap, ap₂, ◌∙◌, arith, Bool, true, false, true≢false}
use Rattle.std.specs.Prelude.{◌==◌, nat_eq, ◌&&◌, ◌||◌, not, is_none, None, Ok}
use Rattle.std.specs.List.{AllByRecursion, list_any}
use Rattle.std.proofs.lemmas.Bool.{and_from, or_from, eq-eqb}
use Rattle.std.proofs.lemmas.Grind.{common_steps}
use Rattle.std.proofs.lemmas.List.Elements.{recursion_from_All, All-from_recursion}
use Rattle.ft_io.specs.declared.Addr.{Addr}
use Rattle.ft_io.specs.declared.Key.{Key}
use Rattle.ft_io.specs.Key.{key_eq}
use Rattle.ft_model.specs.Grammar.{read_text, with_line, no_objection, is_taken, is_too_much}
use Rattle.ft_model.specs.Legal.{start_of}
use Rattle.ft_model.specs.Playable.{HaveDifferentNumbers, IsPlayable}
use Rattle.ft_model.specs.Schedule.{bytes_of, clients_of}
use Rattle.ft_model.specs.World.{is_apart, are_apart, IsNewClient, IsStart}
use Rattle.ft_model.specs.declared.line.Draft.{Draft}
use Rattle.ft_model.specs.declared.line.Draft.TheVariants.{Empty, Named, Begun}
use Rattle.ft_model.specs.declared.line.Line.{Line}
use Rattle.ft_model.specs.declared.line.Line.TheVariants as line
use Rattle.ft_model.specs.declared.schedule.ClientLine.{ClientLine}
use Rattle.ft_model.specs.declared.schedule.Schedule.{Schedule}
use Rattle.ft_model.specs.Readable.{FitsClient, FitsSchedule}
use Rattle.ft_model.proofs.FitsLemmas.{text_fits}
use Rattle.ft_model.proofs.ScriptBytes.{script_bytes}
use Rattle.ft_model.proofs.AcceptedLemmas.{Passes, says_client, client_kept, all_push, text_keeps, accepted}
use Rattle.ft_io.proofs.Booleans.{left_true, right_true, left_false, right_false}

pub equal_either_way : (a b : ℕ) → (a == b) ≡ (b == a)
equal_either_way a b = grind (arith, common_steps)

-- whether a client line has this key
abbrev has : Key → ClientLine → Bool
has key client = client.key.ip == key.ip && client.key.port == key.port

-- a client more, whose key is another one, changes nothing for those before it
still_none : (server : Addr) (key : Key) (clients : List ClientLine) (c : ClientLine) → list_any (λ x. key_eq x.key key) (clients_of server clients) ≡ false → key_eq c.key key ≡ false
    → list_any (λ x. key_eq x.key key) (clients_of server (clients ++ c ∷ [])) ≡ false
still_none server key [] c e f = or_from (key_eq c.key key) false f refl
still_none server key (x ∷ xs) c e f =
    or_from (key_eq x.key key) (list_any (λ x. key_eq x.key key) (clients_of server (xs ++ c ∷ []))) (left_false _ _ e) (still_none server key xs c (right_false (key_eq x.key key) _ e) f)

still_apart : (server : Addr) (key : Key) (clients : List ClientLine) (c : ClientLine) → is_apart server key (clients_of server clients) ≡ true → key_eq c.key key ≡ false
    → is_apart server key (clients_of server (clients ++ c ∷ [])) ≡ true
still_apart server key clients c e f =
    by_parts (not (key.ip == server.ip && key.port == server.port)) (list_any (λ x. key_eq x.key key) (clients_of server clients)) (list_any (λ x. key_eq x.key key) (clients_of server (clients ++ c ∷ [])))
    e (λ none. still_none server key clients c none f)
  where
    by_parts : (a b b' : Bool) → (a && not b) ≡ true → (b ≡ false → b' ≡ false) → (a && not b') ≡ true
    by_parts true false b' e f = rw (f refl) refl
    by_parts true true b' e f = absurd (cc)
    by_parts false b b' e f = absurd (cc)

pub same_either_way : (a b : Key) → key_eq a b ≡ key_eq b a
same_either_way a b = rw (equal_either_way a.ip b.ip, equal_either_way a.port b.port) refl

apart_push : (server : Addr) (clients : List ClientLine) (c : ClientLine) → are_apart server (clients_of server clients) ≡ true → (server.ip == c.key.ip && server.port == c.key.port) ≡ false → list_any (has c.key) clients ≡ false
    → are_apart server (clients_of server (clients ++ c ∷ [])) ≡ true
apart_push server [] c e own none = rw (equal_either_way c.key.ip server.ip, equal_either_way c.key.port server.port, own) refl
apart_push server (x ∷ xs) c e own none =
    and_from (is_apart server x.key (clients_of server (xs ++ c ∷ []))) (are_apart server (clients_of server (xs ++ c ∷ [])))
    (still_apart server x.key xs c (left_true _ _ e) (same_either_way c.key x.key ∙ left_false _ _ none))
    (apart_push server xs c (right_true (is_apart server x.key (clients_of server xs)) _ e) own (right_false (has c.key x) _ none))

-- an address that nobody has yet keeps all apart
free_apart : (s : Schedule) (c : ClientLine) → s.lasting ≡ None → are_apart s.server (clients_of s.server s.clients) ≡ true
    → is_taken (Begun s) (record { ip = c.key.ip; port = c.key.port }) c.isn ≡ false
    → are_apart s.server (clients_of s.server (s.clients ++ c ∷ [])) ≡ true
unfolding is_taken
free_apart s c fleeting e free =
    apart_push s.server s.clients c e (left_false _ _ free) (ap (λ o. list_any (λ client. (is_none o || client.isn == c.isn) && client.key.ip == c.key.ip && client.key.port == c.key.port) s.clients) (sym fleeting)
    ∙ right_false (s.server.ip == c.key.ip && s.server.port == c.key.port) _ free)

-- .. and is beside the server
free_beside : (s : Schedule) (c : ClientLine) → is_taken (Begun s) (record { ip = c.key.ip; port = c.key.port }) c.isn ≡ false → is_apart s.server c.key [] ≡ true
unfolding is_taken
free_beside s c free =
    let own : (c.key.ip == s.server.ip && c.key.port == s.server.port) ≡ false =
    ap₂ (λ a b. a && b) (equal_either_way c.key.ip s.server.ip) (equal_either_way c.key.port s.server.port) ∙ left_false (s.server.ip == c.key.ip && s.server.port == c.key.port) _ free in
    ap (λ b. not b && true) own

-- a client more, with another address or another number than those before it
different_push : (clients : List ClientLine) (c : ClientLine) → HaveDifferentNumbers clients
    → AllByRecursion (λ x. key_eq c.key x.key ≡ true → c.isn ≡ x.isn → ⊥) clients → HaveDifferentNumbers (clients ++ c ∷ [])
different_push [] c h a = (tt, tt)
different_push (x ∷ xs) c h a = (all_push (λ other. key_eq other.key x.key ≡ true → other.isn ≡ x.isn → ⊥) xs c h.0 a.0, different_push xs c h.1 a.1)

none_is_same : (o : Bool) (c : ClientLine) (clients : List ClientLine)
    → list_any (λ x. (o || x.isn == c.isn) && x.key.ip == c.key.ip && x.key.port == c.key.port) clients ≡ false → AllByRecursion (λ x. key_eq c.key x.key ≡ true → c.isn ≡ x.isn → ⊥) clients
none_is_same o c [] e = tt
none_is_same o c (x ∷ xs) e = (
  (λ k n. clash (x.key.ip == c.key.ip) (x.key.port == c.key.port) (same_either_way x.key c.key ∙ k) (nat_eq x.isn c.isn) (eq-eqb x.isn c.isn (sym n)) o (left_false _ _ e)),
  none_is_same o c xs (right_false ((o || x.isn == c.isn) && x.key.ip == c.key.ip && x.key.port == c.key.port) _ e),
)
  where
    clash : (i p : Bool) → (i && p) ≡ true → (n : Bool) → n ≡ true → (o : Bool) → ((o || n) && i && p) ≡ false → ⊥
    clash true true k true m true e = absurd (cc)
    clash true true k true m false e = absurd (cc)
    clash true true k false m o e = absurd (cc)
    clash true false k n m o e = absurd (cc)
    clash false p k n m o e = absurd (cc)

free_different : (s : Schedule) (c : ClientLine) → is_taken (Begun s) (record { ip = c.key.ip; port = c.key.port }) c.isn ≡ false
    → AllByRecursion (λ x. key_eq c.key x.key ≡ true → c.isn ≡ x.isn → ⊥) s.clients
unfolding is_taken
free_different s c free = none_is_same (is_none s.lasting) c s.clients (right_false (s.server.ip == c.key.ip && s.server.port == c.key.port) _ free)

-- clients of different addresses
others_differ : (server : Addr) (key : Key) (isn : ℕ) (clients : List ClientLine) → list_any (λ x. key_eq x.key key) (clients_of server clients) ≡ false
    → AllByRecursion (λ other. key_eq other.key key ≡ true → other.isn ≡ isn → ⊥) clients
others_differ server key isn [] e = tt
others_differ server key isn (x ∷ xs) e = ((λ k n. true≢false (sym k ∙ left_false (key_eq x.key key) (list_any (λ y. key_eq y.key key) (clients_of server xs)) e)), others_differ server key isn xs (right_false (key_eq x.key key) _ e))

pub apart_are_different : (server : Addr) (clients : List ClientLine) → are_apart server (clients_of server clients) ≡ true → HaveDifferentNumbers clients
apart_are_different server [] e = tt
apart_are_different server (x ∷ xs) e = (
  others_differ server x.key x.isn xs (not_true _ (right_true (not (x.key.ip == server.ip && x.key.port == server.port)) _ (left_true _ _ e))),
  apart_are_different server xs (right_true (is_apart server x.key (clients_of server xs)) _ e),
)
  where
    not_true : (b : Bool) → not b ≡ true → b ≡ false
    not_true true e = absurd (cc)
    not_true false e = refl

-- the initial numbers are modulo 2^32, and the addresses differ
record IsApart (s : Schedule) : Type 0 where
  numbers : AllByRecursion (λ line. line.isn < 2 ^ 32) s.clients
  beside : AllByRecursion (λ line. is_apart s.server line.key [] ≡ true) s.clients
  different : HaveDifferentNumbers s.clients
  apart : s.lasting ≡ None → are_apart s.server (clients_of s.server s.clients) ≡ true

abbrev Keeps : Draft → Type 0
Keeps Empty = Unit {0}
Keeps (Named kind) = Unit {0}
Keeps (Begun s) = IsApart s

line_keeps : (draft : Draft) (text : List ℕ) (l : Line) → Keeps draft → is_too_much draft text ≡ false → Passes draft text l → Keeps (with_line draft l)
line_keeps Empty text (line.Service kind) h few p = tt
line_keeps Empty text (line.Server addr) h few p = tt
line_keeps Empty text (line.Profile profile) h few p = tt
line_keeps Empty text line.Twin h few p = tt
line_keeps Empty text (line.Marks every) h few p = tt
line_keeps Empty text (line.Lasting waits) h few p = tt
line_keeps Empty text (line.Client c) h few p = tt
line_keeps Empty text (line.Event e) h few p = tt
line_keeps (Named kind) text (line.Service name) h few p = tt
line_keeps (Named kind) text (line.Server addr) h few p = record { numbers = tt; beside = tt; different = tt; apart = λ none. refl }
line_keeps (Named kind) text (line.Profile profile) h few p = tt
line_keeps (Named kind) text line.Twin h few p = tt
line_keeps (Named kind) text (line.Marks every) h few p = tt
line_keeps (Named kind) text (line.Lasting waits) h few p = tt
line_keeps (Named kind) text (line.Client c) h few p = tt
line_keeps (Named kind) text (line.Event e) h few p = tt
line_keeps (Begun s) text (line.Service kind) h few p = h
line_keeps (Begun s) text (line.Server addr) h few p = h
line_keeps (Begun s) text (line.Profile profile) h few p = record { numbers = h.numbers; beside = h.beside; different = h.different; apart = h.apart }
line_keeps (Begun s) text line.Twin h few p = record { numbers = h.numbers; beside = h.beside; different = h.different; apart = h.apart }
line_keeps (Begun s) text (line.Marks every) h few p = record { numbers = h.numbers; beside = h.beside; different = h.different; apart = h.apart }
line_keeps (Begun s) text (line.Lasting waits) h few p = record { numbers = h.numbers; beside = h.beside; different = h.different; apart = λ none. absurd (cc) }
line_keeps (Begun s) text (line.Client c) h few p =
    let kept = client_kept (Begun s) p.words c (says_client (Begun s) p.k p.words c p.says).1 in
    record {
      numbers = all_push (λ line. line.isn < 2 ^ 32) s.clients c h.numbers kept.2;
      beside = all_push (λ line. is_apart s.server line.key [] ≡ true) s.clients c h.beside (free_beside s c kept.0);
      different = different_push s.clients c h.different (free_different s c kept.0);
      apart = λ none. free_apart s c none (h.apart none) kept.0;
    }
line_keeps (Begun s) text (line.Event e) h few p = record { numbers = h.numbers; beside = h.beside; different = h.different; apart = h.apart }

pub playable : (text : List ℕ) (s : Schedule) → read_text text ≡ Ok s → IsPlayable s
playable text s e =
    let kept : IsApart s = text_keeps no_objection Keeps (λ draft text l h few p free. line_keeps draft text l h few p) text s tt e in
    let fits : FitsSchedule s = text_fits text s e in
    record {
      server = (fits.ip, fits.port);
      short = All-from_recursion (λ line. length (bytes_of line.script) ≤ 2 ^ 24) s.clients (accepted text s e).scripts;
      numbers = kept.numbers;
      sizes = fits.clients;
      beside = kept.beside;
      different = kept.different;
      apart = kept.apart;
      events = fits.events;
    }

-- the clients of a schedule before their first moves
new_clients : (server : Addr) (lines : List ClientLine) → AllByRecursion (λ line. length (bytes_of line.script) ≤ 2 ^ 24) lines → AllByRecursion (λ line. line.isn < 2 ^ 32) lines → AllByRecursion FitsClient lines
    → AllByRecursion (IsNewClient server) (clients_of server lines)
new_clients server [] short numbers sizes = tt
new_clients server (c ∷ more) short numbers sizes = (
  record { new = refl; ip = sizes.0.0.0; port = sizes.0.0.1; number = numbers.0; bytes = script_bytes c.script sizes.0.2; short = short.0 },
  new_clients server more short.1 numbers.1 sizes.1,
)

pub starts : (s : Schedule) → IsPlayable s → s.lasting ≡ None → IsStart (start_of s)
starts s h fleeting = record {
  ip = h.server.0;
  port = h.server.1;
  apart = h.apart fleeting;
  clients = new_clients s.server s.clients (recursion_from_All (λ line. length (bytes_of line.script) ≤ 2 ^ 24) s.clients h.short) h.numbers h.sizes;
  log = refl;
  packets = refl;
  boot = refl;
  node = refl;
}
