-- The numbers of an accepted schedule have the sizes of their types: each was tested as it was read.
use Rattle.std.proofs.Common.{◌≡◌, ℕ, zero, suc, ◌+◌, ◌-◌, ◌*◌, ◌<◌, ◌≤◌, ◌^◌, Bool, true, false, cond, Option, Some, None, option_map, Result, Ok, Err, List, [], ◌∷◌, drop, slice_index, refl, subst, arith, length-append}
use Rattle.std.specs.Char.{digit_value, is_ascii_hexdigit}
use Rattle.std.specs.List.{list_all, slice_split}
use Rattle.std.specs.Option.{ok_or}
use Rattle.std.proofs.lemmas.Grind.{common_steps}
use Rattle.hex.specs.Hex.{IsBytes}
use Rattle.ft_io.specs.declared.Addr.{Addr}
use Rattle.ft_model.specs.Words.{is}
use Rattle.ft_model.specs.Spelling.{numeral, number_of, short_number_of, octet_of, joined_octets, host_in, host_of, addr_from, addr_in, addr_of, hex_bytes, is_hex, script_of}
use Rattle.ft_model.specs.Grammar.{◌>>=◌, number, boot_number, packet_number, client_number, window, long_number, boot_line, bare_line, deliver_line, flip_line, client_and_window, send_line, client_alone, stop_line, part_number, profile_line, marks_line, lasting_line, event_line, client_line, free_address, service_line, server_line, line_from, is_taken, is_too_much, with_line, no_objection, read_text}
use Rattle.ft_model.specs.declared.event.Event.{Event}
use Rattle.ft_model.specs.declared.event.Event.TheVariants as event
use Rattle.ft_model.specs.declared.line.Draft.{Draft}
use Rattle.ft_model.specs.declared.line.Draft.TheVariants.{Empty, Named, Begun}
use Rattle.ft_model.specs.declared.line.Keyword.{Keyword}
use Rattle.ft_model.specs.declared.line.Keyword.TheVariants as keyword
use Rattle.ft_model.specs.declared.line.Line.{Line}
use Rattle.ft_model.specs.declared.line.Line.TheVariants as line
use Rattle.ft_model.specs.declared.line.Verb.{Verb}
use Rattle.ft_model.specs.declared.line.Verb.TheVariants as verb
use Rattle.ft_model.specs.declared.schedule.ClientLine.{ClientLine}
use Rattle.ft_model.specs.declared.schedule.LineWhy.{LineWhy}
use Rattle.ft_model.specs.declared.schedule.LineWhy.TheVariants as why
use Rattle.ft_model.specs.declared.schedule.Schedule.{Schedule}
use Rattle.ft_model.specs.declared.schedule.Script.{Script}
use Rattle.ft_model.specs.declared.schedule.Script.TheVariants.{Bytes, Fill}
use Rattle.ft_model.specs.Readable.{FitsAddr, FitsEvent, FitsScript, FitsClient, FitsSchedule}
use Rattle.ft_model.proofs.AcceptedLemmas.{Passes, bind_ok, ok_or_ok, unless, within_bound, number_bound, tested, says_client, says_marks, says_lasting, every_bounds, lasting_bounds, room_for_client, all_push, text_keeps, bare_says}
use Rattle.ft_io.proofs.Booleans.{left_true, right_true}

number_fits : (least most : ℕ) (word : List ℕ) (n : ℕ) → number least most word ≡ Ok n → n ≤ most
number_fits least most word n e = number_bound least most word n (ok_or_ok (number_of least most word) why.Number n e)

short_fits : (least most : ℕ) (word : List ℕ) (n : ℕ) → short_number_of least most word ≡ Some n → n ≤ most
unfolding short_number_of
short_fits least most word n e = within_bound least most (numeral 5 word) n e

-- addresses
host_fits : (oa ob oc od : Option ℕ) (n : ℕ) → ((x : ℕ) → oa ≡ Some x → x ≤ 255) → ((x : ℕ) → ob ≡ Some x → x ≤ 255)
    → ((x : ℕ) → oc ≡ Some x → x ≤ 255) → ((x : ℕ) → od ≡ Some x → x ≤ 255) → joined_octets oa ob oc od ≡ Some n → n < 2 ^ 32
host_fits (Some a) (Some b) (Some c) (Some d) n fa fb fc fd e =
    let whole : 16777216 * a + 65536 * b + 256 * c + d ≡ n = cc in
    omega (arith, whole, fa a refl, fb b refl, fc c refl, fd d refl)
host_fits None ob oc od n fa fb fc fd e = absurd (cc)
host_fits (Some a) None oc od n fa fb fc fd e = absurd (cc)
host_fits (Some a) (Some b) None od n fa fb fc fd e = absurd (cc)
host_fits (Some a) (Some b) (Some c) None n fa fb fc fd e = absurd (cc)

host_within : (pieces : List (List ℕ)) (n : ℕ) → host_in pieces ≡ Some n → n < 2 ^ 32
host_within (a ∷ b ∷ c ∷ d ∷ []) n e =
    host_fits (octet_of a) (octet_of b) (octet_of c) (octet_of d) n (short_fits 0 255 a) (short_fits 0 255 b) (short_fits 0 255 c) (short_fits 0 255 d) e
host_within [] n e = absurd (cc)
host_within (a ∷ []) n e = absurd (cc)
host_within (a ∷ b ∷ []) n e = absurd (cc)
host_within (a ∷ b ∷ c ∷ []) n e = absurd (cc)
host_within (a ∷ b ∷ c ∷ d ∷ f ∷ more) n e = absurd (cc)

host_bound : (word : List ℕ) (n : ℕ) → host_of word ≡ Some n → n < 2 ^ 32
unfolding host_of
host_bound word n e = host_within (slice_split (is 46) word) n e

addr_fits : (host port : Option ℕ) (a : Addr) → ((x : ℕ) → host ≡ Some x → x < 2 ^ 32) → ((x : ℕ) → port ≡ Some x → x ≤ 65535)
    → addr_from host port ≡ Some a → FitsAddr a
addr_fits (Some ip) (Some port) a f g e =
    let whole : record { ip = ip; port = port } ≡ a = cc in
    subst (λ x. (x.ip < 2 ^ 32) × (x.port < 2 ^ 16)) whole (f ip refl, omega (arith, g port refl))
addr_fits None port a f g e = absurd (cc)
addr_fits (Some ip) None a f g e = absurd (cc)

addr_within : (pieces : List (List ℕ)) (a : Addr) → addr_in pieces ≡ Some a → FitsAddr a
addr_within (host ∷ port ∷ []) a e = addr_fits (host_of host) (short_number_of 1 65535 port) a (host_bound host) (short_fits 1 65535 port) e
addr_within [] a e = absurd (cc)
addr_within (host ∷ []) a e = absurd (cc)
addr_within (host ∷ port ∷ more ∷ others) a e = absurd (cc)

addr_bound : (word : List ℕ) (a : Addr) → addr_of word ≡ Some a → FitsAddr a
unfolding addr_of
addr_bound word a e = addr_within (slice_split (is 58) word) a e

-- scripts
digit_bound : (c : ℕ) → is_ascii_hexdigit c ≡ true → digit_value c < 16
digit_bound c e = grind (arith, common_steps)

no_bytes : (i : ℕ) → slice_index [] i < 256
no_bytes i = omega arith

hex_fits : (digits : List ℕ) → list_all is_ascii_hexdigit digits ≡ true → IsBytes (hex_bytes digits)
unfolding hex_bytes
hex_fits [] e i = no_bytes i
hex_fits (high ∷ []) e i = no_bytes i
hex_fits (high ∷ low ∷ more) e zero =
    let first = digit_bound high (left_true _ _ e) in
    let second = digit_bound low (left_true _ _ (right_true (is_ascii_hexdigit high) _ e)) in
    omega (arith, first, second)
hex_fits (high ∷ low ∷ more) e (suc i) = hex_fits more (right_true (is_ascii_hexdigit low) _ (right_true (is_ascii_hexdigit high) _ e)) i

hex_digits : (digits : List ℕ) → is_hex digits ≡ true → list_all is_ascii_hexdigit digits ≡ true
unfolding is_hex
hex_digits digits e = left_true _ _ (left_true _ _ (left_true _ _ e))

hex_script : (digits : List ℕ) (b : Bool) (s : Script) → is_hex digits ≡ b → cond b (Some (Bytes (hex_bytes digits))) None ≡ Some s → FitsScript s
hex_script digits true s h e = let same : Bytes (hex_bytes digits) ≡ s = cc in subst FitsScript same (hex_fits digits (hex_digits digits h))
hex_script digits false s h e = absurd (cc)

script_cases : (dash hex fill : Bool) (digits : List ℕ) (o : Option ℕ) (s : Script) → ((n : ℕ) → o ≡ Some n → n ≤ 2 ^ 24)
    → cond dash (Some (Bytes [])) (cond hex (cond (is_hex digits) (Some (Bytes (hex_bytes digits))) None) (cond fill (option_map Fill o) None)) ≡ Some s → FitsScript s
script_cases true hex fill digits o s f e = let same : Bytes [] ≡ s = cc in subst FitsScript same no_bytes
script_cases false true fill digits o s f e = hex_script digits (is_hex digits) s refl e
script_cases false false true digits (Some n) s f e = let same : Fill n ≡ s = cc in subst FitsScript same (omega (arith, f n refl))
script_cases false false true digits None s f e = absurd (cc)
script_cases false false false digits o s f e = absurd (cc)

script_fits : (word : List ℕ) (s : Script) → script_of word ≡ Some s → FitsScript s
unfolding script_of
script_fits word s e = script_cases _ _ _ (drop 4 word) (number_of 1 (2 ^ 24) (drop 5 word)) s (λ n e. number_bound 1 (2 ^ 24) (drop 5 word) n e) e

-- the lines of clients and of the server
free_fits : (draft : Draft) (isn : ℕ) (word : List ℕ) (a : Addr) → free_address draft isn word ≡ Ok a → FitsAddr a
unfolding free_address
free_fits draft isn word a e =
    let f = bind_ok (ok_or (addr_of word) why.Address) (λ addr. cond (is_taken draft addr isn) (Err why.Address) (Ok addr)) a e in
    let u = unless (is_taken draft f.0 isn) why.Address (Ok f.0) a f.2 in
    let same : f.0 ≡ a = cc u.1 in
    subst FitsAddr same (addr_bound word f.0 (ok_or_ok (addr_of word) why.Address f.0 f.1))

pub client_fits : (draft : Draft) (words : List (List ℕ)) (c : ClientLine) → client_line draft words ≡ Ok c → FitsClient c
unfolding client_line FitsAddr
client_fits draft (n ∷ address ∷ isn ∷ script ∷ []) c h =
    let t = tested (client_number n) (long_number isn) (λ i. free_address draft i address) (ok_or (script_of script) why.Script) (λ i addr s. record { key = record { ip = addr.ip; port = addr.port }; isn = i; script = s }) c h in
    let at : FitsAddr t.1 = free_fits draft t.0 address t.1 t.4 in
    let number : t.0 ≤ 2 ^ 32 - 1 = number_fits 0 (2 ^ 32 - 1) isn t.0 t.3 in
    subst FitsClient t.6 ((at.0, at.1), omega (arith, number), script_fits script t.2 (ok_or_ok (script_of script) why.Script t.2 t.5))
client_fits draft [] c h = absurd (cc)
client_fits draft (n ∷ []) c h = absurd (cc)
client_fits draft (n ∷ address ∷ []) c h = absurd (cc)
client_fits draft (n ∷ address ∷ isn ∷ []) c h = absurd (cc)
client_fits draft (n ∷ address ∷ isn ∷ script ∷ word ∷ more) c h = absurd (cc)

server_fits : (words : List (List ℕ)) (a : Addr) → server_line words ≡ Ok a → FitsAddr a
unfolding server_line
server_fits (address ∷ []) a e = addr_bound address a (ok_or_ok (addr_of address) why.Address a e)
server_fits [] a e = absurd (cc)
server_fits (address ∷ word ∷ more) a e = absurd (cc)

-- the lines of events
pub one_number : {B : Type 0} (r : Result ℕ LineWhy) (make : ℕ → B) (y : B) → (r >>= λ a. Ok (make a)) ≡ Ok y → (a : ℕ) × (r ≡ Ok a) × (make a ≡ y)
one_number r make y e = let b = bind_ok r (λ a. Ok (make a)) y e in (b.0, b.1, (cc b.2))

pub two_numbers : {B : Type 0} (r s : Result ℕ LineWhy) (make : ℕ → ℕ → B) (y : B) → (r >>= λ a. s >>= λ b. Ok (make a b)) ≡ Ok y
    → (a : ℕ) × (b : ℕ) × (r ≡ Ok a) × (s ≡ Ok b) × (make a b ≡ y)
two_numbers r s make y e =
    let f = bind_ok r (λ a. s >>= λ b. Ok (make a b)) y e in
    let g = one_number s (make f.0) y f.2 in
    (f.0, g.0, f.1, g.1, g.2)

boot_fits : (words : List (List ℕ)) (e : Event) → boot_line words ≡ Ok e → FitsEvent e
unfolding boot_line
boot_fits (boot ∷ isn ∷ []) e h =
    let t = two_numbers (boot_number boot) (long_number isn) event.Boot e h in
    let a = number_fits 1 (2 ^ 64 - 1) boot t.0 t.2 in
    let b = number_fits 0 (2 ^ 32 - 1) isn t.1 t.3 in
    subst FitsEvent t.4 (omega (arith, a), omega (arith, b))
boot_fits [] e h = absurd (cc)
boot_fits (a ∷ []) e h = absurd (cc)
boot_fits (a ∷ b ∷ c ∷ more) e h = absurd (cc)

bare_fits : (own : Event) (words : List (List ℕ)) (e : Event) → FitsEvent own → bare_line own words ≡ Ok e → FitsEvent e
unfolding bare_line
bare_fits own [] e f h = let same : own ≡ e = cc in subst FitsEvent same f
bare_fits own (a ∷ more) e f h = absurd (cc)

deliver_fits : (words : List (List ℕ)) (e : Event) → deliver_line words ≡ Ok e → FitsEvent e
unfolding deliver_line
deliver_fits (packet ∷ []) e h =
    let t = one_number (packet_number packet) event.Deliver e h in
    let a = number_fits 1 (2 ^ 32 - 1) packet t.0 t.1 in
    subst FitsEvent t.2 (omega (arith, a))
deliver_fits [] e h = absurd (cc)
deliver_fits (a ∷ b ∷ more) e h = absurd (cc)

flip_fits : (words : List (List ℕ)) (e : Event) → flip_line words ≡ Ok e → FitsEvent e
unfolding flip_line
flip_fits (packet ∷ bit ∷ []) e h =
    let t = two_numbers (packet_number packet) (long_number bit) event.Flip e h in
    let a = number_fits 1 (2 ^ 32 - 1) packet t.0 t.2 in
    let b = number_fits 0 (2 ^ 32 - 1) bit t.1 t.3 in
    subst FitsEvent t.4 (omega (arith, a), omega (arith, b))
flip_fits [] e h = absurd (cc)
flip_fits (a ∷ []) e h = absurd (cc)
flip_fits (a ∷ b ∷ c ∷ more) e h = absurd (cc)

room_fits : (words : List (List ℕ)) (m : ℕ × ℕ) → client_and_window words ≡ Ok m → (m.0 ≤ 16) × (m.1 ≤ 65535)
unfolding client_and_window
room_fits (client ∷ room ∷ []) m h =
    let t = two_numbers (client_number client) (window room) (λ a b. (a, b)) m h in
    let a = number_fits 1 16 client t.0 t.2 in
    let b = number_fits 0 65535 room t.1 t.3 in
    subst (λ x. (x.0 ≤ 16) × (x.1 ≤ 65535)) t.4 (a, b)
room_fits [] m h = absurd (cc)
room_fits (a ∷ []) m h = absurd (cc)
room_fits (a ∷ b ∷ c ∷ more) m h = absurd (cc)

send_fits : (words : List (List ℕ)) (e : Event) → send_line words ≡ Ok e → FitsEvent e
unfolding send_line
send_fits (client ∷ from ∷ len ∷ []) e h =
    let f = bind_ok (client_number client) (λ c. long_number from >>= λ x. long_number len >>= λ y. Ok (event.Send c x y)) e h in
    let t = two_numbers (long_number from) (long_number len) (event.Send f.0) e f.2 in
    let a = number_fits 1 16 client f.0 f.1 in
    let b = number_fits 0 (2 ^ 32 - 1) from t.0 t.2 in
    let c = number_fits 0 (2 ^ 32 - 1) len t.1 t.3 in
    subst FitsEvent t.4 (omega (arith, a), omega (arith, b), omega (arith, c))
send_fits [] e h = absurd (cc)
send_fits (a ∷ []) e h = absurd (cc)
send_fits (a ∷ b ∷ []) e h = absurd (cc)
send_fits (a ∷ b ∷ c ∷ d ∷ more) e h = absurd (cc)

alone_fits : (words : List (List ℕ)) (n : ℕ) → client_alone words ≡ Ok n → n ≤ 16
unfolding client_alone
alone_fits (client ∷ []) n h = number_fits 1 16 client n h
alone_fits [] n h = absurd (cc)
alone_fits (a ∷ b ∷ more) n h = absurd (cc)

stop_fits : (words : List (List ℕ)) (e : Event) → stop_line words ≡ Ok e → FitsEvent e
unfolding stop_line
stop_fits (part ∷ []) e h =
    let t = one_number (part_number part) event.Stop e h in
    let a = number_fits 1 2 part t.0 t.1 in
    subst FitsEvent t.2 (omega (arith, a))
stop_fits [] e h = absurd (cc)
stop_fits (a ∷ b ∷ more) e h = absurd (cc)

event_fits : (v : Verb) (words : List (List ℕ)) (e : Event) → event_line v words ≡ Ok e → FitsEvent e
event_fits verb.Boot words e h = boot_fits words e h
event_fits verb.Crash words e h = bare_fits event.Crash words e tt h
event_fits verb.Tick words e h = bare_fits event.Tick words e tt h
event_fits verb.Deliver words e h = deliver_fits words e h
event_fits verb.Flip words e h = flip_fits words e h
event_fits verb.Open words e h =
    let b = bind_ok (client_and_window words) (λ m. Ok (event.Begin m.0 m.1)) e h in
    let f = room_fits words b.0 b.1 in
    let same : event.Begin b.0.0 b.0.1 ≡ e = cc b.2 in subst FitsEvent same (omega (arith, f.0), omega (arith, f.1))
event_fits verb.Send words e h = send_fits words e h
event_fits verb.Fin words e h =
    let b = bind_ok (client_alone words) (λ c. Ok (event.Fin c)) e h in
    let same : event.Fin b.0 ≡ e = cc b.2 in subst FitsEvent same (omega (arith, alone_fits words b.0 b.1))
event_fits verb.Ack words e h =
    let b = bind_ok (client_and_window words) (λ m. Ok (event.Ack m.0 m.1)) e h in
    let f = room_fits words b.0 b.1 in
    let same : event.Ack b.0.0 b.0.1 ≡ e = cc b.2 in subst FitsEvent same (omega (arith, f.0), omega (arith, f.1))
event_fits verb.Reset words e h =
    let b = bind_ok (client_alone words) (λ c. Ok (event.Reset c)) e h in
    let same : event.Reset b.0 ≡ e = cc b.2 in subst FitsEvent same (omega (arith, alone_fits words b.0 b.1))
event_fits verb.Stop words e h = stop_fits words e h

-- a line that says an event, or the server's address
says_event : (draft : Draft) (k : Keyword) (words : List (List ℕ)) (e : Event) → line_from draft k words ≡ Ok (line.Event e) → FitsEvent e
says_event draft keyword.Service words e h = let b = bind_ok (service_line words) (λ kind. Ok (line.Service kind)) (line.Event e) h in absurd (cc b.2)
says_event draft keyword.Server words e h = let b = bind_ok (server_line words) (λ addr. Ok (line.Server addr)) (line.Event e) h in absurd (cc b.2)
says_event draft keyword.Profile words e h = let b = bind_ok (profile_line words) (λ profile. Ok (line.Profile profile)) (line.Event e) h in absurd (cc b.2)
says_event draft keyword.Twin words e h = absurd (bare_says line.Twin words (line.Event e) (λ f. cc) h)
says_event draft keyword.Marks words e h = let b = bind_ok (marks_line words) (λ every. Ok (line.Marks every)) (line.Event e) h in absurd (cc b.2)
says_event draft keyword.Lasting words e h = let b = bind_ok (lasting_line words) (λ waits. Ok (line.Lasting waits)) (line.Event e) h in absurd (cc b.2)
says_event draft keyword.Client words e h = let b = bind_ok (client_line draft words) (λ client. Ok (line.Client client)) (line.Event e) h in absurd (cc b.2)
says_event draft (keyword.Event v) words e h =
    let b = bind_ok (event_line v words) (λ x. Ok (line.Event x)) (line.Event e) h in
    let same : b.0 ≡ e = cc b.2 in subst FitsEvent same (event_fits v words b.0 b.1)

pub says_server : (draft : Draft) (k : Keyword) (words : List (List ℕ)) (a : Addr) → line_from draft k words ≡ Ok (line.Server a) → FitsAddr a
says_server draft keyword.Service words a h = let b = bind_ok (service_line words) (λ kind. Ok (line.Service kind)) (line.Server a) h in absurd (cc b.2)
says_server draft keyword.Server words a h =
    let b = bind_ok (server_line words) (λ x. Ok (line.Server x)) (line.Server a) h in
    let same : b.0 ≡ a = cc b.2 in subst FitsAddr same (server_fits words b.0 b.1)
says_server draft keyword.Profile words a h = let b = bind_ok (profile_line words) (λ profile. Ok (line.Profile profile)) (line.Server a) h in absurd (cc b.2)
says_server draft keyword.Twin words a h = absurd (bare_says line.Twin words (line.Server a) (λ f. cc) h)
says_server draft keyword.Marks words a h = let b = bind_ok (marks_line words) (λ every. Ok (line.Marks every)) (line.Server a) h in absurd (cc b.2)
says_server draft keyword.Lasting words a h = let b = bind_ok (lasting_line words) (λ waits. Ok (line.Lasting waits)) (line.Server a) h in absurd (cc b.2)
says_server draft keyword.Client words a h = let b = bind_ok (client_line draft words) (λ client. Ok (line.Client client)) (line.Server a) h in absurd (cc b.2)
says_server draft (keyword.Event v) words a h = let b = bind_ok (event_line v words) (λ e. Ok (line.Event e)) (line.Server a) h in absurd (cc b.2)

abbrev FitsDraft : Draft → Type 0
FitsDraft Empty = Unit {0}
FitsDraft (Named kind) = Unit {0}
FitsDraft (Begun s) = FitsSchedule s

line_fits : (draft : Draft) (text : List ℕ) (l : Line) → FitsDraft draft → is_too_much draft text ≡ false → Passes draft text l → FitsDraft (with_line draft l)
line_fits Empty text (line.Service kind) h few p = tt
line_fits Empty text (line.Server addr) h few p = tt
line_fits Empty text (line.Profile profile) h few p = tt
line_fits Empty text line.Twin h few p = tt
line_fits Empty text (line.Marks every) h few p = tt
line_fits Empty text (line.Lasting waits) h few p = tt
line_fits Empty text (line.Client c) h few p = tt
line_fits Empty text (line.Event e) h few p = tt
line_fits (Named kind) text (line.Service name) h few p = tt
line_fits (Named kind) text (line.Server addr) h few p =
    let at : FitsAddr addr = says_server (Named kind) p.k p.words addr p.says in
    record { ip = at.0; port = at.1; marks = tt; lasting = tt; clients = tt; count = omega arith; events = tt }
line_fits (Named kind) text (line.Profile profile) h few p = tt
line_fits (Named kind) text line.Twin h few p = tt
line_fits (Named kind) text (line.Marks every) h few p = tt
line_fits (Named kind) text (line.Lasting waits) h few p = tt
line_fits (Named kind) text (line.Client c) h few p = tt
line_fits (Named kind) text (line.Event e) h few p = tt
line_fits (Begun s) text (line.Service kind) h few p = h
line_fits (Begun s) text (line.Server addr) h few p = h
line_fits (Begun s) text (line.Profile profile) h few p = record { ip = h.ip; port = h.port; marks = h.marks; lasting = h.lasting; clients = h.clients; count = h.count; events = h.events }
line_fits (Begun s) text line.Twin h few p = record { ip = h.ip; port = h.port; marks = h.marks; lasting = h.lasting; clients = h.clients; count = h.count; events = h.events }
line_fits (Begun s) text (line.Marks every) h few p =
    let within = every_bounds p.words every (says_marks (Begun s) p.k p.words every p.says).1 in
    record { ip = h.ip; port = h.port; marks = omega (arith, within.1); lasting = h.lasting; clients = h.clients; count = h.count; events = h.events }
line_fits (Begun s) text (line.Lasting waits) h few p =
    let within = lasting_bounds p.words waits (says_lasting (Begun s) p.k p.words waits p.says).1 in
    record { ip = h.ip; port = h.port; marks = h.marks; lasting = (omega (arith, within.1), omega (arith, within.2)); clients = h.clients; count = h.count; events = h.events }
line_fits (Begun s) text (line.Client c) h few p =
    let said = says_client (Begun s) p.k p.words c p.says in
    let room = room_for_client s p.words (rw said.0 at p.stands) in
    record {
      ip = h.ip;
      port = h.port;
      marks = h.marks;
      lasting = h.lasting;
      clients = all_push FitsClient s.clients c h.clients (client_fits (Begun s) p.words c said.1);
      count = omega (arith, room, length-append {A = ClientLine});
      events = h.events;
    }
line_fits (Begun s) text (line.Event e) h few p = record {
  ip = h.ip;
  port = h.port;
  marks = h.marks;
  lasting = h.lasting;
  clients = h.clients;
  count = h.count;
  events = all_push FitsEvent s.events e h.events (says_event (Begun s) p.k p.words e p.says);
}

pub text_fits : (text : List ℕ) (s : Schedule) → read_text text ≡ Ok s → FitsSchedule s
text_fits text s e = text_keeps no_objection FitsDraft (λ draft text l h few p free. line_fits draft text l h few p) text s tt e
