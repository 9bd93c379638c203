-- What the trait requires of the web server: the output of a chunk is short, and consists of bytes.
use Rattle.std.proofs.Common.{◌≡◌, ℕ, zero, suc, ◌+◌, ◌-◌, ◌%◌, ◌/◌, ◌^◌, ◌<◌, ◌≤◌, ◌==◌, Bool, true, false, List, [], ◌∷◌, ◌++◌, length, refl, arith}
use Rattle.std.proofs.Common.{length-append}
use Rattle.std.specs.Prelude.{Option, Some, None, nat_lt, decimal, codes, if◌then◌else◌}
use Rattle.std.specs.Fmt.{digit_glyph, digits, digits_onto}
use Rattle.std.proofs.lemmas.Fmt.{length-decimal-le}
use Rattle.std.proofs.lemmas.Bool.Decides.{nat_tests}
use Rattle.server_trait.specs.Service.{Served, AreBytes, WritesBytes}
use Rattle.sample_servers.specs.Stream.{and_then, each_byte}
use Rattle.sample_servers.specs.WrittenBytes.{Anything, bytes_fold}
use Rattle.web_service.specs.declared.request.Method.{Method}
use Rattle.web_service.specs.declared.request.Method.TheVariants.{Get, Head, Other}
use Rattle.web_service.specs.declared.request.Page.{Page}
use Rattle.web_service.specs.declared.request.Page.TheVariants.{Home, Bytes, Count, Missing}
use Rattle.web_service.specs.declared.request.Request.{Request}
use Rattle.web_service.specs.declared.answer.Status.{Status}
use Rattle.web_service.specs.declared.answer.Status.TheVariants.{Good, BadRequest, NotFound, MethodNotAllowed, UriTooLong, FieldsTooLarge}
use Rattle.web_service.specs.declared.answer.Status.TheVariants.{NotImplemented, Unavailable, VersionNotSupported}
use Rattle.web_service.specs.Answer.{status_line, connection_line, head_of, made_bytes, made_lines, home_text, content, status_of, body_of, sent_body}
use Rattle.web_service.specs.Answer.{closes, answer_of}
use Rattle.web_service.specs.declared.answer.Reply.{Reply}
use Rattle.web_service.specs.declared.answer.Reply.TheVariants.{Answer, Refusal}
use Rattle.web_service.specs.Reader.{read_byte}
use Rattle.web_service.specs.Web.{WebState, refused, answered, replied, answer_room, web_byte, web_after, web_machine}

-- what holds of both sides of a choice holds of it
pub either_way : {S : Type 0} (Q : S → Type 0) (b : Bool) (s t : S) → Q s → Q t → Q (if b then s else t)
either_way Q true s t left right = left
either_way Q false s t left right = right

-- a refusal is short
length-status_line-le : (status : Status) → length (status_line status) ≤ 60
unfolding status_line
length-status_line-le Good = omega arith
length-status_line-le BadRequest = omega arith
length-status_line-le NotFound = omega arith
length-status_line-le MethodNotAllowed = omega arith
length-status_line-le UriTooLong = omega arith
length-status_line-le FieldsTooLarge = omega arith
length-status_line-le NotImplemented = omega arith
length-status_line-le Unavailable = omega arith
length-status_line-le VersionNotSupported = omega arith

length-connection_line-le : (closed : Bool) → length (connection_line closed) ≤ 30
unfolding connection_line
length-connection_line-le true = omega arith
length-connection_line-le false = omega arith

length-head_of-le : (status : Status) (closed : Bool) → length (head_of status 0 closed) ≤ 256
unfolding head_of
length-head_of-le status closed =
    let digits : length (decimal 0) ≤ 20 = length-decimal-le 20 0 (omega arith) (omega arith) (omega arith) in
    let first = length-status_line-le status in
    let last = length-connection_line-le closed in
    let name : length (codes "Content-Length: ") ≡ 16 = refl in
    omega (arith, length-append {A = ℕ})

-- how many bytes may still be written after a step
abbrev still : Bool → ℕ → ℕ
still true room = 0
still false room = room + 256

abbrev IsWithin : ℕ → Served WebState → Type 0
IsWithin room served = length served.output + still served.closed served.next.room ≤ room + 256

still-le : (closed : Bool) (room : ℕ) → still closed room ≤ room + 256
still-le true room = omega arith
still-le false room = omega arith

within_refused : (state : WebState) (status : Status) → IsWithin state.room (refused state status)
unfolding refused
within_refused state status = let short = length-head_of-le status true in omega arith

-- an answer is given where there is room for it
within_given : (room : ℕ) (answer : List ℕ) (next : WebState) (closed : Bool) → next.room ≡ room - length answer → length answer ≤ room
    → IsWithin room (record { next = next; output = answer; closed = closed })
within_given room answer next closed rest fits = let more = still-le closed next.room in omega arith

within_chosen : (state : WebState) (answer : List ℕ) (closed : Bool) (b : Bool) → nat_lt state.room (length answer) ≡ b
    → IsWithin state.room (if b then refused state Unavailable
    else record { next = record state { room = state.room - length answer }; output = answer; closed = closed })
within_chosen state answer closed true is = within_refused state Unavailable
within_chosen state answer closed false is =
    let fits : length answer ≤ state.room = grind (arith, nat_tests) in
    within_given state.room answer (record state { room = state.room - length answer }) closed refl fits

within_replied : (state : WebState) (due : Option Reply) → IsWithin state.room (replied state due)
unfolding answered
within_replied state None = omega arith
within_replied state (Some (Refusal status)) = within_refused state status
within_replied state (Some (Answer request)) =
    within_chosen state (answer_of request) (closes request) (nat_lt state.room (length (answer_of request))) refl

-- a step and what comes after it
within_then : (n : ℕ) (next : WebState) (output : List ℕ) (closed : Bool) (f : WebState → Served WebState) → length output + still closed next.room ≤ n
    → length (f next).output ≤ next.room + 256 → length (and_then (record { next = next; output = output; closed = closed }) f).output ≤ n
within_then n next output true f first later = omega arith
within_then n next output false f first later = omega (arith, length-append output (f next).output)

length-each_byte-le : (s : WebState) (bytes : List ℕ) → length (each_byte web_byte s bytes).output ≤ s.room + 256
length-each_byte-le s [] = omega arith
length-each_byte-le s (x ∷ xs) =
    let t = web_byte s x in
    let read = read_byte s.reading x in
    let rest = λ (next : WebState). each_byte web_byte next xs in
    within_then (s.room + 256) t.next t.output t.closed rest (within_replied (record s { reading = read.next }) read.due) (length-each_byte-le t.next xs)

pub length-web_after-le : (s : WebState) (chunk : List ℕ) → length chunk ≤ 2048 → length (web_after s chunk).output ≤ 2 ^ 20
length-web_after-le s chunk short =
    let roomy = record s { room = answer_room } in
    let most : length (each_byte web_byte roomy chunk).output ≤ 2 ^ 20 - 256 + 256 = length-each_byte-le roomy chunk in
    either_way (λ (t : Served WebState). length t.output ≤ 2 ^ 20) (length chunk == 0) (record {
      next = s;
      output = [];
      closed = true;
    }) (each_byte web_byte roomy chunk)
    (omega arith) (omega arith)

bytes_append : (xs ys : List ℕ) → AreBytes xs → AreBytes ys → AreBytes (xs ++ ys)
bytes_append [] ys a b = b
bytes_append (x ∷ xs) ys a b = (a.0, bytes_append xs ys a.1 b)

bytes_digits_onto : (k n : ℕ) (acc : List ℕ) → AreBytes acc → AreBytes (digits_onto k 10 false n acc)
bytes_digits_onto zero n acc bytes = bytes
bytes_digits_onto (suc k) n acc bytes =
    let digit : digit_glyph false (n % 10) < 256 = grind arith in
    either_way AreBytes (n / 10 == 0) (digit_glyph false (n % 10) ∷ acc) (digits_onto k 10 false (n / 10) (digit_glyph false (n % 10) ∷ acc)) (digit, bytes)
    (bytes_digits_onto k (n / 10) (digit_glyph false (n % 10) ∷ acc) (digit, bytes))

pub bytes_decimal : (n : ℕ) → AreBytes (decimal n)
unfolding digits
bytes_decimal n = bytes_digits_onto 64 n [] tt

-- a text that is written out is bytes, by a test that computes
abbrev pub bytes_test : List ℕ → Bool
bytes_test [] = true
bytes_test (x ∷ xs) = if nat_lt x 256 then bytes_test xs else false

test_first : (c rest : Bool) → (if c then rest else false) ≡ true → c ≡ true
test_first true rest passes = refl
test_first false rest passes = passes

test_rest : (c rest : Bool) → (if c then rest else false) ≡ true → rest ≡ true
test_rest true rest passes = passes
test_rest false rest passes = cc

pub bytes_text : (xs : List ℕ) → bytes_test xs ≡ true → AreBytes xs
bytes_text [] passes = tt
bytes_text (x ∷ xs) passes =
    let small : nat_lt x 256 ≡ true = test_first (nat_lt x 256) (bytes_test xs) passes in
    let below : x < 256 = grind (arith, nat_tests) in
    (below, bytes_text xs (test_rest (nat_lt x 256) (bytes_test xs) passes))

bytes_status_line : (status : Status) → AreBytes (status_line status)
unfolding status_line
bytes_status_line Good = bytes_text (status_line Good) refl
bytes_status_line BadRequest = bytes_text (status_line BadRequest) refl
bytes_status_line NotFound = bytes_text (status_line NotFound) refl
bytes_status_line MethodNotAllowed = bytes_text (status_line MethodNotAllowed) refl
bytes_status_line UriTooLong = bytes_text (status_line UriTooLong) refl
bytes_status_line FieldsTooLarge = bytes_text (status_line FieldsTooLarge) refl
bytes_status_line NotImplemented = bytes_text (status_line NotImplemented) refl
bytes_status_line Unavailable = bytes_text (status_line Unavailable) refl
bytes_status_line VersionNotSupported = bytes_text (status_line VersionNotSupported) refl

bytes_connection_line : (closed : Bool) → AreBytes (connection_line closed)
unfolding connection_line
bytes_connection_line true = bytes_text (connection_line true) refl
bytes_connection_line false = bytes_text (connection_line false) refl

bytes_head_of : (status : Status) (len : ℕ) (closed : Bool) → AreBytes (head_of status len closed)
unfolding head_of
bytes_head_of status len closed =
    bytes_append (status_line status ++ codes "Content-Length: " ++ decimal len) (connection_line closed)
    (bytes_append (status_line status ++ codes "Content-Length: ") (decimal len)
    (bytes_append (status_line status) (codes "Content-Length: ") (bytes_status_line status) (bytes_text (codes "Content-Length: ") refl)) (bytes_decimal len))
    (bytes_connection_line closed)

bytes_made_bytes : (n : ℕ) → AreBytes (made_bytes n)
unfolding made_bytes
bytes_made_bytes zero = tt
bytes_made_bytes (suc n) = bytes_append (made_bytes n) (n % 251 ∷ []) (bytes_made_bytes n) (omega arith, tt)

bytes_made_lines : (n : ℕ) → AreBytes (made_lines n)
unfolding made_lines
bytes_made_lines zero = tt
bytes_made_lines (suc n) =
    bytes_append (made_lines n ++ decimal (suc n)) (codes "\n") (bytes_append (made_lines n) (decimal (suc n)) (bytes_made_lines n) (bytes_decimal (suc n)))
    (bytes_text (codes "\n") refl)

bytes_content : (page : Page) → AreBytes (content page)
unfolding content home_text
bytes_content Home = bytes_text home_text refl
bytes_content (Bytes n) = bytes_made_bytes n
bytes_content (Count n) = bytes_made_lines n
bytes_content Missing = tt

bytes_body : (method : Method) (page : Page) → AreBytes (body_of method page)
bytes_body Get page = bytes_content page
bytes_body Head page = bytes_content page
bytes_body Other page = tt

bytes_sent : (method : Method) (body : List ℕ) → AreBytes body → AreBytes (sent_body method body)
bytes_sent Get body bytes = bytes
bytes_sent Head body bytes = tt
bytes_sent Other body bytes = bytes

bytes_answer : (request : Request) → AreBytes (answer_of request)
unfolding answer_of
bytes_answer request =
    let body = body_of request.method request.page in
    let head = head_of (status_of request.method request.page) (length body) (closes request) in
    bytes_append head (sent_body request.method body) (bytes_head_of (status_of request.method request.page) (length body) (closes request))
    (bytes_sent request.method body (bytes_body request.method request.page))

bytes_replied : (state : WebState) (due : Option Reply) → AreBytes (replied state due).output
unfolding refused answered
bytes_replied state None = tt
bytes_replied state (Some (Refusal status)) = bytes_head_of status 0 true
bytes_replied state (Some (Answer request)) =
    let answer = answer_of request in
    either_way (λ (t : Served WebState). AreBytes t.output) (nat_lt state.room (length answer)) (refused state Unavailable)
    (record { next = record state { room = state.room - length answer }; output = answer; closed = closes request })
    (bytes_head_of Unavailable 0 true) (bytes_answer request)

bytes_then : (next : WebState) (output : List ℕ) (closed : Bool) (f : WebState → Served WebState) → AreBytes output → AreBytes (f next).output
    → AreBytes (and_then (record { next = next; output = output; closed = closed }) f).output
bytes_then next output true f first later = first
bytes_then next output false f first later = bytes_append output (f next).output first later

bytes_each : (s : WebState) (bytes : List ℕ) → AreBytes (each_byte web_byte s bytes).output
bytes_each s [] = tt
bytes_each s (x ∷ xs) =
    let t = web_byte s x in
    let read = read_byte s.reading x in
    bytes_then t.next t.output t.closed (λ next. each_byte web_byte next xs) (bytes_replied (record s { reading = read.next }) read.due) (bytes_each t.next xs)

bytes_after : (s : WebState) (chunk : List ℕ) → AreBytes (web_after s chunk).output
bytes_after s chunk =
    either_way (λ (t : Served WebState). AreBytes t.output) (length chunk == 0) (record { next = s; output = []; closed = true })
    (each_byte web_byte (record s { room = answer_room }) chunk) tt (bytes_each (record s { room = answer_room }) chunk)

pub bytes-web : WritesBytes web_machine
bytes-web = bytes_fold web_machine Anything tt tt (λ s chunk _ _. (bytes_after s chunk, tt))
