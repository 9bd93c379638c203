-- A service that is given bytes writes bytes, and its state keeps its invariant: proofs for the laws of the services.
use Rattle.std.proofs.Common.{◌≡◌, refl, ℕ, zero, suc, ◌+◌, ◌%◌, ◌/◌, ◌^◌, ◌<◌, ◌==◌, Bool, true, false, List, [], ◌∷◌, ◌++◌, length, take, arith}
use Rattle.std.specs.Prelude.{decimal, codes, bytes_eq, nat_lt, if◌then◌else◌}
use Rattle.std.specs.Fmt.{digit_glyph, digits, digits_onto}
use Rattle.std.specs.List.{AllByRecursion}
use Rattle.std.proofs.lemmas.List.Folds.{list_any-append}
use Rattle.server_trait.specs.Service.{Served, Machine, Run, silent, AreBytes, WritesBytes, fold, fold_from}
use Rattle.sample_servers.specs.Stream.{waiting, and_then, each_byte}
use Rattle.sample_servers.specs.Echo.{echo_started, echo_after}
use Rattle.sample_servers.specs.Meter.{meter_started, meter_after, length_line}
use Rattle.sample_servers.specs.AnyService.{any_started, any_after}
use Rattle.sample_servers.specs.declared.any_service.AnyService.{AnyService}
use Rattle.sample_servers.specs.declared.any_service.AnyService.TheVariants.{Echo, Line, Transfer, Meter}
use Rattle.sample_servers.specs.Line.{LineState, number_after, numbered, line_started, line_finished, line_longer, line_byte, line_end, line_after}
use Rattle.sample_servers.specs.Line.{is_unfinished}
use Rattle.sample_servers.specs.Transfer.{held_bytes, request_of, size_of, pattern, request_served, requests_served, bytes_served, transfer_started}
use Rattle.sample_servers.specs.Transfer.{transfer_after}
use Rattle.sample_servers.specs.Transfer as transfer
use Rattle.sample_servers.specs.declared.transfer.Held.TheVariants.{Nothing}

pub bytes_append : (xs ys : List ℕ) → AreBytes xs → AreBytes ys → AreBytes (xs ++ ys)
bytes_append [] ys a b = b
bytes_append (x ∷ xs) ys a b = (a.0, bytes_append xs ys a.1 b)

pub bytes_take : (n : ℕ) (xs : List ℕ) → AreBytes xs → AreBytes (take n xs)
bytes_take zero xs a = tt
bytes_take (suc n) [] a = tt
bytes_take (suc n) (x ∷ xs) a = (a.0, bytes_take n xs a.1)

-- what is written is bytes, and the state after it satisfies the invariant
abbrev pub IsServed : {S : Type 0} → (S → Type 0) → Served S → Type 0
IsServed P served = AreBytes served.output × P served.next

-- a choice is as both of its sides are
served_if : {S : Type 0} (P : S → Type 0) (b : Bool) (s t : Served S) → IsServed P s → IsServed P t → IsServed P (if b then s else t)
served_if P true s t left right = left
served_if P false s t left right = right

-- the same, where each side may take the choice for granted
served_when : {S : Type 0} (P : S → Type 0) (b : Bool) (s t : Served S) → (b ≡ true → IsServed P s) → (b ≡ false → IsServed P t)
    → IsServed P (if b then s else t)
served_when P true s t left right = left refl
served_when P false s t left right = right refl

-- a step and what comes after it write bytes where each does
served_and_then : {S : Type 0} (P : S → Type 0) (next : S) (output : List ℕ) (closed : Bool) (f : S → Served S) → AreBytes output → P next
    → ((s : S) → P s → IsServed P (f s)) → IsServed P (and_then (record { next = next; output = output; closed = closed }) f)
served_and_then P next output true f bytes here more = (bytes, here)
served_and_then P next output false f bytes here more =
    let later = more next here in (bytes_append output (f next).output bytes later.0, later.1)

-- what a run has written is bytes, and its state satisfies the invariant
abbrev pub IsRunning : {S : Type 0} → (S → Type 0) → Run S → Type 0
IsRunning P run = AreBytes run.output × P run.state

served_fed : {S : Type 0} (service : Machine S) (P : S → Type 0) → ((s : S) (chunk : List ℕ) → P s → AreBytes chunk → IsServed P (service.after s chunk))
    → (state : S) (output : List ℕ) (closed : Bool) (chunks : List (List ℕ)) → P state → AreBytes output → AllByRecursion AreBytes chunks
    → IsRunning P (fold_from service (record { state = state; output = output; closed = closed }) chunks)
served_fed service P step state output closed [] here bytes given = (bytes, here)
served_fed service P step state output true (chunk ∷ chunks) here bytes given = served_fed service P step state output true chunks here bytes given.1
served_fed service P step state output false (chunk ∷ chunks) here bytes given =
    let served = service.after state chunk in
    let one = step state chunk here given.0 in
    served_fed service P step served.next (output ++ served.output) served.closed chunks one.1 (bytes_append output served.output bytes one.0) given.1

-- a run writes bytes, and its state satisfies the invariant, where each step does so from a state that satisfies it
pub run_kept : {S : Type 0} (service : Machine S) (P : S → Type 0) → AreBytes service.greeting → P service.fresh
    → ((s : S) (chunk : List ℕ) → P s → AreBytes chunk → IsServed P (service.after s chunk))
    → (chunks : List (List ℕ)) → AllByRecursion AreBytes chunks → IsRunning P (fold service chunks)
run_kept service P civil start step chunks given = served_fed service P step service.fresh service.greeting false chunks start civil given

pub bytes_fold : {S : Type 0} (service : Machine S) (P : S → Type 0) → AreBytes service.greeting → P service.fresh
    → ((s : S) (chunk : List ℕ) → P s → AreBytes chunk → IsServed P (service.after s chunk)) → WritesBytes service
bytes_fold service P civil start step chunks given = (run_kept service P civil start step chunks given).0

-- the invariant of a service that has only one state: it says nothing
abbrev pub Anything : {S : Type 0} → S → Type 0
Anything s = Unit {0}

-- digits are bytes
bytes_if : (b : Bool) (xs ys : List ℕ) → AreBytes xs → AreBytes ys → AreBytes (if b then xs else ys)
bytes_if true xs ys left right = left
bytes_if false xs ys left right = right

bytes_digits_onto : (k n : ℕ) (acc : List ℕ) → AreBytes acc → AreBytes (digits_onto k 10 false n acc)
bytes_digits_onto zero n acc bytes = bytes
bytes_digits_onto (suc k) n acc bytes =
    let digit : digit_glyph false (n % 10) < 256 = grind arith in
    bytes_if (n / 10 == 0) (digit_glyph false (n % 10) ∷ acc) (digits_onto k 10 false (n / 10) (digit_glyph false (n % 10) ∷ acc)) (digit, bytes)
    (bytes_digits_onto k (n / 10) (digit_glyph false (n % 10) ∷ acc) (digit, bytes))

bytes_decimal : (n : ℕ) → AreBytes (decimal n)
unfolding digits
bytes_decimal n = bytes_digits_onto 64 n [] tt

bytes_length_line : (chunk : List ℕ) → AreBytes (length_line chunk)
bytes_length_line chunk =
    bytes_if (length chunk == 0) [] (decimal (length chunk) ++ codes "\n") tt
    (bytes_append (decimal (length chunk)) (codes "\n") (bytes_decimal (length chunk)) (omega arith, tt))

bytes_pattern : (place size : ℕ) → AreBytes (pattern place size)
unfolding pattern
bytes_pattern place zero = tt
bytes_pattern place (suc size) = (omega arith, bytes_pattern (place + 1) size)

-- the place is one of the pattern's 251, and an incomplete request is bytes
pub record IsTransfer (s : transfer.TransferState) : Type 0 where
  pub place : s.place < 251
  pub bytes : AreBytes (held_bytes s.held)

served_request : (place request : ℕ) → place < 251 → IsServed IsTransfer (request_served place request)
unfolding request_served
served_request place request small =
    served_if IsTransfer (request == 0) (record { next = record { place = place; held = Nothing }; output = []; closed = true })
    (record { next = record { place = (place + size_of request) % 251; held = Nothing }; output = pattern place (size_of request); closed = false })
    (tt, record { place = small; bytes = tt }) (bytes_pattern place (size_of request), record { place = omega arith; bytes = tt })

served_requests : (place : ℕ) (bytes : List ℕ) → place < 251 → AreBytes bytes → IsServed IsTransfer (requests_served place bytes)
served_requests place [] small given = (tt, record { place = small; bytes = tt })
served_requests place (a ∷ []) small given = (tt, record { place = small; bytes = given })
served_requests place (a ∷ b ∷ []) small given = (tt, record { place = small; bytes = given })
served_requests place (a ∷ b ∷ c ∷ []) small given = (tt, record { place = small; bytes = given })
served_requests place (a ∷ b ∷ c ∷ d ∷ bytes) small given =
    let t = request_served place (request_of a b c d) in
    let one = served_request place (request_of a b c d) small in
    served_and_then IsTransfer t.next t.output t.closed (λ next. requests_served next.place bytes) one.0 one.1
    (λ s kept. served_requests s.place bytes kept.place given.1.1.1.1)

pub served_transfer : (s : transfer.TransferState) (chunk : List ℕ) → IsTransfer s → AreBytes chunk → IsServed IsTransfer (transfer_after s chunk)
unfolding bytes_served
served_transfer s chunk kept given = served_if IsTransfer (length chunk == 0) (record { next = s; output = []; closed = true })
    (requests_served s.place (held_bytes s.held ++ chunk)) (tt, kept)
    (served_requests s.place (held_bytes s.held ++ chunk) kept.place (bytes_append (held_bytes s.held) chunk kept.bytes given))

pub fresh_transfer : IsTransfer transfer_started
fresh_transfer = record { place = omega arith; bytes = tt }

-- the number of lines fits in 64 bits, and the line so far is unfinished and is bytes
pub record IsLine (s : LineState) : Type 0 where
  pub number : s.finished < 2 ^ 64
  pub bytes : AreBytes s.held
  pub unfinished : is_unfinished s.held ≡ true

served_line_finished : (finished : ℕ) (line : List ℕ) → finished < 2 ^ 64 → AreBytes line → IsServed IsLine (line_finished finished line)
unfolding line_finished numbered
served_line_finished finished line small bytes =
    let number = decimal (number_after finished) in
    let bye : AreBytes (codes "bye\n") = (omega arith, (omega arith, (omega arith, (omega arith, tt)))) in
    let whole : AreBytes (number ++ codes " " ++ take 1024 line ++ codes "\n") =
    bytes_append (number ++ codes " " ++ take 1024 line) (codes "\n")
    (bytes_append (number ++ codes " ") (take 1024 line) (bytes_append number (codes " ") (bytes_decimal (number_after finished)) (omega arith, tt))
    (bytes_take 1024 line bytes)) (omega arith, tt) in
    served_if IsLine (bytes_eq line (codes "quit"))
    (record { next = record { finished = finished; held = [] }; output = codes "bye\n"; closed = true })
    (record { next = record { finished = number_after finished; held = [] }; output = number ++ codes " " ++ take 1024 line ++ codes "\n"; closed = false })
    (bye, record { number = small; bytes = tt; unfinished = refl }) (whole, record { number = omega arith; bytes = tt; unfinished = refl })

-- a line that isn't full continues unfinished with a byte that is no line feed
longer_unfinished : (held : List ℕ) (byte : ℕ) → is_unfinished held ≡ true → (byte == 10) ≡ false → nat_lt (length (held ++ byte ∷ [])) 1024 ≡ true
    → is_unfinished (held ++ byte ∷ []) ≡ true
longer_unfinished held byte unfinished other room =
    let joined = list_any-append (λ (b : ℕ). b == 10) held (byte ∷ []) in grind arith

served_line_byte : (s : LineState) (byte : ℕ) → IsLine s → byte < 256 → IsServed IsLine (line_byte s byte)
served_line_byte s byte kept small =
    let line = s.held ++ byte ∷ [] in
    let longer : AreBytes line = bytes_append s.held (byte ∷ []) kept.bytes (small, tt) in
    served_when IsLine (byte == 10) (line_finished s.finished s.held) (line_longer s.finished line)
    (λ _. served_line_finished s.finished s.held kept.number kept.bytes)
    (λ other. served_when IsLine (nat_lt (length line) 1024) (waiting (record { finished = s.finished; held = line })) (line_finished s.finished line)
    (λ room. (tt, record { number = kept.number; bytes = longer; unfinished = longer_unfinished s.held byte kept.unfinished other room }))
    (λ _. served_line_finished s.finished line kept.number longer))

served_line_bytes : (s : LineState) (bytes : List ℕ) → IsLine s → AreBytes bytes → IsServed IsLine (each_byte line_byte s bytes)
served_line_bytes s [] held given = (tt, held)
served_line_bytes s (x ∷ xs) held given =
    let t = line_byte s x in
    let one = served_line_byte s x held given.0 in
    served_and_then IsLine t.next t.output t.closed (λ next. each_byte line_byte next xs) one.0 one.1 (λ next held. served_line_bytes next xs held given.1)

served_line_end : (s : LineState) → IsLine s → IsServed IsLine (line_end s)
served_line_end s held =
    served_if IsLine (length s.held == 0) (record { next = s; output = []; closed = true }) (record (line_finished s.finished s.held) { closed = true })
    (tt, held) (served_line_finished s.finished s.held held.number held.bytes)

pub served_line : (s : LineState) (chunk : List ℕ) → IsLine s → AreBytes chunk → IsServed IsLine (line_after s chunk)
served_line s chunk held given = served_if IsLine (length chunk == 0) (line_end s) (each_byte line_byte s chunk) (served_line_end s held)
    (served_line_bytes s chunk held given)

pub bytes-echo : WritesBytes (silent echo_started echo_after)
bytes-echo = bytes_fold (silent echo_started echo_after) Anything tt tt (λ s chunk _ given. (given, tt))

pub fresh_line : IsLine line_started
fresh_line = record { number = omega arith; bytes = tt; unfinished = refl }

pub bytes-line : WritesBytes (silent line_started line_after)
bytes-line = bytes_fold (silent line_started line_after) IsLine tt fresh_line served_line

pub bytes-transfer : WritesBytes (silent transfer_started transfer_after)
bytes-transfer = bytes_fold (silent transfer_started transfer_after) IsTransfer tt fresh_transfer served_transfer

pub bytes-meter : WritesBytes (silent meter_started meter_after)
bytes-meter = bytes_fold (silent meter_started meter_after) Anything tt tt (λ s chunk _ _. (bytes_length_line chunk, tt))

-- the invariant of a service out of the four
abbrev pub IsAny : AnyService → Type 0
IsAny (Echo echo) = Unit {0}
IsAny (Line line) = IsLine line
IsAny (Transfer transfer) = IsTransfer transfer
IsAny (Meter meter) = Unit {0}

served_any : (s : AnyService) (chunk : List ℕ) → IsAny s → AreBytes chunk → IsServed IsAny (any_after s chunk)
served_any (Echo echo) chunk held given = (given, tt)
served_any (Line line) chunk held given = served_line line chunk held given
served_any (Transfer transfer) chunk held given = served_transfer transfer chunk held given
served_any (Meter meter) chunk held given = (bytes_length_line chunk, tt)

any_started_is : (kind : ℕ) → IsAny (any_started kind)
any_started_is kind = start (kind == 2) (kind == 3) (kind == 4)
  where
    start : (a b c : Bool) → IsAny (if a then Line line_started
        else (if b then Transfer transfer_started else (if c then Meter meter_started else Echo echo_started)))
    start true b c = fresh_line
    start false true c = fresh_transfer
    start false false true = tt
    start false false false = tt

pub bytes-any : (kind : ℕ) → WritesBytes (silent (any_started kind) any_after)
bytes-any kind = bytes_fold (silent (any_started kind) any_after) IsAny tt (any_started_is kind) served_any
