-- A message is read as the request that its lines say.
use Rattle.std.proofs.Common.{◌≡◌, ℕ, ◌+◌, ◌-◌, ◌<◌, ◌≤◌, ◌==◌, Bool, true, false, List, [], ◌∷◌, ◌++◌, length, refl, sym, ◌∙◌, ap, subst, arith, append_assoc, append-nil, length-append}
use Rattle.std.specs.Prelude.{Option, Some, None, Result, Ok, Err, nat_lt, codes, if◌then◌else◌}
use Rattle.std.specs.List.{list_all}
use Rattle.std.proofs.lemmas.Bool.Decides.{nat_tests}
use Rattle.std.proofs.Math.Seq.{drop-append_seam, take-append_seam}
use Rattle.ft_io.proofs.Booleans.{left_true, right_true}
use Rattle.web_service.specs.declared.request.Request.{Request}
use Rattle.web_service.specs.declared.answer.Status.{Status}
use Rattle.web_service.specs.declared.answer.Reply.{Reply}
use Rattle.web_service.specs.declared.reader.Stage.{Stage}
use Rattle.web_service.specs.declared.reader.Stage.TheVariants.{RequestLine, Fields}
use Rattle.web_service.specs.declared.reader.LineEnd.{LineEnd}
use Rattle.web_service.specs.Text.{is_plain_byte, is_plain}
use Rattle.web_service.specs.Request.{is_version, version_of, request_line, with_field}
use Rattle.web_service.specs.Reader.{Reading, Read, at_start, without_return, reply_to, stage_after, request_line_end, field_line_end, line_end, at_line_end, line_byte, staged_byte}
use Rattle.web_service.specs.Messages.{onto_replies, replies_in, line_text, fields_text, message, and_fields, body_length, IsMessage}

abbrev reading_of : Stage → List ℕ → ℕ → Reading
reading_of stage held size = record { stage = stage; held = held; size = size }

-- one byte of a line, and its end
longer : (stage : Stage) (held : List ℕ) (size byte : ℕ) → size < 8192 → (byte == 10) ≡ false
    → line_byte (reading_of stage held size) byte ≡ record { next = reading_of stage (held ++ byte ∷ []) (size + 1); due = None }
unfolding line_byte
longer stage held size byte fits other =
    let short : nat_lt 8191 size ≡ false = grind (arith, nat_tests) in
    rw (short, other) refl

ends : (stage : Stage) (held : List ℕ) (size : ℕ) → size < 8192
    → line_byte (reading_of stage held size) 10 ≡ at_line_end (line_end stage (size + 1) (without_return held))
unfolding line_byte
ends stage held size fits =
    let short : nat_lt 8191 size ≡ false = grind (arith, nat_tests) in
    rw short refl

-- the carriage return is no part of a line
without_one : (line : List ℕ) → without_return (line ++ 13 ∷ []) ≡ line
without_one line =
    let size : length (line ++ 13 ∷ []) - 1 ≡ length line = let parts = length-append line (13 ∷ []) in omega arith in
    rw (size, drop-append_seam line (13 ∷ []), take-append_seam line (13 ∷ [])) refl

-- a byte of a plain line is no line feed
no_feed : (byte : ℕ) (is : Bool) → (byte == 10) ≡ is → is_plain_byte byte ≡ true → (byte == 10) ≡ false
no_feed byte true is plain = let same : byte ≡ 10 = grind (arith, nat_tests) in let wrong : is_plain_byte 10 ≡ true = subst (λ (b : ℕ). is_plain_byte b ≡ true) same plain in cc
no_feed byte false is plain = is

-- bytes of a line are read by `line_byte`
abbrev InLine : Stage → Type 0
InLine stage = (reading : Reading) (byte : ℕ) → staged_byte stage reading byte ≡ line_byte reading byte

abbrev after_line : LineEnd → List ℕ → List Reply
after_line end rest = onto_replies end.due (replies_in (reading_of end.stage [] end.size) rest)

-- a byte that only makes the line longer
one_longer : (stage : Stage) (held : List ℕ) (size byte : ℕ) (rest : List ℕ) → InLine stage → size < 8192 → (byte == 10) ≡ false
    → replies_in (reading_of stage held size) (byte ∷ rest) ≡ replies_in (reading_of stage (held ++ byte ∷ []) (size + 1)) rest
one_longer stage held size byte rest line fits other =
    ap (λ (read : Read). onto_replies read.due (replies_in read.next rest)) (line (reading_of stage held size) byte ∙ longer stage held size byte fits other)

one_ends : (stage : Stage) (held : List ℕ) (size : ℕ) (rest : List ℕ) → InLine stage → size < 8192
    → replies_in (reading_of stage held size) (10 ∷ rest) ≡ after_line (line_end stage (size + 1) (without_return held)) rest
one_ends stage held size rest line fits =
    ap (λ (read : Read). onto_replies read.due (replies_in read.next rest)) (line (reading_of stage held size) 10 ∙ ends stage held size fits)

-- a whole line
line_reads : (stage : Stage) (held line rest : List ℕ) (size : ℕ) → InLine stage → list_all is_plain_byte line ≡ true → size + length line + 2 ≤ 8192
    → replies_in (reading_of stage held size) (line ++ 13 ∷ 10 ∷ rest) ≡ after_line (line_end stage (size + length line + 2) (held ++ line)) rest
line_reads stage held [] rest size in_line plain fits =
    one_longer stage held size 13 (10 ∷ rest) in_line (omega arith) refl
    ∙ one_ends stage (held ++ 13 ∷ []) (size + 1) rest in_line (omega arith)
    ∙ ap (λ (line : List ℕ). after_line (line_end stage (size + 1 + 1) line) rest) (without_one held ∙ sym (append-nil held))
    ∙ ap (λ (n : ℕ). after_line (line_end stage n (held ++ [])) rest) (omega arith)
line_reads stage held (byte ∷ line) rest size in_line plain fits =
    let first = left_true (is_plain_byte byte) (list_all is_plain_byte line) plain in
    let others = right_true (is_plain_byte byte) (list_all is_plain_byte line) plain in
    one_longer stage held size byte (line ++ 13 ∷ 10 ∷ rest) in_line (omega arith) (no_feed byte (byte == 10) refl first)
    ∙ line_reads stage (held ++ byte ∷ []) line rest (size + 1) in_line others (omega arith)
    ∙ ap (λ (bytes : List ℕ). after_line (line_end stage (size + 1 + length line + 2) bytes) rest) (append_assoc held (byte ∷ []) line)
    ∙ ap (λ (n : ℕ). after_line (line_end stage n (held ++ byte ∷ line)) rest) (omega arith)

-- a line that is read is plain and not empty
plain_choice : {S : Type 0} (b : Bool) (read : Result S Status) (request : S) (status : Status) → (if b then read else Err status) ≡ Ok request → b ≡ true
plain_choice true read request status is = refl
plain_choice false read request status is = cc

request_line_is_plain : (line : List ℕ) (request : Request) → request_line line ≡ Ok request → list_all is_plain_byte line ≡ true
unfolding request_line is_plain
request_line_is_plain line request is = plain_choice (is_plain line) _ request _ is

field_line_is_plain : (request next : Request) (line : List ℕ) → with_field request line ≡ Ok next → list_all is_plain_byte line ≡ true
unfolding with_field is_plain
field_line_is_plain request next line is = left_true (is_plain line) _ (left_true _ _ (plain_choice _ _ next _ is))

length_test : (x : ℕ) (xs : List ℕ) → (length (x ∷ xs) == 0) ≡ false
length_test x xs = grind arith

request_line_is_some : (line : List ℕ) (request : Request) → request_line line ≡ Ok request → (length line == 0) ≡ false
unfolding request_line version_of is_version is_plain
request_line_is_some [] request is = cc
request_line_is_some (x ∷ xs) request is = length_test x xs

field_line_is_some : (request next : Request) (line : List ℕ) → with_field request line ≡ Ok next → (length line == 0) ≡ false
unfolding with_field is_plain
field_line_is_some request next [] is = cc
field_line_is_some request next (x ∷ xs) is = length_test x xs

-- what the ends of such lines do
request_begins : (line : List ℕ) (request : Request) → request_line line ≡ Ok request → request_line_end line ≡ record { stage = Fields request; size = 0; due = None }
unfolding request_line_end
request_begins line request is = rw (request_line_is_some line request is, is) refl

field_continues : (request next : Request) (line : List ℕ) (size : ℕ) → with_field request line ≡ Ok next → field_line_end size request line ≡ record { stage = Fields next; size = size; due = None }
unfolding field_line_end
field_continues request next line size is = rw (field_line_is_some request next line is, is) refl

-- a refusal stays one
stays_refused : (status : Status) (lines : List (List ℕ)) → and_fields (Err status) lines ≡ Err status
stays_refused status [] = refl
stays_refused status (line ∷ lines) = stays_refused status lines

-- the fields and the empty line
abbrev ReadsFields : Request → List (List ℕ) → List ℕ → Request → Type 0
ReadsFields last fields rest request =
    (size : ℕ) → and_fields (Ok request) fields ≡ Ok last → size + length (fields_text fields) + 2 ≤ 8192
    → replies_in (reading_of (Fields request) [] size) (fields_text fields ++ 13 ∷ 10 ∷ rest) ≡ reply_to last ∷ replies_in (reading_of (stage_after last.length) [] 0) rest

field_read : (last request : Request) (line : List ℕ) (fields : List (List ℕ)) (rest : List ℕ) (read : Result Request Status) → with_field request line ≡ read
    → ((next : Request) → ReadsFields last fields rest next) → ReadsFields last (line ∷ fields) rest request
field_read last request line fields rest (Err status) is more size says fits =
    let wrong : Err status ≡ Ok last = sym (stays_refused status fields) ∙ ap (λ read. and_fields read fields) (sym is) ∙ says in
    cc
field_read last request line fields rest (Ok next) is more size says fits =
    let behind = fields_text fields ++ 13 ∷ 10 ∷ rest in
    let sizes = length-append (line ++ codes "\r\n") (fields_text fields) in
    let line_size : length (line ++ codes "\r\n") ≡ length line + 2 = length-append line (codes "\r\n") in
    ap (replies_in (reading_of (Fields request) [] size)) (append_assoc (line ++ codes "\r\n") (fields_text fields) (13 ∷ 10 ∷ rest) ∙ append_assoc line (codes "\r\n") behind)
    ∙ line_reads (Fields request) [] line behind size (λ reading byte. refl) (field_line_is_plain request next line is) (omega arith)
    ∙ ap (λ (end : LineEnd). after_line end behind) (field_continues request next line (size + length line + 2) is)
    ∙ more next (size + length line + 2) (ap (λ read. and_fields read fields) (sym is) ∙ says) (omega arith)

ok_same : (a b : Request) (read : Result Request Status) → read ≡ Ok a → read ≡ Ok b → a ≡ b
ok_same a b read is other = cc

fields_read : (last : Request) (fields : List (List ℕ)) (rest : List ℕ) (request : Request) → ReadsFields last fields rest request
unfolding field_line_end
fields_read last [] rest request size says fits =
    line_reads (Fields request) [] [] rest size (λ reading byte. refl) refl (omega arith)
    ∙ ap (λ (r : Request). reply_to r ∷ replies_in (reading_of (stage_after r.length) [] 0) rest) (ok_same request last (Ok request) refl says)
fields_read last (line ∷ fields) rest request size says fits =
    field_read last request line fields rest (with_field request line) refl (fields_read last fields rest) size says fits

-- a body is dropped
body_read : (body rest : List ℕ) → replies_in (reading_of (stage_after (Some (length body))) [] 0) (body ++ rest) ≡ replies_in at_start rest
body_read [] rest = refl
body_read (byte ∷ body) rest =
    let one : length (byte ∷ body) - 1 ≡ length body = omega arith in
    rw (length_test byte body) (rw one (body_read body rest))

body_then : (len : Option ℕ) (body rest : List ℕ) → length body ≡ body_length len → replies_in (reading_of (stage_after len) [] 0) (body ++ rest) ≡ replies_in at_start rest
body_then None [] rest is = refl
body_then None (byte ∷ body) rest is = absurd (omega arith)
body_then (Some len) body rest is = rw (sym is) (body_read body rest)

-- the parts of a message one after another
in_parts : (first fields body rest : List ℕ) → (line_text first ++ fields ++ line_text [] ++ body) ++ rest ≡ first ++ 13 ∷ 10 ∷ (fields ++ 13 ∷ 10 ∷ (body ++ rest))
in_parts first fields body rest =
    append_assoc (line_text first ++ fields ++ line_text []) body rest
    ∙ append_assoc (line_text first ++ fields) (line_text []) (body ++ rest)
    ∙ append_assoc (line_text first) fields (13 ∷ 10 ∷ (body ++ rest))
    ∙ append_assoc first (codes "\r\n") (fields ++ 13 ∷ 10 ∷ (body ++ rest))

first_read : (first : List ℕ) (fields : List (List ℕ)) (body : List ℕ) (last : Request) (rest : List ℕ) (read : Result Request Status) → request_line first ≡ read
    → IsMessage first fields body last → replies_in at_start (message first fields body ++ rest) ≡ reply_to last ∷ replies_in at_start rest
first_read first fields body last rest (Err status) read is =
    let wrong : Err status ≡ Ok last = sym (stays_refused status fields) ∙ ap (λ read. and_fields read fields) (sym read) ∙ is.says in
    cc
first_read first fields body last rest (Ok request) read is =
    let behind = fields_text fields ++ 13 ∷ 10 ∷ (body ++ rest) in
    let first_size : length (line_text first) ≡ length first + 2 = length-append first (codes "\r\n") in
    let fields_size : length (fields_text fields ++ line_text []) ≡ length (fields_text fields) + 2 = length-append (fields_text fields) (line_text []) in
    let first_fits = is.first_fits in
    let fields_fit = is.fields_fit in
    ap (replies_in at_start) (in_parts first (fields_text fields) body rest)
    ∙ line_reads RequestLine [] first behind 0 (λ reading byte. refl) (request_line_is_plain first request read) (omega arith)
    ∙ ap (λ (end : LineEnd). after_line end behind) (request_begins first request read)
    ∙ fields_read last fields (body ++ rest) request 0 (ap (λ read. and_fields read fields) (sym read) ∙ is.says) (omega arith)
    ∙ ap (λ (replies : List Reply). reply_to last ∷ replies) (body_then last.length body rest is.whole)

pub message_reads : (first : List ℕ) (fields : List (List ℕ)) (body : List ℕ) (request : Request) (rest : List ℕ) → IsMessage first fields body request
    → replies_in at_start (message first fields body ++ rest) ≡ reply_to request ∷ replies_in at_start rest
message_reads first fields body request rest is = first_read first fields body request rest (request_line first) refl is
