-- A spelling says its message: each test of its grammar fails at it, and each number is read where it was put.
use Rattle.std.proofs.Common.{◌≡◌, ℕ, zero, suc, ◌<◌, ◌≤◌, ◌+◌, ◌*◌, ◌/◌, ◌%◌, ◌^◌, Bool, true, false, not, List, [], ◌∷◌, ◌++◌, length, length-append, take, drop, ap, refl, sym, arith, ◌∙◌, append_assoc, if◌then◌else◌}
use Rattle.std.specs.Prelude.{Some, Ok, slice_index, nat_eq, nat_le, nat_lt}
use Rattle.std.specs.Int.{byte_at, bytes_high_first}
use Rattle.std.specs.List.{list_all}
use Rattle.std.proofs.Math.Arith.{mod-mul}
use Rattle.std.proofs.Math.Nat.{div-one, mod-eq_of_lt, one-le-pow, pow-succ'}
use Rattle.std.proofs.Math.Seq.{drop-append_seam}
use Rattle.std.proofs.lemmas.List.{drop-drop}
use Rattle.std.proofs.lemmas.Bool.{le-ltb, leb-true, and_parts}
use Rattle.seq_arith.specs.declared.kinds.Kind.{Kind}
use Rattle.seq_arith.specs.declared.kinds.Kind.TheVariants as kinds
use Rattle.seq_arith.specs.declared.kinds.Field.{Field}
use Rattle.seq_arith.specs.declared.kinds.Grammar.{Grammar}
use Rattle.seq_arith.specs.declared.kinds.Grammar.TheVariants as grammars
use Rattle.seq_arith.specs.Bytes.{two, word_at}
use Rattle.seq_arith.specs.Checksum.{checksum}
use Rattle.seq_arith.specs.Message.{Body, Message}
use Rattle.seq_arith.specs.Message.{Body as bodies}
use Rattle.seq_arith.specs.MessageGrammar.{number_bytes, number_from, number_in, kind_number, kind_numbered, fields_of, most_behind, fewest_behind, width, fields_length, behind_at, has_length, numbers_in, numbers_bytes, lens_in, lens_bytes, kind_of, numbers_of, behind_of, lens_of, flag, ending, most_ending, version, all_in_range_by, body_in, message_in, is_sound_by, is_sound_in, reading_of, reading_by, message_length, header, spelled, spelling_by, AllFit, IsSpellableBy}
use Rattle.seq_arith.proofs.Passing.{no_difference}
use Rattle.seq_arith.proofs.Spelling.{word_back}
use Rattle.seq_arith.proofs.Sums.{checked_in_place}

pub number_length : (width n : ℕ) → length (number_bytes width n) ≡ width
unfolding number_bytes
number_length zero n = refl
number_length (suc width) n = omega (arith, number_length width n)

byte_is : (k n : ℕ) → byte_at k n ≡ n / 256 ^ k % 256
byte_is zero n = ap (λ x. x % 256) (sym (div-one n))
byte_is (suc k) n = refl

pow_above : (k : ℕ) → 0 < 256 ^ k
pow_above k = let one : 1 ≤ 256 ^ k = one-le-pow k 256 (omega arith) in omega arith

-- what was written of a number is its rest
low_back : (width n : ℕ) (rest : List ℕ) → number_from width (bytes_high_first width n ++ rest) ≡ n % 256 ^ width
low_back zero n rest = omega arith
low_back (suc width) n rest =
    let split : n % (256 * 256 ^ width) ≡ n / 256 ^ width % 256 * 256 ^ width + n % 256 ^ width = mod-mul n {m = 256} {c = 256 ^ width} (omega arith) (pow_above width)
    in rw (byte_is width n, low_back width n rest, pow-succ' 256 width, split) refl

pub number_back : (width n : ℕ) (rest : List ℕ) → n < 256 ^ width → number_in width (number_bytes width n ++ rest) ≡ n
unfolding number_in number_bytes
number_back width n rest small = low_back width n rest ∙ mod-eq_of_lt small

pub numbers_length : (fields : List Field) (numbers : List ℕ) → AllFit fields numbers → length (numbers_bytes fields numbers) ≡ fields_length fields
numbers_length [] [] fit = refl
numbers_length [] (n ∷ numbers) fit = absurd fit
numbers_length (field ∷ rest) [] fit = absurd fit
numbers_length (field ∷ rest) (n ∷ numbers) fit =
    omega (arith, length-append (number_bytes (width field) n) (numbers_bytes rest numbers), number_length (width field) n, numbers_length rest numbers fit.1)

pub numbers_back : (fields : List Field) (numbers behind : List ℕ) → AllFit fields numbers → numbers_in fields (numbers_bytes fields numbers ++ behind) ≡ numbers
numbers_back [] [] behind fit = refl
numbers_back [] (n ∷ numbers) behind fit = absurd fit
numbers_back (field ∷ rest) [] behind fit = absurd fit
numbers_back (field ∷ rest) (n ∷ numbers) behind fit =
    let text : List ℕ = number_bytes (width field) n
    in let later : List ℕ = numbers_bytes rest numbers ++ behind
    in let joined : (text ++ numbers_bytes rest numbers) ++ behind ≡ text ++ later = append_assoc text (numbers_bytes rest numbers) behind
    in let first : number_in (width field) ((text ++ numbers_bytes rest numbers) ++ behind) ≡ n = ap (number_in (width field)) joined ∙ number_back (width field) n later fit.0
    in let gone : drop (width field) ((text ++ numbers_bytes rest numbers) ++ behind) ≡ later =
    ap (drop (width field)) joined ∙ ap (λ k. drop k (text ++ later)) (sym (number_length (width field) n)) ∙ drop-append_seam text later
    in let others : numbers_in rest (drop (width field) ((text ++ numbers_bytes rest numbers) ++ behind)) ≡ numbers =
    ap (numbers_in rest) gone ∙ numbers_back rest numbers behind fit.1
    in cc (first, others)

pub lens_back : (lens : List ℕ) → list_all (λ len. nat_le len 2048) lens ≡ true → lens_in (lens_bytes lens) ≡ lens
unfolding two
lens_back [] small = refl
lens_back (len ∷ lens) small =
    let both : (nat_le len 2048 ≡ true) × (list_all (λ n. nat_le n 2048) lens ≡ true) = and_parts (nat_le len 2048) (list_all (λ n. nat_le n 2048) lens) small
    in let first : 256 * (len / 256 % 256) + len % 256 ≡ len = word_back len (omega (arith, leb-true len 2048 both.0))
    in cc (first, lens_back lens both.1)

flag_back : (b : Bool) → nat_eq (flag b) 1 ≡ b
flag_back false = refl
flag_back true = refl

-- an ending is in no grammar above 2, and so it says one thing at most
pub ending_small : (grammar : Grammar) (n : ℕ) → nat_le n (most_ending grammar) ≡ true → n ≤ 2
ending_small grammars.Plain n h = omega (arith, leb-true n 1 h)
ending_small grammars.Wide n h = leb-true n 2 h

ending_back : (fin more : Bool) → flag fin + (if more then 2 else 0) ≤ 2 → (nat_eq (flag fin + (if more then 2 else 0)) 1 ≡ fin) × (nat_eq (flag fin + (if more then 2 else 0)) 2 ≡ more)
ending_back false false small = (refl, refl)
ending_back false true small = (refl, refl)
ending_back true false small = (refl, refl)
ending_back true true small = absurd (omega (arith, small))

-- a body's numbers and what comes after them say that body
pub body_back : (grammar : Grammar) (boot behind : ℕ) (body : Body) → all_in_range_by grammar boot behind (fields_of (kind_of body)) (numbers_of body) ≡ true
    → list_all (λ len. nat_le len 2048) (lens_of body) ≡ true → body_in (kind_of body) (numbers_of body) (behind_of body) ≡ body
body_back grammar boot behind bodies.HelloMsg ranges small = refl
body_back grammar boot behind (bodies.SummaryMsg count) ranges small = refl
body_back grammar boot behind (bodies.ListMsg index) ranges small = refl
body_back grammar boot behind (bodies.EntryMsg index entry) ranges small = rw (flag_back entry.fin, flag_back entry.done) refl
body_back grammar boot behind (bodies.BytesMsg key offset) ranges small = refl
body_back grammar boot behind (bodies.PartMsg key offset bytes) ranges small = refl
body_back grammar boot behind (bodies.CutsMsg key first) ranges small = refl
body_back grammar boot behind (bodies.LensMsg key first lens) ranges small = ap (bodies.LensMsg key first) (lens_back lens small)
body_back grammar boot behind (bodies.OpenMsg numbers) ranges small = refl
body_back grammar boot behind (bodies.OpenedMsg numbers) ranges small = refl
body_back grammar boot behind (bodies.DataMsg part) ranges small =
    let last : nat_le (ending part) (most_ending grammar) ≡ true = (and_parts _ _ (and_parts _ _ (and_parts _ _ ranges).1).1).0
    in let back : (nat_eq (ending part) 1 ≡ part.fin) × (nat_eq (ending part) 2 ≡ part.more) = ending_back part.fin part.more (ending_small grammar (ending part) last)
    in rw (back.0, back.1) refl
body_back grammar boot behind (bodies.StableMsg kept) ranges small = rw (flag_back kept.fin) refl
body_back grammar boot behind (bodies.ReadMsg key index length) ranges small = refl
body_back grammar boot behind (bodies.ReadsMsg kept) ranges small = rw (flag_back kept.fin) refl
body_back grammar boot behind (bodies.DoneMsg key) ranges small = refl
body_back grammar boot behind (bodies.EndedMsg key) ranges small = refl
body_back grammar boot behind (bodies.StaleMsg newer) ranges small = refl
body_back grammar boot behind (bodies.FullMsg key) ranges small = refl

pub kind_back : (kind : Kind) → kind_numbered (kind_number kind) ≡ Some kind
unfolding kind_numbered
kind_back kinds.Hello = refl
kind_back kinds.Summary = refl
kind_back kinds.List = refl
kind_back kinds.Entry = refl
kind_back kinds.Bytes = refl
kind_back kinds.Part = refl
kind_back kinds.Cuts = refl
kind_back kinds.Lens = refl
kind_back kinds.Open = refl
kind_back kinds.Opened = refl
kind_back kinds.Data = refl
kind_back kinds.Stable = refl
kind_back kinds.Read = refl
kind_back kinds.Reads = refl
kind_back kinds.Done = refl
kind_back kinds.Ended = refl
kind_back kinds.Stale = refl
kind_back kinds.Full = refl

-- no message is longer than this
pub room : (kind : Kind) → behind_at kind + most_behind kind ≤ 1491
room kinds.Hello = omega arith
room kinds.Summary = omega arith
room kinds.List = omega arith
room kinds.Entry = omega arith
room kinds.Bytes = omega arith
room kinds.Part = omega arith
room kinds.Cuts = omega arith
room kinds.Lens = omega arith
room kinds.Open = omega arith
room kinds.Opened = omega arith
room kinds.Data = omega arith
room kinds.Stable = omega arith
room kinds.Read = omega arith
room kinds.Reads = omega arith
room kinds.Done = omega arith
room kinds.Ended = omega arith
room kinds.Stale = omega arith
room kinds.Full = omega arith

-- what a spelling is after its header, and after its fields
abbrev fields_part : Message → List ℕ
fields_part message = numbers_bytes (fields_of (kind_of message.body)) (numbers_of message.body)

abbrev behind_header : Message → List ℕ
behind_header message = fields_part message ++ behind_of message.body

pub spelled_length : (grammar : Grammar) (message : Message) (check : ℕ) → AllFit (fields_of (kind_of message.body)) (numbers_of message.body)
    → length (spelled grammar message check) ≡ message_length message.body
unfolding spelled header two number_bytes
spelled_length grammar message check fit =
    omega (arith, length-append (fields_part message) (behind_of message.body), numbers_length (fields_of (kind_of message.body)) (numbers_of message.body) fit)

pub behind_fields : (grammar : Grammar) (message : Message) (check : ℕ) → AllFit (fields_of (kind_of message.body)) (numbers_of message.body)
    → drop (behind_at (kind_of message.body)) (spelled grammar message check) ≡ behind_of message.body
unfolding spelled header two number_bytes
behind_fields grammar message check fit =
    sym (drop-drop (fields_length (fields_of (kind_of message.body))) 16 (spelled grammar message check))
    ∙ ap (λ n. drop n (behind_header message)) (sym (numbers_length (fields_of (kind_of message.body)) (numbers_of message.body) fit))
    ∙ drop-append_seam (fields_part message) (behind_of message.body)

pub fields_back : (grammar : Grammar) (message : Message) (check : ℕ) → AllFit (fields_of (kind_of message.body)) (numbers_of message.body)
    → numbers_in (fields_of (kind_of message.body)) (drop 16 (spelled grammar message check)) ≡ numbers_of message.body
unfolding spelled header two number_bytes
fields_back grammar message check fit = numbers_back (fields_of (kind_of message.body)) (numbers_of message.body) (behind_of message.body) fit

pub boot_back : (grammar : Grammar) (message : Message) (check : ℕ) → message.boot < 256 ^ 8 → number_in 8 (drop 8 (spelled grammar message check)) ≡ message.boot
unfolding spelled header two
boot_back grammar message check small = number_back 8 message.boot (behind_header message) small

sums : (grammar : Grammar) (message : Message) (check : ℕ) → check ≡ checksum (spelled grammar message 0) → checksum (spelled grammar message check) ≡ 0
unfolding spelled header two
sums grammar message check is = checked_in_place (take 6 (spelled grammar message 0)) (drop 8 (spelled grammar message 0)) check refl is

magic : (grammar : Grammar) (message : Message) (check : ℕ) → not (nat_eq (word_at (spelled grammar message check) 0) 18004) ≡ false
unfolding spelled header two word_at
magic grammar message check = refl

same_version : (grammar : Grammar) (message : Message) (check : ℕ) → not (nat_eq (slice_index (spelled grammar message check) 2) (version grammar)) ≡ false
unfolding spelled header two
same_version grammar message check = no_difference (version grammar) (version grammar) refl

kind : (grammar : Grammar) (message : Message) (check : ℕ) → kind_numbered (slice_index (spelled grammar message check) 3) ≡ Some (kind_of message.body)
unfolding spelled header two
kind grammar message check = kind_back (kind_of message.body)

-- a message of one of its kind's lengths is no longer than any
pub bounded : (kind : Kind) (n : ℕ) → has_length kind n ≡ true → (behind_at kind + fewest_behind kind ≤ n) × (n ≤ behind_at kind + most_behind kind)
unfolding has_length
bounded kind n is =
    let enough : nat_le (behind_at kind + fewest_behind kind) n ≡ true = (and_parts _ _ (and_parts _ _ is).0).0
    in let few : nat_le n (behind_at kind + most_behind kind) ≡ true = (and_parts _ _ (and_parts _ _ is).0).1
    in (leb-true _ _ enough, leb-true _ _ few)

whole : (grammar : Grammar) (message : Message) (check : ℕ) → message_length message.body < 2 ^ 16 → word_at (spelled grammar message check) 4 ≡ message_length message.body
unfolding spelled header two word_at
whole grammar message check small = word_back (message_length message.body) small

abbrev message_of : ℕ → Body → Message
message_of boot body = record { boot = boot; body = body }

joined : {boot : ℕ} {body : Body} {message : Message} → boot ≡ message.boot → body ≡ message.body → message_of boot body ≡ message_of message.boot message.body
joined boot body = cc

says : {grammar : Grammar} (message : Message) (check : ℕ) → IsSpellableBy grammar message → message_in (kind_of message.body) (spelled grammar message check) ≡ message
unfolding message_in is_sound_by
says {grammar} message check spellable =
    let lens : list_all (λ len. nat_le len 2048) (lens_of message.body) ≡ true = (and_parts _ _ spellable.sound).1
    in let ranges : all_in_range_by grammar message.boot (length (behind_of message.body)) (fields_of (kind_of message.body)) (numbers_of message.body) ≡ true =
    (and_parts _ _ (and_parts _ _ spellable.sound).0).1
    in let body : body_in (kind_of message.body) (numbers_in (fields_of (kind_of message.body)) (drop 16 (spelled grammar message check))) (drop (behind_at (kind_of message.body)) (spelled grammar message check)) ≡ message.body =
    ap (λ numbers. body_in (kind_of message.body) numbers (drop (behind_at (kind_of message.body)) (spelled grammar message check))) (fields_back grammar message check spellable.numbers)
    ∙ ap (body_in (kind_of message.body) (numbers_of message.body)) (behind_fields grammar message check spellable.numbers) ∙ body_back grammar message.boot (length (behind_of message.body)) message.body ranges lens
    in let boot : number_in 8 (drop 8 (spelled grammar message check)) ≡ message.boot = boot_back grammar message check spellable.boot
    in joined boot body

sound : {grammar : Grammar} (message : Message) (check : ℕ) → IsSpellableBy grammar message → is_sound_in grammar (kind_of message.body) (spelled grammar message check) ≡ true
unfolding is_sound_in
sound {grammar} message check spellable =
    rw (says {grammar = grammar} message check spellable, fields_back grammar message check spellable.numbers, behind_fields grammar message check spellable.numbers) spellable.sound

-- the tests that hold of no spelling leave what it says
passes : (grammar : Grammar) (kind : Kind) (bytes : List ℕ) → nat_lt (length bytes) 16 ≡ false → not (nat_eq (word_at bytes 0) 18004) ≡ false
    → not (nat_eq (slice_index bytes 2) (version grammar)) ≡ false → kind_numbered (slice_index bytes 3) ≡ Some kind → not (nat_eq (word_at bytes 4) (length bytes)) ≡ false
    → has_length kind (length bytes) ≡ true → not (nat_eq (checksum bytes) 0) ≡ false → is_sound_in grammar kind bytes ≡ true → reading_by grammar bytes ≡ Ok (message_in kind bytes)
unfolding reading_by reading_of
passes grammar kind bytes long magic same_version is same size sum sound = rw (long, magic, same_version, is, same, size, sum, sound) refl

spelled_is_read : (grammar : Grammar) (message : Message) (check : ℕ) → IsSpellableBy grammar message → check ≡ checksum (spelled grammar message 0) → reading_by grammar (spelled grammar message check) ≡ Ok message
spelled_is_read grammar message check spellable is =
    let long : length (spelled grammar message check) ≡ message_length message.body = spelled_length grammar message check spellable.numbers
    in let within : message_length message.body ≤ 1491 =
    omega (arith, (bounded (kind_of message.body) (message_length message.body) spellable.size).1, room (kind_of message.body))
    in passes grammar (kind_of message.body) (spelled grammar message check) (le-ltb (length (spelled grammar message check)) 16 (omega arith)) (magic grammar message check)
    (same_version grammar message check) (kind grammar message check) (no_difference _ _ (whole grammar message check (omega arith) ∙ sym long)) (ap (has_length (kind_of message.body)) long ∙ spellable.size)
    (no_difference _ _ (sums grammar message check is)) (sound {grammar = grammar} message check spellable) ∙ ap Ok (says {grammar = grammar} message check spellable)

pub message_is_read : {grammar : Grammar} (message : Message) → IsSpellableBy grammar message → reading_by grammar (spelling_by grammar message) ≡ Ok message
unfolding spelling_by
message_is_read {grammar} message spellable = spelled_is_read grammar message (checksum (spelled grammar message 0)) spellable refl
