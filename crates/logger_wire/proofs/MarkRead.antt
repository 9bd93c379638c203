-- What is read at constant places is what the grammar reads field by field, and it may be sent.
use Rattle.std.proofs.Common.{◌≡◌, ◌∙◌, ℕ, ◌<◌, ◌^◌, Bool, true, false, not, List, [], ◌∷◌, length, drop, sym, ap, refl, subst, ap₂, arith, length-drop}
use Rattle.std.specs.Prelude.{Ok, Err, if◌then◌else◌}
use Rattle.ft_io.specs.declared.Key.{Key}
use Rattle.seq_arith.specs.declared.mark.BadMark.TheVariants as bad
use Rattle.seq_arith.specs.declared.mark.MarkKind.{MarkKind}
use Rattle.seq_arith.specs.declared.mark.MarkKind.TheVariants as kinds
use Rattle.seq_arith.specs.Bytes.{word_at}
use Rattle.seq_arith.specs.Checksum.{checksum}
use Rattle.seq_arith.specs.Mark.{Mark, MarkBody}
use Rattle.seq_arith.specs.Mark.{MarkBody as bodies}
use Rattle.seq_arith.specs.MessageGrammar.{number_in, numbers_in, key_at, AllFit}
use Rattle.seq_arith.specs.MarkGrammar.{marking, fields_of, behind_at, has_length, kind_of, numbers_of, behind_of, mark_in, body_in, message_in, message_length, is_sound, is_sound_in, reading_of, IsSpellable}
use Rattle.seq_arith.proofs.Passing.{no_difference}
use Rattle.logger_wire.specs.Places.{number_at}
use Rattle.logger_wire.proofs.Placed.{numbers_placed}
use Rattle.logger_wire.proofs.NumbersRead.{AreBytes, bytes_left}
use Rattle.logger_wire.proofs.Sendable.{read_fit}

-- the numbers of a mark, and the first of them
abbrev marking_at : List ℕ → List ℕ
marking_at bytes =
    number_in 4 (drop 16 bytes) ∷ number_in 2 (drop 20 bytes) ∷ number_in 4 (drop 22 bytes) ∷ number_in 4 (drop 26 bytes) ∷ number_in 4 (drop 30 bytes) ∷ []

marking_placed : (bytes : List ℕ) → numbers_in marking (drop 16 bytes) ≡ marking_at bytes
unfolding number_at
marking_placed bytes = numbers_placed marking 16 bytes

-- what a message of a kind says after its header
abbrev said_in : MarkKind → List ℕ → MarkBody
said_in kind bytes = body_in kind (numbers_in (fields_of kind) (drop 16 bytes)) (drop (behind_at kind) bytes)

abbrev mark_of : (reads length_ made : ℕ) → List ℕ → Mark
mark_of reads length_ made state = record { reads = reads; length = length_; made = made; state = state }

-- a mark whose numbers are read one by one
pub mark_read : (bytes : List ℕ) (reads length_ made : ℕ) (state : List ℕ) → reads ≡ number_in 4 (drop 22 bytes) → length_ ≡ number_in 4 (drop 26 bytes)
    → made ≡ number_in 4 (drop 30 bytes) → state ≡ drop 34 bytes → mark_of reads length_ made state ≡ mark_in (numbers_in marking (drop 16 bytes)) (drop 34 bytes)
mark_read bytes reads length_ made state reads_is length_is made_is state_is =
    let there : mark_of reads length_ made state ≡ mark_in (marking_at bytes) (drop 34 bytes) = rw (reads_is, length_is, made_is, state_is) refl in
    there ∙ ap (λ numbers. mark_in numbers (drop 34 bytes)) (sym (marking_placed bytes))

-- a body that begins as a mark does
marking_said : (body : Key → Mark → MarkBody) (bytes : List ℕ) (key : Key) (mark : Mark) → key.ip ≡ number_in 4 (drop 16 bytes)
    → key.port ≡ number_in 2 (drop 20 bytes) → mark ≡ mark_in (numbers_in marking (drop 16 bytes)) (drop 34 bytes)
    → body key mark ≡ body (key_at (numbers_in marking (drop 16 bytes)) 0) (mark_in (numbers_in marking (drop 16 bytes)) (drop 34 bytes))
marking_said body bytes key mark ip port mark_is =
    let there : body key mark ≡ body (key_at (marking_at bytes) 0) mark = ap₂ (λ ip port. body (record { ip = ip; port = port }) mark) ip port in
    there ∙ ap (λ numbers. body (key_at numbers 0) mark) (sym (marking_placed bytes)) ∙ ap (body (key_at (numbers_in marking (drop 16 bytes)) 0)) mark_is

pub mark_is_said : (kind : MarkKind) (bytes : List ℕ) (key : Key) (mark : Mark) → kind ≡ kinds.Mark → key.ip ≡ number_in 4 (drop 16 bytes)
    → key.port ≡ number_in 2 (drop 20 bytes) → mark ≡ mark_in (numbers_in marking (drop 16 bytes)) (drop 34 bytes) → bodies.MarkMsg key mark ≡ said_in kind bytes
mark_is_said kind bytes key mark is ip port mark_is = marking_said bodies.MarkMsg bytes key mark ip port mark_is ∙ ap (λ k. said_in k bytes) (sym is)

pub held_is_said : (kind : MarkKind) (bytes : List ℕ) (key : Key) (mark : Mark) → kind ≡ kinds.Held → key.ip ≡ number_in 4 (drop 16 bytes)
    → key.port ≡ number_in 2 (drop 20 bytes) → mark ≡ mark_in (numbers_in marking (drop 16 bytes)) (drop 34 bytes) → bodies.HeldMsg key mark ≡ said_in kind bytes
held_is_said kind bytes key mark is ip port mark_is = marking_said bodies.HeldMsg bytes key mark ip port mark_is ∙ ap (λ k. said_in k bytes) (sym is)

same_sound : (kind : MarkKind) (boot : ℕ) (bytes : List ℕ)
    → is_sound (kind_of (said_in kind bytes)) boot (length (behind_of (said_in kind bytes))) (numbers_of (said_in kind bytes))
    ≡ is_sound kind boot (length (drop (behind_at kind) bytes)) (numbers_in (fields_of kind) (drop 16 bytes))
unfolding is_sound
same_sound kinds.Mark boot bytes = refl
same_sound kinds.Marked boot bytes = refl
same_sound kinds.Ask boot bytes = refl
same_sound kinds.Held boot bytes = refl

-- the test of what a message of a kind says, in the grammar's words
sound_is : (kind : MarkKind) (bytes : List ℕ) (boot : ℕ) (body : MarkBody) (sound : Bool) → boot ≡ number_in 8 (drop 8 bytes) → body ≡ said_in kind bytes
    → is_sound (kind_of body) boot (length (behind_of body)) (numbers_of body) ≡ sound → is_sound_in kind bytes ≡ sound
unfolding is_sound_in
sound_is kind bytes boot body sound boot_is body_is is =
    sym (same_sound kind (number_in 8 (drop 8 bytes)) bytes) ∙ ap₂ (λ n b. is_sound (kind_of b) n (length (behind_of b)) (numbers_of b)) (sym boot_is) (sym body_is) ∙ is

turned : {X : Type 0} (b : Bool) (x y : X) → (if not b then y else x) ≡ (if b then x else y)
turned true x y = refl
turned false x y = refl

-- what comes of a message of a kind whose length and sum are right
tested : (kind : MarkKind) (bytes : List ℕ) → word_at bytes 4 ≡ length bytes → has_length kind (length bytes) ≡ true → checksum bytes ≡ 0
    → reading_of kind bytes ≡ (if is_sound_in kind bytes then Ok (message_in kind bytes) else Err bad.Field)
unfolding reading_of
tested kind bytes datagram_of size sum =
    rw (no_difference _ _ datagram_of, size, no_difference _ _ sum) (turned (is_sound_in kind bytes) (Ok (message_in kind bytes)) (Err bad.Field))

pub is_refused : (kind : MarkKind) (bytes : List ℕ) (boot : ℕ) (body : MarkBody) → word_at bytes 4 ≡ length bytes → has_length kind (length bytes) ≡ true → checksum bytes ≡ 0
    → boot ≡ number_in 8 (drop 8 bytes) → body ≡ said_in kind bytes → is_sound (kind_of body) boot (length (behind_of body)) (numbers_of body) ≡ false
    → Err bad.Field ≡ reading_of kind bytes
is_refused kind bytes boot body datagram_of size sum boot_is body_is is =
    sym (tested kind bytes datagram_of size sum ∙ ap (λ b. if b then Ok (message_in kind bytes) else Err bad.Field) (sound_is kind bytes boot body false boot_is body_is is))

pub is_read : (kind : MarkKind) (bytes : List ℕ) (boot : ℕ) (body : MarkBody) → word_at bytes 4 ≡ length bytes → has_length kind (length bytes) ≡ true → checksum bytes ≡ 0
    → boot ≡ number_in 8 (drop 8 bytes) → body ≡ said_in kind bytes → is_sound (kind_of body) boot (length (behind_of body)) (numbers_of body) ≡ true
    → Ok (record { boot = boot; body = body }) ≡ reading_of kind bytes
unfolding message_in
is_read kind bytes boot body datagram_of size sum boot_is body_is is =
    sym (tested kind bytes datagram_of size sum ∙ ap (λ b. if b then Ok (message_in kind bytes) else Err bad.Field) (sound_is kind bytes boot body true boot_is body_is is)
    ∙ ap₂ (λ n b. Ok (record { boot = n; body = b })) (sym boot_is) (sym body_is))

fit : (kind : MarkKind) (bytes : List ℕ) → AreBytes bytes → AllFit (fields_of (kind_of (said_in kind bytes))) (numbers_of (said_in kind bytes))
fit kinds.Mark bytes are = read_fit marking (drop 16 bytes) (bytes_left 16 bytes are)
fit kinds.Marked bytes are = read_fit (fields_of kinds.Marked) (drop 16 bytes) (bytes_left 16 bytes are)
fit kinds.Ask bytes are = read_fit (fields_of kinds.Ask) (drop 16 bytes) (bytes_left 16 bytes are)
fit kinds.Held bytes are = read_fit marking (drop 16 bytes) (bytes_left 16 bytes are)

sized : (kind : MarkKind) (bytes : List ℕ) → has_length kind (length bytes) ≡ true → has_length (kind_of (said_in kind bytes)) (message_length (said_in kind bytes)) ≡ true
unfolding has_length
sized kinds.Mark bytes size = let left = length-drop 34 bytes in grind arith
sized kinds.Marked bytes size = refl
sized kinds.Ask bytes size = refl
sized kinds.Held bytes size = let left = length-drop 34 bytes in grind arith

-- and it may be sent
pub is_sendable : (kind : MarkKind) (bytes : List ℕ) (boot : ℕ) (body : MarkBody) → AreBytes bytes → has_length kind (length bytes) ≡ true → boot < 2 ^ 64
    → body ≡ said_in kind bytes → is_sound (kind_of body) boot (length (behind_of body)) (numbers_of body) ≡ true → IsSpellable (record { boot = boot; body = body })
is_sendable kind bytes boot body are size small body_is is = record {
  boot = small;
  numbers = subst (λ b. AllFit (fields_of (kind_of b)) (numbers_of b)) (sym body_is) (fit kind bytes are);
  sound = is;
  size = subst (λ b. has_length (kind_of b) (message_length b) ≡ true) (sym body_is) (sized kind bytes size);
}
