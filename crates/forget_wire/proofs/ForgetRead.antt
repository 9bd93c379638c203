-- What is read at constant places is what the grammar reads field by field, and it may be sent.
use Rattle.std.proofs.Common.{◌≡◌, ℕ, ◌<◌, ◌≤◌, ◌^◌, false, List, length, drop, sym, ap, subst, refl}
use Rattle.std.specs.Prelude.{Ok, nat_lt}
use Rattle.seq_arith.specs.Bytes.{word_at}
use Rattle.seq_arith.specs.Checksum.{checksum}
use Rattle.seq_arith.specs.MessageGrammar.{number_in, numbers_in, AllFit}
use Rattle.seq_arith.proofs.Passing.{no_difference}
use Rattle.logger_wire.specs.Places.{number_at}
use Rattle.logger_wire.proofs.Placed.{numbers_placed}
use Rattle.logger_wire.proofs.NumbersRead.{AreBytes, bytes_left}
use Rattle.logger_wire.proofs.Sendable.{read_fit}
use Rattle.long_laws.specs.Forgetting.{Named, ForgetBody, ForgetMessage, named_of}
use Rattle.long_laws.specs.ForgetGrammar.{ForgetKind, naming, named_in, numbers_of, body_in, boot_in, message_in, reading_of, IsSpellable}
use Rattle.long_laws.specs.ForgetGrammar.ForgetKind.{Forget, Forgotten}

abbrev named_with : (ip port cisn sisn : ℕ) → Named
named_with ip port cisn sisn = record { key = record { ip = ip; port = port }; cisn = cisn; sisn = sisn }

-- the connection whose numbers are read one by one
pub named_read : (bytes : List ℕ) (ip port cisn sisn : ℕ) → ip ≡ number_in 4 (drop 16 bytes) → port ≡ number_in 2 (drop 20 bytes) → cisn ≡ number_in 4 (drop 22 bytes)
    → sisn ≡ number_in 4 (drop 26 bytes) → named_with ip port cisn sisn ≡ named_in (numbers_in naming (drop 16 bytes))
unfolding number_at
named_read bytes ip port cisn sisn ip_is port_is cisn_is sisn_is =
    rw (ip_is, port_is, cisn_is, sisn_is) (sym (ap named_in (numbers_placed naming 16 bytes)))

abbrev message_with : ℕ → ForgetBody → ForgetMessage
message_with boot body = record { boot = boot; body = body }

abbrev said_in : ForgetKind → List ℕ → ForgetBody
said_in kind bytes = body_in kind (named_in (numbers_in naming (drop 16 bytes)))

-- a message that passes the tests
pub is_read : (kind : ForgetKind) (bytes : List ℕ) (boot : ℕ) (body : ForgetBody) → word_at bytes 4 ≡ length bytes → length bytes ≡ 30 → checksum bytes ≡ 0
    → boot ≡ number_in 8 (drop 8 bytes) → nat_lt boot 1 ≡ false → body ≡ said_in kind bytes → Ok (message_with boot body) ≡ reading_of kind bytes
unfolding reading_of message_in boot_in
is_read kind bytes boot body says size sum boot_is begun body_is =
    let first : nat_lt (number_in 8 (drop 8 bytes)) 1 ≡ false = subst (λ n. nat_lt n 1 ≡ false) boot_is begun in
    rw (no_difference _ _ says, no_difference _ _ size, no_difference _ _ sum, first, boot_is, body_is) refl

-- what it names fits its fields
fit : (kind : ForgetKind) (bytes : List ℕ) → AreBytes bytes → AllFit naming (numbers_of (named_of (said_in kind bytes)))
fit Forget bytes are = read_fit naming (drop 16 bytes) (bytes_left 16 bytes are)
fit Forgotten bytes are = read_fit naming (drop 16 bytes) (bytes_left 16 bytes are)

-- and it may be sent
pub is_sendable : (kind : ForgetKind) (bytes : List ℕ) (boot : ℕ) (body : ForgetBody) → AreBytes bytes → boot < 2 ^ 64 → 1 ≤ boot → body ≡ said_in kind bytes
    → IsSpellable (message_with boot body)
is_sendable kind bytes boot body are small begun body_is = record {
  boot = small;
  begun = begun;
  numbers = subst (λ b. AllFit naming (numbers_of (named_of b))) (sym body_is) (fit kind bytes are);
}
