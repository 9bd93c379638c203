-- What a server may send to a logger has 16 to 1,491 bytes, and what goes between the loggers is read as what was sent.
use Rattle.std.proofs.Common.{◌≡◌, ℕ, ◌+◌, ◌^◌, ◌<◌, ◌≤◌, Bool, true, false, not, List, length, refl, sym, ap, ◌∙◌, arith, true≢false}
use Rattle.std.specs.Prelude.{Option, None, Some, Result, Ok, Err, IsOk, nat_eq, nat_lt, nat_le, ◌||◌, slice_index, if◌then◌else◌}
use Rattle.std.proofs.lemmas.Bool.{ltb-false, not-false, le-leb, and_from}
use Rattle.ft_io.proofs.Booleans.{right_false}
use Rattle.seq_arith.specs.declared.kinds.BadMsg.{BadMsg}
use Rattle.seq_arith.specs.declared.kinds.BadMsg.TheVariants as bad
use Rattle.seq_arith.specs.declared.kinds.Grammar.{Grammar}
use Rattle.seq_arith.specs.declared.kinds.Kind.{Kind}
use Rattle.seq_arith.specs.Bytes.{word_at}
use Rattle.seq_arith.specs.Checksum.{checksum}
use Rattle.seq_arith.specs.Message.{Message, is_answer}
use Rattle.seq_arith.specs.MessageGrammar as messages
use Rattle.seq_arith.specs.TwinGrammar as twins
use Rattle.seq_arith.proofs.MessageSpelling.{bounded, room}
use Rattle.seq_arith.proofs.Refused.{proceeds}
use Rattle.seq_arith.proofs.TwinSpelling.{twin_is_read}
use Rattle.twin_laws.specs.Twin.{Request, from_other_logger, asked, forwarded_as, datagram_of, bytes_of}
use Rattle.twin_laws.specs.Twin.Between.{Forward, Got}
use Rattle.twin_laws.specs.Twin.Comes.{Reports}
use Rattle.twin_laws.specs.TwinWorld.{CanBeSent}

length_of : (grammar : Grammar) (kind : Option Kind) (bytes : List ℕ) → IsOk (messages.reading_if grammar kind bytes) → length bytes ≤ 1491
unfolding messages.reading_of
length_of grammar None bytes ok = absurd (cc)
length_of grammar (Some kind) bytes ok =
    let other : Bool = not (nat_eq (word_at bytes 4) (length bytes))
    in let last : Result Message BadMsg = if not (messages.is_sound_in grammar kind bytes) then Err bad.Field else Ok (messages.message_in kind bytes)
    in let rest : Result Message BadMsg = if not (nat_eq (checksum bytes) 0) then Err bad.Sum else last
    in let sized : other || not (messages.has_length kind (length bytes)) ≡ false = (proceeds (other || not (messages.has_length kind (length bytes))) bad.Length rest ok).0
    in let has : messages.has_length kind (length bytes) ≡ true = not-false _ (right_false other (not (messages.has_length kind (length bytes))) sized)
    in omega (arith, (bounded kind (length bytes) has).1, room kind)

pub read_fits : (grammar : Grammar) (bytes : List ℕ) → IsOk (messages.reading_by grammar bytes) → (16 ≤ length bytes) × (length bytes ≤ 1491)
unfolding messages.reading_by
read_fits grammar bytes ok =
    let short : Bool = nat_lt (length bytes) 16
    in let magic : Bool = not (nat_eq (word_at bytes 0) 18004)
    in let version : Bool = not (nat_eq (slice_index bytes 2) (messages.version grammar))
    in let last : Result Message BadMsg = messages.reading_if grammar (messages.kind_numbered (slice_index bytes 3)) bytes
    in let third : Result Message BadMsg = if version then Err bad.Version else last
    in let second : Result Message BadMsg = if magic then Err bad.Magic else third
    in let long : (short ≡ false) × IsOk second = proceeds short bad.Short second ok
    in (ltb-false (length bytes) 16 long.0, length_of grammar (messages.kind_numbered (slice_index bytes 3)) bytes (proceeds version bad.Version last (proceeds magic bad.Magic third long.1).1).1)

asking_is_read : (r : Result Message BadMsg) → twins.says_asking r ≡ true → IsOk r
asking_is_read (Ok message) is = refl
asking_is_read (Err why) is = absurd (true≢false (sym is))

pub asking_fits : (grammar : Grammar) (bytes : List ℕ) → twins.is_asking_by grammar bytes ≡ true → (16 ≤ length bytes) × (length bytes ≤ 1491)
unfolding twins.is_asking_by
asking_fits grammar bytes is = read_fits grammar bytes (asking_is_read (messages.reading_by grammar bytes) is)

-- a forwarded message has a spelling
pub forward_spells : (grammar : Grammar) (number : ℕ) (r : Request) → 1 ≤ number → number < 2 ^ 64 → twins.is_asking_by grammar r.bytes ≡ true → twins.IsSpellableBy grammar (datagram_of (Forward number r))
unfolding twins.is_sound_by twins.has_length
forward_spells grammar number r some few is =
    let long : (16 ≤ length r.bytes) × (length r.bytes ≤ 1491) = asking_fits grammar r.bytes is
    in record {
      number = few;
      sound = and_from (nat_le 1 number) (twins.is_asking_by grammar r.bytes) (le-leb 1 number some) is;
      size = and_from (nat_le 32 (16 + length r.bytes)) (nat_le (16 + length r.bytes) 1507) (le-leb 32 (16 + length r.bytes) (omega (arith, long.0))) (le-leb (16 + length r.bytes) 1507 (omega (arith, long.1)));
    }

pub got_spells : (grammar : Grammar) (number : ℕ) → 1 ≤ number → number < 2 ^ 64 → twins.IsSpellableBy grammar (datagram_of (Got number))
unfolding twins.is_sound_by twins.has_length
got_spells grammar number some few = record { number = few; sound = le-leb 1 number some; size = refl }

says : (grammar : Grammar) (number : ℕ) (r : Request) → messages.reading_by grammar r.bytes ≡ Ok r.message → forwarded_as number (asked r.bytes (messages.reading_by grammar r.bytes)) ≡ Reports (Forward number r)
says grammar number r is = ap (λ x. forwarded_as number (asked r.bytes x)) is

asks_so : (grammar : Grammar) (r : Request) → messages.reading_by grammar r.bytes ≡ Ok r.message → is_answer r.message.body ≡ false → twins.is_asking_by grammar r.bytes ≡ true
unfolding twins.is_asking_by
asks_so grammar r is asking = ap twins.says_asking is ∙ ap not asking

-- what is sent between the loggers is written
pub forward_is_sent : (grammar : Grammar) (number : ℕ) (r : Request) → messages.reading_by grammar r.bytes ≡ Ok r.message → is_answer r.message.body ≡ false → 1 ≤ number → number < 2 ^ 64 → CanBeSent grammar (Forward number r)
unfolding bytes_of
forward_is_sent grammar number r is asking some few = twin_is_read (datagram_of (Forward number r)) (forward_spells grammar number r some few (asks_so grammar r is asking))

pub got_is_sent : (grammar : Grammar) (number : ℕ) → 1 ≤ number → number < 2 ^ 64 → CanBeSent grammar (Got number)
unfolding bytes_of
got_is_sent grammar number some few = twin_is_read (datagram_of (Got number)) (got_spells grammar number some few)

pub forward_is_read : (grammar : Grammar) (number : ℕ) (r : Request) → messages.reading_by grammar r.bytes ≡ Ok r.message → is_answer r.message.body ≡ false → 1 ≤ number → number < 2 ^ 64
    → from_other_logger grammar (twins.reading_by grammar (bytes_of (Forward number r))) ≡ Reports (Forward number r)
forward_is_read grammar number r is asking some few = ap (from_other_logger grammar) (forward_is_sent grammar number r is asking some few) ∙ says grammar number r is

pub got_is_read : (grammar : Grammar) (number : ℕ) → 1 ≤ number → number < 2 ^ 64 → from_other_logger grammar (twins.reading_by grammar (bytes_of (Got number))) ≡ Reports (Got number)
got_is_read grammar number some few = ap (from_other_logger grammar) (got_is_sent grammar number some few)
