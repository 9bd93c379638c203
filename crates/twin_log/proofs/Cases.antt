-- What a logger does with what comes, where the code passes over it.
use Rattle.std.proofs.Common.{◌≡◌, ℕ, ◌≤◌, Bool, true, false, not, List, [], ◌∷◌, length, refl, ap, subst, sym, eqb-true}
use Rattle.std.specs.Prelude.{Result, Ok, Err, IsOk, nat_eq, nat_lt, nat_le, slice_index, if◌then◌else◌}
use Rattle.std.proofs.lemmas.Bool.{leb-true, not-false, and_parts, and_from}
use Rattle.ft_io.proofs.Choices.{if_true, holds_either_way}
use Rattle.seq_arith.specs.declared.twin.BadTwin.{BadTwin}
use Rattle.seq_arith.specs.declared.twin.TwinKind.TheVariants as kinds
use Rattle.seq_arith.specs.Bytes.{word_at}
use Rattle.seq_arith.specs.declared.kinds.BadMsg.{BadMsg}
use Rattle.seq_arith.specs.declared.kinds.BadMsg.TheVariants as bad
use Rattle.seq_arith.specs.declared.kinds.Grammar.{Grammar}
use Rattle.seq_arith.specs.declared.kinds.Grammar.TheVariants as grammars
use Rattle.seq_arith.specs.Message.{Message}
use Rattle.seq_arith.specs.MessageGrammar as messages
use Rattle.seq_arith.proofs.Refused.{proceeds}
use Rattle.seq_arith.specs.TwinGrammar.{is_asking_by, is_sound_by}
use Rattle.seq_arith.specs.TwinDatagram.{TwinDatagram}
use Rattle.seq_arith.specs.TwinDatagram.{TwinDatagram as datagrams}
use Rattle.twin_laws.specs.declared.part.Part.{Part}
use Rattle.twin_laws.specs.declared.part.Part.TheVariants as parts
use Rattle.twin_laws.specs.Twin.{Request, Comes, is_wide, is_among, from_other_logger, asked, forwarded_as}
use Rattle.twin_laws.specs.Twin.Comes.{Asks, Reports, Is_noise}
use Rattle.twin_laws.specs.declared.part.Side.TheVariants as sides
use Rattle.twin_laws.specs.StoredState.{Kept, KeptDoes, kept_alone_does, paired_does, does_of, kept_does, sends_nothing, forwards_once, forwards_sent, keeps_too, kept_takes, sends_kept}

-- one of a pair passes over noise
pub noise_in_pair : (part : Part) (kept : Kept) → paired_does part Is_noise kept ≡ sends_nothing kept
noise_in_pair parts.Head kept = refl
noise_in_pair parts.Tail kept = refl

-- so does each logger
noise_passes : (kept : Kept) → does_of Is_noise kept ≡ sends_nothing kept
noise_passes kept = by kept.alone
  where
    by : (alone : Bool) → (if alone then kept_alone_does Is_noise kept else paired_does kept.part Is_noise kept) ≡ sends_nothing kept
    by true = refl
    by false = noise_in_pair kept.part kept

-- bytes of the version of wide messages
abbrev wide_hello : List ℕ
wide_hello = 70 ∷ 84 ∷ 2 ∷ 1 ∷ 0 ∷ 16 ∷ 183 ∷ 153 ∷ 0 ∷ 0 ∷ 0 ∷ 0 ∷ 0 ∷ 0 ∷ 0 ∷ 1 ∷ []

pub wide_is_noise : (kept : Kept) → kept.grammar ≡ grammars.Plain → kept_does sides.Server wide_hello kept ≡ sends_nothing kept
unfolding kept_does messages.reading_by word_at
wide_is_noise kept plain =
    subst (λ grammar. does_of (asked wide_hello (messages.reading_by grammar wide_hello)) kept ≡ sends_nothing kept) (sym plain) (noise_passes kept)

forwarded_alone : (number : ℕ) (comes : Comes) (kept : Kept) → kept_alone_does (forwarded_as number comes) kept ≡ sends_nothing kept
forwarded_alone number (Asks request) kept = refl
forwarded_alone number (Reports between) kept = refl
forwarded_alone number Is_noise kept = refl

-- a logger that is alone passes over all that the other sent
pub reported_alone : (grammar : Grammar) (r : Result TwinDatagram BadTwin) (kept : Kept) → kept_alone_does (from_other_logger grammar r) kept ≡ sends_nothing kept
reported_alone grammar (Ok (datagrams.Forward number bytes)) kept = forwarded_alone number (asked bytes (messages.reading_by grammar bytes)) kept
reported_alone grammar (Ok (datagrams.Got number)) kept = refl
reported_alone grammar (Ok datagrams.Alone) kept = refl
reported_alone grammar (Err why) kept = refl

-- the number of what is read as a Forward
pub some_number : (grammar : Grammar) (number : ℕ) (message : List ℕ) → is_sound_by grammar kinds.Forward number message ≡ true → 1 ≤ number
unfolding is_sound_by
some_number grammar number message sound = leb-true 1 number (and_parts (nat_le 1 number) (is_asking_by grammar message) sound).0

-- the version of bytes that are a message of a grammar
version_read : (grammar : Grammar) (bytes : List ℕ) → IsOk (messages.reading_by grammar bytes) → nat_eq (slice_index bytes 2) (messages.version grammar) ≡ true
unfolding messages.reading_by
version_read grammar bytes ok =
    let short : Bool = nat_lt (length bytes) 16
    in let magic : Bool = not (nat_eq (word_at bytes 0) 18004)
    in let other : Bool = not (nat_eq (slice_index bytes 2) (messages.version grammar))
    in let last : Result Message BadMsg = messages.reading_if grammar (messages.kind_numbered (slice_index bytes 3)) bytes
    in let third : Result Message BadMsg = if other then Err bad.Version else last
    in let second : Result Message BadMsg = if magic then Err bad.Magic else third
    in not-false _ (proceeds other bad.Version last (proceeds magic bad.Magic third (proceeds short bad.Short second ok).1).1).0

pub plain_version : (bytes : List ℕ) → IsOk (messages.reading_by grammars.Plain bytes) → is_wide bytes ≡ false
plain_version bytes ok = ap (λ n. nat_eq n 2) (eqb-true (slice_index bytes 2) 1 (version_read grammars.Plain bytes ok))

pub wide_version : (bytes : List ℕ) → IsOk (messages.reading_by grammars.Wide bytes) → is_wide bytes ≡ true
wide_version bytes ok = version_read grammars.Wide bytes ok

-- a message that is taken waits, whatever is forwarded
pub takes_keeps : (request : Request) (kept : Kept) → (kept_takes request kept).next ≡ keeps_too request kept
takes_keeps request kept = holds_either_way (λ (d : KeptDoes). d.next ≡ keeps_too request kept) (forwards_once request.bytes kept) _ (sends_kept (keeps_too request kept)) refl refl

-- a new wide message is forwarded alone
pub forwarded_alone_so : (request : Request) (kept : Kept) → kept.grammar ≡ grammars.Wide → messages.reading_by kept.grammar request.bytes ≡ Ok request.message
    → is_among request.bytes kept.waiting ≡ false → (kept_takes request kept).sent ≡ forwards_sent kept.number (request.bytes ∷ [])
forwarded_alone_so request kept wide read new =
    let ok : IsOk (messages.reading_by grammars.Wide request.bytes) = subst (λ g. IsOk (messages.reading_by g request.bytes)) wide (subst IsOk (sym read) refl)
    in let once : forwards_once request.bytes kept ≡ true =
    and_from (is_wide request.bytes) (not (is_among request.bytes kept.waiting)) (wide_version request.bytes ok) (ap not new)
    in ap (λ (d : KeptDoes). d.sent) (if_true (forwards_once request.bytes kept) _ (sends_kept (keeps_too request kept)) once)
