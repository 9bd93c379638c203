-- The first message of a journal, and its grammar.
use Rattle.std.proofs.Common.{◌≡◌, ◌∙◌, ◌⊎◌, inl, inr, ℕ, ◌+◌, ◌-◌, ◌<◌, ◌≤◌, Option, Some, Result, Ok, Err, List, [], ◌++◌, length, take, drop, refl, sym, ap, subst, arith, append_assoc, append-nil, length-append, length-drop}
use Rattle.std.specs.Io.KnownBytes.{IsAtEnd}
use Rattle.std.proofs.lemmas.Bool.{cases_lt}
use Rattle.std.proofs.lemmas.List.{take_at, drop_at, take-append-drop, drop-append-le, take-append-le}
use Rattle.seq_arith.specs.Bytes.{word_at}
use Rattle.seq_arith.specs.declared.kinds.BadMsg.{BadMsg}
use Rattle.seq_arith.specs.declared.kinds.BadMsg.TheVariants as bad
use Rattle.seq_arith.specs.declared.kinds.Grammar.{Grammar}
use Rattle.seq_arith.specs.Message.{Message}
use Rattle.seq_arith.specs.MessageGrammar.{reading_by}
use Rattle.seq_arith.proofs.Refused.{no_grammar_reads_the_other}
use Rattle.ft_model.specs.Log.{Log}
use Rattle.kept_log.specs.Format.{header, seal, block, first_tip, IsRound, BeginsNone}
use Rattle.kept_log.specs.declared.tip.Tip.{Tip}
use Rattle.kept_log.specs.declared.block.Start.TheVariants as starts
use Rattle.kept_log.specs.declared.header.Begin.TheVariants as begins
use Rattle.kept_log.specs.declared.reading.Found.{Found}
use Rattle.kept_log.specs.declared.reading.Found.TheVariants as finds
use Rattle.forget_store.specs.AnyMessage.AnyMessage.{Usual}
use Rattle.kept_log.specs.MessageList.{IsSpelling}
use Rattle.kept_log.specs.Startup.{IsOtherwise, BeginsOtherwise, IsOfOther, HasGrammar, HasOtherGrammar}
use Rattle.kept_log.specs.ReadSteps.{HasBegin, StartsWith, FindsBehind, FindsIn}
use Rattle.kept_log.proofs.Blocks.{salt_long, header_long, block_once, parts_of}
use Rattle.kept_log.proofs.Files.{none_left}
use Rattle.kept_log.proofs.Messages.{IsFirst, first_is}
use Rattle.kept_log.proofs.OneReading.{header_once}
use Rattle.kept_log.proofs.Whole.{HasFirst, whole_is}

spelling_of : (grammar : Grammar) (bytes : List ℕ) → (o : IsOtherwise grammar bytes) → IsSpelling o.first o.message
spelling_of grammar bytes o = record { grammar = o.other; reads = o.reads }

first_of : (grammar : Grammar) (bytes : List ℕ) → (o : IsOtherwise grammar bytes) → IsFirst bytes o.first
first_of grammar bytes o = first_is bytes o.first o.rest (Usual o.message) o.is (spelling_of grammar bytes o)

-- what is too short for its first message has none
pub none_short : (grammar : Grammar) (bytes : List ℕ) → (length bytes < 6) ⊎ (length bytes < word_at bytes 4) → IsOtherwise grammar bytes → ⊥
none_short grammar bytes short o =
    let f = first_of grammar bytes o in
    elim short as (λ _. ⊥) [
      | inl few ↦ omega (arith, few, f.long, f.within)
      | inr more ↦ omega (arith, more, f.within, f.length_is)
    ]

first_there : (grammar : Grammar) (bytes : List ℕ) (n : ℕ) → n ≡ word_at bytes 4 → (o : IsOtherwise grammar bytes) → take n bytes ≡ o.first
first_there grammar bytes n at o = ap (take n) o.is ∙ take_at o.first o.rest n ((first_of grammar bytes o).length_is ∙ sym at)

pub none_read : (grammar : Grammar) (bytes : List ℕ) (n : ℕ) → n ≡ word_at bytes 4 → ((message : Message) → IsSpelling (take n bytes) message → ⊥) → IsOtherwise grammar bytes → ⊥
none_read grammar bytes n at none o =
    none o.message (subst (λ b. IsSpelling b o.message) (sym (first_there grammar bytes n at o)) (spelling_of grammar bytes o))

pub read_otherwise : (grammar found : Grammar) (bytes : List ℕ) (n : ℕ) (message : Message) → reading_by found (take n bytes) ≡ Ok message → (found ≡ grammar → ⊥) → IsOtherwise grammar bytes
read_otherwise grammar found bytes n message reads two = record {
  other = found;
  first = take n bytes;
  rest = drop n bytes;
  message = message;
  is = sym (take-append-drop n bytes);
  reads = reads;
  differs = two;
}

-- bytes are a message of one grammar only
pub read_same : (grammar found : Grammar) (bytes : List ℕ) (n : ℕ) (message : Message) → n ≡ word_at bytes 4 → reading_by found (take n bytes) ≡ Ok message → found ≡ grammar
    → IsOtherwise grammar bytes → ⊥
read_same grammar found bytes n message at reads same o =
    let also : reading_by o.other (take n bytes) ≡ Ok o.message = ap (reading_by o.other) (first_there grammar bytes n at o) ∙ o.reads in
    let apart : found ≡ o.other → ⊥ = λ e. o.differs (sym e ∙ same) in
    err_ok bad.Version o.message (sym (no_grammar_reads_the_other found o.other (take n bytes) message reads apart) ∙ also)
  where
    err_ok : (b : BadMsg) (m : Message) → Err b ≡ Ok m → ⊥
    err_ok b m e = cc

-- the first block of a journal
pub block_otherwise : (grammar : Grammar) (made bytes : List ℕ) (n : ℕ) (digest : List ℕ) → StartsWith (first_tip made) bytes (starts.Block n digest)
    → IsOtherwise grammar (take n (drop 44 bytes)) → (more : List ℕ) → BeginsOtherwise grammar made (bytes ++ more)
block_otherwise grammar made bytes n digest (body, rest, is, long, few, sealed) o more =
    let p = parts_of (first_tip made) bytes body rest (salt_long made) (omega (arith, long, few)) is in
    let there : take n (drop 44 bytes) ≡ body = ap (λ k. take k (drop 44 bytes)) (sym long) ∙ p.body_is in
    record {
      body = body;
      rest = rest ++ more;
      small = omega (arith, long, few);
      is = ap (λ (l : List ℕ). l ++ more) is ∙ append_assoc (block (first_tip made) body) rest more;
      otherwise = subst (IsOtherwise grammar) there o;
    }

pub block_same : (grammar : Grammar) (made bytes : List ℕ) (n : ℕ) (digest : List ℕ) → StartsWith (first_tip made) bytes (starts.Block n digest)
    → (IsOtherwise grammar (take n (drop 44 bytes)) → ⊥) → (more : List ℕ) → BeginsOtherwise grammar made (bytes ++ more) → ⊥
block_same grammar made bytes n digest (body, rest, is, long, few, sealed) none more o =
    let small : IsRound body = omega (arith, long, few) in
    let p = parts_of (first_tip made) bytes body rest (salt_long made) small is in
    let there : take n (drop 44 bytes) ≡ body = ap (λ k. take k (drop 44 bytes)) (sym long) ∙ p.body_is in
    let all : block (first_tip made) body ++ (rest ++ more) ≡ block (first_tip made) o.body ++ o.rest =
    sym (append_assoc (block (first_tip made) body) rest more) ∙ (ap (λ (l : List ℕ). l ++ more) (sym is) ∙ o.is) in
    let once = block_once (first_tip made) body o.body (rest ++ more) o.rest (salt_long made) small o.small all in
    none (subst (IsOtherwise grammar) (sym (there ∙ once.0)) o.otherwise)

pub no_block_same : (grammar : Grammar) (made bytes : List ℕ) → ((more : List ℕ) → BeginsNone (first_tip made) (bytes ++ more)) → (more : List ℕ)
    → BeginsOtherwise grammar made (bytes ++ more) → ⊥
no_block_same grammar made bytes none more o = none more o.body o.rest o.small o.is

-- bytes that begin with no block, if nothing is missing or they are longer than each block
pub short_same : (grammar : Grammar) (made bytes : List ℕ) → BeginsNone (first_tip made) bytes → (more : List ℕ) → (381740 ≤ length bytes) ⊎ (more ≡ [])
    → BeginsOtherwise grammar made (bytes ++ more) → ⊥
short_same grammar made bytes none more all o =
    let tip : Tip = first_tip made in
    let long : length (block tip o.body) ≤ 381740 = block_few in
    elim all as (λ _. ⊥) [
      | inl enough ↦
          let n : ℕ = length (block tip o.body) in
          let front : take n bytes ≡ block tip o.body =
          sym (take-append-le n bytes more (omega (arith, enough, long))) ∙ (ap (take n) o.is ∙ take_at (block tip o.body) o.rest n refl) in
          none o.body (drop n bytes) o.small (sym (take-append-drop n bytes) ∙ ap (λ (l : List ℕ). l ++ drop n bytes) front)
      | inr nothing ↦ none o.body o.rest o.small (sym (append-nil bytes) ∙ (ap (λ (l : List ℕ). bytes ++ l) (sym nothing) ∙ o.is))
    ]
  where
    block_few : length (block (first_tip made) o.body) ≤ 381740
    block_few =
        let p = parts_of (first_tip made) (block (first_tip made) o.body ++ []) o.body [] (salt_long made) o.small refl in
        omega (arith, p.long, o.small, ap length (append-nil (block (first_tip made) o.body)))

-- what comes after the header, and the file
behind_header : (old new : Option (List ℕ)) (made window file : List ℕ) → HasFirst old new window → HasBegin window (begins.Whole made) → old ≡ Some file
    → (left : List ℕ) × (new ≡ Some left) × (file ≡ header made ++ (drop 32 window ++ left))
behind_header old new made window file has (time, (rest, is)) known =
    let whole = whole_is old new window file has known in
    let dropped : drop 32 window ≡ rest = ap (drop 32) is ∙ drop_at (header made) rest 32 (header_long made time) in (
      whole.0,
      whole.1,
      whole.2
          ∙ (ap (λ (l : List ℕ). l ++ whole.0) (is ∙ ap (λ (l : List ℕ). header made ++ l) (sym dropped)) ∙ append_assoc (header made) (drop 32 window) whole.0),
    )

pub found_other : (grammar : Grammar) (old new : Option (List ℕ)) (made window : List ℕ) → HasFirst old new window → HasBegin window (begins.Whole made)
    → ((more : List ℕ) → BeginsOtherwise grammar made (drop 32 window ++ more)) → FindsIn grammar old finds.OtherGrammar
found_other grammar old new made window has begin other = λ file known.
    let behind = behind_header old new made window file has begin known in
    record { made = made; rest = drop 32 window ++ behind.0; time = begin.0; is = behind.2; begins = other behind.0 }

pub found_same : (grammar : Grammar) (old new : Option (List ℕ)) (made window : List ℕ) (log : Log) → HasFirst old new window → HasBegin window (begins.Whole made)
    → (length window ≤ 381772 → IsAtEnd new)
    → ((more : List ℕ) → (381740 ≤ length (drop 32 window)) ⊎ (more ≡ []) → BeginsOtherwise grammar made (drop 32 window ++ more) → ⊥)
    → (found : Found) → FindsBehind made (drop 32 window) new log found → FindsIn grammar old found
found_same grammar old new made window log has begin end same (finds.Whole tip tail) behind = λ file known other.
    let after = behind_header old new made window file has begin known in
    let once = header_once made other.made (drop 32 window ++ after.0) other.rest begin.0 other.time (sym after.2 ∙ other.is) in
    let all : (381740 ≤ length (drop 32 window)) ⊎ (after.0 ≡ []) =
    elim (cases_lt 381772 (length window)) [
      | inl longer ↦ inl (omega (arith, longer, length-drop 32 window))
      | inr few ↦ inr (none_left new after.0 (end few) after.1)
    ] in
    same after.0 all (subst (λ (b : List ℕ). BeginsOtherwise grammar made b) (sym once.1) (subst (λ (m : List ℕ). BeginsOtherwise grammar m other.rest) (sym once.0) other.begins))
found_same grammar old new made window log has begin end same (finds.Wrong at) behind = tt
found_same grammar old new made window log has begin end same finds.Empty behind = tt
found_same grammar old new made window log has begin end same finds.Unfinished behind = tt
found_same grammar old new made window log has begin end same finds.Older behind = tt
found_same grammar old new made window log has begin end same finds.OtherGrammar never = absurd never
