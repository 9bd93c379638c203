-- The counts of an entry go on to hang together.
use Rattle.std.proofs.Common.{◌≡◌, ◌⊎◌, ℕ, ◌+◌, ◌^◌, ◌<◌, ◌≤◌, ◌/◌, ◌==◌, ◌&&◌, ◌∙◌, true, false, None, nat_le, List, [], ◌∷◌, ◌++◌, length, sum, refl, ap, sym, arith, length-append, inl, inr, ⊎_elim, if◌then◌else◌}
use Rattle.std.specs.List.{AllByRecursion}
use Rattle.std.proofs.lemmas.Bool.{and_parts}
use Rattle.seq_arith.specs.Mark.{Mark}
use Rattle.seq_arith.specs.Message.{EntryHead}
use Rattle.mark_laws.specs.Restart.{lies_within}
use Rattle.reincarnate.specs.Marking.{begun_at}
use Rattle.server_trait.specs.Service.{Served}
use Rattle.ft_model.proofs.Services.{sum_more}
use Rattle.log_replay.specs.declared.cuts.Cuts.{Cuts}
use Rattle.seq_arith.specs.MessageGrammar.{lens_in}
use Rattle.ft_io.specs.declared.Key.{Key}
use Rattle.ft_io.specs.Key.{key_eq}
use Rattle.seq_arith.proofs.Texts.{lens_in_length}
use Rattle.log_pages.proofs.Took.{sum_of}
use Rattle.wrapped_conn.proofs.Copied.{last_true}
use Rattle.reincarnate.specs.declared.lack.Lack.TheVariants as lack
use Rattle.log_replay.specs.ReadLengths.{HaveBytes, cuts_through}
use Rattle.log_replay.specs.Replay.{ReplayState}
use Rattle.reincarnate.specs.Progress.{EntryState, Waiting, lacks, asks_bytes, asks_lengths, part_fits, lengths_fit, cuts_with, replayed_from, with_bytes, with_lengths, begun_entry, IsShort, IsSized}
use Rattle.log_replay.specs.LoggedHead.{IsSegmentSize}
use Rattle.reincarnate.proofs.ReplayOn.{Replays, replays}
use Rattle.reincarnate.proofs.Ready.{first_of_four}

pub begun_sized : {S : Type 0} (fresh : S) (greeting : List ℕ) (head : EntryHead) → head.length ≤ 2 ^ 24 → IsSegmentSize head.mss → IsSized (begun_entry fresh greeting head)
begun_sized fresh greeting head h segments = record {
  stream = h;
  segments = segments;
  bytes = omega arith;
  cuts = omega arith;
  have = omega arith;
  balance = refl;
  most = tt;
  next = tt;
  few = λ w. omega arith;
}

-- the numbers of a mark that an entry can have
pub record LiesWithin (head : EntryHead) (m : Mark) : Type 0 where
  pub reads : m.reads ≤ head.reads
  pub bytes : m.length ≤ head.length
  pub made : m.made ≤ head.acked
  pub each : m.reads ≤ m.length

pub within_is : (head : EntryHead) (m : Mark) → lies_within head m ≡ true → LiesWithin head m
within_is head m within =
    let all = and_parts (nat_le m.reads head.reads && nat_le m.length head.length && nat_le m.made head.acked) (nat_le m.reads m.length) within in
    let three = and_parts (nat_le m.reads head.reads && nat_le m.length head.length) (nat_le m.made head.acked) all.0 in
    let two = and_parts (nat_le m.reads head.reads) (nat_le m.length head.length) three.0 in
    record { reads = grind (arith, two.0); bytes = grind (arith, two.1); made = grind (arith, three.1); each = grind (arith, all.1) }

-- an entry that begins at a mark
pub marked_sized : {S : Type 0} (head : EntryHead) (m : Mark) (state : S) → head.length ≤ 2 ^ 24 → IsSegmentSize head.mss → lies_within head m ≡ true → IsSized (begun_at head m state)
marked_sized head m state stream segments within =
    let w = within_is head m within in
    record {
      stream = stream;
      segments = segments;
      bytes = w.bytes;
      cuts = w.bytes;
      have = omega (arith, w.each);
      balance = omega arith;
      most = tt;
      next = tt;
      few = λ missing. omega arith;
    }

-- a read that waits is longer than what is held
few_held : (ws : List ℕ) (held : ℕ) → AllByRecursion (λ k. k ≤ 2048) ws → IsShort ws held → 0 < length ws → held ≤ 2047
few_held [] held most next some = absurd (omega (arith, some))
few_held (w ∷ ws) held most next some = omega (arith, most.0, next)

none_waits : (ws : List ℕ) → (0 < length ws) ⊎ (ws ≡ [])
none_waits [] = inr refl
none_waits (w ∷ ws) = inl (omega arith)

-- where bytes are asked for while lengths are missing, a read has its length and not its bytes
asked_bytes : {S : Type 0} (e : EntryState S) → asks_bytes (lacks e) ≡ true → e.cuts.count < e.head.reads → e.bytes < e.cuts.sum
asked_bytes e asked missing = grind (arith, asked, missing)

asked_lengths : {S : Type 0} (e : EntryState S) → asks_lengths (lacks e) ≡ true → e.cuts.count < e.head.reads
asked_lengths e asked = grind (arith, asked)

all_both : (xs ys : List ℕ) → AllByRecursion (λ k. k ≤ 2048) xs → AllByRecursion (λ k. k ≤ 2048) ys → AllByRecursion (λ k. k ≤ 2048) (xs ++ ys)
all_both [] ys a b = b
all_both (x ∷ xs) ys a b = (a.0, all_both xs ys a.1 b)

pub bytes_sized : {S : Type 0} (after : S → List ℕ → Served S) (bytes : List ℕ) (e : EntryState S) → IsSized e → asks_bytes (lacks e) ≡ true → e.bytes + length bytes ≤ e.head.length → length bytes ≤ 1024
    → IsSized (with_bytes after bytes e)
bytes_sized after bytes e s asked within few =
    let holding : ReplayState _ = record e.replay { held = e.replay.held ++ bytes } in
    let w : Waiting _ = replayed_from after e.waiting holding in
    let r : Replays e.waiting holding w = replays after e.waiting holding in
    let more = length-append e.replay.held bytes in
    record {
      stream = s.stream;
      segments = s.segments;
      bytes = within;
      cuts = s.cuts;
      have = s.have;
      balance = omega (arith, r.balance, more, s.balance);
      most = r.most s.most;
      next = r.next;
      few = λ missing. ⊎_elim (λ some. few_held w.lengths (length w.replay.held) (r.most s.most) r.next some)
          (λ none. let nothing : sum w.lengths ≡ 0 = ap sum none in
          ⊎_elim (λ some. let size : length w.lengths ≡ 0 = ap length none in absurd (omega (arith, some, size)))
          (λ short. let low = asked_bytes e asked short in omega (arith, nothing, r.balance, more, s.balance, low, few)) missing)
          (none_waits w.lengths);
    }

pub lengths_sized : {S : Type 0} (after : S → List ℕ → Served S) (cuts : Cuts) (lens : List ℕ) (e : EntryState S) → IsSized e → asks_lengths (lacks e) ≡ true → cuts.sum ≡ e.cuts.sum + sum lens
    → HaveBytes cuts → cuts.sum ≤ e.head.length → AllByRecursion (λ k. k ≤ 2048) lens → IsSized (with_lengths after cuts lens e)
lengths_sized after cuts lens e s asked sums have within most =
    let w : Waiting _ = replayed_from after (e.waiting ++ lens) e.replay in
    let r : Replays (e.waiting ++ lens) e.replay w = replays after (e.waiting ++ lens) e.replay in
    let both = sum_of e.waiting lens in
    let all = r.most (all_both e.waiting lens s.most most) in
    record {
      stream = s.stream;
      segments = s.segments;
      bytes = s.bytes;
      cuts = within;
      have = have;
      balance = omega (arith, r.balance, both, s.balance, sums);
      most = all;
      next = r.next;
      few = λ missing. ⊎_elim (λ some. few_held w.lengths (length w.replay.held) all r.next some)
          (λ none. let nothing : sum w.lengths ≡ 0 = ap sum none in
          let before = s.few (inr (asked_lengths e asked)) in omega (arith, nothing, r.balance, before))
          (none_waits w.lengths);
    }

-- lengths that answer what is asked for
pub cuts_fit : {S : Type 0} (e : EntryState S) (key : Key) (first count : ℕ) (bytes : List ℕ) → lengths_fit key first count e ≡ true → count ≡ length bytes / 2
    → cuts_with key first (lens_in bytes) e ≡ cuts_through e.head.length e.head.fin e.cuts (lens_in bytes)
cuts_fit e key first count bytes fits size =
    let at : count ≡ length (lens_in bytes) = size ∙ sym (lens_in_length bytes) in
    ap (λ b. if b then cuts_through e.head.length e.head.fin e.cuts (lens_in bytes) else None) (ap (λ n. lengths_fit key first n e) (sym at) ∙ fits)

pub cuts_refused : {S : Type 0} (e : EntryState S) (key : Key) (first count : ℕ) (bytes : List ℕ) → lengths_fit key first count e ≡ false → count ≡ length bytes / 2
    → cuts_with key first (lens_in bytes) e ≡ None
cuts_refused e key first count bytes fits size =
    let at : count ≡ length (lens_in bytes) = size ∙ sym (lens_in_length bytes) in
    ap (λ b. if b then cuts_through e.head.length e.head.fin e.cuts (lens_in bytes) else None) (ap (λ n. lengths_fit key first n e) (sym at) ∙ fits)

pub lengths_asked : {S : Type 0} (e : EntryState S) (key : Key) (first count : ℕ) → lengths_fit key first count e ≡ true → asks_lengths (lacks e) ≡ true
lengths_asked e key first count fits =
    first_of_four (asks_lengths (lacks e)) (key_eq key e.head.key) (first == e.cuts.count) (nat_le (e.cuts.count + count) e.head.reads) fits

pub part_asked : {S : Type 0} (e : EntryState S) (key : Key) (offset count : ℕ) → part_fits key offset count e ≡ true → asks_bytes (lacks e) ≡ true
part_asked e key offset count fits =
    first_of_four (asks_bytes (lacks e)) (key_eq key e.head.key) (offset == e.bytes) (nat_le (e.bytes + count) e.head.length) fits

pub part_within : {S : Type 0} (e : EntryState S) (key : Key) (offset count : ℕ) → part_fits key offset count e ≡ true → e.bytes + count ≤ e.head.length
part_within e key offset count fits =
    let last = last_true (asks_bytes (lacks e)) (key_eq key e.head.key) (offset == e.bytes) (nat_le (e.bytes + count) e.head.length) fits in grind (arith, last)

-- where nothing is missing, all reads are replayed, and the rest is held
none_left : (ws : List ℕ) (held : ℕ) → IsShort ws held → sum ws ≤ held → sum ws ≡ 0
none_left [] held next enough = refl
none_left (w ∷ ws) held next enough = let more = sum_more w ws in absurd (omega (arith, next, enough, more))

pub enough_bytes : {S : Type 0} (e : EntryState S) → lacks e ≡ lack.Nothing → e.head.done ≡ false → e.cuts.sum ≤ e.bytes
enough_bytes e nothing live = grind (arith, nothing, live)

pub all_bytes : {S : Type 0} (e : EntryState S) → lacks e ≡ lack.Nothing → e.head.done ≡ false → e.head.length ≤ e.bytes
all_bytes e nothing live = grind (arith, nothing, live)

pub whole_rest : {S : Type 0} (e : EntryState S) → IsSized e → lacks e ≡ lack.Nothing → e.head.done ≡ false → e.cuts.sum + length e.replay.held ≡ e.head.length
whole_rest e s nothing live =
    let enough = enough_bytes e nothing live in
    let all = all_bytes e nothing live in
    let none = none_left e.waiting (length e.replay.held) s.next (omega (arith, enough, s.balance)) in
    omega (arith, none, s.balance, s.bytes, all)
