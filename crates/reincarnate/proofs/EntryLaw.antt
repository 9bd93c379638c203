-- An entry as far as it is fetched, by the law Restart.
use Rattle.std.proofs.Common.{◌≡◌, ℕ, ◌+◌, ◌≤◌, ◌==◌, ◌&&◌, ◌||◌, not, ◌∙◌, Bool, true, false, true≢false, nat_lt, nat_le, Option, Some, None, List, [], ◌∷◌, ◌++◌, length, sum, refl, ap, sym, subst, arith, append_assoc, append-nil, length-append, if◌then◌else◌}
use Rattle.std.specs.List.{list_any}
use Rattle.std.proofs.lemmas.Bool.{and_parts}
use Rattle.server_trait.specs.Service.{Machine}
use Rattle.seq_arith.specs.Message.{EntryHead}
use Rattle.ft_model.specs.Log.{may_follow}
use Rattle.ft_model.specs.Restart.{Fetched, Wanted, wanted, next_entry, is_whole, all_follow}
use Rattle.ft_model.specs.Restart.Wanted.{Its_bytes, Its_lengths}
use Rattle.ft_model.proofs.Services.{sum_append}
use Rattle.log_replay.specs.declared.cuts.Cuts.{Cuts}
use Rattle.reincarnate.specs.declared.lack.Lack.{Lack}
use Rattle.reincarnate.specs.declared.lack.Lack.TheVariants as lack
use Rattle.log_replay.specs.ReadLengths.{cuts_of, cut_on, cuts_through}
use Rattle.log_replay.specs.Replay.{ReplayState}
use Rattle.reincarnate.specs.Progress.{EntryState, begun_entry, lacks, with_bytes, with_lengths}
use Rattle.reincarnate.specs.Refinement.{StandsFor}
use Rattle.reincarnate.proofs.ReplayOn.{replays}
use Rattle.reincarnate.proofs.ReplayLaw.{replays_stand, begins, more_held, more_lengths}
use Rattle.north_wrap.proofs.OneRead.{any_append}

-- what of an entry is missing, in the law's words
abbrev pub lack_by : (done lacks_read lacks_length lacks_byte : Bool) → Lack
lack_by done a b c = if done then lack.Nothing else (if a then lack.Bytes else (if b then lack.Lengths else (if c then lack.Bytes else lack.Nothing)))

abbrev pub lack_of : Fetched → Lack
lack_of f = lack_by f.head.done (nat_lt (length f.bytes) (sum f.lengths)) (nat_lt (length f.lengths) f.head.reads) (nat_lt (length f.bytes) f.head.length)

pub lacks_is : {S : Type 0} (service : Machine S) (f : Fetched) (e : EntryState S) → StandsFor service f e → lacks e ≡ lack_of f
lacks_is service f e st = λ j.
    lack_by (st.head j).done (nat_lt (st.bytes j) (st.cuts j).sum) (nat_lt (st.cuts j).count (st.head j).reads) (nat_lt (st.bytes j) (st.head j).length)

abbrev pub wanted_when : Lack → (count : ℕ) → Fetched → List Fetched → Option Wanted
wanted_when lack.Bytes count f earlier = Some (Its_bytes f.head.key (length f.bytes))
wanted_when lack.Lengths count f earlier = Some (Its_lengths f.head.key (length f.lengths))
wanted_when lack.Nothing count f earlier = next_entry count (length (f ∷ earlier))

wanted_by : (count : ℕ) (f : Fetched) (earlier : List Fetched) (done a b c : Bool)
    → (if not done && a then Some (Its_bytes f.head.key (length f.bytes))
    else (if not done && b then Some (Its_lengths f.head.key (length f.lengths))
    else (if not done && c then Some (Its_bytes f.head.key (length f.bytes)) else next_entry count (length (f ∷ earlier)))))
    ≡ wanted_when (lack_by done a b c) count f earlier
wanted_by count f earlier true a b c = refl
wanted_by count f earlier false true b c = refl
wanted_by count f earlier false false true c = refl
wanted_by count f earlier false false false true = refl
wanted_by count f earlier false false false false = refl

pub wanted_is : (count : ℕ) (f : Fetched) (earlier : List Fetched) → wanted count (f ∷ earlier) ≡ wanted_when (lack_of f) count f earlier
wanted_is count f earlier =
    wanted_by count f earlier f.head.done (nat_lt (length f.bytes) (sum f.lengths)) (nat_lt (length f.lengths) f.head.reads) (nat_lt (length f.bytes) f.head.length)

abbrev is_nothing : Lack → Bool
is_nothing lack.Nothing = true
is_nothing _ = false

whole_by : (done a b c : Bool) → lack_by done a b c ≡ lack.Nothing → (not (not done && b) && not (not done && c)) ≡ true
whole_by true a b c e = refl
whole_by false true b c e = absurd (true≢false (sym (ap is_nothing e)))
whole_by false false true c e = absurd (true≢false (sym (ap is_nothing e)))
whole_by false false false true e = absurd (true≢false (sym (ap is_nothing e)))
whole_by false false false false e = refl

pub nothing_lacks : (f : Fetched) → lack_of f ≡ lack.Nothing → is_whole f ≡ true
nothing_lacks f e = whole_by f.head.done (nat_lt (length f.bytes) (sum f.lengths)) (nat_lt (length f.lengths) f.head.reads) (nat_lt (length f.bytes) f.head.length) e

pub head_stands : {S : Type 0} (service : Machine S) (head : EntryHead) → StandsFor service (record { head = head; bytes = []; lengths = [] }) (begun_entry service.fresh service.greeting head)
head_stands service head = record {
  head = refl;
  bytes = refl;
  cuts = refl;
  bytes_fit = omega arith;
  lengths_fit = omega arith;
  enough = omega arith;
  next = tt;
  replay = begins service head.acked;
}

pub bytes_stand : {S : Type 0} (service : Machine S) (f : Fetched) (e : EntryState S) (bytes : List ℕ) → StandsFor service f e → length f.bytes + length bytes ≤ f.head.length
    → StandsFor service (record f { bytes = f.bytes ++ bytes }) (with_bytes service.after bytes e)
bytes_stand service f e bytes st within =
    let more = length-append f.bytes bytes in
    let r : ReplayState _ = record e.replay { held = e.replay.held ++ bytes } in
    record {
      head = st.head;
      bytes = ap (λ n. n + length bytes) st.bytes ∙ sym more;
      cuts = st.cuts;
      bytes_fit = omega (arith, more, within);
      lengths_fit = st.lengths_fit;
      enough = st.enough;
      next = (replays service.after e.waiting r).next;
      replay = replays_stand service (f.bytes ++ bytes) f.lengths e.waiting f.head.acked r (more_held service f.bytes f.lengths e.waiting bytes f.head.acked e.replay st.replay);
    }

pub lengths_stand : {S : Type 0} (service : Machine S) (f : Fetched) (e : EntryState S) (lens : List ℕ) (cuts : Cuts) → StandsFor service f e
    → length f.lengths + length lens ≤ f.head.reads → sum (f.lengths ++ lens) ≤ f.head.length → cuts ≡ cuts_of (f.lengths ++ lens) → StandsFor service (record f { lengths = f.lengths ++ lens }) (with_lengths service.after cuts lens e)
lengths_stand service f e lens cuts st within enough are =
    let more = length-append f.lengths lens in
    record {
      head = st.head;
      bytes = st.bytes;
      cuts = are;
      bytes_fit = st.bytes_fit;
      lengths_fit = omega (arith, more, within);
      enough = enough;
      next = (replays service.after (e.waiting ++ lens) e.replay).next;
      replay = replays_stand service f.bytes (f.lengths ++ lens) (e.waiting ++ lens) f.head.acked e.replay (more_lengths service f.bytes f.lengths e.waiting lens f.head.acked e.replay st.replay);
    }

one_cut : (lengths : List ℕ) (n : ℕ) → cut_on (cuts_of lengths) n ≡ cuts_of (lengths ++ n ∷ [])
one_cut lengths n = λ j. record { count = (sym (length-append lengths (n ∷ []))) j; sum = (sym (sum_append lengths n)) j; ended = (sym (any_append lengths n)) j }

by_follow : (b c : Bool) (x y : Option Cuts) → x ≡ (if c then y else None) → (if b then x else None) ≡ (if b && c then y else None)
by_follow true c x y e = e
by_follow false c x y e = refl

-- the lengths that the log's rule lets follow
pub cuts_are : (len : ℕ) (fin : Bool) (lengths lens : List ℕ)
    → cuts_through len fin (cuts_of lengths) lens ≡ (if all_follow len fin lengths lens then Some (cuts_of (lengths ++ lens)) else None)
cuts_are len fin lengths [] = ap (λ l. Some (cuts_of l)) (sym (append-nil lengths))
cuts_are len fin lengths (n ∷ lens) =
    by_follow (may_follow len fin lengths n) (all_follow len fin (lengths ++ n ∷ []) lens) (cuts_through len fin (cut_on (cuts_of lengths) n) lens) (Some (cuts_of (lengths ++ n ∷ lens)))
    (ap (λ c. cuts_through len fin c lens) (one_cut lengths n) ∙ cuts_are len fin (lengths ++ n ∷ []) lens
    ∙ ap (λ l. if all_follow len fin (lengths ++ n ∷ []) lens then Some (cuts_of l) else None) (append_assoc lengths (n ∷ []) lens))

within_by : (c fin : Bool) (n total len : ℕ) → ((not c && nat_le (total + n) len) && (nat_lt 0 n || (fin && total == len))) ≡ true → total + n ≤ len
within_by c fin n total len e =
    let low = (and_parts (not c) (nat_le (total + n) len) (and_parts (not c && nat_le (total + n) len) (nat_lt 0 n || (fin && total == len)) e).0).1 in grind (arith, low)

-- and so the bytes suffice for them
pub follow_within : (len : ℕ) (fin : Bool) (lengths lens : List ℕ) → all_follow len fin lengths lens ≡ true → sum lengths ≤ len → sum (lengths ++ lens) ≤ len
follow_within len fin lengths [] e within = subst (λ l. sum l ≤ len) (sym (append-nil lengths)) within
follow_within len fin lengths (n ∷ lens) e within =
    let parts = and_parts (may_follow len fin lengths n) (all_follow len fin (lengths ++ n ∷ []) lens) e in
    let low : sum lengths + n ≤ len = within_by (list_any (λ k. k == 0) lengths) fin n (sum lengths) len parts.0 in
    let one = sum_append lengths n in
    subst (λ l. sum l ≤ len) (append_assoc lengths (n ∷ []) lens) (follow_within len fin (lengths ++ n ∷ []) lens parts.1 (omega (arith, one, low)))
