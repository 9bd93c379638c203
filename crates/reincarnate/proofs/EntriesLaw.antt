-- What is fetched, in the log's order, and the next of it that is restored.
use Rattle.std.proofs.Common.{◌≡◌, ℕ, ◌+◌, ◌-◌, ◌≤◌, ◌^◌, ◌∙◌, not, ◌&&◌, nat_lt, Bool, true, false, true≢false, Option, Some, None, List, [], ◌∷◌, ◌++◌, reverse, length, drop, sum, refl, ap, sym, subst, arith, append-nil, length-drop, if◌then◌else◌}
use Rattle.std.proofs.lemmas.List.{reverse-append}
use Rattle.std.specs.Option.{option_to_list}
use Rattle.server_trait.specs.Service.{Machine, reference}
use Rattle.ft_model.specs.Restart.{Fetched, is_whole, entry_in}
use Rattle.ft_model.proofs.Services.{sum_more}
use Rattle.log_pages.proofs.Took.{sum_of}
use Rattle.reincarnate.specs.declared.entries.Restored.{Restored}
use Rattle.reincarnate.specs.declared.entries.Restored.TheVariants as restored
use Rattle.log_replay.specs.Replay.{RunsTo}
use Rattle.reincarnate.specs.Progress.{EntryState, ReplayedState, replayed_state, next_live, behind_next, IsShort}
use Rattle.reincarnate.specs.Questions.{FetchingState, entries_of, asked_of, asked}
use Rattle.reincarnate.specs.Refinement.{StandsFor, StandFor, StandsFetching, StandsWhole, AreWhole, IsReplayed, NextIs, live_from, first_restored, RestoredIs, FirstIs}
use Rattle.reincarnate.proofs.Ready.{asked_nothing, newest_is_ready}
use Rattle.reincarnate.proofs.EntryLaw.{lacks_is, nothing_lacks}

stand_push : {S : Type 0} (service : Machine S) (fs : List Fetched) (es : List (EntryState S)) (f : Fetched) (e : EntryState S) → StandFor service fs es → StandsFor service f e
    → StandFor service (fs ++ f ∷ []) (es ++ e ∷ [])
stand_push service [] [] f e st one = (one, tt)
stand_push service [] (x ∷ es) f e st one = absurd st
stand_push service (y ∷ fs) [] f e st one = absurd st
stand_push service (y ∷ fs) (x ∷ es) f e st one = (st.0, stand_push service fs es f e st.1 one)

pub stand_reversed : {S : Type 0} (service : Machine S) (fs : List Fetched) (es : List (EntryState S)) → StandFor service fs es → StandFor service (reverse fs) (reverse es)
stand_reversed service [] [] st = tt
stand_reversed service [] (x ∷ es) st = absurd st
stand_reversed service (y ∷ fs) [] st = absurd st
stand_reversed service (f ∷ fs) (e ∷ es) st =
    subst (λ l. StandFor service l (reverse (e ∷ es))) (sym (reverse-append (f ∷ []) fs))
    (subst (StandFor service (reverse fs ++ f ∷ [])) (sym (reverse-append (e ∷ []) es)) (stand_push service (reverse fs) (reverse es) f e (stand_reversed service fs es st.1) st.0))

whole_push : (fs : List Fetched) (f : Fetched) → AreWhole fs → is_whole f ≡ true → AreWhole (fs ++ f ∷ [])
whole_push [] f whole one = (one, tt)
whole_push (x ∷ fs) f whole one = (whole.0, whole_push fs f whole.1 one)

whole_reversed : (fs : List Fetched) → AreWhole fs → AreWhole (reverse fs)
whole_reversed [] whole = tt
whole_reversed (f ∷ fs) whole = subst AreWhole (sym (reverse-append (f ∷ []) fs)) (whole_push (reverse fs) f (whole_reversed fs whole.1) whole.0)

turned_round : {S : Type 0} (newest : Option (EntryState S)) (before : List (EntryState S)) → reverse before ++ option_to_list newest ≡ reverse (option_to_list newest ++ before)
turned_round None before = append-nil (reverse before)
turned_round (Some e) before = sym (reverse-append (e ∷ []) before)

all_whole : {S : Type 0} (service : Machine S) (newest : Option (EntryState S)) (before : List (EntryState S)) (fetched : List Fetched) → (newest ≡ None → before ≡ [])
    → StandFor service fetched (option_to_list newest ++ before) → AreWhole (drop 1 fetched) → asked_of newest ≡ None → AreWhole fetched
all_whole service None before [] first st whole none = tt
all_whole service None [] (f ∷ fs) first st whole none = absurd st
all_whole service None (x ∷ before) (f ∷ fs) first st whole none =
    let size : length (x ∷ before) ≡ 0 = ap length (first refl) in absurd (omega (arith, size))
all_whole service (Some e) before [] first st whole none = absurd st
all_whole service (Some e) before (f ∷ fs) first st whole none =
    (nothing_lacks f (sym (lacks_is service f e st.0) ∙ newest_is_ready e none), whole)

-- once nothing is missing
pub finished : {S : Type 0} (service : Machine S) (s : FetchingState S) (fetched : List Fetched) → asked s ≡ None → StandsFetching service fetched s
    → StandsWhole service (reverse fetched) (reverse s.earlier ++ option_to_list s.newest)
finished service s fetched none st = record {
  entries = subst (StandFor service (reverse fetched)) (sym (turned_round s.newest s.earlier)) (stand_reversed service fetched (entries_of s) st.entries);
  whole = whole_reversed fetched (all_whole service s.newest s.earlier fetched st.newest st.entries st.whole (asked_nothing s none));
}

none_waits : (ws : List ℕ) (held : ℕ) → IsShort ws held → sum ws ≤ held → ws ≡ []
none_waits [] held next enough = refl
none_waits (w ∷ ws) held next enough = let more = sum_more w ws in absurd (omega (arith, next, enough, more))

missing_by : (done a b : Bool) → (not (not done && a) && not (not done && b)) ≡ true → done ≡ false → (a ≡ false) × (b ≡ false)
missing_by true a b whole live = absurd (true≢false live)
missing_by false true b whole live = absurd (true≢false (sym whole))
missing_by false false true whole live = absurd (true≢false (sym whole))
missing_by false false false whole live = (refl, refl)

replayed_is : {S : Type 0} (service : Machine S) (f : Fetched) (e : EntryState S) → StandsFor service f e → is_whole f ≡ true → f.head.done ≡ false → IsReplayed service (entry_in f) (replayed_state e)
replayed_is service f e st whole live =
    let none = missing_by f.head.done (nat_lt (length f.lengths) f.head.reads) (nat_lt (length f.bytes) f.head.length) whole live in
    let bytes : length f.bytes ≡ f.head.length = grind (arith, none, st.bytes_fit) in
    let lengths : length f.lengths ≡ f.head.reads = grind (arith, none, st.lengths_fit) in
    let h = st.replay in
    let both_sums : sum f.lengths ≡ sum h.replayed + sum e.waiting = ap sum (sym h.lengths_are) ∙ sum_of h.replayed e.waiting in
    let held : length e.replay.held ≡ length f.bytes - sum h.replayed = ap length h.held ∙ length-drop (sum h.replayed) f.bytes in
    let nothing : e.waiting ≡ [] = none_waits e.waiting (length e.replay.held) st.next (omega (arith, both_sums, held, bytes, st.enough)) in
    let all : h.replayed ≡ f.lengths = sym (append-nil h.replayed) ∙ ap (λ l. h.replayed ++ l) (sym nothing) ∙ h.lengths_are in
    record {
      head = st.head ∙ (λ j. record f.head { length = sym bytes j; reads = sym lengths j });
      cuts = st.cuts;
      enough = omega (arith, bytes, st.enough);
      rest = h.held ∙ ap (λ l. drop (sum l) f.bytes) all;
      run = λ small. subst (λ l. RunsTo (reference service f.bytes l) f.head.acked e.replay) all (h.run (subst (λ l. length (reference service f.bytes l).output ≤ 2 ^ 24) (sym all) small));
    }

next_by : {S : Type 0} (service : Machine S) (f : Fetched) (e : EntryState S) (fs : List Fetched) (es : List (EntryState S)) (c : Bool) → f.head.done ≡ c → StandsFor service f e → is_whole f ≡ true
    → StandsWhole service fs es → NextIs service (live_from fs) (next_live es) (behind_next es)
    → NextIs service (if c then live_from fs else f ∷ fs) (if c then next_live es else Some (replayed_state e)) (if c then behind_next es else es)
next_by service f e fs es true is st whole rest next = next
next_by service f e fs es false is st whole rest next = (replayed_is service f e st whole is, rest)

next_is : {S : Type 0} (service : Machine S) (fs : List Fetched) (es : List (EntryState S)) → StandFor service fs es → AreWhole fs → NextIs service (live_from fs) (next_live es) (behind_next es)
next_is service [] [] st whole = (refl, refl)
next_is service [] (e ∷ es) st whole = absurd st
next_is service (f ∷ fs) [] st whole = absurd st
next_is service (f ∷ fs) (e ∷ es) st whole =
    let back : f.head ≡ e.head = sym st.0.head in
    let by = next_by service f e fs es f.head.done refl st.0 whole.0 (record { entries = st.1; whole = whole.1 }) (next_is service fs es st.1 whole.1) in
    subst (λ h. NextIs service (if f.head.done then live_from fs else f ∷ fs) (if h.done then next_live es else Some (replayed_state e)) (if h.done then behind_next es else es)) back by

pub next_stands : {S : Type 0} (service : Machine S) (fs : List Fetched) (es rest : List (EntryState S)) (next : Option (ReplayedState S)) → StandsWhole service fs es → next ≡ next_live es → rest ≡ behind_next es
    → NextIs service (live_from fs) next rest
next_stands service fs es rest next st is left =
    subst (λ x. NextIs service (live_from fs) x rest) (sym is) (subst (NextIs service (live_from fs) (next_live es)) (sym left) (next_is service fs es st.entries st.whole))

restored_by : {S : Type 0} (service : Machine S) (f : Fetched) (e : EntryState S) (c : Bool) → e.head.done ≡ c → StandsFor service f e → is_whole f ≡ true
    → RestoredIs service f (if c then restored.Ended e.head.key else restored.Live (replayed_state e))
restored_by service f e true is st whole = (ap (λ h. h.done) (sym st.head) ∙ is, ap (λ h. h.key) st.head)
restored_by service f e false is st whole = let live = ap (λ h. h.done) (sym st.head) ∙ is in (live, replayed_is service f e st whole live)

first_is : {S : Type 0} (service : Machine S) (fs : List Fetched) (es : List (EntryState S)) → StandFor service fs es → AreWhole fs → FirstIs service fs (first_restored es) (drop 1 es)
first_is service [] [] st whole = (refl, refl)
first_is service [] (e ∷ es) st whole = absurd st
first_is service (f ∷ fs) [] st whole = absurd st
first_is service (f ∷ fs) (e ∷ es) st whole = (restored_by service f e e.head.done refl st.0 whole.0, record { entries = st.1; whole = whole.1 })

pub first_stands : {S : Type 0} (service : Machine S) (fs : List Fetched) (es rest : List (EntryState S)) (next : Option (Restored S)) → StandsWhole service fs es → next ≡ first_restored es
    → rest ≡ drop 1 es → FirstIs service fs next rest
first_stands service fs es rest next st is left =
    subst (λ x. FirstIs service fs x rest) (sym is) (subst (FirstIs service fs (first_restored es)) (sym left) (first_is service fs es st.entries st.whole))
