-- What is replayed is the uncrashed server's run, as far as reads are whole.
use Rattle.std.proofs.Common.{◌≡◌, ℕ, ◌+◌, ◌-◌, ◌^◌, ◌≤◌, ◌∙◌, Bool, true, false, nat_le, le_trans, List, [], ◌∷◌, ◌++◌, length, take, drop, sum, refl, ap, sym, subst, arith, append_assoc, length-append, length-drop, if◌then◌else◌}
use Rattle.std.proofs.lemmas.List.{drop-append-le}
use Rattle.std.proofs.Math.Seq.{drop-nil}
use Rattle.server_trait.specs.Service.{Machine, Run, Served, fed, with_served, reference}
use Rattle.ft_model.proofs.Services.{more_bytes, reads_proceed, prefix_length, sum_append}
use Rattle.north_wrap.proofs.OneRead.{drop_drop, one_more}
use Rattle.log_replay.specs.Replay.{ReplayState, RunsTo, passes_the_stream, served_on, taken_on, fed_on}
use Rattle.reincarnate.specs.Progress.{replayed_from}
use Rattle.reincarnate.specs.Refinement.{HasReplayed}
use Rattle.ft_io.proofs.Choices.{holds_if}
use Rattle.ft_io.proofs.Lists.{drop_across}

served_runs : {S : Type 0} (run : Run S) (acked : ℕ) (r : ReplayState S) (a b : Served S) → a ≡ b → RunsTo run acked r → r.acked ≡ acked
    → length (with_served run a).output ≤ 2 ^ 24 → RunsTo (with_served run a) acked (served_on r b)
served_runs run acked r a b same t known small =
    let more = length-append run.output a.output in
    let size : length b.output ≡ length a.output = ap (λ x. length x.output) (sym same) in
    let back : b ≡ a = sym same in
    holds_if (RunsTo (with_served run a) acked) (passes_the_stream r b) (record r { service = b.next; closed = true }) (record r {
      service = b.next;
      closed = b.closed;
      made = r.made + length b.output;
      pending = r.pending ++ drop (r.acked - r.made) b.output;
    }) (λ passes. absurd (grind (arith, passes, t.made, size, more, small)))
    (λ stays. record {
      service = ap (λ x. x.next) back;
      closed = ap (λ x. x.closed) back;
      made = (λ j. t.made j + length (back j).output) ∙ sym more;
      pending = (λ j. t.pending j ++ drop (known j - t.made j) (back j).output) ∙ drop_across acked run.output a.output;
    })

by_closed : {S : Type 0} (service : Machine S) (run : Run S) (acked : ℕ) (r : ReplayState S) (chunk : List ℕ) (c : Bool) → RunsTo run acked r → r.acked ≡ acked
    → length (if c then run else with_served run (service.after run.state chunk)).output ≤ 2 ^ 24
    → RunsTo (if c then run else with_served run (service.after run.state chunk)) acked (if c then r else served_on r (service.after r.service chunk))
by_closed service run acked r chunk true t known small = t
by_closed service run acked r chunk false t known small =
    served_runs run acked r (service.after run.state chunk) (service.after r.service chunk) (ap (λ s. service.after s chunk) (sym t.service)) t known small

taken_runs : {S : Type 0} (service : Machine S) (run : Run S) (acked : ℕ) (r : ReplayState S) (chunk : List ℕ) → RunsTo run acked r → r.acked ≡ acked
    → length (fed service run chunk).output ≤ 2 ^ 24 → RunsTo (fed service run chunk) acked (taken_on service.after r chunk)
taken_runs service run acked r chunk t known small =
    subst (λ c. RunsTo (fed service run chunk) acked (if c then r else served_on r (service.after r.service chunk))) (sym t.closed)
    (by_closed service run acked r chunk run.closed t known small)

taken_acked : {S : Type 0} (after : S → List ℕ → Served S) (r : ReplayState S) (chunk : List ℕ) → (taken_on after r chunk).acked ≡ r.acked
taken_acked after r chunk =
    holds_if (λ x. x.acked ≡ r.acked) r.closed r (served_on r (after r.service chunk)) (λ t. refl)
    (λ t. let b : Served _ = after r.service chunk in
    holds_if (λ x. x.acked ≡ r.acked) (passes_the_stream r b) (record r { service = b.next; closed = true }) (record r {
      service = b.next;
      closed = b.closed;
      made = r.made + length b.output;
      pending = r.pending ++ drop (r.acked - r.made) b.output;
    }) (λ t. refl) (λ t. refl))

-- RunsTo doesn't speak of what is held
pub holds_else : {S : Type 0} (run : Run S) (acked : ℕ) (r : ReplayState S) (held : List ℕ) → RunsTo run acked r → RunsTo run acked (record r { held = held })
holds_else run acked r held t = record { service = t.service; closed = t.closed; made = t.made; pending = t.pending }

-- one read more
fed_stands : {S : Type 0} (service : Machine S) (bytes lengths : List ℕ) (n : ℕ) (ws : List ℕ) (acked : ℕ) (r : ReplayState S)
    → HasReplayed service bytes lengths (n ∷ ws) acked r → n ≤ length r.held → HasReplayed service bytes lengths ws acked (fed_on service.after n r)
unfolding fed_on
fed_stands service bytes lengths n ws acked r h low =
    let more : sum (h.replayed ++ n ∷ []) ≡ sum h.replayed + n = sum_append h.replayed n in
    let size : length r.held ≡ length bytes - sum h.replayed = ap length h.held ∙ length-drop (sum h.replayed) bytes in
    let whole : reference service bytes (h.replayed ++ n ∷ []) ≡ fed service (reference service bytes h.replayed) (take n r.held) =
    one_more service bytes h.replayed n ∙ ap (λ l. fed service (reference service bytes h.replayed) (take n l)) (sym h.held) in
    record {
      replayed = h.replayed ++ n ∷ [];
      lengths_are = append_assoc h.replayed (n ∷ []) ws ∙ h.lengths_are;
      within = omega (arith, more, size, low, h.within);
      held = ap (drop n) h.held ∙ drop_drop n (sum h.replayed) bytes ∙ ap (λ k. drop k bytes) (sym more);
      acked_is = taken_acked service.after r (take n r.held) ∙ h.acked_is;
      run = λ small.
          let before : length (reference service bytes h.replayed).output ≤ 2 ^ 24 =
          le_trans (prefix_length _ _ (reads_proceed service bytes h.replayed (h.replayed ++ n ∷ []) (n ∷ [], refl)).output) small in
          subst (λ x. RunsTo x acked (record (taken_on service.after r (take n r.held)) { held = drop n r.held })) (sym whole)
          (holds_else (fed service (reference service bytes h.replayed) (take n r.held)) acked (taken_on service.after r (take n r.held)) (drop n r.held)
          (taken_runs service (reference service bytes h.replayed) acked r (take n r.held) (h.run before) h.acked_is (subst (λ x. length x.output ≤ 2 ^ 24) whole small)));
    }

-- each read that is whole
pub replays_stand : {S : Type 0} (service : Machine S) (bytes lengths ws : List ℕ) (acked : ℕ) (r : ReplayState S) → HasReplayed service bytes lengths ws acked r
    → HasReplayed service bytes lengths (replayed_from service.after ws r).lengths acked (replayed_from service.after ws r).replay
replays_stand service bytes lengths [] acked r h = h
replays_stand service bytes lengths (n ∷ ws) acked r h =
    holds_if (λ w. HasReplayed service bytes lengths w.lengths acked w.replay) (nat_le n (length r.held)) (replayed_from service.after ws (fed_on service.after n r)) (record { lengths = n ∷ ws; replay = r })
    (λ t. replays_stand service bytes lengths ws acked (fed_on service.after n r) (fed_stands service bytes lengths n ws acked r h (grind (arith, t)))) (λ t. h)

pub begins : {S : Type 0} (service : Machine S) (acked : ℕ)
    → HasReplayed service [] [] [] acked (record { service = service.fresh; closed = false; made = length service.greeting; acked = acked; pending = drop acked service.greeting; held = [] })
unfolding reference
begins service acked = record {
  replayed = [];
  lengths_are = refl;
  within = omega arith;
  held = refl;
  acked_is = refl;
  run = λ small. record { service = refl; closed = refl; made = refl; pending = refl };
}

pub more_held : {S : Type 0} (service : Machine S) (bytes lengths ws more : List ℕ) (acked : ℕ) (r : ReplayState S) → HasReplayed service bytes lengths ws acked r
    → HasReplayed service (bytes ++ more) lengths ws acked (record r { held = r.held ++ more })
more_held service bytes lengths ws more acked r h =
    let same : reference service (bytes ++ more) h.replayed ≡ reference service bytes h.replayed = more_bytes service bytes (bytes ++ more) h.replayed (more, refl) h.within in
    let size = length-append bytes more in
    record {
      replayed = h.replayed;
      lengths_are = h.lengths_are;
      within = omega (arith, size, h.within);
      held = ap (λ l. l ++ more) h.held ∙ sym (drop-append-le (sum h.replayed) bytes more h.within);
      acked_is = h.acked_is;
      run = λ small. subst (λ x. RunsTo x acked (record r { held = r.held ++ more })) (sym same)
          (holds_else (reference service bytes h.replayed) acked r (r.held ++ more) (h.run (subst (λ x. length x.output ≤ 2 ^ 24) same small)));
    }

pub more_lengths : {S : Type 0} (service : Machine S) (bytes lengths ws lens : List ℕ) (acked : ℕ) (r : ReplayState S) → HasReplayed service bytes lengths ws acked r
    → HasReplayed service bytes (lengths ++ lens) (ws ++ lens) acked r
more_lengths service bytes lengths ws lens acked r h = record {
  replayed = h.replayed;
  lengths_are = sym (append_assoc h.replayed ws lens) ∙ ap (λ l. l ++ lens) h.lengths_are;
  within = h.within;
  held = h.held;
  acked_is = h.acked_is;
  run = h.run;
}
