-- What a turn gives is the front of what may leave and isn't given.
use Rattle.std.proofs.Common.{◌≡◌, ℕ, ◌+◌, ◌-◌, ◌≤◌, ◌==◌, ◌&&◌, ◌||◌, Bool, true, false, true≢false, not, refl, sym, ap, ◌∙◌, subst, List, ◌++◌, length, take, drop, arith, length-drop}
use Rattle.std.proofs.lemmas.List.{take-append-le}
use Rattle.server_trait.specs.Service.{Machine, reference}
use Rattle.ft_model.specs.Point.{Point, made, released, whole_run, answered_run}
use Rattle.ft_model.proofs.Services.{prefix_length, drop_within}
use Rattle.north_wrap.specs.RunState.{given_count, gives}
use Rattle.north_wrap.specs.NorthState.{NorthState, unstable, given_north, given_socket, shut_north, shut_socket, closes}
use Rattle.north_wrap.specs.Sockets.{Writer}
use Rattle.north_wrap.specs.Refinement.{NorthStands, RecordsRun, given_more, given_text, written}
use Rattle.north_wrap.proofs.Logged.{answered_front}
use Rattle.north_wrap.proofs.OneRead.{drop_drop}

pub last_keeps : {S : Type 0} (service : Machine S) (p : Point) (given : ℕ) (n : NorthState S) → NorthStands service p given n → RecordsRun n.last (answered_run service p)
last_keeps service p given n st = let e : p.reads_answered + 0 ≡ p.reads_answered = omega arith in
    subst (λ a. RecordsRun n.last (reference service p.taken (take a p.lengths))) e (st.keeps 0 (omega arith))

pub count_is : {S : Type 0} (service : Machine S) (p : Point) (given room : ℕ) (n : NorthState S) → NorthStands service p given n → given_count room (unstable n) n.run ≡ given_more service p room given
count_is service p given room n st =
    let last : n.last.made ≡ released service p = (last_keeps service p given n st).made in
    let pending : length n.run.pending ≡ made service p - given = ap length st.run.pending ∙ length-drop given (whole_run service p).output in
    let low : released service p ≤ made service p = prefix_length (answered_run service p).output (whole_run service p).output (answered_front service p).output in
    omega (arith, last, pending, low, st.run.made, st.run.within)

-- the front of a front
front_same : (xs ys : List ℕ) (given k : ℕ) → given + k ≤ length xs → take k (drop given (xs ++ ys)) ≡ take k (drop given xs)
front_same xs ys given k h =
    ap (take k) (drop_within given xs ys (omega (arith, h))) ∙ take-append-le k (drop given xs) ys (let size = length-drop given xs in omega (arith, h, size))

pub text_is : {S : Type 0} (service : Machine S) (p : Point) (given room : ℕ) (n : NorthState S) → NorthStands service p given n → given ≤ released service p
    → gives room (unstable n) n.run ≡ take (given_more service p room given) (drop given (answered_run service p).output)
text_is service p given room n st may =
    let front = (answered_front service p).output in
    (λ j. take (count_is service p given room n st j) (st.run.pending j))
    ∙ subst (λ l. take (given_more service p room given) (drop given l) ≡ take (given_more service p room given) (drop given (answered_run service p).output)) front.1
    (front_same (answered_run service p).output front.0 given (given_more service p room given) (omega (arith, may)))

pub given_stands : {S K : Type 0} (service : Machine S) (w : Writer K) (p : Point) (given : ℕ) (n : NorthState S) (s : K) → NorthStands service p given n → given ≤ released service p
    → NorthStands service p (given + given_more service p (w.room s) given) (given_north w n s)
given_stands service w p given n s st may =
    let count = count_is service p given (w.room s) n st in
    let low : released service p ≤ made service p = prefix_length (answered_run service p).output (whole_run service p).output (answered_front service p).output in
    record {
      run = record {
        service = st.run.service;
        closed = st.run.closed;
        made = st.run.made;
        pending = (λ j. drop (count j) (st.run.pending j)) ∙ drop_drop (given_more service p (w.room s) given) given (whole_run service p).output;
        within = omega (arith, may, low);
      };
      rest = st.rest;
      keeps = st.keeps;
      reported = st.reported;
      numbered = st.numbered;
      unanswered = st.unanswered;
      read = st.read;
      count = st.count;
      ended = st.ended;
      enough = st.enough;
      fetched = st.fetched;
      shut_logged = st.shut_logged;
      shut_given = λ s. let all : given ≡ made service p = st.shut_given s in omega (arith, all, may, low);
    }

pub closes_is : {S : Type 0} (service : Machine S) (p : Point) (given : ℕ) (n : NorthState S) → NorthStands service p given n
    → closes n ≡ (not n.shut && (answered_run service p).closed && made service p == given)
closes_is service p given n st =
    let pending : length n.run.pending ≡ made service p - given = ap length st.run.pending ∙ length-drop given (whole_run service p).output in
    let none : (length n.run.pending == 0) ≡ (made service p == given) = zero_is (length n.run.pending) (made service p) given pending st.run.within in
    let last = (last_keeps service p given n st).closed in
    λ j. not n.shut && last j && none j
  where
    zero_is : (pending made given : ℕ) → pending ≡ made - given → given ≤ made → (pending == 0) ≡ (made == given)
    zero_is pending made given e h = grind (arith, e, h)

-- it is closed now, or was before
shut_stands : {S : Type 0} (service : Machine S) (p : Point) (given : ℕ) (n : NorthState S) → NorthStands service p given n → NorthStands service p given (shut_north n)
shut_stands service p given n st =
    let all : closes n ≡ true → ((answered_run service p).closed ≡ true) × (given ≡ made service p) =
    λ c. by_parts n.shut (answered_run service p).closed (made service p) given (sym (closes_is service p given n st) ∙ c) in
    record {
      run = st.run;
      rest = st.rest;
      keeps = st.keeps;
      reported = st.reported;
      numbered = st.numbered;
      unanswered = st.unanswered;
      read = st.read;
      count = st.count;
      ended = st.ended;
      enough = st.enough;
      fetched = st.fetched;
      shut_logged = λ e. either n.shut (closes n) e st.shut_logged (λ c. (all c).0);
      shut_given = λ e. either n.shut (closes n) e st.shut_given (λ c. (all c).1);
    }
  where
    by_parts : (shut logged : Bool) (made given : ℕ) → (not shut && logged && made == given) ≡ true → (logged ≡ true) × (given ≡ made)
    by_parts false true made given h = (refl, grind (arith, h))
    by_parts false false made given h = absurd (true≢false (sym h))
    by_parts true logged made given h = absurd (true≢false (sym h))

    either : {P : Type 0} (a b : Bool) → (a || b) ≡ true → (a ≡ true → P) → (b ≡ true → P) → P
    either true b h f g = f refl
    either false true h f g = g refl
    either false false h f g = absurd (true≢false (sym h))

pub shut_gives : {S K : Type 0} (service : Machine S) (w : Writer K) (p : Point) (given : ℕ) (n : NorthState S) (s : K) → NorthStands service p given n → given ≤ released service p
    → NorthStands service p (given + given_more service p (w.room s) given) (shut_north (given_north w n s))
shut_gives service w p given n s st may = shut_stands service p (given + given_more service p (w.room s) given) (given_north w n s) (given_stands service w p given n s st may)

-- what TCP is after it
pub written_is : {S K : Type 0} (service : Machine S) (w : Writer K) (p : Point) (given : ℕ) (n : NorthState S) (s : K) → NorthStands service p given n → given ≤ released service p
    → shut_socket w (given_north w n s) (given_socket w n s) ≡ written w s (given_text service p (w.room s) given) (closes (given_north w n s))
written_is service w p given n s st may = ap (λ l. written w s l (closes (given_north w n s))) (text_is service p given (w.room s) n st may)
