-- TCP is closed exactly where a logged read has closed the service and all output is given.
use Rattle.std.proofs.Common.{◌≡◌, ℕ, ◌+◌, ◌≤◌, ◌==◌, ◌&&◌, ◌||◌, Bool, true, false, not, refl, sym, ap, ◌∙◌, List, [], ◌∷◌, length, arith}
use Rattle.server_trait.specs.Service.{Machine, Served}
use Rattle.ft_model.specs.Point.{Point, made, released, whole_run, answered_run}
use Rattle.ft_model.proofs.Services.{prefix_length}
use Rattle.north_wrap.specs.NorthState.{NorthState, Reads, read_on, socket_on, given_north, shut_north}
use Rattle.north_wrap.specs.Sockets.{Reader, Writer}
use Rattle.north_wrap.specs.Refinement.{NorthStands, given_more, is_all_given, with_reads}
use Rattle.north_wrap.proofs.Logged.{answered_front, answered_stays, made_stays}
use Rattle.north_wrap.proofs.Giving.{given_stands, closes_is}

-- either it was closed before, and nothing is left to give, or it is closed now where it may be
by_shut : (shut logged : Bool) (made given more : ℕ) → (shut ≡ true → logged ≡ true) → (shut ≡ true → given ≡ made) → given + more ≤ made → (shut || (not shut && logged && made == given + more)) ≡ (logged && made == given + more)
by_shut true true made given more l all low = let e : given + more ≡ made = omega (arith, all refl, low) in grind (arith, e)
by_shut true false made given more l all low = sym (l refl)
by_shut false true made given more l all low = refl
by_shut false false made given more l all low = refl

pub shut_is : {S K : Type 0} (service : Machine S) (w : Writer K) (p : Point) (given : ℕ) (n : NorthState S) (s : K) → NorthStands service p given n → given ≤ released service p
    → (shut_north (given_north w n s)).shut ≡ is_all_given service p (given + given_more service p (w.room s) given)
shut_is service w p given n s st may =
    let after : NorthStands service p (given + given_more service p (w.room s) given) (given_north w n s) = given_stands service w p given n s st may in
    let now = closes_is service p (given + given_more service p (w.room s) given) (given_north w n s) after in
    let low : released service p ≤ made service p = prefix_length (answered_run service p).output (whole_run service p).output (answered_front service p).output in
    ap (λ b. n.shut || b) now ∙ by_shut n.shut (answered_run service p).closed (made service p) given (given_more service p (w.room s) given) st.shut_logged st.shut_given (omega (arith, may, low))

-- whether all is given is asked of the logged run alone
pub all_given_stays : {S : Type 0} (service : Machine S) (p : Point) (given : ℕ) (ks : List ℕ) → p.reads_answered ≤ length p.lengths → is_all_given service (with_reads ks p) given ≡ is_all_given service p given
all_given_stays service p given ks h = by_closed (answered_run service p).closed refl
  where
    by_closed : (c : Bool) → (answered_run service p).closed ≡ c → is_all_given service (with_reads ks p) given ≡ is_all_given service p given
    by_closed true c = λ j. (answered_stays service p ks h j).closed && made_stays service p ks h c j == given
    by_closed false c =
        let no : (answered_run service (with_reads ks p)).closed ≡ false = ap (λ r. r.closed) (answered_stays service p ks h) ∙ c in
        (λ j. no j && made service (with_reads ks p) == given) ∙ (let back = sym c in λ j. back j && made service p == given)

-- reads leave it closed or not, ..
pub reads_keep_shut : {S K : Type 0} (after : S → List ℕ → Served S) (r : Reader K) (una : ℕ) (n : NorthState S) (s : K) (ks : List ℕ) (m : NorthState S) (t : K) → Reads after r una n s ks m t → m.shut ≡ n.shut
unfolding read_on
reads_keep_shut after r una n s [] m t reads = ap (λ x. x.shut) reads.1
reads_keep_shut after r una n s (k ∷ ks) m t reads = reads_keep_shut after r una (read_on after (r.unread s) k n) (socket_on r k n s) ks m t reads.1
