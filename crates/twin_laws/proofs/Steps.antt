-- Every delivery keeps what holds of a pair.
use Rattle.std.proofs.Common.{◌≡◌, ℕ, zero, suc, ◌+◌, ◌≤◌, ◌==◌, ◌&&◌, not, Bool, true, false, refl, sym, ap, ◌∙◌, subst, true≢false, Option, Some, None, List, [], ◌∷◌, ◌++◌, length, drop, slice_get, append-nil, le_refl, arith, eqb-true, nat_lt, nat_le, if◌then◌else◌}
use Rattle.std.specs.List.{AllByRecursion}
use Rattle.std.specs.Option.{option_to_list}
use Rattle.seq_arith.specs.Message.{Message, is_answer}
use Rattle.ft_io.proofs.Choices.{holds_if, holds_either_way}
use Rattle.ft_model.specs.Log.{log_after, answer_to}
use Rattle.ft_model.proofs.Lists.{all_append, all_weaker, all_slice_get, none_is_some}
use Rattle.twin_laws.specs.Twin.{Request, Between, Head, Tail, Does, head_takes, with_taken, waiting, forwarding, is_wide, waits, numbered, confirmed_to, tail_applies, has_room, head_paired, head_alone, tail_alone, nothing, sends_waiting, applies_next, confirms_again}
use Rattle.twin_laws.specs.Twin.Comes.{Asks, Reports, Is_noise}
use Rattle.twin_laws.specs.Twin.Between.{Forward, Got}
use Rattle.twin_laws.specs.Pair.{Pair, Delivery, new_pair, reported_by, head_has, tail_has, pair_after, pair_over, ActsAsOne}
use Rattle.twin_laws.specs.declared.part.Part.{Part}
use Rattle.twin_laws.specs.declared.part.Part.TheVariants as parts
use Rattle.twin_laws.specs.Pair.Delivery.{Server_asks, Other_reports, Noise_comes_to, Stops}
use Rattle.twin_laws.proofs.Holding.{Holds, Paired, paired_from, holds_from, took, applies, tail_given, head_given, head_stops, tail_stops}

-- a Forward that was sent has a message of the head's at its number
abbrev pub IsForwarded : List Request → Between → Type 0
IsForwarded taken (Forward k r) = (i : ℕ) × (k ≡ i + 1) × (slice_get taken i ≡ Some r)
IsForwarded taken (Got k) = ⊥

-- a Got that was sent has a number that the tail has applied
abbrev pub IsGotten : ℕ → Between → Type 0
IsGotten n (Forward k r) = ⊥
IsGotten n (Got k) = k ≤ n

pub record PairInvariant (p : Pair) : Type 0 where
  pub holds : Holds p.head_stopped p.tail_stopped p.head.taken p.head.confirmed p.tail.applied p.head.log p.tail.log p.answers p.given
  pub forwards : AllByRecursion (IsForwarded p.head.taken) p.from_head
  pub gots : AllByRecursion (IsGotten p.tail.applied) p.from_tail
  pub head_alone : p.head.alone ≡ p.tail_stopped
  pub tail_alone : p.tail.alone ≡ p.head_stopped
  pub one : (p.head_stopped && p.tail_stopped) ≡ false
  pub none : p.head_stopped ≡ false → p.tail_stopped ≡ false → p.given ≡ []

pub acts : (p : Pair) → PairInvariant p → ActsAsOne p
acts p s = record {
  confirmed = s.holds.confirmed;
  applied = s.holds.applied;
  tail = s.holds.tail_is;
  head = s.holds.head_is;
  answers = s.holds.answers_are;
  one = s.one;
  none = s.none;
}

pub start : PairInvariant new_pair
start = record {
  holds = record { confirmed = le_refl 0; applied = le_refl 0; tail_is = refl; head_is = refl; answers_are = refl };
  forwards = tt;
  gots = tt;
  head_alone = refl;
  tail_alone = refl;
  one = refl;
  none = λ h t. refl;
}

abbrev pub pair_of : (hs ts : Bool) → Head → Tail → (from_head from_tail : List Between) → (answers : List Message) (given : List Request) → Pair
pair_of hs ts head tail from_head from_tail answers given =
    record { head = head; tail = tail; from_head = from_head; from_tail = from_tail; answers = answers; given = given; head_stopped = hs; tail_stopped = ts }

-- what the head's turn makes of a pair, and the tail's
abbrev pub with_head : Pair → List Request → Does Head → Pair
with_head p given d = record p { head = d.next; from_head = p.from_head ++ d.to_other; answers = p.answers ++ d.to_server; given = given }

abbrev pub with_tail : Pair → List Request → Does Tail → Pair
with_tail p given d = record p { tail = d.next; from_tail = p.from_tail ++ d.to_other; answers = p.answers ++ d.to_server; given = given }

quiet_head : (p : Pair) → PairInvariant p → PairInvariant (with_head p p.given (nothing p.head))
quiet_head p s =
    subst (λ f. PairInvariant (record p { from_head = f; answers = p.answers ++ [] })) (sym (append-nil p.from_head))
    (subst (λ a. PairInvariant (record p { answers = a })) (sym (append-nil p.answers)) s)

quiet_tail : (p : Pair) → PairInvariant p → PairInvariant (with_tail p p.given (nothing p.tail))
quiet_tail p s =
    subst (λ f. PairInvariant (record p { from_tail = f; answers = p.answers ++ [] })) (sym (append-nil p.from_tail))
    (subst (λ a. PairInvariant (record p { answers = a })) (sym (append-nil p.answers)) s)

-- the head takes a message in a pair
pub slice_more : {A : Type 0} (xs : List A) (y : A) (i : ℕ) (x : A) → slice_get xs i ≡ Some x → slice_get (xs ++ y ∷ []) i ≡ Some x
slice_more [] y i x e = none_is_some x e
slice_more (z ∷ xs) y zero x e = e
slice_more (z ∷ xs) y (suc i) x e = slice_more xs y i x e

pub still_forwarded : (taken : List Request) (r : Request) (b : Between) → IsForwarded taken b → IsForwarded (taken ++ r ∷ []) b
still_forwarded taken r (Forward k x) f = (f.0, f.1, slice_more taken r f.0 x f.2)
still_forwarded taken r (Got k) f = f

takes : (p : Pair) (r : Request) → p.head_stopped ≡ false → p.tail_stopped ≡ false → PairInvariant p → PairInvariant (record p { head = with_taken r p.head })
takes p r hs ts s =
    let at : Holds false false p.head.taken p.head.confirmed p.tail.applied p.head.log p.tail.log p.answers p.given =
    subst (λ b. Holds b false p.head.taken p.head.confirmed p.tail.applied p.head.log p.tail.log p.answers p.given) hs
    (subst (λ b. Holds p.head_stopped b p.head.taken p.head.confirmed p.tail.applied p.head.log p.tail.log p.answers p.given) ts s.holds) in
    let paired : Paired p.head.taken p.head.confirmed p.tail.applied p.head.log p.tail.log p.answers = paired_from _ _ _ _ _ _ p.given at in
    let now : Holds false false (p.head.taken ++ r ∷ []) p.head.confirmed p.tail.applied (log_after p.head.log r.message) p.tail.log p.answers p.given =
    holds_from _ _ _ _ _ _ p.given (took _ _ _ _ _ _ r paired) in
    record {
      holds = subst (λ b. Holds b p.tail_stopped (p.head.taken ++ r ∷ []) p.head.confirmed p.tail.applied (log_after p.head.log r.message) p.tail.log p.answers p.given) (sym hs)
          (subst (λ b. Holds false b (p.head.taken ++ r ∷ []) p.head.confirmed p.tail.applied (log_after p.head.log r.message) p.tail.log p.answers p.given) (sym ts) now);
      forwards = all_weaker (IsForwarded p.head.taken) (IsForwarded (p.head.taken ++ r ∷ [])) p.from_head (still_forwarded p.head.taken r) s.forwards;
      gots = s.gots;
      head_alone = s.head_alone;
      tail_alone = s.tail_alone;
      one = s.one;
      none = s.none;
    }

abbrev is_nil : List Request → Bool
is_nil [] = true
is_nil (x ∷ xs) = false

abbrev first_of_list : List Request → Option Request
first_of_list [] = None
first_of_list (x ∷ xs) = Some x

pub first_waits : (xs : List Request) (n : ℕ) (r : Request) (rest : List Request) → drop n xs ≡ r ∷ rest → slice_get xs n ≡ Some r
first_waits [] zero r rest e = absurd (true≢false (ap is_nil e))
first_waits [] (suc n) r rest e = absurd (true≢false (ap is_nil e))
first_waits (x ∷ xs) zero r rest e = ap first_of_list e
first_waits (x ∷ xs) (suc n) r rest e = first_waits xs n r rest e

pub others_wait : (xs : List Request) (n : ℕ) (r : Request) (rest : List Request) → drop n xs ≡ r ∷ rest → drop (suc n) xs ≡ rest
others_wait [] zero r rest e = absurd (true≢false (ap is_nil e))
others_wait [] (suc n) r rest e = absurd (true≢false (ap is_nil e))
others_wait (x ∷ xs) zero r rest e = ap (λ l. drop 1 l) e
others_wait (x ∷ xs) (suc n) r rest e = others_wait xs n r rest e

-- all that waits are messages of the head's at their numbers
pub numbered_are : (taken rest : List Request) (n : ℕ) → drop n taken ≡ rest → AllByRecursion (IsForwarded taken) (numbered n rest)
numbered_are taken [] n e = tt
numbered_are taken (r ∷ rest) n e =
    let next : n + 1 ≡ suc n = omega arith in
    ((n, refl, first_waits taken n r rest e), numbered_are taken rest (n + 1) (ap (λ k. drop k taken) next ∙ others_wait taken n r rest e))

waiting_sent : (p : Pair) → PairInvariant p → PairInvariant (record p { from_head = p.from_head ++ waiting p.head; answers = p.answers ++ [] })
waiting_sent p s =
    let all : AllByRecursion (IsForwarded p.head.taken) (p.from_head ++ waiting p.head) =
    all_append (IsForwarded p.head.taken) p.from_head (waiting p.head) s.forwards (numbered_are p.head.taken (drop p.head.confirmed p.head.taken) p.head.confirmed refl) in
    let now : PairInvariant (record p { from_head = p.from_head ++ waiting p.head }) =
    record { holds = s.holds; forwards = all; gots = s.gots; head_alone = s.head_alone; tail_alone = s.tail_alone; one = s.one; none = s.none } in
    subst (λ a. PairInvariant (record p { from_head = p.from_head ++ waiting p.head; answers = a })) (sym (append-nil p.answers)) now

-- the new message is at its number
new_at_end : (taken : List Request) (r : Request) → slice_get (taken ++ r ∷ []) (length taken) ≡ Some r
new_at_end [] r = refl
new_at_end (x ∷ taken) r = new_at_end taken r

-- what is forwarded of a message that was taken: that one alone, or all that waits
pub forwards_are : (r : Request) (h : Head) → AllByRecursion (IsForwarded (h.taken ++ r ∷ [])) (forwarding r h)
forwards_are r h =
    holds_either_way (AllByRecursion (IsForwarded (h.taken ++ r ∷ []))) (is_wide r.bytes && not (waits r h)) (Forward (length h.taken + 1) r ∷ []) (waiting (with_taken r h))
    ((length h.taken, refl, new_at_end h.taken r), tt)
    (numbered_are (h.taken ++ r ∷ []) (drop h.confirmed (h.taken ++ r ∷ [])) h.confirmed refl)

taken_sent : (p : Pair) (r : Request) → PairInvariant (record p { head = with_taken r p.head }) → PairInvariant (with_head p p.given (head_takes r p.head))
taken_sent p r s =
    let all : AllByRecursion (IsForwarded (p.head.taken ++ r ∷ [])) (p.from_head ++ forwarding r p.head) =
    all_append (IsForwarded (p.head.taken ++ r ∷ [])) p.from_head (forwarding r p.head) s.forwards (forwards_are r p.head) in
    let now : PairInvariant (record p { head = with_taken r p.head; from_head = p.from_head ++ forwarding r p.head }) =
    record { holds = s.holds; forwards = all; gots = s.gots; head_alone = s.head_alone; tail_alone = s.tail_alone; one = s.one; none = s.none } in
    subst (λ a. PairInvariant (record p { head = with_taken r p.head; from_head = p.from_head ++ forwarding r p.head; answers = a })) (sym (append-nil p.answers)) now

abbrev pub HeadStands : Pair → List Request → Does Head → Type 0
HeadStands p given d = PairInvariant (with_head p given d)

pub asks_head : (hs ts : Bool) (head : Head) (tail : Tail) (fh ft : List Between) (answers : List Message) (given : List Request) (r : Request)
    → PairInvariant (pair_of hs ts head tail fh ft answers given) → PairInvariant (head_has (Asks r) (pair_of hs ts head tail fh ft answers given))
asks_head true ts head tail fh ft answers given r s = s
asks_head false true head tail fh ft answers given r s =
    let p : Pair = pair_of false true head tail fh ft answers given in
    holds_if (HeadStands p (given ++ r ∷ [])) head.alone (head_alone r head) (head_paired r head)
    (λ alone. record {
      holds = head_given _ _ _ _ _ _ given r s.holds;
      forwards = subst (AllByRecursion (IsForwarded head.taken)) (sym (append-nil fh)) s.forwards;
      gots = s.gots;
      head_alone = s.head_alone;
      tail_alone = s.tail_alone;
      one = s.one;
      none = λ h t. absurd (true≢false t);
    })
    (λ paired. absurd (true≢false (sym s.head_alone ∙ paired)))
asks_head false false head tail fh ft answers given r s =
    let p : Pair = pair_of false false head tail fh ft answers given in
    holds_if (HeadStands p given) head.alone (head_alone r head) (head_paired r head)
    (λ alone. absurd (true≢false (sym alone ∙ s.head_alone)))
    (λ paired. holds_if (HeadStands p given) (is_answer r.message.body) (nothing head) (if has_room head then head_takes r head else sends_waiting head)
    (λ answer. quiet_head p s)
    (λ asking. holds_if (HeadStands p given) (has_room head) (head_takes r head) (sends_waiting head)
    (λ room. taken_sent p r (takes p r refl refl s))
    (λ full. waiting_sent p s)))

-- what the head doesn't act on
pub head_passes : (hs ts : Bool) (head : Head) (tail : Tail) (fh ft : List Between) (answers : List Message) (given : List Request)
    → PairInvariant (pair_of hs ts head tail fh ft answers given) → PairInvariant (head_has Is_noise (pair_of hs ts head tail fh ft answers given))
head_passes true ts head tail fh ft answers given s = s
head_passes false true head tail fh ft answers given s =
    subst (λ g. PairInvariant (with_head (pair_of false true head tail fh ft answers given) g (nothing head))) (sym (append-nil given))
    (quiet_head (pair_of false true head tail fh ft answers given) s)
head_passes false false head tail fh ft answers given s = quiet_head (pair_of false false head tail fh ft answers given) s

pub tail_passes : (hs ts : Bool) (head : Head) (tail : Tail) (fh ft : List Between) (answers : List Message) (given : List Request)
    → PairInvariant (pair_of hs ts head tail fh ft answers given) → PairInvariant (tail_has Is_noise (pair_of hs ts head tail fh ft answers given))
tail_passes hs true head tail fh ft answers given s = s
tail_passes true false head tail fh ft answers given s =
    subst (λ g. PairInvariant (with_tail (pair_of true false head tail fh ft answers given) g (nothing tail))) (sym (append-nil given))
    (quiet_tail (pair_of true false head tail fh ft answers given) s)
tail_passes false false head tail fh ft answers given s = quiet_tail (pair_of false false head tail fh ft answers given) s

got_confirms : (p : Pair) (k : ℕ) → k ≤ p.tail.applied → p.head_stopped ≡ false → p.tail_stopped ≡ false → PairInvariant p → PairInvariant (record p { head = record p.head { confirmed = k } })
got_confirms p k few hs ts s = record {
  holds = record { confirmed = few; applied = s.holds.applied; tail_is = s.holds.tail_is; head_is = s.holds.head_is; answers_are = s.holds.answers_are };
  forwards = s.forwards;
  gots = s.gots;
  head_alone = s.head_alone;
  tail_alone = s.tail_alone;
  one = s.one;
  none = s.none;
}

pub got : (hs ts : Bool) (head : Head) (tail : Tail) (fh ft : List Between) (answers : List Message) (given : List Request) (k : ℕ) → k ≤ tail.applied
    → PairInvariant (pair_of hs ts head tail fh ft answers given) → PairInvariant (head_has (Reports (Got k)) (pair_of hs ts head tail fh ft answers given))
got true ts head tail fh ft answers given k few s = s
got false true head tail fh ft answers given k few s =
    let p : Pair = pair_of false true head tail fh ft answers given in
    holds_if (HeadStands p (given ++ [])) head.alone (nothing head) (nothing (confirmed_to k head))
    (λ alone. subst (λ g. HeadStands p g (nothing head)) (sym (append-nil given)) (quiet_head p s))
    (λ paired. absurd (true≢false (sym s.head_alone ∙ paired)))
got false false head tail fh ft answers given k few s =
    let p : Pair = pair_of false false head tail fh ft answers given in
    holds_if (HeadStands p given) head.alone (nothing head) (nothing (confirmed_to k head))
    (λ alone. absurd (true≢false (sym alone ∙ s.head_alone)))
    (λ paired. holds_if (λ h. HeadStands p given (nothing h)) (nat_lt head.confirmed k && nat_le k (length head.taken)) (record head { confirmed = k }) head
    (λ rises. quiet_head (record p { head = record head { confirmed = k } }) (got_confirms p k few refl refl s))
    (λ stays. quiet_head p s))

pub other_reports_head : (p : Pair) (o : Option Between) → ((b : Between) → o ≡ Some b → IsGotten p.tail.applied b) → PairInvariant p → PairInvariant (head_has (reported_by o) p)
other_reports_head p None f s = head_passes p.head_stopped p.tail_stopped p.head p.tail p.from_head p.from_tail p.answers p.given s
other_reports_head p (Some (Got k)) f s = got p.head_stopped p.tail_stopped p.head p.tail p.from_head p.from_tail p.answers p.given k (f (Got k) refl) s
other_reports_head p (Some (Forward k r)) f s = absurd (f (Forward k r) refl)

-- the tail applies what the head forwarded next
next_applied : (p : Pair) (k : ℕ) (r : Request) → p.head_stopped ≡ false → p.tail_stopped ≡ false → k ≡ p.tail.applied + 1 → IsForwarded p.head.taken (Forward k r) → PairInvariant p
    → PairInvariant (with_tail p p.given (applies_next r p.tail))
next_applied p k r hs ts e f s =
    let at : Holds false false p.head.taken p.head.confirmed p.tail.applied p.head.log p.tail.log p.answers p.given =
    subst (λ b. Holds b false p.head.taken p.head.confirmed p.tail.applied p.head.log p.tail.log p.answers p.given) hs
    (subst (λ b. Holds p.head_stopped b p.head.taken p.head.confirmed p.tail.applied p.head.log p.tail.log p.answers p.given) ts s.holds) in
    let paired : Paired p.head.taken p.head.confirmed p.tail.applied p.head.log p.tail.log p.answers = paired_from _ _ _ _ _ _ p.given at in
    let same : f.0 ≡ p.tail.applied = omega (arith, f.1, e) in
    let there : slice_get p.head.taken p.tail.applied ≡ Some r = subst (λ i. slice_get p.head.taken i ≡ Some r) same f.2 in
    let now : Holds false false p.head.taken p.head.confirmed (p.tail.applied + 1) p.head.log (log_after p.tail.log r.message) (p.answers ++ option_to_list (answer_to p.tail.log r.message)) p.given =
    holds_from _ _ _ _ _ _ p.given (applies _ _ _ _ _ _ r there paired) in
    record {
      holds = subst (λ b. Holds b p.tail_stopped p.head.taken p.head.confirmed (p.tail.applied + 1) p.head.log (log_after p.tail.log r.message) (p.answers ++ option_to_list (answer_to p.tail.log r.message)) p.given) (sym hs)
          (subst (λ b. Holds false b p.head.taken p.head.confirmed (p.tail.applied + 1) p.head.log (log_after p.tail.log r.message) (p.answers ++ option_to_list (answer_to p.tail.log r.message)) p.given) (sym ts) now);
      forwards = s.forwards;
      gots = all_append (IsGotten (p.tail.applied + 1)) p.from_tail (Got (p.tail.applied + 1) ∷ [])
          (all_weaker (IsGotten p.tail.applied) (IsGotten (p.tail.applied + 1)) p.from_tail (λ b g. still_gotten p.tail.applied b g) s.gots) (le_refl (p.tail.applied + 1), tt);
      head_alone = s.head_alone;
      tail_alone = s.tail_alone;
      one = s.one;
      none = s.none;
    }
  where
    still_gotten : (n : ℕ) (b : Between) → IsGotten n b → IsGotten (n + 1) b
    still_gotten n (Forward k r) g = g
    still_gotten n (Got k) g = omega (arith, g)

reports_again : (p : Pair) → PairInvariant p → PairInvariant (with_tail p p.given (confirms_again p.tail))
reports_again p s =
    subst (λ a. PairInvariant (record p { from_tail = p.from_tail ++ Got p.tail.applied ∷ []; answers = a })) (sym (append-nil p.answers))
    (record {
      holds = s.holds;
      forwards = s.forwards;
      gots = all_append (IsGotten p.tail.applied) p.from_tail (Got p.tail.applied ∷ []) s.gots (le_refl p.tail.applied, tt);
      head_alone = s.head_alone;
      tail_alone = s.tail_alone;
      one = s.one;
      none = s.none;
    })

abbrev pub TailStands : Pair → List Request → Does Tail → Type 0
TailStands p given d = PairInvariant (with_tail p given d)

pub forward : (hs ts : Bool) (head : Head) (tail : Tail) (fh ft : List Between) (answers : List Message) (given : List Request) (k : ℕ) (r : Request) → IsForwarded head.taken (Forward k r)
    → PairInvariant (pair_of hs ts head tail fh ft answers given) → PairInvariant (tail_has (Reports (Forward k r)) (pair_of hs ts head tail fh ft answers given))
forward hs true head tail fh ft answers given k r f s = s
forward true false head tail fh ft answers given k r f s =
    let p : Pair = pair_of true false head tail fh ft answers given in
    holds_if (TailStands p (given ++ [])) tail.alone (nothing tail) (tail_applies k r tail)
    (λ alone. subst (λ g. TailStands p g (nothing tail)) (sym (append-nil given)) (quiet_tail p s))
    (λ paired. absurd (true≢false (sym s.tail_alone ∙ paired)))
forward false false head tail fh ft answers given k r f s =
    let p : Pair = pair_of false false head tail fh ft answers given in
    holds_if (TailStands p given) tail.alone (nothing tail) (tail_applies k r tail)
    (λ alone. absurd (true≢false (sym alone ∙ s.tail_alone)))
    (λ paired. holds_if (TailStands p given) (k == tail.applied + 1)
    (applies_next r tail)
    (if nat_le k tail.applied then confirms_again tail else nothing tail)
    (λ next. next_applied p k r refl refl (eqb-true k (tail.applied + 1) next) f s)
    (λ other. holds_if (TailStands p given) (nat_le k tail.applied) (confirms_again tail) (nothing tail)
    (λ had. reports_again p s) (λ gap. quiet_tail p s)))

other_reports_tail : (p : Pair) (o : Option Between) → ((b : Between) → o ≡ Some b → IsForwarded p.head.taken b) → PairInvariant p → PairInvariant (tail_has (reported_by o) p)
other_reports_tail p None f s = tail_passes p.head_stopped p.tail_stopped p.head p.tail p.from_head p.from_tail p.answers p.given s
other_reports_tail p (Some (Forward k r)) f s = forward p.head_stopped p.tail_stopped p.head p.tail p.from_head p.from_tail p.answers p.given k r (f (Forward k r) refl) s
other_reports_tail p (Some (Got k)) f s = absurd (f (Got k) refl)

pub asks_tail : (hs ts : Bool) (head : Head) (tail : Tail) (fh ft : List Between) (answers : List Message) (given : List Request) (r : Request)
    → PairInvariant (pair_of hs ts head tail fh ft answers given) → PairInvariant (tail_has (Asks r) (pair_of hs ts head tail fh ft answers given))
asks_tail hs true head tail fh ft answers given r s = s
asks_tail true false head tail fh ft answers given r s =
    let p : Pair = pair_of true false head tail fh ft answers given in
    holds_if (TailStands p (given ++ r ∷ [])) tail.alone (tail_alone r tail) (nothing tail)
    (λ alone. record {
      holds = tail_given _ _ _ _ _ _ given r s.holds;
      forwards = s.forwards;
      gots = subst (AllByRecursion (IsGotten tail.applied)) (sym (append-nil ft)) s.gots;
      head_alone = s.head_alone;
      tail_alone = s.tail_alone;
      one = s.one;
      none = λ h t. absurd (true≢false h);
    })
    (λ paired. absurd (true≢false (sym s.tail_alone ∙ paired)))
asks_tail false false head tail fh ft answers given r s =
    let p : Pair = pair_of false false head tail fh ft answers given in
    holds_if (TailStands p given) tail.alone (tail_alone r tail) (nothing tail)
    (λ alone. absurd (true≢false (sym alone ∙ s.tail_alone))) (λ paired. quiet_tail p s)

pub stops : (hs ts : Bool) (head : Head) (tail : Tail) (fh ft : List Between) (answers : List Message) (given : List Request) (part : Part)
    → PairInvariant (pair_of hs ts head tail fh ft answers given) → PairInvariant (pair_after (pair_of hs ts head tail fh ft answers given) (Stops part))
stops true ts head tail fh ft answers given part s = s
stops false true head tail fh ft answers given part s = s
stops false false head tail fh ft answers given parts.Head s = record {
  holds = head_stops _ _ _ _ _ _ given (s.none refl refl) s.holds;
  forwards = s.forwards;
  gots = s.gots;
  head_alone = s.head_alone;
  tail_alone = refl;
  one = refl;
  none = λ h t. absurd (true≢false h);
}
stops false false head tail fh ft answers given parts.Tail s = record {
  holds = tail_stops _ _ _ _ _ _ given (s.none refl refl) s.holds;
  forwards = s.forwards;
  gots = s.gots;
  head_alone = refl;
  tail_alone = s.tail_alone;
  one = refl;
  none = λ h t. absurd (true≢false t);
}

stands_on : (p : Pair) (d : Delivery) → PairInvariant p → PairInvariant (pair_after p d)
stands_on p (Server_asks parts.Head r) s = asks_head p.head_stopped p.tail_stopped p.head p.tail p.from_head p.from_tail p.answers p.given r s
stands_on p (Server_asks parts.Tail r) s = asks_tail p.head_stopped p.tail_stopped p.head p.tail p.from_head p.from_tail p.answers p.given r s
stands_on p (Other_reports parts.Head place) s =
    other_reports_head p (slice_get p.from_tail place) (λ b e. all_slice_get (IsGotten p.tail.applied) p.from_tail place b s.gots e) s
stands_on p (Other_reports parts.Tail place) s =
    other_reports_tail p (slice_get p.from_head place) (λ b e. all_slice_get (IsForwarded p.head.taken) p.from_head place b s.forwards e) s
stands_on p (Noise_comes_to parts.Head) s = head_passes p.head_stopped p.tail_stopped p.head p.tail p.from_head p.from_tail p.answers p.given s
stands_on p (Noise_comes_to parts.Tail) s = tail_passes p.head_stopped p.tail_stopped p.head p.tail p.from_head p.from_tail p.answers p.given s
stands_on p (Stops part) s = stops p.head_stopped p.tail_stopped p.head p.tail p.from_head p.from_tail p.answers p.given part s

pub stands_over : (p : Pair) (ds : List Delivery) → PairInvariant p → PairInvariant (pair_over p ds)
stands_over p [] s = s
stands_over p (d ∷ ds) s = stands_over (pair_after p d) ds (stands_on p d s)
