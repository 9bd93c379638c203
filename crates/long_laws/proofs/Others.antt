-- What is left of a list without what is of one key.
use Rattle.std.proofs.Common.{◌≡◌, Bool, true, false, ◌&&◌, not, cond, refl, sym, ap, ◌∙◌, subst, true≢false, ⊎_elim, find, Some, None, List, [], ◌∷◌, ◌++◌, map, filter, length, slice_get, if◌then◌else◌}
use Rattle.std.specs.List.{AllByRecursion, list_any}
use Rattle.std.proofs.lemmas.Bool.{or_parts, or_right, or_from}
use Rattle.ft_io.specs.declared.Key.{Key}
use Rattle.ft_io.specs.Key.{key_eq}
use Rattle.seq_arith.specs.Packet.{Segment, has_ack, has_rst}
use Rattle.ft_model.specs.Keys.{has_key, AreDistinct}
use Rattle.ft_model.specs.Masked.{reported_to, last_reported, or_before}
use Rattle.ft_model.specs.Network.{Packet, destination_of}
use Rattle.ft_model.specs.Network.Packet.{To_server, To_client, To_logger, From_logger}
use Rattle.ft_model.specs.Node.{Place, key_of}
use Rattle.ft_model.specs.Node.Place.{Opens, Lives, Ended}
use Rattle.ft_model.proofs.AuthorTurns.{settles, is_settled}
use Rattle.ft_model.proofs.Keys.{key_eq_turns}
use Rattle.ft_model.proofs.Lists.{or_cases, or_left, same_key, none_is_some}
use Rattle.ft_model.proofs.ReportedLast.{or_none}
use Rattle.ft_io.proofs.Choices.{holds_if}
use Rattle.long_laws.specs.LongTrace.{others, concerns}

pub all_others : {A : Type 0} (P Q : A → Type 0) (passes : A → Bool) (xs : List A) → ((x : A) → passes x ≡ false → P x → Q x) → AllByRecursion P xs → AllByRecursion Q (others passes xs)
all_others P Q passes [] f a = tt
all_others P Q passes (x ∷ xs) f a =
    holds_if (AllByRecursion Q) (passes x) (others passes xs) (x ∷ others passes xs) (λ t. all_others P Q passes xs f a.1) (λ t. (f x t a.0, all_others P Q passes xs f a.1))

pub all_filtered : {A : Type 0} (P Q : A → Type 0) (passes : A → Bool) (xs : List A) → ((x : A) → passes x ≡ true → P x → Q x) → AllByRecursion P xs → AllByRecursion Q (filter passes xs)
all_filtered P Q passes [] f a = tt
all_filtered P Q passes (x ∷ xs) f a =
    holds_if (AllByRecursion Q) (passes x) (x ∷ filter passes xs) (filter passes xs) (λ t. (f x t a.0, all_filtered P Q passes xs f a.1)) (λ t. all_filtered P Q passes xs f a.1)

-- another key finds the same
find_one : {A : Type 0} (of : A → Key) (key k : Key) (x : A) (xs ys : List A) (b : Bool) → key_eq (of x) key ≡ b → key_eq k key ≡ false
    → find (λ y. key_eq (of y) k) ys ≡ find (λ y. key_eq (of y) k) xs
    → find (λ y. key_eq (of y) k) (if b then ys else x ∷ ys) ≡ find (λ y. key_eq (of y) k) (x ∷ xs)
find_one of key k x xs ys true e apart rest =
    let other : key_eq (of x) k ≡ false = subst (λ z. key_eq z k ≡ false) (sym (same_key (of x) key e)) (key_eq_turns k key apart) in
    rest ∙ sym (ap (λ b. cond b (Some x) (find (λ y. key_eq (of y) k) xs)) other)
find_one of key k x xs ys false e apart rest = ap (λ o. cond (key_eq (of x) k) (Some x) o) rest

pub find_others : {A : Type 0} (of : A → Key) (key k : Key) (xs : List A) → key_eq k key ≡ false
    → find (λ y. key_eq (of y) k) (others (λ y. key_eq (of y) key) xs) ≡ find (λ y. key_eq (of y) k) xs
find_others of key k [] apart = refl
find_others of key k (x ∷ xs) apart =
    find_one of key k x xs (others (λ y. key_eq (of y) key) xs) (key_eq (of x) key) refl apart (find_others of key k xs apart)

no_key_others : {A : Type 0} (of : A → Key) (k : Key) (passes : A → Bool) (xs : List A) → has_key k (map of xs) ≡ false → has_key k (map of (others passes xs)) ≡ false
no_key_others of k passes [] e = refl
no_key_others of k passes (x ∷ xs) e =
    let parts = or_parts (key_eq (of x) k) (has_key k (map of xs)) e in
    holds_if (λ l. has_key k (map of l) ≡ false) (passes x) (others passes xs) (x ∷ others passes xs) (λ t. no_key_others of k passes xs parts.1)
    (λ t. or_from (key_eq (of x) k) (has_key k (map of (others passes xs))) parts.0 (no_key_others of k passes xs parts.1))

pub distinct_others : {A : Type 0} (of : A → Key) (passes : A → Bool) (xs : List A) → AreDistinct (map of xs) → AreDistinct (map of (others passes xs))
distinct_others of passes [] d = tt
distinct_others of passes (x ∷ xs) d =
    holds_if (λ l. AreDistinct (map of l)) (passes x) (others passes xs) (x ∷ others passes xs) (λ t. distinct_others of passes xs d.1)
    (λ t. (no_key_others of (of x) passes xs d.0, distinct_others of passes xs d.1))

-- a packet of one connection tells no other client anything
reported_elsewhere : (key k : Key) (p : Packet) → concerns key p ≡ true → key_eq k key ≡ false → reported_to k p ≡ None
reported_elsewhere key k (To_client segment) c apart =
    let other : key_eq (destination_of segment) k ≡ false = subst (λ z. key_eq z k ≡ false) (sym (same_key (destination_of segment) key c)) (key_eq_turns k key apart) in
    ap (λ b. if b && has_ack segment && not (has_rst segment) then Some segment.head.ack else None) other
reported_elsewhere key k (To_server segment) c apart = refl
reported_elsewhere key k (To_logger message) c apart = refl
reported_elsewhere key k (From_logger message) c apart = refl

pub last_others : (key k : Key) (packets : List Packet) → key_eq k key ≡ false → last_reported k (others (concerns key) packets) ≡ last_reported k packets
last_others key k [] apart = refl
last_others key k (p ∷ packets) apart =
    let rest : last_reported k (others (concerns key) packets) ≡ last_reported k packets = last_others key k packets apart in
    holds_if (λ l. last_reported k l ≡ last_reported k (p ∷ packets)) (concerns key p) (others (concerns key) packets) (p ∷ others (concerns key) packets)
    (λ t. rest ∙ (or_none (last_reported k packets) ∙ ap (or_before (last_reported k packets)) (sym (reported_elsewhere key k p t apart))))
    (λ t. ap (λ o. or_before o (reported_to k p)) rest)

-- a place that is live or done under another key stays
settles_key : (k : Key) (place : Place) → settles k place ≡ true → key_of place ≡ k
settles_key k (Lives p) e = same_key p.key k e
settles_key k (Ended key) e = same_key key k e
settles_key k (Opens n timestamping) e = absurd (true≢false (sym e))

pub settled_others : (key k : Key) (places : List Place) → key_eq k key ≡ false → is_settled k places ≡ true → is_settled k (others (λ p. key_eq (key_of p) key) places) ≡ true
settled_others key k [] apart e = e
settled_others key k (place ∷ places) apart e =
    let rest : is_settled k places ≡ true → is_settled k (others (λ p. key_eq (key_of p) key) places) ≡ true = settled_others key k places apart in
    holds_if (λ l. is_settled k l ≡ true) (key_eq (key_of place) key) (others (λ p. key_eq (key_of p) key) places) (place ∷ others (λ p. key_eq (key_of p) key) places)
    (λ t. ⊎_elim (λ s. absurd (true≢false (sym t ∙ (ap (λ z. key_eq z key) (settles_key k place s) ∙ apart)))) rest (or_cases (settles k place) (is_settled k places) e))
    (λ t. ⊎_elim (λ s. or_left (settles k place) (is_settled k (others (λ p. key_eq (key_of p) key) places)) s)
    (λ s. or_right (settles k place) (is_settled k (others (λ p. key_eq (key_of p) key) places)) (rest s)) (or_cases (settles k place) (is_settled k places) e))

pub last_there : {A : Type 0} (xs : List A) (x : A) → slice_get (xs ++ x ∷ []) (length xs) ≡ Some x
last_there [] x = refl
last_there (y ∷ xs) x = last_there xs x

-- none of them passes the test
pub none_pass : {A : Type 0} (passes : A → Bool) (xs : List A) → list_any passes xs ≡ false → AllByRecursion (λ x. passes x ≡ false) xs
none_pass passes [] e = tt
none_pass passes (x ∷ xs) e = let parts = or_parts (passes x) (list_any passes xs) e in (parts.0, none_pass passes xs parts.1)

pub none_found : {A : Type 0} (passes : A → Bool) (xs : List A) → find passes xs ≡ None → AllByRecursion (λ x. passes x ≡ false) xs
none_found passes [] e = tt
none_found passes (x ∷ xs) e =
    holds_if (λ o. o ≡ None → AllByRecursion (λ y. passes y ≡ false) (x ∷ xs)) (passes x) (Some x) (find passes xs) (λ t f. none_is_some x (sym f)) (λ t f. (t, none_found passes xs f)) e

-- one packet in the middle is taken out
pub all_but_one : {A : Type 0} (P : A → Type 0) (xs ys : List A) (x : A) → AllByRecursion P ((xs ++ x ∷ []) ++ ys) → AllByRecursion P (xs ++ ys)
all_but_one P [] ys x a = a.1
all_but_one P (y ∷ xs) ys x a = (a.0, all_but_one P xs ys x a.1)

pub last_but_one : (k : Key) (xs ys : List Packet) (segment : Segment) → last_reported k ((xs ++ To_server segment ∷ []) ++ ys) ≡ last_reported k (xs ++ ys)
last_but_one k [] ys segment = sym (or_none (last_reported k ys))
last_but_one k (x ∷ xs) ys segment = ap (λ o. or_before o (reported_to k x)) (last_but_one k xs ys segment)

pub last_with_one : (k : Key) (xs : List Packet) (segment : Segment) → last_reported k (xs ++ To_server segment ∷ []) ≡ last_reported k xs
last_with_one k [] segment = refl
last_with_one k (x ∷ xs) segment = ap (λ o. or_before o (reported_to k x)) (last_with_one k xs segment)
