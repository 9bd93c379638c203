-- Where a live client is stays, whatever is done to the clients; and one that isn't live doesn't refuse.
use Rattle.std.proofs.Common.{◌≡◌, ℕ, zero, suc, Bool, true, false, ◌&&◌, ◌||◌, refl, sym, ap, ap₂, ◌∙◌, subst, true≢false, Some, List, [], ◌∷◌, ◌++◌, find, if◌then◌else◌}
use Rattle.std.specs.List.{AllByRecursion}
use Rattle.std.proofs.lemmas.Bool.{or_parts, or_from}
use Rattle.ft_io.specs.declared.Key.{Key}
use Rattle.ft_io.specs.Key.{key_eq}
use Rattle.ft_io.proofs.Booleans.{and_false, left_true}
use Rattle.ft_io.proofs.Choices.{holds_if}
use Rattle.ft_model.specs.Client.{Client, Move, is_live, may_move, suits_phase, suits_range}
use Rattle.ft_model.specs.Client.ClientKind.{Scripted}
use Rattle.ft_model.specs.Client.Move.{Syn, Text, Fin, Acknowledge, Rst, Refuse}
use Rattle.ft_model.specs.Keys.{AreDistinct}
use Rattle.ft_model.specs.World.{client_at, with_client}
use Rattle.ft_model.proofs.ClientKeys.{keys_in}
use Rattle.ft_model.proofs.FaithfulKept.{IsSameClient}
use Rattle.ft_model.proofs.FaithfulOver.{client_there}
use Rattle.ft_model.proofs.Keys.{all_from_get, finds_itself, key_eq_turns}
use Rattle.ft_model.proofs.Lists.{key_is, none_is_some, same_key, some_is}
use Rattle.trace_laws.specs.Premises.{is_refusal}
use Rattle.long_laws.specs.LongTrace.{others}
use Rattle.long_laws.specs.Refusals.{has_live}
use Rattle.long_laws.proofs.Others.{none_pass}

pub no_refusal : (c : Client) (move : Move) → is_live c.kind ≡ false → may_move c move ≡ true → is_refusal move ≡ false
no_refusal c (Refuse number) dead may =
    let kind : is_live c.kind ≡ true = left_true (is_live c.kind) (suits_phase c (Refuse number)) (left_true (is_live c.kind && suits_phase c (Refuse number)) (suits_range c (Refuse number)) may) in
    absurd (true≢false (sym kind ∙ dead))
no_refusal c (Syn mss) dead may = refl
no_refusal c (Text from len) dead may = refl
no_refusal c Fin dead may = refl
no_refusal c Acknowledge dead may = refl
no_refusal c Rst dead may = refl

-- where all are scripted
pub none_live : (k : Key) (cs : List Client) → AllByRecursion (λ c. c.kind ≡ Scripted) cs → has_live k cs ≡ false
none_live k [] a = refl
none_live k (c ∷ cs) a =
    or_from (key_eq c.key k && is_live c.kind) (has_live k cs) (ap (λ kind. key_eq c.key k && is_live kind) a.0 ∙ and_false (key_eq c.key k)) (none_live k cs a.1)

-- a client that stands in the list
pub not_live : (clients : List Client) (number : ℕ) (c : Client) → client_at clients number ≡ Some c → has_live c.key clients ≡ false → is_live c.kind ≡ false
not_live clients number c there none =
    subst (λ b. (b && is_live c.kind) ≡ false) (key_is c.key)
    (client_there (λ x. (key_eq x.key c.key && is_live x.kind) ≡ false) clients number c (none_pass (λ x. key_eq x.key c.key && is_live x.kind) clients none) there)

found_there : (clients : List Client) (number : ℕ) (c : Client) → AreDistinct (keys_in clients) → client_at clients number ≡ Some c → find (λ x. key_eq x.key c.key) clients ≡ Some c
found_there clients zero c d e = none_is_some c e
found_there clients (suc n) c d e = finds_itself (λ x. x.key) clients n c d e

-- a change that keeps the key and the kind
abbrev pub Renames : Key → (Client → Client) → Client → Type 0
Renames key change c = key_eq c.key key ≡ true → ((change c).key ≡ c.key) × ((change c).kind ≡ c.kind)

pub live_stays : (k key : Key) (change : Client → Client) (cs : List Client) → AllByRecursion (Renames key change) cs → has_live k (with_client key change cs) ≡ has_live k cs
live_stays k key change [] a = refl
live_stays k key change (c ∷ cs) a =
    ap₂ (λ x y. x || y)
    (holds_if (λ d. (key_eq d.key k && is_live d.kind) ≡ (key_eq c.key k && is_live c.kind)) (key_eq c.key key) (change c) c
    (λ t. ap₂ (λ x y. key_eq x k && is_live y) (a.0 t).0 (a.0 t).1) (λ t. refl))
    (live_stays k key change cs a.1)

-- the move of one client changes no other
pub one_moves : (clients : List Client) (number : ℕ) (c later : Client) → AreDistinct (keys_in clients) → client_at clients number ≡ Some c → IsSameClient c later
    → AllByRecursion (Renames c.key (λ x. later)) clients
one_moves clients number c later d there same =
    all_from_get (Renames c.key (λ x. later)) clients
    (λ i x at t. let k : x.key ≡ c.key = same_key x.key c.key t in
    let one : x ≡ c = some_is x c (sym (finds_itself (λ y. y.key) clients i x d at) ∙ (ap (λ z. find (λ y. key_eq y.key z) clients) k ∙ found_there clients number c d there)) in
    (same.key ∙ sym k, same.kind ∙ sym (ap (λ y. y.kind) one)))

-- taking out the clients of another key
live_one : (key k : Key) (c : Client) (b rest more : Bool) → key_eq c.key key ≡ b → key_eq k key ≡ false → rest ≡ more
    → (if b then rest else (key_eq c.key k && is_live c.kind || rest)) ≡ (key_eq c.key k && is_live c.kind || more)
live_one key k c true rest more e apart same =
    same ∙ sym (ap (λ b. b && is_live c.kind || more) (subst (λ z. key_eq z k ≡ false) (sym (same_key c.key key e)) (key_eq_turns k key apart)))
live_one key k c false rest more e apart same = ap (λ x. key_eq c.key k && is_live c.kind || x) same

pub live_others : (key k : Key) (cs : List Client) → key_eq k key ≡ false → has_live k (others (λ c. key_eq c.key key) cs) ≡ has_live k cs
live_others key k [] apart = refl
live_others key k (c ∷ cs) apart =
    let rest : has_live k (others (λ x. key_eq x.key key) cs) ≡ has_live k cs = live_others key k cs apart in
    holds_if (λ l. has_live k l ≡ has_live k (c ∷ cs)) (key_eq c.key key) (others (λ x. key_eq x.key key) cs) (c ∷ others (λ x. key_eq x.key key) cs)
    (λ t. live_one key k c true (has_live k (others (λ x. key_eq x.key key) cs)) (has_live k cs) t apart rest)
    (λ t. ap (λ x. key_eq c.key k && is_live c.kind || x) rest)

pub live_front : (k : Key) (cs : List Client) (c : Client) → has_live k (cs ++ c ∷ []) ≡ false → has_live k cs ≡ false
live_front k [] c e = refl
live_front k (x ∷ cs) c e =
    let parts = or_parts (key_eq x.key k && is_live x.kind) (has_live k (cs ++ c ∷ [])) e in
    or_from (key_eq x.key k && is_live x.kind) (has_live k cs) parts.0 (live_front k cs c parts.1)
