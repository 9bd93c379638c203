-- The entry of a key that is done can be recycled, and the key used again.
use Rattle.std.proofs.Common.{◌≡◌, Bool, true, false, ◌==◌, ◌&&◌, not, refl, sym, ap, ◌∙◌, find, Some, None, List, [], ◌∷◌}
use Rattle.std.proofs.lemmas.Bool.{or_from}
use Rattle.std.specs.List.{AllByRecursion, list_any}
use Rattle.ft_io.specs.Key.{key_eq}
use Rattle.ft_model.specs.Client.{Client}
use Rattle.ft_model.specs.Log.{Entry, entry_of}
use Rattle.ft_model.specs.World.{World, IsNewClient}
use Rattle.ft_model.proofs.Lists.{none_is_some}
use Rattle.ft_io.proofs.Choices.{holds_if, if_false}
use Rattle.long_laws.specs.LongTrace.{others, concerns, recycled, MayRecycle, MayArrive}

pub none_left : {A : Type 0} (q : A → Bool) (xs : List A) → list_any q (others q xs) ≡ false
none_left q [] = refl
none_left q (x ∷ xs) =
    holds_if (λ l. list_any q l ≡ false) (q x) (others q xs) (x ∷ others q xs) (λ t. none_left q xs) (λ t. or_from (q x) (list_any q (others q xs)) t (none_left q xs))

pub none_there : {A : Type 0} (q : A → Bool) (xs : List A) → find q (others q xs) ≡ None
none_there q [] = refl
none_there q (x ∷ xs) =
    holds_if (λ l. find q l ≡ None) (q x) (others q xs) (x ∷ others q xs) (λ t. none_there q xs)
    (λ t. if_false (q x) (Some x) (find q (others q xs)) t ∙ none_there q xs)

pub all_others_fail : {A : Type 0} (q : A → Bool) (xs : List A) → AllByRecursion (λ x. q x ≡ false) (others q xs)
all_others_fail q [] = tt
all_others_fail q (x ∷ xs) =
    holds_if (AllByRecursion (λ y. q y ≡ false)) (q x) (others q xs) (x ∷ others q xs) (λ t. all_others_fail q xs) (λ t. (t, all_others_fail q xs))

pub comes_again : (w : World) (c : Client) → w.node ≡ None → ((e : Entry) → entry_of c.key w.log ≡ Some e → e.done ≡ true) → IsNewClient w.server c
    → (c.key.ip == w.server.ip && c.key.port == w.server.port) ≡ false → MayRecycle c.key w × MayArrive c (recycled c.key w)
comes_again w c down done new own = (
  record { done = done; clear = λ n e. none_is_some n (sym down ∙ e); settled = λ n e. none_is_some n (sym down ∙ e) },
  record {
    new = new;
    apart = ap (λ b. not b && not (list_any (λ x. key_eq x.key c.key) (recycled c.key w).clients)) own
        ∙ ap not (none_left (λ x. key_eq x.key c.key) w.clients);
    absent = none_there (λ e. key_eq e.key c.key) w.log.entries;
    clear = λ n e. none_is_some n (sym down ∙ e);
    unreceived = all_others_fail (concerns c.key) w.packets;
  },
)
