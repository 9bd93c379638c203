-- Texts that are written in parts, and fronts of them where a part failed.
use Rattle.std.proofs.Common.{◌≡◌, ◌∙◌, ℕ, List, [], ◌++◌, Option, Result, Ok, Err, OnErr, IsErrAnd, refl, sym, ap, subst, append_assoc, append-nil, take, drop}
use Rattle.std.proofs.lemmas.List.{take-append-drop}
use Rattle.std.proofs.KnownBytes.{Appends-nil, Appends-trans}
use Rattle.std.specs.Io.KnownBytes.{Appends}
use Rattle.ft_io.specs.Sink.{AppendsFront}
use Rattle.replay_check.specs.PartialWrite.{IsOnItsWay, WroteFront}

-- the sink took a front of a part
pub front_taken : (a b : Option (List ℕ)) (xs : List ℕ) → AppendsFront a b xs → WroteFront a b xs
front_taken a b xs f = (take f.0 xs, f.1, (drop f.0 xs, take-append-drop f.0 xs))

-- two parts
pub then_whole : (a b c : Option (List ℕ)) (xs ys : List ℕ) → Appends a b xs → Appends b c ys → Appends a c (xs ++ ys)
then_whole a b c xs ys p q = Appends-trans a b c xs ys p q

-- the second failed
pub then_front : (a b c : Option (List ℕ)) (xs ys : List ℕ) → Appends a b xs → WroteFront b c ys → WroteFront a c (xs ++ ys)
then_front a b c xs ys p q = (xs ++ q.0, Appends-trans a b c xs q.0 p q.1, (q.2.0, append_assoc xs q.0 q.2.0 ∙ ap (λ l. xs ++ l) q.2.1))

-- the first failed
pub front_then : (a b : Option (List ℕ)) (xs ys : List ℕ) → WroteFront a b xs → WroteFront a b (xs ++ ys)
front_then a b xs ys p = (p.0, p.1, (p.2.0 ++ ys, sym (append_assoc p.0 p.2.0 ys) ∙ ap (λ l. l ++ ys) p.2.1))

-- nothing is on its way
pub none_on_its_way : (old : Option (List ℕ)) (held : List ℕ) → IsOnItsWay old old held held
none_on_its_way old held = record { front = []; taken = Appends-nil old; whole = refl }

-- more is held
pub more_held : (old now : Option (List ℕ)) (held text lines : List ℕ) → IsOnItsWay old now held text → IsOnItsWay old now (held ++ lines) (text ++ lines)
more_held old now held text lines w = record { front = w.front; taken = w.taken; whole = sym (append_assoc w.front held lines) ∙ ap (λ l. l ++ lines) w.whole }

-- what is held is taken
pub held_taken : (old now new : Option (List ℕ)) (held after text : List ℕ) → Appends now new held → after ≡ [] → IsOnItsWay old now held text → IsOnItsWay old new after text
held_taken old now new held after text p none w =
    record { front = w.front ++ held; taken = Appends-trans old now new w.front held w.taken p; whole = ap (λ l. (w.front ++ held) ++ l) none ∙ append-nil (w.front ++ held) ∙ w.whole }

-- a front of what is held is taken
pub held_front : (old now new : Option (List ℕ)) (held text : List ℕ) → AppendsFront now new held → IsOnItsWay old now held text → WroteFront old new text
held_front old now new held text p w =
    let f : WroteFront now new held = front_taken now new held p in
    let g : WroteFront old new (w.front ++ held) = then_front old now new w.front held w.taken f in
    subst (WroteFront old new) w.whole g

-- nothing is held any more
pub all_taken : (old new : Option (List ℕ)) (held text : List ℕ) → held ≡ [] → IsOnItsWay old new held text → Appends old new text
all_taken old new held text none w = subst (Appends old new) (sym (append-nil w.front) ∙ ap (λ l. w.front ++ l) (sym none) ∙ w.whole) w.taken

-- what is known where a call ends well, and where it doesn't
pub when_err : {T E B : Type 0} {A : E → Type 0} (r : Result T E) → IsErrAnd r A → ((end : E) → A end → B) → OnErr r B
when_err (Ok x) a f = absurd a
when_err (Err e) a f = f e a
