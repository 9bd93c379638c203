-- What a segment makes of a stream agrees with it, where the segment says only what the whole stream has: what is taken goes on with it, and what is
-- held stands at its place. But for the worked runs, which compute it, this file alone looks into `comes`.
use Rattle.std.proofs.Common.{◌≡◌, ℕ, zero, suc, ◌+◌, ◌-◌, ◌≤◌, ℤ, pos, ◌+ℤ◌, int_le, nat_le, Bool, true, false, ◌==◌, ◌&&◌, refl, sym, ap, ap₂, ◌∙◌, subst, true≢false, ◌⊎◌, ⊎_elim, Option, Some, None, List, [], ◌∷◌, ◌++◌, length, take, drop, drop-drop, length-append, length-drop, arith, leb-true, eqb-true}
use Rattle.std.specs.Prelude.{nat_abs, IfSome}
use Rattle.std.proofs.lemmas.Bool.{and_parts}
use Rattle.tcp_rules.specs.Arrival.{int_eq, below}
use Rattle.tcp_rules.specs.Early.{laid, run_count, most_runs, held_with, front_run, behind_front_run}
use Rattle.tcp_rules.specs.Coming.{Early, Came, nothing_came, text_edge, ahead, new_text, with_text, holds_fin, with_fin, continued, stands_at, with_fin_taken, comes}
use Rattle.ft_model.specs.Growth.{IsPrefix}
use Rattle.ft_model.proofs.Stands.{nothing_first, part_stands, take_nothing}
use Rattle.ft_model.proofs.Fetching.{join_front}
use Rattle.ft_io.proofs.Choices.{holds_if, holds_either_way}
use Rattle.ft_io.proofs.Numbers.{plus_none}

-- the places hold bytes of the stream, each at its place
abbrev pub Agrees : List (Option ℕ) → List ℕ → Type 0
Agrees [] stream = Unit {0}
Agrees (None ∷ places) [] = Agrees places []
Agrees (Some x ∷ places) [] = ⊥
Agrees (None ∷ places) (y ∷ stream) = Agrees places stream
Agrees (Some x ∷ places) (y ∷ stream) = (x ≡ y) × Agrees places stream

-- The bytes taken are a front of the stream, what is held is the stream's, and a FIN is taken or held only at its end, and where the stream has ended
pub record Fronts (whole : List ℕ) (ends : Type 0) (taken : List ℕ) (fin : Bool) (early : Early) : Type 0 where
  pub front : IsPrefix taken whole
  pub fin_taken : fin ≡ true → ends × (length taken ≡ length whole)
  pub held : Agrees early.text (drop (length taken) whole)
  pub held_fin : IfSome early.fin (λ offset. ends × (offset ≡ length whole))

-- a text and a FIN of the stream, from an offset on; or none
abbrev pub Says : List ℕ → Type 0 → ℤ → List ℕ → Bool → Type 0
Says whole ends first text has_fin =
    ((offset : ℕ) × (first ≡ pos offset) × IsPrefix text (drop offset whole) × (has_fin ≡ true → ends × (offset + length text ≡ length whole)))
    ⊎ ((text ≡ []) × (has_fin ≡ false))

pub int_same : (m n : ℕ) → int_eq (pos m) (pos n) ≡ true → m ≡ n
int_same m n e =
    let parts = and_parts (int_le (pos m) (pos n)) (int_le (pos n) (pos m)) e in
    let low : m ≤ n = leb-true _ _ parts.0 in
    let high : n ≤ m = leb-true _ _ parts.1 in
    omega (arith, low, high)

abbrev first_or : {A : Type 0} → List A → A → A
first_or [] d = d
first_or (z ∷ zs) d = z

same_first : {A : Type 0} (x y : A) (xs ys : List A) → (x ∷ xs) ≡ (y ∷ ys) → x ≡ y
same_first x y xs ys e = ap (λ l. first_or l x) e

same_rest : {A : Type 0} (x y : A) (xs ys : List A) → (x ∷ xs) ≡ (y ∷ ys) → xs ≡ ys
same_rest x y xs ys e = ap (drop 1) e

not_nothing : {A : Type 0} {X : Type 0} (x : A) (xs : List A) → (x ∷ xs) ≡ [] → X
not_nothing x xs e = absurd (omega (arith, ap length e))

pub drop_nothing : (k : ℕ) → drop {A = ℕ} k [] ≡ []
drop_nothing zero = refl
drop_nothing (suc k) = refl

-- places

-- bytes of the stream are laid over places that agree with it
agrees_laid : (at : ℕ) (new : List ℕ) (places : List (Option ℕ)) (stream : List ℕ) → IsPrefix new (drop at stream) → Agrees places stream → Agrees (laid at new places) stream
unfolding laid
agrees_laid at [] places stream p a = a
agrees_laid zero (x ∷ new) [] [] p a = not_nothing x (new ++ p.0) p.1
agrees_laid zero (x ∷ new) (place ∷ places) [] p a = not_nothing x (new ++ p.0) p.1
agrees_laid zero (x ∷ new) [] (y ∷ stream) p a = (same_first x y _ _ p.1, agrees_laid zero new [] stream (p.0, same_rest x y _ _ p.1) tt)
agrees_laid zero (x ∷ new) (None ∷ places) (y ∷ stream) p a = (same_first x y _ _ p.1, agrees_laid zero new places stream (p.0, same_rest x y _ _ p.1) a)
agrees_laid zero (x ∷ new) (Some z ∷ places) (y ∷ stream) p a = (same_first x y _ _ p.1, agrees_laid zero new places stream (p.0, same_rest x y _ _ p.1) a.1)
agrees_laid (suc k) (x ∷ new) [] [] p a = not_nothing x (new ++ p.0) p.1
agrees_laid (suc k) (x ∷ new) (place ∷ places) [] p a = not_nothing x (new ++ p.0) p.1
agrees_laid (suc k) (x ∷ new) [] (y ∷ stream) p a = agrees_laid k (x ∷ new) [] stream p tt
agrees_laid (suc k) (x ∷ new) (None ∷ places) (y ∷ stream) p a = agrees_laid k (x ∷ new) places stream p a
agrees_laid (suc k) (x ∷ new) (Some z ∷ places) (y ∷ stream) p a = (a.0, agrees_laid k (x ∷ new) places stream p a.1)

agrees_drop : (k : ℕ) (places : List (Option ℕ)) (stream : List ℕ) → Agrees places stream → Agrees (drop k places) (drop k stream)
agrees_drop zero places stream a = a
agrees_drop (suc k) [] stream a = tt
agrees_drop (suc k) (None ∷ places) [] a = subst (Agrees (drop k places)) (drop_nothing k) (agrees_drop k places [] a)
agrees_drop (suc k) (Some x ∷ places) [] a = absurd a
agrees_drop (suc k) (None ∷ places) (y ∷ stream) a = agrees_drop k places stream a
agrees_drop (suc k) (Some x ∷ places) (y ∷ stream) a = agrees_drop k places stream a.1

-- places that agree with a stream agree with a longer one
pub agrees_later : (places : List (Option ℕ)) (stream more : List ℕ) → Agrees places stream → Agrees places (stream ++ more)
agrees_later [] stream more a = tt
agrees_later (None ∷ places) [] [] a = a
agrees_later (None ∷ places) [] (y ∷ more) a = agrees_later places [] more a
agrees_later (Some x ∷ places) [] more a = absurd a
agrees_later (None ∷ places) (y ∷ stream) more a = agrees_later places stream more a
agrees_later (Some x ∷ places) (y ∷ stream) more a = (a.0, agrees_later places stream more a.1)

record RunFits (places : List (Option ℕ)) (stream : List ℕ) : Type 0 where
  run : IsPrefix (front_run places) stream
  left : Agrees (behind_front_run places) (drop (length (front_run places)) stream)

run_fits : (places : List (Option ℕ)) (stream : List ℕ) → Agrees places stream → RunFits places stream
unfolding front_run behind_front_run
run_fits [] stream a = record { run = nothing_first stream; left = tt }
run_fits (None ∷ places) stream a = record { run = nothing_first stream; left = a }
run_fits (Some x ∷ places) [] a = absurd a
run_fits (Some x ∷ places) (y ∷ stream) a =
    let more : RunFits places stream = run_fits places stream a.1 in
    record { run = (more.run.0, ap₂ (λ z l. z ∷ l) a.0 more.run.1); left = more.left }

-- the steps of a segment

-- what a segment has made so far of a stream of which n bytes were taken before it
record StreamFits (whole : List ℕ) (ends : Type 0) (n : ℕ) (c : Came) : Type 0 where
  added : IsPrefix c.added (drop n whole)
  held : Agrees c.early.text (drop (n + length c.added) whole)
  held_fin : IfSome c.early.fin (λ offset. ends × (offset ≡ length whole))
  fin : c.fin ≡ true → ends × (n + length c.added ≡ length whole)

cut_stands : (whole : List ℕ) (n offset k : ℕ) (text : List ℕ) → IsPrefix text (drop offset whole) → IsPrefix (take k (drop (n - offset) text)) (drop (offset - n) (drop n whole))
cut_stands whole n offset k text p =
    let place : offset + (n - offset) ≡ n + (offset - n) = omega arith in
    subst (IsPrefix (take k (drop (n - offset) text))) (ap (λ m. drop m whole) place ∙ sym (drop-drop (offset - n) n whole)) (part_stands k (n - offset) offset text whole p)

-- new text stands where it begins
new_stands : (whole : List ℕ) (ends : Type 0) (n edge : ℕ) (fin : Bool) (early : Early) (first : ℤ) (text : List ℕ) (has_fin : Bool) → Says whole ends first text has_fin
    → IsPrefix (new_text n edge fin early first text) (drop (ahead n first) (drop n whole))
unfolding new_text
new_stands whole ends n edge fin early first text has_fin says =
    ⊎_elim
    (λ s. subst (λ z. IsPrefix (take (text_edge n edge fin early - (n + ahead n z)) (drop (below n z) text)) (drop (ahead n z) (drop n whole))) (sym s.1)
    (cut_stands whole n s.0 (text_edge n edge fin early - (n + (s.0 - n))) text s.2))
    (λ s. subst (λ l. IsPrefix (take (text_edge n edge fin early - (n + ahead n first)) (drop (below n first) l)) (drop (ahead n first) (drop n whole))) (sym s.0)
    (subst (λ l. IsPrefix l (drop (ahead n first) (drop n whole))) (sym (take_nothing (text_edge n edge fin early - (n + ahead n first)) (below n first)))
    (nothing_first (drop (ahead n first) (drop n whole)))))
    says

fin_stands : (whole : List ℕ) (ends : Type 0) (first : ℤ) (text : List ℕ) (has_fin : Bool) → Says whole ends first text has_fin → has_fin ≡ true
    → ends × (nat_abs (first +ℤ pos (length text)) ≡ length whole)
fin_stands whole ends first text has_fin says e =
    ⊎_elim (λ s. let f = s.3 e in (f.0, ap (λ z. nat_abs (z +ℤ pos (length text))) s.1 ∙ f.1)) (λ s. absurd (true≢false (sym e ∙ s.1))) says

-- after the stream's end there is nothing to take
past_end : (whole : List ℕ) (n : ℕ) (xs : List ℕ) → IsPrefix xs (drop n whole) → n ≡ length whole → n + length xs ≡ length whole
past_end whole n xs p e = omega (arith, ap length p.1, length-append xs p.0, length-drop n whole, e)

held_fits : (at : ℕ) (new : List ℕ) (places : List (Option ℕ)) (stream : List ℕ) → IsPrefix new (drop at stream) → Agrees places stream → Agrees (held_with at new places) stream
unfolding held_with
held_fits at new places stream s a =
    holds_either_way (λ l. Agrees l stream) (nat_le (run_count (laid at new places)) most_runs) (laid at new places) places (agrees_laid at new places stream s a) a

text_fits : (whole : List ℕ) (ends : Type 0) (n edge : ℕ) (fin : Bool) (early : Early) (first : ℤ) (text : List ℕ) (has_fin : Bool) → Says whole ends first text has_fin
    → Agrees early.text (drop n whole) → IfSome early.fin (λ offset. ends × (offset ≡ length whole)) → (fin ≡ true → ends × (n ≡ length whole))
    → StreamFits whole ends n (with_text n edge first text (nothing_came early fin))
unfolding with_text
text_fits whole ends n edge fin early first text has_fin says a f e =
    let new : List ℕ = new_text n edge fin early first text in
    let s : IsPrefix new (drop (ahead n first) (drop n whole)) = new_stands whole ends n edge fin early first text has_fin says in
    holds_if (StreamFits whole ends n) (ahead n first == 0) _ _
    (λ t. let p : IsPrefix new (drop n whole) = subst (λ k. IsPrefix new (drop k (drop n whole))) (eqb-true _ _ t) s in
    record {
      added = p;
      held = subst (Agrees (drop (length new) early.text)) (drop-drop (length new) n whole) (agrees_drop (length new) early.text (drop n whole) a);
      held_fin = f;
      fin = λ h. ((e h).0, past_end whole n new p (e h).1);
    })
    (λ t. record {
      added = nothing_first (drop n whole);
      held = subst (λ k. Agrees (held_with (ahead n first) new early.text) (drop k whole)) (sym (plus_none n)) (held_fits (ahead n first) new early.text (drop n whole) s a);
      held_fin = f;
      fin = λ h. ((e h).0, plus_none n ∙ (e h).1);
    })

fin_fits : (whole : List ℕ) (ends : Type 0) (n edge : ℕ) (place : ℤ) (has_fin : Bool) (c : Came) → (has_fin ≡ true → ends × (nat_abs place ≡ length whole)) → StreamFits whole ends n c
    → StreamFits whole ends n (with_fin n edge place has_fin c)
unfolding with_fin
fin_fits whole ends n edge place has_fin c e f =
    holds_if (StreamFits whole ends n) (has_fin && holds_fin n edge place c) _ c
    (λ t. record { added = f.added; held = f.held; held_fin = e (and_parts has_fin (holds_fin n edge place c) t).0; fin = f.fin }) (λ t. f)

three : (a b c : ℕ) → (a + b) + c ≡ a + (b + c)
three a b c = omega arith

run_taken : (whole : List ℕ) (ends : Type 0) (n : ℕ) (c : Came) → StreamFits whole ends n c → StreamFits whole ends n (continued c)
unfolding continued
run_taken whole ends n c f =
    let more : RunFits c.early.text (drop (n + length c.added) whole) = run_fits c.early.text (drop (n + length c.added) whole) f.held in
    let run : List ℕ = front_run c.early.text in
    let size : length (c.added ++ run) ≡ length c.added + length run = length-append c.added run in
    let behind : (n + length c.added) + length run ≡ n + length (c.added ++ run) = three n (length c.added) (length run) ∙ ap (λ k. n + k) (sym size) in
    record {
      added = join_front c.added run (drop n whole) f.added (subst (IsPrefix run) (sym (drop-drop (length c.added) n whole)) more.run);
      held = subst (Agrees (behind_front_run c.early.text)) (drop-drop (length run) (n + length c.added) whole ∙ ap (λ k. drop k whole) behind) more.left;
      held_fin = f.held_fin;
      fin = λ h. let e = f.fin h in (e.0, sym behind ∙ past_end whole (n + length c.added) run more.run e.1);
    }

stood : (ends : Type 0) (end : ℕ) (o : Option ℕ) (whole : List ℕ) → stands_at end o ≡ true → IfSome o (λ offset. ends × (offset ≡ length whole)) → ends × (end ≡ length whole)
stood ends end None whole t s = absurd (true≢false (sym t))
stood ends end (Some offset) whole t s = (s.0, sym (eqb-true _ _ t) ∙ s.1)

fin_taken : (whole : List ℕ) (ends : Type 0) (n : ℕ) (c : Came) → StreamFits whole ends n c → StreamFits whole ends n (with_fin_taken n c)
unfolding with_fin_taken
fin_taken whole ends n c f =
    holds_if (StreamFits whole ends n) (stands_at (n + length c.added) c.early.fin) _ c
    (λ t. record { added = f.added; held = f.held; held_fin = tt; fin = λ h. stood ends (n + length c.added) c.early.fin whole t f.held_fin }) (λ t. f)

steps_fit : (whole : List ℕ) (ends : Type 0) (n edge : ℕ) (fin : Bool) (early : Early) (first : ℤ) (text : List ℕ) (has_fin : Bool) → Says whole ends first text has_fin
    → Agrees early.text (drop n whole) → IfSome early.fin (λ offset. ends × (offset ≡ length whole)) → (fin ≡ true → ends × (n ≡ length whole))
    → StreamFits whole ends n (comes n edge fin early first text has_fin)
unfolding comes
steps_fit whole ends n edge fin early first text has_fin says a f e =
    let place : ℤ = first +ℤ pos (length text) in
    let one : Came = with_text n edge first text (nothing_came early fin) in
    let two : Came = with_fin n edge place has_fin one in
    let brought : StreamFits whole ends n one = text_fits whole ends n edge fin early first text has_fin says a f e in
    fin_taken whole ends n (continued two) (run_taken whole ends n two (fin_fits whole ends n edge place has_fin one (fin_stands whole ends first text has_fin says) brought))

-- the law Taken in one sentence: each byte that is taken or held is the stream's byte at its offset, and a FIN is taken or held only at the stream's end
pub comes_fits : (whole : List ℕ) (ends : Type 0) (taken : List ℕ) (edge : ℕ) (fin : Bool) (early : Early) (first : ℤ) (text : List ℕ) (has_fin : Bool)
    → Fronts whole ends taken fin early → Says whole ends first text has_fin
    → Fronts whole ends (taken ++ (comes (length taken) edge fin early first text has_fin).added) (comes (length taken) edge fin early first text has_fin).fin
    (comes (length taken) edge fin early first text has_fin).early
comes_fits whole ends taken edge fin early first text has_fin h says =
    let c : Came = comes (length taken) edge fin early first text has_fin in
    let f : StreamFits whole ends (length taken) c = steps_fit whole ends (length taken) edge fin early first text has_fin says h.held h.held_fin h.fin_taken in
    let size : length (taken ++ c.added) ≡ length taken + length c.added = length-append taken c.added in
    record {
      front = join_front taken c.added whole h.front f.added;
      fin_taken = λ e. ((f.fin e).0, size ∙ (f.fin e).1);
      held = subst (λ k. Agrees c.early.text (drop k whole)) (sym size) f.held;
      held_fin = f.held_fin;
    }
