-- What the log does with a message about forgetting, and what it answers.
use Rattle.std.proofs.Common.{◌≡◌, ◌⊎◌, inl, inr, ⊎_elim, ℕ, ◌<◌, Bool, true, false, ◌==◌, ◌&&◌, nat_lt, refl, sym, ap, ◌∙◌, subst, true≢false, eqb-true, eq-eqb, arith, find, Some, None, List, [], ◌∷◌, map, if◌then◌else◌}
use Rattle.std.proofs.lemmas.Bool.{and_from, or_right}
use Rattle.std.specs.List.{list_any}
use Rattle.ft_io.specs.Key.{key_eq}
use Rattle.seq_arith.specs.Message.Body.{StaleMsg}
use Rattle.ft_model.specs.Keys.{AreDistinct}
use Rattle.ft_model.specs.Log.{Log, Entry, entry_of}
use Rattle.ft_model.proofs.Lists.{none_is_some, some_is, found_passes, or_left}
use Rattle.ft_io.proofs.Choices.{holds_if, if_false, if_true}
use Rattle.long_laws.specs.Forgetting.{Named, ForgetBody, ForgetMessage, forget, forgotten_message, is_entry_of, is_recycled, forgotten_in, with_forget, after_forget, IsRecycled, IsGone, ForgetAnswer, reported_of, is_forget_answer, answer_to_forget, named_of}
use Rattle.long_laws.specs.Forgetting.ForgetBody.{ForgetMsg, ForgottenMsg}
use Rattle.long_laws.specs.Forgetting.ForgetAnswer.{About_forgetting, Of_log}
use Rattle.long_laws.specs.LongTrace.{others}
use Rattle.long_laws.proofs.Forgets.{either, RecyclesOne}
use Rattle.ft_io.proofs.Booleans.{and_false}

abbrev message_of : ℕ → ForgetBody → ForgetMessage
message_of boot body = record { boot = boot; body = body }

-- by the log's own boot, or not
pub own_boot : (log : Log) (message : ForgetMessage) → message.boot ≡ log.boot → after_forget log message ≡ with_forget message.body log
unfolding after_forget
own_boot log message own = if_true (message.boot == log.boot) (with_forget message.body log) log (eq-eqb message.boot log.boot own)

pub other_boot : (log : Log) (message : ForgetMessage) → (message.boot == log.boot) ≡ false → after_forget log message ≡ log
unfolding after_forget
other_boot log message other = if_false (message.boot == log.boot) (with_forget message.body log) log other

same_message : {boot : ℕ} {body : ForgetBody} {m : ForgetMessage} → m.boot ≡ boot → m.body ≡ body → message_of m.boot m.body ≡ message_of boot body
same_message a b = cc (a, b)

recycles : (log : Log) (message : ForgetMessage) (body : ForgetBody) → AreDistinct (map (λ e. e.key) log.entries) → message.body ≡ body → message.boot ≡ log.boot
    → (after_forget log message ≡ log) ⊎ IsRecycled log message
recycles log message (ForgottenMsg n) d is own = inl (own_boot log message own ∙ ap (λ body. with_forget body log) is)
recycles log message (ForgetMsg n) d is own =
    let after : after_forget log message ≡ forgotten_in n log = own_boot log message own ∙ ap (λ body. with_forget body log) is in
    ⊎_elim (λ same. inl (after ∙ ap (λ (es : List Entry). let l : Log = record { boot = log.boot; entries = es } in l) same))
    (λ h. inr (on h after)) (either n log.entries d)
  where
    on : RecyclesOne n log.entries → after_forget log message ≡ forgotten_in n log → IsRecycled log message
    on h after = record {
      named = n;
      is = same_message own is;
      entry = h.entry;
      found = h.found;
      cisn = h.cisn;
      sisn = h.sisn;
      done = h.done;
      after = after ∙ ap (λ (es : List Entry). let l : Log = record { boot = log.boot; entries = es } in l) h.rest;
    }

pub takes_out_or_nothing : (log : Log) (message : ForgetMessage) → AreDistinct (map (λ e. e.key) log.entries) → (after_forget log message ≡ log) ⊎ IsRecycled log message
takes_out_or_nothing log message d = on (message.boot == log.boot) refl
  where
    on : (b : Bool) → (message.boot == log.boot) ≡ b → (after_forget log message ≡ log) ⊎ IsRecycled log message
    on true e = recycles log message message.body d refl (eqb-true _ _ e)
    on false e = inl (other_boot log message e)

three : {a b c : Bool} → a ≡ true → b ≡ true → c ≡ true → (a && b && c) ≡ true
three p q r = rw (p, q, r) refl

-- an entry that isn't done, or has other numbers, stays
pub others_stay : (log : Log) (boot : ℕ) (n : Named) (e : Entry) → AreDistinct (map (λ e. e.key) log.entries) → entry_of n.key log ≡ Some e
    → (e.cisn == n.cisn && e.sisn == n.sisn && e.done) ≡ false → after_forget log (forget boot n) ≡ log
others_stay log boot n e d found other = ⊎_elim (λ same. same) on (takes_out_or_nothing log (forget boot n) d)
  where
    on : IsRecycled log (forget boot n) → after_forget log (forget boot n) ≡ log
    on r =
        let same : r.named ≡ n = sym (ap (λ m. named_of m.body) r.is) in
        let here : e ≡ r.entry = some_is e r.entry (sym found ∙ subst (λ m. entry_of m.key log ≡ Some r.entry) same r.found) in
        let cisn : e.cisn ≡ n.cisn = ap (λ x. x.cisn) here ∙ (r.cisn ∙ ap (λ m. m.cisn) same) in
        let sisn : e.sisn ≡ n.sisn = ap (λ x. x.sisn) here ∙ (r.sisn ∙ ap (λ m. m.sisn) same) in
        let done : e.done ≡ true = ap (λ x. x.done) here ∙ r.done in
        absurd (true≢false (sym (three (eq-eqb e.cisn n.cisn cisn) (eq-eqb e.sisn n.sisn sisn) done) ∙ other))

-- Answers

pub answers_nothing : (log : Log) (message : ForgetMessage) → is_forget_answer message.body ≡ true → answer_to_forget log message ≡ None
unfolding answer_to_forget
answers_nothing log message is = if_true (is_forget_answer message.body) None _ is

pub answers_older : (log : Log) (message : ForgetMessage) → is_forget_answer message.body ≡ false → message.boot < log.boot
    → answer_to_forget log message ≡ Some (Of_log (record { boot = message.boot; body = StaleMsg log.boot }))
unfolding answer_to_forget
answers_older log message is older = if_false (is_forget_answer message.body) None _ is ∙ if_true (nat_lt message.boot log.boot) _ _ (grind (arith, older))

pub answers_newer : (log : Log) (message : ForgetMessage) → log.boot < message.boot → answer_to_forget log message ≡ None
unfolding answer_to_forget
answers_newer log message newer =
    holds_if (λ a. a ≡ None) (is_forget_answer message.body) None _ (λ t. refl)
    (λ t. if_false (nat_lt message.boot log.boot) _ _ (grind (arith, newer)) ∙ if_false (message.boot == log.boot) _ _ (grind (arith, newer)))

pub answers_own : (log : Log) (message : ForgetMessage) → is_forget_answer message.body ≡ false → message.boot ≡ log.boot
    → answer_to_forget log message ≡ reported_of message.boot message.body (after_forget log message)
unfolding answer_to_forget
answers_own log message is own =
    if_false (is_forget_answer message.body) None _ is ∙ (if_false (nat_lt message.boot log.boot) _ _ (grind (arith, own)) ∙ if_true (message.boot == log.boot) _ _ (eq-eqb message.boot log.boot own))

-- what an answer Forgotten says
abbrev pub SaysForgotten : Log → ForgetMessage → ForgetMessage → Type 0
SaysForgotten log message answer =
    (n : Named) × (message ≡ forget log.boot n) × (answer ≡ forgotten_message log.boot n) × IsGone n (after_forget log message)

abbrev answer_message : ForgetAnswer → ForgetMessage → ForgetMessage
answer_message (About_forgetting m) other = m
answer_message (Of_log m) other = other

is_about_forgetting : (a : ForgetAnswer) → Bool
is_about_forgetting (About_forgetting m) = true
is_about_forgetting (Of_log m) = false

reported_forgotten : (log after : Log) (boot : ℕ) (body : ForgetBody) (answer : ForgetMessage) → boot ≡ log.boot → reported_of boot body after ≡ Some (About_forgetting answer)
    → (n : Named) × (message_of boot body ≡ forget log.boot n) × (answer ≡ forgotten_message log.boot n) × IsGone n after
reported_forgotten log after boot (ForgottenMsg n) answer own e = none_is_some (About_forgetting answer) e
reported_forgotten log after boot (ForgetMsg n) answer own e = on (list_any (is_entry_of n) after.entries) refl e
  where
    on : (b : Bool) → list_any (is_entry_of n) after.entries ≡ b → (if b then None else Some (About_forgetting (forgotten_message boot n))) ≡ Some (About_forgetting answer)
        → (m : Named) × (message_of boot (ForgetMsg n) ≡ forget log.boot m) × (answer ≡ forgotten_message log.boot m) × IsGone m after
    on true is h = none_is_some (About_forgetting answer) h
    on false is h = (n, ap (λ k. forget k n) own, sym (ap (λ a. answer_message a answer) (some_is _ _ h)) ∙ ap (λ k. forgotten_message k n) own, is)

stale_is_none : {X : Type 0} (log : Log) (message : ForgetMessage) (answer : ForgetMessage)
    → Some (Of_log (record { boot = message.boot; body = StaleMsg log.boot })) ≡ Some (About_forgetting answer) → X
unfolding is_about_forgetting
stale_is_none log message answer e = absurd (true≢false (sym (ap is_about_forgetting (some_is _ _ e))))

pub forgotten_means_gone : (log : Log) (message answer : ForgetMessage) → answer_to_forget log message ≡ Some (About_forgetting answer) → SaysForgotten log message answer
unfolding answer_to_forget
forgotten_means_gone log message answer e =
    on (is_forget_answer message.body) (nat_lt message.boot log.boot) (message.boot == log.boot) refl e
  where
    on : (a b c : Bool) → (message.boot == log.boot) ≡ c
        → (if a then None
        else (if b then Some (Of_log (record { boot = message.boot; body = StaleMsg log.boot })) else (if c then reported_of message.boot message.body (after_forget log message) else None)))
        ≡ Some (About_forgetting answer) → SaysForgotten log message answer
    on true b c own h = none_is_some (About_forgetting answer) h
    on false true c own h = stale_is_none log message answer h
    on false false true own h = reported_forgotten log (after_forget log message) message.boot message.body answer (eqb-true _ _ own) h
    on false false false own h = none_is_some (About_forgetting answer) h

pub gone_means_forgotten : (log : Log) (n : Named) → IsGone n (after_forget log (forget log.boot n)) → answer_to_forget log (forget log.boot n) ≡ Some (About_forgetting (forgotten_message log.boot n))
gone_means_forgotten log n gone = answers_own log (forget log.boot n) refl refl ∙ if_false _ None _ gone

-- an entry that isn't done stays
stays : (n : Named) (es : List Entry) (e : Entry) → find (λ x. key_eq x.key n.key) es ≡ Some e → is_entry_of n e ≡ true → e.done ≡ false → list_any (is_entry_of n) (others (is_recycled n) es) ≡ true
stays n [] e found is open_ = none_is_some e found
stays n (x ∷ es) e found is open_ = on (key_eq x.key n.key) refl (λ f. stays n es e f is open_)
  where
    on : (b : Bool) → key_eq x.key n.key ≡ b → (find (λ y. key_eq y.key n.key) es ≡ Some e → list_any (is_entry_of n) (others (is_recycled n) es) ≡ true)
        → list_any (is_entry_of n) (others (is_recycled n) (x ∷ es)) ≡ true
    on true k rest =
        let here : x ≡ e = some_is x e (sym (if_true (key_eq x.key n.key) (Some x) (find (λ y. key_eq y.key n.key) es) k) ∙ found) in
        let its : is_entry_of n x ≡ true = ap (is_entry_of n) here ∙ is in
        let keeps : is_recycled n x ≡ false = ap (λ b. is_entry_of n x && b) (ap (λ y. y.done) here ∙ open_) ∙ and_false (is_entry_of n x) in
        ap (list_any (is_entry_of n)) (if_false (is_recycled n x) (others (is_recycled n) es) (x ∷ others (is_recycled n) es) keeps) ∙ or_left (is_entry_of n x) (list_any (is_entry_of n) (others (is_recycled n) es)) its
    on false k rest =
        let later : list_any (is_entry_of n) (others (is_recycled n) es) ≡ true = rest (sym (if_false (key_eq x.key n.key) (Some x) (find (λ y. key_eq y.key n.key) es) k) ∙ found) in
        holds_if (λ l. list_any (is_entry_of n) l ≡ true) (is_recycled n x) (others (is_recycled n) es) (x ∷ others (is_recycled n) es) (λ t. later)
        (λ t. or_right (is_entry_of n x) (list_any (is_entry_of n) (others (is_recycled n) es)) later)

pub not_done_no_answer : (log : Log) (n : Named) (e : Entry) → entry_of n.key log ≡ Some e → e.cisn ≡ n.cisn → e.sisn ≡ n.sisn → e.done ≡ false
    → answer_to_forget log (forget log.boot n) ≡ None
not_done_no_answer log n e found cisn sisn open_ =
    let key : key_eq e.key n.key ≡ true = found_passes (λ x. key_eq x.key n.key) log.entries e found in
    let is : is_entry_of n e ≡ true = and_from _ _ key (and_from _ _ (eq-eqb e.cisn n.cisn cisn) (eq-eqb e.sisn n.sisn sisn)) in
    let left : list_any (is_entry_of n) (after_forget log (forget log.boot n)).entries ≡ true = ap (λ l. list_any (is_entry_of n) l.entries) (own_boot log (forget log.boot n) refl) ∙ stays n log.entries e found is open_ in
    answers_own log (forget log.boot n) refl refl ∙ if_true _ None _ left

-- a Forget that comes again
twice_none : (q : Entry → Bool) (es : List Entry) → others q (others q es) ≡ others q es
twice_none q [] = refl
twice_none q (x ∷ es) = on (q x) refl (twice_none q es)
  where
    on : (b : Bool) → q x ≡ b → others q (others q es) ≡ others q es → others q (others q (x ∷ es)) ≡ others q (x ∷ es)
    on true e rest =
        let one : others q (x ∷ es) ≡ others q es = if_true (q x) (others q es) (x ∷ others q es) e in
        ap (others q) one ∙ (rest ∙ sym one)
    on false e rest =
        let one : others q (x ∷ es) ≡ x ∷ others q es = if_false (q x) (others q es) (x ∷ others q es) e in
        ap (others q) one ∙ (if_false (q x) (others q (others q es)) (x ∷ others q (others q es)) e ∙ (ap (λ l. x ∷ l) rest ∙ sym one))

twice_body : (body : ForgetBody) (log : Log) → with_forget body (with_forget body log) ≡ with_forget body log
twice_body (ForgetMsg n) log = ap (λ (es : List Entry). let l : Log = record { boot = log.boot; entries = es } in l) (twice_none (is_recycled n) log.entries)
twice_body (ForgottenMsg n) log = refl

body_boot : (body : ForgetBody) (log : Log) → (with_forget body log).boot ≡ log.boot
body_boot (ForgetMsg n) log = refl
body_boot (ForgottenMsg n) log = refl

pub keeps_boot : (log : Log) (message : ForgetMessage) → (after_forget log message).boot ≡ log.boot
unfolding after_forget
keeps_boot log message = holds_if (λ l. l.boot ≡ log.boot) (message.boot == log.boot) (with_forget message.body log) log (λ t. body_boot message.body log) (λ t. refl)

pub twice_after : (log : Log) (message : ForgetMessage) → after_forget (after_forget log message) message ≡ after_forget log message
twice_after log message = on (message.boot == log.boot) refl
  where
    on : (b : Bool) → (message.boot == log.boot) ≡ b → after_forget (after_forget log message) message ≡ after_forget log message
    on true e =
        let own : message.boot ≡ log.boot = eqb-true _ _ e in
        let one : after_forget log message ≡ with_forget message.body log = own_boot log message own in
        own_boot (after_forget log message) message (own ∙ sym (keeps_boot log message)) ∙ (ap (with_forget message.body) one ∙ (twice_body message.body log ∙ sym one))
    on false e = ap (λ l. after_forget l message) (other_boot log message e)

pub twice_answered : (log : Log) (message : ForgetMessage) → answer_to_forget (after_forget log message) message ≡ answer_to_forget log message
unfolding answer_to_forget
twice_answered log message = rw (twice_after log message, keeps_boot log message) refl
