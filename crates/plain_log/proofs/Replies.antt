-- The log after a message determines the answer to it.
use Rattle.std.proofs.Common.{◌≡◌, ◌∙◌, ℕ, Bool, true, false, refl, sym, ap, subst, ◌==◌, arith, if◌then◌else◌, Option, None, Some}
use Rattle.std.specs.Prelude.{nat_lt, option_map, ◌||◌}
use Rattle.std.proofs.lemmas.Bool.{eqb-true}
use Rattle.seq_arith.specs.Message.{Body, Message, is_answer}
use Rattle.seq_arith.specs.Message.Body.{StaleMsg}
use Rattle.ft_model.specs.Log.{Log, is_hello, with_body, log_after, answer_from, answer_to}
use Rattle.plain_log.specs.Reply.{reply}
use Rattle.ft_model.proofs.LogAnswers.{kept_boot}

-- a message of the log's own boot is answered
own : (b c : ℕ) (stale answer : Option Body) → c ≡ b → answer ≡ (if nat_lt b c then stale else (if b == c then answer else None))
own b c stale answer is = grind (arith, is)

by_cases : (log after : Log) (m : Message) (a l h e : Bool) → nat_lt m.boot log.boot ≡ l → (m.boot == log.boot) ≡ e
    → (if a || l then log else (if h then record log { boot = m.boot } else (if e then with_body m.body log else log))) ≡ after
    → (if a then None else (if l then Some (StaleMsg log.boot) else (if h || e then answer_from m.body after else None)))
    ≡ (if a then None else (if nat_lt m.boot after.boot then Some (StaleMsg after.boot) else (if m.boot == after.boot then answer_from m.body after else None)))
by_cases log after m true l h e lt eq is = refl
by_cases log after m false true h e lt eq is =
    subst (λ x. Some (StaleMsg log.boot) ≡ (if nat_lt m.boot x.boot then Some (StaleMsg x.boot) else (if m.boot == x.boot then answer_from m.body after else None))) is (rw lt refl)
by_cases log after m false false true e lt eq is = own m.boot after.boot (Some (StaleMsg after.boot)) (answer_from m.body after) (sym (ap (λ x. x.boot) is))
by_cases log after m false false false true lt eq is =
    own m.boot after.boot (Some (StaleMsg after.boot)) (answer_from m.body after)
    (sym (ap (λ x. x.boot) is) ∙ (kept_boot m.body log ∙ sym (eqb-true m.boot log.boot eq)))
by_cases log after m false false false false lt eq is =
    subst (λ x. None ≡ (if nat_lt m.boot x.boot then Some (StaleMsg x.boot) else (if m.boot == x.boot then answer_from m.body after else None))) is (rw (lt, eq) refl)

pub reply_is_the_answer : (log : Log) (m : Message) → answer_to log m ≡ reply (log_after log m) m
unfolding log_after answer_to
reply_is_the_answer log m =
    ap (option_map (λ body. record { boot = m.boot; body = body }))
    (by_cases log (log_after log m) m (is_answer m.body) (nat_lt m.boot log.boot) (is_hello m.body) (m.boot == log.boot) refl refl refl)
