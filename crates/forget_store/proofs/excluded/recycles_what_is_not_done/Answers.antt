use Rattle.std.proofs.Common.{◌≡◌, ◌∙◌, ◌==◌, ◌&&◌, ℕ, Bool, true, false, nat_lt, refl, sym, ap, arith, eq-eqb, option_map, Option, Some, None, if◌then◌else◌}
use Rattle.std.specs.List.{list_any}
use Rattle.std.specs.Option.{option_map_or}
use Rattle.std.proofs.lemmas.Bool.{and_from}
use Rattle.ft_io.proofs.Choices.{if_true, if_false}
use Rattle.ft_model.proofs.Lists.{none_is_some}
use Rattle.ft_model.specs.Keys.{AreDistinct}
use Rattle.ft_model.specs.Log.{Log, Entry, entry_of}
use Rattle.std.specs.Prelude.{map}
use Rattle.forget_wire.specs.Value.{named_said}
use Rattle.long_laws.specs.Forgetting.{Named, forget, is_entry_of, forgotten_in, after_forget, answer_to_forget, reported_of}
use Rattle.long_laws.specs.Forgetting.ForgetBody.{ForgetMsg}
use Rattle.forget_store.specs.declared.reply.Reply.{Reply}
use Rattle.forget_store.specs.Replies.{reply_said}
use Rattle.forget_store.proofs.Forgets.{spared, has_its_entry, has_its_numbers}
use Rattle.forget_store.proofs.excluded.recycles_what_is_not_done.Goals as goal

not_both : (a b : Bool) → b ≡ false → (a && b) ≡ false
not_both true b e = e
not_both false b e = refl

never_less : (a b : ℕ) → a ≡ b → nat_lt a b ≡ false
never_less a b e = grind (arith, e)

-- the log stays
stays : (boot : ℕ) (n : Named) (log : Log) (e : Entry) → AreDistinct (map (λ x. x.key) log.entries) → entry_of n.key log ≡ Some e → e.done ≡ false → after_forget log (forget boot n) ≡ log
unfolding after_forget
stays boot n log e apart found undone = on (boot == log.boot)
  where
    on : (b : Bool) → (if b then forgotten_in n log else log) ≡ log
    on true = sym (spared n log e apart found (not_both (has_its_numbers n e) e.done undone))
    on false = refl

-- .. and isn't without the entry
unanswered : (boot : ℕ) (n : Named) (log : Log) (e : Entry) → boot ≡ log.boot → AreDistinct (map (λ x. x.key) log.entries) → entry_of n.key log ≡ Some e → e.cisn ≡ n.cisn → e.sisn ≡ n.sisn
    → e.done ≡ false → answer_to_forget log (forget boot n) ≡ None
unfolding answer_to_forget
unanswered boot n log e own apart found cisn sisn undone =
    let has : list_any (is_entry_of n) log.entries ≡ true =
    has_its_entry n log.entries apart ∙ (ap (λ o. option_map_or (has_its_numbers n) o false) found ∙ and_from _ _ (eq-eqb e.cisn n.cisn cisn) (eq-eqb e.sisn n.sisn sisn)) in
    let reported : reported_of boot (ForgetMsg n) (after_forget log (forget boot n)) ≡ None =
    ap (reported_of boot (ForgetMsg n)) (stays boot n log e apart found undone) ∙ if_true (list_any (is_entry_of n) log.entries) None _ has in
    if_false (nat_lt boot log.boot) _ _ (never_less boot log.boot own) ∙ (if_true (boot == log.boot) _ None (eq-eqb boot log.boot own) ∙ reported)

unmapped : (r : Option Reply) → option_map reply_said r ≡ None → r ≡ None
unmapped None e = refl
unmapped (Some reply) e = none_is_some (reply_said reply) (sym e)

pub returns-clause-log : goal.returns-clause-log
returns-clause-log c =
    let e = c.requires.entry in
    c.take_forget.ensures.next ∙ stays c.args.boot (named_said c.args.named) c.args.log.now e.0 c.requires.apart e.1 e.4

pub returns-clause-answer : goal.returns-clause-answer
returns-clause-answer c =
    let e = c.requires.entry in
    unmapped c.take_forget.result
    (c.take_forget.ensures.answer ∙ unanswered c.args.boot (named_said c.args.named) c.args.log.now e.0 c.requires.own c.requires.apart e.1 e.2 e.3 e.4)
