use Rattle.std.proofs.Common.{◌≡◌, ◌∙◌, ◌≤◌, sym, ap, subst, rules, None, Some, option_map, length}
use Rattle.seq_arith.specs.Mark.MarkBody.{HeldMsg}
use Rattle.log_pages.specs.Pages.{place_of}
use Rattle.mark_laws.specs.MarkedLog.{about_mark}
use Rattle.mark_store.specs.Bytes.{reply_bytes}
use Rattle.mark_store.proofs.Steps.{reported_mark, reported_no_mark}
use Rattle.mark_store.proofs.store.MarkStore.answer_held.Goals as goal

pub returns-in-Some : goal.returns-in-Some
returns-in-Some c =
    let few : length c.args.self.now.trimmed.log.entries ≤ 64 = subst (λ s. length s.trimmed.log.entries ≤ 64) c.self.view_is c.place_of.ensures.within in
    let some : c.place_of.result ≡ Some c.in-Some.place = search rules in
    let at : place_of c.args.key c.args.self.now.trimmed.log ≡ Some c.in-Some.place =
    ap (λ s. place_of c.args.key s.trimmed.log) (sym c.self.view_is) ∙ (sym c.place_of.ensures.value ∙ some) in
    λ l a. c.answer_held.ensures ∙ (ap (λ m. reply_bytes (Some (about_mark c.args.boot (HeldMsg c.args.key m)))) c.mark_at.ensures.value
    ∙ sym (ap (λ o. reply_bytes (option_map (about_mark c.args.boot) o)) (reported_mark c.args.self.now l c.args.key c.in-Some.place a few at)))

pub returns-in_default : goal.returns-in_default
returns-in_default c =
    let few : length c.args.self.now.trimmed.log.entries ≤ 64 = subst (λ s. length s.trimmed.log.entries ≤ 64) c.self.view_is c.place_of.ensures.within in
    let none : c.place_of.result ≡ None = search rules in
    let at : place_of c.args.key c.args.self.now.trimmed.log ≡ None =
    ap (λ s. place_of c.args.key s.trimmed.log) (sym c.self.view_is) ∙ (sym c.place_of.ensures.value ∙ none) in
    λ l a. c.requires.empty ∙ sym (ap (λ o. reply_bytes (option_map (about_mark c.args.boot) o)) (reported_no_mark c.args.self.now l c.args.key a few at))
