use Rattle.std.proofs.Common.{◌≡◌, ◌≤◌, sym, subst, length, take, sum, true}
use Rattle.log_pages.specs.Pages.{reads_on}
use Rattle.logger_store.proofs.Without.{kept_without}
use Rattle.logger_store.proofs.stored_entry.StoredEntry.discard.Goals as goal

pub invariant_of-self : goal.invariant_of-self
invariant_of-self c =
    kept_without c.self.inside.numbers.mss c.self.inside.acknowledged c.self.inside.reads c.self.inside.read c.self.inside.closed c.self.inside.bytes.bytes c.self.inside.lengths
    c.discard.new.self.bytes c.discard-2.new.self c.args.bytes c.args.reads c.self.invariant (subst (λ e. c.args.reads ≤ length e.lengths) (sym c.self.view_is) c.requires.there)
    (subst (λ e. c.args.bytes ≡ sum (take c.args.reads e.lengths)) (sym c.self.view_is) c.requires.took)
    (subst (λ e. reads_on (take c.args.reads e.lengths) ≡ true) (sym c.self.view_is) c.requires.on) c.discard.ensures.bytes c.discard-2.ensures
