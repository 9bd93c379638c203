use Rattle.std.proofs.Common.{◌≡◌, ◌+◌, ◌++◌, ◌∙◌, true, ap, sym, subst, sum, ◌≤◌}
use Rattle.seq_arith.specs.MessageGrammar.{lens_in}
use Rattle.logger_wire.specs.Records.{head_said}
use Rattle.reincarnate.specs.Progress.{EntryState, Waiting, lacks, asks_lengths, replayed_from, waits_on, IsSized}
use Rattle.reincarnate.proofs.Sized.{lengths_sized}
use Rattle.reincarnate.proofs.fetched_entry.FetchedEntry.with_lengths.Goals as goal

pub invariant_of-result : goal.invariant_of-result
invariant_of-result g c =
    let e : EntryState _ = record {
      head = head_said c.self.inside.head;
      bytes = c.self.inside.bytes;
      cuts = c.self.inside.cuts;
      waiting = c.self.inside.waiting.items;
      replay = c.self.inside.replay;
    } in
    let lens = lens_in c.args.lens.now in
    let w : Waiting _ = record { lengths = c.replay_whole.new.waiting.items; replay = c.replay_whole.new.replay } in
    let is : replayed_from g.S.Service.after (e.waiting ++ lens) e.replay ≡ w =
    ap (λ l. replayed_from g.S.Service.after l e.replay) (sym c.in_ok-push_lengths.ensures) ∙ c.in_ok-replay_whole.ensures in
    subst (λ v. IsSized (record (waits_on e v) { cuts = c.args.cuts })) is
    (lengths_sized g.S.Service.after c.args.cuts lens e c.self.invariant (subst (λ x. asks_lengths (lacks x) ≡ true) (sym c.self.view_is) c.requires.asked)
    (subst (λ x. c.args.cuts.sum ≡ x.cuts.sum + sum lens) (sym c.self.view_is) c.requires.sum) c.requires.have
    (subst (λ x. c.args.cuts.sum ≤ x.head.length) (sym c.self.view_is) c.requires.within) c.requires.most)
