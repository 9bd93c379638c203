use Rattle.std.proofs.Common.{◌≡◌, ◌+◌, ◌++◌, ◌∙◌, true, ap, sym, subst, length, ◌≤◌}
use Rattle.logger_wire.specs.Records.{head_said}
use Rattle.reincarnate.specs.Progress.{EntryState, Waiting, lacks, asks_bytes, replayed_from, waits_on, IsSized}
use Rattle.reincarnate.proofs.Sized.{bytes_sized}
use Rattle.reincarnate.proofs.fetched_entry.FetchedEntry.with_bytes.Goals as goal

pub invariant_of-result : goal.invariant_of-result
invariant_of-result g c =
    let e : EntryState _ = record {
      head = head_said c.self.inside.head;
      bytes = c.self.inside.bytes;
      cuts = c.self.inside.cuts;
      waiting = c.self.inside.waiting.items;
      replay = c.self.inside.replay;
    } in
    let more = c.args.bytes.now in
    let w : Waiting _ = record { lengths = c.replay_whole.new.waiting.items; replay = c.replay_whole.new.replay } in
    let is : replayed_from g.S.Service.after e.waiting (record e.replay { held = e.replay.held ++ more }) ≡ w =
    ap (replayed_from g.S.Service.after e.waiting) (sym c.in_ok-hold.ensures) ∙ c.in_ok-replay_whole.ensures in
    subst (λ v. IsSized (record (waits_on e v) { bytes = e.bytes + length more })) is
    (bytes_sized g.S.Service.after more e c.self.invariant (subst (λ x. asks_bytes (lacks x) ≡ true) (sym c.self.view_is) c.requires.asked)
    (subst (λ x. x.bytes + length more ≤ x.head.length) (sym c.self.view_is) c.requires.within) c.requires.few)
