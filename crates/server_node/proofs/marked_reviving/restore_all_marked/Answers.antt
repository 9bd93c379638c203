use Rattle.std.proofs.Common.{rules, ◌≡◌, refl, sym, subst}
use Rattle.ft_model.specs.Lawful.{AreSound}
use Rattle.ft_model.specs.Opening.{initial_number}
use Rattle.reincarnate.specs.Refinement.{FirstIs}
use Rattle.server_node.specs.FetchStage.{AreDistinct}
use Rattle.node_serving.specs.Identity.{node_of, service_of}
use Rattle.server_node.specs.MarkedRestart.{AllBytes, RestoredSoFar}
use Rattle.node_serving.specs.Markers.{saving, marker_of}
use Rattle.node_serving.specs.Slots.{AllSound}
use Rattle.server_node.proofs.MarkedRestored.{none_marked_yet, bytes_at}
use Rattle.server_node.proofs.Restored.{restores_none, restores_more, restores_all, distinct_at, sound_at}
use Rattle.server_node.proofs.marked_reviving.restore_all_marked.Goals as goal

pub loop-entry-init : goal.loop-entry-init
loop-entry-init g c =
    let service = service_of g.S.Service c.args.who in
    let number : c.args.who.isn ≡ initial_number c.args.who.isn 0 = search rules in (
      subst (AllSound c.args.who) (sym c.new.ensures.empty) tt,
      (refl, search rules),
      λ every standing marking fetched st distinct sound bytes keeps.
          let by = marker_of g.S.Service (saving g.S.Saved.form g.S.Saved.state_of g.S.Saved.is_savable) c.args.who every in
          restores_none service (RestoredSoFar by (node_of c.args.who standing) marking) fetched c.args.entries
          (record { next = record { 0 = c.args.who.isn }; slots = c.new.result }, c.args.marks.now) c.args.turn.now.sent.items st
          (none_marked_yet by (node_of c.args.who standing) marking (record { next = record { 0 = c.args.who.isn }; slots = c.new.result }) c.args.marks.now c.args.turn.now.sent.items number c.new.ensures.empty keeps),
    )

pub restore_marked-requires-clause-sound : goal.restore_marked-requires-clause-sound
restore_marked-requires-clause-sound g c = c.loop-entry.invariant.0

pub loop-entry-preserved : goal.loop-entry-preserved
loop-entry-preserved g c =
    let service = service_of g.S.Service c.args.who in
    let reported = rw c.in_ok-restore_marked.was at c.restore_marked.ensures in (
      reported.sound,
      reported.counted c.loop-entry.invariant.1,
      λ every standing marking fetched st distinct sound bytes keeps.
          let by = marker_of g.S.Service (saving g.S.Saved.form g.S.Saved.state_of g.S.Saved.is_savable) c.args.who every in
          restores_more service (RestoredSoFar by (node_of c.args.who standing) marking) fetched c.loop-entry.entries c.advance.new.self c.in-Some.entry
          (c.loop-entry.serving, c.loop-entry.marks) (c.restore_marked.new.serving, c.restore_marked.new.marks)
          c.args.turn.now.sent.items c.loop-entry.turn.sent.items c.restore_marked.new.turn.sent.items (c.loop-entry.invariant.2 every standing marking fetched st distinct sound bytes keeps)
          (λ left waits. subst (λ o. FirstIs service left o c.advance.new.self) c.in-Some.is (c.advance.ensures.law (g.S.Service.started c.args.who.kind) left waits))
          (λ front f done there whole is sofar. reported.turn every standing marking f done c.args.turn.now.sent.items is
          (λ live. sound_at service front f done (subst (AreSound service) there sound) live whole)
          (bytes_at front f done (subst AllBytes there bytes)) (distinct_at front f done (subst AreDistinct there distinct)) sofar),
    )

pub returns-clause-turn : goal.returns-clause-turn
returns-clause-turn g c = λ every standing marking fetched st distinct sound bytes keeps.
    let service = service_of g.S.Service c.args.who in
    let by = marker_of g.S.Service (saving g.S.Saved.form g.S.Saved.state_of g.S.Saved.is_savable) c.args.who every in
    restores_all service (RestoredSoFar by (node_of c.args.who standing) marking) fetched c.loop-entry.entries c.advance.new.self (c.loop-entry.serving, c.loop-entry.marks)
    c.args.turn.now.sent.items c.loop-entry.turn.sent.items (c.loop-entry.invariant.2 every standing marking fetched st distinct sound bytes keeps)
    (λ left waits. subst (λ o. FirstIs service left o c.advance.new.self) c.in_default.is (c.advance.ensures.law (g.S.Service.started c.args.who.kind) left waits))

pub returns-clause-sound : goal.returns-clause-sound
returns-clause-sound g c = c.loop-entry.invariant.0

pub returns-clause-counted : goal.returns-clause-counted
returns-clause-counted g c = c.loop-entry.invariant.1
