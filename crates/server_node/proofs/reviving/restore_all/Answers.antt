use Rattle.std.proofs.Common.{rules, ◌≡◌, refl, sym, subst}
use Rattle.server_trait.specs.Service.{machine}
use Rattle.ft_model.specs.Lawful.{AreSound}
use Rattle.ft_model.specs.Opening.{initial_number}
use Rattle.reincarnate.specs.Refinement.{FirstIs}
use Rattle.node_serving.specs.Identity.{node_of}
use Rattle.server_node.specs.FetchStage.{AreDistinct}
use Rattle.server_node.specs.Restarts.{RestoredAlone}
use Rattle.server_node.specs.RestartEnd.{AreRestored}
use Rattle.node_serving.specs.Slots.{AllSound}
use Rattle.server_node.proofs.Restored.{restored_none, restores_none, restores_more, restores_all, distinct_at, sound_at}
use Rattle.server_node.proofs.RestoredAlone.{none_restored}
use Rattle.server_node.proofs.reviving.restore_all.Goals as goal

pub loop-entry-init : goal.loop-entry-init
loop-entry-init g c =
    let service = machine (g.S.Service.started c.args.who.kind) g.S.Service.after g.S.Service.greeting in
    let number : c.args.who.isn ≡ initial_number c.args.who.isn 0 = search rules in (
      subst (AllSound c.args.who) (sym c.new.ensures.empty) tt,
      (refl, search rules),
      λ standing fetched st distinct sound. restores_none service (AreRestored service (node_of c.args.who standing)) fetched c.args.entries
          (record { next = record { 0 = c.args.who.isn }; slots = c.new.result }) c.args.turn.now.sent.items st
          (restored_none service (node_of c.args.who standing) (record { next = record { 0 = c.args.who.isn }; slots = c.new.result }) c.args.turn.now.sent.items number c.new.ensures.empty),
      λ standing fetched st distinct. restores_none service (RestoredAlone service (node_of c.args.who standing)) fetched c.args.entries
          (record { next = record { 0 = c.args.who.isn }; slots = c.new.result }) c.args.turn.now.sent.items st
          (none_restored service (node_of c.args.who standing) (record { next = record { 0 = c.args.who.isn }; slots = c.new.result }) c.args.turn.now.sent.items number c.new.ensures.empty),
    )

pub loop-entry-preserved : goal.loop-entry-preserved
loop-entry-preserved g c =
    let fresh = g.S.Service.started c.args.who.kind in
    let service = machine fresh g.S.Service.after g.S.Service.greeting in
    let reported = rw c.in_ok-restore.was at c.restore.ensures in (
      reported.sound,
      reported.counted c.loop-entry.invariant.1,
      λ standing fetched st distinct sound. restores_more service (AreRestored service (node_of c.args.who standing)) fetched c.loop-entry.entries c.advance.new.self c.in-Some.entry c.loop-entry.serving c.restore.new.serving
          c.args.turn.now.sent.items c.loop-entry.turn.sent.items c.restore.new.turn.sent.items (c.loop-entry.invariant.2 standing fetched st distinct sound)
          (λ left waits. subst (λ o. FirstIs service left o c.advance.new.self) c.in-Some.is (c.advance.ensures.law fresh left waits))
          (λ front f done there whole is sofar. reported.turn standing f done c.args.turn.now.sent.items is (λ live. sound_at service front f done (subst (AreSound service) there sound) live whole)
          (distinct_at front f done (subst AreDistinct there distinct)) sofar),
      λ standing fetched st distinct. restores_more service (RestoredAlone service (node_of c.args.who standing)) fetched c.loop-entry.entries c.advance.new.self c.in-Some.entry c.loop-entry.serving c.restore.new.serving
          c.args.turn.now.sent.items c.loop-entry.turn.sent.items c.restore.new.turn.sent.items (c.loop-entry.invariant.3 standing fetched st distinct)
          (λ left waits. subst (λ o. FirstIs service left o c.advance.new.self) c.in-Some.is (c.advance.ensures.law fresh left waits))
          (λ front f done there whole is sofar. reported.alone standing f done c.args.turn.now.sent.items is (distinct_at front f done (subst AreDistinct there distinct)) sofar),
    )

pub returns-clause-turn : goal.returns-clause-turn
returns-clause-turn g c = λ standing fetched st distinct sound.
    let fresh = g.S.Service.started c.args.who.kind in
    let service = machine fresh g.S.Service.after g.S.Service.greeting in
    restores_all service (AreRestored service (node_of c.args.who standing)) fetched c.loop-entry.entries c.advance.new.self c.loop-entry.serving c.args.turn.now.sent.items c.loop-entry.turn.sent.items
    (c.loop-entry.invariant.2 standing fetched st distinct sound)
    (λ left waits. subst (λ o. FirstIs service left o c.advance.new.self) c.in_default.is (c.advance.ensures.law fresh left waits))

pub returns-clause-alone : goal.returns-clause-alone
returns-clause-alone g c = λ standing fetched st distinct.
    let fresh = g.S.Service.started c.args.who.kind in
    let service = machine fresh g.S.Service.after g.S.Service.greeting in
    restores_all service (RestoredAlone service (node_of c.args.who standing)) fetched c.loop-entry.entries c.advance.new.self c.loop-entry.serving c.args.turn.now.sent.items c.loop-entry.turn.sent.items
    (c.loop-entry.invariant.3 standing fetched st distinct)
    (λ left waits. subst (λ o. FirstIs service left o c.advance.new.self) c.in_default.is (c.advance.ensures.law fresh left waits))
