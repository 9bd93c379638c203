use Rattle.std.proofs.Common.{◌∙◌, ◌≡◌, true, false, refl, sym, subst}
use Rattle.std.proofs.lemmas.Result.{on_ok_weaker}
use Rattle.server_node.specs.Places.{is_serving}
use Rattle.server_node.specs.Stages.{StageStands}
use Rattle.node_serving.specs.Identity.{node_of, service_of}
use Rattle.lasting_node.specs.Notes.{IsAtStage}
use Rattle.lasting_node.specs.Turns.{known_of}
use Rattle.lasting_node.proofs.Watching.{restored_serving, restored_later}
use Rattle.lasting_node.proofs.node.LastingNode.note_restart.Goals as goal

pub returns-then-not-is_serving-clause-notes : goal.returns-then-not-is_serving-clause-notes
returns-then-not-is_serving-clause-notes g c = λ at st.
    let was = c.args.self.now in
    let mid = c.note_entry.new.self in
    let waits : is_serving mid.node.stage ≡ false = sym c.is_serving.ensures ∙ c.if-not-is_serving.true in
    let there : StageStands (service_of g.S.Service was.node.who) (node_of was.node.who at) mid.node.stage =
    subst (λ x. StageStands (service_of g.S.Service was.node.who) (node_of was.node.who at) x.stage) (sym c.note_entry.ensures.only.node) st in
    record {
      mid = known_of mid;
      entry = c.in_ok-note_entry.ensures.notes at st;
      restored = restored_later (service_of g.S.Service was.node.who) (node_of was.node.who at) mid.node.stage at (known_of mid) (known_of mid) refl there waits (λ k. refl);
    }

pub returns-clause-notes : goal.returns-clause-notes
returns-clause-notes g c =
    on_ok_weaker c.watch_restored.result
    (λ t at st.
    let was = c.args.self.now in
    let mid = c.note_entry.new.self in
    let serves : is_serving mid.node.stage ≡ true = sym c.is_serving.ensures ∙ c.if-not-is_serving.false in
    let there : StageStands (service_of g.S.Service was.node.who) (node_of was.node.who at) mid.node.stage =
    subst (λ x. StageStands (service_of g.S.Service was.node.who) (node_of was.node.who at) x.stage) (sym c.note_entry.ensures.only.node) st in
    let at_mid : IsAtStage at mid = subst (λ x. StageStands (service_of g.S.Service x.who) (node_of x.who at) x.stage) (sym c.note_entry.ensures.only.node) st in
    record {
      mid = known_of mid;
      entry = c.in_ok-note_entry.ensures.notes at st;
      restored = restored_serving (service_of g.S.Service was.node.who) (node_of was.node.who at) mid.node.stage at (known_of mid) (known_of c.watch_restored.new.self) refl there serves (t at at_mid);
    }) c.watch_restored.ensures.watches
