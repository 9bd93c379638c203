-- How a node marks, given its service.
use Rattle.std.specs.Prelude.{ℕ, Bool, Option, List}
use Rattle.ft_io.specs.declared.Key.{Key}
use Rattle.server_trait.specs.declared.Service.{Ghosts}
use Rattle.server_trait.specs.Saved.{writing}
use Rattle.ft_model.specs.Node.{Stage as law_stage}
use Rattle.mark_laws.specs.Marking.{Marking}
use Rattle.mark_laws.specs.MarkedNode.{Marker, MarkedNode}
use Rattle.conn_marks.specs.KeyMarks.{every_for}
use Rattle.node_serving.specs.declared.identity.Identity.{Identity}
use Rattle.node_serving.specs.Identity.{node_of, service_of}

-- how the states of a service are saved, by its ghost members
pub record Saving (S : Type 0) : Type 0 where
  pub form : S → List ℕ
  pub state_of : (kind : ℕ) → List ℕ → Option S
  pub savable : Bool

abbrev pub saving : {S : Type 0} → (S → List ℕ) → ((kind : ℕ) → List ℕ → Option S) → Bool → Saving S
saving form state_of savable = record { form = form; state_of = state_of; savable = savable }

-- how a node with this `every` marks. If its service isn't savable, it makes no marks
abbrev pub marker_of : {S : Type 0} → Ghosts S → Saving S → Identity → (every : ℕ) → Marker S
marker_of s v who every = record { service = service_of s who; writing = writing v.form (v.state_of who.kind); every = every_for v.savable every }

-- a node of the law with this incarnation's numbers
abbrev pub node_at : Identity → law_stage → Bool → (Key → Marking) → MarkedNode
node_at who standing awaits marking = record { plain = node_of who standing; awaits_mark = awaits; marking = marking }
