-- The premises of a server's contract, in a world: they stay in every moment of a joint trace.
use Rattle.std.proofs.Common.{◌≡◌, ◌≤◌, ◌^◌, refl, sym, subst, subst₂, ⊎_elim, List, length}
use Rattle.ft_io.specs.declared.Key.{Key}
use Rattle.server_trait.specs.Service.{Machine}
use Rattle.ft_model.specs.Network.{Packet}
use Rattle.ft_model.specs.World.{World, Happens, IsStart}
use Rattle.ft_model.specs.declared.event.Event.{Event}
use Rattle.ft_model.proofs.AuthorOver.{HasAuthor}
use Rattle.ft_model.proofs.Backed.{IsBacked}
use Rattle.ft_model.proofs.FaithfulKept.{IsFaithful}
use Rattle.ft_model.proofs.FaithfulOver.{script_of, isn_of}
use Rattle.ft_model.proofs.Happened.{Happened, happened}
use Rattle.ft_model.proofs.JointMasked.{AllSee, JointInvariant}
use Rattle.ft_model.proofs.Running.{HasSmallOutputs}
use Rattle.ft_model.proofs.Unfenced.{Unfenced, unfenced_proceeds, start_unfenced}
use Rattle.trace_laws.proofs.FinsBelow.{FinsBelow, below_proceeds, start_below}
use Rattle.trace_laws.proofs.Near.{SendsNear, near_proceeds, start_near}
use Rattle.long_laws.proofs.PlainNear.{SendsPlain, plain_proceeds, start_plain}
use Rattle.long_laws.proofs.Stands.{Stands, at_start, proceeds}

-- The clients that are present, and those that are past, stand in a roster, the newest of a key first. So the scripts and numbers are those of a start, and what
-- holds in the worlds after it is said of the roster
pub record Premised {State : Type 0} (service : Machine State) (w : World) : Type 0 where
  pub stands : Stands service w
  pub roster : World
  pub script : script_of roster ≡ stands.script
  pub isn : isn_of roster ≡ stands.isn
  pub below : FinsBelow (script_of roster) w
  pub near : SendsNear (isn_of roster) w
  pub plain : SendsPlain (isn_of roster) w
  pub unfenced : Unfenced w

pub joint_of : {State : Type 0} (service : Machine State) (w : World) → (o : Premised service w) → JointInvariant service o.roster w
joint_of service w o = record {
  fenced = o.stands.fenced;
  asked = o.stands.asked;
  faithful = subst₂ (λ s i. IsFaithful s i w) (sym o.script) (sym o.isn) o.stands.faithful;
  distinct = o.stands.distinct;
  author = subst (λ s. HasAuthor service s w) (sym o.script) o.stands.author;
  sees = subst (λ s. AllSee service s w) (sym o.script) o.stands.sees;
  backed = subst (λ s. IsBacked service s w) (sym o.script) o.stands.backed;
}

pub short_of : {State : Type 0} (service : Machine State) (w : World) → (o : Premised service w) → (key : Key) → length (script_of o.roster key) ≤ 2 ^ 24
short_of service w o = subst (λ s. (key : Key) → length (s key) ≤ 2 ^ 24) (sym o.script) o.stands.short

pub premised_at_start : {State : Type 0} (service : Machine State) → HasSmallOutputs service → (start : World) → IsStart start → Premised service start
unfolding at_start
premised_at_start service small start s = record {
  stands = at_start service small start s;
  roster = start;
  script = refl;
  isn = refl;
  below = start_below (script_of start) start s;
  near = start_near (isn_of start) start s;
  plain = start_plain (isn_of start) start s;
  unfenced = start_unfenced start s;
}

pub premised_proceeds : {State : Type 0} (service : Machine State) → HasSmallOutputs service → (before : World) (sent : List Packet) (after : World)
    → Premised service before → Happened service before sent after → Premised service after
unfolding proceeds
premised_proceeds service small before sent after o h =
    let j : JointInvariant service o.roster before = joint_of service before o in
    record {
      stands = proceeds service small before sent after o.stands h;
      roster = o.roster;
      script = o.script;
      isn = o.isn;
      below = below_proceeds service (script_of o.roster) (isn_of o.roster) before sent after (short_of service before o) o.stands.asked j.faithful o.below h;
      near = near_proceeds service o.roster before sent after j o.near h;
      plain = plain_proceeds service (script_of o.roster) (isn_of o.roster) before sent after j.faithful.clients o.near.clients o.plain h;
      unfenced = unfenced_proceeds service before sent after o.stands.fenced o.unfenced h;
    }

pub event_premised : {State : Type 0} (service : Machine State) → HasSmallOutputs service → (before : World) (event : Event) (sent : List Packet) (after : World)
    → Premised service before → Happens service before event sent after → Premised service after
event_premised service small before event sent after o h =
    ⊎_elim (λ x. premised_proceeds service small before sent after o x) (λ q. subst (Premised service) (sym q.1) o) (happened service before event sent after h)
