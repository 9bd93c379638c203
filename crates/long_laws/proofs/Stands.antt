-- The invariants of a world, by its clients' scripts and numbers: they are preserved in every moment, and give the four facts of the headline.
use Rattle.std.proofs.Common.{◌≡◌, ℕ, ◌≤◌, ◌^◌, true, sym, ap, ◌∙◌, subst, ⊎_elim, List, length}
use Rattle.std.specs.List.{AllByRecursion}
use Rattle.ft_io.specs.declared.Key.{Key}
use Rattle.server_trait.specs.Service.{Machine, reference}
use Rattle.ft_model.specs.Growth.{IsPrefix, logged_lengths}
use Rattle.ft_model.specs.Masked.{SeesFront, AcknowledgesLogged, RestartIsExact, AllAreReported, unfailing}
use Rattle.ft_model.specs.Network.{Packet}
use Rattle.ft_model.specs.World.{World, Happens, IsStart}
use Rattle.ft_model.specs.declared.event.Event.{Event}
use Rattle.ft_model.proofs.Acknowledged.{short_scripts, fit_acknowledges}
use Rattle.ft_model.proofs.Asked.{IsAsked, asked_proceeds}
use Rattle.ft_model.proofs.Authored.{logged_run}
use Rattle.ft_model.proofs.AuthorOver.{HasAuthor}
use Rattle.ft_model.proofs.AuthorWorld.{author_proceeds}
use Rattle.ft_model.proofs.Backed.{IsBacked}
use Rattle.ft_model.proofs.BackedOver.{backed_proceeds}
use Rattle.ft_model.proofs.Distinct.{IsDistinct, distinct_after}
use Rattle.ft_model.proofs.Exact.{exact_moment, same_exact}
use Rattle.ft_model.proofs.Faithful.{IsFit}
use Rattle.ft_model.proofs.FaithfulKept.{ClientFits, IsFaithful}
use Rattle.ft_model.proofs.FaithfulOver.{script_of, isn_of, turn_faithful, faithful_proceeds}
use Rattle.ft_model.proofs.Fenced.{IsFenced, fenced_proceeds}
use Rattle.ft_model.proofs.Happened.{Happened, happened}
use Rattle.ft_model.proofs.Happened.Happened.{log_received, client_received, client_moved, server_turned, server_booted, server_down}
use Rattle.ft_model.proofs.JointMasked.{AllSee, sees_on, JointInvariant, start_sound}
use Rattle.ft_model.proofs.Lists.{all_both, all_weaker, none_is_some}
use Rattle.ft_model.proofs.LogAnswers.{all_answers}
use Rattle.ft_model.proofs.Running.{HasSmallOutputs}
use Rattle.ft_model.proofs.Seen.{IsSeen}
use Rattle.ft_model.proofs.StageTurns.{stage_went}
use Rattle.ft_model.proofs.ReportedOver.{IsReporting, reporting_proceeds, node_reported}

pub record Stands {State : Type 0} (service : Machine State) (w : World) : Type 0 where
  pub script : Key → List ℕ
  pub isn : Key → ℕ
  pub short : (key : Key) → length (script key) ≤ 2 ^ 24
  pub fenced : IsFenced w
  pub asked : IsAsked w
  pub faithful : IsFaithful script isn w
  pub distinct : IsDistinct w
  pub author : HasAuthor service script w
  pub sees : AllSee service script w
  pub backed : IsBacked service script w
  pub reporting : IsReporting w

-- it has the scripts and numbers of another
abbrev pub AreSame : {State : Type 0} {service : Machine State} {was is : World} → Stands service was → Stands service is → Type 0
AreSame was is = (is.script ≡ was.script) × (is.isn ≡ was.isn)

unfoldable pub at_start : {State : Type 0} (service : Machine State) → HasSmallOutputs service → (start : World) → IsStart start → Stands service start
at_start service small start s =
    let j : JointInvariant service start start = start_sound service small start s in
    record {
      script = script_of start;
      isn = isn_of start;
      short = short_scripts start s;
      fenced = j.fenced;
      asked = j.asked;
      faithful = j.faithful;
      distinct = j.distinct;
      author = j.author;
      sees = j.sees;
      backed = j.backed;
      reporting = λ n e. none_is_some n (sym s.node ∙ e);
    }

unfoldable pub proceeds : {State : Type 0} (service : Machine State) → HasSmallOutputs service → (before : World) (sent : List Packet) (after : World)
    → Stands service before → Happened service before sent after → Stands service after
proceeds service small before sent after o h = record {
  script = o.script;
  isn = o.isn;
  short = o.short;
  fenced = fenced_proceeds service before sent after o.fenced h;
  asked = asked_proceeds service before sent after o.fenced o.asked h;
  faithful = faithful_proceeds service o.script o.isn before sent after o.short o.asked o.faithful h;
  distinct = distinct_after service before sent after o.asked o.distinct h;
  author = author_proceeds service o.script o.isn before sent after small o.short o.fenced o.asked o.faithful o.distinct o.author h;
  sees = sees_on service o.script before sent after o.author o.sees h;
  backed = backed_proceeds service o.script o.isn before sent after o.asked o.faithful o.author o.sees o.backed h;
  reporting = reporting_proceeds service before sent after o.asked o.distinct o.reporting h;
}

-- the facts

pub sees_front : {State : Type 0} (service : Machine State) (w : World) → Stands service w → AllByRecursion (SeesFront service w.log) w.clients
sees_front service w o =
    all_both (IsSeen service o.script w.log) (ClientFits o.script o.isn) (SeesFront service w.log) w.clients
    (λ c s f. let same : logged_run service o.script w.log c.key ≡ unfailing service w.log c = ap (λ l. reference service l (logged_lengths c.key w.log)) (sym f.0) in
    record {
      accepted = subst (λ r. IsPrefix c.accepted r.output) same s.front;
      unlogged = s.unlogged;
      ended = λ e. subst (λ r. (r.closed ≡ true) × (c.accepted ≡ r.output)) same (s.ended e);
    }) o.sees o.faithful.clients

pub all_reported : {State : Type 0} (service : Machine State) (w : World) → Stands service w → AllAreReported w.packets w.node
all_reported service w o = node_reported w.packets w.node o.reporting

pub acknowledges : {State : Type 0} (service : Machine State) (before : World) (sent : List Packet) (after : World) → Stands service before → Happened service before sent after
    → AllByRecursion (AcknowledgesLogged after.log after.clients) sent
acknowledges service before sent after o (log_received message under t e) =
    subst (AllByRecursion (AcknowledgesLogged after.log after.clients)) (sym t) (all_answers (AcknowledgesLogged after.log after.clients) before.log message (λ body a. tt))
acknowledges service before sent after o (client_received segment under t e) = subst (AllByRecursion (AcknowledgesLogged after.log after.clients)) (sym t) tt
acknowledges service before sent after o (client_moved number m) = subst (AllByRecursion (AcknowledgesLogged after.log after.clients)) (sym m.sent_is) (tt, tt)
acknowledges service before sent after o (server_turned input node later brought is turn e) =
    let t = turn_faithful service o.script o.isn before node input sent later.stage o.short o.asked o.faithful is brought (stage_went service node later input sent turn) in
    subst (λ w. AllByRecursion (AcknowledgesLogged w.log w.clients) sent) (sym e)
    (all_weaker (IsFit o.script o.isn before.log) _ sent (λ p x. fit_acknowledges o.script o.isn before.log before.clients p o.faithful.clients x) t.1)
acknowledges service before sent after o (server_booted boot isn down larger t e) = subst (AllByRecursion (AcknowledgesLogged after.log after.clients)) (sym t) (tt, tt)
acknowledges service before sent after o (server_down t e) = subst (AllByRecursion (AcknowledgesLogged after.log after.clients)) (sym t) tt

-- all but those on clients that are gone
pub record Shown {State : Type 0} (service : Machine State) (before : World) (sent : List Packet) (after : World) : Type 0 where
  pub stands : Stands service after
  pub acknowledged : AllByRecursion (AcknowledgesLogged after.log after.clients) sent
  pub restart : RestartIsExact service after.log before.node after.node

pub shown : {State : Type 0} (service : Machine State) → HasSmallOutputs service → (before : World) (sent : List Packet) (after : World) → Stands service before
    → Happened service before sent after → Shown service before sent after
shown service small before sent after o h = record {
  stands = proceeds service small before sent after o h;
  acknowledged = acknowledges service before sent after o h;
  restart = exact_moment service before sent after (o.fenced, o.asked) h;
}

pub event_shown : {State : Type 0} (service : Machine State) → HasSmallOutputs service → (before : World) (event : Event) (sent : List Packet) (after : World) → Stands service before
    → Happens service before event sent after → Shown service before sent after
event_shown service small before event sent after o h =
    ⊎_elim (λ x. shown service small before sent after o x)
    (λ q. subst (Shown service before sent) (sym q.1)
    (record {
      stands = o;
      acknowledged = subst (AllByRecursion (AcknowledgesLogged before.log before.clients)) (sym q.0) tt;
      restart = same_exact service before.log before.node;
    }))
    (happened service before event sent after h)
