-- Restarts are exact in every joint trace.
use Rattle.std.proofs.Common.{⊎_elim, sym, subst, Option, Some, None, List, ◌∷◌}
use Rattle.server_trait.specs.Service.{Machine}
use Rattle.ft_model.specs.Log.{Log, log_after}
use Rattle.ft_model.specs.Network.{Packet}
use Rattle.ft_model.specs.Node.{Node}
use Rattle.ft_model.specs.Masked.{RestartIsExact}
use Rattle.ft_model.specs.World.{World, Moment, Joint, world_after}
use Rattle.ft_model.proofs.Happened.{Happened, happened, holds_after}
use Rattle.ft_model.proofs.Happened.Happened.{log_received, client_received, client_moved, server_turned, server_booted, server_down}
use Rattle.ft_model.proofs.Fenced.{IsFenced, start_fenced, fenced_proceeds}
use Rattle.ft_model.proofs.Asked.{IsAsked, start_asked, asked_proceeds}
use Rattle.ft_model.proofs.Resumed.{exact, not_resumed}

-- what the messages that are under way may say
abbrev pub IsOrderly : World → Type 0
IsOrderly w = IsFenced w × IsAsked w

pub orderly : {State : Type 0} (service : Machine State) (start : World) (trace : List Moment) → Joint service start trace → IsOrderly (world_after start trace)
orderly service start trace j =
    holds_after service IsOrderly start (λ s. (start_fenced start s, start_asked start s))
    (λ before sent after o h. (fenced_proceeds service before sent after o.0 h, asked_proceeds service before sent after o.0 o.1 h)) trace j

pub same_exact : {State : Type 0} (service : Machine State) (log : Log) (n : Option Node) → RestartIsExact service log n n
same_exact service log (Some node) = λ r. not_resumed service log node node.stage r
same_exact service log None = tt

down_exact : {State : Type 0} (service : Machine State) (log : Log) (n : Option Node) → RestartIsExact service log n None
down_exact service log (Some node) = tt
down_exact service log None = tt

pub exact_moment : {State : Type 0} (service : Machine State) (before : World) (sent : List Packet) (after : World)
    → IsOrderly before → Happened service before sent after → RestartIsExact service after.log before.node after.node
exact_moment service before sent after o (log_received message under s e) =
    subst (λ w. RestartIsExact service w.log before.node w.node) (sym e) (same_exact service (log_after before.log message) before.node)
exact_moment service before sent after o (client_received segment under s e) =
    subst (λ w. RestartIsExact service w.log before.node w.node) (sym e) (same_exact service before.log before.node)
exact_moment service before sent after o (client_moved number m) =
    subst (λ w. RestartIsExact service w.log before.node w.node) (sym m.after_is) (same_exact service before.log before.node)
exact_moment service before sent after o (server_turned input node later brought is turn e) =
    subst (λ w. RestartIsExact service w.log before.node w.node) (sym e)
    (subst (λ n. RestartIsExact service before.log n (Some later)) (sym is) (exact service before node later input sent o.1 is brought turn))
exact_moment service before sent after o (server_booted boot isn down larger s e) = subst (λ n. RestartIsExact service after.log n after.node) (sym down) tt
exact_moment service before sent after o (server_down s e) =
    subst (λ w. RestartIsExact service w.log before.node w.node) (sym e) (down_exact service before.log before.node)

pub exact_after : {State : Type 0} (service : Machine State) (start : World) (moment : Moment) (earlier : List Moment) → Joint service start (moment ∷ earlier)
    → RestartIsExact service moment.world.log (world_after start earlier).node moment.world.node
exact_after service start moment earlier j =
    let before : World = world_after start earlier in
    ⊎_elim (exact_moment service before moment.sent moment.world (orderly service start earlier j.0))
    (λ q. subst (λ w. RestartIsExact service w.log before.node w.node) (sym q.1) (same_exact service before.log before.node))
    (happened service (world_after start earlier) moment.event moment.sent moment.world j.1)
