-- The log over a whole trace.
use Rattle.std.proofs.Common.{⊎_elim, sym, ap, subst, List, ◌∷◌, [], ◌++◌}
use Rattle.server_trait.specs.Service.{Machine}
use Rattle.ft_model.specs.Network.{Packet}
use Rattle.ft_model.specs.Growth.{LogGrows}
use Rattle.ft_model.specs.World.{World, Moment, Joint, world_after}
use Rattle.ft_model.proofs.Grows.{log_refl, log_grows, log_trans}
use Rattle.ft_model.proofs.Happened.{Happened, happened}
use Rattle.ft_model.proofs.Happened.Happened.{log_received, client_received, client_moved, server_turned, server_booted, server_down}

pub log_proceeds : {State : Type 0} (service : Machine State) (before : World) (sent : List Packet) (after : World)
    → Happened service before sent after → LogGrows before.log after.log
log_proceeds service before sent after (log_received message under sent_is e) = subst (LogGrows before.log) (sym (ap (λ w. w.log) e)) (log_grows before.log message)
log_proceeds service before sent after (client_received segment under sent_is e) = subst (LogGrows before.log) (sym (ap (λ w. w.log) e)) (log_refl before.log)
log_proceeds service before sent after (client_moved number m) = subst (LogGrows before.log) (sym (ap (λ w. w.log) m.after_is)) (log_refl before.log)
log_proceeds service before sent after (server_turned input node later brought is turn e) = subst (LogGrows before.log) (sym (ap (λ w. w.log) e)) (log_refl before.log)
log_proceeds service before sent after (server_booted boot isn down larger sent_is e) = subst (LogGrows before.log) (sym (ap (λ w. w.log) e)) (log_refl before.log)
log_proceeds service before sent after (server_down sent_is e) = subst (LogGrows before.log) (sym (ap (λ w. w.log) e)) (log_refl before.log)

pub log_over : {State : Type 0} (service : Machine State) (start : World) (later earlier : List Moment) → Joint service start (later ++ earlier)
    → LogGrows (world_after start earlier).log (world_after start (later ++ earlier)).log
log_over service start [] earlier j = log_refl (world_after start earlier).log
log_over service start (moment ∷ later) earlier j =
    log_trans (world_after start earlier).log (world_after start (later ++ earlier)).log moment.world.log (log_over service start later earlier j.0)
    (⊎_elim (log_proceeds service (world_after start (later ++ earlier)) moment.sent moment.world)
    (λ q. subst (λ w. LogGrows (world_after start (later ++ earlier)).log w.log) (sym q.1) (log_refl (world_after start (later ++ earlier)).log))
    (happened service (world_after start (later ++ earlier)) moment.event moment.sent moment.world j.1))
