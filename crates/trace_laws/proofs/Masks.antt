-- The four facts of the headline hold after every moment of a world with a mortal logger, since they hold of the joint trace that it looks like.
use Rattle.std.proofs.Common.{◌≡◌, inl, inr, refl, sym, ap, ◌∙◌, subst, Option, Some, None, List, [], ◌∷◌, ◌++◌}
use Rattle.std.specs.List.{AllByRecursion}
use Rattle.ft_io.specs.declared.Key.{Key}
use Rattle.server_trait.specs.Service.{Machine}
use Rattle.ft_model.specs.Network.{Packet}
use Rattle.ft_model.specs.Network.Packet.{To_server, To_client, To_logger, From_logger}
use Rattle.ft_model.specs.Node.{Node, points_at}
use Rattle.ft_model.specs.Masked.{SeesFront, AcknowledgesLogged, RestartIsExact, AllAreReported, IsReportedLast, last_reported, reported_to, or_before}
use Rattle.ft_model.specs.World.{World, Moment, Happens, Joint}
use Rattle.ft_model.specs.declared.event.Event.{Event}
use Rattle.ft_model.proofs.Lists.{all_weaker}
use Rattle.ft_model.proofs.Running.{HasSmallOutputs}
use Rattle.ft_model.proofs.OneTrace.{proceeds}
use Rattle.ft_model.proofs.ReportedLast.{or_none}
use Rattle.ft_model.proofs.ReportedOver.{reported_after}
use Rattle.ft_model.proofs.Acknowledged.{acknowledged_after}
use Rattle.ft_model.proofs.Exact.{exact_after, same_exact}
use Rattle.ft_model.proofs.JointMasked.{sees_front}
use Rattle.trace_laws.specs.Deaths.{Step, MayHappen, MortalMoment, mortal_after, MortalJoint, IsAnswer, IsWithin, IsShown, IsUnseen, Unseen}
use Rattle.trace_laws.specs.Deaths.Step.{Calm, Dies}
use Rattle.trace_laws.proofs.Refined.{beside, happens_beside, shown_calm, all_shown}

-- answers of the logger tell no client anything
reports_none : (key : Key) (packet : Packet) → IsAnswer packet → reported_to key packet ≡ None
reports_none key (From_logger message) a = refl
reports_none key (To_server segment) a = absurd a
reports_none key (To_client segment) a = absurd a
reports_none key (To_logger message) a = absurd a

last_within : (key : Key) (xs ys : List Packet) → IsWithin xs ys → last_reported key xs ≡ last_reported key ys
last_within key xs [] w = ap (last_reported key) w
last_within key xs (one ∷ ys) (inl (rest, is, w)) = ap (last_reported key) is ∙ ap (λ o. or_before o (reported_to key one)) (last_within key rest ys w)
last_within key xs (one ∷ ys) (inr (answer, w)) =
    last_within key xs ys w ∙ or_none (last_reported key ys) ∙ ap (or_before (last_reported key ys)) (sym (reports_none key one answer))

reported_within : (xs ys : List Packet) (node : Option Node) → IsWithin xs ys → AllAreReported ys node → AllAreReported xs node
reported_within xs ys None w t = tt
reported_within xs ys (Some node) w t =
    all_weaker (IsReportedLast ys) (IsReportedLast xs) (points_at node.stage) (λ p reported unreset. last_within p.key xs ys w ∙ reported unreset) t

module _ {State : Type 0} (service : Machine State) (small : HasSmallOutputs service) (start : World) where
  clients_see : (w : World) → IsShown service start w → AllByRecursion (SeesFront service w.log) w.clients
  clients_see w shown = subst (λ v. AllByRecursion (SeesFront service v.log) v.clients) shown.same (sees_front service small start shown.trace shown.joint)

  are_reported : (w : World) → IsShown service start w → AllAreReported w.packets w.node
  are_reported w shown =
      reported_within w.packets shown.packets w.node shown.within (subst (λ v. AllAreReported v.packets v.node) shown.same (reported_after service start shown.trace shown.joint))

  calm : (before after : World) (event : Event) (sent : List Packet) → IsShown service start before → Happens service before event sent after → IsUnseen service before sent after
  calm before after event sent shown h =
      let grown = proceeds service event before after sent h in
      let now : IsShown service start after = shown_calm service start before after event sent shown h grown in
      let also = all_but_reported before after event sent shown h in
      record { clients = clients_see after now; acknowledged = also.0; restart = also.1; reported = are_reported after now }
    where
      all_but_reported : (before after : World) (event : Event) (sent : List Packet) → IsShown service start before → Happens service before event sent after
          → AllByRecursion (AcknowledgesLogged after.log after.clients) sent × RestartIsExact service after.log before.node after.node
      all_but_reported before after event sent shown h = by_moment (happens_beside service before after event sent shown.packets shown.within h)
        where
          by_moment : (same : Event) × Happens service (beside before shown.packets) same sent (beside after (shown.packets ++ sent))
              → AllByRecursion (AcknowledgesLogged after.log after.clients) sent × RestartIsExact service after.log before.node after.node
          by_moment (same, happens) =
              let moment : Moment = record { event = same; sent = sent; world = beside after (shown.packets ++ sent) } in
              let joint : Joint service start (moment ∷ shown.trace) =
              (shown.joint, subst (λ w. Happens service w same sent (beside after (shown.packets ++ sent))) (sym shown.same) happens) in (
                acknowledged_after service start moment shown.trace joint,
                subst (λ n. RestartIsExact service after.log n after.node) (ap (λ w. w.node) shown.same) (exact_after service start moment shown.trace joint),
              )

  pub all_unseen : (trace : List MortalMoment) → MortalJoint service start trace → Unseen service start trace
  all_unseen [] j = tt
  all_unseen (moment ∷ earlier) j = (all_unseen earlier j.0, step moment.step j.1)
    where
      then_ : World
      then_ = mortal_after start earlier

      step : (s : Step) → MayHappen service then_ s moment.sent moment.world → IsUnseen service then_ moment.sent moment.world
      step (Calm event) h = calm then_ moment.world event moment.sent (all_shown service start earlier j.0) h
      step (Dies numbers) h =
          let now : IsShown service start moment.world = all_shown service start (moment ∷ earlier) j in
          record {
            clients = clients_see moment.world now;
            acknowledged = subst (AllByRecursion (AcknowledgesLogged moment.world.log moment.world.clients)) (sym h.2) tt;
            restart = subst (λ n. RestartIsExact service moment.world.log then_.node n) (sym (ap (λ w. w.node) h.3)) (same_exact service moment.world.log then_.node);
            reported = are_reported moment.world now;
          }
