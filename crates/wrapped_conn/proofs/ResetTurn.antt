-- A connection that its client resets or has reset.
use Rattle.std.proofs.Common.{◌≡◌, ℕ, true, false, List, [], ◌∷◌, map, refl, sym, subst}
use Rattle.std.specs.Prelude.{if◌then◌else◌}
use Rattle.std.specs.Bool.{MatchBool}
use Rattle.ft_io.specs.declared.Addr.{Addr}
use Rattle.seq_arith.specs.Message.Body.{DoneMsg}
use Rattle.server_trait.specs.Service.{Machine}
use Rattle.ft_model.specs.Answered.{answered_after, reads_answered_after}
use Rattle.ft_model.specs.Connection.{LiveTurn, ResetTurn, reported_by}
use Rattle.ft_model.specs.ResetAndEnd.{reset_after, dones as dones_by_law}
use Rattle.ft_model.specs.News.{News}
use Rattle.ft_model.specs.Point.{Point}
use Rattle.north_wrap.specs.NorthState.{NorthState}
use Rattle.north_wrap.specs.Refinement.{NorthStands}
use Rattle.connection_laws.specs.Parts.{north_after_news}
use Rattle.connection_laws.proofs.Joining.{reset_receives}
use Rattle.tcp_endpoint.specs.Output.{packets}
use Rattle.wrapped_conn.specs.declared.stage.ConnStage.{ConnStage}
use Rattle.wrapped_conn.specs.declared.stage.ConnStage.TheVariants.{Done, Ending}
use Rattle.wrapped_conn.specs.ConnState.{ConnState}
use Rattle.wrapped_conn.specs.LoggerMessages.{spelled, is_done, dones}
use Rattle.wrapped_conn.specs.Refinement.{Keeps, TcpShows, Leads}
use Rattle.wrapped_conn.proofs.Ended.{spelled_by}

-- the point after a turn in which it is reset, or has been
abbrev pub reset_point : News → Point → Point
reset_point news p = record p { answered = answered_after news p; reads_answered = reads_answered_after news p; reset = true }

pub resets_on : {S : Type 0} (service : Machine S) (server : Addr) (boot given : ℕ) (news : News) (p : Point) (n : NorthState S) (new : ConnState S) (out messages : List (List ℕ))
    → reset_after news p ≡ true → NorthStands service p given n → new.north ≡ north_after_news news n → Keeps (reset_point news p) new → TcpShows (reset_point news p) new
    → out ≡ [] → messages ≡ spelled p.batches boot (dones_by_law news p (reset_point news p)) → Leads service server boot news p new out messages
unfolding packets
resets_on service server boot given news p n new out messages is_reset north on_receipt keeps reports silent reported =
    let q : Point = reset_point news p in
    let turn : ResetTurn boot news p q (map (reported_by boot) (dones_by_law news p q)) = record { point = refl; packets = refl } in
    let stands : NorthStands service q given (north_after_news news n) = reset_receives service boot news p q given n (map (reported_by boot) (dones_by_law news p q)) north turn in
    record {
      after = q;
      sent = map (reported_by boot) (dones_by_law news p q);
      goes = subst (λ b. MatchBool b (ResetTurn boot news p q (map (reported_by boot) (dones_by_law news p q))) (LiveTurn service server boot news p q (map (reported_by boot) (dones_by_law news p q)))) (sym is_reset) turn;
      stands = record { keeps = keeps; parts = record { given = given; north = subst (NorthStands service q given) (sym on_receipt) stands; reported = reports } };
      spelled = spelled_by p.batches boot [] (dones_by_law news p q) (map (reported_by boot) (dones_by_law news p q)) out messages refl silent reported;
    }

-- Done, which the logger hasn't answered
pub dones_are : {S : Type 0} (c : ConnState S) → is_done c.stage ≡ false → dones c ≡ DoneMsg c.key ∷ []
dones_are c off = λ j. if off j then [] else DoneMsg c.key ∷ []

pub still_unanswered : (stage : ConnStage) → is_done stage ≡ false → is_done (if is_done stage then Done else Ending) ≡ false
still_unanswered stage off = λ j. is_done (if off j then Done else Ending)
