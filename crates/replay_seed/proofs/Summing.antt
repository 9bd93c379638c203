-- The two ends of a run: where it stands before the first event, and its summary.
use Rattle.std.proofs.Common.{◌≡◌, ◌∙◌, refl, sym, ap, subst, ℕ, zero, suc, ◌+◌, ◌<◌, ◌≤◌, true≢false, is_some, None, Some, List, [], ◌∷◌, ◌++◌, length, take, slice_get, append_assoc, append-nil, add-one, arith}
use Rattle.sample_servers.specs.AnyService.{any_machine}
use Rattle.sample_servers.specs.declared.any_service.AnyService.{AnyService}
use Rattle.ft_model.specs.Client.{Client}
use Rattle.ft_model.specs.World.{World, Moment, Joint, client_at}
use Rattle.ft_model.proofs.Lists.{none_is_some, some_is}
use Rattle.net_schedule.specs.Refinement.{Kept}
use Rattle.net_schedule.specs.Step.{StandsAfter}
use Rattle.replay_seed.specs.Generated.{schedule_of, after_draws}
use Rattle.replay_check.specs.Safe.{IsSafe}
use Rattle.replay_seed.specs.SummaryText.{first_line, client_result, client_results, count_events, is_boot, is_crash}
use Rattle.replay_seed.specs.SeedSummaries.{start_of_run, packets_of_run, IsSummary, StandsBehind}
use Rattle.replay_seed.specs.declared.asked.Asked.{Asked}
use Rattle.replay_seed.specs.declared.seed_progress.Progress.{Progress}
use Rattle.replay_seed.proofs.Allowed.{there}
use Rattle.replay_seed.proofs.Facts.{count_clients}
use Rattle.replay_seed.proofs.Stepping.{generated}

pub stands_first : (asked : Asked) (w : Kept AnyService) (p : Progress) → StandsAfter any_machine (schedule_of asked.seed asked.clients []) [] [] w
    → p.dice.draws.state ≡ after_draws asked.seed asked.clients → p.packets ≡ 0 → p.boots ≡ 0 → p.crashes ≡ 0 → StandsBehind asked 0 w p
stands_first asked w p stands state packets boots crashes = record {
  trace = [];
  stands = stands;
  drawn = tt;
  events = refl;
  state = state;
  packets = packets;
  within = omega (arith, packets);
  boots = boots;
  crashes = crashes;
  last_boot = sym boots;
}

pub results_more : (n : ℕ) (cs : List Client) (i : ℕ) (c : Client) → slice_get cs i ≡ Some c → client_results n (take (suc i) cs) ≡ client_results n (take i cs) ++ client_result (n + i) c
results_more n [] i c e = none_is_some c e
results_more n (d ∷ cs) zero c e =
    ap (λ x. client_result n x ++ []) (some_is d c e) ∙ (append-nil (client_result n c) ∙ ap (λ k. client_result k c) (omega arith))
results_more n (d ∷ cs) (suc i) c e =
    ap (λ x. client_result n d ++ x) (results_more (n + 1) cs i c e)
    ∙ (sym (append_assoc (client_result n d) (client_results (n + 1) (take i cs)) (client_result (n + 1 + i) c))
    ∙ ap (λ k. client_result n d ++ client_results (n + 1) (take i cs) ++ client_result k c) (omega arith))

pub summed : (asked : Asked) (w : Kept AnyService) (p : Progress) (text : List ℕ)
    → ((kind : ℕ) (start : World) (trace : List Moment) → Joint (any_machine kind) start trace → IsSafe (any_machine kind) start trace)
    → text ≡ first_line asked.seed asked.clients asked.events p.packets p.boots p.crashes ++ client_results 1 w.clients
    → StandsBehind asked asked.events w p → IsSummary asked text
summed asked w p text law e s =
    let start : World = start_of_run asked in
    record {
      trace = s.trace;
      run = record {
        generated = generated asked s.trace _ s.stands.legal s.drawn;
        safe = law 1 (start_of_run asked) s.trace s.stands.legal.joint;
        count = s.events;
        within = subst (λ k. k ≤ 200000) s.packets s.within;
      };
      text_is =
          e ∙ (ap (λ k. first_line asked.seed k asked.events p.packets p.boots p.crashes ++ client_results 1 w.clients) (sym (count_clients asked.seed asked.clients))
          ∙ (ap (λ k. first_line asked.seed (length start.clients) k p.packets p.boots p.crashes ++ client_results 1 w.clients) (sym s.events)
          ∙ (ap (λ k. first_line asked.seed (length start.clients) (length s.trace) k p.boots p.crashes ++ client_results 1 w.clients) s.packets
          ∙ (ap (λ k. first_line asked.seed (length start.clients) (length s.trace) (packets_of_run asked s.trace) k p.crashes ++ client_results 1 w.clients) s.boots
          ∙ (ap (λ k. first_line asked.seed (length start.clients) (length s.trace) (packets_of_run asked s.trace) (count_events is_boot s.trace) k ++ client_results 1 w.clients) s.crashes
          ∙ ap (λ cs. first_line asked.seed (length start.clients) (length s.trace) (packets_of_run asked s.trace) (count_events is_boot s.trace) (count_events is_crash s.trace) ++ client_results 1 cs) s.stands.stands.clients)))));
    }

pub row_done : (cs : List Client) (i : ℕ) (c : Client) (front old new : List ℕ) → Some c ≡ client_at cs (i + 1) → old ≡ front ++ client_results 1 (take i cs)
    → new ≡ old ++ client_result (i + 1) c → new ≡ front ++ client_results 1 (take (i + 1) cs)
row_done cs i c front old new e before after =
    let there : slice_get cs i ≡ Some c = sym (e ∙ ap (λ k. client_at cs k) (add-one i)) in
    after ∙ (ap (λ x. x ++ client_result (i + 1) c) before ∙ (append_assoc front (client_results 1 (take i cs)) (client_result (i + 1) c)
    ∙ ap (λ x. front ++ x) (ap (λ k. client_results 1 (take i cs) ++ client_result k c) (omega arith) ∙ sym (ap (λ k. client_results 1 (take k cs)) (add-one i) ∙ results_more 1 cs i c there))))

pub nobody : (cs : List Client) (i : ℕ) → None ≡ client_at cs (i + 1) → i < length cs → ⊥
nobody cs i e h = true≢false (sym (there cs i h) ∙ sym (ap is_some (e ∙ ap (λ k. client_at cs k) (add-one i))))
