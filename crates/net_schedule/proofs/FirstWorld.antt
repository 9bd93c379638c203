-- Where a schedule starts, the code's world stands.
use Rattle.std.proofs.Common.{◌≡◌, ◌∙◌, sym, ap, subst, refl, ℕ, ◌<◌, ◌||◌, Bool, true, false, not, None, Some, List, [], ◌∷◌, map, if◌then◌else◌}
use Rattle.std.specs.Prelude.{unwrap_or}
use Rattle.server_trait.specs.Service.{Machine}
use Rattle.ft_io.specs.declared.Addr.{Addr}
use Rattle.ft_io.specs.declared.Key.{Key}
use Rattle.tcp_rules.specs.Profile.{grammar_of}
use Rattle.tcp_rules.specs.Profiles.{profile_of}
use Rattle.ft_model.specs.Client.{Client}
use Rattle.ft_model.specs.Schedule.{kind_of, clients_of}
use Rattle.ft_model.specs.Legal.{start_of}
use Rattle.ft_model.specs.World.{IsStart}
use Rattle.ft_model.specs.declared.schedule.Schedule.{Schedule}
use Rattle.ft_model.specs.declared.schedule.ClientLine.{ClientLine}
use Rattle.schedule_network.specs.StoredPackets.{Carried, no_packets}
use Rattle.net_schedule.specs.Refinement.{Kept}
use Rattle.net_schedule.specs.Step.{StandsAfter}
use Rattle.net_schedule.specs.TwinStep.{TwinStandsAfter}
use Rattle.ft_model.specs.Log.{empty_log}
use Rattle.net_schedule.specs.Every.{every_in}
use Rattle.schedule_network.specs.FullLog.{StoreAndLog}
use Rattle.schedule_network.specs.Loggers.{new_loggers}
use Rattle.schedule_network.specs.Logs.{IsNewMarked, log_in, keepers_in}
use Rattle.node_serving.specs.Markers.{Saving}
use Rattle.net_schedule.specs.MarkedRefinement.{marker_for}
use Rattle.net_schedule.specs.MarkedStep.{MarkedStandsAfter}
use Rattle.schedule_network.specs.declared.logs.Logs.{Logs}
use Rattle.schedule_network.specs.declared.logs.Logs.TheVariants.{One, Two}
use Rattle.ft_model.proofs.ClientKeys.{keys_in}

pub keys_begin : (server : Addr) (lines : List ClientLine) → map (λ line. line.key) lines ≡ keys_in (clients_of server lines)
keys_begin server [] = refl
keys_begin server (line ∷ lines) = ap (λ ks. line.key ∷ ks) (keys_begin server lines)

-- the code's world at the start of a schedule, with what keeps the log
abbrev pub started : {State : Type 0} → Schedule → Logs → (every : ℕ) → Kept State
started schedule logs every =
    record {
      kind = kind_of schedule.service;
      server = schedule.server;
      profile = schedule.profile;
      keys = map (λ line. line.key) schedule.clients;
      clients = clients_of schedule.server schedule.clients;
      log = log_in logs;
      keepers = keepers_in logs;
      every = every;
      packets = no_packets;
      boot = 0;
      node = None;
    }

-- .. as its parts are made
abbrev pub begun : {State : Type 0} → Schedule → ℕ → List Key → List Client → Logs → (every : ℕ) → Carried → Kept State
begun schedule kind keys clients logs every packets =
    record {
      kind = kind;
      server = schedule.server;
      profile = schedule.profile;
      keys = keys;
      clients = clients;
      log = log_in logs;
      keepers = keepers_in logs;
      every = every;
      packets = packets;
      boot = 0;
      node = None;
    }

pub begun_so : {State : Type 0} (schedule : Schedule) (kind : ℕ) (keys : List Key) (clients : List Client) (logs : Logs) (every : ℕ) (packets : Carried) → kind ≡ kind_of schedule.service
    → keys ≡ map (λ line. line.key) schedule.clients → clients ≡ clients_of schedule.server schedule.clients → packets ≡ no_packets
    → begun {State = State} schedule kind keys clients logs every packets ≡ started schedule logs every
begun_so {State} schedule kind keys clients logs every packets k ks cs p =
    ap (λ x. begun {State = State} schedule x keys clients logs every packets) k
    ∙ (ap (λ x. begun {State = State} schedule (kind_of schedule.service) x clients logs every packets) ks
    ∙ (ap (λ x. begun {State = State} schedule (kind_of schedule.service) (map (λ line. line.key) schedule.clients) x logs every packets) cs
    ∙ ap (λ x. begun {State = State} schedule (kind_of schedule.service) (map (λ line. line.key) schedule.clients) (clients_of schedule.server schedule.clients) logs every x) p))

pub stands_at_start : {State : Type 0} (services : ℕ → Machine State) (schedule : Schedule) (w : Kept State) (logs : Logs) (every : ℕ) → IsStart (start_of schedule)
    → w ≡ started schedule logs every → logs ≡ One empty_log → every ≡ 0 → StandsAfter services schedule [] [] w
stands_at_start services schedule w logs every start e one none =
    subst (StandsAfter services schedule [] []) (sym e)
    (record {
      kind = refl;
      profile = refl;
      legal = record { joint = start; events_are = refl; allowed = tt };
      stands = record {
        server = refl;
        profile = refl;
        keys = keys_begin schedule.server schedule.clients;
        clients = refl;
        single = ap keepers_in one;
        unmarked = none;
        log = ap log_in one;
        packets = refl;
        boot = refl;
        node = tt;
        runs = tt;
      };
    })

pub twin_stands_at_start : {State : Type 0} (services : ℕ → Machine State) (schedule : Schedule) (w : Kept State) (logs : Logs) (every : ℕ) → IsStart (start_of schedule)
    → w ≡ started schedule logs every → logs ≡ Two (new_loggers (grammar_of (profile_of schedule.profile))) → every ≡ 0 → TwinStandsAfter services schedule [] [] w
twin_stands_at_start services schedule w logs every start e two none =
    subst (TwinStandsAfter services schedule [] []) (sym e)
    (record {
      kind = refl;
      profile = refl;
      legal = record { joint = record { start = start; pair = refl; parcels = refl }; events_are = refl; allowed = tt };
      stands = record {
        actors = record { server = refl; profile = refl; keys = keys_begin schedule.server schedule.clients; clients = refl; boot = refl; unmarked = none; node = tt; runs = tt };
        loggers = new_loggers (grammar_of (profile_of schedule.profile));
        double = ap keepers_in two;
        log = ap log_in two;
        pair = record { head = refl; tail = refl };
        packets = refl;
      };
    })

pub marked_stands_at_start : {State : Type 0} (saved : Saving State) (services : ℕ → Machine State) (schedule : Schedule) (w : Kept State) (logs : Logs) (every marks : ℕ)
    → IsStart (start_of schedule) → w ≡ started schedule logs every → IsNewMarked logs → every ≡ marks → 0 < marks
    → MarkedStandsAfter (marker_for saved services marks) schedule [] [] w
marked_stands_at_start saved services schedule w logs every marks start e new same some =
    let both : StoreAndLog = new.0 in
    subst (MarkedStandsAfter (marker_for saved services marks) schedule [] []) (sym e)
    (record {
      kind = refl;
      profile = refl;
      legal = record { joint = record { start = start; log = refl; parcels = refl; node = refl }; events_are = refl; allowed = tt };
      stands = record {
        actors = record { server = refl; profile = refl; keys = keys_begin schedule.server schedule.clients; clients = refl; boot = refl; runs = tt };
        node = tt;
        both = new.0;
        keepers = ap keepers_in new.1;
        full_log = ap log_in new.1;
        log = ap log_in new.1 ∙ new.2.full_log;
        at = new.2;
        packets = refl;
        every = same;
        marks = some;
      };
    })

-- After how many reads the server marks
pub no_twin_marks : (savable : Bool) (schedule : Schedule) → schedule.twin ≡ true → every_in savable schedule ≡ 0
no_twin_marks savable schedule twin = ap (λ (b : Bool). if b || not savable then 0 else unwrap_or schedule.marks 0) twin

pub no_marks : (savable : Bool) (schedule : Schedule) → schedule.marks ≡ None → every_in savable schedule ≡ 0
no_marks savable schedule none = by_test (schedule.twin || not savable) ∙ ap (λ o. unwrap_or o 0) none
  where
    by_test : (b : Bool) → (if b then 0 else unwrap_or schedule.marks 0) ≡ unwrap_or schedule.marks 0
    by_test true = sym (ap (λ o. unwrap_or o 0) none)
    by_test false = refl

pub marks_are : (savable : Bool) (schedule : Schedule) (every : ℕ) → savable ≡ true → schedule.twin ≡ false → schedule.marks ≡ Some every → every_in savable schedule ≡ every
marks_are savable schedule every saved one marks =
    ap (λ b. every_in b schedule) saved ∙ (ap (λ (b : Bool). if b || false then 0 else unwrap_or schedule.marks 0) one ∙ ap (λ o. unwrap_or o 0) marks)
