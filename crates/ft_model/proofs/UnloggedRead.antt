-- The two traces about a read that a crash takes away: each moment but the wrong one happens.
use Rattle.std.proofs.Common.{◌^◌, ◌≡◌, ℕ, Bool, false, ◌==◌, refl, sym, ap, true≢false, subst, None, List, [], ◌∷◌, ◌++◌}
use Rattle.std.specs.List.{AllByRecursion}
use native.Mathlib.Bridge.{le_by_compare, IsLe}
use Rattle.tcp_rules.specs.Profile.{plain}
use Rattle.seq_arith.specs.Message.Body.{HelloMsg, SummaryMsg, ListMsg, EntryMsg, ReadsMsg, StaleMsg}
use Rattle.ft_model.specs.Client.Move.{Text}
use Rattle.ft_model.specs.Log.{Entry}
use Rattle.ft_model.specs.Network.{Packet}
use Rattle.ft_model.specs.News.News.{Comes, Logged, Begins}
use Rattle.ft_model.specs.Restart.{point_of, entry_in}
use Rattle.ft_model.specs.Node.{Node, booted}
use Rattle.ft_model.specs.Node.Place.{Lives}
use Rattle.ft_model.specs.Node.Input.{Packet_comes, Message_comes}
use Rattle.ft_model.specs.Lawful.{LawfulTurn, Revives}
use Rattle.ft_model.specs.Masked.{SeesFront, Masked}
use Rattle.ft_model.specs.World.{Joint, Happens, Delivered}
use Rattle.ft_model.specs.WeakerLaw.{EachHappens, IsWrongOnce}
use Rattle.ft_model.specs.WorkedRuns.Common.{server, hello_text, client_segment, from_client, to_client, to_log, from_log, kept_with, head_with, fetched_with, fetching, serving_at}
use Rattle.ft_model.specs.WorkedRuns.FirstPath as path
use Rattle.ft_model.specs.WorkedRuns.UnloggedRead as run
use Rattle.ft_model.specs.WorkedRuns.UnloggedRead.{meter}
use Rattle.ft_model.proofs.Lists.{some_is}
use Rattle.ft_model.proofs.Turns.{laws, alone, goes, serves, message_in}
use Rattle.ft_model.proofs.FirstPath.{opening_is_joint}
use Rattle.ft_model.proofs.WrongTurns.{refused, never_happens}

happens_11 : Happens meter path.moment_10.world run.moment_11.event run.moment_11.sent run.moment_11.world
unfolding laws IsLe
happens_11 = record { client = path.open_client; segment = client_segment 16 1001 5001 65535 run.first_text; later = run.begun_client; is_there = refl; move = record { move = Text 0 3; window = 65535; may = refl; fits = refl; timestamps = None; carries = refl; segment_is = refl; after_is = refl }; sent_is = refl; after_is = refl }

sent_is_joint : Joint meter path.start run.sent_trace
sent_is_joint = (opening_is_joint meter, happens_11)

-- the lawful turn at the first text
turn_12 : LawfulTurn meter (path.node_live path.open_point) (Packet_comes (client_segment 16 1001 5001 65535 run.first_text)) (run.moment_12 run.bare).sent (path.node_live run.first_point)
unfolding laws
turn_12 = serves meter 1 5000 (Packet_comes (client_segment 16 1001 5001 65535 run.first_text)) path.open_point run.first_point (run.moment_12 run.bare).sent refl refl refl
    (run.first_point, refl, goes meter server 1 (Comes (client_segment 16 1001 5001 65535 run.first_text)) path.open_point run.first_point (run.moment_12 run.bare).sent refl refl refl refl)

happens_12 : Happens meter run.moment_11.world (run.moment_12 run.bare).event (run.moment_12 run.bare).sent (run.moment_12 run.bare).world
happens_12 = (from_client 16 1001 5001 65535 run.first_text, refl, ((path.node_live run.first_point, refl, turn_12), refl))

happens_13 : (reported : Packet) → Happens meter (run.moment_12 reported).world (run.moment_13 reported).event (run.moment_13 reported).sent (run.moment_13 reported).world
happens_13 reported = (refl, refl, refl)

happens_14 : (reported : Packet) → Happens meter (run.moment_13 reported).world (run.moment_14 reported).event (run.moment_14 reported).sent (run.moment_14 reported).world
unfolding IsLe
happens_14 reported = (refl, (le_by_compare 2 2 tt, le_by_compare 3 (2 ^ 64) tt), refl, refl)

happens_15 : (reported : Packet) → Happens meter (run.moment_14 reported).world (run.moment_15 reported).event (run.moment_15 reported).sent (run.moment_15 reported).world
unfolding laws
happens_15 reported = (to_log 2 HelloMsg, refl, (refl, refl))

turn_16 : LawfulTurn meter (booted server plain 2 900000) (Message_comes (message_in (from_log 2 (SummaryMsg 1)))) (to_log 2 (ListMsg 0) ∷ []) (fetching 2 900000 [])
unfolding laws
turn_16 = record { server = refl; profile = refl; boot = refl; isn = refl; live = refl; stage = (refl, refl) }

happens_16 : (reported : Packet) → Happens meter (run.moment_15 reported).world (run.moment_16 reported).event (run.moment_16 reported).sent (run.moment_16 reported).world
unfolding laws
happens_16 reported = (from_log 2 (SummaryMsg 1), refl, ((fetching 2 900000 [], refl, turn_16), refl))

happens_17 : (reported : Packet) → Happens meter (run.moment_16 reported).world (run.moment_17 reported).event (run.moment_17 reported).sent (run.moment_17 reported).world
unfolding laws
happens_17 reported = (to_log 2 (ListMsg 0), refl, (refl, refl))

turn_18 : LawfulTurn meter (fetching 2 900000 []) (Message_comes (message_in (from_log 2 (EntryMsg 0 (head_with 0 false 0 0))))) (run.bare ∷ []) (serving_at 2 900000 run.restarted)
unfolding laws
turn_18 = record {
  server = refl;
  profile = refl;
  boot = refl;
  isn = refl;
  live = refl;
  stage = (
    Lives run.restarted ∷ [],
    refl,
    alone (Revives meter (fetching 2 900000 [])) (Lives (point_of meter plain (entry_in (fetched_with (head_with 0 false 0 0) [] [])))) (Lives run.restarted ∷ []) (run.bare ∷ [])
        (run.restarted, refl, goes meter server 2 Begins (point_of meter plain (entry_in (fetched_with (head_with 0 false 0 0) [] []))) run.restarted (run.bare ∷ []) refl refl refl refl),
  );
}

happens_18 : (reported : Packet) → Happens meter (run.moment_17 reported).world (run.moment_18 reported).event (run.moment_18 reported).sent (run.moment_18 reported).world
unfolding laws
happens_18 reported = (from_log 2 (EntryMsg 0 (head_with 0 false 0 0)), refl, ((serving_at 2 900000 run.restarted, refl, turn_18), refl))

happens_19 : (reported : Packet) → Happens meter (run.moment_18 reported).world (run.moment_19 reported).event (run.moment_19 reported).sent (run.moment_19 reported).world
unfolding laws IsLe
happens_19 reported = record { client = run.begun_client; segment = client_segment 16 1001 5001 65535 hello_text; later = run.whole_client; is_there = refl; move = record { move = Text 0 5; window = 65535; may = refl; fits = refl; timestamps = None; carries = refl; segment_is = refl; after_is = refl }; sent_is = refl; after_is = refl }

turn_20 : LawfulTurn meter (serving_at 2 900000 run.restarted) (Packet_comes (client_segment 16 1001 5001 65535 hello_text)) (run.bare ∷ run.second_data ∷ run.second_read ∷ []) (serving_at 2 900000 run.second_point)
unfolding laws
turn_20 = serves meter 2 900000 (Packet_comes (client_segment 16 1001 5001 65535 hello_text)) run.restarted run.second_point (run.bare ∷ run.second_data ∷ run.second_read ∷ []) refl refl refl
    (run.second_point, refl, goes meter server 2 (Comes (client_segment 16 1001 5001 65535 hello_text)) run.restarted run.second_point (run.bare ∷ run.second_data ∷ run.second_read ∷ []) refl refl refl refl)

happens_20 : (reported : Packet) → Happens meter (run.moment_19 reported).world (run.moment_20 reported).event (run.moment_20 reported).sent (run.moment_20 reported).world
unfolding laws
happens_20 reported = (from_client 16 1001 5001 65535 hello_text, refl, ((serving_at 2 900000 run.second_point, refl, turn_20), refl))

happens_21 : (reported : Packet) → Happens meter (run.moment_20 reported).world (run.moment_21 reported).event (run.moment_21 reported).sent (run.moment_21 reported).world
unfolding laws
happens_21 reported = (run.second_data, refl, (refl, refl))

restart_proceeds : (reported : Packet) → EachHappens meter (run.moment_12 reported).world (run.restart_trace reported)
restart_proceeds reported =
    (((((((((tt, happens_13 reported), happens_14 reported), happens_15 reported), happens_16 reported), happens_17 reported), happens_18 reported), happens_19 reported), happens_20 reported), happens_21 reported)

-- the output leaves before its read is logged
released_early : (later : Node) → LawfulTurn meter (path.node_live path.open_point) (Packet_comes (client_segment 16 1001 5001 65535 run.first_text)) (run.moment_12 run.early).sent later → ⊥
released_early =
    refused meter (path.node_live path.open_point) (path.node_live run.first_point) (Packet_comes (client_segment 16 1001 5001 65535 run.first_text)) (run.moment_12 run.bare).sent (run.moment_12 run.early).sent
    turn_12 refl refl

early_22 : Happens meter (run.moment_21 run.early).world run.early_22.event run.early_22.sent run.early_22.world
unfolding laws
early_22 = (run.second_read, refl, (refl, refl))

early_23 : Happens meter run.early_22.world run.early_23.event run.early_23.sent run.early_23.world
unfolding laws
early_23 = (run.early, refl, (refl, refl))

pub early_once : IsWrongOnce meter path.start run.after_early (run.moment_12 run.early) run.sent_trace
early_once = record {
  before = sent_is_joint;
  refused = never_happens meter run.moment_11.world (run.moment_12 run.early).world 8 (client_segment 16 1001 5001 65535 run.first_text) (path.node_live path.open_point) (run.moment_12 run.early).sent refl refl released_early;
  otherwise = ((run.moment_12 run.bare).sent, (run.moment_12 run.bare).world, happens_12);
  after = ((restart_proceeds run.early, early_22), early_23);
}

abbrev begins_with : ℕ → List ℕ → Bool
begins_with n [] = false
begins_with n (x ∷ xs) = x == n

pub early_is_seen : AllByRecursion (SeesFront meter run.early_23.world.log) run.early_23.world.clients → ⊥
unfolding laws
early_is_seen s = true≢false (ap (begins_with 3) s.0.accepted.1)

pub early_not_masked : Masked meter path.start (run.after_early ++ run.moment_12 run.early ∷ run.sent_trace) → ⊥
early_not_masked m = early_is_seen m.1.clients

-- the log hears an older boot
plain_is_joint : Joint meter path.start run.before_unfenced
plain_is_joint =
    ((((((((((sent_is_joint, happens_12), happens_13 run.bare), happens_14 run.bare), happens_15 run.bare), happens_16 run.bare), happens_17 run.bare), happens_18 run.bare), happens_19 run.bare), happens_20 run.bare), happens_21 run.bare)

abbrev has_first_read : List Entry → Bool
has_first_read [] = false
has_first_read (e ∷ es) = begins_with 3 e.lengths

older_is_refused : Happens meter (run.moment_21 run.bare).world run.unfenced.event run.unfenced.sent run.unfenced.world → ⊥
unfolding laws
older_is_refused h =
    let same : h.0 ≡ run.first_read = some_is _ _ (sym h.1) in
    let came : Delivered meter (run.moment_21 run.bare).world run.first_read run.unfenced.sent run.unfenced.world =
    subst (λ p. Delivered meter (run.moment_21 run.bare).world p run.unfenced.sent run.unfenced.world) same h.2 in
    true≢false (ap (λ w. has_first_read w.log.entries) came.1)

-- the log answers Stale, and stays as it is
stale : Happens meter (run.moment_21 run.bare).world run.unfenced.event (from_log 1 (StaleMsg 2) ∷ [])
    (record (run.moment_21 run.bare).world { packets = (run.moment_21 run.bare).world.packets ++ from_log 1 (StaleMsg 2) ∷ [] })
unfolding laws
stale = (run.first_read, refl, (refl, refl))

unfenced_23 : Happens meter run.unfenced.world run.unfenced_23.event run.unfenced_23.sent run.unfenced_23.world
unfolding laws
unfenced_23 = (run.second_read, refl, (refl, refl))

turn_24 : LawfulTurn meter (serving_at 2 900000 run.second_point) (Message_comes (message_in (from_log 2 (ReadsMsg (kept_with 5 false 1))))) run.unfenced_24.sent (serving_at 2 900000 run.released_point)
unfolding laws
turn_24 = serves meter 2 900000 (Message_comes (message_in (from_log 2 (ReadsMsg (kept_with 5 false 1))))) run.second_point run.released_point run.unfenced_24.sent refl refl refl
    (run.released_point, refl, goes meter server 2 (Logged (kept_with 5 false 1)) run.second_point run.released_point run.unfenced_24.sent refl refl refl refl)

unfenced_24 : Happens meter run.unfenced_23.world run.unfenced_24.event run.unfenced_24.sent run.unfenced_24.world
unfolding laws
unfenced_24 = (from_log 2 (ReadsMsg (kept_with 5 false 1)), refl, ((serving_at 2 900000 run.released_point, refl, turn_24), refl))

unfenced_25 : Happens meter run.unfenced_24.world run.unfenced_25.event run.unfenced_25.sent run.unfenced_25.world
unfolding laws
unfenced_25 = (to_client 16 5001 1006 65535 None (5 ∷ []), refl, (refl, refl))

pub unfenced_once : IsWrongOnce meter path.start run.after_unfenced run.unfenced run.before_unfenced
unfenced_once = record {
  before = plain_is_joint;
  refused = older_is_refused;
  otherwise = (from_log 1 (StaleMsg 2) ∷ [], record (run.moment_21 run.bare).world { packets = (run.moment_21 run.bare).world.packets ++ from_log 1 (StaleMsg 2) ∷ [] }, stale);
  after = (((tt, unfenced_23), unfenced_24), unfenced_25);
}

pub unfenced_is_seen : AllByRecursion (SeesFront meter run.unfenced_25.world.log) run.unfenced_25.world.clients → ⊥
unfolding laws
unfenced_is_seen s = true≢false (ap (begins_with 5) s.0.accepted.1)

pub unfenced_not_masked : Masked meter path.start (run.after_unfenced ++ run.unfenced ∷ run.before_unfenced) → ⊥
unfenced_not_masked m = unfenced_is_seen m.1.clients
