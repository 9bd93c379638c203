-- The trace with a RST during the restart: each other moment happens, and the client's connection is gone.
use Rattle.std.proofs.Common.{◌^◌, ◌≡◌, Bool, true, false, refl, sym, ap, true≢false, None, List, [], ◌∷◌, map}
use Rattle.std.specs.List.{AllByRecursion}
use native.Mathlib.Bridge.{le_by_compare, IsLe}
use Rattle.tcp_rules.specs.Profile.{plain}
use Rattle.seq_arith.specs.Message.Body.{HelloMsg, SummaryMsg}
use Rattle.ft_model.specs.Client.Move.{Acknowledge}
use Rattle.ft_model.specs.Network.{Packet}
use Rattle.ft_model.specs.Node.{Node, booted}
use Rattle.ft_model.specs.Node.Input.{Packet_comes, Message_comes}
use Rattle.ft_model.specs.Lawful.{LawfulTurn}
use Rattle.ft_model.specs.Resets.{ResetsNoLogged}
use Rattle.ft_model.specs.World.{Happens}
use Rattle.ft_model.specs.declared.phase.Phase.TheVariants.{Reset}
use Rattle.ft_model.specs.WeakerLaw.{IsWrongOnce}
use Rattle.ft_model.specs.WorkedRuns.Common.{echo, server, client_segment, from_client, to_client, to_log, from_log, fetching}
use Rattle.ft_model.specs.WorkedRuns.FirstPath as path
use Rattle.ft_model.specs.WorkedRuns.ResetWhileRestarting as run
use Rattle.ft_model.proofs.Turns.{laws, message_in}
use Rattle.ft_model.proofs.FirstPath.{is_joint}
use Rattle.ft_model.proofs.WrongTurns.{never_happens}

happens_18 : Happens echo path.moment_17.world run.moment_18.event run.moment_18.sent run.moment_18.world
happens_18 = (refl, refl, refl)

happens_19 : Happens echo run.moment_18.world run.moment_19.event run.moment_19.sent run.moment_19.world
unfolding IsLe
happens_19 = (refl, (le_by_compare 2 2 tt, le_by_compare 3 (2 ^ 64) tt), refl, refl)

happens_20 : Happens echo run.moment_19.world run.moment_20.event run.moment_20.sent run.moment_20.world
unfolding laws
happens_20 = (to_log 2 HelloMsg, refl, (refl, refl))

asks : LawfulTurn echo (booted server plain 2 900000) (Message_comes (message_in (from_log 2 (SummaryMsg 1)))) run.moment_21.sent (fetching 2 900000 [])
unfolding laws
asks = record { server = refl; profile = refl; boot = refl; isn = refl; live = refl; stage = (refl, refl) }

happens_21 : Happens echo run.moment_20.world run.moment_21.event run.moment_21.sent run.moment_21.world
unfolding laws
happens_21 = (from_log 2 (SummaryMsg 1), refl, ((fetching 2 900000 [], refl, asks), refl))

happens_22 : Happens echo run.moment_21.world run.moment_22.event run.moment_22.sent run.moment_22.world
unfolding laws IsLe
happens_22 = record { client = path.served_client; segment = client_segment 16 1006 5006 65535 []; later = run.acknowledging_client; is_there = refl; move = record { move = Acknowledge; window = 65535; may = refl; fits = refl; timestamps = None; carries = refl; segment_is = refl; after_is = refl }; sent_is = refl; after_is = refl }

happens_24 : Happens echo run.wrong.world run.moment_24.event run.moment_24.sent run.moment_24.world
unfolding laws
happens_24 = (to_client 4 5006 0 0 None [], refl, (refl, refl))

abbrev is_empty : List Packet → Bool
is_empty [] = true
is_empty (packet ∷ packets) = false

-- a client whose entry hasn't come gets nothing
held_back : (later : Node) → LawfulTurn echo (fetching 2 900000 []) (Packet_comes (client_segment 16 1006 5006 65535 [])) run.wrong.sent later → ⊥
held_back later t = true≢false (sym (ap is_empty t.stage.1))

holds : LawfulTurn echo (fetching 2 900000 []) (Packet_comes (client_segment 16 1006 5006 65535 [])) [] (fetching 2 900000 [])
holds = record { server = refl; profile = refl; boot = refl; isn = refl; live = refl; stage = (refl, refl) }

pub wrong_once : IsWrongOnce echo path.start run.later run.wrong run.earlier
wrong_once = record {
  before = (((((is_joint, happens_18), happens_19), happens_20), happens_21), happens_22);
  refused = never_happens echo run.moment_22.world run.wrong.world 19 (client_segment 16 1006 5006 65535 []) (fetching 2 900000 []) run.wrong.sent refl refl held_back;
  otherwise = ([], run.moment_22.world, (from_client 16 1006 5006 65535 [], refl, ((fetching 2 900000 [], refl, holds), refl)));
  after = (tt, happens_24);
}

pub logged : AllByRecursion (ResetsNoLogged run.wrong.world.log) run.wrong.sent → ⊥
logged a = true≢false (sym (a.0 refl))

pub reset : map (λ client. client.phase) run.moment_24.world.clients ≡ Reset ∷ []
reset = refl
