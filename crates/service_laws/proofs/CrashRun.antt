-- The run with a crash, whole: each moment happens and is allowed.
use Rattle.std.specs.Prelude.{None}
use Rattle.std.proofs.Common.{ℕ, zero, suc, ◌^◌, refl, List, [], ◌∷◌}
use native.Mathlib.Bridge.{le_by_compare, IsLe}
use Rattle.tcp_rules.specs.Profile.{plain}
use Rattle.server_trait.specs.Service.{Machine}
use Rattle.sample_servers.specs.declared.any_service.AnyService.{AnyService}
use Rattle.sample_servers.specs.AnyService.{any_machine}
use Rattle.ft_model.specs.Client.Move.{Text, Acknowledge}
use Rattle.ft_model.specs.News.News.{Comes, Begins}
use Rattle.ft_model.specs.Network.{Packet}
use Rattle.ft_model.specs.Node.Place.{Lives}
use Rattle.ft_model.specs.Restart.{point_of, entry_in}
use Rattle.ft_model.specs.Point.{Point}
use Rattle.ft_model.specs.Lawful.{Revives, Turn}
use Rattle.ft_model.specs.World.{Moment, Joint, Happens}
use Rattle.ft_model.specs.Legal.{IsAllowed, AllAllowed, Legal}
use Rattle.ft_model.specs.WorkedRuns.Common.{server, hello_text, serving_at, on_segment}
use Rattle.ft_model.specs.WorkedRuns.FirstPath as first
use Rattle.ft_model.specs.WorkedRuns.CrashAfterLogged as turn
use Rattle.ft_model.specs.WorkedRuns.RestartFromHello as start
use Rattle.ft_model.proofs.AllowedMoments.{opening_allowed}
use Rattle.ft_model.proofs.AskedMoves.{scripted, still}
use Rattle.ft_model.proofs.RestartFromHello.{Turns, asks_entry, asks_lengths, asks_bytes}
use Rattle.ft_model.proofs.FirstPath.{opening_is_joint}
use Rattle.ft_model.proofs.Turns.{laws, alone, goes, serves, segment_in}
use Rattle.service_laws.specs.CrashRun as run

abbrev echo : Machine AnyService
echo = any_machine 1

-- the text is taken and read
text_comes : Turns echo (serving_at 1 5000 first.open_point) (on_segment (segment_in first.packet_8) first.moment_12.sent (serving_at 1 5000 first.taken_point))
unfolding laws
text_comes = serves echo 1 5000 first.text_comes first.open_point first.taken_point first.moment_12.sent refl refl refl
    (first.taken_point, refl, goes echo server 1 (Comes (segment_in first.packet_8)) first.open_point first.taken_point first.moment_12.sent refl refl refl refl)

-- the second boot's turns
serves_again : Turns echo start.asks_bytes.node start.serves_again
unfolding laws
serves_again =
    let p : Point = point_of echo plain (entry_in (record start.entry_with_lengths { bytes = hello_text })) in
    record {
      server = refl;
      profile = refl;
      boot = refl;
      isn = refl;
      live = refl;
      stage = (
        Lives start.restarted ∷ [],
        refl,
        alone (Revives echo start.asks_bytes.node) (Lives p) (Lives start.restarted ∷ []) start.serves_again.sent
            (start.restarted, refl, goes echo server 2 Begins p start.restarted start.serves_again.sent refl refl refl refl),
      );
    }

restart_5 : Turns echo start.serves_again.node turn.restart_5
unfolding laws
restart_5 = serves echo 2 900000 turn.restart_5.input start.restarted start.resumed turn.restart_5.sent refl refl refl
    (start.resumed, refl, goes echo server 2 (Comes turn.room) start.restarted start.resumed turn.restart_5.sent refl refl refl refl)

-- the output is acknowledged
abbrev last : Turn
last = on_segment run.last_ack run.moment_30.sent (serving_at 2 900000 start.acknowledged)

acknowledged : Turns echo turn.restart_5.node last
unfolding laws
acknowledged = serves echo 2 900000 last.input start.resumed start.acknowledged last.sent refl refl refl
    (start.acknowledged, refl, goes echo server 2 (Comes run.last_ack) start.resumed start.acknowledged last.sent refl refl refl refl)

abbrev Follows : Moment → Moment → Type 0
Follows before after = Happens echo before.world after.event after.sent after.world

-- the packet of a place in a turn
abbrev nth : ℕ → List Packet → Packet
nth n [] = first.packet_1
nth zero (packet ∷ packets) = packet
nth (suc n) (packet ∷ packets) = nth n packets

-- what happens
happens_11 : Follows first.moment_10 first.moment_11
unfolding laws IsLe
happens_11 = record { client = first.open_client; segment = segment_in first.packet_8; later = first.reported_client; is_there = refl; move = record { move = Text 0 5; window = 65535; may = refl; fits = refl; timestamps = None; carries = refl; segment_is = refl; after_is = refl }; sent_is = refl; after_is = refl }

happens_12 : Follows first.moment_11 first.moment_12
unfolding laws IsLe
happens_12 = (first.packet_8, refl, ((serving_at 1 5000 first.taken_point, refl, text_comes), refl))

happens_13 : Follows first.moment_12 first.moment_13
unfolding laws IsLe
happens_13 = (first.packet_10, refl, (refl, refl))

happens_14 : Follows first.moment_13 run.moment_14
unfolding laws IsLe
happens_14 = (first.packet_11, refl, (refl, refl))

happens_15 : Follows run.moment_14 run.moment_15
unfolding laws IsLe
happens_15 = (refl, refl, refl)

happens_16 : Follows run.moment_15 run.moment_16
unfolding laws IsLe
happens_16 = (refl, (le_by_compare 2 2 tt, le_by_compare 3 (2 ^ 64) tt), refl, refl)

happens_17 : Follows run.moment_16 run.moment_17
unfolding laws IsLe
happens_17 = (nth 0 run.moment_16.sent, refl, (refl, refl))

happens_18 : Follows run.moment_17 run.moment_18
unfolding laws IsLe
happens_18 = (nth 0 run.moment_17.sent, refl, ((start.asks_entry.node, refl, asks_entry echo), refl))

happens_19 : Follows run.moment_18 run.moment_19
unfolding laws IsLe
happens_19 = (nth 0 run.moment_18.sent, refl, (refl, refl))

happens_20 : Follows run.moment_19 run.moment_20
unfolding laws IsLe
happens_20 = (nth 0 run.moment_19.sent, refl, ((start.asks_lengths.node, refl, asks_lengths echo), refl))

happens_21 : Follows run.moment_20 run.moment_21
unfolding laws IsLe
happens_21 = (nth 0 run.moment_20.sent, refl, (refl, refl))

happens_22 : Follows run.moment_21 run.moment_22
unfolding laws IsLe
happens_22 = (nth 0 run.moment_21.sent, refl, ((start.asks_bytes.node, refl, asks_bytes echo), refl))

happens_23 : Follows run.moment_22 run.moment_23
unfolding laws IsLe
happens_23 = (nth 0 run.moment_22.sent, refl, (refl, refl))

happens_24 : Follows run.moment_23 run.moment_24
unfolding laws IsLe
happens_24 = (nth 0 run.moment_23.sent, refl, ((start.serves_again.node, refl, serves_again), refl))

happens_25 : Follows run.moment_24 run.moment_25
unfolding laws IsLe
happens_25 = (nth 0 run.moment_24.sent, refl, (refl, refl))

happens_26 : Follows run.moment_25 run.moment_26
unfolding laws IsLe
happens_26 = record { client = run.receipt; segment = turn.room; later = run.receipt; is_there = refl; move = record { move = Acknowledge; window = 65535; may = refl; fits = refl; timestamps = None; carries = refl; segment_is = refl; after_is = refl }; sent_is = refl; after_is = refl }

happens_27 : Follows run.moment_26 run.moment_27
unfolding laws IsLe
happens_27 = (nth 0 run.moment_26.sent, refl, ((turn.restart_5.node, refl, restart_5), refl))

happens_28 : Follows run.moment_27 run.moment_28
unfolding laws IsLe
happens_28 = (nth 0 run.moment_27.sent, refl, (refl, refl))

happens_29 : Follows run.moment_28 run.moment_29
unfolding laws IsLe
happens_29 = record { client = run.echoed; segment = run.last_ack; later = run.served; is_there = refl; move = record { move = Acknowledge; window = 65535; may = refl; fits = refl; timestamps = None; carries = refl; segment_is = refl; after_is = refl }; sent_is = refl; after_is = refl }

happens_30 : Follows run.moment_29 run.moment_30
unfolding laws IsLe
happens_30 = (nth 0 run.moment_29.sent, refl, ((serving_at 2 900000 start.acknowledged, refl, acknowledged), refl))

is_joint : Joint echo first.start run.trace
is_joint = ((((((((((((((((((((opening_is_joint echo, happens_11), happens_12), happens_13), happens_14), happens_15), happens_16), happens_17), happens_18), happens_19), happens_20), happens_21), happens_22), happens_23), happens_24), happens_25), happens_26), happens_27), happens_28), happens_29), happens_30)

-- and is allowed
allowed_11 : IsAllowed first.moment_10.world first.moment_11
allowed_11 = record { allowed = refl; scripted = scripted first.moment_10.world first.moment_11.event first.open_client (Text 0 5) 1 first.moment_11.world refl refl refl }

allowed_26 : IsAllowed run.moment_25.world run.moment_26
allowed_26 = record { allowed = refl; scripted = scripted run.moment_25.world run.moment_26.event run.receipt Acknowledge 1 run.moment_26.world refl refl refl }

allowed_29 : IsAllowed run.moment_28.world run.moment_29
allowed_29 = record { allowed = refl; scripted = scripted run.moment_28.world run.moment_29.event run.echoed Acknowledge 1 run.moment_29.world refl refl refl }

all_allowed : AllAllowed first.start run.trace
all_allowed = (
  (
    (
      (
        (
          (
            (
              (
                (
                  (
                    (
                      (
                        (
                          (
                            (
                              (
                                (
                                  (
                                    (
                                      (
                                        opening_allowed,
                                        allowed_11,
                                      ),
                                      still first.moment_11.world first.moment_12 refl refl,
                                    ),
                                    still first.moment_12.world first.moment_13 refl refl,
                                  ),
                                  still first.moment_13.world run.moment_14 refl refl,
                                ),
                                still run.moment_14.world run.moment_15 refl refl,
                              ),
                              still run.moment_15.world run.moment_16 refl refl,
                            ),
                            still run.moment_16.world run.moment_17 refl refl,
                          ),
                          still run.moment_17.world run.moment_18 refl refl,
                        ),
                        still run.moment_18.world run.moment_19 refl refl,
                      ),
                      still run.moment_19.world run.moment_20 refl refl,
                    ),
                    still run.moment_20.world run.moment_21 refl refl,
                  ),
                  still run.moment_21.world run.moment_22 refl refl,
                ),
                still run.moment_22.world run.moment_23 refl refl,
              ),
              still run.moment_23.world run.moment_24 refl refl,
            ),
            still run.moment_24.world run.moment_25 refl refl,
          ),
          allowed_26,
        ),
        still run.moment_26.world run.moment_27 refl refl,
      ),
      still run.moment_27.world run.moment_28 refl refl,
    ),
    allowed_29,
  ),
  still run.moment_29.world run.moment_30 refl refl,
)

pub is_legal : Legal any_machine run.schedule run.trace
is_legal = record { joint = is_joint; events_are = refl; allowed = all_allowed }
