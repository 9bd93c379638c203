-- Every moment of the first path happens: each equation computes.
use Rattle.std.proofs.Common.{◌^◌, refl, None, List, [], ◌∷◌}
use native.Mathlib.Bridge.{le_by_compare, IsLe}
use Rattle.tcp_rules.specs.declared.timestamping.Timestamping.TheVariants.{Off}
use Rattle.tcp_rules.specs.Profile.{plain}
use Rattle.server_trait.specs.Service.{Machine}
use Rattle.ft_model.specs.News.{News}
use Rattle.ft_model.specs.News.News.{Comes, Logged, Begins}
use Rattle.ft_model.specs.Point.{Point}
use Rattle.ft_model.specs.Connection.{ConnectionTurn}
use Rattle.ft_model.specs.Opening.{point_opened}
use Rattle.ft_model.specs.Network.{Packet}
use Rattle.ft_model.specs.Node.Input.{Packet_comes, Message_comes}
use Rattle.ft_model.specs.Node.{booted}
use Rattle.ft_model.specs.Node.Stage.{Serving}
use Rattle.ft_model.specs.Node.Place.{Opens, Lives}
use Rattle.ft_model.specs.ServingTurn.{PlaceTurn}
use Rattle.ft_model.specs.Lawful.{LawfulTurn}
use Rattle.ft_model.specs.Client.Move.{Syn, Text, Acknowledge}
use Rattle.ft_model.specs.World.{Joint, Happens}
use Rattle.ft_model.specs.WorkedRuns.Common.{echo, server, numbers, hello_text, client_with}
use Rattle.ft_model.specs.WorkedRuns.FirstPath as run
use Rattle.ft_model.proofs.AllowedMoments.{starts_with_hello}
use Rattle.ft_model.proofs.Turns.{laws, alone, goes, segment_in, message_in, kept_in}

-- a turn of the one live connection
abbrev Goes : {State : Type 0} → Machine State → News → Point → Point → List Packet → Type 0
Goes service news before after sent = ConnectionTurn service server 1 news before after sent

-- any service, without a greeting
abbrev pub quiet : {State : Type 0} → Machine State → Machine State
quiet service = record service { greeting = [] }

-- the SYN-ACK leaves
begins : {State : Type 0} (service : Machine State) → Goes (quiet service) Begins (point_opened plain Off numbers) run.begun_point run.moment_7.sent
unfolding laws
begins service = goes (quiet service) server 1 Begins (point_opened plain Off numbers) run.begun_point run.moment_7.sent refl refl refl refl

-- the SYN is acknowledged
opens : {State : Type 0} (service : Machine State) → Goes (quiet service) (Comes (segment_in run.packet_7)) run.begun_point run.open_point run.moment_10.sent
unfolding laws
opens service = goes (quiet service) server 1 (Comes (segment_in run.packet_7)) run.begun_point run.open_point run.moment_10.sent refl refl refl refl

-- the text is taken and read
takes : Goes echo (Comes (segment_in run.packet_8)) run.open_point run.taken_point run.moment_12.sent
unfolding laws
takes = goes echo server 1 (Comes (segment_in run.packet_8)) run.open_point run.taken_point run.moment_12.sent refl refl refl refl

-- the text is logged
on_receipt : Goes echo (Logged (kept_in run.packet_12)) run.taken_point run.logged_point run.moment_14.sent
unfolding laws
on_receipt = goes echo server 1 (Logged (kept_in run.packet_12)) run.taken_point run.logged_point run.moment_14.sent refl refl refl refl

-- the read is logged
releases : Goes echo (Logged (kept_in run.packet_14)) run.logged_point run.released_point run.moment_16.sent
unfolding laws
releases = goes echo server 1 (Logged (kept_in run.packet_14)) run.logged_point run.released_point run.moment_16.sent refl refl refl refl

-- the server's turns
pub turn_3 : {State : Type 0} (service : Machine State) → LawfulTurn (quiet service) (booted server plain 1 5000) (Message_comes (message_in run.packet_2)) [] (run.node_at (Serving 0 []))
unfolding laws
turn_3 service = record { server = refl; profile = refl; boot = refl; isn = refl; live = refl; stage = ([], refl, (refl, refl)) }

pub turn_5 : {State : Type 0} (service : Machine State) → LawfulTurn (quiet service) (run.node_at (Serving 0 [])) (Packet_comes (segment_in run.packet_3)) run.moment_5.sent (run.node_at (Serving 1 (Opens numbers Off ∷ [])))
unfolding laws
turn_5 service = record { server = refl; profile = refl; boot = refl; isn = refl; live = refl; stage = (Opens numbers Off ∷ [], refl, record { went = []; by_places = []; all_go = (refl, refl); places = refl; packets = refl }) }

pub turn_7 : {State : Type 0} (service : Machine State) → LawfulTurn (quiet service) (run.node_at (Serving 1 (Opens numbers Off ∷ []))) (Message_comes (message_in run.packet_5)) run.moment_7.sent (run.node_live run.begun_point)
unfolding laws
turn_7 service = record { server = refl; profile = refl; boot = refl; isn = refl; live = refl; stage = (Lives run.begun_point ∷ [], refl, record { went = Lives run.begun_point ∷ []; by_places = run.moment_7.sent; all_go = alone (PlaceTurn (quiet service) (run.node_at (Serving 1 (Opens numbers Off ∷ []))) (Message_comes (message_in run.packet_5))) (Opens numbers Off) (Lives run.begun_point ∷ []) run.moment_7.sent (run.begun_point, refl, begins service); places = refl; packets = refl }) }

pub turn_10 : {State : Type 0} (service : Machine State) → LawfulTurn (quiet service) (run.node_live run.begun_point) (Packet_comes (segment_in run.packet_7)) run.moment_10.sent (run.node_live run.open_point)
unfolding laws
turn_10 service = record { server = refl; profile = refl; boot = refl; isn = refl; live = refl; stage = (Lives run.open_point ∷ [], refl, record { went = Lives run.open_point ∷ []; by_places = run.moment_10.sent; all_go = alone (PlaceTurn (quiet service) (run.node_live run.begun_point) (Packet_comes (segment_in run.packet_7))) (Lives run.begun_point) (Lives run.open_point ∷ []) run.moment_10.sent (run.open_point, refl, opens service); places = refl; packets = refl }) }

pub turn_12 : LawfulTurn echo (run.node_live run.open_point) (Packet_comes (segment_in run.packet_8)) run.moment_12.sent (run.node_live run.taken_point)
unfolding laws
turn_12 = record { server = refl; profile = refl; boot = refl; isn = refl; live = refl; stage = (Lives run.taken_point ∷ [], refl, record { went = Lives run.taken_point ∷ []; by_places = run.moment_12.sent; all_go = alone (PlaceTurn echo (run.node_live run.open_point) (Packet_comes (segment_in run.packet_8))) (Lives run.open_point) (Lives run.taken_point ∷ []) run.moment_12.sent (run.taken_point, refl, takes); places = refl; packets = refl }) }

pub turn_14 : LawfulTurn echo (run.node_live run.taken_point) (Message_comes (message_in run.packet_12)) run.moment_14.sent (run.node_live run.logged_point)
unfolding laws
turn_14 = record { server = refl; profile = refl; boot = refl; isn = refl; live = refl; stage = (Lives run.logged_point ∷ [], refl, record { went = Lives run.logged_point ∷ []; by_places = run.moment_14.sent; all_go = alone (PlaceTurn echo (run.node_live run.taken_point) (Message_comes (message_in run.packet_12))) (Lives run.taken_point) (Lives run.logged_point ∷ []) run.moment_14.sent (run.logged_point, refl, on_receipt); places = refl; packets = refl }) }

turn_16 : LawfulTurn echo (run.node_live run.logged_point) (Message_comes (message_in run.packet_14)) run.moment_16.sent (run.node_live run.released_point)
unfolding laws
turn_16 = record { server = refl; profile = refl; boot = refl; isn = refl; live = refl; stage = (Lives run.released_point ∷ [], refl, record { went = Lives run.released_point ∷ []; by_places = run.moment_16.sent; all_go = alone (PlaceTurn echo (run.node_live run.logged_point) (Message_comes (message_in run.packet_14))) (Lives run.logged_point) (Lives run.released_point ∷ []) run.moment_16.sent (run.released_point, refl, releases); places = refl; packets = refl }) }

-- what happens in each moment
happens_1 : {State : Type 0} (service : Machine State) → Happens (quiet service) run.start run.moment_1.event run.moment_1.sent run.moment_1.world
unfolding laws IsLe
happens_1 service = (refl, (le_by_compare 1 1 tt, le_by_compare 2 (2 ^ 64) tt), refl, refl)

happens_2 : {State : Type 0} (service : Machine State) → Happens (quiet service) run.moment_1.world run.moment_2.event run.moment_2.sent run.moment_2.world
unfolding laws IsLe
happens_2 service = (run.packet_1, refl, (refl, refl))

happens_3 : {State : Type 0} (service : Machine State) → Happens (quiet service) run.moment_2.world run.moment_3.event run.moment_3.sent run.moment_3.world
unfolding laws IsLe
happens_3 service = (run.packet_2, refl, ((run.node_at (Serving 0 []), refl, turn_3 service), refl))

happens_4 : {State : Type 0} (service : Machine State) → Happens (quiet service) run.moment_3.world run.moment_4.event run.moment_4.sent run.moment_4.world
unfolding laws IsLe
happens_4 service = record { client = client_with hello_text; segment = segment_in run.packet_3; later = run.opening; is_there = refl; move = record { move = Syn None; window = 65535; may = refl; fits = refl; timestamps = None; carries = refl; segment_is = refl; after_is = refl }; sent_is = refl; after_is = refl }

happens_5 : {State : Type 0} (service : Machine State) → Happens (quiet service) run.moment_4.world run.moment_5.event run.moment_5.sent run.moment_5.world
unfolding laws IsLe
happens_5 service = (run.packet_3, refl, ((run.node_at (Serving 1 (Opens numbers Off ∷ [])), refl, turn_5 service), refl))

happens_6 : {State : Type 0} (service : Machine State) → Happens (quiet service) run.moment_5.world run.moment_6.event run.moment_6.sent run.moment_6.world
unfolding laws IsLe
happens_6 service = (run.packet_4, refl, (refl, refl))

happens_7 : {State : Type 0} (service : Machine State) → Happens (quiet service) run.moment_6.world run.moment_7.event run.moment_7.sent run.moment_7.world
unfolding laws IsLe
happens_7 service = (run.packet_5, refl, ((run.node_live run.begun_point, refl, turn_7 service), refl))

happens_8 : {State : Type 0} (service : Machine State) → Happens (quiet service) run.moment_7.world run.moment_8.event run.moment_8.sent run.moment_8.world
unfolding laws IsLe
happens_8 service = (run.packet_6, refl, (refl, refl))

happens_9 : {State : Type 0} (service : Machine State) → Happens (quiet service) run.moment_8.world run.moment_9.event run.moment_9.sent run.moment_9.world
unfolding laws IsLe
happens_9 service = record { client = run.open_client; segment = segment_in run.packet_7; later = run.open_client; is_there = refl; move = record { move = Acknowledge; window = 65535; may = refl; fits = refl; timestamps = None; carries = refl; segment_is = refl; after_is = refl }; sent_is = refl; after_is = refl }

happens_10 : {State : Type 0} (service : Machine State) → Happens (quiet service) run.moment_9.world run.moment_10.event run.moment_10.sent run.moment_10.world
unfolding laws IsLe
happens_10 service = (run.packet_7, refl, ((run.node_live run.open_point, refl, turn_10 service), refl))

pub happens_11 : Happens echo run.moment_10.world run.moment_11.event run.moment_11.sent run.moment_11.world
unfolding laws IsLe
happens_11 = record { client = run.open_client; segment = segment_in run.packet_8; later = run.reported_client; is_there = refl; move = record { move = Text 0 5; window = 65535; may = refl; fits = refl; timestamps = None; carries = refl; segment_is = refl; after_is = refl }; sent_is = refl; after_is = refl }

pub happens_12 : Happens echo run.moment_11.world run.moment_12.event run.moment_12.sent run.moment_12.world
unfolding laws IsLe
happens_12 = (run.packet_8, refl, ((run.node_live run.taken_point, refl, turn_12), refl))

happens_13 : Happens echo run.moment_12.world run.moment_13.event run.moment_13.sent run.moment_13.world
unfolding laws IsLe
happens_13 = (run.packet_10, refl, (refl, refl))

happens_14 : Happens echo run.moment_13.world run.moment_14.event run.moment_14.sent run.moment_14.world
unfolding laws IsLe
happens_14 = (run.packet_12, refl, ((run.node_live run.logged_point, refl, turn_14), refl))

happens_15 : Happens echo run.moment_14.world run.moment_15.event run.moment_15.sent run.moment_15.world
unfolding laws IsLe
happens_15 = (run.packet_11, refl, (refl, refl))

happens_16 : Happens echo run.moment_15.world run.moment_16.event run.moment_16.sent run.moment_16.world
unfolding laws IsLe
happens_16 = (run.packet_14, refl, ((run.node_live run.released_point, refl, turn_16), refl))

happens_17 : Happens echo run.moment_16.world run.moment_17.event run.moment_17.sent run.moment_17.world
unfolding laws IsLe
happens_17 = (run.packet_15, refl, (refl, refl))

-- up to the open connection it is the same for every service, ..
pub opening_is_joint : {State : Type 0} (service : Machine State) → Joint (quiet service) run.start run.opening_trace
opening_is_joint service =
    ((((((((((starts_with_hello, happens_1 service), happens_2 service), happens_3 service), happens_4 service), happens_5 service), happens_6 service), happens_7 service), happens_8 service), happens_9 service), happens_10 service)

-- .. and whole with echo
pub is_joint : Joint echo run.start run.trace
is_joint = (((((((opening_is_joint echo, happens_11), happens_12), happens_13), happens_14), happens_15), happens_16), happens_17)
