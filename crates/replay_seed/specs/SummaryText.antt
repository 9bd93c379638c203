-- The summary of a generated run: what was asked for, the counts of the run, and then the state of each client.
use Rattle.std.specs.Prelude.{ℕ, ◌+◌, codes, List, [], ◌∷◌, ◌++◌, length, Bool, true, false}
use Rattle.std.specs.Fmt.{decimal}
use Rattle.seq_arith.specs.Offset.{one_if}
use Rattle.ft_model.specs.Client.{Client}
use Rattle.ft_model.specs.Texts.{phase_text}
use Rattle.ft_model.specs.World.{World, Moment, world_after}
use Rattle.ft_model.specs.declared.event.Event.{Event}
use Rattle.ft_model.specs.declared.event.Event.TheVariants.{Boot, Crash, Tick, Deliver, Flip, Begin, Send, Fin, Ack, Reset, Stop}

abbrev pub is_boot : Event → Bool
is_boot (Boot boot isn) = true
is_boot Crash = false
is_boot Tick = false
is_boot (Deliver packet) = false
is_boot (Flip packet bit) = false
is_boot (Begin client window) = false
is_boot (Send client from len) = false
is_boot (Fin client) = false
is_boot (Ack client window) = false
is_boot (Reset client) = false
is_boot (Stop part) = false

abbrev pub is_crash : Event → Bool
is_crash Crash = true
is_crash (Boot boot isn) = false
is_crash Tick = false
is_crash (Deliver packet) = false
is_crash (Flip packet bit) = false
is_crash (Begin client window) = false
is_crash (Send client from len) = false
is_crash (Fin client) = false
is_crash (Ack client window) = false
is_crash (Reset client) = false
is_crash (Stop part) = false

-- how many events of this kind a trace has
abbrev pub count_events : (Event → Bool) → List Moment → ℕ
count_events is [] = 0
count_events is (moment ∷ earlier) = count_events is earlier + one_if (is moment.event)

unfoldable pub first_line : (seed clients events packets boots crashes : ℕ) → List ℕ
first_line seed clients events packets boots crashes =
    codes "seed " ++ decimal seed ++ codes " clients " ++ decimal clients ++ codes " events " ++ decimal events ++ codes " packets " ++ decimal packets
    ++ codes " boots " ++ decimal boots ++ codes " crashes " ++ decimal crashes ++ 10 ∷ []

-- a client's number and phase, how many bytes it has accepted, and how many its script has
unfoldable pub client_result : ℕ → Client → List ℕ
client_result n client =
    codes "client " ++ decimal n ++ codes " " ++ phase_text client.phase ++ codes " accepted " ++ decimal (length client.accepted)
    ++ codes " of " ++ decimal (length client.script) ++ 10 ∷ []

-- clients, numbered from n on
abbrev pub client_results : ℕ → List Client → List ℕ
client_results n [] = []
client_results n (client ∷ others) = client_result n client ++ client_results (n + 1) others

-- the summary of a trace from a start
abbrev pub summary : ℕ → World → List Moment → List ℕ
summary seed start trace =
    first_line seed (length start.clients) (length trace) (length (world_after start trace).packets) (count_events is_boot trace) (count_events is_crash trace)
    ++ client_results 1 (world_after start trace).clients
