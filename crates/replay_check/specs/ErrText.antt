-- What is written to the error sink: why a run ended early, on a line of its own.
use Rattle.std.specs.Prelude.{ℕ, codes, List, [], ◌∷◌, ◌++◌}
use Rattle.std.specs.Fmt.{decimal}
use Rattle.ft_model.specs.declared.event.EventWhy.{EventWhy}
use Rattle.ft_model.specs.declared.event.EventWhy.TheVariants as event
use Rattle.ft_model.specs.declared.schedule.LineWhy.{LineWhy}
use Rattle.ft_model.specs.declared.schedule.LineWhy.TheVariants as line
use Rattle.report_laws.specs.declared.Law.{Law}
use Rattle.report_laws.specs.declared.Law.TheVariants as law
use Rattle.replay_check.specs.declared.status.TooMuch.{TooMuch}
use Rattle.replay_check.specs.declared.status.TooMuch.TheVariants.{Text, Events, Packets}
use Rattle.replay_check.specs.declared.status.RunEnd.{RunEnd}
use Rattle.replay_check.specs.declared.status.RunEnd.TheVariants.{Usage, NoMemory, ReadFault, WriteFault, BadLine, BadEvent, TooLong, Rejected}

abbrev pub line_word : LineWhy → List ℕ
line_word line.Character = codes "character"
line_word line.Word = codes "word"
line_word line.Place = codes "place"
line_word line.Count = codes "count"
line_word line.Number = codes "number"
line_word line.Address = codes "address"
line_word line.Script = codes "script"
line_word line.Built = codes "built"

abbrev pub event_word : EventWhy → List ℕ
event_word event.Up = codes "up"
event_word event.Boot = codes "boot"
event_word event.Down = codes "down"
event_word event.Packet = codes "packet"
event_word event.Bit = codes "bit"
event_word event.Stop = codes "stop"
event_word event.Client = codes "client"
event_word event.State = codes "state"
event_word event.Range = codes "range"

abbrev pub limit_word : TooMuch → List ℕ
limit_word Text = codes "text"
limit_word Events = codes "events"
limit_word Packets = codes "packets"

abbrev pub law_word : Law → List ℕ
law_word law.Client = codes "client"
law_word law.Log = codes "log"
law_word law.Server = codes "server"
law_word law.Packet = codes "packet"
law_word law.Text = codes "text"
law_word law.Event = codes "event"
law_word law.End = codes "end"

-- the program's name, a text, and the end of the line
unfoldable pub error_line : List ℕ → List ℕ
error_line text = codes "ftreplay: " ++ (text ++ 10 ∷ [])

-- a name followed by its number, and a word
unfoldable pub numbered : List ℕ → ℕ → List ℕ → List ℕ
numbered name n word = (name ++ decimal n) ++ (codes ": " ++ word)

-- why a run ended. There is no text for a sink that failed
abbrev pub cause_text : RunEnd → List ℕ
cause_text Usage = codes "usage"
cause_text NoMemory = codes "no memory"
cause_text ReadFault = codes "read fault"
cause_text WriteFault = []
cause_text (BadLine n why) = numbered (codes "line ") n (line_word why)
cause_text (BadEvent n why) = numbered (codes "event ") n (event_word why)
cause_text (TooLong what) = codes "too long: " ++ limit_word what
cause_text (Rejected n law) = numbered (codes "line ") n (law_word law)

abbrev pub text_of : RunEnd → List ℕ
text_of WriteFault = []
text_of end = error_line (cause_text end)
