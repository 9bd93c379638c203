-- Tests of an event line's words. Each number is accepted in its one spelling and in its range only.
use Rattle.std.specs.Prelude.{ℕ, Bool, ◌-◌, ◌^◌, ◌&&◌, nat_le, codes, Option, Some, None, option_map, List, [], ◌∷◌, length, take, if◌then◌else◌}
use Rattle.std.specs.List.{slice_split}
use Rattle.std.specs.Str.{bytes_eq}
use Rattle.ft_model.specs.Words.{is}
use Rattle.ft_model.specs.declared.event.Event.{Event}
use Rattle.ft_model.specs.declared.event.Event.TheVariants as events
use Rattle.ft_model.specs.declared.line.Verb.{Verb}
use Rattle.ft_model.specs.declared.line.Verb.TheVariants as verbs
use Rattle.line_check.specs.Words.{number_word, is_numbered, ends_with_feed}

-- a number from least to most, without leading zeros
abbrev pub from_least : ℕ → Option ℕ → Option ℕ
from_least least None = None
from_least least (Some n) = if nat_le least n then Some n else None

unfoldable pub ranged : ℕ → ℕ → List ℕ → Option ℕ
ranged least most word = from_least least (number_word most word)

-- exactly one word
abbrev pub one_of : List (List ℕ) → Option (List ℕ)
one_of (a ∷ []) = Some a
one_of _ = None

abbrev pub two_of : List (List ℕ) → Option (List ℕ × List ℕ)
two_of (a ∷ b ∷ []) = Some (a, b)
two_of _ = None

abbrev pub three_of : List (List ℕ) → Option (List ℕ × List ℕ × List ℕ)
three_of (a ∷ b ∷ c ∷ []) = Some (a, b, c)
three_of _ = None

-- a value made of numbers, if each is one
abbrev pub with_two : {A : Type 0} → (ℕ → ℕ → A) → Option ℕ → Option ℕ → Option A
with_two make (Some a) (Some b) = Some (make a b)
with_two make _ _ = None

abbrev pub with_three : {A : Type 0} → (ℕ → ℕ → ℕ → A) → Option ℕ → Option ℕ → Option ℕ → Option A
with_three make (Some a) (Some b) (Some c) = Some (make a b c)
with_three make _ _ _ = None

-- the numbers of an event
abbrev pub client_in : List ℕ → Option ℕ
client_in word = ranged 1 16 word

abbrev pub long_in : List ℕ → Option ℕ
long_in word = ranged 0 (2 ^ 32 - 1) word

abbrev pub window_in : List ℕ → Option ℕ
window_in word = ranged 0 65535 word

abbrev pub packet_in : List ℕ → Option ℕ
packet_in word = ranged 1 (2 ^ 32 - 1) word

abbrev pub boot_in : List ℕ → Option ℕ
boot_in word = ranged 1 (2 ^ 64 - 1) word

-- the words after an event's first
abbrev pub bare : Event → List (List ℕ) → Option Event
bare event [] = Some event
bare event (word ∷ more) = None

abbrev pub boot_words : Option (List ℕ × List ℕ) → Option Event
boot_words (Some (boot, isn)) = with_two events.Boot (boot_in boot) (long_in isn)
boot_words None = None

abbrev pub deliver_words : Option (List ℕ) → Option Event
deliver_words (Some packet) = option_map events.Deliver (packet_in packet)
deliver_words None = None

abbrev pub flip_words : Option (List ℕ × List ℕ) → Option Event
flip_words (Some (packet, bit)) = with_two events.Flip (packet_in packet) (long_in bit)
flip_words None = None

abbrev pub window_words : (ℕ → ℕ → Event) → Option (List ℕ × List ℕ) → Option Event
window_words make (Some (client, window)) = with_two make (client_in client) (window_in window)
window_words make None = None

abbrev pub send_words : Option (List ℕ × List ℕ × List ℕ) → Option Event
send_words (Some (client, from, len)) = with_three events.Send (client_in client) (long_in from) (long_in len)
send_words None = None

abbrev pub client_words : (ℕ → Event) → Option (List ℕ) → Option Event
client_words make (Some client) = option_map make (client_in client)
client_words make None = None

abbrev pub stop_words : Option (List ℕ) → Option Event
stop_words (Some part) = option_map events.Stop (ranged 1 2 part)
stop_words None = None

-- the first word of an event
abbrev pub verb_name : Verb → List ℕ
verb_name verbs.Boot = codes "boot"
verb_name verbs.Crash = codes "crash"
verb_name verbs.Tick = codes "tick"
verb_name verbs.Deliver = codes "deliver"
verb_name verbs.Flip = codes "flip"
verb_name verbs.Open = codes "open"
verb_name verbs.Send = codes "send"
verb_name verbs.Fin = codes "fin"
verb_name verbs.Ack = codes "ack"
verb_name verbs.Reset = codes "reset"
verb_name verbs.Stop = codes "stop"

abbrev pub all_verbs : List Verb
all_verbs =
    verbs.Boot ∷ verbs.Crash ∷ verbs.Tick ∷ verbs.Deliver ∷ verbs.Flip ∷ verbs.Open ∷ verbs.Send ∷ verbs.Fin ∷ verbs.Ack ∷ verbs.Reset
    ∷ verbs.Stop ∷ []

abbrev pub verb_among : List Verb → List ℕ → Option Verb
verb_among [] word = None
verb_among (verb ∷ more) word = if bytes_eq word (verb_name verb) then Some verb else verb_among more word

unfoldable pub verb_named : List ℕ → Option Verb
verb_named word = verb_among all_verbs word

abbrev pub event_for : Option Verb → List (List ℕ) → Option Event
event_for (Some verbs.Boot) words = boot_words (two_of words)
event_for (Some verbs.Crash) words = bare events.Crash words
event_for (Some verbs.Tick) words = bare events.Tick words
event_for (Some verbs.Deliver) words = deliver_words (one_of words)
event_for (Some verbs.Flip) words = flip_words (two_of words)
event_for (Some verbs.Open) words = window_words events.Begin (two_of words)
event_for (Some verbs.Send) words = send_words (three_of words)
event_for (Some verbs.Fin) words = client_words events.Fin (one_of words)
event_for (Some verbs.Ack) words = window_words events.Ack (two_of words)
event_for (Some verbs.Reset) words = client_words events.Reset (one_of words)
event_for (Some verbs.Stop) words = stop_words (one_of words)
event_for None words = None

abbrev pub event_of_words : List (List ℕ) → Option Event
event_of_words [] = None
event_of_words (verb ∷ words) = event_for (verb_named verb) words

-- the words of an event's line: `event`, the event's number, and the event's own words
abbrev pub if_true : Bool → Option Event → Option Event
if_true test event = if test then event else None

unfoldable pub event_in_words : (n : ℕ) → List (List ℕ) → Option Event
event_in_words n (event ∷ number ∷ words) = if_true (bytes_eq event (codes "event") && is_numbered n (number_word (2 ^ 32 - 1) number)) (event_of_words words)
event_in_words n _ = None

unfoldable pub event_in_text : (n : ℕ) → List ℕ → Option Event
event_in_text n line = if_true (ends_with_feed line) (event_in_words n (slice_split (is 32) (take (length line - 1) line)))
