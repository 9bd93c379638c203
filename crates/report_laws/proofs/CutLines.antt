-- A report's text, cut at its line feeds, gives the lines of its turns.
use Rattle.std.proofs.Common.{◌≡◌, ℕ, ◌+◌, ◌≤◌, ◌<◌, ◌^◌, ◌==◌, false, refl, sym, ap, ◌∙◌, arith, List, [], ◌∷◌, ◌++◌, codes, decimal, length, append_assoc, if◌then◌else◌}
use Rattle.std.specs.List.{AllByRecursion}
use Rattle.std.proofs.lemmas.Bool.{ne_eqb}
use Rattle.ft_model.specs.Client.{Client}
use Rattle.ft_model.specs.Network.{Packet}
use Rattle.ft_model.specs.Readable.{IsWord, IsReadable, FitsEvent}
use Rattle.ft_model.specs.Report.{event_line, event_words, event_lines, packet_line, packet_lines, packet_count, content_words, way_of}
use Rattle.ft_model.specs.Texts.{line, spaced, way_text}
use Rattle.ft_model.specs.World.{Moment}
use Rattle.ft_model.specs.declared.event.Event.{Event}
use Rattle.ft_model.specs.declared.event.Event.TheVariants.{Boot, Crash, Tick, Deliver, Flip, Begin, Send, Fin, Ack, Reset, Stop}
use Rattle.ft_model.specs.declared.schedule.Schedule.{Schedule}
use Rattle.ft_model.proofs.ReportContent.{lit, word_way, words_content}
use Rattle.ft_model.proofs.ReportPackets.{way_fits}
use Rattle.ft_model.proofs.ReportWords.{all_append, all_weaken, word_decimal}
use Rattle.report_laws.specs.Transitions.{clients_in}
use Rattle.report_laws.specs.Lines.{lines_in, onto_first}
use Rattle.report_laws.specs.TurnLines.{packet_line_list, turn_line_list, AllCanonical}

-- no line feed
abbrev pub HasNoFeed : ℕ → Type 0
HasNoFeed c = 10 < c

pub lines_cut : (front rest : List ℕ) → AllByRecursion HasNoFeed front → lines_in ((front ++ 10 ∷ []) ++ rest) ≡ (front ++ 10 ∷ []) ∷ lines_in rest
unfolding lines_in
lines_cut [] rest h = refl
lines_cut (c ∷ front) rest h =
    let other : (c == 10) ≡ false = ne_eqb c 10 (λ e. omega (arith, e, h.0)) in
    ap (λ b. if b then (c ∷ []) ∷ lines_in ((front ++ 10 ∷ []) ++ rest) else onto_first c (lines_in ((front ++ 10 ∷ []) ++ rest))) other
    ∙ ap (onto_first c) (lines_cut front rest h.1)

all_spaced : (words : List (List ℕ)) → AllByRecursion IsWord words → AllByRecursion HasNoFeed (spaced words)
all_spaced [] h = tt
all_spaced (w ∷ words) h =
    (omega arith, all_append HasNoFeed w (spaced words) (all_weaken (λ c. 32 < c) HasNoFeed (λ c p. omega (arith, p)) w h.0) (all_spaced words h.1))

-- a line of words is cut from what follows it
pub line_cut : (first : List ℕ) (words : List (List ℕ)) (rest : List ℕ) → AllByRecursion HasNoFeed first → AllByRecursion IsWord words
    → lines_in (line first words ++ rest) ≡ line first words ∷ lines_in rest
line_cut first words rest f w =
    let whole : line first words ≡ (first ++ spaced words) ++ 10 ∷ [] = sym (append_assoc first (spaced words) (10 ∷ [])) in
    ap (λ l. lines_in (l ++ rest)) whole ∙ (lines_cut (first ++ spaced words) rest (all_append HasNoFeed first (spaced words) f (all_spaced words w)) ∙ ap (λ l. l ∷ lines_in rest) (sym whole))

pub words_event : (event : Event) → FitsEvent event → AllByRecursion IsWord (event_words event)
words_event (Boot boot isn) h = (lit (codes "boot") refl, (word_decimal boot h.0, (word_decimal isn h.1, tt)))
words_event Crash h = (lit (codes "crash") refl, tt)
words_event Tick h = (lit (codes "tick") refl, tt)
words_event (Deliver packet) h = (lit (codes "deliver") refl, (word_decimal packet h, tt))
words_event (Flip packet bit) h = (lit (codes "flip") refl, (word_decimal packet h.0, (word_decimal bit h.1, tt)))
words_event (Begin client window) h = (lit (codes "open") refl, (word_decimal client h.0, (word_decimal window (omega (arith, h.1)), tt)))
words_event (Send client from len) h = (lit (codes "send") refl, (word_decimal client h.0, (word_decimal from h.1, (word_decimal len h.2, tt))))
words_event (Fin client) h = (lit (codes "fin") refl, (word_decimal client h, tt))
words_event (Ack client window) h = (lit (codes "ack") refl, (word_decimal client h.0, (word_decimal window (omega (arith, h.1)), tt)))
words_event (Reset client) h = (lit (codes "reset") refl, (word_decimal client h, tt))
words_event (Stop part) h = (lit (codes "stop") refl, (word_decimal part h, tt))

event_cut : (n : ℕ) (event : Event) (rest : List ℕ) → n < 2 ^ 64 → FitsEvent event → lines_in (event_line n event ++ rest) ≡ event_line n event ∷ lines_in rest
unfolding event_line
event_cut n event rest small h =
    line_cut (codes "event") (decimal n ∷ event_words event) rest (omega arith, (omega arith, (omega arith, (omega arith, (omega arith, tt))))) (word_decimal n small, words_event event h)

module _ (schedule : Schedule) where
  packet_cut : (n : ℕ) (packet : Packet) (rest : List ℕ) → n < 2 ^ 64 → IsReadable schedule.server (clients_in schedule) packet
      → lines_in (packet_line n (way_of (clients_in schedule) packet) packet ++ rest) ≡ packet_line n (way_of (clients_in schedule) packet) packet ∷ lines_in rest
  unfolding packet_line
  packet_cut n packet rest small h =
      line_cut (codes "packet") (decimal n ∷ way_text (way_of (clients_in schedule) packet) ∷ content_words packet) rest
      (omega arith, (omega arith, (omega arith, (omega arith, (omega arith, (omega arith, tt))))))
      (word_decimal n small, (word_way (way_of (clients_in schedule) packet) (way_fits schedule.server (clients_in schedule) packet h), words_content schedule.server (clients_in schedule) packet h))

  packets_cut : (n : ℕ) (sent : List Packet) (rest : List ℕ) → n + length sent < 2 ^ 64 → AllByRecursion (IsReadable schedule.server (clients_in schedule)) sent
      → lines_in (packet_lines (clients_in schedule) n sent ++ rest) ≡ packet_line_list (clients_in schedule) n sent ++ lines_in rest
  packets_cut n [] rest small h = refl
  packets_cut n (p ∷ sent) rest small h =
      let first : List ℕ = packet_line n (way_of (clients_in schedule) p) p in
      let here : n < 2 ^ 64 = omega (arith, small) in
      let more : (n + 1) + length sent < 2 ^ 64 = omega (arith, small) in
      ap lines_in (append_assoc first (packet_lines (clients_in schedule) (n + 1) sent) rest)
      ∙ (packet_cut n p (packet_lines (clients_in schedule) (n + 1) sent ++ rest) here h.0 ∙ ap (λ l. first ∷ l) (packets_cut (n + 1) sent rest more h.1))

  -- the text of a trace's turns is cut into their lines
  pub turns_cut : (trace : List Moment) (rest : List ℕ) → AllCanonical schedule trace → packet_count trace ≤ 200000
      → lines_in (event_lines (clients_in schedule) trace ++ rest) ≡ turn_line_list schedule trace ++ lines_in rest
  turns_cut [] rest h few = refl
  turns_cut (m ∷ earlier) rest h few =
      let cs : List Client = clients_in schedule in
      let n : ℕ = length earlier + 1 in
      let k : ℕ = packet_count earlier + 1 in
      let text : List ℕ = event_line n m.event in
      let packets : List ℕ = packet_lines cs k m.sent in
      let before : packet_count earlier ≤ 200000 = omega (arith, few) in
      let small : n < 2 ^ 64 = omega (arith, h.1.few) in
      let fits : k + length m.sent < 2 ^ 64 = omega (arith, few) in
      let whole : (event_lines cs earlier ++ (text ++ packets)) ++ rest ≡ event_lines cs earlier ++ (text ++ (packets ++ rest)) =
      append_assoc (event_lines cs earlier) (text ++ packets) rest ∙ ap (λ l. event_lines cs earlier ++ l) (append_assoc text packets rest) in
      ap lines_in whole
      ∙ (turns_cut earlier (text ++ (packets ++ rest)) h.0 before
      ∙ (ap (λ l. turn_line_list schedule earlier ++ l) (event_cut n m.event (packets ++ rest) small h.1.readable.0 ∙ ap (λ l. text ∷ l) (packets_cut k m.sent rest fits h.1.readable.1))
      ∙ sym (append_assoc (turn_line_list schedule earlier) (text ∷ packet_line_list cs k m.sent) (lines_in rest))))
