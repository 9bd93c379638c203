-- The lines of turns: each has the line of its event and the lines of its packets. They tell the turns, where the packet lines of a turn tell its packets.
use Rattle.std.proofs.Common.{◌≡◌, ℕ, ◌<◌, ◌+◌, ◌-◌, List, [], ◌∷◌, ◌++◌, codes, length, map, take, drop, ⊎_elim, refl, sym, ap, ap₂, ◌∙◌, subst, arith, append_assoc, length-take, length-drop}
use Rattle.std.proofs.lemmas.Bool.{cases_order}
use Rattle.std.proofs.lemmas.List.{take-append-drop}
use Rattle.ft_model.specs.declared.event.Event.{Event}
use Rattle.ft_model.specs.Report.{event_line}
use Rattle.ft_model.specs.Readable.{FitsEvent}
use Rattle.ft_model.proofs.ReportLines.{mark, event_mark, event_cut}

abbrev pub NoPacket : List ℕ → Type 0
NoPacket text = mark text ≡ mark (codes "pa") → ⊥

abbrev pub NoEvent : List ℕ → Type 0
NoEvent text = mark text ≡ mark (codes "ev") → ⊥

abbrev pub IsEvent : List ℕ → Type 0
IsEvent text = mark text ≡ mark (codes "ev")

no_packet : (text : List ℕ) → IsEvent text → NoPacket text
no_packet text e f = omega (arith, e, f)

-- how turns are written, and what is told of them
pub record Reporting (Turn Reported : Type 0) : Type 0 where
  pub event_in : Turn → Event
  pub reported : Turn → Reported
  pub count : Reported → ℕ  -- how many packets it sent
  pub sent_lines : ℕ → Turn → List ℕ  -- the lines of its packets, numbered from a number on

-- how many packets were sent
abbrev pub sent_in : {Turn Reported : Type 0} → Reporting Turn Reported → List Turn → ℕ
sent_in by [] = 0
sent_in by (m ∷ earlier) = sent_in by earlier + by.count (by.reported m)

-- the lines of turns, newest turn first
abbrev pub lines_of : {Turn Reported : Type 0} → Reporting Turn Reported → List Turn → List ℕ
lines_of by [] = []
lines_of by (m ∷ earlier) = lines_of by earlier ++ (event_line (length earlier + 1) (by.event_in m) ++ by.sent_lines (sent_in by earlier + 1) m)

module _ {Turn Reported : Type 0} (by : Reporting Turn Reported) where
  -- what turns tell
  count_in : List Reported → ℕ
  count_in [] = 0
  count_in (turn ∷ turns) = count_in turns + by.count turn

  count_reported : (turns : List Turn) → sent_in by turns ≡ count_in (map by.reported turns)
  unfolding count_in
  count_reported [] = refl
  count_reported (m ∷ earlier) = ap (λ n. n + by.count (by.reported m)) (count_reported earlier)

  count_same : (turns also : List Turn) → map by.reported turns ≡ map by.reported also → sent_in by turns ≡ sent_in by also
  count_same turns also e = count_reported turns ∙ (ap count_in e ∙ sym (count_reported also))

  -- the lines of the newest turn come after those of the others
  turn_lines : Turn → List Turn → List ℕ → List ℕ
  turn_lines m earlier r = event_line (length earlier + 1) (by.event_in m) ++ (by.sent_lines (sent_in by earlier + 1) m ++ r)

  newest_last : (m : Turn) (earlier : List Turn) (r : List ℕ) → lines_of by (m ∷ earlier) ++ r ≡ lines_of by earlier ++ turn_lines m earlier r
  unfolding turn_lines
  newest_last m earlier r =
      let line : List ℕ = event_line (length earlier + 1) (by.event_in m) in
      let packets : List ℕ = by.sent_lines (sent_in by earlier + 1) m in
      append_assoc (lines_of by earlier) (line ++ packets) r ∙ ap (λ t. lines_of by earlier ++ t) (append_assoc line packets r)

  turn_mark : (m : Turn) (earlier : List Turn) (r : List ℕ) → IsEvent (turn_lines m earlier r)
  unfolding turn_lines
  turn_mark m earlier r = event_mark (length earlier + 1) (by.event_in m) _

  event_first : (turns : List Turn) (r : List ℕ) → IsEvent r → IsEvent (lines_of by turns ++ r)
  event_first [] r h = h
  event_first (m ∷ earlier) r h = ap mark (newest_last m earlier r) ∙ event_first earlier (turn_lines m earlier r) (turn_mark m earlier r)

  -- the lines of turns begin with an event's
  pub events_lead : (m : Turn) (earlier : List Turn) (r : List ℕ) → IsEvent (lines_of by (m ∷ earlier) ++ r)
  events_lead m earlier r = ap mark (newest_last m earlier r) ∙ event_first earlier (turn_lines m earlier r) (turn_mark m earlier r)

  -- how the packet lines of a turn are told, of turns that have a property
  abbrev pub ReportsPackets : (List Turn → Type 0) → Type 0
  ReportsPackets P =
      (m n : Turn) (earlier older : List Turn) (k : ℕ) (r s : List ℕ) → P (m ∷ earlier) → P (n ∷ older)
      → map by.reported earlier ≡ map by.reported older → by.event_in m ≡ by.event_in n → NoPacket r → NoPacket s
      → by.sent_lines k m ++ r ≡ by.sent_lines k n ++ s → (by.reported m ≡ by.reported n) × (r ≡ s)

  abbrev pub HasFront : (List Turn → Type 0) → Type 0
  HasFront P = (m : Turn) (earlier : List Turn) → P (m ∷ earlier) → P earlier × FitsEvent (by.event_in m)

  newest_cut : (P : List Turn → Type 0) → HasFront P → ReportsPackets P
      → (m n : Turn) (earlier older : List Turn) (r s : List ℕ) → P (m ∷ earlier) → P (n ∷ older) → length earlier ≡ length older → map by.reported earlier ≡ map by.reported older
      → NoPacket r → NoPacket s → turn_lines m earlier r ≡ turn_lines n older s → (map by.reported (m ∷ earlier) ≡ map by.reported (n ∷ older)) × (r ≡ s)
  unfolding turn_lines
  newest_cut P front reports m n earlier older r s p q size same nr ns e =
      let count : sent_in by earlier ≡ sent_in by older = count_same earlier older same in
      let numbered : event_line (length earlier + 1) (by.event_in m) ++ (by.sent_lines (sent_in by earlier + 1) m ++ r)
      ≡ event_line (length earlier + 1) (by.event_in n) ++ (by.sent_lines (sent_in by earlier + 1) n ++ s) =
      e ∙ ap₂ (λ j k. event_line (j + 1) (by.event_in n) ++ (by.sent_lines (k + 1) n ++ s)) (sym size) (sym count) in
      let event : (by.event_in m ≡ by.event_in n) × (by.sent_lines (sent_in by earlier + 1) m ++ r ≡ by.sent_lines (sent_in by earlier + 1) n ++ s) =
      event_cut (length earlier + 1) (by.event_in m) (by.event_in n) _ _ (front m earlier p).1 (front n older q).1 numbered in
      let packets : (by.reported m ≡ by.reported n) × (r ≡ s) = reports m n earlier older (sent_in by earlier + 1) r s p q same event.0 nr ns event.1 in
      (ap₂ (λ x l. x ∷ l) packets.0 same, packets.1)

  -- as many turns
  same_length : (P : List Turn → Type 0) → HasFront P → ReportsPackets P → (turns also : List Turn) (r s : List ℕ) → P turns → P also → length turns ≡ length also → NoPacket r → NoPacket s
      → lines_of by turns ++ r ≡ lines_of by also ++ s → (map by.reported turns ≡ map by.reported also) × (r ≡ s)
  same_length P front reports [] [] r s p q size nr ns e = (refl, e)
  same_length P front reports [] (n ∷ older) r s p q size nr ns e = absurd (omega (arith, size))
  same_length P front reports (m ∷ earlier) [] r s p q size nr ns e = absurd (omega (arith, size))
  same_length P front reports (m ∷ earlier) (n ∷ older) r s p q size nr ns e =
      let less : length earlier ≡ length older = omega (arith, size) in
      let behind = sym (newest_last m earlier r) ∙ (e ∙ newest_last n older s) in
      let before : (map by.reported earlier ≡ map by.reported older) × (turn_lines m earlier r ≡ turn_lines n older s) =
      same_length P front reports earlier older (turn_lines m earlier r) (turn_lines n older s) (front m earlier p).0 (front n older q).0 less
      (no_packet (turn_lines m earlier r) (turn_mark m earlier r)) (no_packet (turn_lines n older s) (turn_mark n older s)) behind in
      newest_cut P front reports m n earlier older r s p q less before.0 nr ns before.1

  -- where there are more turns, an event's line comes after the others
  abbrev Further : List Turn → List Turn → List ℕ → Type 0
  Further whole older s = (t : List ℕ) × (lines_of by whole ++ s ≡ lines_of by older ++ t) × IsEvent t

  further : (later older : List Turn) (s : List ℕ) → IsEvent s → Further (later ++ older) older s
  further [] older s h = (s, refl, h)
  further (m ∷ later) older s h =
      let more = further later older (turn_lines m (later ++ older) s) (turn_mark m (later ++ older) s) in
      (more.0, newest_last m (later ++ older) s ∙ more.1, more.2)

  one_further : (later older : List Turn) (s : List ℕ) → 0 < length later → Further (later ++ older) older s
  one_further [] older s h = absurd (omega arith)
  one_further (m ∷ later) older s h =
      let more = further later older (turn_lines m (later ++ older) s) (turn_mark m (later ++ older) s) in
      (more.0, newest_last m (later ++ older) s ∙ more.1, more.2)

  older_has : (P : List Turn → Type 0) → HasFront P → (later older : List Turn) → P (later ++ older) → P older
  older_has P front [] older p = p
  older_has P front (m ∷ later) older p = older_has P front later older (front m (later ++ older) p).0

  not_longer : (P : List Turn → Type 0) → HasFront P → ReportsPackets P
      → (turns also : List Turn) (r s : List ℕ) → P turns → P also → NoPacket r → NoEvent r
      → lines_of by turns ++ r ≡ lines_of by also ++ s → length turns < length also → ⊥
  not_longer P front reports turns also r s p q nr none e longer =
      let more : ℕ = length also - length turns in
      let later : List Turn = take more also in
      let older : List Turn = drop more also in
      let whole : later ++ older ≡ also = take-append-drop more also in
      let taken : length later ≡ more = omega (arith, longer, length-take more also) in
      let size : length turns ≡ length older = omega (arith, longer, length-drop more also) in
      let some : 0 < length later = omega (arith, longer, taken) in
      let past = one_further later older s some in
      let both : lines_of by turns ++ r ≡ lines_of by older ++ past.0 = e ∙ (ap (λ l. lines_of by l ++ s) (sym whole) ∙ past.1) in
      let same = same_length P front reports turns older r past.0 p (older_has P front later older (subst P (sym whole) q)) size nr (no_packet past.0 past.2) both in
      none (ap mark same.1 ∙ past.2)

  -- lines of turns, up to one that is neither an event's nor a packet's, tell the turns
  pub turns_same : (P : List Turn → Type 0) → HasFront P → ReportsPackets P
      → (turns also : List Turn) (r s : List ℕ) → P turns → P also → NoPacket r → NoEvent r → NoPacket s → NoEvent s
      → lines_of by turns ++ r ≡ lines_of by also ++ s → (map by.reported turns ≡ map by.reported also) × (r ≡ s)
  turns_same P front reports turns also r s p q nr er ns es e =
      ⊎_elim (λ size. same_length P front reports turns also r s p q size nr ns e)
      (λ other. absurd (⊎_elim (λ less. not_longer P front reports turns also r s p q nr er e less)
      (λ more. not_longer P front reports also turns s r q p ns es (sym e) more) other))
      (cases_order (length turns) (length also))
