-- The line after a header is no line of the header.
use Rattle.std.proofs.Common.{◌≡◌, ℕ, ◌+◌, ◌<◌, ◌^◌, ◌==◌, false, refl, sym, ap, ◌∙◌, subst, arith, List, [], ◌∷◌, ◌++◌, codes, decimal, length, append_assoc, if◌then◌else◌}
use Rattle.std.specs.List.{AllByRecursion}
use Rattle.std.specs.Str.{bytes_eq}
use Rattle.std.proofs.lemmas.Bool.{ne_eqb}
use Rattle.std.proofs.lemmas.Slice.Eq.{bytes_eq-Decides}
use Rattle.ft_model.specs.Client.{Client}
use Rattle.ft_model.specs.Legal.{start_of}
use Rattle.ft_model.specs.Report.{event_line, event_lines, packet_lines, packet_count, phase_line, end_line, client_lines, closing_lines}
use Rattle.ft_model.specs.Texts.{spaced, phase_text, hex_text}
use Rattle.ft_model.specs.World.{Moment}
use Rattle.ft_model.specs.Schedule.{client_of, clients_of}
use Rattle.ft_model.specs.declared.schedule.ClientLine.{ClientLine}
use Rattle.ft_model.specs.declared.schedule.Schedule.{Schedule}
use Rattle.std.proofs.lemmas.Fmt.{decimal_injective}
use Rattle.report_laws.specs.Lines.{lines_in, onto_first}
use Rattle.report_laws.specs.Transitions.{clients_in, is_header_line, pieces}
use Rattle.ft_model.proofs.ReportWords.{all_append, all_weaken, word_decimal}
use Rattle.report_laws.proofs.CutLines.{HasNoFeed}
use Rattle.report_laws.proofs.HeaderLines.{word_cut, client_pieces}
use Rattle.report_laws.proofs.ClosingLines.{decide}

-- the first of these lines is no line of the header
abbrev pub NoHeaderFirst : Schedule → List (List ℕ) → Type 0
NoHeaderFirst schedule [] = Unit {0}
NoHeaderFirst schedule (line ∷ lines) = is_header_line schedule (pieces line) ≡ false

abbrev head_line : List (List ℕ) → List ℕ
head_line [] = []
head_line (line ∷ lines) = line

from_head : (schedule : Schedule) (lines : List (List ℕ)) → is_header_line schedule (pieces (head_line lines)) ≡ false → NoHeaderFirst schedule lines
from_head schedule [] h = tt
from_head schedule (line ∷ lines) h = h

-- a text's first line begins as the text does
begins : (front rest : List ℕ) → AllByRecursion HasNoFeed front → (behind : List ℕ) × (head_line (lines_in (front ++ rest)) ≡ front ++ behind)
unfolding lines_in
begins [] rest h = (head_line (lines_in rest), refl)
begins (c ∷ front) rest h =
    let more : (behind : List ℕ) × (head_line (lines_in (front ++ rest)) ≡ front ++ behind) = begins front rest h.1 in
    let other : (c == 10) ≡ false = ne_eqb c 10 (λ e. omega (arith, e, h.0)) in
    (more.0, ap (λ b. head_line (if b then (c ∷ []) ∷ lines_in (front ++ rest) else onto_first c (lines_in (front ++ rest)))) other ∙ (onto (lines_in (front ++ rest)) ∙ ap (λ l. c ∷ l) more.1))
  where
    onto : (lines : List (List ℕ)) → head_line (onto_first c lines) ≡ c ∷ head_line lines
    onto [] = refl
    onto (line ∷ lines) = refl

-- a text that begins with such a word has no line of the header first
by_word : (schedule : Schedule) (word rest : List ℕ) → AllByRecursion (λ c. 32 < c) word → AllByRecursion HasNoFeed (word ++ 32 ∷ [])
    → ((more : List (List ℕ)) → is_header_line schedule (word ∷ more) ≡ false) → NoHeaderFirst schedule (lines_in ((word ++ 32 ∷ []) ++ rest))
by_word schedule word rest plain clean other =
    let first : (behind : List ℕ) × (head_line (lines_in ((word ++ 32 ∷ []) ++ rest)) ≡ (word ++ 32 ∷ []) ++ behind) = begins (word ++ 32 ∷ []) rest clean in
    from_head schedule (lines_in ((word ++ 32 ∷ []) ++ rest))
    (ap (λ l. is_header_line schedule (pieces l)) (first.1 ∙ append_assoc word (32 ∷ []) first.0)
    ∙ (ap (is_header_line schedule) (word_cut word first.0 plain) ∙ other (pieces first.0)))

no_event : (schedule : Schedule) (more : List (List ℕ)) → is_header_line schedule (codes "event" ∷ more) ≡ false
no_event schedule [] = refl
no_event schedule (p ∷ more) = refl

no_end : (schedule : Schedule) (more : List (List ℕ)) → is_header_line schedule (codes "end" ∷ more) ≡ false
no_end schedule [] = refl
no_end schedule (p ∷ more) = refl

begins_event : (schedule : Schedule) (rest : List ℕ) → NoHeaderFirst schedule (lines_in (codes "event " ++ rest))
begins_event schedule rest =
    by_word schedule (codes "event") rest (omega arith, (omega arith, (omega arith, (omega arith, (omega arith, tt)))))
    (omega arith, (omega arith, (omega arith, (omega arith, (omega arith, (omega arith, tt)))))) (no_event schedule)

begins_end : (schedule : Schedule) (rest : List ℕ) → NoHeaderFirst schedule (lines_in (codes "end " ++ rest))
begins_end schedule rest =
    by_word schedule (codes "end") rest (omega arith, (omega arith, (omega arith, tt))) (omega arith, (omega arith, (omega arith, (omega arith, tt)))) (no_end schedule)

-- the beginning of the first client's line
abbrev first_client : List ℕ
first_client = codes "client" ++ 32 ∷ (decimal 1 ++ 32 ∷ [])

first_client_clean : AllByRecursion HasNoFeed first_client
first_client_clean =
    let number : AllByRecursion HasNoFeed (decimal 1) = all_weaken (λ c. 32 < c) HasNoFeed (λ c p. omega (arith, p)) (decimal 1) (word_decimal 1 (omega arith)) in
    (omega arith, (omega arith, (omega arith, (omega arith, (omega arith, (omega arith, (omega arith, all_append HasNoFeed (decimal 1) (32 ∷ []) number (omega arith, tt))))))))

-- the first client is no next client of a header that has one
begins_client : (schedule : Schedule) (c : ClientLine) (more : List ClientLine) (rest : List ℕ) → schedule.clients ≡ c ∷ more → length schedule.clients < 2 ^ 63
    → NoHeaderFirst schedule (lines_in (first_client ++ rest))
begins_client schedule c more rest is few =
    let first : (behind : List ℕ) × (head_line (lines_in (first_client ++ rest)) ≡ first_client ++ behind) = begins first_client rest first_client_clean in
    let some : length schedule.clients ≡ length (c ∷ more) = ap length is in
    let differs : bytes_eq (decimal 1) (decimal (length schedule.clients + 1)) ≡ false =
    decide (bytes_eq (decimal 1) (decimal (length schedule.clients + 1)))
    (λ same. let e : 1 ≡ length schedule.clients + 1 = decimal_injective 1 (length schedule.clients + 1) (omega arith) (omega (arith, few)) ((bytes_eq-Decides (decimal 1) (decimal (length schedule.clients + 1))).0 same) in
    absurd (omega (arith, e, some))) in
    let spaced_apart : first_client ++ first.0 ≡ codes "client" ++ 32 ∷ (decimal 1 ++ 32 ∷ first.0) =
    ap (λ l. codes "client" ++ 32 ∷ l) (append_assoc (decimal 1) (32 ∷ []) first.0) in
    from_head schedule (lines_in (first_client ++ rest))
    (ap (λ l. is_header_line schedule (pieces l)) (first.1 ∙ spaced_apart) ∙ (ap (is_header_line schedule) (client_pieces 1 first.0 (omega arith)) ∙ differs))

-- the turns begin with an event's line
event_begins : (n : ℕ) (schedule : Schedule) (m : Moment) (rest : List ℕ) → (behind : List ℕ) × (event_line n m.event ++ rest ≡ codes "event " ++ behind)
unfolding event_line
event_begins n schedule m rest = (_, refl)

turns_begin : (schedule : Schedule) (m : Moment) (earlier : List Moment) (rest : List ℕ) → (behind : List ℕ) × (event_lines (clients_in schedule) (m ∷ earlier) ++ rest ≡ codes "event " ++ behind)
turns_begin schedule m [] rest =
    let packets : List ℕ = packet_lines (clients_in schedule) 1 m.sent in
    let first : (behind : List ℕ) × (event_line 1 m.event ++ (packets ++ rest) ≡ codes "event " ++ behind) = event_begins 1 schedule m (packets ++ rest) in
    (first.0, append_assoc (event_line 1 m.event) packets rest ∙ first.1)
turns_begin schedule m (e ∷ earlier) rest =
    let turn : List ℕ = event_line (length (e ∷ earlier) + 1) m.event ++ packet_lines (clients_in schedule) (packet_count (e ∷ earlier) + 1) m.sent in
    let first : (behind : List ℕ) × (event_lines (clients_in schedule) (e ∷ earlier) ++ (turn ++ rest) ≡ codes "event " ++ behind) = turns_begin schedule e earlier (turn ++ rest) in
    (first.0, append_assoc (event_lines (clients_in schedule) (e ∷ earlier)) turn rest ∙ first.1)

end_begins : (n : ℕ) → (behind : List ℕ) × (end_line n ≡ codes "end " ++ behind)
unfolding end_line
end_begins n = (_, refl)

client_begins : (client : Client) (rest : List ℕ) → (behind : List ℕ) × (phase_line 1 client.phase client.accepted ++ rest ≡ first_client ++ behind)
unfolding phase_line
client_begins client rest =
    let words : List ℕ = phase_text client.phase ++ spaced (codes "accepted" ∷ decimal (length client.accepted) ∷ hex_text client.accepted ∷ []) in
    let behind : List ℕ = (words ++ 10 ∷ []) ++ rest in
    let number : ((decimal 1 ++ 32 ∷ words) ++ 10 ∷ []) ++ rest ≡ (decimal 1 ++ 32 ∷ []) ++ behind =
    ap (λ l. l ++ rest) (append_assoc (decimal 1) (32 ∷ words) (10 ∷ []))
    ∙ (append_assoc (decimal 1) (32 ∷ (words ++ 10 ∷ [])) rest ∙ sym (append_assoc (decimal 1) (32 ∷ []) behind)) in
    (behind, ap (λ l. codes "client" ++ 32 ∷ l) number)

closing_first : (schedule : Schedule) (clients : List ClientLine) → schedule.clients ≡ clients → length schedule.clients < 2 ^ 63
    → NoHeaderFirst schedule (lines_in (client_lines 1 (clients_of schedule.server clients) ++ end_line 0))
closing_first schedule [] is few =
    let first : (behind : List ℕ) × (end_line 0 ≡ codes "end " ++ behind) = end_begins 0 in
    subst (λ t. NoHeaderFirst schedule (lines_in t)) (sym first.1) (begins_end schedule first.0)
closing_first schedule (c ∷ more) is few =
    let client : Client = client_of schedule.server c in
    let others : List ℕ = client_lines 2 (clients_of schedule.server more) in
    let first : (behind : List ℕ) × (phase_line 1 client.phase client.accepted ++ (others ++ end_line 0) ≡ first_client ++ behind) = client_begins client (others ++ end_line 0) in
    subst (λ t. NoHeaderFirst schedule (lines_in t)) (sym (append_assoc (phase_line 1 client.phase client.accepted) others (end_line 0) ∙ first.1)) (begins_client schedule c more first.0 is few)

-- no line of the header follows a header in a report
pub header_ends : (schedule : Schedule) (trace : List Moment) (closing : List ℕ) → length schedule.clients < 2 ^ 63 → (trace ≡ [] → closing ≡ closing_lines (start_of schedule) 0)
    → NoHeaderFirst schedule (lines_in (event_lines (clients_in schedule) trace ++ closing))
header_ends schedule [] closing few is = subst (λ t. NoHeaderFirst schedule (lines_in t)) (sym (is refl)) (closing_first schedule schedule.clients refl few)
header_ends schedule (m ∷ earlier) closing few is =
    let first : (behind : List ℕ) × (event_lines (clients_in schedule) (m ∷ earlier) ++ closing ≡ codes "event " ++ behind) = turns_begin schedule m earlier closing in
    subst (λ t. NoHeaderFirst schedule (lines_in t)) (sym first.1) (begins_event schedule first.0)
