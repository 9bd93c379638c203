-- The header of a report tells what was asked: the service, the server's address, and the clients.
use Rattle.std.proofs.Common.{◌≡◌, ℕ, Bool, true, false, Option, None, Some, ◌<◌, ◌≤◌, ◌^◌, ◌+◌, ◌/◌, List, [], ◌∷◌, ◌++◌, codes, decimal, length, drop, refl, sym, ap, ◌∙◌, subst, arith, append_assoc, Ok}
use Rattle.std.specs.List.{AllByRecursion, flat_map}
use Rattle.std.proofs.lemmas.Fmt.{decimal_injective, decimal_nonempty}
use Rattle.std.proofs.lemmas.List.{append_cancel_left}
use Rattle.hex.specs.Hex.{IsBytes, encode_lower, decode_of}
use Rattle.hex.proofs.HexLemmas.{decode_of-encode_lower}
use Rattle.ft_io.specs.declared.Key.{Key}
use Rattle.tcp_rules.specs.declared.profile.Profile.{Profile}
use Rattle.tcp_rules.specs.declared.profile.Profile.TheVariants.{Plain, Wan}
use Rattle.ft_model.specs.declared.phase.Phase.{Phase}
use Rattle.ft_model.specs.declared.phase.Phase.TheVariants.{New, Opening, Established, Ended, Reset}
use Rattle.ft_model.specs.declared.schedule.ServiceKind.{ServiceKind}
use Rattle.ft_model.specs.declared.schedule.ServiceKind.TheVariants.{Echo, Line, Transfer, Meter}
use Rattle.ft_model.specs.declared.schedule.Script.{Script}
use Rattle.ft_model.specs.declared.schedule.Script.TheVariants.{Bytes, Fill}
use Rattle.ft_model.specs.declared.schedule.ClientLine.{ClientLine}
use Rattle.ft_model.specs.declared.schedule.Lasting.{Lasting}
use Rattle.ft_model.specs.declared.schedule.Schedule.{Schedule}
use Rattle.ft_model.specs.Client.{Client}
use Rattle.ft_model.specs.Log.{Entry}
use Rattle.ft_model.specs.World.{World}
use Rattle.ft_model.specs.Texts.{spaced, line, address_text, key_text, hex_text, service_text, script_text, phase_text}
use Rattle.ft_model.specs.Report.{schedule_line, schedule_lines, profile_line, twin_line, marks_line, lasting_line, header, phase_line, client_line, client_lines, entry_line, log_line, end_line, closing_lines}
use Rattle.ft_model.specs.Readable.{IsWord, FitsU64, FitsOption, FitsLasting, FitsKey, FitsScript, FitsClient, FitsSchedule}
use Rattle.ft_model.proofs.ReportWords.{cut, all_append, IsDigit, digits_decimal, word_decimal}
use Rattle.ft_model.proofs.ReportParts.{address_same}
use Rattle.ft_model.proofs.ReportContent.{lit, word_key, word_encoded}
use Rattle.ft_model.proofs.ReportPackets.{key_same}
use Rattle.ft_model.proofs.ReportLines.{mark, verb, line_cut, numbered_cut, numbered_then}
use Rattle.ft_model.proofs.ReportTurns.{NoPacket, NoEvent, Reporting, lines_of, events_lead}

-- services and scripts
word_service : (k : ServiceKind) → IsWord (service_text k)
unfolding service_text
word_service Echo = lit (codes "echo") refl
word_service Line = lit (codes "line") refl
word_service Transfer = lit (codes "transfer") refl
word_service Meter = lit (codes "meter") refl

first_of_word : List ℕ → ℕ
first_of_word [] = 0
first_of_word (c ∷ word) = c

service_same : (k l : ServiceKind) → service_text k ≡ service_text l → k ≡ l
unfolding service_text first_of_word
service_same Echo Echo e = refl
service_same Line Line e = refl
service_same Transfer Transfer e = refl
service_same Meter Meter e = refl
service_same k l e = absurd (omega (arith, ap first_of_word e))

script_bytes : (x : ℕ) (xs : List ℕ) → script_text (Bytes (x ∷ xs)) ≡ codes "hex:" ++ encode_lower (x ∷ xs)
unfolding script_text
script_bytes x xs = grind arith

word_script : (s : Script) → FitsScript s → IsWord (script_text s)
unfolding script_text
word_script (Bytes []) h = lit (codes "-") refl
word_script (Bytes (x ∷ xs)) h =
    subst IsWord (sym (script_bytes x xs)) (all_append (λ c. 32 < c) (codes "hex:") (encode_lower (x ∷ xs)) (lit (codes "hex:") refl) (word_encoded (x ∷ xs) h))
word_script (Fill n) h = all_append (λ c. 32 < c) (codes "fill:") (decimal n) (lit (codes "fill:") refl) (word_decimal n h)

bytes_same : (xs ys : List ℕ) → IsBytes xs → IsBytes ys → encode_lower xs ≡ encode_lower ys → xs ≡ ys
bytes_same xs ys p q e = let same : Ok xs ≡ Ok ys = sym (decode_of-encode_lower xs p) ∙ ap decode_of e ∙ decode_of-encode_lower ys q in cc

-- a script's first letter: of none, of bytes, of letters
nothing_letter : first_of_word (script_text (Bytes [])) ≡ 45
unfolding script_text first_of_word
nothing_letter = refl

bytes_letter : (x : ℕ) (xs : List ℕ) → first_of_word (script_text (Bytes (x ∷ xs))) ≡ 104
unfolding first_of_word
bytes_letter x xs = ap first_of_word (script_bytes x xs)

fill_letter : (n : ℕ) → first_of_word (script_text (Fill n)) ≡ 102
unfolding script_text first_of_word
fill_letter n = refl

other_letters : {A : Type 0} (t u : List ℕ) (a b : ℕ) → first_of_word t ≡ a → first_of_word u ≡ b → (a ≡ b → ⊥) → t ≡ u → A
other_letters t u a b p q apart e = absurd (apart (sym p ∙ (ap first_of_word e ∙ q)))

fills_cut : (m n : ℕ) → script_text (Fill m) ≡ script_text (Fill n) → decimal m ≡ decimal n
unfolding script_text
fills_cut m n e = append_cancel_left (codes "fill:") _ _ e

script_same : (s t : Script) → FitsScript s → FitsScript t → script_text s ≡ script_text t → s ≡ t
script_same (Bytes []) (Bytes []) p q e = refl
script_same (Bytes []) (Bytes (y ∷ ys)) p q e = other_letters _ _ 45 104 nothing_letter (bytes_letter y ys) (λ f. omega (arith, f)) e
script_same (Bytes (x ∷ xs)) (Bytes []) p q e = other_letters _ _ 104 45 (bytes_letter x xs) nothing_letter (λ f. omega (arith, f)) e
script_same (Bytes (x ∷ xs)) (Bytes (y ∷ ys)) p q e =
    ap Bytes (bytes_same (x ∷ xs) (y ∷ ys) p q (append_cancel_left (codes "hex:") _ _ (sym (script_bytes x xs) ∙ (e ∙ script_bytes y ys))))
script_same (Bytes []) (Fill n) p q e = other_letters _ _ 45 102 nothing_letter (fill_letter n) (λ f. omega (arith, f)) e
script_same (Bytes (x ∷ xs)) (Fill n) p q e = other_letters _ _ 104 102 (bytes_letter x xs) (fill_letter n) (λ f. omega (arith, f)) e
script_same (Fill m) (Bytes []) p q e = other_letters _ _ 102 45 (fill_letter m) nothing_letter (λ f. omega (arith, f)) e
script_same (Fill m) (Bytes (y ∷ ys)) p q e = other_letters _ _ 102 104 (fill_letter m) (bytes_letter y ys) (λ f. omega (arith, f)) e
script_same (Fill m) (Fill n) p q e = ap Fill (decimal_injective m n p q (fills_cut m n e))

-- a client's line
client_words : ClientLine → List (List ℕ)
client_words asked = key_text asked.key ∷ decimal asked.isn ∷ script_text asked.script ∷ []

words_client : (asked : ClientLine) → FitsClient asked → AllByRecursion IsWord (client_words asked)
unfolding client_words
words_client asked h = (word_key asked.key h.0, (word_decimal asked.isn h.1, (word_script asked.script h.2, tt)))

client_same : (a b : ClientLine) → FitsClient a → FitsClient b → client_words a ≡ client_words b → a ≡ b
unfolding client_words
client_same a b p q e =
    let key : a.key ≡ b.key = key_same a.key b.key p.0 q.0 (cc) in
    let isn : a.isn ≡ b.isn = decimal_injective a.isn b.isn p.1 q.1 (cc) in
    let script : a.script ≡ b.script = script_same a.script b.script p.2 q.2 (cc) in
    λ i. record { key = key i; isn = isn i; script = script i }

schedule_cut : (n : ℕ) (a b : ClientLine) (r s : List ℕ) → FitsClient a → FitsClient b → schedule_line n a ++ r ≡ schedule_line n b ++ s → (a ≡ b) × (r ≡ s)
unfolding schedule_line client_words
schedule_cut n a b r s p q e =
    let same : (client_words a ≡ client_words b) × (r ≡ s) = numbered_cut (codes "client") n (client_words a) (client_words b) r s (words_client a p) (words_client b q) e in
    (client_same a b p q same.0, same.1)

-- a text that goes on with no client's line
abbrev pub NoClient : List ℕ → Type 0
NoClient text = (n : ℕ) (asked : ClientLine) (more : List ℕ) → FitsU64 n → FitsClient asked → text ≡ schedule_line n asked ++ more → ⊥

clients_cut : (n : ℕ) (xs ys : List ClientLine) (r s : List ℕ) → AllByRecursion FitsClient xs → AllByRecursion FitsClient ys
    → n + length xs ≤ 2 ^ 64 → n + length ys ≤ 2 ^ 64 → NoClient r → NoClient s → schedule_lines n xs ++ r ≡ schedule_lines n ys ++ s → (xs ≡ ys) × (r ≡ s)
clients_cut n [] [] r s p q fa fb nr ns e = (refl, e)
clients_cut n [] (b ∷ ys) r s p q fa fb nr ns e =
    absurd (nr n b (schedule_lines (n + 1) ys ++ s) (omega (arith, fb)) q.0 (e ∙ append_assoc (schedule_line n b) (schedule_lines (n + 1) ys) s))
clients_cut n (a ∷ xs) [] r s p q fa fb nr ns e =
    absurd (ns n a (schedule_lines (n + 1) xs ++ r) (omega (arith, fa)) p.0 (sym e ∙ append_assoc (schedule_line n a) (schedule_lines (n + 1) xs) r))
clients_cut n (a ∷ xs) (b ∷ ys) r s p q fa fb nr ns e =
    let one : (a ≡ b) × (schedule_lines (n + 1) xs ++ r ≡ schedule_lines (n + 1) ys ++ s) =
    schedule_cut n a b _ _ p.0 q.0
    (sym (append_assoc (schedule_line n a) (schedule_lines (n + 1) xs) r) ∙ (e ∙ append_assoc (schedule_line n b) (schedule_lines (n + 1) ys) s)) in
    let more : (xs ≡ ys) × (r ≡ s) = clients_cut (n + 1) xs ys r s p.1 q.1 (omega (arith, fa)) (omega (arith, fb)) nr ns one.1 in
    ((λ i. one.0 i ∷ more.0 i), more.1)

-- what a text begins with
abbrev Leads : (ℕ → Type 0) → List ℕ → Type 0
Leads P [] = ⊥
Leads P (c ∷ text) = P c

leads_on : (P : ℕ → Type 0) (text more : List ℕ) → Leads P text → Leads P (text ++ more)
leads_on P [] more h = absurd h
leads_on P (c ∷ text) more h = h

leads_apart : (text other : List ℕ) → Leads (λ c. 57 < c) text → Leads (λ c. c ≤ 57) other → text ≡ other → ⊥
leads_apart [] other h k e = h
leads_apart (c ∷ text) other h k e = let low : c ≤ 57 = subst (Leads (λ x. x ≤ 57)) (sym e) k in omega (arith, h, low)

leads_phase : (phase : Phase) → Leads (λ c. 57 < c) (phase_text phase)
unfolding phase_text
leads_phase New = omega arith
leads_phase Opening = omega arith
leads_phase Established = omega arith
leads_phase Ended = omega arith
leads_phase Reset = omega arith

leads_digit : (ds : List ℕ) → AllByRecursion IsDigit ds → 0 < length ds → Leads (λ c. c ≤ 57) ds
leads_digit [] h some = omega arith
leads_digit (d ∷ ds) h some = h.0.1

leads_key : (key : Key) → FitsKey key → Leads (λ c. c ≤ 57) (key_text key)
unfolding address_text
leads_key key h =
    let ip : key.ip < 2 ^ 32 = h.0 in
    let small : key.ip / 2 ^ 24 < 2 ^ 64 = omega arith in
    let P : ℕ → Type 0 = λ c. c ≤ 57 in
    leads_on P _ (58 ∷ decimal key.port)
    (leads_on P (decimal (key.ip / 2 ^ 24)) _ (leads_digit (decimal (key.ip / 2 ^ 24)) (digits_decimal (key.ip / 2 ^ 24) small) (decimal_nonempty (key.ip / 2 ^ 24) small)))

-- a text is cut after its number
number_cut : (m n : ℕ) (r s : List ℕ) → FitsU64 m → FitsU64 n → decimal m ++ 32 ∷ r ≡ decimal n ++ 32 ∷ s → r ≡ s
number_cut m n r s p q e =
    let same : (decimal m ≡ decimal n) × (32 ∷ r ≡ 32 ∷ s) =
    cut IsDigit (λ c. c < 48) (λ c digit other. omega arith) (decimal m) (decimal n) (32 ∷ r) (32 ∷ s) (digits_decimal m p) (digits_decimal n q) (omega arith) (omega arith) e in
    ap (drop 1) same.1

-- the line of a client at the end is no client's line of the header: after the number it has a word
phase_apart : (m n : ℕ) (phase : Phase) (accepted : List ℕ) (asked : ClientLine) (t u : List ℕ) → FitsU64 m → FitsU64 n → FitsClient asked
    → phase_line m phase accepted ++ t ≡ schedule_line n asked ++ u → ⊥
unfolding phase_line schedule_line
phase_apart m n phase accepted asked t u fm fn h e =
    let ws : List (List ℕ) = codes "accepted" ∷ decimal (length accepted) ∷ hex_text accepted ∷ [] in
    let vs : List (List ℕ) = decimal asked.isn ∷ script_text asked.script ∷ [] in
    let behind : decimal m ++ 32 ∷ ((phase_text phase ++ spaced ws) ++ 10 ∷ t) ≡ decimal n ++ 32 ∷ ((key_text asked.key ++ spaced vs) ++ 10 ∷ u) =
    ap (drop 7) (sym (numbered_then (codes "client") m (phase_text phase ∷ ws) t) ∙ (e ∙ numbered_then (codes "client") n (key_text asked.key ∷ vs) u)) in
    leads_apart ((phase_text phase ++ spaced ws) ++ 10 ∷ t) ((key_text asked.key ++ spaced vs) ++ 10 ∷ u)
    (leads_on (λ c. 57 < c) (phase_text phase ++ spaced ws) (10 ∷ t) (leads_on (λ c. 57 < c) (phase_text phase) (spaced ws) (leads_phase phase)))
    (leads_on (λ c. c ≤ 57) (key_text asked.key ++ spaced vs) (10 ∷ u) (leads_on (λ c. c ≤ 57) (key_text asked.key) (spaced vs) (leads_key asked.key h.0)))
    (number_cut m n _ _ fm fn behind)

client_mark : (n : ℕ) (asked : ClientLine) (r : List ℕ) → mark (schedule_line n asked ++ r) ≡ mark (codes "cl")
unfolding schedule_line
client_mark n asked r = refl

other_mark : (text : List ℕ) → (mark text ≡ mark (codes "cl") → ⊥) → NoClient text
other_mark text h = λ n asked more fits client e. h (ap mark e ∙ client_mark n asked more)

-- a text that doesn't go on with the line on two loggers
abbrev pub NoTwin : List ℕ → Type 0
NoTwin text = mark text ≡ mark (codes "tw") → ⊥

twin_cut : (a b : Bool) (r s : List ℕ) → NoTwin r → NoTwin s → twin_line a ++ r ≡ twin_line b ++ s → (a ≡ b) × (r ≡ s)
twin_cut true true r s nr ns e = (refl, append_cancel_left (twin_line true) r s e)
twin_cut true false r s nr ns e = absurd (ns (sym (ap mark e)))
twin_cut false true r s nr ns e = absurd (nr (ap mark e))
twin_cut false false r s nr ns e = (refl, e)

-- a text that doesn't go on with the line on marks
abbrev pub NoMarks : List ℕ → Type 0
NoMarks text = mark text ≡ mark (codes "ma") → ⊥

marks_mark : (every : ℕ) (r : List ℕ) → mark (marks_line (Some every) ++ r) ≡ mark (codes "ma")
marks_mark every r = refl

marks_cut : (a b : Option ℕ) (r s : List ℕ) → FitsOption a → FitsOption b → NoMarks r → NoMarks s → marks_line a ++ r ≡ marks_line b ++ s → (a ≡ b) × (r ≡ s)
marks_cut None None r s p q nr ns e = (refl, e)
marks_cut None (Some m) r s p q nr ns e = absurd (nr (ap mark e ∙ marks_mark m s))
marks_cut (Some n) None r s p q nr ns e = absurd (ns (sym (ap mark e) ∙ marks_mark n r))
marks_cut (Some n) (Some m) r s p q nr ns e =
    let cut = line_cut (codes "marks") (decimal n ∷ []) (decimal m ∷ []) r s (word_decimal n p, tt) (word_decimal m q, tt) e in
    (ap Some (decimal_injective n m p q (ap verb cut.0)), cut.1)

clients_no_marks : (n : ℕ) (asked : List ClientLine) (r : List ℕ) → NoMarks r → NoMarks (schedule_lines n asked ++ r)
clients_no_marks n [] r h = h
clients_no_marks n (a ∷ asked) r h = λ f. omega (arith, f, ap mark (append_assoc (schedule_line n a) (schedule_lines (n + 1) asked) r) ∙ client_mark n a (schedule_lines (n + 1) asked ++ r))

-- a text that doesn't go on with the line on a server that lasts
abbrev pub NoLasting : List ℕ → Type 0
NoLasting text = mark text ≡ mark (codes "la") → ⊥

lasting_mark : (waits : Lasting) (r : List ℕ) → mark (lasting_line (Some waits) ++ r) ≡ mark (codes "la")
lasting_mark waits r = refl

lasting_cut : (a b : Option Lasting) (r s : List ℕ) → FitsLasting a → FitsLasting b → NoLasting r → NoLasting s → lasting_line a ++ r ≡ lasting_line b ++ s → (a ≡ b) × (r ≡ s)
lasting_cut None None r s p q nr ns e = (refl, e)
lasting_cut None (Some m) r s p q nr ns e = absurd (nr (ap mark e ∙ lasting_mark m s))
lasting_cut (Some n) None r s p q nr ns e = absurd (ns (sym (ap mark e) ∙ lasting_mark n r))
lasting_cut (Some n) (Some m) r s p q nr ns e =
    let cut = line_cut (codes "lasting") (decimal n.wait ∷ decimal n.silence ∷ []) (decimal m.wait ∷ decimal m.silence ∷ []) r s
    (word_decimal n.wait p.0, (word_decimal n.silence p.1, tt)) (word_decimal m.wait q.0, (word_decimal m.silence q.1, tt)) e in
    let wait : n.wait ≡ m.wait = decimal_injective n.wait m.wait p.0 q.0 (ap verb cut.0) in
    let silence : n.silence ≡ m.silence = decimal_injective n.silence m.silence p.1 q.1 (ap (λ ws. verb (drop 1 ws)) cut.0) in
    (λ i. Some (record { wait = wait i; silence = silence i }), cut.1)

clients_no_lasting : (n : ℕ) (asked : List ClientLine) (r : List ℕ) → NoLasting r → NoLasting (schedule_lines n asked ++ r)
clients_no_lasting n [] r h = h
clients_no_lasting n (a ∷ asked) r h = λ f. omega (arith, f, ap mark (append_assoc (schedule_line n a) (schedule_lines (n + 1) asked) r) ∙ client_mark n a (schedule_lines (n + 1) asked ++ r))

lasting_no_marks : (lasting : Option Lasting) (r : List ℕ) → NoMarks r → NoMarks (lasting_line lasting ++ r)
lasting_no_marks None r h = h
lasting_no_marks (Some waits) r h = λ f. omega (arith, f, lasting_mark waits r)

lasting_no_twin : (lasting : Option Lasting) (r : List ℕ) → NoTwin r → NoTwin (lasting_line lasting ++ r)
lasting_no_twin None r h = h
lasting_no_twin (Some waits) r h = λ f. omega (arith, f, lasting_mark waits r)

marks_no_twin : (marks : Option ℕ) (r : List ℕ) → NoTwin r → NoTwin (marks_line marks ++ r)
marks_no_twin None r h = h
marks_no_twin (Some every) r h = λ f. omega (arith, f, marks_mark every r)

clients_no_twin : (n : ℕ) (asked : List ClientLine) (r : List ℕ) → NoTwin r → NoTwin (schedule_lines n asked ++ r)
clients_no_twin n [] r h = h
clients_no_twin n (a ∷ asked) r h = λ f. omega (arith, f, ap mark (append_assoc (schedule_line n a) (schedule_lines (n + 1) asked) r) ∙ client_mark n a (schedule_lines (n + 1) asked ++ r))

-- a text that doesn't go on with the line on a profile
abbrev pub NoProfile : List ℕ → Type 0
NoProfile text = mark text ≡ mark (codes "pr") → ⊥

profile_cut : (a b : Profile) (r s : List ℕ) → NoProfile r → NoProfile s → profile_line a ++ r ≡ profile_line b ++ s → (a ≡ b) × (r ≡ s)
profile_cut Wan Wan r s nr ns e = (refl, append_cancel_left (profile_line Wan) r s e)
profile_cut Wan Plain r s nr ns e = absurd (ns (sym (ap mark e)))
profile_cut Plain Wan r s nr ns e = absurd (nr (ap mark e))
profile_cut Plain Plain r s nr ns e = (refl, e)

clients_no_profile : (n : ℕ) (asked : List ClientLine) (r : List ℕ) → NoProfile r → NoProfile (schedule_lines n asked ++ r)
clients_no_profile n [] r h = h
clients_no_profile n (a ∷ asked) r h = λ f. omega (arith, f, ap mark (append_assoc (schedule_line n a) (schedule_lines (n + 1) asked) r) ∙ client_mark n a (schedule_lines (n + 1) asked ++ r))

lasting_no_profile : (lasting : Option Lasting) (r : List ℕ) → NoProfile r → NoProfile (lasting_line lasting ++ r)
lasting_no_profile None r h = h
lasting_no_profile (Some waits) r h = λ f. omega (arith, f, lasting_mark waits r)

marks_no_profile : (marks : Option ℕ) (r : List ℕ) → NoProfile r → NoProfile (marks_line marks ++ r)
marks_no_profile None r h = h
marks_no_profile (Some every) r h = λ f. omega (arith, f, marks_mark every r)

twin_no_profile : (twin : Bool) (r : List ℕ) → NoProfile r → NoProfile (twin_line twin ++ r)
twin_no_profile true r h = λ f. omega (arith, f)
twin_no_profile false r h = h

-- how a run ends: clients, entries of the log, and the count of events
phase_mark : (n : ℕ) (phase : Phase) (accepted r : List ℕ) → mark (phase_line n phase accepted ++ r) ≡ mark (codes "cl")
unfolding phase_line
phase_mark n phase accepted r = refl

entry_mark : (e : Entry) (r : List ℕ) → mark (log_line e ++ r) ≡ mark (codes "lo")
unfolding entry_line
entry_mark e r = refl

end_mark : (n : ℕ) → mark (end_line n) ≡ mark (codes "en")
unfolding end_line
end_mark n = refl

pub record IsClosing (text : List ℕ) : Type 0 where
  pub packet : NoPacket text
  pub event : NoEvent text
  pub client : NoClient text
  pub profile : NoProfile text
  pub twin : NoTwin text
  pub marks : NoMarks text
  pub lasting : NoLasting text

of_mark : (text : List ℕ) (m : ℕ) → mark text ≡ m → (m ≡ mark (codes "pa") → ⊥) → (m ≡ mark (codes "ev") → ⊥) → (m ≡ mark (codes "cl") → ⊥) → (m ≡ mark (codes "pr") → ⊥) → (m ≡ mark (codes "tw") → ⊥) → (m ≡ mark (codes "ma") → ⊥) → (m ≡ mark (codes "la") → ⊥) → IsClosing text
of_mark text m at p e c q t k l = record { packet = λ f. p (sym at ∙ f); event = λ f. e (sym at ∙ f); client = other_mark text (λ f. c (sym at ∙ f)); profile = λ f. q (sym at ∙ f); twin = λ f. t (sym at ∙ f); marks = λ f. k (sym at ∙ f); lasting = λ f. l (sym at ∙ f) }

ends : (clients : List Client) (entries : List Entry) (n : ℕ) → IsClosing (client_lines 1 clients ++ (flat_map log_line entries ++ end_line n))
ends [] [] n = of_mark (end_line n) (mark (codes "en")) (end_mark n) (λ f. omega (arith, f)) (λ f. omega (arith, f)) (λ f. omega (arith, f)) (λ f. omega (arith, f)) (λ f. omega (arith, f)) (λ f. omega (arith, f)) (λ f. omega (arith, f))
ends [] (e ∷ entries) n =
    of_mark _ (mark (codes "lo")) (ap mark (append_assoc (log_line e) (flat_map log_line entries) (end_line n)) ∙ entry_mark e _)
    (λ f. omega (arith, f)) (λ f. omega (arith, f)) (λ f. omega (arith, f)) (λ f. omega (arith, f)) (λ f. omega (arith, f)) (λ f. omega (arith, f)) (λ f. omega (arith, f))
ends (c ∷ clients) entries n =
    let rest : List ℕ = flat_map log_line entries ++ end_line n in
    let whole = append_assoc (client_line 1 c) (client_lines 2 clients) rest in
    let at = ap mark whole ∙ phase_mark 1 c.phase c.accepted (client_lines 2 clients ++ rest) in
    record {
      packet = λ f. omega (arith, at, f);
      event = λ f. omega (arith, at, f);
      client = λ n asked more fits client e. phase_apart 1 n c.phase c.accepted asked _ more (omega arith) fits client (sym whole ∙ e);
      profile = λ f. omega (arith, at, f);
      twin = λ f. omega (arith, at, f);
      marks = λ f. omega (arith, at, f);
      lasting = λ f. omega (arith, at, f);
    }

pub closing_ends : (w : World) (n : ℕ) → IsClosing (closing_lines w n)
closing_ends w n = ends w.clients w.log.entries n

-- after the header stands an event's line, or how the run ends
pub no_client : {Turn Reported : Type 0} (by : Reporting Turn Reported) (turns : List Turn) (r : List ℕ) → NoClient r → NoClient (lines_of by turns ++ r)
no_client by [] r h = h
no_client by (m ∷ earlier) r h = let at = events_lead by m earlier r in other_mark (lines_of by (m ∷ earlier) ++ r) (λ f. omega (arith, at, f))

pub no_profile : {Turn Reported : Type 0} (by : Reporting Turn Reported) (turns : List Turn) (r : List ℕ) → NoProfile r → NoProfile (lines_of by turns ++ r)
no_profile by [] r h = h
no_profile by (m ∷ earlier) r h = let at = events_lead by m earlier r in λ f. omega (arith, at, f)

pub no_twin : {Turn Reported : Type 0} (by : Reporting Turn Reported) (turns : List Turn) (r : List ℕ) → NoTwin r → NoTwin (lines_of by turns ++ r)
no_twin by [] r h = h
no_twin by (m ∷ earlier) r h = let at = events_lead by m earlier r in λ f. omega (arith, at, f)

pub no_marks : {Turn Reported : Type 0} (by : Reporting Turn Reported) (turns : List Turn) (r : List ℕ) → NoMarks r → NoMarks (lines_of by turns ++ r)
no_marks by [] r h = h
no_marks by (m ∷ earlier) r h = let at = events_lead by m earlier r in λ f. omega (arith, at, f)

pub no_lasting : {Turn Reported : Type 0} (by : Reporting Turn Reported) (turns : List Turn) (r : List ℕ) → NoLasting r → NoLasting (lines_of by turns ++ r)
no_lasting by [] r h = h
no_lasting by (m ∷ earlier) r h = let at = events_lead by m earlier r in λ f. omega (arith, at, f)

-- the whole header
header_then : (schedule : Schedule) (r : List ℕ)
    → header schedule ++ r ≡ line (codes "ftreplay") (codes "1" ∷ []) ++ (line (codes "service") (service_text schedule.service ∷ [])
    ++ (line (codes "server") (address_text schedule.server.ip schedule.server.port ∷ [])
    ++ (profile_line schedule.profile ++ (twin_line schedule.twin ++ (marks_line schedule.marks
    ++ (lasting_line schedule.lasting ++ (schedule_lines 1 schedule.clients ++ r)))))))
unfolding header
header_then schedule r =
    let first : List ℕ = line (codes "ftreplay") (codes "1" ∷ []) in
    let service : List ℕ = line (codes "service") (service_text schedule.service ∷ []) in
    let server : List ℕ = line (codes "server") (address_text schedule.server.ip schedule.server.port ∷ []) in
    let profile : List ℕ = profile_line schedule.profile in
    let twin : List ℕ = twin_line schedule.twin in
    let marks : List ℕ = marks_line schedule.marks in
    let lasting : List ℕ = lasting_line schedule.lasting in
    let clients : List ℕ = schedule_lines 1 schedule.clients in
    append_assoc first (service ++ (server ++ (profile ++ (twin ++ (marks ++ (lasting ++ clients)))))) r
    ∙ ap (λ t. first ++ t) (append_assoc service (server ++ (profile ++ (twin ++ (marks ++ (lasting ++ clients))))) r
    ∙ ap (λ t. service ++ t) (append_assoc server (profile ++ (twin ++ (marks ++ (lasting ++ clients)))) r
    ∙ ap (λ t. server ++ t) (append_assoc profile (twin ++ (marks ++ (lasting ++ clients))) r
    ∙ ap (λ t. profile ++ t) (append_assoc twin (marks ++ (lasting ++ clients)) r
    ∙ ap (λ t. twin ++ t) (append_assoc marks (lasting ++ clients) r ∙ ap (λ t. marks ++ t) (append_assoc lasting clients r))))))

-- the same was asked, but for the events
pub record IsSameHeader (schedule other : Schedule) : Type 0 where
  pub service : schedule.service ≡ other.service
  pub server : schedule.server ≡ other.server
  pub profile : schedule.profile ≡ other.profile
  pub twin : schedule.twin ≡ other.twin
  pub marks : schedule.marks ≡ other.marks
  pub lasting : schedule.lasting ≡ other.lasting
  pub clients : schedule.clients ≡ other.clients

pub header_cut : (schedule other : Schedule) (r s : List ℕ) → FitsSchedule schedule → FitsSchedule other → NoClient r → NoClient s
    → NoProfile r → NoProfile s → NoTwin r → NoTwin s → NoMarks r → NoMarks s → NoLasting r → NoLasting s → header schedule ++ r ≡ header other ++ s → IsSameHeader schedule other × (r ≡ s)
header_cut schedule other r s p q nr ns pr ps tr ts mr ms lr ls e =
    let all = append_cancel_left (line (codes "ftreplay") (codes "1" ∷ [])) _ _ (sym (header_then schedule r) ∙ (e ∙ header_then other s)) in
    let service = line_cut (codes "service") (service_text schedule.service ∷ []) (service_text other.service ∷ []) _ _
    (word_service schedule.service, tt) (word_service other.service, tt) all in
    let server = line_cut (codes "server") (address_text schedule.server.ip schedule.server.port ∷ []) (address_text other.server.ip other.server.port ∷ []) _ _
    (word_key (record { ip = schedule.server.ip; port = schedule.server.port }) (p.ip, p.port), tt)
    (word_key (record { ip = other.server.ip; port = other.server.port }) (q.ip, q.port), tt) service.1 in
    let addresses : address_text schedule.server.ip schedule.server.port ≡ address_text other.server.ip other.server.port = ap verb server.0 in
    let address = address_same schedule.server.ip other.server.ip schedule.server.port other.server.port p.ip q.ip p.port q.port addresses in
    let one : List ℕ = schedule_lines 1 schedule.clients ++ r in
    let two : List ℕ = schedule_lines 1 other.clients ++ s in
    let three : List ℕ = lasting_line schedule.lasting ++ one in
    let four : List ℕ = lasting_line other.lasting ++ two in
    let five : List ℕ = marks_line schedule.marks ++ three in
    let six : List ℕ = marks_line other.marks ++ four in
    let profile = profile_cut schedule.profile other.profile (twin_line schedule.twin ++ five) (twin_line other.twin ++ six)
    (twin_no_profile schedule.twin five (marks_no_profile schedule.marks three (lasting_no_profile schedule.lasting one (clients_no_profile 1 schedule.clients r pr))))
    (twin_no_profile other.twin six (marks_no_profile other.marks four (lasting_no_profile other.lasting two (clients_no_profile 1 other.clients s ps)))) server.1 in
    let twin = twin_cut schedule.twin other.twin five six
    (marks_no_twin schedule.marks three (lasting_no_twin schedule.lasting one (clients_no_twin 1 schedule.clients r tr)))
    (marks_no_twin other.marks four (lasting_no_twin other.lasting two (clients_no_twin 1 other.clients s ts))) profile.1 in
    let marks = marks_cut schedule.marks other.marks three four p.marks q.marks (lasting_no_marks schedule.lasting one (clients_no_marks 1 schedule.clients r mr))
    (lasting_no_marks other.lasting two (clients_no_marks 1 other.clients s ms)) twin.1 in
    let lasting = lasting_cut schedule.lasting other.lasting one two p.lasting q.lasting (clients_no_lasting 1 schedule.clients r lr) (clients_no_lasting 1 other.clients s ls) marks.1 in
    let clients = clients_cut 1 schedule.clients other.clients r s p.clients q.clients (omega (arith, p.count)) (omega (arith, q.count)) nr ns lasting.1 in (
      record {
        service = service_same schedule.service other.service (ap verb service.0);
        server = λ i. record { ip = address.0 i; port = address.1 i };
        profile = profile.0;
        twin = twin.0;
        marks = marks.0;
        lasting = lasting.0;
        clients = clients.0;
      },
      clients.1,
    )
