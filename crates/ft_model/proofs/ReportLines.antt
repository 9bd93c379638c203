-- A report is cut into its lines: no word has a line feed in it, and the first letters of a line say what line it is.
use Rattle.std.proofs.Common.{◌≡◌, ℕ, ◌<◌, ◌+◌, ◌*◌, List, [], ◌∷◌, ◌++◌, codes, decimal, drop, refl, sym, ap, ◌∙◌, arith, append_assoc}
use Rattle.std.specs.List.{AllByRecursion}
use Rattle.std.proofs.lemmas.Fmt.{decimal_injective}
use Rattle.std.proofs.lemmas.List.{append_cancel_left}
use Rattle.ft_io.specs.declared.Addr.{Addr}
use Rattle.ft_model.specs.declared.event.Event.{Event}
use Rattle.ft_model.specs.declared.event.Event.TheVariants.{Boot, Crash, Tick, Deliver, Flip, Begin, Send, Fin, Ack, Reset, Stop}
use Rattle.ft_model.specs.Client.{Client}
use Rattle.ft_model.specs.Network.{Packet}
use Rattle.ft_model.specs.declared.way.Way.{Way}
use Rattle.ft_model.specs.Texts.{spaced, line, way_text}
use Rattle.ft_model.specs.Report.{event_words, event_line, content_words, packet_line, packet_lines, way_of}
use Rattle.ft_model.specs.Readable.{IsWord, FitsEvent, IsReadable}
use Rattle.ft_model.proofs.ReportWords.{Starts, cut, IsBreak, word_decimal}
use Rattle.ft_model.proofs.ReportParts.{way_same}
use Rattle.ft_model.proofs.ReportContent.{lit, words_content, word_way}
use Rattle.ft_model.proofs.ReportPackets.{content_same, way_fits}

starts_more : (ws : List (List ℕ)) (r : List ℕ) → Starts IsBreak (spaced ws ++ 10 ∷ r)
starts_more [] r = omega arith
starts_more (w ∷ ws) r = omega arith

-- words are cut off from what follows their line feed
pub rest_cut : (ws vs : List (List ℕ)) (r s : List ℕ) → AllByRecursion IsWord ws → AllByRecursion IsWord vs
    → spaced ws ++ 10 ∷ r ≡ spaced vs ++ 10 ∷ s → (ws ≡ vs) × (r ≡ s)
rest_cut [] [] r s p q e = (refl, ap (drop 1) e)
rest_cut [] (v ∷ vs) r s p q e = absurd (let f : ◌≡◌ {A = ℕ} 10 32 = cc in omega (arith, f))
rest_cut (w ∷ ws) [] r s p q e = absurd (let f : ◌≡◌ {A = ℕ} 32 10 = cc in omega (arith, f))
rest_cut (w ∷ ws) (v ∷ vs) r s p q e =
    let behind : (w ++ spaced ws) ++ 10 ∷ r ≡ (v ++ spaced vs) ++ 10 ∷ s = ap (drop 1) e in
    let same : (w ≡ v) × (spaced ws ++ 10 ∷ r ≡ spaced vs ++ 10 ∷ s) =
    cut (λ c. 32 < c) IsBreak (λ c p q. omega arith) w v _ _ p.0 q.0 (starts_more ws r) (starts_more vs s)
    (sym (append_assoc w (spaced ws) (10 ∷ r)) ∙ behind ∙ append_assoc v (spaced vs) (10 ∷ s)) in
    let first : w ≡ v = same.0 in
    let others : (ws ≡ vs) × (r ≡ s) = rest_cut ws vs r s p.1 q.1 same.1 in
    let more : ws ≡ vs = others.0 in (cc, others.1)

line_then : (first : List ℕ) (ws : List (List ℕ)) (r : List ℕ) → line first ws ++ r ≡ first ++ (spaced ws ++ 10 ∷ r)
line_then first ws r = append_assoc first (spaced ws ++ 10 ∷ []) r ∙ ap (λ t. first ++ t) (append_assoc (spaced ws) (10 ∷ []) r)

pub line_cut : (first : List ℕ) (ws vs : List (List ℕ)) (r s : List ℕ) → AllByRecursion IsWord ws → AllByRecursion IsWord vs
    → line first ws ++ r ≡ line first vs ++ s → (ws ≡ vs) × (r ≡ s)
line_cut first ws vs r s p q e =
    rest_cut ws vs r s p q (append_cancel_left first _ _ (sym (line_then first ws r) ∙ (e ∙ line_then first vs s)))

pub numbered_then : (first : List ℕ) (n : ℕ) (ws : List (List ℕ)) (r : List ℕ)
    → line first (decimal n ∷ ws) ++ r ≡ (first ++ 32 ∷ decimal n) ++ (spaced ws ++ 10 ∷ r)
numbered_then first n ws r =
    line_then first (decimal n ∷ ws) r
    ∙ (ap (λ t. first ++ t) (append_assoc (32 ∷ decimal n) (spaced ws) (10 ∷ r)) ∙ sym (append_assoc first (32 ∷ decimal n) (spaced ws ++ 10 ∷ r)))

-- two lines of one kind with one number, whatever its size
pub numbered_cut : (first : List ℕ) (n : ℕ) (ws vs : List (List ℕ)) (r s : List ℕ) → AllByRecursion IsWord ws → AllByRecursion IsWord vs
    → line first (decimal n ∷ ws) ++ r ≡ line first (decimal n ∷ vs) ++ s → (ws ≡ vs) × (r ≡ s)
numbered_cut first n ws vs r s p q e =
    rest_cut ws vs r s p q (append_cancel_left (first ++ 32 ∷ decimal n) _ _ (sym (numbered_then first n ws r) ∙ (e ∙ numbered_then first n vs s)))

-- the first two letters of a text
abbrev pub mark : List ℕ → ℕ
mark (a ∷ b ∷ text) = a * 256 + b
mark _ = 0

pub event_mark : (n : ℕ) (event : Event) (r : List ℕ) → mark (event_line n event ++ r) ≡ mark (codes "ev")
unfolding event_line
event_mark n event r = refl

pub packet_mark : (n : ℕ) (way : Way) (packet : Packet) (r : List ℕ) → mark (packet_line n way packet ++ r) ≡ mark (codes "pa")
unfolding packet_line
packet_mark n way packet r = refl

-- an event
words_event : (event : Event) → FitsEvent event → AllByRecursion IsWord (event_words event)
words_event (Boot boot isn) h = (lit (codes "boot") refl, (word_decimal boot h.0, (word_decimal isn h.1, tt)))
words_event Crash h = (lit (codes "crash") refl, tt)
words_event Tick h = (lit (codes "tick") refl, tt)
words_event (Deliver packet) h = (lit (codes "deliver") refl, (word_decimal packet h, tt))
words_event (Flip packet bit) h = (lit (codes "flip") refl, (word_decimal packet h.0, (word_decimal bit h.1, tt)))
words_event (Begin client window) h = (lit (codes "open") refl, (word_decimal client h.0, (word_decimal window (omega (arith, h.1)), tt)))
words_event (Send client from len) h = (lit (codes "send") refl, (word_decimal client h.0, (word_decimal from h.1, (word_decimal len h.2, tt))))
words_event (Fin client) h = (lit (codes "fin") refl, (word_decimal client h, tt))
words_event (Ack client window) h = (lit (codes "ack") refl, (word_decimal client h.0, (word_decimal window (omega (arith, h.1)), tt)))
words_event (Reset client) h = (lit (codes "reset") refl, (word_decimal client h, tt))
words_event (Stop part) h = (lit (codes "stop") refl, (word_decimal part h, tt))

-- a number that differs from verb to verb
abbrev digest : List ℕ → ℕ
digest [] = 0
digest (c ∷ name) = c + 2 * digest name

abbrev pub verb : List (List ℕ) → List ℕ
verb [] = []
verb (word ∷ words) = word

event_same : (a b : Event) → FitsEvent a → FitsEvent b → event_words a ≡ event_words b → a ≡ b
event_same (Boot m x) (Boot n y) p q e =
    let a : m ≡ n = decimal_injective m n p.0 q.0 (cc) in
    let b : x ≡ y = decimal_injective x y p.1 q.1 (cc) in λ i. Boot (a i) (b i)
event_same Crash Crash p q e = refl
event_same Tick Tick p q e = refl
event_same (Deliver m) (Deliver n) p q e = ap Deliver (decimal_injective m n p q (cc))
event_same (Flip m x) (Flip n y) p q e =
    let a : m ≡ n = decimal_injective m n p.0 q.0 (cc) in
    let b : x ≡ y = decimal_injective x y p.1 q.1 (cc) in λ i. Flip (a i) (b i)
event_same (Begin m x) (Begin n y) p q e =
    let a : m ≡ n = decimal_injective m n p.0 q.0 (cc) in
    let b : x ≡ y = decimal_injective x y (omega (arith, p.1)) (omega (arith, q.1)) (cc) in λ i. Begin (a i) (b i)
event_same (Send m x f) (Send n y g) p q e =
    let a : m ≡ n = decimal_injective m n p.0 q.0 (cc) in
    let b : x ≡ y = decimal_injective x y p.1 q.1 (cc) in
    let c : f ≡ g = decimal_injective f g p.2 q.2 (cc) in λ i. Send (a i) (b i) (c i)
event_same (Fin m) (Fin n) p q e = ap Fin (decimal_injective m n p q (cc))
event_same (Ack m x) (Ack n y) p q e =
    let a : m ≡ n = decimal_injective m n p.0 q.0 (cc) in
    let b : x ≡ y = decimal_injective x y (omega (arith, p.1)) (omega (arith, q.1)) (cc) in λ i. Ack (a i) (b i)
event_same (Reset m) (Reset n) p q e = ap Reset (decimal_injective m n p q (cc))
event_same (Stop m) (Stop n) p q e = ap Stop (decimal_injective m n p q (cc))
event_same a b p q e = absurd (omega (arith, ap (λ ws. digest (verb ws)) e))

pub event_cut : (n : ℕ) (a b : Event) (r s : List ℕ) → FitsEvent a → FitsEvent b → event_line n a ++ r ≡ event_line n b ++ s → (a ≡ b) × (r ≡ s)
unfolding event_line
event_cut n a b r s p q e =
    let same : (event_words a ≡ event_words b) × (r ≡ s) = numbered_cut (codes "event") n (event_words a) (event_words b) r s (words_event a p) (words_event b q) e in
    (event_same a b p q same.0, same.1)

-- a packet
packet_cut : (server : Addr) (clients : List Client) (n : ℕ) (p q : Packet) (r s : List ℕ) → IsReadable server clients p → IsReadable server clients q
    → packet_line n (way_of clients p) p ++ r ≡ packet_line n (way_of clients q) q ++ s → (p ≡ q) × (r ≡ s)
unfolding packet_line
packet_cut server clients n p q r s hp hq e =
    let wp = way_fits server clients p hp in
    let wq = way_fits server clients q hq in
    let same : (way_text (way_of clients p) ∷ content_words p ≡ way_text (way_of clients q) ∷ content_words q) × (r ≡ s) =
    numbered_cut (codes "packet") n (way_text (way_of clients p) ∷ content_words p) (way_text (way_of clients q) ∷ content_words q) r s
    (word_way (way_of clients p) wp, words_content server clients p hp) (word_way (way_of clients q) wq, words_content server clients q hq) e in
    let words : way_text (way_of clients p) ∷ content_words p ≡ way_text (way_of clients q) ∷ content_words q = same.0 in
    let ways : way_of clients p ≡ way_of clients q = way_same _ _ wp wq (cc) in
    (content_same server clients p q hp hq ways (cc), same.1)

-- the packets of a turn, up to a line that is no packet's
pub packets_cut : (server : Addr) (clients : List Client) (n : ℕ) (ps qs : List Packet) (r s : List ℕ)
    → AllByRecursion (IsReadable server clients) ps → AllByRecursion (IsReadable server clients) qs
    → (mark r ≡ mark (codes "pa") → ⊥) → (mark s ≡ mark (codes "pa") → ⊥)
    → packet_lines clients n ps ++ r ≡ packet_lines clients n qs ++ s → (ps ≡ qs) × (r ≡ s)
packets_cut server clients n [] [] r s hp hq nr ns e = (refl, e)
packets_cut server clients n [] (q ∷ qs) r s hp hq nr ns e =
    absurd (nr (ap mark (e ∙ append_assoc (packet_line n (way_of clients q) q) (packet_lines clients (n + 1) qs) s) ∙ packet_mark n (way_of clients q) q _))
packets_cut server clients n (p ∷ ps) [] r s hp hq nr ns e =
    absurd (ns (ap mark (sym e ∙ append_assoc (packet_line n (way_of clients p) p) (packet_lines clients (n + 1) ps) r) ∙ packet_mark n (way_of clients p) p _))
packets_cut server clients n (p ∷ ps) (q ∷ qs) r s hp hq nr ns e =
    let one : (p ≡ q) × (packet_lines clients (n + 1) ps ++ r ≡ packet_lines clients (n + 1) qs ++ s) =
    packet_cut server clients n p q _ _ hp.0 hq.0
    (sym (append_assoc (packet_line n (way_of clients p) p) (packet_lines clients (n + 1) ps) r)
    ∙ (e ∙ append_assoc (packet_line n (way_of clients q) q) (packet_lines clients (n + 1) qs) s)) in
    let more : (ps ≡ qs) × (r ≡ s) = packets_cut server clients (n + 1) ps qs r s hp.1 hq.1 nr ns one.1 in
    ((λ i. one.0 i ∷ more.0 i), more.1)
