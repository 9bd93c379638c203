-- Words are read as an event exactly where they are that event's words, and a schedule can ask for it.
use Rattle.std.proofs.Common.{◌≡◌, ℕ, ◌<◌, ◌≤◌, ◌-◌, ◌^◌, Bool, true, false, if◌then◌else◌, Option, None, Some, List, [], ◌∷◌, codes, decimal, refl, ap, ap₂, ◌∙◌, subst, arith}
use Rattle.std.specs.Prelude.{option_map, nat_le}
use Rattle.std.specs.Str.{bytes_eq}
use Rattle.std.proofs.lemmas.Bool.{le-leb, leb-true}
use Rattle.ft_io.proofs.Outcomes.{none_is_not}
use Rattle.ft_model.specs.Report.{event_words}
use Rattle.ft_model.specs.declared.event.Event.{Event}
use Rattle.ft_model.specs.declared.event.Event.TheVariants.{Boot, Crash, Tick, Deliver, Flip, Begin, Send, Fin, Ack, Reset, Stop}
use Rattle.ft_model.specs.declared.line.Verb.{Verb}
use Rattle.ft_model.proofs.Fetching.{chosen_is}
use Rattle.ft_model.specs.declared.line.Verb.TheVariants as verbs
use Rattle.schedule_text.specs.EventLines.{IsAskable}
use Rattle.line_check.specs.Words.{number_word}
use Rattle.line_check.specs.EventWords.{from_least, ranged, one_of, two_of, three_of, with_two, with_three, client_in, long_in, window_in, packet_in, boot_in, bare, boot_words, deliver_words, flip_words, window_words, send_words, client_words, stop_words, verb_name, all_verbs, verb_among, verb_named, event_for, event_of_words}
use Rattle.line_check.proofs.Spelled.{value_or, same_bytes, number_reported, number_shown}

-- numbers in a range
ranged_reported : (least most n : ℕ) (word : List ℕ) → ranged least most word ≡ Some n → (least ≤ n) × (n ≤ most) × (word ≡ decimal n)
unfolding ranged
ranged_reported least most n word e = by_number (number_word most word) refl e
  where
    by_number : (o : Option ℕ) → number_word most word ≡ o → from_least least o ≡ Some n → (least ≤ n) × (n ≤ most) × (word ≡ decimal n)
    by_number None f g = none_is_not g
    by_number (Some m) f g =
        let c : (nat_le least m ≡ true) × (m ≡ n) = chosen_is (nat_le least m) m n g in
        let t : (m ≤ most) × (word ≡ decimal m) = number_reported most m word f in
        let same : m ≡ n = c.1 in
        let low : least ≤ m = leb-true least m c.0 in
        (omega (arith, same, low), omega (arith, same, t.0), t.1 ∙ ap decimal same)

ranged_shown : (least most n : ℕ) → least ≤ n → n ≤ most → n < 2 ^ 64 → ranged least most (decimal n) ≡ Some n
unfolding ranged
ranged_shown least most n low high fits =
    ap (from_least least) (number_shown most n high fits) ∙ ap (λ b. if b then Some n else None) (le-leb least n low)

-- values of numbers
one_reported : {A : Type 0} (o : Option ℕ) (make : ℕ → A) (y : A) → option_map make o ≡ Some y → (a : ℕ) × (o ≡ Some a) × (make a ≡ y)
one_reported None make y e = none_is_not e
one_reported (Some a) make y e = (a, refl, ap (value_or y) e)

two_reported : {A : Type 0} (o p : Option ℕ) (make : ℕ → ℕ → A) (y : A) → with_two make o p ≡ Some y → (a : ℕ) × (b : ℕ) × (o ≡ Some a) × (p ≡ Some b) × (make a b ≡ y)
two_reported None p make y e = none_is_not e
two_reported (Some a) None make y e = none_is_not e
two_reported (Some a) (Some b) make y e = (a, b, refl, refl, ap (value_or y) e)

three_reported : {A : Type 0} (o p q : Option ℕ) (make : ℕ → ℕ → ℕ → A) (y : A) → with_three make o p q ≡ Some y
    → (a : ℕ) × (b : ℕ) × (c : ℕ) × (o ≡ Some a) × (p ≡ Some b) × (q ≡ Some c) × (make a b c ≡ y)
three_reported None p q make y e = none_is_not e
three_reported (Some a) None q make y e = none_is_not e
three_reported (Some a) (Some b) None make y e = none_is_not e
three_reported (Some a) (Some b) (Some c) make y e = (a, b, c, refl, refl, refl, ap (value_or y) e)

-- the words of an event that a schedule can ask for
abbrev IsWordsOf : List (List ℕ) → Event → Type 0
IsWordsOf words e = (words ≡ event_words e) × IsAskable e

boot_reported : (words : List (List ℕ)) (e : Event) → boot_words (two_of words) ≡ Some e → IsWordsOf (codes "boot" ∷ words) e
boot_reported [] e h = none_is_not h
boot_reported (a ∷ []) e h = none_is_not h
boot_reported (a ∷ b ∷ c ∷ more) e h = none_is_not h
boot_reported (a ∷ b ∷ []) e h =
    let t = two_reported (boot_in a) (long_in b) Boot e h in
    let p = ranged_reported 1 (2 ^ 64 - 1) t.0 a t.2 in
    let q = ranged_reported 0 (2 ^ 32 - 1) t.1 b t.3 in
    subst (IsWordsOf (codes "boot" ∷ a ∷ b ∷ [])) t.4 (ap₂ (λ x y. codes "boot" ∷ x ∷ y ∷ []) p.2 q.2, (p.0, omega (arith, p.1), omega (arith, q.1)))

bare_reported : (own : Event) (words : List (List ℕ)) (e : Event) → bare own words ≡ Some e → (words ≡ []) × (own ≡ e)
bare_reported own [] e h = (refl, ap (value_or e) h)
bare_reported own (a ∷ more) e h = none_is_not h

deliver_reported : (words : List (List ℕ)) (e : Event) → deliver_words (one_of words) ≡ Some e → IsWordsOf (codes "deliver" ∷ words) e
deliver_reported [] e h = none_is_not h
deliver_reported (a ∷ b ∷ more) e h = none_is_not h
deliver_reported (a ∷ []) e h =
    let t = one_reported (packet_in a) Deliver e h in
    let p = ranged_reported 1 (2 ^ 32 - 1) t.0 a t.1 in
    subst (IsWordsOf (codes "deliver" ∷ a ∷ [])) t.2 (ap (λ x. codes "deliver" ∷ x ∷ []) p.2, (p.0, omega (arith, p.1)))

flip_reported : (words : List (List ℕ)) (e : Event) → flip_words (two_of words) ≡ Some e → IsWordsOf (codes "flip" ∷ words) e
flip_reported [] e h = none_is_not h
flip_reported (a ∷ []) e h = none_is_not h
flip_reported (a ∷ b ∷ c ∷ more) e h = none_is_not h
flip_reported (a ∷ b ∷ []) e h =
    let t = two_reported (packet_in a) (long_in b) Flip e h in
    let p = ranged_reported 1 (2 ^ 32 - 1) t.0 a t.2 in
    let q = ranged_reported 0 (2 ^ 32 - 1) t.1 b t.3 in
    subst (IsWordsOf (codes "flip" ∷ a ∷ b ∷ [])) t.4 (ap₂ (λ x y. codes "flip" ∷ x ∷ y ∷ []) p.2 q.2, ((p.0, omega (arith, p.1)), omega (arith, q.1)))

-- a client and a window
record Windowed (words : List (List ℕ)) (make : ℕ → ℕ → Event) (e : Event) : Type 0 where
  client : ℕ
  window : ℕ
  least : 1 ≤ client
  most : client ≤ 16
  fits : window < 2 ^ 16
  words_are : words ≡ decimal client ∷ decimal window ∷ []
  event_is : make client window ≡ e

windowed : (make : ℕ → ℕ → Event) (words : List (List ℕ)) (e : Event) → window_words make (two_of words) ≡ Some e → Windowed words make e
windowed make [] e h = none_is_not h
windowed make (a ∷ []) e h = none_is_not h
windowed make (a ∷ b ∷ c ∷ more) e h = none_is_not h
windowed make (a ∷ b ∷ []) e h =
    let t = two_reported (client_in a) (window_in b) make e h in
    let p = ranged_reported 1 16 t.0 a t.2 in
    let q = ranged_reported 0 65535 t.1 b t.3 in
    record {
      client = t.0;
      window = t.1;
      least = p.0;
      most = p.1;
      fits = omega (arith, q.1);
      words_are = ap₂ (λ x y. x ∷ y ∷ []) p.2 q.2;
      event_is = t.4;
    }

send_reported : (words : List (List ℕ)) (e : Event) → send_words (three_of words) ≡ Some e → IsWordsOf (codes "send" ∷ words) e
send_reported [] e h = none_is_not h
send_reported (a ∷ []) e h = none_is_not h
send_reported (a ∷ b ∷ []) e h = none_is_not h
send_reported (a ∷ b ∷ c ∷ d ∷ more) e h = none_is_not h
send_reported (a ∷ b ∷ c ∷ []) e h =
    let t = three_reported (client_in a) (long_in b) (long_in c) Send e h in
    let p = ranged_reported 1 16 t.0 a t.3 in
    let q = ranged_reported 0 (2 ^ 32 - 1) t.1 b t.4 in
    let r = ranged_reported 0 (2 ^ 32 - 1) t.2 c t.5 in
    subst (IsWordsOf (codes "send" ∷ a ∷ b ∷ c ∷ [])) t.6
    (ap₂ (λ x more. codes "send" ∷ x ∷ more) p.2 (ap₂ (λ x y. x ∷ y ∷ []) q.2 r.2), ((p.0, p.1), omega (arith, q.1), omega (arith, r.1)))

-- a client alone
alone : (make : ℕ → Event) (words : List (List ℕ)) (e : Event) → client_words make (one_of words) ≡ Some e
    → (client : ℕ) × (1 ≤ client) × (client ≤ 16) × (words ≡ decimal client ∷ []) × (make client ≡ e)
alone make [] e h = none_is_not h
alone make (a ∷ b ∷ more) e h = none_is_not h
alone make (a ∷ []) e h =
    let t = one_reported (client_in a) make e h in
    let p = ranged_reported 1 16 t.0 a t.1 in
    (t.0, p.0, p.1, ap (λ x. x ∷ []) p.2, t.2)

stop_reported : (words : List (List ℕ)) (e : Event) → stop_words (one_of words) ≡ Some e → IsWordsOf (codes "stop" ∷ words) e
stop_reported [] e h = none_is_not h
stop_reported (a ∷ b ∷ more) e h = none_is_not h
stop_reported (a ∷ []) e h =
    let t = one_reported (ranged 1 2 a) Stop e h in
    let p = ranged_reported 1 2 t.0 a t.1 in
    subst (IsWordsOf (codes "stop" ∷ a ∷ [])) t.2 (ap (λ x. codes "stop" ∷ x ∷ []) p.2, (p.0, p.1))

-- verbs
abbrev verb_or : Verb → Option Verb → Verb
verb_or other (Some v) = v
verb_or other None = other

verb_shown : (v : Verb) → verb_named (verb_name v) ≡ Some v
unfolding verb_named
verb_shown verbs.Boot = refl
verb_shown verbs.Crash = refl
verb_shown verbs.Tick = refl
verb_shown verbs.Deliver = refl
verb_shown verbs.Flip = refl
verb_shown verbs.Open = refl
verb_shown verbs.Send = refl
verb_shown verbs.Fin = refl
verb_shown verbs.Ack = refl
verb_shown verbs.Reset = refl
verb_shown verbs.Stop = refl

verb_reported : (word : List ℕ) (v : Verb) → verb_named word ≡ Some v → word ≡ verb_name v
unfolding verb_named
verb_reported word v e = among all_verbs e
  where
    by_test : (first : Verb) (more : List Verb) (b : Bool) → bytes_eq word (verb_name first) ≡ b → (if b then Some first else verb_among more word) ≡ Some v
        → (verb_among more word ≡ Some v → word ≡ verb_name v) → word ≡ verb_name v
    by_test first more true same e rest = same_bytes word (verb_name first) same ∙ ap verb_name (ap (verb_or first) e)
    by_test first more false same e rest = rest e

    among : (more : List Verb) → verb_among more word ≡ Some v → word ≡ verb_name v
    among [] e = none_is_not e
    among (first ∷ more) e = by_test first more (bytes_eq word (verb_name first)) refl e (among more)

event_for_reported : (v : Verb) (words : List (List ℕ)) (e : Event) → event_for (Some v) words ≡ Some e → IsWordsOf (verb_name v ∷ words) e
event_for_reported verbs.Boot words e h = boot_reported words e h
event_for_reported verbs.Crash words e h = let t = bare_reported Crash words e h in subst (IsWordsOf (codes "crash" ∷ words)) t.1 (ap (λ x. codes "crash" ∷ x) t.0, tt)
event_for_reported verbs.Tick words e h = let t = bare_reported Tick words e h in subst (IsWordsOf (codes "tick" ∷ words)) t.1 (ap (λ x. codes "tick" ∷ x) t.0, tt)
event_for_reported verbs.Deliver words e h = deliver_reported words e h
event_for_reported verbs.Flip words e h = flip_reported words e h
event_for_reported verbs.Open words e h =
    let t = windowed Begin words e h in subst (IsWordsOf (codes "open" ∷ words)) t.event_is (ap (λ x. codes "open" ∷ x) t.words_are, ((t.least, t.most), t.fits))
event_for_reported verbs.Send words e h = send_reported words e h
event_for_reported verbs.Fin words e h =
    let t = alone Fin words e h in subst (IsWordsOf (codes "fin" ∷ words)) t.4 (ap (λ x. codes "fin" ∷ x) t.3, (t.1, t.2))
event_for_reported verbs.Ack words e h =
    let t = windowed Ack words e h in subst (IsWordsOf (codes "ack" ∷ words)) t.event_is (ap (λ x. codes "ack" ∷ x) t.words_are, ((t.least, t.most), t.fits))
event_for_reported verbs.Reset words e h =
    let t = alone Reset words e h in subst (IsWordsOf (codes "reset" ∷ words)) t.4 (ap (λ x. codes "reset" ∷ x) t.3, (t.1, t.2))
event_for_reported verbs.Stop words e h = stop_reported words e h

pub event_reported : (words : List (List ℕ)) (e : Event) → event_of_words words ≡ Some e → (words ≡ event_words e) × IsAskable e
event_reported [] e h = none_is_not h
event_reported (word ∷ words) e h = by_verb (verb_named word) refl h
  where
    by_verb : (o : Option Verb) → verb_named word ≡ o → event_for o words ≡ Some e → (word ∷ words ≡ event_words e) × IsAskable e
    by_verb None f g = none_is_not g
    by_verb (Some v) f g =
        let t : (verb_name v ∷ words ≡ event_words e) × IsAskable e = event_for_reported v words e g in
        (ap (λ x. x ∷ words) (verb_reported word v f) ∙ t.0, t.1)

client_shown : (n : ℕ) → 1 ≤ n → n ≤ 16 → client_in (decimal n) ≡ Some n
client_shown n low high = ranged_shown 1 16 n low high (omega (arith, high))

packet_shown : (n : ℕ) → 1 ≤ n → n < 2 ^ 32 → packet_in (decimal n) ≡ Some n
packet_shown n low high = ranged_shown 1 (2 ^ 32 - 1) n low (omega (arith, high)) (omega (arith, high))

long_shown : (n : ℕ) → n < 2 ^ 32 → long_in (decimal n) ≡ Some n
long_shown n high = ranged_shown 0 (2 ^ 32 - 1) n (omega arith) (omega (arith, high)) (omega (arith, high))

window_shown : (n : ℕ) → n < 2 ^ 16 → window_in (decimal n) ≡ Some n
window_shown n high = ranged_shown 0 65535 n (omega arith) (omega (arith, high)) (omega (arith, high))

after_verb : (v : Verb) (words : List (List ℕ)) (e : Event) → event_for (Some v) words ≡ Some e → event_of_words (verb_name v ∷ words) ≡ Some e
after_verb v words e h = ap (λ o. event_for o words) (verb_shown v) ∙ h

pub event_shown : (e : Event) → IsAskable e → event_of_words (event_words e) ≡ Some e
event_shown (Boot boot isn) h =
    after_verb verbs.Boot (decimal boot ∷ decimal isn ∷ []) (Boot boot isn)
    (ap₂ (with_two Boot) (ranged_shown 1 (2 ^ 64 - 1) boot h.0 (omega (arith, h.1)) h.1) (long_shown isn h.2))
event_shown Crash h = after_verb verbs.Crash [] Crash refl
event_shown Tick h = after_verb verbs.Tick [] Tick refl
event_shown (Deliver packet) h = after_verb verbs.Deliver (decimal packet ∷ []) (Deliver packet) (ap (option_map Deliver) (packet_shown packet h.0 h.1))
event_shown (Flip packet bit) h =
    after_verb verbs.Flip (decimal packet ∷ decimal bit ∷ []) (Flip packet bit) (ap₂ (with_two Flip) (packet_shown packet h.0.0 h.0.1) (long_shown bit h.1))
event_shown (Begin client window) h =
    after_verb verbs.Open (decimal client ∷ decimal window ∷ []) (Begin client window) (ap₂ (with_two Begin) (client_shown client h.0.0 h.0.1) (window_shown window h.1))
event_shown (Send client from len) h =
    after_verb verbs.Send (decimal client ∷ decimal from ∷ decimal len ∷ []) (Send client from len)
    (ap (λ o. with_three Send o (long_in (decimal from)) (long_in (decimal len))) (client_shown client h.0.0 h.0.1)
    ∙ ap₂ (λ p q. with_three Send (Some client) p q) (long_shown from h.1) (long_shown len h.2))
event_shown (Fin client) h = after_verb verbs.Fin (decimal client ∷ []) (Fin client) (ap (option_map Fin) (client_shown client h.0 h.1))
event_shown (Ack client window) h =
    after_verb verbs.Ack (decimal client ∷ decimal window ∷ []) (Ack client window) (ap₂ (with_two Ack) (client_shown client h.0.0 h.0.1) (window_shown window h.1))
event_shown (Reset client) h = after_verb verbs.Reset (decimal client ∷ []) (Reset client) (ap (option_map Reset) (client_shown client h.0 h.1))
event_shown (Stop part) h = after_verb verbs.Stop (decimal part ∷ []) (Stop part) (ap (option_map Stop) (ranged_shown 1 2 part h.0 h.1 (omega (arith, h.1))))
