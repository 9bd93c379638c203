-- The numbers of an event that the grammar accepts are in the ranges that a schedule can ask for.
use Rattle.std.proofs.Common.{◌≡◌, ℕ, ◌-◌, ◌<◌, ◌≤◌, ◌^◌, Bool, true, false, Option, Some, None, Result, Ok, Err, List, [], ◌∷◌, refl, subst, arith}
use Rattle.std.specs.Prelude.{cond, nat_le, ◌&&◌}
use Rattle.std.specs.Option.{ok_or, option_and_then}
use Rattle.std.proofs.lemmas.Bool.{leb-true}
use Rattle.ft_io.proofs.Booleans.{left_true, right_true}
use Rattle.ft_model.specs.Grammar.{◌>>=◌, number, boot_number, packet_number, client_number, window, long_number, part_number, boot_line, bare_line, deliver_line, flip_line, client_and_window, send_line, client_alone, stop_line, profile_line, marks_line, lasting_line, event_line, client_line, service_line, server_line, line_from, line_of_words, line_behind, line_of, keyword_of, is_misnamed, may_stand, is_printable}
use Rattle.ft_model.specs.Spelling.{numeral, number_of, within}
use Rattle.ft_model.specs.Words.{words_of}
use Rattle.ft_model.specs.Readable.{FitsEvent}
use Rattle.ft_model.specs.declared.event.Event.{Event}
use Rattle.ft_model.specs.declared.event.Event.TheVariants as event
use Rattle.ft_model.specs.declared.line.Draft.{Draft}
use Rattle.ft_model.specs.declared.line.Keyword.{Keyword}
use Rattle.ft_model.specs.declared.line.Keyword.TheVariants as keyword
use Rattle.ft_model.specs.declared.line.Line.{Line}
use Rattle.ft_model.specs.declared.line.Line.TheVariants as line
use Rattle.ft_model.specs.declared.line.Verb.{Verb}
use Rattle.ft_model.specs.declared.line.Verb.TheVariants as verb
use Rattle.ft_model.specs.declared.schedule.LineWhy.{LineWhy}
use Rattle.ft_model.specs.declared.schedule.LineWhy.TheVariants as why
use Rattle.ft_model.proofs.AcceptedLemmas.{bind_ok, ok_or_ok, unless, bare_says}
use Rattle.ft_model.proofs.FitsLemmas.{one_number, two_numbers}
use Rattle.schedule_text.specs.EventLines.{IsAskable}

within_range : (least most : ℕ) (o : Option ℕ) (n : ℕ) → option_and_then (within least most) o ≡ Some n → (least ≤ n) × (n ≤ most)
within_range least most None n e = absurd (cc)
within_range least most (Some m) n e = by_test (nat_le least m && nat_le m most) refl e
  where
    by_test : (b : Bool) → nat_le least m && nat_le m most ≡ b → cond b (Some m) None ≡ Some n → (least ≤ n) × (n ≤ most)
    by_test true f g =
        let same : m ≡ n = cc in
        let low : least ≤ m = leb-true least m (left_true (nat_le least m) (nat_le m most) f) in
        let high : m ≤ most = leb-true m most (right_true (nat_le least m) (nat_le m most) f) in
        (omega (arith, same, low), omega (arith, same, high))
    by_test false f g = absurd (cc)

in_range : (least most : ℕ) (word : List ℕ) (n : ℕ) → number least most word ≡ Ok n → (least ≤ n) × (n ≤ most)
unfolding number_of
in_range least most word n e = within_range least most (numeral 20 word) n (ok_or_ok (number_of least most word) why.Number n e)

boot_askable : (words : List (List ℕ)) (e : Event) → boot_line words ≡ Ok e → IsAskable e
unfolding boot_line
boot_askable (boot ∷ isn ∷ []) e h =
    let t = two_numbers (boot_number boot) (long_number isn) event.Boot e h in
    let a = in_range 1 (2 ^ 64 - 1) boot t.0 t.2 in
    let b = in_range 0 (2 ^ 32 - 1) isn t.1 t.3 in
    subst IsAskable t.4 (a.0, omega (arith, a.1), omega (arith, b.1))
boot_askable [] e h = absurd (cc)
boot_askable (a ∷ []) e h = absurd (cc)
boot_askable (a ∷ b ∷ c ∷ more) e h = absurd (cc)

bare_askable : (own : Event) (words : List (List ℕ)) (e : Event) → IsAskable own → bare_line own words ≡ Ok e → IsAskable e
unfolding bare_line
bare_askable own [] e f h = let same : own ≡ e = cc in subst IsAskable same f
bare_askable own (a ∷ more) e f h = absurd (cc)

deliver_askable : (words : List (List ℕ)) (e : Event) → deliver_line words ≡ Ok e → IsAskable e
unfolding deliver_line
deliver_askable (packet ∷ []) e h =
    let t = one_number (packet_number packet) event.Deliver e h in
    let a = in_range 1 (2 ^ 32 - 1) packet t.0 t.1 in
    subst IsAskable t.2 (a.0, omega (arith, a.1))
deliver_askable [] e h = absurd (cc)
deliver_askable (a ∷ b ∷ more) e h = absurd (cc)

flip_askable : (words : List (List ℕ)) (e : Event) → flip_line words ≡ Ok e → IsAskable e
unfolding flip_line
flip_askable (packet ∷ bit ∷ []) e h =
    let t = two_numbers (packet_number packet) (long_number bit) event.Flip e h in
    let a = in_range 1 (2 ^ 32 - 1) packet t.0 t.2 in
    let b = in_range 0 (2 ^ 32 - 1) bit t.1 t.3 in
    subst IsAskable t.4 ((a.0, omega (arith, a.1)), omega (arith, b.1))
flip_askable [] e h = absurd (cc)
flip_askable (a ∷ []) e h = absurd (cc)
flip_askable (a ∷ b ∷ c ∷ more) e h = absurd (cc)

window_range : (words : List (List ℕ)) (m : ℕ × ℕ) → client_and_window words ≡ Ok m → ((1 ≤ m.0) × (m.0 ≤ 16)) × (m.1 < 2 ^ 16)
unfolding client_and_window
window_range (client ∷ room ∷ []) m h =
    let t = two_numbers (client_number client) (window room) (λ a b. (a, b)) m h in
    let a = in_range 1 16 client t.0 t.2 in
    let b = in_range 0 65535 room t.1 t.3 in
    subst (λ x. ((1 ≤ x.0) × (x.0 ≤ 16)) × (x.1 < 2 ^ 16)) t.4 (a, omega (arith, b.1))
window_range [] m h = absurd (cc)
window_range (a ∷ []) m h = absurd (cc)
window_range (a ∷ b ∷ c ∷ more) m h = absurd (cc)

send_askable : (words : List (List ℕ)) (e : Event) → send_line words ≡ Ok e → IsAskable e
unfolding send_line
send_askable (client ∷ from ∷ len ∷ []) e h =
    let f = bind_ok (client_number client) (λ c. long_number from >>= λ x. long_number len >>= λ y. Ok (event.Send c x y)) e h in
    let t = two_numbers (long_number from) (long_number len) (event.Send f.0) e f.2 in
    let a = in_range 1 16 client f.0 f.1 in
    let b = in_range 0 (2 ^ 32 - 1) from t.0 t.2 in
    let c = in_range 0 (2 ^ 32 - 1) len t.1 t.3 in
    subst IsAskable t.4 (a, omega (arith, b.1), omega (arith, c.1))
send_askable [] e h = absurd (cc)
send_askable (a ∷ []) e h = absurd (cc)
send_askable (a ∷ b ∷ []) e h = absurd (cc)
send_askable (a ∷ b ∷ c ∷ d ∷ more) e h = absurd (cc)

alone_range : (words : List (List ℕ)) (n : ℕ) → client_alone words ≡ Ok n → (1 ≤ n) × (n ≤ 16)
unfolding client_alone
alone_range (client ∷ []) n h = in_range 1 16 client n h
alone_range [] n h = absurd (cc)
alone_range (a ∷ b ∷ more) n h = absurd (cc)

stop_askable : (words : List (List ℕ)) (e : Event) → stop_line words ≡ Ok e → IsAskable e
unfolding stop_line
stop_askable (part ∷ []) e h =
    let t = one_number (part_number part) event.Stop e h in
    let a = in_range 1 2 part t.0 t.1 in
    subst IsAskable t.2 a
stop_askable [] e h = absurd (cc)
stop_askable (a ∷ b ∷ more) e h = absurd (cc)

event_askable : (v : Verb) (words : List (List ℕ)) (e : Event) → event_line v words ≡ Ok e → IsAskable e
event_askable verb.Boot words e h = boot_askable words e h
event_askable verb.Crash words e h = bare_askable event.Crash words e tt h
event_askable verb.Tick words e h = bare_askable event.Tick words e tt h
event_askable verb.Deliver words e h = deliver_askable words e h
event_askable verb.Flip words e h = flip_askable words e h
event_askable verb.Open words e h =
    let b = bind_ok (client_and_window words) (λ m. Ok (event.Begin m.0 m.1)) e h in
    let same : event.Begin b.0.0 b.0.1 ≡ e = cc b.2 in subst IsAskable same (window_range words b.0 b.1)
event_askable verb.Send words e h = send_askable words e h
event_askable verb.Fin words e h =
    let b = bind_ok (client_alone words) (λ c. Ok (event.Fin c)) e h in
    let same : event.Fin b.0 ≡ e = cc b.2 in subst IsAskable same (alone_range words b.0 b.1)
event_askable verb.Ack words e h =
    let b = bind_ok (client_and_window words) (λ m. Ok (event.Ack m.0 m.1)) e h in
    let same : event.Ack b.0.0 b.0.1 ≡ e = cc b.2 in subst IsAskable same (window_range words b.0 b.1)
event_askable verb.Reset words e h =
    let b = bind_ok (client_alone words) (λ c. Ok (event.Reset c)) e h in
    let same : event.Reset b.0 ≡ e = cc b.2 in subst IsAskable same (alone_range words b.0 b.1)
event_askable verb.Stop words e h = stop_askable words e h

says_event : (draft : Draft) (k : Keyword) (words : List (List ℕ)) (e : Event) → line_from draft k words ≡ Ok (line.Event e) → IsAskable e
says_event draft keyword.Service words e h = let b = bind_ok (service_line words) (λ kind. Ok (line.Service kind)) (line.Event e) h in absurd (cc b.2)
says_event draft keyword.Server words e h = let b = bind_ok (server_line words) (λ addr. Ok (line.Server addr)) (line.Event e) h in absurd (cc b.2)
says_event draft keyword.Profile words e h = let b = bind_ok (profile_line words) (λ profile. Ok (line.Profile profile)) (line.Event e) h in absurd (cc b.2)
says_event draft keyword.Twin words e h = absurd (bare_says line.Twin words (line.Event e) (λ f. cc) h)
says_event draft keyword.Marks words e h = let b = bind_ok (marks_line words) (λ every. Ok (line.Marks every)) (line.Event e) h in absurd (cc b.2)
says_event draft keyword.Lasting words e h = let b = bind_ok (lasting_line words) (λ waits. Ok (line.Lasting waits)) (line.Event e) h in absurd (cc b.2)
says_event draft keyword.Client words e h = let b = bind_ok (client_line draft words) (λ client. Ok (line.Client client)) (line.Event e) h in absurd (cc b.2)
says_event draft (keyword.Event v) words e h =
    let b = bind_ok (event_line v words) (λ x. Ok (line.Event x)) (line.Event e) h in
    let same : b.0 ≡ e = cc b.2 in subst IsAskable same (event_askable v words b.0 b.1)

provided : {A : Type 0} (b : Bool) (d : LineWhy) (r : Result A LineWhy) (x : A) → cond b r (Err d) ≡ Ok x → r ≡ Ok x
provided true d r x e = e
provided false d r x e = absurd (cc)

-- what an accepted line says, its words say
words_say : (draft : Draft) (words : List (List ℕ)) (l : Line) → line_of_words draft words ≡ Ok l → (k : Keyword) × (behind : List (List ℕ)) × (line_from draft k behind ≡ Ok l)
unfolding line_behind
words_say draft [] l e = absurd (cc)
words_say draft (word ∷ words) l e =
    let at = bind_ok (ok_or (keyword_of word) why.Word) (λ k. line_behind draft k words) l e in
    let named = unless (is_misnamed at.0 words) why.Word (cond (may_stand draft at.0 words) (line_from draft at.0 words) (Err why.Place)) l at.2 in
    (at.0, words, provided (may_stand draft at.0 words) why.Place (line_from draft at.0 words) l named.1)

pub line_says : (draft : Draft) (text : List ℕ) (l : Line) → line_of draft text ≡ Ok l → (k : Keyword) × (behind : List (List ℕ)) × (line_from draft k behind ≡ Ok l)
unfolding line_of
line_says draft text l e = words_say draft (words_of text) l (provided (is_printable text) why.Character (line_of_words draft (words_of text)) l e)

pub askable_of : (draft : Draft) (text : List ℕ) (e : Event) → line_of draft text ≡ Ok (line.Event e) → IsAskable e
askable_of draft text e h = let s = line_says draft text (line.Event e) h in says_event draft s.0 s.1 e s.2

pub fits_of : (e : Event) → IsAskable e → FitsEvent e
fits_of (event.Boot boot isn) h = (h.1, omega (arith, h.2))
fits_of event.Crash h = tt
fits_of event.Tick h = tt
fits_of (event.Deliver packet) h = omega (arith, h.1)
fits_of (event.Flip packet bit) h = (omega (arith, h.0.1), omega (arith, h.1))
fits_of (event.Begin client window) h = (omega (arith, h.0.1), h.1)
fits_of (event.Send client from len) h = (omega (arith, h.0.1), omega (arith, h.1), omega (arith, h.2))
fits_of (event.Fin client) h = omega (arith, h.1)
fits_of (event.Ack client window) h = (omega (arith, h.0.1), h.1)
fits_of (event.Reset client) h = omega (arith, h.1)
fits_of (event.Stop part) h = omega (arith, h.1)
