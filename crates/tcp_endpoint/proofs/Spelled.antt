-- What goes out, as lists of packets.
use Rattle.std.proofs.Common.{◌≡◌, ℕ, ◌<◌, ◌≤◌, ◌+◌, ◌-◌, zero, suc, Bool, true, false, min, List, [], ◌∷◌, ◌++◌, length, refl, sym, ap, subst, arith, ◌∙◌, append_assoc, append-nil}
use Rattle.std.specs.Prelude.{if◌then◌else◌, nat_lt, ◌==◌, ◌&&◌}
use Rattle.std.proofs.lemmas.Bool.{false≢true}
use Rattle.std.proofs.lemmas.List.{map-append}
use Rattle.seq_arith.specs.Packet.{Segment}
use Rattle.seq_arith.specs.PacketGrammar.{packet_length, spelling}
use Rattle.seq_arith.proofs.Spelling.{size}
use Rattle.tcp_endpoint.specs.Packets.{byte_count, IsReadable, AreReadable}
use Rattle.tcp_endpoint.specs.Tcb.{Tcb}
use Rattle.tcp_endpoint.specs.Output.{text_at, texts, reset_reply_out, retransmission_out, probe_out, with_probe, text_out, with_text_sent, fin_out, full_out, after_full, is_ack_pending, bare_segment, leaving, packets, or_bare}

pub byte_count_push : (ps : List (List ℕ)) (p : List ℕ) → byte_count (ps ++ p ∷ []) ≡ byte_count ps + length p
byte_count_push [] p = omega arith
byte_count_push (q ∷ ps) p = omega (arith, byte_count_push ps p)

pub spelled_bytes : (ps : List (List ℕ)) (segment : Segment) → byte_count (ps ++ spelling segment ∷ []) ≡ byte_count ps + packet_length segment
spelled_bytes ps segment = byte_count_push ps (spelling segment) ∙ ap (λ n. byte_count ps + n) (size segment)

pub packets_one : (segment : Segment) → packets (segment ∷ []) ≡ spelling segment ∷ []
unfolding packets
packets_one segment = refl

pub nothing_more : (out : List (List ℕ)) → out ++ packets [] ≡ out
unfolding packets
nothing_more out = append-nil out

packets_append : (xs ys : List Segment) → packets (xs ++ ys) ≡ packets xs ++ packets ys
unfolding packets
packets_append xs ys = map-append spelling xs ys

pub packets_of_five : (a b c d f : List Segment) → packets (a ++ b ++ c ++ d ++ f) ≡ packets a ++ packets b ++ packets c ++ packets d ++ packets f
packets_of_five a b c d f = simp packets_append

pub packets_or : (ack_pending : Bool) (bare : Segment) (full : List Segment) → packets (or_bare ack_pending bare full) ≡ or_bare ack_pending (spelling bare) (packets full)
unfolding packets
packets_or true bare [] = refl
packets_or false bare [] = refl
packets_or ack_pending bare (segment ∷ segments) = refl

-- a piece of text is not longer than what is left, and not empty
piece_some : (mss left : ℕ) → 0 < mss → 0 < left → 0 < min left mss
piece_some mss left m l = grind arith

step : (b : Bool) (x : Segment) (xs ys : List Segment) → (b ≡ true → xs ≡ ys) → (if b then x ∷ xs else []) ≡ (if b then x ∷ ys else [])
step true x xs ys same = ap (λ zs. x ∷ zs) (same refl)
step false x xs ys same = refl

-- any fuel that suffices gives the same segments
enough : (j k : ℕ) (e : Tcb) (place left : ℕ) → 0 < e.sending.mss → left ≤ j → left ≤ k → texts j e place left ≡ texts k e place left
unfolding texts
enough zero zero e place left m p q = refl
enough zero (suc k) e place left m p q = let none : left ≡ 0 = omega arith in rw none refl
enough (suc j) zero e place left m p q = let none : left ≡ 0 = omega arith in rw none refl
enough (suc j) (suc k) e place left m p q =
    step (nat_lt 0 left) (text_at e place (min left e.sending.mss)) _ _
    (λ some. enough j k e (place + min left e.sending.mss) (left - min left e.sending.mss) m (grind arith) (grind arith))

-- the first segment of a text, and the rest
texts_begin : (e : Tcb) (place left : ℕ) → 0 < e.sending.mss → 0 < left
    → texts left e place left
    ≡ text_at e place (min left e.sending.mss) ∷ texts (left - min left e.sending.mss) e (place + min left e.sending.mss) (left - min left e.sending.mss)
unfolding texts
texts_begin e place zero m some = absurd (omega arith)
texts_begin e place (suc left) m some =
    let rest : texts left e (place + min (suc left) e.sending.mss) (suc left - min (suc left) e.sending.mss)
    ≡ texts (suc left - min (suc left) e.sending.mss) e (place + min (suc left) e.sending.mss) (suc left - min (suc left) e.sending.mss) =
    enough left (suc left - min (suc left) e.sending.mss) e _ _ m (grind arith) (omega arith)
    in let test : nat_lt 0 (suc left) ≡ true = grind arith
    in rw (test, rest) refl

packets_begin : (first : Segment) (rest : List Segment) → packets (first ∷ rest) ≡ spelling first ∷ packets rest
unfolding packets
packets_begin first rest = refl

pub texts_end : (k : ℕ) (e : Tcb) (place : ℕ) → packets (texts k e place 0) ≡ []
unfolding texts packets
texts_end zero e place = refl
texts_end (suc k) e place = refl

-- what the steps of a flush put out is what leaves
pub leaving_is : (e : Tcb)
    → or_bare (is_ack_pending (after_full e)) (spelling (bare_segment (after_full e)))
    (packets (reset_reply_out e) ++ packets (retransmission_out e) ++ packets (probe_out e) ++ packets (text_out (with_probe e)) ++ packets (fin_out (with_text_sent (with_probe e))))
    ≡ packets (leaving e)
unfolding leaving full_out
leaving_is e =
    ap (or_bare (is_ack_pending (after_full e)) (spelling (bare_segment (after_full e))))
    (sym (packets_of_five (reset_reply_out e) (retransmission_out e) (probe_out e) (text_out (with_probe e)) (fin_out (with_text_sent (with_probe e)))))
    ∙ sym (packets_or (is_ack_pending (after_full e)) (bare_segment (after_full e)) (full_out e))

pub packets_none : packets [] ≡ []
unfolding packets
packets_none = refl

-- a segment that is put out is the first of what was left
pub texts_step : (e : Tcb) (out after whole : List (List ℕ)) (place left n : ℕ) → 0 < e.sending.mss → 0 < left → n ≡ min left e.sending.mss
    → after ≡ out ++ spelling (text_at e place n) ∷ [] → out ++ packets (texts left e place left) ≡ whole
    → after ++ packets (texts (left - n) e (place + n) (left - n)) ≡ whole
texts_step e out after whole place left n m some is put before =
    let begins : packets (texts left e place left) ≡ spelling (text_at e place n) ∷ packets (texts (left - n) e (place + n) (left - n)) =
    rw is (ap packets (texts_begin e place left m some) ∙ packets_begin _ _)
    in ap (λ ps. ps ++ packets (texts (left - n) e (place + n) (left - n))) put
    ∙ append_assoc out (spelling (text_at e place n) ∷ []) (packets (texts (left - n) e (place + n) (left - n)))
    ∙ ap (λ ps. out ++ ps) (sym begins)
    ∙ before

-- with nothing left, all is out
pub texts_done : (e : Tcb) (out whole : List (List ℕ)) (place left : ℕ) → left ≡ 0 → out ++ packets (texts left e place left) ≡ whole → out ≡ whole
texts_done e out whole place left none before =
    sym (append-nil out) ∙ ap (λ ps. out ++ ps) (sym (rw none (texts_end 0 e place))) ∙ before

-- a text is readable where its first segment and the rest are
pub text_readable : (e : Tcb) (place left n : ℕ) → 0 < e.sending.mss → 0 < left → n ≡ min left e.sending.mss
    → IsReadable (text_at e place n) → AreReadable (texts (left - n) e (place + n) (left - n)) → AreReadable (texts left e place left)
text_readable e place left n m some is first rest =
    let begins : texts left e place left ≡ text_at e place n ∷ texts (left - n) e (place + n) (left - n) = rw is (texts_begin e place left m some)
    in subst AreReadable (sym begins) (first, rest)

pub no_text_readable : (e : Tcb) (place left : ℕ) → left ≡ 0 → AreReadable (texts left e place left)
unfolding texts
no_text_readable e place zero none = tt
no_text_readable e place (suc left) none = absurd (omega arith)

pub all_readable : (xs ys : List Segment) → AreReadable xs → AreReadable ys → AreReadable (xs ++ ys)
all_readable [] ys h g = g
all_readable (x ∷ xs) ys h g = (h.0, all_readable xs ys h.1 g)

-- a segment without data goes out alone
pub bare_readable : (bare : Segment) (ack_pending : Bool) (full : List Segment) → IsReadable bare → AreReadable full → AreReadable (or_bare ack_pending bare full)
bare_readable bare true [] first all = (first, tt)
bare_readable bare false [] first all = tt
bare_readable bare ack_pending (segment ∷ segments) first all = all

-- or not at all, where it isn't owed or another goes out
pub unsent_readable : (bare : Segment) (ack_pending : Bool) (full : List Segment) → ((length (packets full) == 0) && ack_pending) ≡ false → AreReadable full → AreReadable (or_bare ack_pending bare full)
unfolding packets
unsent_readable bare true [] none all = absurd (false≢true (sym none))
unsent_readable bare false [] none all = tt
unsent_readable bare ack_pending (segment ∷ segments) none all = all

pub full_readable : (e : Tcb) → AreReadable (reset_reply_out e) → AreReadable (retransmission_out e) → AreReadable (probe_out e) → AreReadable (text_out (with_probe e))
    → AreReadable (fin_out (with_text_sent (with_probe e))) → AreReadable (full_out e)
unfolding full_out
full_readable e reset_reply retransmission_due probe text fin =
    all_readable (reset_reply_out e ++ retransmission_out e ++ probe_out e ++ text_out (with_probe e)) (fin_out (with_text_sent (with_probe e)))
    (all_readable (reset_reply_out e ++ retransmission_out e ++ probe_out e) (text_out (with_probe e))
    (all_readable (reset_reply_out e ++ retransmission_out e) (probe_out e) (all_readable (reset_reply_out e) (retransmission_out e) reset_reply retransmission_due) probe) text) fin

pub packets_full : (e : Tcb)
    → packets (reset_reply_out e) ++ packets (retransmission_out e) ++ packets (probe_out e) ++ packets (text_out (with_probe e)) ++ packets (fin_out (with_text_sent (with_probe e))) ≡ packets (full_out e)
unfolding full_out
packets_full e = sym (packets_of_five (reset_reply_out e) (retransmission_out e) (probe_out e) (text_out (with_probe e)) (fin_out (with_text_sent (with_probe e))))

pub leaving_readable : (e after : Tcb) → after ≡ after_full e → AreReadable (or_bare (is_ack_pending after) (bare_segment after) (full_out e)) → AreReadable (leaving e)
unfolding leaving
leaving_readable e after is h = subst (λ (f : Tcb). AreReadable (or_bare (is_ack_pending f) (bare_segment f) (full_out e))) is h
