-- A turn of one live connection is determined by its point and its news.
use Rattle.std.proofs.Common.{◌≡◌, ℕ, refl, sym, ap, ap₂, ◌∙◌, subst, true≢false, Option, Some, None, is_none, unwrap_or, List, [], ◌∷◌, ◌++◌}
use Rattle.ft_io.specs.declared.Addr.{Addr}
use Rattle.server_trait.specs.Service.{Machine}
use Rattle.ft_model.specs.Network.{Packet}
use Rattle.ft_model.specs.News.{News}
use Rattle.ft_model.specs.Point.{Point}
use Rattle.ft_model.specs.Reads.{Makes, next_read, with_read}
use Rattle.ft_model.specs.Timer.{timing_noted, interval_after, rest_after, must_run}
use Rattle.ft_model.specs.Sending.{sent_at_once, sent_after, timing_after}
use Rattle.ft_model.specs.ResetAndEnd.{end_ticks_after}
use Rattle.ft_model.specs.Connection.{LiveTurn, sent_by}
use Rattle.ft_model.proofs.Settled.{noted, settled, makes_alike}

noted_is : {State : Type 0} (service : Machine State) (server : Addr) (boot : ℕ) (news : News) (p q : Point) (sent : List Packet)
    → LiveTurn service server boot news p q sent → q ≡ noted news p q.lengths q.sent q.timing q.interval q.rest q.end_ticks
noted_is service server boot news p q sent t =
    let e : record { key = q.key; cisn = q.cisn; sisn = q.sisn; mss = q.mss; fetched = q.fetched; fetched_output = q.fetched_output; taken = q.taken; fin = q.fin; early = q.early; answered = q.answered; lengths = q.lengths; reads_answered = q.reads_answered; una = q.una; sent = q.sent; edge = q.edge; wl1 = q.wl1; wl2 = q.wl2; congestion = q.congestion; syn_acked = q.syn_acked; timing = q.timing; timestamping = q.timestamping; delays = q.delays; batches = q.batches; interval = q.interval; rest = q.rest; end_ticks = q.end_ticks; reset = q.reset }
    ≡ noted news p q.lengths q.sent q.timing q.interval q.rest q.end_ticks =
    cc (t.same.key, t.same.cisn, t.same.sisn, t.same.mss, t.same.fetched, t.same.fetched_output, t.same.delays, t.same.batches, t.taken, t.fin, t.early, t.answered, t.reads_answered, t.una, t.edge, t.wl1, t.wl2, t.congestion, t.syn_acked, t.timestamping, t.reset)
    in e

-- none, and some: never both
none_or_some : {P : Type 0} (o : Option ℕ) (n : ℕ) → o ≡ None → o ≡ Some n → P
none_or_some o n a b = absurd (true≢false (sym (ap is_none a) ∙ ap is_none b))

same_value : (o : Option ℕ) (n m : ℕ) → o ≡ Some n → o ≡ Some m → n ≡ m
same_value o n m a b = sym (ap (λ x. unwrap_or x 0) a) ∙ ap (λ x. unwrap_or x 0) b

makes_once : {State : Type 0} (service : Machine State) (p : Point) (ns ms : List ℕ) → Makes service p ns → Makes service p ms → ns ≡ ms
makes_once service p [] [] a b = refl
makes_once service p [] (m ∷ ms) a b = none_or_some (next_read service p) m a b.0
makes_once service p (n ∷ ns) [] a b = none_or_some (next_read service p) n b a.0
makes_once service p (n ∷ ns) (m ∷ ms) a b =
    let same : n ≡ m = same_value (next_read service p) n m a.0 b.0 in
    let more : ns ≡ ms = makes_once service (with_read m p) ns ms (subst (λ k. Makes service (with_read k p) ns) same a.1) b.1 in
    ap₂ ◌∷◌ same more

settled_is : {State : Type 0} (service : Machine State) (server : Addr) (boot : ℕ) (news : News) (p q : Point) (sent : List Packet)
    → LiveTurn service server boot news p q sent → q ≡ settled service news p q.lengths
unfolding sent_after sent_at_once timing_noted timing_after interval_after rest_after must_run end_ticks_after
settled_is service server boot news p q sent t =
    let e : q ≡ noted news p q.lengths q.sent q.timing q.interval q.rest q.end_ticks = noted_is service server boot news p q sent t in
    let plain : Point = noted news p q.lengths 0 p.timing 0 0 0 in
    let sent_is : q.sent ≡ sent_after service news p plain = t.sent_units ∙ ap (sent_after service news p) e in
    let timing_is : q.timing ≡ timing_after service news p plain = t.timing ∙ ap (timing_after service news p) e in
    let interval_then : q.interval ≡ interval_after news p (noted news p q.lengths 0 q.timing 0 0 0) = t.interval ∙ ap (interval_after news p) e in
    let interval_is : q.interval ≡ interval_after news p (noted news p q.lengths 0 (timing_after service news p plain) 0 0 0) =
    interval_then ∙ ap (λ x. interval_after news p (noted news p q.lengths 0 x 0 0 0)) timing_is in
    let ticks_are : q.end_ticks ≡ end_ticks_after service news p plain = t.end_ticks ∙ ap (end_ticks_after service news p) e in
    let rest_then : q.rest ≡ rest_after service news p (noted news p q.lengths q.sent q.timing 0 0 0) = t.rest ∙ ap (rest_after service news p) e in
    let rest_is : q.rest ≡ rest_after service news p (noted news p q.lengths (sent_after service news p plain) (timing_after service news p plain) 0 0 0) =
    rest_then ∙ ap₂ (λ n x. rest_after service news p (noted news p q.lengths n x 0 0 0)) sent_is timing_is in
    e ∙ cc (sent_is, timing_is, interval_is, ticks_are, rest_is)

-- the reads of a turn, made from the noted point
plain_reads : {State : Type 0} (service : Machine State) (server : Addr) (boot : ℕ) (news : News) (p q : Point) (sent : List Packet)
    → (t : LiveTurn service server boot news p q sent) → Makes service (noted news p p.lengths 0 p.timing 0 0 0) t.reads.news
plain_reads service server boot news p q sent t =
    makes_alike service news p t.reads.news p.lengths q.sent q.timing q.interval q.rest q.end_ticks 0 p.timing 0 0 0
    (subst (λ x. Makes service (record x { lengths = p.lengths }) t.reads.news) (noted_is service server boot news p q sent t) t.reads.makes)

pub live_once : {State : Type 0} (service : Machine State) (server : Addr) (boot : ℕ) (news : News) (p q r : Point) (sent other : List Packet)
    → LiveTurn service server boot news p q sent → LiveTurn service server boot news p r other → (q ≡ r) × (sent ≡ other)
live_once service server boot news p q r sent other t u =
    let reads : t.reads.news ≡ u.reads.news =
    makes_once service (noted news p p.lengths 0 p.timing 0 0 0) t.reads.news u.reads.news (plain_reads service server boot news p q sent t)
    (plain_reads service server boot news p r other u) in
    let lengths : q.lengths ≡ r.lengths = t.reads.lengths ∙ (ap (λ ns. p.lengths ++ ns) reads ∙ sym u.reads.lengths) in
    let same : q ≡ r =
    settled_is service server boot news p q sent t
    ∙ (ap (settled service news p) lengths ∙ sym (settled_is service server boot news p r other u)) in
    (same, t.packets ∙ (ap (sent_by service server boot news p) same ∙ sym u.packets))
