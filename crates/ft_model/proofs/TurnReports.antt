-- Every turn of a live connection tells its client what is taken and logged, or has nothing new to tell; and it leaves no read to make.
use Rattle.std.proofs.Common.{◌≡◌, ℕ, zero, suc, ◌+◌, ◌-◌, ◌≤◌, Bool, true, false, not, nat_lt, min, ◌==◌, ◌||◌, refl, sym, ap, ap₂, ◌∙◌, subst, true≢false, ◌⊎◌, inl, inr, ⊎_elim, ◌&&◌, is_none, length, None, List, [], ◌∷◌, ◌++◌, map, arith, append-nil, append_assoc, if◌then◌else◌}
use Rattle.std.specs.List.{AllByRecursion, list_any}
use Rattle.ft_io.specs.declared.Addr.{Addr}
use Rattle.seq_arith.specs.Number.{number_at}
use Rattle.seq_arith.specs.Packet.{Segment}
use Rattle.seq_arith.specs.Message.{Body}
use Rattle.server_trait.specs.Service.{Machine}
use Rattle.ft_model.specs.Network.{Packet}
use Rattle.ft_model.specs.Network.Packet.{To_client}
use Rattle.ft_model.specs.News.{News}
use Rattle.ft_model.specs.News.News.{Logged, Begins}
use Rattle.ft_model.specs.Point.{Point, taken_units, acknowledgement, advertised_edge, window, answered_run, released}
use Rattle.ft_model.specs.Answered.{answered_after}
use Rattle.ft_model.specs.Reads.{Makes, next_read, with_read}
use Rattle.ft_model.specs.PendingAck.{is_ack_pending, is_ack_due, is_delayed, is_segment as is_by_segment, asks}
use Rattle.ft_model.specs.Segments.{new_length, texts, syn_acks, syn_ack, opens_with, fin_if_closed, first_unacknowledged, probe, probed_length, is_unacknowledged, resent, new_texts, sends_fin, new_fin, full_segments, or_bare, bare_segment, segments_of, text_at, fin_segment}
use Rattle.ft_model.specs.Copy.{copies}
use Rattle.ft_model.specs.Reads.{reads_reported}
use Rattle.ft_model.specs.ResetAndEnd.{dones}
use Rattle.ft_model.specs.Sending.{resends}
use Rattle.ft_model.specs.Timer.{expires}
use Rattle.ft_model.specs.Acknowledgement.{is_segment, Reports, IsReported}
use Rattle.ft_model.specs.Connection.{LiveTurn, reported_by}
use Rattle.ft_model.proofs.Lists.{all_append}
use Rattle.ft_io.proofs.Choices.{holds_either_way}

-- a segment tells the point
abbrev ReportsIn : Point → Segment → Type 0
ReportsIn p segment = (segment.head.ack ≡ number_at p.cisn (acknowledgement p)) × (segment.head.window ≡ window p)

one_or_none : {A : Type 0} (P : A → Type 0) (b : Bool) (x : A) → P x → AllByRecursion P (if b then x ∷ [] else [])
one_or_none P true x h = (h, tt)
one_or_none P false x h = tt

texts_report : {State : Type 0} (service : Machine State) (server : Addr) (p : Point) (k offset left : ℕ) → AllByRecursion (ReportsIn p) (texts service server p k offset left)
texts_report service server p zero offset left = tt
texts_report service server p (suc k) offset left =
    holds_either_way (AllByRecursion (ReportsIn p)) (nat_lt 0 left)
    (text_at service server p offset (min left p.mss) ∷ texts service server p k (offset + min left p.mss) (left - min left p.mss)) []
    ((refl, refl), texts_report service server p k (offset + min left p.mss) (left - min left p.mss)) tt

fin_reports : {State : Type 0} (service : Machine State) (server : Addr) (p : Point) → AllByRecursion (ReportsIn p) (fin_if_closed service server p)
fin_reports service server p = one_or_none (ReportsIn p) (answered_run service p).closed (fin_segment service server p) (refl, refl)

first_reports : {State : Type 0} (service : Machine State) (server : Addr) (before after : Point) → AllByRecursion (ReportsIn after) (first_unacknowledged service server before after)
first_reports service server before after =
    let All : List Segment → Type 0 = AllByRecursion (ReportsIn after) in
    holds_either_way All (not after.syn_acked) _ _ ((refl, refl), tt) (holds_either_way All (after.una == _) _ _ (fin_reports service server after) ((refl, refl), tt))

probe_reports : {State : Type 0} (service : Machine State) (server : Addr) (before after : Point) → AllByRecursion (ReportsIn after) (probe service server before after)
probe_reports service server before after =
    holds_either_way (AllByRecursion (ReportsIn after)) (nat_lt before.sent (released service after)) (text_at service server after before.sent probed_length ∷ []) (fin_if_closed service server after)
    ((refl, refl), tt) (fin_reports service server after)

or_bare_reports : (p : Point) (ack_pending : Bool) (bare : Segment) (segments : List Segment) → ReportsIn p bare → AllByRecursion (ReportsIn p) segments
    → AllByRecursion (ReportsIn p) (or_bare ack_pending bare segments)
or_bare_reports p ack_pending bare [] b all = one_or_none (ReportsIn p) ack_pending bare b
or_bare_reports p ack_pending bare (segment ∷ segments) b all = all

segments_report : {State : Type 0} (service : Machine State) (server : Addr) (news : News) (before after : Point) → AllByRecursion (ReportsIn after) (segments_of service server news before after)
unfolding segments_of full_segments resent new_texts new_fin
segments_report service server news before after =
    let syns : AllByRecursion (ReportsIn after) (syn_acks server news before after) = one_or_none (ReportsIn after) (opens_with news before) (syn_ack server after) (refl, refl) in
    let All : List Segment → Type 0 = AllByRecursion (ReportsIn after) in
    let again : All (resent service server news before after) =
    holds_either_way All (expires news before || resends news before) _ []
    (holds_either_way All (is_unacknowledged before after) (first_unacknowledged service server before after) (probe service server before after)
    (first_reports service server before after) (probe_reports service server before after)) tt in
    let fresh : AllByRecursion (ReportsIn after) (new_texts service server before after) =
    texts_report service server after (new_length service before after) before.sent (new_length service before after) in
    let last : All (new_fin service server before after) =
    holds_either_way All (sends_fin service before after) (fin_if_closed service server after) [] (fin_reports service server after) tt in
    or_bare_reports after (is_ack_pending service news before after) (bare_segment server after) (full_segments service server news before after) (refl, refl)
    (all_append (ReportsIn after) (syn_acks server news before after) _ syns
    (all_append (ReportsIn after) (resent service server news before after) _ again
    (all_append (ReportsIn after) (new_texts service server before after) (new_fin service server before after) fresh last)))

messages_report : (boot : ℕ) (p : Point) (bodies : List Body) → AllByRecursion (Reports p) (map (reported_by boot) bodies)
messages_report boot p [] = tt
messages_report boot p (body ∷ bodies) = (tt, messages_report boot p bodies)

clients_report : (p : Point) (segments : List Segment) → AllByRecursion (ReportsIn p) segments → AllByRecursion (Reports p) (map To_client segments)
clients_report p [] a = tt
clients_report p (segment ∷ segments) a = (a.0, clients_report p segments a.1)

none_sent : (segments : List Segment) (others : List Packet) → list_any is_segment (map To_client segments ++ others) ≡ false → segments ≡ []
none_sent [] others e = refl
none_sent (segment ∷ segments) others e = absurd (true≢false e)

no_ack_pending : (ack_pending : Bool) (bare : Segment) (segments : List Segment) → or_bare ack_pending bare segments ≡ [] → ack_pending ≡ false
no_ack_pending true bare [] e = ap (λ xs. list_any (λ x. true) xs) e
no_ack_pending false bare [] e = refl
no_ack_pending ack_pending bare (segment ∷ segments) e = absurd (true≢false (ap (λ xs. list_any (λ x. true) xs) e))

nothing_pending : (a b c d : Bool) → (a || b || not c || not d) ≡ false → (b ≡ false) × (c ≡ true) × (d ≡ true)
nothing_pending false false true true e = (refl, refl, refl)
nothing_pending true _ _ _ e = absurd (true≢false e)
nothing_pending false true _ _ e = absurd (true≢false e)
nothing_pending false false false _ e = absurd (true≢false e)
nothing_pending false false true false e = absurd (true≢false e)

answered_grows : (news : News) (p : Point) → p.answered ≤ answered_after news p
unfolding answered_after
answered_grows (Logged kept) p = omega arith
answered_grows _ p = omega arith

both_true : (f g : Bool) → (f && g) ≡ true → (f ≡ true) × (g ≡ true)
both_true true true h = (refl, refl)
both_true false _ h = absurd (true≢false (sym h))
both_true true false h = absurd (true≢false (sym h))

-- an ACK that isn't pending is not due, or waits
due_or_delayed : (due delayed : Bool) → (not delayed && due) ≡ false → (due ≡ false) ⊎ (delayed ≡ true)
due_or_delayed false delayed e = inl refl
due_or_delayed true true e = inr refl
due_or_delayed true false e = absurd (true≢false e)

-- of an ACK that waits, acknowledgement and window are those of before
last_two : (a b c d e f g : Bool) → (a && b && c && d && e && f && g) ≡ true → (f ≡ true) × (g ≡ true)
last_two true true true true true f g h = both_true f g h
last_two false _ _ _ _ _ _ h = absurd (true≢false (sym h))
last_two true false _ _ _ _ _ h = absurd (true≢false (sym h))
last_two true true false _ _ _ _ h = absurd (true≢false (sym h))
last_two true true true false _ _ _ h = absurd (true≢false (sym h))
last_two true true true true false _ _ h = absurd (true≢false (sym h))

delayed_repeats : (news : News) (before after : Point) → is_delayed news before after ≡ true → (acknowledgement after ≡ acknowledgement before) × (window after ≡ window before)
unfolding is_delayed
delayed_repeats news before after d =
    let parts = last_two before.delays (is_by_segment news) (nat_lt (taken_units before) (taken_units after)) (length after.early.text == 0) (is_none after.early.fin)
    (acknowledgement before == acknowledgement after) (window before == window after) d in
    (grind (arith, parts.0), grind (arith, parts.1))

pub reported : {State : Type 0} (service : Machine State) (server : Addr) (boot : ℕ) (news : News) (before after : Point) (sent : List Packet)
    → LiveTurn service server boot news before after sent → IsReported before after sent
unfolding segments_of is_ack_pending is_ack_due
reported service server boot news before after sent t =
    let bodies : List Body = copies news before after ++ (reads_reported news before after ++ dones news before after) in
    let segments : List Segment = segments_of service server news before after in
    record {
      all = subst (AllByRecursion (Reports after)) (sym t.packets)
          (all_append (Reports after) (map To_client segments) (map (reported_by boot) bodies)
          (clients_report after segments (segments_report service server news before after)) (messages_report boot after bodies));
      silent = λ e.
          let none : segments ≡ [] = none_sent segments (map (reported_by boot) bodies) (sym (ap (list_any is_segment) t.packets) ∙ e) in
          let quiet : is_ack_pending service news before after ≡ false =
          no_ack_pending (is_ack_pending service news before after) (bare_segment server after) (full_segments service server news before after) none in
          ⊎_elim (λ undue.
          let parts = nothing_pending (asks service news before) (nat_lt before.answered after.answered) (taken_units before == taken_units after) (advertised_edge before == advertised_edge after) undue in
          let grew : before.answered ≤ after.answered = subst (λ n. before.answered ≤ n) (sym t.answered) (answered_grows news before) in
          let fell : after.answered ≤ before.answered = grind (arith, parts) in
          let answered : after.answered ≡ before.answered = omega (arith, grew, fell) in
          let units : taken_units after ≡ taken_units before = grind (arith, parts) in
          let edge : advertised_edge after ≡ advertised_edge before = grind (arith, parts) in
          let ack : acknowledgement after ≡ acknowledgement before = ap₂ min units answered in
          (ack, ap₂ (λ x y. min 65535 (x - y)) edge ack)) (delayed_repeats news before after)
          (due_or_delayed (is_ack_due service news before after) (is_delayed news before after) quiet);
    }

-- when these reads are made there is none left
none_left : {State : Type 0} (service : Machine State) (p : Point) (ns : List ℕ) → Makes service p ns → next_read service (record p { lengths = p.lengths ++ ns }) ≡ None
none_left service p [] m = subst (λ ns. next_read service (record p { lengths = ns }) ≡ None) (sym (append-nil p.lengths)) m
none_left service p (n ∷ ns) m =
    subst (λ ls. next_read service (record p { lengths = ls }) ≡ None) (append_assoc p.lengths (n ∷ []) ns) (none_left service (with_read n p) ns m.1)

pub settled_reads : {State : Type 0} (service : Machine State) (server : Addr) (boot : ℕ) (news : News) (before after : Point) (sent : List Packet)
    → LiveTurn service server boot news before after sent → next_read service after ≡ None
settled_reads service server boot news before after sent t =
    subst (λ ns. next_read service (record after { lengths = ns }) ≡ None) (sym t.reads.lengths)
    (none_left service (record after { lengths = before.lengths }) t.reads.news t.reads.makes)

some_sent : (pending : Bool) (bare : Segment) (segments : List Segment) (others : List Packet) → pending ≡ true
    → list_any is_segment (map To_client (or_bare pending bare segments) ++ others) ≡ true
some_sent true bare [] others e = refl
some_sent false bare [] others e = absurd (true≢false (sym e))
some_sent pending bare (segment ∷ segments) others e = refl

-- only what a segment brings is delayed
never_delayed : (delays more text fin ack edge : Bool) → (not (delays && false && more && text && fin && ack && edge) && true) ≡ true
never_delayed true more text fin ack edge = refl
never_delayed false more text fin ack edge = refl

pub begins_reported : {State : Type 0} (service : Machine State) (server : Addr) (boot : ℕ) (before after : Point) (sent : List Packet)
    → LiveTurn service server boot Begins before after sent → list_any is_segment sent ≡ true
unfolding segments_of is_ack_pending is_ack_due is_delayed
begins_reported service server boot before after sent t =
    let bodies : List Body = copies Begins before after ++ (reads_reported Begins before after ++ dones Begins before after) in
    ap (list_any is_segment) t.packets
    ∙ some_sent (is_ack_pending service Begins before after) (bare_segment server after) (full_segments service server Begins before after) (map (reported_by boot) bodies)
    (never_delayed before.delays (nat_lt (taken_units before) (taken_units after)) (length after.early.text == 0) (is_none after.early.fin)
    (acknowledgement before == acknowledgement after) (window before == window after))
