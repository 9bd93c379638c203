-- After each turn the last acknowledgement sent to a live client is what is both taken and known to be logged.
use Rattle.std.proofs.Common.{◌≡◌, ℕ, Bool, true, false, ◌&&◌, not, refl, sym, ap, ap₂, ◌∙◌, subst, subst₂, true≢false, MatchBool, inl, inr, ◌⊎◌, ⊎_elim, Option, Some, None, List, [], ◌∷◌, ◌++◌, map, if◌then◌else◌}
use Rattle.std.specs.List.{AllByRecursion, list_any}
use Rattle.std.proofs.lemmas.Bool.{and_right, or_parts, or_from}
use Rattle.ft_io.specs.declared.Addr.{Addr}
use Rattle.ft_io.specs.declared.Key.{Key}
use Rattle.ft_io.specs.Key.{key_eq}
use Rattle.seq_arith.specs.Number.{number_at}
use Rattle.seq_arith.specs.Packet.{Segment, has_rst, has_ack}
use Rattle.seq_arith.specs.Message.{Body}
use Rattle.server_trait.specs.Service.{Machine}
use Rattle.ft_model.specs.Network.{Packet, destination_of}
use Rattle.ft_model.specs.Network.Packet.{To_server, To_client, To_logger, From_logger}
use Rattle.ft_model.specs.News.{News}
use Rattle.ft_model.specs.News.News.{Comes, Logged, Ticks, Begins}
use Rattle.ft_model.specs.Point.{Point, acknowledgement}
use Rattle.ft_model.specs.Acknowledgement.{is_segment}
use Rattle.ft_model.specs.ResetAndEnd.{dones, reset_after}
use Rattle.ft_model.specs.Copy.{copies}
use Rattle.ft_model.specs.Reads.{reads_reported}
use Rattle.ft_model.specs.Segments.{segments_of}
use Rattle.ft_model.specs.Connection.{ResetTurn, LiveTurn, ConnectionTurn, reported_by}
use Rattle.ft_model.specs.Opening.{point_opened}
use Rattle.ft_model.specs.Refusal.{as_closed, rst_at_ack, rst_behind, full_rst}
use Rattle.ft_model.specs.Node.{Node, Place, Input, key_of}
use Rattle.ft_model.specs.Node.Place.{Opens, Lives, Ended}
use Rattle.ft_model.specs.ServingTurn.{AllGo}
use Rattle.ft_model.specs.Masked.{reported_to, or_before, last_reported, IsReportedLast}
use Rattle.ft_model.specs.Keys.{AreDistinct, has_key}
use Rattle.ft_model.proofs.Lists.{three_true, all_both, all_weaker, all_append, key_is}
use Rattle.ft_model.proofs.Keys.{key_eq_turns}
use Rattle.ft_model.proofs.PlaceTurns.{PlaceWent}
use Rattle.ft_model.proofs.PlaceTurns.PlaceWent.{stayed, went_on, began, dropped, ended, refused}
use Rattle.ft_model.proofs.Spoken.{Spoken, segments_spoken, IsHeaded, headed}
use Rattle.ft_model.proofs.TurnReports.{reported, begins_reported}
use Rattle.ft_model.proofs.Distinct.{KeepsKey}
use Rattle.ft_io.proofs.Choices.{holds_if}

pub or_none : (o : Option ℕ) → o ≡ or_before o None
or_none (Some a) = refl
or_none None = refl

or_assoc : (a b c : Option ℕ) → or_before (or_before a b) c ≡ or_before a (or_before b c)
or_assoc (Some x) b c = refl
or_assoc None b c = refl

pub last_append : (key : Key) (xs ys : List Packet) → last_reported key (xs ++ ys) ≡ or_before (last_reported key ys) (last_reported key xs)
last_append key [] ys = or_none (last_reported key ys)
last_append key (x ∷ xs) ys = ap (λ o. or_before o (reported_to key x)) (last_append key xs ys) ∙ or_assoc (last_reported key ys) (last_reported key xs) (reported_to key x)

-- nothing is told to this key
abbrev pub IsSilentTo : Key → List Packet → Type 0
IsSilentTo key packets = last_reported key packets ≡ None

-- packets of a connection are silent to every other key
abbrev pub ReportsOnly : Key → List Packet → Type 0
ReportsOnly key packets = (other : Key) → key_eq key other ≡ false → IsSilentTo other packets

-- what one place's turn tells its client
abbrev pub ReportsNow : List Packet → List Packet → Place → Type 0
ReportsNow packets sent (Lives q) = q.reset ≡ false → or_before (last_reported q.key sent) (last_reported q.key packets) ≡ Some (number_at q.cisn (acknowledgement q))
ReportsNow packets sent _ = Unit {0}

-- what was told before
abbrev pub WasReported : List Packet → Place → Type 0
WasReported packets (Lives p) = IsReportedLast packets p
WasReported packets _ = Unit {0}

pub silent_append : (key : Key) (xs ys : List Packet) → IsSilentTo key xs → IsSilentTo key ys → IsSilentTo key (xs ++ ys)
silent_append key xs ys a b = last_append key xs ys ∙ ap₂ or_before b a

pub messages_silent : (key : Key) (boot : ℕ) (bodies : List Body) → IsSilentTo key (map (reported_by boot) bodies)
messages_silent key boot [] = refl
messages_silent key boot (body ∷ bodies) = ap (λ o. or_before o None) (messages_silent key boot bodies)

false_and : (a b c : Bool) → a ≡ false → (a && b && c) ≡ false
false_and false b c e = refl
false_and true b c e = absurd (true≢false e)

other_silent : (key other : Key) (segment : Segment) → destination_of segment ≡ key → key_eq key other ≡ false → reported_to other (To_client segment) ≡ None
other_silent key other segment d e =
    ap (λ b. if b then Some segment.head.ack else None) (false_and (key_eq (destination_of segment) other) (has_ack segment) (not (has_rst segment)) (ap (λ k. key_eq k other) d ∙ e))

pub rst_silent : (other : Key) (segment : Segment) → has_rst segment ≡ true → reported_to other (To_client segment) ≡ None
rst_silent other segment r =
    ap (λ b. if b then Some segment.head.ack else None) (and_right (key_eq (destination_of segment) other && has_ack segment) (not (has_rst segment)) (ap not r))

segments_only : (q : Point) (segments : List Segment) → AllByRecursion (IsHeaded q) segments → ReportsOnly q.key (map To_client segments)
segments_only q [] a other e = refl
segments_only q (segment ∷ segments) a other e =
    ap₂ or_before (segments_only q segments a.1 other e) (other_silent q.key other segment a.0.destination e)

headed_reported : (q : Point) (segment : Segment) → IsHeaded q segment → reported_to q.key (To_client segment) ≡ Some (number_at q.cisn (acknowledgement q))
headed_reported q segment h =
    ap (λ b. if b then Some segment.head.ack else None)
    (three_true (key_eq (destination_of segment) q.key) (has_ack segment) (has_rst segment) (ap (λ k. key_eq k q.key) h.destination ∙ key_is q.key) h.has_ack_flag h.no_rst)
    ∙ ap Some h.ack

-- the last of some segments tells it
segments_report : (q : Point) (segments : List Segment) → AllByRecursion (IsHeaded q) segments
    → (segments ≡ []) ⊎ (last_reported q.key (map To_client segments) ≡ Some (number_at q.cisn (acknowledgement q)))
segments_report q [] a = inl refl
segments_report q (segment ∷ segments) a =
    inr (⊎_elim (λ n. ap (λ l. or_before (last_reported q.key (map To_client l)) (reported_to q.key (To_client segment))) n ∙ headed_reported q segment a.0)
    (λ n. ap (λ o. or_before o (reported_to q.key (To_client segment))) n) (segments_report q segments a.1))

no_messages : (boot : ℕ) (bodies : List Body) → list_any is_segment (map (reported_by boot) bodies) ≡ false
no_messages boot [] = refl
no_messages boot (body ∷ bodies) = no_messages boot bodies

live_only : {State : Type 0} (service : Machine State) (server : Addr) (boot : ℕ) (news : News) (p q : Point) (sent : List Packet)
    → LiveTurn service server boot news p q sent → ReportsOnly q.key sent
live_only service server boot news p q sent t other e =
    let bodies : List Body = copies news p q ++ (reads_reported news p q ++ dones news p q) in
    let heads : AllByRecursion (IsHeaded q) (segments_of service server news p q) =
    all_weaker (Spoken service server news p q) (IsHeaded q) (segments_of service server news p q) (headed service server news p q) (segments_spoken service server news p q) in
    ap (last_reported other) t.packets
    ∙ silent_append other (map To_client (segments_of service server news p q)) (map (reported_by boot) bodies) (segments_only q (segments_of service server news p q) heads other e)
    (messages_silent other boot bodies)

-- a live turn tells, or has nothing new to tell
live_reports : {State : Type 0} (service : Machine State) (server : Addr) (boot : ℕ) (news : News) (p q : Point) (sent : List Packet)
    → LiveTurn service server boot news p q sent
    → ((list_any is_segment sent ≡ false) × (acknowledgement q ≡ acknowledgement p)) ⊎ (last_reported q.key sent ≡ Some (number_at q.cisn (acknowledgement q)))
live_reports service server boot news p q sent t =
    let segments : List Segment = segments_of service server news p q in
    let bodies : List Body = copies news p q ++ (reads_reported news p q ++ dones news p q) in
    let heads : AllByRecursion (IsHeaded q) segments =
    all_weaker (Spoken service server news p q) (IsHeaded q) segments (headed service server news p q) (segments_spoken service server news p q) in
    ⊎_elim
    (λ n. let quiet : list_any is_segment sent ≡ false =
    ap (list_any is_segment) (t.packets ∙ ap (λ l. map To_client l ++ map (reported_by boot) bodies) n) ∙ no_messages boot bodies in
    inl (quiet, ((reported service server boot news p q sent t).silent quiet).0))
    (λ n. inr (ap (last_reported q.key) t.packets ∙ (last_append q.key (map To_client segments) (map (reported_by boot) bodies)
    ∙ (ap (λ o. or_before o (last_reported q.key (map To_client segments))) (messages_silent q.key boot bodies) ∙ n)))) (segments_report q segments heads)

silent_or_reported : (o packets : Option ℕ) (a : ℕ) → o ≡ None → packets ≡ Some a → or_before o packets ≡ Some a
silent_or_reported o packets a e f = ap (λ x. or_before x packets) e ∙ f

pub reported_or : (o packets : Option ℕ) (a : ℕ) → o ≡ Some a → or_before o packets ≡ Some a
reported_or o packets a e = ap (λ x. or_before x packets) e

by_reset : {State : Type 0} {X : Type 0} (service : Machine State) (server : Addr) (boot : ℕ) (news : News) (p q : Point) (sent : List Packet) (b : Bool) → reset_after news p ≡ b
    → (ResetTurn boot news p q sent → X) → (reset_after news p ≡ false → LiveTurn service server boot news p q sent → X)
    → MatchBool b (ResetTurn boot news p q sent) (LiveTurn service server boot news p q sent) → X
by_reset service server boot news p q sent true e f g t = f t
by_reset service server boot news p q sent false e f g t = g e t

pub was_not_reset : (news : News) (p : Point) → reset_after news p ≡ false → p.reset ≡ false
unfolding reset_after
was_not_reset (Comes segment) p e = (or_parts p.reset _ e).0
was_not_reset (Logged kept) p e = e
was_not_reset Ticks p e = e
was_not_reset Begins p e = e

reset_only : (boot : ℕ) (news : News) (p q : Point) (sent : List Packet) → ResetTurn boot news p q sent → (key : Key) → IsSilentTo key sent
reset_only boot news p q sent t key = ap (last_reported key) t.packets ∙ messages_silent key boot (dones news p q)

is_reset : (boot : ℕ) (news : News) (p q : Point) (sent packets : List Packet) → ResetTurn boot news p q sent → ReportsNow packets sent (Lives q)
is_reset boot news p q sent packets t = λ r. absurd (true≢false (sym (ap (λ x. x.reset) t.point) ∙ r))

silent_segments : (key : Key) (sent : List Packet) → list_any is_segment sent ≡ false → IsSilentTo key sent
silent_segments key [] e = refl
silent_segments key (To_client segment ∷ sent) e = absurd (true≢false e)
silent_segments key (To_server segment ∷ sent) e = ap (λ o. or_before o None) (silent_segments key sent e)
silent_segments key (To_logger message ∷ sent) e = ap (λ o. or_before o None) (silent_segments key sent e)
silent_segments key (From_logger message ∷ sent) e = ap (λ o. or_before o None) (silent_segments key sent e)

reported_quietly : (q p : Point) (sent packets : List Packet) → IsSilentTo q.key sent → q.key ≡ p.key → q.cisn ≡ p.cisn → acknowledgement q ≡ acknowledgement p
    → last_reported p.key packets ≡ Some (number_at p.cisn (acknowledgement p)) → or_before (last_reported q.key sent) (last_reported q.key packets) ≡ Some (number_at q.cisn (acknowledgement q))
reported_quietly q p sent packets s k c a before =
    silent_or_reported (last_reported q.key sent) (last_reported q.key packets) (number_at q.cisn (acknowledgement q)) s
    (ap (λ x. last_reported x packets) k ∙ (before ∙ ap Some (ap₂ number_at (sym c) (sym a))))

-- what one turn of a connection tells
connection_reports : {State : Type 0} (service : Machine State) (server : Addr) (boot : ℕ) (news : News) (p q : Point) (sent packets : List Packet)
    → IsReportedLast packets p → ConnectionTurn service server boot news p q sent → ReportsNow packets sent (Lives q) × ReportsOnly p.key sent
connection_reports service server boot news p q sent packets was =
    by_reset service server boot news p q sent (reset_after news p) refl
    (λ t. (is_reset boot news p q sent packets t, λ other e. reset_only boot news p q sent t other))
    (λ live t.
    let before : last_reported p.key packets ≡ Some (number_at p.cisn (acknowledgement p)) = was (was_not_reset news p live) in (
      λ r. ⊎_elim
          (λ n. reported_quietly q p sent packets (silent_segments q.key sent n.0) t.same.key t.same.cisn n.1 before)
          (λ n. reported_or (last_reported q.key sent) (last_reported q.key packets) (number_at q.cisn (acknowledgement q)) n) (live_reports service server boot news p q sent t),
      subst (λ k. ReportsOnly k sent) t.same.key (live_only service server boot news p q sent t),
    ))

-- .. and the turn in which it becomes live
pub beginning_reports : {State : Type 0} (service : Machine State) (server : Addr) (boot : ℕ) (p q : Point) (sent packets : List Packet)
    → ConnectionTurn service server boot Begins p q sent → ReportsNow packets sent (Lives q) × ReportsOnly p.key sent
beginning_reports service server boot p q sent packets =
    by_reset service server boot Begins p q sent (reset_after Begins p) refl
    (λ t. (is_reset boot Begins p q sent packets t, λ other e. reset_only boot Begins p q sent t other))
    (λ live t. (
      λ r. ⊎_elim
          (λ n. absurd (true≢false (sym (begins_reported service server boot p q sent t) ∙ n.0)))
          (λ n. reported_or (last_reported q.key sent) (last_reported q.key packets) (number_at q.cisn (acknowledgement q)) n) (live_reports service server boot Begins p q sent t),
      subst (λ k. ReportsOnly k sent) t.same.key (live_only service server boot Begins p q sent t),
    ))

pub nothing_said : (key : Key) (sent : List Packet) → sent ≡ [] → IsSilentTo key sent
nothing_said key sent e = ap (last_reported key) e

closed_silent : (key : Key) (server : Addr) (segment : Segment) → IsSilentTo key (map To_client (as_closed server segment))
closed_silent key server segment =
    holds_if (λ x. IsSilentTo key (map To_client x)) (has_rst segment) [] (if has_ack segment then rst_at_ack server segment ∷ [] else rst_behind server segment ∷ []) (λ t. refl)
    (λ t. holds_if (λ x. IsSilentTo key (map To_client x)) (has_ack segment) (rst_at_ack server segment ∷ []) (rst_behind server segment ∷ [])
    (λ s. ap (λ o. or_before None o) (rst_silent key (rst_at_ack server segment) refl)) (λ s. ap (λ o. or_before None o) (rst_silent key (rst_behind server segment) refl)))

still_reported : (packets : List Packet) (place : Place) → WasReported packets place → ReportsNow packets [] place
still_reported packets (Lives p) w = w
still_reported packets (Opens n timestamping) w = tt
still_reported packets (Ended k) w = tt

pub place_reports : {State : Type 0} (service : Machine State) (node : Node) (input : Input) (packets : List Packet) (place : Place) (now : List Place) (sent : List Packet)
    → WasReported packets place → PlaceWent service node input place now sent → AllByRecursion (ReportsNow packets sent) now × ReportsOnly (key_of place) sent
place_reports service node input packets place now sent w (stayed n s) =
    (subst (AllByRecursion (ReportsNow packets sent)) (sym n) (subst (λ l. ReportsNow packets l place) (sym s) (still_reported packets place w), tt), λ other e. nothing_said other sent s)
place_reports service node input packets place now sent w (went_on news p after e i n t) =
    let c = connection_reports service node.server node.boot news p after sent packets (subst (WasReported packets) e w) t in
    (subst (AllByRecursion (ReportsNow packets sent)) (sym n) (c.0, tt), subst (λ k. ReportsOnly k sent) (sym (ap key_of e)) c.1)
place_reports service node input packets place now sent w (began asked kept timestamping after e h n t) =
    let c = beginning_reports service node.server node.boot (point_opened node.profile timestamping kept) after sent packets t in
    (subst (AllByRecursion (ReportsNow packets sent)) (sym n) (c.0, tt), subst (λ k. ReportsOnly k sent) (h.key ∙ sym (ap key_of e)) c.1)
place_reports service node input packets place now sent w (dropped asked timestamping e d n s) = (
  subst (AllByRecursion (ReportsNow packets sent)) (sym n) tt,
  λ other x. ⊎_elim (λ y. nothing_said other sent y) (λ y. ap (last_reported other) y ∙ ap (λ o. or_before None o) (rst_silent other (full_rst node.server asked) refl)) s,
)
place_reports service node input packets place now sent w (ended p e h n s) =
    (subst (AllByRecursion (ReportsNow packets sent)) (sym n) (tt, tt), λ other x. nothing_said other sent s)
place_reports service node input packets place now sent w (refused key segment e c k n s) =
    (subst (AllByRecursion (ReportsNow packets sent)) (sym n) (tt, tt), λ other x. ap (last_reported other) s ∙ closed_silent other node.server segment)

pub reports_here : (packets first others : List Packet) (x : Place) → IsSilentTo (key_of x) others → ReportsNow packets first x → ReportsNow packets (first ++ others) x
reports_here packets first others (Lives q) s t = λ r.
    ap (λ o. or_before o (last_reported q.key packets)) (last_append q.key first others ∙ ap (λ o. or_before o (last_reported q.key first)) s) ∙ t r
reports_here packets first others (Opens n timestamping) s t = tt
reports_here packets first others (Ended k) s t = tt

reports_there : (packets first others : List Packet) (x : Place) → IsSilentTo (key_of x) first → ReportsNow packets others x → ReportsNow packets (first ++ others) x
reports_there packets first others (Lives q) s t = λ r.
    ap (λ o. or_before o (last_reported q.key packets)) (last_append q.key first others ∙ (ap (λ o. or_before (last_reported q.key others) o) s ∙ sym (or_none (last_reported q.key others)))) ∙ t r
reports_there packets first others (Opens n timestamping) s t = tt
reports_there packets first others (Ended k) s t = tt

no_key_all : (key : Key) (places : List Place) → has_key key (map key_of places) ≡ false → AllByRecursion (λ x. key_eq (key_of x) key ≡ false) places
no_key_all key [] e = tt
no_key_all key (place ∷ places) e =
    let parts = or_parts (key_eq (key_of place) key) (has_key key (map key_of places)) e in (parts.0, no_key_all key places parts.1)

no_key_later : (Goes : Place → List Place → List Packet → Type 0) (Q : Place → Type 0) → ((place : Place) (now : List Place) (sent : List Packet) → Q place → Goes place now sent → KeepsKey place now)
    → (key : Key) (before after : List Place) (sent : List Packet) → AllByRecursion Q before → AllGo Goes before after sent → has_key key (map key_of before) ≡ false
    → has_key key (map key_of after) ≡ false
no_key_later Goes Q keeps key [] after sent q t h = ap (λ l. has_key key (map key_of l)) t.0
no_key_later Goes Q keeps key (place ∷ places) after sent q (now, later, first, others, places_are, sent_is, goes, rest) h =
    let parts = or_parts (key_eq (key_of place) key) (has_key key (map key_of places)) h in
    let there : has_key key (map key_of later) ≡ false = no_key_later Goes Q keeps key places later others q.1 rest parts.1 in
    ⊎_elim (λ n. ap (λ l. has_key key (map key_of l)) (places_are ∙ ap (λ l. l ++ later) n) ∙ there)
    (λ n. ap (λ l. has_key key (map key_of l)) (places_are ∙ ap (λ l. l ++ later) n.1)
    ∙ or_from (key_eq (key_of n.0) key) (has_key key (map key_of later)) (ap (λ k. key_eq k key) n.2 ∙ parts.0) there) (keeps place now first q.0 goes)

-- a whole list of places
pub all_report : (Goes : Place → List Place → List Packet → Type 0) (Q : Place → Type 0) (packets : List Packet)
    → ((place : Place) (now : List Place) (sent : List Packet) → Q place → Goes place now sent → AllByRecursion (ReportsNow packets sent) now × ReportsOnly (key_of place) sent × KeepsKey place now)
    → (before after : List Place) (sent : List Packet) → AreDistinct (map key_of before) → AllByRecursion Q before → AllGo Goes before after sent
    → AllByRecursion (ReportsNow packets sent) after × ((other : Key) → has_key other (map key_of before) ≡ false → IsSilentTo other sent)
all_report Goes Q packets step [] after sent d q t =
    (subst (AllByRecursion (ReportsNow packets sent)) (sym t.0) tt, λ other e. nothing_said other sent t.1)
all_report Goes Q packets step (place ∷ places) after sent d q (now, later, first, others, places_are, sent_is, goes, rest) =
    let here = step place now first q.0 goes in
    let there = all_report Goes Q packets step places later others d.1 q.1 rest in
    let keeps : (place : Place) (now : List Place) (sent : List Packet) → Q place → Goes place now sent → KeepsKey place now = λ place now sent h g. (step place now sent h g).2 in
    let others_silent : IsSilentTo (key_of place) others = there.1 (key_of place) d.0 in
    let apart : has_key (key_of place) (map key_of later) ≡ false = no_key_later Goes Q keeps (key_of place) places later others q.1 rest d.0 in
    let now_reports : AllByRecursion (ReportsNow packets (first ++ others)) now =
    ⊎_elim (λ n. subst (AllByRecursion (ReportsNow packets (first ++ others))) (sym n) tt)
    (λ n. subst (AllByRecursion (ReportsNow packets (first ++ others))) (sym n.1)
    (reports_here packets first others n.0 (subst (λ k. IsSilentTo k others) (sym n.2) others_silent) (subst (AllByRecursion (ReportsNow packets first)) n.1 here.0).0, tt)) here.2 in
    let later_reports : AllByRecursion (ReportsNow packets (first ++ others)) later =
    all_both (λ x. key_eq (key_of x) (key_of place) ≡ false) (ReportsNow packets others) (ReportsNow packets (first ++ others)) later
    (λ x k reports. reports_there packets first others x (here.1 (key_of x) (key_eq_turns (key_of x) (key_of place) k)) reports) (no_key_all (key_of place) later apart) there.0 in (
      subst₂ (λ a s. AllByRecursion (ReportsNow packets s) a) (sym places_are) (sym sent_is) (all_append (ReportsNow packets (first ++ others)) now later now_reports later_reports),
      λ other e. let parts = or_parts (key_eq (key_of place) other) (has_key other (map key_of places)) e in
          ap (last_reported other) sent_is ∙ silent_append other first others (here.1 other parts.0) (there.1 other parts.1),
    )
