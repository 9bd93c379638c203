-- The reads that are logged are those of the incarnation whose boot the log has, and what leaves is a part of the output over logged reads.
use Rattle.tcp_rules.specs.declared.timestamping.Timestamping.{Timestamping}
use Rattle.std.proofs.Common.{◌≡◌, ℕ, zero, suc, ◌+◌, ◌<◌, ◌≤◌, ◌^◌, pos, Bool, true, false, nat_lt, sum, le_refl, le_trans, refl, sym, ap, ◌∙◌, subst, true≢false, inl, inr, ◌⊎◌, ⊎_elim, Some, List, [], ◌∷◌, ◌++◌, map, length, take, drop, slice_get, arith, ltb-true, ltb-false, append-nil}
use Rattle.std.specs.List.{AllByRecursion}
use Rattle.std.proofs.lemmas.List.{take-append-le}
use Rattle.ft_io.specs.declared.Addr.{Addr}
use Rattle.ft_io.specs.declared.Key.{Key}
use Rattle.tcp_rules.specs.Profile.{Profile}
use Rattle.seq_arith.specs.Number.{number_at, offset_of}
use Rattle.seq_arith.specs.Packet.{Segment, has_syn, has_rst}
use Rattle.seq_arith.specs.Message.{Numbers, Body}
use Rattle.seq_arith.specs.Message.Body.{DataMsg, ReadMsg, DoneMsg}
use Rattle.seq_arith.proofs.Shifts.{offset_of_number}
use Rattle.server_trait.specs.Service.{Machine, Run, reference}
use Rattle.ft_model.specs.Offset.{first_of, text_of, fin_of}
use Rattle.ft_model.specs.Log.{Log, Entry, entry_of}
use Rattle.ft_model.specs.Network.{Packet, destination_of}
use Rattle.ft_model.specs.Network.Packet.{To_client, To_logger}
use Rattle.ft_model.specs.News.{News}
use Rattle.ft_model.specs.Point.{Point, released, answered_run}
use Rattle.ft_model.specs.Opening.{point_opened}
use Rattle.ft_model.specs.Segments.{text_at, fin_segment, segments_of}
use Rattle.ft_model.specs.Copy.{copies}
use Rattle.ft_model.specs.Reads.{reads_reported, read_messages, first_reported}
use Rattle.ft_model.specs.ResetAndEnd.{dones, reports_done}
use Rattle.ft_model.specs.Connection.{ResetTurn, LiveTurn, ConnectionTurn, reported_by}
use Rattle.ft_model.specs.Restart.{point_of}
use Rattle.ft_model.specs.Node.{Place}
use Rattle.ft_model.specs.Node.Place.{Opens, Lives, Ended}
use Rattle.ft_model.specs.Growth.{IsPrefix, lengths_in, logged_lengths}
use Rattle.ft_model.proofs.Lists.{take_first, all_weaker, all_map, all_append, prefix_trans, none_is_some}
use Rattle.ft_model.proofs.Stands.{nothing_first, drop_prefix}
use Rattle.ft_model.proofs.Scripts.{HasTaken, DataFits}
use Rattle.ft_model.proofs.Faithful.{IsKnown, PlaceFits}
use Rattle.ft_model.proofs.Spoken.{Spoken, segments_spoken}
use Rattle.ft_model.proofs.Spoken.Spoken.{spoken_syn, spoken_text, spoken_fin, spoken_bare}
use Rattle.ft_model.proofs.Services.{RunExtends, reads_proceed, more_bytes, prefix_length, sum_take}
use Rattle.ft_model.proofs.Running.{HasSmallOutputs, ReadsWithin, reset_within, live_within}
use Rattle.ft_model.proofs.StageTurns.{either_turn}
use Rattle.ft_io.proofs.Choices.{holds_if}

-- a Read of the log's own boot is its author's
abbrev pub ReadFits : (Key → List ℕ) → Body → Type 0
ReadFits author (ReadMsg key index n) = slice_get (author key) index ≡ Some n
ReadFits author _ = Unit {0}

-- the run over the logged reads of a client
abbrev pub logged_run : {State : Type 0} → Machine State → (Key → List ℕ) → Log → Key → Run State
logged_run service script log key = reference service (script key) (logged_lengths key log)

-- a part of this run's output, or its FIN
abbrev pub CarriesOutput : {State : Type 0} → Run State → ℕ → Segment → Type 0
CarriesOutput run sisn segment =
    (offset : ℕ) × (first_of sisn segment ≡ pos offset) × IsPrefix (text_of segment) (drop offset run.output)
    × (fin_of segment ≡ true → (run.closed ≡ true) × (offset ≡ length run.output) × (text_of segment ≡ []))

pub record IsSpoken {State : Type 0} (service : Machine State) (script : Key → List ℕ) (log : Log) (key : Key) (segment : Segment) : Type 0 where
  pub entry : Entry
  pub found : entry_of key log ≡ Some entry
  pub syn : has_syn segment ≡ true → segment.head.seq ≡ entry.sisn
  pub text : CarriesOutput (logged_run service script log key) entry.sisn segment ⊎ ((text_of segment ≡ []) × (fin_of segment ≡ false))

abbrev pub Speaks : {State : Type 0} → Machine State → (Key → List ℕ) → Log → Packet → Type 0
Speaks service script log (To_client segment) = has_rst segment ≡ false → IsSpoken service script log (destination_of segment) segment
Speaks service script log _ = Unit {0}

abbrev pub Follows : {State : Type 0} → Machine State → (Key → List ℕ) → (Key → List ℕ) → Log → Packet → Type 0
Follows service script author log (To_logger message) = ReadFits author message.body
Follows service script author log (To_client segment) = Speaks service script log (To_client segment)
Follows service script author log _ = Unit {0}

-- what is known of a point before a turn, by the author of the reads so far ..
abbrev pub PlaceRuns : {State : Type 0} → Machine State → (Key → List ℕ) → Place → Type 0
PlaceRuns service author (Lives p) = (author p.key ≡ p.lengths) × ReadsWithin service p
PlaceRuns service author (Opens n timestamping) = author n.key ≡ []
PlaceRuns service author (Ended key) = Unit {0}

-- .. and after it
abbrev pub PlaceRan : {State : Type 0} → Machine State → (Key → List ℕ) → Place → Type 0
PlaceRan service author (Lives p) = IsPrefix (author p.key) p.lengths × ReadsWithin service p
PlaceRan service author (Opens n timestamping) = author n.key ≡ []
PlaceRan service author (Ended key) = Unit {0}

-- a new author agrees with a place
abbrev pub IsAuthor : (Key → List ℕ) → Place → Type 0
IsAuthor author (Lives p) = author p.key ≡ p.lengths
IsAuthor author _ = Unit {0}

pub take_of_prefix : (k : ℕ) (xs ys : List ℕ) → IsPrefix xs ys → k ≤ length xs → take k ys ≡ take k xs
take_of_prefix k xs ys p h = subst (λ l. take k l ≡ take k xs) p.1 (take-append-le k xs p.0 h)

-- what may leave of a connection is a front of what the log's reads give
pub released_logged : {State : Type 0} (service : Machine State) (script : Key → List ℕ) (isn : ℕ) (log : Log) (q : Point) → HasTaken (script q.key) isn q → IsKnown log q → ReadsWithin service q
    → IsPrefix (logged_lengths q.key log) q.lengths → RunExtends (answered_run service q) (logged_run service script log q.key)
released_logged service script isn log q h k r front =
    let logged : List ℕ = logged_lengths q.key log in
    let count : q.reads_answered ≤ length logged = subst (λ o. q.reads_answered ≤ length (lengths_in o)) (sym k.found) k.reads in
    let same : take q.reads_answered q.lengths ≡ take q.reads_answered logged = take_of_prefix q.reads_answered logged q.lengths front count in
    let low : sum (take q.reads_answered q.lengths) ≤ length q.taken = le_trans (sum_take q.reads_answered q.lengths) r.enough in
    let bytes : reference service (script q.key) (take q.reads_answered q.lengths) ≡ answered_run service q = more_bytes service q.taken (script q.key) (take q.reads_answered q.lengths) h.fronts.front low in
    let part : IsPrefix (take q.reads_answered q.lengths) logged = subst (λ l. IsPrefix l logged) (sym same) (take_first q.reads_answered logged) in
    subst (λ x. RunExtends x (logged_run service script log q.key)) bytes (reads_proceed service (script q.key) (take q.reads_answered q.lengths) logged part)

-- a later run carries it as well
pub carries_later : {State : Type 0} (a b : Run State) (sisn : ℕ) (segment : Segment) → RunExtends a b → CarriesOutput a sisn segment → CarriesOutput b sisn segment
carries_later a b sisn segment g c = (
  c.0,
  c.1,
  prefix_trans (text_of segment) (drop c.0 a.output) (drop c.0 b.output) c.2 (drop_prefix c.0 a.output b.output g.output),
  λ f. let x = c.3 f in let same = g.closed x.0 in (same.1, x.1 ∙ ap length (sym same.0), x.2),
)

pub drop_past : (k : ℕ) (xs : List ℕ) → length xs ≤ k → drop k xs ≡ []
drop_past zero [] h = refl
drop_past zero (x ∷ xs) h = absurd (omega (arith, h))
drop_past (suc k) [] h = refl
drop_past (suc k) (x ∷ xs) h = drop_past k xs (omega (arith, h))

take_of_nothing : (n : ℕ) (xs : List ℕ) → xs ≡ [] → take n xs ≡ []
take_of_nothing zero xs e = refl
take_of_nothing (suc n) xs e = ap (take (suc n)) e

by_past : (n offset : ℕ) (output : List ℕ) (b : Bool) → nat_lt offset (2 ^ 31) ≡ b → length output ≤ 2 ^ 24 → (take n (drop offset output) ≡ []) ⊎ (offset < 2 ^ 31)
by_past n offset output true e h = inr (ltb-true _ _ e)
by_past n offset output false e h =
    let far : 2 ^ 31 ≤ offset = ltb-false _ _ e in
    inl (take_of_nothing n (drop offset output) (drop_past offset output (omega (arith, far, h))))

empty_or : (n offset : ℕ) (output : List ℕ) → length output ≤ 2 ^ 24 → (take n (drop offset output) ≡ []) ⊎ (offset < 2 ^ 31)
empty_or n offset output h = by_past n offset output (nat_lt offset (2 ^ 31)) refl h

spoken_so : {State : Type 0} (service : Machine State) (server : Addr) (news : News) (p q : Point) (segment : Segment) (script : Key → List ℕ) (log : Log) → IsKnown log q
    → length (answered_run service q).output ≤ 2 ^ 24 → RunExtends (answered_run service q) (logged_run service script log q.key)
    → Spoken service server news p q segment → IsSpoken service script log (destination_of segment) segment
spoken_so service server news p q segment script log k small g (spoken_syn e) =
    subst (λ s. IsSpoken service script log (destination_of s) s) (sym e) (record { entry = k.entry; found = k.found; syn = λ x. sym k.sisn; text = inr (refl, refl) })
spoken_so service server news p q segment script log k small g (spoken_text offset n short e) =
    subst (λ s. IsSpoken service script log (destination_of s) s) (sym e)
    (record {
      entry = k.entry;
      found = k.found;
      syn = λ x. absurd (true≢false (sym x));
      text = ⊎_elim (λ x. inr (x, refl))
          (λ x. inl (carries_later (answered_run service q) (logged_run service script log q.key) k.entry.sisn (text_at service server q offset n) g
          (offset, ap (λ s. offset_of s (number_at q.sisn offset)) k.sisn ∙ offset_of_number q.sisn offset x, take_first n (drop offset (answered_run service q).output), λ f. absurd (true≢false (sym f)))))
          (empty_or n offset (answered_run service q).output small);
    })
spoken_so service server news p q segment script log k small g (spoken_fin closed e) =
    subst (λ s. IsSpoken service script log (destination_of s) s) (sym e)
    (record {
      entry = k.entry;
      found = k.found;
      syn = λ x. absurd (true≢false (sym x));
      text = inl (carries_later (answered_run service q) (logged_run service script log q.key) k.entry.sisn (fin_segment service server q) g (
        released service q,
        ap (λ s. offset_of s (number_at q.sisn (released service q))) k.sisn ∙ offset_of_number q.sisn (released service q) (omega (arith, small)),
        nothing_first (drop (released service q) (answered_run service q).output),
        λ x. (closed, refl, refl),
      ));
    })
spoken_so service server news p q segment script log k small g (spoken_bare offset e) =
    subst (λ s. IsSpoken service script log (destination_of s) s) (sym e) (record { entry = k.entry; found = k.found; syn = λ x. absurd (true≢false (sym x)); text = inr (refl, refl) })

-- the messages of reads
reads_follow : (author : Key → List ℕ) (key : Key) (index : ℕ) (lengths : List ℕ) → ((i n : ℕ) → slice_get lengths i ≡ Some n → slice_get (author key) (index + i) ≡ Some n)
    → AllByRecursion (ReadFits author) (read_messages key index lengths)
reads_follow author key index [] f = tt
reads_follow author key index (n ∷ lengths) f = (
  subst (λ k. slice_get (author key) k ≡ Some n) (omega arith) (f zero n refl),
  reads_follow author key (index + 1) lengths (λ i m e. subst (λ k. slice_get (author key) k ≡ Some m) (omega arith) (f (suc i) m e)),
)

get_drop : (k i n : ℕ) (xs : List ℕ) → slice_get (drop k xs) i ≡ Some n → slice_get xs (k + i) ≡ Some n
get_drop zero i n xs e = let same : i ≡ zero + i = omega arith in subst (λ m. slice_get xs m ≡ Some n) same e
get_drop (suc k) i n [] e = none_is_some n e
get_drop (suc k) i n (x ∷ xs) e =
    let same : suc (k + i) ≡ suc k + i = omega arith in
    let there : slice_get (x ∷ xs) (suc (k + i)) ≡ Some n = get_drop k i n xs e in
    subst (λ m. slice_get (x ∷ xs) m ≡ Some n) same there

reported_reads_follow : (author : Key → List ℕ) (news : News) (p q : Point) → author q.key ≡ q.lengths → AllByRecursion (ReadFits author) (reads_reported news p q)
unfolding reads_reported
reported_reads_follow author news p q e =
    reads_follow author q.key (first_reported news p q) (drop (first_reported news p q) q.lengths)
    (λ i n x. subst (λ l. slice_get l (first_reported news p q + i) ≡ Some n) (sym e) (get_drop (first_reported news p q) i n q.lengths x))

data_follows : (script author : Key → List ℕ) (body : Body) → DataFits script body → ReadFits author body
data_follows script author (DataMsg part) f = tt
data_follows script author _ f = absurd f

dones_follow : (author : Key → List ℕ) (news : News) (p q : Point) → AllByRecursion (ReadFits author) (dones news p q)
unfolding dones
dones_follow author news p q = holds_if (AllByRecursion (ReadFits author)) (reports_done news p q) (DoneMsg q.key ∷ []) [] (λ t. (tt, tt)) (λ t. tt)

pub bodies_follow : {State : Type 0} (service : Machine State) (script author : Key → List ℕ) (log : Log) (boot : ℕ) (bodies : List Body) → AllByRecursion (ReadFits author) bodies
    → AllByRecursion (Follows service script author log) (map (reported_by boot) bodies)
bodies_follow service script author log boot bodies a = all_map (Follows service script author log) (reported_by boot) bodies a

live_prefix : {State : Type 0} (service : Machine State) (server : Addr) (old : Key → List ℕ) (boot : ℕ) (news : News) (p q : Point) (sent : List Packet)
    → old p.key ≡ p.lengths → LiveTurn service server boot news p q sent → IsPrefix (old q.key) q.lengths
live_prefix service server old boot news p q sent e t = (t.reads.news, ap (λ l. l ++ t.reads.news) (ap old t.same.key ∙ e) ∙ sym t.reads.lengths)

reset_runs : {State : Type 0} (service : Machine State) (script old author : Key → List ℕ) (log : Log) (boot : ℕ) (news : News) (p q : Point) (sent : List Packet)
    → PlaceRuns service old (Lives p) → ResetTurn boot news p q sent → PlaceRan service old (Lives q) × AllByRecursion (Follows service script author log) sent
reset_runs service script old author log boot news p q sent r t =
    let lengths : q.lengths ≡ p.lengths = ap (λ x. x.lengths) t.point in
    let key : q.key ≡ p.key = ap (λ x. x.key) t.point in (
      (([], append-nil (old q.key) ∙ (ap old key ∙ (r.0 ∙ sym lengths))), reset_within service boot news p q sent r.1 t),
      subst (AllByRecursion (Follows service script author log)) (sym t.packets) (bodies_follow service script author log boot (dones news p q) (dones_follow author news p q)),
    )

live_runs : {State : Type 0} (service : Machine State) (server : Addr) (script old author : Key → List ℕ) (isn : Key → ℕ) (log : Log) (boot : ℕ) (news : News) (p q : Point) (sent : List Packet)
    → HasSmallOutputs service → ((key : Key) → IsPrefix (logged_lengths key log) (old key)) → AllByRecursion (DataFits script) (copies news p q) → PlaceFits script isn log (Lives q)
    → PlaceRuns service old (Lives p) → IsAuthor author (Lives q) → LiveTurn service server boot news p q sent
    → AllByRecursion (Follows service script author log) sent
live_runs service server script old author isn log boot news p q sent small front datas fits r is t =
    let lengths : IsPrefix (old q.key) q.lengths = live_prefix service server old boot news p q sent r.0 t in
    let within : ReadsWithin service q = live_within service server boot news p q sent small r.1 t in
    let goes : RunExtends (answered_run service q) (logged_run service script log q.key) =
    released_logged service script (isn q.key) log q fits.0 fits.1 within (prefix_trans (logged_lengths q.key log) (old q.key) q.lengths (front q.key) lengths) in
    let less : length (answered_run service q).output ≤ 2 ^ 24 =
    le_trans (prefix_length (answered_run service q).output (reference service q.taken q.lengths).output
    (reads_proceed service q.taken (take q.reads_answered q.lengths) q.lengths (take_first q.reads_answered q.lengths)).output) within.short in
    let segments : AllByRecursion (λ s. Follows service script author log (To_client s)) (segments_of service server news p q) =
    all_weaker (Spoken service server news p q) (λ s. Follows service script author log (To_client s)) (segments_of service server news p q)
    (λ s spoken. λ rst. spoken_so service server news p q s script log fits.1 less goes spoken)
    (segments_spoken service server news p q) in
    let bodies : AllByRecursion (ReadFits author) (copies news p q ++ (reads_reported news p q ++ dones news p q)) =
    all_append (ReadFits author) (copies news p q) _ (all_weaker (DataFits script) (ReadFits author) (copies news p q) (data_follows script author) datas)
    (all_append (ReadFits author) (reads_reported news p q) (dones news p q) (reported_reads_follow author news p q is) (dones_follow author news p q)) in
    subst (AllByRecursion (Follows service script author log)) (sym t.packets)
    (all_append (Follows service script author log) (map To_client (segments_of service server news p q)) _
    (all_map (Follows service script author log) To_client (segments_of service server news p q) segments)
    (bodies_follow service script author log boot (copies news p q ++ (reads_reported news p q ++ dones news p q)) bodies))

live_ran : {State : Type 0} (service : Machine State) (server : Addr) (old : Key → List ℕ) (boot : ℕ) (news : News) (p q : Point) (sent : List Packet)
    → HasSmallOutputs service → PlaceRuns service old (Lives p) → LiveTurn service server boot news p q sent → PlaceRan service old (Lives q)
live_ran service server old boot news p q sent small r t =
    (live_prefix service server old boot news p q sent r.0 t, live_within service server boot news p q sent small r.1 t)

-- one turn of a connection: where it stands after it, and that what it sends follows the author that agrees with that
pub connection_runs : {State : Type 0} (service : Machine State) (server : Addr) (script old author : Key → List ℕ) (isn : Key → ℕ) (log : Log) (boot : ℕ) (news : News) (p q : Point) (sent : List Packet)
    → HasSmallOutputs service → ((key : Key) → IsPrefix (logged_lengths key log) (old key)) → AllByRecursion (DataFits script) (copies news p q) → PlaceFits script isn log (Lives q)
    → PlaceRuns service old (Lives p) → ConnectionTurn service server boot news p q sent
    → PlaceRan service old (Lives q) × (IsAuthor author (Lives q) → AllByRecursion (Follows service script author log) sent)
connection_runs service server script old author isn log boot news p q sent small front datas fits r =
    either_turn service server boot news p q sent
    (λ t. let x = reset_runs service script old author log boot news p q sent r t in (x.0, λ is. x.1))
    (λ t. (
      live_ran service server old boot news p q sent small r t,
      λ is. live_runs service server script old author isn log boot news p q sent small front datas fits r is t,
    ))

-- the point of an entry
pub entry_runs : {State : Type 0} (service : Machine State) (profile : Profile) (script author : Key → List ℕ) (e : Entry) → IsPrefix e.bytes (script e.key) → sum e.lengths ≤ length e.bytes
    → length (reference service (script e.key) e.lengths).output ≤ 2 ^ 24 → author e.key ≡ e.lengths → PlaceRuns service author (Lives (point_of service profile e))
entry_runs service profile script author e front enough small is =
    let same : reference service (script e.key) e.lengths ≡ reference service e.bytes e.lengths = more_bytes service e.bytes (script e.key) e.lengths front enough in (
      is,
      record { enough = enough; fetched = le_refl (length e.bytes); short = subst (λ x. length x.output ≤ 2 ^ 24) same small; counts = le_refl (length e.lengths) },
    )

-- a new point
pub opened_runs : {State : Type 0} (service : Machine State) (profile : Profile) (timestamping : Timestamping) (author : Key → List ℕ) (n : Numbers) → length service.greeting ≤ 65535 → author n.key ≡ [] → PlaceRuns service author (Lives (point_opened profile timestamping n))
unfolding reference
opened_runs service profile timestamping author n few is = (is, record { enough = le_refl 0; fetched = le_refl 0; short = omega (arith, few); counts = le_refl 0 })
