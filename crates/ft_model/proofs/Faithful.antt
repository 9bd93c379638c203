-- What is under way, logged and taken agrees with the clients' scripts and with the log.
use Rattle.std.proofs.Common.{◌≡◌, ℕ, ◌+◌, ◌<◌, ◌≤◌, ◌^◌, pos, ◌≤ℤ◌, true, false, nat_lt, le_trans, le_of_eq, refl, sym, ap, ◌∙◌, subst, Option, Some, None, List, [], ◌∷◌, ◌++◌, map, length, take, drop, slice_get, arith, length-append}
use Rattle.std.specs.List.{AllByRecursion}
use Rattle.std.proofs.lemmas.Int.{ints}
use Rattle.ft_io.specs.declared.Addr.{Addr}
use Rattle.ft_io.specs.declared.Key.{Key}
use Rattle.ft_io.specs.Key.{key_eq}
use Rattle.seq_arith.specs.Number.{number_at, offset_of}
use Rattle.seq_arith.specs.Packet.{Segment, has_rst, has_ack}
use Rattle.seq_arith.specs.Message.{Numbers, Kept, Body}
use Rattle.seq_arith.specs.Message.Body.{HelloMsg, ListMsg, EntryMsg, BytesMsg, PartMsg, CutsMsg, LensMsg, OpenMsg, OpenedMsg, DataMsg, StableMsg, ReadMsg, ReadsMsg, DoneMsg, EndedMsg}
use Rattle.seq_arith.proofs.Shifts.{offset_of_number}
use Rattle.server_trait.specs.Service.{Machine}
use Rattle.ft_model.specs.Offset.{ack_of, one_if}
use Rattle.ft_model.specs.Log.{Log, Entry, entry_of, kept_of, head_of, part_of, lens_of, opened, answer_from, opened_answer}
use Rattle.ft_model.specs.Network.{Packet, source_of, destination_of}
use Rattle.ft_model.specs.Network.Packet.{To_server, To_client, To_logger, From_logger}
use Rattle.ft_model.specs.Point.{Point, acknowledgement}
use Rattle.ft_model.specs.News.{News}
use Rattle.ft_model.specs.News.News.{Logged}
use Rattle.ft_model.specs.Answered.{answered_after, reads_answered_after}
use Rattle.ft_model.specs.Copy.{copies}
use Rattle.ft_model.specs.Reads.{reads_reported, read_messages, first_reported}
use Rattle.ft_model.specs.ResetAndEnd.{dones, reports_done}
use Rattle.ft_model.specs.Segments.{segments_of}
use Rattle.ft_model.specs.Connection.{ResetTurn, LiveTurn, ConnectionTurn, reported_by}
use Rattle.ft_model.specs.Node.{Place, Stage}
use Rattle.ft_model.specs.Node.Place.{Opens, Lives, Ended}
use Rattle.ft_model.specs.Node.Stage.{Serving}
use Rattle.ft_model.specs.Growth.{IsPrefix, LogGrows, units_in, lengths_in, logged_units, logged_lengths}
use Rattle.ft_model.proofs.Lists.{all_weaker, all_map, all_append, all_find, found_passes, same_key, none_is_some, some_is}
use Rattle.ft_model.proofs.Grows.{found_later, units_grow, lengths_grow, logged_units_grow, logged_lengths_grow}
use Rattle.ft_model.proofs.Fetching.{own_entry, on_some, chosen_some, reported_last}
use Rattle.ft_model.proofs.Scripts.{FitsScript, HasTaken, PartFits, EntryFits, NewsFits, DataFits, taken_fits, copies_fit}
use Rattle.ft_model.proofs.Running.{taken_more}
use Rattle.ft_model.proofs.Spoken.{Spoken, segments_spoken, IsHeaded, headed}
use Rattle.ft_model.proofs.StageTurns.{either_turn}
use Rattle.seq_arith.proofs.Units.{one_at_most}
use Rattle.ft_io.proofs.Choices.{holds_if}

-- the log has the entry of these numbers
abbrev pub HasEntry : Log → Numbers → Type 0
HasEntry log n = (e : Entry) × (entry_of n.key log ≡ Some e) × (e.cisn ≡ n.cisn) × (e.sisn ≡ n.sisn)

-- the log has as much as an answer tells
abbrev pub IsKept : Log → Kept → Type 0
IsKept log kept = (kept.length + one_if kept.fin ≤ logged_units kept.key log) × (kept.reads ≤ length (logged_lengths kept.key log))

-- a point knows no more to be logged than is
pub record IsKnown (log : Log) (p : Point) : Type 0 where
  pub entry : Entry
  pub found : entry_of p.key log ≡ Some entry
  pub sisn : entry.sisn ≡ p.sisn
  pub answered : p.answered ≤ length entry.bytes + one_if entry.fin
  pub reads : p.reads_answered ≤ length entry.lengths

abbrev pub BodyFits : (Key → List ℕ) → (Key → ℕ) → Body → Type 0
BodyFits script isn (OpenMsg n) = n.cisn ≡ isn n.key
BodyFits script isn (DataMsg part) = PartFits (script part.key) part
BodyFits script isn _ = Unit {0}

abbrev pub AnswerFits : Log → Body → Type 0
AnswerFits log (OpenedMsg n) = HasEntry log n
AnswerFits log (StableMsg kept) = IsKept log kept
AnswerFits log (ReadsMsg kept) = IsKept log kept
AnswerFits log _ = Unit {0}

abbrev pub PacketFits : (Key → List ℕ) → (Key → ℕ) → Log → Packet → Type 0
PacketFits script isn log (To_server segment) = FitsScript (script (source_of segment)) (isn (source_of segment)) segment
PacketFits script isn log (To_client segment) = Unit {0}
PacketFits script isn log (To_logger message) = BodyFits script isn message.body
PacketFits script isn log (From_logger message) = AnswerFits log message.body

abbrev pub PlaceFits : (Key → List ℕ) → (Key → ℕ) → Log → Place → Type 0
PlaceFits script isn log (Lives p) = HasTaken (script p.key) (isn p.key) p × IsKnown log p
PlaceFits script isn log (Opens n timestamping) = n.cisn ≡ isn n.key
PlaceFits script isn log (Ended key) = Unit {0}

abbrev pub StageFits : (Key → List ℕ) → (Key → ℕ) → Log → Stage → Type 0
StageFits script isn log (Serving opened places) = AllByRecursion (PlaceFits script isn log) places
StageFits script isn log _ = Unit {0}

abbrev pub EntriesFit : (Key → List ℕ) → (Key → ℕ) → List Entry → Type 0
EntriesFit script isn entries = AllByRecursion (λ e. EntryFits (script e.key) (isn e.key) e) entries

-- a segment that is sent acknowledges no more than is logged
abbrev pub Acknowledges : (Key → ℕ) → Log → Packet → Type 0
Acknowledges isn log (To_client segment) =
    has_ack segment ≡ true → has_rst segment ≡ false → ack_of (isn (destination_of segment)) segment ≤ℤ pos (logged_units (destination_of segment) log)
Acknowledges isn log _ = Unit {0}

abbrev pub IsFit : (Key → List ℕ) → (Key → ℕ) → Log → Packet → Type 0
IsFit script isn log packet = PacketFits script isn log packet × Acknowledges isn log packet

known_later : (before after : Log) (p : Point) → LogGrows before after → IsKnown before p → IsKnown after p
known_later before after p g k =
    let later = found_later p.key before.entries after.entries k.entry g.entries k.found in
    record {
      entry = later.0;
      found = later.1;
      sisn = later.2.sisn ∙ k.sisn;
      answered = le_trans k.answered (units_grow k.entry later.0 later.2);
      reads = le_trans k.reads (lengths_grow k.entry later.0 later.2);
    }

pub place_later : (script : Key → List ℕ) (isn : Key → ℕ) (before after : Log) → LogGrows before after → (place : Place)
    → PlaceFits script isn before place → PlaceFits script isn after place
place_later script isn before after g (Lives p) f = (f.0, known_later before after p g f.1)
place_later script isn before after g (Opens n timestamping) f = f
place_later script isn before after g (Ended key) f = tt

pub prefix_length : {A : Type 0} (xs ys : List A) → IsPrefix xs ys → length xs ≤ length ys
prefix_length xs ys p =
    let more = length-append xs p.0 in
    let whole : length (xs ++ p.0) ≡ length ys = ap length p.1 in
    omega (arith, more, whole)

kept_later : (before after : Log) (kept : Kept) → LogGrows before after → IsKept before kept → IsKept after kept
kept_later before after kept g k =
    (le_trans k.0 (logged_units_grow kept.key before after g), le_trans k.1 (prefix_length _ _ (logged_lengths_grow kept.key before after g)))

answer_later : (before after : Log) → LogGrows before after → (body : Body) → AnswerFits before body → AnswerFits after body
answer_later before after g (OpenedMsg n) f =
    let later = found_later n.key before.entries after.entries f.0 g.entries f.1 in
    (later.0, later.1, later.2.cisn ∙ f.2, later.2.sisn ∙ f.3)
answer_later before after g (StableMsg kept) f = kept_later before after kept g f
answer_later before after g (ReadsMsg kept) f = kept_later before after kept g f
answer_later before after g _ f = tt

pub packet_later : (script : Key → List ℕ) (isn : Key → ℕ) (before after : Log) → LogGrows before after → (packet : Packet)
    → PacketFits script isn before packet → PacketFits script isn after packet
packet_later script isn before after g (To_server segment) f = f
packet_later script isn before after g (To_client segment) f = tt
packet_later script isn before after g (To_logger message) f = f
packet_later script isn before after g (From_logger message) f = answer_later before after g message.body f

kept_entry : (log : Log) (key : Key) (e : Entry) → entry_of key log ≡ Some e → IsKept log (kept_of e)
kept_entry log key e found =
    let own : entry_of e.key log ≡ Some e = own_entry key log e found in
    (le_of_eq (ap units_in (sym own)), le_of_eq (ap (λ o. length (lengths_in o)) (sym own)))

opened_fits : (log : Log) (key : Key) (o : Option Entry) (answer : Body) → entry_of key log ≡ o → opened_answer key o ≡ Some answer → AnswerFits log answer
opened_fits log key (Some e) answer found t = subst (AnswerFits log) (some_is _ _ t) (e, own_entry key log e found, refl, refl)
opened_fits log key None answer found t = subst (AnswerFits log) (some_is _ _ t) tt

-- what the log tells is so
pub reported_fits : (body : Body) (log : Log) (answer : Body) → answer_from body log ≡ Some answer → AnswerFits log answer
reported_fits HelloMsg log answer t = subst (AnswerFits log) (some_is _ _ t) tt
reported_fits (OpenMsg n) log answer t = opened_fits log n.key (entry_of n.key log) answer refl t
reported_fits (DataMsg part) log answer t =
    let o = on_some (entry_of part.key log) (λ e. Some (StableMsg (kept_of e))) answer (reported_last part.more _ answer t) in
    subst (AnswerFits log) (some_is _ _ o.2) (kept_entry log part.key o.0 o.1)
reported_fits (ReadMsg key index n) log answer t =
    let o = on_some (entry_of key log) (λ e. Some (ReadsMsg (kept_of e))) answer t in
    subst (AnswerFits log) (some_is _ _ o.2) (kept_entry log key o.0 o.1)
reported_fits (ListMsg index) log answer t =
    let o = on_some (slice_get log.entries index) (λ e. Some (EntryMsg index (head_of e))) answer t in subst (AnswerFits log) (some_is _ _ o.2) tt
reported_fits (BytesMsg key offset) log answer t =
    let o = on_some (entry_of key log) (λ e. part_of e offset) answer t in
    subst (AnswerFits log) (chosen_some (nat_lt offset (length o.0.bytes)) (PartMsg o.0.key offset (take 1024 (drop offset o.0.bytes))) answer o.2) tt
reported_fits (CutsMsg key first) log answer t =
    let o = on_some (entry_of key log) (λ e. lens_of e first) answer t in
    subst (AnswerFits log) (chosen_some (nat_lt first (length o.0.lengths)) (LensMsg o.0.key first (take 512 (drop first o.0.lengths))) answer o.2) tt
reported_fits (DoneMsg key) log answer t =
    let o = on_some (entry_of key log) (λ e. Some (EndedMsg key)) answer t in subst (AnswerFits log) (some_is _ _ o.2) tt
reported_fits _ log answer t = none_is_some answer t

-- an entry's units lie within the script
pub units_within : (script : Key → List ℕ) (isn : Key → ℕ) (log : Log) (key : Key) (e : Entry) → EntriesFit script isn log.entries → entry_of key log ≡ Some e
    → EntryFits (script key) (isn key) e × (length e.bytes ≤ length (script key))
units_within script isn log key e fit found =
    let f : EntryFits (script e.key) (isn e.key) e = all_find (λ x. EntryFits (script x.key) (isn x.key) x) (λ x. key_eq x.key key) log.entries e fit found in
    let same : e.key ≡ key = same_key e.key key (found_passes (λ x. key_eq x.key key) log.entries e found) in
    let g : EntryFits (script key) (isn key) e = subst (λ k. EntryFits (script k) (isn k) e) same f in
    (g, prefix_length e.bytes (script key) g.front)

-- an acknowledgement of what is logged
pub acknowledges_units : (script : Key → List ℕ) (isn : Key → ℕ) (log : Log) (segment : Segment) (key : Key) (e : Entry) (n cisn : ℕ)
    → ((k : Key) → length (script k) ≤ 2 ^ 24) → EntriesFit script isn log.entries → entry_of key log ≡ Some e → n ≤ length e.bytes + one_if e.fin
    → cisn ≡ isn key → destination_of segment ≡ key → segment.head.ack ≡ number_at cisn n → Acknowledges isn log (To_client segment)
acknowledges_units script isn log segment key e n cisn short fit found low c to ack = λ a r.
    let within = units_within script isn log key e fit found in
    let one : one_if e.fin ≤ 1 = one_at_most e.fin in
    let small : length (script key) ≤ 2 ^ 24 = short key in
    let size : n < 2 ^ 31 = omega (arith, low, within.1, one, small) in
    let at : ack_of (isn (destination_of segment)) segment ≡ pos n =
    ap (λ k. offset_of (isn k) segment.head.ack) to ∙ (ap (λ x. offset_of (isn key) x) (ack ∙ ap (λ x. number_at x n) c) ∙ offset_of_number (isn key) n size) in
    let units : logged_units (destination_of segment) log ≡ length e.bytes + one_if e.fin = ap (λ k. logged_units k log) to ∙ ap units_in found in
    subst (λ z. z ≤ℤ pos (logged_units (destination_of segment) log)) (sym at)
    (subst (λ m. pos n ≤ℤ pos m) (sym units) (omega (arith, ints, low)))

-- the news are so
abbrev pub NewsKnown : Log → Point → News → Type 0
NewsKnown log p (Logged kept) = IsKept log kept × (kept.key ≡ p.key)
NewsKnown log p _ = Unit {0}

known_after : (log : Log) (news : News) (p q : Point) → IsKnown log p → NewsKnown log p news
    → q.key ≡ p.key → q.sisn ≡ p.sisn → q.answered ≡ answered_after news p → q.reads_answered ≡ reads_answered_after news p → IsKnown log q
unfolding answered_after reads_answered_after
known_after log (Logged kept) p q k n key sisn answered reads =
    let same : entry_of kept.key log ≡ Some k.entry = ap (λ x. entry_of x log) n.1 ∙ k.found in
    let units : kept.length + one_if kept.fin ≤ length k.entry.bytes + one_if k.entry.fin = subst (λ o. kept.length + one_if kept.fin ≤ units_in o) same n.0.0 in
    let count : kept.reads ≤ length k.entry.lengths = subst (λ o. kept.reads ≤ length (lengths_in o)) same n.0.1 in
    record {
      entry = k.entry;
      found = ap (λ x. entry_of x log) key ∙ k.found;
      sisn = k.sisn ∙ sym sisn;
      answered = omega (arith, answered, units, k.answered);
      reads = omega (arith, reads, count, k.reads);
    }
known_after log news p q k n key sisn answered reads = record {
  entry = k.entry;
  found = ap (λ x. entry_of x log) key ∙ k.found;
  sisn = k.sisn ∙ sym sisn;
  answered = omega (arith, answered, k.answered);
  reads = omega (arith, reads, k.reads);
}

bodies_fit : (script : Key → List ℕ) (isn : Key → ℕ) (log : Log) (boot : ℕ) (bodies : List Body) → AllByRecursion (BodyFits script isn) bodies
    → AllByRecursion (IsFit script isn log) (map (reported_by boot) bodies)
bodies_fit script isn log boot [] a = tt
bodies_fit script isn log boot (body ∷ bodies) a = ((a.0, tt), bodies_fit script isn log boot bodies a.1)

data_fits : (script : Key → List ℕ) (isn : Key → ℕ) (body : Body) → DataFits script body → BodyFits script isn body
data_fits script isn (DataMsg part) f = f
data_fits script isn _ f = absurd f

reads_fit : (script : Key → List ℕ) (isn : Key → ℕ) (key : Key) (index : ℕ) (lengths : List ℕ) → AllByRecursion (BodyFits script isn) (read_messages key index lengths)
reads_fit script isn key index [] = tt
reads_fit script isn key index (n ∷ lengths) = (tt, reads_fit script isn key (index + 1) lengths)

dones_fit : (script : Key → List ℕ) (isn : Key → ℕ) (news : News) (p q : Point) → AllByRecursion (BodyFits script isn) (dones news p q)
unfolding dones
dones_fit script isn news p q = holds_if (AllByRecursion (BodyFits script isn)) (reports_done news p q) (DoneMsg q.key ∷ []) [] (λ t. (tt, tt)) (λ t. tt)

reported_reads_fit : (script : Key → List ℕ) (isn : Key → ℕ) (news : News) (p q : Point) → AllByRecursion (BodyFits script isn) (reads_reported news p q)
unfolding reads_reported
reported_reads_fit script isn news p q = reads_fit script isn q.key (first_reported news p q) (drop (first_reported news p q) q.lengths)

reset_fits : (script : Key → List ℕ) (isn : Key → ℕ) (log : Log) (boot : ℕ) (news : News) (p q : Point) (sent : List Packet)
    → NewsKnown log p news → PlaceFits script isn log (Lives p) → ResetTurn boot news p q sent
    → PlaceFits script isn log (Lives q) × AllByRecursion (IsFit script isn log) sent
reset_fits script isn log boot news p q sent n f t =
    let after : Point = record p { answered = answered_after news p; reads_answered = reads_answered_after news p; reset = true } in
    let taken : HasTaken (script p.key) (isn p.key) after = record { fronts = f.0.fronts; behind = f.0.behind; cisn = f.0.cisn } in (
      subst (λ x. PlaceFits script isn log (Lives x)) (sym t.point) (taken, known_after log news p after f.1 n refl refl refl refl),
      subst (AllByRecursion (IsFit script isn log)) (sym t.packets) (bodies_fit script isn log boot (dones news p q) (dones_fit script isn news p q)),
    )

live_fits : {State : Type 0} (service : Machine State) (server : Addr) (script : Key → List ℕ) (isn : Key → ℕ) (log : Log) (boot : ℕ) (news : News) (p q : Point) (sent : List Packet)
    → ((k : Key) → length (script k) ≤ 2 ^ 24) → EntriesFit script isn log.entries
    → NewsFits (script p.key) (isn p.key) news → NewsKnown log p news → PlaceFits script isn log (Lives p) → LiveTurn service server boot news p q sent
    → PlaceFits script isn log (Lives q) × AllByRecursion (IsFit script isn log) sent
live_fits service server script isn log boot news p q sent short entries nf n f t =
    let key : p.key ≡ q.key = sym t.same.key in
    let at_p : HasTaken (script p.key) (isn p.key) q = taken_fits service server boot (script p.key) (isn p.key) news p q sent nf f.0 t in
    let taken : HasTaken (script q.key) (isn q.key) q = subst (λ k. HasTaken (script k) (isn k) q) key at_p in
    let nfq : NewsFits (script q.key) (isn q.key) news = subst (λ k. NewsFits (script k) (isn k) news) key nf in
    let known : IsKnown log q = known_after log news p q f.1 n t.same.key t.same.sisn t.answered t.reads_answered in
    let segments : AllByRecursion (λ s. IsFit script isn log (To_client s)) (segments_of service server news p q) =
    all_weaker (Spoken service server news p q) (λ s. IsFit script isn log (To_client s)) (segments_of service server news p q)
    (λ s spoken. let h : IsHeaded q s = headed service server news p q s spoken in
    (tt, acknowledges_units script isn log s q.key known.entry (acknowledgement q) q.cisn short entries known.found (omega (arith, known.answered)) taken.cisn h.destination h.ack))
    (segments_spoken service server news p q) in
    let bodies : AllByRecursion (BodyFits script isn) (copies news p q ++ (reads_reported news p q ++ dones news p q)) =
    all_append (BodyFits script isn) (copies news p q) _
    (all_weaker (DataFits script) (BodyFits script isn) (copies news p q) (data_fits script isn) (copies_fit script (isn q.key) news p q (taken_more news p q t.taken) nfq taken))
    (all_append (BodyFits script isn) (reads_reported news p q) (dones news p q) (reported_reads_fit script isn news p q) (dones_fit script isn news p q)) in (
      (taken, known),
      subst (AllByRecursion (IsFit script isn log)) (sym t.packets)
          (all_append (IsFit script isn log) (map To_client (segments_of service server news p q)) _ (all_map (IsFit script isn log) To_client (segments_of service server news p q) segments)
          (bodies_fit script isn log boot (copies news p q ++ (reads_reported news p q ++ dones news p q)) bodies)),
    )

pub connection_fits : {State : Type 0} (service : Machine State) (server : Addr) (script : Key → List ℕ) (isn : Key → ℕ) (log : Log) (boot : ℕ) (news : News) (p q : Point) (sent : List Packet)
    → ((k : Key) → length (script k) ≤ 2 ^ 24) → EntriesFit script isn log.entries
    → NewsFits (script p.key) (isn p.key) news → NewsKnown log p news → PlaceFits script isn log (Lives p) → ConnectionTurn service server boot news p q sent
    → PlaceFits script isn log (Lives q) × AllByRecursion (IsFit script isn log) sent
connection_fits service server script isn log boot news p q sent short entries nf n f =
    either_turn service server boot news p q sent (reset_fits script isn log boot news p q sent n f)
    (live_fits service server script isn log boot news p q sent short entries nf n f)
