-- What a connection copies to the logger, and the law Copy.
use Rattle.std.proofs.Common.{◌≡◌, ℕ, ◌+◌, ◌-◌, ◌≤◌, Bool, true, false, not, List, [], ◌∷◌, ◌++◌, length, drop, min, max, refl, sym, ap, arith, ◌∙◌}
use Rattle.std.specs.Prelude.{◌&&◌, ◌+ℤ◌, nat_lt, nat_le, pos, if◌then◌else◌}
use Rattle.std.proofs.lemmas.List.{drop-drop}
use Rattle.tcp_rules.specs.Arrival.{int_eq}
use Rattle.seq_arith.specs.Message.{Kept, Body}
use Rattle.seq_arith.specs.Message.Body.{DataMsg}
use Rattle.seq_arith.specs.Packet.{Segment}
use Rattle.ft_model.specs.Copy as law
use Rattle.ft_model.specs.Copy.{from_start, datas}
use Rattle.ft_model.specs.News.News.{Comes, Logged, Ticks, Begins}
use Rattle.ft_model.specs.Offset.{first_of, text_of, fin_of}
use Rattle.ft_model.specs.Point.{Point}
use Rattle.ft_model.specs.Taken.{end_of}
use Rattle.south_wrap.specs.SouthState.{SouthState}
use Rattle.south_wrap.specs.Translation.{Copied, copied, is_some_copied}
use Rattle.wrapped_conn.specs.declared.stage.Before.{Before}
use Rattle.wrapped_conn.specs.ConnState.{ConnState}
use Rattle.wrapped_conn.specs.Numbers.{has_fin, fetched_or_read, una_units, bytes_taken, logged_units}
use Rattle.wrapped_conn.specs.LoggerMessages.{own_data, further_start, unread_from, further_data, or_una, in_batch, copies}

regrouped : (a b c d : Bool) → (a && (b && c && d)) ≡ (a && b && c && d)
regrouped true b c d = refl
regrouped false b c d = refl

abbrev by_law : Point → Segment → Copied
by_law q segment = record { offset = law.copy_start q segment; text = law.copied_text q segment; fin = law.copies_fin q segment }

abbrev with_numbers : (cisn answered taken : ℕ) → (fin : Bool) → SouthState → SouthState
with_numbers cisn answered taken fin s = record s { cisn = cisn; answered = answered; taken = taken; fin = fin }

copied_is : (s : SouthState) (q : Point) (segment : Segment) → s.cisn ≡ q.cisn → s.answered ≡ q.answered → s.taken ≡ length q.taken → s.fin ≡ q.fin → copied s segment ≡ by_law q segment
copied_is s q segment cisn answered taken fin =
    (λ j. copied (with_numbers (cisn j) (answered j) (taken j) (fin j) s) segment)
    ∙ (λ j. record {
      offset = law.copy_start q segment;
      text = law.copied_text q segment;
      fin = regrouped (fin_of segment) q.fin (int_eq (end_of q segment) (pos (length q.taken))) (nat_le q.answered (length q.taken)) j;
    })

-- what a connection tells of the points before and after a segment's turn, once the segment has come
pub record CopiesAt {S : Type 0} (before : Before) (p q : Point) (c : ConnState S) : Type 0 where
  pub cisn : c.south.cisn ≡ q.cisn
  pub south_answered : c.south.answered ≡ q.answered
  pub south_taken : c.south.taken ≡ length q.taken
  pub south_fin : c.south.fin ≡ q.fin
  pub key : c.key ≡ q.key
  pub taken_before : before.taken ≡ length p.taken
  pub fin_before : before.fin ≡ p.fin
  pub una_before : before.una ≡ p.una
  pub una : una_units c ≡ q.una
  pub answered : logged_units c ≡ q.answered
  pub bytes : bytes_taken c ≡ length q.taken
  pub fin : has_fin c.endpoint.name ≡ q.fin
  pub unread : drop (fetched_or_read c) q.taken ≡ c.endpoint.receiving.unread
  pub behind : fetched_or_read c ≤ before.taken
  pub batches : c.batches ≡ q.batches

own_is : {S : Type 0} (before : Before) (segment : Segment) (p q : Point) (c : ConnState S) → CopiesAt before p q c → own_data segment c ≡ law.own_data q segment
unfolding law.own_data
own_is before segment p q c k =
    let part : copied c.south segment ≡ by_law q segment = copied_is c.south q segment k.cisn k.south_answered k.south_taken k.south_fin in
    λ j. if is_some_copied (part j) then DataMsg (record { key = k.key j; offset = (part j).offset; acked = k.una j; fin = (part j).fin; more = false; bytes = (part j).text }) ∷ [] else []

start_is : {S : Type 0} (before : Before) (segment : Segment) (p q : Point) (c : ConnState S) → CopiesAt before p q c → further_start before segment c ≡ law.further_start p q segment
unfolding further_start
start_is before segment p q c k =
    λ j. max (k.answered j) (max (k.taken_before j) (min (from_start (first_of (k.cisn j) segment +ℤ pos (length (text_of segment)))) (k.bytes j)))

starts_behind : {S : Type 0} (before : Before) (segment : Segment) (c : ConnState S) → fetched_or_read c ≤ before.taken → fetched_or_read c ≤ further_start before segment c
unfolding further_start
starts_behind before segment c h = omega (arith, h)

rest_of : (read start : ℕ) (taken unread : List ℕ) → drop read taken ≡ unread → read ≤ start → drop (start - read) unread ≡ drop start taken
rest_of read start taken unread is h = ap (drop (start - read)) (sym is) ∙ drop-drop (start - read) read taken ∙ ap (λ n. drop n taken) (omega (arith, h))

text_is : {S : Type 0} (before : Before) (segment : Segment) (p q : Point) (c : ConnState S) → CopiesAt before p q c
    → unread_from c (further_start before segment c) ≡ law.further_text p q segment
text_is before segment p q c k =
    rest_of (fetched_or_read c) (further_start before segment c) q.taken c.endpoint.receiving.unread k.unread (starts_behind before segment c k.behind)
    ∙ ap (λ n. drop n q.taken) (start_is before segment p q c k)

further_is : {S : Type 0} (before : Before) (segment : Segment) (p q : Point) (c : ConnState S) → CopiesAt before p q c → further_data before segment c ≡ law.further_data p q segment
unfolding law.further_data
further_is before segment p q c k =
    let part : copied c.south segment ≡ by_law q segment = copied_is c.south q segment k.cisn k.south_answered k.south_taken k.south_fin in
    let start : further_start before segment c ≡ law.further_start p q segment = start_is before segment p q c k in
    let text : unread_from c (further_start before segment c) ≡ law.further_text p q segment = text_is before segment p q c k in
    λ j. datas (length (text j) + 1) (k.key j) (k.una j) (start j) (text j) (k.fin j && not (k.fin_before j) && not (part j).fin && nat_le (k.answered j) (k.bytes j))

or_una_is : {S : Type 0} (before : Before) (p q : Point) (c : ConnState S) → CopiesAt before p q c → (bodies : List Body) → or_una before.una c bodies ≡ law.or_una p q bodies
or_una_is before p q c k [] =
    λ j. if nat_lt (k.una_before j) (k.una j) then DataMsg (record { key = k.key j; offset = min (k.answered j) (k.bytes j); acked = k.una j; fin = false; more = false; bytes = [] }) ∷ [] else []
or_una_is before p q c k (first ∷ others) = refl

pub copies_is : {S : Type 0} (before : Before) (segment : Segment) (p q : Point) (c : ConnState S) → CopiesAt before p q c → copies before segment c ≡ law.copies (Comes segment) p q
unfolding copies law.copies
copies_is before segment p q c k =
    ap (in_batch c.batches) (or_una_is before p q c k (own_data segment c ++ further_data before segment c))
    ∙ (λ j. in_batch (k.batches j) (law.or_una p q (own_is before segment p q c k j ++ further_is before segment p q c k j)))

-- only of a segment is anything copied
pub none_of_logged : (kept : Kept) (p q : Point) → law.copies (Logged kept) p q ≡ []
unfolding law.copies
none_of_logged kept p q = refl

pub none_of_ticks : (p q : Point) → law.copies Ticks p q ≡ []
unfolding law.copies
none_of_ticks p q = refl

pub none_of_begins : (p q : Point) → law.copies Begins p q ≡ []
unfolding law.copies
none_of_begins p q = refl
