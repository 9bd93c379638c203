-- The north wrapper feeds TCP: what it calls is what the laws of TCP ask of a user, for the service after what is swallowed.
use Rattle.std.proofs.Common.{◌≡◌, ℕ, ◌≤◌, ◌+◌, ◌-◌, ◌^◌, ◌⊎◌, inl, inr, ⊎_elim, Bool, true, false, true≢false, List, [], ◌∷◌, ◌++◌, length, length-append, length-take, length-drop, take, drop, map, sum, min, max, refl, sym, ap, subst, arith, drop-drop, ◌∙◌}
use Rattle.std.specs.Prelude.{◌==◌, ◌&&◌, ◌||◌, if◌then◌else◌}
use Rattle.std.proofs.lemmas.Bool.{false≢true}
use Rattle.server_trait.specs.Service.{Machine, reference}
use Rattle.seq_arith.specs.Offset.{one_if}
use Rattle.ft_model.specs.Growth.{IsPrefix}
use Rattle.ft_model.specs.Point.{Point, answered_run, released, made}
use Rattle.ft_model.specs.Network.{Packet}
use Rattle.ft_model.specs.News.{News}
use Rattle.ft_model.specs.Taken.{taken_after}
use Rattle.ft_model.specs.Sending.{acknowledged_after}
use Rattle.ft_model.proofs.Services.{RunExtends, reads_proceed, more_bytes, prefix_length, sum_take}
use Rattle.tcp_endpoint.specs.ReceiveHalf.{taken}
use Rattle.tcp_endpoint.specs.SendHalf.{Sending, bytes_end}
use Rattle.tcp_endpoint.specs.Tcb.{Tcb}
use Rattle.tcp_endpoint.specs.Output.{flushed}
use Rattle.tcp_endpoint.specs.UserCalls.{after_read, after_write, closing, write_room, is_ended}
use Rattle.endpoint_laws.specs.Laws.{IsBounded}
use Rattle.endpoint_laws.specs.Turn.{Call, MayUse, IsUsualNews, arrived, used}
use Rattle.endpoint_laws.specs.Turn.Call.{Reads}
use Rattle.endpoint_laws.specs.Refinement.{ReceivesAt, IsUsedAt, HasWrittenAll, HasFilled}
use Rattle.endpoint_laws.proofs.Calls.{FinIsLast, IsUsed, used_is, bounded_used}
use Rattle.endpoint_laws.proofs.Arrivals.{Arrived, arrives}
use Rattle.endpoint_laws.proofs.EndingLaw.{reset_law, used_keeps, call_resets}
use Rattle.endpoint_laws.proofs.TurnEnd.{flush_keeps}
use Rattle.north_wrap.specs.declared.read_record.ReadRecord.{ReadRecord}
use Rattle.north_wrap.specs.NorthState.{NorthState, lengths_of}
use Rattle.north_wrap.specs.Refinement.{NorthStands, NorthTurn, HoldsUpTo, HoldingLaws, given_more, given_text, written, read_off, off_socket, AreThere, with_reads, is_all_given}
use Rattle.north_wrap.proofs.Holding.{holding_laws}
use Rattle.north_wrap.proofs.Logged.{answered_front, answered_stays, all_released}
use Rattle.connection_laws.specs.Inside.{swallowing, inside}
use Rattle.connection_laws.specs.Traffic.{news_inside}
use Rattle.connection_laws.specs.Turn.{StandsInside}
use Rattle.connection_laws.specs.OutputFeed.{tcp_reader, tcp_writer, Feeds, north_calls, before_reads, TurnsNorth, given_after, FedBy, FedInside}
use Rattle.connection_laws.proofs.Swallowed.{inside_runs, inside_released}
use Rattle.connection_laws.proofs.Whole.{usual_news, above}
use Rattle.connection_laws.proofs.Outliving.{front_proceeds, reads_rise}
use Rattle.connection_laws.proofs.Meets.{laws_inside}
use Rattle.connection_laws.proofs.Again.{stays}
use Rattle.connection_laws.proofs.TcpEnd.{unreset, flushed_reset}
use Rattle.connection_laws.proofs.SendBuffer.{KeepsOutput, news_keep, end_kept}
use Rattle.connection_laws.proofs.Flushed.{end_flushed}
use Rattle.ft_model.proofs.Running.{taken_grows}

-- the calls
used_reads : (e : Tcb) (ks : List ℕ) → read_off after_read e ks ≡ used (map Reads ks) e
used_reads e [] = refl
used_reads e (k ∷ ks) = used_reads (after_read e k) ks

pub calls_are : (text : List ℕ) (closes : Bool) (ks : List ℕ) (m : Tcb) → read_off after_read (written tcp_writer m text closes) ks ≡ used (north_calls text closes ks) m
calls_are text true ks m = used_reads (closing (after_write m text)) ks
calls_are text false ks m = used_reads (after_write m text) ks

may_read : (ks : List ℕ) (m : Tcb) → AreThere tcp_reader m ks → MayUse (map Reads ks) m
may_read [] m there = tt
may_read (k ∷ ks) m there = (there.0, may_read ks (after_read m k) there.1)

may_call : (text : List ℕ) (closes : Bool) (ks : List ℕ) (m : Tcb) → length text ≤ write_room m → bytes_end m.sending + length text ≤ 2 ^ 24
    → AreThere tcp_reader (written tcp_writer m text closes) ks → MayUse (north_calls text closes ks) m
may_call text true ks m room few there = ((room, few), (tt, may_read ks (closing (after_write m text)) there))
may_call text false ks m room few there = ((room, few), may_read ks (after_write m text) there)

reads_hold : (ks : List ℕ) (m : Tcb) → (used (map Reads ks) m).sending.held ≡ m.sending.held
reads_hold [] m = refl
reads_hold (k ∷ ks) m = reads_hold ks (after_read m k)

held_then : (text : List ℕ) (closes : Bool) (ks : List ℕ) (m : Tcb) → (used (north_calls text closes ks) m).sending.held ≡ m.sending.held ++ text
held_then text true ks m = reads_hold ks (closing (after_write m text))
held_then text false ks m = reads_hold ks (after_write m text)

-- the run over what is logged goes on
none_more : (xs : List ℕ) → xs ++ [] ≡ xs
none_more [] = refl
none_more (x ∷ xs) = ap (λ l. x ∷ l) (none_more xs)

front_if : (b : Bool) (xs more : List ℕ) → IsPrefix xs (if b then xs ++ more else xs)
front_if true xs more = (more, refl)
front_if false xs more = ([], none_more xs)

pub answered_goes : {State : Type 0} (service : Machine State) (news : News) (p q : Point) (more : List ℕ) → sum p.lengths ≤ length p.taken → q.taken ≡ taken_after news p
    → p.reads_answered ≤ q.reads_answered → q.lengths ≡ p.lengths ++ more → RunExtends (answered_run service p) (answered_run service q)
answered_goes service news p q more enough taken rises lengths =
    let front : IsPrefix p.taken q.taken = subst (IsPrefix p.taken) (sym taken) (taken_grows news p) in
    let few : sum (take p.reads_answered p.lengths) ≤ length p.taken = omega (arith, enough, sum_take p.reads_answered p.lengths) in
    let here : reference service q.taken (take p.reads_answered p.lengths) ≡ answered_run service p = more_bytes service p.taken q.taken (take p.reads_answered p.lengths) front few in
    subst (λ r. RunExtends r (answered_run service q)) here
    (subst (λ l. RunExtends (reference service q.taken (take p.reads_answered p.lengths)) (reference service q.taken (take q.reads_answered l))) (sym lengths)
    (reads_proceed service q.taken (take p.reads_answered p.lengths) (take q.reads_answered (p.lengths ++ more)) (front_proceeds p.reads_answered q.reads_answered p.lengths more rises)))

-- what TCP holds, step by step: more may leave, some is acknowledged, some is written, and a flush
pub fed_later : {State : Type 0} (service : Machine State) (u : ℕ) (p q : Point) (given : ℕ) (e : Tcb) → RunExtends (answered_run service p) (answered_run service q)
    → Feeds service u p given e → Feeds service u q given e
fed_later service u p q given e goes f =
    let laws : HoldingLaws (answered_run service p).output (e.sending.una + u) given e.sending.held =
    holding_laws (answered_run service p).output (e.sending.una + u) given e.sending.held f.holds in
    let longer : length (answered_run service p).output ≤ length (answered_run service q).output = prefix_length _ _ goes.output in
    record {
      holds = subst (λ l. HoldsUpTo l (e.sending.una + u) given e.sending.held) goes.output.1 (laws.longer goes.output.0 f.low);
      until = f.until;
      low = omega (arith, f.low, longer);
      queued = f.queued;
    }

further : (u una una' : ℕ) → una ≤ una' → una + u + (una' - una) ≡ una' + u
further u una una' h = omega (arith, h)

pub fed_arrived : {State : Type 0} (service : Machine State) (u : ℕ) (q : Point) (given : ℕ) (e m : Tcb) → KeepsOutput e.sending m.sending → e.sending.una ≤ m.sending.una
    → m.sending.una ≤ m.sending.sent → e.sending.sent ≤ e.sending.una + length e.sending.held + one_if e.sending.fin_sent → Feeds service u q given e → Feeds service u q given m
fed_arrived service u q given e m keeps rises order flight f =
    let output : List ℕ = (answered_run service q).output in
    let count : ℕ = m.sending.una - e.sending.una in
    let laws : HoldingLaws output (e.sending.una + u) given e.sending.held = holding_laws output (e.sending.una + u) given e.sending.held f.holds in
    let size : length m.sending.held ≡ length e.sending.held - count = ap length keeps.held ∙ length-drop count e.sending.held in
    record {
      holds = keeps.held ∙ laws.acknowledged count ∙ ap (λ n. drop n (take given output)) (further u e.sending.una m.sending.una rises);
      until = ap (λ n. n + u) (end_kept e.sending m.sending keeps rises order flight) ∙ f.until;
      low = f.low;
      queued = omega (arith, size, f.queued);
    }

end_written : (f : Bool) (una len sent more : ℕ) → (f ≡ true → more ≡ 0) → (if f then sent - 1 else una + (len + more)) ≡ (if f then sent - 1 else una + len) + more
end_written true una len sent more h = omega (arith, h refl)
end_written false una len sent more h = omega arith

-- after a FIN nothing is written
pub room_none : (c r : Bool) (n : ℕ) → c ≡ true → (if c || r then 0 else n) ≡ 0
room_none true r n h = refl
room_none false r n h = absurd (false≢true h)

within_given : (f : Bool) (una len sent u given more : ℕ) → (if f then sent - 1 else una + len) + u ≡ given → (f ≡ true → more ≡ 0) → (una + u ≤ given) ⊎ (more ≡ 0)
within_given true una len sent u given more until none = inr (none refl)
within_given false una len sent u given more until none = inl (omega (arith, until))

room_of : (c r : Bool) (len : ℕ) → (if c || r then 0 else 65535 - len) ≤ 65535 - len
room_of true r len = omega arith
room_of false true len = omega arith
room_of false false len = omega arith

-- how much is written
record Writing {State : Type 0} (service : Machine State) (q : Point) (given : ℕ) (m : Tcb) (more : ℕ) : Type 0 where
  within : more ≤ released service q - given
  room : more ≤ write_room m

fed_written : {State : Type 0} (service : Machine State) (u : ℕ) (q : Point) (given more : ℕ) (m t : Tcb) → Feeds service u q given m → FinIsLast m.sending
    → Writing service q given m more → t.sending.held ≡ m.sending.held ++ take more (drop given (answered_run service q).output) → t.sending.una ≡ m.sending.una
    → t.sending.sent ≡ m.sending.sent → t.sending.fin_sent ≡ m.sending.fin_sent → Feeds service u q (given + more) t
fed_written service u q given more m t f last w held una sent fin_sent =
    let output : List ℕ = (answered_run service q).output in
    let s = m.sending in
    let none : s.fin_sent ≡ true → more ≡ 0 = λ h. omega (arith, w.room, room_none s.closed m.reset (65535 - length s.held) (last h).0) in
    let laws : HoldingLaws output (s.una + u) given s.held = holding_laws output (s.una + u) given s.held f.holds in
    let text : length (take more (drop given output)) ≡ more =
    length-take more (drop given output) ∙ ap (min more) (length-drop given output) ∙ omega (arith, w.within) in
    let size : length t.sending.held ≡ length s.held + more = ap length held ∙ length-append s.held (take more (drop given output)) ∙ ap (λ n. length s.held + n) text in
    record {
      holds = held ∙ laws.more more f.low (within_given s.fin_sent s.una (length s.held) s.sent u given more f.until none)
          ∙ ap (λ n. drop (n + u) (take (given + more) output)) (sym una);
      until = (λ j. (if fin_sent j then sent j - 1 else una j + size j) + u)
          ∙ ap (λ n. n + u) (end_written s.fin_sent s.una (length s.held) s.sent more none) ∙ swapped (bytes_end s) more u given f.until;
      low = omega (arith, f.low, w.within);
      queued = omega (arith, size, f.queued, w.room, room_of s.closed m.reset (length s.held));
    }
  where
    swapped : (end more u given : ℕ) → end + u ≡ given → end + more + u ≡ given + more
    swapped end more u given h = omega (arith, h)

pub fed_flushed : {State : Type 0} (service : Machine State) (u : ℕ) (q : Point) (given : ℕ) (t : Tcb) → IsBounded t → Feeds service u q given t → Feeds service u q given (flushed t)
fed_flushed service u q given t bounds f =
    let output : List ℕ = (answered_run service q).output in
    let held = flush_keeps (λ (s : Sending). s.held) t (record { sends = λ s n. refl; ends = λ s. refl; times = λ s t x y. refl }) in
    let una = flush_keeps (λ (s : Sending). s.una) t (record { sends = λ s n. refl; ends = λ s. refl; times = λ s t x y. refl }) in
    record {
      holds = held ∙ f.holds ∙ ap (λ n. drop (n + u) (take given output)) (sym una);
      until = ap (λ n. n + u) (end_flushed t bounds) ∙ f.until;
      low = f.low;
      queued = subst (λ (l : List ℕ). length l ≤ 65535) (sym held) f.queued;
    }

-- where all that may leave is given, TCP is closed as the service is, and where it is closed, all is given
closed_as : (logged closed : Bool) (made given released : ℕ) → closed ≡ (logged && made == given) → (logged ≡ true → made ≡ released) → given ≡ released → logged ≡ closed
closed_as true closed made given released e all g = let m : made ≡ given = all refl ∙ sym g in grind (arith, e, m)
closed_as false closed made given released e all g = sym e

given_all : (logged closed : Bool) (made given released : ℕ) → closed ≡ (logged && made == given) → (logged ≡ true → made ≡ released) → closed ≡ true → given ≡ released
given_all true closed made given released e all c = let m : made ≡ released = all refl in grind (arith, e, m, c)
given_all false closed made given released e all c = absurd (true≢false (sym c ∙ e))

-- what is written, after what is swallowed
pub record IsShut {State : Type 0} (service : Machine State) (q : Point) (given : ℕ) (s : Sending) : Type 0 where
  pub closed_is : s.closed ≡ ((answered_run service q).closed && made service q == given)
  pub all_or_full : (given ≡ released service q) ⊎ (length s.held ≡ 65535)

less_is : (end u given r : ℕ) → end + u ≡ given → given ≡ r → r - u ≡ end
less_is end u given r a b = omega (arith, a, b)

at_most : (end u given r : ℕ) → end + u ≡ given → given ≤ r → end ≤ r - u
at_most end u given r a b = omega (arith, a, b)

written_inside : {State : Type 0} (service : Machine State) (u i : ℕ) (q : Point) (given : ℕ) (t : Tcb) (closed : Bool) → t.sending.closed ≡ closed → Feeds service u q given t
    → IsShut service q given t.sending
    → HasWrittenAll (swallowing u service) (inside u i q) t.sending ⊎ HasFilled (swallowing u service) (inside u i q) t.sending
written_inside service u i q given t closed is f s =
    let all : (answered_run service q).closed ≡ true → made service q ≡ released service q = all_released service q in
    let whole : given ≡ released service q → HasWrittenAll (swallowing u service) (inside u i q) t.sending =
    λ g. record {
      written = inside_released service u i q ∙ less_is (bytes_end t.sending) u given (released service q) f.until g;
      closed = ap (λ r. r.closed) (inside_runs service u i q) ∙ closed_as (answered_run service q).closed t.sending.closed (made service q) given (released service q) s.closed_is all g;
    } in
    ⊎_elim (λ g. inl (whole g)) (λ full. by_close closed is full whole) s.all_or_full
  where
    by_close : (b : Bool) → t.sending.closed ≡ b → length t.sending.held ≡ 65535 → (given ≡ released service q → HasWrittenAll (swallowing u service) (inside u i q) t.sending)
        → HasWrittenAll (swallowing u service) (inside u i q) t.sending ⊎ HasFilled (swallowing u service) (inside u i q) t.sending
    by_close true c full whole =
        inl (whole (given_all (answered_run service q).closed t.sending.closed (made service q) given (released service q) s.closed_is (all_released service q) c))
    by_close false c full whole = inr (record {
      full = full;
      open_still = c;
      written = subst (λ n. bytes_end t.sending ≤ n) (sym (inside_released service u i q)) (at_most (bytes_end t.sending) u given (released service q) f.until f.low);
    })

pub used_inside : {State : Type 0} (service : Machine State) (u i : ℕ) (q : Point) (given : ℕ) (t : Tcb) → Feeds service u q given t → IsShut service q given t.sending
    → max q.fetched (sum q.lengths) ≡ t.receiving.read + q.fetched → IsUsedAt (swallowing u service) (inside u i q) t
used_inside service u i q given t f s read =
    let output : List ℕ = (answered_run service q).output in
    let n : ℕ = length t.sending.held in
    let una : ℕ = t.sending.una in
    record {
      read = read;
      output = ap (λ r. take n (drop una r.output)) (inside_runs service u i q) ∙ ap (take n) (drop-drop una u output ∙ ap (λ m. drop m output) (omega arith))
          ∙ (holding_laws output (una + u) given t.sending.held f.holds).front f.low;
      written = written_inside service u i q given t t.sending.closed refl f s;
      answered = omega arith;
    }

-- what is read
read_is : (fetched sum all taken read unread : ℕ) → all ≡ taken + fetched → read + unread ≡ taken → unread ≡ all - max fetched sum → sum ≤ all → fetched ≤ all
    → max fetched sum ≡ read + fetched
read_is fetched sum all taken read unread a b c d e = omega (arith, a, b, c, d, e)

or_off : (c r x : Bool) → r ≡ false → (c || r) ≡ x → c ≡ x
or_off true r x off is = is
or_off false r x off is = sym off ∙ is

-- the room is used up, or TCP is closed, and then all was given
full_by : (c r : Bool) (len held more given released : ℕ) → r ≡ false → more ≡ (if c || r then 0 else 65535 - len) → held ≡ len + more → len ≤ 65535 → (c ≡ true → given ≡ released)
    → (given + more ≡ released) ⊎ (held ≡ 65535)
full_by true r len held more given released off m h few all = let g : given ≡ released = all refl in inl (omega (arith, m, g))
full_by false true len held more given released off m h few all = absurd (true≢false off)
full_by false false len held more given released off m h few all = inr (omega (arith, m, h, few))

-- TCP before a turn of the north wrapper, at the point after it
pub record IsReady {S : Type 0} (service : Machine S) (u : ℕ) (q : Point) (given : ℕ) (old : NorthState S) (m : Tcb) : Type 0 where
  pub fed : Feeds service u q given m
  pub bounds : IsBounded m
  pub last : FinIsLast m.sending
  pub kept : m.reset ≡ false
  pub shut : m.sending.closed ≡ old.shut
  pub taken_is : length q.taken ≡ taken m.receiving + q.fetched
  pub short : released service q ≤ 2 ^ 24

-- the point before the reads
abbrev pub reading : List ℕ → Point → Point
reading lengths q = record q { lengths = lengths }

pub full_flushed : {State : Type 0} (service : Machine State) (q : Point) (given : ℕ) (w : Tcb) → (given ≡ released service q) ⊎ (length w.sending.held ≡ 65535)
    → (given ≡ released service q) ⊎ (length (flushed w).sending.held ≡ 65535)
full_flushed service q given w h =
    let held = flush_keeps (λ (s : Sending). s.held) w (record { sends = λ s n. refl; ends = λ s. refl; times = λ s t x y. refl }) in
    ⊎_elim (λ g. inl g) (λ full. inr (ap length held ∙ full)) h

pub north_calls_feed : {S : Type 0} (service : Machine S) (u i given : ℕ) (lengths : List ℕ) (q : Point) (old new : NorthState S) (reads : List ReadRecord) (m t : Tcb)
    → IsReady service u q given old m → q.lengths ≡ lengths ++ lengths_of reads → NorthStands service (reading lengths q) given old
    → (turn : NorthTurn service tcp_reader tcp_writer (reading lengths q) given old m reads new t)
    → (t ≡ used (north_calls (given_text service (reading lengths q) (write_room m) given) turn.closes (off_socket (length old.rest) (lengths_of reads))) m)
    × FedBy service u i q (given + given_more service (reading lengths q) (write_room m) given) new
    (north_calls (given_text service (reading lengths q) (write_room m) given) turn.closes (off_socket (length old.rest) (lengths_of reads))) m
north_calls_feed service u i given lengths q old new reads m t ready lengths_are stands turn =
    let b : Point = reading lengths q in
    let ks : List ℕ = lengths_of reads in
    let room : ℕ = write_room m in
    let more : ℕ = given_more service b room given in
    let text : List ℕ = given_text service b room given in
    let off : List ℕ = off_socket (length old.rest) ks in
    let calls : List Call = north_calls text turn.closes off in
    let w : Tcb = used calls m in
    let few_reads : q.reads_answered ≤ length lengths = omega (arith, stands.unanswered) in
    let q_is : with_reads ks b ≡ q = λ j. record q { lengths = sym lengths_are j } in
    let run_is : answered_run service b ≡ answered_run service q = sym (answered_stays service b ks few_reads) ∙ ap (answered_run service) q_is in
    let released_is : released service b ≡ released service q = ap (λ x. length x.output) run_is in
    let output : List ℕ = (answered_run service q).output in
    let writes : Writing service q given m more = record { within = omega (arith, released_is); room = omega arith } in
    let text_is : text ≡ take more (drop given output) = ap (λ x. take more (drop given x.output)) run_is in
    let long : length text ≡ more =
    ap length text_is ∙ length-take more (drop given output) ∙ ap (min more) (length-drop given output) ∙ omega (arith, writes.within) in
    let may : MayUse calls m =
    may_call text turn.closes off m (omega (arith, long, writes.room)) (omega (arith, long, ready.fed.until, ready.fed.low, writes.within, ready.short)) turn.there in
    let is : t ≡ w = turn.socket ∙ calls_are text turn.closes off m in
    let a : IsUsed m w = used_is calls m may in
    let bounds : IsBounded w = bounded_used calls m may ready.last ready.bounds in
    let held : w.sending.held ≡ m.sending.held ++ take more (drop given output) = held_then text turn.closes off m ∙ ap (λ l. m.sending.held ++ l) text_is in
    let fed : Feeds service u q (given + more) w =
    fed_written service u q given more m w ready.fed ready.last writes held a.sends.una a.sends.sent a.sends.fin_sent in
    let reset_w : w.reset ≡ false = used_keeps (λ (x : Tcb). x.reset) call_resets calls m ∙ ready.kept in
    let closed_w : w.sending.closed ≡ new.shut = or_off w.sending.closed w.reset new.shut reset_w (ap is_ended (sym is) ∙ turn.tcp.shut) in
    let shut_as : new.shut ≡ is_all_given service q (given + more) = turn.shut ∙ ap (λ x. is_all_given service x (given + more)) q_is in
    let size : length w.sending.held ≡ length m.sending.held + more =
    ap length held ∙ length-append m.sending.held (take more (drop given output)) ∙ ap (λ n. length m.sending.held + n) (sym (ap length text_is) ∙ long) in
    let all_then : m.sending.closed ≡ true → given ≡ released service q =
    λ c.
    let g : given ≡ made service b = stands.shut_given (sym ready.shut ∙ c) in
    let less : released service b ≤ made service b = prefix_length _ _ (answered_front service b).output in
    omega (arith, g, less, released_is, ready.fed.low) in
    let full : (given + more ≡ released service q) ⊎ (length w.sending.held ≡ 65535) =
    ⊎_elim (λ g. inl (g ∙ released_is))
    (λ x. full_by m.sending.closed m.reset (length m.sending.held) (length w.sending.held) more given (released service q) ready.kept x size ready.fed.queued all_then) turn.given_all in
    let all_taken : length q.taken ≡ taken w.receiving + q.fetched = ready.taken_is ∙ ap (λ n. n + q.fetched) (sym a.taken) in
    let unread : length w.receiving.unread ≡ length q.taken - max q.fetched (sum q.lengths) =
    ap (λ (x : Tcb). length x.receiving.unread) (sym is) ∙ ap length turn.tcp.queue.waits ∙ length-drop (max q.fetched (sum (lengths ++ ks))) q.taken
    ∙ ap (λ l. length q.taken - max q.fetched (sum l)) (sym lengths_are) in
    let most : sum q.lengths ≤ length q.taken = subst (λ l. sum l ≤ length q.taken) (sym lengths_are) turn.stands.enough in
    let read : max q.fetched (sum q.lengths) ≡ w.receiving.read + q.fetched =
    read_is q.fetched (sum q.lengths) (length q.taken) (taken w.receiving) w.receiving.read (length w.receiving.unread) all_taken refl unread most turn.stands.fetched in (
      is,
      record {
        may = may;
        is_used = used_inside service u i q (given + more) w fed (record { closed_is = closed_w ∙ shut_as; all_or_full = full }) read;
        feeds = fed_flushed service u q (given + more) w bounds fed;
        kept = flushed_reset w ∙ reset_w;
        shut = flush_keeps (λ (s : Sending). s.closed) w (record { sends = λ s n. refl; ends = λ s. refl; times = λ s t x y. refl }) ∙ closed_w;
        exact = shut_as;
        all_or_full = full_flushed service q (given + more) w full;
      },
    )

pub from_start : (u given end r : ℕ) → end + u ≡ given → given ≤ r → u ≤ r
from_start u given end r a b = omega (arith, a, b)

pub north_feeds : {S : Type 0} (service : Machine S) (boot u i delta given : ℕ) (news : News) (p q : Point) (sent : List Packet) (old new : NorthState S) (reads : List ReadRecord) (e t : Tcb)
    → StandsInside u i delta p e → (k : TurnsNorth service boot u i delta news p q sent given old new reads e t)
    → FedInside service u i delta news p q (given_after service p q given (arrived (news_inside delta p news) e)) new
    (north_calls (given_text service (before_reads p q) (write_room (arrived (news_inside delta p news) e)) given) k.turn.closes (off_socket (length old.rest) (lengths_of reads)))
    e t
north_feeds service boot u i delta given news p q sent old new reads e t st k =
    let inner : News = news_inside delta p news in
    let m : Tcb = arrived inner e in
    let r : ReceivesAt (inside u i p) e = st.stands.receives in
    let enough : sum p.lengths ≤ length p.taken = omega (arith, r.read, r.long) in
    let rises : p.reads_answered ≤ q.reads_answered = omega (arith, reads_rise news p, k.goes.reads_answered) in
    let goes : RunExtends (answered_run service p) (answered_run service q) = answered_goes service news p q (lengths_of reads) enough k.goes.taken rises k.lengths in
    let usual : IsUsualNews inner e = usual_news u i delta p e news st.proceeds st.stands k.fits in
    let came : Arrived inner (inside u i p) e m = arrives inner (inside u i p) e st.begun st.between st.stands usual in
    let keeps : KeepsOutput e.sending m.sending = news_keep inner e st.begun st.between.bounds usual in
    let none : m.reset ≡ false = reset_law inner [] e st.begun ∙ (λ j. k.kept j || unreset u i delta p e news st k.unreset k.fits k.goes_unreset j) in
    let arrived_fed : Feeds service u q given m =
    fed_arrived service u q given e m keeps came.una came.bounds.order st.between.bounds.flight (fed_later service u p q given e goes k.feeds) in
    let above_u : u ≤ released service q = from_start u given (bytes_end e.sending) (released service q) k.feeds.until arrived_fed.low in
    let laws = laws_inside service e.local boot u i delta news p q sent st.proceeds k.fits
    (above u (acknowledged_after news p) q.una (stays u i delta news p st.proceeds k.fits).una k.goes.una) above_u k.goes in
    let fed = north_calls_feed service u i given p.lengths q old new reads m t (record {
      fed = arrived_fed;
      bounds = came.bounds;
      last = came.fin_last;
      kept = none;
      shut = keeps.closed ∙ k.shut;
      taken_is = ap length laws.taken ∙ came.receives.long ∙ ap (λ n. taken m.receiving + n) (sym k.goes.same.fetched);
      short = k.short;
    }) k.lengths k.stands k.turn in
    record { calls_are = fed.0; released = above_u; by = fed.1 }
