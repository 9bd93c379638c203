-- A turn of the north wrapper keeps it and TCP sound: what it writes has room in the stream, and what it reads is there.
use Rattle.std.proofs.Common.{◌≡◌, ℕ, zero, suc, ◌<◌, ◌≤◌, ◌+◌, ◌-◌, ◌^◌, ◌==◌, ◌&&◌, ◌||◌, Bool, true, false, true≢false, not, min, max, nat_lt, refl, sym, ◌∙◌, subst, Some, None, List, [], ◌∷◌, ◌++◌, length, take, drop, arith, length-append, length-drop, length-take}
use Rattle.std.proofs.lemmas.Bool.{false≢true, or_parts}
use Rattle.std.specs.List.{AllByRecursion}
use Rattle.seq_arith.specs.Offset.{one_if}
use Rattle.server_trait.specs.Service.{Served}
use Rattle.ft_model.proofs.Lists.{some_is, none_is_some, or_second}
use Rattle.north_wrap.specs.declared.read_record.ReadRecord.{ReadRecord}
use Rattle.north_wrap.specs.RunState.{RunState, run_on, served_on, given_count, gives}
use Rattle.north_wrap.specs.NorthState.{NorthState, Reads, Turns, Allows, next_length, next_at, is_free_to_read, length_of_next, read_on, socket_on, chunk_of, noted, record_of, unstable, given_north, given_socket, shut_north, shut_socket, closes, lengths_of}
use Rattle.tcp_endpoint.specs.declared.states.StateName.{StateName}
use Rattle.tcp_endpoint.specs.declared.states.StateName.TheVariants.{Closed, Listen, SynSent, SynReceived, Established, FinWait1, FinWait2, CloseWait, Closing, LastAck, TimeWait}
use Rattle.tcp_endpoint.specs.States.{after_close}
use Rattle.tcp_endpoint.specs.Tcb.{Tcb}
use Rattle.tcp_endpoint.specs.UserCalls.{after_read, closing, write_room}
use Rattle.endpoint_laws.specs.Laws.{IsBounded}
use Rattle.endpoint_laws.proofs.Bounding.{bounded_by_read, bounded_by_more}
use Rattle.connection_laws.specs.OutputFeed.{tcp_reader, tcp_writer}
use Rattle.wrapped_conn.specs.LoggerMessages.{IsWritable, AreWritable}
use Rattle.wrapped_conn.specs.Sound.{has_peer, AreSound}
use Rattle.seq_arith.proofs.Units.{one_at_most}
use Rattle.ft_io.proofs.Choices.{holds_if}
use Rattle.connection_laws.proofs.Fed.{room_none}

-- wrapper and TCP have gone on from others, and no segment came
pub record ServedOn {S : Type 0} (fetched : ℕ) (n : NorthState S) (e : Tcb) (m : NorthState S) (t : Tcb) : Type 0 where
  pub sound : AreSound fetched m t
  pub iss : t.sending.iss ≡ e.sending.iss
  pub mss : t.sending.mss ≡ e.sending.mss
  pub sent : t.sending.sent ≡ e.sending.sent
  pub bytes : max fetched m.read + length t.receiving.unread ≡ max fetched n.read + length e.receiving.unread
  pub rises : n.read ≤ m.read

on_and : {S : Type 0} (fetched : ℕ) (n : NorthState S) (e : Tcb) (m : NorthState S) (t : Tcb) (o : NorthState S) (u : Tcb) → ServedOn fetched n e m t → ServedOn fetched m t o u → ServedOn fetched n e o u
on_and fetched n e m t o u a b = record { sound = b.sound; iss = b.iss ∙ a.iss; mss = b.mss ∙ a.mss; sent = b.sent ∙ a.sent; bytes = b.bytes ∙ a.bytes; rises = omega (arith, a.rises, b.rises) }

-- what is known of a next read
ends_once : (a b : Bool) → (a && not b) ≡ true → b ≡ false
ends_once true true h = sym h
ends_once true false h = refl
ends_once false true h = sym h
ends_once false false h = refl

allows : {S : Type 0} (una readable : ℕ) (at_end : Bool) (n : NorthState S) (k : ℕ) → next_length una readable at_end n ≡ Some k → Allows readable k n
unfolding next_length
allows una readable at_end n k e =
    holds_if (λ o. o ≡ Some k → Allows readable k n) (is_free_to_read una n) (length_of_next (length n.rest) readable at_end n.ended) None
    (λ t. holds_if (λ o. o ≡ Some k → Allows readable k n) (nat_lt 0 (length n.rest)) (Some (min 2048 (length n.rest))) _
    (λ some f. let same : min 2048 (length n.rest) ≡ k = some_is _ _ f in record {
      most = omega (arith, same);
      room = grind (arith, t);
      fewer = grind (arith, t);
      rest = λ h. omega (arith, same);
      socket = λ h. absurd (grind (arith, some, h));
      once = λ z. absurd (grind (arith, some, same, z));
    })
    (λ x. holds_if (λ o. o ≡ Some k → Allows readable k n) (nat_lt 0 readable) (Some (min 2048 readable)) _
    (λ some f. let same : min 2048 readable ≡ k = some_is _ _ f in record {
      most = omega (arith, same);
      room = grind (arith, t);
      fewer = grind (arith, t);
      rest = λ h. absurd (grind (arith, x, h));
      socket = λ h. omega (arith, same);
      once = λ z. absurd (grind (arith, some, same, z));
    })
    (λ y. holds_if (λ o. o ≡ Some k → Allows readable k n) (at_end && not n.ended) (Some 0) None
    (λ z f. let same : 0 ≡ k = some_is _ _ f in record {
      most = omega (arith, same);
      room = grind (arith, t);
      fewer = grind (arith, t);
      rest = λ h. absurd (grind (arith, x, h));
      socket = λ h. omega (arith, same);
      once = λ q. ends_once at_end n.ended z;
    })
    (λ z f. none_is_some k f))))
    (λ t f. none_is_some k f) e

-- the service's run: at most a mebibyte is made of a chunk, and what is made waits
record RunsOn {S : Type 0} (r q : RunState S) : Type 0 where
  pub most : q.made ≤ r.made + 2 ^ 20
  pub waits : length q.pending + r.made ≡ length r.pending + q.made

runs_on : {S : Type 0} (after : S → List ℕ → Served S) (r : RunState S) (chunk : List ℕ) → ((s : S) (c : List ℕ) → length c ≤ 2048 → length (after s c).output ≤ 2 ^ 20)
    → length chunk ≤ 2048 → RunsOn r (run_on after r chunk)
runs_on after r chunk short few = holds_if (RunsOn r) r.closed r (served_on r (after r.service chunk))
    (λ c. record { most = omega arith; waits = refl })
    (λ o. record {
      most = omega (arith, short r.service chunk few);
      waits = omega (arith, length-append r.pending (after r.service chunk).output);
    })

chunk_short : {S : Type 0} (unread : List ℕ) (k : ℕ) (n : NorthState S) → k ≤ 2048 → length (chunk_of unread k n) ≤ 2048
chunk_short unread k n few = holds_if (λ c. length c ≤ 2048) (nat_lt 0 (length n.rest)) (take k n.rest) (take k unread)
    (λ a. omega (arith, few, length-take k n.rest))
    (λ b. omega (arith, few, length-take k unread))

all_more : (P : ReadRecord → Type 0) (xs : List ReadRecord) (x : ReadRecord) → AllByRecursion P xs → P x → AllByRecursion P (xs ++ x ∷ [])
all_more P [] x a p = (p, tt)
all_more P (y ∷ ys) x a p = (a.0, all_more P ys x a.1 p)

counts_on : (count read k : ℕ) (ended : Bool) → count ≤ read + one_if ended → (k ≡ 0 → ended ≡ false) → count + 1 ≤ read + k + one_if (ended || k == 0)
counts_on count read zero true h once = absurd (true≢false (once refl))
counts_on count read zero false h once = omega (arith, h)
counts_on count read (suc k) true h once = omega (arith, h)
counts_on count read (suc k) false h once = omega (arith, h)

-- a read off the rest, or of length 0
rest_step : {S : Type 0} (fetched k : ℕ) (n : NorthState S) (e : Tcb) (run : RunState S) → AreSound fetched n e → RunsOn n.run run → Allows (length e.receiving.unread) k n
    → (length n.rest ≡ 0 → k ≡ 0) → ServedOn fetched n e (noted k n run) e
rest_step fetched k n e run s r a none =
    let left : length (drop k n.rest) ≡ length n.rest - k = length-drop k n.rest in
    let few : k ≤ length n.rest = rest_few k (length n.rest) a.rest none in
    record {
      sound = record {
        tcp = s.tcp;
        limit = s.limit;
        read = omega (arith, s.read, s.rest, few);
        rest = omega (arith, left, s.rest, few);
        made = omega (arith, r.most, a.room);
        written = λ o. omega (arith, r.waits, s.written o);
        count = counts_on n.count n.read k n.ended s.count a.once;
        writable = all_more IsWritable n.reads (record_of k n run) s.writable (record {
          index = omega (arith, s.count, one_at_most n.ended, s.rest, s.limit, s.tcp.bounds.taken);
          length = a.most;
        });
      };
      iss = refl;
      mss = refl;
      sent = refl;
      bytes = omega (arith, s.read, s.rest, few);
      rises = omega arith;
    }
  where
    rest_few : (k l : ℕ) → (0 < l → k ≤ l) → (l ≡ 0 → k ≡ 0) → k ≤ l
    rest_few k zero p q = omega (arith, q refl)
    rest_few k (suc l) p q = p (omega arith)

-- a read off TCP
tcp_step : {S : Type 0} (fetched k : ℕ) (n : NorthState S) (e : Tcb) (run : RunState S) → AreSound fetched n e → RunsOn n.run run → Allows (length e.receiving.unread) k n
    → length n.rest ≡ 0 → ServedOn fetched n e (noted k n run) (after_read e k)
tcp_step fetched k n e run s r a none =
    let left : length (drop k n.rest) ≡ length n.rest - k = length-drop k n.rest in
    let there : k ≤ length e.receiving.unread = a.socket none in
    let unread : length (drop k e.receiving.unread) ≡ length e.receiving.unread - k = length-drop k e.receiving.unread in
    record {
      sound = record {
        tcp = record {
          bounds = bounded_by_read e k there s.tcp.bounds;
          buffered = omega (arith, unread, s.tcp.buffered);
          begun = s.tcp.begun;
          fin_last = s.tcp.fin_last;
        };
        limit = s.limit;
        read = omega (arith, s.read, s.rest, none);
        rest = omega (arith, left, s.rest, none);
        made = omega (arith, r.most, a.room);
        written = λ o. omega (arith, r.waits, s.written o);
        count = counts_on n.count n.read k n.ended s.count a.once;
        writable = all_more IsWritable n.reads (record_of k n run) s.writable (record {
          index = omega (arith, s.count, one_at_most n.ended, s.rest, s.limit, s.tcp.bounds.taken);
          length = a.most;
        });
      };
      iss = refl;
      mss = refl;
      sent = refl;
      bytes = omega (arith, s.read, s.rest, none, unread, there);
      rises = omega arith;
    }

read_step : {S : Type 0} (after : S → List ℕ → Served S) (una fetched k : ℕ) (n : NorthState S) (e : Tcb) → ((s : S) (c : List ℕ) → length c ≤ 2048 → length (after s c).output ≤ 2 ^ 20)
    → AreSound fetched n e → next_at tcp_reader una n e ≡ Some k → ServedOn fetched n e (read_on after e.receiving.unread k n) (socket_on tcp_reader k n e)
unfolding read_on socket_on
read_step after una fetched k n e short s next =
    let a : Allows (length e.receiving.unread) k n = allows una (length e.receiving.unread) (e.receiving.fin && (length e.receiving.unread == 0)) n k next in
    let run : RunState _ = run_on after n.run (chunk_of e.receiving.unread k n) in
    let r : RunsOn n.run run = runs_on after n.run _ short (chunk_short e.receiving.unread k n a.most) in
    holds_if (λ t. ServedOn fetched n e (noted k n run) t) (nat_lt 0 (length n.rest) || k == 0) e (after_read e k)
    (λ h. rest_step fetched k n e run s r a (λ none. by_zero k (or_second (nat_lt 0 (length n.rest)) (k == 0) h (none_there (length n.rest) none))))
    (λ h. tcp_step fetched k n e run s r a (let f = (or_parts (nat_lt 0 (length n.rest)) (k == 0) h).0 in grind (arith, f)))
  where
    by_zero : (k : ℕ) → (k == 0) ≡ true → k ≡ 0
    by_zero k h = grind (arith, h)

    none_there : (l : ℕ) → l ≡ 0 → nat_lt 0 l ≡ false
    none_there l h = grind (arith, h)

all_reads : {S : Type 0} (after : S → List ℕ → Served S) (una fetched : ℕ) (n : NorthState S) (e : Tcb) (ks : List ℕ) (m : NorthState S) (t : Tcb)
    → ((s : S) (c : List ℕ) → length c ≤ 2048 → length (after s c).output ≤ 2 ^ 20) → AreSound fetched n e → Reads after tcp_reader una n e ks m t → ServedOn fetched n e m t
all_reads after una fetched n e [] m t short s reads =
    subst (λ x. ServedOn fetched n e x t) (sym reads.1) (subst (λ x. ServedOn fetched n e n x) (sym reads.2) (record { sound = s; iss = refl; mss = refl; sent = refl; bytes = refl; rises = omega arith }))
all_reads after una fetched n e (k ∷ ks) m t short s reads =
    let one = read_step after una fetched k n e short s reads.0 in
    on_and fetched n e _ _ m t one (all_reads after una fetched (read_on after e.receiving.unread k n) (socket_on tcp_reader k n e) ks m t short one.sound reads.1)

written_few : {S : Type 0} (fetched : ℕ) (n : NorthState S) (e : Tcb) → AreSound fetched n e
    → e.sending.una + length e.sending.held + length (gives (write_room e) (unstable n) n.run) ≤ 2 ^ 24 + one_if e.sending.fin_sent
written_few fetched n e s = by_closed e.sending.closed refl
  where
    by_closed : (c : Bool) → e.sending.closed ≡ c → e.sending.una + length e.sending.held + length (gives (write_room e) (unstable n) n.run) ≤ 2 ^ 24 + one_if e.sending.fin_sent
    by_closed true h = let room : write_room e ≡ 0 = room_none e.sending.closed e.reset _ h in omega (arith, room, s.tcp.bounds.written, length-take (given_count (write_room e) (unstable n) n.run) n.run.pending)
    by_closed false h = omega (arith, s.written h, s.made, length-take (given_count (write_room e) (unstable n) n.run) n.run.pending)

given_on : {S : Type 0} (fetched : ℕ) (n : NorthState S) (e : Tcb) → AreSound fetched n e → AreSound fetched (given_north tcp_writer n e) (given_socket tcp_writer n e)
given_on fetched n e s =
    let count : ℕ = given_count (write_room e) (unstable n) n.run in
    let bytes : List ℕ = take count n.run.pending in
    record {
      tcp = record { bounds = bounded_by_more e bytes (written_few fetched n e s) s.tcp.bounds; buffered = s.tcp.buffered; begun = s.tcp.begun; fin_last = s.tcp.fin_last };
      limit = s.limit;
      read = s.read;
      rest = s.rest;
      made = s.made;
      written = λ o. omega (arith, s.written o, length-append e.sending.held bytes, length-take count n.run.pending, length-drop count n.run.pending);
      count = s.count;
      writable = s.writable;
    }

close_has_peer : (name : StateName) → has_peer name ≡ true → has_peer (after_close name) ≡ true
close_has_peer Closed h = refl
close_has_peer Listen h = absurd (false≢true h)
close_has_peer SynSent h = absurd (false≢true h)
close_has_peer SynReceived h = refl
close_has_peer Established h = refl
close_has_peer FinWait1 h = refl
close_has_peer FinWait2 h = refl
close_has_peer CloseWait h = refl
close_has_peer Closing h = refl
close_has_peer LastAck h = refl
close_has_peer TimeWait h = refl

close_bounds : (e : Tcb) → IsBounded e → IsBounded (closing e)
close_bounds e b = record {
  limit = b.limit;
  taken = b.taken;
  early = b.early;
  order = b.order;
  syn_unacked = b.syn_unacked;
  shut = b.shut;
  flight = b.flight;
  written = b.written;
  sent = b.sent;
  wl1 = b.wl1;
  wl1_fits = b.wl1_fits;
  wl2 = b.wl2;
  edge = b.edge;
  reach = b.reach;
  congestion = b.congestion;
  lost = b.lost;
  timing = b.timing;
  interval = b.interval;
}

shut_on : {S : Type 0} (fetched : ℕ) (n : NorthState S) (e : Tcb) → AreSound fetched n e → ServedOn fetched n e (shut_north n) (shut_socket tcp_writer n e)
shut_on fetched n e s = holds_if (λ t. ServedOn fetched n e (shut_north n) t) (closes n) (closing e) e
    (λ h. record {
      sound = record {
        tcp = record { bounds = close_bounds e s.tcp.bounds; buffered = s.tcp.buffered; begun = close_has_peer e.name s.tcp.begun; fin_last = λ f. refl };
        limit = s.limit;
        read = s.read;
        rest = s.rest;
        made = s.made;
        written = λ o. absurd (true≢false o);
        count = s.count;
        writable = s.writable;
      };
      iss = refl;
      mss = refl;
      sent = refl;
      bytes = refl;
      rises = omega arith;
    })
    (λ h. record {
      sound = record { tcp = s.tcp; limit = s.limit; read = s.read; rest = s.rest; made = s.made; written = s.written; count = s.count; writable = s.writable };
      iss = refl;
      mss = refl;
      sent = refl;
      bytes = refl;
      rises = omega arith;
    })

-- the whole turn
pub turn_serves : {S : Type 0} (after : S → List ℕ → Served S) (una fetched : ℕ) (n : NorthState S) (e : Tcb) (news : List ReadRecord) (m : NorthState S) (t : Tcb)
    → ((s : S) (c : List ℕ) → length c ≤ 2048 → length (after s c).output ≤ 2 ^ 20) → AreSound fetched n e → Turns after tcp_reader tcp_writer una n e news m t → ServedOn fetched n e m t
turn_serves after una fetched n e news m t short s turn =
    let given : AreSound fetched (given_north tcp_writer n e) (given_socket tcp_writer n e) = given_on fetched n e s in
    let shut = shut_on fetched (given_north tcp_writer n e) (given_socket tcp_writer n e) given in
    let read = all_reads after una fetched _ _ (lengths_of news) m t short shut.sound turn.reads in
    record { sound = read.sound; iss = read.iss ∙ shut.iss; mss = read.mss ∙ shut.mss; sent = read.sent ∙ shut.sent; bytes = read.bytes ∙ shut.bytes; rises = omega (arith, read.rises, shut.rises) }

-- the new reads are among those that aren't known to be logged
all_behind : (P : ReadRecord → Type 0) (xs ys : List ReadRecord) → AllByRecursion P (xs ++ ys) → AllByRecursion P ys
all_behind P [] ys a = a
all_behind P (x ∷ xs) ys a = all_behind P xs ys a.1

pub news_writable : (old news new : List ReadRecord) → new ≡ old ++ news → AreWritable new → AreWritable news
news_writable old news new reported all = all_behind IsWritable old news (subst AreWritable reported all)
