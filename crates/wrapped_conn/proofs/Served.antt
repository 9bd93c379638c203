-- A connection after the north wrapper's turn.
use Rattle.std.proofs.Common.{◌≡◌, ℕ, ◌≤◌, ◌+◌, ◌%◌, ◌^◌, Bool, true, false, refl, sym, ap, subst, ◌∙◌, List, [], ◌∷◌, length, arith, if◌then◌else◌}
use Rattle.seq_arith.specs.Number.{distance}
use Rattle.server_trait.specs.Service.{Served}
use Rattle.south_wrap.specs.SouthState.{SouthState}
use Rattle.north_wrap.specs.declared.read_record.ReadRecord.{ReadRecord}
use Rattle.north_wrap.specs.NorthState.{NorthState, Turns, closes, given_north, given_socket, shut_north, shut_socket, lengths_of}
use Rattle.north_wrap.specs.Refinement.{read_off, off_socket}
use Rattle.north_wrap.proofs.Offline.{socket_is}
use Rattle.tcp_endpoint.specs.Tcb.{Tcb}
use Rattle.tcp_endpoint.specs.UserCalls.{after_read, closing}
use Rattle.endpoint_laws.specs.Turn.{used}
use Rattle.endpoint_laws.specs.Turn.Call.{Closes}
use Rattle.wrapped_conn.specs.ConnState.{ConnState}
use Rattle.wrapped_conn.specs.Numbers.{una_units}
use Rattle.connection_laws.specs.OutputFeed.{tcp_reader, tcp_writer}
use Rattle.wrapped_conn.specs.Calls.{reads_of, calls_of}
use Rattle.wrapped_conn.specs.LoggerMessages.{AreWritable}
use Rattle.wrapped_conn.specs.Turn.{tcp_used, served}
use Rattle.wrapped_conn.specs.Sound.{IsSound, LeavesRoom, swallowed}
use Rattle.wrapped_conn.proofs.NorthSoundness.{ServedOn, turn_serves, news_writable}

-- the endpoint after a turn of the north wrapper is that after its calls
used_reads : (e : Tcb) (ks : List ℕ) → read_off after_read e ks ≡ used (reads_of ks) e
used_reads e [] = refl
used_reads e (k ∷ ks) = used_reads (after_read e k) ks

by_close : (b : Bool) (e : Tcb) (ks : List ℕ) → read_off after_read (if b then closing e else e) ks ≡ used (if b then (Closes ∷ reads_of ks) else reads_of ks) e
by_close true e ks = used_reads (closing e) ks
by_close false e ks = used_reads e ks

pub uses : {S : Type 0} (after : S → List ℕ → Served S) (una : ℕ) (n : NorthState S) (e : Tcb) (news : List ReadRecord) (m : NorthState S) (t : Tcb)
    → Turns after tcp_reader tcp_writer una n e news m t → t ≡ used (calls_of n e (lengths_of news)) e
uses after una n e news m t turn =
    (socket_is after tcp_reader una (shut_north (given_north tcp_writer n e)) (shut_socket tcp_writer (given_north tcp_writer n e) (given_socket tcp_writer n e)) (lengths_of news) m t turn.reads).0
    ∙ by_close (closes (given_north tcp_writer n e)) (given_socket tcp_writer n e) (off_socket (length n.rest) (lengths_of news))

abbrev pub IsShortService : {S : Type 0} → (S → List ℕ → Served S) → Type 0
IsShortService {S} after = (s : S) (c : List ℕ) → length c ≤ 2048 → length (after s c).output ≤ 2 ^ 20

serves : {S : Type 0} (after : S → List ℕ → Served S) → IsShortService after → (c : ConnState S) (una : ℕ) (news : List ReadRecord) (m : NorthState S) (t : Tcb) → IsSound c
    → Turns after tcp_reader tcp_writer una c.north c.endpoint news m t → ServedOn c.fetched c.north c.endpoint m t
serves after short c una news m t s turn = turn_serves after una c.fetched c.north c.endpoint news m t short s.parts turn

pub read_rises : {S : Type 0} (after : S → List ℕ → Served S) → IsShortService after → (c : ConnState S) (una : ℕ) (news : List ReadRecord) (m : NorthState S) (t : Tcb) → IsSound c
    → Turns after tcp_reader tcp_writer una c.north c.endpoint news m t → c.south.read ≤ m.read
read_rises after short c una news m t s turn = omega (arith, s.read, (serves after short c una news m t s turn).rises)

pub news_are_writable : {S : Type 0} (after : S → List ℕ → Served S) → IsShortService after → (c : ConnState S) (una : ℕ) (news : List ReadRecord) (m : NorthState S) (t : Tcb) → IsSound c
    → Turns after tcp_reader tcp_writer una c.north c.endpoint news m t → AreWritable news
news_are_writable after short c una news m t s turn = news_writable c.north.reads news m.reads turn.reported (serves after short c una news m t s turn).sound.writable

pub served_state : {S : Type 0} (after : S → List ℕ → Served S) (c : ConnState S) (una : ℕ) (news : List ReadRecord) (m : NorthState S) (t : Tcb) (south : SouthState)
    → Turns after tcp_reader tcp_writer una c.north c.endpoint news m t → south ≡ record c.south { read = m.read }
    → record c { south = south; endpoint = t; north = m } ≡ served m news c
served_state after c una news m t south turn is = λ j. record c { south = is j; endpoint = uses after una c.north c.endpoint news m t turn j; north = m }

pub served_sound : {S : Type 0} (after : S → List ℕ → Served S) → IsShortService after → (c : ConnState S) (una : ℕ) (news : List ReadRecord) (m : NorthState S) (t : Tcb) (south : SouthState) → IsSound c
    → Turns after tcp_reader tcp_writer una c.north c.endpoint news m t → south ≡ record c.south { read = m.read }
    → IsSound (record c { south = south; endpoint = t; north = m })
served_sound after short c una news m t south s turn is =
    let k = serves after short c una news m t s turn in
    let same : distance ((t.sending.iss + c.south.delta) % 2 ^ 32) c.south.sisn ≡ swallowed c = ap (λ i. distance ((i + c.south.delta) % 2 ^ 32) c.south.sisn) k.iss in
    subst (λ x. IsSound (record c { south = x; endpoint = t; north = m })) (sym is) (record {
      parts = k.sound;
      boot = s.boot;
      sisn = s.sisn;
      fetched = s.fetched;
      read = refl;
      taken = omega (arith, s.taken, k.bytes);
      begins = omega (arith, same, s.begins);
      sent = omega (arith, same, s.sent, k.sent);
      answered = s.answered;
      roomy = subst (λ n. LeavesRoom n c.south.timestamping) (sym k.mss) s.roomy;
    })

pub north_is : {S : Type 0} (after : S → List ℕ → Served S) (c : ConnState S) (una : ℕ) (news : List ReadRecord) (m : NorthState S) (t : Tcb) → una ≡ una_units c
    → Turns after tcp_reader tcp_writer una c.north c.endpoint news m t → Turns after tcp_reader tcp_writer (una_units c) c.north c.endpoint news m (tcp_used c news)
north_is after c una news m t same turn =
    subst (λ x. Turns after tcp_reader tcp_writer (una_units c) c.north c.endpoint news m x) (uses after una c.north c.endpoint news m t turn)
    (subst (λ k. Turns after tcp_reader tcp_writer k c.north c.endpoint news m t) same turn)
