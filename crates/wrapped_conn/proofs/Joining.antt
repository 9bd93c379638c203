-- How a connection begins: by its client's SYN, or at the point of its entry.
use Rattle.tcp_rules.specs.declared.timestamping.Timestamping.{Timestamping}
use Rattle.std.proofs.Common.{◌≡◌, ℕ, ◌<◌, ◌≤◌, ◌+◌, ◌-◌, ◌%◌, ◌^◌, Bool, true, false, Some, List, [], length, min, refl, sym, ap, subst, arith, ◌∙◌}
use Rattle.std.specs.Prelude.{nat_lt, pos, negsuc, if◌then◌else◌, None}
use Rattle.ft_io.specs.declared.Addr.{Addr}
use Rattle.ft_io.specs.declared.Key.{Key}
use Rattle.tcp_rules.specs.Profile.{Profile}
use Rattle.seq_arith.specs.Message.{Numbers}
use Rattle.seq_arith.specs.Number.{number_at, distance, offset_of}
use Rattle.seq_arith.specs.Offset.{one_if}
use Rattle.seq_arith.specs.Packet.{Segment}
use Rattle.server_trait.specs.Service.{Machine, reference}
use Rattle.ft_model.specs.Copy.{from_start}
use Rattle.ft_model.specs.Log.{Entry}
use Rattle.ft_model.specs.News.News.{Begins}
use Rattle.ft_model.specs.Opening.{point_opened}
use Rattle.ft_model.specs.Point.{Point}
use Rattle.ft_model.specs.Restart.{point_of, resumed_at}
use Rattle.north_wrap.specs.declared.read_record.ReadRecord.{ReadRecord}
use Rattle.north_wrap.specs.NorthState.{NorthState, lengths_of, fresh_north, Turns as NorthTurns}
use Rattle.north_wrap.specs.Refinement.{HasReplayed}
use Rattle.north_wrap.proofs.Offline.{begins_here}
use Rattle.south_wrap.specs.SouthPoint.{south_at}
use Rattle.tcp_endpoint.specs.Arrival.{received, in_listen, begun}
use Rattle.tcp_endpoint.specs.Tcb.{Tcb, listening, listening_measuring}
use Rattle.tcp_endpoint.specs.UserCalls.{acked_number}
use Rattle.connection_laws.specs.FirstSyn.{MayOpen, opened_syn, listens_with}
use Rattle.connection_laws.specs.Splice.{ProceedsFrom, delta_from, spliced_measuring, connected_measuring}
use Rattle.connection_laws.specs.Parts.{PartsStand, PartsTurn}
use Rattle.connection_laws.specs.PointNumbers.{PartsShow}
use Rattle.connection_laws.proofs.Spliced.{splices_parts}
use Rattle.connection_laws.proofs.NewParts.{starts_together}
use Rattle.connection_laws.proofs.PointNumbers.{parts_show}
use Rattle.wrapped_conn.specs.ConnState.{ConnState}
use Rattle.wrapped_conn.specs.NewConnection.{joined_conn_in, south_opened, syn, first_conn_in}
use Rattle.connection_laws.specs.OutputFeed.{tcp_reader, tcp_writer}
use Rattle.wrapped_conn.specs.Numbers.{has_fin, una_units}
use Rattle.wrapped_conn.specs.Turn.{Starts, new_reads, tcp_used}
use Rattle.wrapped_conn.specs.Sound.{IsSound}
use Rattle.wrapped_conn.specs.Refinement.{Keeps, StandsBefore, Leads}
use Rattle.wrapped_conn.proofs.Locals.{received_local, flushed_local, either}
use Rattle.wrapped_conn.proofs.NumbersAt.{has_fin_is, logged_at}
use Rattle.wrapped_conn.proofs.Arrivals.{begins_with}
use Rattle.wrapped_conn.proofs.Begun.{nothing_fetched}

-- a fresh service stands at the opened point
fresh_replayed : {S : Type 0} (service : Machine S) (profile : Profile) (timestamping : Timestamping) (numbers : Numbers) → HasReplayed service (point_opened profile timestamping numbers) 0 (fresh_north service.fresh service.greeting)
unfolding reference
fresh_replayed service profile timestamping numbers = record {
  run = record { service = refl; closed = refl; made = refl; pending = refl; within = omega arith };
  rest = refl;
  last = (refl, refl);
  reads = refl;
  answered = refl;
  read = refl;
  count = refl;
  ended = refl;
  enough = omega arith;
  fetched = omega arith;
  shut = refl;
}

-- the SYN, in the words of its law
seq_fits : (cisn : ℕ) → cisn < 2 ^ 32 → cisn ≡ (cisn + 0) % 2 ^ 32
seq_fits cisn h = omega (arith, h)

syn_is : (local : Addr) (numbers : Numbers) → numbers.cisn < 2 ^ 32 → syn numbers.key local numbers.cisn numbers.mss ≡ opened_syn local numbers
syn_is local numbers h = λ j. record {
  head = record {
    src = numbers.key.ip;
    dst = local.ip;
    sport = numbers.key.port;
    dport = local.port;
    seq = seq_fits numbers.cisn h j;
    ack = 0;
    flags = 2;
    window = 0;
    mss = Some numbers.mss;
    timestamps = None;
  };
  payload = [];
}

-- nothing is acknowledged yet
unacked : (measures : Bool) (key : Key) (local : Addr) (cisn sisn mss : ℕ) → acked_number (received (listening_measuring measures local sisn (2 ^ 24)) (syn key local cisn mss)) ≡ sisn
unfolding received in_listen begun listening_measuring listening
unacked measures key local cisn sisn mss = refl

none_before : (sisn : ℕ) → sisn < 2 ^ 32 → from_start (offset_of sisn ((sisn + 0) % 2 ^ 32)) ≡ 0
unfolding offset_of
none_before sisn fits =
    let d : distance ((sisn + 0) % 2 ^ 32) ((sisn + 1) % 2 ^ 32) ≡ 2 ^ 32 - 1 = omega (arith, fits) in
    λ j. from_start (if nat_lt (d j) (2 ^ 31) then pos (d j) else negsuc (2 ^ 32 - 1 - d j))

-- the connection with the SYN, out of its parts
abbrev new_conn : {S : Type 0} → Profile → Timestamping → (boot : ℕ) → Addr → Numbers → S → (greeting : List ℕ) → ConnState S
new_conn profile timestamping boot local numbers service greeting =
    joined_conn_in profile boot numbers.key local (south_opened timestamping numbers.cisn numbers.sisn numbers.mss) (received (listening_measuring profile.measures local numbers.sisn (2 ^ 24)) (syn numbers.key local numbers.cisn numbers.mss)) (fresh_north service greeting)

new_una : {S : Type 0} (profile : Profile) (timestamping : Timestamping) (boot : ℕ) (local : Addr) (numbers : Numbers) (service : S) (greeting : List ℕ) → numbers.sisn < 2 ^ 32
    → una_units (new_conn profile timestamping boot local numbers service greeting) ≡ 0
new_una profile timestamping boot local numbers service greeting fits =
    (λ j. min (from_start (offset_of numbers.sisn ((unacked profile.measures numbers.key local numbers.cisn numbers.sisn numbers.mss j + 0) % 2 ^ 32))) (2 ^ 24 + 1))
    ∙ (λ j. min (none_before numbers.sisn fits j) (2 ^ 24 + 1))

new_keeps : {S : Type 0} (profile : Profile) (timestamping : Timestamping) (boot : ℕ) (local : Addr) (numbers : Numbers) (service : S) (greeting : List ℕ)
    → Keeps (point_opened profile timestamping numbers) (new_conn profile timestamping boot local numbers service greeting)
new_keeps profile timestamping boot local numbers service greeting = record {
  key = refl;
  south = refl;
  fetched = nothing_fetched numbers.cisn (one_if (has_fin (new_conn profile timestamping boot local numbers service greeting).endpoint.name));
  end_ticks = refl;
  four = omega arith;
  reset = refl;
  unanswered = refl;
  delays = refl;
  batches = refl;
}

pub listening_local : (measures : Bool) (local : Addr) (iss limit : ℕ) → (listening_measuring measures local iss limit).local ≡ local
unfolding listening_measuring listening
listening_local measures local iss limit = refl

pub new_starts : {S : Type 0} (service : Machine S) (profile : Profile) (timestamping : Timestamping) (boot : ℕ) (local : Addr) (numbers : Numbers) (new : ConnState S) (out messages : List (List ℕ)) → MayOpen numbers → IsSound new
    → Starts service.after (first_conn_in profile timestamping boot numbers.key local numbers.cisn numbers.sisn numbers.mss service.fresh service.greeting) new out messages
    → Leads service local boot Begins (point_opened profile timestamping numbers) new out messages
unfolding first_conn_in
new_starts service profile timestamping boot local numbers new out messages may sound k =
    let c : ConnState _ = new_conn profile timestamping boot local numbers service.fresh service.greeting in
    let p : Point = point_opened profile timestamping numbers in
    let reads : List ReadRecord = new_reads c new in
    let t : Tcb = tcp_used c reads in
    let una : una_units c ≡ 0 = new_una profile timestamping boot local numbers service.fresh service.greeting may.sisn in
    let turns : NorthTurns service.after tcp_reader tcp_writer 0 c.north (received (listens_with profile.measures local numbers) (opened_syn local numbers)) reads new.north t =
    subst (λ (s : Segment). NorthTurns service.after tcp_reader tcp_writer 0 c.north (received (listens_with profile.measures local numbers) s) reads new.north t) (syn_is local numbers may.cisn)
    (subst (λ n. NorthTurns service.after tcp_reader tcp_writer n c.north c.endpoint reads new.north t) una k.north) in
    let turn : PartsTurn service local boot 0 numbers.sisn 0 Begins p (lengths_of reads) new.north t =
    starts_together service profile timestamping boot local numbers c.north new.north reads t may (begins_here service p 0 c.north (fresh_replayed service profile timestamping numbers)) refl turns sound.parts.made in
    begins_with service 0 numbers.sisn p c new out messages (new_keeps profile timestamping boot local numbers service.fresh service.greeting)
    (received_local (listening_measuring profile.measures local numbers.sisn (2 ^ 24)) (syn numbers.key local numbers.cisn numbers.mss) ∙ listening_local profile.measures local numbers.sisn (2 ^ 24)) refl sound.parts.made turn k

-- at the entry
pub spliced_local : (measures : Bool) (key : Key) (local : Addr) (cisn fetched mss i : ℕ) (fin : Bool) → (spliced_measuring measures key local cisn fetched mss i fin).local ≡ local
unfolding connected_measuring
spliced_local measures key local cisn fetched mss i fin =
    let begun_is = flushed_local _ ∙ received_local _ _ ∙ (flushed_local _ ∙ received_local (listening_measuring measures local i (2 ^ 24 - fetched)) _ ∙ listening_local measures local i (2 ^ 24 - fetched)) in
    either fin _ _ local (flushed_local _ ∙ received_local _ _ ∙ begun_is) begun_is

less_fin : (cisn length fin name_fin : ℕ) → distance (number_at cisn (length + fin)) ((cisn + 1) % 2 ^ 32) ≡ length + fin → name_fin ≡ fin
    → distance (number_at cisn (length + fin)) ((cisn + 1) % 2 ^ 32) - name_fin ≡ length
less_fin cisn length fin name_fin logged same = (λ j. logged j - same j) ∙ back length fin
  where
    back : (a b : ℕ) → a + b - b ≡ a
    back a b = omega arith

pub few_units : (length : ℕ) (fin : Bool) → length ≤ 2 ^ 24 → length + one_if fin ≤ 2 ^ 24 + 1
few_units length true h = omega (arith, h)
few_units length false h = omega (arith, h)

pub joins_at_entry : {S : Type 0} (service : Machine S) (profile : Profile) (boot : ℕ) (local : Addr) (e : Entry) (i : ℕ) (n : NorthState S) → ProceedsFrom service e i
    → HasReplayed service (point_of service profile e) (resumed_at service e) n
    → StandsBefore service (joined_conn_in profile boot e.key local (south_at (delta_from service e i) (point_of service profile e))
    (spliced_measuring profile.measures e.key local e.cisn (length e.bytes) e.mss i e.fin) n) (point_of service profile e)
joins_at_entry service profile boot local e i n goes replayed =
    let p : Point = point_of service profile e in
    let t : Tcb = spliced_measuring profile.measures e.key local e.cisn (length e.bytes) e.mss i e.fin in
    let u : ℕ = resumed_at service e in
    let parts : PartsStand service u i (delta_from service e i) u p n t = splices_parts service profile local e i n goes replayed in
    let shown : PartsShow service (delta_from service e i) p n t = parts_show service u i (delta_from service e i) u p n t parts in
    let fin : has_fin t.name ≡ e.fin = has_fin_is t.name ∙ sym shown.fin in
    record {
      keeps = record {
        key = refl;
        south = refl;
        fetched = less_fin e.cisn (length e.bytes) (one_if e.fin) (one_if (has_fin t.name)) (logged_at e.cisn (length e.bytes + one_if e.fin) (few_units (length e.bytes) e.fin goes.short)) (ap one_if fin);
        end_ticks = refl;
        four = omega arith;
        reset = refl;
        unanswered = refl;
        delays = refl;
        batches = refl;
      };
      u = u;
      i = i;
      given = u;
      parts = parts;
      local = spliced_local profile.measures e.key local e.cisn (length e.bytes) e.mss i e.fin;
      syn_acked = refl;
    }
