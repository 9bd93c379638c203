-- A connection stays sound where its TCP goes on.
use Rattle.std.proofs.Common.{◌≡◌, ℕ, zero, suc, ◌<◌, ◌≤◌, ◌+◌, ◌%◌, ◌^◌, false, true≢false, List, [], ◌∷◌, drop, leb-true, refl, sym, ap, subst, arith, ◌∙◌}
use Rattle.std.specs.List.{AllByRecursion}
use Rattle.std.specs.Prelude.{Bool, true, nat_le, Option, None, Some, IfSome, IsOk, IfOk}
use Rattle.std.proofs.lemmas.Result.{IfOk-at_ok, IfOk-weaker}
use Rattle.seq_arith.specs.PacketGrammar.{reading, segment_in}
use Rattle.segment_codec.proofs.Accepting.{is_read}
use Rattle.south_wrap.specs.Translation.{with_value_of, is_timely}
use Rattle.tcp_rules.specs.Timestamping.{echo_after, fitting, resumed_with}
use Rattle.tcp_rules.specs.declared.timestamping.Timestamping.{Timestamping}
use Rattle.tcp_rules.specs.declared.timestamping.Timestamping.TheVariants.{Off, Awaited, Echoes}
use Rattle.seq_arith.specs.declared.options.Timestamps.{Timestamps}
use Rattle.ft_io.proofs.Choices.{holds_if}
use Rattle.wrapped_conn.specs.Arrival.{stamped}
use Rattle.south_wrap.specs.SouthState.{SouthState, with_stable}
use Rattle.north_wrap.specs.declared.read_record.ReadRecord.{ReadRecord}
use Rattle.north_wrap.specs.NorthState.{NorthState, answered_on, newly}
use Rattle.wrapped_conn.specs.LoggerMessages.{IsWritable}
use Rattle.seq_arith.specs.Number.{distance}
use Rattle.tcp_endpoint.specs.Tcb.{Tcb}
use Rattle.wrapped_conn.specs.ConnState.{ConnState}
use Rattle.wrapped_conn.specs.Sound.{IsSound, AreSound, LeavesRoom, may_stamp, echoed, swallowed}
use Rattle.wrapped_conn.proofs.Kept.{ProceedsFrom}
use Rattle.ft_model.proofs.Stamped.{newest_short}

pub sound_with : {S : Type 0} (c : ConnState S) (t : Tcb) → IsSound c → ProceedsFrom c.endpoint t → IsSound (record c { endpoint = t })
sound_with c t s g =
    let same : distance ((t.sending.iss + c.south.delta) % 2 ^ 32) c.south.sisn ≡ swallowed c = ap (λ i. distance ((i + c.south.delta) % 2 ^ 32) c.south.sisn) g.iss in
    record {
      parts = record {
        tcp = g.sound;
        limit = omega (arith, g.limit, s.parts.limit);
        read = s.parts.read ∙ ap (λ n. n + c.fetched) (sym g.read);
        rest = s.parts.rest ∙ ap (λ n. n + c.fetched) (sym g.read);
        made = s.parts.made;
        written = λ open_still. let before : c.endpoint.sending.closed ≡ false = sym g.closed ∙ open_still in omega (arith, g.held before, s.parts.written before);
        count = s.parts.count;
        writable = s.parts.writable;
      };
      boot = s.boot;
      sisn = s.sisn;
      fetched = s.fetched;
      read = s.read;
      taken = omega (arith, s.taken, g.more);
      begins = omega (arith, same, s.begins);
      sent = omega (arith, same, s.sent, g.sent);
      answered = s.answered;
      roomy = subst (λ m. LeavesRoom m c.south.timestamping) (sym g.mss) s.roomy;
    }

-- a value that is noted needs no more room
stamps_same : (timestamping : Timestamping) (timely : Bool) (timestamps : Option Timestamps) → may_stamp (echo_after timestamping timely timestamps) ≡ may_stamp timestamping
stamps_same Off timely timestamps = refl
stamps_same Awaited timely None = refl
stamps_same Awaited true (Some timestamps) = refl
stamps_same Awaited false (Some timestamps) = refl
stamps_same (Echoes recent) timely None = refl
stamps_same (Echoes recent) true (Some timestamps) = refl
stamps_same (Echoes recent) false (Some timestamps) = refl

pub echo_leaves : (mss : ℕ) (timestamping : Timestamping) (timely : Bool) (timestamps : Option Timestamps) → LeavesRoom mss timestamping
    → LeavesRoom mss (echo_after timestamping timely timestamps)
echo_leaves mss timestamping timely timestamps h = λ may. h (sym (stamps_same timestamping timely timestamps) ∙ may)

pub fitting_leaves : (timestamping : Timestamping) (mss : ℕ) → LeavesRoom mss (fitting timestamping mss)
fitting_leaves Off mss = λ may. absurd (true≢false (sym may))
fitting_leaves Awaited mss = holds_if (LeavesRoom mss) (nat_le (mss + 12) 1460) Awaited Off (λ t may. leb-true (mss + 12) 1460 t) (λ t may. absurd (true≢false (sym may)))
fitting_leaves (Echoes recent) mss =
    holds_if (LeavesRoom mss) (nat_le (mss + 12) 1460) (Echoes recent) Off (λ t may. leb-true (mss + 12) 1460 t) (λ t may. absurd (true≢false (sym may)))

pub resumed_leaves : (uses : Bool) (mss : ℕ) → LeavesRoom mss (resumed_with uses mss)
resumed_leaves false mss = λ may. absurd (true≢false (sym may))
resumed_leaves true mss = fitting_leaves Awaited mss

-- the value that is echoed stays a number of the client's clock
abbrev pub AreShort : Option Timestamps → Type 0
AreShort timestamps = IfSome timestamps (λ t. (t.value < 2 ^ 32) × (t.echo < 2 ^ 32))

pub echo_short : (timestamping : Timestamping) (timely : Bool) (timestamps : Option Timestamps) → echoed timestamping < 2 ^ 32 → AreShort timestamps
    → echoed (echo_after timestamping timely timestamps) < 2 ^ 32
echo_short Off timely timestamps h short = omega arith
echo_short Awaited timely None h short = omega arith
echo_short Awaited true (Some timestamps) h short = short.0
echo_short Awaited false (Some timestamps) h short = omega arith
echo_short (Echoes recent) timely None h short = h
echo_short (Echoes recent) true (Some timestamps) h short = newest_short recent timestamps.value h short.0
echo_short (Echoes recent) false (Some timestamps) h short = h

pub fitting_short : (timestamping : Timestamping) (mss : ℕ) → echoed timestamping < 2 ^ 32 → echoed (fitting timestamping mss) < 2 ^ 32
fitting_short Off mss h = omega arith
fitting_short Awaited mss h = holds_if (λ t. echoed t < 2 ^ 32) (nat_le (mss + 12) 1460) Awaited Off (λ t. omega arith) (λ t. omega arith)
fitting_short (Echoes recent) mss h = holds_if (λ t. echoed t < 2 ^ 32) (nat_le (mss + 12) 1460) (Echoes recent) Off (λ t. h) (λ t. omega arith)

pub resumed_short : (uses : Bool) (mss : ℕ) → echoed (resumed_with uses mss) < 2 ^ 32
resumed_short false mss = omega arith
resumed_short true mss = fitting_short Awaited mss (omega arith)

-- and where the south wrapper notes a segment's timestamps
pub sound_stamped : {S : Type 0} (c : ConnState S) (south : SouthState) (bytes : List ℕ) → IsOk (reading bytes) → IfOk (reading bytes) (λ segment. south ≡ with_value_of segment c.south) → IsSound c
    → IsSound (record c { south = south })
sound_stamped c south bytes ok noting s =
    let same : south ≡ with_value_of (segment_in bytes) c.south = IfOk-at_ok (λ x. south ≡ with_value_of x c.south) (is_read bytes ok) noting in
    subst (λ x. IsSound (record c { south = x })) (sym same)
    (record {
      parts = s.parts;
      boot = s.boot;
      sisn = s.sisn;
      fetched = s.fetched;
      read = s.read;
      taken = s.taken;
      begins = s.begins;
      sent = s.sent;
      answered = s.answered;
      roomy = echo_leaves c.endpoint.sending.mss c.south.timestamping (is_timely c.south (segment_in bytes)) (segment_in bytes).head.timestamps s.roomy;
    })

pub stamped_by : {S : Type 0} (c : ConnState S) (south : SouthState) (bytes : List ℕ) → IfOk (reading bytes) (λ segment. south ≡ with_value_of segment c.south)
    → IfOk (reading bytes) (λ segment. record c { south = south } ≡ stamped segment c)
stamped_by c south bytes noting = IfOk-weaker (reading bytes) _ _ (λ segment same. ap (λ (x : SouthState). record c { south = x }) same) noting

-- what is logged is heard
all_left : (P : ReadRecord → Type 0) (k : ℕ) (xs : List ReadRecord) → AllByRecursion P xs → AllByRecursion P (drop k xs)
all_left P zero xs a = a
all_left P (suc k) [] a = tt
all_left P (suc k) (x ∷ xs) a = all_left P k xs a.1

received_parts : {S : Type 0} (fetched reads : ℕ) (n : NorthState S) (e : Tcb) → AreSound fetched n e → AreSound fetched (answered_on reads n) e
unfolding answered_on
received_parts fetched reads n e s = record {
  tcp = s.tcp;
  limit = s.limit;
  read = s.read;
  rest = s.rest;
  made = s.made;
  written = s.written;
  count = s.count;
  writable = all_left IsWritable (newly reads n) n.reads s.writable;
}

received_read : {S : Type 0} (reads : ℕ) (n : NorthState S) → (answered_on reads n).read ≡ n.read
unfolding answered_on
received_read reads n = refl

received_sound : {S : Type 0} (c : ConnState S) (units reads : ℕ) → IsSound c → units ≤ 2 ^ 24 + 1 → IsSound (record c { south = with_stable units c.south; north = answered_on reads c.north })
received_sound c units reads s small = record {
  parts = received_parts c.fetched reads c.north c.endpoint s.parts;
  boot = s.boot;
  sisn = s.sisn;
  fetched = s.fetched;
  read = s.read ∙ sym (received_read reads c.north);
  taken = omega (arith, s.taken, received_read reads c.north);
  begins = s.begins;
  sent = s.sent;
  answered = omega (arith, s.answered, small);
  roomy = s.roomy;
}

pub sound_received : {S : Type 0} (c : ConnState S) (units reads : ℕ) (south : SouthState) (north : NorthState S) → IsSound c → units ≤ 2 ^ 24 + 1 → south ≡ with_stable units c.south
    → north ≡ answered_on reads c.north → IsSound (record c { south = south; north = north })
sound_received c units reads south north s small is on =
    subst (λ x. IsSound (record c { south = x; north = north })) (sym is) (subst (λ x. IsSound (record c { south = with_stable units c.south; north = x })) (sym on) (received_sound c units reads s small))
