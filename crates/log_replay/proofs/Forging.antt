-- An endpoint to which segments are forged stays so short that numbers tell the order of its offsets.
use Rattle.std.proofs.Common.{◌≡◌, ℕ, ◌+◌, ◌-◌, ◌%◌, ◌^◌, ◌<◌, ◌≤◌, Bool, false, List, [], length, replicate, refl, sym, ap, subst, arith}
use Rattle.std.proofs.lemmas.Bool.{false≢true}
use Rattle.std.proofs.lemmas.List.{length-replicate}
use Rattle.ft_io.specs.declared.Addr.{Addr}
use Rattle.ft_io.specs.declared.Key.{Key}
use Rattle.server_trait.specs.Service.{Machine, silent}
use Rattle.tcp_rules.specs.Profile.{Profile}
use Rattle.ft_model.specs.Log.{Entry}
use Rattle.ft_model.specs.News.News.{Comes}
use Rattle.tcp_endpoint.specs.SendHalf.{IsShort}
use Rattle.tcp_endpoint.specs.Tcb.{listening_measuring}
use Rattle.endpoint_laws.specs.Turn.{turned}
use Rattle.endpoint_laws.proofs.Bounding.{bounded_is_short}
use Rattle.endpoint_laws.proofs.Listening.{listens_at_listen_measuring}
use Rattle.endpoint_laws.proofs.FirstPoint.{begins_law}
use Rattle.connection_laws.specs.Splice.{forged_syn, connected_measuring, ProceedsFrom}
use Rattle.connection_laws.proofs.Spliced.{splices}
use Rattle.log_replay.specs.LoggedHead.{IsSegmentSize}

pub listen_short : (measures : Bool) (local : Addr) (i limit : ℕ) → IsShort (listening_measuring measures local i limit).sending
unfolding listening_measuring
listen_short measures local i limit = record { sent = omega arith; wl2 = omega arith }

zeros : ℕ → List ℕ
zeros n = replicate n 0

limit_fits : (fetched n : ℕ) → fetched ≤ 2 ^ 24 → n ≡ fetched → 2 ^ 24 - fetched + n ≡ 2 ^ 24
limit_fits fetched n h e = omega (arith, h, e)

pub syn_short : (measures : Bool) (key : Key) (local : Addr) (cisn fetched mss i : ℕ) → fetched ≤ 2 ^ 24
    → IsShort (turned (Comes (forged_syn key local cisn fetched mss)) [] (listening_measuring measures local i (2 ^ 24 - fetched))).sending
syn_short measures key local cisn fetched mss i h =
    let bytes : List ℕ = replicate fetched 0 in
    let size : length bytes ≡ fetched = length-replicate fetched 0 in
    let limit : ℕ = 2 ^ 24 - fetched in
    let b = begins_law (listening_measuring measures local i limit) i limit cisn bytes (forged_syn key local cisn fetched mss) [] (listens_at_listen_measuring measures local i limit) (limit_fits fetched (length bytes) h size) refl
    (ap (λ n. (cisn + n) % 2 ^ 32) (sym size)) tt in
    bounded_is_short (turned (Comes (forged_syn key local cisn fetched mss)) [] (listening_measuring measures local i limit)) b.between.bounds

-- a service that writes nothing
abbrev pub idle : Machine ℕ
idle = silent 0 (λ s chunk. record { next = s; output = []; closed = false })

abbrev logged : Key → (cisn fetched mss : ℕ) → Entry
logged key cisn fetched mss = record {
  key = key;
  cisn = cisn;
  sisn = 0;
  mss = mss;
  bytes = replicate fetched 0;
  fin = false;
  lengths = [];
  acknowledged = 0;
  done = false;
}

pub connected_short : (measures : Bool) (key : Key) (local : Addr) (cisn fetched mss i : ℕ) → fetched ≤ 2 ^ 24 → IsSegmentSize mss → i < 2 ^ 32
    → IsShort (connected_measuring measures key local cisn fetched mss i).sending
connected_short measures key local cisn fetched mss i h segments fits =
    let e : Entry = logged key cisn fetched mss in
    let size : length e.bytes ≡ fetched = length-replicate fetched 0 in
    let g : ProceedsFrom idle e i = record {
      least = segments.0;
      most = segments.1;
      short = omega (arith, size, h);
      fin = λ f. absurd (false≢true f);
      cut = omega arith;
      small = omega arith;
      sisn = omega arith;
      i_fits = fits;
    } in
    let profile : Profile = record { measures = measures; delays = false; batches = false; timestamps = false } in
    let s = splices idle profile local e i g in
    subst (λ n. IsShort (connected_measuring measures key local cisn n mss i).sending) size (bounded_is_short (connected_measuring measures key local cisn (length e.bytes) mss i) s.tcp.stands.between.bounds)
