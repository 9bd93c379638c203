-- A connection that is spliced is sound, whatever its entry says.
use Rattle.std.proofs.Common.{◌≡◌, ℕ, Bool, true, false, ◌≤◌, ◌<◌, ◌+◌, ◌-◌, ◌^◌, ◌%◌, ◌∙◌, max, sum, [], List, length, replicate, le_refl, refl, ap, sym, subst, arith, if◌then◌else◌}
use Rattle.std.specs.Prelude.{◌&&◌, nat_lt}
use Rattle.std.proofs.lemmas.Bool.{false≢true}
use Rattle.std.proofs.lemmas.List.{length-replicate, take_all}
use Rattle.ft_io.specs.declared.Addr.{Addr}
use Rattle.ft_io.specs.declared.Key.{Key}
use Rattle.tcp_rules.specs.Profile.{Profile}
use Rattle.tcp_rules.specs.Timestamping.{resumed_with}
use Rattle.seq_arith.specs.Number.{distance, number_at}
use Rattle.seq_arith.specs.Offset.{one_if}
use Rattle.server_trait.specs.Service.{reference}
use Rattle.ft_model.specs.Log.{Entry}
use Rattle.ft_model.specs.Restart.{point_of, resumed_at}
use Rattle.north_wrap.specs.NorthState.{NorthState, resumed_north}
use Rattle.north_wrap.specs.Refinement.{HasReplayed}
use Rattle.tcp_endpoint.specs.declared.states.StateName.{StateName}
use Rattle.tcp_endpoint.specs.declared.states.StateName.TheVariants.{Closed, Listen, SynSent, SynReceived, Established, FinWait1, FinWait2, CloseWait, Closing, LastAck, TimeWait}
use Rattle.tcp_endpoint.specs.SendHalf.{Sending, bytes_end}
use Rattle.tcp_endpoint.specs.States.{has_begun}
use Rattle.tcp_endpoint.specs.Tcb.{Tcb}
use Rattle.connection_laws.specs.Splice.{ProceedsFrom, StandsAtEntry, delta_from, spliced_measuring}
use Rattle.connection_laws.specs.PointNumbers.{PartsShow}
use Rattle.connection_laws.proofs.Spliced.{splices, splices_parts}
use Rattle.connection_laws.proofs.PointNumbers.{parts_show}
use Rattle.wrapped_conn.proofs.SoundAgain.{resumed_leaves}
use Rattle.wrapped_conn.specs.Numbers.{has_fin}
use Rattle.wrapped_conn.specs.Sound.{LeavesRoom, has_peer, IsSoundTcp, IsSound}
use Rattle.wrapped_conn.proofs.NumbersAt.{has_fin_is}
use Rattle.log_replay.specs.ReadLengths.{HaveBytes}
use Rattle.reincarnate.specs.Progress.{ReplayedState}
use Rattle.log_replay.specs.LoggedHead.{IsSegmentSize, has_end}
use Rattle.reincarnate.specs.Splice.{SplicedState, conn_of, proceeds_at, spliced_from_in, EntryNumbersFit}
use Rattle.log_replay.proofs.Forging.{idle}
use Rattle.reincarnate.proofs.Joined.{less_fin}
use Rattle.ft_io.proofs.Booleans.{false_by}
use Rattle.wrapped_conn.proofs.Joining.{few_units}

has_peer_is : (name : StateName) → has_begun name ≡ true → has_peer name ≡ true
has_peer_is Closed b = absurd (false≢true b)
has_peer_is Listen b = absurd (false≢true b)
has_peer_is SynSent b = absurd (false≢true b)
has_peer_is SynReceived b = refl
has_peer_is Established b = refl
has_peer_is FinWait1 b = refl
has_peer_is FinWait2 b = refl
has_peer_is CloseWait b = refl
has_peer_is Closing b = refl
has_peer_is LastAck b = refl
has_peer_is TimeWait b = refl

-- an entry of which TCP can't tell whether the service is another
abbrev unread_entry : Key → (cisn fetched mss : ℕ) → (fin : Bool) → Entry
unread_entry key cisn fetched mss fin = record {
  key = key;
  cisn = cisn;
  sisn = 0;
  mss = mss;
  bytes = replicate fetched 0;
  fin = fin;
  lengths = [];
  acknowledged = 0;
  done = false;
}

abbrev idle_north : List ℕ → NorthState ℕ
idle_north bytes = resumed_north 0 bytes [] 0 0 0 false false

idle_replayed : (profile : Profile) (e : Entry) → HasReplayed idle (point_of idle profile (record e { lengths = []; acknowledged = 0 })) 0 (idle_north e.bytes)
unfolding reference
idle_replayed profile e = record {
  run = record { service = refl; closed = refl; made = refl; pending = refl; within = omega arith };
  rest = sym (take_all (length e.bytes) e.bytes (le_refl (length e.bytes)));
  last = (refl, refl);
  reads = refl;
  answered = refl;
  read = refl;
  count = refl;
  ended = refl;
  enough = omega arith;
  fetched = le_refl (length e.bytes);
  shut = refl;
}

-- TCP that nothing is written to and whose user has read nothing
record IsFresh (i fetched size : ℕ) (has_end : Bool) (t : Tcb) : Type 0 where
  sound : IsSoundTcp t
  limit : t.receiving.limit + fetched ≡ 2 ^ 24
  read : t.receiving.read ≡ 0
  iss : t.sending.iss ≡ i
  mss : t.sending.mss ≡ size
  una : t.sending.una ≡ 0
  held : length t.sending.held ≡ 0
  fin : has_fin t.name ≡ has_end

end_is : (s : Sending) → s.fin_sent ≡ false → bytes_end s ≡ s.una + length s.held
end_is s e = ap (λ b. if b then s.sent - 1 else s.una + length s.held) e

fresh_at : (profile : Profile) (key : Key) (local : Addr) (cisn fetched mss i : ℕ) (fin : Bool) (e : Entry) → e ≡ unread_entry key cisn fetched mss fin → ProceedsFrom idle e i
    → HasReplayed idle (point_of idle profile e) (resumed_at idle e) (idle_north e.bytes)
    → IsFresh i (length e.bytes) e.mss e.fin (spliced_measuring profile.measures e.key local e.cisn (length e.bytes) e.mss i e.fin)
fresh_at profile key local cisn fetched mss i fin e is g replayed =
    let t : Tcb = spliced_measuring profile.measures e.key local e.cisn (length e.bytes) e.mss i e.fin in
    let u : ℕ = resumed_at idle e in
    let s : StandsAtEntry idle profile e i t = splices idle profile local e i g in
    let at = s.tcp.stands.stands in
    let between = s.tcp.stands.between in
    let reads : max (length e.bytes) (sum e.lengths) ≡ length e.bytes = ap (λ x. max (length e.bytes) (sum x.lengths)) is ∙ max_zero (length e.bytes) in
    let read : t.receiving.read ≡ 0 = omega (arith, at.receives.read, reads) in
    let unread : length t.receiving.unread ≡ 0 = omega (arith, at.receives.long, read) in
    let una : t.sending.una ≡ 0 = omega (arith, at.sends.una) in
    let last = end_is t.sending (false_by t.sending.fin_sent t.sending.closed (λ f. (between.fin_last f).0) s.open_still) in
    let shown : PartsShow idle (delta_from idle e i) (point_of idle profile e) (idle_north e.bytes) t =
    parts_show idle u i (delta_from idle e i) u (point_of idle profile e) (idle_north e.bytes) t (splices_parts idle profile local e i (idle_north e.bytes) g replayed) in
    record {
      sound = record {
        bounds = between.bounds;
        buffered = omega (arith, unread);
        begun = has_peer_is t.name s.tcp.stands.begun;
        fin_last = λ f. (between.fin_last f).0;
      };
      limit = at.receives.limit;
      read = read;
      iss = sym at.sends.sisn;
      mss = sym at.sends.mss;
      una = una;
      held = omega (arith, last, s.feeds.until, una);
      fin = has_fin_is t.name ∙ sym shown.fin;
    }
  where
    max_zero : (n : ℕ) → max n 0 ≡ n
    max_zero n = omega arith

fresh_tcp : (profile : Profile) (key : Key) (local : Addr) (cisn fetched mss i : ℕ) (fin : Bool) → fetched ≤ 2 ^ 24 → IsSegmentSize mss → (fin ≡ true → fetched < 2 ^ 24) → i < 2 ^ 32
    → IsFresh i fetched mss fin (spliced_measuring profile.measures key local cisn fetched mss i fin)
fresh_tcp profile key local cisn fetched mss i fin few segments room fits =
    let e : Entry = unread_entry key cisn fetched mss fin in
    let size : length e.bytes ≡ fetched = length-replicate fetched 0 in
    let none : resumed_at idle e ≡ 0 = omega arith in
    let g : ProceedsFrom idle e i = record {
      least = segments.0;
      most = segments.1;
      short = omega (arith, size, few);
      fin = λ f. let r = room f in omega (arith, size, r);
      cut = omega arith;
      small = omega arith;
      sisn = omega arith;
      i_fits = fits;
    } in
    let replayed = subst (λ u. HasReplayed idle (point_of idle profile e) u (idle_north e.bytes)) (sym none) (idle_replayed profile e) in
    subst (λ n. IsFresh i n mss fin (spliced_measuring profile.measures key local cisn n mss i fin)) size (fresh_at profile key local cisn fetched mss i fin e refl g replayed)

-- what is swallowed is what the entry has acknowledged
swallowed_is : (i sisn u iss : ℕ) → iss ≡ i → i < 2 ^ 32 → sisn < 2 ^ 32 → u ≤ 2 ^ 24 → distance ((iss + distance ((sisn + u) % 2 ^ 32) i) % 2 ^ 32) sisn ≡ u
swallowed_is i sisn u iss is fits s few = ap (λ k. distance ((k + distance ((sisn + u) % 2 ^ 32) i) % 2 ^ 32) sisn) is ∙ (ap (λ k. distance k sisn) (again i sisn u fits) ∙ back sisn u s few)
  where
    again : (i sisn u : ℕ) → i < 2 ^ 32 → (i + ((sisn + u) % 2 ^ 32 + 2 ^ 32 - i) % 2 ^ 32) % 2 ^ 32 ≡ (sisn + u) % 2 ^ 32
    again i sisn u h = omega (arith, h)

    back : (sisn u : ℕ) → sisn < 2 ^ 32 → u ≤ 2 ^ 24 → ((sisn + u) % 2 ^ 32 + 2 ^ 32 - sisn) % 2 ^ 32 ≡ u
    back sisn u h k = omega (arith, h, k)

-- a FIN that isn't left out has room
below : (fin room : Bool) (n : ℕ) → nat_lt n (2 ^ 24) ≡ room → (fin && room) ≡ true → n < 2 ^ 24
below false room n is h = absurd (false≢true h)
below true false n is h = absurd (false≢true h)
below true true n is h = grind (arith, is)

pub spliced_sound : {S : Type 0} (profile : Profile) (boot : ℕ) (local : Addr) (i : ℕ) (r : ReplayedState S) → 1 ≤ boot → EntryNumbersFit r i → HaveBytes r.cuts → r.cuts.sum + length r.replay.held ≡ r.head.length
    → r.replay.made ≤ 2 ^ 24 → length r.replay.pending ≤ r.replay.made → IsSound (conn_of (spliced_from_in profile boot local i r))
spliced_sound profile boot local i r live f have whole made pending =
    let s : SplicedState _ = spliced_from_in profile boot local i r in
    let t : Tcb = s.endpoint in
    let ends : Bool = has_end r.head in
    let fresh = fresh_tcp profile r.head.key local r.head.cisn r.head.length r.head.mss i ends f.stream f.segments (below r.head.fin (nat_lt r.head.length (2 ^ 24)) r.head.length refl) f.i_fits in
    let fetched : distance (number_at r.head.cisn (r.head.length + one_if ends)) ((r.head.cisn + 1) % 2 ^ 32) - one_if (has_fin t.name) ≡ r.head.length =
    (λ j. distance (number_at r.head.cisn (r.head.length + one_if ends)) ((r.head.cisn + 1) % 2 ^ 32) - one_if (fresh.fin j)) ∙ less_fin r.head.cisn r.head.length ends f.stream in
    let behind = swallowed_is i r.head.sisn (proceeds_at r) t.sending.iss fresh.iss f.i_fits f.sisn (omega (arith, made)) in
    record {
      parts = record {
        tcp = fresh.sound;
        limit = omega (arith, fresh.limit, fetched);
        read = omega (arith, fresh.read, fetched, whole);
        rest = omega (arith, fresh.read, fetched, whole);
        made = made;
        written = λ o. omega (arith, fresh.una, fresh.held, pending);
        count = have;
        writable = tt;
      };
      boot = live;
      sisn = f.sisn;
      fetched = sym fetched;
      read = refl;
      taken = omega (arith, fetched);
      begins = omega (arith, behind, made);
      sent = omega (arith, behind);
      answered = few_units r.head.length ends f.stream;
      roomy = subst (λ mss. LeavesRoom mss (resumed_with profile.timestamps r.head.mss)) (sym fresh.mss) (resumed_leaves profile.timestamps r.head.mss);
    }
