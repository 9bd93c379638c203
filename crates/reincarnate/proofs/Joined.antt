-- The parts that are spliced stand at the point of the entry.
use Rattle.std.proofs.Common.{◌≡◌, ℕ, Bool, true, false, ◌≤◌, ◌<◌, ◌+◌, ◌-◌, ◌^◌, ◌%◌, ◌∙◌, min, sum, le_refl, length, drop, refl, ap, sym, subst, arith}
use Rattle.std.specs.Prelude.{◌&&◌, nat_lt}
use Rattle.std.proofs.lemmas.List.{drop_min, take_all}
use Rattle.ft_io.specs.declared.Addr.{Addr}
use Rattle.tcp_rules.specs.Profile.{Profile}
use Rattle.seq_arith.specs.Number.{distance, number_at}
use Rattle.seq_arith.specs.Offset.{one_if}
use Rattle.server_trait.specs.Service.{Machine}
use Rattle.ft_model.specs.Log.{Entry}
use Rattle.ft_model.specs.Restart.{point_of, output_units, resumed_at, run_of, IsSoundEntry}
use Rattle.tcp_rules.specs.Timestamping.{resumed_with}
use Rattle.south_wrap.specs.SouthPoint.{south_at}
use Rattle.north_wrap.specs.Refinement.{HasReplayed}
use Rattle.connection_laws.specs.Splice.{ProceedsFrom, delta_from, spliced_measuring}
use Rattle.connection_laws.specs.Parts.{PartsStand}
use Rattle.connection_laws.proofs.Spliced.{splices_parts}
use Rattle.connection_laws.specs.PointNumbers.{PartsShow}
use Rattle.connection_laws.proofs.PointNumbers.{parts_show}
use Rattle.wrapped_conn.specs.NewConnection.{joined_conn_in}
use Rattle.wrapped_conn.specs.Numbers.{has_fin}
use Rattle.wrapped_conn.specs.Refinement.{StandsBefore}
use Rattle.wrapped_conn.proofs.NumbersAt.{has_fin_is, logged_at}
use Rattle.reincarnate.specs.Progress.{ReplayedState}
use Rattle.log_replay.specs.LoggedHead.{IsSegmentSize, has_end}
use Rattle.reincarnate.specs.Refinement.{IsReplayed}
use Rattle.reincarnate.specs.Splice.{SplicedState, proceeds_at, made_units, south_from, north_from, spliced_from_in, EntryNumbersFit, IsSplicedIn}
use Rattle.wrapped_conn.proofs.Joining.{spliced_local}

proceeds : {S : Type 0} (service : Machine S) (e : Entry) (r : ReplayedState S) (i : ℕ) → EntryNumbersFit r i → IsReplayed service e r → IsSoundEntry service e → ProceedsFrom service e i
proceeds service e r i f re sound =
    let mss : r.head.mss ≡ e.mss = ap (λ h. h.mss) re.head in
    let bytes : r.head.length ≡ length e.bytes = ap (λ h. h.length) re.head in
    let sisn : r.head.sisn ≡ e.sisn = ap (λ h. h.sisn) re.head in
    record {
      least = omega (arith, mss, f.segments.0);
      most = omega (arith, mss, f.segments.1);
      short = omega (arith, bytes, f.stream);
      fin = sound.fin;
      cut = re.enough;
      small = omega (arith, sound.output);
      sisn = omega (arith, sisn, f.sisn);
      i_fits = f.i_fits;
    }

proceeds_is : {S : Type 0} (service : Machine S) (e : Entry) (r : ReplayedState S) → IsReplayed service e r → IsSoundEntry service e → proceeds_at r ≡ resumed_at service e
proceeds_is service e r re sound = let run = re.run sound.output in λ j. min (re.head j).acked (run.made j)

units_are : {S : Type 0} (service : Machine S) (e : Entry) (r : ReplayedState S) → IsReplayed service e r → IsSoundEntry service e → made_units r ≡ output_units service e
units_are service e r re sound = let run = re.run sound.output in λ j. run.made j + one_if (run.closed j)

-- a sound entry has room for its FIN
room_for : (fin : Bool) (n : ℕ) → (fin ≡ true → n < 2 ^ 24) → (fin && nat_lt n (2 ^ 24)) ≡ fin
room_for false n h = refl
room_for true n h = let few = h refl in grind (arith, few)

has_end_is : {S : Type 0} (service : Machine S) (e : Entry) (r : ReplayedState S) → IsReplayed service e r → IsSoundEntry service e → has_end r.head ≡ e.fin
has_end_is service e r re sound = ap has_end re.head ∙ room_for e.fin (length e.bytes) sound.fin

replayed : {S : Type 0} (service : Machine S) (profile : Profile) (e : Entry) (r : ReplayedState S) → IsReplayed service e r → IsSoundEntry service e
    → HasReplayed service (point_of service profile e) (resumed_at service e) (north_from r)
replayed service profile e r re sound =
    let run = re.run sound.output in
    record {
      run = record {
        service = run.service;
        closed = run.closed;
        made = run.made;
        pending = run.pending ∙ sym (drop_min e.acknowledged (run_of service e).output);
        within = omega arith;
      };
      rest = re.rest ∙ ap (drop (sum e.lengths)) (sym (take_all (length e.bytes) e.bytes (le_refl (length e.bytes))));
      last = (refl, refl);
      reads = refl;
      answered = refl;
      read = ap (λ c. c.sum) re.cuts;
      count = ap (λ c. c.count) re.cuts;
      ended = ap (λ c. c.ended) re.cuts;
      enough = re.enough;
      fetched = le_refl (length e.bytes);
      shut = refl;
    }

south_is : {S : Type 0} (service : Machine S) (profile : Profile) (e : Entry) (r : ReplayedState S) (i : ℕ) → IsReplayed service e r → IsSoundEntry service e
    → record (south_from i r) { timestamping = resumed_with profile.timestamps r.head.mss } ≡ south_at (delta_from service e i) (point_of service profile e)
south_is service profile e r i re sound =
    let u = proceeds_is service e r re sound in
    let ends = has_end_is service e r re sound in
    let units = units_are service e r re sound in λ j. record {
      cisn = (re.head j).cisn;
      sisn = (re.head j).sisn;
      delta = distance (((re.head j).sisn + u j) % 2 ^ 32) i;
      fetched = (re.head j).length;
      fetched_output = units j;
      taken = (re.head j).length;
      fin = ends j;
      answered = (re.head j).length + one_if (ends j);
      read = (re.cuts j).sum;
      una = u j;
      sent = u j;
      timestamping = resumed_with profile.timestamps (re.head j).mss;
    }

pub splice_stands : {S : Type 0} (service : Machine S) (profile : Profile) (local : Addr) (boot : ℕ) (e : Entry) (r : ReplayedState S) (i : ℕ) → EntryNumbersFit r i → IsReplayed service e r → IsSoundEntry service e
    → IsSplicedIn profile service e i (spliced_from_in profile boot local i r)
splice_stands service profile local boot e r i f re sound =
    let g = proceeds service e r i f re sound in
    let n = north_from r in
    record {
      profile_is = refl;
      key = ap (λ h. h.key) re.head;
      short = g.short;
      segments = subst IsSegmentSize (ap (λ h. h.mss) re.head) f.segments;
      local = spliced_local profile.measures r.head.key local r.head.cisn r.head.length r.head.mss i (has_end r.head);
      south = south_is service profile e r i re sound;
      parts = subst (λ t. PartsStand service (resumed_at service e) i (delta_from service e i) (resumed_at service e) (point_of service profile e) n t)
          (λ j. spliced_measuring profile.measures ((sym re.head) j).key local ((sym re.head) j).cisn ((sym re.head) j).length ((sym re.head) j).mss i (sym (has_end_is service e r re sound) j))
          (splices_parts service profile local e i n g (replayed service profile e r re sound));
    }

-- a FIN is one of the logged units
pub less_fin : (cisn fetched : ℕ) (fin : Bool) → fetched ≤ 2 ^ 24 → distance (number_at cisn (fetched + one_if fin)) ((cisn + 1) % 2 ^ 32) - one_if fin ≡ fetched
less_fin cisn fetched fin h = (λ j. logged_at cisn (fetched + one_if fin) (few fetched fin h) j - one_if fin) ∙ back fetched (one_if fin)
  where
    few : (n : ℕ) (f : Bool) → n ≤ 2 ^ 24 → n + one_if f ≤ 2 ^ 24 + 1
    few n true h = omega (arith, h)
    few n false h = omega (arith, h)

    back : (a b : ℕ) → a + b - b ≡ a
    back a b = omega arith

pub hands_on : {S : Type 0} (service : Machine S) (profile : Profile) (e : Entry) (i : ℕ) (s : SplicedState S) → IsSplicedIn profile service e i s
    → StandsBefore service (joined_conn_in s.profile s.boot s.key s.local s.south s.endpoint s.north) (point_of service profile e)
hands_on service profile e i s is =
    let p = point_of service profile e in
    let u : ℕ = resumed_at service e in
    let d : ℕ = delta_from service e i in
    let delta : s.south.delta ≡ d = ap (λ x. x.delta) is.south in
    let shown : PartsShow service d p s.north s.endpoint = parts_show service u i d u p s.north s.endpoint is.parts in
    let fin : has_fin s.endpoint.name ≡ e.fin = has_fin_is s.endpoint.name ∙ sym shown.fin in
    record {
      keeps = record {
        key = is.key;
        south = is.south ∙ sym (ap (λ x. south_at x p) delta);
        fetched = (λ j. distance (number_at (is.south j).cisn (is.south j).answered) (((is.south j).cisn + 1) % 2 ^ 32) - one_if (fin j)) ∙ less_fin e.cisn (length e.bytes) e.fin is.short;
        end_ticks = refl;
        four = omega arith;
        reset = refl;
        unanswered = refl;
        delays = ap (λ x. x.delays) is.profile_is;
        batches = ap (λ x. x.batches) is.profile_is;
      };
      u = u;
      i = i;
      given = u;
      parts = subst (λ x. PartsStand service u i x u p s.north s.endpoint) (sym delta) is.parts;
      local = is.local;
      syn_acked = refl;
    }
