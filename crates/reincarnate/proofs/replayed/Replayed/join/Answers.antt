use Rattle.std.proofs.Common.{◌≡◌, ◌∙◌, ◌+◌, ◌≤◌, ◌^◌, length, min, sym, ap, ap₂, subst}
use Rattle.ft_model.specs.Offset.{one_if}
use Rattle.tcp_rules.specs.Profiles.{profile_of}
use Rattle.tcp_rules.specs.Timestamping.{resumed_with}
use Rattle.logger_wire.specs.Records.{head_said}
use Rattle.south_wrap.specs.SouthState.{resumed_south}
use Rattle.connection_laws.specs.Splice.{spliced_measuring}
use Rattle.wrapped_conn.specs.Sound.{IsSound}
use Rattle.reincarnate.specs.Progress.{ReplayedState}
use Rattle.reincarnate.specs.Splice.{SplicedState, conn_of, south_from, spliced_from_in, EntryNumbersFit}
use Rattle.log_replay.specs.LoggedHead.{has_end}
use Rattle.reincarnate.proofs.Startable.{spliced_sound}
use Rattle.reincarnate.proofs.replayed.Replayed.join.Goals as goal

pub invariant_of-result : goal.invariant_of-result
invariant_of-result g c =
    let h = c.self.inside.head in
    let r : ReplayedState _ = record { head = head_said h; cuts = c.self.inside.cuts; replay = c.self.inside.replay } in
    let numbers = c.south_behind.ensures.numbers in
    let fits : EntryNumbersFit r c.args.isn.0 = record { stream = c.self.invariant.0; segments = c.self.invariant.1; sisn = numbers.0; i_fits = numbers.1 } in
    let behind : c.south_behind.result ≡ south_from c.args.isn.0 r =
    c.south_behind.ensures.value
    ∙ ap₂ (λ m closed. record (resumed_south h.cisn h.sisn h.length (m + one_if closed) (has_end (head_said h)) (min h.acked m) c.args.isn.0) { read = c.self.inside.cuts.sum }) c.made.ensures.value c.has_closed.ensures in
    let timed : c.resumed.result ≡ resumed_with (profile_of c.args.profile).timestamps h.mss = c.resumed.ensures ∙ ap (λ uses. resumed_with uses h.mss) c.timestamps.ensures in
    let south : c.with_timestamps-south.result ≡ record (south_from c.args.isn.0 r) { timestamping = resumed_with (profile_of c.args.profile).timestamps h.mss } =
    c.with_timestamps-south.ensures ∙ (λ j. record (behind j) { timestamping = timed j }) in
    let tcp = c.in-Ok.ensures ∙ ap (λ m. spliced_measuring m h.key c.args.local h.cisn h.length h.mss c.args.isn.0 (has_end (head_said h))) c.measures.ensures in
    let is : spliced_from_in (profile_of c.args.profile) c.args.boot c.args.local c.args.isn.0 r
    ≡ record { profile = profile_of c.args.profile; boot = c.args.boot; key = h.key; local = c.args.local; south = c.with_timestamps-south.result; endpoint = c.in-Ok.endpoint; north = c.into_north.result } =
    λ j. record { profile = profile_of c.args.profile; boot = c.args.boot; key = h.key; local = c.args.local; south = sym south j; endpoint = sym tcp j; north = sym c.into_north.ensures j } in
    subst (λ (s : SplicedState _). IsSound (conn_of s)) is
    (spliced_sound (profile_of c.args.profile) c.args.boot c.args.local c.args.isn.0 r c.requires fits c.self.invariant.2 c.self.invariant.3
    (subst (λ n. n ≤ 2 ^ 24) c.made.ensures.value c.made.ensures.most) (subst (λ n. length c.self.inside.replay.pending ≤ n) c.made.ensures.value c.made.ensures.pending))
