use Rattle.std.proofs.Common.{rules, ◌≡◌, ◌^◌, sym, ap, ◌∙◌, subst, [], arith}
use Rattle.segment_codec.specs.Value.{said}
use Rattle.endpoint_laws.specs.Laws.{IsBounded}
use Rattle.endpoint_laws.proofs.Bounding.{bounded_at_listen_measuring, bounded_is_short}
use Rattle.tcp_endpoint.specs.Tcb.{listening_measuring}
use Rattle.tcp_rules.specs.Profiles.{profile_of}
use Rattle.wrapped_conn.specs.NewConnection.{south_opened}
use Rattle.wrapped_conn.specs.Sound.{IsSound}
use Rattle.wrapped_conn.proofs.Begun.{first_is, first_sound}
use Rattle.wrapped_conn.proofs.conn.Conn.open_in.Goals as goal

pub returns-clause-state : goal.returns-clause-state
returns-clause-state g c =
    let e = c.in_ok-endpoint.endpoint in
    let profile = profile_of c.args.profile in
    let south : c.with_timestamps-south.result ≡ south_opened c.args.opened.timestamping c.args.opened.cisn.0 c.args.opened.sisn.0 c.args.opened.mss =
    c.with_timestamps-south.ensures ∙ (λ j. record (c.new.ensures j) { timestamping = c.fitting.ensures j }) in
    let is = c.in_ok-endpoint.ensures ∙ ap (λ m. listening_measuring m c.args.local c.args.opened.sisn.0 (2 ^ 24)) c.measures.ensures in
    let short = bounded_is_short e (subst IsBounded (sym is) (bounded_at_listen_measuring profile.measures c.args.local c.args.opened.sisn.0 (2 ^ 24) (omega arith))) in
    first_is profile c.args.opened.timestamping c.args.boot c.args.opened.key c.args.local c.args.opened.cisn.0 c.args.opened.sisn.0 c.args.opened.mss (g.S.Service.started c.args.kind) (g.S.Service.greeting (g.S.Service.started c.args.kind)) c.with_timestamps-south.result e c.on_packet.new.self c.in_ok-north.north
    (record { head = said c.syn_of.result; payload = [] }) c.joined_in.result c.joined_in.ensures south c.in_ok-north.ensures (c.on_packet.ensures.whole (omega arith) short) is c.syn_of.ensures

pub returns-clause-sound : goal.returns-clause-sound
returns-clause-sound g c =
    let e = c.in_ok-endpoint.endpoint in
    let profile = profile_of c.args.profile in
    let south : c.with_timestamps-south.result ≡ south_opened c.args.opened.timestamping c.args.opened.cisn.0 c.args.opened.sisn.0 c.args.opened.mss =
    c.with_timestamps-south.ensures ∙ (λ j. record (c.new.ensures j) { timestamping = c.fitting.ensures j }) in
    let is = c.in_ok-endpoint.ensures ∙ ap (λ m. listening_measuring m c.args.local c.args.opened.sisn.0 (2 ^ 24)) c.measures.ensures in
    let short = bounded_is_short e (subst IsBounded (sym is) (bounded_at_listen_measuring profile.measures c.args.local c.args.opened.sisn.0 (2 ^ 24) (omega arith))) in
    subst IsSound (sym (first_is profile c.args.opened.timestamping c.args.boot c.args.opened.key c.args.local c.args.opened.cisn.0 c.args.opened.sisn.0 c.args.opened.mss (g.S.Service.started c.args.kind) (g.S.Service.greeting (g.S.Service.started c.args.kind)) c.with_timestamps-south.result e c.on_packet.new.self c.in_ok-north.north
    (record { head = said c.syn_of.result; payload = [] }) c.joined_in.result c.joined_in.ensures south c.in_ok-north.ensures (c.on_packet.ensures.whole (omega arith) short) is c.syn_of.ensures))
    (first_sound profile c.args.opened.timestamping c.args.boot c.args.opened.key c.args.local c.args.opened.cisn.0 c.args.opened.sisn.0 c.args.opened.mss (g.S.Service.started c.args.kind) (g.S.Service.greeting (g.S.Service.started c.args.kind))
    (g.met.S.Service.greets_shortly (g.S.Service.started c.args.kind)) c.requires.boot (search rules) c.requires.least c.requires.most)
