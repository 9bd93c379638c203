use Rattle.std.proofs.Common.{◌≡◌, ℕ, ◌-◌, ap, subst, length, length-take, arith}
use Rattle.sample_servers.specs.Line.{EndsAt}
use Rattle.sample_servers.proofs.Lines.{ends_at_feed, ends_when_full, stays_open}
use Rattle.sample_servers.proofs.line.Line.split.Goals as goal

pub returns-in-Some : goal.returns-in-Some
returns-in-Some c =
    let bytes = c.args.bytes.now in
    let held = ap (λ s. length s.held) c.self.view_is in
    let front = length-take c.min.result bytes in
    let found = c.in-Some.ensures in
    ends_at_feed c.args.self.now bytes c.min.result c.in-Some.len (omega arith) (omega arith) (let below = found.0.high in omega arith) found.0.before found.1

pub returns-in-None : goal.returns-in-None
returns-in-None c =
    let bytes = c.args.bytes.now in
    let held = ap (λ s. length s.held) c.self.view_is in
    let front = length-take c.min.result bytes in
    let full = c.if-front-room.true in
    let all : c.min.result ≡ 1024 - c.len-room.result = omega arith in
    subst (λ (n : ℕ). EndsAt c.args.self.now bytes n n) all (ends_when_full c.args.self.now bytes c.min.result (omega arith) (omega arith) (omega arith) (λ k from below. c.in-None.ensures k from (omega arith)))

pub returns-in-None-2 : goal.returns-in-None-2
returns-in-None-2 c =
    let bytes = c.args.bytes.now in
    let held = ap (λ s. length s.held) c.self.view_is in
    let front = length-take c.min.result bytes in
    stays_open c.args.self.now bytes c.min.result (omega arith) (omega arith) (λ k from below. c.in-None.ensures k from (omega arith))
