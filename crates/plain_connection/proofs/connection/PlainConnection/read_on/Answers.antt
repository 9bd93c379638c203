use Rattle.std.proofs.Common.{◌≡◌, ◌∙◌, sym, subst, None}
use Rattle.server_trait.specs.Service.{machine}
use Rattle.ft_model.specs.Reads.{next_read}
use Rattle.plain_connection.specs.State.{IsServed}
use Rattle.plain_connection.proofs.OneRead.{there_to_read, none_read, all_read, fewer_left}
use Rattle.plain_connection.proofs.connection.PlainConnection.read_on.Goals as goal

pub loop-len-init : goal.loop-len-init
loop-len-init g c = none_read (machine (g.S.Service.started c.args.self.now.kind) g.S.Service.after g.S.Service.greeting) c.args.self.now c.requires

pub next_read-requires : goal.next_read-requires
next_read-requires g c =
    subst (λ k. IsServed (machine (g.S.Service.started k) g.S.Service.after g.S.Service.greeting) c.loop-len.self) (sym c.loop-len.invariant.kind) c.loop-len.invariant.served

pub read-requires-clause-there : goal.read-requires-clause-there
read-requires-clause-there g c =
    there_to_read (machine (g.S.Service.started c.loop-len.self.kind) g.S.Service.after g.S.Service.greeting) c.loop-len.self c.in-Some.len
    (subst (λ k. IsServed (machine (g.S.Service.started k) g.S.Service.after g.S.Service.greeting) c.loop-len.self) (sym c.loop-len.invariant.kind) c.loop-len.invariant.served)
    (sym c.in-Some.ensures.value)

pub loop-len-smaller : goal.loop-len-smaller
loop-len-smaller g c =
    fewer_left (machine (g.S.Service.started c.loop-len.self.kind) g.S.Service.after g.S.Service.greeting) c.loop-len.self.point c.read.new.self.point c.in-Some.len
    (sym c.in-Some.ensures.value) c.loop-len.invariant.served.answered c.in_ok-read.ensures.point

pub returns-clause-reads : goal.returns-clause-reads
returns-clause-reads g c =
    all_read (machine (g.S.Service.started c.args.self.now.kind) g.S.Service.after g.S.Service.greeting) c.args.self.now c.loop-len.self c.loop-len.invariant
    (subst (λ k. next_read (machine (g.S.Service.started k) g.S.Service.after g.S.Service.greeting) c.loop-len.self.point ≡ None) c.loop-len.invariant.kind
    (sym c.next_read.ensures.value ∙ c.in_default.is))
