-- What the inner TCP of a wrapped connection sees: the same connection with an initial sequence number of its own. Its output continues where the restart
-- continued, its user writes all output except what was acknowledged before, and all that is taken may be acknowledged (FT-TCP, INFOCOM 2001: the restarted TCP
-- counts from a number of its own, and the wrappers hide the difference).
use Rattle.tcp_rules.specs.declared.timestamping.Timestamping.TheVariants.{Off}
use Rattle.limits.specs.Limits.{longest_stream}
use Rattle.std.specs.Prelude.{◌≡◌, ℕ, false, ◌+◌, ◌-◌, ◌%◌, ◌^◌, ◌<◌, ◌≤◌, [], drop, length}
use Rattle.server_trait.specs.Service.{Machine, Served, Run}
use Rattle.tcp_rules.specs.Coming.{nothing_early}
use Rattle.ft_model.specs.Point.{Point, taken_units}
use Rattle.endpoint_laws.specs.Laws.{KeepsTime}

-- a service's answer to a chunk, where the next `left` bytes of output are swallowed: they were acknowledged before, and TCP doesn't get them
abbrev pub swallowed : {State : Type 0} → (left : ℕ) → Served State → Served (State × ℕ)
swallowed left served = record { next = (served.next, left - length served.output); output = drop left served.output; closed = served.closed }

-- a service whose first bytes of output are swallowed
abbrev pub swallowing : {State : Type 0} → ℕ → Machine State → Machine (State × ℕ)
swallowing u service = record {
  fresh = (service.fresh, u - length service.greeting);
  greeting = drop u service.greeting;
  after = λ state chunk. swallowed state.1 (service.after state.0 chunk);
}

-- a run without the first bytes of its output
abbrev pub swallowed_run : {State : Type 0} → ℕ → Run State → Run (State × ℕ)
swallowed_run u run = record { state = (run.state, u - length run.output); output = drop u run.output; closed = run.closed }

-- the point inside: the server's initial sequence number is i, output counts from u on, and TCP, which knows of no log, may acknowledge all that it took, and
-- delays no ACK and sends no timestamps. It knows of no earlier incarnation either
abbrev pub inside : (u i : ℕ) → Point → Point
inside u i p =
    record p {
      sisn = i;
      fetched_output = 0;
      answered = taken_units p;
      una = p.una - u;
      sent = p.sent - u;
      edge = p.edge - u;
      wl2 = p.wl2 - u;
      delays = false;
      batches = false;
      timestamping = Off;
    }

-- The output of a connection continues inside at u, with the initial sequence number i: delta is the difference of one unit's sequence numbers, and u isn't
-- past what is acknowledged, sent, or allowed by the client's window
pub record Proceeds (u i delta : ℕ) (p : Point) : Type 0 where
  pub shift : (i + delta) % 2 ^ 32 ≡ (p.sisn + u) % 2 ^ 32
  pub small : u ≤ longest_stream
  pub sisn : p.sisn < 2 ^ 32
  pub delta_fits : delta < 2 ^ 32
  pub i_fits : i < 2 ^ 32
  pub una : u ≤ p.una
  pub order : p.una ≤ p.sent
  pub sent : p.sent ≤ 2 ^ 25 + 1
  pub edge : u ≤ p.edge
  pub wl2 : u ≤ p.wl2
  pub timing : KeepsTime p.timing
  -- until an acknowledgement has counted nothing is taken, sent or fetched
  pub syn_unacked : p.syn_acked ≡ false → (u ≡ 0) × (p.sent ≡ 0) × (p.edge ≡ 0) × (p.taken ≡ []) × (p.fin ≡ false) × (p.early ≡ nothing_early) × (p.fetched ≡ 0)
