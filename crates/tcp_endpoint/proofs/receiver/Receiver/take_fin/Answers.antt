use Rattle.std.proofs.Common.{◌≡◌, ◌∙◌, ap, sym, subst, true, pos, ◌+ℤ◌, ◌&&◌, [], Some}
use Rattle.ft_io.proofs.Booleans.{and_false}
use Rattle.seq_arith.specs.Number.{offset_of}
use Rattle.tcp_rules.specs.Coming.{holds_fin, nothing_came}
use Rattle.tcp_endpoint.specs.ReceiveHalf.{Receiving, taken, receive_edge, with_segment}
use Rattle.tcp_endpoint.proofs.Reassembly.{Makes, KeepsOf, no_fin, takes_fin, keeps_fin}
use Rattle.tcp_endpoint.proofs.Steps.{held_by_number, held_number}
use Rattle.tcp_endpoint.specs.contracts.receiver.Receiver.{the_view}
use Rattle.tcp_endpoint.proofs.receiver.Receiver.take_fin.Goals.{then-not-fin-via-then-not-fin, then-not-fin-via-else-not-fin+then-not-holds_fin}
use Rattle.tcp_endpoint.proofs.receiver.Receiver.take_fin.Goals as goal

pub returns-then-not-fin : goal.returns-then-not-fin
returns-then-not-fin c =
    let r : Receiving = c.args.self.now in
    let place = offset_of r.irs c.args.seq.0 +ℤ pos c.args.len in
    let same : holds_fin (taken r) (receive_edge r) place (nothing_came r.early r.fin) ≡ holds_fin (taken r) (receive_edge r) (pos c.end-place.result) (nothing_came r.early r.fin) =
    held_by_number (taken r) (receive_edge r) place c.end-place.result (nothing_came r.early r.fin) c.end-place.ensures.place c.end-place.ensures.past in
    no_fin r place c.args.fin (subst KeepsOf c.self.view_is c.self.invariant)
    (elim c.then-not-fin.branch [
      | then-not-fin-via-then-not-fin w ↦ ap (λ b. b && holds_fin (taken r) (receive_edge r) place (nothing_came r.early r.fin)) w.if-not-fin.true
      | then-not-fin-via-else-not-fin+then-not-holds_fin w ↦ ap (λ b. c.args.fin && b) (same ∙ sym w.holds_fin.ensures ∙ w.if-not-holds_fin.true) ∙ and_false c.args.fin
    ])

taken_now : (c : goal.After-self-1) → Makes c.args.self.now (offset_of c.args.self.now.irs c.args.seq.0 +ℤ pos c.args.len) [] true (record (the_view c.self.inside) { fin = true })
taken_now c =
    let r : Receiving = c.args.self.now in
    let place = offset_of r.irs c.args.seq.0 +ℤ pos c.args.len in
    let holds : holds_fin (taken r) (receive_edge r) (pos c.end-place.result) (nothing_came r.early r.fin) ≡ true = sym c.holds_fin.ensures ∙ c.if-not-holds_fin.false in
    takes_fin (the_view c.self.inside) r place c.end-place.result c.self.view_is c.self.invariant
    (held_number (taken r) (receive_edge r) place c.end-place.result (nothing_came r.early r.fin) c.end-place.ensures.place c.end-place.ensures.past holds)
    holds (c.if-place-taken.true ∙ c.taken.ensures.count)

held_now : (c : goal.After-self-else-place-taken-1)
    → Makes c.args.self.now (offset_of c.args.self.now.irs c.args.seq.0 +ℤ pos c.args.len) [] true (record (the_view c.self.inside) { early = record (the_view c.self.inside).early { fin = Some c.end-place.result } })
held_now c =
    let r : Receiving = c.args.self.now in
    let place = offset_of r.irs c.args.seq.0 +ℤ pos c.args.len in
    let holds : holds_fin (taken r) (receive_edge r) (pos c.end-place.result) (nothing_came r.early r.fin) ≡ true = sym c.holds_fin.ensures ∙ c.if-not-holds_fin.false in
    keeps_fin (the_view c.self.inside) r place c.end-place.result c.self.view_is c.self.invariant
    (held_number (taken r) (receive_edge r) place c.end-place.result (nothing_came r.early r.fin) c.end-place.ensures.place c.end-place.ensures.past holds)
    holds (λ e. c.if-place-taken.false (e ∙ sym c.taken.ensures.count))

pub invariant_of-self : goal.invariant_of-self
invariant_of-self c = (taken_now c).keeps

pub invariant_of-self-else-place-taken : goal.invariant_of-self-else-place-taken
invariant_of-self-else-place-taken c = (held_now c).keeps

pub returns-then-place-taken : goal.returns-then-place-taken
returns-then-place-taken c =
    (taken_now c).view ∙ ap (with_segment c.args.self.now (offset_of c.args.self.now.irs c.args.seq.0 +ℤ pos c.args.len) []) (sym c.if-not-fin.false)

pub returns-else-place-taken : goal.returns-else-place-taken
returns-else-place-taken c =
    (held_now c).view ∙ ap (with_segment c.args.self.now (offset_of c.args.self.now.irs c.args.seq.0 +ℤ pos c.args.len) []) (sym c.if-not-fin.false)
