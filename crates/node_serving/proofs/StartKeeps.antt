-- What the first turn of a connection keeps.
use Rattle.std.proofs.Common.{◌≡◌, ◌∙◌, ℕ, refl, ap, List}
use Rattle.server_trait.specs.Service.{Machine}
use Rattle.tcp_endpoint.specs.SendHalf.{Sending}
use Rattle.tcp_endpoint.specs.Tcb.{Tcb}
use Rattle.endpoint_laws.specs.Turn.{Call, called}
use Rattle.endpoint_laws.specs.Turn.Call.{Reads, Writes, Closes}
use Rattle.endpoint_laws.proofs.EndingLaw.{used_keeps}
use Rattle.endpoint_laws.proofs.TurnEnd.{flush_keeps}
use Rattle.north_wrap.specs.NorthState.{lengths_of}
use Rattle.wrapped_conn.specs.Calls.{calls_of}
use Rattle.wrapped_conn.specs.ConnState.{ConnState}
use Rattle.wrapped_conn.specs.Turn.{Starts, tcp_used, new_reads}

-- no turn without a segment changes the initial number of the TCP inside
call_numbers : (call : Call) (t : Tcb) → (called call t).sending.iss ≡ t.sending.iss
call_numbers (Reads n) t = refl
call_numbers (Writes bytes) t = refl
call_numbers Closes t = refl

pub number_kept : {S : Type 0} (service : Machine S) (c now : ConnState S) (segments messages : List (List ℕ)) → Starts service.after c now segments messages
    → now.endpoint.sending.iss ≡ c.endpoint.sending.iss
number_kept service c now segments messages k =
    ap (λ x. x.endpoint.sending.iss) k.state
    ∙ flush_keeps (λ (q : Sending). q.iss) (tcp_used c (new_reads c now)) (record { sends = λ s n. refl; ends = λ s. refl; times = λ s t i r. refl })
    ∙ used_keeps (λ (t : Tcb). t.sending.iss) call_numbers (calls_of c.north c.endpoint (lengths_of (new_reads c now))) c.endpoint

pub delta_kept : {S : Type 0} (service : Machine S) (c now : ConnState S) (segments messages : List (List ℕ)) → Starts service.after c now segments messages → now.south.delta ≡ c.south.delta
delta_kept service c now segments messages k = ap (λ x. x.south.delta) k.state
