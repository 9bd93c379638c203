use Rattle.std.proofs.Common.{rules, ◌≡◌, ◌∙◌, ap, Some, None, subst, sym}
use Rattle.std.specs.Map.{lookup}
use Rattle.std.specs.Option.{option_copied}
use Rattle.ft_io.specs.Key.{key_eq}
use Rattle.ft_model.specs.Node.{place_at}
use Rattle.node_serving.specs.Loan.{conn_in, IsConnAt}
use Rattle.node_serving.proofs.Lent.{conn_looked}
use Rattle.node_serving.proofs.LentConn.{sound_lent}
use Rattle.node_serving.proofs.Sound.{sound_found}
use Rattle.node_serving.proofs.slots.conn_at.Goals as goal

pub returns-clause-stands : goal.returns-clause-stands
returns-clause-stands g c = λ service node places st.
    let es = c.args.slots.now.entries in
    let found : lookup (key_eq c.args.key) es ≡ Some c.in_ok-get.field-0.now = sym c.get.ensures.value ∙ ap option_copied c.in_ok-get.was in
    subst (λ r. IsConnAt service node r (place_at c.args.key places)) (sym c.live_conn.ensures)
    (subst (λ f. IsConnAt service node (conn_in f) (place_at c.args.key places)) found (conn_looked service node c.args.key es places st))

pub returns-in_err-get-clause-stands : goal.returns-in_err-get-clause-stands
returns-in_err-get-clause-stands g c = λ service node places st.
    let es = c.args.slots.now.entries in
    let none : lookup (key_eq c.args.key) es ≡ None = sym c.get.ensures.value ∙ ap option_copied c.in_err-get.was in
    let gone : option_copied c.from_residual.result ≡ None = search rules in
    subst (λ r. IsConnAt service node r (place_at c.args.key places)) (sym gone)
    (subst (λ f. IsConnAt service node (conn_in f) (place_at c.args.key places)) none (conn_looked service node c.args.key es places st))

pub returns-clause-sound : goal.returns-clause-sound
returns-clause-sound g c = λ who sound.
    let es = c.args.slots.now.entries in
    let found : lookup (key_eq c.args.key) es ≡ Some c.in_ok-get.field-0.now = sym c.get.ensures.value ∙ ap option_copied c.in_ok-get.was in
    sound_lent who c.args.key c.in_ok-get.field-0.now c.live_conn.result (sound_found who c.args.key es c.in_ok-get.field-0.now sound found) c.live_conn.ensures
