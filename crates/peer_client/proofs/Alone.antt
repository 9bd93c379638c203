-- What comes to a client that holds nothing, in plain words.
use Rattle.std.proofs.Common.{◌≡◌, ℕ, ◌+◌, Bool, List, ◌++◌, length, ap, ◌∙◌}
use Rattle.std.specs.Prelude.{ℤ, pos, ◌+ℤ◌, ◌&&◌, ◌||◌, if◌then◌else◌}
use Rattle.tcp_rules.specs.Coming.{nothing_early, comes}
use Rattle.tcp_rules.proofs.Coming.{comes_alone}
use Rattle.ft_model.specs.Client as machine
use Rattle.ft_model.specs.Client.{Client, is_ended, holds}
use Rattle.ft_model.specs.Client.ClientKind.{Scripted}
use Rattle.ft_model.specs.declared.phase.Phase.TheVariants.{Ended}
use Rattle.ft_model.proofs.ClientKinds.{ends_by}
use Rattle.peer_client.specs.Scripted.{added, next_text, is_fin_at}

text_alone : (n edge : ℕ) (fin : Bool) (first : ℤ) (text : List ℕ) (has_fin : Bool)
    → (comes n edge fin nothing_early first text has_fin).added ≡ next_text n edge fin first text
unfolding next_text
text_alone n edge fin first text has_fin = (comes_alone n edge fin first text has_fin).added

fin_alone : (n edge : ℕ) (fin : Bool) (first : ℤ) (text : List ℕ) (has_fin : Bool)
    → (comes n edge fin nothing_early first text has_fin).fin
    ≡ (fin || (has_fin && is_fin_at (n + length (next_text n edge fin first text)) edge (first +ℤ pos (length text))))
unfolding is_fin_at next_text
fin_alone n edge fin first text has_fin =
    (comes_alone n edge fin first text has_fin).fin
    ∙ ap (λ (bytes : List ℕ). fin || (has_fin && is_fin_at (n + length bytes) edge (first +ℤ pos (length text)))) (text_alone n edge fin first text has_fin)

-- a scripted client takes the text that continues what it has accepted, and drops all else
pub accepted_is : (c : Client) (first : ℤ) (text : List ℕ) (fin : Bool) → c.kind ≡ Scripted
    → machine.with_added c (added c first text fin)
    ≡ record c {
      accepted = c.accepted ++ next_text (length c.accepted) c.edge (is_ended c.phase) first text;
      early = nothing_early;
      phase = if fin && is_fin_at (length c.accepted + length (next_text (length c.accepted) c.edge (is_ended c.phase) first text)) c.edge (first +ℤ pos (length text))
          then Ended
          else c.phase;
    }
accepted_is c first text fin kind =
    let n : ℕ = length c.accepted in
    let f : Bool = is_ended c.phase in
    let new : List ℕ = next_text n c.edge f first text in
    let ends : Bool = fin && is_fin_at (n + length new) c.edge (first +ℤ pos (length text)) in
    (λ i. record c {
      accepted = c.accepted ++ text_alone n c.edge f first text fin i;
      early = holds (kind i) (added c first text fin).early;
      phase = if fin_alone n c.edge f first text fin i then Ended else c.phase;
    })
    ∙ (λ i. record c { accepted = c.accepted ++ new; early = nothing_early; phase = ends_by c.phase ends i })
