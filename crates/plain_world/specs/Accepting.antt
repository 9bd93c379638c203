-- What a client that holds no out-of-order data accepts of a segment, defined without reassembly.
use Rattle.std.specs.Prelude.{ℕ, ℤ, Bool, pos, ◌-◌, ◌&&◌, ◌||◌, nat_lt, int_lt, List, [], length, take, drop, if◌then◌else◌}
use Rattle.tcp_rules.specs.Arrival.{int_eq, below}
use Rattle.tcp_rules.specs.Coming.{Came, nothing_early, comes}
use Rattle.ft_model.specs.Client.{Client, is_ended}

-- what a text that begins at `first`, and a FIN after it, add to what the client has accepted
abbrev pub added : Client → ℤ → List ℕ → Bool → Came
added client first text fin = comes (length client.accepted) client.edge (is_ended client.phase) nothing_early first text fin

-- the text from the end of the accepted bytes up to the right edge. A text that begins after a gap has none, and there is none once the FIN is accepted
unfoldable pub next_text : (n edge : ℕ) → Bool → ℤ → List ℕ → List ℕ
next_text n edge fin first text = if fin || int_lt (pos n) first then [] else take (edge - n) (drop (below n first) text)

-- a FIN is accepted at the end of all accepted bytes, below the right edge
unfoldable pub is_fin_at : (n edge : ℕ) → ℤ → Bool
is_fin_at n edge place = int_eq place (pos n) && nat_lt n edge
