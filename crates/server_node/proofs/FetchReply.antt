-- The answer to a client while the log is fetched.
use Rattle.std.proofs.Common.{◌≡◌, ◌∙◌, Bool, true, ◌&&◌, not, sym, ap, subst, List, [], ◌∷◌, map, append-nil, Option, Some, None, option_map, if◌then◌else◌}
use Rattle.std.specs.Option.{option_to_list}
use Rattle.ft_io.specs.declared.Key.{Key}
use Rattle.seq_arith.specs.Message.{EntryHead}
use Rattle.seq_arith.specs.Packet.{Segment, has_rst}
use Rattle.tcp_rules.specs.Profile.{grammar_of}
use Rattle.ft_model.specs.Network.{source_of}
use Rattle.ft_model.specs.Network.Packet.{To_client}
use Rattle.ft_model.specs.Restart.{Fetched, live_entry, holding_segment}
use Rattle.ft_model.specs.Node.{Node, is_for}
use Rattle.ft_model.specs.Lawful.{held}
use Rattle.ft_model.specs.Wire.{Wire}
use Rattle.node_serving.specs.RefusalPackets.{AreSent}
use Rattle.node_serving.specs.SentBytes.{ArePut}
use Rattle.server_node.proofs.FetchAnswer.{heads_of}

module _ (node : Node) (fetched : List Fetched) (segment : Segment) where
  held_if : (b : Bool) → (is_for node.server segment && not (has_rst segment)) ≡ b
      → held node fetched segment ≡ (if b then map (λ f. To_client (holding_segment node.server f.head)) (option_to_list (live_entry (source_of segment) fetched)) else [])
  held_if b e = ap (λ x. if x then map (λ f. To_client (holding_segment node.server f.head)) (option_to_list (live_entry (source_of segment) fetched)) else []) e

  held_by : (key : Key) (o : Option EntryHead) → (is_for node.server segment && not (has_rst segment)) ≡ true → source_of segment ≡ key → o ≡ option_map (λ f. f.head) (live_entry key fetched)
      → held node fetched segment ≡ map (λ h. To_client (holding_segment node.server h)) (option_to_list o)
  held_by key o e from is =
      held_if true e
      ∙ (heads_of (λ h. To_client (holding_segment node.server h)) (live_entry (source_of segment) fetched)
      ∙ ap (λ x. map (λ h. To_client (holding_segment node.server h)) (option_to_list x)) (ap (λ k. option_map (λ f. f.head) (live_entry k fetched)) from ∙ sym is))

  -- nor does a client without an entry that isn't done
  pub none_held : (key : Key) (reported : List Wire) → (is_for node.server segment && not (has_rst segment)) ≡ true → source_of segment ≡ key
      → None ≡ option_map (λ f. f.head) (live_entry key fetched) → ArePut (grammar_of node.profile) (held node fetched segment) reported reported
  none_held key reported e from is = subst (λ ps. ArePut (grammar_of node.profile) ps reported reported) (sym (held_by key None e from is)) (record { wires = sym (append-nil reported); spelled = tt })

  -- another is told where its stream stands
  pub one_held : (key : Key) (head : EntryHead) (answer : Segment) (old new : List Wire) → (is_for node.server segment && not (has_rst segment)) ≡ true → source_of segment ≡ key
      → Some head ≡ option_map (λ f. f.head) (live_entry key fetched) → answer ≡ holding_segment node.server head → AreSent (answer ∷ []) old new → ArePut (grammar_of node.profile) (held node fetched segment) old new
  one_held key head answer old new e from is same put =
      subst (λ ps. ArePut (grammar_of node.profile) ps old new) (sym (held_by key (Some head) e from is))
      (subst (λ s. ArePut (grammar_of node.profile) (To_client s ∷ []) old new) same (put.each (grammar_of node.profile)))
