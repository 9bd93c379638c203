-- The connection of a key that `Node::conn` returns.
use Rattle.std.specs.Prelude.{Option, Some, None}
use Rattle.ft_io.specs.declared.Key.{Key}
use Rattle.server_trait.specs.Service.{Machine}
use Rattle.ft_model.specs.Node.{Node, Place, Stage, place_at}
use Rattle.ft_model.specs.Node.Place.{Lives}
use Rattle.ft_model.specs.Node.Stage.{Serving}
use Rattle.wrapped_conn.specs.ConnState.{ConnState}
use Rattle.node_serving.specs.declared.slot.Slot.{Slot}
use Rattle.node_serving.specs.declared.slot.Slot.TheVariants as slot
use Rattle.node_serving.specs.Conn.{IsOursAt}

abbrev pub conn_in : {S : Type 0} → Option (Slot S) → Option (ConnState S)
conn_in (Some (slot.Live c)) = Some c
conn_in _ = None

-- the place of a key. While a node doesn't serve, there is none, and no connection to return
abbrev pub place_in : Key → Stage → Option Place
place_in key (Serving opened places) = place_at key places
place_in key _ = None

-- there is a connection exactly if the key's place is live, and it corresponds to the place's point
abbrev pub IsConnAt : {S : Type 0} → Machine S → Node → Option (ConnState S) → Option Place → Type 0
IsConnAt service node (Some c) (Some (Lives p)) = IsOursAt service node.server node.boot c p
IsConnAt service node None (Some (Lives p)) = ⊥
IsConnAt service node None _ = Unit {0}
IsConnAt service node (Some c) _ = ⊥
