-- What arrives, as the law's input, and how it can end a turn.
use Rattle.std.proofs.Common.{◌≡◌, ◌∙◌, ℕ, false, refl, sym, ap, subst, Option, Some, None, option_map, List, Result, Ok, Err, IsErrAnd, if◌then◌else◌}
use Rattle.std.specs.Map.{lookup}
use Rattle.ft_io.specs.declared.Key.{Key}
use Rattle.ft_io.specs.Key.{key_eq}
use Rattle.ft_io.proofs.Choices.{by_cases, if_true, if_false}
use Rattle.seq_arith.specs.Message.{Message}
use Rattle.seq_arith.specs.Message.Body.{EndedMsg}
use Rattle.seq_arith.specs.Packet.{Segment}
use Rattle.seq_arith.specs.declared.BadPacket.{BadPacket}
use Rattle.seq_arith.specs.declared.kinds.BadMsg.{BadMsg}
use Rattle.seq_arith.specs.declared.kinds.Grammar.{Grammar}
use Rattle.logger_wire.specs.Value.{body_of}
use Rattle.logger_wire.specs.declared.Body.{Body as CodeBody}
use Rattle.logger_wire.specs.declared.Body.TheVariants as body
use Rattle.server_trait.specs.Service.{Machine}
use Rattle.server_trait.specs.declared.Service.{Ghosts}
use Rattle.ft_model.specs.Node.{Node, Place, Stage, Input, key_of, place_at}
use Rattle.ft_model.specs.Node.Input.{Tick_comes}
use Rattle.ft_model.specs.Node.Place.{Opens, Lives, Ended}
use Rattle.ft_model.specs.Node.Stage.{Asking, Fetching, Serving, Fenced}
use Rattle.ft_model.specs.Point.{Point}
use Rattle.ft_model.specs.World.{segment_or_noise, message_or_noise}
use Rattle.ft_model.proofs.Lists.{found_passes, same_key, none_is_some}
use Rattle.seq_arith.specs.MessageGrammar as messages
use Rattle.long_laws.specs.Forgetting.{ForgetMessage}
use Rattle.long_laws.specs.ForgetGrammar as forgets
use Rattle.long_laws.specs.Quarantine.{named_point, begun}
use Rattle.lasting_laws.specs.LastingTurn.LastingInput.{Usual_comes, Forget_comes}
use Rattle.lasting_lives.specs.declared.life.Life.{Life}
use Rattle.lasting_lives.specs.declared.life.Resting.{Resting}
use Rattle.lasting_lives.specs.Known.{EndsPlace, EndsBy}
use Rattle.lasting_lives.specs.Watches.{QuarantineStands, end_there}
use Rattle.node_serving.specs.Conn.{IsOursAt}
use Rattle.node_serving.specs.Identity.{node_of, service_of}
use Rattle.node_serving.specs.Loan.{IsConnAt, place_in}
use Rattle.node_serving.specs.declared.identity.Identity.{Identity}
use Rattle.wrapped_conn.specs.ConnState.{ConnState}
use Rattle.server_node.specs.Stages.{StageStands}
use Rattle.server_node.specs.StageTurns.{IsUnfenced, IsFenceOf}
use Rattle.server_node.specs.declared.input.TurnEnd.{TurnEnd}
use Rattle.server_node.specs.declared.input.TurnEnd.TheVariants as ends
use Rattle.lasting_node.specs.declared.node.LastingNode.{LastingNode}
use Rattle.lasting_node.specs.Turns.{NodeWent, NodeProceeds, message_said, message_input}

-- a packet fences nobody
pub packet_unfenced : (who : Identity) (r : Result Segment BadPacket) → IsUnfenced who (segment_or_noise r)
packet_unfenced who (Ok segment) standing = refl
packet_unfenced who (Err bad) standing = refl

pub memory_alone : (who : Identity) (i : Input) (end : TurnEnd) → end ≡ ends.NoMemory → IsFenceOf who i end
memory_alone who i end e = subst (IsFenceOf who i) (sym e) tt

pub memory_of_packet : (who : Identity) (r : Result Segment BadPacket) (end : TurnEnd) → IsFenceOf who (segment_or_noise r) end → end ≡ ends.NoMemory
memory_of_packet who r ends.NoMemory f = refl
memory_of_packet who r (ends.Fenced newer) f = none_is_some newer (sym (packet_unfenced who r Asking) ∙ f Asking)

-- the error that `?` hands on
pub same_error : {T E : Type 0} (r : Result T E) (x y : E) → IsErrAnd r (λ e. e ≡ x) → r ≡ Err y → x ≡ y
same_error (Ok v) x y h k = absurd h
same_error (Err e) x y h k = cc

-- .. nor does a tick
pub memory_of_tick : (who : Identity) (end : TurnEnd) → IsFenceOf who Tick_comes end → end ≡ ends.NoMemory
memory_of_tick who ends.NoMemory f = refl
memory_of_tick who (ends.Fenced newer) f = none_is_some newer (f Asking)

-- a datagram from the logger's side
pub said_forget : (grammar : Grammar) (bytes : List ℕ) (message : ForgetMessage) → forgets.reading bytes ≡ Ok message → message_said grammar bytes ≡ Forget_comes message
said_forget grammar bytes message e = ap (λ r. message_input grammar r bytes) e

pub said_usual : (grammar : Grammar) (bytes : List ℕ) (bad : BadMsg) → forgets.reading bytes ≡ Err bad → message_said grammar bytes ≡ Usual_comes (message_or_noise (messages.reading_by grammar bytes))
said_usual grammar bytes bad e = ap (λ r. message_input grammar r bytes) e

-- .. in the grammar of the profile
pub read_by : (g h : Grammar) (bytes : List ℕ) (r : Result Message BadMsg) → h ≡ g → r ≡ messages.reading_by h bytes → messages.reading_by g bytes ≡ r
read_by g h bytes r e v = ap (λ x. messages.reading_by x bytes) (sym e) ∙ sym v

-- what is known of one key changes
pub changed_at : (key : Key) (f : Life → Life) (old new : List (Key × Life)) → lookup (key_eq key) new ≡ option_map f (lookup (key_eq key) old)
    → ((k : Key) → key_eq key k ≡ false → lookup (key_eq k) new ≡ lookup (key_eq k) old)
    → (k : Key) → lookup (key_eq k) new ≡ (if key_eq key k then option_map f (lookup (key_eq k) old) else lookup (key_eq k) old)
changed_at key f old new its others k =
    by_cases (key_eq key k)
    (λ t. subst (λ y. lookup (key_eq y) new ≡ option_map f (lookup (key_eq y) old)) (same_key key k t) its
    ∙ sym (if_true (key_eq key k) (option_map f (lookup (key_eq k) old)) (lookup (key_eq k) old) t))
    (λ e. others k e ∙ sym (if_false (key_eq key k) (option_map f (lookup (key_eq k) old)) (lookup (key_eq k) old) e))

-- what is said of the server after it depends on its node alone
pub proceeds_to : {S : Type 0} {s : Ghosts S} (input : Input) (was mid now : LastingNode S s) → now.node ≡ mid.node → NodeProceeds input was mid → NodeProceeds input was now
proceeds_to {S} {s} input was mid now e t = λ n near sound st.
    let w : NodeWent (service_of s was.node.who) n input mid = t n near sound st in
    record {
      later = w.later;
      packets = w.packets;
      turn = w.turn;
      who = w.who ∙ ap (λ x. node_of x.who w.later.stage) (sym e);
      stands = subst (λ x. StageStands (service_of s was.node.who) w.later x.stage) (sym e) w.stands;
      before = w.before;
      apart = w.apart;
      wires = ap (λ x. x.turn.sent.items) e ∙ w.wires;
      spelled = w.spelled;
    }

-- The live connection that a message ends: none, unless it says Ended
pub no_end : (at : Stage) (b : CodeBody) → ((key : Key) → b ≡ body.Ended key → ⊥) → EndsBy at (body_of b) None
no_end Asking b other = refl
no_end (Fetching count fetched) b other = refl
no_end (Fenced newer) b other = refl
no_end (Serving opened places) (body.Ended key) other = absurd (other key refl)
no_end (Serving opened places) b other = refl

-- .. or its key's place isn't live
pub none_ends : {S : Type 0} (service : Machine S) (node : Node) (at : Stage) (key : Key) → IsConnAt service node None (place_in key at) → EndsBy at (EndedMsg key) None
none_ends service node Asking key c = refl
none_ends service node (Fetching count fetched) key c = refl
none_ends service node (Fenced newer) key c = refl
none_ends service node (Serving opened places) key c = by (place_at key places) c
  where
    by : (o : Option Place) → IsConnAt service node None o → EndsPlace o None
    by (Some (Lives p)) x = absurd x
    by (Some (Opens m t)) x = refl
    by (Some (Ended k)) x = refl
    by None x = refl

-- .. and otherwise it is the one that is shown
pub one_ends : {S : Type 0} (service : Machine S) (node : Node) (at : Stage) (key : Key) (c : ConnState S) (r : Resting) → IsConnAt service node (Some c) (place_in key at)
    → ((p : Point) → p.key ≡ key → IsOursAt service node.server node.boot c p → QuarantineStands r (begun (named_point p)) × (r.end.0 ≡ end_there p)) → EndsBy at (EndedMsg key) (Some r)
one_ends service node Asking key c r x shown = absurd x
one_ends service node (Fetching count fetched) key c r x shown = absurd x
one_ends service node (Fenced newer) key c r x shown = absurd x
one_ends service node (Serving opened places) key c r x shown = by (place_at key places) refl x
  where
    by : (o : Option Place) → place_at key places ≡ o → IsConnAt service node (Some c) o → EndsPlace o (Some r)
    by (Some (Lives p)) e y = shown p (same_key p.key key (found_passes (λ z. key_eq (key_of z) key) places (Lives p) e)) y
    by (Some (Opens m t)) e y = absurd y
    by (Some (Ended k)) e y = absurd y
    by None e y = absurd y
