-- An event of a world by what it is to the server: a turn of it, its boot, its end, or nothing.
use Rattle.std.proofs.Common.{◌≡◌, ◌⊎◌, inl, inr, ℕ, false, refl, sym, ap, ◌∙◌, subst, append-nil, Option, Some, None, Result, Ok, Err, List, [], ◌++◌}
use Rattle.std.specs.List.{AllByRecursion}
use Rattle.ft_io.specs.declared.Key.{Key}
use Rattle.server_trait.specs.Service.{Machine}
use Rattle.seq_arith.specs.Packet.{Segment}
use Rattle.seq_arith.specs.Message.{Message}
use Rattle.seq_arith.specs.PacketGrammar as segments
use Rattle.seq_arith.specs.MessageGrammar as messages
use Rattle.seq_arith.specs.Damage.{flipped}
use Rattle.seq_arith.specs.declared.BadPacket.{BadPacket}
use Rattle.seq_arith.proofs.Spelling.{spelling_is_read}
use Rattle.seq_arith.proofs.MessageSpelling.{message_is_read}
use Rattle.seq_arith.proofs.Refused.{flipped_packet_is_refused, flipped_is_refused_by}
use Rattle.tcp_rules.specs.Profile.{grammar_of}
use Rattle.ft_model.specs.Lawful.{LawfulTurn, hello}
use Rattle.ft_model.specs.Log.{log_after}
use Rattle.ft_model.specs.Network.{Packet, packet_at, destination_of}
use Rattle.ft_model.specs.Network.Packet.{To_server, To_client, To_logger, From_logger}
use Rattle.ft_model.specs.Node.{Node, Input, booted}
use Rattle.ft_model.specs.Node.Input.{Packet_comes, Message_comes, Noise_comes, Tick_comes}
use Rattle.ft_model.specs.World.{World, Happens, Moves, ServerMoves, ServerTurn, Delivered, ClientReceives, ClientReads, LogReceives, Flipped, IsNextBoot, segment_or_noise, message_or_noise}
use Rattle.ft_model.specs.declared.event.Event.{Event}
use Rattle.ft_model.specs.declared.event.Event.TheVariants.{Boot, Crash, Tick, Deliver, Flip, Begin, Send, Fin, Ack, Reset, Stop}
use Rattle.ft_model.proofs.Happened.{IsUnderWay, IsBrought, segment_is_noise, flip_is_quiet, message_is_noise}
use Rattle.ft_model.proofs.LogAnswers.{all_answers}
use Rattle.long_laws.specs.LongTrace.{asks_about}
use Rattle.long_laws.specs.QuarantineWorld.{arriving, arriving_as, event_input}

-- it says nothing to the log
abbrev pub SaysNothing : Packet → Type 0
SaysNothing packet = (key : Key) → asks_about key packet ≡ false

-- the server does nothing: the log may have heard a message, or a client a segment, or a client has sent one
pub record Elsewhere (before : World) (sent : List Packet) (after : World) : Type 0 where
  pub node : after.node ≡ before.node
  pub boot : after.boot ≡ before.boot
  pub packets : after.packets ≡ before.packets ++ sent
  pub silent : AllByRecursion SaysNothing sent
  pub log : (after.log ≡ before.log) ⊎ ((message : Message) × IsUnderWay before (To_logger message) × (after.log ≡ log_after before.log message))

pub data Went {State : Type 0} (service : Machine State) (before : World) (event : Event) (sent : List Packet) (after : World) : Type 0 where
  took_turn : (input : Input) (node later : Node) → event_input before event ≡ Some input → IsBrought before input → before.node ≡ Some node → LawfulTurn service node input sent later
      → after ≡ record before { node = Some later; packets = before.packets ++ sent } → Went service before event sent after
  was_elsewhere : event_input before event ≡ None → Elsewhere before sent after → Went service before event sent after
  has_booted : (boot isn : ℕ) → event_input before event ≡ None → before.node ≡ None → IsNextBoot before boot → sent ≡ hello (booted before.server before.profile boot isn)
      → after ≡ record before { boot = boot; node = Some (booted before.server before.profile boot isn); packets = before.packets ++ sent } → Went service before event sent after
  is_down : (before.node ≡ None) ⊎ (event_input before event ≡ None) → sent ≡ [] → after ≡ record before { node = None; packets = before.packets ++ sent } → Went service before event sent after

nothing_goes : (before : World) (sent : List Packet) (after : World) → sent ≡ [] → after ≡ before → Elsewhere before sent after
nothing_goes before sent after none same = record {
  node = ap (λ w. w.node) same;
  boot = ap (λ w. w.boot) same;
  packets = ap (λ w. w.packets) same ∙ (sym (append-nil before.packets) ∙ ap (λ ps. before.packets ++ ps) (sym none));
  silent = subst (AllByRecursion SaysNothing) (sym none) tt;
  log = inl (ap (λ w. w.log) same);
}

client_goes : (key : Key) (segment : Segment) (before : World) (sent : List Packet) (after : World) → ClientReceives key segment before sent after → Elsewhere before sent after
client_goes key segment before sent after h = record {
  node = ap (λ w. w.node) h.1;
  boot = ap (λ w. w.boot) h.1;
  packets = ap (λ w. w.packets) h.1;
  silent = subst (AllByRecursion SaysNothing) (sym h.0) tt;
  log = inl (ap (λ w. w.log) h.1);
}

client_reads : (key : Key) (r : Result Segment BadPacket) (before : World) (sent : List Packet) (after : World) → ClientReads key r before sent after → Elsewhere before sent after
client_reads key (Ok segment) before sent after h = client_goes key segment before sent after h
client_reads key (Err why) before sent after h = record {
  node = ap (λ w. w.node) h.1;
  boot = ap (λ w. w.boot) h.1;
  packets = ap (λ w. w.packets) h.1;
  silent = subst (AllByRecursion SaysNothing) (sym h.0) tt;
  log = inl (ap (λ w. w.log) h.1);
}

log_goes : (message : Message) (before : World) (sent : List Packet) (after : World) → IsUnderWay before (To_logger message) → LogReceives message before sent after → Elsewhere before sent after
log_goes message before sent after under h = record {
  node = ap (λ w. w.node) h.1;
  boot = ap (λ w. w.boot) h.1;
  packets = ap (λ w. w.packets) h.1;
  silent = subst (AllByRecursion SaysNothing) (sym h.0) (all_answers SaysNothing before.log message (λ body a key. refl));
  log = inr (message, under, ap (λ w. w.log) h.1);
}

move_goes : (number : ℕ) (before : World) (sent : List Packet) (after : World) → Moves before number sent after → Elsewhere before sent after
move_goes number before sent after m = record {
  node = ap (λ w. w.node) m.after_is;
  boot = ap (λ w. w.boot) m.after_is;
  packets = ap (λ w. w.packets) m.after_is;
  silent = subst (AllByRecursion SaysNothing) (sym m.sent_is) (λ key. refl, tt);
  log = inl (ap (λ w. w.log) m.after_is);
}

module _ {State : Type 0} (service : Machine State) (before : World) (event : Event) (sent : List Packet) (after : World) where
  turns : (input : Input) (node : Option Node) → event_input before event ≡ Some input → IsBrought before input → before.node ≡ node
      → ServerTurn service input node sent after.node → after ≡ record before { node = after.node; packets = before.packets ++ sent } → Went service before event sent after
  turns input None e brought up t a = is_down (inl up) t.0 (a ∙ ap (λ n. record before { node = n; packets = before.packets ++ sent }) t.1)
  turns input (Some node) e brought up t a = took_turn input node t.0 e brought up t.2 (a ∙ ap (λ n. record before { node = n; packets = before.packets ++ sent }) t.1)

  server_goes : (input : Input) → event_input before event ≡ Some input → IsBrought before input → ServerMoves service input before sent after → Went service before event sent after
  server_goes input e brought m = turns input before.node e brought refl m.0 m.1

  noise_goes : (input : Input) → input ≡ Noise_comes → event_input before event ≡ Some input → ServerMoves service input before sent after → Went service before event sent after
  noise_goes input noise e m = server_goes Noise_comes (e ∙ ap Some noise) tt (subst (λ i. ServerMoves service i before sent after) noise m)

comes : {State : Type 0} (service : Machine State) (before : World) (number : ℕ) (sent : List Packet) (after : World) (packet : Packet) → packet_at before.packets number ≡ Some packet
    → Delivered service before packet sent after → Went service before (Deliver number) sent after
comes service before number sent after (To_server segment) at d = server_goes service before (Deliver number) sent after (Packet_comes segment) (ap arriving at) (number, at) d
comes service before number sent after (From_logger message) at d = server_goes service before (Deliver number) sent after (Message_comes message) (ap arriving at) (number, at) d
comes service before number sent after (To_client segment) at d = was_elsewhere (ap arriving at) (client_goes (destination_of segment) segment before sent after d)
comes service before number sent after (To_logger message) at d = was_elsewhere (ap arriving at) (log_goes message before sent after (number, at) d)

comes_flipped : {State : Type 0} (service : Machine State) (before : World) (number bit : ℕ) (sent : List Packet) (after : World) (packet : Packet) → packet_at before.packets number ≡ Some packet
    → Flipped service before packet bit sent after → Went service before (Flip number bit) sent after
comes_flipped service before number bit sent after (To_server segment) at f =
    noise_goes service before (Flip number bit) sent after (segment_or_noise (segments.reading (flipped bit (segments.spelling segment))))
    (segment_is_noise _ (flipped_packet_is_refused bit (segments.spelling segment) segment (spelling_is_read segment f.wire.0) f.within)) (ap (λ p. arriving_as (grammar_of before.profile) p bit) at) f.comes
comes_flipped service before number bit sent after (From_logger message) at f =
    noise_goes service before (Flip number bit) sent after (message_or_noise (messages.reading_by (grammar_of before.profile) (flipped bit (messages.spelling_by (grammar_of before.profile) message))))
    (message_is_noise (messages.reading_by (grammar_of before.profile) (flipped bit (messages.spelling_by (grammar_of before.profile) message))) (flipped_is_refused_by (grammar_of before.profile) bit (messages.spelling_by (grammar_of before.profile) message) message (message_is_read message f.wire.0) f.within))
    (ap (λ p. arriving_as (grammar_of before.profile) p bit) at) f.comes
comes_flipped service before number bit sent after (To_client segment) at f =
    was_elsewhere (ap (λ p. arriving_as (grammar_of before.profile) p bit) at) (client_reads (destination_of segment) (segments.reading (flipped bit (segments.spelling segment))) before sent after f.comes)
comes_flipped service before number bit sent after (To_logger message) at f =
    let q = flip_is_quiet service before message bit sent after f in was_elsewhere (ap (λ p. arriving_as (grammar_of before.profile) p bit) at) (nothing_goes before sent after q.0 q.1)

pub went : {State : Type 0} (service : Machine State) (before : World) (event : Event) (sent : List Packet) (after : World) → Happens service before event sent after
    → Went service before event sent after
went service before (Boot boot isn) sent after h = has_booted boot isn refl h.0 h.1 h.2 h.3
went service before Crash sent after h = is_down (inr refl) h.1 h.2
went service before Tick sent after h = server_goes service before Tick sent after Tick_comes refl tt h.1
went service before (Deliver number) sent after h = comes service before number sent after h.0 h.1 h.2
went service before (Flip number bit) sent after h = comes_flipped service before number bit sent after h.0 h.1 h.2
went service before (Begin client window) sent after h = was_elsewhere refl (move_goes client before sent after h)
went service before (Send client from len) sent after h = was_elsewhere refl (move_goes client before sent after h)
went service before (Fin client) sent after h = was_elsewhere refl (move_goes client before sent after h)
went service before (Ack client window) sent after h = was_elsewhere refl (move_goes client before sent after h)
went service before (Reset client) sent after h = was_elsewhere refl (move_goes client before sent after h)
went service before (Stop part) sent after h = absurd h
