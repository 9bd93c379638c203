-- The steps of the world that is seen: what happens without marks, nothing, and the log's acknowledged units rise to what a true mark made.
use Rattle.std.proofs.Common.{◌≡◌, ℕ, suc, ◌-◌, ◌≤◌, ◌<◌, ◌==◌, ◌||◌, true, false, refl, sym, ap, ap₂, ◌∙◌, subst, true≢false, Some, List, [], ◌∷◌, ◌++◌, map, max, length, drop, slice_get, append-nil, append_assoc, arith, le_refl, nat_lt, if◌then◌else◌}
use Rattle.std.specs.List.{AllByRecursion}
use Rattle.std.proofs.Math.Seq.{drop-nil}
use Rattle.ft_io.specs.declared.Key.{Key}
use Rattle.ft_io.specs.Key.{key_eq}
use Rattle.ft_io.proofs.Choices.{holds_if, if_false, if_true}
use Rattle.ft_io.proofs.Numbers.{equal_itself, not_less_itself}
use Rattle.seq_arith.specs.Message.{Message, Part}
use Rattle.seq_arith.specs.Message.Body.{DataMsg, StaleMsg}
use Rattle.server_trait.specs.Service.{Machine}
use Rattle.ft_model.specs.Log.{Log, Entry, with_entry, with_part, log_after, answer_to}
use Rattle.ft_model.specs.Masked.{AcknowledgesLogged, RestartIsExact, is_restarting}
use Rattle.ft_model.specs.Network.{Packet}
use Rattle.ft_model.specs.Network.Packet.{To_logger, From_logger}
use Rattle.ft_model.specs.Node.{Node}
use Rattle.ft_model.specs.World.{World, IsStart}
use Rattle.ft_model.proofs.Acknowledged.{acknowledged_moment, short_scripts}
use Rattle.ft_model.proofs.Backed.{logged_output}
use Rattle.ft_model.proofs.Cuttable.{cut_proceeds}
use Rattle.ft_model.proofs.Exact.{exact_moment, same_exact}
use Rattle.ft_model.proofs.FaithfulOver.{script_of, isn_of}
use Rattle.ft_model.proofs.Happened.{Happened, IsUnderWay, answers}
use Rattle.ft_model.proofs.Happened.Happened.{log_received}
use Rattle.ft_model.proofs.JointMasked.{sound_proceeds}
use Rattle.ft_model.proofs.Resets.{knowing_proceeds}
use Rattle.ft_model.proofs.Running.{HasSmallOutputs}
use Rattle.ft_model.proofs.ReportedLast.{IsSilentTo, silent_append}
use Rattle.ft_model.proofs.ReportedOver.{reporting_proceeds, answers_silent}
use Rattle.ft_model.proofs.Unfenced.{unfenced_proceeds}
use Rattle.trace_laws.proofs.FinsBelow.{below_proceeds}
use Rattle.trace_laws.proofs.Near.{near_proceeds}
use Rattle.mark_laws.specs.MarkedLog.{acknowledging}
use Rattle.mark_laws.proofs.Own.{owns_proceeds}
use Rattle.mark_laws.proofs.Packets.{Sound, MayStand, with_packets, fewer, more}

-- after a step all that is kept true still is, what is sent acknowledges what is logged, and a restart that ends is exact
pub record Stepped {State : Type 0} (service : Machine State) (start before : World) (sent : List Packet) (after : World) : Type 0 where
  pub sound : Sound service start after
  pub acknowledged : AllByRecursion (AcknowledgesLogged after.log after.clients) sent
  pub restart : RestartIsExact service after.log before.node after.node

-- what happens without marks
pub went : {State : Type 0} (service : Machine State) → HasSmallOutputs service → (start before : World) (sent : List Packet) (after : World)
    → IsStart start → Sound service start before → Happened service before sent after → Stepped service start before sent after
went service small start before sent after starts s h = record {
  sound = record {
    joint = sound_proceeds service small start before sent after starts s.joint h;
    reporting = reporting_proceeds service before sent after s.joint.asked s.joint.distinct s.reporting h;
    below = below_proceeds service (script_of start) (isn_of start) before sent after (short_scripts start starts) s.joint.asked s.joint.faithful s.below h;
    near = near_proceeds service start before sent after s.joint s.near h;
    unfenced = unfenced_proceeds service before sent after s.joint.fenced s.unfenced h;
    owns = owns_proceeds service start before sent after s.joint s.near s.owns h;
    knows = knowing_proceeds service start before sent after s.joint s.knows h;
    cut = cut_proceeds service before sent after s.cut h;
  };
  acknowledged = acknowledged_moment service start before sent after starts ((s.joint.fenced, s.joint.asked), s.joint.faithful) h;
  restart = exact_moment service before sent after (s.joint.fenced, s.joint.asked) h;
}

-- nothing
pub nothing_went : {State : Type 0} (service : Machine State) (start before : World) (sent : List Packet) (after : World) → sent ≡ [] → after ≡ before
    → Sound service start before → Stepped service start before sent after
nothing_went service start before sent after none same s =
    subst (λ w. Stepped service start before sent w) (sym same)
    (subst (λ ps. Stepped service start before ps before) (sym none) (record { sound = s; acknowledged = tt; restart = same_exact service before.log before.node }))

-- what happens, but that these last packets, which no client gets, aren't sent
pub went_without : {State : Type 0} (service : Machine State) (start before after : World) (hs : List Packet) → ((key : Key) → IsSilentTo key hs)
    → after.packets ≡ before.packets ++ hs → Stepped service start before hs after → Stepped service start before [] (with_packets after before.packets)
went_without service start before after hs silent packets s =
    let all : after.packets ≡ before.packets ++ (hs ++ []) = packets ∙ ap (λ l. before.packets ++ l) (sym (append-nil hs)) in
    let sound : Sound service start (with_packets after (before.packets ++ [])) =
    fewer service start after before.packets hs [] silent (subst (λ ps. Sound service start (with_packets after ps)) all s.sound) in
    record { sound = subst (λ ps. Sound service start (with_packets after ps)) (append-nil before.packets) sound; acknowledged = tt; restart = s.restart }

-- the packet at the end
pub get_last : {A : Type 0} (xs : List A) (x : A) → slice_get (xs ++ x ∷ []) (length xs) ≡ Some x
get_last [] x = refl
get_last (y ∷ xs) x = get_last xs x

pub last_under_way : (w : World) (packet : Packet) → IsUnderWay (with_packets w (w.packets ++ packet ∷ [])) packet
last_under_way w packet = (suc (length w.packets), get_last w.packets packet)

-- Data without bytes only acknowledges
abbrev pub no_bytes : Key → (offset units : ℕ) → Part
no_bytes key offset units = record { key = key; offset = offset; acked = units; fin = false; more = false; bytes = [] }

pub only_acknowledges : (key : Key) (offset units : ℕ) (e : Entry) → with_part (no_bytes key offset units) e ≡ acknowledging units e
only_acknowledges key offset units e =
    let same : e.bytes ++ drop (length e.bytes - offset) [] ≡ e.bytes = ap (λ l. e.bytes ++ l) (drop-nil (length e.bytes - offset)) ∙ append-nil e.bytes in
    ap (λ (x : Entry). record x { acknowledged = max e.acknowledged units })
    (holds_if (λ (x : Entry). x ≡ e) (e.fin || nat_lt (length e.bytes) offset) e (record e { bytes = e.bytes ++ drop (length e.bytes - offset) [] }) (λ t. refl)
    (λ t. ap (λ (l : List ℕ). record e { bytes = l }) same))

pub same_changes : (key : Key) (f g : Entry → Entry) → ((e : Entry) → f e ≡ g e) → (es : List Entry)
    → map (λ e. if key_eq e.key key then f e else e) es ≡ map (λ e. if key_eq e.key key then g e else e) es
same_changes key f g same [] = refl
same_changes key f g same (e ∷ es) = ap₂ ◌∷◌ (ap (λ x. if key_eq e.key key then x else e) (same e)) (same_changes key f g same es)

data_logged : (log : Log) (key : Key) (offset units : ℕ)
    → log_after log (record { boot = log.boot; body = DataMsg (no_bytes key offset units) }) ≡ with_entry key (acknowledging units) log
unfolding log_after
data_logged log key offset units =
    let part = no_bytes key offset units in
    if_false (nat_lt log.boot log.boot) log _ (not_less_itself log.boot)
    ∙ (if_true (log.boot == log.boot) (with_entry key (with_part part) log) log (equal_itself log.boot)
    ∙ ap (λ (es : List Entry). record log { entries = es }) (same_changes key (with_part part) (acknowledging units) (only_acknowledges key offset units) log.entries))

-- a restart is of a newer boot than the log's
abbrev pub RestartsAbove : World → Type 0
RestartsAbove w = (node : Node) → w.node ≡ Some node → is_restarting node.stage ≡ true → w.log.boot ≡ node.boot → ⊥

data_stands : {State : Type 0} (service : Machine State) (start w : World) (key : Key) (offset units : ℕ) → (s : Sound service start w) → RestartsAbove w
    → units ≤ logged_output service (script_of start) w.log key
    → MayStand service start w s.joint.author.author (To_logger (record { boot = w.log.boot; body = DataMsg (no_bytes key offset units) }))
data_stands service start w key offset units s above backed = record {
  boot = (s.joint.fenced.log, λ c. le_refl w.log.boot);
  quiet = λ n e r own. absurd (above n e r own);
  agrees = λ n e r. tt;
  fits = record { stands = (drop offset (script_of start key), refl); fin = λ f. absurd (true≢false (sym f)) };
  reads = λ e. tt;
  speaks = tt;
  backed = backed;
  silent = λ k. refl;
  below = λ f. absurd (true≢false (sym f));
  near = tt;
  stale = tt;
  own = tt;
  says = tt;
  calls = tt;
  resets = tt;
  asks = λ b places e. tt;
}

-- the log's acknowledged units of a key rise, to no more than the output over its reads
pub raised : {State : Type 0} (service : Machine State) → HasSmallOutputs service → (start w : World) (key : Key) (units : ℕ)
    → IsStart start → Sound service start w → RestartsAbove w → units ≤ logged_output service (script_of start) w.log key
    → Stepped service start w [] (record w { log = with_entry key (acknowledging units) w.log })
raised service small start w key units starts s above backed =
    let message : Message = record { boot = w.log.boot; body = DataMsg (no_bytes key 0 units) } in
    let empty : Packet = To_logger message in
    let reported : World = with_packets w (w.packets ++ empty ∷ []) in
    let after : World = record reported { log = log_after w.log message; packets = reported.packets ++ answers w.log message } in
    let step : Stepped service start reported (answers w.log message) after =
    went service small start reported (answers w.log message) after starts (more service start w empty s (data_stands service start w key 0 units s above backed))
    (log_received message (last_under_way w empty) refl refl) in
    let packets : after.packets ≡ w.packets ++ ((empty ∷ answers w.log message) ++ []) =
    append_assoc w.packets (empty ∷ []) (answers w.log message) ∙ ap (λ l. w.packets ++ l) (sym (append-nil (empty ∷ answers w.log message))) in
    let less : Sound service start (with_packets after (w.packets ++ [])) =
    fewer service start after w.packets (empty ∷ answers w.log message) []
    (λ k. silent_append k (empty ∷ []) (answers w.log message) refl (answers_silent k (answer_to w.log message)))
    (subst (λ ps. Sound service start (with_packets after ps)) packets step.sound) in
    let is : with_packets after (w.packets ++ []) ≡ record w { log = with_entry key (acknowledging units) w.log } =
    ap₂ (λ (ps : List Packet) (l : Log). record w { log = l; packets = ps }) (append-nil w.packets) (data_logged w.log key 0 units) in
    record { sound = subst (Sound service start) is less; acknowledged = tt; restart = same_exact service (with_entry key (acknowledging units) w.log) w.node }

-- the log says that an older boot is stale
pub stale_reported : {State : Type 0} (service : Machine State) (start w : World) (boot : ℕ) → Sound service start w → boot < w.log.boot
    → let packet : Packet = From_logger (record { boot = boot; body = StaleMsg w.log.boot }) in
    Stepped service start w (packet ∷ []) (with_packets w (w.packets ++ packet ∷ []))
stale_reported service start w boot s older =
    let packet : Packet = From_logger (record { boot = boot; body = StaleMsg w.log.boot }) in
    let low = s.joint.fenced.log in
    record {
      sound = more service start w packet s
          (record {
            boot = (omega (arith, older, low), λ c. absurd (true≢false c));
            quiet = λ n e r. tt;
            agrees = λ n e r own. tt;
            fits = tt;
            reads = tt;
            speaks = tt;
            backed = tt;
            silent = λ k. refl;
            below = tt;
            near = tt;
            stale = low;
            own = tt;
            says = tt;
            calls = tt;
            resets = tt;
            asks = λ b places. tt;
          });
      acknowledged = (tt, tt);
      restart = same_exact service w.log w.node;
    }
