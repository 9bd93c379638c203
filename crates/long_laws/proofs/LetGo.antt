-- The invariants are preserved when the server lets go of a client: its turn is that of a RST of the client, which nobody sent and which changes no fact.
use Rattle.std.proofs.Common.{◌≡◌, ℕ, suc, refl, sym, ◌∙◌, subst, true≢false, inr, Some, List, [], ◌∷◌, ◌++◌, length}
use Rattle.ft_io.specs.declared.Addr.{Addr}
use Rattle.ft_io.specs.declared.Key.{Key}
use Rattle.server_trait.specs.Service.{Machine}
use Rattle.seq_arith.specs.Packet.{Segment}
use Rattle.ft_model.specs.Log.{Log}
use Rattle.ft_model.specs.Masked.{last_reported}
use Rattle.ft_model.specs.Network.{Packet, source_of}
use Rattle.ft_model.specs.Network.Packet.{To_server}
use Rattle.ft_model.specs.Node.{Place, Stage}
use Rattle.ft_model.specs.Node.Input.{Packet_comes}
use Rattle.ft_model.specs.Node.Place.{Opens, Lives, Ended}
use Rattle.ft_model.specs.Node.Stage.{Asking, Fetching, Serving, Fenced}
use Rattle.ft_model.specs.Point.{Point}
use Rattle.ft_model.specs.World.{World}
use Rattle.ft_model.proofs.Asked.{Agrees}
use Rattle.ft_model.proofs.Authored.{Speaks}
use Rattle.ft_model.proofs.AuthorOver.{ReadOf}
use Rattle.ft_model.proofs.Backed.{PacketBacked}
use Rattle.ft_model.proofs.Faithful.{PacketFits}
use Rattle.ft_model.proofs.Fenced.{HasBoot, IsNoChange}
use Rattle.ft_model.proofs.Happened.{Happened}
use Rattle.ft_model.proofs.Happened.Happened.{server_turned}
use Rattle.ft_model.proofs.Lists.{all_append, all_weaker}
use Rattle.ft_model.proofs.Running.{HasSmallOutputs}
use Rattle.ft_model.proofs.Scripts.{FitsScript}
use Rattle.ft_model.proofs.ReportedLast.{WasReported}
use Rattle.ft_model.proofs.ReportedOver.{StageReported}
use Rattle.long_laws.specs.LongTrace.{last_rst, LetsGo}
use Rattle.long_laws.proofs.Others.{last_there, all_but_one, last_but_one, last_with_one}
use Rattle.long_laws.proofs.Stands.{Stands, AreSame, Shown, shown}

-- where the same was last told
place_reported : (xs ys : List Packet) → ((k : Key) → last_reported k xs ≡ last_reported k ys) → (place : Place) → WasReported xs place → WasReported ys place
place_reported xs ys same (Lives p) t = λ r. sym (same p.key) ∙ t r
place_reported xs ys same (Opens n timestamping) t = tt
place_reported xs ys same (Ended k) t = tt

pub stage_reported : (xs ys : List Packet) → ((k : Key) → last_reported k xs ≡ last_reported k ys) → (stage : Stage) → StageReported xs stage → StageReported ys stage
stage_reported xs ys same (Serving opened places) t = all_weaker (WasReported xs) (WasReported ys) places (place_reported xs ys same) t
stage_reported xs ys same Asking t = tt
stage_reported xs ys same (Fetching count fetched) t = tt
stage_reported xs ys same (Fenced newer) t = tt

abbrev pub with_packets : World → List Packet → World
with_packets w packets = record w { packets = packets }

-- this RST carries nothing
bare : (script : List ℕ) (isn : ℕ) (server : Addr) (p : Point) → FitsScript script isn (last_rst server p)
bare script isn server p = record { syn = λ e. absurd (true≢false (sym e)); text = inr (refl, refl) }

backs_nothing : {State : Type 0} (service : Machine State) (script : Key → List ℕ) (log : Log) (server : Addr) (p : Point) → PacketBacked service script log (To_server (last_rst server p))
backs_nothing service script log server p = λ a. absurd (true≢false (sym a))

-- with it under way
pub with_rst : {State : Type 0} (service : Machine State) (w : World) (server : Addr) (p : Point) → Stands service w → Stands service (with_packets w (w.packets ++ To_server (last_rst server p) ∷ []))
with_rst service w server p o =
    let rst : Segment = last_rst server p in
    record {
      script = o.script;
      isn = o.isn;
      short = o.short;
      fenced = record {
        log = o.fenced.log;
        packets = all_append (HasBoot w.boot w.log.boot) w.packets (To_server rst ∷ []) o.fenced.packets (tt, tt);
        node = λ n e. let x = o.fenced.node n e in
            record { boot = x.boot; logged = x.logged; quiet = λ r. all_append (IsNoChange n.boot) w.packets (To_server rst ∷ []) (x.quiet r) (tt, tt) };
      };
      asked = record {
        distinct = o.asked.distinct;
        node = λ n e r. let x = o.asked.node n e r in
            record { packets = all_append (Agrees n.boot w.log.entries) w.packets (To_server rst ∷ []) x.packets (tt, tt); fetched = x.fetched };
      };
      faithful = record {
        clients = o.faithful.clients;
        packets = all_append (PacketFits o.script o.isn w.log) w.packets (To_server rst ∷ []) o.faithful.packets
            (bare (o.script (source_of rst)) (o.isn (source_of rst)) server p, tt);
        entries = o.faithful.entries;
        stage = o.faithful.stage;
      };
      distinct = o.distinct;
      author = record {
        author = o.author.author;
        entries = o.author.entries;
        short = o.author.short;
        reads = all_append (ReadOf o.author.author w.log.boot) w.packets (To_server rst ∷ []) o.author.reads (tt, tt);
        spoken = all_append (Speaks service o.script w.log) w.packets (To_server rst ∷ []) o.author.spoken (tt, tt);
        stage = o.author.stage;
      };
      sees = o.sees;
      backed = record {
        packets = all_append (PacketBacked service o.script w.log) w.packets (To_server rst ∷ []) o.backed.packets (backs_nothing service o.script w.log server p, tt);
        entries = o.backed.entries;
        stage = o.backed.stage;
      };
      reporting = λ n e. stage_reported w.packets (w.packets ++ To_server rst ∷ []) (λ k. sym (last_with_one k w.packets rst)) n.stage (o.reporting n e);
    }

pub same_with_rst : {State : Type 0} (service : Machine State) (w : World) (server : Addr) (p : Point) (o : Stands service w) → AreSame o (with_rst service w server p o)
unfolding with_rst
same_with_rst service w server p o = (refl, refl)

-- and without it again
pub without_rst : {State : Type 0} (service : Machine State) (w : World) (xs ys : List Packet) (rst : Segment) → Stands service (with_packets w ((xs ++ To_server rst ∷ []) ++ ys))
    → Stands service (with_packets w (xs ++ ys))
without_rst service w xs ys rst o =
    let one : Packet = To_server rst in
    record {
      script = o.script;
      isn = o.isn;
      short = o.short;
      fenced = record {
        log = o.fenced.log;
        packets = all_but_one (HasBoot w.boot w.log.boot) xs ys one o.fenced.packets;
        node = λ n e. let x = o.fenced.node n e in record { boot = x.boot; logged = x.logged; quiet = λ r. all_but_one (IsNoChange n.boot) xs ys one (x.quiet r) };
      };
      asked = record {
        distinct = o.asked.distinct;
        node = λ n e r. let x = o.asked.node n e r in record { packets = all_but_one (Agrees n.boot w.log.entries) xs ys one x.packets; fetched = x.fetched };
      };
      faithful = record {
        clients = o.faithful.clients;
        packets = all_but_one (PacketFits o.script o.isn w.log) xs ys one o.faithful.packets;
        entries = o.faithful.entries;
        stage = o.faithful.stage;
      };
      distinct = o.distinct;
      author = record {
        author = o.author.author;
        entries = o.author.entries;
        short = o.author.short;
        reads = all_but_one (ReadOf o.author.author w.log.boot) xs ys one o.author.reads;
        spoken = all_but_one (Speaks service o.script w.log) xs ys one o.author.spoken;
        stage = o.author.stage;
      };
      sees = o.sees;
      backed = record {
        packets = all_but_one (PacketBacked service o.script w.log) xs ys one o.backed.packets;
        entries = o.backed.entries;
        stage = o.backed.stage;
      };
      reporting = λ n e. stage_reported ((xs ++ one ∷ []) ++ ys) (xs ++ ys) (λ k. last_but_one k xs ys rst) n.stage (o.reporting n e);
    }

pub same_without_rst : {State : Type 0} (service : Machine State) (w : World) (xs ys : List Packet) (rst : Segment) (o : Stands service (with_packets w ((xs ++ To_server rst ∷ []) ++ ys)))
    → AreSame o (without_rst service w xs ys rst o)
unfolding without_rst
same_without_rst service w xs ys rst o = (refl, refl)

pub let_go_shown : {State : Type 0} (service : Machine State) → HasSmallOutputs service → (key : Key) (w : World) (sent : List Packet) (after : World) → Stands service w
    → LetsGo service key w sent after → Shown service w sent after
let_go_shown service small key w sent after o l =
    let rst : Segment = last_rst l.node.server l.point in
    let there : World = with_packets w (w.packets ++ To_server rst ∷ []) in
    let then_ : World = record w { node = Some l.later; packets = (w.packets ++ To_server rst ∷ []) ++ sent } in
    let turn : Happened service there sent then_ = server_turned (Packet_comes rst) l.node l.later (suc (length w.packets), last_there w.packets (To_server rst)) l.up l.turn refl in
    let s : Shown service there sent then_ = shown service small there sent then_ (with_rst service w l.node.server l.point o) turn in
    subst (Shown service w sent) (sym l.after_is)
    (record {
      stands = without_rst service (record w { node = Some l.later }) w.packets sent rst s.stands;
      acknowledged = s.acknowledged;
      restart = s.restart;
    })
