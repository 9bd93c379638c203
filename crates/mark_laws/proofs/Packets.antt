-- What holds of a world in a joint trace holds of it with more packets that could have been sent, and with fewer.
use Rattle.std.proofs.Common.{◌≡◌, ℕ, true, sym, ap, ◌∙◌, Some, None, List, [], ◌∷◌, ◌++◌}
use Rattle.std.specs.List.{AllByRecursion}
use Rattle.ft_io.specs.declared.Key.{Key}
use Rattle.server_trait.specs.Service.{Machine}
use Rattle.ft_model.specs.Log.{Log}
use Rattle.ft_model.specs.Masked.{reported_to, last_reported, or_before}
use Rattle.ft_model.specs.Network.{Packet}
use Rattle.ft_model.specs.Node.{Node, Place, Stage}
use Rattle.ft_model.specs.Node.Place.{Lives, Opens, Ended}
use Rattle.ft_model.specs.Node.Stage.{Asking, Fetching, Serving, Fenced}
use Rattle.ft_model.specs.World.{World}
use Rattle.ft_model.specs.Masked.{is_restarting}
use Rattle.ft_model.proofs.Asked.{IsAsked, Agrees, entry_keys}
use Rattle.ft_model.proofs.Authored.{Speaks}
use Rattle.ft_model.proofs.AuthorOver.{ReadOf}
use Rattle.ft_model.proofs.Backed.{PacketBacked}
use Rattle.ft_model.proofs.Cuttable.{AreCut}
use Rattle.ft_model.proofs.Faithful.{PacketFits}
use Rattle.ft_model.proofs.FaithfulOver.{script_of, isn_of}
use Rattle.ft_model.proofs.Fenced.{IsFenced, IsNoChange, HasBoot}
use Rattle.ft_model.proofs.JointMasked.{JointInvariant}
use Rattle.ft_model.proofs.KnownKeys.{Asks, StageKnows, KnowsLog}
use Rattle.ft_model.proofs.Lists.{all_append, all_weaker}
use Rattle.ft_model.proofs.Refused.{HasCaller, ResetsEnded, Says}
use Rattle.ft_model.proofs.ReportedLast.{IsSilentTo, WasReported, last_append, or_none}
use Rattle.ft_model.proofs.ReportedOver.{IsReporting, StageReported}
use Rattle.ft_model.proofs.Unfenced.{Unfenced, StaleWithin}
use Rattle.ft_model.proofs.FormedWorld.{all_behind}
use Rattle.trace_laws.proofs.FinsBelow.{FinsBelow, PacketBelow}
use Rattle.trace_laws.proofs.Legal.{OwnNear}
use Rattle.trace_laws.proofs.Near.{SendsNear, PacketNear}
use Rattle.mark_laws.proofs.Own.{Owns}

-- all that is kept true in a joint trace
pub record Sound {State : Type 0} (service : Machine State) (start w : World) : Type 0 where
  pub joint : JointInvariant service start w
  pub reporting : IsReporting w
  pub below : FinsBelow (script_of start) w
  pub near : SendsNear (isn_of start) w
  pub unfenced : Unfenced w
  pub owns : Owns start w
  pub knows : KnowsLog w
  pub cut : AreCut w.log

abbrev pub with_packets : World → List Packet → World
with_packets w packets = record w { packets = packets }

-- fewer packets

pub all_without : {A : Type 0} (P : A → Type 0) (xs hs ys : List A) → AllByRecursion P (xs ++ (hs ++ ys)) → AllByRecursion P (xs ++ ys)
all_without P [] hs ys a = all_behind P hs ys a
all_without P (x ∷ xs) hs ys a = (a.0, all_without P xs hs ys a.1)

last_without : (key : Key) (xs hs ys : List Packet) → IsSilentTo key hs → last_reported key (xs ++ (hs ++ ys)) ≡ last_reported key (xs ++ ys)
last_without key xs hs ys silent =
    last_append key xs (hs ++ ys)
    ∙ (ap (λ o. or_before o (last_reported key xs)) (last_append key hs ys ∙ (ap (or_before (last_reported key ys)) silent ∙ sym (or_none (last_reported key ys)))) ∙ sym (last_append key xs ys))

place_reported : (xs ys : List Packet) → ((key : Key) → last_reported key xs ≡ last_reported key ys) → (place : Place) → WasReported xs place → WasReported ys place
place_reported xs ys same (Lives p) t = λ r. sym (same p.key) ∙ t r
place_reported xs ys same (Opens n timestamping) t = tt
place_reported xs ys same (Ended k) t = tt

stage_reported : (xs ys : List Packet) → ((key : Key) → last_reported key xs ≡ last_reported key ys) → (stage : Stage) → StageReported xs stage → StageReported ys stage
stage_reported xs ys same (Serving opened places) t = all_weaker (WasReported xs) (WasReported ys) places (place_reported xs ys same) t
stage_reported xs ys same Asking t = tt
stage_reported xs ys same (Fetching count fetched) t = tt
stage_reported xs ys same (Fenced newer) t = tt

fenced_fewer : (w : World) (xs hs ys : List Packet) → IsFenced (with_packets w (xs ++ (hs ++ ys))) → IsFenced (with_packets w (xs ++ ys))
fenced_fewer w xs hs ys f = record {
  log = f.log;
  packets = all_without (HasBoot w.boot w.log.boot) xs hs ys f.packets;
  node = λ n e. let x = f.node n e in record { boot = x.boot; logged = x.logged; quiet = λ r. all_without (IsNoChange n.boot) xs hs ys (x.quiet r) };
}

asked_fewer : (w : World) (xs hs ys : List Packet) → IsAsked (with_packets w (xs ++ (hs ++ ys))) → IsAsked (with_packets w (xs ++ ys))
asked_fewer w xs hs ys a = record {
  distinct = a.distinct;
  node = λ n e r. let x = a.node n e r in record { packets = all_without (Agrees n.boot w.log.entries) xs hs ys x.packets; fetched = x.fetched };
}

stage_fewer : (log : Log) (xs hs ys : List Packet) (boot : ℕ) (stage : Stage) → StageKnows log (xs ++ (hs ++ ys)) boot stage → StageKnows log (xs ++ ys) boot stage
stage_fewer log xs hs ys boot (Serving opened places) k = record { asks = all_without (Asks boot (entry_keys log) places) xs hs ys k.asks; keys = k.keys; ends = k.ends }
stage_fewer log xs hs ys boot Asking k = tt
stage_fewer log xs hs ys boot (Fetching count fetched) k = tt
stage_fewer log xs hs ys boot (Fenced newer) k = tt

knows_fewer : (w : World) (xs hs ys : List Packet) → KnowsLog (with_packets w (xs ++ (hs ++ ys))) → KnowsLog (with_packets w (xs ++ ys))
knows_fewer w xs hs ys k = record {
  says = all_without (Says w.log) xs hs ys k.says;
  calls = all_without (HasCaller (entry_keys w.log)) xs hs ys k.calls;
  resets = all_without (ResetsEnded w.log) xs hs ys k.resets;
  stage = λ n e. stage_fewer w.log xs hs ys n.boot n.stage (k.stage n e);
}

pub fewer : {State : Type 0} (service : Machine State) (start w : World) (xs hs ys : List Packet) → ((key : Key) → IsSilentTo key hs)
    → Sound service start (with_packets w (xs ++ (hs ++ ys))) → Sound service start (with_packets w (xs ++ ys))
fewer service start w xs hs ys silent s = record {
  joint = record {
    fenced = fenced_fewer w xs hs ys s.joint.fenced;
    asked = asked_fewer w xs hs ys s.joint.asked;
    faithful = record {
      clients = s.joint.faithful.clients;
      packets = all_without (PacketFits (script_of start) (isn_of start) w.log) xs hs ys s.joint.faithful.packets;
      entries = s.joint.faithful.entries;
      stage = s.joint.faithful.stage;
    };
    distinct = s.joint.distinct;
    author = record {
      author = s.joint.author.author;
      entries = s.joint.author.entries;
      short = s.joint.author.short;
      reads = all_without (ReadOf s.joint.author.author w.log.boot) xs hs ys s.joint.author.reads;
      spoken = all_without (Speaks service (script_of start) w.log) xs hs ys s.joint.author.spoken;
      stage = s.joint.author.stage;
    };
    sees = s.joint.sees;
    backed = record {
      packets = all_without (PacketBacked service (script_of start) w.log) xs hs ys s.joint.backed.packets;
      entries = s.joint.backed.entries;
      stage = s.joint.backed.stage;
    };
  };
  reporting = λ n e. stage_reported (xs ++ (hs ++ ys)) (xs ++ ys) (λ key. last_without key xs hs ys (silent key)) n.stage (s.reporting n e);
  below = record { packets = all_without (PacketBelow (script_of start)) xs hs ys s.below.packets; entries = s.below.entries; stage = s.below.stage };
  near = record { clients = s.near.clients; packets = all_without (PacketNear (isn_of start) w.log) xs hs ys s.near.packets };
  unfenced = record { packets = all_without (StaleWithin w.boot) xs hs ys s.unfenced.packets; node = s.unfenced.node };
  owns = λ scripted. record { packets = all_without (OwnNear (isn_of start)) xs hs ys (s.owns scripted).packets; clients = (s.owns scripted).clients };
  knows = knows_fewer w xs hs ys s.knows;
  cut = s.cut;
}

-- more packets

-- a packet that tells no client anything, and that agrees with all that is kept true
pub record MayStand {State : Type 0} (service : Machine State) (start w : World) (author : Key → List ℕ) (packet : Packet) : Type 0 where
  pub boot : HasBoot w.boot w.log.boot packet
  pub quiet : (node : Node) → w.node ≡ Some node → is_restarting node.stage ≡ true → IsNoChange node.boot packet
  pub agrees : (node : Node) → w.node ≡ Some node → is_restarting node.stage ≡ true → Agrees node.boot w.log.entries packet
  pub fits : PacketFits (script_of start) (isn_of start) w.log packet
  pub reads : ReadOf author w.log.boot packet
  pub speaks : Speaks service (script_of start) w.log packet
  pub backed : PacketBacked service (script_of start) w.log packet
  pub silent : (key : Key) → reported_to key packet ≡ None
  pub below : PacketBelow (script_of start) packet
  pub near : PacketNear (isn_of start) w.log packet
  pub stale : StaleWithin w.boot packet
  pub own : OwnNear (isn_of start) packet
  pub says : Says w.log packet
  pub calls : HasCaller (entry_keys w.log) packet
  pub resets : ResetsEnded w.log packet
  pub asks : (boot : ℕ) (places : List Place) → Asks boot (entry_keys w.log) places packet

one_silent : (packet : Packet) → ((key : Key) → reported_to key packet ≡ None) → (key : Key) → IsSilentTo key (packet ∷ [])
one_silent packet silent key = silent key

last_with : (key : Key) (xs : List Packet) (packet : Packet) → reported_to key packet ≡ None → last_reported key xs ≡ last_reported key (xs ++ packet ∷ [])
last_with key xs packet silent = sym (last_append key xs (packet ∷ []) ∙ ap (λ o. or_before o (last_reported key xs)) silent)

stage_more : (log : Log) (packets : List Packet) (packet : Packet) (boot : ℕ) (stage : Stage) → ((places : List Place) → Asks boot (entry_keys log) places packet) → StageKnows log packets boot stage
    → StageKnows log (packets ++ packet ∷ []) boot stage
stage_more log packets packet boot (Serving opened places) asks k =
    record { asks = all_append (Asks boot (entry_keys log) places) packets (packet ∷ []) k.asks (asks places, tt); keys = k.keys; ends = k.ends }
stage_more log packets packet boot Asking asks k = tt
stage_more log packets packet boot (Fetching count fetched) asks k = tt
stage_more log packets packet boot (Fenced newer) asks k = tt

pub more : {State : Type 0} (service : Machine State) (start w : World) (packet : Packet) → (s : Sound service start w) → MayStand service start w s.joint.author.author packet
    → Sound service start (with_packets w (w.packets ++ packet ∷ []))
more service start w packet s m = record {
  joint = record {
    fenced = record {
      log = s.joint.fenced.log;
      packets = all_append (HasBoot w.boot w.log.boot) w.packets (packet ∷ []) s.joint.fenced.packets (m.boot, tt);
      node = λ n e. let x = s.joint.fenced.node n e in record { boot = x.boot; logged = x.logged; quiet = λ r. all_append (IsNoChange n.boot) w.packets (packet ∷ []) (x.quiet r) (m.quiet n e r, tt) };
    };
    asked = record {
      distinct = s.joint.asked.distinct;
      node = λ n e r. let x = s.joint.asked.node n e r in
          record { packets = all_append (Agrees n.boot w.log.entries) w.packets (packet ∷ []) x.packets (m.agrees n e r, tt); fetched = x.fetched };
    };
    faithful = record {
      clients = s.joint.faithful.clients;
      packets = all_append (PacketFits (script_of start) (isn_of start) w.log) w.packets (packet ∷ []) s.joint.faithful.packets (m.fits, tt);
      entries = s.joint.faithful.entries;
      stage = s.joint.faithful.stage;
    };
    distinct = s.joint.distinct;
    author = record {
      author = s.joint.author.author;
      entries = s.joint.author.entries;
      short = s.joint.author.short;
      reads = all_append (ReadOf s.joint.author.author w.log.boot) w.packets (packet ∷ []) s.joint.author.reads (m.reads, tt);
      spoken = all_append (Speaks service (script_of start) w.log) w.packets (packet ∷ []) s.joint.author.spoken (m.speaks, tt);
      stage = s.joint.author.stage;
    };
    sees = s.joint.sees;
    backed = record {
      packets = all_append (PacketBacked service (script_of start) w.log) w.packets (packet ∷ []) s.joint.backed.packets (m.backed, tt);
      entries = s.joint.backed.entries;
      stage = s.joint.backed.stage;
    };
  };
  reporting = λ n e. stage_reported w.packets (w.packets ++ packet ∷ []) (λ key. last_with key w.packets packet (m.silent key)) n.stage (s.reporting n e);
  below = record { packets = all_append (PacketBelow (script_of start)) w.packets (packet ∷ []) s.below.packets (m.below, tt); entries = s.below.entries; stage = s.below.stage };
  near = record { clients = s.near.clients; packets = all_append (PacketNear (isn_of start) w.log) w.packets (packet ∷ []) s.near.packets (m.near, tt) };
  unfenced = record { packets = all_append (StaleWithin w.boot) w.packets (packet ∷ []) s.unfenced.packets (m.stale, tt); node = s.unfenced.node };
  owns = λ scripted. record { packets = all_append (OwnNear (isn_of start)) w.packets (packet ∷ []) (s.owns scripted).packets (m.own, tt); clients = (s.owns scripted).clients };
  knows = record {
    says = all_append (Says w.log) w.packets (packet ∷ []) s.knows.says (m.says, tt);
    calls = all_append (HasCaller (entry_keys w.log)) w.packets (packet ∷ []) s.knows.calls (m.calls, tt);
    resets = all_append (ResetsEnded w.log) w.packets (packet ∷ []) s.knows.resets (m.resets, tt);
    stage = λ n e. stage_more w.log w.packets packet n.boot n.stage (m.asks n.boot) (s.knows.stage n e);
  };
  cut = s.cut;
}
