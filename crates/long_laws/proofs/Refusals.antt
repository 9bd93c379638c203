-- A turn on Full sends nothing but a RST, and what is kept true stays when RSTs to clients are lost.
use Rattle.std.proofs.Common.{◌≡◌, ⊎_elim, ℕ, Bool, true, false, ◌==◌, ◌&&◌, not, refl, sym, ap, ◌∙◌, subst, true≢false, MatchOption, Option, Some, None, List, [], ◌∷◌, ◌++◌, flat_map, if◌then◌else◌}
use Rattle.std.specs.List.{AllByRecursion}
use Rattle.ft_io.specs.declared.Key.{Key}
use Rattle.ft_io.specs.Key.{key_eq}
use Rattle.server_trait.specs.Service.{Machine}
use Rattle.seq_arith.specs.Packet.{has_ack}
use Rattle.seq_arith.specs.Message.{Body, Message}
use Rattle.seq_arith.specs.Message.Body.{FullMsg}
use Rattle.ft_model.specs.Lawful.{LawfulTurn, NodeTurn, StageTurn, Rests, Fetches, fence, count_reported, summary_count, fetched_then}
use Rattle.ft_model.specs.Masked.{last_reported, reported_to, or_before}
use Rattle.ft_model.specs.Network.{Packet, destination_of}
use Rattle.ft_model.specs.Network.Packet.{To_server, To_client, To_logger, From_logger}
use Rattle.ft_model.specs.News.{News}
use Rattle.ft_model.specs.News.News.{Comes, Logged, Ticks, Begins}
use Rattle.ft_model.specs.Node.{Node, Place, Stage, Input}
use Rattle.ft_model.specs.Node.Input.{Packet_comes, Message_comes, Noise_comes, Tick_comes}
use Rattle.ft_model.specs.Node.Place.{Opens, Lives, Ended}
use Rattle.ft_model.specs.Node.Stage.{Asking, Fetching, Serving, Fenced}
use Rattle.ft_model.specs.Point.{Point}
use Rattle.ft_model.specs.Restart.{Fetched, Wanted, wanted, fetched_after}
use Rattle.ft_model.specs.Restart.Wanted.{An_entry, Its_bytes, Its_lengths}
use Rattle.ft_model.specs.ServingTurn.{PlaceTurn, ServingTurn, opens_at}
use Rattle.ft_model.specs.World.{World}
use Rattle.ft_model.proofs.Asked.{Agrees}
use Rattle.ft_model.proofs.Authored.{Speaks}
use Rattle.ft_model.proofs.AuthorOver.{ReadOf}
use Rattle.ft_model.proofs.Backed.{PacketBacked}
use Rattle.ft_model.proofs.Faithful.{PacketFits}
use Rattle.ft_model.proofs.Fenced.{HasBoot, IsNoChange}
use Rattle.ft_model.proofs.Lists.{all_of, all_append}
use Rattle.ft_model.proofs.PlaceTurns.{PlaceWent, IsNews, place_went, all_proceed}
use Rattle.ft_model.proofs.PlaceTurns.PlaceWent.{stayed, went_on, began, dropped, ended, refused}
use Rattle.long_laws.specs.Quarantine.{Quarantined, forgets}
use Rattle.long_laws.specs.LongResets.{says_full}
use Rattle.long_laws.specs.QuarantineWorld.{is_full_input, IsRefusal}
use Rattle.long_laws.proofs.LetGo.{stage_reported}
use Rattle.long_laws.proofs.Stands.{Stands}

pub full_forgets : (input : Input) (wait boot : ℕ) (qs : List Quarantined) → is_full_input (Some input) ≡ true → forgets wait boot input qs ≡ []
full_forgets Tick_comes wait boot qs f = absurd (true≢false (sym f))
full_forgets (Packet_comes segment) wait boot qs f = refl
full_forgets (Message_comes message) wait boot qs f = refl
full_forgets Noise_comes wait boot qs f = refl

none_sent : (sent : List Packet) → sent ≡ [] → AllByRecursion IsRefusal sent
none_sent sent none = subst (AllByRecursion IsRefusal) (sym none) tt

abbrev is_message : Input → Bool
is_message (Message_comes m) = true
is_message (Packet_comes s) = false
is_message Noise_comes = false
is_message Tick_comes = false

abbrev body_in : Body → Input → Body
body_in other (Message_comes m) = m.body
body_in other (Packet_comes s) = other
body_in other Noise_comes = other
body_in other Tick_comes = other

-- other news of a connection isn't Full
full_is_no_news : {X : Type 0} (node : Node) (message : Message) (news : News) (p : Point) → says_full message.body ≡ true → IsNews node (Message_comes message) news p → X
full_is_no_news node message (Comes segment) p f n = absurd (true≢false (ap is_message n.0))
full_is_no_news node message (Logged kept) p f n =
    let same : message.body ≡ n.0.body = ap (body_in message.body) n.1 in
    ⊎_elim (λ s. absurd (true≢false (sym f ∙ ap says_full (same ∙ s)))) (λ r. absurd (true≢false (sym f ∙ ap says_full (same ∙ r)))) n.4
full_is_no_news node message Ticks p f n = absurd (true≢false (ap is_message n))
full_is_no_news node message Begins p f n = absurd n

abbrev Anywhere : Place → Type 0
Anywhere place = Unit {0}

place_refuses : {State : Type 0} (service : Machine State) (node : Node) (message : Message) (place : Place) (now : List Place) (sent : List Packet) → says_full message.body ≡ true
    → PlaceWent service node (Message_comes message) place now sent → AllByRecursion IsRefusal sent
place_refuses service node message place now sent f (stayed n s) = none_sent sent s
place_refuses service node message place now sent f (went_on news p after e i n t) = full_is_no_news node message news p f i
place_refuses service node message place now sent f (began asked kept timestamping after e h n t) =
    absurd (true≢false (sym f ∙ ap says_full (ap (body_in message.body) h.comes ∙ h.body)))
place_refuses service node message place now sent f (dropped asked timestamping e d n s) = ⊎_elim (λ x. none_sent sent x) (λ x. subst (AllByRecursion IsRefusal) (sym x) (refl, tt)) s
place_refuses service node message place now sent f (ended p e h n s) = none_sent sent s
place_refuses service node message place now sent f (refused key segment e c k n s) = absurd (true≢false (ap is_message c))

asks_nothing : (node : Node) (message : Message) (places : List Place) → flat_map (opens_at node (Message_comes message)) places ≡ []
asks_nothing node message [] = refl
asks_nothing node message (Opens numbers timestamping ∷ places) = asks_nothing node message places
asks_nothing node message (Lives p ∷ places) = asks_nothing node message places
asks_nothing node message (Ended key ∷ places) = asks_nothing node message places

serving_refuses : {State : Type 0} (service : Machine State) (node : Node) (message : Message) (opened : ℕ) (before after : List Place) (sent : List Packet) → says_full message.body ≡ true
    → ServingTurn service node (Message_comes message) opened before after sent → AllByRecursion IsRefusal sent
serving_refuses service node message opened before after sent f t =
    let went : AllByRecursion Anywhere t.went × AllByRecursion IsRefusal t.by_places =
    all_proceed (PlaceTurn service node (Message_comes message)) Anywhere Anywhere IsRefusal
    (λ place now some u turn. (all_of Anywhere now (λ p. tt), place_refuses service node message place now some f (place_went service node (Message_comes message) place now some turn)))
    before t.went t.by_places (all_of Anywhere before (λ p. tt)) t.all_go in
    subst (AllByRecursion IsRefusal) (sym t.packets) (all_append IsRefusal t.by_places _ went.1 (none_sent _ (asks_nothing node message after)))

-- a restart takes it for no answer
full_body : (P : Body → Type 0) → ((key : Key) → P (FullMsg key)) → (body : Body) → says_full body ≡ true → P body
full_body P g (FullMsg key) f = g key
full_body P g _ f = absurd (true≢false (sym f))

if_none : {A : Type 0} (b : Bool) (o : Option A) → o ≡ None → (if b then o else None) ≡ None
if_none true o e = e
if_none false o e = refl

nothing_fetched : (w : Option Wanted) (fetched : List Fetched) (body : Body) → says_full body ≡ true → fetched_after w body fetched ≡ None
nothing_fetched None fetched body f = refl
nothing_fetched (Some w) fetched body f = full_body (λ b. fetched_after (Some w) b fetched ≡ None) (λ key. on w key) body f
  where
    on : (w : Wanted) (key : Key) → fetched_after (Some w) (FullMsg key) fetched ≡ None
    on (An_entry index) key = refl
    on (Its_bytes k offset) key = refl
    on (Its_lengths k first) key = refl

stage_refuses : {State : Type 0} (service : Machine State) (node : Node) (message : Message) (stage after : Stage) (sent : List Packet) → says_full message.body ≡ true
    → StageTurn service node stage (Message_comes message) after sent → AllByRecursion IsRefusal sent
stage_refuses service node message Asking after sent f t =
    let none : count_reported node message ≡ None = if_none (message.boot == node.boot) (summary_count message.body) (full_body (λ b. summary_count b ≡ None) (λ key. refl) message.body f) in
    none_sent sent (subst (λ o. MatchOption o (Rests Asking after sent) (λ count. Fetches service node count [] after sent)) none t).1
stage_refuses service node message (Fetching count fetched) after sent f t =
    let none : fetched_then node message count fetched ≡ None =
    if_none (message.boot == node.boot) (fetched_after (wanted count fetched) message.body fetched) (nothing_fetched (wanted count fetched) fetched message.body f) in
    none_sent sent (subst (λ o. MatchOption o (Rests (Fetching count fetched) after sent) (λ more. Fetches service node count more after sent)) none t).1
stage_refuses service node message (Serving opened places) after sent f t = serving_refuses service node message opened places t.0 sent f t.2
stage_refuses service node message (Fenced newer) after sent f t = absurd t

by_fence : {State : Type 0} (service : Machine State) (node : Node) (message : Message) (after : Stage) (sent : List Packet) (o : Option ℕ) → says_full message.body ≡ true
    → NodeTurn service node (Message_comes message) o after sent → AllByRecursion IsRefusal sent
by_fence service node message after sent (Some newer) f t = none_sent sent t.1
by_fence service node message after sent None f t = stage_refuses service node message node.stage after sent f t

pub full_refuses : {State : Type 0} (service : Machine State) (node later : Node) (input : Input) (sent : List Packet) → is_full_input (Some input) ≡ true
    → LawfulTurn service node input sent later → AllByRecursion IsRefusal sent
full_refuses service node later (Message_comes message) sent f t = by_fence service node message later.stage sent (fence node (Message_comes message)) f t.stage
full_refuses service node later (Packet_comes segment) sent f t = absurd (true≢false (sym f))
full_refuses service node later Noise_comes sent f t = absurd (true≢false (sym f))
full_refuses service node later Tick_comes sent f t = absurd (true≢false (sym f))

-- RSTs that are lost

all_front_of : {A : Type 0} (P : A → Type 0) (xs ys : List A) → AllByRecursion P (xs ++ ys) → AllByRecursion P xs
all_front_of P [] ys a = tt
all_front_of P (x ∷ xs) ys a = (a.0, all_front_of P xs ys a.1)

rst_reports_none : (key : Key) (packet : Packet) → IsRefusal packet → reported_to key packet ≡ None
rst_reports_none key (To_client segment) r =
    ap (λ b. if b then Some segment.head.ack else None) (ap (λ b. key_eq (destination_of segment) key && has_ack segment && not b) r ∙ never (key_eq (destination_of segment) key) (has_ack segment))
  where
    never : (a b : Bool) → (a && b && false) ≡ false
    never true true = refl
    never true false = refl
    never false b = refl
rst_reports_none key (To_server segment) r = absurd r
rst_reports_none key (To_logger message) r = absurd r
rst_reports_none key (From_logger message) r = absurd r

rsts_report_none : (key : Key) (packets : List Packet) → AllByRecursion IsRefusal packets → last_reported key packets ≡ None
rsts_report_none key [] a = refl
rsts_report_none key (p ∷ packets) a = ap (λ o. or_before o (reported_to key p)) (rsts_report_none key packets a.1) ∙ rst_reports_none key p a.0

same_reported : (key : Key) (xs ys : List Packet) → AllByRecursion IsRefusal ys → last_reported key (xs ++ ys) ≡ last_reported key xs
same_reported key [] ys a = rsts_report_none key ys a
same_reported key (x ∷ xs) ys a = ap (λ o. or_before o (reported_to key x)) (same_reported key xs ys a)

pub stands_without_refusals : {State : Type 0} (service : Machine State) (w : World) (xs ys : List Packet) → w.packets ≡ xs ++ ys → AllByRecursion IsRefusal ys
    → Stands service w → Stands service (record w { packets = xs })
stands_without_refusals service w xs ys are a o =
    let left : (P : Packet → Type 0) → AllByRecursion P w.packets → AllByRecursion P xs = λ P x. all_front_of P xs ys (subst (AllByRecursion P) are x) in
    record {
      script = o.script;
      isn = o.isn;
      short = o.short;
      fenced = record {
        log = o.fenced.log;
        packets = left (HasBoot w.boot w.log.boot) o.fenced.packets;
        node = λ n e. let x = o.fenced.node n e in record { boot = x.boot; logged = x.logged; quiet = λ r. left (IsNoChange n.boot) (x.quiet r) };
      };
      asked = record {
        distinct = o.asked.distinct;
        node = λ n e r. let x = o.asked.node n e r in record { packets = left (Agrees n.boot w.log.entries) x.packets; fetched = x.fetched };
      };
      faithful = record {
        clients = o.faithful.clients;
        packets = left (PacketFits o.script o.isn w.log) o.faithful.packets;
        entries = o.faithful.entries;
        stage = o.faithful.stage;
      };
      distinct = o.distinct;
      author = record {
        author = o.author.author;
        entries = o.author.entries;
        short = o.author.short;
        reads = left (ReadOf o.author.author w.log.boot) o.author.reads;
        spoken = left (Speaks service o.script w.log) o.author.spoken;
        stage = o.author.stage;
      };
      sees = o.sees;
      backed = record {
        packets = left (PacketBacked service o.script w.log) o.backed.packets;
        entries = o.backed.entries;
        stage = o.backed.stage;
      };
      reporting = λ n e. stage_reported w.packets xs (λ k. ap (last_reported k) are ∙ same_reported k xs ys a) n.stage (o.reporting n e);
    }
