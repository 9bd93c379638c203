-- Each thing still belongs to a client that is there when an entry is recycled, a key forgotten, a client arrives, is asked, or is let go of.
use Rattle.std.proofs.Common.{◌≡◌, ◌⊎◌, inl, inr, ⊎_elim, ℕ, ◌<◌, ◌≤◌, ◌^◌, Bool, true, false, true≢false, ◌==◌, ◌&&◌, ◌||◌, not, is_some, refl, sym, ap, ◌∙◌, subst, find, Option, Some, None, List, [], ◌∷◌, ◌++◌, length, cond, arith, if◌then◌else◌}
use Rattle.std.specs.List.{list_any}
use Rattle.std.proofs.Math.Path.{fun_ext}
use Rattle.std.proofs.lemmas.Bool.{or_right, and_from, and_parts}
use Rattle.ft_io.specs.declared.Key.{Key}
use Rattle.ft_io.specs.Key.{key_eq}
use Rattle.ft_io.proofs.Choices.{by_cases, holds_if, if_true, if_false}
use Rattle.server_trait.specs.Service.{Machine, AreBytes}
use Rattle.ft_model.specs.Client.{Client, new_client}
use Rattle.ft_model.specs.Client.ClientKind.{Scripted}
use Rattle.ft_model.specs.Keys.{has_key}
use Rattle.ft_model.specs.Node.{Node, Stage}
use Rattle.ft_model.specs.Node.Stage.{Asking, Fetching, Serving, Fenced}
use Rattle.ft_model.specs.World.{World, is_apart}
use Rattle.ft_model.proofs.ClientKeys.{keys_in}
use Rattle.ft_model.proofs.FaithfulKept.{ClientFits}
use Rattle.ft_model.proofs.FaithfulOver.{script_of, isn_of, script_in, isn_in}
use Rattle.ft_model.proofs.Formed.{HasClient, PacketFormed, StartFormed, EntryFormed, PlaceFormed, StageFormed, NodeFormed, ClientFormed, WorldFormed}
use Rattle.ft_model.proofs.Keys.{absent_key, key_eq_turns}
use Rattle.ft_model.proofs.Lists.{all_front, all_append, all_both, all_weaker, all_of, key_is, same_key, or_left, or_cases}
use Rattle.ft_model.proofs.Seen.{IsSeen}
use Rattle.long_laws.specs.LongTrace.{others, concerns, recycled, MayRecycle, stage_without, forgotten, MayForget, with_new, MayArrive}
use Rattle.long_laws.proofs.Again.{none_there}
use Rattle.long_laws.proofs.Arrived.{stands_with_new, same_with_new, entries_apart}
use Rattle.long_laws.proofs.Forgotten.{left, was, stands_forgotten, same_forgotten}
use Rattle.long_laws.proofs.Others.{all_others, find_others}
use Rattle.long_laws.proofs.Recycled.{stands_without, same_without}
use Rattle.long_laws.proofs.Stands.{Stands}
use Rattle.lasting_unseen.proofs.Belongings.{packet_stays, entry_stays, stage_stays_formed, fewer_left}
use Rattle.lasting_unseen.proofs.Known.{numbered_is_there, there_is_numbered, there_as_found}
use Rattle.lasting_unseen.proofs.Peopled.{Peopled}

-- A client is taken out that has come last
unfoldable without_last : {State : Type 0} (service : Machine State) (c : Client) (w : World) → Stands service (with_new c w) → Stands service w
without_last service c w o = record {
  script = o.script;
  isn = o.isn;
  short = o.short;
  fenced = record {
    log = o.fenced.log;
    packets = o.fenced.packets;
    node = λ n e. let x = o.fenced.node n e in record { boot = x.boot; logged = x.logged; quiet = x.quiet };
  };
  asked = record { distinct = o.asked.distinct; node = λ n e r. let x = o.asked.node n e r in record { packets = x.packets; fetched = x.fetched } };
  faithful = record {
    clients = (all_front (ClientFits o.script o.isn) w.clients c o.faithful.clients).0;
    packets = o.faithful.packets;
    entries = o.faithful.entries;
    stage = o.faithful.stage;
  };
  distinct = o.distinct;
  author = record {
    author = o.author.author;
    entries = o.author.entries;
    short = o.author.short;
    reads = o.author.reads;
    spoken = o.author.spoken;
    stage = o.author.stage;
  };
  sees = (all_front (IsSeen service o.script w.log) w.clients c o.sees).0;
  backed = record { packets = o.backed.packets; entries = o.backed.entries; stage = o.backed.stage };
  reporting = o.reporting;
}

-- The clients that are there are fewer, or others of no moment
starts_with : (home : World) (cs : List Client) → StartFormed home
    → ((k : Key) → AreBytes (script_in (find (λ c. key_eq c.key k) cs)) × (length (script_in (find (λ c. key_eq c.key k) cs)) ≤ 2 ^ 24) × (isn_in (find (λ c. key_eq c.key k) cs) < 2 ^ 32))
    → StartFormed (record home { clients = cs })
starts_with home cs s f = record { server = s.server; bytes = λ k. (f k).0; short = λ k. (f k).1; isn = λ k. (f k).2 }

-- An entry is recycled
module _ {State : Type 0} (service : Machine State) (key : Key) (w : World) (o : Peopled service w) (may : MayRecycle key w) (its : HasClient o.home key) where
  abbrev rest : List Client
  rest = others (λ c. key_eq c.key key) o.home.clients

  abbrev nobody : Client
  nobody = new_client Scripted w.server key 0 []

  beside_server : is_apart w.server key [] ≡ true
  beside_server = o.beside key (numbered_is_there o.home.clients key its.1)

  may_arrive : MayArrive nobody (recycled key w)
  may_arrive = record {
    new = record { new = refl; ip = its.0.0; port = its.0.1; number = omega arith; bytes = tt; short = omega arith };
    apart = subst (λ b. (not (key.ip == w.server.ip && key.port == w.server.port) && not b) ≡ true) (sym (none_any (λ c. key_eq c.key key) w.clients)) beside_server;
    absent = none_there (λ e. key_eq e.key key) w.log.entries;
    clear = may.clear;
    unreceived = all_others (λ p. Unit {0}) (λ p. concerns key p ≡ false) (concerns key) w.packets (λ p c u. c) (all_of (λ p. Unit {0}) w.packets (λ p. tt));
  }
    where
      none_any : (passes : Client → Bool) (xs : List Client) → list_any passes (others passes xs) ≡ false
      none_any passes [] = refl
      none_any passes (x ∷ xs) =
          holds_if (λ l. list_any passes l ≡ false) (passes x) (others passes xs) (x ∷ others passes xs) (λ t. none_any passes xs)
          (λ t. ap (λ b. b || list_any passes (others passes xs)) t ∙ none_any passes xs)

  abbrev was_there : Stands service (recycled key w)
  was_there = stands_without service key w o.stands may

  abbrev stands : Stands service (recycled key w)
  stands = without_last service nobody (recycled key w) (stands_with_new service nobody (recycled key w) was_there may_arrive)

  found_here : (k : Key) → key_eq k key ≡ true → find (λ c. key_eq c.key k) rest ≡ None
  found_here k e = ap (λ z. find (λ c. key_eq c.key z) rest) (same_key k key e) ∙ none_there (λ c. key_eq c.key key) o.home.clients

  found_elsewhere : (k : Key) → key_eq k key ≡ false → find (λ c. key_eq c.key k) rest ≡ find (λ c. key_eq c.key k) o.home.clients
  found_elsewhere k e = find_others (λ c. c.key) key k o.home.clients e

  found_as : {A : Type 0} (of : Option Client → A) (k : Key) → of (find (λ c. key_eq c.key k) rest) ≡ (if key_eq k key then of None else of (find (λ c. key_eq c.key k) o.home.clients))
  found_as of k =
      by_cases (key_eq k key)
      (λ e. ap of (found_here k e) ∙ sym (if_true (key_eq k key) (of None) (of (find (λ c. key_eq c.key k) o.home.clients)) e))
      (λ e. ap of (found_elsewhere k e) ∙ sym (if_false (key_eq k key) (of None) (of (find (λ c. key_eq c.key k) o.home.clients)) e))

  same_script : script_of (record o.home { clients = rest }) ≡ stands.script
  unfolding without_last
  same_script =
      fun_ext (λ k. found_as script_in k ∙ ap (λ (s : Key → List ℕ). if key_eq k key then [] else s k) (o.script ∙ sym (same_without service key w o.stands may).0))
      ∙ sym (same_with_new service nobody (recycled key w) was_there may_arrive).0

  same_isn : isn_of (record o.home { clients = rest }) ≡ stands.isn
  unfolding without_last
  same_isn =
      fun_ext (λ k. found_as isn_in k ∙ ap (λ (s : Key → ℕ). if key_eq k key then 0 else s k) (o.isn ∙ sym (same_without service key w o.stands may).1))
      ∙ sym (same_with_new service nobody (recycled key w) was_there may_arrive).1

  stays : (k : Key) → key_eq k key ≡ false → HasClient o.home k → HasClient (record o.home { clients = rest }) k
  stays k a h = (h.0, there_is_numbered rest k (there_as_found o.home.clients rest k (found_elsewhere k a) (numbered_is_there o.home.clients k h.1)))

  node_stays : (n : Node) → w.node ≡ Some n → NodeFormed (record o.home { clients = rest }) n
  node_stays n e = let f = o.formed.node n e in
      record { server = f.server; profile = f.profile; boot = f.boot; stage = stage_stays_formed o.home rest key stays n.stage (may.clear n e) f.stage }

  formed_here : WorldFormed (record o.home { clients = rest }) (recycled key w)
  formed_here = record {
    server = o.formed.server;
    profile = o.formed.profile;
    boot = o.formed.boot;
    few = let less = fewer_left (λ e. key_eq e.key key) w.log.entries in let most = o.formed.few in omega (arith, less, most);
    clients = all_others (ClientFormed o.home) (ClientFormed (record o.home { clients = rest })) (λ c. key_eq c.key key) w.clients
        (λ c a f. record { key = stays c.key a f.key; server = f.server }) o.formed.clients;
    packets = all_others (PacketFormed o.home) (PacketFormed (record o.home { clients = rest })) (concerns key) w.packets (packet_stays o.home rest key stays) o.formed.packets;
    entries = all_others (EntryFormed o.home) (EntryFormed (record o.home { clients = rest })) (λ e. key_eq e.key key) w.log.entries (entry_stays o.home rest key stays) o.formed.entries;
    node = node_stays;
  }

  pub peopled_without : Peopled service (recycled key w)
  peopled_without = record {
    stands = stands;
    home = record o.home { clients = rest };
    script = same_script;
    isn = same_isn;
    starts = starts_with o.home rest o.starts (λ k. by_cases (key_eq k key)
        (λ e. subst (λ c. AreBytes (script_in c) × (length (script_in c) ≤ 2 ^ 24) × (isn_in c < 2 ^ 32)) (sym (found_here k e)) (tt, omega arith, omega arith))
        (λ e. subst (λ c. AreBytes (script_in c) × (length (script_in c) ≤ 2 ^ 24) × (isn_in c < 2 ^ 32)) (sym (found_elsewhere k e)) (o.starts.bytes k, o.starts.short k, o.starts.isn k)));
    formed = formed_here;
    there = λ k e. by_cases (key_eq k key)
        (λ t. absurd (not_there k t e))
        (λ t. there_in w.clients (others (λ c. key_eq c.key key) w.clients) k (find_others (λ c. c.key) key k w.clients t)
        (o.there k (there_in rest o.home.clients k (sym (found_elsewhere k t)) e)));
    beside = λ k e. by_cases (key_eq k key)
        (λ t. absurd (not_there k t e)) (λ t. o.beside k (there_in rest o.home.clients k (sym (found_elsewhere k t)) e));
  }
    where
      there_in : (cs ds : List Client) (k : Key) → find (λ c. key_eq c.key k) ds ≡ find (λ c. key_eq c.key k) cs → has_key k (keys_in cs) ≡ true → has_key k (keys_in ds) ≡ true
      there_in = there_as_found

      not_there : (k : Key) → key_eq k key ≡ true → has_key k (keys_in rest) ≡ true → ⊥
      not_there k t e = true≢false (sym e ∙ absent_key (λ c. c.key) k rest (ap is_some (found_here k t)))

-- The server forgets a key
forgotten_stage : (home : World) (key : Key) (stage : Stage) → StageFormed home stage → StageFormed home (stage_without key stage)
forgotten_stage home key (Serving opened places) f = left (PlaceFormed home) key places f
forgotten_stage home key Asking f = tt
forgotten_stage home key (Fetching count fetched) f = tt
forgotten_stage home key (Fenced newer) f = tt

pub peopled_forgotten : {State : Type 0} (service : Machine State) (key : Key) (w : World) → Peopled service w → MayForget key w → Peopled service (forgotten key w)
peopled_forgotten service key w o may = record {
  stands = stands_forgotten service key w o.stands may;
  home = o.home;
  script = o.script ∙ sym (same_forgotten service key w o.stands may).0;
  isn = o.isn ∙ sym (same_forgotten service key w o.stands may).1;
  starts = o.starts;
  formed = record {
    server = o.formed.server;
    profile = o.formed.profile;
    boot = o.formed.boot;
    few = o.formed.few;
    clients = o.formed.clients;
    packets = o.formed.packets;
    entries = o.formed.entries;
    node = λ n e. let b = was key w.node n e in
        subst (NodeFormed o.home) (sym b.is)
        (let f = o.formed.node b.node b.up in record { server = f.server; profile = f.profile; boot = f.boot; stage = forgotten_stage o.home key b.node.stage f.stage });
  };
  there = o.there;
  beside = o.beside;
}

-- A client arrives: it stands before those that were there
newest : {A : Type 0} (of : Option Client → A) (c : Client) (cs : List Client) (k : Key)
    → of (find (λ x. key_eq x.key k) (c ∷ cs)) ≡ (if key_eq k c.key then of (Some c) else of (find (λ x. key_eq x.key k) cs))
newest of c cs k =
    by_cases (key_eq k c.key)
    (λ e. ap (λ b. of (cond b (Some c) (find (λ x. key_eq x.key k) cs))) (subst (λ z. key_eq c.key z ≡ true) (sym (same_key k c.key e)) (key_is c.key))
    ∙ sym (if_true (key_eq k c.key) (of (Some c)) (of (find (λ x. key_eq x.key k) cs)) e))
    (λ e. ap (λ b. of (cond b (Some c) (find (λ x. key_eq x.key k) cs))) (key_eq_turns k c.key e) ∙ sym (if_false (key_eq k c.key) (of (Some c)) (of (find (λ x. key_eq x.key k) cs)) e))

module _ {State : Type 0} (service : Machine State) (c : Client) (w : World) (o : Peopled service w) (may : MayArrive c w) where
  abbrev more : List Client
  more = c ∷ o.home.clients

  found_with : {A : Type 0} (of : Option Client → A) (k : Key) → of (find (λ x. key_eq x.key k) more) ≡ (if key_eq k c.key then of (Some c) else of (find (λ x. key_eq x.key k) o.home.clients))
  found_with of k = newest of c o.home.clients k

  comes_in : (k : Key) → HasClient o.home k → HasClient (record o.home { clients = more }) k
  comes_in k h = (h.0, there_is_numbered more k (or_right (key_eq c.key k) (has_key k (keys_in o.home.clients)) (numbered_is_there o.home.clients k h.1)))

  here : HasClient (record o.home { clients = more }) c.key
  here = ((may.new.ip, may.new.port), there_is_numbered more c.key (or_left (key_eq c.key c.key) (has_key c.key (keys_in o.home.clients)) (key_is c.key)))

  formed_with : WorldFormed (record o.home { clients = more }) (with_new c w)
  formed_with = record {
    server = o.formed.server;
    profile = o.formed.profile;
    boot = o.formed.boot;
    few = o.formed.few;
    clients = all_append (ClientFormed (record o.home { clients = more })) w.clients (c ∷ [])
        (all_weaker (ClientFormed o.home) (ClientFormed (record o.home { clients = more })) w.clients (λ x f. record { key = comes_in x.key f.key; server = f.server }) o.formed.clients)
        (record { key = here; server = ap (λ x. x.server) may.new.new ∙ o.formed.server }, tt);
    packets = all_both (λ p. concerns c.key p ≡ false) (PacketFormed o.home) (PacketFormed (record o.home { clients = more })) w.packets
        (packet_stays o.home more c.key (λ k a. comes_in k)) may.unreceived o.formed.packets;
    entries = all_both (λ e. key_eq e.key c.key ≡ false) (EntryFormed o.home) (EntryFormed (record o.home { clients = more })) w.log.entries
        (entry_stays o.home more c.key (λ k a. comes_in k)) (entries_apart service c w o.stands may) o.formed.entries;
    node = λ n e. let f = o.formed.node n e in
        record { server = f.server; profile = f.profile; boot = f.boot; stage = stage_stays_formed o.home more c.key (λ k a. comes_in k) n.stage (may.clear n e) f.stage };
  }

  pub peopled_with_new : Peopled service (with_new c w)
  peopled_with_new = record {
    stands = stands_with_new service c w o.stands may;
    home = record o.home { clients = more };
    script = fun_ext (λ k. found_with script_in k ∙ ap (λ (s : Key → List ℕ). if key_eq k c.key then c.script else s k) o.script) ∙ sym (same_with_new service c w o.stands may).0;
    isn = fun_ext (λ k. found_with isn_in k ∙ ap (λ (i : Key → ℕ). if key_eq k c.key then c.isn else i k) o.isn) ∙ sym (same_with_new service c w o.stands may).1;
    starts = starts_with o.home more o.starts (λ k. (
      subst AreBytes (sym (found_with script_in k)) (holds_if AreBytes (key_eq k c.key) c.script (script_of o.home k) (λ t. may.new.bytes) (λ t. o.starts.bytes k)),
      subst (λ l. length l ≤ 2 ^ 24) (sym (found_with script_in k)) (holds_if (λ l. length l ≤ 2 ^ 24) (key_eq k c.key) c.script (script_of o.home k) (λ t. may.new.short) (λ t. o.starts.short k)),
      subst (λ n. n < 2 ^ 32) (sym (found_with isn_in k)) (holds_if (λ n. n < 2 ^ 32) (key_eq k c.key) c.isn (isn_of o.home k) (λ t. may.new.number) (λ t. o.starts.isn k)),
    ));
    formed = formed_with;
    there = λ k e. on_there k (or_cases (key_eq c.key k) (has_key k (keys_in o.home.clients)) e);
    beside = λ k e. ⊎_elim (λ t. subst (λ z. is_apart w.server z [] ≡ true) (same_key c.key k t) beside_here) (λ t. o.beside k t) (or_cases (key_eq c.key k) (has_key k (keys_in o.home.clients)) e);
  }
    where
      on_there : (k : Key) → (key_eq c.key k ≡ true) ⊎ (has_key k (keys_in o.home.clients) ≡ true) → has_key k (keys_in (w.clients ++ c ∷ [])) ≡ true
      on_there k (inl t) = has_last k w.clients t
        where
          has_last : (k : Key) (cs : List Client) → key_eq c.key k ≡ true → has_key k (keys_in (cs ++ c ∷ [])) ≡ true
          has_last k [] t = or_left (key_eq c.key k) false t
          has_last k (x ∷ cs) t = or_right (key_eq x.key k) (has_key k (keys_in (cs ++ c ∷ []))) (has_last k cs t)
      on_there k (inr t) = has_front k w.clients (o.there k t)
        where
          has_front : (k : Key) (cs : List Client) → has_key k (keys_in cs) ≡ true → has_key k (keys_in (cs ++ c ∷ [])) ≡ true
          has_front k [] t = absurd (true≢false (sym t))
          has_front k (x ∷ cs) t =
              ⊎_elim (λ s. or_left (key_eq x.key k) (has_key k (keys_in (cs ++ c ∷ []))) s) (λ s. or_right (key_eq x.key k) (has_key k (keys_in (cs ++ c ∷ []))) (has_front k cs s))
              (or_cases (key_eq x.key k) (has_key k (keys_in cs)) t)

      beside_here : is_apart w.server c.key [] ≡ true
      beside_here =
          let parts = and_parts (not (c.key.ip == w.server.ip && c.key.port == w.server.port)) (not (list_any (λ x. key_eq x.key c.key) w.clients)) may.apart in
          and_from (not (c.key.ip == w.server.ip && c.key.port == w.server.port)) true parts.0 refl
