-- The invariants are preserved when a new client arrives, also at an address and port that were used before.
use Rattle.std.proofs.Common.{◌≡◌, ℕ, ◌≤◌, ◌^◌, false, ◌==◌, ◌&&◌, not, refl, sym, ap, subst, true≢false, List, [], ◌∷◌, length, if◌then◌else◌}
use Rattle.std.specs.List.{AllByRecursion, list_any}
use Rattle.std.proofs.lemmas.Bool.{and_parts}
use Rattle.ft_io.specs.declared.Key.{Key}
use Rattle.ft_io.specs.Key.{key_eq}
use Rattle.server_trait.specs.Service.{Machine, reference}
use Rattle.ft_model.specs.Client.{Client}
use Rattle.ft_model.specs.Log.{entry_of}
use Rattle.ft_model.specs.Node.{Stage}
use Rattle.ft_model.specs.Node.Stage.{Asking, Fetching, Serving, Fenced}
use Rattle.ft_model.specs.World.{World}
use Rattle.ft_model.proofs.Authored.{Speaks, PlaceRuns, logged_run}
use Rattle.ft_model.proofs.AuthorOver.{ReadOf, EntryOf, StageRuns}
use Rattle.ft_model.proofs.Backed.{PacketBacked, EntryBacked, PlaceBacked, StageBacked}
use Rattle.ft_model.proofs.Faithful.{PacketFits, PlaceFits, StageFits}
use Rattle.ft_model.proofs.FaithfulKept.{ClientFits}
use Rattle.ft_model.proofs.Lists.{all_both, all_append, key_is}
use Rattle.ft_model.proofs.Scripts.{EntryFits}
use Rattle.ft_model.proofs.Seen.{IsSeen}
use Rattle.ft_io.proofs.Booleans.{not_true}
use Rattle.ft_io.proofs.Choices.{holds_if, if_false}
use Rattle.long_laws.specs.LongTrace.{concerns, places_at, with_new, MayArrive}
use Rattle.long_laws.proofs.Others.{none_pass, none_found}
use Rattle.long_laws.proofs.Elsewhere.{packet_fits, entry_fits, client_fits, place_fits, speaks, packet_backed, entry_backed, place_backed, client_sees, entry_of_author, read_of_author, place_runs}
use Rattle.long_laws.proofs.Recycled.{author_without, author_elsewhere, only_without, AreClear, stage_of, nothing_made}
use Rattle.long_laws.proofs.Stands.{Stands}

module _ {State : Type 0} (service : Machine State) (c : Client) (w : World) (o : Stands service w) (may : MayArrive c w) where
  -- the scripts and numbers from now on
  abbrev script : Key → List ℕ
  script k = if key_eq k c.key then c.script else o.script k

  abbrev isn : Key → ℕ
  isn k = if key_eq k c.key then c.isn else o.isn k

  abbrev old : Key → List ℕ
  old = o.author.author

  abbrev new : Key → List ℕ
  new = author_without c.key old

  script_here : (k : Key) → key_eq k c.key ≡ false → o.script k ≡ script k
  script_here k a = sym (if_false (key_eq k c.key) c.script (o.script k) a)

  isn_here : (k : Key) → key_eq k c.key ≡ false → o.isn k ≡ isn k
  isn_here k a = sym (if_false (key_eq k c.key) c.isn (o.isn k) a)

  entry_here : (k : Key) → key_eq k c.key ≡ false → entry_of k w.log ≡ entry_of k w.log
  entry_here k a = refl

  pub clients_apart : AllByRecursion (λ x. key_eq x.key c.key ≡ false) w.clients
  clients_apart =
      none_pass (λ x. key_eq x.key c.key) w.clients
      (not_true (list_any (λ x. key_eq x.key c.key) w.clients)
      (and_parts (not (c.key.ip == w.server.ip && c.key.port == w.server.port)) (not (list_any (λ x. key_eq x.key c.key) w.clients)) may.apart).1)

  pub entries_apart : AllByRecursion (λ e. key_eq e.key c.key ≡ false) w.log.entries
  entries_apart = none_found (λ e. key_eq e.key c.key) w.log.entries may.absent

  fits_here : (stage : Stage) → AreClear c.key (places_at stage) → StageFits o.script o.isn w.log stage → StageFits script isn w.log stage
  fits_here (Serving opened places) clear f =
      stage_of (PlaceFits o.script o.isn w.log) (PlaceFits script isn w.log) c.key places
      (λ place a x. place_fits service c.key o.script script o.isn isn w.log w.log script_here isn_here entry_here place a x) clear f
  fits_here Asking clear f = tt
  fits_here (Fetching count fetched) clear f = tt
  fits_here (Fenced newer) clear f = tt

  runs_here : (stage : Stage) → AreClear c.key (places_at stage) → StageRuns service old stage → StageRuns service new stage
  runs_here (Serving opened places) clear f = (
    stage_of (PlaceRuns service old) (PlaceRuns service new) c.key places (λ place a x. place_runs service c.key old new (author_elsewhere c.key old) place a x) clear f.0,
    only_without c.key old places f.1,
  )
  runs_here Asking clear f = tt
  runs_here (Fetching count fetched) clear f = tt
  runs_here (Fenced newer) clear f = tt

  backed_here : (stage : Stage) → AreClear c.key (places_at stage) → StageBacked service o.script w.log stage → StageBacked service script w.log stage
  backed_here (Serving opened places) clear f =
      stage_of (PlaceBacked service o.script w.log) (PlaceBacked service script w.log) c.key places
      (λ place a x. place_backed service c.key o.script script o.isn isn w.log w.log script_here isn_here entry_here place a x) clear f
  backed_here Asking clear f = tt
  backed_here (Fetching count fetched) clear f = tt
  backed_here (Fenced newer) clear f = tt

  own : ClientFits script isn c
  own = (sym (ap (λ b. if b then c.script else o.script c.key) (key_is c.key)), sym (ap (λ b. if b then c.isn else o.isn c.key) (key_is c.key)), may.new.short)

  sees_own : IsSeen service script w.log c
  sees_own =
      subst (IsSeen service script w.log) (sym may.new.new)
      (record { front = ((logged_run service script w.log c.key).output, refl); ended = λ e. absurd (true≢false (sym e)); holds = record { held = tt; held_fin = tt }; sisn = λ x. absurd (true≢false (sym x)); unlogged = λ n. refl })

  short_here : (k : Key) → length (script k) ≤ 2 ^ 24
  short_here k = holds_if (λ l. length l ≤ 2 ^ 24) (key_eq k c.key) c.script (o.script k) (λ t. may.new.short) (λ t. o.short k)

  made_here : (k : Key) → length (reference service (script k) (new k)).output ≤ 2 ^ 24
  made_here k =
      holds_if (λ l. length (reference service (script k) l).output ≤ 2 ^ 24) (key_eq k c.key) [] (old k) (λ t. nothing_made service (o.script k) (old k) (script k) (o.author.short k))
      (λ t. subst (λ s. length (reference service s (old k)).output ≤ 2 ^ 24) (script_here k t) (o.author.short k))

  pub stands_with_new : Stands service (with_new c w)
  stands_with_new = record {
    script = script;
    isn = isn;
    short = short_here;
    fenced = record {
      log = o.fenced.log;
      packets = o.fenced.packets;
      node = λ n e. let x = o.fenced.node n e in record { boot = x.boot; logged = x.logged; quiet = x.quiet };
    };
    asked = record { distinct = o.asked.distinct; node = λ n e r. let x = o.asked.node n e r in record { packets = x.packets; fetched = x.fetched } };
    faithful = record {
      clients = all_append (ClientFits script isn) w.clients (c ∷ [])
          (all_both (λ x. key_eq x.key c.key ≡ false) (ClientFits o.script o.isn) (ClientFits script isn) w.clients
          (λ x a f. client_fits service c.key o.script script o.isn isn w.log w.log script_here isn_here entry_here x a f) clients_apart o.faithful.clients) (own, tt);
      packets = all_both (λ p. concerns c.key p ≡ false) (PacketFits o.script o.isn w.log) (PacketFits script isn w.log) w.packets
          (λ p a f. packet_fits service c.key o.script script o.isn isn w.log w.log script_here isn_here entry_here p a f) may.unreceived o.faithful.packets;
      entries = all_both (λ e. key_eq e.key c.key ≡ false) (λ e. EntryFits (o.script e.key) (o.isn e.key) e) (λ e. EntryFits (script e.key) (isn e.key) e) w.log.entries
          (λ e a f. entry_fits service c.key o.script script o.isn isn w.log w.log script_here isn_here entry_here e a f) entries_apart o.faithful.entries;
      stage = λ n e. fits_here n.stage (may.clear n e) (o.faithful.stage n e);
    };
    distinct = o.distinct;
    author = record {
      author = new;
      entries = all_both (λ e. key_eq e.key c.key ≡ false) (EntryOf old) (EntryOf new) w.log.entries
          (λ e a f. entry_of_author service c.key old new (author_elsewhere c.key old) e a f) entries_apart o.author.entries;
      short = made_here;
      reads = all_both (λ p. concerns c.key p ≡ false) (ReadOf old w.log.boot) (ReadOf new w.log.boot) w.packets
          (λ p a f. read_of_author service c.key old new (author_elsewhere c.key old) w.log.boot p a f) may.unreceived o.author.reads;
      spoken = all_both (λ p. concerns c.key p ≡ false) (Speaks service o.script w.log) (Speaks service script w.log) w.packets
          (λ p a f. speaks service c.key o.script script o.isn isn w.log w.log script_here isn_here entry_here p a f) may.unreceived o.author.spoken;
      stage = λ n e. runs_here n.stage (may.clear n e) (o.author.stage n e);
    };
    sees = all_append (IsSeen service script w.log) w.clients (c ∷ [])
        (all_both (λ x. key_eq x.key c.key ≡ false) (IsSeen service o.script w.log) (IsSeen service script w.log) w.clients
        (λ x a f. client_sees service c.key o.script script o.isn isn w.log w.log script_here isn_here entry_here x a f) clients_apart o.sees) (sees_own, tt);
    backed = record {
      packets = all_both (λ p. concerns c.key p ≡ false) (PacketBacked service o.script w.log) (PacketBacked service script w.log) w.packets
          (λ p a f. packet_backed service c.key o.script script o.isn isn w.log w.log script_here isn_here entry_here p a f) may.unreceived o.backed.packets;
      entries = all_both (λ e. key_eq e.key c.key ≡ false) (EntryBacked service o.script w.log) (EntryBacked service script w.log) w.log.entries
          (λ e a f. entry_backed service c.key o.script script o.isn isn w.log w.log script_here isn_here entry_here e a f) entries_apart o.backed.entries;
      stage = λ n e. backed_here n.stage (may.clear n e) (o.backed.stage n e);
    };
    reporting = o.reporting;
  }

  -- its scripts and numbers are the client's at its key, and elsewhere those of before
  pub same_with_new : (stands_with_new.script ≡ (λ k. if key_eq k c.key then c.script else o.script k)) × (stands_with_new.isn ≡ (λ k. if key_eq k c.key then c.isn else o.isn k))
  unfolding stands_with_new
  same_with_new = (refl, refl)
