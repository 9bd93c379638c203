-- The start of a schedule whose server lasts: nobody is there, and everybody is new.
use Rattle.std.proofs.Common.{◌≡◌, ◌<◌, ◌≤◌, ◌^◌, Bool, true, false, true≢false, ◌&&◌, ◌||◌, not, refl, sym, ap, ap₂, ◌∙◌, subst, None, List, [], ◌∷◌, map, length}
use Rattle.std.specs.List.{AllByRecursion, list_any}
use Rattle.std.proofs.lemmas.Bool.{and_from}
use Rattle.std.proofs.lemmas.List.Elements.{recursion_from_All, All-from_recursion}
use Rattle.ft_io.specs.declared.Addr.{Addr}
use Rattle.ft_io.specs.declared.Key.{Key}
use Rattle.ft_io.specs.Key.{key_eq}
use Rattle.tcp_rules.specs.Profiles.{profile_of}
use Rattle.ft_model.specs.Client.{Client, is_new}
use Rattle.ft_model.specs.Client.ClientKind.{Scripted}
use Rattle.ft_model.specs.Log.{empty_log}
use Rattle.ft_model.specs.Playable.{HaveDifferentNumbers, IsPlayable}
use Rattle.ft_model.specs.Readable.{FitsClient}
use Rattle.ft_model.specs.Schedule.{bytes_of, client_of, clients_of}
use Rattle.ft_model.specs.World.{World, IsStart, IsNewClient, is_apart}
use Rattle.ft_model.specs.declared.schedule.ClientLine.{ClientLine}
use Rattle.ft_model.specs.declared.schedule.Lasting.{Lasting}
use Rattle.ft_model.specs.declared.schedule.Schedule.{Schedule}
use Rattle.ft_model.proofs.Lists.{all_weaker, all_map, key_is}
use Rattle.ft_model.proofs.PlayableLemmas.{starts}
use Rattle.lasting_laws.specs.LastingLegal.{lasting_start}
use Rattle.lasting_laws.specs.LastingWorld.{Guest, has_come, is_there}
use Rattle.lasting_unseen.proofs.Fresh.{Differ}
use Rattle.lasting_unseen.proofs.GuestsNames.{identity}
use Rattle.lasting_unseen.proofs.Guests.{Guested, IsHere, IsYetToCome, IsPast, IsGuest, Waits, InTurn}

abbrev pub empty_start : Schedule → World
empty_start schedule = record {
  server = schedule.server;
  profile = profile_of schedule.profile;
  clients = [];
  log = empty_log;
  packets = [];
  boot = 0;
  node = None;
}

pub empty_starts : (schedule : Schedule) → IsPlayable schedule → IsStart (empty_start schedule)
empty_starts schedule p = record { ip = p.server.0; port = p.server.1; apart = refl; clients = tt; log = refl; packets = refl; boot = refl; node = refl }

-- a client of the schedule before its first move
abbrev IsUnmoved : Addr → Client → Type 0
IsUnmoved server c = IsNewClient server c × (c.kind ≡ Scripted) × (is_apart server c.key [] ≡ true)

alone : Schedule → ClientLine → Schedule
alone schedule line = record schedule { lasting = None; clients = line ∷ []; events = [] }

line_unmoved : (schedule : Schedule) (line : ClientLine) → IsPlayable schedule → length (bytes_of line.script) ≤ 2 ^ 24 → line.isn < 2 ^ 32 → FitsClient line → is_apart schedule.server line.key [] ≡ true
    → IsUnmoved schedule.server (client_of schedule.server line)
unfolding alone
line_unmoved schedule line p short number size beside =
    let one : IsPlayable (alone schedule line) = record {
      server = p.server;
      short = All-from_recursion (λ line. length (bytes_of line.script) ≤ 2 ^ 24) (line ∷ []) (short, tt);
      numbers = (number, tt);
      sizes = (size, tt);
      beside = (beside, tt);
      different = (tt, tt);
      apart = λ none. and_from (is_apart schedule.server line.key []) true beside refl;
      events = tt;
    } in
    ((starts (alone schedule line) one refl).clients.0, refl, beside)

all_unmoved : (schedule : Schedule) (lines : List ClientLine) → IsPlayable schedule → AllByRecursion (λ line. length (bytes_of line.script) ≤ 2 ^ 24) lines → AllByRecursion (λ line. line.isn < 2 ^ 32) lines
    → AllByRecursion FitsClient lines → AllByRecursion (λ line. is_apart schedule.server line.key [] ≡ true) lines → AllByRecursion (IsUnmoved schedule.server) (clients_of schedule.server lines)
all_unmoved schedule [] p short numbers sizes beside = tt
all_unmoved schedule (line ∷ lines) p short numbers sizes beside =
    (line_unmoved schedule line p short.0 numbers.0 sizes.0 beside.0, all_unmoved schedule lines p short.1 numbers.1 sizes.1 beside.1)

abbrev guest_of : Client → Guest
guest_of c = record { client = c; gone = None }

module _ (server : Addr) where
  not_come : (c : Client) → IsUnmoved server c → has_come (guest_of c) ≡ false
  not_come c f = ap (λ x. not (is_new x.phase)) f.0.new

  nobody : (key : Key) (cs : List Client) → AllByRecursion (IsUnmoved server) cs → list_any (is_there key) (map guest_of cs) ≡ false
  nobody key [] f = refl
  nobody key (c ∷ cs) f = ap₂ (λ a b. a || b) (ap (λ b. key_eq c.key key && (b && true)) (not_come c f.0) ∙ never (key_eq c.key key)) (nobody key cs f.1)
    where
      never : (b : Bool) → (b && false) ≡ false
      never true = refl
      never false = refl

  all_wait : (cs : List Client) → AllByRecursion (IsUnmoved server) cs → InTurn (map guest_of cs)
  all_wait [] f = tt
  all_wait (c ∷ cs) f = (
    λ e. all_map (Waits (guest_of c)) guest_of cs (all_weaker (IsUnmoved server) (λ x. Waits (guest_of c) (guest_of x)) cs (λ x g same. not_come x g) f.1),
    all_wait cs f.1,
  )

  begins : (cs : List Client) → AllByRecursion (IsUnmoved server) cs → Guested server (map guest_of cs) [] []
  begins cs f = record {
    here = all_map (IsHere []) guest_of cs
        (all_weaker (IsUnmoved server) (λ c. IsHere [] (guest_of c)) cs (λ c g e. absurd (true≢false (sym e ∙ ap (λ b. b && true) (not_come c g)))) f);
    taken = λ key. nobody key cs f;
    in_turn = all_wait cs f;
    new = all_map (IsYetToCome server) guest_of cs (all_weaker (IsUnmoved server) (λ c. IsYetToCome server (guest_of c)) cs (λ c g e. (g.0, refl)) f);
    gone = all_map (IsPast []) guest_of cs (all_weaker (IsUnmoved server) (λ c. IsPast [] (guest_of c)) cs (λ c g. tt) f);
    kinds = all_map (IsGuest server) guest_of cs (all_weaker (IsUnmoved server) (λ c. IsGuest server (guest_of c)) cs (λ c g. (g.1, g.2)) f);
    scripted = tt;
  }

pub guested_at_start : (waits : Lasting) (schedule : Schedule) → IsPlayable schedule → Guested schedule.server (lasting_start waits schedule).guests [] []
guested_at_start waits schedule p =
    begins schedule.server (clients_of schedule.server schedule.clients)
    (all_unmoved schedule schedule.clients p (recursion_from_All (λ line. length (bytes_of line.script) ≤ 2 ^ 24) schedule.clients p.short) p.numbers p.sizes p.beside)

-- they differ
differ_from : (server : Addr) (line : ClientLine) (lines : List ClientLine) → AllByRecursion (λ other. key_eq other.key line.key ≡ true → other.isn ≡ line.isn → ⊥) lines
    → AllByRecursion (λ j. j ≡ identity (guest_of (client_of server line)) → ⊥) (map identity (map guest_of (clients_of server lines)))
differ_from server line [] a = tt
differ_from server line (other ∷ lines) a =
    (λ e. a.0 (subst (λ k. key_eq other.key k ≡ true) (ap (λ i. i.0) e) (key_is other.key)) (ap (λ i. i.1) e), differ_from server line lines a.1)

all_differ : (server : Addr) (lines : List ClientLine) → HaveDifferentNumbers lines → Differ (map identity (map guest_of (clients_of server lines)))
all_differ server [] a = tt
all_differ server (line ∷ lines) a = (differ_from server line lines a.0, all_differ server lines a.1)

pub start_differs : (waits : Lasting) (schedule : Schedule) → HaveDifferentNumbers schedule.clients → Differ (map identity (lasting_start waits schedule).guests)
start_differs waits schedule a = all_differ schedule.server schedule.clients a
