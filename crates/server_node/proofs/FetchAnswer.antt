-- What a restart keeps, whatever answers it.
use Rattle.std.proofs.Common.{◌≡◌, ◌∙◌, ℕ, ◌+◌, Bool, true, false, ◌==◌, ◌&&◌, not, nat_le, refl, sym, ap, subst, List, [], ◌∷◌, ◌++◌, map, length, Option, Some, None, IfSome, MatchOption, if◌then◌else◌, find, option_map}
use Rattle.std.specs.Option.{option_to_list}
use Rattle.std.proofs.lemmas.Bool.{and_parts, or_parts}
use Rattle.ft_io.specs.declared.Key.{Key}
use Rattle.ft_io.specs.Key.{key_eq}
use Rattle.seq_arith.specs.Message.{Message, Body, EntryHead}
use Rattle.seq_arith.specs.Message.Body.{EntryMsg, PartMsg, LensMsg}
use Rattle.server_trait.specs.Service.{Served, machine}
use Rattle.ft_model.specs.Restart.{Fetched, Wanted, wanted, is_fetched, fetched_by, fetched_after, all_follow, live_entry}
use Rattle.ft_model.specs.Restart.Wanted.{An_entry, Its_bytes, Its_lengths}
use Rattle.ft_model.specs.Node.{Node}
use Rattle.ft_model.specs.Lawful.{fetched_then}
use Rattle.reincarnate.specs.Questions.{FetchingState, entry_known, entries_of, after_answer, answered, head_fits, with_head, with_newest, part_on, lens_on}
use Rattle.reincarnate.specs.Progress.{EntryState}
use Rattle.node_serving.specs.declared.identity.Identity.{Identity}
use Rattle.server_node.specs.FetchStage.{AreDistinct, FetchingStands, IsOwn, UsesNone}
use Rattle.ft_io.proofs.Booleans.{not_true}
use Rattle.ft_model.proofs.Lists.{same_key, none_is_some, some_is, found_passes}

chosen : {A : Type 0} (P : A → Type 0) (b : Bool) (x : A) → (b ≡ true → P x) → IfSome (if b then Some x else None) P
chosen P true x p = p refl
chosen P false x p = tt

-- no answer brings a key a second time
by_distinct : (w : Wanted) (body : Body) (fetched : List Fetched) → AreDistinct fetched → IfSome (fetched_by w body fetched) AreDistinct
by_distinct (An_entry index) (EntryMsg i head) fetched d =
    chosen AreDistinct (i == index && not (is_fetched head.key fetched)) (record { head = head; bytes = []; lengths = [] } ∷ fetched)
    (λ e. (not_true (is_fetched head.key fetched) (and_parts (i == index) (not (is_fetched head.key fetched)) e).1, d))
by_distinct (Its_bytes key offset) (PartMsg k o bytes) (f ∷ earlier) d =
    chosen AreDistinct (key_eq k key && o == offset && nat_le (length f.bytes + length bytes) f.head.length) (record f { bytes = f.bytes ++ bytes } ∷ earlier) (λ e. d)
by_distinct (Its_lengths key first) (LensMsg k o lens) (f ∷ earlier) d =
    chosen AreDistinct (key_eq k key && o == first && nat_le (length f.lengths + length lens) f.head.reads && all_follow f.head.length f.head.fin f.lengths lens)
    (record f { lengths = f.lengths ++ lens } ∷ earlier) (λ e. d)
by_distinct _ _ _ d = tt

after_distinct : (w : Option Wanted) (body : Body) (fetched : List Fetched) → AreDistinct fetched → IfSome (fetched_after w body fetched) AreDistinct
after_distinct (Some w) body fetched d = by_distinct w body fetched d
after_distinct None body fetched d = tt

pub then_distinct : (node : Node) (message : Message) (count : ℕ) (fetched : List Fetched) → AreDistinct fetched → IfSome (fetched_then node message count fetched) AreDistinct
then_distinct node message count fetched d = go (message.boot == node.boot)
  where
    go : (b : Bool) → IfSome (if b then fetched_after (wanted count fetched) message.body fetched else None) AreDistinct
    go true = after_distinct (wanted count fetched) message.body fetched d
    go false = tt

-- a restart stays that of its incarnation and of its count
pub record IsSame {S : Type 0} (s t : FetchingState S) : Type 0 where
  pub boot : t.boot ≡ s.boot
  pub kind : t.kind ≡ s.kind
  pub so_many : t.count ≡ s.count
  pub marks : t.marks ≡ s.marks

newest_same : {S : Type 0} (s : FetchingState S) (o : Option (EntryState S)) → IfSome (option_map (with_newest s) o) (IsSame s)
newest_same s (Some e) = record { boot = refl; kind = refl; so_many = refl; marks = refl }
newest_same s None = tt

body_same : {S : Type 0} (started : ℕ → S) (after : S → List ℕ → Served S) (greeting : S → List ℕ) (body : Body) (s : FetchingState S) → IfSome (answered started after greeting s body) (IsSame s)
body_same started after greeting (EntryMsg index head) s =
    chosen (IsSame s) (head_fits index head.key s) (with_head (started s.kind) (greeting (started s.kind)) head s) (λ e. record { boot = refl; kind = refl; so_many = refl; marks = refl })
body_same started after greeting (PartMsg key offset bytes) s = newest_same s (part_on after key offset bytes s.newest)
body_same started after greeting (LensMsg key first lens) s = newest_same s (lens_on after key first lens s.newest)
body_same started after greeting _ s = tt

pub received_same : {S : Type 0} (started : ℕ → S) (after : S → List ℕ → Served S) (greeting : S → List ℕ) (message : Message) (s : FetchingState S) → IfSome (after_answer started after greeting message s) (IsSame s)
received_same started after greeting message s = go (message.boot == s.boot)
  where
    go : (b : Bool) → IfSome (if b then answered started after greeting s message.body else None) (IsSame s)
    go true = body_same started after greeting message.body s
    go false = tt

pub answer_same : {S : Type 0} (started : ℕ → S) (after : S → List ℕ → Served S) (greeting : S → List ℕ) (message : Message) (s t : FetchingState S) (fits : Bool)
    → MatchOption (after_answer started after greeting message s) ((fits ≡ false) × (t ≡ s)) (λ x. (fits ≡ true) × (t ≡ x)) → IsSame s t
answer_same {S} started after greeting message s t fits = go (after_answer started after greeting message s) (received_same started after greeting message s)
  where
    go : (o : Option (FetchingState S)) → IfSome o (IsSame s) → MatchOption o ((fits ≡ false) × (t ≡ s)) (λ x. (fits ≡ true) × (t ≡ x)) → IsSame s t
    go None h (unfit, is) = subst (IsSame s) (sym is) (record { boot = refl; kind = refl; so_many = refl; marks = refl })
    go (Some x) h (fit, is) = subst (IsSame s) (sym is) h

-- the entry of a key, unless it is done
unless_done : Option Fetched → Option Fetched
unless_done None = None
unless_done (Some f) = if f.head.done then None else Some f

none_live : (key : Key) (fetched : List Fetched) → is_fetched key fetched ≡ false → live_entry key fetched ≡ None
none_live key [] e = refl
none_live key (f ∷ earlier) e =
    let parts = or_parts (key_eq f.head.key key) (is_fetched key earlier) e in
    ap (λ b. if b && not f.head.done then Some f else live_entry key earlier) parts.0 ∙ none_live key earlier parts.1

-- no two entries have one key, so a key's first entry decides
live_is : (key : Key) (fetched : List Fetched) → AreDistinct fetched → live_entry key fetched ≡ unless_done (find (λ f. key_eq f.head.key key) fetched)
unfolding unless_done
live_is key [] d = refl
live_is key (f ∷ earlier) d = go (key_eq f.head.key key) refl f.head.done refl (live_is key earlier d.1)
  where
    passed : (b : Bool) → key_eq f.head.key key ≡ b → unless_done (if b then Some f else find (λ x. key_eq x.head.key key) earlier) ≡ unless_done (find (λ x. key_eq x.head.key key) (f ∷ earlier))
    passed b t = ap (λ c. unless_done (if c then Some f else find (λ x. key_eq x.head.key key) earlier)) (sym t)

    go : (b : Bool) → key_eq f.head.key key ≡ b → (done : Bool) → f.head.done ≡ done → live_entry key earlier ≡ unless_done (find (λ x. key_eq x.head.key key) earlier)
        → live_entry key (f ∷ earlier) ≡ unless_done (find (λ x. key_eq x.head.key key) (f ∷ earlier))
    go false t done e rest = ap (λ b. if b && not f.head.done then Some f else live_entry key earlier) t ∙ (rest ∙ passed false t)
    go true t true e rest =
        ap (λ b. if b && not f.head.done then Some f else live_entry key earlier) t
        ∙ (ap (λ c. if not c then Some f else live_entry key earlier) e
        ∙ (none_live key earlier (subst (λ k. is_fetched k earlier ≡ false) (same_key f.head.key key t) d.0)
        ∙ (ap (λ c. if c then None else Some f) (sym e) ∙ passed true t)))
    go true t false e rest =
        ap (λ b. if b && not f.head.done then Some f else live_entry key earlier) t
        ∙ (ap (λ c. if not c then Some f else live_entry key earlier) e
        ∙ (ap (λ c. if c then None else Some f) (sym e) ∙ passed true t))

head_unless : (o : Option Fetched) (h : Option EntryHead) → h ≡ option_map (λ f. f.head) o → option_map (λ f. f.head) (unless_done o) ≡ Rattle.std.specs.Option.option_and_then (λ x. if x.done then None else Some x) h
unfolding unless_done
head_unless None h e = ap (Rattle.std.specs.Option.option_and_then (λ x. if x.done then None else Some x)) (sym e)
head_unless (Some f) h e = go f.head.done ∙ ap (Rattle.std.specs.Option.option_and_then (λ x. if x.done then None else Some x)) (sym e)
  where
    go : (b : Bool) → option_map (λ x. x.head) (if b then None else Some f) ≡ (if b then None else Some f.head)
    go true = refl
    go false = refl

-- the head that is found, unless it is done
pub live_head_is : (key : Key) (fetched : List Fetched) (h : Option EntryHead) → AreDistinct fetched → h ≡ option_map (λ f. f.head) (find (λ f. key_eq f.head.key key) fetched)
    → option_map (λ f. f.head) (live_entry key fetched) ≡ Rattle.std.specs.Option.option_and_then (λ x. if x.done then None else Some x) h
live_head_is key fetched h d e = ap (option_map (λ f. f.head)) (live_is key fetched d) ∙ head_unless (find (λ f. key_eq f.head.key key) fetched) h e

pub heads_of : {X : Type 0} (g : EntryHead → X) (o : Option Fetched) → map (λ f. g f.head) (option_to_list o) ≡ map g (option_to_list (option_map (λ f. f.head) o))
heads_of g (Some f) = refl
heads_of g None = refl

pub still_own : {S : Type 0} (who : Identity) (s t : FetchingState S) → IsSame s t → IsOwn who s → IsOwn who t
still_own who s t same own = record { boot = same.boot ∙ own.boot; kind = same.kind ∙ own.kind; unmarked = subst UsesNone (sym same.marks) own.unmarked }

-- the service of this incarnation is that of its restart
pub own_stands : {S : Type 0} (started : ℕ → S) (after : S → List ℕ → Served S) (greeting : S → List ℕ) (who : Identity) (f : FetchingState S) (count : ℕ) (fetched : List Fetched) → f.kind ≡ who.kind
    → FetchingStands (machine (started who.kind) after greeting) count fetched f → FetchingStands (machine (started f.kind) after greeting) count fetched f
own_stands started after greeting who f count fetched kind st = subst (λ k. FetchingStands (machine (started k) after greeting) count fetched f) (sym kind) st

-- the entry that is known of a key has that key
pub known_key : {S : Type 0} (key : Key) (head : EntryHead) (s : FetchingState S) → Some head ≡ option_map (λ e. e.head) (entry_known key s) → head.key ≡ key
known_key {S} key head s is = go (entry_known key s) refl is
  where
    go : (o : Option (EntryState S)) → entry_known key s ≡ o → Some head ≡ option_map (λ e. e.head) o → head.key ≡ key
    go None f e = none_is_some head (sym e)
    go (Some e) f is = ap (λ h. h.key) (some_is head e.head is) ∙ same_key e.head.key key (found_passes (λ x. key_eq x.head.key key) (entries_of s) e f)
