-- Restart is exact: in the turn that ends it, every entry that isn't done has its connection, which stood at the entry's point.
use Rattle.std.proofs.Common.{◌≡◌, ℕ, zero, suc, ◌<◌, ◌≤◌, Bool, true, false, nat_lt, refl, sym, ap, ap₂, ◌∙◌, subst, true≢false, MatchBool, Option, Some, None, List, [], ◌∷◌, ◌++◌, map, length, slice_get, arith, ltb-false, ltb-true, length-append, if◌then◌else◌}
use Rattle.std.specs.List.{AllByRecursion}
use Rattle.std.proofs.lemmas.Option.{slice_get_within}
use Rattle.ft_io.specs.declared.Addr.{Addr}
use Rattle.ft_io.specs.declared.Key.{Key}
use Rattle.tcp_rules.specs.Profile.{Profile}
use Rattle.server_trait.specs.Service.{Machine}
use Rattle.ft_model.specs.Log.{Log, Entry}
use Rattle.ft_model.specs.Network.{Packet}
use Rattle.ft_model.specs.Point.{Point}
use Rattle.ft_model.specs.News.News.{Begins}
use Rattle.ft_model.specs.ResetAndEnd.{reset_after}
use Rattle.ft_model.specs.Connection.{ResetTurn, LiveTurn, ConnectionTurn}
use Rattle.ft_model.specs.Restart.{Wanted, Fetched, wanted, next_entry, lacks_read_bytes, lacks_bytes, lacks_lengths, entry_in, point_of}
use Rattle.ft_model.specs.Restart.Wanted.{An_entry, Its_bytes, Its_lengths}
use Rattle.ft_model.specs.Node.{Node, Place, Stage, Input, key_of, place_at}
use Rattle.ft_model.specs.Node.Place.{Opens, Lives, Ended}
use Rattle.ft_model.specs.Node.Stage.{Asking, Fetching, Serving, Fenced}
use Rattle.ft_model.specs.ServingTurn.{AllGo}
use Rattle.ft_model.specs.Lawful.{Revives, LawfulTurn, restored, all_restored}
use Rattle.ft_model.specs.Growth.{IsPrefix}
use Rattle.ft_model.specs.Masked.{IsResumed, is_restarting, Resumes, RestartIsExact}
use Rattle.ft_model.specs.World.{World}
use Rattle.ft_model.specs.Keys.{AreDistinct}
use Rattle.ft_model.proofs.Lists.{none_is_some, some_is}
use Rattle.ft_model.proofs.Keys.{distinct_front, finds_itself, front_more, all_from_get}
use Rattle.ft_model.proofs.Happened.{IsBrought}
use Rattle.ft_model.proofs.StageTurns.{StageWent, stage_went, either_turn}
use Rattle.ft_model.proofs.StageTurns.StageWent.{was_fenced, waited, held_off, asked_on, resumed, served}
use Rattle.ft_model.specs.FetchedFronts.{IsFront, IsWhole, AreFetched}
use Rattle.ft_model.proofs.Fetching.{whole_is}
use Rattle.ft_model.proofs.Asked.{IsAsked, progress_agrees}
use Rattle.ft_io.proofs.Choices.{holds_if}

no_next : (count n : ℕ) → next_entry count n ≡ None → count ≤ n
no_next count n =
    holds_if (λ w. w ≡ None → count ≤ n) (nat_lt n count) (Some (An_entry n)) None (λ t e. none_is_some (An_entry n) (sym e)) (λ t e. ltb-false _ _ t)

-- nothing is missing: all are whole, and there are as many as the Summary told
pub nothing_missing : (entries : List Entry) (count : ℕ) (fetched : List Fetched) → AreFetched entries fetched → wanted count fetched ≡ None
    → AllByRecursion IsWhole fetched × (count ≤ length fetched)
nothing_missing entries count [] a e = (tt, no_next count 0 e)
nothing_missing entries count (f ∷ earlier) a none =
    let Ends : Option Wanted → Type 0 = λ w. w ≡ None → AllByRecursion IsWhole (f ∷ earlier) × (count ≤ length (f ∷ earlier)) in
    holds_if Ends (lacks_read_bytes f) (Some (Its_bytes f.head.key (length f.bytes))) _ (λ t e. none_is_some _ (sym e))
    (λ t. holds_if Ends (lacks_lengths f) (Some (Its_lengths f.head.key (length f.lengths))) _ (λ s e. none_is_some _ (sym e))
    (λ s. holds_if Ends (lacks_bytes f) (Some (Its_bytes f.head.key (length f.bytes))) _ (λ r e. none_is_some _ (sym e))
    (λ r e. (((r, s), a.3), no_next count (length (f ∷ earlier)) e)))) none

restored_key : {State : Type 0} (service : Machine State) (profile : Profile) (f : Fetched) → key_of (restored service profile f) ≡ f.head.key
restored_key service profile f = holds_if (λ p. key_of p ≡ f.head.key) f.head.done (Ended f.head.key) (Lives (point_of service profile (entry_in f))) (λ t. refl) (λ t. refl)

pub restored_live : {State : Type 0} (service : Machine State) (profile : Profile) (f : Fetched) (e : Entry) → IsFront f e → e.done ≡ false → IsWhole f
    → restored service profile f ≡ Lives (point_of service profile e)
restored_live service profile f e front live whole =
    let alive : f.head.done ≡ false = ap (λ h. h.done) front.head ∙ live in
    ap (λ b. if b then Ended f.head.key else Lives (point_of service profile (entry_in f))) alive ∙ ap (λ x. Lives (point_of service profile x)) (whole_is f e front live whole)

pub restored_length : {State : Type 0} (service : Machine State) (profile : Profile) (fetched : List Fetched) → length (all_restored service profile fetched) ≡ length fetched
restored_length service profile [] = refl
restored_length service profile (f ∷ earlier) =
    let more = length-append (all_restored service profile earlier) (restored service profile f ∷ []) in
    let so : length (all_restored service profile earlier) ≡ length earlier = restored_length service profile earlier in
    omega (arith, more, so)

pub map_append : {A B : Type 0} (g : A → B) (xs ys : List A) → map g (xs ++ ys) ≡ map g xs ++ map g ys
map_append g [] ys = refl
map_append g (x ∷ xs) ys = ap (λ l. g x ∷ l) (map_append g xs ys)

pub length_map : {A B : Type 0} (g : A → B) (xs : List A) → length (map g xs) ≡ length xs
length_map g [] = refl
length_map g (x ∷ xs) = ap suc (length_map g xs)

get_map : {A B : Type 0} (g : A → B) (xs : List A) (i : ℕ) (x : A) → slice_get xs i ≡ Some x → slice_get (map g xs) i ≡ Some (g x)
get_map g [] i x e = none_is_some x e
get_map g (y ∷ ys) zero x e = ap (λ z. Some (g z)) (some_is y x e)
get_map g (y ∷ ys) (suc i) x e = get_map g ys i x e

pub get_left : {A : Type 0} (xs ys : List A) (i : ℕ) (x : A) → slice_get xs i ≡ Some x → slice_get (xs ++ ys) i ≡ Some x
get_left [] ys i x e = none_is_some x e
get_left (z ∷ zs) ys zero x e = e
get_left (z ∷ zs) ys (suc i) x e = get_left zs ys i x e

get_next : {A : Type 0} (xs ys : List A) (x : A) → slice_get (xs ++ x ∷ ys) (length xs) ≡ Some x
get_next [] ys x = refl
get_next (z ∷ zs) ys x = get_next zs ys x

-- the keys of the restored places are a front of the log's
pub restored_keys : {State : Type 0} (service : Machine State) (profile : Profile) (entries : List Entry) (fetched : List Fetched) → AreFetched entries fetched
    → IsPrefix (map key_of (all_restored service profile fetched)) (map (λ e. e.key) entries)
restored_keys service profile entries [] a = (map (λ e. e.key) entries, refl)
restored_keys service profile entries (f ∷ earlier) a =
    let earlier_keys : List Key = map key_of (all_restored service profile earlier) in
    let keys : List Key = map (λ e. e.key) entries in
    let front : IsPrefix earlier_keys keys = restored_keys service profile entries earlier a.4 in
    let size : length earlier_keys ≡ length earlier = length_map key_of (all_restored service profile earlier) ∙ restored_length service profile earlier in
    let key : key_of (restored service profile f) ≡ a.0.key = restored_key service profile f ∙ ap (λ h. h.key) a.2.head in
    let at : slice_get keys (length earlier_keys) ≡ Some (key_of (restored service profile f)) =
    subst (λ n. slice_get keys n ≡ Some (key_of (restored service profile f))) (sym size) (get_map (λ e. e.key) entries (length earlier) a.0 a.1 ∙ ap Some (sym key)) in
    let more : IsPrefix (earlier_keys ++ key_of (restored service profile f) ∷ []) (earlier_keys ++ front.0) =
    front_more earlier_keys front.0 (key_of (restored service profile f)) (subst (λ l. slice_get l (length earlier_keys) ≡ Some (key_of (restored service profile f))) (sym front.1) at) in
    subst (λ l. IsPrefix l keys) (sym (map_append key_of (all_restored service profile earlier) (restored service profile f ∷ [])))
    (subst (λ l. IsPrefix (earlier_keys ++ key_of (restored service profile f) ∷ []) l) front.1 more)

by_place : {State : Type 0} (service : Machine State) (profile : Profile) (entries : List Entry) (f : Fetched) (earlier : List Fetched) → AreFetched entries (f ∷ earlier)
    → AllByRecursion IsWhole (f ∷ earlier) → (i : ℕ) (e : Entry) → i < length (f ∷ earlier) → slice_get entries i ≡ Some e → e.done ≡ false
    → ((j : ℕ) → j < length earlier → slice_get entries j ≡ Some e → slice_get (all_restored service profile earlier) j ≡ Some (Lives (point_of service profile e)))
    → (b : Bool) → nat_lt i (length earlier) ≡ b → slice_get (all_restored service profile (f ∷ earlier)) i ≡ Some (Lives (point_of service profile e))
by_place service profile entries f earlier a w i e less at live back true t =
    get_left (all_restored service profile earlier) (restored service profile f ∷ []) i _ (back i (ltb-true _ _ t) at)
by_place service profile entries f earlier a w i e less at live back false t =
    let past : length earlier ≤ i = ltb-false _ _ t in
    let last : i ≡ length earlier = omega (arith, past, less) in
    let same : a.0 ≡ e = some_is a.0 e (sym a.1 ∙ (ap (slice_get entries) (sym last) ∙ at)) in
    let place : restored service profile f ≡ Lives (point_of service profile e) = restored_live service profile f e (subst (IsFront f) same a.2) live w.0 in
    let here : slice_get (all_restored service profile (f ∷ earlier)) (length (all_restored service profile earlier)) ≡ Some (restored service profile f) =
    get_next (all_restored service profile earlier) [] (restored service profile f) in
    subst (λ n. slice_get (all_restored service profile (f ∷ earlier)) n ≡ Some (Lives (point_of service profile e))) (restored_length service profile earlier ∙ sym last) (here ∙ ap Some place)

-- each entry that isn't done stands among them, at its point
pub restored_at : {State : Type 0} (service : Machine State) (profile : Profile) (entries : List Entry) (fetched : List Fetched) → AreFetched entries fetched → AllByRecursion IsWhole fetched
    → (i : ℕ) (e : Entry) → i < length fetched → slice_get entries i ≡ Some e → e.done ≡ false
    → slice_get (all_restored service profile fetched) i ≡ Some (Lives (point_of service profile e))
restored_at service profile entries [] a w i e less at live = absurd (omega (arith, less))
restored_at service profile entries (f ∷ earlier) a w i e less at live =
    by_place service profile entries f earlier a w i e less at live (λ j less' at'. restored_at service profile entries earlier a.4 w.1 j e less' at' live) (nat_lt i (length earlier)) refl

-- a place that revives is one place of the same key
pub revived : {State : Type 0} (service : Machine State) (node : Node) (place : Place) (now : List Place) (sent : List Packet) → Revives service node place now sent
    → (after : Place) × (now ≡ after ∷ []) × (key_of after ≡ key_of place)
revived service node (Lives p) now sent t =
    (Lives t.0, t.1, either_turn service node.server node.boot Begins p t.0 sent (λ r. ap (λ x. x.key) r.point) (λ l. l.same.key) t.2)
revived service node (Opens n timestamping) now sent t = (Opens n timestamping, t.0, refl)
revived service node (Ended k) now sent t = (Ended k, t.0, refl)

pub revived_keys : {State : Type 0} (service : Machine State) (node : Node) (before after : List Place) (sent : List Packet) → AllGo (Revives service node) before after sent
    → map key_of after ≡ map key_of before
revived_keys service node [] after sent t = ap (map key_of) t.0
revived_keys service node (place ∷ places) after sent (now, later, first, others, places_are, sent_is, goes, rest) =
    let r = revived service node place now first goes in
    ap (map key_of) (places_are ∙ ap (λ l. l ++ later) r.1) ∙ ap₂ ◌∷◌ r.2 (revived_keys service node places later others rest)

-- the place that stands there after it
revived_at : {State : Type 0} (service : Machine State) (node : Node) (before after : List Place) (sent : List Packet) (i : ℕ) (p : Point)
    → AllGo (Revives service node) before after sent → slice_get before i ≡ Some (Lives p)
    → (q : Point) × (some : List Packet) × (slice_get after i ≡ Some (Lives q)) × ConnectionTurn service node.server node.boot Begins p q some
revived_at service node [] after sent i p t e = none_is_some (Lives p) e
revived_at service node (place ∷ places) after sent zero p (now, later, first, others, places_are, sent_is, goes, rest) e =
    let t : Revives service node (Lives p) now first = subst (λ x. Revives service node x now first) (some_is place (Lives p) e) goes in
    (t.0, first, ap (λ l. slice_get l zero) (places_are ∙ ap (λ l. l ++ later) t.1), t.2)
revived_at service node (place ∷ places) after sent (suc i) p (now, later, first, others, places_are, sent_is, goes, rest) e =
    let r = revived service node place now first goes in
    let there = revived_at service node places later others i p rest e in
    (there.0, there.1, ap (λ l. slice_get l (suc i)) (places_are ∙ ap (λ l. l ++ later) r.1) ∙ there.2, there.3)

live_turn : {State : Type 0} (service : Machine State) (server : Addr) (boot : ℕ) (p q : Point) (sent : List Packet) → p.reset ≡ false
    → ConnectionTurn service server boot Begins p q sent → LiveTurn service server boot Begins p q sent
unfolding reset_after
live_turn service server boot p q sent live t = subst (λ b. MatchBool b (ResetTurn boot Begins p q sent) (LiveTurn service server boot Begins p q sent)) live t

resumes_all : {State : Type 0} (service : Machine State) (node : Node) (entries : List Entry) (count : ℕ) (fetched : List Fetched) (places : List Place) (sent : List Packet)
    → AreDistinct (map (λ e. e.key) entries) → count ≡ length entries → AreFetched entries fetched → wanted count fetched ≡ None
    → AllGo (Revives service node) (all_restored service node.profile fetched) places sent
    → AllByRecursion (λ e. e.done ≡ false → IsResumed service node places e) entries
resumes_all service node entries count fetched places sent d c a none t =
    let whole = nothing_missing entries count fetched a none in
    let keys : IsPrefix (map key_of places) (map (λ e. e.key) entries) =
    subst (λ l. IsPrefix l (map (λ e. e.key) entries)) (sym (revived_keys service node (all_restored service node.profile fetched) places sent t)) (restored_keys service node.profile entries fetched a) in
    let apart : AreDistinct (map key_of places) = distinct_front (map key_of places) keys.0 (subst AreDistinct (sym keys.1) d) in
    all_from_get (λ e. e.done ≡ false → IsResumed service node places e) entries
    (λ i e at live. let within : i < length entries = slice_get_within entries i e at in
    let stood = restored_at service node.profile entries fetched a whole.0 i e (omega (arith, within, c, whole.1)) at live in
    let now = revived_at service node (all_restored service node.profile fetched) places sent i (point_of service node.profile e) t stood in
    let turn : LiveTurn service node.server node.boot Begins (point_of service node.profile e) now.0 now.1 = live_turn service node.server node.boot (point_of service node.profile e) now.0 now.1 refl now.3 in
    let found : place_at (key_of (Lives now.0)) places ≡ Some (Lives now.0) = finds_itself key_of places i (Lives now.0) apart now.2 in
    record { point = now.0; sent = now.1; lives = subst (λ k. place_at k places ≡ Some (Lives now.0)) turn.same.key found; turn = turn })

pub not_resumed : {State : Type 0} (service : Machine State) (log : Log) (node : Node) (stage : Stage) → is_restarting stage ≡ true → Resumes service log node stage
not_resumed service log node Asking r = tt
not_resumed service log node (Fetching count fetched) r = tt
not_resumed service log node (Serving opened places) r = absurd (true≢false (sym r))
not_resumed service log node (Fenced newer) r = tt

resumes : {State : Type 0} (service : Machine State) (w : World) (node : Node) (input : Input) (sent : List Packet) (after : Stage)
    → IsAsked w → w.node ≡ Some node → IsBrought w input → is_restarting node.stage ≡ true → StageWent service node input sent after → Resumes service w.log node after
resumes service w node input sent after a e brought r (was_fenced newer f s) = subst (Resumes service w.log node) (sym f) tt
resumes service w node input sent after a e brought r (waited b f s) = not_resumed service w.log node after (ap is_restarting f ∙ b)
resumes service w node input sent after a e brought r (held_off count fetched segment b f s) = subst (Resumes service w.log node) (sym f) tt
resumes service w node input sent after a e brought r (asked_on count fetched p f s) = subst (Resumes service w.log node) (sym f) tt
resumes service w node input sent after a e brought r (resumed count fetched places p none f t) =
    let agrees = progress_agrees w node input count fetched a e brought p in
    subst (Resumes service w.log node) (sym f) (resumes_all service node w.log.entries count fetched places sent a.distinct agrees.0 agrees.1 none t)
resumes service w node input sent after a e brought r (served opened places later b f t) = absurd (true≢false (sym r ∙ ap is_restarting b))

pub exact : {State : Type 0} (service : Machine State) (w : World) (node later : Node) (input : Input) (sent : List Packet)
    → IsAsked w → w.node ≡ Some node → IsBrought w input → LawfulTurn service node input sent later → RestartIsExact service w.log (Some node) (Some later)
exact service w node later input sent a e brought t =
    λ r. resumes service w node input sent later.stage a e brought r (stage_went service node later input sent t)
