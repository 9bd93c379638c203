-- .. so it is after each turn of a server.
use Rattle.std.proofs.Common.{◌≡◌, ◌⊎◌, ℕ, pos, int_le, nat_abs, true, ◌&&◌, nat_lt, refl, sym, ap, ◌∙◌, subst, true≢false, inl, inr, ⊎_elim, Option, Some, None, List, [], ◌∷◌, arith}
use Rattle.std.specs.List.{AllByRecursion}
use Rattle.ft_io.specs.declared.Key.{Key}
use Rattle.ft_io.proofs.Choices.{holds_if}
use Rattle.tcp_rules.specs.Profile.{Profile}
use Rattle.server_trait.specs.Service.{Machine}
use Rattle.ft_model.specs.Connection.{ConnectionTurn}
use Rattle.ft_model.specs.Lawful.{Revives, all_restored, asked}
use Rattle.ft_model.specs.Log.{Log, Entry}
use Rattle.ft_model.specs.Masked.{is_restarting}
use Rattle.ft_model.specs.Network.{Packet, source_of}
use Rattle.ft_model.specs.Network.Packet.{To_server}
use Rattle.ft_model.specs.News.{News}
use Rattle.ft_model.specs.News.News.{Comes, Logged, Ticks, Begins}
use Rattle.ft_model.specs.Node.{Node, Place, Stage, Input, pending_count}
use Rattle.ft_model.specs.Node.Input.{Packet_comes, Message_comes, Noise_comes, Tick_comes}
use Rattle.ft_model.specs.Node.Place.{Opens, Lives, Ended}
use Rattle.ft_model.specs.Node.Stage.{Asking, Fetching, Serving, Fenced}
use Rattle.ft_model.specs.Offset.{ack_of}
use Rattle.ft_model.specs.Opening.{is_syn, numbers_for, point_opened, timestamping_for}
use Rattle.ft_model.specs.Point.{Point, is_over}
use Rattle.ft_model.specs.Refusal.{as_closed}
use Rattle.ft_model.specs.Restart.{Wanted, wanted, point_of}
use Rattle.ft_model.specs.Restart.Wanted.{An_entry, Its_bytes, Its_lengths}
use Rattle.ft_model.specs.ServingTurn.{newcomers, is_strange}
use Rattle.ft_model.specs.World.{World}
use Rattle.ft_model.proofs.Asked.{IsAsked, progress_agrees}
use Rattle.ft_model.proofs.Authored.{PlaceRuns}
use Rattle.ft_model.proofs.AuthorOver.{HasAuthor, EntryOf, StageRuns}
use Rattle.ft_model.proofs.BackedOver.{both_hold}
use Rattle.ft_model.proofs.Faithful.{IsKnown, PlaceFits, StageFits}
use Rattle.ft_model.proofs.FaithfulKept.{IsFaithful}
use Rattle.ft_model.proofs.FaithfulOver.{restored_all}
use Rattle.ft_model.proofs.Fenced.{held_so, refusals_so}
use Rattle.ft_model.proofs.Happened.{IsBrought, all_sent}
use Rattle.ft_model.proofs.Lists.{all_both, some_is}
use Rattle.ft_model.proofs.PlaceTurns.{PlaceWent, IsNews, all_proceed, serving_proceeds}
use Rattle.ft_model.proofs.PlaceTurns.PlaceWent.{stayed, went_on, began, dropped, ended, refused}
use Rattle.ft_model.proofs.Resumed.{nothing_missing}
use Rattle.ft_model.proofs.StageTurns.{StageWent}
use Rattle.ft_model.proofs.StageTurns.StageWent.{was_fenced, waited, held_off, asked_on, resumed, served}
use Rattle.long_laws.proofs.Over.{SegmentOver, PacketOver, EntryOver, PointOver, PlaceOver, StageOver, NewsOver, IsDownward, segments_over, connection_over}
use Rattle.long_laws.proofs.Sends.{CountsOwn, entry_sends, entry_counts, opened_sends, opened_counts}

-- what comes to a server is so
abbrev pub InputOver : (Key → ℕ → Type 0) → (Key → Type 0) → Log → Input → Type 0
InputOver B F log (Packet_comes segment) = SegmentOver B F log (source_of segment) segment
InputOver B F log _ = Unit {0}

input_over : (B : Key → ℕ → Type 0) (F : Key → Type 0) (w : World) (input : Input) → AllByRecursion (PacketOver B F w.log) w.packets → IsBrought w input → InputOver B F w.log input
input_over B F w (Packet_comes segment) a b = all_sent (PacketOver B F w.log) w (To_server segment) a b
input_over B F w (Message_comes message) a b = tt
input_over B F w Noise_comes a b = tt
input_over B F w Tick_comes a b = tt

news_over : (B : Key → ℕ → Type 0) (F : Key → Type 0) (log : Log) (node : Node) (input : Input) (news : News) (p : Point) → InputOver B F log input → IsNews node input news p → IsKnown log p
    → NewsOver B F p news
news_over B F log node input (Comes segment) p i w k =
    let came : SegmentOver B F log p.key segment = subst (λ y. SegmentOver B F log y segment) w.1 (subst (InputOver B F log) w.0 i) in (
      (λ has low. let x = came.0 has in
          let one : x.0 ≡ k.entry = some_is x.0 k.entry (sym x.1 ∙ k.found) in
          let same : x.0.sisn ≡ p.sisn = ap (λ e. e.sisn) one ∙ k.sisn in
          subst (λ m. B p.key (nat_abs (ack_of m segment))) same (x.2 (subst (λ m. int_le (pos 0) (ack_of m segment) ≡ true) (sym same) low))),
      came.1,
    )
news_over B F log node input (Logged kept) p i w k = tt
news_over B F log node input Ticks p i w k = tt
news_over B F log node input Begins p i w k = absurd w

module _ {State : Type 0} (service : Machine State) (B : Key → ℕ → Type 0) (F : Key → Type 0) (down : IsDownward B) (zero_is : (key : Key) → B key 0)
    (script : Key → List ℕ) (isn : Key → ℕ) (w : World) (a : HasAuthor service script w)
    (finish : (p : Point) → PlaceFits script isn w.log (Lives p) → PlaceRuns service a.author (Lives p) → PointOver service B F p → is_over service p ≡ true → F p.key) where
  abbrev P : Packet → Type 0
  P = PacketOver B F w.log

  abbrev Q : Place → Type 0
  Q = PlaceOver service B F

  -- what is known of a place before a turn
  abbrev Before : Place → Type 0
  Before place = PlaceFits script isn w.log place × (PlaceRuns service a.author place × Q place)

  -- .. and of one that a restart restores
  abbrev Restored : Place → Type 0
  Restored (Lives p) = CountsOwn p × (PointOver service B F p × (p.end_ticks ≡ 0))
  Restored _ = Unit {0}

  lives_over : (node : Node) (news : News) (p after : Point) (now : List Place) (sent : List Packet) → CountsOwn p → NewsOver B F p news → PointOver service B F p → (p.end_ticks ≡ 0) ⊎ F p.key
      → now ≡ Lives after ∷ [] → ConnectionTurn service node.server node.boot news p after sent → AllByRecursion Q now × AllByRecursion P sent
  lives_over node news p after now sent c n o ends is t =
      let x = connection_over service B F down node.server w.log node.boot news p after sent c n o ends t in
      (subst (AllByRecursion Q) (sym is) (x.0, tt), x.1)

  place_over : (node : Node) (input : Input) → InputOver B F w.log input → (place : Place) (now : List Place) (sent : List Packet) → Before place → PlaceWent service node input place now sent
      → AllByRecursion Q now × AllByRecursion P sent
  place_over node input i place now sent b (stayed n s) = (subst (AllByRecursion Q) (sym n) (b.1.1, tt), subst (AllByRecursion P) (sym s) tt)
  place_over node input i place now sent b (went_on news p after e come n t) =
      let x : Before (Lives p) = subst Before e b in
      let o : PointOver service B F p = x.1.1 in
      lives_over node news p after now sent (record { enough = x.1.0.1.enough; counts = x.1.0.1.counts }) (news_over B F w.log node input news p i come x.0.1) o
      (⊎_elim (λ z. inl z) (λ y. inr (⊎_elim (λ f. f) (finish p x.0 x.1.0 o) y)) o.ends) n t
  place_over node input i place now sent b (began asks kept timestamping after e h n t) =
      let none : PointOver service B F (point_opened node.profile timestamping kept) =
      record { sends = opened_sends service node.profile timestamping kept; una = zero_is kept.key; reset = λ r. absurd (true≢false (sym r)); ends = inl refl } in
      lives_over node Begins (point_opened node.profile timestamping kept) after now sent (opened_counts node.profile timestamping kept) tt none (inl refl) n t
  place_over node input i place now sent b (dropped asks timestamping e d n s) = (
    subst (AllByRecursion Q) (sym n) tt,
    ⊎_elim (λ x. subst (AllByRecursion P) (sym x) tt) (λ x. subst (AllByRecursion P) (sym x) (tt, tt)) s,
  )
  place_over node input i place now sent b (ended p e h n s) = (subst (AllByRecursion Q) (sym n) (tt, tt), subst (AllByRecursion P) (sym s) tt)
  place_over node input i place now sent b (refused key segment e c k n s) =
      (subst (AllByRecursion Q) (sym n) (tt, tt), subst (AllByRecursion P) (sym s) (segments_over service B F down w.log (as_closed node.server segment)))

  revive_over : (node : Node) (place : Place) (now : List Place) (sent : List Packet) → Restored place → Revives service node place now sent → AllByRecursion Q now × AllByRecursion P sent
  revive_over node (Lives p) now sent b t = lives_over node Begins p t.0 now sent b.0 tt b.1.0 (inl b.1.1) t.1 t.2
  revive_over node (Opens n timestamping) now sent b t = (subst (AllByRecursion Q) (sym t.0) (tt, tt), subst (AllByRecursion P) (sym t.1) tt)
  revive_over node (Ended k) now sent b t = (subst (AllByRecursion Q) (sym t.0) (tt, tt), subst (AllByRecursion P) (sym t.1) tt)

  new_over : (node : Node) (input : Input) (opened : ℕ) (places : List Place) → AllByRecursion Q (newcomers node input opened places)
  new_over node (Packet_comes segment) opened places =
      holds_if (AllByRecursion Q) (is_strange node segment places && is_syn segment && nat_lt (pending_count places) 64) (Opens (numbers_for node.profile node.isn opened segment) (timestamping_for node.profile segment) ∷ []) [] (λ t. (tt, tt)) (λ t. tt)
  new_over node (Message_comes message) opened places = tt
  new_over node Noise_comes opened places = tt
  new_over node Tick_comes opened places = tt

  asked_over : (node : Node) (x : Option Wanted) → AllByRecursion P (asked node x)
  asked_over node (Some (An_entry index)) = (tt, tt)
  asked_over node (Some (Its_bytes key offset)) = (tt, tt)
  asked_over node (Some (Its_lengths key first)) = (tt, tt)
  asked_over node None = tt

  no_places : (stage : Stage) → is_restarting stage ≡ true → StageOver service B F stage
  no_places Asking r = tt
  no_places (Fetching count fetched) r = tt
  no_places (Serving opened places) r = absurd (true≢false (sym r))
  no_places (Fenced newer) r = tt

  point_over : (profile : Profile) (e : Entry) → EntryOver B F e → EntryOf a.author e → Restored (Lives (point_of service profile e))
  point_over profile e o x = (
    entry_counts service profile e x.1,
    (record { sends = entry_sends service profile e; una = down e.key (point_of service profile e).una e.acknowledged (omega arith) o.acknowledged; reset = λ r. absurd (true≢false (sym r)); ends = inl refl }, refl),
  )

  -- one turn of the server
  pub turn_over : (node : Node) (input : Input) (sent : List Packet) (after : Stage) → IsAsked w → IsFaithful script isn w → AllByRecursion (PacketOver B F w.log) w.packets
      → AllByRecursion (EntryOver B F) w.log.entries → StageOver service B F node.stage → w.node ≡ Some node → IsBrought w input → StageWent service node input sent after
      → StageOver service B F after × AllByRecursion (PacketOver B F w.log) sent
  turn_over node input sent after k f packets entries stage e brought (was_fenced newer g s) = (subst (StageOver service B F) (sym g) tt, subst (AllByRecursion P) (sym s) tt)
  turn_over node input sent after k f packets entries stage e brought (waited r g s) = (
    no_places after (ap is_restarting g ∙ r),
    ⊎_elim (λ x. subst (AllByRecursion P) (sym x) (tt, tt)) (λ x. subst (AllByRecursion P) (sym x.1) (asked_over node x.0)) s,
  )
  turn_over node input sent after k f packets entries stage e brought (held_off count fetched segment was g s) =
      (subst (StageOver service B F) (sym g) tt, subst (AllByRecursion P) (sym s) (held_so P node fetched segment (λ x. tt)))
  turn_over node input sent after k f packets entries stage e brought (asked_on count fetched p g s) =
      (subst (StageOver service B F) (sym g) tt, subst (AllByRecursion P) (sym s) (asked_over node (wanted count fetched)))
  turn_over node input sent after k f packets entries stage e brought (resumed count fetched places p none g t) =
      let agrees = progress_agrees w node input count fetched k e brought p in
      let whole = nothing_missing w.log.entries count fetched agrees.1 none in
      let points : AllByRecursion (λ x. Restored (Lives (point_of service node.profile x))) w.log.entries =
      all_both (EntryOver B F) (EntryOf a.author) (λ x. Restored (Lives (point_of service node.profile x))) w.log.entries (point_over node.profile) entries a.entries in
      let went = all_proceed (Revives service node) Restored Q P (revive_over node) (all_restored service node.profile fetched) places sent
      (restored_all Restored service node.profile w.log.entries fetched points (λ y. tt) agrees.1 whole.0) t in
      (subst (StageOver service B F) (sym g) went.0, went.1)
  turn_over node input sent after k f packets entries stage e brought (served opened places later was g t) =
      let fits : AllByRecursion (PlaceFits script isn w.log) places = subst (StageFits script isn w.log) was (f.stage node e) in
      let runs : StageRuns service a.author (Serving opened places) = subst (StageRuns service a.author) was (a.stage node e) in
      let over : AllByRecursion Q places = subst (StageOver service B F) was stage in
      let before : AllByRecursion Before places =
      both_hold (PlaceFits script isn w.log) (λ place. PlaceRuns service a.author place × Q place) places fits (both_hold (PlaceRuns service a.author) Q places runs.0 over) in
      let went = serving_proceeds service node input opened Before Q P places later sent (place_over node input (input_over B F w input packets brought)) (new_over node input opened places)
      (refusals_so P node input places (λ x. tt)) (λ n s c. tt) before t in
      (subst (StageOver service B F) (sym g) went.0, went.1)
