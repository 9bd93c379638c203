-- Every entry of the log is sound, and so is what a server that fetches has whole.
use Rattle.std.proofs.Common.{sum, ◌≡◌, ℕ, ◌<◌, ◌≤◌, ◌^◌, ◌==◌, ◌&&◌, not, Bool, true, false, true≢false, le_trans, refl, sym, ap, ◌∙◌, subst, eqb-true, inr, Some, List, [], ◌∷◌, length, arith}
use Rattle.std.specs.List.{AllByRecursion}
use Rattle.ft_io.specs.declared.Key.{Key}
use Rattle.seq_arith.specs.Message.{Message}
use Rattle.server_trait.specs.Service.{Machine, reference}
use Rattle.ft_model.specs.Growth.{IsPrefix}
use Rattle.ft_model.specs.Log.{Entry}
use Rattle.ft_model.specs.Restart.{Fetched, lacks_bytes, lacks_lengths, wanted, fetched_after, IsSoundEntry}
use Rattle.ft_model.specs.Node.{Node, Stage, Input}
use Rattle.ft_model.specs.Node.Stage.{Fetching}
use Rattle.ft_model.specs.Node.Input.{Message_comes}
use Rattle.ft_model.specs.Lawful.{fetched_then, AreSound, IsSoundInput}
use Rattle.ft_model.specs.World.{World, Moment, MayCome, Joint, IsStart, world_after}
use Rattle.ft_model.proofs.Lists.{prefix_trans, all_slice_get}
use Rattle.ft_model.proofs.Keys.{all_from_get}
use Rattle.ft_model.proofs.Happened.{holds_after}
use Rattle.ft_model.proofs.StageTurns.{Progress}
use Rattle.ft_model.specs.FetchedFronts.{IsFront, AreFetched}
use Rattle.ft_model.proofs.Fetching.{whole_is}
use Rattle.ft_model.proofs.Asked.{progress_agrees}
use Rattle.ft_model.proofs.Scripts.{EntryFits}
use Rattle.ft_model.proofs.Services.{reads_proceed, more_bytes, prefix_length}
use Rattle.ft_model.proofs.Running.{HasSmallOutputs}
use Rattle.ft_model.proofs.AuthorOver.{EntryOf}
use Rattle.ft_model.proofs.FaithfulOver.{script_of, isn_of}
use Rattle.ft_model.proofs.Acknowledged.{start_is, short_scripts}
use Rattle.ft_model.proofs.JointMasked as masked
use Rattle.trace_laws.specs.Premises.{IsSoundFront, HasSoundFronts}
use Rattle.trace_laws.proofs.FinsBelow.{EntryBelow, FinsBelow, start_below, below_proceeds}
use Rattle.ft_io.proofs.Choices.{some_if}
use Rattle.ft_model.proofs.Unfenced.{if_some}

-- all that is kept true, and where FINs stand
abbrev pub Kept : {State : Type 0} → Machine State → World → World → Type 0
Kept service start w = masked.JointInvariant service start w × FinsBelow (script_of start) w

pub kept_after : {State : Type 0} (service : Machine State) → HasSmallOutputs service → (start : World) (trace : List Moment) → Joint service start trace → Kept service start (world_after start trace)
kept_after service small start trace j =
    let s : IsStart start = start_is service start trace j in
    holds_after service (Kept service start) start (λ x. (masked.start_sound service small start x, start_below (script_of start) start x))
    (λ before sent after o h. (
      masked.sound_proceeds service small start before sent after s o.0 h,
      below_proceeds service (script_of start) (isn_of start) before sent after (short_scripts start s) o.0.asked o.0.faithful o.1 h,
    )) trace j

-- an entry of one author, whose whole run is short
entry_sound : {State : Type 0} (service : Machine State) (script author : Key → List ℕ) (isn : ℕ) (e : Entry) → ((key : Key) → length (reference service (script key) (author key)).output ≤ 2 ^ 24)
    → EntryFits (script e.key) isn e → EntryOf author e → EntryBelow script e → IsSoundEntry service e
entry_sound service script author isn e short f g b = record {
  output = subst (λ r. length r.output ≤ 2 ^ 24) (more_bytes service e.bytes (script e.key) e.lengths f.front g.1)
      (le_trans (prefix_length _ _ (reads_proceed service (script e.key) e.lengths (author e.key) g.0).output) (short e.key));
  fin = λ k. let low : length (script e.key) < 2 ^ 24 = b k in let all : length e.bytes ≡ length (script e.key) = f.fin k in omega (arith, low, all);
}

pub entries_sound : {State : Type 0} (service : Machine State) (start w : World) → Kept service start w → AllByRecursion (IsSoundEntry service) w.log.entries
entries_sound service start w k =
    all_from_get (IsSoundEntry service) w.log.entries
    (λ i e at. entry_sound service (script_of start) k.0.author.author (isn_of start e.key) e k.0.author.short
    (all_slice_get (λ x. EntryFits (script_of start x.key) (isn_of start x.key) x) w.log.entries i e k.0.faithful.entries at)
    (all_slice_get (EntryOf k.0.author.author) w.log.entries i e k.0.author.entries at)
    (all_slice_get (EntryBelow (script_of start)) w.log.entries i e k.1.entries at))

pub logged_sound : {State : Type 0} (service : Machine State) → HasSmallOutputs service → (start : World) (trace : List Moment) → Joint service start trace
    → AllByRecursion (IsSoundEntry service) (world_after start trace).log.entries
logged_sound service small start trace j = entries_sound service start (world_after start trace) (kept_after service small start trace j)

-- what is fetched of a log whose entries are sound
pub fronts_sound : {State : Type 0} (service : Machine State) (entries : List Entry) (fetched : List Fetched) → AllByRecursion (IsSoundEntry service) entries → AreFetched entries fetched
    → AllByRecursion (IsSoundFront service) fetched
fronts_sound service entries [] s a = tt
fronts_sound service entries (f ∷ earlier) s a = (
  record { entry = a.0; head = a.2.head; bytes = a.2.bytes; lengths = a.2.lengths; sound = all_slice_get (IsSoundEntry service) entries (length earlier) a.0 s a.1 },
  fronts_sound service entries earlier s a.4,
)

not_either : (a b : Bool) → not a && not b ≡ true → (b ≡ false) × (a ≡ false)
not_either false false w = (refl, refl)
not_either false true w = absurd (true≢false (sym w))
not_either true b w = absurd (true≢false (sym w))

pub wholes_sound : {State : Type 0} (service : Machine State) (entries : List Entry) (fetched : List Fetched) → AllByRecursion (IsSoundEntry service) entries → AreFetched entries fetched
    → AreSound service fetched
wholes_sound service entries [] s a = tt
wholes_sound service entries (f ∷ earlier) s a =
    let e : Entry = a.0 in
    let front : IsFront f e = a.2 in
    let sound : IsSoundEntry service e = all_slice_get (IsSoundEntry service) entries (length earlier) e s a.1 in (
      λ live whole. subst (IsSoundEntry service) (sym (whole_is f e front (sym (ap (λ h. h.done) front.head) ∙ live) (not_either (lacks_lengths f) (lacks_bytes f) whole))) sound,
      wholes_sound service entries earlier s a.4,
    )

-- what a server has after an answer that may come is fetched of the log
pub answer_agrees : {State : Type 0} (service : Machine State) (start w : World) (node : Node) (message : Message) (count : ℕ) (fetched more : List Fetched) → Kept service start w → w.node ≡ Some node
    → node.stage ≡ Fetching count fetched → MayCome w (Message_comes message) → fetched_then node message count fetched ≡ Some more → AreFetched w.log.entries more
answer_agrees service start w node message count fetched more k up is sent got =
    let parts = some_if (message.boot == node.boot) (fetched_after (wanted count fetched) message.body fetched) more got in
    let p : Progress node (Message_comes message) count more =
    record { message = message; comes = refl; boot = eqb-true _ _ parts.0; how = inr (fetched, is, parts.1) } in
    (progress_agrees w node (Message_comes message) count more k.0.asked up sent p).1

answer_sound : {State : Type 0} (service : Machine State) (start w : World) (node : Node) (input : Input) (stage : Stage) → Kept service start w → w.node ≡ Some node → node.stage ≡ stage
    → MayCome w input → IsSoundInput service node input stage × HasSoundFronts service node input stage
answer_sound service start w node (Message_comes message) (Fetching count fetched) k up is sent = (
  if_some (AreSound service) (fetched_then node message count fetched)
      (λ more got. wholes_sound service w.log.entries more (entries_sound service start w k) (answer_agrees service start w node message count fetched more k up is sent got)),
  if_some (AllByRecursion (IsSoundFront service)) (fetched_then node message count fetched)
      (λ more got. fronts_sound service w.log.entries more (entries_sound service start w k) (answer_agrees service start w node message count fetched more k up is sent got)),
)
answer_sound service start w node input stage k up is sent = (tt, tt)

pub inputs_sound : {State : Type 0} (service : Machine State) → HasSmallOutputs service → (start : World) (trace : List Moment) (node : Node) (input : Input)
    → Joint service start trace → (world_after start trace).node ≡ Some node → MayCome (world_after start trace) input
    → IsSoundInput service node input node.stage × HasSoundFronts service node input node.stage
inputs_sound service small start trace node input j up sent =
    answer_sound service start (world_after start trace) node input node.stage (kept_after service small start trace j) up refl sent

-- a run over a part of a sound entry
pub front_short : {State : Type 0} (service : Machine State) (f : Fetched) (lengths : List ℕ) → IsSoundFront service f → IsPrefix lengths f.lengths → sum lengths ≤ length f.bytes
    → length (reference service f.bytes lengths).output ≤ 2 ^ 24
front_short service f lengths s p enough =
    let e : Entry = s.entry in
    let goes = reads_proceed service e.bytes lengths e.lengths (prefix_trans lengths f.lengths e.lengths p s.lengths) in
    subst (λ r. length r.output ≤ 2 ^ 24) (more_bytes service f.bytes e.bytes lengths s.bytes enough) (le_trans (prefix_length _ _ goes.output) s.sound.output)
