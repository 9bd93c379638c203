-- What is noise to the server changes neither its node nor, while the quarantine is in order, its quarantine. A changed bit makes bytes noise to whoever reads
-- them.
use Rattle.std.proofs.Common.{◌≡◌, ℕ, ◌+◌, ◌*◌, ◌<◌, arith, true, false, true≢false, refl, sym, ap₂, ◌∙◌, append-nil, flat_map, length, List, [], ◌∷◌, ◌++◌}
use Rattle.std.specs.Prelude.{Result, Ok, Err, IsErr}
use Rattle.server_trait.specs.Service.{Machine}
use Rattle.seq_arith.specs.Checksum.{checksum}
use Rattle.seq_arith.specs.Damage.{flipped}
use Rattle.seq_arith.specs.Message.{Message}
use Rattle.seq_arith.specs.MessageGrammar as messages
use Rattle.seq_arith.specs.declared.kinds.BadMsg.{BadMsg}
use Rattle.seq_arith.specs.declared.kinds.Grammar.{Grammar}
use Rattle.seq_arith.proofs.Damaged.{flip_is_seen}
use Rattle.seq_arith.proofs.MessageSpelling.{message_is_read}
use Rattle.seq_arith.proofs.Refused.{refused, accepted, whole_message}
use Rattle.ft_model.specs.Lawful.{LawfulTurn, StageTurn}
use Rattle.ft_model.specs.Network.{Packet}
use Rattle.ft_model.specs.Node.{Node, Place, Stage}
use Rattle.ft_model.specs.Node.Input.{Noise_comes}
use Rattle.ft_model.specs.Node.Place.{Opens, Lives, Ended}
use Rattle.ft_model.specs.Node.Stage.{Asking, Fetching, Serving, Fenced}
use Rattle.ft_model.specs.ServingTurn.{PlaceTurn, AllGo, opens_at}
use Rattle.ft_model.specs.Wire.{CanBeWrittenBy}
use Rattle.long_laws.specs.Forgetting.{ForgetMessage}
use Rattle.long_laws.specs.ForgetGrammar as forgets
use Rattle.long_laws.proofs.ForgetNoise.{sum_of}
use Rattle.long_laws.proofs.ForgetRead.{forget_is_read}
use Rattle.lasting_laws.specs.LastingWorld.{either_said, said_by}
use Rattle.lasting_laws.specs.LastingWorld.Said.{Says_nothing}

module _ {State : Type 0} (service : Machine State) (node : Node) where
  all_stay : (places after : List Place) (sent : List Packet) → AllGo (PlaceTurn service node Noise_comes) places after sent → (after ≡ places) × (sent ≡ [])
  all_stay [] after sent g = g
  all_stay (place ∷ places) after sent (now, later, first, others, is, all, goes, rest) =
      let more : (later ≡ places) × (others ≡ []) = all_stay places later others rest in
      (is ∙ ap₂ (λ a b. a ++ b) goes.0 more.0, all ∙ ap₂ (λ a b. a ++ b) goes.1 more.1)

  none_asked : (places : List Place) → flat_map (opens_at node Noise_comes) places ≡ []
  none_asked [] = refl
  none_asked (Opens numbers timestamping ∷ places) = none_asked places
  none_asked (Lives p ∷ places) = none_asked places
  none_asked (Ended key ∷ places) = none_asked places

  stage_stays : (stage after : Stage) (sent : List Packet) → StageTurn service node stage Noise_comes after sent → (after ≡ stage) × (sent ≡ [])
  stage_stays Asking after sent t = t
  stage_stays (Fetching count fetched) after sent t = t
  stage_stays (Serving opened places) after sent (later, is, t) =
      let went : (t.went ≡ places) × (t.by_places ≡ []) = all_stay places t.went t.by_places t.all_go in
      let now : later ≡ places = t.places ∙ (append-nil t.went ∙ went.0) in
      let count : opened + 0 ≡ opened = omega arith in
      (is ∙ ap₂ (λ a b. Serving a b) count now, t.packets ∙ ap₂ (λ a b. a ++ b) went.1 (none_asked later))
  stage_stays (Fenced newer) after sent t = absurd t

  pub node_stays : (later : Node) (sent : List Packet) → LawfulTurn service node Noise_comes sent later → (later ≡ node) × (sent ≡ [])
  node_stays later sent t =
      let s : (later.stage ≡ node.stage) × (sent ≡ []) = stage_stays node.stage later.stage sent t.stage in
      ((λ i. record { server = t.server i; profile = t.profile i; boot = t.boot i; isn = t.isn i; stage = s.0 i }), s.1)

-- Bytes that hold their checksum say nothing once a bit is changed, in either grammar
none_said : (r : Result Message BadMsg) (s : Result ForgetMessage BadMsg) → IsErr r → IsErr s → either_said r s ≡ Says_nothing
none_said (Err why) (Err other) h k = refl
none_said (Ok message) s h k = absurd (true≢false (sym h))
none_said (Err why) (Ok message) h k = absurd (true≢false (sym k))

summed_noise : (grammar : Grammar) (bit : ℕ) (bytes : List ℕ) → checksum bytes ≡ 0 → bit < 8 * length bytes → said_by grammar (flipped bit bytes) ≡ Says_nothing
summed_noise grammar bit bytes sum within =
    none_said (messages.reading_by grammar (flipped bit bytes)) (forgets.reading (flipped bit bytes))
    (refused (messages.reading_by grammar (flipped bit bytes)) (λ ok. flip_is_seen bit bytes within sum (whole_message grammar (flipped bit bytes) ok).sum))
    (refused (forgets.reading (flipped bit bytes)) (λ ok. flip_is_seen bit bytes within sum (sum_of (flipped bit bytes) ok)))

pub message_noise : (grammar : Grammar) (bit : ℕ) (message : Message) → CanBeWrittenBy grammar message → bit < 8 * length (messages.spelling_by grammar message)
    → said_by grammar (flipped bit (messages.spelling_by grammar message)) ≡ Says_nothing
message_noise grammar bit message w within =
    summed_noise grammar bit (messages.spelling_by grammar message) (whole_message grammar (messages.spelling_by grammar message) (accepted (message_is_read message w.0))).sum within

pub forget_noise : (grammar : Grammar) (bit : ℕ) (message : ForgetMessage) → forgets.IsSpellable message → bit < 8 * length (forgets.spelling message)
    → said_by grammar (flipped bit (forgets.spelling message)) ≡ Says_nothing
forget_noise grammar bit message s within =
    summed_noise grammar bit (forgets.spelling message) (sum_of (forgets.spelling message) (accepted (forget_is_read message s))) within
