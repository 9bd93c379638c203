-- The stage of a restart after its turn, by the law.
use Rattle.std.proofs.Common.{◌≡◌, ◌∙◌, ℕ, Bool, true, false, true≢false, refl, sym, ap, subst, List, [], ◌++◌, map, append-nil, Option, Some, None, is_some, unwrap_or, IfSome, MatchOption, eq-eqb, if◌then◌else◌}
use Rattle.server_trait.specs.Service.{Machine}
use Rattle.seq_arith.specs.Message.{Message}
use Rattle.seq_arith.specs.Packet.{Segment}
use Rattle.ft_model.specs.Restart.{Fetched, Wanted, wanted}
use Rattle.ft_model.specs.Node as law
use Rattle.ft_model.specs.Node.Stage.{Asking, Fetching, Serving as Serves}
use Rattle.ft_model.specs.Node.Input.{Packet_comes, Message_comes, Tick_comes}
use Rattle.ft_model.specs.Lawful.{Rests, Continues, Fetches, StageTurn, NodeTurn, AreSound, IsSoundInput, asked, held, fence, is_fenced, summary_count, fetched_then, restored_count}
use Rattle.ft_model.specs.Wire.{Wire}
use Rattle.reincarnate.specs.Questions.{FetchingState}
use Rattle.reincarnate.specs.Refinement.{AnswerLeads}
use Rattle.reincarnate.specs.Refinement as restart
use Rattle.node_serving.specs.declared.identity.Identity.{Identity}
use Rattle.node_serving.specs.declared.serving.Serving.{Serving}
use Rattle.server_node.specs.declared.stage.Stage.{Stage}
use Rattle.server_node.specs.declared.stage.Stage.TheVariants as stage
use Rattle.node_serving.specs.Identity.{node_of, grammar_in}
use Rattle.server_node.specs.RestartNumbers.{fetched_by}
use Rattle.node_serving.specs.Openings.{ArePut}
use Rattle.server_node.specs.FetchStage.{AreDistinct, FetchingStands, IsOwn}
use Rattle.server_node.specs.Restarts.{RestoredAlone, StillAsks, RestartGoes, AnswerGoes}
use Rattle.server_node.specs.RestartEnd.{AreRestored, StageGoes}
use Rattle.server_node.specs.Stages.{StageStands, NodeGoes}
use Rattle.server_node.proofs.FetchAnswer.{IsSame, then_distinct}
use Rattle.server_node.proofs.Staged.{stand_again, fetches_on}

module _ {S : Type 0} (service : Machine S) (who : Identity) where
  asks_on : (node : law.Node) (count : ℕ) (fetched : List Fetched) (o : Option Wanted) → is_some o ≡ true → Continues service node count fetched o (Fetching count fetched) (asked node o)
  asks_on node count fetched (Some w) e = (refl, refl)
  asks_on node count fetched None e = absurd (true≢false (sym e))

  -- something is missing: it is asked for
  pub waits_on : (standing : law.Stage) (count : ℕ) (fetched : List Fetched) (f : FetchingState S) (old new : List Wire) → FetchingStands service count fetched f
      → is_some (wanted count fetched) ≡ true → ArePut (grammar_in who) (asked (node_of who standing) (wanted count fetched)) old new
      → StageGoes service who fetched (Fetches service (node_of who standing) count fetched) (stage.Fetching f) old new
  waits_on standing count fetched f old new st more put = record {
    after = Fetching count fetched;
    packets = asked (node_of who standing) (wanted count fetched);
    stands = (count, fetched, refl, st);
    goes = asks_on (node_of who standing) count fetched (wanted count fetched) more;
    numbers = tt;
    wires = put.wires;
    spelled = put.spelled;
  }

  -- nothing is: all is restored
  pub serves_on : (standing : law.Stage) (count : ℕ) (fetched : List Fetched) (now : Serving S) (old mid new : List Wire) → is_some (wanted count fetched) ≡ false
      → ArePut (grammar_in who) (asked (node_of who standing) (wanted count fetched)) old mid → AreRestored service (node_of who standing) fetched now mid new
      → StageGoes service who fetched (Fetches service (node_of who standing) count fetched) (stage.Serving now) old new
  serves_on standing count fetched now old mid new nothing put r = go (wanted count fetched) nothing put
    where
      go : (o : Option Wanted) → is_some o ≡ false → ArePut (grammar_in who) (asked (node_of who standing) o) old mid
          → StageGoes service who fetched (Continues service (node_of who standing) count fetched o) (stage.Serving now) old new
      go (Some w) e p = absurd (true≢false e)
      go None e p = record {
        after = Serves (restored_count fetched) r.places;
        packets = r.packets;
        stands = (
          restored_count fetched,
          r.places,
          refl,
          record { number = r.stands.number; slots = stand_again service who standing (Serves (restored_count fetched) r.places) now.slots.entries r.places r.stands.slots },
        );
        goes = (r.places, refl, r.go);
        numbers = r.numbers;
        wires = r.wires ∙ ap (λ ws. ws ++ map (Rattle.ft_model.specs.Wire.wire_by (grammar_in who)) r.packets) (p.wires ∙ append-nil old);
        spelled = r.spelled;
      }

  -- the law's answer is the restart's
  fetched_same : (standing : law.Stage) (message : Message) (count : ℕ) (fetched : List Fetched) (f : FetchingState S) → IsOwn who f → FetchingStands service count fetched f
      → restart.fetched_then f.boot f.count message fetched ≡ fetched_then (node_of who standing) message count fetched
  fetched_same standing message count fetched f own st = λ j. restart.fetched_then (own.boot j) (st.so_many j) message fetched

  -- a message that answers nothing changes nothing
  pub answers_nothing : (standing : law.Stage) (message : Message) (count : ℕ) (fetched : List Fetched) (before after : FetchingState S) (fits : Bool) (reported : List Wire) → fits ≡ false
      → IsOwn who before → FetchingStands service count fetched before → AnswerLeads service (restart.fetched_then before.boot before.count message fetched) fits before after
      → StageGoes service who (fetched_by (node_of who standing) (Fetching count fetched) (Message_comes message)) (StageTurn service (node_of who standing) (Fetching count fetched) (Message_comes message)) (stage.Fetching after) reported reported
  answers_nothing standing message count fetched before after fits reported unfit own st leads =
      go (fetched_then (node_of who standing) message count fetched) (subst (λ o. AnswerLeads service o fits before after) (fetched_same standing message count fetched before own st) leads)
    where
      go : (o : Option (List Fetched)) → AnswerLeads service o fits before after
          → StageGoes service who (unwrap_or o []) (λ next sent. MatchOption o (Rests (Fetching count fetched) next sent) (λ more. Fetches service (node_of who standing) count more next sent)) (stage.Fetching after) reported reported
      go (Some more) (fit, stands) = absurd (true≢false (sym fit ∙ unfit))
      go None (none, is) = record {
        after = Fetching count fetched;
        packets = [];
        stands = (count, fetched, refl, subst (FetchingStands service count fetched) (sym is) st);
        goes = (refl, refl);
        numbers = tt;
        wires = sym (append-nil reported);
        spelled = tt;
      }

  -- an answer leads on
  pub answers_on : (standing : law.Stage) (message : Message) (count : ℕ) (fetched : List Fetched) (before after : FetchingState S) (fits : Bool)
      (now : Rattle.server_node.specs.declared.stage.Stage.Stage S) (old new : List Wire) → fits ≡ true → IsSame before after → IsOwn who before → FetchingStands service count fetched before
      → IfSome (fetched_then (node_of who standing) message count fetched) (AreSound service)
      → AnswerLeads service (restart.fetched_then before.boot before.count message fetched) fits before after
      → ((more : List Fetched) → FetchingStands service count more after → AreSound service more → StageGoes service who more (Fetches service (node_of who standing) count more) now old new)
      → StageGoes service who (fetched_by (node_of who standing) (Fetching count fetched) (Message_comes message)) (StageTurn service (node_of who standing) (Fetching count fetched) (Message_comes message)) now old new
  answers_on standing message count fetched before after fits now old new fit same own st sound leads goes =
      go (fetched_then (node_of who standing) message count fetched) (then_distinct (node_of who standing) message count fetched st.distinct) sound
      (subst (λ o. AnswerLeads service o fits before after) (fetched_same standing message count fetched before own st) leads)
    where
      go : (o : Option (List Fetched)) → IfSome o AreDistinct → IfSome o (AreSound service) → AnswerLeads service o fits before after
          → StageGoes service who (unwrap_or o []) (λ next sent. MatchOption o (Rests (Fetching count fetched) next sent) (λ more. Fetches service (node_of who standing) count more next sent)) now old new
      go None distinct sounds (unfit, is) = absurd (true≢false (sym fit ∙ unfit))
      go (Some more) distinct sounds (taken, stands) =
          let g = goes more (record { so_many = same.so_many ∙ st.so_many; distinct = distinct; entries = stands }) sounds in
          record { after = g.after; packets = g.packets; stands = g.stands; goes = g.goes; numbers = g.numbers; wires = g.wires; spelled = g.spelled }

  -- something is missing: it is asked for, whatever the entries are
  pub still_asks : (standing : law.Stage) (count : ℕ) (fetched : List Fetched) (f : FetchingState S) (old new : List Wire) → is_some (wanted count fetched) ≡ true
      → FetchingStands service count fetched f → ArePut (grammar_in who) (asked (node_of who standing) (wanted count fetched)) old new
      → StillAsks service (node_of who standing) count fetched f old new
  still_asks standing count fetched f old new some st put = go (wanted count fetched) refl some put
    where
      go : (o : Option Wanted) → wanted count fetched ≡ o → is_some o ≡ true → ArePut (grammar_in who) (asked (node_of who standing) o) old new
          → StillAsks service (node_of who standing) count fetched f old new
      go None is e p = absurd (true≢false (sym e))
      go (Some w) is e p = record { next = w; missing = is; stands = st; asks = p }

  -- nothing is missing: each entry has its turn by itself
  pub serves_alone : (standing : law.Stage) (count : ℕ) (fetched : List Fetched) (now : Serving S) (old mid new : List Wire) → is_some (wanted count fetched) ≡ false
      → ArePut (grammar_in who) (asked (node_of who standing) (wanted count fetched)) old mid → RestoredAlone service (node_of who standing) fetched now mid new
      → RestartGoes service (node_of who standing) count fetched (stage.Serving now) old new
  serves_alone standing count fetched now old mid new nothing put r = go (wanted count fetched) refl nothing put
    where
      go : (o : Option Wanted) → wanted count fetched ≡ o → is_some o ≡ false → ArePut (grammar_in who) (asked (node_of who standing) o) old mid
          → RestartGoes service (node_of who standing) count fetched (stage.Serving now) old new
      go (Some w) is e p = absurd (true≢false e)
      go None is e p = (
        is,
        record { reported = r.reported; put = r.put ∙ ap (λ ws. ws ++ r.reported) (p.wires ∙ append-nil old); each = r.each; others = r.others; whose = r.whose; known = r.known },
      )

  -- a message that answers nothing changes nothing, and an answer leads on, whatever the entries are
  pub answers_alone : (standing : law.Stage) (message : Message) (count : ℕ) (fetched : List Fetched) (before after : FetchingState S) (fits : Bool) (now : Stage S) (old new : List Wire)
      → IsSame before after → IsOwn who before → FetchingStands service count fetched before
      → AnswerLeads service (restart.fetched_then before.boot before.count message fetched) fits before after
      → (fits ≡ false → (now ≡ stage.Fetching after) × (new ≡ old))
      → (fits ≡ true → (more : List Fetched) → FetchingStands service count more after → RestartGoes service (node_of who standing) count more now old new)
      → AnswerGoes service (node_of who standing) message count fetched before now old new
  answers_alone standing message count fetched before after fits now old new same own st leads unfit goes =
      go (fetched_then (node_of who standing) message count fetched) (then_distinct (node_of who standing) message count fetched st.distinct)
      (subst (λ o. AnswerLeads service o fits before after) (fetched_same standing message count fetched before own st) leads)
    where
      go : (o : Option (List Fetched)) → IfSome o AreDistinct → AnswerLeads service o fits before after
          → MatchOption o ((now ≡ stage.Fetching before) × (new ≡ old)) (λ more. RestartGoes service (node_of who standing) count more now old new)
      go None distinct (e, is) = ((unfit e).0 ∙ ap stage.Fetching is, (unfit e).1)
      go (Some more) distinct (e, stands) = goes e more (record { so_many = same.so_many ∙ st.so_many; distinct = distinct; entries = stands })

  -- a stage's turn by the law is the node's
  stage_goes : (standing : law.Stage) (input : law.Input) (now : Stage S) (reported : List Wire) → is_fenced standing ≡ false → fence (node_of who standing) input ≡ None
      → StageGoes service who (fetched_by (node_of who standing) standing input) (StageTurn service (node_of who standing) standing input) now [] reported → NodeGoes service (node_of who standing) input who now reported
  stage_goes standing input now reported live unfenced g = record {
    after = g.after;
    packets = g.packets;
    stands = g.stands;
    turn = record {
      server = refl;
      profile = refl;
      boot = refl;
      isn = refl;
      live = live;
      stage = subst (λ o. NodeTurn service (node_of who standing) input o g.after g.packets) (sym unfenced) g.goes;
    };
    numbers = g.numbers;
    wires = g.wires;
    spelled = g.spelled;
  }

  -- a Summary begins the restart
  pub begins_on : (standing : law.Stage) (message : Message) (count : ℕ) (now : Stage S) (reported : List Wire) → message.boot ≡ who.boot → summary_count message.body ≡ Some count
      → standing ≡ Asking → fence (node_of who standing) (Message_comes message) ≡ None → StageGoes service who [] (Fetches service (node_of who standing) count []) now [] reported
      → NodeGoes service (node_of who standing) (Message_comes message) who now reported
  begins_on standing message count now reported boot counts is unfenced g =
      stage_goes standing (Message_comes message) now reported (ap is_fenced is) unfenced
      (subst (λ s. StageGoes service who (fetched_by (node_of who standing) s (Message_comes message)) (StageTurn service (node_of who standing) s (Message_comes message)) now [] reported) (sym is)
      (subst (λ o. StageGoes service who [] (λ after sent. MatchOption o (Rests Asking after sent) (λ n. Fetches service (node_of who standing) n [] after sent)) now [] reported)
      (sym (ap (λ b. if b then summary_count message.body else None) (eq-eqb message.boot who.boot boot) ∙ counts))
      (record { after = g.after; packets = g.packets; stands = g.stands; goes = g.goes; numbers = g.numbers; wires = g.wires; spelled = g.spelled })))

  -- an answer leads it on
  pub answered_on : (standing : law.Stage) (message : Message) (f : FetchingState S) (now : Stage S) (reported : List Wire) → fence (node_of who standing) (Message_comes message) ≡ None
      → StageStands service (node_of who standing) (stage.Fetching f) → IsSoundInput service (node_of who standing) (Message_comes message) standing
      → ((count : ℕ) (fetched : List Fetched) → FetchingStands service count fetched f → IfSome (fetched_then (node_of who standing) message count fetched) (AreSound service)
      → StageGoes service who (fetched_by (node_of who standing) (Fetching count fetched) (Message_comes message)) (StageTurn service (node_of who standing) (Fetching count fetched) (Message_comes message)) now [] reported)
      → NodeGoes service (node_of who standing) (Message_comes message) who now reported
  answered_on standing message f now reported unfenced (count, fetched, is, st) sound goes =
      stage_goes standing (Message_comes message) now reported (ap is_fenced is) unfenced
      (subst (λ s. StageGoes service who (fetched_by (node_of who standing) s (Message_comes message)) (StageTurn service (node_of who standing) s (Message_comes message)) now [] reported) (sym is)
      (goes count fetched st (subst (IsSoundInput service (node_of who standing) (Message_comes message)) is sound)))

  -- a tick asks again
  pub ticks_on : (standing : law.Stage) (f : FetchingState S) (reported : List Wire) → StageStands service (node_of who standing) (stage.Fetching f)
      → ((count : ℕ) (fetched : List Fetched) → FetchingStands service count fetched f → ArePut (grammar_in who) (asked (node_of who standing) (wanted count fetched)) [] reported)
      → NodeGoes service (node_of who standing) Tick_comes who (stage.Fetching f) reported
  ticks_on standing f reported (count, fetched, is, st) put =
      fetches_on service who standing Tick_comes count fetched f (asked (node_of who standing) (wanted count fetched)) reported is refl st (refl, refl) (put count fetched st)

  -- a packet is held
  pub holds_on : (standing : law.Stage) (segment : Segment) (f : FetchingState S) (reported : List Wire) → StageStands service (node_of who standing) (stage.Fetching f)
      → ((count : ℕ) (fetched : List Fetched) → FetchingStands service count fetched f → ArePut (grammar_in who) (held (node_of who standing) fetched segment) [] reported)
      → NodeGoes service (node_of who standing) (Packet_comes segment) who (stage.Fetching f) reported
  holds_on standing segment f reported (count, fetched, is, st) put =
      fetches_on service who standing (Packet_comes segment) count fetched f (held (node_of who standing) fetched segment) reported is refl st (refl, refl) (put count fetched st)
