-- Legal traces of schedules whose server lasts.
use Rattle.std.proofs.Common.{◌≡◌, ℕ, sym, subst, Some, None, List}
use Rattle.std.specs.List.{AllByRecursion}
use Rattle.server_trait.specs.Service.{Machine, WritesBytes}
use Rattle.ft_io.specs.declared.Key.{Key}
use Rattle.ft_model.specs.Lawful.{IsNearInput, IsSoundInput, fence}
use Rattle.ft_model.specs.Node.{Input, place_at}
use Rattle.ft_model.specs.Node.Input.{Packet_comes}
use Rattle.ft_model.specs.Node.Place.{Lives}
use Rattle.ft_model.specs.Point.{Point}
use Rattle.ft_model.specs.Playable.{IsPlayable}
use Rattle.ft_model.specs.Readable.{FitsEvent}
use Rattle.ft_model.specs.Schedule.{kind_of}
use Rattle.ft_model.specs.declared.event.Event.{Event}
use Rattle.ft_model.specs.declared.schedule.Lasting.{Lasting}
use Rattle.ft_model.specs.declared.schedule.Schedule.{Schedule}
use Rattle.ft_model.proofs.Running.{HasSmallOutputs}
use Rattle.trace_laws.specs.Premises.{HasSoundFronts}
use Rattle.long_laws.specs.LongTrace.{places_at, last_rst}
use Rattle.lasting_laws.specs.LastingTurn.{LastingNode}
use Rattle.lasting_laws.specs.LastingLegal.{IsLastingLegalFor, lasting_start}
use Rattle.lasting_laws.specs.LastingUnseen.{AreUnseen}
use Rattle.lasting_laws.specs.LastingWorld.{LastingMoment, grammar_in, lasting_after}
use Rattle.lasting_unseen.specs.Mirror.{AllOpenFreshly, MayStillCome}
use Rattle.lasting_unseen.proofs.Begins.{start_differs}
use Rattle.lasting_unseen.proofs.Traces.{Mirrors, mirrors, all_unseen, events_fit, all_open_freshly, is_near, is_let_go_near, is_sound, is_unfenced}
use Rattle.lasting_unseen.proofs.Writes.{WritesEach, AllWritten, writes_each, writes_all}

module _ {State : Type 0} (service : ℕ → Machine State) (waits : Lasting) (schedule : Schedule) (events : List Event) (trace : List LastingMoment)
    (small : HasSmallOutputs (service (kind_of schedule.service))) (writes : WritesBytes (service (kind_of schedule.service))) (playable : IsPlayable schedule)
    (fits : AllByRecursion FitsEvent events) (legal : IsLastingLegalFor service waits schedule events trace) where
  all_fit : AllByRecursion (λ m. FitsEvent m.event) trace
  all_fit = events_fit (service (kind_of schedule.service)) small writes waits schedule playable trace (subst (AllByRecursion FitsEvent) (sym legal.events_are) fits)

  all_fresh : AllOpenFreshly (lasting_start waits schedule) trace
  all_fresh = all_open_freshly (service (kind_of schedule.service)) small writes waits schedule playable (start_differs waits schedule playable.different) trace legal.joint all_fit

  pub unseen : AreUnseen (service (kind_of schedule.service)) (lasting_start waits schedule) trace
  unseen = all_unseen (service (kind_of schedule.service)) small writes waits schedule playable trace legal.joint all_fit all_fresh

  pub each_written : WritesEach (grammar_in (lasting_start waits schedule)) trace
  each_written = writes_each (service (kind_of schedule.service)) small writes waits schedule playable trace legal.joint all_fit all_fresh

  pub all_written : AllWritten (grammar_in (lasting_start waits schedule)) (lasting_after (lasting_start waits schedule) trace).sent
  all_written = writes_all (service (kind_of schedule.service)) small writes waits schedule playable (grammar_in (lasting_start waits schedule)) trace legal.joint each_written

  -- the premises of turns
  module _ (n : LastingNode) (up : (lasting_after (lasting_start waits schedule) trace).node ≡ Some n) where
    abbrev it : Mirrors (service (kind_of schedule.service)) small writes waits schedule playable trace
    it = mirrors (service (kind_of schedule.service)) small writes waits schedule playable trace legal.joint all_fit all_fresh

    pub near : (input : Input) → MayStillCome (lasting_after (lasting_start waits schedule) trace) input → IsNearInput n.node.server input n.node.stage
    near input c = is_near (service (kind_of schedule.service)) small writes waits schedule playable trace it n up input c

    pub rst_is_near : (key : Key) (p : Point) → place_at key (places_at n.node.stage) ≡ Some (Lives p) → IsNearInput n.node.server (Packet_comes (last_rst n.node.server p)) n.node.stage
    rst_is_near key p lives = is_let_go_near (service (kind_of schedule.service)) small writes waits schedule playable trace it n up key p lives

    pub sound : (input : Input) → MayStillCome (lasting_after (lasting_start waits schedule) trace) input
        → IsSoundInput (service (kind_of schedule.service)) n.node input n.node.stage × HasSoundFronts (service (kind_of schedule.service)) n.node input n.node.stage
    sound input c = is_sound (service (kind_of schedule.service)) small writes waits schedule playable trace it n up input c

    pub unfenced : (input : Input) → MayStillCome (lasting_after (lasting_start waits schedule) trace) input → fence n.node input ≡ None
    unfenced input c = is_unfenced (service (kind_of schedule.service)) small writes waits schedule playable trace it n up input c
