-- Whatever is sent can be written: a packet, as all that is under way has a wire; a message about forgetting, as its numbers fit.
use Rattle.std.proofs.Common.{◌≡◌, refl, sym, ap, ◌∙◌, subst, List, [], ◌∷◌, ◌++◌}
use Rattle.std.specs.List.{AllByRecursion}
use Rattle.server_trait.specs.Service.{Machine, WritesBytes}
use Rattle.seq_arith.specs.declared.kinds.Grammar.{Grammar}
use Rattle.tcp_rules.specs.Profile.{grammar_of}
use Rattle.ft_model.specs.Playable.{IsPlayable}
use Rattle.ft_model.specs.Readable.{FitsEvent}
use Rattle.ft_model.specs.Wire.{HasWireBy}
use Rattle.ft_model.specs.declared.schedule.Lasting.{Lasting}
use Rattle.ft_model.specs.declared.schedule.Schedule.{Schedule}
use Rattle.ft_model.proofs.FormedWorld.{all_behind}
use Rattle.ft_model.proofs.Lists.{all_append}
use Rattle.ft_model.proofs.Running.{HasSmallOutputs}
use Rattle.long_laws.specs.ForgetGrammar.{IsSpellable}
use Rattle.lasting_laws.specs.LastingLegal.{LastingJoint, lasting_start}
use Rattle.lasting_laws.specs.LastingUnseen.{usual, still_under_way}
use Rattle.lasting_laws.specs.LastingWorld.{Parcel, Sent, LastingWorld, LastingMoment, grammar_in, under_way, lasting_after}
use Rattle.lasting_laws.specs.LastingWorld.Parcel.{Usual, Forget_sent, Forgotten_sent}
use Rattle.lasting_unseen.specs.Mirror.{AllOpenFreshly, notes_under_way, mirrored}
use Rattle.lasting_unseen.specs.Written.{IsWritten}
use Rattle.lasting_unseen.proofs.Parcels.{packets_more, notes_more, notes_in}
use Rattle.lasting_unseen.proofs.Peopled.{have_wires}
use Rattle.lasting_unseen.proofs.Sends.{Sends, parcels_in, event_sends}
use Rattle.lasting_unseen.proofs.Traces.{Mirrors, mirrors, peopled_in, spelled_in}

-- a parcel is a packet or a message about forgetting
each_written : (grammar : Grammar) (parcels : List Parcel) → AllByRecursion (HasWireBy grammar) (usual parcels) → AllByRecursion IsSpellable (notes_in parcels)
    → AllByRecursion (IsWritten grammar) parcels
each_written grammar [] p n = tt
each_written grammar (Usual packet ∷ parcels) p n = (p.0, each_written grammar parcels p.1 n)
each_written grammar (Forget_sent message ∷ parcels) p n = (n.0, each_written grammar parcels p n.1)
each_written grammar (Forgotten_sent message ∷ parcels) p n = (n.0, each_written grammar parcels p n.1)

-- of all that was sent, lost or not
abbrev pub AllWritten : Grammar → List Sent → Type 0
AllWritten grammar sent = AllByRecursion (λ s. IsWritten grammar s.parcel) sent

by_parcels : (grammar : Grammar) (sent : List Sent) → AllByRecursion (IsWritten grammar) (parcels_in sent) → AllWritten grammar sent
by_parcels grammar [] a = tt
by_parcels grammar (s ∷ sent) a = (a.0, by_parcels grammar sent a.1)

parcels_written : (grammar : Grammar) (sent : List Sent) → AllWritten grammar sent → AllByRecursion (IsWritten grammar) (parcels_in sent)
parcels_written grammar [] a = tt
parcels_written grammar (s ∷ sent) a = (a.0, parcels_written grammar sent a.1)

now_written : (grammar : Grammar) (parcels : List Parcel) → AllByRecursion (IsWritten grammar) parcels → AllWritten grammar (under_way parcels)
now_written grammar [] a = tt
now_written grammar (p ∷ parcels) a = (a.0, now_written grammar parcels a.1)

-- what each event sends
abbrev pub WritesEach : Grammar → List LastingMoment → Type 0
WritesEach grammar trace = AllByRecursion (λ moment. AllByRecursion (IsWritten grammar) moment.parcels) trace

module _ {State : Type 0} (service : Machine State) (small : HasSmallOutputs service) (writes : WritesBytes service) (waits : Lasting) (schedule : Schedule) (playable : IsPlayable schedule) where
  abbrev start : LastingWorld
  start = lasting_start waits schedule

  sends_at : (moment : LastingMoment) (earlier : List LastingMoment) → LastingJoint service start (moment ∷ earlier) → Sends (lasting_after start earlier) moment.parcels moment.world
  sends_at moment earlier j = event_sends service moment.event (lasting_after start earlier) moment.parcels moment.world j.2

  -- the profile stays
  same_grammar : (trace : List LastingMoment) → LastingJoint service start trace → grammar_in (lasting_after start trace) ≡ grammar_in start
  same_grammar [] j = refl
  same_grammar (moment ∷ earlier) j = ap grammar_of (sends_at moment earlier j).profile ∙ same_grammar earlier j.0

  last_written : (moment : LastingMoment) (earlier : List LastingMoment) → LastingJoint service start (moment ∷ earlier)
      → Mirrors service small writes waits schedule playable (moment ∷ earlier) → AllByRecursion (IsWritten (grammar_in start)) moment.parcels
  last_written moment earlier j m =
      let s : Sends (lasting_after start earlier) moment.parcels moment.world = sends_at moment earlier j in
      let packets : AllByRecursion (HasWireBy (grammar_in moment.world)) (still_under_way s.earlier ++ usual moment.parcels) =
      subst (AllByRecursion (HasWireBy (grammar_in moment.world))) (ap still_under_way s.is ∙ packets_more s.earlier moment.parcels)
      (have_wires service (mirrored moment.world m.clients m.past).now (peopled_in service small writes waits schedule playable (moment ∷ earlier) m)) in
      let notes : AllByRecursion IsSpellable (notes_under_way s.earlier ++ notes_in moment.parcels) =
      subst (AllByRecursion IsSpellable) (ap notes_under_way s.is ∙ notes_more s.earlier moment.parcels) (spelled_in service small writes waits schedule playable (moment ∷ earlier) m) in
      subst (λ grammar. AllByRecursion (IsWritten grammar) moment.parcels) (same_grammar (moment ∷ earlier) j)
      (each_written (grammar_in moment.world) moment.parcels (all_behind (HasWireBy (grammar_in moment.world)) (still_under_way s.earlier) (usual moment.parcels) packets)
      (all_behind IsSpellable (notes_under_way s.earlier) (notes_in moment.parcels) notes))

  pub writes_each : (trace : List LastingMoment) → LastingJoint service start trace → AllByRecursion (λ m. FitsEvent m.event) trace → AllOpenFreshly start trace → WritesEach (grammar_in start) trace
  writes_each [] j fits fresh = tt
  writes_each (moment ∷ earlier) j fits fresh =
      (last_written moment earlier j (mirrors service small writes waits schedule playable (moment ∷ earlier) j fits fresh), writes_each earlier j.0 fits.1 fresh.0)

  pub writes_all : (grammar : Grammar) (trace : List LastingMoment) → LastingJoint service start trace → WritesEach grammar trace → AllWritten grammar (lasting_after start trace).sent
  writes_all grammar [] j each = tt
  writes_all grammar (moment ∷ earlier) j each =
      let s : Sends (lasting_after start earlier) moment.parcels moment.world = sends_at moment earlier j in
      let before : AllByRecursion (IsWritten grammar) (parcels_in (lasting_after start earlier).sent) =
      parcels_written grammar (lasting_after start earlier).sent (writes_all grammar earlier j.0 each.1) in
      subst (AllWritten grammar) (sym s.is)
      (all_append (λ x. IsWritten grammar x.parcel) s.earlier (under_way moment.parcels)
      (by_parcels grammar s.earlier (subst (AllByRecursion (IsWritten grammar)) (sym s.same) before)) (now_written grammar moment.parcels each.0))
