use Rattle.std.proofs.Common.{◌∙◌, [], sym, ap, subst, refl, map}
use Rattle.forget_store.proofs.AnyLogs.{any_logs_are_ordered}
use Rattle.lasting_world.specs.GoneEntries.{AllGoneStand}
use Rattle.lasting_world.specs.Guests.{GuestsStand, new_guest}
use Rattle.lasting_world.proofs.Changed.{new_stand, new_turns}
use Rattle.lasting_world.proofs.Networks.{nothing_stands}
use Rattle.lasting_laws.specs.LastingLegal.{lasting_start}
use Rattle.lasting_laws.specs.LastingWorld.{grammar_in}
use Rattle.lasting_world.proofs.surroundings.Surroundings.new.Goals as goal

pub returns-clause-stands : goal.returns-clause-stands
returns-clause-stands c = λ waits.
    let server = c.args.schedule.now.server in
    let clients = c.args.schedule.now.clients in
    record {
      profile = refl;
      guests = subst (λ gs. GuestsStand gs (lasting_start waits c.args.schedule.now).guests) (sym (c.in_ok-new_guests.ensures ∙ ap (map (new_guest server)) c.as_slice.ensures)) (new_stand server clients);
      turns = new_turns server clients;
      log = c.new.ensures;
      ordered = any_logs_are_ordered [];
      gone = subst (λ es. AllGoneStand es []) (sym c.new-3.ensures.items) tt;
      network = nothing_stands (grammar_in (lasting_start waits c.args.schedule.now)) c.new-4.result c.new-4.ensures.0 c.new-4.ensures.1 c.new-4.ensures.2;
    }
