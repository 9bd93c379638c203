use Rattle.std.proofs.Common.{◌∙◌, ap, refl, true}
use Rattle.lasting_world.specs.Guests.{index_there}
use Rattle.lasting_world.specs.declared.guest.Guest.{Guest}
use Rattle.lasting_world.proofs.Reporting.{gone_at, nobody_goes}
use Rattle.lasting_world.proofs.surroundings.Surroundings.part.Goals as goal

pub returns-in-Some-clause-parts : goal.returns-in-Some-clause-parts
returns-in-Some-clause-parts c = record {
  guests = λ one.
      gone_at c.args.key c.args.self.now.guests.items c.in-Some.place c.index_mut.result.now _ (c.in-Some.ensures.place ∙ ap (index_there c.args.key) c.deref.ensures.value) one
      (ap (λ (g : Guest). record g { gone = true }) c.index_mut.ensures.value);
  rest = refl;
}

pub returns-in-None-clause-parts : goal.returns-in-None-clause-parts
returns-in-None-clause-parts c = record { guests = λ one. nobody_goes c.args.key c.args.self.now.guests.items (c.in-None.ensures.place ∙ ap (index_there c.args.key) c.deref.ensures.value); rest = refl }
