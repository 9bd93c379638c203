use Rattle.std.proofs.Common.{◌∙◌, ap}
use Rattle.std.proofs.lemmas.Result.{on_ok_weaker}
use Rattle.seq_arith.specs.PacketGrammar.{reading}
use Rattle.ft_model.specs.Client.{Client}
use Rattle.peer_client.specs.Scripted.{arrivals}
use Rattle.lasting_world.specs.Around.{kept_around}
use Rattle.lasting_world.specs.Guests.{index_there}
use Rattle.lasting_world.specs.declared.guest.Guest.{Guest}
use Rattle.lasting_world.proofs.Reporting.{receives_at, nobody_receives}
use Rattle.lasting_world.proofs.surroundings.Surroundings.deliver_to_client.Goals as goal

pub returns-in-Some : goal.returns-in-Some
returns-in-Some c =
    let guest : Guest = c.index_mut.result.now in
    on_ok_weaker c.deliver.result
    (λ taken w s.
    receives_at w c.args.key (kept_around c.args.self.now) (reading c.args.bytes.now) c.in-Some.place guest _ s (c.in-Some.ensures.place ∙ ap (index_there c.args.key) c.deref.ensures.value)
    (ap (λ (x : Client). record guest { client = x }) taken
    ∙ ap (λ (g : Guest). record g { client = arrivals g.client (reading c.args.bytes.now) }) c.index_mut.ensures.value))
    c.deliver.ensures.taken

pub returns-in-None : goal.returns-in-None
returns-in-None c = λ w s. nobody_receives w c.args.key (kept_around c.args.self.now) (reading c.args.bytes.now) s (c.in-None.ensures.place ∙ ap (index_there c.args.key) c.deref.ensures.value)
