use Rattle.twin_log.proofs.Fronts.{read_in_front}
use Rattle.twin_log.proofs.twin_out.TwinOut.at.Goals as goal

pub returns : goal.returns
returns c =
    read_in_front c.self.inside.count c.self.inside.datagrams.items c.args.self.now c.args.i c.index.result.now c.self.view_is c.requires c.index.ensures
