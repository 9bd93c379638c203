use Rattle.long_laws.proofs.resets.logs_with_room_send_no_false_reset.Goals as goal
use Rattle.server_trait.specs.Service.{machine}
use Rattle.long_laws.proofs.Room.{room_spares}

pub returns : goal.returns
returns g c = λ kind start moment earlier joint room. room_spares (machine (g.S.Service.started kind) g.S.Service.after g.S.Service.greeting) (g.met.S.Service.greets_shortly (g.S.Service.started kind), g.met.S.Service.is_short) start moment earlier joint room
