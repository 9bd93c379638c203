use Rattle.forget_wire.specs.Value.{message_of}
use Rattle.lasting_node.specs.Turns.{sent_by}
use Rattle.lasting_node.proofs.Untouched.{untouched}
use Rattle.lasting_node.proofs.excluded.forgets_by_key_alone.Goals as goal

pub returns : goal.returns
returns g c = λ n st none.
    let now = c.receive_forget.new.self in
    untouched c.args.server.now now n (sent_by now) st (message_of c.args.m.now) none c.receive_forget.ensures.turn
