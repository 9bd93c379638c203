use Rattle.std.proofs.Common.{◌≡◌, sym, ap, subst, ◌∙◌, arith}
use Rattle.north_wrap.specs.NorthState.{Turns}
use Rattle.wrapped_conn.specs.ConnState.{ConnState}
use Rattle.connection_laws.specs.OutputFeed.{tcp_reader, tcp_writer}
use Rattle.wrapped_conn.specs.Turn.{served}
use Rattle.wrapped_conn.specs.Sound.{IsSound}
use Rattle.wrapped_conn.proofs.Served.{served_sound, served_state, north_is, read_rises, news_are_writable}
use Rattle.wrapped_conn.proofs.conn.Conn.serve.Goals as goal

pub read_to-requires-clause-rises : goal.read_to-requires-clause-rises
read_to-requires-clause-rises g c =
    let s = subst IsSound (sym c.self.view_is) c.requires.sound in
    let turn = c.in_ok-turn.ensures.turn in
    omega (arith, c.read.ensures, read_rises g.S.Service.after g.met.S.Service.is_short _ c.una-una.result c.turn.new.news c.turn.new.self c.turn.new.sock s turn)

pub returns-clause-north : goal.returns-clause-north
returns-clause-north g c =
    let turn = subst (λ (x : ConnState _). Turns g.S.Service.after tcp_reader tcp_writer c.una-una.result x.north x.endpoint c.turn.new.news c.turn.new.self c.turn.new.sock) c.self.view_is c.in_ok-turn.ensures.turn in
    north_is g.S.Service.after c.args.self.now c.una-una.result c.turn.new.news c.turn.new.self c.turn.new.sock c.una-una.ensures.value turn

pub returns-clause-state : goal.returns-clause-state
returns-clause-state g c =
    let turn = subst (λ (x : ConnState _). Turns g.S.Service.after tcp_reader tcp_writer c.una-una.result x.north x.endpoint c.turn.new.news c.turn.new.self c.turn.new.sock) c.self.view_is c.in_ok-turn.ensures.turn in
    let south = subst (λ (x : ConnState _). c.read_to.new.self ≡ record x.south { read = c.turn.new.self.read }) c.self.view_is (c.read_to.ensures ∙ ap (λ n. record c.self.inside.south { read = n }) c.read.ensures) in
    subst (λ (x : ConnState _). record x { south = c.read_to.new.self; endpoint = c.turn.new.sock; north = c.turn.new.self } ≡ served c.turn.new.self c.turn.new.news c.args.self.now) (sym c.self.view_is)
    (served_state g.S.Service.after c.args.self.now c.una-una.result c.turn.new.news c.turn.new.self c.turn.new.sock c.read_to.new.self turn south)

pub returns-clause-writable : goal.returns-clause-writable
returns-clause-writable g c =
    let s = subst IsSound (sym c.self.view_is) c.requires.sound in
    news_are_writable g.S.Service.after g.met.S.Service.is_short _ c.una-una.result c.turn.new.news c.turn.new.self c.turn.new.sock s c.in_ok-turn.ensures.turn

pub returns-clause-sound : goal.returns-clause-sound
returns-clause-sound g c =
    let s = subst IsSound (sym c.self.view_is) c.requires.sound in
    served_sound g.S.Service.after g.met.S.Service.is_short _ c.una-una.result c.turn.new.news c.turn.new.self c.turn.new.sock c.read_to.new.self s c.in_ok-turn.ensures.turn
    (c.read_to.ensures ∙ ap (λ n. record c.self.inside.south { read = n }) c.read.ensures)
