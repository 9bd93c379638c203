use Rattle.std.proofs.Common.{subst, sym, ⊎_elim}
use Rattle.std.proofs.lemmas.Result.{on_ok_weaker}
use Rattle.ft_model.specs.Node.Input.{Tick_comes}
use Rattle.node_serving.specs.Identity.{node_of, grammar_in}
use Rattle.node_serving.specs.Openings.{ArePut, slot_opens}
use Rattle.node_serving.proofs.Opens.{put_none}
use Rattle.node_serving.proofs.opening.ask_slot.Goals as goal

pub returns-in-Pending : goal.returns-in-Pending
returns-in-Pending g c = on_ok_weaker c.ask.result
    (λ asked stage. subst (λ s. ArePut (grammar_in c.args.who) (slot_opens (node_of c.args.who stage) Tick_comes c.args.key s) c.args.turn.now.sent.items c.ask.new.turn.sent.items) (sym c.in-Pending.is) asked) c.ask.ensures

pub returns-in-Live : goal.returns-in-Live
returns-in-Live g c = λ stage.
    let reported = c.args.turn.now.sent.items in
    ⊎_elim (λ live. subst (λ s. ArePut (grammar_in c.args.who) (slot_opens (node_of c.args.who stage) Tick_comes c.args.key s) reported reported) (sym live.1) (put_none (grammar_in c.args.who) reported))
    (λ done. subst (λ s. ArePut (grammar_in c.args.who) (slot_opens (node_of c.args.who stage) Tick_comes c.args.key s) reported reported) (sym done) (put_none (grammar_in c.args.who) reported)) c.in-Live.is
