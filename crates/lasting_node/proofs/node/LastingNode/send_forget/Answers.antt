use Rattle.std.proofs.Common.{◌∙◌, ◌≤◌, ◌++◌, ◌∷◌, [], sym, ap, subst, rules}
use Rattle.std.proofs.lemmas.Result.{on_ok_weaker}
use Rattle.forget_wire.specs.Value.{named_said}
use Rattle.ft_model.specs.Wire.Party.{The_server, The_logger}
use Rattle.long_laws.specs.Forgetting.{forget}
use Rattle.long_laws.specs.ForgetGrammar.{spelling}
use Rattle.lasting_node.proofs.node.LastingNode.send_forget.Goals as goal

pub write_forget-requires : goal.write_forget-requires
write_forget-requires g c = record {
  boot = search rules;
  begun = subst (λ w. 1 ≤ w.boot) (sym c.who-boot.ensures) c.args.self.now.node.booted;
  numbers = (search rules, (search rules, (search rules, (search rules, tt))));
}

pub returns-clause-sent : goal.returns-clause-sent
returns-clause-sent g c =
    let was = c.args.self.now in
    on_ok_weaker c.send.result
    (λ sent. sent
    ∙ ap (λ bytes. was.own.sent.items ++ record { from = The_server; to = The_logger; bytes = bytes } ∷ [])
    (c.write_forget.ensures.bytes ∙ ap (λ w. spelling (forget w.boot (named_said c.args.named))) c.who-boot.ensures)) c.send.ensures
