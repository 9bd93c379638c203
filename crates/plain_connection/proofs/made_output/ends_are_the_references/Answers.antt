use Rattle.plain_connection.proofs.made_output.ends_are_the_references.Goals as goal
use Rattle.server_trait.specs.Service.{machine}
use Rattle.plain_connection.proofs.Ends.{ends_are_the_references, prefixes, whole, one_more}

pub returns : goal.returns
returns g c = record {
  ends = λ kind k bytes lengths h. ends_are_the_references (machine (g.S.Service.started kind) g.S.Service.after g.S.Service.greeting) k bytes lengths h;
  prefixes = λ kind k bytes lengths. prefixes (machine (g.S.Service.started kind) g.S.Service.after g.S.Service.greeting) k bytes lengths;
  whole = λ kind bytes lengths. whole (machine (g.S.Service.started kind) g.S.Service.after g.S.Service.greeting) bytes lengths;
  one_more = λ kind n bytes lengths. one_more (machine (g.S.Service.started kind) g.S.Service.after g.S.Service.greeting) bytes lengths n;
}
