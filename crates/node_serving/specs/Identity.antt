-- An incarnation's constants, and the model's node and the service that they determine.
use Rattle.seq_arith.specs.declared.kinds.Grammar.{Grammar}
use Rattle.server_trait.specs.Service.{Machine, machine}
use Rattle.server_trait.specs.declared.Service.{Ghosts}
use Rattle.tcp_rules.specs.Profile.{grammar_of}
use Rattle.tcp_rules.specs.Profiles.{profile_of}
use Rattle.ft_model.specs.Node.{Node, Stage}
use Rattle.node_serving.specs.declared.identity.Identity.{Identity}

-- an incarnation at this stage
abbrev pub node_of : Identity → Stage → Node
node_of who stage = record { server = who.local; profile = profile_of who.profile; boot = who.boot; isn = who.isn; stage = stage }

-- how an incarnation and its logger write their messages
abbrev pub grammar_in : Identity → Grammar
grammar_in who = grammar_of (profile_of who.profile)

-- an incarnation's service, started as its kind says
abbrev pub service_of : {S : Type 0} → Ghosts S → Identity → Machine S
service_of s who = machine (s.started who.kind) s.after s.greeting
