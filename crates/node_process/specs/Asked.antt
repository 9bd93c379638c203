-- The role that the words of a process ask for.
use Rattle.std.specs.Prelude.{◌≤◌, Bool, true, false, not, Option, Some, None, option_map, List}
use Rattle.link_parts.specs.declared.role.NodeRole.{NodeRole}
use Rattle.link_parts.specs.Options.{Text}
use Rattle.link_parts.specs.Ranges as node
use Rattle.link_parts.specs.Ranges.{most_turns}
use Rattle.link_parts.specs.Roles as roles
use Rattle.link_parts.specs.Roles.{own_role_of, is_pair, reads_input}
use Rattle.lasting_link.specs.LastingWords.{lasting_of, own_lasting_of, LastingInRange}
use Rattle.lasting_link.specs.declared.role.LastingRole.{LastingRole}
use Rattle.chain_parts.specs.PairWords.{twin_of}
use Rattle.chain_parts.specs.PartSteps as twin
use Rattle.journal_parts.specs.Words.{journal_of}
use Rattle.node_process.specs.declared.role.Role.{Role}
use Rattle.node_process.specs.declared.role.Role.TheVariants.{Node, Lasting, Journal, Twin}
use Rattle.node_process.specs.declared.role.Services.{Services}
use Rattle.node_process.specs.declared.role.Services.TheVariants.{Named, Own}

-- a role of `node`. In a program with a service of its own it is a server or a logger
abbrev pub node_role_of : Services → List Text → Option NodeRole
node_role_of Named words = roles.lasting_role_of words
node_role_of Own words = own_role_of words

-- a server that lasts
abbrev pub lasting_server_of : Services → List Text → Option LastingRole
lasting_server_of Named words = lasting_of words
lasting_server_of Own words = own_lasting_of words

abbrev pub first_of : Option Role → Option Role → Option Role
first_of (Some role) later = Some role
first_of None later = later

-- the role that words ask for, where they are allowed: the words of two loggers, those of a logger with a journal, those of a server that lasts, and those
-- of the roles of `node` have different options
unfoldable pub asked_of : Services → List Text → Option Role
asked_of services words =
    first_of (option_map Twin (twin_of words)) (first_of (option_map Journal (journal_of words))
    (first_of (option_map Lasting (lasting_server_of services words)) (option_map Node (node_role_of services words))))

-- the numbers of a role are in their ranges
abbrev pub InRange : Role → Type 0
InRange (Node role) = node.InRange role
InRange (Lasting role) = LastingInRange role
InRange (Journal role) = role.logger.turns ≤ most_turns
InRange (Twin role) = twin.InRange role

-- what a role uses of what its process is given. It leaves the rest as it is
abbrev pub uses_link : Option Role → Bool
uses_link (Some (Node role)) = not (is_pair (Some role))
uses_link (Some (Lasting role)) = true
uses_link (Some (Twin role)) = true
uses_link _ = false

abbrev pub uses_input : Option Role → Bool
uses_input (Some (Node role)) = reads_input (Some role)
uses_input _ = false

abbrev pub uses_children : Option Role → Bool
uses_children (Some (Node role)) = is_pair (Some role)
uses_children _ = false

abbrev pub uses_desk : Option Role → Bool
uses_desk (Some (Journal role)) = true
uses_desk _ = false
