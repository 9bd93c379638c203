-- The sender and the receiver of a packet.
use Rattle.ft_model.specs.Wire.{Party}
use Rattle.ft_model.specs.Wire.Party.{A_client, The_server, The_logger}
use Rattle.plain_packets.specs.declared.path.Path.{Path}
use Rattle.plain_packets.specs.declared.path.Path.TheVariants.{ToServer, ToClient, ToLogger, FromLogger}

abbrev pub from_of : Path → Party
from_of (ToServer key) = A_client key
from_of (ToClient key) = The_server
from_of ToLogger = The_server
from_of FromLogger = The_logger

abbrev pub to_of : Path → Party
to_of (ToServer key) = The_server
to_of (ToClient key) = A_client key
to_of ToLogger = The_logger
to_of FromLogger = The_server
