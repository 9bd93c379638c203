-- A connection is named by its client's address and port.
use Rattle.std.specs.Prelude.{Bool, ◌==◌, ◌&&◌}
use Rattle.ft_io.specs.declared.Key.{Key}

-- whether two keys name one connection, as `==` in the code says
abbrev pub key_eq : Key → Key → Bool
key_eq a b = a.ip == b.ip && a.port == b.port
