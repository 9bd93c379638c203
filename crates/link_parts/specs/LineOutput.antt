-- The writing of a line to a sink, and what stops it.
use Rattle.std.specs.Prelude.{◌≡◌, ℕ, Option, List}
use Rattle.ft_io.specs.Sink.{AppendsFront}
use Rattle.link_parts.specs.declared.status.NodeEnd.{NodeEnd}
use Rattle.link_parts.specs.declared.status.NodeEnd.TheVariants.{NoMemory, WriteFault}

-- how a line ends early: an allocation failed before the first byte, or a prefix of it was written
abbrev pub ReportStops : List ℕ → (out_old out_new : Option (List ℕ)) → NodeEnd → Type 0
ReportStops line out_old out_new NoMemory = out_new ≡ out_old
ReportStops line out_old out_new WriteFault = AppendsFront out_old out_new line
ReportStops line out_old out_new _ = ⊥
