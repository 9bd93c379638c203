use Rattle.sample_servers.specs.Stream.{each_byte}
use Rattle.sample_servers.specs.Line.{line_byte, line_machine}
use Rattle.sample_servers.proofs.Cuts.{ignores_cuts}
use Rattle.sample_servers.proofs.Whole.{line_is_stream}
use Rattle.sample_servers.proofs.laws.line_ignores_cuts.Goals as goal

pub returns : goal.returns
returns c = ignores_cuts line_machine (each_byte line_byte) line_is_stream
