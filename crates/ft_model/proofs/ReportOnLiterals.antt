-- What an answer unfolds to compute the lines of a report on literals.
use Rattle.std.specs.Prelude.{⊤}
use Rattle.std.specs.Fmt.{digits}
use Rattle.hex.specs.Hex.{encode_with}
use Rattle.ft_model.specs.Texts.{service_text, script_text, hex_text, list_text, address_text, flags_text, mss_text, bit_text, ending_text, way_text, phase_text}
use Rattle.ft_model.specs.Report.{schedule_line, header, event_line, packet_line, content_words, message_words, forward_words, got_words, phase_line, entry_line, end_line}

unfoldable pub report_on_literals : ⊤
unfolding digits encode_with service_text script_text schedule_line header hex_text list_text address_text flags_text mss_text bit_text ending_text way_text phase_text event_line packet_line content_words message_words forward_words got_words phase_line entry_line end_line
report_on_literals = tt
