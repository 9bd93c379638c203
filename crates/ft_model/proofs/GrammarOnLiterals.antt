-- What an answer unfolds to compute what a literal text spells.
use Rattle.std.specs.Prelude.{⊤}
use Rattle.ft_model.specs.Words.{without_empty_last, lines_of, words_of}
use Rattle.ft_model.specs.Spelling.{numeral, number_of, short_number_of, host_of, addr_of, service_of, hex_bytes, is_hex, script_of, profile_named}
use Rattle.ft_model.specs.Grammar.{boot_line, bare_line, deliver_line, flip_line, client_and_window, send_line, client_alone, stop_line, profile_line, marks_line, lasting_line, service_line, server_line, is_taken, free_address, client_line, verb_of, keyword_of, is_misnamed, is_next, has_next_number, may_join, has_only_server, is_printable, line_behind, line_of, is_passed_over, is_too_much, after_line, read_lines, read_with}

unfoldable pub grammar_on_literals : ⊤
unfolding without_empty_last lines_of words_of numeral number_of short_number_of host_of addr_of service_of profile_named hex_bytes is_hex script_of boot_line bare_line deliver_line flip_line client_and_window send_line client_alone stop_line profile_line marks_line lasting_line service_line server_line is_taken free_address client_line verb_of keyword_of is_misnamed is_next has_next_number may_join has_only_server is_printable line_behind line_of is_passed_over is_too_much after_line read_lines read_with
grammar_on_literals = tt
