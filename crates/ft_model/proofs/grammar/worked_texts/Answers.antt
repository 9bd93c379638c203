-- Each text computes.
use Rattle.std.proofs.Common.{refl}
use Rattle.ft_model.proofs.GrammarOnLiterals.{grammar_on_literals}
use Rattle.ft_model.proofs.grammar.worked_texts.Goals as goal

pub returns : goal.returns
unfolding grammar_on_literals
returns c = record {
  empty = refl;
  first_path = refl;
  nothing = refl;
  comment = refl;
  few_words = refl;
  two_clients = refl;
  two_loggers = refl;
  late_pair = refl;
  second_pair = refl;
  long_pair = refl;
  early_pair = refl;
  marks = refl;
  most_marks = refl;
  no_marks = refl;
  rare_marks = refl;
  bare_marks = refl;
  late_marks = refl;
  second_marks = refl;
  marked_pair = refl;
  pair_with_marks = refl;
  wide_area = refl;
  wide_area_pair = refl;
  wide_area_marks = refl;
  plain_profile = refl;
  loud_profile = refl;
  bare_profile = refl;
  long_profile = refl;
  second_profile = refl;
  second_bare_profile = refl;
  second_plain_profile = refl;
  early_profile = refl;
  profile_of_a_pair = refl;
  profile_behind_marks = refl;
  profile_behind_a_client = refl;
  profile_behind_an_event = refl;
  lasting = refl;
  most_lasting = refl;
  no_wait = refl;
  long_wait = refl;
  long_silence = refl;
  wait_alone = refl;
  early_lasting = refl;
  second_lasting = refl;
  lasting_pair = refl;
  lasting_with_marks = refl;
  profile_behind_lasting = refl;
  late_lasting = refl;
  same_address = refl;
  server_address = refl;
  same_number = refl;
  third_logger = refl;
}
