use Rattle.std.proofs.lemmas.Fmt.{decimal_injective}
use Rattle.ft_model.proofs.ReportParts.{hex_same, list_same, mss_same, bit_same, address_same, flags_same, way_same}
use Rattle.ft_model.proofs.report.values_of_spellings.Goals as goal

pub returns : goal.returns
returns c = record { number = decimal_injective; bytes = hex_same; list = list_same; mss = mss_same; bit = bit_same; address = address_same; flags = flags_same; way = way_same }
