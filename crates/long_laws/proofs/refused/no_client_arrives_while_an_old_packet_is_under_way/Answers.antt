use Rattle.long_laws.proofs.refused.no_client_arrives_while_an_old_packet_is_under_way.Goals as goal
use Rattle.long_laws.proofs.RefusedSteps.{not_arrived, still_under_way}

pub returns : goal.returns
returns c = record { always = λ c w packet sent about may. not_arrived c w packet sent about may; worked = still_under_way }
