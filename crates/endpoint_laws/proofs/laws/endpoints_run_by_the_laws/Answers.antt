use Rattle.endpoint_laws.proofs.FirstPoint.{run_law}
use Rattle.endpoint_laws.proofs.laws.endpoints_run_by_the_laws.Goals as goal

pub returns : goal.returns
returns c = λ e iss limit cisn fetched syn calls steps l whole is number may.
    run_law e iss limit cisn fetched syn calls steps l whole is number may
