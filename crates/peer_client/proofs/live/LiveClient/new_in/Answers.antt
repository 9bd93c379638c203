use Rattle.std.proofs.Common.{inl, sym, subst, ap, ◌∙◌}
use Rattle.std.specs.Prelude.{Bool, ◌^◌, None}
use Rattle.tcp_rules.specs.Profile.{Profile}
use Rattle.tcp_rules.specs.Profiles.{profile_of}
use Rattle.ft_model.specs.Client.{new_client}
use Rattle.ft_model.specs.Client.ClientKind.{Live}
use Rattle.tcp_endpoint.specs.Tcb.{connecting_measuring}
use Rattle.peer_client.specs.Stamping.{first_stamps}
use Rattle.peer_client.specs.Live.{LiveState}
use Rattle.peer_client.specs.Refinement.{IsDue}
use Rattle.peer_client.proofs.Opens.{starts}
use Rattle.peer_client.proofs.Carries.{first_fits}
use Rattle.peer_client.proofs.live.LiveClient.new_in.Goals as goal

pub returns-clause-beside : goal.returns-clause-beside
returns-clause-beside c =
    let profile : Profile = profile_of c.args.profile in
    let tcb = c.in_ok-endpoint.ensures ∙ ap (λ (measures : Bool). connecting_measuring measures c.args.local c.args.server c.args.isn (2 ^ 24)) c.measures.ensures in
    let stamps = c.in_ok-stamping.ensures ∙ ap first_stamps c.timestamps.ensures in
    subst (λ (l : LiveState). IsDue l (new_client Live c.args.server (record { ip = c.args.local.ip; port = c.args.local.port }) c.args.isn c.args.script.items))
    (λ i. record {
      local = c.args.local;
      server = c.args.server;
      tcb = sym tcb i;
      script = c.args.script.items;
      written = 0;
      seen = 0;
      outcome = None;
      stamps = sym stamps i;
    })
    (first_fits profile.timestamps, inl (starts profile c.args.local c.args.server c.args.isn c.args.script.items c.requires))
