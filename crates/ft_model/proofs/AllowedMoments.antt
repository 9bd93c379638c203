-- What the worked runs share: their start, why their moments are allowed, and that those of the opening are.
use Rattle.std.proofs.Common.{ℕ, ◌^◌, ◌≤◌, length, refl, None, List}
use native.Mathlib.Bridge.{le_by_compare, IsLe}
use Rattle.tcp_rules.specs.Profile.{Profile, plain}
use Rattle.server_trait.specs.Service.{AreBytes}
use Rattle.ft_model.specs.Client.Move.{Syn, Acknowledge}
use Rattle.ft_model.specs.World.{IsStart}
use Rattle.ft_model.specs.Legal.{IsAllowed, AllAllowed}
use Rattle.ft_model.specs.WorkedRuns.Common.{hello_text, client_with, start_in, start_with}
use Rattle.ft_model.specs.WorkedRuns.FirstPath as path
use Rattle.ft_model.proofs.AskedMoves.{scripted, still}

pub hello_bytes : AreBytes hello_text
unfolding IsLe
hello_bytes =
    (le_by_compare 105 256 tt, (le_by_compare 102 256 tt, (le_by_compare 109 256 tt, (le_by_compare 109 256 tt, (le_by_compare 112 256 tt, tt)))))

-- client 1 with a script that fits a stream
pub starts_in : (profile : Profile) (script : List ℕ) → AreBytes script → length script ≤ 2 ^ 24 → IsStart (start_in profile script)
unfolding IsLe
starts_in profile script bytes short = record {
  ip = le_by_compare 3221226085 (2 ^ 32) tt;
  port = le_by_compare 8 (2 ^ 16) tt;
  apart = refl;
  clients = (
    record {
      new = refl;
      ip = le_by_compare 3221225986 (2 ^ 32) tt;
      port = le_by_compare 40001 (2 ^ 16) tt;
      number = le_by_compare 1001 (2 ^ 32) tt;
      bytes = bytes;
      short = short;
    },
    tt,
  );
  log = refl;
  packets = refl;
  boot = refl;
  node = refl;
}

pub starts_with : (script : List ℕ) → AreBytes script → length script ≤ 2 ^ 24 → IsStart (start_with script)
starts_with script bytes short = starts_in plain script bytes short

pub starts_with_hello : IsStart (start_with hello_text)
unfolding IsLe
starts_with_hello = starts_with hello_text hello_bytes (le_by_compare 5 (2 ^ 24) tt)

-- the moments until the first client's connection is open
pub syn_allowed : IsAllowed path.moment_3.world path.moment_4
syn_allowed = record { allowed = refl; scripted = scripted path.moment_3.world path.moment_4.event (client_with hello_text) (Syn None) 1 path.moment_4.world refl refl refl }

pub ack_allowed : IsAllowed path.moment_8.world path.moment_9
ack_allowed = record { allowed = refl; scripted = scripted path.moment_8.world path.moment_9.event path.open_client Acknowledge 1 path.moment_9.world refl refl refl }

pub opening_allowed : AllAllowed path.start path.opening_trace
opening_allowed = ((((((((((tt, still path.start path.moment_1 refl refl), still path.moment_1.world path.moment_2 refl refl), still path.moment_2.world path.moment_3 refl refl), syn_allowed), still path.moment_4.world path.moment_5 refl refl), still path.moment_5.world path.moment_6 refl refl), still path.moment_6.world path.moment_7 refl refl), still path.moment_7.world path.moment_8 refl refl), ack_allowed), still path.moment_9.world path.moment_10 refl refl)
