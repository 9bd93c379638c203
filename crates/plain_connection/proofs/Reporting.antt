-- Messages to the logger, sent one after another.
use Rattle.std.proofs.Common.{◌≡◌, ◌∙◌, ℕ, refl, sym, ap, subst, List, [], ◌∷◌, ◌++◌, map, append_assoc}
use Rattle.std.proofs.lemmas.List.{map-append}
use Rattle.seq_arith.specs.Message.{Body}
use Rattle.ft_model.specs.Connection.{reported_by}
use Rattle.ft_model.specs.Wire.{Wire}
use Rattle.plain_packets.specs.Sent.{Appends}
use Rattle.plain_packets.proofs.Sent.{appends_none, appends_both}

-- of all these messages some are sent, and the others still have to be
pub record IsReporting (boot : ℕ) (before now : List Wire) (all rest : List Body) : Type 0 where
  pub reported : List Body
  pub all_is : reported ++ rest ≡ all
  pub appends : Appends before now (map (reported_by boot) reported)

pub reporting_begins : (boot : ℕ) (wires : List Wire) (all : List Body) → IsReporting boot wires wires all all
reporting_begins boot wires all = record { reported = []; all_is = refl; appends = appends_none wires }

pub reported_both : (boot : ℕ) (before middle after : List Wire) (first more : List Body) → Appends before middle (map (reported_by boot) first)
    → Appends middle after (map (reported_by boot) more) → Appends before after (map (reported_by boot) (first ++ more))
reported_both boot before middle after first more a b = subst (Appends before after) (sym (map-append (reported_by boot) first more)) (appends_both a b)

pub one_reported : (boot : ℕ) (before now later : List Wire) (all rest more : List Body) (body : Body) → IsReporting boot before now all rest → rest ≡ body ∷ more
    → Appends now later (reported_by boot body ∷ []) → IsReporting boot before later all more
one_reported boot before now later all rest more body reporting cut appends = record {
  reported = reporting.reported ++ body ∷ [];
  all_is = append_assoc reporting.reported (body ∷ []) more ∙ (ap (λ l. reporting.reported ++ l) (sym cut) ∙ reporting.all_is);
  appends = reported_both boot before now later reporting.reported (body ∷ []) reporting.appends appends;
}

pub rest_reported : (boot : ℕ) (before now later : List Wire) (all rest : List Body) → IsReporting boot before now all rest → Appends now later (map (reported_by boot) rest)
    → Appends before later (map (reported_by boot) all)
rest_reported boot before now later all rest reporting appends =
    subst (λ l. Appends before later (map (reported_by boot) l)) reporting.all_is (reported_both boot before now later reporting.reported rest reporting.appends appends)
