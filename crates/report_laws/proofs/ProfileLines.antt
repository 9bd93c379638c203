-- The line of a profile is accepted only directly after the server's line, and then the header goes on with it.
use Rattle.std.proofs.Common.{◌≡◌, ℕ, ◌==◌, Bool, true, false, if◌then◌else◌, refl, sym, ap, ap₂, ◌∙◌, subst, arith, true≢false, None, Some, Result, Ok, Err, List, [], ◌∷◌, ◌++◌, codes, length, append_assoc}
use Rattle.std.specs.Prelude.{cond, Option, is_none, not, ◌&&◌}
use Rattle.std.specs.Option.{ok_or}
use Rattle.std.specs.Str.{bytes_eq}
use Rattle.std.proofs.lemmas.Bool.{eqb-true}
use Rattle.ft_io.proofs.Booleans.{left_true, right_true}
use Rattle.tcp_rules.specs.declared.profile.Profile.{Profile}
use Rattle.tcp_rules.specs.declared.profile.Profile.TheVariants.{Plain, Wan}
use Rattle.ft_model.specs.Grammar.{line_of, line_of_words, line_behind, line_from, may_stand, keyword_of, is_misnamed, is_printable, is_unnamed, has_only_server, service_line, server_line, profile_line, marks_line, lasting_line, client_line, event_line}
use Rattle.ft_model.specs.Report.{header, twin_line, schedule_lines}
use Rattle.ft_model.specs.Report as written
use Rattle.ft_model.specs.Spelling.{profile_named}
use Rattle.ft_model.specs.Words.{words_of}
use Rattle.ft_model.specs.declared.line.Draft.TheVariants.{Empty, Named, Begun}
use Rattle.ft_model.specs.declared.line.Keyword.{Keyword}
use Rattle.ft_model.specs.declared.line.Keyword.TheVariants as keyword
use Rattle.ft_model.specs.declared.line.Line.TheVariants as says
use Rattle.ft_model.specs.declared.schedule.ClientLine.{ClientLine}
use Rattle.ft_model.specs.declared.schedule.Lasting.{Lasting}
use Rattle.ft_model.specs.declared.schedule.LineWhy.{LineWhy}
use Rattle.ft_model.specs.declared.schedule.LineWhy.TheVariants as why
use Rattle.ft_model.specs.declared.schedule.Schedule.{Schedule}
use Rattle.ft_model.proofs.AcceptedLemmas.{bind_ok, ok_or_ok, unless, bare_says}
use Rattle.report_laws.specs.Canonical.{ClientsAccepted, Follows, HeaderAccepted, bare, profiled, canonical_line}

-- a schedule of which only the service and the server are known, after which a line names this profile
pub record IsNaming (schedule : Schedule) (profile : Profile) : Type 0 where
  pub named : profile ≡ Wan
  pub unnamed : schedule.profile ≡ Plain
  pub alone : schedule.clients ≡ []

provided : {A : Type 0} (b : Bool) (d : LineWhy) (r : Result A LineWhy) (x : A) → cond b r (Err d) ≡ Ok x → (b ≡ true) × (r ≡ Ok x)
provided true d r x e = (refl, e)
provided false d r x e = absurd (cc)

-- the one profile that is named
named_so : (b : Bool) (profile : Profile) → (if b then Some Wan else None) ≡ Some profile → profile ≡ Wan
named_so true profile e = cc
named_so false profile e = absurd (cc)

line_names : (words : List (List ℕ)) (profile : Profile) → profile_line words ≡ Ok profile → profile ≡ Wan
unfolding profile_line profile_named
line_names [] profile e = absurd (cc)
line_names (name ∷ x ∷ more) profile e = absurd (cc)
line_names (name ∷ []) profile e = named_so (bytes_eq name (codes "wan")) profile (ok_or_ok (profile_named name) why.Word profile e)

is_plain : (profile : Profile) → is_unnamed profile ≡ true → profile ≡ Plain
is_plain Plain e = refl
is_plain Wan e = absurd (true≢false (sym e))

no_clients : (clients : List ClientLine) → length clients ≡ 0 → clients ≡ []
no_clients [] e = refl
no_clients (c ∷ more) e = absurd (omega (arith, e))

has_no_clients : (schedule : Schedule) → has_only_server schedule ≡ true → schedule.clients ≡ []
unfolding has_only_server
has_no_clients schedule e =
    let counts : Bool = length schedule.events == 0 && length schedule.clients == 0 in
    let unmarked : (counts && not schedule.twin && is_none schedule.marks) ≡ true = left_true (counts && not schedule.twin && is_none schedule.marks) (is_none schedule.lasting) e in
    let both : counts ≡ true = left_true counts (not schedule.twin) (left_true (counts && not schedule.twin) (is_none schedule.marks) unmarked) in
    no_clients schedule.clients (eqb-true (length schedule.clients) 0 (right_true (length schedule.events == 0) (length schedule.clients == 0) both))

by_keyword : (schedule : Schedule) (k : Keyword) (words : List (List ℕ)) (profile : Profile) → may_stand (Begun schedule) k words ≡ true
    → line_from (Begun schedule) k words ≡ Ok (says.Profile profile) → IsNaming schedule profile
by_keyword schedule keyword.Service words profile stands h = let b = bind_ok (service_line words) (λ kind. Ok (says.Service kind)) (says.Profile profile) h in absurd (cc b.2)
by_keyword schedule keyword.Server words profile stands h = let b = bind_ok (server_line words) (λ at. Ok (says.Server at)) (says.Profile profile) h in absurd (cc b.2)
by_keyword schedule keyword.Twin words profile stands h = absurd (bare_says says.Twin words (says.Profile profile) (λ f. cc) h)
by_keyword schedule keyword.Marks words profile stands h = let b = bind_ok (marks_line words) (λ every. Ok (says.Marks every)) (says.Profile profile) h in absurd (cc b.2)
by_keyword schedule keyword.Lasting words profile stands h = let b = bind_ok (lasting_line words) (λ waits. Ok (says.Lasting waits)) (says.Profile profile) h in absurd (cc b.2)
by_keyword schedule keyword.Client words profile stands h =
    let b = bind_ok (client_line (Begun schedule) words) (λ client. Ok (says.Client client)) (says.Profile profile) h in absurd (cc b.2)
by_keyword schedule (keyword.Event verb) words profile stands h = let b = bind_ok (event_line verb words) (λ e. Ok (says.Event e)) (says.Profile profile) h in absurd (cc b.2)
by_keyword schedule keyword.Profile words profile stands h =
    let b = bind_ok (profile_line words) (λ p. Ok (says.Profile p)) (says.Profile profile) h in
    let same : b.0 ≡ profile = cc b.2 in
    record {
      named = sym same ∙ line_names words b.0 b.1;
      unnamed = is_plain schedule.profile (left_true (is_unnamed schedule.profile) (has_only_server schedule) stands);
      alone = has_no_clients schedule (right_true (is_unnamed schedule.profile) (has_only_server schedule) stands);
    }

by_words : (schedule : Schedule) (words : List (List ℕ)) (profile : Profile) → line_of_words (Begun schedule) words ≡ Ok (says.Profile profile) → IsNaming schedule profile
unfolding line_behind
by_words schedule [] profile e = absurd (cc)
by_words schedule (word ∷ words) profile e =
    let at = bind_ok (ok_or (keyword_of word) why.Word) (λ k. line_behind (Begun schedule) k words) (says.Profile profile) e in
    let known = unless (is_misnamed at.0 words) why.Word (cond (may_stand (Begun schedule) at.0 words) (line_from (Begun schedule) at.0 words) (Err why.Place)) (says.Profile profile) at.2 in
    let placed = provided (may_stand (Begun schedule) at.0 words) why.Place (line_from (Begun schedule) at.0 words) (says.Profile profile) known.1 in
    by_keyword schedule at.0 words profile placed.0 placed.1

pub profile_stands : (schedule : Schedule) (text : List ℕ) (profile : Profile) → line_of (Begun schedule) text ≡ Ok (says.Profile profile) → IsNaming schedule profile
unfolding line_of
profile_stands schedule text profile e =
    by_words schedule (words_of text) profile (provided (is_printable text) why.Character (line_of_words (Begun schedule) (words_of text)) (says.Profile profile) e).1

-- a header without clients, and the same with the line of a profile
abbrev from_profile : Profile → Bool → Option ℕ → Option Lasting → List ClientLine → List ℕ
from_profile profile twin marks lasting clients =
    written.profile_line profile ++ (twin_line twin ++ (written.marks_line marks ++ (written.lasting_line lasting ++ schedule_lines 1 clients)))

pub profile_text : (schedule : Schedule) (text line : List ℕ) → IsNaming schedule Wan → schedule.twin ≡ false → schedule.marks ≡ None → schedule.lasting ≡ None → text ≡ header schedule
    → line ≡ written.profile_line Wan → text ++ line ≡ header (record schedule { profile = Wan })
unfolding header
profile_text schedule text line naming one unmarked fleeting is spelled =
    let name : List ℕ = codes "ftreplay 1\n" in
    let a : List ℕ = canonical_line Empty (says.Service schedule.service) in
    let b : List ℕ = canonical_line (Named schedule.service) (says.Server schedule.server) in
    let wide : List ℕ = written.profile_line Wan in
    let before : name ++ (a ++ (b ++ from_profile schedule.profile schedule.twin schedule.marks schedule.lasting schedule.clients)) ≡ name ++ (a ++ (b ++ [])) =
    ap₂ (λ p t. name ++ (a ++ (b ++ from_profile p t schedule.marks schedule.lasting schedule.clients))) naming.unnamed one
    ∙ (ap (λ m. name ++ (a ++ (b ++ from_profile Plain false m schedule.lasting schedule.clients))) unmarked
    ∙ ap₂ (λ l cs. name ++ (a ++ (b ++ from_profile Plain false None l cs))) fleeting naming.alone) in
    let after : name ++ (a ++ (b ++ from_profile Wan schedule.twin schedule.marks schedule.lasting schedule.clients)) ≡ name ++ (a ++ (b ++ wide)) =
    ap₂ (λ t m. name ++ (a ++ (b ++ from_profile Wan t m schedule.lasting schedule.clients))) one unmarked
    ∙ ap₂ (λ l cs. name ++ (a ++ (b ++ from_profile Wan false None l cs))) fleeting naming.alone in
    ap₂ ◌++◌ (is ∙ before) spelled
    ∙ (append_assoc name (a ++ (b ++ [])) wide
    ∙ (ap (λ t. name ++ t) (append_assoc a (b ++ []) wide ∙ ap (λ t. a ++ t) (append_assoc b [] wide)) ∙ sym after))

-- a header that is accepted, with the line of a profile
pub profile_accepted : (schedule : Schedule) → HeaderAccepted schedule → IsNaming schedule Wan → schedule.events ≡ [] → Follows (Begun schedule) (says.Profile Wan)
    → HeaderAccepted (record schedule { profile = Wan })
profile_accepted schedule h naming none follows =
    let same : schedule ≡ bare schedule =
    λ i. record schedule { profile = naming.unnamed i; twin = h.one_logger i; marks = h.unmarked i; lasting = h.fleeting i; clients = naming.alone i; events = none i } in
    record {
      one_logger = h.one_logger;
      unmarked = h.unmarked;
      fleeting = h.fleeting;
      service = h.service;
      server = h.server;
      profile = subst (λ s. Follows (Begun s) (says.Profile Wan)) same follows;
      clients = subst (ClientsAccepted (profiled (record schedule { profile = Wan }))) (sym naming.alone) tt;
    }
