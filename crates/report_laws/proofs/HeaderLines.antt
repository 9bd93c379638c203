-- The lines of an accepted header, one after another, lead to the schedule that they spell.
use Rattle.std.proofs.Common.{◌≡◌, ℕ, ◌+◌, ◌<◌, ◌^◌, ◌||◌, true, false, inl, refl, sym, ap, ap₂, ◌∙◌, subst, arith, Some, None, List, [], ◌∷◌, ◌++◌, codes, decimal, length, length-append, append_assoc, append-nil}
use Rattle.std.specs.Prelude.{All}
use Rattle.std.specs.List.{AllByRecursion}
use Rattle.std.proofs.lemmas.Bool.{ne_eqb}
use Rattle.std.proofs.lemmas.List.Elements.{All-nil, All-cons}
use Rattle.std.proofs.lemmas.List.Splits.{slice_split_at}
use Rattle.std.proofs.lemmas.Slice.Eq.{bytes_eq-Decides}
use Rattle.server_trait.specs.Service.{Machine}
use Rattle.tcp_rules.specs.declared.profile.Profile.{Profile}
use Rattle.tcp_rules.specs.declared.profile.Profile.TheVariants.{Plain, Wan}
use Rattle.ft_model.specs.Report.{profile_line, schedule_line}
use Rattle.ft_model.specs.Texts.{spaced, key_text, script_text}
use Rattle.ft_model.specs.Words.{is}
use Rattle.ft_model.specs.declared.line.Draft.TheVariants.{Empty, Named, Begun}
use Rattle.ft_model.specs.declared.line.Line.TheVariants as says
use Rattle.ft_model.specs.declared.schedule.ClientLine.{ClientLine}
use Rattle.ft_model.specs.declared.schedule.Schedule.{Schedule}
use Rattle.ft_model.proofs.ReportWords.{word_decimal}
use Rattle.report_laws.specs.Transitions.{Position, LineGives, is_header_line, pieces}
use Rattle.report_laws.specs.Transitions.Position.{AtStart, InHeader}
use Rattle.report_laws.specs.Transitions.Step.{Continues}
use Rattle.report_laws.specs.Verdict.{LeadsTo}
use Rattle.report_laws.specs.Canonical.{canonical_line, IsCanonical, Follows, bare, profiled, ClientsAccepted, ProfileAccepted, HeaderAccepted, client_header_lines, profile_header_lines, header_lines}
use Rattle.report_laws.proofs.Turns.{if_true}

-- a word has no space and no line feed
pub no_space : (word : List ℕ) → AllByRecursion (λ c. 32 < c) word → All (λ c. (is 32 c || is 10 c) ≡ false) word
no_space [] h = All-nil (λ c. (is 32 c || is 10 c) ≡ false)
no_space (c ∷ word) h =
    All-cons (λ c. (is 32 c || is 10 c) ≡ false) c word (ap₂ ◌||◌ (ne_eqb c 32 (λ e. omega (arith, e, h.0))) (ne_eqb c 10 (λ e. omega (arith, e, h.0)))) (no_space word h.1)

-- a word before a space is cut off
pub word_cut : (word rest : List ℕ) → AllByRecursion (λ c. 32 < c) word → pieces (word ++ 32 ∷ rest) ≡ word ∷ pieces rest
word_cut word rest h = slice_split_at (λ c. is 32 c || is 10 c) word 32 rest (no_space word h) refl

client_word : AllByRecursion (λ c. 32 < c) (codes "client")
client_word = (omega arith, (omega arith, (omega arith, (omega arith, (omega arith, (omega arith, tt))))))

-- the pieces of a client's line
pub client_pieces : (n : ℕ) (rest : List ℕ) → n < 2 ^ 64 → pieces (codes "client" ++ 32 ∷ (decimal n ++ 32 ∷ rest)) ≡ codes "client" ∷ decimal n ∷ pieces rest
client_pieces n rest small =
    word_cut (codes "client") (decimal n ++ 32 ∷ rest) client_word ∙ ap (λ l. codes "client" ∷ l) (word_cut (decimal n) rest (word_decimal n small))

heads_of : (schedule : Schedule) (more : List (List ℕ)) → is_header_line schedule (codes "client" ∷ decimal (length schedule.clients + 1) ∷ more) ≡ true
heads_of schedule more = (bytes_eq-Decides (decimal (length schedule.clients + 1)) (decimal (length schedule.clients + 1))).1 refl

-- a client's line after the number
abbrev behind_number : ClientLine → List ℕ
behind_number c = (key_text c.key ++ spaced (decimal c.isn ∷ script_text c.script ∷ [])) ++ 10 ∷ []

line_is : (n : ℕ) (c : ClientLine) → schedule_line n c ≡ codes "client" ++ 32 ∷ (decimal n ++ 32 ∷ behind_number c)
unfolding schedule_line
line_is n c = ap (λ l. codes "client" ++ 32 ∷ l) (append_assoc (decimal n) (32 ∷ (key_text c.key ++ spaced (decimal c.isn ∷ script_text c.script ∷ []))) (10 ∷ []))

line_pieces : (n : ℕ) (c : ClientLine) → n < 2 ^ 64 → pieces (schedule_line n c) ≡ codes "client" ∷ decimal n ∷ pieces (behind_number c)
line_pieces n c small = ap pieces (line_is n c) ∙ client_pieces n (behind_number c) small

module _ {State : Type 0} (service : ℕ → Machine State) where
  -- a client's line continues the header
  client_read : (schedule : Schedule) (c : ClientLine) (more : List (List ℕ)) → pieces (schedule_line (length schedule.clients + 1) c) ≡ codes "client" ∷ decimal (length schedule.clients + 1) ∷ more
      → IsCanonical (Begun schedule) (says.Client c) (canonical_line (Begun schedule) (says.Client c))
      → LineGives service (InHeader (Begun schedule)) (Some (schedule_line (length schedule.clients + 1) c)) (Continues (InHeader (Begun (record schedule { clients = schedule.clients ++ c ∷ [] }))))
  client_read schedule c more cut accepted =
      if_true (is_header_line schedule (pieces (schedule_line (length schedule.clients + 1) c))) _ _ (ap (is_header_line schedule) cut ∙ heads_of schedule more) (inl (says.Client c, (tt, accepted), refl))

  first_lines : (schedule : Schedule) → HeaderAccepted schedule
      → (lines : List (List ℕ)) (last : Position) → LeadsTo service (InHeader (Begun (bare schedule))) lines last
      → LeadsTo service AtStart (codes "ftreplay 1\n" ∷ canonical_line Empty (says.Service schedule.service) ∷ canonical_line (Named schedule.service) (says.Server schedule.server) ∷ lines) last
  first_lines schedule h lines last leads = (
    InHeader Empty,
    refl,
    (
      InHeader (Named schedule.service),
      inl (schedule.service, h.service, refl),
      (InHeader (Begun (bare schedule)), inl (schedule.server, h.server, refl), leads),
    ),
  )

  -- .. and so does that of a profile
  profile_read : (schedule : Schedule) → Follows (Begun schedule) (says.Profile Wan)
      → LineGives service (InHeader (Begun schedule)) (Some (profile_line Wan)) (Continues (InHeader (Begun (record schedule { profile = Wan }))))
  profile_read schedule accepted = inl (says.Profile Wan, (tt, accepted), refl)

  profile_leads : (schedule : Schedule) (profile : Profile) → ProfileAccepted (bare schedule) profile → (lines : List (List ℕ)) (last : Position)
      → LeadsTo service (InHeader (Begun (record (bare schedule) { profile = profile }))) lines last → LeadsTo service (InHeader (Begun (bare schedule))) (profile_header_lines profile ++ lines) last
  profile_leads schedule Plain h lines last leads = leads
  profile_leads schedule Wan h lines last leads = (InHeader (Begun (record (bare schedule) { profile = Wan })), profile_read (bare schedule) h, leads)

  clients_lead : (schedule : Schedule) (clients : List ClientLine) → ClientsAccepted schedule clients → length schedule.clients + length clients < 2 ^ 63
      → LeadsTo service (InHeader (Begun schedule)) (client_header_lines (length schedule.clients + 1) clients) (InHeader (Begun (record schedule { clients = schedule.clients ++ clients })))
  clients_lead schedule [] h few = ap (λ cs. InHeader (Begun (record schedule { clients = cs }))) (sym (append-nil schedule.clients))
  clients_lead schedule (c ∷ more) h few =
      let next : Schedule = record schedule { clients = schedule.clients ++ c ∷ [] } in
      let n : ℕ = length schedule.clients + 1 in
      let small : n < 2 ^ 64 = omega (arith, few) in
      let longer : length (schedule.clients ++ c ∷ []) ≡ length schedule.clients + 1 = length-append schedule.clients (c ∷ []) in
      let number : length (schedule.clients ++ c ∷ []) + 1 ≡ n + 1 = omega (arith, longer) in
      let less : length (schedule.clients ++ c ∷ []) + length more < 2 ^ 63 = omega (arith, longer, few) in
      let rest : LeadsTo service (InHeader (Begun next)) (client_header_lines (length (schedule.clients ++ c ∷ []) + 1) more) (InHeader (Begun (record schedule { clients = (schedule.clients ++ c ∷ []) ++ more }))) =
      clients_lead next more h.1 less in (
        InHeader (Begun next),
        client_read schedule c (pieces (behind_number c)) (line_pieces n c small) h.0,
        subst (λ cs. LeadsTo service (InHeader (Begun next)) (client_header_lines (n + 1) more) (InHeader (Begun (record schedule { clients = cs })))) (append_assoc schedule.clients (c ∷ []) more)
            (subst (λ k. LeadsTo service (InHeader (Begun next)) (client_header_lines k more) (InHeader (Begun (record schedule { clients = (schedule.clients ++ c ∷ []) ++ more })))) number rest),
      )

  pub header_leads : (schedule : Schedule) → HeaderAccepted schedule → length schedule.clients < 2 ^ 63
      → LeadsTo service AtStart (header_lines schedule) (InHeader (Begun (record schedule { events = [] })))
  header_leads schedule h few =
      let count : length (bare schedule).clients + length schedule.clients < 2 ^ 63 = omega (arith, few) in
      let last : Position = InHeader (Begun (record schedule { twin = false; marks = None; lasting = None; events = [] })) in
      subst (λ t. LeadsTo service AtStart (header_lines schedule) (InHeader (Begun (record schedule { twin = t; events = [] })))) (sym h.one_logger)
      (subst (λ m. LeadsTo service AtStart (header_lines schedule) (InHeader (Begun (record schedule { twin = false; marks = m; events = [] })))) (sym h.unmarked)
      (subst (λ l. LeadsTo service AtStart (header_lines schedule) (InHeader (Begun (record schedule { twin = false; marks = None; lasting = l; events = [] })))) (sym h.fleeting)
      (first_lines schedule h (profile_header_lines schedule.profile ++ client_header_lines 1 schedule.clients) last
      (profile_leads schedule schedule.profile h.profile (client_header_lines 1 schedule.clients) last (clients_lead (profiled schedule) schedule.clients h.clients count)))))
