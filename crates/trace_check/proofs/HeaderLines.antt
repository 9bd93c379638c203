-- Each line of a header leads on, or decides about the text.
use Rattle.std.proofs.Common.{◌≡◌, ℕ, suc, ◌+◌, ◌-◌, ◌<◌, ◌≤◌, true, false, inl, inr, None, Some, List, [], ◌∷◌, ◌++◌, codes, take, drop, length, length-append, append_assoc, append-nil, refl, sym, ap, ap₂, ◌∙◌, subst, arith}
use Rattle.std.specs.Str.{bytes_eq}
use Rattle.std.proofs.lemmas.List.{take-append-drop, length-take-le, take-take}
use Rattle.server_trait.specs.Service.{Machine}
use Rattle.tcp_rules.specs.declared.profile.Profile.TheVariants.{Plain, Wan}
use Rattle.ft_model.specs.declared.line.Draft.{Draft}
use Rattle.ft_model.specs.declared.line.Draft.TheVariants.{Empty, Named, Begun}
use Rattle.ft_model.specs.declared.line.Line.TheVariants as says
use Rattle.ft_model.specs.declared.schedule.Schedule.{Schedule}
use Rattle.ft_model.specs.declared.schedule.ServiceKind.{ServiceKind}
use Rattle.report_laws.specs.declared.Law.{Law}
use Rattle.report_laws.specs.declared.Law.TheVariants as law
use Rattle.report_laws.specs.Canonical.{HeaderAccepted, IsCanonical, canonical_line, schedule_bytes}
use Rattle.report_laws.specs.Lines.{lines_in}
use Rattle.report_laws.specs.Transitions.{Position, Step, LineGives, AfterTurn, HeaderLine, is_header_line, pieces}
use Rattle.report_laws.specs.Transitions.Position.{AtStart, InHeader}
use Rattle.report_laws.specs.Transitions.Step.{Continues, Rejects}
use Rattle.report_laws.specs.Verdict.{RejectedFrom, IsRejected}
use Rattle.report_laws.proofs.Turns.{if_true, if_false}
use Rattle.report_laws.proofs.Accepted.{more_accepted, client_text}
use Rattle.report_laws.proofs.ProfileLines.{IsNaming, profile_stands, profile_text, profile_accepted}
use Rattle.line_check.specs.HeaderText.{IsHeaderSoFar, header_so_far}
use Rattle.line_check.proofs.HeaderLines.{header_is, service_follows}
use Rattle.trace_check.specs.After.{first_of, IsAfter}
use Rattle.trace_check.specs.Leads.{Leads, IsReadTo, Belongs, EndsHeader}
use Rattle.trace_check.proofs.TextLines.{nothing_after}

-- a longer front is the shorter one and what stands between
pub front_grows : (text : List ℕ) (at end : ℕ) → at ≤ end → take end text ≡ take at text ++ drop at (take end text)
front_grows text at end h = sym (take-append-drop at (take end text)) ∙ ap (λ t. t ++ drop at (take end text)) (take-take at end text h)

-- an accepted line makes the header longer
grows : (draft : Draft) (line : List ℕ) (schedule : Schedule) → IsHeaderSoFar draft → HeaderLine draft line (Continues (InHeader (Begun schedule)))
    → IsHeaderSoFar (Begun schedule) × (header_so_far (Begun schedule) ≡ header_so_far draft ++ line)
grows Empty line schedule h gives = absurd h
grows (Named kind) line schedule h (inr (never, e)) = absurd (cc)
grows (Begun before) line schedule h (inr (never, e)) = absurd (cc)
grows (Named kind) line schedule h (inl (at, c, e)) =
    let own : Schedule = record { service = kind; server = at; profile = Plain; twin = false; marks = None; lasting = None; clients = []; events = [] } in
    let same : schedule ≡ own = cc in
    let a : List ℕ = canonical_line Empty (says.Service kind) in
    let b : List ℕ = canonical_line (Named kind) (says.Server at) in
    let accepted : HeaderAccepted own = record {
      one_logger = refl;
      unmarked = refl;
      fleeting = refl;
      service = service_follows kind;
      server = subst (IsCanonical (Named kind) (says.Server at)) c.spelled c;
      profile = tt;
      clients = tt;
    } in
    let text : header_so_far (Begun own) ≡ header_so_far (Named kind) ++ line =
    ap (λ t. codes "ftreplay 1\n" ++ (a ++ t)) (append-nil b ∙ sym c.spelled) ∙ sym (append_assoc (codes "ftreplay 1\n") a line) in
    subst (λ s. IsHeaderSoFar (Begun s) × (header_so_far (Begun s) ≡ header_so_far (Named kind) ++ line)) (sym same) ((accepted, refl), text)
grows (Begun before) line schedule h (inl (says.Service kind, c, e)) = absurd c.0
grows (Begun before) line schedule h (inl (says.Server at, c, e)) = absurd c.0
grows (Begun before) line schedule h (inl (says.Twin, c, e)) = absurd c.0
grows (Begun before) line schedule h (inl (says.Marks every, c, e)) = absurd c.0
grows (Begun before) line schedule h (inl (says.Lasting waits, c, e)) = absurd c.0
grows (Begun before) line schedule h (inl (says.Event x, c, e)) = absurd c.0
grows (Begun before) line schedule h (inl (says.Profile profile, c, e)) =
    let naming : IsNaming before profile = profile_stands before (take (length line - 1) line) profile c.1.accepted in
    let wide : IsNaming before Wan = record { named = refl; unnamed = naming.unnamed; alone = naming.alone } in
    let named : IsCanonical (Begun before) (says.Profile Wan) line = subst (λ p. IsCanonical (Begun before) (says.Profile p) line) naming.named c.1 in
    let later : Schedule = record before { profile = Wan } in
    let said : schedule ≡ record before { profile = profile } = cc in
    let same : schedule ≡ later = said ∙ ap (λ p. let s : Schedule = record before { profile = p } in s) naming.named in
    let accepted : HeaderAccepted later = profile_accepted before h.0 wide h.1 (subst (IsCanonical (Begun before) (says.Profile Wan)) named.spelled named) in
    let text : header_so_far (Begun later) ≡ header_so_far (Begun before) ++ line =
    sym (header_is later h.0.one_logger h.0.unmarked h.0.fleeting h.1)
    ∙ sym (profile_text before (header_so_far (Begun before)) line wide h.0.one_logger h.0.unmarked h.0.fleeting (sym (header_is before h.0.one_logger h.0.unmarked h.0.fleeting h.1)) named.spelled) in
    subst (λ s. IsHeaderSoFar (Begun s) × (header_so_far (Begun s) ≡ header_so_far (Begun before) ++ line)) (sym same) ((accepted, h.1), text)
grows (Begun before) line schedule h (inl (says.Client client, c, e)) =
    let later : Schedule = record before { clients = before.clients ++ client ∷ [] } in
    let same : schedule ≡ later = cc in
    let accepted : HeaderAccepted later = more_accepted before client h.0 h.1 (subst (IsCanonical (Begun before) (says.Client client)) c.1.spelled c.1) in
    let text : header_so_far (Begun later) ≡ header_so_far (Begun before) ++ line =
    sym (header_is later h.0.one_logger h.0.unmarked h.0.fleeting h.1) ∙ sym (client_text before client (header_so_far (Begun before)) line (sym (header_is before h.0.one_logger h.0.unmarked h.0.fleeting h.1)) c.1.spelled) in
    subst (λ s. IsHeaderSoFar (Begun s) × (header_so_far (Begun s) ≡ header_so_far (Begun before) ++ line)) (sym same) ((accepted, h.1), text)

module _ {State : Type 0} (service : ℕ → Machine State) where
  -- a line that continues the report leads on
  pub leads_on : (text line rest more : List ℕ) (from to : Position) (lines : ℕ) → Leads service text from rest lines → lines_in rest ≡ line ∷ lines_in more
      → LineGives service from (Some line) (Continues to) → Leads service text to more (lines + 1)
  leads_on text line rest more from to lines l cut gives = record {
    rejects = λ n law r. let same : (lines + 1) + n ≡ lines + suc n = omega arith in
        subst (λ k. IsRejected service text k law) (sym same)
        (l.rejects (suc n) law (subst (λ ls. RejectedFrom service from ls (suc n) law) (sym cut) (inr (to, n, refl, gives, r))));
  }

  -- a line that is rejected decides
  pub line_decides : (text line rest more : List ℕ) (position : Position) (lines : ℕ) (law : Law) → Leads service text position rest lines → lines_in rest ≡ line ∷ lines_in more
      → LineGives service position (Some line) (Rejects law) → IsRejected service text (lines + 1) law
  line_decides text line rest more position lines law l cut gives =
      l.rejects 1 law (subst (λ ls. RejectedFrom service position ls 1 law) (sym cut) (inl (refl, gives)))

  -- .. and so does the text's end
  pub end_decides : (text rest : List ℕ) (position : Position) (lines : ℕ) (law : Law) → Leads service text position rest lines → lines_in rest ≡ []
      → LineGives service position None (Rejects law) → IsRejected service text (lines + 1) law
  end_decides text rest position lines law l none gives =
      l.rejects 1 law (subst (λ ls. RejectedFrom service position ls 1 law) (sym none) (refl, gives))

  start_leads : (text : List ℕ) → Leads service text AtStart text 0
  start_leads text = record {
    rejects = λ n law r. let same : 0 + n ≡ n = omega arith in subst (λ k. IsRejected service text k law) (sym same) r;
  }

  -- the first line
  pub empty_is_rejected : (text : List ℕ) → length text ≡ 0 → IsRejected service text 1 law.End
  empty_is_rejected [] e = end_decides [] [] AtStart 0 law.End (start_leads []) (nothing_after [] 0 refl) refl
  empty_is_rejected (c ∷ text) e = absurd (omega (arith, e))

  pub name_is_read : (text : List ℕ) (at : ℕ) → lines_in text ≡ take at text ∷ lines_in (drop at text) → bytes_eq (take at text) (codes "ftreplay 1\n") ≡ true
      → Leads service text (InHeader Empty) (drop at text) 1
  name_is_read text at cut same =
      leads_on text (take at text) text (drop at text) AtStart (InHeader Empty) 0 (start_leads text) cut (if_true (bytes_eq (take at text) (codes "ftreplay 1\n")) _ _ same refl)

  pub name_is_rejected : (text : List ℕ) (at : ℕ) → lines_in text ≡ take at text ∷ lines_in (drop at text) → bytes_eq (take at text) (codes "ftreplay 1\n") ≡ false
      → IsRejected service text 1 law.Text
  name_is_rejected text at cut other =
      line_decides text (take at text) text (drop at text) AtStart 0 law.Text (start_leads text) cut (if_false (bytes_eq (take at text) (codes "ftreplay 1\n")) _ _ other refl)

  -- the service's line
  pub no_service_is_rejected : (text : List ℕ) (at : ℕ) → at ≡ length text → Leads service text (InHeader Empty) (drop at text) 1 → IsRejected service text 2 law.End
  no_service_is_rejected text at e l = end_decides text (drop at text) (InHeader Empty) 1 law.End l (nothing_after text at e) refl

  pub service_is_rejected : (text : List ℕ) (at end : ℕ) → Leads service text (InHeader Empty) (drop at text) 1 → lines_in (drop at text) ≡ drop at (take end text) ∷ lines_in (drop end text)
      → HeaderLine Empty (drop at (take end text)) (Rejects law.Text) → IsRejected service text 2 law.Text
  service_is_rejected text at end l cut gives = line_decides text (drop at (take end text)) (drop at text) (drop end text) (InHeader Empty) 1 law.Text l cut gives

  pub service_is_read : (text : List ℕ) (at end : ℕ) (kind : ServiceKind) → take at text ≡ codes "ftreplay 1\n" → Leads service text (InHeader Empty) (drop at text) 1
      → lines_in (drop at text) ≡ drop at (take end text) ∷ lines_in (drop end text) → at < end → end ≤ length text
      → HeaderLine Empty (drop at (take end text)) (Continues (InHeader (Named kind))) → IsReadTo service text (Named kind) end 2
  service_is_read text at end kind name l cut more within (inr (never, e)) = absurd (cc)
  service_is_read text at end kind name l cut more within (inl (other, c, e)) =
      let same : kind ≡ other = cc in
      let size : at ≡ 11 = sym (length-take-le at text (omega (arith, more, within))) ∙ ap length name in
      let bytes : drop at (take end text) ≡ schedule_bytes (Named kind) = c.spelled ∙ ap (λ k. schedule_bytes (Named k)) (sym same) in
      record {
        so_far = tt;
        text_is = front_grows text at end (omega (arith, more)) ∙ ap₂ ◌++◌ name bytes;
        within = within;
        late = omega (arith, size, more);
        few = omega (arith, size, more);
        leads = leads_on text (drop at (take end text)) (drop at text) (drop end text) (InHeader Empty) (InHeader (Named kind)) 1 l cut (inl (other, c, e));
      }

  line_gives : (draft : Draft) (line : List ℕ) (step : Step) → IsHeaderSoFar draft → Belongs draft line → HeaderLine draft line step → LineGives service (InHeader draft) (Some line) step
  line_gives Empty line step h belongs gives = absurd h
  line_gives (Named kind) line step h belongs gives = gives
  line_gives (Begun schedule) line step h belongs gives = if_true (is_header_line schedule (pieces line)) _ _ belongs gives

  -- what the reader of the line promises, for the header up to the line
  begins_alike : (text : List ℕ) (at end lines : ℕ) (draft : Draft) → at < end → IsReadTo service text draft at lines → take at (take end text) ≡ header_so_far draft
  begins_alike text at end lines draft more r = take-take at end text (omega (arith, more)) ∙ r.text_is

  pub header_line_is_read : (text : List ℕ) (at end lines : ℕ) (schedule : Schedule) → at < end → end ≤ length text
      → lines_in (drop at text) ≡ drop at (take end text) ∷ lines_in (drop end text)
      → ((draft : Draft) → IsHeaderSoFar draft → take at (take end text) ≡ header_so_far draft → HeaderLine draft (drop at (take end text)) (Continues (InHeader (Begun schedule))))
      → (draft : Draft) → IsReadTo service text draft at lines → Belongs draft (drop at (take end text)) → IsReadTo service text (Begun schedule) end (lines + 1)
  header_line_is_read text at end lines schedule more within cut read draft r belongs =
      let gives : HeaderLine draft (drop at (take end text)) (Continues (InHeader (Begun schedule))) = read draft r.so_far (begins_alike text at end lines draft more r) in
      let g = grows draft (drop at (take end text)) schedule r.so_far gives in
      let late : 12 ≤ at = r.late in
      let few : lines ≤ at = r.few in
      record {
        so_far = g.0;
        text_is = front_grows text at end (omega (arith, more)) ∙ (ap (λ t. t ++ drop at (take end text)) r.text_is ∙ sym g.1);
        within = within;
        late = omega (arith, late, more);
        few = omega (arith, few, more);
        leads = leads_on text (drop at (take end text)) (drop at text) (drop end text) (InHeader draft) (InHeader (Begun schedule)) lines r.leads cut
            (line_gives draft (drop at (take end text)) (Continues (InHeader (Begun schedule))) r.so_far belongs gives);
      }

  pub header_line_is_rejected : (text : List ℕ) (at end lines : ℕ) → at < end
      → lines_in (drop at text) ≡ drop at (take end text) ∷ lines_in (drop end text)
      → ((draft : Draft) → IsHeaderSoFar draft → take at (take end text) ≡ header_so_far draft → HeaderLine draft (drop at (take end text)) (Rejects law.Text))
      → (draft : Draft) → IsReadTo service text draft at lines → Belongs draft (drop at (take end text)) → IsRejected service text (lines + 1) law.Text
  header_line_is_rejected text at end lines more cut read draft r belongs =
      line_decides text (drop at (take end text)) (drop at text) (drop end text) (InHeader draft) lines law.Text r.leads cut
      (line_gives draft (drop at (take end text)) (Rejects law.Text) r.so_far belongs (read draft r.so_far (begins_alike text at end lines draft more r)))

  pub no_server_is_rejected : (text : List ℕ) (at : ℕ) (kind : ServiceKind) → IsReadTo service text (Named kind) at 2 → at ≡ length text → IsRejected service text 3 law.End
  no_server_is_rejected text at kind r e = end_decides text (drop at text) (InHeader (Named kind)) 2 law.End r.leads (nothing_after text at e) refl

-- after a header, a line is what it is after no turns
after_header : {State : Type 0} (service : ℕ → Machine State) (schedule : Schedule) (lines : List (List ℕ)) → EndsHeader schedule lines
    → (step : Step) → AfterTurn schedule [] (first_of lines) step → LineGives service (InHeader (Begun schedule)) (first_of lines) step
after_header service schedule [] ends step gives = gives
after_header service schedule (line ∷ lines) ends step gives = if_false (is_header_line schedule (pieces line)) _ _ ends gives

pub header_leads : {State : Type 0} (service : ℕ → Machine State) (text : List ℕ) (schedule : Schedule) (at lines : ℕ) → IsReadTo service text (Begun schedule) at lines
    → EndsHeader schedule (lines_in (drop at text)) → IsAfter service text schedule [] (drop at text) lines
header_leads service text schedule at lines r ends = record { position = InHeader (Begun schedule); leads = r.leads; gives = after_header service schedule (lines_in (drop at text)) ends }

-- the schedule's own text begins behind the first line
pub header_size : {State : Type 0} (service : ℕ → Machine State) (text : List ℕ) (schedule : Schedule) (at lines : ℕ) → IsReadTo service text (Begun schedule) at lines
    → length (schedule_bytes (Begun schedule)) + 11 ≡ at
header_size service text schedule at lines r =
    let whole : length (take at text) ≡ length (header_so_far (Begun schedule)) = ap length r.text_is in
    let size : length (take at text) ≡ at = length-take-le at text r.within in
    let more : length (header_so_far (Begun schedule)) ≡ 11 + length (schedule_bytes (Begun schedule)) = length-append (codes "ftreplay 1\n") (schedule_bytes (Begun schedule)) in
    omega (arith, whole, size, more)

pub header_ends_with_text : (schedule : Schedule) (text : List ℕ) (at : ℕ) → at ≡ length text → EndsHeader schedule (lines_in (drop at text))
header_ends_with_text schedule text at e = subst (EndsHeader schedule) (sym (nothing_after text at e)) tt

pub header_ends_before : (schedule : Schedule) (text line : List ℕ) (more : List (List ℕ)) (at : ℕ) → lines_in (drop at text) ≡ line ∷ more → is_header_line schedule (pieces line) ≡ false
    → EndsHeader schedule (lines_in (drop at text))
header_ends_before schedule text line more at cut e = subst (EndsHeader schedule) (sym cut) e
