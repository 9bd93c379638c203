-- The invariants of a connection don't depend on other keys: they are preserved if the script, number, entry and reads of its own key are.
use Rattle.std.proofs.Common.{◌≡◌, ◌⊎◌, ℕ, ◌+◌, ◌≤◌, ◌≤ℤ◌, pos, Bool, true, false, refl, sym, ap, ap₂, ◌∙◌, subst, subst₂, Some, List, [], length, slice_get}
use Rattle.ft_io.specs.declared.Key.{Key}
use Rattle.ft_io.specs.Key.{key_eq}
use Rattle.seq_arith.specs.Packet.{Segment}
use Rattle.seq_arith.specs.Message.{Kept, Body}
use Rattle.seq_arith.specs.Message.Body.{OpenMsg, OpenedMsg, DataMsg, StableMsg, ReadMsg, ReadsMsg}
use Rattle.server_trait.specs.Service.{Machine, reference}
use Rattle.ft_model.specs.Client.{Client}
use Rattle.ft_model.specs.Growth.{IsPrefix, units_in, lengths_in}
use Rattle.ft_model.specs.Log.{Log, Entry, entry_of}
use Rattle.ft_model.specs.Network.{Packet, source_of, destination_of}
use Rattle.ft_model.specs.Network.Packet.{To_server, To_client, To_logger, From_logger}
use Rattle.ft_model.specs.Node.{Place, key_of}
use Rattle.ft_model.specs.Node.Place.{Opens, Lives, Ended}
use Rattle.ft_model.specs.Offset.{one_if, ack_of}
use Rattle.ft_model.proofs.Authored.{logged_run, CarriesOutput, IsSpoken, Speaks, ReadFits, PlaceRuns}
use Rattle.ft_model.proofs.AuthorOver.{ReadOf, EntryOf}
use Rattle.ft_model.proofs.Backed.{run_units, logged_output, BodyBacked, PacketBacked, EntryBacked, PlaceBacked}
use Rattle.ft_model.proofs.Faithful.{BodyFits, AnswerFits, PacketFits, PlaceFits, IsKept}
use Rattle.ft_model.proofs.FaithfulKept.{ClientFits}
use Rattle.ft_model.proofs.Scripts.{FitsScript, PartFits, EntryFits, HasTaken}
use Rattle.ft_model.proofs.Seen.{HoldsOf, IsSeen}
use Rattle.ft_model.specs.Offset.{text_of, fin_of}
use Rattle.long_laws.specs.LongTrace.{is_about, concerns, IsEnded}

module _ {State : Type 0} (service : Machine State) (key : Key) (script more : Key → List ℕ) (isn also : Key → ℕ) (log now : Log)
    (same_script : (k : Key) → key_eq k key ≡ false → script k ≡ more k) (same_isn : (k : Key) → key_eq k key ≡ false → isn k ≡ also k)
    (same_entry : (k : Key) → key_eq k key ≡ false → entry_of k log ≡ entry_of k now) where
  run_there : (k : Key) → key_eq k key ≡ false → logged_run service script log k ≡ logged_run service more now k
  run_there k a = ap₂ (λ s o. reference service s (lengths_in o)) (same_script k a) (same_entry k a)

  kept_there : (kept : Kept) → key_eq kept.key key ≡ false → IsKept log kept → IsKept now kept
  kept_there kept a f =
      (subst (λ o. kept.length + one_if kept.fin ≤ units_in o) (same_entry kept.key a) f.0, subst (λ o. kept.reads ≤ length (lengths_in o)) (same_entry kept.key a) f.1)

  asked_there : (body : Body) → is_about key body ≡ false → BodyFits script isn body → BodyFits more also body
  asked_there (OpenMsg n) a f = f ∙ same_isn n.key a
  asked_there (DataMsg part) a f = subst (λ s. PartFits s part) (same_script part.key a) f
  asked_there _ a f = tt

  reported_there : (body : Body) → is_about key body ≡ false → AnswerFits log body → AnswerFits now body
  reported_there (OpenedMsg n) a f = (f.0, sym (same_entry n.key a) ∙ f.1, f.2, f.3)
  reported_there (StableMsg kept) a f = kept_there kept a f
  reported_there (ReadsMsg kept) a f = kept_there kept a f
  reported_there _ a f = tt

  pub packet_fits : (p : Packet) → concerns key p ≡ false → PacketFits script isn log p → PacketFits more also now p
  packet_fits (To_server segment) a f = subst₂ (λ s i. FitsScript s i segment) (same_script (source_of segment) a) (same_isn (source_of segment) a) f
  packet_fits (To_client segment) a f = tt
  packet_fits (To_logger message) a f = asked_there message.body a f
  packet_fits (From_logger message) a f = reported_there message.body a f

  pub entry_fits : (e : Entry) → key_eq e.key key ≡ false → EntryFits (script e.key) (isn e.key) e → EntryFits (more e.key) (also e.key) e
  entry_fits e a f = subst₂ (λ s i. EntryFits s i e) (same_script e.key a) (same_isn e.key a) f

  pub client_fits : (c : Client) → key_eq c.key key ≡ false → ClientFits script isn c → ClientFits more also c
  client_fits c a f = (f.0 ∙ same_script c.key a, f.1 ∙ same_isn c.key a, f.2)

  pub place_fits : (place : Place) → (key_eq (key_of place) key ≡ true → IsEnded place) → PlaceFits script isn log place → PlaceFits more also now place
  place_fits (Lives p) clear f = on (key_eq p.key key) refl
    where
      on : (b : Bool) → key_eq p.key key ≡ b → PlaceFits more also now (Lives p)
      on true e = absurd (clear e)
      on false e = (
        subst₂ (λ s i. HasTaken s i p) (same_script p.key e) (same_isn p.key e) f.0,
        record { entry = f.1.entry; found = sym (same_entry p.key e) ∙ f.1.found; sisn = f.1.sisn; answered = f.1.answered; reads = f.1.reads },
      )
  place_fits (Opens n timestamping) clear f = on (key_eq n.key key) refl
    where
      on : (b : Bool) → key_eq n.key key ≡ b → n.cisn ≡ also n.key
      on true e = absurd (clear e)
      on false e = f ∙ same_isn n.key e
  place_fits (Ended k) clear f = tt

  spoken_there : (k : Key) (segment : Segment) → key_eq k key ≡ false → IsSpoken service script log k segment → IsSpoken service more now k segment
  spoken_there k segment a s = record {
    entry = s.entry;
    found = sym (same_entry k a) ∙ s.found;
    syn = s.syn;
    text = subst (λ r. CarriesOutput r s.entry.sisn segment ⊎ ((text_of segment ≡ []) × (fin_of segment ≡ false))) (run_there k a) s.text;
  }

  pub speaks : (p : Packet) → concerns key p ≡ false → Speaks service script log p → Speaks service more now p
  speaks (To_client segment) a s = λ r. spoken_there (destination_of segment) segment a (s r)
  speaks (To_server segment) a s = tt
  speaks (To_logger message) a s = tt
  speaks (From_logger message) a s = tt

  output_there : (k : Key) → key_eq k key ≡ false → logged_output service script log k ≡ logged_output service more now k
  output_there k a = ap run_units (run_there k a)

  body_backed : (body : Body) → is_about key body ≡ false → BodyBacked service script log body → BodyBacked service more now body
  body_backed (DataMsg part) a f = subst (λ n. part.acked ≤ n) (output_there part.key a) f
  body_backed _ a f = tt

  pub packet_backed : (p : Packet) → concerns key p ≡ false → PacketBacked service script log p → PacketBacked service more now p
  packet_backed (To_server segment) a b = λ r.
      let x = b r in
      (x.0, sym (same_entry (source_of segment) a) ∙ x.1, subst (λ n. ack_of x.0.sisn segment ≤ℤ pos n) (output_there (source_of segment) a) x.2)
  packet_backed (To_logger message) a b = body_backed message.body a b
  packet_backed (To_client segment) a b = tt
  packet_backed (From_logger message) a b = tt

  pub entry_backed : (e : Entry) → key_eq e.key key ≡ false → EntryBacked service script log e → EntryBacked service more now e
  entry_backed e a b = subst (λ n. e.acknowledged ≤ n) (output_there e.key a) b

  pub place_backed : (place : Place) → (key_eq (key_of place) key ≡ true → IsEnded place) → PlaceBacked service script log place → PlaceBacked service more now place
  place_backed (Lives p) clear b = on (key_eq p.key key) refl
    where
      on : (t : Bool) → key_eq p.key key ≡ t → p.una ≤ logged_output service more now p.key
      on true e = absurd (clear e)
      on false e = subst (λ n. p.una ≤ n) (output_there p.key e) b
  place_backed (Opens n timestamping) clear b = tt
  place_backed (Ended k) clear b = tt

  pub client_sees : (c : Client) → key_eq c.key key ≡ false → IsSeen service script log c → IsSeen service more now c
  client_sees c a s = record {
    front = subst (λ r. IsPrefix c.accepted r.output) (run_there c.key a) s.front;
    ended = λ e. subst (λ r. (r.closed ≡ true) × (c.accepted ≡ r.output)) (run_there c.key a) (s.ended e);
    holds = subst (λ r. HoldsOf r (length c.accepted) c.early) (run_there c.key a) s.holds;
    sisn = λ o. let x = s.sisn o in (x.0, sym (same_entry c.key a) ∙ x.1, x.2);
    unlogged = λ n. s.unlogged (same_entry c.key a ∙ n);
  }

-- the same of the reads
module _ {State : Type 0} (service : Machine State) (key : Key) (old new : Key → List ℕ) (same : (k : Key) → key_eq k key ≡ false → old k ≡ new k) where
  pub entry_of_author : (e : Entry) → key_eq e.key key ≡ false → EntryOf old e → EntryOf new e
  entry_of_author e a f = (subst (IsPrefix e.lengths) (same e.key a) f.0, f.1)

  pub read_there : (body : Body) → is_about key body ≡ false → ReadFits old body → ReadFits new body
  read_there (ReadMsg k index n) a f = subst (λ l. slice_get l index ≡ Some n) (same k a) f
  read_there _ a f = tt

  pub read_of_author : (boot : ℕ) (p : Packet) → concerns key p ≡ false → ReadOf old boot p → ReadOf new boot p
  read_of_author boot (To_logger message) a f = λ e. read_there message.body a (f e)
  read_of_author boot (To_server segment) a f = tt
  read_of_author boot (To_client segment) a f = tt
  read_of_author boot (From_logger message) a f = tt

  pub place_runs : (place : Place) → (key_eq (key_of place) key ≡ true → IsEnded place) → PlaceRuns service old place → PlaceRuns service new place
  place_runs (Lives p) clear f = on (key_eq p.key key) refl
    where
      on : (b : Bool) → key_eq p.key key ≡ b → PlaceRuns service new (Lives p)
      on true e = absurd (clear e)
      on false e = (sym (same p.key e) ∙ f.0, f.1)
  place_runs (Opens n timestamping) clear f = on (key_eq n.key key) refl
    where
      on : (b : Bool) → key_eq n.key key ≡ b → new n.key ≡ []
      on true e = absurd (clear e)
      on false e = sym (same n.key e) ∙ f
  place_runs (Ended k) clear f = tt
