-- The invariants are preserved when the server sends a keep-alive: it acknowledges again what it acknowledged last.
use Rattle.std.proofs.Common.{◌≡◌, ℕ, ◌+◌, ◌≤◌, Bool, true, false, ◌&&◌, not, refl, sym, ap, ◌∙◌, subst, true≢false, inr, Some, None, List, [], ◌∷◌, ◌++◌, length, arith, if◌then◌else◌}
use Rattle.std.specs.List.{AllByRecursion}
use Rattle.ft_io.specs.declared.Addr.{Addr}
use Rattle.ft_io.specs.declared.Key.{Key}
use Rattle.ft_io.specs.Key.{key_eq}
use Rattle.seq_arith.specs.Number.{number_at}
use Rattle.seq_arith.specs.Packet.{Segment, has_ack, has_rst}
use Rattle.server_trait.specs.Service.{Machine}
use Rattle.ft_model.specs.Masked.{AcknowledgesLogged, last_reported, or_before}
use Rattle.ft_model.specs.Network.{Packet}
use Rattle.ft_model.specs.Network.Packet.{To_client}
use Rattle.ft_model.specs.Node.{Place, Stage, key_of, place_at}
use Rattle.ft_model.specs.Node.Place.{Opens, Lives, Ended}
use Rattle.ft_model.specs.Node.Stage.{Asking, Fetching, Serving, Fenced}
use Rattle.ft_model.specs.Offset.{one_if}
use Rattle.ft_model.specs.Point.{Point, acknowledgement}
use Rattle.ft_model.specs.World.{World}
use Rattle.ft_model.proofs.Acknowledged.{fit_acknowledges}
use Rattle.ft_model.proofs.Asked.{Agrees}
use Rattle.ft_model.proofs.Authored.{Speaks}
use Rattle.ft_model.proofs.AuthorOver.{ReadOf}
use Rattle.ft_model.proofs.Backed.{PacketBacked}
use Rattle.ft_model.proofs.Exact.{same_exact}
use Rattle.ft_model.proofs.Faithful.{PacketFits, PlaceFits, StageFits, IsFit, acknowledges_units}
use Rattle.ft_model.proofs.Fenced.{HasBoot, IsNoChange}
use Rattle.ft_model.proofs.Lists.{all_append, all_weaker, all_find, same_key}
use Rattle.ft_model.proofs.ReportedLast.{WasReported, last_append}
use Rattle.ft_model.proofs.ReportedOver.{StageReported}
use Rattle.long_laws.specs.LongTrace.{places_at, keep_alive, SendsKeepAlive}
use Rattle.long_laws.proofs.Stands.{Stands, AreSame, Shown}

-- what holds of a stage's places
fits_in : (script : Key → List ℕ) (isn : Key → ℕ) (w : World) (stage : Stage) → StageFits script isn w.log stage → AllByRecursion (PlaceFits script isn w.log) (places_at stage)
fits_in script isn w (Serving opened places) f = f
fits_in script isn w Asking f = tt
fits_in script isn w (Fetching count fetched) f = tt
fits_in script isn w (Fenced newer) f = tt

-- a live connection's place
pub lives_fit : (script : Key → List ℕ) (isn : Key → ℕ) (w : World) (stage : Stage) (key : Key) (p : Point) → StageFits script isn w.log stage → place_at key (places_at stage) ≡ Some (Lives p)
    → PlaceFits script isn w.log (Lives p)
lives_fit script isn w stage key p f at = all_find (PlaceFits script isn w.log) (λ place. key_eq (key_of place) key) (places_at stage) (Lives p) (fits_in script isn w stage f) at

reported_in : (packets : List Packet) (stage : Stage) → StageReported packets stage → AllByRecursion (WasReported packets) (places_at stage)
reported_in packets (Serving opened places) t = t
reported_in packets Asking t = tt
reported_in packets (Fetching count fetched) t = tt
reported_in packets (Fenced newer) t = tt

module _ {State : Type 0} (service : Machine State) (w : World) (server : Addr) (p : Point) (packets : List Packet)
    (was : last_reported p.key packets ≡ Some (number_at p.cisn (acknowledgement p))) where
  one : Packet
  one = To_client (keep_alive server p)

  -- the same again, and nothing to others
  said_to : (q : Point) (b : Bool) → key_eq p.key q.key ≡ b → last_reported q.key packets ≡ Some (number_at q.cisn (acknowledgement q))
      → last_reported q.key (packets ++ To_client (keep_alive server p) ∷ []) ≡ Some (number_at q.cisn (acknowledgement q))
  said_to q true e t =
      last_append q.key packets (To_client (keep_alive server p) ∷ [])
      ∙ (ap (λ b. or_before (if b && has_ack (keep_alive server p) && not (has_rst (keep_alive server p)) then Some (number_at p.cisn (acknowledgement p)) else None) (last_reported q.key packets)) e
      ∙ (sym was ∙ (ap (λ k. last_reported k packets) (same_key p.key q.key e) ∙ t)))
  said_to q false e t =
      last_append q.key packets (To_client (keep_alive server p) ∷ [])
      ∙ (ap (λ b. or_before (if b && has_ack (keep_alive server p) && not (has_rst (keep_alive server p)) then Some (number_at p.cisn (acknowledgement p)) else None) (last_reported q.key packets)) e ∙ t)

  place_reported : (place : Place) → WasReported packets place → WasReported (packets ++ To_client (keep_alive server p) ∷ []) place
  place_reported (Lives q) t = λ r. said_to q (key_eq p.key q.key) refl (t r)
  place_reported (Opens n timestamping) t = tt
  place_reported (Ended k) t = tt

  pub stage_reported : (stage : Stage) → StageReported packets stage → StageReported (packets ++ To_client (keep_alive server p) ∷ []) stage
  stage_reported (Serving opened places) t = all_weaker (WasReported packets) (WasReported (packets ++ To_client (keep_alive server p) ∷ [])) places place_reported t
  stage_reported Asking t = tt
  stage_reported (Fetching count fetched) t = tt
  stage_reported (Fenced newer) t = tt

pub stands_kept_alive : {State : Type 0} (service : Machine State) (key : Key) (w : World) (sent : List Packet) (after : World) → Stands service w → (l : SendsKeepAlive key w sent after)
    → Stands service (record w { packets = w.packets ++ To_client (keep_alive l.node.server l.point) ∷ [] })
stands_kept_alive service key w sent after o l =
    let p : Point = l.point in
    let server : Addr = l.node.server in
    let seg : Segment = keep_alive server p in
    let fit : PlaceFits o.script o.isn w.log (Lives p) = lives_fit o.script o.isn w l.node.stage key p (o.faithful.stage l.node l.up) l.lives in
    let reported : WasReported w.packets (Lives p) =
    all_find (WasReported w.packets) (λ place. key_eq (key_of place) key) (places_at l.node.stage) (Lives p) (reported_in w.packets l.node.stage (o.reporting l.node l.up)) l.lives in
    let speaks : Speaks service o.script w.log (To_client seg) =
    λ r. record { entry = fit.1.entry; found = fit.1.found; syn = λ e. absurd (true≢false (sym e)); text = inr (refl, refl) } in
    record {
      script = o.script;
      isn = o.isn;
      short = o.short;
      fenced = record {
        log = o.fenced.log;
        packets = all_append (HasBoot w.boot w.log.boot) w.packets (To_client seg ∷ []) o.fenced.packets (tt, tt);
        node = λ n e. let x = o.fenced.node n e in
            record { boot = x.boot; logged = x.logged; quiet = λ r. all_append (IsNoChange n.boot) w.packets (To_client seg ∷ []) (x.quiet r) (tt, tt) };
      };
      asked = record {
        distinct = o.asked.distinct;
        node = λ n e r. let x = o.asked.node n e r in
            record { packets = all_append (Agrees n.boot w.log.entries) w.packets (To_client seg ∷ []) x.packets (tt, tt); fetched = x.fetched };
      };
      faithful = record {
        clients = o.faithful.clients;
        packets = all_append (PacketFits o.script o.isn w.log) w.packets (To_client seg ∷ []) o.faithful.packets (tt, tt);
        entries = o.faithful.entries;
        stage = o.faithful.stage;
      };
      distinct = o.distinct;
      author = record {
        author = o.author.author;
        entries = o.author.entries;
        short = o.author.short;
        reads = all_append (ReadOf o.author.author w.log.boot) w.packets (To_client seg ∷ []) o.author.reads (tt, tt);
        spoken = all_append (Speaks service o.script w.log) w.packets (To_client seg ∷ []) o.author.spoken (speaks, tt);
        stage = o.author.stage;
      };
      sees = o.sees;
      backed = record {
        packets = all_append (PacketBacked service o.script w.log) w.packets (To_client seg ∷ []) o.backed.packets (tt, tt);
        entries = o.backed.entries;
        stage = o.backed.stage;
      };
      reporting = λ n e. stage_reported service w server p w.packets (reported l.unreset) n.stage (o.reporting n e);
    }

pub same_kept_alive : {State : Type 0} (service : Machine State) (key : Key) (w : World) (sent : List Packet) (after : World) (o : Stands service w) (l : SendsKeepAlive key w sent after)
    → AreSame o (stands_kept_alive service key w sent after o l)
unfolding stands_kept_alive
same_kept_alive service key w sent after o l = (refl, refl)

pub keep_alive_shown : {State : Type 0} (service : Machine State) (key : Key) (w : World) (sent : List Packet) (after : World) → Stands service w → SendsKeepAlive key w sent after → Shown service w sent after
keep_alive_shown service key w sent after o l =
    let p : Point = l.point in
    let server : Addr = l.node.server in
    let seg : Segment = keep_alive server p in
    let fit : PlaceFits o.script o.isn w.log (Lives p) = lives_fit o.script o.isn w l.node.stage key p (o.faithful.stage l.node l.up) l.lives in
    let within : IsFit o.script o.isn w.log (To_client seg) = (
      tt,
      acknowledges_units o.script o.isn w.log seg p.key fit.1.entry (acknowledgement p) p.cisn o.short o.faithful.entries fit.1.found (low p fit.1.entry.bytes (one_if fit.1.entry.fin) fit.1.answered) fit.0.cisn refl refl,
    ) in
    subst (Shown service w sent) (sym l.after_is)
    (record {
      stands = stands_kept_alive service key w sent after o l;
      acknowledged = subst (AllByRecursion (AcknowledgesLogged w.log w.clients)) (sym l.sent_is) (fit_acknowledges o.script o.isn w.log w.clients (To_client seg) o.faithful.clients within, tt);
      restart = same_exact service w.log w.node;
    })
  where
    low : (p : Point) (bytes : List ℕ) (f : ℕ) → p.answered ≤ length bytes + f → acknowledgement p ≤ length bytes + f
    low p bytes f a = omega (arith, a)
