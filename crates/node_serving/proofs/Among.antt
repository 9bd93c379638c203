-- Marks among the packets of a turn without marks.
use Rattle.std.proofs.Common.{◌≡◌, ◌∙◌, ℕ, ◌-◌, Bool, true, false, refl, sym, ap, subst, true≢false, List, [], ◌∷◌, ◌++◌, length, take, drop, map, filter, append_assoc, inl, inr}
use Rattle.std.specs.List.{AllByRecursion, IsDistinct}
use Rattle.std.specs.Map.{keys_of}
use Rattle.std.proofs.lemmas.List.{take-append-drop}
use Rattle.ft_io.specs.declared.Key.{Key}
use Rattle.ft_io.specs.Key.{key_eq}
use Rattle.seq_arith.specs.Mark.{Mark, MarkMessage}
use Rattle.server_trait.specs.Service.{Machine}
use Rattle.seq_arith.specs.declared.kinds.Grammar.{Grammar}
use Rattle.tcp_rules.specs.Profile.{grammar_of}
use Rattle.ft_model.specs.Node.{Node, Input}
use Rattle.ft_model.specs.Node.Input.{Noise_comes, Tick_comes}
use Rattle.ft_model.specs.Opening.{initial_number}
use Rattle.ft_model.specs.ServingTurn.{concerns}
use Rattle.ft_model.specs.Wire.{Wire, wire_by}
use Rattle.ft_model.proofs.Lists.{same_key}
use Rattle.mark_laws.specs.MarkedNode.{MarkedInput}
use Rattle.mark_laws.specs.MarkedNode.MarkedInput.{Plain_comes, Mark_comes}
use Rattle.conn_marks.specs.KeyMarks.{KeyMarks}
use Rattle.conn_marks.specs.MarkSends.{SendsMarks, is_done_wire, mark_wires}
use Rattle.node_serving.specs.declared.serving.Serving.{Serving}
use Rattle.node_serving.specs.Alone.{ServesAlone}
use Rattle.node_serving.specs.MarkedAlone.{AreAmong, IsMarkOf, MarksOnly, IsMarkOfSubject, concerns_marked, plain_input, GoesBesideMarks, AllTickBeside}
use Rattle.node_serving.specs.Openings.{ArePut, all_opens}
use Rattle.node_serving.proofs.MarkedApart.{rests_key, served_alone, opens_of_key}

module _ (Is : Wire → Type 0) where
  pub among_none : (ws : List Wire) → AreAmong Is ws ws
  among_none [] = refl
  among_none (w ∷ ws) = inl (ws, refl, among_none ws)

  among_more : (ms ws : List Wire) → AllByRecursion Is ms → AreAmong Is ws (ms ++ ws)
  among_more [] ws h = among_none ws
  among_more (m ∷ ms) ws h = inr (h.0, among_more ms ws h.1)

  among_front : (front few all : List Wire) → AreAmong Is few all → AreAmong Is (front ++ few) (front ++ all)
  among_front [] few all a = a
  among_front (w ∷ front) few all a = inl (front ++ few, refl, among_front front few all a)

  among_behind : (few all rest : List Wire) → AreAmong Is few all → AreAmong Is (few ++ rest) (all ++ rest)
  among_behind few [] rest a = subst (λ l. AreAmong Is (l ++ rest) rest) (sym a) (among_none rest)
  among_behind few (w ∷ all) rest (inl (front, is, a)) = inl (front ++ rest, ap (λ l. l ++ rest) is, among_behind front all rest a)
  among_behind few (w ∷ all) rest (inr (its, a)) = inr (its, among_behind few all rest a)

  pub among_on : (few mid all : List Wire) → AreAmong Is few mid → AreAmong Is mid all → AreAmong Is few all
  among_on few mid [] a b = subst (AreAmong Is few) b a
  among_on few mid (w ∷ all) a (inr (its, b)) = inr (its, among_on few mid all a b)
  among_on few mid (w ∷ all) a (inl (front, is, b)) = go (λ some x. among_on some front all x b) (subst (AreAmong Is few) is a)
    where
      go : ((some : List Wire) → AreAmong Is some front → AreAmong Is some all) → AreAmong Is few (w ∷ front) → AreAmong Is few (w ∷ all)
      go on (inl (rest, same, x)) = inl (rest, same, on rest x)
      go on (inr (its, x)) = inr (its, on few x)

among_weaker : (P Q : Wire → Type 0) (few all : List Wire) → ((w : Wire) → P w → Q w) → AreAmong P few all → AreAmong Q few all
among_weaker P Q few [] f a = a
among_weaker P Q few (w ∷ all) f (inl (front, is, a)) = inl (front, is, among_weaker P Q front all f a)
among_weaker P Q few (w ∷ all) f (inr (its, a)) = inr (f w its, among_weaker P Q few all f a)

-- marks that are sent stand among what was sent
pub marks_among : (grammar : Grammar) (boot : ℕ) (key : Key) (from : ℕ) (ms : List Mark) (old new : List Wire) → SendsMarks grammar boot key from ms old new → AreAmong (IsMarkOf boot key) old new
marks_among grammar boot key from ms old new sends =
    let Is : Wire → Type 0 = IsMarkOf boot key in
    subst (AreAmong Is old) (sym sends.wires)
    (subst (λ l. AreAmong Is l (take at old ++ (mark_wires boot key ms ++ drop at old))) (take-append-drop at old)
    (among_front Is (take at old) (drop at old) (mark_wires boot key ms ++ drop at old) (among_more Is (mark_wires boot key ms) (drop at old) (its ms))))
  where
    at : ℕ
    at = length old - length (filter (is_done_wire grammar) (drop from old))

    its : (ms : List Mark) → AllByRecursion (IsMarkOf boot key) (mark_wires boot key ms)
    its [] = tt
    its (m ∷ ms) = ((m, refl), its ms)

pub marks_nothing : (boot : ℕ) (key : Key) (was : KeyMarks) (reported : List Wire) → MarksOnly boot key was was reported reported
marks_nothing boot key was reported = record { others = λ k other. refl; among = among_none (IsMarkOf boot key) reported }

module _ {S : Type 0} (service : Machine S) (node : Node) where
  -- an input that is about one key: its turn without marks, and then its marks
  pub goes_beside : (i : MarkedInput) (key : Key) (was now : Serving S) (marks later : KeyMarks) (old mid new : List Wire) → concerns_marked node i key ≡ true
      → ServesAlone service node (plain_input i) was now old mid → MarksOnly node.boot key marks later mid new → GoesBesideMarks service node i was now marks later old new
  goes_beside i key was now marks later old mid new about s m = record {
    reported = s.reported;
    others = s.others;
    alone = s.alone;
    among = subst (λ l. AreAmong (IsMarkOfSubject node i) l new) s.put (among_weaker (IsMarkOf node.boot key) (IsMarkOfSubject node i) mid new (λ w its. (key, about, its)) m.among);
    markings = λ k none. m.others k (apart k (key_eq k key) refl none);
  }
    where
      apart : (k : Key) (b : Bool) → key_eq k key ≡ b → concerns_marked node i k ≡ false → key_eq k key ≡ false
      apart k false same none = same
      apart k true same none = absurd (true≢false (sym (subst (λ x. concerns_marked node i x ≡ true) (sym (same_key k key same)) about) ∙ none))

  -- a turn in which no mark is sent
  pub goes_unmarked : (i : MarkedInput) (was now : Serving S) (marks : KeyMarks) (old new : List Wire) → ServesAlone service node (plain_input i) was now old new
      → GoesBesideMarks service node i was now marks marks old new
  goes_unmarked i was now marks old new s = record {
    reported = s.reported;
    others = s.others;
    alone = s.alone;
    among = subst (λ l. AreAmong (IsMarkOfSubject node i) l new) s.put (among_none (IsMarkOfSubject node i) new);
    markings = λ k none. refl;
  }

  -- an input that is about no key changes nothing
  pub idle_alone : (input : Input) (was : Serving S) (opened : ℕ) → was.next.0 ≡ initial_number node.isn opened → ((key : Key) → concerns node input key ≡ false) → ServesAlone service node input was was [] []
  idle_alone input was opened number none = record {
    reported = [];
    put = refl;
    others = record { slots = λ key other. refl; whose = tt };
    alone = λ key place st near. rests_key service node input key place was was [] opened number (none key) st refl refl;
  }

  pub rests_unmarked : (message : MarkMessage) (was : Serving S) (marks : KeyMarks) (reported : List Wire) → reported ≡ [] → (opened : ℕ) → was.next.0 ≡ initial_number node.isn opened
      → GoesBesideMarks service node (Mark_comes message) was was marks marks reported reported
  rests_unmarked message was marks reported none opened number =
      subst (λ (l : List Wire). GoesBesideMarks service node (Mark_comes message) was was marks marks l l) (sym none)
      (goes_unmarked (Mark_comes message) was was marks [] [] (idle_alone Noise_comes was opened number (λ key. refl)))

  -- a tick of all, and the Opens after it
  pub ticks_beside : (was now : Serving S) (marks : KeyMarks) (opened : ℕ) (old mid new : List Wire) → was.next.0 ≡ initial_number node.isn opened → IsDistinct key_eq (keys_of now.slots.entries)
      → AllTickBeside service node was.slots.entries now.slots.entries old mid → ArePut (grammar_of node.profile) (all_opens node Tick_comes now.slots.entries) mid new
      → GoesBesideMarks service node (Plain_comes Tick_comes) was now marks marks old new
  ticks_beside was now marks opened old mid new number distinct t asked = record {
    reported = s.reported;
    others = s.others;
    alone = s.alone;
    among = subst (λ l. AreAmong Is (old ++ l) new) s.put
        (subst (λ l. AreAmong Is l new) (append_assoc old t.reported opens)
        (subst (AreAmong Is ((old ++ t.reported) ++ opens)) (sym asked.wires) (among_behind Is (old ++ t.reported) mid opens t.among)));
    markings = λ k none. refl;
  }
    where
      Is : Wire → Type 0
      Is = IsMarkOfSubject node (Plain_comes Tick_comes)

      opens : List Wire
      opens = map (wire_by (grammar_of node.profile)) (all_opens node Tick_comes now.slots.entries)

      s : ServesAlone service node Tick_comes was now [] (t.reported ++ opens)
      s = served_alone service node Tick_comes was now [] t.reported (t.reported ++ opens) opened number
          (λ key. opens_of_key node Tick_comes key now.slots.entries distinct asked.spelled) (λ key place st about. (refl, refl)) t.slots (record { wires = refl; spelled = asked.spelled })

  -- one slot's tick more
  pub tick_among : (key : Key) (start sofar reported cur mid new : List Wire) → AreAmong (IsMarkOfSubject node (Plain_comes Tick_comes)) (start ++ sofar) cur → mid ≡ cur ++ reported
      → AreAmong (IsMarkOf node.boot key) mid new → AreAmong (IsMarkOfSubject node (Plain_comes Tick_comes)) (start ++ (sofar ++ reported)) new
  tick_among key start sofar reported cur mid new a put b =
      let Is : Wire → Type 0 = IsMarkOfSubject node (Plain_comes Tick_comes) in
      subst (λ l. AreAmong Is l new) (append_assoc start sofar reported)
      (among_on Is ((start ++ sofar) ++ reported) (cur ++ reported) new (among_behind Is (start ++ sofar) cur reported a)
      (among_weaker (IsMarkOf node.boot key) Is (cur ++ reported) new (λ w its. (key, refl, its)) (subst (λ l. AreAmong (IsMarkOf node.boot key) l new) put b)))
