-- What the server sends is stored, one packet after another.
use Rattle.std.proofs.Common.{◌≡◌, ◌∙◌, ℕ, sym, ap, ap₂, subst, refl, Bool, true, false, true≢false, Some, Result, Ok, Err, List, [], ◌∷◌, ◌++◌, map, append_assoc, append-nil}
use Rattle.std.proofs.lemmas.List.{map-append}
use Rattle.std.specs.Prelude.{Option, IsErr}
use Rattle.std.specs.List.{AllByRecursion}
use Rattle.ft_io.specs.declared.Key.{Key}
use Rattle.seq_arith.specs.Message.{Message}
use Rattle.seq_arith.specs.MessageGrammar as messages
use Rattle.seq_arith.specs.declared.kinds.BadMsg.{BadMsg}
use Rattle.seq_arith.specs.declared.kinds.Grammar.{Grammar}
use Rattle.seq_arith.proofs.MessageSpelling.{message_is_read}
use Rattle.tcp_rules.specs.Profile.{grammar_of}
use Rattle.ft_model.specs.Network.{destination_of}
use Rattle.ft_model.specs.Network.Packet.{To_server, To_client, To_logger, From_logger}
use Rattle.ft_model.specs.Wire.{Wire, Party}
use Rattle.ft_model.specs.Wire.Party.{A_client, The_server, The_logger}
use Rattle.ft_model.specs.declared.way.Way.{Way}
use Rattle.ft_model.specs.declared.way.Way.TheVariants.{ServerToClient, ServerToLogger}
use Rattle.long_laws.specs.ForgetGrammar as forgets
use Rattle.long_laws.specs.Forgetting.{ForgetMessage}
use Rattle.long_laws.proofs.ForgetNoise.{no_message}
use Rattle.long_laws.proofs.ForgetRead.{forget_is_read}
use Rattle.lasting_laws.specs.LastingReport.{way_of_lasting}
use Rattle.lasting_laws.specs.LastingWorld.{Parcel, LastingWorld, grammar_in, bytes_of, parcel_concerns, under_way, with_sent}
use Rattle.lasting_laws.specs.LastingWorld.Parcel.{Usual, Forget_sent, Forgotten_sent}
use Rattle.lasting_unseen.specs.Written.{IsWritten}
use Rattle.lasting_world.specs.Abouts.{names, said_about, key_said}
use Rattle.lasting_world.specs.Around.{KeptAround, AroundStands, Adds, AddsMessage}
use Rattle.lasting_world.specs.Guests.{last_come}
use Rattle.lasting_world.specs.NetworkStands.{IsWayOf}
use Rattle.lasting_world.specs.Sending.{wire_of_parcel, StoresAll, StoresWires}
use Rattle.lasting_world.proofs.Networks.{adds}
use Rattle.lasting_world.proofs.Visits.{last_is}

abbrev first_or : {A : Type 0} → A → List A → A
first_or d [] = d
first_or d (x ∷ xs) = x

abbrev behind_first : {A : Type 0} → List A → List A
behind_first [] = []
behind_first (x ∷ xs) = xs

abbrev is_nil : {A : Type 0} → List A → Bool
is_nil [] = true
is_nil (x ∷ xs) = false

head_is : {A : Type 0} (x y : A) (xs ys : List A) → x ∷ xs ≡ y ∷ ys → x ≡ y
head_is x y xs ys e = ap (first_or x) e

tail_is : {A : Type 0} (x y : A) (xs ys : List A) → x ∷ xs ≡ y ∷ ys → xs ≡ ys
tail_is x y xs ys e = ap behind_first e

nil_is : {A P : Type 0} (x : A) (xs : List A) → [] ≡ x ∷ xs → P
nil_is x xs e = absurd (true≢false (ap is_nil e))

-- who sends, and who receives
abbrev of_server : Party → Bool
of_server The_server = true
of_server _ = false

abbrev at_logger : Party → Bool
at_logger The_logger = true
at_logger _ = false

abbrev key_in : Key → Party → Key
key_in d (A_client key) = key
key_in d _ = d

another_sends : {P : Type 0} (wire other : Wire) → wire ≡ other → wire.from ≡ The_server → of_server other.from ≡ false → P
another_sends wire other e f n = absurd (true≢false (sym (ap of_server (sym (ap (λ (x : Wire). x.from) e) ∙ f)) ∙ n))

another_receives : {P : Type 0} (to : Party) (wire other : Wire) → wire ≡ other → to ≡ wire.to → (at_logger to ≡ at_logger other.to → ⊥) → P
another_receives to wire other e t n = absurd (n (ap at_logger (t ∙ ap (λ (x : Wire). x.to) e)))

-- nothing is sent
pub none_stored : (before : KeptAround) → StoresWires [] before before
none_stored before = λ w parcels s e a. by w parcels s e
  where
    by : (w : LastingWorld) (parcels : List Parcel) → AroundStands w before → [] ≡ map (wire_of_parcel (grammar_in w)) parcels → StoresAll w parcels before before
    by w [] s e = record {
      stands = subst (λ l. AroundStands (record w { sent = l }) before) (sym (append-nil w.sent)) s;
      ways = sym (append-nil before.network.packets.ways);
      profile = refl;
    }
    by w (p ∷ ps) s e = nil_is (wire_of_parcel (grammar_in w) p) (map (wire_of_parcel (grammar_in w)) ps) e

-- what is sent first, and what is sent then
record Splits (grammar : Grammar) (xs ys : List Wire) (parcels : List Parcel) : Type 0 where
  pub front : List Parcel
  pub rest : List Parcel
  pub both : front ++ rest ≡ parcels
  pub fronts : xs ≡ map (wire_of_parcel grammar) front
  pub rests : ys ≡ map (wire_of_parcel grammar) rest

splits : (grammar : Grammar) (xs ys : List Wire) (parcels : List Parcel) → xs ++ ys ≡ map (wire_of_parcel grammar) parcels → Splits grammar xs ys parcels
splits grammar [] ys parcels e = record { front = []; rest = parcels; both = refl; fronts = refl; rests = e }
splits grammar (x ∷ xs) ys [] e = nil_is x (xs ++ ys) (sym e)
splits grammar (x ∷ xs) ys (p ∷ ps) e =
    let first : x ≡ wire_of_parcel grammar p = head_is x (wire_of_parcel grammar p) (xs ++ ys) (map (wire_of_parcel grammar) ps) e in
    let r : Splits grammar xs ys ps = splits grammar xs ys ps (tail_is x (wire_of_parcel grammar p) (xs ++ ys) (map (wire_of_parcel grammar) ps) e) in
    record { front = p ∷ r.front; rest = r.rest; both = ap (λ l. p ∷ l) r.both; fronts = ap₂ (λ y l. y ∷ l) first r.fronts; rests = r.rests }

all_parts : {A : Type 0} (P : A → Type 0) (xs ys : List A) → AllByRecursion P (xs ++ ys) → AllByRecursion P xs × AllByRecursion P ys
all_parts P [] ys a = (tt, a)
all_parts P (x ∷ xs) ys a = let r = all_parts P xs ys a.1 in ((a.0, r.0), r.1)

joined : (w : LastingWorld) (ps qs : List Parcel) → with_sent qs (with_sent ps w) ≡ with_sent (ps ++ qs) w
joined w ps qs =
    ap (λ l. record w { sent = l })
    (append_assoc w.sent (under_way ps) (under_way qs) ∙ ap (λ l. w.sent ++ l) (sym (map-append (λ parcel. record { parcel = parcel; lost = false }) ps qs)))

pub both_stored : (xs ys : List Wire) (before mid after : KeptAround) → StoresWires xs before mid → StoresWires ys mid after → StoresWires (xs ++ ys) before after
both_stored xs ys before mid after f g = λ w parcels s e a.
    let r : Splits (grammar_in w) xs ys parcels = splits (grammar_in w) xs ys parcels e in
    let written = all_parts (IsWritten (grammar_in w)) r.front r.rest (subst (AllByRecursion (IsWritten (grammar_in w))) (sym r.both) a) in
    let first : StoresAll w r.front before mid = f w r.front s r.fronts written.0 in
    let then_ : StoresAll (with_sent r.front w) r.rest mid after = g (with_sent r.front w) r.rest first.stands r.rests written.1 in
    subst (λ l. StoresAll w l before after) r.both (record {
      stands = subst (λ v. AroundStands v after) (joined w r.front r.rest) then_.stands;
      ways = then_.ways ∙ (ap (λ l. l ++ map (way_of_lasting w.guests) r.rest) first.ways
          ∙ (append_assoc before.network.packets.ways (map (way_of_lasting w.guests) r.front) (map (way_of_lasting w.guests) r.rest)
          ∙ ap (λ l. before.network.packets.ways ++ l) (sym (map-append (way_of_lasting w.guests) r.front r.rest))));
      profile = then_.profile ∙ first.profile;
    })

-- one parcel is stored
pub one_stored : (w : LastingWorld) (p : Parcel) (way : Way) (about : Option Key) (bytes : List ℕ) (before after : KeptAround) → AroundStands w before → Adds way about bytes before after
    → IsWayOf p way → bytes ≡ bytes_of (grammar_in w) p → ((key : Key) → parcel_concerns key p ≡ names about key) → way ≡ way_of_lasting w.guests p → StoresAll w (p ∷ []) before after
one_stored w p way about bytes before after s a goes spells concerns same =
    subst (StoresAll w (p ∷ []) before) (sym a.rest) (record {
      stands = record {
        profile = s.profile;
        guests = s.guests;
        turns = s.turns;
        log = s.log;
        ordered = s.ordered;
        gone = s.gone;
        network = adds (grammar_in w) before.network after.network w.sent way about bytes p a.network goes spells concerns s.network;
      };
      ways = ap (λ k. k.ways) a.network.packets ∙ ap (λ x. before.network.packets.ways ++ x ∷ []) same;
      profile = refl;
    })

-- .. to a client
pub to_client_stored : (key : Key) (wire : Wire) (before after : KeptAround) → wire.from ≡ The_server → A_client key ≡ wire.to
    → Adds (ServerToClient (last_come 1 key 0 before.guests)) (Some key) wire.bytes before after → StoresWires (wire ∷ []) before after
to_client_stored key wire before after from to a = λ w parcels s e written. by w parcels s e
  where
    this : (w : LastingWorld) (p : Parcel) → AroundStands w before → wire ≡ wire_of_parcel (grammar_in w) p → StoresAll w (p ∷ []) before after
    this w (Usual (To_client segment)) s e =
        let its : key ≡ destination_of segment = ap (key_in key) (to ∙ ap (λ (x : Wire). x.to) e) in
        one_stored w (Usual (To_client segment)) (ServerToClient (last_come 1 key 0 before.guests)) (Some key) wire.bytes before after s a tt (ap (λ x. x.bytes) e)
        (λ k. ap (λ j. names (Some j) k) (sym its)) (ap ServerToClient (ap (λ j. last_come 1 j 0 before.guests) its ∙ last_is 1 (destination_of segment) 0 before.guests w.guests s.guests))
    this w (Usual (To_server segment)) s e = another_sends wire (wire_of_parcel (grammar_in w) (Usual (To_server segment))) e from refl
    this w (Usual (To_logger message)) s e = another_receives (A_client key) wire (wire_of_parcel (grammar_in w) (Usual (To_logger message))) e to (λ n. true≢false (sym n))
    this w (Usual (From_logger message)) s e = another_sends wire (wire_of_parcel (grammar_in w) (Usual (From_logger message))) e from refl
    this w (Forget_sent message) s e = another_receives (A_client key) wire (wire_of_parcel (grammar_in w) (Forget_sent message)) e to (λ n. true≢false (sym n))
    this w (Forgotten_sent message) s e = another_sends wire (wire_of_parcel (grammar_in w) (Forgotten_sent message)) e from refl

    by : (w : LastingWorld) (parcels : List Parcel) → AroundStands w before → wire ∷ [] ≡ map (wire_of_parcel (grammar_in w)) parcels → StoresAll w parcels before after
    by w [] s e = nil_is wire [] (sym e)
    by w (p ∷ []) s e = this w p s (head_is wire (wire_of_parcel (grammar_in w) p) [] [] e)
    by w (p ∷ q ∷ ps) s e = nil_is (wire_of_parcel (grammar_in w) q) (map (wire_of_parcel (grammar_in w)) ps) (tail_is wire (wire_of_parcel (grammar_in w) p) [] (map (wire_of_parcel (grammar_in w)) (q ∷ ps)) e)

-- what the spellings of messages say
pub message_said_about : (grammar : Grammar) (message : Message) (key : Key) → messages.IsSpellableBy grammar message
    → key_said grammar (messages.spelling_by grammar message) key ≡ parcel_concerns key (Usual (To_logger message))
message_said_about grammar message key ok =
    ap (λ r. said_about r (forgets.reading (messages.spelling_by grammar message)) key) (message_is_read message ok)

pub forget_said_about : (grammar : Grammar) (message : ForgetMessage) (key : Key) → forgets.IsSpellable message
    → key_said grammar (forgets.spelling message) key ≡ parcel_concerns key (Forget_sent message)
forget_said_about grammar message key ok =
    ap (λ r. said_about (messages.reading_by grammar (forgets.spelling message)) r key) (forget_is_read message ok)
    ∙ refused (messages.reading_by grammar (forgets.spelling message)) (no_message grammar (forgets.spelling message) message (forget_is_read message ok))
  where
    refused : (r : Result Message BadMsg) → IsErr r → said_about r (Ok message) key ≡ parcel_concerns key (Forget_sent message)
    refused (Ok m) e = absurd (true≢false (sym e))
    refused (Err why) e = refl

-- .. to the log
pub to_logger_stored : (wire : Wire) (before after : KeptAround) → wire.from ≡ The_server → The_logger ≡ wire.to → AddsMessage ServerToLogger wire.bytes before after
    → StoresWires (wire ∷ []) before after
to_logger_stored wire before after from to a = λ w parcels s e written. by w parcels s e written
  where
    its_key : (w : LastingWorld) (p : Parcel) (bytes : List ℕ) → AroundStands w before → wire.bytes ≡ bytes → ((key : Key) → key_said (grammar_in w) bytes key ≡ parcel_concerns key p)
        → (key : Key) → parcel_concerns key p ≡ names a.about key
    its_key w p bytes s e said key =
        sym (a.is_about key ∙ (ap (λ x. key_said (grammar_of x) wire.bytes key) s.profile ∙ (ap (λ x. key_said (grammar_in w) x key) e ∙ said key)))

    this : (w : LastingWorld) (p : Parcel) → AroundStands w before → wire ≡ wire_of_parcel (grammar_in w) p → IsWritten (grammar_in w) p → StoresAll w (p ∷ []) before after
    this w (Usual (To_client segment)) s e written = another_receives (The_logger) wire (wire_of_parcel (grammar_in w) (Usual (To_client segment))) e to (λ n. true≢false n)
    this w (Usual (To_server segment)) s e written = another_sends wire (wire_of_parcel (grammar_in w) (Usual (To_server segment))) e from refl
    this w (Usual (To_logger message)) s e written =
        one_stored w (Usual (To_logger message)) ServerToLogger a.about wire.bytes before after s a.adds tt (ap (λ x. x.bytes) e)
        (its_key w (Usual (To_logger message)) (messages.spelling_by (grammar_in w) message) s (ap (λ x. x.bytes) e) (λ key. message_said_about (grammar_in w) message key written.0)) refl
    this w (Usual (From_logger message)) s e written = another_sends wire (wire_of_parcel (grammar_in w) (Usual (From_logger message))) e from refl
    this w (Forget_sent message) s e written =
        one_stored w (Forget_sent message) ServerToLogger a.about wire.bytes before after s a.adds tt (ap (λ x. x.bytes) e)
        (its_key w (Forget_sent message) (forgets.spelling message) s (ap (λ x. x.bytes) e) (λ key. forget_said_about (grammar_in w) message key written)) refl
    this w (Forgotten_sent message) s e written = another_sends wire (wire_of_parcel (grammar_in w) (Forgotten_sent message)) e from refl

    by : (w : LastingWorld) (parcels : List Parcel) → AroundStands w before → wire ∷ [] ≡ map (wire_of_parcel (grammar_in w)) parcels → AllByRecursion (IsWritten (grammar_in w)) parcels
        → StoresAll w parcels before after
    by w [] s e written = nil_is wire [] (sym e)
    by w (p ∷ []) s e written = this w p s (head_is wire (wire_of_parcel (grammar_in w) p) [] [] e) written.0
    by w (p ∷ q ∷ ps) s e written = nil_is (wire_of_parcel (grammar_in w) q) (map (wire_of_parcel (grammar_in w)) ps) (tail_is wire (wire_of_parcel (grammar_in w) p) [] (map (wire_of_parcel (grammar_in w)) (q ∷ ps)) e)
