-- What the life of a key says of the key's quarantine, and so whether a segment is dropped or ends it.
use Rattle.std.proofs.Common.{◌≡◌, ◌∙◌, ℕ, ◌≤◌, ◌-◌, ◌^◌, Bool, true, false, ◌&&◌, nat_le, refl, sym, ap, subst, map, MatchOption, Option, Some, None, List, [], ◌∷◌}
use Rattle.std.proofs.lemmas.Bool.{and_from, or_parts, or_from, or_right}
use Rattle.std.specs.List.{list_any}
use Rattle.ft_io.specs.declared.Addr.{Addr}
use Rattle.ft_io.specs.declared.Key.{Key}
use Rattle.ft_io.specs.Key.{key_eq}
use Rattle.ft_io.proofs.Choices.{by_cases, if_true, if_false}
use Rattle.seq_arith.specs.Packet.{Segment}
use Rattle.ft_model.specs.Keys.{has_key, AreDistinct}
use Rattle.ft_model.specs.Network.{source_of}
use Rattle.ft_model.specs.Node.{Place, is_for}
use Rattle.ft_model.specs.Node.Input.{Packet_comes}
use Rattle.ft_model.specs.Node.Place.{Opens, Lives, Ended}
use Rattle.ft_model.proofs.Lists.{none_is_some, some_is, or_left, same_key}
use Rattle.long_laws.specs.Quarantine.{Quarantined, quarantined_at, is_leaving, is_dropped}
use Rattle.lasting_laws.specs.LastingTurn as law
use Rattle.lasting_lives.specs.declared.life.Life.{Life}
use Rattle.lasting_lives.specs.declared.life.Life.TheVariants as life
use Rattle.lasting_lives.specs.declared.life.Resting.{Resting}
use Rattle.lasting_lives.specs.Known.{LifeStands, IsInQuarantine}
use Rattle.lasting_lives.specs.Lives.{resting_in}
use Rattle.lasting_lives.specs.Watches.{QuarantineStands}
use Rattle.lasting_lives.proofs.Counts.{leaving_is}

of_rest : (n : law.LastingNode) (key : Key) (x r : Resting) (o : Option Quarantined) → quarantined_at key n.quarantine ≡ o → x ≡ r
    → MatchOption o ⊥ (λ q. QuarantineStands x q × (x.end.0 ≡ n.ends key)) → IsInQuarantine n key r
of_rest n key x r None found same st = absurd st
of_rest n key x r (Some q) found same st = record {
  quarantined = q;
  found = found;
  stands = subst (λ y. QuarantineStands y q) same st.0;
  end = ap (λ y. y.end.0) (sym same) ∙ st.1;
}

pub rests_so : (n : law.LastingNode) (key : Key) (o : Option Place) (l : Option Life) (r : Resting) → LifeStands n key o l → resting_in l ≡ Some r → IsInQuarantine n key r
rests_so n key (Some (Lives p)) (Some (life.Watched w)) r st e = none_is_some r e
rests_so n key (Some (Lives p)) (Some (life.Resting x)) r st e = absurd st
rests_so n key (Some (Lives p)) None r st e = absurd st
rests_so n key (Some (Ended k)) (Some (life.Resting x)) r st e = of_rest n key x r (quarantined_at key n.quarantine) refl (some_is x r e) st
rests_so n key (Some (Ended k)) (Some (life.Watched w)) r st e = absurd st
rests_so n key (Some (Ended k)) None r st e = absurd st
rests_so n key (Some (Opens m t)) None r st e = none_is_some r e
rests_so n key (Some (Opens m t)) (Some x) r st e = absurd st
rests_so n key None None r st e = none_is_some r e
rests_so n key None (Some x) r st e = absurd st

pub none_rests : (n : law.LastingNode) (key : Key) (o : Option Place) (l : Option Life) → LifeStands n key o l → resting_in l ≡ None → quarantined_at key n.quarantine ≡ None
none_rests n key (Some (Lives p)) (Some (life.Watched w)) st e = st.0
none_rests n key (Some (Lives p)) (Some (life.Resting x)) st e = absurd st
none_rests n key (Some (Lives p)) None st e = absurd st
none_rests n key (Some (Ended k)) (Some (life.Resting x)) st e = none_is_some x (sym e)
none_rests n key (Some (Ended k)) (Some (life.Watched w)) st e = absurd st
none_rests n key (Some (Ended k)) None st e = absurd st
none_rests n key (Some (Opens m t)) None st e = st
none_rests n key (Some (Opens m t)) (Some x) st e = absurd st
none_rests n key None None st e = st
none_rests n key None (Some x) st e = absurd st

-- a test of the quarantine of a key, among all
module _ (key : Key) (test : Quarantined → Bool) where
  abbrev both : Quarantined → Bool
  both q = key_eq q.named.key key && test q

  pub none_passes : (qs : List Quarantined) → quarantined_at key qs ≡ None → list_any both qs ≡ false
  none_passes [] e = refl
  none_passes (q ∷ qs) e =
      by_cases (key_eq q.named.key key)
      (λ t. none_is_some q (sym e ∙ if_true (key_eq q.named.key key) (Some q) (quarantined_at key qs) t))
      (λ f. or_from (both q) (list_any both qs) (ap (λ b. b && test q) f) (none_passes qs (sym (if_false (key_eq q.named.key key) (Some q) (quarantined_at key qs) f) ∙ e)))

  pub its_passes : (qs : List Quarantined) (q : Quarantined) → quarantined_at key qs ≡ Some q → test q ≡ true → list_any both qs ≡ true
  its_passes [] q e t = none_is_some q e
  its_passes (x ∷ qs) q e t =
      by_cases (key_eq x.named.key key)
      (λ k. let same : x ≡ q = some_is x q (sym (if_true (key_eq x.named.key key) (Some x) (quarantined_at key qs) k) ∙ e) in
      or_left (both x) (list_any both qs) (and_from (key_eq x.named.key key) (test x) k (ap test same ∙ t)))
      (λ f. or_right (both x) (list_any both qs) (its_passes qs q (sym (if_false (key_eq x.named.key key) (Some x) (quarantined_at key qs) f) ∙ e) t))

  -- no other has the key
  no_other : (qs : List Quarantined) → has_key key (map (λ q. q.named.key) qs) ≡ false → list_any both qs ≡ false
  no_other [] e = refl
  no_other (q ∷ qs) e =
      let parts = or_parts (key_eq q.named.key key) (has_key key (map (λ q. q.named.key) qs)) e in
      or_from (both q) (list_any both qs) (ap (λ b. b && test q) parts.0) (no_other qs parts.1)

  pub its_fails : (qs : List Quarantined) (q : Quarantined) → AreDistinct (map (λ q. q.named.key) qs) → quarantined_at key qs ≡ Some q → test q ≡ false → list_any both qs ≡ false
  its_fails [] q d e t = none_is_some q e
  its_fails (x ∷ qs) q d e t =
      by_cases (key_eq x.named.key key)
      (λ k. let same : x ≡ q = some_is x q (sym (if_true (key_eq x.named.key key) (Some x) (quarantined_at key qs) k) ∙ e) in
      or_from (both x) (list_any both qs) (ap (λ b. key_eq x.named.key key && b) (ap test same ∙ t) ∙ no (key_eq x.named.key key))
      (no_other qs (subst (λ k. has_key k (map (λ q. q.named.key) qs) ≡ false) (same_key x.named.key key k) d.0)))
      (λ f. or_from (both x) (list_any both qs) (ap (λ b. b && test x) f)
      (its_fails qs q d.1 (sym (if_false (key_eq x.named.key key) (Some x) (quarantined_at key qs) f) ∙ e) t))
    where
      no : (b : Bool) → (b && false) ≡ false
      no true = refl
      no false = refl

-- whether a segment for this server is dropped
module _ (n : law.LastingNode) (wait : ℕ) (server : Addr) (segment : Segment) (ours : is_for server segment ≡ true) where
  passed : (b : Bool) → list_any (λ q. key_eq q.named.key (source_of segment) && is_leaving wait q) n.quarantine ≡ b → is_dropped wait server (Packet_comes segment) n.quarantine ≡ b
  passed b e = ap (λ x. x && list_any (λ q. key_eq q.named.key (source_of segment) && is_leaving wait q) n.quarantine) ours ∙ e

  pub dropped_so : (o : Option Place) (l : Option Life) (r : Resting) → wait ≤ 2 ^ 32 - 1 → LifeStands n (source_of segment) o l → resting_in l ≡ Some r → nat_le wait r.age ≡ true
      → is_dropped wait server (Packet_comes segment) n.quarantine ≡ true
  dropped_so o l r small st e old =
      let x = rests_so n (source_of segment) o l r st e in
      passed true (its_passes (source_of segment) (is_leaving wait) n.quarantine x.quarantined x.found (sym (leaving_is wait r x.quarantined small x.stands) ∙ old))

  pub not_dropped : (o : Option Place) (l : Option Life) → LifeStands n (source_of segment) o l → resting_in l ≡ None → is_dropped wait server (Packet_comes segment) n.quarantine ≡ false
  not_dropped o l st e = passed false (none_passes (source_of segment) (is_leaving wait) n.quarantine (none_rests n (source_of segment) o l st e))

  pub not_yet_dropped : (o : Option Place) (l : Option Life) (r : Resting) → wait ≤ 2 ^ 32 - 1 → AreDistinct (map (λ q. q.named.key) n.quarantine) → LifeStands n (source_of segment) o l
      → resting_in l ≡ Some r → nat_le wait r.age ≡ false → is_dropped wait server (Packet_comes segment) n.quarantine ≡ false
  not_yet_dropped o l r small d st e young =
      let x = rests_so n (source_of segment) o l r st e in
      passed false (its_fails (source_of segment) (is_leaving wait) n.quarantine x.quarantined d x.found (sym (leaving_is wait r x.quarantined small x.stands) ∙ young))
