-- A joint trace is a long trace in which nothing is recycled, and such a long trace is a joint one.
use Rattle.std.proofs.Common.{◌≡◌, refl, sym, subst, List, [], ◌∷◌, map}
use Rattle.server_trait.specs.Service.{Machine}
use Rattle.ft_model.specs.World.{World, Moment, Joint, world_after}
use Rattle.long_laws.specs.LongTrace.{LongWorld, LongJoint, MayPass, long_after, as_long}
use Rattle.long_laws.specs.LongTrace.LongStep.{Joint_event}

-- a world from which nothing is recycled
abbrev whole : World → LongWorld
whole w = record { now = w; past = [] }

ends_there : (start : World) (trace : List Moment) → long_after start (map as_long trace) ≡ whole (world_after start trace)
ends_there start [] = refl
ends_there start (moment ∷ earlier) = refl

abbrev Passes : {State : Type 0} → Machine State → Moment → LongWorld → Type 0
Passes service moment before = MayPass service before (Joint_event moment.event) moment.sent (whole moment.world)

pub is_long : {State : Type 0} (service : Machine State) (start : World) (trace : List Moment) → Joint service start trace → LongJoint service start (map as_long trace)
is_long service start [] j = j
is_long service start (moment ∷ earlier) j =
    (is_long service start earlier j.0, subst (Passes service moment) (sym (ends_there start earlier)) (j.1, refl))

pub is_joint : {State : Type 0} (service : Machine State) (start : World) (trace : List Moment) → LongJoint service start (map as_long trace) → Joint service start trace
is_joint service start [] j = j
is_joint service start (moment ∷ earlier) j =
    let passes : Passes service moment (whole (world_after start earlier)) = subst (Passes service moment) (ends_there start earlier) j.1 in
    (is_joint service start earlier j.0, passes.0)
