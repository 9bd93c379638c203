-- Done means over, in joint traces.
use Rattle.std.proofs.Common.{◌≡◌, Bool, true, false, true≢false, sym, ⊎_elim, Some, List}
use Rattle.std.specs.List.{AllByRecursion}
use Rattle.ft_io.specs.declared.Key.{Key}
use Rattle.server_trait.specs.Service.{Machine}
use Rattle.ft_model.specs.Log.{Entry, entry_of}
use Rattle.ft_model.specs.World.{World, Moment, Joint, world_after}
use Rattle.ft_model.proofs.Happened.{holds_after}
use Rattle.ft_model.proofs.Lists.{all_weaker}
use Rattle.ft_model.proofs.Running.{HasSmallOutputs}
use Rattle.long_laws.specs.Over.{IsOverWhenDone}
use Rattle.long_laws.proofs.OverClients.{IsDoneWith}
use Rattle.long_laws.proofs.OverWorld.{OverWorld, over_proceeds, start_over, over_when_done}
use Rattle.long_laws.proofs.Stands.{Stands, at_start, proceeds}

-- nobody was let go
abbrev nobody : Key → Bool
nobody key = false

pub joint_over : {State : Type 0} (service : Machine State) → HasSmallOutputs service → (start : World) (trace : List Moment) → Joint service start trace
    → AllByRecursion (IsOverWhenDone service (world_after start trace)) (world_after start trace).clients
joint_over service small start trace j =
    let w : World = world_after start trace in
    let x = holds_after service (λ y. Stands service y × OverWorld service nobody y) start (λ s. (at_start service small start s, start_over service nobody start s))
    (λ before sent after o h. let then_ : Stands service after = proceeds service small before sent after o.0 h in (then_, over_proceeds service nobody before sent after o.0 then_ h o.1)) trace j in
    all_weaker (λ c. (e : Entry) → entry_of c.key w.log ≡ Some e → e.done ≡ true → IsDoneWith service nobody w.log w.packets c) (IsOverWhenDone service w) w.clients
    (λ c f e found done. ⊎_elim (λ y. y) (λ y. absurd (true≢false (sym y))) (f e found done)) (over_when_done service nobody w x.1)
