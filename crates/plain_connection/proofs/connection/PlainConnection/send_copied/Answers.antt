use Rattle.std.proofs.Common.{◌≡◌, ◌∙◌, [], ◌∷◌, map, sym, ap, subst, refl, arith}
use Rattle.std.specs.Prelude.{◌&&◌, ◌||◌, nat_lt, length}
use Rattle.std.proofs.lemmas.Result.{on_ok_weaker}
use Rattle.seq_arith.specs.Message.Body.{DataMsg}
use Rattle.segment_codec.specs.Value.{segment_of}
use Rattle.ft_model.specs.Connection.{reported_by}
use Rattle.ft_model.specs.Copy.{own_data, una_part}
use Rattle.plain_packets.specs.Sent.{Appends}
use Rattle.plain_point.specs.Copying.{further_part}
use Rattle.plain_point.specs.Values.{data_in}
use Rattle.plain_connection.specs.Copying.{batched, datas_of}
use Rattle.plain_connection.proofs.Copies.{with_own, without_own, only_una, no_copy}
use Rattle.plain_connection.proofs.connection.PlainConnection.send_copied.Goals as goal

pub returns-in_ok-send_data-in-Some : goal.returns-in_ok-send_data-in-Some
returns-in_ok-send_data-in-Some g c = λ p taken fin una.
    let segment = segment_of c.args.segment.now in
    let q = c.args.self.now.point in
    let further = data_in c.further_data-further.result in
    let further_is : further ≡ further_part p q segment = c.further_data-further.ensures.value p taken fin ∙ ap (λ x. further_part p x.point segment) c.self.view_is in
    let batches_are : c.batches-batches.result ≡ q.batches = c.batches-batches.ensures ∙ ap (λ x. x.point.batches) c.self.view_is in
    on_ok_weaker c.send_datas.result
    (λ e. with_own c.args.boot c.args.sent.now c.send_datas.new.sent p q segment further further_is c.send_data.new.sent (data_in c.in-Some.own) c.follows-more.result
    (ap (λ x. own_data x.point segment) (sym c.self.view_is) ∙ sym c.in-Some.ensures) refl (c.follows-more.ensures ∙ ap (λ b. (nat_lt 0 (length further.bytes) || further.fin) && b) batches_are)
    c.in_ok-send_data-in-Some.ensures
    (subst (λ b. Appends c.send_data.new.sent c.send_datas.new.sent (map (reported_by c.args.boot) (batched b (datas_of further)))) batches_are e))
    c.send_datas.ensures

pub returns-then-has_any : goal.returns-then-has_any
returns-then-has_any g c = λ p taken fin una.
    let segment = segment_of c.args.segment.now in
    let q = c.args.self.now.point in
    let further = data_in c.further_data-further.result in
    let further_is : further ≡ further_part p q segment = c.further_data-further.ensures.value p taken fin ∙ ap (λ x. further_part p x.point segment) c.self.view_is in
    let batches_are : c.batches-batches.result ≡ q.batches = c.batches-batches.ensures ∙ ap (λ x. x.point.batches) c.self.view_is in
    on_ok_weaker c.send_datas-then-has_any.result
    (λ e. without_own c.args.boot c.args.sent.now c.send_datas-then-has_any.new.sent p q segment further further_is
    (ap (λ x. own_data x.point segment) (sym c.self.view_is) ∙ sym c.in-None.ensures) (sym c.has_any.ensures ∙ c.if-has_any.true)
    (subst (λ b. Appends c.args.sent.now c.send_datas-then-has_any.new.sent (map (reported_by c.args.boot) (batched b (datas_of further)))) batches_are e))
    c.send_datas-then-has_any.ensures

pub returns-then-before-una : goal.returns-then-before-una
returns-then-before-una g c = λ p taken fin una.
    let segment = segment_of c.args.segment.now in
    let q = c.args.self.now.point in
    let further = data_in c.further_data-further.result in
    let further_is : further ≡ further_part p q segment = c.further_data-further.ensures.value p taken fin ∙ ap (λ x. further_part p x.point segment) c.self.view_is in
    let una_now : c.una.result ≡ q.una = c.una.ensures ∙ ap (λ x. x.point.una) c.self.view_is in
    let part_now : data_in c.una_data.result ≡ una_part q = c.una_data.ensures ∙ ap (λ x. una_part x.point) c.self.view_is in
    on_ok_weaker c.send_data-then-before-una.result
    (λ e. only_una c.args.boot c.args.sent.now c.send_data-then-before-una.new.sent p q segment further further_is
    (ap (λ x. own_data x.point segment) (sym c.self.view_is) ∙ sym c.in-None.ensures) (sym c.has_any.ensures ∙ c.if-has_any.false) (omega (arith, una, una_now, c.if-before-una.true))
    (subst (λ x. Appends c.args.sent.now c.send_data-then-before-una.new.sent (reported_by c.args.boot (DataMsg x) ∷ [])) part_now e))
    c.send_data-then-before-una.ensures

pub returns-else-before-una : goal.returns-else-before-una
returns-else-before-una g c = λ p taken fin una.
    let segment = segment_of c.args.segment.now in
    let q = c.args.self.now.point in
    let further = data_in c.further_data-further.result in
    let further_is : further ≡ further_part p q segment = c.further_data-further.ensures.value p taken fin ∙ ap (λ x. further_part p x.point segment) c.self.view_is in
    let una_now : c.una.result ≡ q.una = c.una.ensures ∙ ap (λ x. x.point.una) c.self.view_is in
    no_copy c.args.boot c.args.sent.now c.args.sent.now p q segment further further_is
    (ap (λ x. own_data x.point segment) (sym c.self.view_is) ∙ sym c.in-None.ensures) (sym c.has_any.ensures ∙ c.if-has_any.false) (omega (arith, una, una_now, c.if-before-una.false)) refl
