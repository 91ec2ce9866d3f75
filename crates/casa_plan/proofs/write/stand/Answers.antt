use Rattle.std.proofs.Common.{◌≡◌, ap, ◌∙◌}
use Rattle.std.specs.Option.{option_map}
use Rattle.std.proofs.lemmas.Result.{on_ok_weaker}
use Rattle.casa_filing.specs.Text.{Text, put}
use Rattle.casa_flight.specs.Listing.{Listing}
use Rattle.casa_flight.specs.Good.{AreInOrder}
use Rattle.casa_laws.proofs.Kept.{put-without}
use Rattle.casa_plan_spec.specs.Sight.{Sight, Written, list_with, with_flight}
use Rattle.casa_plan.proofs.write.stand.Goals as goal

pub returns : goal.returns
returns g c =
    let v : Sight = c.args.view.now in
    let w : Written = c.args.draft.now in
    let id : Text = c.args.id in
    let set : Listing → Listing = λ l. with_flight l c.args.key c.args.stance in
    let now : c.in_ok-list-2.list ≡ option_map set (list_with v w id) = c.in_ok-list-2.ensures ∙ ap (option_map set) c.in_ok-list.ensures.list in
    let sorted : AreInOrder w.lists = c.take_shared.ensures.ordered in
    on_ok_weaker c.set_list.result
    (λ h. h
    ∙ ap (λ (w : Written). let x : Written = record w { lists = put w.lists id c.in_ok-list-2.list } in x) c.in_ok-list.ensures.left
    ∙ (λ i. record w { lists = put-without id (now i) w.lists sorted i })) c.set_list.ensures.written
