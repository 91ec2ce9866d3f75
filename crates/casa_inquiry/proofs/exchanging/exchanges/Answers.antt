use Rattle.std.proofs.Common.{◌≡◌, ◌∙◌, Option, None, Some, ap, sym}
use Rattle.std.specs.Option.{option_and_then, option_copied}
use Rattle.std.proofs.lemmas.Result.{IfOk-weaker}
use Rattle.casa_flight.specs.Listing.{Listing, governing_list, stance_of}
use Rattle.casa_inquiry.specs.Exchanges.{exchanges_in, issued_times}
use Rattle.casa_inquiry.proofs.ExchangesFound.{found_at, none_found}
use Rattle.casa_inquiry.proofs.exchanging.exchanges.Goals as goal

pub returns-in_default : goal.returns-in_default
returns-in_default g c =
    IfOk-weaker c.from_vec.result _ _ (λ all is m good shown found.
    let list : governing_list m c.args.row.now ≡ None = sym (c.governing_list.ensures m shown) ∙ ap option_copied c.in_default.is in
    is ∙ c.new.ensures.items
    ∙ none_found m c.args.key c.args.row.now good found
    (ap (λ (w : Option Listing). option_and_then (λ (l : Listing). option_and_then issued_times (stance_of l c.args.key)) w) list)) c.from_vec.ensures

pub returns-in_default-times_in : goal.returns-in_default-times_in
returns-in_default-times_in g c =
    IfOk-weaker c.from_vec-in_default-times_in.result _ _ (λ all is m good shown found.
    let l = c.in-Some.list.now in
    let list : governing_list m c.args.row.now ≡ Some l = sym (c.governing_list.ensures m shown) ∙ ap option_copied c.in-Some.is in
    let none : option_and_then issued_times (stance_of l c.args.key) ≡ None = sym c.times_in.ensures ∙ c.in_default-times_in.is in
    is ∙ c.new-in_default-times_in.ensures.items
    ∙ none_found m c.args.key c.args.row.now good found
    (ap (λ (w : Option Listing). option_and_then (λ (l : Listing). option_and_then issued_times (stance_of l c.args.key)) w) list ∙ none))
    c.from_vec-in_default-times_in.ensures

pub returns : goal.returns
returns g c =
    IfOk-weaker c.from_vec-2.result _ _ (λ all is m good shown found.
    let l = c.in-Some.list.now in
    let own = c.in-Some-times_in.own in
    let list : governing_list m c.args.row.now ≡ Some l = sym (c.governing_list.ensures m shown) ∙ ap option_copied c.in-Some.is in
    let times : option_and_then issued_times (stance_of l c.args.key) ≡ Some own = sym c.times_in.ensures ∙ c.in-Some-times_in.is in
    let these : all ≡ exchanges_in m c.args.key c.args.row.now.plan own l = is ∙ c.in_ok-exchanges_in.ensures m shown in
    these ∙ found_at m c.args.key c.args.row.now good found l own list times) c.from_vec-2.ensures
