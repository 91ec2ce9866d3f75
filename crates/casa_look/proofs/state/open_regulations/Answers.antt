use Rattle.std.proofs.Common.{◌≡◌, ◌+◌, ◌≤◌, ◌∙◌, ◌++◌, ◌∷◌, [], List, length, map, take, Some, refl, sym, ap, subst, arith}
use Rattle.std.specs.Prelude.{slice_get}
use Rattle.std.proofs.lemmas.Bool.{ltb-false, ltb-true}
use Rattle.std.proofs.lemmas.List.{length-map, take_all, take_more}
use Rattle.std.proofs.lemmas.Option.{get_or_from_slice_get, slice_get_read, slice_get_within}
use Rattle.casa_filing.specs.declared.regulation.Measure.{Measure}
use Rattle.casa_filing.specs.declared.regulation.Regulation.{Regulation}
use Rattle.casa_filing.specs.Text.{Text}
use Rattle.casa_filing.specs.Subject.{regulation}
use Rattle.casa_flight.specs.State.{catalogue}
use Rattle.casa_flight.specs.Listing.{Listing, listing}
use Rattle.casa_flight.specs.Replies.{list_reply}
use Rattle.casa_look.specs.declared.state.OpenRegulation.{OpenRegulation}
use Rattle.casa_look.specs.StateText.{open_regulation, open_regulations}
use Rattle.casa_look.proofs.Shown.{shown_at}
use Rattle.casa_look.proofs.state.open_regulations.Goals.{in-Some+in_ok-listed_regulation+in_ok-push, in_default}
use Rattle.casa_look.proofs.state.open_regulations.Goals as goal

pub loop-number-preserved : goal.loop-number-preserved
loop-number-preserved c = λ m shown.
    let k = c.loop-number.number in
    let r = c.regulation-item.result in
    let all : List Regulation = c.args.shown.now.regulations.now in
    let there : slice_get all k ≡ Some r = slice_get_read all (length all) k r refl c.loop-number-test.true c.regulation-item.is in
    let own : slice_get (catalogue m) k ≡ Some r = subst (λ (rs : List Regulation). slice_get rs k ≡ Some r) shown.regulations there in
    elim c.match-get.branch [
      | in-Some+in_ok-listed_regulation+in_ok-push w ↦
          let os : List OpenRegulation = open_regulations m in
          let l : Listing = w.in-Some.list.now in
          let lists : List Listing = c.args.shown.now.lists.now in
          let found = w.in-Some.ensures.lookup in
          let kept : slice_get lists k ≡ Some l = slice_get_read lists (length lists) k l refl (ltb-true k (length lists) (sym found.0)) found.1 in
          let listed : slice_get (map (λ (e : Text × Measure). listing m.rows e.0 e.1) m.regs) k ≡ Some l =
          subst (λ (ls : List Listing). slice_get ls k ≡ Some l) shown.lists kept in
          let of_list : Listing → OpenRegulation = λ x. open_regulation r.id (record { loc = r.loc; profile = x.profile }) (list_reply m r x) in
          let here : slice_get os k ≡ Some (of_list l) = shown_at m m.regs k r l own listed in
          let made : w.in_ok-listed_regulation.field-0 ≡ of_list l = w.in_ok-listed_regulation.ensures m r ∙ ap of_list w.list.ensures in
          let next : take (k + 1) os ≡ take k os ++ of_list l ∷ [] =
          take_more os k (of_list l) (slice_get_within os k (of_list l) here)
          ∙ ap (λ (x : OpenRegulation). take k os ++ x ∷ []) (get_or_from_slice_get os k (of_list l) (of_list l) here) in
          ap (λ v. v.items) w.all-is ∙ w.in_ok-push.ensures.items
          ∙ (λ i. c.loop-number.invariant m shown i ++ made i ∷ []) ∙ sym next
      | in_default w ↦
          let lists : List Listing = c.args.shown.now.lists.now in
          let past : length lists ≤ k = ltb-false k (length lists) (sym w.in_default.ensures.lookup.0) in
          let many : length lists ≡ length all =
          ap length shown.lists ∙ length-map m.regs (λ (e : Text × Measure). listing m.rows e.0 e.1)
          ∙ sym (ap length shown.regulations ∙ length-map m.regs (λ (e : Text × Measure). regulation e.0 e.1)) in
          absurd (omega (arith, past, many, c.loop-number-test.true))
    ]

pub returns : goal.returns
returns c = λ m shown.
    let os : List OpenRegulation = open_regulations m in
    let many : length os ≡ length (catalogue m) = length-map m.regs _ ∙ sym (length-map m.regs (λ (e : Text × Measure). regulation e.0 e.1)) in
    let end : length os ≤ c.loop-number.number = omega (arith, many, ap length shown.regulations, c.loop-number-test.false) in
    c.loop-number.invariant m shown ∙ take_all c.loop-number.number os end
