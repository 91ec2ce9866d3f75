use Rattle.std.proofs.Common.{◌≡◌, [], Err, length, sym, ap, subst₂, ◌∙◌, arith, rules}
use Rattle.std.specs.Prelude.{vec_len}
use Rattle.casa_history.specs.declared.history.History.{History}
use Rattle.casa_history.specs.Entries.{entries, desk_of}
use Rattle.casa_commit.specs.Desks.{most_desks}
use Rattle.casa_commit.specs.Rooms.{entries_of, open_desks}
use Rattle.casa_commit.specs.declared.fault.DeskFault.{DeskFault}
use Rattle.casa_interleavings.specs.Desks.{AreFresh}
use Rattle.casa_interleavings.proofs.Seats.{fresh_push, fresh_scene}
use Rattle.casa_interleavings.proofs.desks.open_desks.Goals as goal

pub unreachable-requires : goal.unreachable-requires
unreachable-requires g c =
    let full : vec_len c.loop.room.desks ≡ most_desks =
    c.open_desk.ensures.full.0 (c.in-Err-TooManyDesks.is ∙ ap (λ (f : DeskFault). Err f) c.in-Err-TooManyDesks.field-0-is) in
    omega (arith, full, c.loop.invariant.opened, c.loop-test.true)

pub loop-preserved : goal.loop-preserved
loop-preserved g c =
    let inv = c.loop.invariant in
    let en = c.in-Ok.ensures in
    let ds = c.loop.desks.items in
    let desk : desk_of c.in-Ok.pass ≡ length ds = omega (arith, en.pass.1, inv.opened, inv.counted, c.loop.desks.ok.0) in
    record {
      counted = search rules;
      opened = search rules;
      number = en.same_number ∙ inv.number;
      world = en.same_world ∙ inv.world;
      history = en.same_history ∙ inv.history;
      fresh = subst₂ (λ n xs. AreFresh n xs) (sym en.same_number) (sym c.in_ok-push.ensures.items)
          (fresh_push c.loop.room.number ds c.in-Ok.pass inv.fresh desk en.pass.0 en.pass.2);
    }

pub returns-clause-scene : goal.returns-clause-scene
returns-clause-scene g c =
    let inv = c.loop.invariant in
    let room = c.loop.room in
    let none : entries_of room ≡ [] = ap (λ (h : History _ _). entries h) inv.history ∙ c.requires.empty in
    let all : length c.loop.desks.items ≡ open_desks room = omega (arith, c.loop.desks.ok.0, inv.counted, inv.opened) in
    fresh_scene g.W.World g.W.Stamped room c.loop.desks.items all none inv.fresh
