use Rattle.std.proofs.Common.{◌≡◌, ◌≢◌, ℕ, List, ◌∷◌, [], ◌++◌, take, get_or, subst, sym, rules}
use Rattle.std.specs.Io.KnownBytes.{Keeps, Consumes, prepend_known}
use Rattle.casa_server.specs.declared.guard.Stage.{Stage}
use Rattle.casa_server.specs.declared.guard.Stage.TheVariants.{Looking}
use Rattle.casa_server.specs.Looks.{Tells}
use Rattle.casa_server.specs.Guards.{left_at, IsTurnedAt}
use Rattle.casa_server.proofs.Looking.{keeps_on, looked_on, looked_at_request, one_byte}
use Rattle.casa_server.proofs.guard.Guarded.look.Goals as goal

pub looking-preserved : goal.looking-preserved
looking-preserved g c =
    let reads = g.R.Read.remaining in
    let at : c.looking.self.stage ≡ Looking = search rules in
    let some : c.in_ok-read.field-0 ≢ 0 = search rules in
    let held : List ℕ = c.looking.self.held.items in
    let byte : ℕ = get_or c.read.new.buf 0 0 in
    let stage : Stage = c.told_by-self.result in
    let one : take c.in_ok-read.field-0 c.read.new.buf ≡ byte ∷ [] = one_byte _ c.read.new.buf (search rules) some (search rules) in
    let given : Consumes (reads c.looking.self.source) (reads c.read.new.self) (byte ∷ []) = subst (λ (l : List ℕ). Consumes (reads c.looking.self.source) (reads c.read.new.self) l) one (search rules) in
    let more : c.push.new.self.items ≡ held ++ byte ∷ [] = search rules in
    let tells : Tells (held ++ byte ∷ []) stage = subst (λ (l : List ℕ). Tells l stage) more (rw c.as_slice.ensures.value at c.told_by-self.ensures) in (
      keeps_on _ _ _ c.looking.invariant.0
          (subst (λ (s : Stage). Keeps (left_at s (prepend_known held (reads c.looking.self.source))) (left_at stage (prepend_known c.push.new.self.items (reads c.read.new.self)))) (sym at)
          (rw more (looked_on held byte stage _ _ tells given))),
      λ is. rw more (looked_at_request held byte stage _ _ tells given
          (subst (λ (s : Stage). IsTurnedAt s (prepend_known held (reads c.looking.self.source))) at (c.looking.invariant.1 is))),
    )
