use Rattle.std.proofs.Common.{◌≡◌, ◌≢◌, ℕ, ◌∷◌, [], take, rules, arith}
use Rattle.std.specs.Prelude.{Some, slice_get, slice_set}
use Rattle.casa_server.specs.declared.guard.Stage.TheVariants.{Turned}
use Rattle.casa_server.proofs.Looking.{gives_first, gives_later, on_ok_of, first_set, some_set}
use Rattle.casa_server.proofs.guard.GuardedRead.read.Goals as goal

pub returns-in_default-clause-turned : goal.returns-in_default-clause-turned
returns-in_default-clause-turned g c =
    let other : c.look.new.self.stage ≢ Turned = search rules in
    on_ok_of c.read.result _ (λ is. other (c.in_ok-look.ensures.turned is))

pub returns-clause-bytes : goal.returns-clause-bytes
returns-clause-bytes g c =
    let other : c.look.new.self.stage ≢ Turned = search rules in
    let byte : ℕ = c.in-Some.byte in
    let first : Some byte ≡ slice_get c.look.new.self.held.items 0 = search rules in
    let one : take 1 (slice_set c.args.buf.now 0 byte) ≡ byte ∷ [] = first_set c.args.buf.now byte (search rules) in (
      rw one (gives_later _ _ _ _ c.in_ok-look.ensures.kept
          (gives_first c.look.new.self.stage c.look.new.self.held.items c.pop_at.new.self.items byte (g.R.Read.remaining c.look.new.self.source)
          c.in_ok-look.ensures.known other first (search rules))),
      λ none. absurd (omega arith),
    )

pub returns-clause-bound : goal.returns-clause-bound
returns-clause-bound g c = some_set c.args.buf.now c.in-Some.byte (search rules)
