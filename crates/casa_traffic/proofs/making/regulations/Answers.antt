use Rattle.casa_traffic.proofs.making.regulations.Goals as goal

pub returns-in-Some-Some-clause-left_out : goal.returns-in-Some-Some-clause-left_out
returns-in-Some-Some-clause-left_out c =
    rw (c.in-Some-Some.is-0, c.in-Some-Some.is-1) (rw c.deref.ensures.value at c.regulations_of.ensures.left_out)
