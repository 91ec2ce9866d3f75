use Rattle.std.proofs.Common.{arith, ◌∙◌}
use Rattle.casa_live.proofs.Chunks.{chunk_counted, longer}
use Rattle.casa_live.proofs.counting.count_all.Goals as goal

pub loop-tally-preserved : goal.loop-tally-preserved
loop-tally-preserved g c =
    let begins = longer c.args.front.now c.loop-tally.later c.behind.new.front c.loop-tally.invariant.longer c.in_ok-chunk.ensures.longer in
    let found = rw c.in-Some.is at c.in_ok-chunk.ensures.behind in
    record {
      counted = (chunk_counted c.args.front.now c.behind.new.front c.as_slice.result.now c.loop-tally.tally c.add_all.new.self c.min-most.result begins
          (omega (arith, c.requires.all, c.ranges.entries.fits)) (omega (arith, c.requires.all, c.loop-tally-test.true, c.min-most.ensures))
          (c.as_slice.ensures.value ∙ found.1) c.loop-tally.invariant.counted c.add_all.ensures).0;
      longer = begins;
    }
