use Rattle.std.proofs.Common.{Bor, List, ℕ, ◌≡◌, ◌∙◌, inl, rules, true, Some, [], drop}
use Rattle.std.specs.Result.{is_ok}
use Rattle.std.proofs.lemmas.List.{append-nil}
use Rattle.csv.specs.Records.{fields_of}
use Rattle.csv.proofs.ReadFacts.{rows-end}
use Rattle.casa_rows.specs.Rows.{config}
use Rattle.casa_rows.proofs.Records.{after_row, no_row}
use Rattle.casa_rows.proofs.table.all_rows.Goals as goal

pub loop-read-preserved : goal.loop-read-preserved
loop-read-preserved c =
    let inv = c.loop-read.invariant in
    let step = rw (c.in-Some.is, c.in-Ok.is) at ((c.next.ensures.steps inv.left inv.trim).0 inv.ready) in
    let good : is_ok c.push.result ≡ true = search rules in
    let items = rw good at c.push.ensures.items in
    record {
      trim = step.0.3 ∙ inv.trim;
      ready = inl step.1;
      left = step.2;
      how = step.0.2 ∙ inv.how;
      place = c.record_end-behind.ensures.place;
      read = rw items (after_row (λ (s : Bor (List ℕ)). Some s.now) c.loop-read.read-iterator.rdr c.next.new.self.rdr c.separator-separator.result c.behind_mark-text.result.now
          c.loop-read.behind.at c.record_end-behind.result.at c.loop-read.rows.items c.in_ok-row.row (fields_of c.in-Ok.read) inv.how inv.read step.0 c.in_ok-row.ensures.fields
          c.in_ok-row.ensures.line c.record_end-behind.ensures.behind);
    }

pub returns : goal.returns
returns c =
    let inv = c.loop-read.invariant in
    let step = rw c.in-None.is at ((c.next.ensures.steps inv.left inv.trim).0 inv.ready) in
    let text = c.behind_mark-text.result.now in
    let how = config c.separator-separator.result in
    let none = rows-end (λ (s : Bor (List ℕ)). Some s.now) c.loop-read.read-iterator.rdr c.next.new.self.rdr [] how (drop c.loop-read.behind.at text) inv.how inv.read.source step in
    let all = rw (append-nil c.loop-read.rows.items) at (inv.read.so_far [] (no_row how text c.loop-read.read-iterator.rdr.state (drop c.loop-read.behind.at text) none)) in
    rw (c.separator-separator.ensures, c.behind_mark-text.ensures) at all
