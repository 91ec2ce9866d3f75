use Rattle.casa_traffic.proofs.importing.import.Goals as goal

pub returns : goal.returns
returns c =
    record {
      sheets = c.in_ok-sheets.sheets;
      columns = c.in-Ok.columns;
      made = c.in_ok-made.made;
      are_sheets = c.in_ok-sheets.ensures;
      are_columns = c.in-Ok.ensures;
      is_made = c.in_ok-made.ensures;
      written = c.in_ok-lines.ensures.written;
      read_again = c.in_ok-lines.ensures.again;
      said = c.in_ok-told.ensures;
      whole = c.is_whole.ensures;
    }
