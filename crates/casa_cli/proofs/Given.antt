-- whether the words give an option
use Rattle.std.proofs.Common.{◌≡◌, ◌∙◌, Option, Some, None, refl, sym, ap, option_map}
use Rattle.std.specs.List.{find}
use Rattle.std.specs.Str.{bytes_eq}
use Rattle.std.specs.Prelude.{option_and_then}
use Rattle.clap.specs.Facts.{Entry}
use Rattle.clap.specs.Matches.{matched_of}
use Rattle.clap.specs.Walk.{Row, Text, row_of, rows_of}
use Rattle.clap.specs.declared.parser.matches.Found.{Found}
use Rattle.clap.specs.declared.parser.matches.MatchedArg.{MatchedArg}
use Rattle.clap.specs.declared.parser.matches.ValueSource.{ValueSource}
use Rattle.clap.proofs.WalkLemmas.{find_row}
use Rattle.casa_cli.specs.Words.{is_given, is_of_words}

-- where a value came from is told by its source
pub given_by : (f : Found) (id : Text) (source : Option ValueSource)
    → source ≡ option_and_then (λ (a : MatchedArg). a.source) (matched_of f id) → is_of_words source ≡ is_given id (rows_of f)
given_by f id source told =
    ap is_of_words (told ∙ entry (find (λ (e : Entry). bytes_eq e.0.now id) f.entries.items) ∙ ap (option_and_then (λ (r : Row). r.source)) (sym (find_row f.entries.items id)))
  where
    entry : (o : Option Entry) → option_and_then (λ (a : MatchedArg). a.source) (option_map (λ e. e.1) o)
        ≡ option_and_then (λ (r : Row). r.source) (option_map row_of o)
    entry None = refl
    entry (Some e) = refl
