-- to believe: demand and capacity of a regulation, step by step
use Rattle.std.specs.Prelude.{ℕ, ◌+◌, ◌-◌, ◌*◌, List, [], ◌∷◌, ◌++◌, map, count_by, Bool, true, ◌&&◌, nat_le, nat_lt, min, max, None, Some}
use Rattle.std.specs.List.{range_with_len}
use Rattle.std.specs.Option.{option_map_or}
use Rattle.std.specs.Int.{div_ceil}
use Rattle.casa_grid.specs.declared.period.Period.{Period}
use Rattle.casa_grid.specs.declared.slot.Window.{Window}
use Rattle.casa_grid.specs.Profile.{start_of, end_of}
use Rattle.casa_grid.specs.Slots.{slots}
use Rattle.casa_flight.specs.declared.reply.ListRow.{ListRow}
use Rattle.casa_inquiry.specs.declared.load.Span.{Span}
use Rattle.casa_inquiry.specs.declared.load.Step.{Step}

-- whether a time is in a span: not before its begin, and before its end where it has one
abbrev pub is_in : Span → ℕ → Bool
is_in span time = nat_le span.from time && option_map_or (λ until. nat_lt time until) span.until true

-- where the slots begin
abbrev pub begins : List Period → List ℕ
begins ps = map (λ (w : Window). w.begin) (slots ps)

-- how many flights have their estimated time over then, how many slots begin, and how many flights have their calculated
-- time over
abbrev pub step : List ℕ → List ListRow → Span → Step
step begins rows span = record {
  span = span;
  planned = count_by (λ (row : ListRow). is_in span row.eto) rows;
  slots = count_by (is_in span) begins;
  calculated = count_by (λ (row : ListRow). is_in span row.cto) rows;
}

-- the seconds of so many minutes; a step has one minute at least
abbrev pub step_secs : ℕ → ℕ
step_secs minutes = max minutes 1 * 60

-- how many steps there are from the start to the end; the last one may be shorter
abbrev pub step_count : List Period → ℕ → ℕ
step_count ps secs = div_ceil (end_of ps - start_of ps) secs

-- when the step with this number is: no longer than the regulation
abbrev pub span_at : List Period → ℕ → ℕ → Span
span_at ps secs k =
    record { from = start_of ps + k * secs; until = Some (min (start_of ps + (k + 1) * secs) (end_of ps)) }

-- when the regulation is over
abbrev pub span_after : List Period → Span
span_after ps = record { from = end_of ps; until = None }

-- the spans of so many minutes, one after the other, and behind them all time after the regulation
abbrev pub spans : List Period → ℕ → List Span
spans ps minutes =
    map (span_at ps (step_secs minutes)) (range_with_len 0 (step_count ps (step_secs minutes))) ++ span_after ps ∷ []

-- what there is in each of them
abbrev pub steps : List Period → List ListRow → ℕ → List Step
steps ps rows minutes = map (step (begins ps) rows) (spans ps minutes)
