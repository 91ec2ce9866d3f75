-- how metrics are written
use Rattle.std.proofs.Common.{◌≡◌, ℕ, ◌+◌, ◌<◌, List, [], ◌∷◌, ◌++◌, length, map, take, get_or, sym, ap, ◌∙◌, append_assoc, append-nil}
use Rattle.std.specs.Prelude.{codes, decimal, Result, Ok, Err, OnOk, flat_map, slice_index_or}
use Rattle.std.proofs.lemmas.Grind.{flat_map-append}
use Rattle.std.proofs.lemmas.List.{get_or-map, take_more}
use Rattle.casa_filing.specs.Text.{Text}
use Rattle.casa_flight.specs.declared.call.Call.{Call}
use Rattle.casa_flight.specs.declared.reply.Reply.{Reply}
use Rattle.casa_footprint.specs.Stamps.{state_after}
use Rattle.casa_history.specs.declared.entry.Entry.{Entry}
use Rattle.casa_live.specs.declared.gauges.Reading.{Reading}
use Rattle.casa_live.specs.Metrics.{calls_in, command_sample, commands, counter, gauge, heading, metrics_text, refusals_in, sample}

-- what follows where it went well
pub on_ok : {U E P Q : Type 0} (r : Result U E) → (P → Q) → OnOk r P → OnOk r Q
on_ok (Ok x) then here = then here
on_ok (Err e) then here = here

series_before : (series : Text) (value : ℕ) → series ++ sample [] value ≡ sample series value
series_before series value =
    sym (ap (λ (t : List ℕ). t ++ codes "\n") (append_assoc series (codes " ") (decimal value)) ∙ append_assoc series (codes " " ++ decimal value) (codes "\n"))

-- a metric with one value, behind what stands there
pub gauge_behind : (name help : Text) (value : ℕ) (a b c d : List ℕ) → b ≡ a ++ heading name (codes "gauge") help → c ≡ b ++ name
    → d ≡ c ++ sample [] value → d ≡ a ++ gauge name help value
gauge_behind name help value a b c d heading_is name_is value_is =
    let top : List ℕ = heading name (codes "gauge") help in
    value_is ∙ ap (λ (t : List ℕ). t ++ sample [] value) name_is ∙ append_assoc b name (sample [] value)
    ∙ ap (λ (t : List ℕ). b ++ t) (series_before name value)
    ∙ ap (λ (t : List ℕ). t ++ sample name value) heading_is ∙ append_assoc a top (sample name value)

-- a value more
pub sample_behind : (name : Text) (value : Text → ℕ) (counts : List ℕ) (k : ℕ) (a b c : List ℕ) → counts ≡ map value commands → k < 12
    → b ≡ a ++ flat_map (command_sample name value) (take k commands)
    → c ≡ b ++ sample (name ++ codes "{command=\"" ++ slice_index_or commands k [] ++ codes "\"}") (get_or counts k 0)
    → c ≡ a ++ flat_map (command_sample name value) (take (k + 1) commands)
sample_behind name value counts k a b c are within before here =
    let command = slice_index_or commands k [] in
    let count : get_or counts k 0 ≡ value command = ap (λ (ns : List ℕ). get_or ns k 0) are ∙ get_or-map value commands k [] 0 within in
    let one : flat_map (command_sample name value) (take (k + 1) commands) ≡ flat_map (command_sample name value) (take k commands) ++ command_sample name value command =
    ap (flat_map (command_sample name value)) (take_more commands k [] within)
    ∙ flat_map-append (command_sample name value) (take k commands) (command ∷ [])
    ∙ ap (λ (t : List ℕ). flat_map (command_sample name value) (take k commands) ++ t) (append-nil (command_sample name value command)) in
    here ∙ ap (λ (n : ℕ). b ++ sample (name ++ codes "{command=\"" ++ command ++ codes "\"}") n) count
    ∙ ap (λ (t : List ℕ). t ++ command_sample name value command) before
    ∙ append_assoc a (flat_map (command_sample name value) (take k commands)) (command_sample name value command)
    ∙ ap (λ (t : List ℕ). a ++ t) (sym one)

-- one text behind the other
next : (a b t u : List ℕ) → a ≡ t → b ≡ a ++ u → b ≡ t ++ u
next a b t u before here = here ∙ ap (λ (x : List ℕ). x ++ u) before

-- all metrics
pub metrics_written : (history : List (Entry Call Reply)) (reading : Reading) (position clock : ℕ) (start a b c d e f : List ℕ)
    → position ≡ length history → clock ≡ (state_after history).clock → start ≡ []
    → a ≡ start ++ counter (codes "casa_calls_total") (codes "Calls that were answered, refused ones too.") (calls_in history)
    → b ≡ a ++ counter (codes "casa_refusals_total") (codes "Calls that were refused.") (refusals_in history)
    → c ≡ b ++ gauge (codes "casa_entries") (codes "Entries of the history.") position
    → d ≡ c ++ gauge (codes "casa_clock_seconds") (codes "The clock, in seconds from midnight UTC.") clock
    → e ≡ d ++ gauge (codes "casa_desks") (codes "Desks that have a connection.") reading.desks
    → f ≡ e ++ gauge (codes "casa_connections") (codes "Connections that are open.") reading.connections
    → f ≡ metrics_text history reading
metrics_written history reading position clock start a b c d e f many at empty calls refusals entries time desks connections =
    next e f _ _ (next d e _ _ (next c d _ _ (next b c _ _ (next a b _ _ (next start a [] _ empty calls) refusals)
    (entries ∙ ap (λ (n : ℕ). b ++ gauge (codes "casa_entries") (codes "Entries of the history.") n) many))
    (time ∙ ap (λ (n : ℕ). c ++ gauge (codes "casa_clock_seconds") (codes "The clock, in seconds from midnight UTC.") n) at))
    desks) connections
