-- how a session goes on
use Rattle.std.proofs.Common.{◌≡◌, ℕ, ◌+◌, List, [], ◌∷◌, ◌++◌, length, map, Bool, true, false, Option, None, Some, refl, sym, ap, ◌∙◌, subst, append-nil, append_assoc, length-append, if◌then◌else◌}
use Rattle.std.specs.Prelude.{Result, Ok, Err, IfSome, IsErr, IfOk, OnErr}
use Rattle.std.specs.Result.{IsErrAnd}
use Rattle.std.specs.Io.KnownBytes.{Consumes}
use Rattle.std.proofs.KnownBytes.{Consumes-nil, Consumes-trans}
use Rattle.std.proofs.lemmas.List.{map-append}
use Rattle.casa_flight.specs.declared.call.Call.{Call}
use Rattle.casa_wire.specs.declared.fault.WireFault.{WireFault}
use Rattle.casa_wire.specs.Commands.{line_call}
use Rattle.casa_session.specs.declared.lines.LineFault.{LineFault}
use Rattle.casa_session.specs.declared.replies.Replies.{Replies}
use Rattle.casa_session.specs.LineReader.{IsPart, IsTaken}
use Rattle.casa_session.specs.Lines.{ended_lines, lines_of, rest_from, has_too_long, is_too_long, HasNoLf}
use Rattle.casa_session.proofs.Moments.{Start, Moment, first_moment, AreAnswered}
use Rattle.casa_session.proofs.Parts.{no_lf_joined}
use Rattle.casa_session.proofs.Progress.{AreFirst, Progress, Writes, no_progress, progress_lines, progress_same, progress_written}
use Rattle.casa_session.proofs.Splitting.{ended_more, has_too_long-append, lines_of-append, whole_more}

-- by now these bytes were taken, which are so many lines, and a line is begun; behind it these bytes are pending
pub record Taken (start : Start) (left : Option (List ℕ)) (taken : List ℕ) (count : ℕ) (line pending : List ℕ) : Type 0 where
  pub consumed : Consumes start.input left (taken ++ (line ++ pending))
  pub whole : rest_from [] taken ≡ []
  pub lines : length (ended_lines taken) ≡ count
  pub no_lf : HasNoLf line
  pub short : is_too_long line ≡ false

-- and all of them were answered
pub record Between (start : Start) (now : Moment) (count : ℕ) (line pending : List ℕ) : Type 0 where
  pub taken : List ℕ
  pub bytes : Taken start now.left taken count line pending
  pub progress : Progress start now (ended_lines taken)

-- or all but the last ones, of these meanings
pub record Reading (start : Start) (now : Moment) (count : ℕ) (asked : List (Result Call WireFault)) (line pending : List ℕ) : Type 0 where
  pub taken : List ℕ
  pub bytes : Taken start now.left taken count line pending
  pub done : List (List ℕ)
  pub waiting : List (List ℕ)
  pub split : ended_lines taken ≡ done ++ waiting
  pub means : asked ≡ map line_call waiting
  pub are_short : has_too_long waiting ≡ false
  pub progress : Progress start now done

pub begins : (start : Start) (replies : Replies) (line pending : List ℕ) → replies.bytes.items ≡ []
    → replies.written ≡ 0 → line ≡ [] → pending ≡ [] → Between start (first_moment start replies) 0 line pending
begins start replies line pending none zero no_line no_pending = record {
  taken = [];
  bytes = record {
    consumed = rw (no_line, no_pending) (Consumes-nil start.input);
    whole = refl;
    lines = refl;
    no_lf = rw no_line refl;
    short = rw no_line refl;
  };
  progress = no_progress start replies none zero;
}

-- what holds of the bytes that were taken and any behind them holds of the input, where that is known
known : (r s : Option (List ℕ)) (bytes : List ℕ) (P : List ℕ → Type 0) → Consumes r s bytes
    → ((ys : List ℕ) → P (bytes ++ ys)) → IfSome r P
known None s bytes P h f = tt
known (Some xs) None bytes P h f = absurd h
known (Some xs) (Some ys) bytes P h f = subst P (sym h) (f ys)

module _ {start : Start} {left : Option (List ℕ)} {taken : List ℕ} {count : ℕ} {line bytes : List ℕ}
    (p : Taken start left taken count line bytes) where
  -- what holds of the lines that were taken and any behind them holds of the lines of the input
  pub lines_known : (P : List (List ℕ) → Type 0)
      → ((ys : List ℕ) → P (ended_lines taken ++ lines_of (line ++ (bytes ++ ys))))
      → IfSome start.input (λ xs. P (lines_of xs))
  lines_known P holds =
      known start.input left (taken ++ (line ++ bytes)) (λ xs. P (lines_of xs)) p.consumed
      (λ ys. subst P (sym (all ys)) (holds ys))
    where
      all : (ys : List ℕ)
          → lines_of ((taken ++ (line ++ bytes)) ++ ys) ≡ ended_lines taken ++ lines_of (line ++ (bytes ++ ys))
      all ys =
          ap lines_of (append_assoc taken (line ++ bytes) ys)
          ∙ ap (λ l. lines_of (taken ++ l)) (append_assoc line bytes ys)
          ∙ lines_of-append taken (line ++ (bytes ++ ys)) p.whole

  -- the lines that were taken are the first
  pub taken_first : AreFirst start.input (ended_lines taken)
  taken_first =
      lines_known (λ ls. (rest : List (List ℕ)) × (ls ≡ ended_lines taken ++ rest))
      (λ ys. (lines_of (line ++ (bytes ++ ys)), refl))

  -- a part of what is pending, without LF, goes to the line
  pub part_moved : (part rest new : List ℕ) → HasNoLf part → bytes ≡ part ++ rest → new ≡ line ++ part
      → is_too_long (line ++ part) ≡ false → Taken start left taken count new rest
  part_moved part rest new no_lf split joined short = record {
    consumed =
        rw (joined, append_assoc line part rest)
        (subst (λ (l : List ℕ). Consumes start.input left (taken ++ (line ++ l))) split p.consumed);
    whole = p.whole;
    lines = p.lines;
    no_lf = no_lf_joined new line part joined p.no_lf no_lf;
    short = rw joined short;
  }

module _ {start : Start} {left : Option (List ℕ)} {taken : List ℕ} {count : ℕ} {line pending : List ℕ}
    (p : Taken start left taken count line (10 ∷ pending)) where
  abbrev pub past : List ℕ
  past = taken ++ (line ++ 10 ∷ [])

  -- a line that ended is taken, and the next one begins
  pub line_past : (empty : List ℕ) → empty ≡ [] → Taken start left past (count + 1) empty pending
  line_past empty cleared =
      let done : ended_lines past ≡ ended_lines taken ++ line ∷ [] = ended_more taken line p.whole p.no_lf in
      let moved : taken ++ (line ++ 10 ∷ pending) ≡ past ++ pending = simp append_assoc in
      record {
        consumed = rw cleared (subst (Consumes start.input left) moved p.consumed);
        whole = whole_more taken line p.whole;
        lines = rw done (length-append (ended_lines taken) (line ∷ []) ∙ ap (λ k. k + 1) p.lines);
        no_lf = rw cleared refl;
        short = rw cleared refl;
      }

-- where all lines were answered, none is asked
pub none_asked : {start : Start} {now : Moment} {count : ℕ} {line pending : List ℕ} (asked : List (Result Call WireFault))
    → asked ≡ [] → Between start now count line pending → Reading start now count asked line pending
none_asked asked none p = record {
  taken = p.taken;
  bytes = p.bytes;
  done = ended_lines p.taken;
  waiting = [];
  split = sym (append-nil (ended_lines p.taken));
  means = none;
  are_short = refl;
  progress = p.progress;
}

module _ {start : Start} {now : Moment} {count : ℕ} {asked : List (Result Call WireFault)} {line bytes : List ℕ}
    (p : Reading start now count asked line bytes) where
  -- a part of what is pending goes to the line that is begun; or the line ended, and is asked behind the others
  pub line_taken : (ended : Bool) (part rest new : List ℕ) (more : List (Result Call WireFault)) → HasNoLf part
      → IsPart ended bytes part rest → is_too_long (line ++ part) ≡ false → IsTaken ended (line ++ part) new asked more
      → Reading start now (if ended then count + 1 else count) more new rest
  line_taken true part rest new more no_lf split short (cleared, behind) =
      let whole = part_moved p.bytes part (10 ∷ rest) (line ++ part) no_lf split refl short in
      let last : List ℕ = line ++ part in
      record {
        taken = past whole;
        bytes = line_past whole new cleared;
        done = p.done;
        waiting = p.waiting ++ last ∷ [];
        split =
            ended_more p.taken last whole.whole whole.no_lf ∙ ap (λ ls. ls ++ last ∷ []) p.split
            ∙ append_assoc p.done p.waiting (last ∷ []);
        means =
            behind ∙ ap (λ ms. ms ++ line_call last ∷ []) p.means ∙ sym (map-append line_call p.waiting (last ∷ []));
        are_short = has_too_long-append p.waiting (last ∷ []) p.are_short ∙ rw short refl;
        progress = p.progress;
      }
  line_taken false part rest new more no_lf split short (begun, same) = record {
    taken = p.taken;
    bytes = rw (split.1) (part_moved p.bytes part [] new no_lf (split.0 ∙ sym (append-nil part)) begun short);
    done = p.done;
    waiting = p.waiting;
    split = p.split;
    means = same ∙ p.means;
    are_short = p.are_short;
    progress = p.progress;
  }

  -- the lines that were taken are the first
  pub waiting_first : AreFirst start.input (p.done ++ p.waiting)
  waiting_first = subst (AreFirst start.input) p.split (taken_first p.bytes)

  -- all that was asked is answered
  pub all_answered : (next : Moment) → next.left ≡ now.left → AreAnswered asked now next
      → Between start next count line bytes
  all_answered next same answers = record {
    taken = p.taken;
    bytes = rw same p.bytes;
    progress =
        subst (Progress start next) (sym p.split)
        (progress_lines p.waiting p.progress p.are_short waiting_first next
        (subst (λ ms. AreAnswered ms now next) p.means answers));
  }

  -- where nothing is answered, all is still asked
  pub none_answered : (next : Moment) → next.left ≡ now.left → AreAnswered [] now next
      → Reading start next count asked line bytes
  none_answered next same (receipts, (replies, output)) = record {
    taken = p.taken;
    bytes = rw same p.bytes;
    done = p.done;
    waiting = p.waiting;
    split = p.split;
    means = p.means;
    are_short = p.are_short;
    progress = progress_same p.progress next receipts replies output;
  }

module _ {start : Start} {now : Moment} {count : ℕ} {asked : List (Result Call WireFault)} {line bytes : List ℕ}
    (p : Reading start now count asked line bytes) where
  -- all that was asked is answered, or nothing of it
  pub some_answered : (all : Bool) (next : Moment) (left : List (Result Call WireFault)) → next.left ≡ now.left
      → AreAnswered (if all then asked else []) now next → left ≡ (if all then [] else asked)
      → Reading start next count left line bytes
  some_answered true next left same answers none = none_asked left none (all_answered p next same answers)
  some_answered false next left same answers kept = rw kept (none_answered p next same answers)

  -- whatever comes of the next line, what is asked stands behind what was answered
  pub asked_anyhow : (r : Result Bool LineFault) (new rest : List ℕ) (more : List (Result Call WireFault))
      → IfOk r (λ ended. (part : List ℕ) × HasNoLf part × IsPart ended bytes part rest
      × (is_too_long (line ++ part) ≡ false) × IsTaken ended (line ++ part) new asked more)
      → OnErr r (more ≡ asked) → (n : ℕ) × (l b : List ℕ) × Reading start now n more l b
  asked_anyhow (Ok ended) new rest more (part, no_lf, split, short, taken) h =
      (_, new, rest, line_taken p ended part rest new more no_lf split short taken)
  asked_anyhow (Err fault) new rest more h same = (count, line, bytes, rw same p)

  -- where no line ended and all is answered, a line is begun and nothing is pending
  pub begun_answered : (rest new : List ℕ) (more : List (Result Call WireFault))
      → (part : List ℕ) × HasNoLf part × IsPart false bytes part rest × (is_too_long (line ++ part) ≡ false)
      × IsTaken false (line ++ part) new asked more
      → (next : Moment) → next.left ≡ now.left → AreAnswered more now next → Between start next count new []
  begun_answered rest new more (part, no_lf, split, short, taken) next same answers =
      all_answered (line_taken p false part [] new more no_lf (split.0, refl) short taken) next same answers

-- all that was gathered was written, and more was read
pub after_read : {start : Start} {now : Moment} {count : ℕ} {line : List ℕ} → Between start now count line []
    → (next : Moment) (chunk : List ℕ) → Writes now next → Consumes now.left next.left chunk
    → Between start next count line chunk
after_read {start} {now} {line = line} p next chunk writes given = record {
  taken = p.taken;
  bytes = record {
    consumed =
        subst (Consumes start.input next.left)
        (ap (λ l. (p.taken ++ l) ++ chunk) (append-nil line) ∙ append_assoc p.taken line chunk)
        (Consumes-trans start.input now.left next.left (p.taken ++ (line ++ [])) chunk p.bytes.consumed given);
    whole = p.bytes.whole;
    lines = p.bytes.lines;
    no_lf = p.bytes.no_lf;
    short = p.bytes.short;
  };
  progress = progress_written p.progress next writes;
}

-- what a `?` passes on
pub passed_on : {T E : Type 0} (r : Result T E) {fault : E} → IsErr r × IsErrAnd r (λ x. x ≡ fault) → r ≡ Err fault
passed_on (Ok x) h = absurd h.1
passed_on (Err e) h = ap Err h.1
