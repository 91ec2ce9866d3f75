-- how a session ends
use Rattle.std.proofs.Common.{◌≡◌, ℕ, ◌+◌, ◌<◌, List, [], ◌∷◌, ◌++◌, length, map, true, false, Option, refl, sym, ap, ◌∙◌, subst, append-nil, append_assoc, length-append, inl, inr}
use Rattle.std.proofs.lemmas.Option.{IfSome_then}
use Rattle.std.specs.Prelude.{Result, Ok, Err, IfSome}
use Rattle.std.specs.Io.KnownBytes.{Appends, Consumes, IsAtEnd}
use Rattle.std.proofs.KnownBytes.{Consumes-whole}
use Rattle.casa_flight.specs.declared.call.Call.{Call}
use Rattle.casa_wire.specs.declared.fault.WireFault.{WireFault}
use Rattle.casa_wire.specs.Commands.{line_call}
use Rattle.casa_session.specs.declared.fault.SessionFault.{SessionFault}
use Rattle.casa_session.specs.declared.fault.SessionFault.TheVariants.{LineTooLong, ReadFailed, WriteFailed, ForeignPass, NoMemory}
use Rattle.casa_session.specs.Lines.{ended_lines, lines_of, has_too_long, is_too_long, HasNoLf}
use Rattle.casa_session.specs.Replies.{EndsBy, IsUnwritten, MayReply, TooLongEnds}
use Rattle.casa_session.proofs.Moments.{Start, Moment, AreFailed, EndsAt, IsAnswered, IsFailed}
use Rattle.casa_session.proofs.Parts.{no_lf_append}
use Rattle.casa_session.proofs.Progress.{AreFirst, Progress, Writes, answered, cut_done, cut_line, cut_more, next_first, progress_line, progress_written, rest_first, stopped, stopped_after, too_long_written}
use Rattle.casa_session.proofs.Runs.{Between, Reading, lines_known, waiting_first}
use Rattle.casa_session.proofs.Splitting.{ended_kept, has_too_long-append, line_only, lines_of-append, long_first, or_false, short_part}

module _ {start : Start} {now : Moment} {done : List (List ℕ)} (p : Progress start now done) (foreign : Type 0) where
  -- all was written before a line that has no reply
  ends_before : (next : Moment) (line : List ℕ) {text : List ℕ} → is_too_long line ≡ false
      → AreFirst start.input (done ++ line ∷ []) → MayReply now.receipts next.receipts (line_call line) text
      → Appends now.output next.output now.replies.bytes.items → EndsAt foreign (Err NoMemory) start next
  ends_before next line short first may sent =
      IfSome_then start.input first (λ xs q.
      (done, line ∷ q.0, q.1 ∙ append_assoc done (line ∷ []) q.0, stopped p next line q.0 short may sent))

  -- a line has no reply
  ends_failing : (fault : SessionFault) (next : Moment) (line : List ℕ) → is_too_long line ≡ false
      → AreFirst start.input (done ++ line ∷ []) → IsFailed foreign fault line now next
      → EndsAt foreign (Err fault) start next
  ends_failing (WriteFailed n) next line short first (text, may, cut) =
      IfSome_then start.input first (λ xs q.
      let (lines, left, split, is_cut) = cut_line p next line q.0 short may cut in
      (lines, left, q.1 ∙ append_assoc done (line ∷ []) q.0 ∙ split, is_cut))
  ends_failing ForeignPass next line short first (is_foreign, h) =
      (is_foreign, ends_before next line short first h.1 h.2)
  ends_failing NoMemory next line short first (text, may, sent) = ends_before next line short first may sent
  ends_failing fault next line short first h = absurd h

  -- what is gathered can't be written
  pub ends_unwritten : (fault : SessionFault) (output : Option (List ℕ))
      → IsUnwritten fault now.replies now.output output
      → EndsAt foreign (Err fault) start (record now { output = output })
  ends_unwritten (WriteFailed n) output h =
      IfSome_then start.input p.first (λ xs q. (done, q.0, q.1, cut_done p output h))
  ends_unwritten fault output h = absurd h

  -- there is no memory for a line
  pub ends_without_memory : (ended : SessionFault) (output : Option (List ℕ))
      → EndsBy ended NoMemory now.replies now.output output
      → EndsAt foreign (Err ended) start (record now { output = output })
  ends_without_memory ended output (inl by) =
      let same : now.receipts ≡ now.receipts ++ [] = sym (append-nil now.receipts) in
      rw (by.0) (IfSome_then start.input p.first (λ xs q.
      (done, q.0, q.1, stopped_after p (record now { output = output }) q.0 [] same (inl refl) by.1)))
  ends_without_memory ended output (inr h) = ends_unwritten ended output h

-- one of some lines has no reply
ends_among : {start : Start} {now : Moment} {done : List (List ℕ)} (lines : List (List ℕ)) → Progress start now done
    → has_too_long lines ≡ false → AreFirst start.input (done ++ lines) → (foreign : Type 0) (fault : SessionFault)
    (next : Moment) → AreFailed foreign fault (map line_call lines) now next → EndsAt foreign (Err fault) start next
ends_among [] p short first foreign fault next h = absurd h
ends_among {start} {now} {done} (line ∷ lines) p short first foreign fault next (inl fails) =
    let shorts = or_false (is_too_long line) (has_too_long lines) short in
    ends_failing p foreign fault next line shorts.0 (next_first start.input done line lines first) fails
ends_among {start} {now} {done} (line ∷ lines) p short first foreign fault next (inr (receipts, replies, output, answers, more)) =
    let then : Moment = record { left = now.left; receipts = receipts; output = output; replies = replies } in
    let shorts = or_false (is_too_long line) (has_too_long lines) short in
    let one = progress_line p then line shorts.0 (next_first start.input done line lines first) answers in
    ends_among lines one shorts.1 (rest_first start.input done line lines first) foreign fault next more

-- a line that was asked has no reply
pub ends_at_asked : {start : Start} {now : Moment} {count : ℕ} {asked : List (Result Call WireFault)} {line bytes : List ℕ}
    → Reading start now count asked line bytes → (foreign : Type 0) (fault : SessionFault) (next : Moment)
    → AreFailed foreign fault asked now next → EndsAt foreign (Err fault) start next
ends_at_asked {now = now} p foreign fault next h =
    ends_among p.waiting p.progress p.are_short (waiting_first p) foreign fault next
    (subst (λ ms. AreFailed foreign fault ms now next) p.means h)

-- the lines that are done, and then one that is too long
abbrev IsLong : (done lines : List (List ℕ)) → Type 0
IsLong done lines =
    (first : List ℕ) × (tail : List (List ℕ)) × (lines ≡ done ++ first ∷ tail) × (is_too_long first ≡ true)

module _ {start : Start} {now : Moment} {count : ℕ} {line bytes : List ℕ}
    (p : Between start now count line bytes) where
  -- where a line is too long as far as it is known, the next line is
  long_next : (part rest : List ℕ) × HasNoLf part × (bytes ≡ part ++ rest) × (is_too_long (line ++ part) ≡ true)
      → IfSome start.input (λ xs. IsLong (ended_lines p.taken) (lines_of xs))
  long_next (part, rest, no_lf, split, long) =
      lines_known p.bytes (IsLong (ended_lines p.taken)) (λ ys.
      let all : line ++ (bytes ++ ys) ≡ (line ++ part) ++ (rest ++ ys) = rw split (simp append_assoc) in
      let joined = no_lf_append line part p.bytes.no_lf no_lf in
      let (first, tail, is, first_long) = long_first (line ++ part) (rest ++ ys) joined long in
      (first, tail, ap (λ ls. ended_lines p.taken ++ ls) (ap lines_of all ∙ is), first_long))

  -- a line is too long
  pub ends_too_long : (foreign : Type 0) (fault : SessionFault) (output : Option (List ℕ))
      → (part rest : List ℕ) × HasNoLf part × (bytes ≡ part ++ rest) × (is_too_long (line ++ part) ≡ true)
      → TooLongEnds fault now.replies now.output output
      → EndsAt foreign (Err fault) start (record now { output = output })
  ends_too_long foreign LineTooLong output long h =
      IfSome_then start.input (long_next long) (λ xs q.
      let (first, tail, is, first_long) = q in
      let is_long : has_too_long (first ∷ tail) ≡ true = rw first_long refl in
      rw is (
        too_long_written p.progress output first tail first_long h,
        has_too_long-append (ended_lines p.taken) (first ∷ tail) p.progress.short ∙ is_long,
      ))
  ends_too_long foreign (WriteFailed n) output long h =
      IfSome_then start.input (long_next long) (λ xs q.
      let (first, tail, is, first_long) = q in (
        ended_lines p.taken ++ first ∷ tail,
        [],
        is ∙ sym (append-nil (ended_lines p.taken ++ first ∷ tail)),
        cut_more p.progress (record now { output = output }) (first ∷ tail) []
            (sym (append-nil now.receipts)) (rw first_long refl) (rw first_long refl) h,
      ))
  ends_too_long foreign fault output long h = absurd h

-- the input is at its end, and these are its lines; so many were answered
pub record Finished (start : Start) (now : Moment) (count : ℕ) : Type 0 where
  pub done : List (List ℕ)
  pub all : IfSome start.input (λ xs. lines_of xs ≡ done)
  pub lines : count ≡ length done
  pub progress : Progress start now done

module _ {start : Start} {now : Moment} {count : ℕ} {line : List ℕ} (p : Between start now count line []) where
  joined : lines_of (p.taken ++ line) ≡ ended_lines p.taken ++ lines_of line
  joined = lines_of-append p.taken line p.bytes.whole

  -- a read failed
  pub ends_unread : (foreign : Type 0) → now.replies.bytes.items ≡ [] → EndsAt foreign (Err ReadFailed) start now
  ends_unread foreign none = (
    p.taken ++ line,
    subst (λ (l : List ℕ). Consumes start.input now.left (p.taken ++ l)) (append-nil line) p.bytes.consumed,
    rw (ended_kept p.taken line p.bytes.no_lf) (answered p.progress none),
    rw joined (
        has_too_long-append (ended_lines p.taken) (lines_of line) p.progress.short ∙ short_part line p.bytes.no_lf p.bytes.short),
  )

  -- at the end of the input nothing comes behind the line that is begun
  lines_at_end : IsAtEnd now.left → IfSome start.input (λ xs. lines_of xs ≡ ended_lines p.taken ++ lines_of line)
  lines_at_end end =
      Consumes-whole start.input now.left (p.taken ++ (line ++ []))
      (λ xs. lines_of xs ≡ ended_lines p.taken ++ lines_of line) p.bytes.consumed end
      (ap (λ l. lines_of (p.taken ++ l)) (append-nil line) ∙ joined)

  -- the input ended after a line
  pub finished : IsAtEnd now.left → line ≡ [] → Finished start now count
  finished end no_line = record {
    done = ended_lines p.taken;
    all = IfSome_then start.input (lines_at_end end) (λ xs is. is ∙ rw no_line (append-nil (ended_lines p.taken)));
    lines = sym p.bytes.lines;
    progress = p.progress;
  }

  -- the input is at its end, and the line that is begun is the last one
  module _ (end : IsAtEnd now.left) (some : 0 < length line) where
    last_line : IfSome start.input (λ xs. lines_of xs ≡ ended_lines p.taken ++ line ∷ [])
    last_line =
        IfSome_then start.input (lines_at_end end)
        (λ xs is. is ∙ ap (λ ls. ended_lines p.taken ++ ls) (line_only line p.bytes.no_lf some))

    last_next : AreFirst start.input (ended_lines p.taken ++ line ∷ [])
    last_next =
        IfSome_then start.input last_line (λ xs is. ([], is ∙ sym (append-nil (ended_lines p.taken ++ line ∷ []))))

    -- the last line has no reply
    pub ends_at_last : (foreign : Type 0) (fault : SessionFault) (next : Moment) → IsFailed foreign fault line now next
        → EndsAt foreign (Err fault) start next
    ends_at_last foreign fault next h = ends_failing p.progress foreign fault next line p.bytes.short last_next h

    -- the last line was answered
    pub finished_last : (next : Moment) → IsAnswered line now next → Finished start next (count + 1)
    finished_last next answers = record {
      done = ended_lines p.taken ++ line ∷ [];
      all = last_line;
      lines = sym (length-append (ended_lines p.taken) (line ∷ []) ∙ ap (λ k. k + 1) p.bytes.lines);
      progress = progress_line p.progress next line p.bytes.short last_next answers;
    }

module _ {start : Start} {now : Moment} {count : ℕ} (f : Finished start now count) where
  -- what is gathered was written
  pub finished_written : (next : Moment) → Writes now next → Finished start next count
  finished_written next writes = record {
    done = f.done;
    all = f.all;
    lines = f.lines;
    progress = progress_written f.progress next writes;
  }

  -- all was written
  pub ends_finished : (foreign : Type 0) → now.replies.bytes.items ≡ [] → EndsAt foreign (Ok count) start now
  ends_finished foreign none =
      IfSome_then start.input f.all (λ xs is. rw is (answered f.progress none, f.progress.short, f.lines))
