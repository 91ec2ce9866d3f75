-- how far a session has come: which lines were answered, and how much of their transcript was written
use Rattle.std.proofs.Common.{◌≡◌, ℕ, ◌+◌, List, [], ◌∷◌, ◌++◌, length, map, take, true, false, Option, None, Some, refl, sym, ap, ◌∙◌, subst, append-nil, append_assoc, length-append, arith, inl, inr}
use Rattle.std.specs.Prelude.{IfSome, ◌⊎◌}
use Rattle.std.specs.Io.KnownBytes.{Appends}
use Rattle.std.proofs.KnownBytes.{Appends-nil, Appends-trans}
use Rattle.std.proofs.Math.Seq.{take-append-add}
use Rattle.std.proofs.lemmas.Option.{IfSome_then}
use Rattle.casa_session.specs.Sending.{saturating_count}
use Rattle.casa_wire.specs.Commands.{line_call}
use Rattle.casa_wire.specs.LineTexts.{too_long_line}
use Rattle.casa_session.specs.declared.replies.Replies.{Replies}
use Rattle.casa_session.specs.Lines.{lines_of, is_too_long, has_too_long}
use Rattle.casa_session.specs.Replies.{CutText, MayReply}
use Rattle.casa_session.specs.Receipts.{Receipts}
use Rattle.casa_session.specs.Transcript.{calls_of, calls, transcript, AnswersLines, Cut, Stopped}
use Rattle.casa_session.proofs.Moments.{Start, Moment, first_moment, AreAnswered, IsAnswered}
use Rattle.casa_session.proofs.Splitting.{has_too_long-append, or_false}
use Rattle.casa_session.proofs.Transcripts.{called-append, grown, one_call, one_line, transcript-append}

-- the lines of the input begin with these
abbrev pub AreFirst : Option (List ℕ) → List (List ℕ) → Type 0
AreFirst input lines = IfSome input (λ xs. (rest : List (List ℕ)) × (lines_of xs ≡ lines ++ rest))

-- by now these first lines were answered; of their transcript what is gathered is left, and all before it was written
pub record Progress (start : Start) (now : Moment) (done : List (List ℕ)) : Type 0 where
  pub first : AreFirst start.input done
  pub short : has_too_long done ≡ false
  pub receipts : Receipts
  pub grows : now.receipts ≡ start.receipts ++ receipts
  pub called : calls_of receipts ≡ calls done
  pub sent : List ℕ
  pub split : transcript receipts done ≡ sent ++ now.replies.bytes.items
  pub counts : now.replies.written ≡ saturating_count (length sent)
  pub written : Appends start.output now.output sent

-- from one moment to the next all that was gathered was written
pub record Writes (now next : Moment) : Type 0 where
  pub same : next.receipts ≡ now.receipts
  pub written : Appends now.output next.output now.replies.bytes.items
  pub none : next.replies.bytes.items ≡ []
  pub count : next.replies.written ≡ saturating_count (now.replies.written + length now.replies.bytes.items)

none_first : (input : Option (List ℕ)) → AreFirst input []
none_first None = tt
none_first (Some xs) = (lines_of xs, refl)

-- at the first moment no line was answered
pub no_progress : (start : Start) (replies : Replies) → replies.bytes.items ≡ [] → replies.written ≡ 0
    → Progress start (first_moment start replies) []
no_progress start replies none zero = record {
  first = none_first start.input;
  short = refl;
  receipts = [];
  grows = sym (append-nil start.receipts);
  called = refl;
  sent = [];
  split = sym none;
  counts = zero;
  written = Appends-nil start.output;
}

module _ {start : Start} {now : Moment} {done : List (List ℕ)} (p : Progress start now done) where
  -- the transcript goes on with that of more lines
  transcript_more : (receipts : Receipts) (more : List (List ℕ))
      → transcript (p.receipts ++ receipts) (done ++ more)
      ≡ p.sent ++ (now.replies.bytes.items ++ transcript receipts more)
  transcript_more receipts more =
      transcript-append p.receipts receipts done more p.short p.called
      ∙ ap (λ l. l ++ transcript receipts more) p.split
      ∙ append_assoc p.sent now.replies.bytes.items (transcript receipts more)

  -- what is gathered is written
  pub progress_written : (next : Moment) → Writes now next → Progress start next done
  progress_written next w =
      let bytes : List ℕ = now.replies.bytes.items in
      record {
        first = p.first;
        short = p.short;
        receipts = p.receipts;
        grows = w.same ∙ p.grows;
        called = p.called;
        sent = p.sent ++ bytes;
        split = p.split ∙ sym (append-nil (p.sent ++ bytes)) ∙ ap (λ l. (p.sent ++ bytes) ++ l) (sym w.none);
        counts = omega (arith, w.count, p.counts, length-append p.sent bytes);
        written = Appends-trans start.output now.output next.output p.sent bytes p.written w.written;
      }

  -- one line more is answered
  pub progress_line : (next : Moment) (line : List ℕ) → is_too_long line ≡ false
      → AreFirst start.input (done ++ line ∷ []) → IsAnswered line now next → Progress start next (done ++ line ∷ [])
  progress_line next line short first (text, q, g) =
      let text_is : transcript q.receipts (line ∷ []) ≡ text = one_line line q.receipts short ∙ sym q.answer in
      record {
        first = first;
        short = has_too_long-append done (line ∷ []) p.short ∙ rw short refl;
        receipts = p.receipts ++ q.receipts;
        grows = grown start.receipts now.receipts next.receipts p.receipts q.receipts p.grows q.grows;
        called =
            called-append p.receipts q.receipts done (line ∷ []) p.short p.called
            (q.called ∙ sym (one_call line short));
        sent = p.sent ++ g.sent;
        split =
            transcript_more q.receipts (line ∷ [])
            ∙ ap (λ l. p.sent ++ l) (ap (λ l. now.replies.bytes.items ++ l) text_is ∙ g.split)
            ∙ sym (append_assoc p.sent g.sent next.replies.bytes.items);
        counts = omega (arith, g.reported, p.counts, length-append p.sent g.sent);
        written = Appends-trans start.output now.output next.output p.sent g.sent p.written g.written;
      }

  -- a moment that stands as this one
  pub progress_same : (next : Moment) → next.receipts ≡ now.receipts → next.replies ≡ now.replies
      → next.output ≡ now.output → Progress start next done
  progress_same next receipts replies output = record {
    first = p.first;
    short = p.short;
    receipts = p.receipts;
    grows = receipts ∙ p.grows;
    called = p.called;
    sent = p.sent;
    split = p.split ∙ ap (λ (r : Replies). p.sent ++ r.bytes.items) (sym replies);
    counts = ap (λ (r : Replies). r.written) replies ∙ p.counts;
    written = subst (λ w. Appends start.output w p.sent) (sym output) p.written;
  }

  -- all is written
  pub answered : now.replies.bytes.items ≡ [] → AnswersLines start.receipts now.receipts start.output now.output done
  answered none = record {
    receipts = p.receipts;
    grows = p.grows;
    called = p.called;
    written =
        subst (Appends start.output now.output)
        (sym (p.split ∙ ap (λ l. p.sent ++ l) none ∙ append-nil p.sent)) p.written;
  }

  -- what was gathered and the text of more lines behind it is cut
  pub cut_more : (next : Moment) (more : List (List ℕ)) (receipts : Receipts) {text : List ℕ} {n : ℕ}
      → next.receipts ≡ now.receipts ++ receipts → calls_of receipts ≡ calls more → transcript receipts more ≡ text
      → CutText text now.replies n now.output next.output
      → Cut start.receipts next.receipts start.output next.output (done ++ more) n
  cut_more next more receipts {text} grows called text_is q =
      let after : List ℕ = now.replies.bytes.items ++ text in
      let whole : transcript (p.receipts ++ receipts) (done ++ more) ≡ p.sent ++ after =
      transcript_more receipts more ∙ ap (λ l. p.sent ++ (now.replies.bytes.items ++ l)) text_is in
      record {
        receipts = p.receipts ++ receipts;
        grows = grown start.receipts now.receipts next.receipts p.receipts receipts p.grows grows;
        called = called-append p.receipts receipts done more p.short p.called called;
        count = length p.sent + q.count;
        within = rw (whole, length-append p.sent after) (omega (arith, q.within));
        reported = omega (arith, q.reported, p.counts);
        written =
            rw (whole, take-append-add p.sent after q.count)
            (Appends-trans start.output now.output next.output p.sent (take q.count after) p.written q.written);
      }

  -- what was gathered is cut
  pub cut_done : (output : Option (List ℕ)) {n : ℕ} → CutText [] now.replies n now.output output
      → Cut start.receipts now.receipts start.output output done n
  cut_done output {n} cut =
      subst (λ (ls : List (List ℕ)). Cut start.receipts now.receipts start.output output ls n) (append-nil done)
      (cut_more (record now { output = output }) [] [] (sym (append-nil now.receipts)) refl refl cut)

  -- what was gathered is cut, or the text of a line behind it
  pub cut_line : (next : Moment) (line : List ℕ) (rest : List (List ℕ)) {text : List ℕ} {n : ℕ}
      → is_too_long line ≡ false → MayReply now.receipts next.receipts (line_call line) text
      → CutText text now.replies n now.output next.output
      → (lines left : List (List ℕ)) × (done ++ line ∷ rest ≡ lines ++ left)
      × Cut start.receipts next.receipts start.output next.output lines n
  cut_line next line rest short (inl q) cut =
      let called : calls_of q.receipts ≡ calls (line ∷ []) = q.called ∙ sym (one_call line short) in (
        done ++ line ∷ [],
        rest,
        sym (append_assoc done (line ∷ []) rest),
        cut_more next (line ∷ []) q.receipts q.grows called (one_line line q.receipts short ∙ sym q.answer) cut,
      )
  cut_line next line rest {n = n} short (inr (same, none)) cut = (
    done,
    line ∷ rest,
    refl,
    rw same (cut_done next.output (subst (λ (t : List ℕ). CutText t now.replies n now.output next.output) none cut)),
  )

  -- all was written, and perhaps the next line answered
  pub stopped_after : (next : Moment) (left : List (List ℕ)) (last : Receipts) → next.receipts ≡ now.receipts ++ last
      → (last ≡ []) ⊎ (calls_of last ≡ calls (take 1 left))
      → Appends now.output next.output now.replies.bytes.items
      → Stopped start.receipts next.receipts start.output next.output done left
  stopped_after next left last grows of_next sent = record {
    short = p.short;
    receipts = p.receipts;
    last = last;
    of_next = of_next;
    grows = grows ∙ ap (λ rs. rs ++ last) p.grows;
    called = p.called;
    written =
        subst (Appends start.output next.output) (sym p.split)
        (Appends-trans start.output now.output next.output p.sent now.replies.bytes.items p.written sent);
  }

  -- all was written before a line that has no reply
  pub stopped : (next : Moment) (line : List ℕ) (rest : List (List ℕ)) {text : List ℕ} → is_too_long line ≡ false
      → MayReply now.receipts next.receipts (line_call line) text
      → Appends now.output next.output now.replies.bytes.items
      → Stopped start.receipts next.receipts start.output next.output done (line ∷ rest)
  stopped next line rest short (inl q) sent =
      stopped_after next (line ∷ rest) q.receipts q.grows (inr (q.called ∙ sym (one_call line short))) sent
  stopped next line rest short (inr (same, none)) sent =
      stopped_after next (line ∷ rest) [] (same ∙ sym (append-nil now.receipts)) (inl refl) sent

  -- all was written, and the text for a line that is too long
  pub too_long_written : (output : Option (List ℕ)) (first : List ℕ) (tail : List (List ℕ)) → is_too_long first ≡ true
      → Appends now.output output (now.replies.bytes.items ++ too_long_line)
      → AnswersLines start.receipts now.receipts start.output output (done ++ first ∷ tail)
  too_long_written output first tail long sent =
      let after : List ℕ = now.replies.bytes.items ++ too_long_line in
      let none : calls_of [] ≡ calls (first ∷ tail) = rw long refl in
      let text : transcript [] (first ∷ tail) ≡ too_long_line = rw long refl in
      record {
        receipts = p.receipts ++ [];
        grows = p.grows ∙ ap (λ rs. start.receipts ++ rs) (sym (append-nil p.receipts));
        called = called-append p.receipts [] done (first ∷ tail) p.short p.called none;
        written =
            subst (Appends start.output output)
            (sym (transcript_more [] (first ∷ tail) ∙ ap (λ l. p.sent ++ (now.replies.bytes.items ++ l)) text))
            (Appends-trans start.output now.output output p.sent after p.written sent);
      }

-- of more lines that are first the next one is
pub next_first : (input : Option (List ℕ)) (done : List (List ℕ)) (line : List ℕ) (lines : List (List ℕ))
    → AreFirst input (done ++ line ∷ lines) → AreFirst input (done ++ line ∷ [])
next_first input done line lines first =
    IfSome_then input first (λ xs q. (
      lines ++ q.0,
      q.1 ∙ append_assoc done (line ∷ lines) q.0 ∙ sym (append_assoc done (line ∷ []) (lines ++ q.0)),
    ))

-- and so they are behind it
pub rest_first : (input : Option (List ℕ)) (done : List (List ℕ)) (line : List ℕ) (lines : List (List ℕ))
    → AreFirst input (done ++ line ∷ lines) → AreFirst input ((done ++ line ∷ []) ++ lines)
rest_first input done line lines first =
    subst (AreFirst input) (sym (append_assoc done (line ∷ []) lines)) first

-- lines were answered one after the other
pub progress_lines : {start : Start} {now : Moment} {done : List (List ℕ)} (lines : List (List ℕ))
    → Progress start now done → has_too_long lines ≡ false → AreFirst start.input (done ++ lines) → (next : Moment)
    → AreAnswered (map line_call lines) now next → Progress start next (done ++ lines)
progress_lines {done = done} [] p short first next (receipts, (replies, output)) =
    rw (append-nil done) (progress_same p next receipts replies output)
progress_lines {start} {now} {done} (line ∷ lines) p short first next (receipts, replies, output, answers, more) =
    let then : Moment = record { left = now.left; receipts = receipts; output = output; replies = replies } in
    let shorts = or_false (is_too_long line) (has_too_long lines) short in
    let one = progress_line p then line shorts.0 (next_first start.input done line lines first) answers in
    let all = progress_lines lines one shorts.1 (rest_first start.input done line lines first) next more in
    subst (Progress start next) (append_assoc done (line ∷ []) lines) all
