-- what is said of the lines of an input, by how it ended
use Rattle.std.proofs.Common.{◌≡◌, ◌≢◌, ◌∙◌, ◌++◌, ℕ, List, [], Bool, Option, None, Some, sym, ap, subst, inl, inr}
use Rattle.std.specs.Prelude.{IsTrue, Result, Ok, Err, IsErrAnd, OnErr, OnOk}
use Rattle.std.specs.Io.KnownBytes.{Appends}
use Rattle.casa_flight.specs.declared.call.Call.{Call}
use Rattle.casa_session.specs.Alone.{lone_sides, transcript_after}
use Rattle.casa_session.specs.Lines.{lines_of}
use Rattle.casa_session.specs.Sending.{IsCutOff}
use Rattle.casa_session.specs.Transcript.{Ends, calls}
use Rattle.casa_session.proofs.PlayedCalls.{lone-answered}
use Rattle.casa_app.specs.declared.fault.PrintFault.{PrintFault}
use Rattle.casa_app.specs.Printed.{IsWhole}
use Rattle.casa_app.specs.Remarked.{IsSaid, Says, SaysAll, SaysSome, replies_to}
use Rattle.casa_app.specs.Remarks.{remarks, said}

pub is_said : {X E : Type 0} (result : Result X E) (v w : Option (List ℕ)) (text : List ℕ) → OnOk result (Appends v w text) → OnErr result (IsCutOff v w text) → IsSaid v w text
is_said (Ok x) v w text whole cut = inl whole
is_said (Err e) v w text whole cut = inr cut

-- all lines were answered
pub all_said : (strict marked : Bool) (r s v w : Option (List ℕ)) (before answered : List Call) (n : ℕ) (first replies : List ℕ) → before ≡ [] → first ≡ []
    → Ends ⊥ (Ok n) (lone_sides before answered r s (Some first) (Some replies)) → IsSaid v w (said marked replies) → (IsTrue strict → remarks replies ≡ []) → SaysAll strict marked r v w
all_said strict marked None s v w before answered n first replies none empty ends says clean = tt
all_said strict marked (Some xs) s v w before answered n first replies none empty ends says clean =
    let same : replies ≡ replies_to xs =
    (lone-answered before answered (Some first) (Some replies) (lines_of xs) ends.0).0 ∙ ap (λ (t : List ℕ). t ++ transcript_after before (lines_of xs)) empty ∙ ap (λ (cs : List Call). transcript_after cs (lines_of xs)) none in
    (subst (λ (t : List ℕ). IsSaid v w (said marked t)) same says, λ is. ap remarks (sym same) ∙ clean is)

pub some_said : (marked : Bool) (r s v w : Option (List ℕ)) (before answered : List Call) (n : ℕ) (first replies : List ℕ) → before ≡ [] → first ≡ []
    → Ends ⊥ (Ok n) (lone_sides before answered r s (Some first) (Some replies)) → IsSaid v w (said marked replies) → remarks replies ≢ [] → SaysSome marked r v w
some_said marked None s v w before answered n first replies none empty ends says some = tt
some_said marked (Some xs) s v w before answered n first replies none empty ends says some =
    let same : replies ≡ replies_to xs =
    (lone-answered before answered (Some first) (Some replies) (lines_of xs) ends.0).0 ∙ ap (λ (t : List ℕ). t ++ transcript_after before (lines_of xs)) empty ∙ ap (λ (cs : List Call). transcript_after cs (lines_of xs)) none in
    (subst (λ (t : List ℕ). IsSaid v w (said marked t)) same says, λ clean. some (ap remarks same ∙ clean))

-- what is said at a fault is said where it is passed on
pub says_at : {X : Type 0} (strict marked : Bool) (result : Result X PrintFault) (fault : PrintFault) (r s v w : Option (List ℕ)) → IsErrAnd result (λ f. f ≡ fault)
    → Says {X = X} strict marked (Err fault) r s v w → Says strict marked result r s v w
says_at strict marked (Ok x) fault r s v w e h = absurd e
says_at {X} strict marked (Err f) fault r s v w e h = subst (λ q. Says {X = X} strict marked (Err q) r s v w) (sym e) h

-- and their calls are those that the desk has answered
pub all_answered : (r s v w : Option (List ℕ)) (before answered : List Call) (n : ℕ) → before ≡ [] → Ends ⊥ (Ok n) (lone_sides before answered r s v w) → IsWhole r answered
all_answered None s v w before answered n none ends = tt
all_answered (Some xs) s v w before answered n none ends =
    (ends.1, (lone-answered before answered v w (lines_of xs) ends.0).1 ∙ ap (λ (cs : List Call). cs ++ calls (lines_of xs)) none)
