-- the history of a run is one of a single thread, and what is refused was written since
use Rattle.std.proofs.Common.{◌≡◌, ℕ, List, ◌++◌, take, sym, ap, subst, ◌∙◌}
use Rattle.casa_flight.specs.declared.call.Call.{Call}
use Rattle.casa_flight.specs.declared.reply.Reply.{Reply}
use Rattle.casa_flight.specs.Replies.{reply}
use Rattle.casa_history.specs.declared.entry.Entry.{Entry}
use Rattle.casa_footprint.specs.Items.{AgreeOn}
use Rattle.casa_footprint.specs.Footprint.{reads}
use Rattle.casa_footprint.specs.Stamps.{state_after}
use Rattle.casa_footprint.proofs.Stamps.{same_item}
use Rattle.casa_footprint.proofs.Written.{after_good, unwritten_stamp}
use Rattle.casa_plan_spec.proofs.Decided.{reply_decided}
use Rattle.casa_plan.specs.Rooms.{IsSequential}
use Rattle.casa_interleavings.specs.declared.event.Event.{Event}
use Rattle.casa_interleavings.specs.Scenes.{Hand, Scene, opening_scene, Leads}
use Rattle.casa_interleavings.specs.Desks.{Begins}
use Rattle.casa_interleavings.specs.Past.{HandBegins}
use Rattle.casa_interleavings.specs.Causes.{CommitsIn}
use Rattle.casa_interleavings.specs.Board.{sequential_reply, HasSameStamps, RefusalsHaveCauses}
use Rattle.casa_interleavings.proofs.Past.{leads_begin}
use Rattle.casa_interleavings.proofs.Causes.{are_committed, refusal_moved}

abbrev Entries : Type 0
Entries = List (Entry Call Reply)

-- what a worker hands in was read after a history with which the present one begins
commit_begins : {events : List (Event Call)} {w : ℕ} {call : Call} {before : Entries} {m : Scene Call Reply}
    → CommitsIn sequential_reply HasSameStamps events w call before m → Begins before m.history
commit_begins {events} {w} {m = m} commit =
    subst (λ (h : Hand Call Reply). HandBegins m.history h) commit.holds
    (leads_begin sequential_reply HasSameStamps (take commit.index events) opening_scene m (λ v. tt) commit.leads w)

-- the reply to a call stays the same while what it reads has the same stamps
reply_stays : (before later : Entries) (call : Call) → HasSameStamps before call (before ++ later)
    → sequential_reply before call ≡ sequential_reply (before ++ later) call
reply_stays before later call unmoved =
    reply_decided (state_after before) (state_after (before ++ later)) call (after_good before) (after_good (before ++ later)) agree
  where
    agree : AgreeOn (reads (state_after before) call) (state_after before) (state_after (before ++ later))
    agree i read_it = same_item before later i (sym (unmoved i read_it))

pub are_sequential : (events : List (Event Call)) (n : Scene Call Reply)
    → Leads sequential_reply HasSameStamps events opening_scene n → IsSequential n.history
are_sequential events n leads k e at =
    let (before, m, commit, same, unmoved, replied) = are_committed sequential_reply HasSameStamps events n leads k e at in
    let begins = commit_begins commit in
    let now = subst (λ (h : Entries). HasSameStamps before e.call h) begins.1 unmoved in
    replied ∙ reply_stays before begins.0 e.call now
    ∙ ap (λ (h : Entries). reply (state_after h) e.call) (sym begins.1 ∙ same)

pub refusals_caused : (events : List (Event Call)) → RefusalsHaveCauses events
refusals_caused events w call before m refused =
    let begins = commit_begins refused.commit in
    let moved = refusal_moved sequential_reply HasSameStamps refused in
    let now = subst (λ (h : Entries). ¬ (HasSameStamps before call h)) begins.1 moved in
    (begins.0, begins.1, moved, λ none. now (λ i read_it. unwritten_stamp before begins.0 i (none i read_it)))
