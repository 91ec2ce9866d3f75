use Rattle.std.proofs.Common.{◌≡◌, ◌≤◌, take}
use Rattle.casa_commit.specs.Rooms.{entries_of, open_desks}
use Rattle.casa_day.specs.Courses.{course_of, steps}
use Rattle.casa_day.specs.Days.{IsRunningDay}
use Rattle.casa_tape.specs.Journals.{LeavesOnly}
use Rattle.casa_day.specs.Journals.{Grows, Keeps}
use Rattle.casa_day.proofs.day.Day.live.Given as goal

-- the first of the events led here
abbrev pub invariant-loop-event : goal.invariant-loop-event
invariant-loop-event g l = record {
  running : IsRunningDay g.S.Script g.T.Tape l.self;
  history : Grows (entries_of l.fn.self.room) (entries_of l.self.room);
  told : Grows l.fn.self.journal.told.items l.self.journal.told.items;
  journaled : l.fn.self.journal.journaled ≤ l.self.journal.journaled;
  any_moment : LeavesOnly g.T.Tape l.fn.self.journal.tape l.self.journal.tape (Keeps g.S.Script (entries_of l.self.room) l.fn.self.journal.journaled);
  desks : open_desks l.self.room ≡ open_desks l.fn.self.room;
  course : course_of l.self ≡ steps (open_desks l.fn.self.room) (take l.event-index l.events) (course_of l.fn.self);
}
