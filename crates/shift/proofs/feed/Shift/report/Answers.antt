-- `shift::feed::Shift::report` meets its contract: one line behind another.
-- Assumes nothing.
use Rattle.std.proofs.Common.{append_assoc}
use Rattle.shift.specs.Report.{page, entries_line, total_line}
use Rattle.shift.specs.Feed.{printed}
use Rattle.shift.proofs.feed.Shift.report.Goals as goal

pub returns : goal.returns
unfolding printed page entries_line total_line
returns c =
    rw (c.put_count-3.ensures.text, c.put_count-2.ensures.text, c.put_others.ensures.text, c.others.ensures, c.put_codes.ensures.text, c.put_count.ensures.text, c.new-page.ensures)
    (simp append_assoc)
