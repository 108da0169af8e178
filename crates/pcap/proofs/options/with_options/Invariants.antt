-- `options::with_options`: the options that are left give what all of them give.
use Rattle.std.proofs.Common.{◌≡◌, ◌≤◌, length}
use Rattle.pcap.specs.Options.{with_options}
use Rattle.pcap.proofs.options.with_options.Given as goal

abbrev pub invariant-loop-next : goal.invariant-loop-next
invariant-loop-next l =
    record {
      same : with_options l.order l.end l.interface l.left ≡ with_options l.fn.order l.fn.end l.fn.plain l.fn.options;
      short : length l.left ≤ l.end;
    }

abbrev pub decreases-loop-next : goal.decreases-loop-next
decreases-loop-next l = length l.left
