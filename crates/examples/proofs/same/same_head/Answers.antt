-- `examples::same::same_head` meets its contract: the eight parts.
-- Assumes nothing.
use Rattle.examples.proofs.Exact.{exact_nmt, exact_dll, exact_errors, exact_soc, exact_od, exact_queue, exact_history, exact_moment, exact_head, moved}
use Rattle.examples.proofs.same.same_head.Goals as goal

pub returns : goal.returns
returns c =
    exact_head c.args.a.now c.args.b.now
    (moved c.nmt_of.ensures c.nmt_of-2.ensures (exact_nmt _ _ _ c.eq.ensures))
    (moved c.dll_of.ensures c.dll_of-2.ensures (exact_dll _ _ _ c.eq-2.ensures))
    (moved c.errors_of.ensures c.errors_of-2.ensures (exact_errors _ _ _ c.eq-3.ensures))
    (moved c.soc_of.ensures c.soc_of-2.ensures (exact_soc _ _ _ c.eq-4.ensures))
    (moved c.od_of.ensures c.od_of-2.ensures (exact_od _ _ _ c.eq-5.ensures))
    (moved c.queue_of.ensures c.queue_of-2.ensures (exact_queue _ _ _ c.eq-6.ensures))
    (moved c.history_of.ensures c.history_of-2.ensures (exact_history _ _ _ c.eq-7.ensures))
    (moved c.earliest_of.ensures c.earliest_of-2.ensures (exact_moment _ _ _ c.eq-8.ensures))
