-- The two public functions, from their contracts alone: what `feed` makes of a part behind the bytes left, and what `report` answers after any parts.
-- κs: the lifetimes; a: the arguments; x: what is lent, as it is left.
-- Assumes nothing.
use Rattle.std.proofs.Common.{◌≡◌, ℕ, ◌<◌, List, [], ◌∷◌, ◌++◌, length, take, sym, refl, ap, ◌∙◌}
use Rattle.shift.specs.Report.{report}
use Rattle.shift.specs.Feed.{Kept, keeping, absorbed, fed, fed_all, at_start, one_run, printed}
use Rattle.shift.proofs.Totals.{report_whole}
use Rattle.shift.proofs.feed.Shift.feed.Reads as feed-reads
use Rattle.shift.proofs.feed.Shift.report.Reads as report-reads

-- a part p that is lent behind what is kept
pub part_fed :
    (κs : _) (a : _) (r : _) (x : _) →
    feed-reads.Learnt κs a r x →
    (k : Kept) (p : List ℕ) →
    a.0.now.entries ≡ k.entries →
    a.0.now.counts ≡ k.counts →
    a.1.0.now ≡ k.left ++ p →
    keeping x.0.now.entries x.0.now.counts (take x.0.now.left x.1.0.now) ≡ fed k p
part_fed κs a r x l k p e c f =
    l.0
    ∙ (ap (λ (n : ℕ). absorbed n a.0.now.counts a.1.0.now) e
    ∙ (ap (λ (cs : List ℕ). absorbed k.entries cs a.1.0.now) c
    ∙ ap (λ (s : List ℕ). absorbed k.entries k.counts s) f))

-- The parts ps have arrived, one call of `feed` for each, and k is kept.
pub data Arrived : List (List ℕ) → Kept → Type 0 where
  nothing : Arrived [] at_start
  part :
      {ps : List (List ℕ)} {k : Kept} →
      Arrived ps k →
      (κs : _) (a : _) (r : _) (x : _) →
      feed-reads.Learnt κs a r x →
      (p : List ℕ) →
      a.0.now.entries ≡ k.entries →
      a.0.now.counts ≡ k.counts →
      a.1.0.now ≡ k.left ++ p →
      Arrived (ps ++ (p ∷ [])) (keeping x.0.now.entries x.0.now.counts (take x.0.now.left x.1.0.now))

fed_last : (k : Kept) (ps : List (List ℕ)) (p : List ℕ) → fed_all k (ps ++ (p ∷ [])) ≡ fed (fed_all k ps) p
unfolding fed_all
fed_last k [] p = refl
fed_last k (q ∷ ps) p = fed_last (fed k q) ps p

arrived_fed : {ps : List (List ℕ)} {k : Kept} → Arrived ps k → k ≡ fed_all at_start ps
unfolding fed_all
arrived_fed nothing = refl
arrived_fed (part {ps} {k} before κs a r x l p e c f) =
    part_fed κs a r x l k p e c f ∙ (ap (λ (j : Kept). fed j p) (arrived_fed before) ∙ sym (fed_last at_start ps p))

-- The page behind any parts: the report of the parts as one run.
pub parts_reported :
    {ps : List (List ℕ)} {k : Kept} →
    Arrived ps k →
    length (one_run ps) < 18446744073709551616 →
    (κs : _) (a : _) (page : _) (x : _) →
    report-reads.Learnt κs a page x →
    a.0.now.entries ≡ k.entries →
    a.0.now.counts ≡ k.counts →
    a.0.now.left ≡ length k.left →
    page.items ≡ report (one_run ps)
parts_reported {ps} {k} arrived few κs a page x l e c f =
    l
    ∙ (ap (λ (m : ℕ). printed m a.0.now.counts a.0.now.left) e
    ∙ (ap (λ (cs : List ℕ). printed k.entries cs a.0.now.left) c
    ∙ (ap (λ (m : ℕ). printed k.entries k.counts m) f
    ∙ (ap (λ (j : Kept). printed j.entries j.counts (length j.left)) (arrived_fed arrived) ∙ report_whole ps few))))
