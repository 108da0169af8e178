-- The places that are lent are the first so many, before the call and after it.
use Rattle.std.proofs.Common.{◌≡◌, ◌∙◌, ◌++◌, ℕ, min, length, take, drop, ap, sym, rules, arith}
use Rattle.std.proofs.lemmas.List.{take_min, length-drop}
use Rattle.replay.proofs.Lent.{front}
use Rattle.replay.proofs.station.make_over_places.Goals as goal

pub returns-clause-made : goal.returns-clause-made
returns-clause-made c =
    let run = c.args.run.now in
    let places : c.min.result ≡ min c.args.places 40 = search rules in
    let long : length c.args.run.now ≡ 40 = search rules in
    let lent : length c.make_over_records.new.nodes ≡ c.min.result = search (rules, arith) in
    let before : take c.args.places c.args.run.now ≡ take c.min.result c.args.run.now =
    sym (take_min c.args.places run) ∙ ap (λ (k : ℕ). take (min c.args.places k) run) long ∙ ap (λ (k : ℕ). take k run) (sym places)
    in
    let after : take c.args.places (c.make_over_records.new.nodes ++ drop c.min.result c.args.run.now) ≡ c.make_over_records.new.nodes =
    front c.args.places c.make_over_records.new.nodes (drop c.min.result run) (omega (arith, length-drop c.min.result run, places, long, lent))
    in
    rw (before, after) c.make_over_records.ensures
