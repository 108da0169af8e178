-- A line more is played, and the end of the script.
use Rattle.std.proofs.Common.{◌≡◌, ◌∙◌, ◌++◌, ◌<◌, List, ℕ, length, ap, subst, refl, IfSome, arith}
use Rattle.std.specs.Io.Buffered.{reader_remaining}
use Rattle.std.specs.Io.BufRead.{strip_last, take_through}
use Rattle.script.specs.Grammar.{line_says}
use Rattle.replay.proofs.Going.{starts, next, finish, finishes, finish_last}
use Rattle.replay.proofs.play.play.Goals as goal

pub loop-place-init : goal.loop-place-init
loop-place-init g c =
    starts c.args.options (reader_remaining g.R.Read.remaining c.args.script.now) (g.W.Write.contents c.args.out.now) c.new-station.result c.new-station.ensures

pub returns-in-Ok-eq0 : goal.returns-in-Ok-eq0
returns-in-Ok-eq0 g c =
    finish _ _ _ _ _ _ _ _ _ _ c.loop-place.invariant (c.in-Ok-eq0.ensures.end c.in-Ok-eq0.field-0-test)
    c.flush_before_reading.ensures c.flush.ensures.bytes

pub loop-place-preserved : goal.loop-place-preserved
loop-place-preserved g c =
    let read = c.read_until.new.buf.items in
    let bytes : IfSome (reader_remaining g.R.Read.remaining c.loop-place.script) (λ xs. c.read_until.new.buf.items ≡ take_through 10 xs) =
    subst
    (λ (bs : List ℕ). IfSome (reader_remaining g.R.Read.remaining c.loop-place.script) (λ xs. c.read_until.new.buf.items ≡ bs ++ take_through 10 xs))
    c.clear.ensures.items c.in-Ok.ensures.bytes
    in
    let more : 0 < length c.read_until.new.buf.items =
    omega (arith, c.in-Ok.ensures.ok, c.clear.ensures.len, c.read_until.new.buf.ok.0, c.in-Ok.field-0-test)
    in
    let played = c.in_ok-all_played.ensures in
    next _ _ _ _ _ _ _ _ _ _ _ read _ played.0 played.1 _ _ played.4 c.loop-place.invariant
    c.flush_before_reading.ensures bytes c.in-Ok.ensures.rest more
    (played.2 ∙ ap (λ (bs : List ℕ). line_says (strip_last 10 bs)) c.deref-in-loop-place.ensures.value)
    played.3 refl played.5

pub returns-then-without_newline-len : goal.returns-then-without_newline-len
returns-then-without_newline-len g c =
    let read = c.read_until.new.buf.items in
    let bytes : IfSome (reader_remaining g.R.Read.remaining c.loop-place.script) (λ xs. c.read_until.new.buf.items ≡ take_through 10 xs) =
    subst
    (λ (bs : List ℕ). IfSome (reader_remaining g.R.Read.remaining c.loop-place.script) (λ xs. c.read_until.new.buf.items ≡ bs ++ take_through 10 xs))
    c.clear.ensures.items c.in-Ok.ensures.bytes
    in
    let more : 0 < length c.read_until.new.buf.items =
    omega (arith, c.in-Ok.ensures.ok, c.clear.ensures.len, c.read_until.new.buf.ok.0, c.in-Ok.field-0-test)
    in
    let played = c.in_ok-all_played.ensures in
    let goes = next _ _ _ _ _ _ _ _ _ _ _ read _ played.0 played.1 _ _ played.4 c.loop-place.invariant
    c.flush_before_reading.ensures bytes c.in-Ok.ensures.rest more
    (played.2 ∙ ap (λ (bs : List ℕ). line_says (strip_last 10 bs)) c.deref-in-loop-place.ensures.value)
    played.3 refl played.5
    in
    let stripped : c.without_newline.result.now ≡ strip_last 10 c.read_until.new.buf.items =
    c.without_newline.ensures ∙ ap (strip_last 10) c.deref-in-loop-place-2.ensures.value
    in
    let long : length c.without_newline.result.now ≡ length (strip_last 10 c.read_until.new.buf.items) = ap length stripped in
    let same : length (strip_last 10 c.read_until.new.buf.items) ≡ length c.read_until.new.buf.items =
    omega (arith, long, c.len.ensures, c.if-without_newline-len.true, c.read_until.new.buf.ok.0)
    in
    finishes _ _ _ _ _ _ _ _ _ goes
    (finish_last _ _ _ _ _ _ _ _ _ _ read _ _ _ c.loop-place.invariant bytes c.in-Ok.ensures.rest more same goes)
    c.flush-then-without_newline-len.ensures.bytes
