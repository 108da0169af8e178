-- The SoC check where a clock is read between two moments, and the margin of one reading
-- (RULES 7.10).
-- Assumes nothing.
use Rattle.std.specs.Prelude.{ℕ, zero, suc, ◌-◌, ◌≤◌, ◌≡◌, Bool, true, false, not, List, [], ◌∷◌, leb, ℤ, pos, negsuc, ◌-ℤ◌}
use Rattle.types.specs.Pick.{pick, both}
use Rattle.watched.specs.Watched.{in_time}
use Rattle.node.specs.declared.range.SocVerdict.{SocVerdict}
use Rattle.node.specs.declared.range.SocVerdict.TheVariants as verdict
use Rattle.node.specs.Plain.{Plain, Step, range_answer, margin_answer}
use Rattle.node.specs.Steps.{Test, must, tried, answers, declines, no_run, limit_of}
use Rattle.node.specs.Deadline.{elapsed, is_loss}

-- the tests of a range: TimeLimit for either reading, EarliestAfterLatest
abbrev pub range_tests : ℕ → ℕ → List (Test ℕ)
range_tests earliest latest = must (in_time earliest) 5 ∷ must (in_time latest) 5 ∷ must (leb earliest latest) 21 ∷ []

-- the test of a margin: TimeLimit
abbrev pub margin_tests : ℕ → List (Test ℕ)
margin_tests t = must (in_time t) 5 ∷ []

-- a test holds of the readings from t on, t and n more
unfoldable pub each_reading : (ℕ → Bool) → ℕ → ℕ → Bool
each_reading test t zero = test t
each_reading test t (suc n) = both (test t) (each_reading test (suc t) n)

-- a test holds of every reading from one to the other, both included
abbrev pub every_reading : (ℕ → Bool) → ℕ → ℕ → Bool
every_reading test earliest latest = each_reading test earliest (latest - earliest)

-- lost where every reading between the two, both included, is a loss as at a tick, kept where none
-- is, and open otherwise
abbrev pub verdict_of : Plain → ℕ → ℕ → SocVerdict
verdict_of p earliest latest =
    pick (every_reading (is_loss p) earliest latest) verdict.Lost
    (pick (every_reading (λ t. not (is_loss p t)) earliest latest) verdict.Kept verdict.Open)

-- the margin of a reading: limit minus elapsed, a number of µs with a sign
abbrev pub margin_of : Plain → ℕ → ℤ
margin_of p t = pos (limit_of p.od) -ℤ pos (elapsed p t)

-- a range: whether the SoC is lost between two readings is the answer, and the head stays
abbrev pub range_step : Plain → ℕ → ℕ → Step
range_step p earliest latest =
    tried (range_tests earliest latest) (declines p no_run) (answers p (range_answer (verdict_of p earliest latest)) no_run)

-- a margin: limit minus elapsed is the answer, and the head stays
abbrev pub margin_step : Plain → ℕ → Step
margin_step p t = tried (margin_tests t) (declines p no_run) (answers p (margin_answer (margin_of p t)) no_run)

-- every reading from one to the other, both included, is a loss
abbrev pub AllLost : Plain → ℕ → ℕ → Type 0
AllLost p earliest latest = (t : ℕ) → earliest ≤ t → t ≤ latest → is_loss p t ≡ true

-- no reading from one to the other, both included, is a loss
abbrev pub NoneLost : Plain → ℕ → ℕ → Type 0
NoneLost p earliest latest = (t : ℕ) → earliest ≤ t → t ≤ latest → is_loss p t ≡ false

-- a number with a sign is below 0
abbrev pub is_below0 : ℤ → Bool
is_below0 (pos n) = false
is_below0 (negsuc n) = true
