-- A reading whose next part depends on what was read.
-- Assumes nothing.
use Rattle.std.specs.declared.result.Result.{Result}
use Rattle.std.specs.declared.result.Result.TheVariants.{Ok, Err}
use Rattle.std.specs.Prelude.{ℕ}
use Rattle.pcap.specs.declared.fault.Wrong.{Wrong}
use Rattle.pcap.specs.declared.fault.Flaw.{Flaw}
use Rattle.pcap.specs.declared.fault.Halt.{Halt}
use Rattle.pcap.specs.declared.fault.Halt.TheVariants as halt

-- what the second reading makes of what the first read, or why the first did not read
infixl 10 ◌>>=◌
abbrev pub ◌>>=◌ : {A B E : Type 0} → Result A E → (A → Result B E) → Result B E
(Ok x) >>= f = f x
(Err e) >>= f = Err e

-- something wrong, so many bytes behind the front
abbrev pub flaw : ℕ → Wrong → Flaw
flaw at w = record { at = at; wrong = w }

-- something wrong ends the reading
abbrev pub raised : {A : Type 0} → Result A Flaw → Result A Halt
raised (Ok x) = Ok x
raised (Err f) = Err (halt.Flaw f)
