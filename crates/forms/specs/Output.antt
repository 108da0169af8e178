-- What a write does to an output.
-- Assumes nothing.
use Rattle.std.specs.Prelude.{◌≡◌, IsErr, IsOk}
use Rattle.forms.specs.declared.output.Output.{Output}

-- a write changes nothing where one has failed before; where it has not failed, the bytes that are
-- added are as `joined` says
abbrev pub Writes : {W : Type 0} → Output W → Output W → Type 0 → Type 0
Writes old new joined = (IsErr old.outcome → new ≡ old) × (IsOk new.outcome → joined)
