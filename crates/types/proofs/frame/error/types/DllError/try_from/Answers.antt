-- `types::frame::error::types::DllError::try_from` meets its contract: the kind is read first.
-- Assumes nothing.
use Rattle.std.proofs.Common.{rules, ◌≡◌}
use mathlib.Core.Path.{◌∙◌}
use Rattle.std.specs.declared.result.Result.TheVariants.{Err}
use Rattle.types.proofs.ErrorKinds.{of_known, of_unknown}
use Rattle.types.proofs.frame.error.types.DllError.try_from.Goals as goal

pub returns-in_err-try_from : goal.returns-in_err-try_from
returns-in_err-try_from c =
    let r : c.from_residual.result ≡ Err c.in_err-try_from.field-0.0 = search rules in
    r ∙ of_unknown c.args.kind _ _ (search rules)

pub returns : goal.returns
returns c =
    c.of_kind.ensures ∙ of_known c.args.kind _ _ (search rules)
