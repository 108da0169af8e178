-- `types::frame::error::kinds::DllErrorKind::all_in_order` meets its contract: every kind is found at its place, and the places are counted from 0.
-- Assumes nothing.
use Rattle.std.proofs.Common.{refl}
use Rattle.std.specs.Prelude.{Some, slice_get}
use Rattle.types.specs.Kinds.{kind_place}
use Rattle.types.specs.declared.frame.error.kinds.TheConstants as constant
use Rattle.types.proofs.Cases.{everywhere, DllErrorKinds}
use Rattle.types.proofs.Listing.{in_order}
use Rattle.types.proofs.frame.error.kinds.DllErrorKind.all_in_order.Goals as goal

pub returns : goal.returns
returns c = in_order kind_place constant.DllErrorKind.ALL (everywhere DllErrorKinds (λ x. slice_get constant.DllErrorKind.ALL (kind_place x)) Some refl refl) refl
