-- `entries::place::put_bytes` meets its contract: the part of the bytes' length came back as the bytes.
-- Assumes nothing.
use native.Mathlib.Omega.{arith}
use Rattle.entries.proofs.Written.{bytes_put}
use Rattle.entries.proofs.place.put_bytes.Goals as goal

pub returns : goal.returns
returns g c =
    bytes_put c.args.at _ c.args.s.now c.copy_from_slice.new.self c.args.bytes c.copy_from_slice.ensures.after (omega arith)
