-- Ascii is text.
use Rattle.std.proofs.lemmas.Str.{IsUtf8-from_ascii}
use Rattle.telling.proofs.texts.text_of.Goals as goal

pub unreachable-requires : goal.unreachable-requires
unreachable-requires c = c.in_default.ensures.cases.0 (IsUtf8-from_ascii c.args.digits.now c.requires)
