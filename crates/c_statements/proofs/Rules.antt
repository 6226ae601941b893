-- Trees of other rules than those that are asked for.
use Rattle.std.proofs.Common.{◌≡◌, ◌≢◌, false, Some, refl}
use Rattle.c_parse.specs.declared.raw.RawRule.{RawRule}
use Rattle.c_parse.specs.declared.raw.RawRule.TheVariants as rule
use Rattle.c_typing.specs.Statements.{is_declaration, is_block, is_label}

pub other_declaration : (r : RawRule) → r ≢ rule.Declaration → is_declaration (Some r) ≡ false
other_declaration rule.Declaration h = absurd (h refl)
other_declaration _ h = refl

pub other_block : (r : RawRule) → r ≢ rule.Block → is_block (Some r) ≡ false
other_block rule.Block h = absurd (h refl)
other_block _ h = refl

pub other_label : (r : RawRule) → r ≢ rule.Label → is_label (Some r) ≡ false
other_label rule.Label h = absurd (h refl)
other_label _ h = refl
