use Rattle.std.proofs.Common.{◌∙◌, ap, sym, rules}
use Rattle.job_parts.specs.Words.{is_decimal}
use Rattle.job_parts.proofs.Digits.{too_big}
use Rattle.job_parts.proofs.decimal.number_in.Goals as goal

pub returns-in-Err-clause-value : goal.returns-in-Err-clause-value
returns-in-Err-clause-value c =
    too_big c.args.text.now c.args.least c.args.most (ap is_decimal (sym c.as_bytes.ensures.value) ∙ sym c.if-not-is_decimal.ensures) c.in-Err.ensures.value.0 (search rules)
