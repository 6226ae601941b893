use Rattle.std.proofs.Common.{ℕ, ap, ◌∙◌}
use Rattle.lowered_graphs.specs.Exprs.{length_or}
use Rattle.c_lower.specs.Beginning.{filled}
use Rattle.c_lower.proofs.BeginLemmas.{first_filled}
use Rattle.c_lower.proofs.numbering.first_words.Goals as goal

pub returns : goal.returns
returns c = c.in_ok-made.ensures ∙ (ap (λ (k : ℕ). filled k c.as_slice.result.now) c.length_of.ensures
    ∙ (ap (filled (length_or c.args.v.now.length)) c.as_slice.ensures ∙ first_filled c.args.v.now.length c.args.v.now.first))
