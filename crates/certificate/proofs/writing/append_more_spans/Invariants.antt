use Rattle.std.proofs.Common.{◌≡◌, ◌++◌, drop, List, ℕ, map}
use Rattle.certificate.specs.Appending.{more_parts}
use Rattle.certificate.specs.Spelling.{span_text}
use Rattle.certificate.proofs.writing.append_more_spans.Given as goal

-- what was appended, and what is left to append
abbrev pub invariant-loop-span : goal.invariant-loop-span
invariant-loop-span l = (done : List ℕ) × (l.to.items ≡ l.fn.to.items ++ done) × (done ++ more_parts (map span_text (drop l.span-index l.spans)) ≡ more_parts (map span_text l.spans))
