use Rattle.std.proofs.Common.{◌≡◌, ◌+◌, [], sym, subst, arith}
use Rattle.ti_txt.specs.Image.{IsImage}
use Rattle.ti_txt.proofs.Swept.{Mapped, ascends, mapped}
use Rattle.ti_txt.proofs.sweep.image_of.Goals as goal

pub invariant_of-result : goal.invariant_of-result
invariant_of-result c = record {
  ordered = subst IsImage (sym c.in_ok-segments.ensures)
      (ascends c.args.cells.now 0 0 0 [] (omega arith) (omega arith, λ none. absurd (omega (arith, none)))
      (λ k some. let e : k ≡ 0 + k = omega arith in subst Mapped e (mapped k (c.requires.mapped k some))));
}
