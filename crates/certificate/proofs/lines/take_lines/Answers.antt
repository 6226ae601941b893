use Rattle.std.proofs.Common.{◌≡◌, ◌∙◌, ◌∷◌, ◌+◌, None, length, sym, arith, rules}
use Rattle.certificate.specs.Fields.{parts_of}
use Rattle.certificate.specs.Reading.{read_line}
use Rattle.certificate.proofs.Passing.{bad_line, goes}
use Rattle.certificate.proofs.lines.take_lines.Goals as goal

pub returns-in-Err-Bad : goal.returns-in-Err-Bad
returns-in-Err-Bad c =
    let e : parts_of 10 c.loop-behind.rest.now ≡ c.cut.result.0.now ∷ parts_of 10 c.in-Some.behind.now = search rules in
    let none : read_line c.loop-behind.stage c.cut.result.0.now ≡ None = search rules in
    record { rows = sym c.loop-behind.invariant.2 ∙ bad_line c.loop-behind.stage c.loop-behind.at c.loop-behind.rest.now c.cut.result.0.now c.in-Some.behind.now e none; one_line = tt }

pub loop-behind-preserved : goal.loop-behind-preserved
loop-behind-preserved c =
    let e : parts_of 10 c.loop-behind.rest.now ≡ c.cut.result.0.now ∷ parts_of 10 c.in-Some.behind.now = search rules in
    let size : length c.cut.result.0.now + 1 + length c.in-Some.behind.now ≡ length c.loop-behind.rest.now = search rules in
    let g = goes c.loop-behind.stage c.in-Ok.next c.loop-behind.at c.loop-behind.rest.now c.cut.result.0.now c.in-Some.behind.now _ _ e c.in-Ok.ensures in
    (omega (arith, c.loop-behind.invariant.0, size), g.0 ∙ c.loop-behind.invariant.1, g.1 ∙ c.loop-behind.invariant.2)
