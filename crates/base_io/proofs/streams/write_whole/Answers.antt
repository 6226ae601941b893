use Rattle.std.proofs.Common.{◌∙◌, ap, ℕ, List, Bor}
use Rattle.base_io.proofs.StreamLemmas.{front_more, appends_kept}
use Rattle.base_io.proofs.streams.write_whole.Goals as goal
use Rattle.base_io.proofs.streams.write_whole.Goals.{in-Ok, in-Err}

pub returns-in-Ok-eq0 : goal.returns-in-Ok-eq0
returns-in-Ok-eq0 g c =
    let (n, le, is, front) = c.loop.invariant in
    let wrote = rw c.in-Ok-eq0.is at c.write.ensures in
    let (m, fits, _, all) = front_more _ _ n c.in-Ok-eq0.field-0 _ _ _ le is wrote.bound front wrote.bytes in
    (m, fits, all)

pub loop-preserved : goal.loop-preserved
loop-preserved g c =
    let (n, le, is, front) = c.loop.invariant in
    elim c.match-write.branch [
      | in-Ok w ↦
          let (m, fits, left, all) = front_more _ _ n w.in-Ok.count _ _ _ le is w.in-Ok.ensures.bound front w.in-Ok.ensures.bytes in
          (m, fits, ap (λ (r : Bor (List ℕ)). r.now) w.rest-is ∙ left, all)
      | in-Err w ↦ (n, le, ap (λ (r : Bor (List ℕ)). r.now) w.rest-is ∙ is, appends_kept _ _ _ _ front w.in-Err.ensures.bytes)
    ]
