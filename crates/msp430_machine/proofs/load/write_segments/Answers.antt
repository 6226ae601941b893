use Rattle.std.proofs.Common.{◌≡◌, ◌+◌, ◌∷◌, drop, add-one, drop-cons, sym, ap, ◌∙◌, suc, rules}
use Rattle.msp430_machine.proofs.Loading.{Laid, laid_step}
use Rattle.msp430_machine.proofs.load.write_segments.Goals as goal

pub loop-segment-preserved : goal.loop-segment-preserved
loop-segment-preserved c =
    let segments = c.args.segments.now in
    let n = c.loop-segment.segment-index in
    let x = c.segment-item.result in
    let is : drop n segments ≡ x ∷ drop (n + 1) segments = rw add-one (drop-cons segments n x (search rules) ∙ ap (λ y. y ∷ drop (suc n) segments) (sym c.segment-item.is)) in
    let h : Laid c.loop-segment.bytes c.args.bytes.now segments (drop n segments) = (let i = c.loop-segment.invariant in record { long = i.0; ascend = i.1; over = i.2 }) in
    let l = laid_step _ c.write_segment.new.bytes c.args.bytes.now segments (drop n segments) (drop (n + 1) segments) x is h (search rules) c.write_segment.ensures in
    (l.long, l.ascend, l.over)
