use Rattle.std.proofs.Common.{sym, ◌∙◌, subst, []}
use Rattle.std.proofs.lemmas.Result.{err_from_is_err_and, MatchResult-weaker}
use Rattle.ti_txt.specs.Grammar.{Holds}
use Rattle.ti_txt.specs.Spots.{Loaded}
use Rattle.ti_txt.specs.Sweep.{sweep}
use Rattle.std.proofs.Common.{length, ⊎_elim, ◌≡◌}
use Rattle.ti_txt.specs.declared.fault.TxtFault.TheVariants.{NoEnd}
use Rattle.ti_txt.proofs.Cut.{cut_off, front_of}
use Rattle.ti_txt.proofs.Loading.{cells_mapped, holds_no_fault, holds_one, loaded_holds, one_fault, only_memory}
use Rattle.ti_txt.proofs.reading.read.Goals as goal

pub returns-in_err-cells-clause-only_image : goal.returns-in_err-cells-clause-only_image
returns-in_err-cells-clause-only_image c = λ blocks h.
    let p = err_from_is_err_and c.from_residual.result c.from_residual.ensures.1 in
    rw (p.1, p.2) (only_memory c.args.bytes.now blocks c.in_err-cells.field-0.0 h c.in_err-cells.ensures.fault)

pub returns-in_err-cells-clause-only_fault : goal.returns-in_err-cells-clause-only_fault
returns-in_err-cells-clause-only_fault c = λ wanted h.
    let p = err_from_is_err_and c.from_residual.result c.from_residual.ensures.1 in
    rw (p.1, p.2) (λ some. one_fault c.args.bytes.now c.in_err-cells.field-0.0 wanted (c.in_err-cells.ensures.fault some) h)

pub image_of-requires-clause-mapped : goal.image_of-requires-clause-mapped
image_of-requires-clause-mapped c =
    cells_mapped c.args.bytes.now c.deref.result.now (subst (Loaded c.args.bytes.now) (sym c.deref.ensures.value) c.in_ok-cells.ensures.loaded)

pub returns-clause-holds : goal.returns-clause-holds
returns-clause-holds c =
    let loaded : Loaded c.args.bytes.now c.deref.result.now = subst (Loaded c.args.bytes.now) (sym c.deref.ensures.value) c.in_ok-cells.ensures.loaded in
    MatchResult-weaker c.image_of.result c.image_of.ensures (λ image e. subst (Holds c.args.bytes.now) (sym e) (loaded_holds c.args.bytes.now c.deref.result.now loaded)) (λ f e. tt)

pub returns-clause-only_image : goal.returns-clause-only_image
returns-clause-only_image c = λ blocks h.
    let loaded : Loaded c.args.bytes.now c.deref.result.now = subst (Loaded c.args.bytes.now) (sym c.deref.ensures.value) c.in_ok-cells.ensures.loaded in
    MatchResult-weaker c.image_of.result c.image_of.ensures
    (λ image e. e ∙ holds_one c.args.bytes.now (sweep 0 [] c.deref.result.now) blocks (loaded_holds c.args.bytes.now c.deref.result.now loaded) h) (λ f e. e)

pub returns-clause-only_fault : goal.returns-clause-only_fault
returns-clause-only_fault c = λ wanted h.
    let loaded : Loaded c.args.bytes.now c.deref.result.now = subst (Loaded c.args.bytes.now) (sym c.deref.ensures.value) c.in_ok-cells.ensures.loaded in
    absurd (holds_no_fault c.args.bytes.now (sweep 0 [] c.deref.result.now) wanted (loaded_holds c.args.bytes.now c.deref.result.now loaded) h)

pub returns-in_err-cells-clause-cut_off : goal.returns-in_err-cells-clause-cut_off
returns-in_err-cells-clause-cut_off c = λ rest more blocks h.
    let p = err_from_is_err_and c.from_residual.result c.from_residual.ensures.1 in
    rw (p.1, p.2) (λ some. one_fault c.args.bytes.now c.in_err-cells.field-0.0 (NoEnd (length c.args.bytes.now)) (c.in_err-cells.ensures.fault some) (cut_off c.args.bytes.now rest more blocks h))

pub returns-clause-cut_off : goal.returns-clause-cut_off
returns-clause-cut_off c = λ rest more blocks h.
    let loaded : Loaded c.args.bytes.now c.deref.result.now = subst (Loaded c.args.bytes.now) (sym c.deref.ensures.value) c.in_ok-cells.ensures.loaded in
    absurd (holds_no_fault c.args.bytes.now (sweep 0 [] c.deref.result.now) (NoEnd (length c.args.bytes.now)) (loaded_holds c.args.bytes.now c.deref.result.now loaded) (cut_off c.args.bytes.now rest more blocks h))

pub returns-in_err-cells-clause-front : goal.returns-in_err-cells-clause-front
returns-in_err-cells-clause-front c = λ more blocks h.
    let p = err_from_is_err_and c.from_residual.result c.from_residual.ensures.1 in
    rw (p.1, p.2) (λ some. ⊎_elim {C = c.in_err-cells.field-0.0 ≡ NoEnd (length c.args.bytes.now)}
    (λ own. absurd (holds_no_fault c.args.bytes.now blocks c.in_err-cells.field-0.0 own (c.in_err-cells.ensures.fault some)))
    (λ early. one_fault c.args.bytes.now c.in_err-cells.field-0.0 (NoEnd (length c.args.bytes.now)) (c.in_err-cells.ensures.fault some) early)
    (front_of c.args.bytes.now more blocks h))

pub returns-clause-front : goal.returns-clause-front
returns-clause-front c = λ more blocks h.
    let loaded : Loaded c.args.bytes.now c.deref.result.now = subst (Loaded c.args.bytes.now) (sym c.deref.ensures.value) c.in_ok-cells.ensures.loaded in
    let own : sweep 0 [] c.deref.result.now ≡ blocks = ⊎_elim
    (λ own. holds_one c.args.bytes.now (sweep 0 [] c.deref.result.now) blocks (loaded_holds c.args.bytes.now c.deref.result.now loaded) own)
    (λ early. absurd (holds_no_fault c.args.bytes.now (sweep 0 [] c.deref.result.now) (NoEnd (length c.args.bytes.now)) (loaded_holds c.args.bytes.now c.deref.result.now loaded) early))
    (front_of c.args.bytes.now more blocks h) in
    MatchResult-weaker c.image_of.result c.image_of.ensures (λ image e. e ∙ own) (λ f e some. absurd (some e))
