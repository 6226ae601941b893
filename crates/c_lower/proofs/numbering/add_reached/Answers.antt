use Rattle.std.proofs.Common.{ap, sym, ◌∙◌, Bool, List, false}
use Rattle.std.specs.Prelude.{slice_index_or, if◌then◌else◌}
use Rattle.lowered_graphs.specs.GraphOf as spec
use Rattle.c_lower.proofs.numbering.add_reached.Goals as goal

pub returns-in_ok-add_function : goal.returns-in_ok-add_function
returns-in_ok-add_function c = c.in_ok-add_function.ensures
    ∙ sym (ap (λ (b : Bool). if b then spec.add_function c.args.p.now c.args.n c.args.f.now c.args.m.now else c.args.m.now)
    (ap (λ (ms : List Bool). slice_index_or ms c.args.n false) (sym c.requires) ∙ (sym c.is_marked.ensures ∙ c.if-is_marked.true)))

pub returns-else-is_marked : goal.returns-else-is_marked
returns-else-is_marked c = sym (ap (λ (b : Bool). if b then spec.add_function c.args.p.now c.args.n c.args.f.now c.args.m.now else c.args.m.now)
    (ap (λ (ms : List Bool). slice_index_or ms c.args.n false) (sym c.requires) ∙ (sym c.is_marked.ensures ∙ c.if-is_marked.false)))
