use Rattle.std.proofs.Common.{ap, sym, ◌∙◌, Bool, List, false}
use Rattle.std.specs.Prelude.{slice_index_or}
use Rattle.c_lower.proofs.BodyLemmas.{body_added, body_skipped}
use Rattle.c_lower.proofs.bodies.add_reached.Goals as goal

pub returns-in_ok-behind : goal.returns-in_ok-behind
returns-in_ok-behind c = body_added c.args.p.now c.args.homes.now c.args.n c.args.op c.in_ok-behind.behind c.args.f.now c.args.m.now c.add_body.new.m c.args.functions.now c.add_body.new.functions
    (ap (λ (ms : List Bool). slice_index_or ms c.args.n false) (sym c.requires) ∙ (sym c.is_marked.ensures ∙ c.if-is_marked.true))
    c.in_ok-behind.ensures.objects c.in_ok-behind.ensures.functions c.in_ok-behind.ensures.next

pub returns-else-is_marked : goal.returns-else-is_marked
returns-else-is_marked c = body_skipped c.args.p.now c.args.homes.now c.args.n c.args.op c.args.f.now c.args.m.now c.args.functions.now
    (ap (λ (ms : List Bool). slice_index_or ms c.args.n false) (sym c.requires) ∙ (sym c.is_marked.ensures ∙ c.if-is_marked.false))
