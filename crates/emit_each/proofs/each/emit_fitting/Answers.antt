use Rattle.std.proofs.Common.{◌+◌, ap, ◌∙◌, subst, arith}
use Rattle.std.specs.Prelude.{◌&&◌, nat_le}
use Rattle.flow_graph.specs.Nodes.{around_body, laid_items, nodes_of}
use Rattle.graph_code.specs.Heads.{are_straight}
use Rattle.op_cost.specs.Weights.{overhead}
use Rattle.each_image.specs.Each.{all_weights}
use Rattle.emit_each.specs.Emitting.{AllFit}
use Rattle.emit_each.specs.Parts.{head_in}
use Rattle.emit_each.proofs.Keeping.{Fitting, emitted_ok, refused_err}
use Rattle.emit_each.proofs.each.emit_fitting.Goals as goal

pub returns-clause-emitted : goal.returns-clause-emitted
returns-clause-emitted c =
    let f : Fitting c.args.b.now c.args.g.now c.main_of-main.result.now c.in-Ok.nodes.items (head_in c.deref-4.result.now) = record {
      rules = c.requires.rules;
      alone = c.main_of-main.ensures;
      nodes_are = c.in-Ok.ensures ∙ ap (λ xs. nodes_of (laid_items xs) around_body) c.as_slice.ensures;
      fits = subst (λ xs. AllFit c.args.b.now xs) c.deref.ensures.value c.in_default.ensures;
      objects = c.requires.room;
      one = c.is_one_stretch.result;
      one_is = c.is_one_stretch.ensures ∙ ap (λ xs. are_straight c.main_of-main.result.now.body && nat_le (all_weights c.args.b.now xs + overhead c.args.b.now) c.args.b.now.budget) c.deref-2.ensures.value;
      heads_are = λ n low. ap (λ hs. head_in hs n) c.deref-4.ensures.value ∙ c.in-Ok-heads_of.ensures n (let count = c.len.ensures in omega (arith, low, count));
    } in
    emitted_ok c.args.b.now c.args.g.now c.main_of-main.result.now c.in-Ok.nodes.items (head_in c.deref-4.result.now) f c.emit_with_heads.result c.emit_with_heads.ensures.laid

pub returns-clause-refused : goal.returns-clause-refused
returns-clause-refused c =
    let f : Fitting c.args.b.now c.args.g.now c.main_of-main.result.now c.in-Ok.nodes.items (head_in c.deref-4.result.now) = record {
      rules = c.requires.rules;
      alone = c.main_of-main.ensures;
      nodes_are = c.in-Ok.ensures ∙ ap (λ xs. nodes_of (laid_items xs) around_body) c.as_slice.ensures;
      fits = subst (λ xs. AllFit c.args.b.now xs) c.deref.ensures.value c.in_default.ensures;
      objects = c.requires.room;
      one = c.is_one_stretch.result;
      one_is = c.is_one_stretch.ensures ∙ ap (λ xs. are_straight c.main_of-main.result.now.body && nat_le (all_weights c.args.b.now xs + overhead c.args.b.now) c.args.b.now.budget) c.deref-2.ensures.value;
      heads_are = λ n low. ap (λ hs. head_in hs n) c.deref-4.ensures.value ∙ c.in-Ok-heads_of.ensures n (let count = c.len.ensures in omega (arith, low, count));
    } in
    refused_err c.args.b.now c.args.g.now c.main_of-main.result.now c.in-Ok.nodes.items (head_in c.deref-4.result.now) f c.emit_with_heads.result c.emit_with_heads.ensures.refused
