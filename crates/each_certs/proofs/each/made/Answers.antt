use Rattle.std.proofs.Common.{◌≡◌, ◌+◌, sym, ap, ◌∙◌, arith}
use Rattle.std.specs.Prelude.{◌&&◌, nat_le}
use Rattle.std.proofs.lemmas.Result.{IfOk-weaker}
use Rattle.certificate.specs.Whole.{certificate_of}
use Rattle.flow_graph.specs.Nodes.{around_body, laid_items, nodes_of}
use Rattle.graph_code.specs.Heads.{are_straight}
use Rattle.op_cost.specs.Weights.{overhead}
use Rattle.emit_templates.specs.Placed.{home_in}
use Rattle.each_image.specs.Each.{all_weights}
use Rattle.emit_each.specs.Parts.{addresses_from}
use Rattle.cert_templates.specs.Frames as frames
use Rattle.cert_images.specs.Images.{each_certificate}
use Rattle.emit_certs.specs.Standing.{head_in, still}
use Rattle.each_certs.proofs.Matching.{IsMade, has_room, have_homes, made_is}
use Rattle.each_certs.proofs.each.made.Goals as goal

pub certificate_of-requires-clause-have : goal.certificate_of-requires-clause-have
certificate_of-requires-clause-have c =
    let m : IsMade c.args.b.now c.args.g.now c.main_of-main.result.now c.deref-2.result.now c.in_ok-places.places.of.items c.deref-3.result.now = record {
      rules = c.requires.rules;
      few = c.requires.objects;
      room = c.requires.room;
      alone = c.main_of-main.ensures;
      nodes_are = c.deref-2.ensures.value ∙ c.in_ok-nodes.ensures ∙ ap (λ xs. nodes_of (laid_items xs) around_body) c.as_slice.ensures;
      places_are = c.in_ok-places.ensures ∙ ap (λ xs. addresses_from 0x4400 xs) c.as_slice-2.ensures;
      one = c.is_one_stretch.result;
      one_is = c.is_one_stretch.ensures ∙ ap (λ xs. are_straight c.main_of-main.result.now.body && nat_le (all_weights c.args.b.now xs + overhead c.args.b.now) c.args.b.now.budget) (c.deref.ensures.value ∙ sym c.deref-2.ensures.value);
      heads_are = λ n low. ap (λ hs. head_in hs n) c.deref-3.ensures.value ∙ c.in_ok-heads.ensures n (let count = c.len.ensures in let long = c.deref-2.ensures.len in omega (arith, low, count, long));
    } in
    have_homes c.args.b.now c.args.g.now c.main_of-main.result.now c.deref-2.result.now c.in_ok-places.places.of.items c.deref-3.result.now m

pub certificate_of-requires-clause-room : goal.certificate_of-requires-clause-room
certificate_of-requires-clause-room c =
    let m : IsMade c.args.b.now c.args.g.now c.main_of-main.result.now c.deref-2.result.now c.in_ok-places.places.of.items c.deref-3.result.now = record {
      rules = c.requires.rules;
      few = c.requires.objects;
      room = c.requires.room;
      alone = c.main_of-main.ensures;
      nodes_are = c.deref-2.ensures.value ∙ c.in_ok-nodes.ensures ∙ ap (λ xs. nodes_of (laid_items xs) around_body) c.as_slice.ensures;
      places_are = c.in_ok-places.ensures ∙ ap (λ xs. addresses_from 0x4400 xs) c.as_slice-2.ensures;
      one = c.is_one_stretch.result;
      one_is = c.is_one_stretch.ensures ∙ ap (λ xs. are_straight c.main_of-main.result.now.body && nat_le (all_weights c.args.b.now xs + overhead c.args.b.now) c.args.b.now.budget) (c.deref.ensures.value ∙ sym c.deref-2.ensures.value);
      heads_are = λ n low. ap (λ hs. head_in hs n) c.deref-3.ensures.value ∙ c.in_ok-heads.ensures n (let count = c.len.ensures in let long = c.deref-2.ensures.len in omega (arith, low, count, long));
    } in
    has_room c.args.b.now c.args.g.now c.main_of-main.result.now c.deref-2.result.now c.in_ok-places.places.of.items c.deref-3.result.now m

pub returns : goal.returns
returns c =
    let m : IsMade c.args.b.now c.args.g.now c.main_of-main.result.now c.deref-2.result.now c.in_ok-places.places.of.items c.deref-3.result.now = record {
      rules = c.requires.rules;
      few = c.requires.objects;
      room = c.requires.room;
      alone = c.main_of-main.ensures;
      nodes_are = c.deref-2.ensures.value ∙ c.in_ok-nodes.ensures ∙ ap (λ xs. nodes_of (laid_items xs) around_body) c.as_slice.ensures;
      places_are = c.in_ok-places.ensures ∙ ap (λ xs. addresses_from 0x4400 xs) c.as_slice-2.ensures;
      one = c.is_one_stretch.result;
      one_is = c.is_one_stretch.ensures ∙ ap (λ xs. are_straight c.main_of-main.result.now.body && nat_le (all_weights c.args.b.now xs + overhead c.args.b.now) c.args.b.now.budget) (c.deref.ensures.value ∙ sym c.deref-2.ensures.value);
      heads_are = λ n low. ap (λ hs. head_in hs n) c.deref-3.ensures.value ∙ c.in_ok-heads.ensures n (let count = c.len.ensures in let long = c.deref-2.ensures.len in omega (arith, low, count, long));
    } in
    IfOk-weaker c.certificate_of.result
    (λ x. certificate_of x ≡ frames.certificate_of c.args.b.now (home_in c.in_ok-places.places.of.items) (still (head_in c.deref-3.result.now) c.deref-2.result.now))
    (λ x. certificate_of x ≡ each_certificate c.args.b.now c.args.g.now)
    (λ x e. e ∙ made_is c.args.b.now c.args.g.now c.main_of-main.result.now c.deref-2.result.now c.in_ok-places.places.of.items c.deref-3.result.now m) c.certificate_of.ensures
