use Rattle.std.proofs.Common.{◌+◌, refl, arith}
use Rattle.graph_code.specs.Pieces.{pieces_by}
use Rattle.emit_each.specs.Parts.{address_in, head_in, placed_template}
use Rattle.emit_each.proofs.Laying.{Appended, appended_bytes, appended_end, end_low, rest_allowed, rest_have}
use Rattle.emit_each.proofs.operations.put_operations.Goals as goal

pub put_head-requires : goal.put_head-requires
put_head-requires c =
    let low = end_low c.loop-node.at (pieces_by (placed_template c.args.places.now.of.items) (head_in c.args.heads.now) (address_in c.args.starts.now.of.items c.args.starts.now.end) c.loop-node.left.now) in
    let last = c.loop-node.invariant.last in
    let room = c.requires.room in
    omega (arith, low, last, room)

pub overflow_add-at-in-Some : goal.overflow_add-at-in-Some
overflow_add-at-in-Some c =
    let low = end_low c.loop-node.at (pieces_by (placed_template c.args.places.now.of.items) (head_in c.args.heads.now) (address_in c.args.starts.now.of.items c.args.starts.now.end) c.loop-node.left.now) in
    let last = c.loop-node.invariant.last in
    let room = c.requires.room in
    let small = c.in_ok-words.ensures.small in
    omega (arith, low, last, room, small)

pub loop-node-preserved : goal.loop-node-preserved
loop-node-preserved c =
    let t = placed_template c.args.places.now.of.items in
    let heads = head_in c.args.heads.now in
    let address = address_in c.args.starts.now.of.items c.args.starts.now.end in
    let x = c.in-Some.node.now in
    let left = c.loop-node.left.now in
    let rest = c.in-Some.rest.now in
    let added : Appended (placed_template c.args.places.now.of.items) (head_in c.args.heads.now) (address_in c.args.starts.now.of.items c.args.starts.now.end) c.in-Some.node.now c.loop-node.at (c.head_size.result + c.in_ok-words.words) c.loop-node.to.items c.put_operation.new.to.items = record {
      has = c.head_in-has.result;
      jump = c.jumps_to.result;
      target = c.address_of-target.result;
      first = c.put_head.new.to.items;
      head_words = c.head_size.result;
      words = c.in_ok-words.words;
      has_is = c.head_in-has.ensures;
      jump_is = c.jumps_to.ensures;
      target_is = c.address_of-target.ensures;
      first_is = c.in_ok-put_head.ensures;
      second_is = c.in_ok-words.ensures.bytes;
      head_words_are = c.head_size.ensures.words;
      words_are = c.in_ok-words.ensures.words;
      sum_is = refl;
    } in
    record {
      listed = appended_bytes t heads address x left rest c.loop-node.at (c.head_size.result + c.in_ok-words.words) c.loop-node.to.items c.put_operation.new.to.items c.in-Some.ensures added _ c.loop-node.invariant.listed;
      last = appended_end t heads address x left rest c.loop-node.at (c.head_size.result + c.in_ok-words.words) c.loop-node.to.items c.put_operation.new.to.items c.in-Some.ensures added _ c.loop-node.invariant.last;
      have = (rest_have c.args.places.now.of.items x left rest c.in-Some.ensures c.loop-node.invariant.have).1;
      allowed = (rest_allowed t address x left rest c.in-Some.ensures c.loop-node.invariant.allowed).1;
    }
