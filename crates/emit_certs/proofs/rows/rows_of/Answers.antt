use Rattle.std.proofs.Common.{◌+◌, ◌*◌, length, map, ap, subst, arith}
use Rattle.certificate.specs.Rows.{point_of}
use Rattle.emit_templates.specs.Placed.{home_in}
use Rattle.emit_certs.specs.Standing.{HaveHomes}
use Rattle.emit_certs.proofs.Stepping.{points_after, room_after, rows_after}
use Rattle.emit_certs.proofs.rows.rows_of.Goals as goal

pub loop-node-preserved : goal.loop-node-preserved
loop-node-preserved c =
    let homes = home_in c.args.places.now.of.items in
    record {
      rows = rows_after c.args.b.now homes c.args.heads.now c.in-Some.node.now c.loop-node.left.now c.in-Some.rest.now c.in-Some.ensures c.head_in-has.result c.head_in-has.ensures c.loop-node.s c.in_ok-s.s c.in_ok-s.ensures.behind
          c.loop-node.stretches.items c.put_position.new.stretches.items _ c.in_ok-s.ensures.rows c.loop-node.invariant.rows;
      points = points_after c.args.b.now homes c.args.heads.now c.in-Some.node.now c.loop-node.left.now c.in-Some.rest.now c.in-Some.ensures c.head_in-has.result c.head_in-has.ensures c.loop-node.s c.in_ok-s.s c.in_ok-s.ensures.behind
          (map point_of c.loop-node.points.items) (map point_of c.put_position.new.points.items) _ c.in_ok-s.ensures.points c.loop-node.invariant.points;
      room = room_after c.args.b.now homes c.args.heads.now c.in-Some.node.now c.loop-node.left.now c.in-Some.rest.now c.in-Some.ensures c.head_in-has.result c.head_in-has.ensures c.loop-node.s c.in_ok-s.s c.in_ok-s.ensures.behind
          _ c.loop-node.invariant.room;
      low = (let long = ap (λ l. length l) c.in-Some.ensures in let small = c.in_ok-s.ensures.small in let low = c.loop-node.invariant.low in omega (arith, long, small, low));
      have = (subst (λ xs. HaveHomes c.args.places.now.of.items xs) c.in-Some.ensures c.loop-node.invariant.have).1;
    }
