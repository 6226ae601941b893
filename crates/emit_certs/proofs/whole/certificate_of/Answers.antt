use Rattle.emit_templates.specs.Placed.{home_in}
use Rattle.emit_certs.specs.Standing.{head_in, still}
use Rattle.emit_certs.proofs.Joining.{few_still, fine_still, joined, ruled}
use Rattle.emit_certs.proofs.whole.certificate_of.Goals as goal

pub invariant_of-result : goal.invariant_of-result
invariant_of-result c =
    let homes = home_in c.args.places.now.of.items in
    let qs = still (head_in c.args.heads.now) c.args.nodes.now in
    record {
      ruled = ruled c.args.b.now homes qs c.in_ok-functions.functions.items c.in_ok-rows.rows.stretches.items c.in_ok-rows.rows.points.items c.in_ok-rows.rows.end
          c.in_ok-functions.ensures c.in_ok-rows.ensures.stretches c.in_ok-rows.ensures.points c.in_ok-rows.ensures.end
          (few_still (head_in c.args.heads.now) c.args.nodes.now c.requires.few) c.requires.room (fine_still (head_in c.args.heads.now) c.args.places.now.of.items c.args.nodes.now c.requires.have);
    }
