use Rattle.std.proofs.Common.{◌≡◌, ◌+◌, ◌^◌, arith}
use Rattle.home_planner.specs.Pairs.{shifted_of}
use Rattle.home_planner.proofs.Extending.{falls_same, small_same}
use Rattle.home_planner.proofs.layers.extended.Goals as goal

pub merged-requires-clause-left : goal.merged-requires-clause-left
merged-requires-clause-left c =
    let e : c.deref.result.now ≡ shifted_of 0 c.args.gain.now.fram c.args.room c.args.pairs.now = cc (c.in_ok-without.ensures) in
    falls_same c.deref.result.now 0 c.args.gain.now.fram c.args.room c.args.pairs.now e c.requires.falls

pub merged-requires-clause-right : goal.merged-requires-clause-right
merged-requires-clause-right c =
    let e : c.deref-2.result.now ≡ shifted_of c.args.gain.now.words c.args.gain.now.sram c.args.room c.args.pairs.now = cc (c.in_ok-with.ensures) in
    falls_same c.deref-2.result.now c.args.gain.now.words c.args.gain.now.sram c.args.room c.args.pairs.now e c.requires.falls

pub merged-requires-clause-left_small : goal.merged-requires-clause-left_small
merged-requires-clause-left_small c =
    let e : c.deref.result.now ≡ shifted_of 0 c.args.gain.now.fram c.args.room c.args.pairs.now = cc (c.in_ok-without.ensures) in
    small_same c.deref.result.now 0 c.args.gain.now.fram (c.args.gain.now.fram + c.args.gain.now.sram) c.args.room (2 ^ 63) c.args.pairs.now e c.requires.small (omega arith)

pub merged-requires-clause-right_small : goal.merged-requires-clause-right_small
merged-requires-clause-right_small c =
    let e : c.deref-2.result.now ≡ shifted_of c.args.gain.now.words c.args.gain.now.sram c.args.room c.args.pairs.now = cc (c.in_ok-with.ensures) in
    small_same c.deref-2.result.now c.args.gain.now.words c.args.gain.now.sram (c.args.gain.now.fram + c.args.gain.now.sram) c.args.room (2 ^ 63) c.args.pairs.now e c.requires.small (omega arith)
