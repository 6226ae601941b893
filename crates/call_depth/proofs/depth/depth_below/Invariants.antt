use Rattle.call_depth.specs.Levels.{IsLevel}
use Rattle.call_depth.proofs.depth.depth_below.Given as goal

-- those are marked that so many calls lead to
abbrev pub invariant-loop-depth : goal.invariant-loop-depth
invariant-loop-depth l = IsLevel l.operations l.count l.function l.depth l.level.items
