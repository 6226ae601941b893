use Rattle.std.proofs.Common.{◌≡◌, ◌∙◌, ◌≤◌, ◌++◌, ℕ, Ok, [], refl, ap, subst, arith}
use Rattle.base_io.specs.Counts.{Rose}
use Rattle.msp430_machine.specs.Views.{state_of}
use Rattle.supply_trace.specs.Boxes.{all_rows}
use Rattle.supplied_run.specs.declared.turn.Turn.TheVariants.{Stops}
use Rattle.supplied_run.specs.Lines.{word_lines}
use Rattle.supplied_run.specs.Shown.{FrontCounts}
use Rattle.supplied_run.specs.Turns.{TurnCounts, words_of}
use Rattle.supplied_run.proofs.Boxes.{left_as, left_on, same_boxes}
use Rattle.supplied_run.proofs.Telling.{added_all, added_none, end_counts, lines_more, on_counts, on_then, shows_cut, shows_stopped, shows_whole, stands_first, stands_last, stop_least}
use Rattle.supplied_run.proofs.running.run.Goals as goal

pub loop-end-init : goal.loop-end-init
loop-end-init g c =
    let none : c.args.core.counts.charges ≡ 0 = ap (λ k. k.charges) c.requires.fresh in
    let nothing : c.args.core.counts.instructions ≡ 0 = ap (λ k. k.instructions) c.requires.fresh in
    record {
      put = [];
      stands = stands_first c.args.board.now c.args.input.now c.args.steps (all_rows (λ b. (goal.Supply-dyn g (b.vtable, b.value)).rows_left b.value) c.args.bench.now.boxes.items) c.args.core c.requires.fresh;
      told = added_none (g.K.Sink.taken c.args.sink.now);
      running = c.requires.running;
      charges = omega (arith, none);
      within = omega (arith, nothing);
      boxes = same_boxes (λ b. (goal.Supply-dyn g (b.vtable, b.value)).supply_faults b.value) c.args.bench.now.boxes.items;
      faults = refl;
    }

pub returns-in-Ok : goal.returns-in-Ok
returns-in-Ok g c =
    let rows = all_rows (λ b. (goal.Supply-dyn g (b.vtable, b.value)).rows_left b.value) c.args.bench.now.boxes.items in
    let at = stands_last c.args.board.now c.args.input.now c.args.steps (state_of c.args.core.machine) rows (all_rows (λ b. (goal.Supply-dyn g (b.vtable, b.value)).rows_left b.value) c.loop-end.bench.boxes.items) (all_rows (λ b. (goal.Supply-dyn g (b.vtable, b.value)).rows_left b.value) c.take_turn-turn.new.bench.boxes.items) c.loop-end.invariant.put c.in-Stops.end c.loop-end.core c.take_turn-turn.new.core c.in-Stops.ensures.turns c.loop-end.invariant.stands in
    record {
      shown = shows_whole c.args.board.now c.args.input.now c.args.steps (state_of c.args.core.machine) rows (all_rows (λ b. (goal.Supply-dyn g (b.vtable, b.value)).rows_left b.value) c.take_turn-turn.new.bench.boxes.items) c.loop-end.invariant.put c.take_turn-turn.new.core c.in-Stops.end c.in-Ok.field-0
          (g.K.Sink.taken c.args.sink.now) (g.K.Sink.taken c.loop-end.sink) (g.K.Sink.taken c.finish.new.sink) at c.in-Stops.ensures.turns.behind c.loop-end.invariant.told c.in-Ok.ensures.told;
      boxes = left_as (λ b. (goal.Supply-dyn g (b.vtable, b.value)).supply_faults b.value) (TurnCounts (Stops c.in-Stops.end)) (FrontCounts (Ok c.in-Stops.end)) (end_counts c.in-Stops.end) c.args.bench.now.boxes.items c.take_turn-turn.new.bench.boxes.items
          (left_on (λ b. (goal.Supply-dyn g (b.vtable, b.value)).supply_faults b.value) (TurnCounts (Stops c.in-Stops.end)) c.args.bench.now.boxes.items c.loop-end.bench.boxes.items c.take_turn-turn.new.bench.boxes.items c.loop-end.invariant.boxes c.in-Stops.ensures.boxes);
      cause = c.in-Ok.ensures.cause ∙ c.loop-end.invariant.faults;
    }

pub returns-in-Err : goal.returns-in-Err
returns-in-Err g c =
    let rows = all_rows (λ b. (goal.Supply-dyn g (b.vtable, b.value)).rows_left b.value) c.args.bench.now.boxes.items in
    let at = stands_last c.args.board.now c.args.input.now c.args.steps (state_of c.args.core.machine) rows (all_rows (λ b. (goal.Supply-dyn g (b.vtable, b.value)).rows_left b.value) c.loop-end.bench.boxes.items) (all_rows (λ b. (goal.Supply-dyn g (b.vtable, b.value)).rows_left b.value) c.take_turn-turn.new.bench.boxes.items) c.loop-end.invariant.put c.in-Stops.end c.loop-end.core c.take_turn-turn.new.core c.in-Stops.ensures.turns c.loop-end.invariant.stands in
    record {
      shown = shows_stopped (Unit {0}) c.args.board.now c.args.input.now c.args.steps (state_of c.args.core.machine) rows (all_rows (λ b. (goal.Supply-dyn g (b.vtable, b.value)).rows_left b.value) c.take_turn-turn.new.bench.boxes.items) c.loop-end.invariant.put c.take_turn-turn.new.core c.in-Stops.end c.in-Err.fault
          (g.K.Sink.taken c.args.sink.now) (g.K.Sink.taken c.loop-end.sink) (g.K.Sink.taken c.finish.new.sink) at c.in-Stops.ensures.turns.behind c.loop-end.invariant.told c.in-Err.ensures.told;
      boxes = left_as (λ b. (goal.Supply-dyn g (b.vtable, b.value)).supply_faults b.value) (TurnCounts (Stops c.in-Stops.end)) (λ x y. x ≤ y) (stop_least c.in-Stops.end) c.args.bench.now.boxes.items c.take_turn-turn.new.bench.boxes.items
          (left_on (λ b. (goal.Supply-dyn g (b.vtable, b.value)).supply_faults b.value) (TurnCounts (Stops c.in-Stops.end)) c.args.bench.now.boxes.items c.loop-end.bench.boxes.items c.take_turn-turn.new.bench.boxes.items c.loop-end.invariant.boxes c.in-Stops.ensures.boxes);
      cause = subst (λ (n : ℕ). (n ≤ g.K.Sink.faults c.finish.new.sink) × Rose n (g.K.Sink.faults c.finish.new.sink)) c.loop-end.invariant.faults c.in-Err.ensures.cause;
    }

pub loop-end-preserved : goal.loop-end-preserved
loop-end-preserved g c =
    let turns = c.take_turn-turn.ensures.turns in
    record {
      put = c.loop-end.invariant.put ++ words_of c.take_turn-turn.result;
      stands = turns.goes (state_of c.args.core.machine) (all_rows (λ b. (goal.Supply-dyn g (b.vtable, b.value)).rows_left b.value) c.args.bench.now.boxes.items) c.loop-end.invariant.put c.loop-end.invariant.stands;
      told = added_all (word_lines c.loop-end.invariant.put) (word_lines (words_of c.take_turn-turn.result)) (word_lines (c.loop-end.invariant.put ++ words_of c.take_turn-turn.result)) c.in-Ok-put_turn.field-0
          (g.K.Sink.taken c.args.sink.now) (g.K.Sink.taken c.loop-end.sink) (g.K.Sink.taken c.put_turn.new.sink) c.loop-end.invariant.told c.in-Ok-put_turn.ensures.told (lines_more c.loop-end.invariant.put (words_of c.take_turn-turn.result));
      running = (on_then c.args.steps c.take_turn-turn.result (all_rows (λ b. (goal.Supply-dyn g (b.vtable, b.value)).rows_left b.value) c.loop-end.bench.boxes.items) (all_rows (λ b. (goal.Supply-dyn g (b.vtable, b.value)).rows_left b.value) c.take_turn-turn.new.bench.boxes.items) c.loop-end.core c.take_turn-turn.new.core c.in_default.not-Stops turns.behind).0;
      charges = turns.charges ∙ c.loop-end.invariant.charges;
      within = turns.within;
      boxes = left_as (λ b. (goal.Supply-dyn g (b.vtable, b.value)).supply_faults b.value) (TurnCounts c.take_turn-turn.result) (λ x y. y ≡ x) (on_counts c.take_turn-turn.result c.in_default.not-Stops) c.args.bench.now.boxes.items c.take_turn-turn.new.bench.boxes.items
          (left_on (λ b. (goal.Supply-dyn g (b.vtable, b.value)).supply_faults b.value) (TurnCounts c.take_turn-turn.result) c.args.bench.now.boxes.items c.loop-end.bench.boxes.items c.take_turn-turn.new.bench.boxes.items c.loop-end.invariant.boxes c.take_turn-turn.ensures.boxes);
      faults = c.in-Ok-put_turn.ensures.cause ∙ c.loop-end.invariant.faults;
    }

pub loop-end-smaller : goal.loop-end-smaller
loop-end-smaller g c =
    (on_then c.args.steps c.take_turn-turn.result (all_rows (λ b. (goal.Supply-dyn g (b.vtable, b.value)).rows_left b.value) c.loop-end.bench.boxes.items) (all_rows (λ b. (goal.Supply-dyn g (b.vtable, b.value)).rows_left b.value) c.take_turn-turn.new.bench.boxes.items) c.loop-end.core c.take_turn-turn.new.core c.in_default.not-Stops c.take_turn-turn.ensures.turns.behind).1

pub returns-in-Err-put_turn : goal.returns-in-Err-put_turn
returns-in-Err-put_turn g c =
    let turns = c.take_turn-turn.ensures.turns in
    let rows = all_rows (λ b. (goal.Supply-dyn g (b.vtable, b.value)).rows_left b.value) c.args.bench.now.boxes.items in
    record {
      shown = shows_cut (Unit {0}) c.args.board.now c.args.input.now c.args.steps (state_of c.args.core.machine) rows (all_rows (λ b. (goal.Supply-dyn g (b.vtable, b.value)).rows_left b.value) c.take_turn-turn.new.bench.boxes.items) c.loop-end.invariant.put (words_of c.take_turn-turn.result) c.take_turn-turn.new.core c.in-Err-put_turn.fault
          (g.K.Sink.taken c.args.sink.now) (g.K.Sink.taken c.loop-end.sink) (g.K.Sink.taken c.put_turn.new.sink) (turns.goes (state_of c.args.core.machine) rows c.loop-end.invariant.put c.loop-end.invariant.stands) c.loop-end.invariant.told c.in-Err-put_turn.ensures.told;
      boxes = left_as (λ b. (goal.Supply-dyn g (b.vtable, b.value)).supply_faults b.value) (TurnCounts c.take_turn-turn.result) (λ x y. x ≤ y) (λ x y h. let e = on_counts c.take_turn-turn.result c.in_default.not-Stops x y h in omega (arith, e)) c.args.bench.now.boxes.items c.take_turn-turn.new.bench.boxes.items
          (left_on (λ b. (goal.Supply-dyn g (b.vtable, b.value)).supply_faults b.value) (TurnCounts c.take_turn-turn.result) c.args.bench.now.boxes.items c.loop-end.bench.boxes.items c.take_turn-turn.new.bench.boxes.items c.loop-end.invariant.boxes c.take_turn-turn.ensures.boxes);
      cause = subst (λ (n : ℕ). (n ≤ g.K.Sink.faults c.put_turn.new.sink) × Rose n (g.K.Sink.faults c.put_turn.new.sink)) c.loop-end.invariant.faults c.in-Err-put_turn.ensures.cause;
    }
